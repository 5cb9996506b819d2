-- Cited by public clauses: the certificates of the three goals of an output, where the candidate has
-- the only change. A goal that doesn't hold is a conjunction, which stands behind n facts. Of the
-- first two goals a part says that a value isn't equal to itself. Of the third the parts say that
-- values are equal and that they aren't.
use Rattle.std.specs.Prelude.{◌≡◌, ℕ, zero, suc, ◌+◌, ◌<◌, ◌^◌, List, [], ◌∷◌, ◌++◌}
use Rattle.sm_term.specs.Terms.{Tree}
use Rattle.sm_theory.specs.Lines.{Both, Sym, Close, Clash}
use Rattle.sm_cert.specs.Certificates.{Certificate, Next, Closed}
use Rattle.sm_cert.specs.NamedTerms.{EachTerm}
pub use Rattle.sm_sided.specs.declared.sided.Change.{Change}
pub use Rattle.sm_sided.specs.declared.sided.Change.TheVariants.{OfA, OfB, OfBoth}

-- the first part can't be
abbrev pub by_first : ℕ → Certificate
by_first n = Next (Both n) (Closed (Close (n + 1)))

-- the second part can't be
abbrev pub by_second : ℕ → Certificate
by_second n = Next (Both n) (Closed (Close (n + 2)))

-- the three parts, and then more
abbrev pub by_all : ℕ → Certificate → Certificate
by_all n c = Next (Both n) (Next (Both (n + 2)) c)

-- an equation and its contrary
abbrev pub by_clash : ℕ → Certificate
by_clash n = by_all n (Closed (Clash (n + 3) (n + 4)))

-- equation m turned round, and its contrary
abbrev pub by_turned : ℕ → ℕ → Certificate
by_turned n m = by_all n (Next (Sym m) (Closed (Clash (n + 5) (n + 4))))

-- the certificates of the three goals
abbrev pub certificates_of : Change → ℕ → List Certificate
certificates_of OfA n = by_second n ∷ by_first n ∷ by_clash n ∷ []
certificates_of OfB n = by_first n ∷ by_second n ∷ by_turned n (n + 3) ∷ []
certificates_of OfBoth n = by_second n ∷ by_second n ∷ by_turned n (n + 1) ∷ []

-- those of the goals of so many outputs
abbrev pub whole_certificates : Change → ℕ → ℕ → List Certificate
whole_certificates change n zero = []
whole_certificates change n (suc outputs) =
    certificates_of change n ++ whole_certificates change n outputs

-- these are certificates of the goals of so many outputs, with fewer than 2^62 facts before a goal
abbrev pub AreWhole : ℕ → List Certificate → Type 0
AreWhole outputs cs =
    (change : Change) × (n : ℕ) × (n < 2 ^ 62) × (cs ≡ whole_certificates change n outputs)

-- no line of a certificate names a term
abbrev pub NamesNoTerm : Certificate → Type 0
NamesNoTerm = EachTerm (λ (t : Tree). ⊥)
