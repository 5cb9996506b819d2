-- Cited by public clauses: the lines and facts that the program's own stand for, by the trees of a
-- table's numbers.
use Rattle.std.specs.Prelude.{◌≡◌, ℕ, ◌<◌, List, [], ◌∷◌, length, get_or, Option, Some, None}
use Rattle.sm_syntax.specs.text.Sorts.{Sorts}
use Rattle.sm_term.specs.Terms.{Tree}
use Rattle.sm_term.specs.Tables.{tree_at}
use Rattle.sm_term.specs.declared.term.TermId.{TermId}
use Rattle.sm_term.specs.Formulas.{numbered, assertion_in, IsFormulaWithin}
pub use Rattle.sm_theory.specs.declared.fact.Fact.{Fact}
use Rattle.sm_theory.specs.declared.fact.Fact.TheVariants as fact
pub use Rattle.sm_theory.specs.declared.line.CertLine.{CertLine}
use Rattle.sm_theory.specs.declared.line.CertLine.TheVariants as line
use Rattle.sm_theory.specs.Facts.{BranchFact, Formal, Sum}
use Rattle.sm_theory.specs.Lines.{CertificateLine, LineOver, Both, Either, Cases, Order, Refl, Sym, Trans, Subst, Cong, Same, Apart, Hit, Miss, Lin, Elim, Tight, Exact, Close, Clash}
use Rattle.sm_theory.specs.Named.{EachNamed, with_terms}
use Rattle.sm_theory.specs.Standing.{IsKeptFor}
pub use Rattle.sm_theory.specs.declared.fact.Fact.TheVariants.{Form}

-- a line of the program, by its numbers of terms and facts
abbrev pub numbered_line : CertLine → LineOver ℕ
numbered_line (line.Both n) = Both n
numbered_line (line.Either n) = Either n
numbered_line (line.Cases t u) = Cases t.0 u.0
numbered_line (line.Order n) = Order n
numbered_line (line.Refl t) = Refl t.0
numbered_line (line.Sym n) = Sym n
numbered_line (line.Trans m n) = Trans m n
numbered_line (line.Subst m n) = Subst m n
numbered_line (line.Cong t u ns) = Cong t.0 u.0 ns.list.items
numbered_line (line.Same t u) = Same t.0 u.0
numbered_line (line.Apart t u) = Apart t.0 u.0
numbered_line (line.Hit t n) = Hit t.0 n
numbered_line (line.Miss t u n) = Miss t.0 u.0 n
numbered_line (line.Lin n) = Lin n
numbered_line (line.Elim m n t) = Elim m n t.0
numbered_line (line.Tight n) = Tight n
numbered_line (line.Exact n) = Exact n
numbered_line (line.Close n) = Close n
numbered_line (line.Clash m n) = Clash m n

-- the number at a number's place in a list, the same number where there is none
abbrev pub number_under : List TermId → ℕ → ℕ
number_under numbers n = (get_or numbers n (record { 0 = n })).0

-- the line that a line of the program stands for
abbrev pub line_in : List Tree → CertLine → CertificateLine
line_in trees l = with_terms (tree_at trees) (numbered_line l)

-- the terms that a line names are in a table of `count` terms
abbrev pub IsLineWithin : ℕ → CertLine → Type 0
IsLineWithin count l = EachNamed (λ (n : ℕ). n < count) (numbered_line l)

-- a fact of the program stands for a fact: a formula for its assertion, a form for one with the same
-- coefficients; its terms are in the table
abbrev pub FactStands : Sorts → List Tree → Fact → BranchFact → Type 0
FactStands sorts trees (fact.Form f) (Formal g) =
    IsFormulaWithin (length trees) (numbered f) × (assertion_in sorts trees (numbered f) ≡ g)
FactStands sorts trees (fact.Form f) (Sum g) = ⊥
FactStands sorts trees (fact.Lin f) (Formal g) = ⊥
FactStands sorts trees (fact.Lin f) (Sum g) = IsKeptFor trees f g

-- each fact of a branch stands for the fact at its place
abbrev pub AllStand : Sorts → List Tree → List Fact → List BranchFact → Type 0
AllStand sorts trees [] [] = Unit {0}
AllStand sorts trees [] (k ∷ ks) = ⊥
AllStand sorts trees (f ∷ fs) [] = ⊥
AllStand sorts trees (f ∷ fs) (k ∷ ks) = FactStands sorts trees f k × AllStand sorts trees fs ks

-- a fact or none, both alike
abbrev pub StandsIf : Sorts → List Tree → Option Fact → Option BranchFact → Type 0
StandsIf sorts trees None None = Unit {0}
StandsIf sorts trees None (Some k) = ⊥
StandsIf sorts trees (Some f) None = ⊥
StandsIf sorts trees (Some f) (Some k) = FactStands sorts trees f k
