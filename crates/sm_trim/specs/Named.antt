-- Cited by public clauses: what the lines of a certificate name, terms and numbers of facts.
use Rattle.std.specs.Prelude.{ℕ, ◌≤◌, ◌<◌, List, [], ◌∷◌, ◌++◌, length}
use Rattle.std.specs.List.{AllByRecursion}
use Rattle.sm_term.specs.Terms.{Tree}
use Rattle.sm_theory.specs.Lines.{CertificateLine}
use Rattle.sm_theory.specs.Named.{facts_named, terms_named}
use Rattle.sm_cert.specs.Certificates.{Certificate, Next, Closed, Split}

-- the terms that the lines of a certificate name
abbrev pub terms_in : Certificate → List Tree
terms_in (Next line c) = terms_named line ++ terms_in c
terms_in (Closed line) = terms_named line
terms_in (Split line c d) = terms_named line ++ (terms_in c ++ terms_in d)

-- a line names at most so many facts, all with numbers below a bound
abbrev pub NamesFew : ℕ → ℕ → CertificateLine → Type 0
NamesFew most bound line =
    (length (facts_named line) ≤ most) × AllByRecursion (λ (n : ℕ). n < bound) (facts_named line)

-- each line of a certificate does
abbrev pub EachNamesFew : ℕ → ℕ → Certificate → Type 0
EachNamesFew most bound (Next line c) = NamesFew most bound line × EachNamesFew most bound c
EachNamesFew most bound (Closed line) = NamesFew most bound line
EachNamesFew most bound (Split line c d) =
    NamesFew most bound line × EachNamesFew most bound c × EachNamesFew most bound d
