-- Cited by public clauses: certificates of what a plan asks, goal by goal.
use Rattle.std.specs.Prelude.{List, [], ◌∷◌, ◌++◌, map}
use Rattle.std.specs.List.{flat_map}
use Rattle.sm_syntax.specs.text.Sorts.{Sorts}
use Rattle.sm_term.specs.Assertions.{Assertion, negate}
use Rattle.sm_theory.specs.Facts.{as_facts}
use Rattle.sm_cert.specs.Certificates.{Certificate, Next, Closed, Split, Closes}
use Rattle.sm_cert.specs.MovedTrees.{NamesWhatItReads}
use Rattle.sm_cert.specs.NamedTerms.{EachTerm}
use Rattle.sm_plan.specs.Plans.{Due}
use Rattle.sm_solve.specs.Answers.{terms_walked}
use Rattle.sm_list.specs.Branches.{IsOneOf}
use Rattle.sm_theory.specs.Named.{facts_named}
use Rattle.sm_write.specs.Writable.{AreShortNumbers}

-- each goal of obligations, in order, with the facts over which it is asked
abbrev pub asked : List Due → List (List Assertion × Assertion)
asked ds = flat_map (λ (d : Due). map (λ (g : Assertion). (d.facts, g)) d.goals) ds

-- a certificate shows a goal over facts: it closes the branch of the facts and the goal's contrary,
-- and names only terms that are walked there
abbrev pub IsCertified : Sorts → List Assertion → Assertion → Certificate → Type 0
IsCertified sorts facts goal c =
    Closes sorts (as_facts (facts ++ negate goal ∷ [])) c
    × EachTerm (IsOneOf (terms_walked facts goal)) c

-- a goal over facts has a certificate that checks, without an exact line: one that closes the branch of
-- the facts and the goal's contrary
abbrev pub HasCertificate : Sorts → List Assertion → Assertion → Type 0
HasCertificate sorts facts goal =
    (c : Certificate) × Closes sorts (as_facts (facts ++ negate goal ∷ [])) c × NamesWhatItReads c

-- each goal has a certificate that shows it, in order
abbrev pub AreCertified : Sorts → List (List Assertion × Assertion) → List Certificate → Type 0
AreCertified sorts [] [] = Unit {0}
AreCertified sorts [] (c ∷ cs) = ⊥
AreCertified sorts (g ∷ gs) [] = ⊥
AreCertified sorts (g ∷ gs) (c ∷ cs) = IsCertified sorts g.0 g.1 c × AreCertified sorts gs cs

-- the numbers of facts that each line of a certificate names are short
abbrev pub NamesShort : Certificate → Type 0
NamesShort (Next line c) = AreShortNumbers (facts_named line) × NamesShort c
NamesShort (Closed line) = AreShortNumbers (facts_named line)
NamesShort (Split line c d) = AreShortNumbers (facts_named line) × NamesShort c × NamesShort d

-- the numbers of facts that each line of some certificates names are short
abbrev pub AllNameShort : List Certificate → Type 0
AllNameShort [] = Unit {0}
AllNameShort (c ∷ cs) = NamesShort c × AllNameShort cs
