-- Cited by public clauses: what the answer to an obligation says.
use Rattle.std.specs.Prelude.{◌≡◌, ℕ, None, List, [], ◌∷◌, ◌++◌, length}
use Rattle.sm_syntax.specs.text.Sorts.{Sorts}
use Rattle.sm_term.specs.Terms.{Tree}
use Rattle.sm_term.specs.Assertions.{Assertion, negate}
use Rattle.sm_theory.specs.Facts.{as_facts}
use Rattle.sm_theory.specs.Ways.{adds}
use Rattle.sm_cert.specs.Certificates.{refused}
use Rattle.sm_cert.specs.NamedTerms.{EachTerm}
use Rattle.sm_cert.specs.Views.{certificate_in, lines_of, AreLinesWithin}
use Rattle.sm_solve.specs.declared.solving.Answer.{Answer}
use Rattle.sm_solve.specs.declared.solving.Answer.TheVariants as answer
use Rattle.sm_list.specs.Branches.{with_parts, terms_of, IsOneOf}
use Rattle.sm_list.specs.Parts.{all_numbered, assertions_in, AreFormulasWithin}
use Rattle.sm_judge.specs.Forms.{Walked, Closes, Opens, TooFar, GoesOut}

-- an answer is what the walk comes to, whatever its count
abbrev pub Tells : Sorts → List Tree → Answer → Walked → Type 0
Tells sorts trees (answer.Closed tree) w = (count : ℕ) × (w ≡ Closes count)
Tells sorts trees (answer.Open leaf) w =
    AreFormulasWithin (length trees) (all_numbered leaf.list.items)
    × (w ≡ Opens (assertions_in sorts trees (all_numbered leaf.list.items)))
Tells sorts trees answer.Steps w = w ≡ TooFar
Tells sorts trees (answer.Coefficient op y z) w = w ≡ GoesOut op y z

-- a certificate that comes with it closes the branch of the facts and the contrary of the target
abbrev pub Certifies : Sorts → List Tree → List Assertion → Assertion → Answer → Type 0
Certifies sorts trees facts target (answer.Closed tree) =
    AreLinesWithin (length trees) (lines_of tree)
    × (refused (adds sorts) sorts (as_facts (facts ++ negate target ∷ []))
    (certificate_in trees tree) ≡ None)
Certifies sorts trees facts target (answer.Open leaf) = Unit {0}
Certifies sorts trees facts target answer.Steps = Unit {0}
Certifies sorts trees facts target (answer.Coefficient op y z) = Unit {0}

-- the terms of the walk of an obligation: those of the facts and the contrary of the target, with all
-- parts of their conjunctions
abbrev pub terms_walked : List Assertion → Assertion → List Tree
terms_walked facts target = terms_of (with_parts (facts ++ negate target ∷ []))

-- a certificate that comes with it names only these terms
abbrev pub NamesOnly : List Tree → List Tree → Answer → Type 0
NamesOnly terms trees (answer.Closed tree) = EachTerm (IsOneOf terms) (certificate_in trees tree)
NamesOnly terms trees (answer.Open leaf) = Unit {0}
NamesOnly terms trees answer.Steps = Unit {0}
NamesOnly terms trees (answer.Coefficient op y z) = Unit {0}
