-- Cited by public clauses: the line that decides all linear forms of a branch at once, whose atoms
-- are told by their places among the terms of the branch's formulas.
use Rattle.std.specs.Prelude.{ℕ, suc, nat_le, ℤ, Bool, true, false, ◌&&◌, if◌then◌else◌, Option, Some, None, List, [], ◌∷◌}
use Rattle.std.specs.List.{list_all, filter_map}
use Rattle.sm_syntax.specs.text.Sorts.{Sorts}
use Rattle.sm_num.specs.Range.{fits_form}
use Rattle.sm_num.specs.Forms.{Linear, coefficient, parts_without}
use Rattle.sm_num.specs.Combining.{with_part}
use Rattle.sm_omega.specs.Counting.{Done, Passed, Outside, Shallow}
use Rattle.sm_omega.specs.Rules.{Answer}
use Rattle.sm_omega.specs.Exact.{exact}
use Rattle.sm_term.specs.Terms.{Tree}
use Rattle.sm_term.specs.Assertions.{No}
use Rattle.sm_term.specs.SameTerms.{same_tree}
use Rattle.sm_theory.specs.Facts.{BranchFact}
use Rattle.sm_theory.specs.Lines.{CertificateLine, Exact, followed, formula_in, form_in}
use Rattle.sm_theory.specs.Equality.{formula_if}
use Rattle.sm_theory.specs.TermsOfFormulas.{all_terms}

-- parts in the order of terms, each by the place of its term from n on; none where one isn't there
abbrev pub parts_by_places : List Tree → ℕ → List (Tree × ℤ) → Option (List (ℕ × ℤ))
parts_by_places [] n [] = Some []
parts_by_places [] n (p ∷ ps) = None
parts_by_places (t ∷ ts) n ps =
    followed (parts_by_places ts (suc n) (parts_without same_tree t ps))
    (λ (rest : List (ℕ × ℤ)). Some (with_part n (coefficient same_tree t ps) rest))

-- whether all numbers of a form are in the range of forms
abbrev pub is_in_range : {A : Type 0} → Linear A → Bool
is_in_range f = list_all (λ p. fits_form p.1) f.parts && fits_form f.constant

-- a form, where all its numbers are in the range of forms
abbrev pub where_in_range : {A : Type 0} → Linear A → Option (Linear A)
where_in_range f = if is_in_range f then Some f else None

-- a form by the places of its atoms; none where one isn't among the terms
abbrev pub form_by_places : List Tree → Linear Tree → Option (Linear ℕ)
form_by_places terms g =
    followed (parts_by_places terms 0 g.parts)
    (λ ps. where_in_range (record { parts = ps; constant = g.constant; kind = g.kind }))

-- forms by the places of their atoms, in order; none where one of them has none
abbrev pub forms_by_places : List Tree → List (Linear Tree) → Option (List (Linear ℕ))
forms_by_places terms [] = Some []
forms_by_places terms (g ∷ gs) =
    followed (form_by_places terms g) (λ (f : Linear ℕ).
    followed (forms_by_places terms gs) (λ (fs : List (Linear ℕ)). Some (f ∷ fs)))

-- the forms of a branch in order, by the places of their atoms among the terms of its formulas
abbrev pub forms_of_branch : List BranchFact → Option (List (Linear ℕ))
forms_of_branch facts =
    forms_by_places (all_terms (filter_map formula_in facts)) (filter_map form_in facts)

-- whether a decision says that there is no solution
abbrev pub has_no_solution : Answer → Bool
has_no_solution (Done c None) = true
has_no_solution (Done c (Some v)) = false
has_no_solution Passed = false
has_no_solution (Outside op y z) = false
has_no_solution Shallow = false

-- nothing holds, where each atom of a branch's forms is a term of its formulas, and n steps, at most
-- 1,000,000, of the exact decision of the forms in order say that they have no solution
abbrev pub exact_adds : List BranchFact → ℕ → Option BranchFact
exact_adds facts n =
    followed (forms_of_branch facts) (λ (fs : List (Linear ℕ)).
    formula_if (nat_le n 1000000 && has_no_solution (exact fs n)) No)

-- what a theory adds, which leaves the exact line to the exact decision
abbrev pub with_exact :
    (Sorts → List BranchFact → CertificateLine → Option BranchFact) →
    Sorts → List BranchFact → CertificateLine → Option BranchFact
with_exact adds sorts facts (Exact n) = exact_adds facts n
with_exact adds sorts facts line = adds sorts facts line
