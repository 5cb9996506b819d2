-- Formulas of a list that are ready over a table.
use Rattle.sm_goals.proofs.Imports.{◌≡◌, ℕ, zero, suc, ◌+◌, ◌<◌, Some, List, [], ◌∷◌, ◌++◌, length, take, get_or, slice_get, refl, sym, ap, ◌∙◌, subst, arith, take_more, length-map, get_or-map, Sorts, Assertion, Formula, AreFormsSorted, TableValue, trees_in, sorts_in, Tree, IsFormReady, AreFormsReady, all_numbered, assertions_in, AreFormulasWithin}
use Rattle.std.proofs.lemmas.Option.{same_Some}
use Rattle.sm_term.specs.Formulas.{NumberedFormula, numbered, assertion_in}
use Rattle.sm_plan.specs.Views.{forms_in}

-- formulas that are ready, as `solve` asks for them
pub forms_within : (sorts : Sorts) (trees : List Tree) (fs : List Formula) → AreFormsReady sorts trees fs →
    AreFormulasWithin (length trees) (all_numbered fs)
forms_within sorts trees [] r = tt
forms_within sorts trees (f ∷ fs) r = (r.0.0, forms_within sorts trees fs r.1)

-- the plain formulas of a list, said in two ways
pub forms_same : (sorts : Sorts) (trees : List Tree) (fs : List Formula) →
    assertions_in sorts trees (all_numbered fs) ≡ forms_in sorts trees fs
forms_same sorts trees [] = refl
forms_same sorts trees (f ∷ fs) = ap (λ (fs : List Assertion). assertion_in sorts trees (numbered f) ∷ fs) (forms_same sorts trees fs)

-- formulas that are ready are well sorted
pub forms_sorted : (sorts : Sorts) (trees : List Tree) (fs : List Formula) → AreFormsReady sorts trees fs →
    AreFormsSorted sorts (assertions_in sorts trees (all_numbered fs))
forms_sorted sorts trees [] r = tt
forms_sorted sorts trees (f ∷ fs) r = (r.0.1, forms_sorted sorts trees fs r.1)

-- a formula that is found among others that are ready
pub ready_found : (sorts : Sorts) (trees : List Tree) (fs : List Formula) (i : ℕ) (f : Formula) → slice_get fs i ≡ Some f →
    AreFormsReady sorts trees fs → IsFormReady sorts trees f
ready_found sorts trees [] i f e r = absurd cc
ready_found sorts trees (x ∷ fs) zero f e r = subst (IsFormReady sorts trees) (same_Some x f e) r.0
ready_found sorts trees (x ∷ fs) (suc i) f e r = ready_found sorts trees fs i f e r.1

-- an equal list
pub goals_ready : (v : TableValue) (asks given : List Formula) → given ≡ asks → AreFormsReady (sorts_in v) (trees_in v) asks →
    AreFormsReady (sorts_in v) (trees_in v) given
goals_ready v asks given same = subst (AreFormsReady (sorts_in v) (trees_in v)) (sym same)

-- formulas that are the same up to a place, and one more
pub same_put : (xs ys : List Formula) (n : ℕ) (x y : Formula) → n < length xs → n < length ys → x ≡ get_or xs n x → y ≡ get_or ys n y →
    numbered x ≡ numbered y → take n (all_numbered xs) ≡ take n (all_numbered ys) →
    take (n + 1) (all_numbered xs) ≡ take (n + 1) (all_numbered ys)
same_put xs ys n x y h k here there same before =
    one_more xs n x h here ∙ (λ j. before j ++ same j ∷ []) ∙ sym (one_more ys n y k there)
  where
    one_more : (xs : List Formula) (n : ℕ) (x : Formula) → n < length xs → x ≡ get_or xs n x →
        take (n + 1) (all_numbered xs) ≡ take n (all_numbered xs) ++ numbered x ∷ []
    one_more xs n x h here =
        let count = length-map xs numbered in
        let inside : n < length (all_numbered xs) = omega (arith, h, count) in
        take_more (all_numbered xs) n (numbered x) inside
        ∙ ap (λ (y : NumberedFormula). take n (all_numbered xs) ++ y ∷ []) (get_or-map numbered xs n x (numbered x) h ∙ sym (ap numbered here))
