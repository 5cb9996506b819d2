-- The forms over places of a branch are those that the exact line decides.
use Rattle.sm_exact.proofs.Imports.{◌≡◌, ◌<◌, ◌++◌, ℕ, zero, suc, nat_le, pos, Bool, true, ◌&&◌, Option, Some, None, slice_get, List, [], ◌∷◌, length, refl, sym, ap, subst, ◌∙◌, ⊎_elim, filter_map, append-nil, Linear, coefficient, same_atom, Assertion, No, tree_at, BranchFact, Formal, Sum, followed, formula_in, form_in, formula_if, all_terms, form_by_places, forms_by_places, forms_of_branch, has_no_solution, exact_adds, StandsAt, HaveOnePlace, IsKeptFor, AllStand, Fact, all_terms_places, trees_at, formulas_of, IsAt, HavePlaces, IsPlaced, LacksPlace, ArePlacedForms, SomeLacksPlace}
use Rattle.sm_syntax.specs.text.Sorts.{Sorts}
use Rattle.sm_omega.specs.Exact.{exact}
use Rattle.sm_term.specs.Terms.{Tree}
use Rattle.sm_term.specs.declared.formula.Formula.{Formula}
use Rattle.sm_term.specs.TableLaws.{AreApart}
use Rattle.sm_term.specs.SameTerms.{same_tree}
use Rattle.sm_theory.specs.declared.fact.Fact.TheVariants as fact
use Rattle.sm_theory.proofs.PlacedForms.{AreKeptFor, all_placed_are, unplaced}
use Rattle.sm_theory.proofs.LinearPlaces.{place_of, place_or_not}
use Rattle.sm_theory.proofs.FormsOfTermsLemmas.{stands_at, one_place}
use Rattle.sm_terms.specs.Listing.{AreBelow}

-- a number at a place is one of the table, and its tree stands there
tree_there : (trees : List Tree) (numbers : List ℕ) → AreBelow (length trees) numbers → (i k : ℕ) → IsAt numbers i k →
    (k < length trees) × StandsAt (trees_at trees numbers) i (tree_at trees k)
tree_there trees [] below i k e = absurd cc
tree_there trees (n ∷ ns) below zero k e =
    let same : n ≡ k = cc in
    (subst (λ (m : ℕ). m < length trees) same below.0, ap (λ (m : ℕ). Some (tree_at trees m)) same)
tree_there trees (n ∷ ns) below (suc i) k e = tree_there trees ns below.1 i k e

-- a tree that stands at a place is that of the number there
number_there : (trees : List Tree) (numbers : List ℕ) (i : ℕ) (t : Tree) → StandsAt (trees_at trees numbers) i t →
    (k : ℕ) × IsAt numbers i k × (tree_at trees k ≡ t)
number_there trees [] i t e = absurd cc
number_there trees (n ∷ ns) zero t e = (n, refl, cc)
number_there trees (n ∷ ns) (suc i) t e = number_there trees ns i t e

-- where there is no tree, there is no number
none_there : (trees : List Tree) (numbers : List ℕ) (i : ℕ) → slice_get (trees_at trees numbers) i ≡ None → slice_get numbers i ≡ None
none_there trees [] i e = refl
none_there trees (n ∷ ns) zero e = absurd cc
none_there trees (n ∷ ns) (suc i) e = none_there trees ns i e

-- numbers have one place where their trees do
pub places_once : (trees : List Tree) (numbers : List ℕ) → AreBelow (length trees) numbers → HaveOnePlace (trees_at trees numbers) →
    HavePlaces numbers
places_once trees numbers below distinct i j k first second =
    distinct i j (tree_at trees k) (tree_there trees numbers below i k first).1 (tree_there trees numbers below j k second).1

module _ (trees : List Tree) (numbers : List ℕ) (apart : AreApart trees) (below : AreBelow (length trees) numbers) where
  abbrev terms : List Tree
  terms = trees_at trees numbers

  -- a form over places is kept for what the form is kept for
  pub placed_stands : (f h : Linear ℕ) (g : Linear Tree) → IsKeptFor trees f g → IsPlaced numbers f h → IsKeptFor terms h g
  placed_stands f h g keeps placed = record {
    kept = placed.kept;
    once = keeps.once;
    stands = record {
      kind = placed.kind ∙ keeps.stands.kind;
      constant = placed.constant ∙ keeps.stands.constant;
      at_places = at_places;
      no_other_number = λ (i : ℕ) (e : slice_get terms i ≡ None). placed.parts.past i (none_there trees numbers i e);
      no_other_term = no_other;
    };
  }
    where
      at_places : (i : ℕ) (t : Tree) → StandsAt terms i t → coefficient same_atom i h.parts ≡ coefficient same_tree t g.parts
      at_places i t e =
          let there = number_there trees numbers i t e in
          let inside = (tree_there trees numbers below i there.0 there.1).0 in
          placed.parts.at i there.0 there.1
          ∙ keeps.stands.at_places there.0 t (subst (λ (u : Tree). StandsAt trees there.0 u) there.2 (stands_at trees there.0 inside))

      no_other : (t : Tree) → ((i : ℕ) → StandsAt terms i t → ⊥) → coefficient same_tree t g.parts ≡ pos 0
      no_other t never =
          ⊎_elim
          (λ (there : (k : ℕ) × StandsAt trees k t).
          sym (keeps.stands.at_places there.0 t there.1)
          ∙ placed.parts.other there.0
          (λ (i : ℕ) (e : IsAt numbers i there.0).
          let stands = tree_there trees numbers below i there.0 e in
          let same : tree_at trees there.0 ≡ t =
          (let both : Some (tree_at trees there.0) ≡ Some t = sym (stands_at trees there.0 stands.0) ∙ there.1 in cc) in
          never i (subst (λ (u : Tree). StandsAt terms i u) same stands.1)))
          (λ (nowhere : (k : ℕ) → StandsAt trees k t → ⊥). keeps.stands.no_other_term t nowhere)
          (place_of trees t)

  -- a form with an atom that has no place isn't over places
  pub lacks_place : (f : Linear ℕ) (g : Linear Tree) → IsKeptFor trees f g → LacksPlace numbers f → form_by_places terms g ≡ None
  lacks_place f g keeps lacks =
      ⊎_elim
      (λ (there : (t : Tree) × StandsAt trees lacks.0 t).
      unplaced terms g there.0
      (λ (i : ℕ) (e : StandsAt terms i there.0).
      let number = number_there trees numbers i there.0 e in
      let inside = (tree_there trees numbers below i number.0 number.1).0 in
      let stands = subst (λ (u : Tree). StandsAt trees number.0 u) number.2 (stands_at trees number.0 inside) in
      let same : number.0 ≡ lacks.0 = one_place trees apart number.0 lacks.0 there.0 stands there.1 in
      lacks.1 i (subst (λ (k : ℕ). IsAt numbers i k) same number.1))
      (λ (none : coefficient same_tree there.0 g.parts ≡ pos 0).
      lacks.2 (keeps.stands.at_places lacks.0 there.0 there.1 ∙ none)))
      (λ (none : slice_get trees lacks.0 ≡ None). absurd (lacks.2 (keeps.stands.no_other_number lacks.0 none)))
      (place_or_not trees lacks.0)

  -- forms over places are kept for the forms of a branch
  kept_for : (sorts : Sorts) (fs : List Fact) (facts : List BranchFact) (hs : List (Linear ℕ)) → AllStand sorts trees fs facts →
      ArePlacedForms numbers fs hs → AreKeptFor terms hs (filter_map form_in facts)
  kept_for sorts [] [] [] stand placed = tt
  kept_for sorts [] [] (h ∷ hs) stand placed = absurd placed
  kept_for sorts [] (k ∷ ks) hs stand placed = absurd stand
  kept_for sorts (f ∷ fs) [] hs stand placed = absurd stand
  kept_for sorts (fact.Form f ∷ fs) (Formal k ∷ ks) hs stand placed = kept_for sorts fs ks hs stand.1 placed
  kept_for sorts (fact.Form f ∷ fs) (Sum k ∷ ks) hs stand placed = absurd stand.0
  kept_for sorts (fact.Lin f ∷ fs) (Formal k ∷ ks) hs stand placed = absurd stand.0
  kept_for sorts (fact.Lin f ∷ fs) (Sum k ∷ ks) [] stand placed = absurd placed
  kept_for sorts (fact.Lin f ∷ fs) (Sum k ∷ ks) (h ∷ hs) stand placed =
      (placed_stands f h k stand.0 placed.0, kept_for sorts fs ks hs stand.1 placed.1)

  skipped : (o : Option (Linear ℕ)) (rest : Option (List (Linear ℕ))) → rest ≡ None →
      followed o (λ (f : Linear ℕ). followed rest (λ (fs : List (Linear ℕ)). Some (f ∷ fs))) ≡ None
  skipped None rest e = refl
  skipped (Some f) rest e = ap (λ (o : Option (List (Linear ℕ))). followed o (λ (fs : List (Linear ℕ)). Some (f ∷ fs))) e

  none_kept : (sorts : Sorts) (fs : List Fact) (facts : List BranchFact) (n : ℕ) (f : Linear ℕ) → AllStand sorts trees fs facts →
      slice_get fs n ≡ Some (fact.Lin f) → LacksPlace numbers f → forms_by_places terms (filter_map form_in facts) ≡ None
  none_kept sorts [] facts n f stand e lacks = absurd cc
  none_kept sorts (h ∷ fs) [] n f stand e lacks = absurd stand
  none_kept sorts (fact.Form h ∷ fs) (Formal k ∷ ks) zero f stand e lacks = absurd cc
  none_kept sorts (fact.Form h ∷ fs) (Formal k ∷ ks) (suc n) f stand e lacks = none_kept sorts fs ks n f stand.1 e lacks
  none_kept sorts (fact.Form h ∷ fs) (Sum k ∷ ks) n f stand e lacks = absurd stand.0
  none_kept sorts (fact.Lin h ∷ fs) (Formal k ∷ ks) n f stand e lacks = absurd stand.0
  none_kept sorts (fact.Lin h ∷ fs) (Sum k ∷ ks) zero f stand e lacks =
      let same : h ≡ f = cc in
      let none : form_by_places terms k ≡ None = lacks_place f k (subst (λ (l : Linear ℕ). IsKeptFor trees l k) same stand.0) lacks in
      ap (λ (o : Option (Linear ℕ)). followed o (λ (l : Linear ℕ).
      followed (forms_by_places terms (filter_map form_in ks)) (λ (ls : List (Linear ℕ)). Some (l ∷ ls)))) none
  none_kept sorts (fact.Lin h ∷ fs) (Sum k ∷ ks) (suc n) f stand e lacks =
      skipped (form_by_places terms k) (forms_by_places terms (filter_map form_in ks)) (none_kept sorts fs ks n f stand.1 e lacks)

  -- the formulas of a branch
  formulas_are : (sorts : Sorts) (fs : List Fact) (facts : List BranchFact) → AllStand sorts trees fs facts →
      formulas_of sorts trees fs ≡ filter_map formula_in facts
  formulas_are sorts [] [] stand = refl
  formulas_are sorts [] (k ∷ ks) stand = absurd stand
  formulas_are sorts (f ∷ fs) [] stand = absurd stand
  formulas_are sorts (fact.Form f ∷ fs) (Formal k ∷ ks) stand =
      ap (λ (g : Assertion). g ∷ formulas_of sorts trees fs) stand.0.1 ∙ ap (λ (gs : List Assertion). k ∷ gs) (formulas_are sorts fs ks stand.1)
  formulas_are sorts (fact.Form f ∷ fs) (Sum k ∷ ks) stand = absurd stand.0
  formulas_are sorts (fact.Lin f ∷ fs) (Formal k ∷ ks) stand = absurd stand.0
  formulas_are sorts (fact.Lin f ∷ fs) (Sum k ∷ ks) stand = formulas_are sorts fs ks stand.1

  module _ (sorts : Sorts) (fs : List Fact) (facts : List BranchFact) (listed : terms ≡ all_terms (formulas_of sorts trees fs))
      (stand : AllStand sorts trees fs facts) where
    all_listed : terms ≡ all_terms (filter_map formula_in facts)
    all_listed = listed ∙ ap all_terms (formulas_are sorts fs facts stand)

    -- the forms of the exact line
    pub forms_are : (hs : List (Linear ℕ)) → ArePlacedForms numbers fs hs → forms_of_branch facts ≡ Some hs
    forms_are hs placed =
        subst (λ (ts : List Tree). forms_by_places ts (filter_map form_in facts) ≡ Some hs) all_listed
        (all_placed_are terms hs (filter_map form_in facts)
        (subst HaveOnePlace (sym listed) (all_terms_places (formulas_of sorts trees fs))) (kept_for sorts fs facts hs stand placed))

    pub forms_none : SomeLacksPlace numbers fs → forms_of_branch facts ≡ None
    forms_none lacks =
        subst (λ (ts : List Tree). forms_by_places ts (filter_map form_in facts) ≡ None) all_listed
        (none_kept sorts fs facts lacks.0 lacks.1 stand lacks.2 lacks.3)

-- what the line adds, by the forms
pub adds_none : (facts : List BranchFact) (n : ℕ) → forms_of_branch facts ≡ None → exact_adds facts n ≡ None
adds_none facts n e =
    ap (λ (o : Option (List (Linear ℕ))). followed o (λ (fs : List (Linear ℕ)).
    formula_if (nat_le n 1000000 && has_no_solution (exact fs n)) No)) e

pub adds_decided : (facts : List BranchFact) (n : ℕ) (fs : List (Linear ℕ)) (b : Bool) → nat_le n 1000000 ≡ true →
    forms_of_branch facts ≡ Some fs → has_no_solution (exact fs n) ≡ b → exact_adds facts n ≡ formula_if b No
adds_decided facts n fs b most e told =
    ap (λ (o : Option (List (Linear ℕ))). followed o (λ (hs : List (Linear ℕ)).
    formula_if (nat_le n 1000000 && has_no_solution (exact hs n)) No)) e
    ∙ ap (λ (c : Bool). formula_if (c && has_no_solution (exact fs n)) No) most
    ∙ ap (λ (c : Bool). formula_if c No) told

-- the form of one more fact
pub forms_append : (numbers : List ℕ) (fs : List Fact) (hs : List (Linear ℕ)) (f : Fact) (more : List (Linear ℕ)) → ArePlacedForms numbers fs hs →
    ArePlacedForms numbers (f ∷ []) more → ArePlacedForms numbers (fs ++ f ∷ []) (hs ++ more)
forms_append numbers [] [] f more placed one = one
forms_append numbers [] (h ∷ hs) f more placed one = absurd placed
forms_append numbers (fact.Form g ∷ fs) hs f more placed one = forms_append numbers fs hs f more placed one
forms_append numbers (fact.Lin g ∷ fs) [] f more placed one = absurd placed
forms_append numbers (fact.Lin g ∷ fs) (h ∷ hs) f more placed one = (placed.0, forms_append numbers fs hs f more placed.1 one)

-- a formula has none
pub forms_stay : (numbers : List ℕ) (fs : List Fact) (hs : List (Linear ℕ)) (g : Formula) → ArePlacedForms numbers fs hs →
    ArePlacedForms numbers (fs ++ fact.Form g ∷ []) hs
forms_stay numbers fs hs g placed =
    subst (ArePlacedForms numbers (fs ++ fact.Form g ∷ [])) (append-nil hs) (forms_append numbers fs hs (fact.Form g) [] placed tt)
