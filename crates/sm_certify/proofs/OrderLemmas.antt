-- Lines that add formulas with terms in order and forms in order: those behind others, and none.
use Rattle.sm_certify.proofs.Imports.{◌≡◌, ℕ, ◌+◌, List, [], ◌∷◌, ◌++◌, map, length, take, Option, Some, refl, sym, ap, ◌∙◌, subst, filter_map, append-nil, length-map, map-append, take_at, Linear, Assertion, Tree, form_by_places, forms_by_places, BranchFact, Formal, Sum, as_facts, followed, formula_in, form_in, HaveOnePlace, with_formulas, all_terms, line_in, IsLineWithin, CertLine, adds, added_by, AreLinesWithin, Seen, IsClosed, closed_none, closed_with_formulas, FormulasAmong, formulas_among, StandInOrder, followed_from, one_thing, within-append}
use Rattle.std.proofs.lemmas.List.{append_assoc, length-append}
use Rattle.std.proofs.lemmas.List.Elements.{filter_map-append}
use Rattle.sm_theory.proofs.PlacedForms.{placed_is}
use Rattle.sm_certify.proofs.AddingLemmas.{added_both, added_count, added_then}
use Rattle.sm_certify.proofs.NamingLemmas.{with_formulas-append}
use Rattle.sm_certify.proofs.SourcesLemmas.{MakesFor}

-- formulas as facts
formulas_back : (fs : List Assertion) → filter_map formula_in (as_facts fs) ≡ fs
formulas_back [] = refl
formulas_back (f ∷ fs) = ap (λ (gs : List Assertion). f ∷ gs) (formulas_back fs)

-- they are no forms
no_forms : (fs : List Assertion) → filter_map form_in (as_facts fs) ≡ []
no_forms [] = refl
no_forms (f ∷ fs) = no_forms fs

-- forms by places, behind others
places-append : (trees : List Tree) (gs ks : List (Linear Tree)) (fs more : List (Linear ℕ)) → forms_by_places trees gs ≡ Some fs →
    forms_by_places trees ks ≡ Some more → forms_by_places trees (gs ++ ks) ≡ Some (fs ++ more)
places-append trees [] ks fs more e rest =
    rest ∙ ap (λ (hs : List (Linear ℕ)). Some (hs ++ more)) (one_thing [] fs e)
places-append trees (g ∷ gs) ks fs more e rest =
    let one = followed_from (form_by_places trees g)
    (λ (f : Linear ℕ). followed (forms_by_places trees gs) (λ (hs : List (Linear ℕ)). Some (f ∷ hs))) fs e in
    let others = followed_from (forms_by_places trees gs) (λ (hs : List (Linear ℕ)). Some (one.0 ∷ hs)) fs one.2 in
    ap (λ (o : Option (Linear ℕ)). followed o (λ (f : Linear ℕ).
    followed (forms_by_places trees (gs ++ ks)) (λ (hs : List (Linear ℕ)). Some (f ∷ hs)))) one.1
    ∙ ap (λ (o : Option (List (Linear ℕ))). followed o (λ (hs : List (Linear ℕ)). Some (one.0 ∷ hs)))
    (places-append trees gs ks others.0 more others.1 rest)
    ∙ ap (λ (hs : List (Linear ℕ)). Some (hs ++ more)) (one_thing (one.0 ∷ others.0) fs others.2)

-- no line at all, where the first terms are those of the formulas
pub order_none : (b : Seen) (rest : List Tree) (n : ℕ) → b.terms ≡ all_terms b.facts ++ rest → n ≡ length (all_terms b.facts) →
    StandInOrder b (take n b.terms) [] []
order_none b rest n first count = record {
  within = tt;
  more = [];
  added = refl;
  named =
      ap (λ (ks : List BranchFact). all_terms (filter_map formula_in ks)) (append-nil (as_facts b.facts))
      ∙ ap all_terms (formulas_back b.facts)
      ∙ sym (ap (take n) first ∙ take_at (all_terms b.facts) rest n (sym count));
  placed =
      ap (λ (ks : List BranchFact). forms_by_places b.terms (filter_map form_in ks)) (append-nil (as_facts b.facts))
      ∙ ap (forms_by_places b.terms) (no_forms b.facts);
}

module _ (b : Seen) (terms : List Tree) (lines : List CertLine) (forms : List (Linear ℕ)) (w : StandInOrder b terms lines forms) where
  -- the facts so far
  abbrev pub so_far : List BranchFact
  so_far = as_facts b.facts ++ w.more

  -- the arguments of each term are there
  pub order_closed : IsClosed terms
  order_closed = subst IsClosed w.named (closed_with_formulas (filter_map formula_in so_far) [] closed_none)

  -- the terms of each formula are there
  pub order_among : FormulasAmong terms (filter_map formula_in so_far)
  order_among =
      subst (λ (ts : List Tree). FormulasAmong ts (filter_map formula_in so_far)) w.named (formulas_among (filter_map formula_in so_far) [])

  -- how many facts there are
  pub order_count : length so_far ≡ length b.facts + length lines
  order_count =
      length-append (as_facts b.facts) w.more
      ∙ ap (λ (n : ℕ). n + length w.more) (length-map b.facts Formal)
      ∙ ap (λ (n : ℕ). length b.facts + n)
      (added_count b.sorts (as_facts b.facts) (map (line_in b.terms) lines) w.more w.added ∙ length-map lines (line_in b.terms))

  -- more lines
  abbrev pub order_more : (ls : List CertLine) (next : List BranchFact) (later : List Tree) (all : List (Linear ℕ)) →
      AreLinesWithin (length b.terms) ls → added_by b.sorts so_far (map (line_in b.terms) ls) ≡ Some next →
      with_formulas (filter_map formula_in next) terms ≡ later →
      forms_by_places b.terms (filter_map form_in so_far ++ filter_map form_in next) ≡ Some all →
      StandInOrder b later (lines ++ ls) all
  order_more ls next later all within e named placed = record {
    within = within-append (length b.terms) lines ls w.within within;
    more = w.more ++ next;
    added =
        ap (added_by b.sorts (as_facts b.facts)) (map-append (line_in b.terms) lines ls)
        ∙ added_both b.sorts (as_facts b.facts) (map (line_in b.terms) lines) (map (line_in b.terms) ls) w.more next w.added e;
    named =
        ap (λ (ks : List BranchFact). all_terms (filter_map formula_in ks)) (sym (append_assoc (as_facts b.facts) w.more next))
        ∙ ap all_terms (filter_map-append formula_in so_far next)
        ∙ with_formulas-append (filter_map formula_in so_far) (filter_map formula_in next) []
        ∙ ap (with_formulas (filter_map formula_in next)) w.named
        ∙ named;
    placed =
        ap (λ (ks : List BranchFact). forms_by_places b.terms (filter_map form_in ks)) (sym (append_assoc (as_facts b.facts) w.more next))
        ∙ ap (forms_by_places b.terms) (filter_map-append form_in so_far next)
        ∙ placed;
  }

  -- more lines, which add formulas alone
  abbrev pub order_formulas : (ls : List CertLine) (next : List BranchFact) (later : List Tree) → AreLinesWithin (length b.terms) ls →
      added_by b.sorts so_far (map (line_in b.terms) ls) ≡ Some next → with_formulas (filter_map formula_in next) terms ≡ later →
      filter_map form_in next ≡ [] → StandInOrder b later (lines ++ ls) forms
  order_formulas ls next later within e named none =
      order_more ls next later forms within e named
      (ap (λ (gs : List (Linear Tree)). forms_by_places b.terms (filter_map form_in so_far ++ gs)) none
      ∙ ap (forms_by_places b.terms) (append-nil (filter_map form_in so_far))
      ∙ w.placed)

  -- one line more, which makes a form
  pub order_form : HaveOnePlace b.terms → (l : CertLine) (f : Linear ℕ) → IsLineWithin (length b.terms) l →
      MakesFor b.terms (adds b.sorts so_far (line_in b.terms l)) f → StandInOrder b terms (lines ++ l ∷ []) (forms ++ f ∷ [])
  order_form distinct l f within made =
      let one : forms_by_places b.terms (made.0 ∷ []) ≡ Some (f ∷ []) =
      ap (λ (o : Option (Linear ℕ)). followed o (λ (h : Linear ℕ).
      followed (forms_by_places b.terms []) (λ (hs : List (Linear ℕ)). Some (h ∷ hs)))) (placed_is b.terms f made.0 distinct made.2) in
      order_more (l ∷ []) (Sum made.0 ∷ []) terms (forms ++ f ∷ []) (within, tt)
      (added_then b.sorts so_far (line_in b.terms l) [] (Sum made.0) [] made.1 refl) refl
      (places-append b.terms (filter_map form_in so_far) (made.0 ∷ []) forms (f ∷ []) w.placed one)
