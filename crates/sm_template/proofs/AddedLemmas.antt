-- Formulas that are put behind others while a table grows.
use Rattle.sm_template.proofs.Imports.{List, [], ◌∷◌, ◌++◌, sym, ap, ◌∙◌, subst, append-nil, append_assoc, map-append, Assertion, numbered, assertion_in, Formula, IsFormSorted, TableValue, trees_in, sorts_in, AddsTerms, forms_in, IsFormMade, AddsForms}
use Rattle.sm_plan.proofs.FillingForms.{forms_ready, forms_more, ready_within}
use Rattle.sm_plan.proofs.TurnedLemmas.{ready_push}

-- nothing is put there
pub added_none : (v : TableValue) (fs : List Formula) → AddsForms v v fs fs []
added_none v fs ready = (ready, sym (append-nil (forms_in (sorts_in v) (trees_in v) fs)))

-- some, and then others
pub added_then : (u v w : TableValue) (fs gs hs : List Formula) (first second : List Assertion) → AddsForms u v fs gs first →
    AddsForms v w gs hs second → AddsForms u w fs hs (first ++ second)
added_then u v w fs gs hs first second one other ready =
    let here = one ready in
    let there = other here.0 in (
      there.0,
      there.1 ∙ ap (λ (l : List Assertion). l ++ second) here.1 ∙ append_assoc (forms_in (sorts_in u) (trees_in u) fs) first second,
    )

-- one is put there
pub added_one : (v w : TableValue) → AddsTerms v w → (fs : List Formula) (f : Formula) (a : Assertion) → IsFormMade w f a →
    IsFormSorted (sorts_in w) a → AddsForms v w fs (fs ++ f ∷ []) (a ∷ [])
added_one v w grows fs f a made sorted ready = (
  ready_push (sorts_in w) (trees_in w) fs f (forms_ready v w grows fs ready)
      (made.0, subst (IsFormSorted (sorts_in w)) (sym made.1) sorted),
  map-append (λ (g : Formula). assertion_in (sorts_in w) (trees_in w) (numbered g)) fs (f ∷ [])
      ∙ (λ k. forms_more v w grows fs (ready_within (sorts_in v) (trees_in v) fs ready) k ++ made.1 k ∷ []),
)

-- nothing is put there while the table grows
pub added_grown : (v w : TableValue) → AddsTerms v w → (fs : List Formula) → AddsForms v w fs fs []
added_grown v w grows fs ready = (
  forms_ready v w grows fs ready,
  forms_more v w grows fs (ready_within (sorts_in v) (trees_in v) fs ready) ∙ sym (append-nil (forms_in (sorts_in v) (trees_in v) fs)),
)
