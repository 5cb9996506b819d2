-- Formulas put behind formulas, obligations behind obligations, and states behind what waits.
use Rattle.sm_expand.proofs.Imports.{◌≡◌, ℕ, zero, suc, ◌+◌, ◌<◌, List, [], ◌∷◌, ◌++◌, length, reverse, take, get_or, sym, ap, ◌∙◌, subst, arith, append_assoc, map_more, map-append, take-map, reverse-append, Sorts, Assertion, NumberedFormula, numbered, assertion_in, IsFormulaWithin, Formula, IsFormSorted, Tree, IsFormReady, AreFormsReady, Successor, forms_in, Waiting, AreDuesReady, waits_with}
use Rattle.sm_expand.specs.declared.cursor.Cursor.{Cursor}
use Rattle.sm_expand.specs.Views.{Due}

module _ (sorts : Sorts) (trees : List Tree) where
  abbrev one : Formula → Assertion
  one f = assertion_in sorts trees (numbered f)

  pub form_added : (path new fs : List Formula) (i : ℕ) (f copy : Formula) (before : List Assertion) → new ≡ path ++ copy ∷ [] →
      numbered copy ≡ numbered f → i < length fs → f ≡ get_or fs i f → forms_in sorts trees path ≡ before
      ++ forms_in sorts trees (take i fs) →
      forms_in sorts trees new ≡ before ++ forms_in sorts trees (take (i + 1) fs)
  form_added path new fs i f copy before is same h e so_far =
      let front = forms_in sorts trees (take i fs) in
      let next : forms_in sorts trees (take (i + 1) fs) ≡ front ++ one f ∷ [] =
      map_more one fs i f h ∙ ap (λ (g : Formula). front ++ one g ∷ []) (sym e) in
      let last : one copy ≡ one f = ap (assertion_in sorts trees) same in
      ap (forms_in sorts trees) is ∙ map-append one path (copy ∷ []) ∙ ap (λ (l : List Assertion). l ++ one copy ∷ []) so_far
      ∙ append_assoc before front (one copy ∷ []) ∙ ap (λ (a : Assertion). before ++ (front ++ a ∷ [])) last
      ∙ ap (λ (l : List Assertion). before ++ l) (sym next)

  pub ready_append : (xs ys : List Formula) → AreFormsReady sorts trees xs → AreFormsReady sorts trees ys →
      AreFormsReady sorts trees (xs ++ ys)
  ready_append [] ys a b = b
  ready_append (x ∷ xs) ys a b = (a.0, ready_append xs ys a.1 b)

  pub ready_front : (n : ℕ) (fs : List Formula) → AreFormsReady sorts trees fs → AreFormsReady sorts trees (take n fs)
  ready_front zero fs a = tt
  ready_front (suc n) [] a = tt
  ready_front (suc n) (f ∷ fs) a = (a.0, ready_front n fs a.1)

  ready_at : (fs : List Formula) (i : ℕ) (d : Formula) → i < length fs → AreFormsReady sorts trees fs →
      IsFormReady sorts trees (get_or fs i d)
  ready_at [] i d h a = absurd (let no : i < 0 = h in omega arith)
  ready_at (f ∷ fs) zero d h a = a.0
  ready_at (f ∷ fs) (suc i) d h a = let fewer : i < length fs = omega arith in ready_at fs i d fewer a.1

  pub ready_added : (path new fs : List Formula) (i : ℕ) (f copy : Formula) → new ≡ path ++ copy ∷ [] → numbered copy ≡ numbered f →
      i < length fs → f ≡ get_or fs i f → AreFormsReady sorts trees fs → AreFormsReady sorts trees path → AreFormsReady sorts trees new
  ready_added path new fs i f copy is same h e all before =
      let here : IsFormReady sorts trees f = subst (IsFormReady sorts trees) (sym e) (ready_at fs i f h all) in
      let last : IsFormReady sorts trees copy =
      subst (λ (n : NumberedFormula). IsFormulaWithin (length trees) n × IsFormSorted sorts (assertion_in sorts trees n)) (sym same) here in
      subst (AreFormsReady sorts trees) (sym is) (ready_append path (copy ∷ []) before (last, tt))

  pub forms_front : (n : ℕ) (fs : List Formula) → forms_in sorts trees (take n fs) ≡ take n (forms_in sorts trees fs)
  forms_front n fs = sym (take-map one n fs)

  pub dues_append : (old : List Due) (d : Due) → AreDuesReady sorts trees old → AreFormsReady sorts trees d.facts.list.items →
      AreFormsReady sorts trees d.targets.list.items → AreDuesReady sorts trees (old ++ d ∷ [])
  dues_append [] d ready facts goals = (facts, goals, tt)
  dues_append (x ∷ old) d ready facts goals = (ready.0, ready.1, dues_append old d ready.2 facts goals)

-- one more state waits
pub state_put : (shared : ℕ) (all left fewer : List Successor) (next : Successor) (plans some less : List Cursor) (c : Cursor)
    (old new rest : List Waiting) (w : Waiting) → left ≡ fewer ++ next ∷ [] → some ≡ less ++ c ∷ [] → new ≡ old ++ w ∷ [] →
    w ∷ [] ≡ waits_with shared (next ∷ []) (c ∷ []) →
    (ds : List Successor) × (cs : List Cursor) × (all ≡ left ++ ds) × (plans ≡ some ++ cs) × (length ds ≡ length cs)
    × (reverse old ≡ waits_with shared ds cs ++ rest) →
    (ds : List Successor) × (cs : List Cursor) × (all ≡ fewer ++ ds) × (plans ≡ less ++ cs) × (length ds ≡ length cs)
    × (reverse new ≡ waits_with shared ds cs ++ rest)
state_put shared all left fewer next plans some less c old new rest w is which put one h = (
  next ∷ h.0,
  c ∷ h.1,
  h.2 ∙ ap (λ (ss : List Successor). ss ++ h.0) is ∙ append_assoc fewer (next ∷ []) h.0,
  h.3 ∙ ap (λ (ss : List Cursor). ss ++ h.1) which ∙ append_assoc less (c ∷ []) h.1,
  ap suc h.4,
  ap reverse put ∙ reverse-append old (w ∷ []) ∙ ap (λ (ws : List Waiting). w ∷ ws) h.5
      ∙ ap (λ (ws : List Waiting). ws ++ (waits_with shared h.0 h.1 ++ rest)) one,
)
