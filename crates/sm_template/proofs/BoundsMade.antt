-- Inequalities over a table that grows, each once.
use Rattle.sm_template.proofs.Imports.{◌≡◌, ℕ, zero, suc, ◌+◌, ◌<◌, ◌==◌, Bool, true, false, ◌&&◌, ◌||◌, if◌then◌else◌, Some, List, [], ◌∷◌, ◌++◌, map, take, length, get_or, slice_get, refl, sym, ap, ◌∙◌, subst, arith, fold, list_any, eq-eqb, eqb-true, map-append, map_more, fold-append, Sorts, Num, Assertion, Le, numbered, assertion_in, IsFormulaWithin, Formula, same_tree, HasSort, TableValue, trees_in, sorts_in, tree_at, AreApart, AddsTerms, Tree, same_tree_is, tree_got, grows-not, longer, tree_stays, widens_grown, IsFormMade, AddsForms, bound_in, bounds_in, IsBoundReady, AreBoundsReady, AddsBounds, with_new, next_to, same_formula}
use Rattle.sm_term.specs.Formulas as over
use Rattle.sm_template.proofs.AddedLemmas.{added_then, added_one}

-- nothing, and some and then others
pub bounds_none : (v : TableValue) (ps : List (ℕ × ℕ)) → AddsBounds v v ps ps []
bounds_none v ps ready = (ready, refl)

pub bounds_then : (u v w : TableValue) (ps qs rs : List (ℕ × ℕ)) (first second : List Assertion) → AddsBounds u v ps qs first →
    AddsBounds v w qs rs second → AddsBounds u w ps rs (first ++ second)
bounds_then u v w ps qs rs first second one other ready =
    let here = one ready in
    let there = other here.0 in (
      there.0,
      there.1 ∙ ap (λ (l : List Assertion). fold (with_new same_formula) l second) here.1
          ∙ sym (fold-append (with_new same_formula) (bounds_in (trees_in u) ps) first second),
    )

-- a table that grows
module _ (v w : TableValue) (grows : AddsTerms v w) where
  bound_stays : (p : ℕ × ℕ) → IsBoundReady (sorts_in v) (trees_in v) p → IsBoundReady (sorts_in w) (trees_in w) p
  bound_stays p ready =
      let wide = widens_grown v w grows in
      let far = longer v w wide in
      let has = λ (n : ℕ) (h : n < length (trees_in v)) (s : HasSort (sorts_in v) Num (tree_at (trees_in v) n)).
      subst (λ (t : Tree). HasSort (sorts_in w) Num t) (sym (tree_stays v w wide n h))
      (subst (λ (f : Sorts). HasSort f Num (tree_at (trees_in v) n)) (sym grows.sorts) s) in (
        omega (arith, far, ready.0),
        omega (arith, far, ready.1),
        has p.0 ready.0 ready.2,
        has p.1 ready.1 ready.3,
      )

  pub bounds_grown : (ps : List (ℕ × ℕ)) → AddsBounds v w ps ps []
  bounds_grown [] ready = (tt, refl)
  bounds_grown (p ∷ ps) ready =
      let wide = widens_grown v w grows in
      let rest = bounds_grown ps ready.1 in (
        (bound_stays p ready.0, rest.0),
        (λ k. Le (tree_stays v w wide p.0 ready.0.0 k) (tree_stays v w wide p.1 ready.0.1 k) ∷ rest.1 k),
      )

-- some are put there after the table has grown
pub bounds_after : (u v w : TableValue) → AddsTerms u v → (ps qs : List (ℕ × ℕ)) (more : List Assertion) → AddsBounds v w ps qs more →
    AddsBounds u w ps qs more
bounds_after u v w grows ps qs more added = bounds_then u v w ps ps qs [] more (bounds_grown u v grows ps) added

-- whether two pairs of numbers are the same
abbrev pub same_pair : ℕ × ℕ → ℕ × ℕ → Bool
same_pair p q = (p.0 == q.0) && (p.1 == q.1)

-- numbers of a table are the same exactly where their trees are
module _ (v : TableValue) (apart : AreApart (trees_in v)) where
  same_at : (i j : ℕ) → i < length (trees_in v) → j < length (trees_in v) →
      same_tree (tree_at (trees_in v) i) (tree_at (trees_in v) j) ≡ (i == j)
  same_at i j h g = by (same_tree (tree_at (trees_in v) i) (tree_at (trees_in v) j)) (i == j) refl refl
    where
      by : (a b : Bool) → same_tree (tree_at (trees_in v) i) (tree_at (trees_in v) j) ≡ a → (i == j) ≡ b → a ≡ b
      by true true e f = refl
      by false false e f = refl
      by true false e f =
          absurd (let same : i ≡ j = apart i j h g ((same_tree_is (tree_at (trees_in v) i) (tree_at (trees_in v) j)).0 e) in
          let other : true ≡ false = sym (eq-eqb i j same) ∙ f in cc)
      by false true e f =
          absurd (let same : tree_at (trees_in v) i ≡ tree_at (trees_in v) j = ap (tree_at (trees_in v)) (eqb-true i j f) in
          let other : true ≡ false = sym ((same_tree_is (tree_at (trees_in v) i) (tree_at (trees_in v) j)).1 same) ∙ e in cc)

  any_at : (p : ℕ × ℕ) (qs : List (ℕ × ℕ)) → IsBoundReady (sorts_in v) (trees_in v) p → AreBoundsReady (sorts_in v) (trees_in v) qs →
      list_any (same_formula (bound_in (trees_in v) p)) (bounds_in (trees_in v) qs) ≡ list_any (same_pair p) qs
  any_at p [] one all = refl
  any_at p (q ∷ qs) one all = λ k.
      (same_at p.0 q.0 one.0 all.0.0 k && same_at p.1 q.1 one.1 all.0.1 k) || any_at p qs one all.1 k

  ready_push : (ps : List (ℕ × ℕ)) (p : ℕ × ℕ) → AreBoundsReady (sorts_in v) (trees_in v) ps → IsBoundReady (sorts_in v) (trees_in v) p →
      AreBoundsReady (sorts_in v) (trees_in v) (ps ++ p ∷ [])
  ready_push [] p all one = (one, tt)
  ready_push (q ∷ ps) p all one = (all.0, ready_push ps p all.1 one)

  -- one is put there
  pub bound_put : (ps qs : List (ℕ × ℕ)) (p : ℕ × ℕ) → qs ≡ (if list_any (same_pair p) ps then ps else ps ++ p ∷ []) →
      IsBoundReady (sorts_in v) (trees_in v) p → AddsBounds v v ps qs (bound_in (trees_in v) p ∷ [])
  bound_put ps qs p keys one all =
      subst (λ (rs : List (ℕ × ℕ)).
      AreBoundsReady (sorts_in v) (trees_in v) rs
      × (bounds_in (trees_in v) rs ≡ with_new same_formula (bounds_in (trees_in v) ps) (bound_in (trees_in v) p))) (sym keys)
      (by (list_any (same_pair p) ps) (any_at p ps one all))
    where
      by : (b : Bool) → list_any (same_formula (bound_in (trees_in v) p)) (bounds_in (trees_in v) ps) ≡ b →
          AreBoundsReady (sorts_in v) (trees_in v) (if b then ps else ps ++ p ∷ [])
          × (bounds_in (trees_in v) (if b then ps else ps ++ p ∷ [])
          ≡ with_new same_formula (bounds_in (trees_in v) ps) (bound_in (trees_in v) p))
      by true e = (
        all,
        ap (λ (b : Bool). if b then bounds_in (trees_in v) ps else bounds_in (trees_in v) ps ++ bound_in (trees_in v) p ∷ []) (sym e),
      )
      by false e = (
        ready_push ps p all one,
        map-append (bound_in (trees_in v)) ps (p ∷ [])
            ∙ ap (λ (b : Bool). if b then bounds_in (trees_in v) ps else bounds_in (trees_in v) ps ++ bound_in (trees_in v) p ∷ [])
            (sym e),
      )

-- a pair at a place is ready
bound_at : (sorts : Sorts) (trees : List Tree) (ps : List (ℕ × ℕ)) (i : ℕ) (d : ℕ × ℕ) → AreBoundsReady sorts trees ps → i < length ps →
    IsBoundReady sorts trees (get_or ps i d)
bound_at sorts trees [] i d all h = absurd (omega arith)
bound_at sorts trees (q ∷ ps) zero d all h = all.0
bound_at sorts trees (q ∷ ps) (suc i) d all h = bound_at sorts trees ps i d all.1 (omega arith)

-- the inequality of one pair more
pub bound_added : (v : TableValue) (ps : List (ℕ × ℕ)) (i : ℕ) (d : ℕ × ℕ) (fs gs hs : List Formula) (f : Formula) →
    numbered f ≡ over.Le (get_or ps i d).0 (get_or ps i d).1 → i < length ps → AreBoundsReady (sorts_in v) (trees_in v) ps →
    hs ≡ gs ++ f ∷ [] →
    AddsForms v v fs gs (bounds_in (trees_in v) (take i ps)) → AddsForms v v fs hs (bounds_in (trees_in v) (take (i + 1) ps))
bound_added v ps i d fs gs hs f is h all items added =
    let form = bound_in (trees_in v) in
    let p = get_or ps i d in
    let ready = bound_at (sorts_in v) (trees_in v) ps i d all h in
    let made : IsFormMade v f (form p) =
    (subst (IsFormulaWithin (length (trees_in v))) (sym is) (ready.0, ready.1), ap (assertion_in (sorts_in v) (trees_in v)) is) in
    subst (λ (l : List Formula). AddsForms v v fs l (map form (take (i + 1) ps))) (sym items)
    (subst (AddsForms v v fs (gs ++ f ∷ [])) (sym (map_more form ps i d h))
    (added_then v v v fs gs (gs ++ f ∷ []) (map form (take i ps)) (form p ∷ []) added
    (added_one v v (grows-not v v refl) gs f (form p) made (ready.2, ready.3))))

-- what a comparison suggests with one more, over the table that has it
pub has_stays : (v w : TableValue) → AddsTerms v w → (n : ℕ) → n < length (trees_in v) → HasSort (sorts_in v) Num (tree_at (trees_in v) n) →
    HasSort (sorts_in w) Num (tree_at (trees_in w) n)
has_stays v w grows n h has =
    let wide = widens_grown v w grows in
    subst (HasSort (sorts_in w) Num) (sym (tree_stays v w wide n h))
    (subst (λ (f : Sorts). HasSort f Num (tree_at (trees_in v) n)) (sym grows.sorts) has)

pub next_has : (v w : TableValue) → AddsTerms v w → (n m : ℕ) → HasSort (sorts_in v) Num (tree_at (trees_in v) n) →
    slice_get (trees_in w) m ≡ Some (next_to (tree_at (trees_in v) n)) → HasSort (sorts_in w) Num (tree_at (trees_in w) m)
next_has v w grows n m has made =
    let one = tree_at (trees_in v) n in
    let moved = subst (λ (f : Sorts). HasSort f Num one) (sym grows.sorts) has in
    subst (HasSort (sorts_in w) Num) (sym (tree_got (trees_in w) m (next_to one) made)) ((moved.0, moved.1, tt, refl), refl)

pub next_added : (v w : TableValue) → AddsTerms v w → (n m k : ℕ) (ps qs : List (ℕ × ℕ)) → n < length (trees_in v) →
    slice_get (trees_in w) k ≡ Some (next_to (tree_at (trees_in v) m)) →
    AddsBounds w w ps qs (Le (tree_at (trees_in w) n) (tree_at (trees_in w) k) ∷ []) →
    AddsBounds v w ps qs (Le (tree_at (trees_in v) n) (next_to (tree_at (trees_in v) m)) ∷ [])
next_added v w grows n m k ps qs h made added =
    let wide = widens_grown v w grows in
    let next = next_to (tree_at (trees_in v) m) in
    subst (AddsBounds v w ps qs) (λ j. Le (tree_stays v w wide n h j) (tree_got (trees_in w) k next made j) ∷ [])
    (bounds_after v w w grows ps qs (Le (tree_at (trees_in w) n) (tree_at (trees_in w) k) ∷ []) added)
