-- States that follow a node stand at the plans below it.
use Rattle.sm_expand.proofs.Imports.{◌≡◌, ℕ, suc, ◌+◌, ◌<◌, List, [], ◌∷◌, ◌++◌, length, map, reverse, sym, ap, ◌∙◌, subst, arith, append_assoc, length-append, reverse-append, TableValue, trees_in, sorts_in, AreSuccessorsReady, Successor, NumberedPlan, At, NumberedPlans, Over, More, plan_over, plans_over, below, list_of, IsPlanReady, ArePlansReady, numbered_at, ArePlacedReady, placed_with, PlacedState, size_of, sizes_of}
use Rattle.sm_expand.specs.Cursors.{Cursor}
use Rattle.sm_expand.specs.PlacedStates.{weight}

module _ (v : TableValue) where
  -- what a node opens can be gone on from, before others that can
  pub opened_ready : (ss : List Successor) (cs : List Cursor) (ps : NumberedPlans) (xs : List PlacedState) → length ss ≡ length cs →
      map numbered_at cs ≡ list_of ps → AreSuccessorsReady (sorts_in v) (trees_in v) ss → ArePlansReady (sorts_in v) (trees_in v) ps →
      ArePlacedReady v xs → ArePlacedReady v (placed_with ss cs ++ xs)
  opened_ready [] cs ps xs h e ready plans all = all
  opened_ready (s ∷ ss) [] ps xs h e ready plans all = absurd cc
  opened_ready (s ∷ ss) (c ∷ cs) Over xs h e ready plans all = absurd cc
  opened_ready (s ∷ ss) (c ∷ cs) (More p ps) xs h e ready plans all =
      let fewer : length ss ≡ length cs = omega arith in
      let one : numbered_at c ≡ p = cc in
      let others : map numbered_at cs ≡ list_of ps = cc in (
        record {
          state = ready.0.state;
          plan = subst (IsPlanReady (sorts_in v) (trees_in v)) (sym one) plans.0;
        },
        opened_ready ss cs ps xs fewer others ready.1 plans.1 all,
      )

-- the plans below a plan that is ready
pub plans_of : (v : TableValue) (n : NumberedPlan) → IsPlanReady (sorts_in v) (trees_in v) n →
    ArePlansReady (sorts_in v) (trees_in v) (below n)
plans_of v (At m ps) r = r.1

-- how many nodes wait
heavier : (xs ys : List PlacedState) → weight (xs ++ ys) ≡ weight xs + weight ys
heavier [] ys = let e : weight ys ≡ 0 + weight ys = omega arith in e
heavier (x ∷ xs) ys = let p = heavier xs ys in omega arith

weighs : (ss : List Successor) (cs : List Cursor) (ps : NumberedPlans) → length ss ≡ length cs → map numbered_at cs ≡ list_of ps →
    weight (placed_with ss cs) ≡ sizes_of ps
weighs [] [] Over h e = λ i. 0
weighs [] [] (More p ps) h e = absurd cc
weighs [] (c ∷ cs) ps h e = absurd cc
weighs (s ∷ ss) [] ps h e = absurd cc
weighs (s ∷ ss) (c ∷ cs) Over h e = absurd cc
weighs (s ∷ ss) (c ∷ cs) (More p ps) h e =
    let fewer : length ss ≡ length cs = omega arith in
    let one : numbered_at c ≡ p = cc in
    let others : map numbered_at cs ≡ list_of ps = cc in
    λ i. size_of (one i) + weighs ss cs ps fewer others i

below_weighs : (ss : List Successor) (cs : List Cursor) (p : NumberedPlan) → length ss ≡ length cs →
    map numbered_at cs ≡ list_of (below p) → suc (weight (placed_with ss cs)) ≡ size_of p
below_weighs ss cs (At node ps) h e =
    let one = weighs ss cs ps h e in
    let sum : suc (weight (placed_with ss cs)) ≡ 1 + sizes_of ps = omega arith in
    sum

-- a node fewer
pub opened_fewer : (ss : List Successor) (cs : List Cursor) (x : PlacedState) (xs new : List PlacedState) → length ss ≡ length cs →
    map numbered_at cs ≡ list_of (below (numbered_at x.cursor)) → new ≡ placed_with ss cs ++ xs → weight new < weight (x ∷ xs)
opened_fewer ss cs x xs new h e is =
    let a : weight new ≡ weight (placed_with ss cs) + weight xs = ap weight is ∙ heavier (placed_with ss cs) xs in
    let b = below_weighs ss cs (numbered_at x.cursor) h e in
    omega arith

-- one more state waits
pub state_put : (all left fewer : List Successor) (next : Successor) (places some less : List Cursor) (c : Cursor)
    (old new rest : List PlacedState) → left ≡ fewer ++ next ∷ [] → some ≡ less ++ c ∷ [] →
    new ≡ old ++ record { state = next.state; cursor = c } ∷ [] →
    (ds : List Successor) × (cs : List Cursor) × (all ≡ left ++ ds) × (places ≡ some ++ cs) × (length ds ≡ length cs)
    × (reverse old ≡ placed_with ds cs ++ rest) →
    (ds : List Successor) × (cs : List Cursor) × (all ≡ fewer ++ ds) × (places ≡ less ++ cs) × (length ds ≡ length cs)
    × (reverse new ≡ placed_with ds cs ++ rest)
state_put all left fewer next places some less c old new rest is which put h =
    let w : PlacedState = record { state = next.state; cursor = c } in (
      next ∷ h.0,
      c ∷ h.1,
      h.2 ∙ ap (λ (ss : List Successor). ss ++ h.0) is ∙ append_assoc fewer (next ∷ []) h.0,
      h.3 ∙ ap (λ (ss : List Cursor). ss ++ h.1) which ∙ append_assoc less (c ∷ []) h.1,
      ap suc h.4,
      ap reverse put ∙ reverse-append old (w ∷ []) ∙ ap (λ (ws : List PlacedState). w ∷ ws) h.5,
    )

-- the lists that are left have one length
pub fewer_left : (left fewer : List Successor) (next : Successor) (some less : List Cursor) (c : Cursor) → left ≡ fewer ++ next ∷ [] →
    some ≡ less ++ c ∷ [] → length left ≡ length some → length fewer ≡ length less
fewer_left left fewer next some less c is which h =
    let a = ap length is ∙ length-append fewer (next ∷ []) in
    let b = ap length which ∙ length-append less (c ∷ []) in
    omega arith

-- the last that was put in is the first
pub popped : (all rest : List PlacedState) (x : PlacedState) → all ≡ rest ++ x ∷ [] → reverse all ≡ x ∷ reverse rest
popped all rest x is = ap reverse is ∙ reverse-append rest (x ∷ [])
