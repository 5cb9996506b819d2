-- States that follow a node wait with the plans below it.
use Rattle.sm_audit.proofs.Imports.{◌≡◌, ℕ, suc, ◌+◌, ◌<◌, List, [], ◌∷◌, ◌++◌, length, map, reverse, sym, ap, ◌∙◌, subst, arith, append_assoc, length-append, reverse-append, Assertion, TableValue, trees_in, sorts_in, AreSuccessorsReady, Successor, forms_in, successor_in, NumberedPlan, NumberedPlans, plan_over, plans_over, below, list_of, IsPlanReady, ArePlansReady, numbered_at, Cursor, AllStandFor, Waits, each_waits, ArePlacedReady, weight, placed_with, PlacedState}
use Rattle.sm_expand.specs.NumberedPlans.{At, Over, More}

module _ (v : TableValue) where
  -- each stands for its own, before others
  pub opened_stand : (facts : List Assertion) (ss : List Successor) (cs : List Cursor) (ps : NumberedPlans) (ys : List Waits)
      (xs : List PlacedState) → length ss ≡ length cs → map numbered_at cs ≡ list_of ps → AllStandFor v ys xs →
      AllStandFor v
      (each_waits (map (successor_in (sorts_in v) (trees_in v) facts) ss) (plans_over (sorts_in v) (trees_in v) ps) ++ ys)
      (placed_with ss cs ++ xs)
  opened_stand facts [] cs ps ys xs h e stand = stand
  opened_stand facts (s ∷ ss) [] ps ys xs h e stand = absurd cc
  opened_stand facts (s ∷ ss) (c ∷ cs) Over ys xs h e stand = absurd cc
  opened_stand facts (s ∷ ss) (c ∷ cs) (More p ps) ys xs h e stand =
      let fewer : length ss ≡ length cs = omega arith in
      let one : numbered_at c ≡ p = cc in
      let others : map numbered_at cs ≡ list_of ps = cc in
      let own = forms_in (sorts_in v) (trees_in v) s.kept.value.list.items ++ forms_in (sorts_in v) (trees_in v) s.more.list.items in (
        record {
          facts = facts ++ own;
          state = λ i. successor_in (sorts_in v) (trees_in v) facts s;
          plan = ap (plan_over (sorts_in v) (trees_in v)) (sym one);
        },
        opened_stand facts ss cs ps ys xs fewer others stand,
      )
