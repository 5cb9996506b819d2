-- Nothing was logged.
use Rattle.sm_cc.proofs.Imports.{◌≡◌, ℕ, ◌≤◌, None, Some, List, [], length, slice_get, sym, ap, ◌∙◌, subst, arith, AllFollow, AllRooted, placed_with}
use Rattle.sm_cc.specs.Log.{Entry}
use Rattle.sm_cc.specs.Closures.{Equation}
use Rattle.sm_cc.proofs.growing.unmerged.Goals as goal

pub completed-requires-clause-follow : goal.completed-requires-clause-follow
completed-requires-clause-follow c =
    subst (AllFollow (placed_with c.args.rows.items c.args.equal.items c.args.unequal.items)) (sym c.new.ensures.items)
    (λ (m : ℕ) (e : Entry) (h : None ≡ Some e). absurd cc)

pub completed-requires-clause-rooted : goal.completed-requires-clause-rooted
completed-requires-clause-rooted c =
    subst (AllRooted c.new.result.items) (sym c.new-2.ensures.items) (λ (i : ℕ) (r : Equation) (h : None ≡ Some r). absurd cc)

pub completed-requires-clause-few : goal.completed-requires-clause-few
completed-requires-clause-few c = let none = ap length c.new-2.ensures.items in omega (arith, none)

pub returns-clause-given : goal.returns-clause-given
returns-clause-given c =
    let made = c.in_ok-made.ensures in
    λ i. placed_with (made.rows i).items (made.equal i).items (made.unequal i).items
