-- A list goes on, a contradiction goes back, and the rest ends the decision.
use Rattle.sm_exact.proofs.Imports.{◌≡◌, rules, sym, subst, to_z-of_z, w128}
use mir.Val.{SFits}
use Rattle.sm_exact.proofs.TurnLemmas.{turns_list, turns_back, steps_end, beyond_ends}
use Rattle.sm_exact.proofs.deciding.turn.Goals as goal

pub returns-in-List : goal.returns-in-List
returns-in-List c =
    turns_list c.args.steps c.args.frames.now.items c.go_on.new.frames.items c.args.s c.args.entry c.in-List.forms c.in-List.count
    c.go_on.result c.in-List.is c.go_on.ensures

pub returns-in-Refuted : goal.returns-in-Refuted
returns-in-Refuted c =
    turns_back c.args.steps c.args.frames.now.items c.go_back.new.frames.items c.args.s c.args.entry c.in-Refuted.count
    c.go_back.result c.in-Refuted.is c.go_back.ensures

pub returns-in-Steps : goal.returns-in-Steps
returns-in-Steps c = λ whole never stands given.
    steps_end c.args.steps c.args.frames.now.items c.args.s c.args.entry whole c.in-Steps.is stands

pub returns-in-Beyond : goal.returns-in-Beyond
returns-in-Beyond c = λ whole never stands given.
    let fits_a : SFits w128 c.in-Beyond.a = search rules in
    let fits_b : SFits w128 c.in-Beyond.b = search rules in
    rw (to_z-of_z w128 c.in-Beyond.a fits_a, to_z-of_z w128 c.in-Beyond.b fits_b)
    (beyond_ends c.args.steps c.args.frames.now.items c.args.s c.args.entry whole c.in-Beyond.op c.in-Beyond.a c.in-Beyond.b c.in-Beyond.is
    stands)
