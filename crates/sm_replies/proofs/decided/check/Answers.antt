use Rattle.sm_replies.proofs.Imports.{◌≡◌, ◌∙◌, ◌∷◌, [], ℤ, ap, codes, of_z, refl, rules, to_z, signed_decimal, goal_line, op_word, too_many_line, Unknown, Goal, TooMany, reach_of}
use Rattle.std.specs.Int.{w128}
use Rattle.sm_houdini.proofs.ShortLines.{valid_searchable}
use Rattle.sm_houdini.specs.Outcomes as plain
use Rattle.sm_houdini.specs.declared.outcome.Outcome.TheVariants as outcome
use Rattle.sm_task.specs.Tasks.{parts_of}
use Rattle.sm_why.specs.declared.stop.Manner.TheVariants as manner
use Rattle.sm_replies.proofs.CheckAnswers.{shown_answers, shown_rests, conflict_answers, conflict_comes, conflict_rests, undecided_answers, undecided_comes, undecided_rests}
use Rattle.sm_replies.proofs.SpelledLemmas.{is_spelled, least_trial, noted_by, outcome_so}
use Rattle.sm_replies.proofs.decided.check.Goals as goal

pub search-requires-clause-runs : goal.search-requires-clause-runs
search-requires-clause-runs g c = λ κs within. (is_spelled (parts_of c.args.task.now) c.requires.spelled).runs

pub search-requires-clause-searchable : goal.search-requires-clause-searchable
search-requires-clause-searchable g c = λ κs within.
    let t = parts_of c.args.task.now in
    (valid_searchable t (is_spelled t c.requires.spelled).valid).0

pub search-requires-clause-sorted : goal.search-requires-clause-sorted
search-requires-clause-sorted g c = λ κs within. (is_spelled (parts_of c.args.task.now) c.requires.spelled).sorted

pub search-requires-clause-numbered : goal.search-requires-clause-numbered
search-requires-clause-numbered g c = λ κs within. (is_spelled (parts_of c.args.task.now) c.requires.spelled).numbered

pub conflict-requires-clause-named : goal.conflict-requires-clause-named
conflict-requires-clause-named g c = (is_spelled (parts_of c.args.task.now) c.requires.spelled).named

pub conflict-requires-clause-least : goal.conflict-requires-clause-least
conflict-requires-clause-least g c =
    least_trial (parts_of c.args.task.now) (reach_of c.args.effort) c.args.effort.turns c.in-Conflict.trial c.in-Conflict.verdict
    (outcome_so (parts_of c.args.task.now) (reach_of c.args.effort) c.args.effort.turns c.in_ok-outcome.outcome
    (outcome.Conflict c.in-Conflict.trial c.in-Conflict.verdict) c.in-Conflict.is c.in_ok-outcome.ensures.outcome)

pub left_open-requires : goal.left_open-requires
left_open-requires g c = (is_spelled (parts_of c.args.task.now) c.requires.spelled).runs

pub out_of_steps-requires : goal.out_of_steps-requires
out_of_steps-requires g c = (is_spelled (parts_of c.args.task.now) c.requires.spelled).runs

pub out_of_range-requires : goal.out_of_range-requires
out_of_range-requires g c = (is_spelled (parts_of c.args.task.now) c.requires.spelled).runs

pub too_many-requires : goal.too_many-requires
too_many-requires g c = (is_spelled (parts_of c.args.task.now) c.requires.spelled).runs

pub returns-in-Accepted-clause-answers : goal.returns-in-Accepted-clause-answers
returns-in-Accepted-clause-answers g c =
    let t = parts_of c.args.task.now in
    let e = c.args.effort in
    shown_answers t e c.shown_by.result
    (outcome_so t (reach_of e) e.turns c.in_ok-outcome.outcome (outcome.Accepted c.in-Accepted.proof) c.in-Accepted.is
    c.in_ok-outcome.ensures.outcome)
    c.shown_by.ensures.free c.shown_by.ensures.says

pub returns-in-Accepted-clause-ground : goal.returns-in-Accepted-clause-ground
returns-in-Accepted-clause-ground g c =
    shown_rests (parts_of c.args.task.now) c.args.effort c.shown_by.result c.shown_by.ensures.says c.shown_by.ensures.ground

pub returns-in-Conflict-clause-answers : goal.returns-in-Conflict-clause-answers
returns-in-Conflict-clause-answers g c =
    let t = parts_of c.args.task.now in
    let e = c.args.effort in
    let f = c.in-Conflict in
    conflict_answers t e f.trial f.verdict c.conflict.result
    (outcome_so t (reach_of e) e.turns c.in_ok-outcome.outcome (outcome.Conflict f.trial f.verdict) f.is c.in_ok-outcome.ensures.outcome)
    c.conflict.ensures.shows

pub returns-in-Conflict-clause-proof : goal.returns-in-Conflict-clause-proof
returns-in-Conflict-clause-proof g c =
    conflict_comes (parts_of c.args.task.now) c.conflict.result c.conflict.ensures.none c.conflict.ensures.ground

pub returns-in-Conflict-clause-ground : goal.returns-in-Conflict-clause-ground
returns-in-Conflict-clause-ground g c =
    conflict_rests (parts_of c.args.task.now) c.args.effort c.conflict.result c.conflict.ensures.ground

pub returns-in-Open-clause-answers : goal.returns-in-Open-clause-answers
returns-in-Open-clause-answers g c =
    let t = parts_of c.args.task.now in
    let e = c.args.effort in
    let f = c.in-Open in
    undecided_answers t e (plain.Open f.node f.goal) (goal_line (codes "Open") f.node f.goal []) (Goal manner.Open f.goal)
    (outcome_so t (reach_of e) e.turns c.in_ok-outcome.outcome (outcome.Open f.node f.goal) f.is c.in_ok-outcome.ensures.outcome)
    (λ status text said. said) c.left_open.result c.left_open.ensures

pub returns-in-Open-clause-proof : goal.returns-in-Open-clause-proof
returns-in-Open-clause-proof g c =
    let f = c.in-Open in
    undecided_comes (parts_of c.args.task.now) (goal_line (codes "Open") f.node f.goal []) (Goal manner.Open f.goal)
    c.left_open.result c.left_open.ensures

pub returns-in-Open-clause-ground : goal.returns-in-Open-clause-ground
returns-in-Open-clause-ground g c =
    let t = parts_of c.args.task.now in
    let e = c.args.effort in
    let f = c.in-Open in
    undecided_rests t e (plain.Open f.node f.goal) (goal_line (codes "Open") f.node f.goal []) (Goal manner.Open f.goal)
    (outcome_so t (reach_of e) e.turns c.in_ok-outcome.outcome (outcome.Open f.node f.goal) f.is c.in_ok-outcome.ensures.outcome)
    refl c.left_open.result c.left_open.ensures

pub returns-in-Steps-clause-answers : goal.returns-in-Steps-clause-answers
returns-in-Steps-clause-answers g c =
    let t = parts_of c.args.task.now in
    let e = c.args.effort in
    let f = c.in-Steps in
    undecided_answers t e (plain.Steps f.node f.goal) (goal_line (codes "Steps") f.node f.goal []) (Goal manner.Steps f.goal)
    (outcome_so t (reach_of e) e.turns c.in_ok-outcome.outcome (outcome.Steps f.node f.goal) f.is c.in_ok-outcome.ensures.outcome)
    (λ status text said. said) c.out_of_steps.result c.out_of_steps.ensures

pub returns-in-Steps-clause-proof : goal.returns-in-Steps-clause-proof
returns-in-Steps-clause-proof g c =
    let f = c.in-Steps in
    undecided_comes (parts_of c.args.task.now) (goal_line (codes "Steps") f.node f.goal []) (Goal manner.Steps f.goal)
    c.out_of_steps.result c.out_of_steps.ensures

pub returns-in-Steps-clause-ground : goal.returns-in-Steps-clause-ground
returns-in-Steps-clause-ground g c =
    let t = parts_of c.args.task.now in
    let e = c.args.effort in
    let f = c.in-Steps in
    undecided_rests t e (plain.Steps f.node f.goal) (goal_line (codes "Steps") f.node f.goal []) (Goal manner.Steps f.goal)
    (outcome_so t (reach_of e) e.turns c.in_ok-outcome.outcome (outcome.Steps f.node f.goal) f.is c.in_ok-outcome.ensures.outcome)
    refl c.out_of_steps.result c.out_of_steps.ensures

pub returns-in-Coefficient-clause-answers : goal.returns-in-Coefficient-clause-answers
returns-in-Coefficient-clause-answers g c =
    let t = parts_of c.args.task.now in
    let e = c.args.effort in
    let f = c.in-Coefficient in
    let first : to_z w128 (of_z w128 f.a) ≡ f.a = search rules in
    let second : to_z w128 (of_z w128 f.b) ≡ f.b = search rules in
    let spelled = λ (y z : ℤ). goal_line (codes "Coefficient") f.node f.goal (op_word f.op ∷ signed_decimal y ∷ signed_decimal z ∷ []) in
    let printed = spelled (to_z w128 (of_z w128 f.a)) (to_z w128 (of_z w128 f.b)) in
    undecided_answers t e (plain.Coefficient f.node f.goal f.op f.a f.b) printed (Goal manner.Coefficient f.goal)
    (outcome_so t (reach_of e) e.turns c.in_ok-outcome.outcome (outcome.Coefficient f.node f.goal f.op f.a f.b) f.is
    c.in_ok-outcome.ensures.outcome)
    (λ status text said.
    noted_by t Unknown status (spelled f.a f.b) printed text
    (ap (λ (y : ℤ). spelled y (to_z w128 (of_z w128 f.b))) first ∙ ap (λ (z : ℤ). spelled f.a z) second) said)
    c.out_of_range.result c.out_of_range.ensures

pub returns-in-Coefficient-clause-proof : goal.returns-in-Coefficient-clause-proof
returns-in-Coefficient-clause-proof g c =
    let f = c.in-Coefficient in
    undecided_comes (parts_of c.args.task.now) _ (Goal manner.Coefficient f.goal) c.out_of_range.result c.out_of_range.ensures

pub returns-in-Coefficient-clause-ground : goal.returns-in-Coefficient-clause-ground
returns-in-Coefficient-clause-ground g c =
    let t = parts_of c.args.task.now in
    let e = c.args.effort in
    let f = c.in-Coefficient in
    undecided_rests t e (plain.Coefficient f.node f.goal f.op f.a f.b) _ (Goal manner.Coefficient f.goal)
    (outcome_so t (reach_of e) e.turns c.in_ok-outcome.outcome (outcome.Coefficient f.node f.goal f.op f.a f.b) f.is
    c.in_ok-outcome.ensures.outcome)
    refl c.out_of_range.result c.out_of_range.ensures

pub returns-in-TooMany-clause-answers : goal.returns-in-TooMany-clause-answers
returns-in-TooMany-clause-answers g c =
    let t = parts_of c.args.task.now in
    let e = c.args.effort in
    undecided_answers t e plain.TooMany too_many_line TooMany
    (outcome_so t (reach_of e) e.turns c.in_ok-outcome.outcome outcome.TooMany c.in-TooMany.is c.in_ok-outcome.ensures.outcome)
    (λ status text said. said) c.too_many.result c.too_many.ensures

pub returns-in-TooMany-clause-proof : goal.returns-in-TooMany-clause-proof
returns-in-TooMany-clause-proof g c =
    undecided_comes (parts_of c.args.task.now) too_many_line TooMany c.too_many.result c.too_many.ensures

pub returns-in-TooMany-clause-ground : goal.returns-in-TooMany-clause-ground
returns-in-TooMany-clause-ground g c =
    let t = parts_of c.args.task.now in
    let e = c.args.effort in
    undecided_rests t e plain.TooMany too_many_line TooMany
    (outcome_so t (reach_of e) e.turns c.in_ok-outcome.outcome outcome.TooMany c.in-TooMany.is c.in_ok-outcome.ensures.outcome)
    refl c.too_many.result c.too_many.ensures
