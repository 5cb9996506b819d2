-- Output by output.
use Rattle.sm_replay.proofs.Imports.{◌≡◌, Option, sym, ap, subst, ◌∙◌, get_or, map, Name, Sort, Num, Cell, variable, sorts_of, end_in, sorted_by, NamesBreak}
use Rattle.std.specs.Option.{unwrap_or}
use Rattle.sm_replay.proofs.FirstBreakSound.{found_at}
use Rattle.sm_replay.proofs.FirstBreakOutputs.{output_at, kept_more, outputs_kept}
use Rattle.sm_replay.proofs.first_break.verdict_on.Goals as goal

pub loop-x-preserved : goal.loop-x-preserved
loop-x-preserved c =
    let sorts = sorts_of c.args.ends.now.base in
    let x = (get_or c.args.outputs.now c.loop-x.x-index (record { 0 = 0 })).0 in
    kept_more (sorted_by sorts (map (λ (x : Name). x.0) c.args.outputs.now)) (end_in c.args.ends.now) c.loop-x.x-index
    (x, unwrap_or (sorts x) Num)
    (output_at sorts c.args.outputs.now c.loop-x.x-index (record { 0 = 0 }) c.loop-x-test.true)
    (λ (cell : Cell) (own : variable cell ≡ (x, unwrap_or (sorts x) Num)).
    c.in_default.ensures.none cell (own ∙ ap (λ (o : Option Sort). (x, unwrap_or o Num)) (sym c.sort.ensures)))
    c.loop-x.invariant

pub returns-in-Some : goal.returns-in-Some
returns-in-Some c =
    let sorts = sorts_of c.args.ends.now.base in
    let x = (get_or c.args.outputs.now c.loop-x.x-index (record { 0 = 0 })).0 in
    found_at (sorted_by sorts (map (λ (x : Name). x.0) c.args.outputs.now)) (end_in c.args.ends.now) c.loop-x.x-index
    (x, unwrap_or (sorts x) Num) c.in-Some.verdict
    (output_at sorts c.args.outputs.now c.loop-x.x-index (record { 0 = 0 }) c.loop-x-test.true) c.loop-x.invariant
    (subst (λ (o : Option Sort). NamesBreak (x, unwrap_or o Num) (end_in c.args.ends.now) c.in-Some.verdict) c.sort.ensures
    c.in-Some.ensures.some)

pub returns : goal.returns
returns c =
    outputs_kept (sorts_of c.args.ends.now.base) c.args.outputs.now
    (end_in c.args.ends.now) c.loop-x.x-index c.loop-x-test.false c.loop-x.invariant
