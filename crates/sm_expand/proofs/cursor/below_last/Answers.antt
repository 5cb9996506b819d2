-- The turns of loops, and what stands after them.
use Rattle.sm_expand.proofs.Imports.{◌≡◌, [], ◌∷◌, ◌++◌, map, sym, ◌∙◌, IfOk-weaker, Vec, Global, below, list_of, numbered_at, numbered_plan, numbered_last, out-Plans}
use Rattle.sm_expand.specs.Cursors.{Cursor}
use Rattle.sm_expand.proofs.RowsLemmas.{loop_below}
use Rattle.sm_expand.proofs.cursor.below_last.Goals as goal

pub returns-in-Loop : goal.returns-in-Loop
returns-in-Loop c =
    let l = c.in-Loop in
    let turns : c.as_slice.result.now ≡ (out-Plans l.turns).list.items = c.as_slice.ensures.value in
    let after : c.deref-in-Loop.result.now ≡ l.after.value = c.deref-in-Loop.ensures in
    let all : map numbered_plan c.as_slice.result.now ++ numbered_plan c.deref-in-Loop.result.now ∷ []
    ≡ list_of (below (numbered_last c.args.last.now)) =
    (λ i. map numbered_plan (turns i) ++ numbered_plan (after i) ∷ [])
    ∙ sym (loop_below c.args.last.now l.set l.keep l.turns l.after l.is) in
    IfOk-weaker c.all_and.result
    (λ (cs : Vec Cursor Global). map numbered_at cs.items ≡ map numbered_plan c.as_slice.result.now
    ++ numbered_plan c.deref-in-Loop.result.now ∷ [])
    (λ (cs : Vec Cursor Global). map numbered_at cs.items ≡ list_of (below (numbered_last c.args.last.now)))
    (λ cs e. e ∙ all) c.all_and.ensures
