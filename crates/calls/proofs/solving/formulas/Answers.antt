-- One formula more.
use Rattle.calls.proofs.Imports.{length, List, sym, subst, AreFormsSorted, trees_in, sorts_in, Formula, all_numbered, assertions_in, AreFormulasWithin}
use Rattle.calls.proofs.FormulasLemmas.{within_more, sorted_more}
use Rattle.calls.proofs.solving.formulas.Goals as goal

pub loop-fact-preserved : goal.loop-fact-preserved
loop-fact-preserved c =
    let table = c.args.scene.now.table in
    let sorts = sorts_in table in
    let trees = trees_in table in
    let f = c.in_ok-formula.field-0 in
    subst
    (λ (fs : List Formula).
    AreFormulasWithin (length trees) (all_numbered fs) × AreFormsSorted sorts (assertions_in sorts trees (all_numbered fs)))
    (sym c.in_ok-push.ensures.items) (
      within_more (length trees) c.loop-fact.list.items f c.loop-fact.invariant.0 c.in_ok-formula.ensures.within,
      sorted_more sorts trees c.loop-fact.list.items f c.loop-fact.invariant.1 c.in_ok-formula.ensures.sorted,
    )
