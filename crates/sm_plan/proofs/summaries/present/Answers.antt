-- The term of one name more.
use Rattle.sm_plan.proofs.Imports.{◌++◌, ◌∷◌, [], List, length, ap, ◌∙◌, arith, TermId}
use Rattle.sm_plan.proofs.SummariesLemmas.{name_at_below, terms_more}
use Rattle.sm_plan.proofs.summaries.present.Goals as goal

pub index-requires : goal.index-requires
index-requires c =
    let l = c.args.store.now.list in
    omega (arith, l.ok.0, name_at_below (length l.items) c.args.names.now c.loop-x.x-index (record { 0 = 0 }) c.requires c.loop-x-test.true)

pub loop-x-preserved : goal.loop-x-preserved
loop-x-preserved c =
    let l = c.args.store.now.list.items in
    let names = c.args.names.now in
    let r = c.index.result.now in
    c.in_ok-push.ensures.items
    ∙ ap (λ (ts : List TermId). ts ++ r ∷ []) c.loop-x.invariant
    ∙ terms_more l names c.loop-x.x-index (record { 0 = 0 }) r c.loop-x-test.true
    (name_at_below (length l) names c.loop-x.x-index (record { 0 = 0 }) c.requires c.loop-x-test.true) c.index.ensures
