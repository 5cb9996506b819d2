-- Name by name.
use Rattle.sm_explain.proofs.Imports.{◌≢◌, ◌+◌, None, take, get_or, sym, subst, Name, Sorts, Sort, Num, meaning, numbered, AreStartLines}
use Rattle.sm_explain.proofs.StartNames.{names_more, names_all, declared_sort}
use Rattle.sm_explain.proofs.starts.lines_of.Goals as goal

pub put_name-requires : goal.put_name-requires
put_name-requires c =
    let none : Name × Sort = (record { 0 = 0 }, Num) in
    subst (λ (sorts : Sorts). sorts (get_or c.args.list.now c.loop-d.d-index none).0.0 ≢ None) (sym c.requires)
    (declared_sort c.args.list.now c.loop-d.d-index none c.loop-d-test.true)

pub loop-d-preserved : goal.loop-d-preserved
loop-d-preserved c =
    let none : Name × Sort = (record { 0 = 0 }, Num) in
    let more = c.in_ok-put_name.ensures in
    subst (AreStartLines c.args.names.now (numbered (take (c.loop-d.d-index + 1) c.args.list.now)) (meaning c.args.input.now)) (sym more.2)
    (names_more c.args.names.now (meaning c.args.input.now) c.args.list.now c.loop-d.d-index none
    c.loop-d.text.items more.0 c.loop-d-test.true c.loop-d.invariant more.1)

pub returns : goal.returns
returns c =
    names_all c.args.names.now (meaning c.args.input.now) c.args.list.now c.loop-d.d-index c.loop-d.text.items
    c.loop-d-test.false c.loop-d.invariant
