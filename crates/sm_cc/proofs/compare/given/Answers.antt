use Rattle.sm_cc.proofs.Imports.{◌≤◌, length, ap, ◌∙◌, sym, arith, take_all, list_any}
use Rattle.sm_cc.proofs.CausesLemmas.{is_pair, is_listed-map}
use Rattle.sm_cc.proofs.compare.given.Goals as goal

pub returns : goal.returns
returns c =
    let list = c.args.list.now in
    let all : length list ≤ c.loop-g.g-index = omega (arith, c.loop-g-test.false) in
    is_listed-map list c.args.i c.args.j ∙ ap (list_any (is_pair c.args.i c.args.j)) (sym (take_all c.loop-g.g-index list all)) ∙
    c.loop-g.invariant
