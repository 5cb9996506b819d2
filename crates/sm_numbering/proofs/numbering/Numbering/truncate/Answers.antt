-- At the end of the loop so many values are left as were asked.
use Rattle.std.proofs.Common.{◌≡◌, ◌-◌, take, ap, ◌∙◌, sym, arith}
use Rattle.std.proofs.lemmas.List.{take_all}
use Rattle.sm_numbering.proofs.numbering.Numbering.truncate.Goals as goal

pub returns-then-all-len : goal.returns-then-all-len
returns-then-all-len g c = sym (take_all c.args.len c.args.self.now (omega (arith, c.if-all-len.true, c.len-all.ensures)))

pub returns : goal.returns
returns g c =
    let left : c.len-all.result - (c.loop.counter - c.args.len) ≡ c.args.len =
    omega (arith, c.loop.auto.counter, c.loop.auto.counter-end, c.loop-test.false, c.if-all-len.false) in
    c.loop.invariant ∙ ap (λ n. take n c.args.self.now) left
