use Rattle.std.proofs.Common.{◌≡◌, ◌<◌, ◌^◌, None, arith, rules, ◌∙◌}
use Rattle.sm_proof.proofs.MagnitudeLemmas.{narrow_some, narrow_wide, narrow_none}
use Rattle.sm_proof.proofs.number.number_in.Goals as goal

pub returns-in_err-n : goal.returns-in_err-n
returns-in_err-n c =
    let none : c.from_residual.result ≡ None = search rules in
    let small : c.args.most < 2 ^ 64 = omega arith in
    none ∙ narrow_none c.args.most c.args.word.now (search rules) small

pub returns-then-n-from : goal.returns-then-n-from
returns-then-n-from c = narrow_some c.args.most c.in_ok-n.n c.args.word.now (search rules) (search rules)

pub returns-else-n-from : goal.returns-else-n-from
returns-else-n-from c = narrow_wide c.args.most c.in_ok-n.n c.args.word.now (search rules) (omega
    (arith, c.if-n-from.false, c.from.ensures))
