-- The first obligation has as many facts as it stands for.
use Rattle.std.proofs.Common.{◌≡◌, length, ◌∙◌, arith}
use Rattle.sm_sided.proofs.DuesCounted.{first_some, first_none}
use Rattle.sm_sided.proofs.whole.first_count.Goals as goal

pub returns-in-Some : goal.returns-in-Some
returns-in-Some c = λ sorts trees.
    let d = c.in-Some.due.now in
    let e : c.len.result ≡ length d.facts.list.items = omega arith in
    e ∙ first_some sorts trees c.args.dues.now d c.in-Some.ensures.value

pub returns-in-None : goal.returns-in-None
returns-in-None c = λ sorts trees. first_none sorts trees c.args.dues.now c.in-None.ensures.value
