use Rattle.sm_proof.proofs.Imports.{◌≡◌, ◌<◌, ◌^◌, Some, None, ap, arith, rules, ◌∙◌, number_in}
use Rattle.sm_proof.proofs.MagnitudeLemmas.{positive_some, positive_none, to_z_small}
use Rattle.sm_proof.proofs.number.positive.Goals as goal

pub returns-in_err-n : goal.returns-in_err-n
returns-in_err-n c =
    let none : c.from_residual.result ≡ None = search rules in
    let unread : None ≡ number_in (2 ^ 127) c.args.word.now = search rules in
    none ∙ positive_none c.args.word.now (search rules) (λ n low is. cc)

pub returns-then-n-lt-HALF : goal.returns-then-n-lt-HALF
returns-then-n-lt-HALF c =
    let low : c.in_ok-n.n < 2 ^ 127 = omega (arith, c.if-n-lt-HALF.true) in
    ap Some (to_z_small c.in_ok-n.n low) ∙ positive_some c.args.word.now c.in_ok-n.n (search rules) low

pub returns-else-n-lt-HALF : goal.returns-else-n-lt-HALF
returns-else-n-lt-HALF c =
    let read : Some c.in_ok-n.n ≡ number_in (2 ^ 127) c.args.word.now = search rules in
    positive_none c.args.word.now (search rules)
    (λ n low is. let same : n ≡ c.in_ok-n.n = cc in omega (arith, c.if-n-lt-HALF.false))
