use Rattle.sm_proof.proofs.Imports.{◌≡◌, ◌≢◌, ◌<◌, ◌^◌, ◌-◌, ℕ, suc, Some, None, ap, sym, arith, rules, ◌∙◌, number_in}
use Rattle.sm_proof.proofs.MagnitudeLemmas.{negative_some, negative_none, below_zero}
use Rattle.sm_proof.proofs.NumberLemmas.{number_back}
use Rattle.sm_proof.proofs.number.negative.Goals as goal

low : (n : ℕ) (word : _) → Some n ≡ number_in (2 ^ 127) word → n ≢ 0 → n - 1 < 2 ^ 127
low n word is some = omega (arith, (number_back (2 ^ 127) n word (sym is)).0)

pub returns-in_err-n : goal.returns-in_err-n
returns-in_err-n c =
    let none : c.from_residual.result ≡ None = search rules in
    let unread : None ≡ number_in (2 ^ 127) c.args.digits.now = search rules in
    none ∙ negative_none c.args.digits.now (λ n is. cc)

pub overflow_cast-result : goal.overflow_cast-result
overflow_cast-result c = record { sfits = low c.in_ok-n.n c.args.digits.now (search rules) c.if-n-eq0.false }

pub returns-then-n-eq0 : goal.returns-then-n-eq0
returns-then-n-eq0 c =
    let read : Some c.in_ok-n.n ≡ number_in (2 ^ 127) c.args.digits.now = search rules in
    negative_none c.args.digits.now
    (λ n is. let same : suc n ≡ c.in_ok-n.n = cc in omega (arith, c.if-n-eq0.true))

pub returns-else-n-eq0 : goal.returns-else-n-eq0
returns-else-n-eq0 c =
    let n = c.in_ok-n.n in
    let read : Some n ≡ number_in (2 ^ 127) c.args.digits.now = search rules in
    let same : n ≡ suc (n - 1) = omega (arith, c.if-n-eq0.false) in
    ap Some (below_zero (n - 1) (low n c.args.digits.now read c.if-n-eq0.false))
    ∙ negative_some c.args.digits.now (n - 1) (ap Some (sym same) ∙ read)
