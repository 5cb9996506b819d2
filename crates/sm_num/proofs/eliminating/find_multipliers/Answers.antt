-- The divisor isn't 0, since the first coefficient isn't.
use Rattle.sm_num.proofs.Imports.{◌<◌, ℕ, nat_abs, sym, subst, ◌∙◌, ap, gcd}
use Rattle.sm_num.proofs.Divisors.{gcd_is_some}
use Rattle.sm_num.proofs.KeptForms.{size_is_some}
use Rattle.sm_num.proofs.eliminating.find_multipliers.Goals as goal

pub nonzero_div-p : goal.nonzero_div-p
nonzero_div-p c =
    subst (λ (n : ℕ). 0 < n) (sym (c.common_divisor-d.ensures ∙ ap (λ (n : ℕ). gcd n c.size-2.result) c.size.ensures))
    (gcd_is_some (nat_abs c.args.a.now) c.size-2.result (size_is_some c.args.a.now c.requires.some))

pub nonzero_div-q : goal.nonzero_div-q
nonzero_div-q c =
    subst (λ (n : ℕ). 0 < n) (sym (c.common_divisor-d.ensures ∙ ap (λ (n : ℕ). gcd n c.size-2.result) c.size.ensures))
    (gcd_is_some (nat_abs c.args.a.now) c.size-2.result (size_is_some c.args.a.now c.requires.some))
