use Rattle.sm_text.proofs.Imports.{ℕ, take, sym, subst, is_ascii_digit, AllPass}
use Rattle.sm_text.proofs.Cut.Fronts.{AllPass-run}
use Rattle.sm_text.proofs.lexing.front.number_at.Goals as goal

pub value_of-requires : goal.value_of-requires
value_of-requires c =
    let Digits : ℕ → Type 0 = λ n. AllPass is_ascii_digit (take n c.args.bytes.now) in
    subst Digits (sym c.digits_size-size.ensures) (AllPass-run is_ascii_digit c.args.bytes.now)
