-- The condition that a task assumes, seen through a borrow or copied.
use Rattle.sm_syntax.proofs.Imports.{◌≡◌, Bor, Option, Some, None, option_map, refl, ap, ◌∙◌, is_some, option_copied, condition_of, Cond}

-- an assumption behind a borrow
pub assumed_same : (o : Option (Bor Cond)) (a : Option Cond) → option_copied o ≡ a →
    option_map (λ (b : Bor Cond). condition_of b.now) o ≡ option_map condition_of a
assumed_same o a e = go o ∙ ap (option_map condition_of) e
  where
    go : (o : Option (Bor Cond)) → option_map (λ (b : Bor Cond). condition_of b.now) o ≡ option_map condition_of (option_copied o)
    go None = refl
    go (Some b) = refl

-- there is an assumption of a task where there is one of its meaning
pub some_mapped : (a : Option Cond) → is_some (option_map condition_of a) ≡ is_some a
some_mapped None = refl
some_mapped (Some b) = refl
