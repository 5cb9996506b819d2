-- What holds of the four copies, one by one.
use Rattle.sm_moves.proofs.Imports.{◌≡◌, ℕ, if◌then◌else◌, refl, ap, ◌∙◌, Code, Copy, O, A, B, M, has, with_copy, bit_of, set_of}

-- the block of a copy, where those of a set of one copy go on by their blocks
pub forked_at : (c : Copy) (n : ℕ) → n ≡ bit_of c → (old new block : Copy → Code) →
    ((d : Copy) → new d ≡ (if has (set_of n) d then block d else old d)) → (d : Copy) → new d ≡ with_copy old c (block c) d
forked_at c n e old new block h d = h d ∙ ap (λ (m : ℕ). if has (set_of m) d then block d else old d) e ∙ at c d
  where
    at : (c d : Copy) → (if has (set_of (bit_of c)) d then block d else old d) ≡ with_copy old c (block c) d
    at O O = refl
    at O A = refl
    at O B = refl
    at O M = refl
    at A O = refl
    at A A = refl
    at A B = refl
    at A M = refl
    at B O = refl
    at B A = refl
    at B B = refl
    at B M = refl
    at M O = refl
    at M A = refl
    at M B = refl
    at M M = refl
