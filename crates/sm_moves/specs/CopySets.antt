-- Cited by public clauses: sets of copies, as far as products need more than plans do.
use Rattle.std.specs.Prelude.{true, not, ◌&&◌, ◌||◌, if◌then◌else◌, List, [], ◌∷◌, filter}
use Rattle.sm_syntax.specs.claim.Syntax.{Code, End}
use Rattle.sm_syntax.specs.claim.ConflictFree.{Copy, O, A, B, M}
use Rattle.sm_term.specs.SameTerms.{is_copy}
use Rattle.sm_plan.specs.Copies.{Copies, copies, copies_that, has}

-- all four copies
abbrev pub all_copies : Copies
all_copies = copies_that (λ (c : Copy). true)

-- the copies of a set, ascending
abbrev pub members : Copies → List Copy
members set = filter (has set) copies

-- a set with one more copy
abbrev pub with_member : Copies → Copy → Copies
with_member set c = copies_that (λ (d : Copy). is_copy c d || has set d)

-- the copies of a set that are not in another
abbrev pub without : Copies → Copies → Copies
without set other = copies_that (λ (c : Copy). has set c && not (has other c))

-- the code of the copies of a set, nothing for the others
abbrev pub only_in : Copies → (Copy → Code) → Copy → Code
only_in set code c = if has set c then code c else End

-- two copies, the lesser one first, in order
abbrev pub pairs : List (Copy × Copy)
pairs = (O, A) ∷ (O, B) ∷ (O, M) ∷ (A, B) ∷ (A, M) ∷ (B, M) ∷ []
