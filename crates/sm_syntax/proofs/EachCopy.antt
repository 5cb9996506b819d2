-- What holds of each of the four copies holds of every copy.
use Rattle.sm_syntax.specs.claim.ConflictFree.{Copy, O, A, B, M}

-- what holds of the four copies one by one holds of every copy
pub each_copy : (P : Copy → Type 0) → P O → P A → P B → P M → (c : Copy) → P c
each_copy P o a b m O = o
each_copy P o a b m A = a
each_copy P o a b m B = b
each_copy P o a b m M = m
