-- For private clauses alone: going over code from its end, with a set kept for each of its loops.
use Rattle.std.specs.Prelude.{◌≡◌, ℕ, ◌+◌, ◌≤◌, Bool, Some, length, slice_get}
use Rattle.std.specs.BTreeSet.{BTreeSet}
use Rattle.sm_syntax.specs.claim.Syntax.{Code, End, Skip, Assign, Write, If, While, Hole}
use Rattle.sm_deps.specs.declared.loops.Loops.{Loops}
use Rattle.sm_deps.specs.Inputs.{needed}
use Rattle.sm_deps.specs.Members.{members, Below}

-- how many loops code has
abbrev pub loops_in : Code → ℕ
loops_in End = 0
loops_in (Skip k) = loops_in k
loops_in (Assign x e k) = loops_in k
loops_in (Write a i e k) = loops_in k
loops_in (If b c d k) = loops_in k + loops_in c + loops_in d
loops_in (While b c k) = loops_in k + 1 + loops_in c
loops_in (Hole h k) = loops_in k

-- the loops of code have the numbers from n on, as they are met from its end, and each has the set
-- that it needs
abbrev pub HasNeeds : ℕ → Code → (ℕ → Bool) → (ℕ → ℕ → Bool) → Type 0
HasNeeds n End wanted sets = Unit {0}
HasNeeds n (Skip k) wanted sets = HasNeeds n k wanted sets
HasNeeds n (Assign x e k) wanted sets = HasNeeds n k wanted sets
HasNeeds n (Write a i e k) wanted sets = HasNeeds n k wanted sets
HasNeeds n (If b c d k) wanted sets =
    HasNeeds n k wanted sets
    × HasNeeds (n + loops_in k) c (needed k wanted) sets
    × HasNeeds (n + (loops_in k + loops_in c)) d (needed k wanted) sets
HasNeeds n (While b c k) wanted sets =
    HasNeeds n k wanted sets
    × (sets (n + loops_in k) ≡ needed (While b c k) wanted)
    × HasNeeds (n + (loops_in k + 1)) c (needed (While b c k) wanted) sets
HasNeeds n (Hole h k) wanted sets = HasNeeds n k wanted sets

-- each kept set is within the set that its loop has
abbrev pub IsWithin : Loops → (ℕ → ℕ → Bool) → Type 0
IsWithin loops sets =
    (n : ℕ) (set : BTreeSet ℕ) →
    slice_get loops.sets.items n ≡ Some set →
    Below (members set) (sets n)

-- the loop that is met next has a kept set, or is the first that has none
abbrev pub IsReady : Loops → Type 0
IsReady loops = loops.next ≤ length loops.sets.items

-- n loops were gone over, and no kept set was given up
pub record LoopsCounted (n : ℕ) (before after : Loops) : Type 0 where
  pub next : after.next ≡ before.next + n
  pub ready : IsReady after
  pub kept : length before.sets.items ≤ length after.sets.items

-- going over code from its end, from names that are wanted to names that are found: all that it
-- needs for them is found, and nothing that it doesn't need for a wider set, if each kept set is
-- within what its loop needs for that one
pub record GoesOver (c : Code) (wanted found : ℕ → Bool) (before after : Loops) : Type 0 where
  pub counted : LoopsCounted (loops_in c) before after
  pub enough : Below (needed c wanted) found
  pub no_more : (wider : ℕ → Bool) (sets : ℕ → ℕ → Bool) →
      Below wanted wider →
      HasNeeds before.next c wider sets →
      IsWithin before sets →
      Below found (needed c wider) × IsWithin after sets

-- the rounds of a loop's body: the set that is found holds the first one and what the body needs
-- for it, and is within each such set, if each kept set is within what its loop needs for that one
pub record Settles (c : Code) (first found : ℕ → Bool) (before after : Loops) : Type 0 where
  pub counted : LoopsCounted (loops_in c) before after
  pub starts : Below first found
  pub closed : Below (needed c found) found
  pub least : (whole : ℕ → Bool) (sets : ℕ → ℕ → Bool) →
      Below first whole →
      Below (needed c whole) whole →
      HasNeeds before.next c whole sets →
      IsWithin before sets →
      Below found whole × IsWithin after sets

-- a loop is met, and goes on from the set that is kept for it
pub record Resumes (first found : ℕ → Bool) (before after : Loops) : Type 0 where
  pub counted : LoopsCounted 1 before after
  pub starts : Below first found
  pub goes_on : (set : BTreeSet ℕ) →
      slice_get before.sets.items before.next ≡ Some set →
      Below (members set) found
  pub within : (sets : ℕ → ℕ → Bool) →
      Below first (sets before.next) →
      IsWithin before sets →
      Below found (sets before.next) × IsWithin after sets

-- another set is kept for loop n
pub record KeepsSet (n : ℕ) (found : ℕ → Bool) (before after : Loops) : Type 0 where
  pub counted : LoopsCounted 0 before after
  pub set : (kept : BTreeSet ℕ) → slice_get after.sets.items n ≡ Some kept → members kept ≡ found
  pub within : (sets : ℕ → ℕ → Bool) →
      Below found (sets n) →
      IsWithin before sets →
      IsWithin after sets
