-- The members of an input as they are written one by one, from values inside 128 bits. No public
-- clause cites it.
use Rattle.std.specs.Prelude.{◌≡◌, ℕ, ℤ, pos, true, false, Option, Some, None, List}
use Rattle.serde_json.specs.Data.{Data, Members, put}
use Rattle.sm_num.specs.Range.{fits}
use Rattle.sm_syntax.specs.text.Sorts.{Sorts}
use Rattle.sm_syntax.specs.declared.tree.Sort.{Sort}
use Rattle.sm_syntax.specs.claim.Stores.{Value, Number, Array, Store}
use Rattle.sm_replay.specs.Input.{Texts, declared_name}
use Rattle.sm_replay.specs.InputText.{IsWrittenAs}

-- a value inside 128 bits: a number, or an array of such numbers that has 0 at each index beyond
-- 128 bits
abbrev pub IsInside : Value → Type 0
IsInside (Number z) = fits z ≡ true
IsInside (Array f) = (i : ℤ) → (fits (f i) ≡ true) × (fits i ≡ false → f i ≡ pos 0)

-- the value of a declared name, where there is one, is inside 128 bits
abbrev pub IsInsideAt : Store → Option (ℕ × Sort) → Type 0
IsInsideAt s None = Unit {0}
IsInsideAt s (Some x) = IsInside (s x.0)

-- the value of each declared name that has a text is inside 128 bits
abbrev pub AreInside : Texts → Sorts → Store → Type 0
AreInside names sorts s = (key : List ℕ) → IsInsideAt s (declared_name names sorts key)

-- the members get the value of the declared name whose text is the key, where there is one
abbrev pub Writes : Store → Option (ℕ × Sort) → List ℕ → Members → Members → Type 0
Writes s None key old new = new ≡ old
Writes s (Some x) key old new =
    (value : Data) × IsWrittenAs (s x.0) value × (new ≡ put key value old)
