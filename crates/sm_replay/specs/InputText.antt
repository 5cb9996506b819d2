-- The text of an input: compact JSON of each declared name, numbers as texts, an array without its
-- zero cells. Public clauses cite it.
use Rattle.std.specs.Prelude.{◌≡◌, ℕ, ℤ, pos, if◌then◌else◌, Option, Some, None, List, slice_get, position}
use Rattle.std.specs.Cmp.Lexicographic.{slice_cmp}
use Rattle.std.specs.declared.cmp.Ordering.TheVariants.{Less}
use Rattle.std.specs.Fmt.{signed_decimal}
use Rattle.std.specs.Ordering.{int_eq, nat_cmp}
use Rattle.std.specs.Str.{bytes_eq}
use Rattle.serde_json.specs.Data.{Data, string, object, Members, no_members, member}
use Rattle.serde_json.specs.Find.{get_member}
use Rattle.sm_syntax.specs.text.Sorts.{Sorts}
use Rattle.sm_syntax.specs.declared.tree.Sort.{Sort}
use Rattle.sm_syntax.specs.claim.Stores.{Value, Number, Array, Store}
use Rattle.sm_replay.specs.Input.{Texts, declared_name}
use Rattle.sm_replay.specs.Number.{number_of_text}

-- a key stands before each key of members
abbrev pub StandsBefore : List ℕ → Members → Type 0
StandsBefore key no_members = Unit {0}
StandsBefore key (member k d rest) = (slice_cmp nat_cmp key k ≡ Less) × StandsBefore key rest

-- the keys of members rise
abbrev pub AreOrdered : Members → Type 0
AreOrdered no_members = Unit {0}
AreOrdered (member key d rest) = StandsBefore key rest × AreOrdered rest

-- a number as a text
abbrev pub number_text : ℤ → Data
number_text z = string (signed_decimal z)

-- a number that isn't 0 as a text
abbrev pub nonzero_text : ℤ → Option Data
nonzero_text z = if int_eq z (pos 0) then None else Some (number_text z)

-- what a key has among the cells of an array
abbrev pub cell_at : (ℤ → ℤ) → Option ℤ → Option Data
cell_at f None = None
cell_at f (Some i) = nonzero_text (f i)

-- the members are the cells of an array that don't have 0
pub record AreWrittenCells (f : ℤ → ℤ) (cells : Members) : Type 0 where
  pub ordered : AreOrdered cells
  pub each : (key : List ℕ) → get_member key cells ≡ cell_at f (number_of_text key)

-- a value of a store, written as a value of JSON
abbrev pub IsWrittenAs : Value → Data → Type 0
IsWrittenAs (Number z) d = d ≡ number_text z
IsWrittenAs (Array f) d = (cells : Members) × (d ≡ object cells) × AreWrittenCells f cells

-- what a key has among the members of a written input: the value of the declared name with that
-- text
abbrev pub IsMemberOf : Store → Option (ℕ × Sort) → Option Data → Type 0
IsMemberOf s None d = d ≡ None
IsMemberOf s (Some x) d = (value : Data) × (d ≡ Some value) × IsWrittenAs (s x.0) value

-- the members are those of the declared names in a store
pub record AreWritten (names : Texts) (sorts : Sorts) (s : Store) (members : Members) : Type 0 where
  pub ordered : AreOrdered members
  pub each : (key : List ℕ) → IsMemberOf s (declared_name names sorts key) (get_member key members)

-- each declared name has a text, by which it is found
abbrev pub AreNamed : Texts → Sorts → Type 0
AreNamed names sorts =
    (x : ℕ) (sort : Sort) → sorts x ≡ Some sort
    → (text : List ℕ) × (slice_get names x ≡ Some text) × (position (bytes_eq text) names ≡ Some x)
