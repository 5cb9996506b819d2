-- Inputs: which store an object of JSON gives, and why other bytes are refused. Public clauses cite
-- it.
use Rattle.std.specs.Prelude.{◌≡◌, ℕ, ℤ, pos, if◌then◌else◌, Option, Some, None, option_map, option_and_then, unwrap_or, Result, Ok, Err, List, [], ◌∷◌, slice_get, position}
use Rattle.std.specs.Fmt.{signed_decimal}
use Rattle.std.specs.Option.{option_or}
use Rattle.std.specs.Str.{IsUtf8, bytes_eq}
use Rattle.serde_json.specs.Data.{Data, Members, no_members, member}
use Rattle.serde_json.specs.Find.{as_object, get}
use Rattle.serde_json.specs.Read.{read}
use Rattle.sm_syntax.specs.declared.tree.Name.{Name}
use Rattle.sm_syntax.specs.text.Sorts.{Sorts}
use Rattle.sm_syntax.specs.declared.tree.Sort.{Sort}
use Rattle.sm_syntax.specs.declared.tree.Sort.TheVariants.{Num, Arr}
use Rattle.sm_syntax.specs.claim.Stores.{Value, Number, Array, zero_value, Store}
use Rattle.sm_num.specs.Range.{fits}
use Rattle.sm_eval.specs.declared.store.Store as code
use Rattle.sm_eval.specs.StoredValues.{meaning, sorts_of}
pub use Rattle.sm_replay.specs.declared.error.InputError.{InputError}
pub use Rattle.sm_replay.specs.declared.error.InputError.TheVariants.{BadIndex, BadJson, BadValue, Memory, NotObject, UnknownKey}
use Rattle.sm_replay.specs.Number.{number_of_text, json_number}

-- the texts of names by their numbers
abbrev pub Texts : Type 0
Texts = List (List ℕ)

-- the name with a number
abbrev pub name_of : ℕ → Name
name_of x = record { 0 = x }

-- a declared name by its text, with its sort
abbrev pub declared_name : Texts → Sorts → List ℕ → Option (ℕ × Sort)
declared_name names sorts key =
    option_and_then (λ (x : ℕ). option_and_then (λ (sort : Sort). Some (x, sort)) (sorts x))
    (position (bytes_eq key) names)

-- nothing where a number is there, else the error
abbrev pub missing : Option ℤ → InputError → Option InputError
missing None error = Some error
missing (Some z) error = None

-- why the members of an array aren't cells: the first whose key is no number, or whose value is
-- none
abbrev pub cells_fault : ℕ → Members → Option InputError
cells_fault x no_members = None
cells_fault x (member key d rest) =
    option_or (missing (number_of_text key) (BadIndex (name_of x)))
    (option_or (missing (json_number d) (BadValue (name_of x))) (cells_fault x rest))

-- why a value isn't that of an array
abbrev pub array_fault : ℕ → Option Members → Option InputError
array_fault x None = Some (BadValue (name_of x))
array_fault x (Some members) = cells_fault x members

-- why a value isn't that of a declared name
abbrev pub value_fault : Option (ℕ × Sort) → Data → Option InputError
value_fault None d = Some UnknownKey
value_fault (Some (x, Num)) d = missing (json_number d) (BadValue (name_of x))
value_fault (Some (x, Arr)) d = array_fault x (as_object d)

-- the first fault of the members of an input, which stand in the order of their keys
abbrev pub members_fault : Texts → Sorts → Members → Option InputError
members_fault names sorts no_members = None
members_fault names sorts (member key d rest) =
    option_or (value_fault (declared_name names sorts key) d) (members_fault names sorts rest)

-- why a value isn't an input
abbrev pub input_fault : Texts → Sorts → Option Members → Option InputError
input_fault names sorts None = Some NotObject
input_fault names sorts (Some members) = members_fault names sorts members

-- the number that a member gives, 0 where it isn't there
abbrev pub number_or_zero : Option Data → ℤ
number_or_zero d = unwrap_or (option_and_then json_number d) (pos 0)

-- the elements that an array's member gives: at an index inside 128 bits the number whose key is
-- the index
abbrev pub elements : Data → ℤ → Option ℤ
elements d i =
    if fits i then option_map (λ (v : Data). number_or_zero (Some v)) (get (signed_decimal i) d)
    else None

-- what one cell gives: the number at its index
abbrev pub cell_given : Option ℤ → Data → List (ℤ × ℤ)
cell_given None d = []
cell_given (Some i) d = (i, number_or_zero (Some d)) ∷ []

-- the number at an index of an array, 0 where none is given
abbrev pub element : Option Data → ℤ → ℤ
element d i = unwrap_or (option_and_then (λ (v : Data). elements v i) d) (pos 0)

-- the value that a member gives a name of a sort
abbrev pub given : Option Sort → Option Data → Value
given None d = zero_value
given (Some Num) d = Number (number_or_zero d)
given (Some Arr) d = Array (element d)

-- the member of an input that is named as the name with this number
abbrev pub member_of : Texts → Data → ℕ → Option Data
member_of names d x = option_and_then (λ (text : List ℕ). get text d) (slice_get names x)

-- the store that an input gives
abbrev pub store_of : Texts → Sorts → Data → Store
store_of names sorts d x = given (sorts x) (member_of names d x)

-- the bytes are this value of JSON
pub record IsJson (bytes : List ℕ) (d : Data) : Type 0 where
  pub utf8 : IsUtf8 bytes
  pub value : read bytes ≡ Some d

-- the bytes are an input, and it gives this store
pub record IsInput (names : Texts) (sorts : Sorts) (bytes : List ℕ) (s : code.Store) : Type 0 where
  pub value : Data
  pub json : IsJson bytes value
  pub faultless : input_fault names sorts (as_object value) ≡ None
  pub gives : meaning s ≡ store_of names sorts value
  pub declared : sorts_of s ≡ sorts

-- the bytes are JSON, and this is the first refusal of its value
pub record IsRefusedInput (names : Texts) (sorts : Sorts) (bytes : List ℕ) (error : InputError)
    : Type 0 where
  pub value : Data
  pub json : IsJson bytes value
  pub fault : input_fault names sorts (as_object value) ≡ Some error

-- what an answer says of the bytes of an input; want of memory alone is free
abbrev pub Reads : Texts → Sorts → List ℕ → Result code.Store InputError → Type 0
Reads names sorts bytes (Ok s) = IsInput names sorts bytes s
Reads names sorts bytes (Err BadJson) = (d : Data) → ¬ IsJson bytes d
Reads names sorts bytes (Err NotObject) = IsRefusedInput names sorts bytes NotObject
Reads names sorts bytes (Err UnknownKey) = IsRefusedInput names sorts bytes UnknownKey
Reads names sorts bytes (Err (BadValue x)) = IsRefusedInput names sorts bytes (BadValue x)
Reads names sorts bytes (Err (BadIndex x)) = IsRefusedInput names sorts bytes (BadIndex x)
Reads names sorts bytes (Err Memory) = Unit {0}

-- a check answers that there is no fault, or which one it is
abbrev pub reported : Option InputError → Result (Unit {0}) InputError
reported None = Ok tt
reported (Some error) = Err error
