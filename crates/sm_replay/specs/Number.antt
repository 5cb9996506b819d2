-- Whole numbers of 128 bits in inputs: as numbers of JSON and as texts. Public clauses cite it.
use Rattle.std.specs.Prelude.{ℕ, ℤ, ◌&&◌, if◌then◌else◌, Option, Some, None, List}
use Rattle.std.specs.Fmt.{signed_decimal}
use Rattle.std.specs.Str.{bytes_eq}
use Rattle.std.specs.Str.Parse.{signed_digits_value}
use Rattle.sm_num.specs.Range.{fits}
use Rattle.serde_json.specs.Data.{Data, null, boolean, number, string, array, object}
use Rattle.serde_json.specs.Find.{as_integer}

-- the number of 128 bits whose decimal text this is: `0`, or digits with no 0 before them and at
-- most one `-`
unfoldable pub number_of_text : List ℕ → Option ℤ
number_of_text text =
    let z = signed_digits_value 10 text in
    if fits z && bytes_eq (signed_decimal z) text then Some z else None

-- the number that a value of JSON gives: an integer of 64 bits, or a text
abbrev pub json_number : Data → Option ℤ
json_number null = None
json_number (boolean b) = None
json_number (number n) = as_integer n
json_number (string text) = number_of_text text
json_number (array ds) = None
json_number (object ms) = None
