-- The number that a value of JSON gives, as the code asks for it.
use Rattle.sm_replay.proofs.Imports.{◌≡◌, None, option_and_then, refl, negative, float, Data, null, boolean, string, object, as_number, as_u64, as_i64, as_str, json_number}
use Rattle.serde_json.specs.Data.{unsigned, number, array}

-- anything else
pub no_number : (d : Data) → None ≡ option_and_then as_u64 (as_number d) → None ≡ option_and_then as_i64 (as_number d) → None ≡ as_str d
    → None ≡ json_number d
no_number null u i t = refl
no_number (boolean b) u i t = refl
no_number (number (unsigned m)) u i t = cc
no_number (number (negative z)) u i t = cc
no_number (number (float x)) u i t = refl
no_number (string s) u i t = cc
no_number (array ds) u i t = refl
no_number (object ms) u i t = refl
