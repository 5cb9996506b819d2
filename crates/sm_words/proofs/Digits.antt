-- The value of one to ten digits fits 64 bits, and is parsed.
use Rattle.sm_words.proofs.Imports.{◌≡◌, ◌≤◌, ℕ, true, List, length, Result, Ok, arith, both, is_number}
use Rattle.std.specs.Str.Parse.{ParsesUnsigned, digits_value}
use Rattle.std.proofs.lemmas.Bool.{leb-true}
use Rattle.std.proofs.lemmas.Str.Parse.{digits_value_short, numerals_by_value, parse_gives, tells_all_ascii_digits}

pub parses_number : {E : Type 0} (text : List ℕ) (r : Result ℕ E) → ParsesUnsigned 64 10 text r → is_number text ≡ true
    → r ≡ Ok (digits_value 10 text)
parses_number text r h number =
    let p = both _ _ number in
    let q = both _ _ p.1 in
    let own = numerals_by_value _ tells_all_ascii_digits in
    let some : 1 ≤ length text = leb-true 1 (length text) q.0 in
    let few : length text ≤ 10 = leb-true (length text) 10 q.1 in
    parse_gives own 64 text r h p.0 (omega (arith, some)) (omega (arith, digits_value_short own text 10 p.0 few))
