-- No public clause cites this file.
-- What the tokens from one on give where a block is read by them.
use Rattle.std.specs.Prelude.{◌≡◌, ℕ, ◌-◌, ◌<◌, ◌≤◌, Bool, false, Option, Some, None, Ok, List, map, length, take}
use Rattle.std.specs.List.{count_by}
use denote.Enum.Bare.{sameb}
use Rattle.sm_syntax.specs.contracts.symbol.Mark.{the_type}
use Rattle.sm_syntax.specs.declared.symbol.Mark.{Mark}
use Rattle.sm_syntax.specs.declared.symbol.Mark.TheVariants.{OpenCurly, CloseCurly}
use Rattle.sm_syntax.specs.declared.symbol.Symbol.{Symbol}
use Rattle.sm_syntax.specs.declared.token.Token.{Token}
use Rattle.sm_syntax.specs.text.Symbols.{text_of, symbol_of, names_after}
use Rattle.sm_syntax.specs.claim.Syntax.{Code}
use Rattle.sm_text.specs.rules.Reading.{block}
use Rattle.sm_text.specs.resolving.TokenTexts.{sign_by}

-- the symbols of tokens, where their names stand after those from before
abbrev pub token_symbols : List ℕ → List (List ℕ) → List Token → List Symbol
token_symbols bytes before ts = map (symbol_of bytes (names_after bytes before ts)) ts

-- where `groups` groups are open, the tokens begin with this block and `left` stand after it;
-- `names` are those before and its own
pub record IsFirstBlock (bytes : List ℕ) (before : List (List ℕ)) (groups : ℕ) (ts : List Token)
    (names : List (List ℕ)) (c : Code) (left : ℕ) : Type 0 where
  pub after : List Symbol
  pub read : block (64 - groups) (token_symbols bytes before ts) ≡ Ok (c, after)
  pub count : left ≡ length after
  pub numbered : names ≡ names_after bytes before (take (length ts - left) ts)

-- whether a sign is this mark
abbrev pub is_mark : Mark → Option Mark → Bool
is_mark m None = false
is_mark m (Some found) = sameb the_type found m

-- whether a token is this sign
abbrev pub is_sign : List ℕ → Mark → Token → Bool
is_sign bytes m t = is_mark m (sign_by t.kind (text_of bytes t))

-- how many of the tokens are this sign
abbrev pub many : List ℕ → Mark → List Token → ℕ
many bytes m ts = count_by (is_sign bytes m) ts

-- the first n tokens are those up to the curly brace that closes the first, or all where none does:
-- inside, more braces open than close
pub record IsGroup (bytes : List ℕ) (ts : List Token) (n : ℕ) : Type 0 where
  pub within : n ≤ length ts
  pub begun : 0 < length ts → 0 < n
  pub inside : (k : ℕ) → 0 < k → k < n →
      many bytes CloseCurly (take k ts) < many bytes OpenCurly (take k ts)
  pub ends : n < length ts → many bytes OpenCurly (take n ts) ≤ many bytes CloseCurly (take n ts)
