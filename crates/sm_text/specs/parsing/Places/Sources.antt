-- Public clauses cite this file.
-- What is to be read of a text: all of it, or what stands from a token on.
use Rattle.std.specs.Prelude.{ℕ, Option, List, length, map, drop}
use Rattle.sm_syntax.specs.declared.symbol.Symbol.{Symbol}
use Rattle.sm_syntax.specs.text.Symbols.{symbol_of, names_after, names_of}
use Rattle.sm_syntax.specs.text.Tokens.{lexed}
use Rattle.sm_syntax.specs.declared.token.Token.{Token}
use Rattle.sm_syntax.specs.declared.token.LexFault.{LexFault}

-- what is to be read: tokens, what the grammar sees of each, and the lexical fault or the end of
-- the text after them
pub record Source : Type 0 where
  pub tokens : List Token
  pub symbol : Token → Symbol
  pub fault : Option LexFault
  pub end : ℕ

-- a whole text
abbrev pub whole_text : List ℕ → Source
whole_text bytes = record {
  tokens = (lexed bytes).0;
  symbol = symbol_of bytes (names_of bytes);
  fault = (lexed bytes).1;
  end = length bytes;
}

-- a text from the token with number `at` on, where the names before are known
abbrev pub text_from : List ℕ → ℕ → List (List ℕ) → Source
text_from bytes at before = record {
  tokens = drop at (lexed bytes).0;
  symbol = symbol_of bytes (names_after bytes before (drop at (lexed bytes).0));
  fault = (lexed bytes).1;
  end = length bytes;
}

-- the symbols that are to be read
abbrev pub all_symbols : Source → List Symbol
all_symbols source = map source.symbol source.tokens
