-- No public clause cites this file.
-- Which error a rule that doesn't go on becomes, by the number of tokens that are left there.
use Rattle.std.specs.Prelude.{◌≡◌, ℕ, suc, ◌≤◌, Some, None, List, ◌∷◌, ◌++◌, length}
use Rattle.sm_syntax.specs.declared.token.LexFault.{LexFault}
use Rattle.sm_syntax.specs.declared.token.Token.{Token}
use Rattle.sm_text.specs.declared.error.TextError.{TextError}
use Rattle.sm_text.specs.declared.rules.reading.Fault.{Fault}
use Rattle.sm_text.specs.declared.lexing.token_list.Tokens.{Tokens}
use Rattle.sm_text.specs.parsing.Text.{lexical_fault, rule_fault}

-- the place of the token with which `left` are left
pub record IsPlaceWith (left : ℕ) (tokens : List Token) (place : ℕ) : Type 0 where
  pub before : List Token
  pub behind : List Token
  pub here : Token
  pub cut : tokens ≡ before ++ here ∷ behind
  pub count : left ≡ suc (length behind)
  pub same : place ≡ here.place

-- the error of a rule that doesn't go on where `f.left` tokens are left: it names a token, or what
-- stands after them all
pub data IsErrorOf (f : Fault) (tokens : Tokens) (end : ℕ) (e : TextError) : Type 0 where
  at_token : (place : ℕ) → IsPlaceWith f.left tokens.list.items place →
      e ≡ rule_fault f.kind place → IsErrorOf f tokens end e
  at_fault : (l : LexFault) → tokens.fault ≡ Some l → lexical_fault e ≡ Some l →
      (f.left ≤ length tokens.list.items → f.left ≡ 0) → IsErrorOf f tokens end e
  at_end : tokens.fault ≡ None → e ≡ rule_fault f.kind end →
      (f.left ≤ length tokens.list.items → f.left ≡ 0) → IsErrorOf f tokens end e
