-- Public clauses cite this file.
-- Which tokens of a text spell a head or a block, whatever stands after them. The names that were
-- known before keep their numbers, and the others have the numbers after these, by first
-- appearance.
use Rattle.std.specs.Prelude.{◌≡◌, ℕ, ◌-◌, ◌≤◌, true, Option, Some, None, is_some, Result, MatchResult, List, [], ◌++◌, map, length, take, drop}
use Rattle.std.specs.List.{AllByRecursion}
use Rattle.sm_syntax.specs.declared.program.Program.{Program}
use Rattle.sm_syntax.specs.declared.tree.Sort.{Sort}
use Rattle.sm_syntax.specs.text.Uses.{names_tested}
use Rattle.sm_syntax.specs.text.MarkedSymbols.{Marked, plain}
use Rattle.sm_syntax.specs.text.TaskGrammar.{AreDeclarations, AreOutputs, IsAssumption, IsShared}
use Rattle.sm_syntax.specs.text.StatementGrammar.{IsBlock}
use Rattle.sm_syntax.specs.text.Parts.{sort_of}
use Rattle.sm_syntax.specs.text.Symbols.{symbol_of, names_after}
use Rattle.sm_syntax.specs.claim.Syntax.{Condition, Code}
use Rattle.sm_syntax.specs.text.Tokens.{lexed}
use Rattle.sm_syntax.specs.declared.token.Token.{Token}
use Rattle.sm_syntax.specs.trees.Views.{code_of}
use Rattle.sm_syntax.specs.declared.tree.Block.{Block}
use Rattle.sm_syntax.specs.declared.tree.Cond.{Cond}
use Rattle.sm_text.specs.declared.error.TextError.{TextError}
use Rattle.sm_text.specs.declared.error.TextError.TheVariants as error
use Rattle.sm_text.specs.declared.lexing.token_list.Tokens.{Tokens}
use Rattle.sm_text.specs.parsing.Fragments.{IsNamedProgram}
use Rattle.sm_text.specs.printing.Named.{IsAssumedIn}
use Rattle.sm_text.specs.Tasks.{HeadParts, head_parts}

-- these are the tokens of the text, and its lexical fault
abbrev pub AreTokensOf : List ℕ → Tokens → Type 0
AreTokensOf bytes tokens = (tokens.list.items, tokens.fault) ≡ lexed bytes

-- the tokens from number `at` up to number `n`
abbrev pub tokens_between : ℕ → ℕ → List Token → List Token
tokens_between at n ts = take (n - at) (drop at ts)

-- the grammar spells this by the tokens from number `at` up to number `n`; `names` are those before
-- and those of the tokens
pub record SpellsFrom {T : Type 0} (G : List Marked → T → Type 0) (bytes : List ℕ) (at : ℕ)
    (before : List (List ℕ)) (n : ℕ) (names : List (List ℕ)) (x : T) : Type 0 where
  pub begins : at ≤ n
  pub ends : n ≤ length (lexed bytes).0
  pub numbered : names ≡ names_after bytes before (tokens_between at n (lexed bytes).0)
  pub grammar : G (map plain (map (symbol_of bytes names) (tokens_between at n (lexed bytes).0))) x

-- the symbols spell the front of a task: declarations, outputs, what is assumed, and the shared
-- block
pub data IsHead : List Marked → HeadParts → Type 0 where
  head : {ts us vs ws : List Marked} (h : HeadParts) → AreDeclarations ts h.program.declared →
      AreOutputs us h.program.outputs → IsAssumption vs h.assumed → IsShared ws h.program.body →
      IsHead (ts ++ (us ++ (vs ++ ws))) h

-- each name of the head has a text
pub record IsNamedHead (h : HeadParts) : Type 0 where
  pub program : IsNamedProgram h.program
  pub assumed : IsAssumedIn (length h.program.names) h.assumed

-- each name of what is assumed is declared
abbrev pub AssumesDeclared : List (ℕ × Sort) → Option Condition → Type 0
AssumesDeclared declared None = Unit {0}
AssumesDeclared declared (Some b) =
    AllByRecursion (λ (x : ℕ × Sort). is_some (sort_of declared x.0) ≡ true) (names_tested b)

-- the first n tokens of the text spell the head
abbrev pub SpellsHead : List ℕ → ℕ → HeadParts → Type 0
SpellsHead bytes n h = SpellsFrom IsHead bytes 0 [] n h.program.names h

-- where `groups` groups are open and these names are known, the tokens from `at` up to `n` spell
-- the block
abbrev pub SpellsBlockAt : List ℕ → ℕ → ℕ → List (List ℕ) → ℕ → List (List ℕ) → Code → Type 0
SpellsBlockAt bytes at groups before n names c =
    SpellsFrom (IsBlock groups) bytes at before n names c

-- the answer is this head and the number of the token after it, or want of memory
abbrev pub IsHeadReadAs : ℕ → HeadParts → Result (Program × Option Cond × ℕ) TextError → Type 0
IsHeadReadAs n h answer =
    MatchResult answer (λ r. (head_parts r.0 r.1 ≡ h) × (r.2 ≡ n)) (λ e. e ≡ error.Memory)

-- the answer is this block and the number of the token after it, or want of memory
abbrev pub IsBlockReadAs : ℕ → Code → Result (Block × ℕ) TextError → Type 0
IsBlockReadAs n c answer =
    MatchResult answer (λ r. (code_of r.0 ≡ c) × (r.1 ≡ n)) (λ e. e ≡ error.Memory)

-- the grammar of heads
abbrev pub AreHeads : List Marked → Type 0
AreHeads ts = (h : HeadParts) × IsHead ts h

-- the grammar of blocks, where a number of groups are open
abbrev pub AreBlocks : ℕ → List Marked → Type 0
AreBlocks groups ts = (c : Code) × IsBlock groups ts c
