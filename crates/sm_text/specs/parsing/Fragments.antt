-- Public clauses cite this file.
-- Which text spells a program, a condition or a block. A condition and a block stand under names
-- that are given.
use Rattle.std.specs.Prelude.{◌≡◌, ℕ, true, None, Result, MatchResult, List, ◌++◌, map, length}
use Rattle.std.specs.List.{AllByRecursion}
use Rattle.sm_syntax.specs.declared.program.Program.{Program}
use Rattle.sm_syntax.specs.text.MarkedSymbols.{Marked, plain}
use Rattle.sm_syntax.specs.declared.symbol.Symbol.{Symbol}
use Rattle.sm_syntax.specs.text.ConditionGrammar.{Disjunction, IsCondition}
use Rattle.sm_syntax.specs.text.StatementGrammar.{IsBlock}
use Rattle.sm_syntax.specs.text.TaskGrammar.{AreDeclarations, AreOutputs, IsShared}
use Rattle.sm_syntax.specs.text.Symbols.{text_of, is_among, is_name, symbol_of, names_of, symbols_of}
use Rattle.sm_syntax.specs.claim.Syntax.{Condition, Code}
use Rattle.sm_syntax.specs.text.Tokens.{lexed}
use Rattle.sm_syntax.specs.declared.token.Token.{Token}
use Rattle.sm_text.specs.declared.error.TextError.{TextError}
use Rattle.sm_text.specs.declared.error.TextError.TheVariants as error
use Rattle.sm_text.specs.printing.Named.{IsUsedIn, AreDeclaredIn, AreOutputsIn}
use Rattle.sm_text.specs.Tasks.{ProgramParts, program_parts}

-- the symbols spell a program of these parts
pub data IsProgram : List Marked → ProgramParts → Type 0 where
  program : {ts us vs : List Marked} (p : ProgramParts) → AreDeclarations ts p.declared →
      AreOutputs us p.outputs → IsShared vs p.body → IsProgram (ts ++ (us ++ vs)) p

-- the text has tokens to its end, and the grammar spells the program by their symbols
pub record SpellsProgram (bytes : List ℕ) (p : ProgramParts) : Type 0 where
  pub tokens : (lexed bytes).1 ≡ None
  pub names : p.names ≡ names_of bytes
  pub grammar : IsProgram (map plain (symbols_of bytes)) p

-- each name of the program has a text
pub record IsNamedProgram (p : ProgramParts) : Type 0 where
  pub declared : AreDeclaredIn (length p.names) p.declared
  pub outputs : AreOutputsIn (length p.names) p.outputs
  pub body : IsUsedIn (length p.names) p.body

-- some text spells the program
abbrev pub HasProgramText : ProgramParts → Type 0
HasProgramText p = (bytes : List ℕ) × SpellsProgram bytes p

-- the answer is the program of these parts, or want of memory
abbrev pub IsProgramReadAs : ProgramParts → Result Program TextError → Type 0
IsProgramReadAs p answer = MatchResult answer (λ q. program_parts q ≡ p) (λ e. e ≡ error.Memory)

-- a token that is a name is one of these
abbrev pub IsKnown : List ℕ → List (List ℕ) → Token → Type 0
IsKnown bytes names t =
    is_name t.kind (text_of bytes t) ≡ true → is_among names (text_of bytes t) ≡ true

-- the text has tokens to its end, and its names are among these
pub record IsCutUnder (names : List (List ℕ)) (bytes : List ℕ) : Type 0 where
  pub tokens : (lexed bytes).1 ≡ None
  pub known : AllByRecursion (IsKnown bytes names) (lexed bytes).0

-- the symbols of a text, where the names are numbered so
unfoldable pub symbols_under : List (List ℕ) → List ℕ → List Symbol
symbols_under names bytes = map (symbol_of bytes names) (lexed bytes).0

-- the text spells the condition
pub record SpellsCondition (names : List (List ℕ)) (bytes : List ℕ) (b : Condition) : Type 0 where
  pub text : IsCutUnder names bytes
  pub chain : ℕ
  pub grammar : IsCondition Disjunction 0 chain (map plain (symbols_under names bytes)) b

-- some text spells the condition
abbrev pub HasConditionText : List (List ℕ) → Condition → Type 0
HasConditionText names b = (bytes : List ℕ) × SpellsCondition names bytes b

-- the text spells the block
pub record SpellsBlock (names : List (List ℕ)) (bytes : List ℕ) (c : Code) : Type 0 where
  pub text : IsCutUnder names bytes
  pub grammar : IsBlock 0 (map plain (symbols_under names bytes)) c

-- some text spells the block
abbrev pub HasBlockText : List (List ℕ) → Code → Type 0
HasBlockText names c = (bytes : List ℕ) × SpellsBlock names bytes c
