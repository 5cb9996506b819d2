-- Which text spells a task. Public clauses cite it.
-- It says nothing of what the task means.
use Rattle.std.specs.Prelude.{◌≡◌, ℕ, None, List, map}
use Rattle.sm_syntax.specs.text.Conditions.{first_refusal}
use Rattle.sm_syntax.specs.text.MarkedSymbols.{plain}
use Rattle.sm_syntax.specs.text.TaskGrammar.{IsTask}
use Rattle.sm_syntax.specs.text.Parts.{Parts}
use Rattle.sm_syntax.specs.text.Symbols.{names_of, symbols_of}
use Rattle.sm_syntax.specs.text.Tokens.{lexed}

-- the text has tokens to its end, and the grammar spells the task by their symbols, where nothing
-- nests too deep
pub record IsInGrammar (bytes : List ℕ) (t : Parts) : Type 0 where
  pub tokens : (lexed bytes).1 ≡ None
  pub names : t.names ≡ names_of bytes
  pub grammar : IsTask (map plain (symbols_of bytes)) t

-- the text spells the task: it is in the grammar, and no condition on tasks fails
pub record Spells (bytes : List ℕ) (t : Parts) : Type 0 where
  pub text : IsInGrammar bytes t
  pub valid : first_refusal t ≡ None
