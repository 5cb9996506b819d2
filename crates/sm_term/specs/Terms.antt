-- Cited by public clauses: terms, of which a program's values are made where the start store is
-- not known.
use Rattle.std.specs.Prelude.{ℕ, ℤ}
use Rattle.sm_syntax.specs.claim.Syntax.{Code}
use Rattle.sm_syntax.specs.claim.ConflictFree.{Copy}

mutual
  -- a term: a literal, a symbol, an operation, or the summary of a name after code
  pub data Tree : Type 0 where
    Lit : ℤ → Tree
    -- the start value of a name, one for all copies
    Start : ℕ → Tree
    -- the new value that a node of a plan gives to a copy's name
    Havoc : ℕ → Copy → ℕ → Tree
    -- the place of a copy's value of a name
    Slot : Copy → ℕ → Tree
    -- the index of an array's cell
    Cell : Tree
    Read : Tree → Tree → Tree
    Write : Tree → Tree → Tree → Tree
    Neg : Tree → Tree
    Add Sub Mul : Tree → Tree → Tree
    -- the value of a name after code that starts from the arguments
    Fun : Code → ℕ → Arguments → Tree

  -- names, each with a term
  pub data Arguments : Type 0 where
    Over : Arguments
    Given : ℕ → Tree → Arguments → Arguments
