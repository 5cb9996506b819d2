-- The first event of code, in the order of computing. Public clauses cite it.
-- An event is an operation that leaves 128 bits, or a loop that takes too many turns. The values
-- that decide it are the exact ones.
use Rattle.std.specs.Prelude.{ℕ, zero, suc, ℤ, pos, if◌then◌else◌, Option, Some, None, Result, Ok, Err}
use Rattle.sm_num.specs.Range.{exact, fits}
use Rattle.sm_num.specs.declared.op.Op.{Op}
use Rattle.sm_num.specs.declared.op.Op.TheVariants.{Add, Sub, Mul}
use Rattle.sm_syntax.specs.claim.Syntax.{Expression, Lit, Var, Read, Neg, Plus, Minus, Times, Condition, Yes, No, Compare, Not, And, Or, Code, End, Skip, Assign, Write, If, While, Hole}
use Rattle.sm_syntax.specs.claim.Stores.{number, Store, put}
use Rattle.sm_syntax.specs.claim.Meaning.{value_of, truth_of, turns, written, run}
pub use Rattle.sm_eval.specs.declared.error.EvalError.{EvalError}
use Rattle.sm_eval.specs.declared.error.EvalError.TheVariants.{Beyond}
pub use Rattle.sm_eval.specs.declared.error.EvalError.TheVariants.{Memory, OutOfTurns}

-- this operation, where its exact result leaves 128 bits
abbrev pub leaves : Op → ℤ → ℤ → Option EvalError
leaves op y z = if fits (exact op y z) then None else Some (Beyond op y z)

-- the first of two events
abbrev pub before : Option EvalError → Option EvalError → Option EvalError
before None later = later
before (Some e) later = Some e

-- the event of an operation on two expressions, the left one first
abbrev pub operation_event : Op → Option EvalError → Option EvalError → ℤ → ℤ → Option EvalError
operation_event op left right y z = before left (before right (leaves op y z))

-- the first event of an expression; -e is 0 minus e
abbrev pub expression_event : Expression → Store → Option EvalError
expression_event (Lit z) s = None
expression_event (Var x) s = None
expression_event (Read a i) s = expression_event i s
expression_event (Neg e) s =
    before (expression_event e s) (leaves Sub (pos 0) (number (value_of e s)))
expression_event (Plus d e) s =
    let left = expression_event d s in
    let right = expression_event e s in
    operation_event Add left right (number (value_of d s)) (number (value_of e s))
expression_event (Minus d e) s =
    let left = expression_event d s in
    let right = expression_event e s in
    operation_event Sub left right (number (value_of d s)) (number (value_of e s))
expression_event (Times d e) s =
    let left = expression_event d s in
    let right = expression_event e s in
    operation_event Mul left right (number (value_of d s)) (number (value_of e s))

-- the first event of a condition, whose right part is computed only where the left one doesn't
-- decide
abbrev pub condition_event : Condition → Store → Option EvalError
condition_event Yes s = None
condition_event No s = None
condition_event (Compare op d e) s = before (expression_event d s) (expression_event e s)
condition_event (Not b) s = condition_event b s
condition_event (And b c) s =
    before (condition_event b s) (if truth_of b s then condition_event c s else None)
condition_event (Or b c) s =
    before (condition_event b s) (if truth_of b s then None else condition_event c s)

-- what comes after a run, where it has an end
abbrev pub after : Option Store → (Store → Option EvalError) → Option EvalError
after None next = None
after (Some s) next = next s

-- the first event of a loop that takes at most n turns
abbrev pub turns_event :
    Condition → (Store → Option EvalError) → (Store → Option Store) → ℕ → Store → Option EvalError
turns_event b happens body zero s =
    before (condition_event b s) (if truth_of b s then Some OutOfTurns else None)
turns_event b happens body (suc n) s =
    before (condition_event b s) (
    if truth_of b s then before (happens s) (after (body s) (turns_event b happens body n))
    else None)

-- the first event of code in which each loop takes at most n turns; an index is computed before its
-- value
abbrev pub event : ℕ → Code → Store → Option EvalError
event n End s = None
event n (Skip k) s = event n k s
event n (Assign x e k) s = before (expression_event e s) (event n k (put s x (value_of e s)))
event n (Write a i e k) s =
    before
    (before (expression_event i s) (expression_event e s))
    (event n k (written s a i e))
event n (If b c d k) s =
    before
    (before (condition_event b s) (if truth_of b s then event n c s else event n d s))
    (after (if truth_of b s then run n c s else run n d s) (event n k))
event n (While b c k) s =
    before
    (turns_event b (event n c) (run n c) n s)
    (after (turns (truth_of b) (run n c) n s) (event n k))
event n (Hole h k) s = event n k s

-- the value, or the event that keeps it from being computed
abbrev pub answer : {T : Type 0} → Option EvalError → T → Result T EvalError
answer None v = Ok v
answer (Some e) v = Err e
