-- Answers of conditions: the truth, or the first operation that leaves 128 bits.
use Rattle.sm_replay.proofs.Imports.{◌≡◌, ℤ, pos, Bool, true, false, if◌then◌else◌, Option, Some, None, Ok, Err, refl, subst, exact, fits, value_of, truth_of, Store, Expression, Lit, Var, Read, Neg, Plus, Minus, Times, Condition, Yes, No, Compare, Not, And, Or, leaves, before, expression_event, condition_event, answer, EvalError, Tells, IsMet}
use Rattle.sm_num.specs.declared.op.Op.{Op}
use Rattle.sm_num.specs.declared.op.Op.TheVariants.{Add, Sub, Mul}
use Rattle.sm_syntax.specs.claim.Stores.{number}
use Rattle.sm_eval.specs.declared.error.EvalError.TheVariants as eval

-- a value is the answer only where nothing happens
answer_ok : {T : Type 0} (o : Option EvalError) (v w : T) → answer o v ≡ Ok w → (o ≡ None) × (v ≡ w)
answer_ok None v w is = (refl, cc)
answer_ok (Some e) v w is = cc

-- an error is what happens
answer_err : {T : Type 0} (o : Option EvalError) (v : T) (e : EvalError) → answer o v ≡ Err e → o ≡ Some e
answer_err None v e is = cc
answer_err (Some d) v e is = cc

-- nothing, or an operation that leaves
abbrev OnlyBeyond : Option EvalError → Type 0
OnlyBeyond None = Unit {0}
OnlyBeyond (Some (eval.Beyond op y z)) = Unit {0}
OnlyBeyond (Some eval.OutOfTurns) = ⊥
OnlyBeyond (Some eval.Memory) = ⊥

before_beyond : (a b : Option EvalError) → OnlyBeyond a → OnlyBeyond b → OnlyBeyond (before a b)
before_beyond None b p q = q
before_beyond (Some e) b p q = p

choice_beyond : (t : Bool) (a b : Option EvalError) → OnlyBeyond a → OnlyBeyond b → OnlyBeyond (if t then a else b)
choice_beyond true a b p q = p
choice_beyond false a b p q = q

leaves_beyond : (op : Op) (y z : ℤ) → OnlyBeyond (leaves op y z)
leaves_beyond op y z = choice_beyond (fits (exact op y z)) None (Some (eval.Beyond op y z)) tt tt

expression_beyond : (e : Expression) (s : Store) → OnlyBeyond (expression_event e s)
expression_beyond (Lit z) s = tt
expression_beyond (Var x) s = tt
expression_beyond (Read a i) s = expression_beyond i s
expression_beyond (Neg e) s =
    before_beyond (expression_event e s) _ (expression_beyond e s) (leaves_beyond Sub (pos 0) (number (value_of e s)))
expression_beyond (Plus d e) s =
    before_beyond (expression_event d s) _ (expression_beyond d s)
    (before_beyond (expression_event e s) _ (expression_beyond e s) (leaves_beyond Add (number (value_of d s)) (number (value_of e s))))
expression_beyond (Minus d e) s =
    before_beyond (expression_event d s) _ (expression_beyond d s)
    (before_beyond (expression_event e s) _ (expression_beyond e s) (leaves_beyond Sub (number (value_of d s)) (number (value_of e s))))
expression_beyond (Times d e) s =
    before_beyond (expression_event d s) _ (expression_beyond d s)
    (before_beyond (expression_event e s) _ (expression_beyond e s) (leaves_beyond Mul (number (value_of d s)) (number (value_of e s))))

condition_beyond : (b : Condition) (s : Store) → OnlyBeyond (condition_event b s)
condition_beyond Yes s = tt
condition_beyond No s = tt
condition_beyond (Compare op d e) s = before_beyond (expression_event d s) _ (expression_beyond d s) (expression_beyond e s)
condition_beyond (Not b) s = condition_beyond b s
condition_beyond (And b c) s =
    before_beyond (condition_event b s) _ (condition_beyond b s) (choice_beyond (truth_of b s) _ None (condition_beyond c s) tt)
condition_beyond (Or b c) s =
    before_beyond (condition_event b s) _ (condition_beyond b s) (choice_beyond (truth_of b s) None _ tt (condition_beyond c s))

-- a condition has no loop and takes no memory
pub no_turns : (b : Condition) (s : Store) → answer (condition_event b s) (truth_of b s) ≡ Err eval.OutOfTurns → ⊥
no_turns b s is = subst OnlyBeyond (answer_err (condition_event b s) (truth_of b s) _ is) (condition_beyond b s)

pub no_memory : (b : Condition) (s : Store) → answer (condition_event b s) (truth_of b s) ≡ Err eval.Memory → ⊥
no_memory b s is = subst OnlyBeyond (answer_err (condition_event b s) (truth_of b s) _ is) (condition_beyond b s)

-- an assumption that is true is met
pub told_met : (assumed : Option Condition) (s : Store) (b : Bool) → b ≡ true → Tells assumed s (Ok b) → IsMet assumed s
told_met assumed s true holds met = met
told_met assumed s false holds unmet = cc
