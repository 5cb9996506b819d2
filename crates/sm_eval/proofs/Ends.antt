-- Code without an event has an end.
use Rattle.sm_eval.proofs.Imports.{◌≡◌, ℕ, zero, suc, Bool, true, false, if◌then◌else◌, Option, Some, None, refl, value_of, truth_of, and_then, turns, written, run, put, Condition, Code, End, Skip, Assign, Write, If, While, Hole, expression_event, condition_event, before, after, turns_event, event, EvalError, OutOfTurns}
use Rattle.sm_syntax.specs.claim.Stores.{Store}

-- there is an end
abbrev pub HasEnd : Option Store → Type 0
HasEnd o = (t : Store) × (o ≡ Some t)

-- no event of two is neither
pub before_parts : (a b : Option EvalError) → before a b ≡ None → (a ≡ None) × (b ≡ None)
before_parts None b no_event = (refl, no_event)
before_parts (Some e) b no_event = cc

-- from an end on
go_on : (o : Option Store) (next : Store → Option EvalError) (f : Store → Option Store) → HasEnd o → after o next ≡ None →
    ((t : Store) → next t ≡ None → HasEnd (f t)) → HasEnd (and_then o f)
go_on None next f there no_event later = let e = there.1 in absurd cc
go_on (Some t) next f there no_event later = later t no_event

-- by either part of a choice
chosen : (b : Bool) (x y : Option EvalError) (o p : Option Store) → (if b then x else y) ≡ None → (x ≡ None → HasEnd o)
    → (y ≡ None → HasEnd p) → HasEnd (if b then o else p)
chosen true x y o p no_event first second = first no_event
chosen false x y o p no_event first second = second no_event

-- a loop, where each run of its body without an event has an end
pub loop_ends : (b : Condition) (happens : Store → Option EvalError) (body : Store → Option Store)
    → ((s : Store) → happens s ≡ None → HasEnd (body s)) →
    (n : ℕ) (s : Store) → turns_event b happens body n s ≡ None → HasEnd (turns (truth_of b) body n s)
loop_ends b happens body inner zero s no_event =
    let parts = before_parts (condition_event b s) (if truth_of b s then Some OutOfTurns else None) no_event in
    chosen (truth_of b s) (Some OutOfTurns) None None (Some s) parts.1 (λ (e : Some OutOfTurns ≡ None). absurd cc)
    (λ (e : None ≡ None). (s, refl))
loop_ends b happens body inner (suc n) s no_event =
    let rest = turns_event b happens body n in
    let parts = before_parts (condition_event b s) (if truth_of b s then before (happens s) (after (body s) rest) else None) no_event in
    chosen (truth_of b s) (before (happens s) (after (body s) rest)) None (and_then (body s) (turns (truth_of b) body n)) (Some s) parts.1
    (λ (e : before (happens s) (after (body s) rest) ≡ None).
    let turn = before_parts (happens s) (after (body s) rest) e in
    go_on (body s) rest (turns (truth_of b) body n) (inner s turn.0) turn.1 (loop_ends b happens body inner n))
    (λ (e : None ≡ None). (s, refl))

-- code
pub ends : (n : ℕ) (c : Code) (s : Store) → event n c s ≡ None → HasEnd (run n c s)
ends n End s no_event = (s, refl)
ends n (Skip k) s no_event = ends n k s no_event
ends n (Assign x e k) s no_event =
    let next = put s x (value_of e s) in
    let parts = before_parts (expression_event e s) (event n k next) no_event in
    ends n k next parts.1
ends n (Write a i e k) s no_event =
    let next = written s a i e in
    let parts = before_parts (before (expression_event i s) (expression_event e s)) (event n k next) no_event in
    ends n k next parts.1
ends n (If b c d k) s no_event =
    let happens = if truth_of b s then event n c s else event n d s in
    let end = if truth_of b s then run n c s else run n d s in
    let parts = before_parts (before (condition_event b s) happens) (after end (event n k)) no_event in
    let inner = before_parts (condition_event b s) happens parts.0 in
    go_on end (event n k) (run n k)
    (chosen (truth_of b s) (event n c s) (event n d s) (run n c s) (run n d s) inner.1 (ends n c s) (ends n d s)) parts.1 (ends n k)
ends n (While b c k) s no_event =
    let happens = turns_event b (event n c) (run n c) n s in
    let end = turns (truth_of b) (run n c) n s in
    let parts = before_parts happens (after end (event n k)) no_event in
    go_on end (event n k) (run n k) (loop_ends b (event n c) (run n c) (ends n c) n s parts.0) parts.1 (ends n k)
ends n (Hole h k) s no_event = ends n k s no_event
