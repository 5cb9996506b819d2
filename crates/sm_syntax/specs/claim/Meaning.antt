-- What programs mean, over all whole numbers. Public clauses cite it.
use Rattle.std.specs.Prelude.{ℕ, zero, suc, ℤ, ◌+ℤ◌, ◌-ℤ◌, ◌*ℤ◌, neg_ℤ, int_lt, Bool, true, false, not, ◌&&◌, ◌||◌, if◌then◌else◌, Option, Some, None}
use Rattle.std.specs.Ordering.{int_eq}
use Rattle.sm_syntax.specs.claim.Syntax.{Expression, Lit, Var, Read, Neg, Plus, Minus, Times, Condition, Yes, No, Compare, Not, And, Or, Code, End, Skip, Assign, Write, If, While, Hole, Cmp, Eq, Ne, Lt, Le, Gt, Ge}
use Rattle.sm_syntax.specs.claim.Stores.{Value, Number, Array, number, array, Store, put, with_element}

-- the value of an expression in a store
abbrev pub value_of : Expression → Store → Value
value_of (Lit z) s = Number z
value_of (Var x) s = s x
value_of (Read a i) s = Number (array (s a) (number (value_of i s)))
value_of (Neg e) s = Number (neg_ℤ (number (value_of e s)))
value_of (Plus d e) s = Number (number (value_of d s) +ℤ number (value_of e s))
value_of (Minus d e) s = Number (number (value_of d s) -ℤ number (value_of e s))
value_of (Times d e) s = Number (number (value_of d s) *ℤ number (value_of e s))

-- whether two whole numbers compare so
abbrev pub relation : Cmp → ℤ → ℤ → Bool
relation Eq y z = int_eq y z
relation Ne y z = not (int_eq y z)
relation Lt y z = int_lt y z
relation Le y z = not (int_lt z y)
relation Gt y z = int_lt z y
relation Ge y z = not (int_lt y z)

-- whether a condition is true in a store
abbrev pub truth_of : Condition → Store → Bool
truth_of Yes s = true
truth_of No s = false
truth_of (Compare op d e) s = relation op (number (value_of d s)) (number (value_of e s))
truth_of (Not b) s = not (truth_of b s)
truth_of (And b c) s = truth_of b s && truth_of c s
truth_of (Or b c) s = truth_of b s || truth_of c s

-- goes on from an end, where there is one
abbrev pub and_then : Option Store → (Store → Option Store) → Option Store
and_then None next = None
and_then (Some s) next = next s

-- the end of a loop, or none where its guard still holds after n turns
abbrev pub turns : (Store → Bool) → (Store → Option Store) → ℕ → Store → Option Store
turns guard body zero s = if guard s then None else Some s
turns guard body (suc n) s = if guard s then and_then (body s) (turns guard body n) else Some s

-- the store after a write to an element of an array
abbrev pub written : Store → ℕ → Expression → Expression → Store
written s a i e =
    put s a (Array (with_element (array (s a)) (number (value_of i s)) (number (value_of e s))))

-- the end of code, where each loop that is met takes at most n turns each time it is met; a hole
-- does nothing
abbrev pub run : ℕ → Code → Store → Option Store
run n End s = Some s
run n (Skip k) s = run n k s
run n (Assign x e k) s = run n k (put s x (value_of e s))
run n (Write a i e k) s = run n k (written s a i e)
run n (If b c d k) s = and_then (if truth_of b s then run n c s else run n d s) (run n k)
run n (While b c k) s = and_then (turns (truth_of b) (run n c) n s) (run n k)
run n (Hole h k) s = run n k s
