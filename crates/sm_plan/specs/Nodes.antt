-- Cited by public clauses: the nodes of a plan, when each may stand at a state, which goals it asks
-- there, and which states it opens.
use Rattle.std.specs.Prelude.{ℕ, nat_le, Bool, true, false, not, ◌&&◌, ◌||◌, if◌then◌else◌, Option, Some, None, List, [], ◌∷◌, ◌++◌, map}
use Rattle.sm_syntax.specs.claim.Syntax.{Code, End, Skip, Assign, Write, If, While, Hole, append}
use Rattle.sm_syntax.specs.claim.ConflictFree.{Copy}
use Rattle.sm_term.specs.Assertions.{Assertion, No, negate, conj}
use Rattle.sm_term.specs.Symbolic.{SymbolicStore, form_of}
use Rattle.sm_term.specs.Slots.{all_at_stores}
use Rattle.sm_term.specs.Fresh.{IsFormBelow}
use Rattle.sm_plan.specs.Copies.{Copies, each, has, is_inhabited, subsets}
use Rattle.sm_plan.specs.Statements.{is_over, is_long, front, rest_after, is_loop}
use Rattle.sm_plan.specs.Limits.{is_kept}
use Rattle.sm_plan.specs.States.{State}
use Rattle.sm_plan.specs.Successors as next

-- a node of a plan
pub data Node : Type 0 where
  -- one simple statement of a copy is done
  Step : Copy → Node
  -- the first statements of a copy are done, by their summary
  Abs : Copy → ℕ → Node
  -- a copy goes on by either branch
  Fork : Copy → Node
  -- the loops of a set of copies run together, and each turn of some of them keeps a formula
  Loop : Copies → Assertion → Node
  -- the first statements of each copy run, and end with a formula
  Block : (Copy → ℕ) → Assertion → Node
  -- the facts can't be
  Dead : Node
  -- all copies are at their ends
  Ends : Node
  -- a node of this rule with a copy or a set that is none
  Unfit : ℕ → Node

-- goals over the facts of the state, and the states that follow, in order
pub record Opened : Type 0 where
  pub goals : List Assertion
  pub states : List State

-- no goals
abbrev pub follows : List State → Opened
follows states = record { goals = []; states = states }

-- goals alone
abbrev pub asks : List Assertion → Opened
asks goals = record { goals = goals; states = [] }

-- this, where a test passes
abbrev pub where_true : Bool → Opened → Option Opened
where_true b q = if b then Some q else None

-- the state after a statement, where there is one
abbrev pub after_step : State → Copy → Option (Code × SymbolicStore) → Option Opened
after_step st c None = None
after_step st c (Some p) = Some (follows (next.moved st c p.0 p.1 ∷ []))

-- the states of both branches, of code that begins with one
abbrev pub both_ways : State → Copy → Code → Option Opened
both_ways st c End = None
both_ways st c (Skip k) = None
both_ways st c (Assign x e k) = None
both_ways st c (Write a i e k) = None
both_ways st c (If b first second k) =
    let f = form_of b (st.stores c) in
    let one = next.branch_state st c (append first k) f in
    let other = next.branch_state st c (append second k) (negate f) in
    Some (follows (one ∷ other ∷ []))
both_ways st c (While b body k) = None
both_ways st c (Hole h k) = None

-- the node with number k at a state: what it asks and opens, or nothing where its condition fails
abbrev pub opened_by : ℕ → State → Node → Option Opened
opened_by k st (Step c) = after_step st c (next.stepped (st.rest c) (st.stores c))
opened_by k st (Abs c n) =
    where_true (nat_le 1 n && is_long n (st.rest c))
    (follows (next.summary_state st c (front n (st.rest c)) (rest_after n (st.rest c)) ∷ []))
opened_by k st (Fork c) = both_ways st c (st.rest c)
opened_by k st (Loop set keep) =
    let have_loops = each (λ (c : Copy). not (has set c) || is_loop (st.rest c)) in
    let turns = map (next.turn_state st k set keep) (subsets set) in
    where_true (is_inhabited set && (have_loops && is_kept keep))
    (record {
      goals = all_at_stores st.stores (conj keep);
      states = turns ++ next.after_loops_state st k set keep ∷ [];
    })
opened_by k st (Block counts keep) =
    where_true (each (λ (c : Copy). is_long (counts c) (st.rest c)) && is_kept keep)
    (follows (next.inner_state st counts keep ∷ next.after_block_state st k counts keep ∷ []))
opened_by k st Dead = Some (asks (No ∷ []))
opened_by k st Ends =
    where_true (each (λ (c : Copy). is_over (st.rest c)))
    (asks (all_at_stores st.stores st.target))
opened_by k st (Unfit rule) = None

-- the kept formula names no new value of node k or of a later one
abbrev pub IsFreshAt : ℕ → Node → Type 0
IsFreshAt k (Step c) = Unit {0}
IsFreshAt k (Abs c n) = Unit {0}
IsFreshAt k (Fork c) = Unit {0}
IsFreshAt k (Loop set keep) = IsFormBelow k keep
IsFreshAt k (Block counts keep) = IsFormBelow k keep
IsFreshAt k Dead = Unit {0}
IsFreshAt k Ends = Unit {0}
IsFreshAt k (Unfit rule) = Unit {0}

-- the number of a node's rule
abbrev pub rule_of : Node → ℕ
rule_of (Step c) = 1
rule_of (Abs c n) = 2
rule_of (Fork c) = 3
rule_of (Loop set keep) = 4
rule_of (Block counts keep) = 5
rule_of Dead = 6
rule_of Ends = 7
rule_of (Unfit rule) = rule

-- more than one state may follow, by the kind of node alone
abbrev pub is_branching : Node → Bool
is_branching (Step c) = false
is_branching (Abs c n) = false
is_branching (Fork c) = true
is_branching (Loop set keep) = true
is_branching (Block counts keep) = true
is_branching Dead = false
is_branching Ends = false
is_branching (Unfit rule) = nat_le 3 rule

-- the node asks the target
abbrev pub is_end : Node → Bool
is_end (Step c) = false
is_end (Abs c n) = false
is_end (Fork c) = false
is_end (Loop set keep) = false
is_end (Block counts keep) = false
is_end Dead = false
is_end Ends = true
is_end (Unfit rule) = false
