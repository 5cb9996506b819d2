-- Cited by public clauses: the states that follow a node of a plan.
use Rattle.std.specs.Prelude.{ℕ, false, if◌then◌else◌, Option, Some, None, List, [], ◌∷◌, ◌++◌}
use Rattle.std.specs.List.{flat_map}
use Rattle.sm_syntax.specs.claim.Syntax.{Condition, Code, End, Skip, Assign, If, While, Hole}
use Rattle.sm_syntax.specs.claim.Syntax as syntax
use Rattle.sm_syntax.specs.Assigns.{assigns}
use Rattle.sm_syntax.specs.claim.ConflictFree.{Copy}
use Rattle.sm_deps.specs.Inputs.{inputs}
use Rattle.sm_term.specs.Terms.{Havoc, Write, Fun, Arguments, Over, Given}
use Rattle.sm_term.specs.Assertions.{Assertion, negate, conj}
use Rattle.sm_term.specs.Symbolic.{SymbolicStore, with_term, term_of, form_of}
use Rattle.sm_term.specs.Slots.{all_at_stores}
use Rattle.sm_plan.specs.Copies.{Copies, has, with_copy, copies, no_copies}
use Rattle.sm_plan.specs.Statements.{front, rest_after, loop_guard, loop_body, last_guard}
use Rattle.sm_plan.specs.States.{State}

-- what is left of code that begins with skip or an assignment, and the symbolic store after that
-- statement
abbrev pub stepped : Code → SymbolicStore → Option (Code × SymbolicStore)
stepped End s = None
stepped (Skip k) s = Some (k, s)
stepped (Assign x e k) s = Some (k, with_term s x (term_of e s))
stepped (syntax.Write a i e k) s = Some (k, with_term s a (Write (s a) (term_of i s) (term_of e s)))
stepped (If b c d k) s = None
stepped (While b c k) s = None
stepped (Hole h k) s = None

-- another rest and symbolic store of one copy
abbrev pub moved : State → Copy → Code → SymbolicStore → State
moved st c k s = record st { rest = with_copy st.rest c k; stores = with_copy st.stores c s }

-- more facts
abbrev pub with_facts : State → List Assertion → State
with_facts st more = record st { facts = st.facts ++ more }

-- names with their present terms
abbrev pub present : SymbolicStore → List ℕ → Arguments
present s [] = Over
present s (x ∷ rest) = Given x (s x) (present s rest)

-- the symbolic store after code: each name that it assigns is a summary of its inputs
abbrev pub summarized : Code → SymbolicStore → SymbolicStore
summarized c s x = if assigns c x then Fun c x (present s (inputs c x)) else s x

-- that a guard is false, where there is one
abbrev pub false_guard : Option Condition → SymbolicStore → List Assertion
false_guard None s = []
false_guard (Some b) s = negate (form_of b s) ∷ []

-- copy c has done code, with k left
abbrev pub summary_state : State → Copy → Code → Code → State
summary_state st c done k =
    let s = summarized done (st.stores c) in
    with_facts (moved st c k s) (false_guard (last_guard done) s)

-- copy c goes on by code where a fact holds
abbrev pub branch_state : State → Copy → Code → Assertion → State
branch_state st c k fact = with_facts (moved st c k (st.stores c)) (fact ∷ [])

-- each name that a copy's code assigns has a new value of node k
abbrev pub renewed : ℕ → (Copy → Code) → (Copy → SymbolicStore) → Copy → SymbolicStore
renewed k done stores c x = if assigns (done c) x then Havoc k c x else stores c x

-- the body of the loop of each copy of a set, nothing for the others
abbrev pub bodies : State → Copies → Copy → Code
bodies st set c = if has set c then loop_body (st.rest c) else End

-- what is left after the loops of a set's copies
abbrev pub rest_after_loops : State → Copies → Copy → Code
rest_after_loops st set c = if has set c then rest_after 1 (st.rest c) else st.rest c

-- the symbolic stores at the head of the loops of a set
abbrev pub head_stores : State → ℕ → Copies → Copy → SymbolicStore
head_stores st k set = renewed k (bodies st set) st.stores

-- of a copy of the set, that its guard is true where it takes a turn, and false where it doesn't
abbrev pub guard_fact : State → Copies → Copies → (Copy → SymbolicStore) → Copy → List Assertion
guard_fact st set turning stores c =
    let f = form_of (loop_guard (st.rest c)) (stores c) in
    if has set c then (if has turning c then f else negate f) ∷ [] else []

-- the facts at the head of the loops of a set: the kept formula, and which guards are true
abbrev pub head_facts : State → ℕ → Copies → Assertion → Copies → List Assertion
head_facts st k set keep turning =
    let stores = head_stores st k set in
    all_at_stores stores (conj keep) ++ flat_map (guard_fact st set turning stores) copies

-- one turn of the loops of some copies: it ends with the kept formula
abbrev pub turn_state : State → ℕ → Copies → Assertion → Copies → State
turn_state st k set keep turning = record {
  rest = bodies st turning;
  stores = head_stores st k set;
  facts = st.facts ++ head_facts st k set keep turning;
  target = conj keep;
  is_final = false;
}

-- after the loops
abbrev pub after_loops_state : State → ℕ → Copies → Assertion → State
after_loops_state st k set keep = record {
  rest = rest_after_loops st set;
  stores = head_stores st k set;
  facts = st.facts ++ head_facts st k set keep no_copies;
  target = st.target;
  is_final = st.is_final;
}

-- the first statements of each copy
abbrev pub fronts : State → (Copy → ℕ) → Copy → Code
fronts st counts c = front (counts c) (st.rest c)

-- these statements alone: they end with the kept formula
abbrev pub inner_state : State → (Copy → ℕ) → Assertion → State
inner_state st counts keep =
    record st { rest = fronts st counts; target = conj keep; is_final = false }

-- after them
abbrev pub after_block_state : State → ℕ → (Copy → ℕ) → Assertion → State
after_block_state st k counts keep =
    let stores = renewed k (fronts st counts) st.stores in
    record {
      rest = λ (c : Copy). rest_after (counts c) (st.rest c);
      stores = stores;
      facts = st.facts ++ all_at_stores stores (conj keep);
      target = st.target;
      is_final = st.is_final;
    }
