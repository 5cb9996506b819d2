-- Where an expansion begins and ends, and the obligations of a task.
use Rattle.sm_expand.proofs.Imports.{◌≡◌, ℕ, nat_lt, Bool, true, false, if◌then◌else◌, Option, Result, Ok, Err, List, [], ◌∷◌, ◌++◌, refl, sym, ap, ◌∙◌, append-nil, take, reverse, length, reverse-append, ltb-true, ltb-false, le-leb, lt-leb, Copy, Task, program_of, Sort, Formula, TableValue, trees_in, sorts_in, Fault, Deep, joined, branches, expand, obligations, State, start_state, start_of, forms_in, state_in, Waiting, plan_over, numbered_at, numbered_plan, plan_in, dues_in, Plan, outcome, facts_of}
use Rattle.std.proofs.Math.Path.{fun_ext}
use Rattle.sm_syntax.specs.claim.Syntax.{Condition, Code}
use Rattle.sm_plan.specs.Limits.{is_shallow}
use Rattle.sm_plan.specs.Plans as plain
use Rattle.sm_expand.specs.Tasks.{HasParts}
use Rattle.sm_expand.specs.Views.{Due}
use Rattle.sm_expand.proofs.PairsLemmas.{joined_none}

-- what is asked, and nothing more
pub joined_last : (a : Result (List plain.Due) Fault) → joined a (Ok []) ≡ a
joined_last (Err w) = refl
joined_last (Ok ds) = ap (λ (l : List plain.Due). Ok l) (append-nil ds)

-- one state waits, with all of a plan
pub starts : (t : TableValue) (x : Waiting) (p : Plan) (dues : List Due) (path : List Formula) → dues ≡ [] → path ≡ [] → x.shared ≡ 0 →
    x.more.list.items ≡ [] → numbered_at x.cursor ≡ numbered_plan p →
    outcome t dues 0 path (x ∷ [])
    ≡ expand 0 (state_in (sorts_in t) (trees_in t) (forms_in (sorts_in t) (trees_in t) x.kept.value.list.items) x.state)
    (plan_in (sorts_in t) (trees_in t) p)
starts t x p dues path none bare shared more whole =
    let sorts = sorts_in t in
    let trees = trees_in t in
    let kept = forms_in sorts trees x.kept.value.list.items in
    let facts : facts_of sorts trees path x ≡ kept =
    (λ i. take (shared i) (forms_in sorts trees path) ++ (kept ++ forms_in sorts trees (more i))) ∙ append-nil kept in
    ap (λ (ds : List Due). outcome t ds 0 path (x ∷ [])) none
    ∙ joined_none (joined (expand 0 (state_in sorts trees (facts_of sorts trees path x) x.state)
    (plan_over sorts trees (numbered_at x.cursor))) (Ok []))
    ∙ joined_last (expand 0 (state_in sorts trees (facts_of sorts trees path x) x.state) (plan_over sorts trees (numbered_at x.cursor)))
    ∙ (λ i. expand 0 (state_in sorts trees (facts i) x.state) (plan_over sorts trees (whole i)))

-- nothing waits
pub ended : (t : TableValue) (dues : List Due) (k : ℕ) (path : List Formula) (ws : List Waiting) → ws ≡ [] →
    outcome t dues k path ws ≡ Ok (dues_in (sorts_in t) (trees_in t) dues)
ended t dues k path ws e =
    ap (outcome t dues k path) e ∙ joined_last (Ok (dues_in (sorts_in t) (trees_in t) dues))

-- too many branching nodes
pub too_deep : (t : Task) (p : plain.Plan) → nat_lt 1000 (branches p) ≡ true → obligations t p ≡ Err Deep
unfolding is_shallow
too_deep t p h = ap (λ (b : Bool). if b then expand 0 (start_state t) p else Err Deep) flat
  where
    flat : is_shallow (branches p) ≡ false
    flat = lt-leb (branches p) 1000 (ltb-true 1000 (branches p) h)

-- not too many
pub not_deep : (t : Task) (p : plain.Plan) → nat_lt 1000 (branches p) ≡ false → obligations t p ≡ expand 0 (start_state t) p
unfolding is_shallow
not_deep t p h = ap (λ (b : Bool). if b then expand 0 (start_state t) p else Err Deep) flat
  where
    flat : is_shallow (branches p) ≡ true
    flat = le-leb (branches p) 1000 (ltb-false 1000 (branches p) h)

-- the start of a task that has these parts
pub start_is : (t : Task) (b : Option Condition) (outputs : List (ℕ × Sort)) (code : Copy → Code) → HasParts t b outputs code →
    start_of b outputs code ≡ start_state t
start_is t b outputs code has =
    let programs : program_of t ≡ code = fun_ext has.programs in
    sym (λ i. start_of (has.assumes i) (has.asks i) (programs i))

-- what waited last is taken first
pub popped : (all fewer : List Waiting) (x : Waiting) → all ≡ fewer ++ x ∷ [] → reverse all ≡ x ∷ reverse fewer
popped all fewer x e = ap reverse e ∙ reverse-append fewer (x ∷ [])

-- a list of no length
pub no_items : (xs : List Waiting) → length xs ≡ 0 → xs ≡ []
no_items [] e = refl
no_items (x ∷ xs) e = absurd cc

-- the obligations of a task are those of its plan at the start that was made
pub at_start : (t : Task) (b : Option Condition) (outputs : List (ℕ × Sort)) (code : Copy → Code) (p q : plain.Plan) (st : State) →
    HasParts t b outputs code → nat_lt 1000 (branches p) ≡ false → st ≡ start_of b outputs code → q ≡ p → obligations t p ≡ expand 0 st q
at_start t b outputs code p q st has flat start same =
    not_deep t p flat ∙ sym (λ i. expand 0 ((start ∙ start_is t b outputs code has) i) (same i))
