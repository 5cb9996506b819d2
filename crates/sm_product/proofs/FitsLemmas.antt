-- Where each node of a sketch may stand at what is left of the copies, its plans have obligations.
use Rattle.sm_product.proofs.Imports.{◌≡◌, ℕ, suc, ◌+◌, ◌==◌, nat_le, Bool, true, false, not, ◌&&◌, ◌||◌, if◌then◌else◌, Option, Some, List, [], ◌∷◌, ◌++◌, map, length, refl, ap, sym, ◌∙◌, subst, arith, length-map, Code, End, Skip, Assign, Write, If, While, Hole, Copy, O, A, B, M, Assertion, SymbolicStore, Copies, each, has, is_inhabited, subsets, with_copy, is_kept, Node, Step, Abs, Fork, Loop, Dead, Ends, Unfit, Opened, opened_by, rule_of, where_true, after_step, both_ways, Plan, Plans, Fault, Wrong, due, joined, opened, expand, expand_all, count, State, is_over, is_long, front, rest_after, is_loop, loop_body, is_simple, is_fork, by_first_block, by_second_block, only_in, moved_on, SketchNode, Plain, LoopSite, BlockSite, Draw, Sketches, Over, More, site_at, sites_of, sites_below, node_with, plan_with, plans_with, AreKept}
use Rattle.std.proofs.Common.{Result, Ok, Err}
use Rattle.sm_term.specs.SameTestLaws.{both, three, four, same_number}
use Rattle.sm_plan.specs.Nodes.{Block}
use Rattle.sm_plan.specs.Plans as plan
use Rattle.sm_plan.specs.Plans.{Due}
use Rattle.sm_plan.specs.Successors as next
use Rattle.sm_sketch.specs.Sketches.{Sketch}

-- a node that is chosen may stand where this is left
abbrev pub PlainOpens : Node → (Copy → Code) → Type 0
PlainOpens (Step c) r = is_simple (r c) ≡ true
PlainOpens (Abs c n) r = (nat_le 1 n && is_long n (r c)) ≡ true
PlainOpens (Fork c) r = is_fork (r c) ≡ true
PlainOpens (Loop set keep) r = ⊥
PlainOpens (Block counts keep) r = ⊥
PlainOpens Dead r = ⊥
PlainOpens Ends r = (c : Copy) → is_over (r c) ≡ true
PlainOpens (Unfit rule) r = ⊥

-- what is left in the states that it opens
abbrev pub plain_rests : Node → (Copy → Code) → List (Copy → Code)
plain_rests (Step c) r = with_copy r c (rest_after 1 (r c)) ∷ []
plain_rests (Abs c n) r = with_copy r c (rest_after n (r c)) ∷ []
plain_rests (Fork c) r = with_copy r c (by_first_block (r c)) ∷ with_copy r c (by_second_block (r c)) ∷ []
plain_rests (Loop set keep) r = []
plain_rests (Block counts keep) r = []
plain_rests Dead r = []
plain_rests Ends r = []
plain_rests (Unfit rule) r = []

-- a node of a sketch may stand where this is left
abbrev pub Opens : SketchNode → (Copy → Code) → Type 0
Opens (Plain node) r = PlainOpens node r
Opens (LoopSite set templates) r = (is_inhabited set ≡ true) × ((c : Copy) → has set c ≡ true → is_loop (r c) ≡ true)
Opens (BlockSite counts templates) r = (c : Copy) → is_long (counts c) (r c) ≡ true

-- the bodies of the loops that copies begin with
abbrev pub bodies_left : (Copy → Code) → Copies → Copy → Code
bodies_left r v = only_in v (λ (c : Copy). loop_body (r c))

-- what is left in the states that it opens
abbrev pub rests_after : SketchNode → (Copy → Code) → List (Copy → Code)
rests_after (Plain node) r = plain_rests node r
rests_after (LoopSite set templates) r = map (bodies_left r) (subsets set) ++ moved_on set r ∷ []
rests_after (BlockSite counts templates) r = (λ (c : Copy). front (counts c) (r c)) ∷ (λ (c : Copy). rest_after (counts c) (r c)) ∷ []

abbrev mutual
  -- each node of a sketch may stand where it does, from what is left of the copies
  pub Fits : Sketch → (Copy → Code) → Type 0
  Fits (Draw node ps) r = Opens node r × FitAll ps (rests_after node r)

  -- each node of sketches may stand where it does, each sketch from its own rest of the copies
  pub FitAll : Sketches → List (Copy → Code) → Type 0
  FitAll Over [] = Unit {0}
  FitAll Over (r ∷ rs) = ⊥
  FitAll (More p ps) [] = ⊥
  FitAll (More p ps) (r ∷ rs) = Fits p r × FitAll ps rs

-- what fits fits where the same is left
pub fits_same : (p : Sketch) (r s : Copy → Code) → ((c : Copy) → r c ≡ s c) → Fits p r → Fits p s
fits_same p r s e h = subst (Fits p) (λ i (c : Copy). e c i) h

-- that of the first sites and of those after them
pub kept_parts : (keep : ℕ → List Assertion → Assertion) (s n : ℕ) (xs ys : List (List Assertion)) → n ≡ s + length xs →
    AreKept keep s (xs ++ ys) → AreKept keep s xs × AreKept keep n ys
kept_parts keep s n [] ys e h = (tt, subst (λ (m : ℕ). AreKept keep m ys) (omega (arith, e)) h)
kept_parts keep s n (ts ∷ xs) ys e h =
    let later = kept_parts keep (suc s) n xs ys (omega (arith, e)) h.1 in ((h.0, later.0), later.1)

-- a state with the rest
abbrev rest_of : State → Copy → Code
rest_of st = st.rest

-- a node opens states of these rests
abbrev OpensTo : Option Opened → List (Copy → Code) → Type 0
OpensTo o rests = (q : Opened) × (o ≡ Some q) × (map rest_of q.states ≡ rests)

-- a test that passes opens what there is
where_passes : (b : Bool) (q : Opened) (rests : List (Copy → Code)) → b ≡ true → map rest_of q.states ≡ rests →
    OpensTo (where_true b q) rests
where_passes true q rests e h = (q, refl, h)
where_passes false q rests e h = absurd cc

step_opens : (st : State) (c : Copy) (code : Code) (s : SymbolicStore) → is_simple code ≡ true →
    OpensTo (after_step st c (next.stepped code s)) (with_copy st.rest c (rest_after 1 code) ∷ [])
step_opens st c End s e = absurd cc
step_opens st c (Skip k) s e = (_, refl, refl)
step_opens st c (Assign x v k) s e = (_, refl, refl)
step_opens st c (Write a i v k) s e = (_, refl, refl)
step_opens st c (If b one other k) s e = absurd cc
step_opens st c (While b body k) s e = absurd cc
step_opens st c (Hole h k) s e = absurd cc

fork_opens : (st : State) (c : Copy) (code : Code) → is_fork code ≡ true →
    OpensTo (both_ways st c code) (with_copy st.rest c (by_first_block code) ∷ with_copy st.rest c (by_second_block code) ∷ [])
fork_opens st c End e = absurd cc
fork_opens st c (Skip k) e = absurd cc
fork_opens st c (Assign x v k) e = absurd cc
fork_opens st c (Write a i v k) e = absurd cc
fork_opens st c (If b one other k) e = (_, refl, refl)
fork_opens st c (While b body k) e = absurd cc
fork_opens st c (Hole h k) e = absurd cc

-- a test of each copy passes where it does of each
all_copies_pass : (test : Copy → Bool) → ((c : Copy) → test c ≡ true) → each test ≡ true
all_copies_pass test h = four (test O) (test A) (test B) (test M) (h O) (h A) (h B) (h M)

unless_in : (b loop : Bool) → (b ≡ true → loop ≡ true) → (not b || loop) ≡ true
unless_in true loop h = h refl
unless_in false loop h = refl

-- the rests of turns, and that after the loops
turn_rests : (st : State) (k : ℕ) (set : Copies) (keep : Assertion) (vs : List Copies) →
    map rest_of (map (next.turn_state st k set keep) vs ++ next.after_loops_state st k set keep ∷ [])
    ≡ map (bodies_left st.rest) vs ++ moved_on set st.rest ∷ []
turn_rests st k set keep [] = refl
turn_rests st k set keep (v ∷ vs) = ap (λ (rs : List (Copy → Code)). bodies_left st.rest v ∷ rs) (turn_rests st k set keep vs)

plain_opens : (k : ℕ) (st : State) (node : Node) → PlainOpens node st.rest → OpensTo (opened_by k st node) (plain_rests node st.rest)
plain_opens k st (Step c) h = step_opens st c (st.rest c) (st.stores c) h
plain_opens k st (Abs c n) h = where_passes (nat_le 1 n && is_long n (st.rest c)) _ _ h refl
plain_opens k st (Fork c) h = fork_opens st c (st.rest c) h
plain_opens k st (Loop set keep) h = absurd h
plain_opens k st (Block counts keep) h = absurd h
plain_opens k st Dead h = absurd h
plain_opens k st Ends h =
    where_passes (each (λ (c : Copy). is_over (st.rest c))) _ _ (all_copies_pass (λ (c : Copy). is_over (st.rest c)) h) refl
plain_opens k st (Unfit rule) h = absurd h

-- each node opens states of the rests that follow
node_opens : (keep : ℕ → List Assertion → Assertion) (k s : ℕ) (st : State) (node : SketchNode) → Opens node st.rest →
    AreKept keep s (site_at node) → OpensTo (opened_by k st (node_with keep s node)) (rests_after node st.rest)
node_opens keep k s st (Plain node) h g = plain_opens k st node h
node_opens keep k s st (LoopSite set templates) h g =
    let loops = λ (c : Copy). not (has set c) || is_loop (st.rest c) in
    where_passes (is_inhabited set && (each loops && is_kept (keep s templates))) _ _
    (three (is_inhabited set) (each loops) (is_kept (keep s templates)) h.0
    (all_copies_pass loops (λ (c : Copy). unless_in (has set c) (is_loop (st.rest c)) (h.1 c))) g.0)
    (turn_rests st k set (keep s templates) (subsets set))
node_opens keep k s st (BlockSite counts templates) h g =
    let long = λ (c : Copy). is_long (counts c) (st.rest c) in
    where_passes (each long && is_kept (keep s templates)) _ _
    (both (each long) (is_kept (keep s templates)) (all_copies_pass long h) g.0) refl

-- there are as many plans as states that follow
count_fits : (keep : ℕ → List Assertion → Assertion) (s : ℕ) (ps : Sketches) (rests : List (Copy → Code)) → FitAll ps rests →
    count (plans_with keep s ps) ≡ length rests
count_fits keep s Over [] h = refl
count_fits keep s Over (r ∷ rs) h = absurd h
count_fits keep s (More p ps) [] h = absurd h
count_fits keep s (More p ps) (r ∷ rs) h =
    ap (λ (n : ℕ). suc n) (count_fits keep (s + length (sites_of p)) ps rs h.1)

-- obligations are there
abbrev pub IsExpanded : Result (List Due) Fault → Type 0
IsExpanded r = (ds : List Due) × (r ≡ Ok ds)

both_expanded : (a b : Result (List Due) Fault) → IsExpanded a → IsExpanded b → IsExpanded (joined a b)
both_expanded a b (ds, e) (es, g) = (ds ++ es, ap (λ (x : Result (List Due) Fault). joined x b) e ∙ ap (joined (Ok ds)) g)

opened_expanded : (o : Option Opened) (q : Opened) (w : Fault) (f : Opened → Result (List Due) Fault) → o ≡ Some q → IsExpanded (f q) →
    IsExpanded (opened o w f)
opened_expanded o q w f e h = subst (λ (x : Option Opened). IsExpanded (opened x w f)) (sym e) h

where_as_many : (n m : ℕ) (r : Result (List Due) Fault) (w : Fault) → n ≡ m → IsExpanded r → IsExpanded (if n == m then r else Err w)
where_as_many n m r w e h =
    subst (λ (b : Bool). IsExpanded (if b then r else Err w)) (sym (ap (λ (i : ℕ). i == m) e ∙ same_number m)) h

mutual
  -- a plan of a sketch that fits has obligations
  pub expanded : (p : Sketch) (keep : ℕ → List Assertion → Assertion) (k s : ℕ) (st : State) → Fits p st.rest →
      AreKept keep s (sites_of p) → IsExpanded (expand k st (plan_with keep s p))
  expanded (Draw node ps) keep k s st h g =
      let inside = kept_parts keep s (s + length (site_at node)) (site_at node) (sites_below ps) refl g in
      let o = node_opens keep k s st node h.0 inside.0 in
      let fit : FitAll ps (map rest_of o.0.states) = subst (FitAll ps) (sym o.2) h.1 in
      let below = plans_with keep (s + length (site_at node)) ps in
      let w = Wrong k (rule_of (node_with keep s node)) in
      opened_expanded (opened_by k st (node_with keep s node)) o.0 w
      (λ (q : Opened). if count below == length q.states
      then joined (Ok (due k st (node_with keep s node) q.goals)) (expand_all w (suc k) q.states below) else Err w)
      o.1
      (where_as_many (count below) (length o.0.states) _ w
      (count_fits keep (s + length (site_at node)) ps (map rest_of o.0.states) fit ∙ length-map o.0.states rest_of)
      (both_expanded (Ok (due k st (node_with keep s node) o.0.goals)) (expand_all w (suc k) o.0.states below)
      (_, refl)
      (all_expanded ps keep w (suc k) (s + length (site_at node)) o.0.states fit inside.1)))

  -- plans of sketches that fit have obligations
  all_expanded : (ps : Sketches) (keep : ℕ → List Assertion → Assertion) (w : Fault) (k s : ℕ) (states : List State) →
      FitAll ps (map rest_of states) → AreKept keep s (sites_below ps) → IsExpanded (expand_all w k states (plans_with keep s ps))
  all_expanded Over keep w k s [] h g = ([], refl)
  all_expanded Over keep w k s (st ∷ states) h g = absurd h
  all_expanded (More p ps) keep w k s [] h g = absurd h
  all_expanded (More p ps) keep w k s (st ∷ states) h g =
      let inside = kept_parts keep s (s + length (sites_of p)) (sites_of p) (sites_below ps) refl g in
      both_expanded (expand k st (plan_with keep s p))
      (expand_all w (k + plan.size (plan_with keep s p)) states (plans_with keep (s + length (sites_of p)) ps))
      (expanded p keep k s st h.0 inside.0)
      (all_expanded ps keep w (k + plan.size (plan_with keep s p)) (s + length (sites_of p)) states h.1 inside.1)
