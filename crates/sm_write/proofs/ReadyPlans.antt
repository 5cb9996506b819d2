-- A plan that is writable as a whole is so node by node.
use Rattle.sm_write.proofs.Imports.{◌≡◌, ℕ, zero, suc, ◌+◌, ◌==◌, ◌≤◌, if◌then◌else◌, Ok, Err, List, [], ◌∷◌, ◌++◌, map, length, refl, ap, sym, ◌∙◌, subst, arith, nat_tests, Parts, sort_of, task_of, Sorts, Sort, Assertion, Tree, BranchFact, each_more, Certificate, Next, Closed, Split, is_shallow, above_opened, Unfit, opened_by, rule_of, is_branching, Plan, Plans, size, sizes, count, nodes_of, all_nodes, branches, most_branches, Fault, Wrong, due, joined, expand, expand_all, IsStateSorted, AreStatesSorted, IsNodeSorted, State, start_state, Nameable, states_opened, plan_states, plans_states, AreClosed, IsReady, AreReady, IsBuilt, IsAtom, Seen, Goal, denied, goals_of, all_goals, states_until, AreShown, EachKept, AreKeptNameable, AreShort, IsWritable, is_few, few_is, counts_above, first_few, second_few, test_passed}
use Rattle.std.proofs.lemmas.List.{append_assoc, append-nil, length-append}
use Rattle.sm_theory.specs.Lines as cert
use Rattle.sm_cert.specs.NamedTerms.{EachTerm}
use Rattle.sm_plan.specs.Nodes.{Node, Step, Abs, Fork, Loop, Block, Dead, Ends, Opened}
use Rattle.sm_plan.specs.Plans.{At, Over, More, Due}
use Rattle.sm_plan.specs.Laws.{SortsAreKept}
use Rattle.sm_plan.proofs.PlanSound.{opened_is, passed, joined_is, shallow}
use Rattle.sm_write.proofs.BuiltTerms.{side_more}
use Rattle.sm_write.proofs.BuiltStates.{IsWell, With, AreWellWith, node_well, start_well, Nothing, well_more}
use Rattle.sm_write.proofs.SeenLemmas.{AreFine, none_fine, fine_more, well_here, waiting_more}
use Rattle.sm_write.proofs.NameableBuilt.{nameable_built}

-- each node's kept formula is sorted
abbrev pub AreNodesSorted : Sorts → List Node → Type 0
AreNodesSorted sorts [] = Unit {0}
AreNodesSorted sorts (node ∷ nodes) = IsNodeSorted sorts node × AreNodesSorted sorts nodes

-- both parts of lists of nodes
nodes_sorted : (sorts : Sorts) (first second : List Node) → AreNodesSorted sorts (first ++ second) →
    AreNodesSorted sorts first × AreNodesSorted sorts second
nodes_sorted sorts [] second all = (tt, all)
nodes_sorted sorts (node ∷ first) second all =
    let both = nodes_sorted sorts first second all.1 in
    ((all.0, both.0), both.1)

-- other terms that something is so of
pub term_more : (P Q : Tree → Type 0) → ((t : Tree) → P t → Q t) → (c : Certificate) → EachTerm P c → EachTerm Q c
term_more P Q more (Next l c) b = (each_more P Q l more b.0, term_more P Q more c b.1)
term_more P Q more (Closed l) b = each_more P Q l more b
term_more P Q more (Split l c d) b = (each_more P Q l more b.0, term_more P Q more c b.1, term_more P Q more d b.2)

pub kept_more : (P Q : Tree → Type 0) → ((t : Tree) → P t → Q t) → (node : Node) → EachKept P node → EachKept Q node
kept_more P Q more (Step c) b = tt
kept_more P Q more (Abs c n) b = tt
kept_more P Q more (Fork c) b = tt
kept_more P Q more (Loop set keep) b = side_more P Q more keep b
kept_more P Q more (Block counts keep) b = side_more P Q more keep b
kept_more P Q more Dead b = tt
kept_more P Q more Ends b = tt
kept_more P Q more (Unfit rule) b = tt

-- the states up to the one behind some
until_here : (seen : List State) (st : State) (later : List State) (k : ℕ) → length seen ≡ k →
    states_until (seen ++ (st ∷ later)) k ≡ seen ++ st ∷ []
until_here [] st later zero e = refl
until_here [] st later (suc k) e = absurd cc
until_here (s ∷ seen) st later zero e = absurd cc
until_here (s ∷ seen) st later (suc k) e =
    ap (λ (l : List State). s ∷ l) (until_here seen st later k (let f : length seen ≡ k = omega (arith, e) in f))

-- the goals of one node, shown; and what is left
record Shown (declared : List (ℕ × Sort)) (all now : List State) (branches : List (List BranchFact)) (more : List Goal)
    (cs : List Certificate) : Type 0 where
  left : List Certificate
  closed : AreClosed (sort_of declared) (Seen now) branches cs left
  shown : AreShown (sort_of declared) all more left
  short : AreShort left

goals_shown : (declared : List (ℕ × Sort)) (all now : List State) (k : ℕ) (facts goals : List Assertion) (more : List Goal)
    (cs : List Certificate) → states_until all k ≡ now → AreFine (sort_of declared) now →
    AreShown (sort_of declared) all (map (λ (g : Assertion). record { node = k; branch = denied facts g }) goals ++ more) cs → AreShort cs →
    Shown declared all now (map (denied facts) goals) more cs
goals_shown declared all now k facts [] more cs here fine shown short = record { left = cs; closed = refl; shown = shown; short = short }
goals_shown declared all now k facts (g ∷ goals) more [] here fine shown short = absurd shown
goals_shown declared all now k facts (g ∷ goals) more (c ∷ cs) here fine shown short =
    let later = goals_shown declared all now k facts goals more cs here fine shown.2 short.1 in
    let built = term_more (Nameable (sort_of declared) (states_until all k)) (IsBuilt (Seen now))
    (λ (t : Tree) (n : Nameable (sort_of declared) (states_until all k) t).
    nameable_built declared now fine t (subst (λ (s : List State). Nameable (sort_of declared) s t) here n)) c shown.1 in
    record { left = later.left; closed = (shown.0, built, short.0, later.closed); shown = later.shown; short = later.short }

-- what a node asks, as goals
due_goals : (k : ℕ) (st : State) (node : Node) (goals : List Assertion) →
    all_goals (due k st node goals) ≡ map (λ (g : Assertion). record { node = k; branch = denied st.facts g }) goals
due_goals k st node [] = refl
due_goals k st node (g ∷ gs) = append-nil (map (λ (h : Assertion). record { node = k; branch = denied st.facts h }) (g ∷ gs))

-- goals of obligations one after the other
goals_append : (a b : List Due) → all_goals (a ++ b) ≡ all_goals a ++ all_goals b
goals_append [] b = refl
goals_append (d ∷ a) b =
    ap (λ (l : List Goal). goals_of d ++ l) (goals_append a b) ∙ sym (append_assoc (goals_of d) (all_goals a) (all_goals b))

-- a plan that is ready, and what is left behind it
record Led (declared : List (ℕ × Sort)) (all : List State) (above k : ℕ) (seen : List State) (st : State) (p : Plan) (more : List Goal)
    (nodes : List Node) (cs : List Certificate) : Type 0 where
  left : List Certificate
  ready : IsReady (sort_of declared) seen above k st p cs left
  shown : AreShown (sort_of declared) all more left
  short : AreShort left
  kept : AreKeptNameable (sort_of declared) all (k + size p) nodes
  fine : AreFine (sort_of declared) (seen ++ plan_states k st p)
  counted : length (plan_states k st p) ≡ size p

-- plans that are ready, and what is left behind them
record AllLed (declared : List (ℕ × Sort)) (all : List State) (above k : ℕ) (seen : List State) (states : List State) (ps : Plans)
    (more : List Goal) (nodes : List Node) (cs : List Certificate) : Type 0 where
  left : List Certificate
  ready : AreReady (sort_of declared) seen above k states ps cs left
  shown : AreShown (sort_of declared) all more left
  short : AreShort left
  kept : AreKeptNameable (sort_of declared) all (k + sizes ps) nodes
  fine : AreFine (sort_of declared) (seen ++ plans_states k states ps)
  counted : length (plans_states k states ps) ≡ sizes ps

-- goals of two lists of obligations and of others
goals_of_both : (a b ds : List Due) (more : List Goal) → a ++ b ≡ ds → all_goals ds ++ more ≡ all_goals a ++ (all_goals b ++ more)
goals_of_both a b ds more e =
    ap (λ (l : List Due). all_goals l ++ more) (sym e)
    ∙ ap (λ (l : List Goal). l ++ more) (goals_append a b)
    ∙ append_assoc (all_goals a) (all_goals b) more

mutual
  -- a plan that is writable among others is ready, and the others are left
  plan_led : SortsAreKept → (declared : List (ℕ × Sort)) (all : List State) (p : Plan) (above k : ℕ) (seen : List State) (st : State)
      (ds : List Due) (more : List Goal) (nodes : List Node) (cs : List Certificate) (later : List State) →
      AreFine (sort_of declared) seen → IsStateSorted (sort_of declared) st → IsWell (With (Seen seen) st) st → length seen ≡ k →
      all ≡ seen ++ (plan_states k st p ++ later) → above + branches p ≤ 1000 → AreNodesSorted (sort_of declared) (nodes_of p) →
      expand k st p ≡ Ok ds → AreKeptNameable (sort_of declared) all k (nodes_of p ++ nodes) →
      AreShown (sort_of declared) all (all_goals ds ++ more) cs → AreShort cs → Led declared all above k seen st p more nodes cs
  plan_led law declared all (At node ps) above k seen st ds more nodes cs later fine sorted well len whole few good e kept shown short =
      let sorts = sort_of declared in
      let w = Wrong k (rule_of node) in
      let o = opened_is (opened_by k st node) w
      (λ (q : Opened). if count ps == length q.states then joined (Ok (due k st node q.goals))
      (expand_all w (suc k) q.states ps) else Err w) ds e in
      let q = o.0 in
      let parts = joined_is (Ok (due k st node q.goals)) (expand_all w (suc k) q.states ps) ds
      (passed (count ps == length q.states) (joined (Ok (due k st node q.goals)) (expand_all w (suc k) q.states ps)) w ds o.2) in
      let asked : parts.0 ≡ due k st node q.goals = let f = parts.2 in cc in
      let now = seen ++ st ∷ [] in
      let behind = plans_states (suc k) (states_opened (opened_by k st node)) ps in
      let same : states_opened (opened_by k st node) ≡ q.states = ap states_opened o.1 in
      let here : states_until all k ≡ now =
      ap (λ (l : List State). states_until l k) whole ∙ until_here seen st (behind ++ later) k len in
      let fine_now = fine_more sorts seen st fine sorted well in
      let named = nameable_built declared now fine_now in
      let built = kept_more (Nameable sorts (states_until all k)) (IsBuilt (Seen now))
      (λ (t : Tree) (n : Nameable sorts (states_until all k) t).
      named t (subst (λ (s : List State). Nameable sorts s t) here n)) node kept.0 in
      let goals : List Goal = map (λ (g : Assertion). record { node = k; branch = denied st.facts g }) q.goals in
      let split : all_goals ds ++ more ≡ goals ++ (all_goals parts.1 ++ more) =
      goals_of_both parts.0 parts.1 ds more parts.4
      ∙ ap (λ (l : List Goal). l ++ (all_goals parts.1 ++ more)) (ap all_goals asked ∙ due_goals k st node q.goals) in
      let g = goals_shown declared all now k st.facts q.goals (all_goals parts.1 ++ more) cs here fine_now
      (subst (λ (l : List Goal). AreShown sorts all l cs) split shown) short in
      let opened = law sorts k st node q sorted good.0 o.1 in
      let wells = node_well (Seen now) fine_now.solid k st node q (well_here seen st well) built o.1 in
      let room : above_opened node above + most_branches ps ≤ 1000 = counts_above (is_branching node) above (most_branches ps) few in
      let count_now : length now ≡ suc k = omega (arith, length-append seen (st ∷ []), len) in
      let from : all ≡ now ++ (plans_states (suc k) q.states ps ++ later) =
      whole ∙ (sym (append_assoc seen (st ∷ []) (behind ++ later))
      ∙ ap (λ (l : List State). now ++ (plans_states (suc k) l ps ++ later)) same) in
      let rest = plans_led law declared all ps w (above_opened node above) (suc k) now q.states parts.1 more nodes g.left later
      fine_now opened.1 wells count_now from room good.1 parts.3 kept.1 g.shown g.short in
      let last : (suc k) + sizes ps ≡ k + suc (sizes ps) = omega arith in
      record {
        left = rest.left;
        ready = (q, o.1, is_few (above_opened node above) (omega (arith, room)), built, g.left, g.closed, rest.ready);
        shown = rest.shown;
        short = rest.short;
        kept = subst (λ (j : ℕ). AreKeptNameable sorts all j nodes) last rest.kept;
        fine =
            subst (AreFine sorts)
            (append_assoc seen (st ∷ []) (plans_states (suc k) q.states ps)
            ∙ ap (λ (l : List State). seen ++ (st ∷ plans_states (suc k) l ps)) (sym same)) rest.fine;
        counted = ap suc (ap (λ (l : List State). length (plans_states (suc k) l ps)) same ∙ rest.counted);
      }

  -- plans that are writable among others are ready, and the others are left
  plans_led : SortsAreKept → (declared : List (ℕ × Sort)) (all : List State) (ps : Plans) (w : Fault) (above k : ℕ) (seen : List State)
      (states : List State) (ds : List Due) (more : List Goal) (nodes : List Node) (cs : List Certificate) (later : List State) →
      AreFine (sort_of declared) seen → AreStatesSorted (sort_of declared) states → AreWellWith (Seen seen) states → length seen ≡ k →
      all ≡ seen ++ (plans_states k states ps ++ later) → above + most_branches ps ≤ 1000 →
      AreNodesSorted (sort_of declared) (all_nodes ps) → expand_all w k states ps ≡ Ok ds →
      AreKeptNameable (sort_of declared) all k (all_nodes ps ++ nodes) → AreShown (sort_of declared) all (all_goals ds ++ more) cs →
      AreShort cs → AllLed declared all above k seen states ps more nodes cs
  plans_led law declared all Over w above k seen [] ds more nodes cs later fine sorted wells len whole few good e kept shown short =
      let sorts = sort_of declared in
      let none : ds ≡ [] = cc in
      let last : k ≡ k + 0 = omega arith in
      record {
        left = cs;
        ready = refl;
        shown = subst (λ (l : List Due). AreShown sorts all (all_goals l ++ more) cs) none shown;
        short = short;
        kept = subst (λ (j : ℕ). AreKeptNameable sorts all j nodes) last kept;
        fine = subst (AreFine sorts) (sym (append-nil seen)) fine;
        counted = refl;
      }
  plans_led law declared all Over w above k seen (st ∷ states) ds more nodes cs later fine sorted wells len whole few good e kept
      shown short = absurd cc
  plans_led law declared all (More p ps) w above k seen [] ds more nodes cs later fine sorted wells len whole few good e kept shown short =
      absurd cc
  plans_led law declared all (More p ps) w above k seen (st ∷ states) ds more nodes cs later fine sorted wells len whole few good e kept
      shown short =
      let sorts = sort_of declared in
      let parts = joined_is (expand k st p) (expand_all w (k + size p) states ps) ds e in
      let first = plan_states k st p in
      let second = plans_states (k + size p) states ps in
      let both = nodes_sorted sorts (nodes_of p) (all_nodes ps) good in
      let here =
      plan_led law declared all p above k seen st parts.0 (all_goals parts.1 ++ more) (all_nodes ps ++ nodes) cs (second ++ later)
      fine sorted.0 wells.0 len (whole ∙ ap (λ (l : List State). seen ++ l) (append_assoc first second later))
      (first_few above (branches p) (most_branches ps) few) both.0 parts.2
      (subst (AreKeptNameable sorts all k) (append_assoc (nodes_of p) (all_nodes ps) nodes) kept)
      (subst (λ (l : List Goal). AreShown sorts all l cs) (goals_of_both parts.0 parts.1 ds more parts.4) shown) short in
      let long : length (seen ++ first) ≡ k + size p = omega (arith, length-append seen first, len, here.counted) in
      let from : all ≡ (seen ++ first) ++ (second ++ later) =
      whole ∙ (ap (λ (l : List State). seen ++ l) (append_assoc first second later) ∙ sym (append_assoc seen first (second ++ later))) in
      let rest =
      plans_led law declared all ps w above (k + size p) (seen ++ first) states parts.1 more nodes here.left later here.fine sorted.1
      (waiting_more seen first states wells.1) long from (second_few above (branches p) (most_branches ps) few) both.1 parts.3 here.kept
      here.shown here.short in
      let last : (k + size p) + sizes ps ≡ k + (size p + sizes ps) = omega arith in
      record {
        left = rest.left;
        ready = (here.left, here.ready, rest.ready);
        shown = rest.shown;
        short = rest.short;
        kept = subst (λ (j : ℕ). AreKeptNameable sorts all j nodes) last rest.kept;
        fine = subst (AreFine sorts) (append_assoc seen first second) rest.fine;
        counted = omega (arith, length-append first second, here.counted, rest.counted);
      }

-- where nothing is asked, no certificate is left
none_left : (sorts : Sorts) (states : List State) (cs : List Certificate) → AreShown sorts states [] cs → cs ≡ []
none_left sorts states [] shown = refl
none_left sorts states (c ∷ cs) shown = absurd shown

-- a plan that is writable is ready at the start of its task
pub writable_ready : SortsAreKept → (t : Parts) (p : Plan) (cs : List Certificate) →
    IsStateSorted (sort_of t.declared) (start_state (task_of t)) →
    AreNodesSorted (sort_of t.declared) (nodes_of p) → IsWritable t p cs →
    IsReady (sort_of t.declared) [] 0 0 (start_state (task_of t)) p cs []
writable_ready law t p cs sorted good w =
    let sorts = sort_of t.declared in
    let st = start_state (task_of t) in
    let all = plan_states 0 st p in
    let e = w.expands in
    let few = few_is (branches p) (test_passed (is_shallow (branches p)) (expand 0 st p) w.dues e) in
    let wide : (u : Tree) → IsAtom u → Nothing u → With (Seen []) st u = λ (u : Tree) (a : IsAtom u) (n : Nothing u). absurd n in
    let led = plan_led law t.declared all p 0 0 [] st w.dues [] [] cs [] (none_fine sorts) sorted
    (well_more Nothing (With (Seen []) st) wide st (start_well (task_of t))) refl (sym (append-nil all)) (omega (arith, few)) good
    (shallow (is_shallow (branches p)) (expand 0 st p) w.dues e)
    (subst (AreKeptNameable sorts all 0) (sym (append-nil (nodes_of p))) w.kept)
    (subst (λ (l : List Goal). AreShown sorts all l cs) (sym (append-nil (all_goals w.dues))) w.shown) w.short in
    subst (IsReady sorts [] 0 0 st p cs) (none_left sorts all led.left led.shown) led.ready
