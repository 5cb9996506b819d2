-- A plan is underway after a node, and done where nothing waits.
use Rattle.sm_write.proofs.Imports.{◌≡◌, ℕ, true, Some, List, [], ◌∷◌, ◌++◌, drop, length, map, sym, ap, ◌∙◌, subst, arith, Vec, Global, drop_all, map-append, length-map, same_Some, Copy, Assertion, numbered, assertion_in, Formula, TableValue, trees_in, sorts_in, ExtendsTable, Certificate, certificate_in, CertTree, is_shallow, above_opened, opened_by, State, stores_in, state_in, opened_in, successor_in, Pending, Progress, goal_branch, opened_before, Subject, node_over, plans_over, head, below, numbered_at, Cursor, plans_stay, IsAt, GoalsLeft, LeavesGoals, NodeWritten, AreClosed, IsBuilt, Seen, AreTreesWithin, AllStandFor, IsUnderway, OpeningWritten, IsWhole, ArePlacedReady, placed_with, PlacedState, IsSet, Waits, due_for, each_waits, AreWaiting, EachKept, denied, WriterValue, plans_of}
use Rattle.sm_plan.specs.Nodes as plain
use Rattle.sm_plan.specs.Nodes.{Node}
use Rattle.sm_plan.specs.Plans as tree
use Rattle.sm_plan.specs.declared.opening.Opened.{Opened}
use Rattle.sm_proof.specs.Passing.{Due}
use Rattle.sm_expand.proofs.PairsLemmas.{plan_is}
use Rattle.sm_write.proofs.OpenedWait.{opened_stand}
use Rattle.sm_write.proofs.TreesStay.{trees_stay}
use Rattle.sm_write.proofs.WaitingLemmas.{NodeReady, first_waits}
use Rattle.sm_write.proofs.WaitingStays.{at_stays, all_stay}
use Rattle.sm_write.proofs.WalkedLemmas.{seen_kept}

-- a node was written, and its goals are left
pub record AreGoalsLeft (s : Subject) (w : TableValue) (mid : WriterValue) (o : Opened × Vec Cursor Global) (xs : List PlacedState)
    (certs : List CertTree) : Type 0 where
  pub seen : List State
  pub progress : Progress
  pub state : State
  pub goals : List Assertion
  pub waits : List Waits
  pub later : List Certificate
  pub at : IsAt s w mid seen progress
  pub pending : progress.pending ≡ map (goal_branch state) goals ++ map due_for waits
  pub count : length goals ≡ length o.0.goals.list.items
  pub closed : AreClosed s.sorts (Seen seen) (map (denied state.facts) goals) (map (certificate_in (trees_in w)) certs) later
  pub stand : AllStandFor w waits (placed_with o.0.states.items o.1.items ++ xs)
  pub ready : AreWaiting s.sorts seen progress.nodes waits later []

module _ (s : Subject) (v w : TableValue) (wider : ExtendsTable v w) (old mid : WriterValue) (x : PlacedState) (xs : List PlacedState)
    (o : Opened × Vec Cursor Global) (certs : List CertTree) (states : ArePlacedReady v (x ∷ xs))
    (within : AreTreesWithin (length (trees_in v)) certs) (written : OpeningWritten v w old mid x o) where
  abbrev here : Node
  here = node_over (sorts_in v) (trees_in v) (head (numbered_at x.cursor))

  abbrev plans : tree.Plans
  plans = plans_over (sorts_in v) (trees_in v) (below (numbered_at x.cursor))

  -- the node's line, where the first that waits is ready
  line_written : (seen : List State) (p : Progress) (st : State) (above : ℕ) (rest : List Pending) (q : plain.Opened) →
      IsAt s v old seen p → p.pending ≡ Due st above ∷ rest →
      ((c : Copy) → st.stores c ≡ stores_in (trees_in v) x.state.stores c) → opened_by p.nodes st here ≡ Some q →
      is_shallow (above_opened here above) ≡ true → EachKept (IsBuilt (Seen (seen ++ st ∷ []))) here →
      NodeWritten s v mid p (seen ++ st ∷ []) (opened_before st (above_opened here above) q rest)
  line_written seen p st above rest q at due stores =
      let set : IsSet s v old seen p =
      record { sorts = at.sorts; stands = at.stands; due = (Due st above, (rest, due)); named = at.named } in
      subst
      (λ (n : Node). opened_by p.nodes st n ≡ Some q → is_shallow (above_opened n above) ≡ true →
      EachKept (IsBuilt (Seen (seen ++ st ∷ []))) n →
      NodeWritten s v mid p (seen ++ st ∷ []) (opened_before st (above_opened n above) q rest)) (sym written.is)
      (written.writes s seen p st above rest q set due stores)

  -- what waits behind the goals
  goals_left : (seen : List State) (p : Progress) (y : Waits) (ys : List Waits) → IsAt s v old seen p →
      p.pending ≡ map due_for (y ∷ ys) → AllStandFor v (y ∷ ys) (x ∷ xs) →
      NodeReady s.sorts seen p.nodes y.state y.above here plans ys (map (certificate_in (trees_in v)) certs) [] →
      AreGoalsLeft s w mid o xs certs
  goals_left seen p y ys at due stand ready =
      let st = y.state in
      let now = seen ++ st ∷ [] in
      let above = above_opened here y.above in
      let q = ready.opened in
      let us = sorts_in w in
      let ut = trees_in w in
      let facts = stand.0.facts in
      let before = state_in (sorts_in v) (trees_in v) facts x.state in
      let later = opened_in us ut facts o.0 in
      let opens : opened_by p.nodes st here ≡ Some later =
      (λ i. opened_by (at.stands.nodes i) (stand.0.state i) here) ∙ written.opens.opened facts in
      let q_is : q ≡ later = same_Some q later (sym ready.opens ∙ opens) in
      let stores : (c : Copy) → st.stores c ≡ stores_in (trees_in v) x.state.stores c =
      λ (c : Copy). ap (λ (z : State). z.stores c) stand.0.state in
      let done = line_written seen p st y.above (map due_for ys) q at due stores ready.opens ready.few ready.kept in
      let follow = map (λ (next : State). Due next above) q.states in
      let waits = each_waits above q.states plans ++ ys in
      let pends : follow ++ map due_for ys ≡ map due_for waits =
      ap (λ (l : List Pending). l ++ map due_for ys) (sym ready.due) ∙ sym (map-append due_for (each_waits above q.states plans) ys) in
      let same : each_waits above (map (successor_in us ut facts) o.0.states.items) (plans_over us ut (below (numbered_at x.cursor)))
      ≡ each_waits above q.states plans =
      λ i. each_waits above (sym q_is i).states
      (plans_stay v w wider (below (numbered_at x.cursor)) (plans_of v (numbered_at x.cursor) states.0.plan) i) in
      record {
        seen = now;
        progress = done.after;
        state = st;
        goals = q.goals;
        waits = waits;
        later = ready.mid;
        at = at_stays v w wider s mid now done.after (record { sorts = done.sorts; stands = done.stands; named = done.named });
        pending = done.is ∙ ap (λ (l : List Pending). map (goal_branch st) q.goals ++ l) pends;
        count = ap (λ (r : plain.Opened). length r.goals) q_is ∙ length-map o.0.goals.list.items (λ (f : Formula). assertion_in us ut (numbered f));
        closed =
            subst (λ (cs : List Certificate). AreClosed s.sorts (Seen now) (map (denied st.facts) q.goals) cs ready.mid)
            (sym (trees_stay v w wider certs within)) ready.closed;
        stand =
            subst (λ (l : List Waits). AllStandFor w (l ++ ys) (placed_with o.0.states.items o.1.items ++ xs)) same
            (opened_stand w above facts o.0.states.items o.1.items (below (numbered_at x.cursor)) ys xs written.opens.count
            written.opens.plans (all_stay v w wider ys xs states.1 stand.1));
        ready = subst (λ (k : ℕ). AreWaiting s.sorts now k waits ready.mid []) (sym done.nodes) ready.others;
      }

  -- where the plan is underway, the goals of the first node that waits are left once it is written
  pub opening_left : IsUnderway s v old (x ∷ xs) certs → AreGoalsLeft s w mid o xs certs
  opening_left u = by u.waits u.pending u.stand u.ready
    where
      by : (ys : List Waits) → u.progress.pending ≡ map due_for ys → AllStandFor v ys (x ∷ xs) →
          AreWaiting s.sorts u.seen u.progress.nodes ys (map (certificate_in (trees_in v)) certs) [] → AreGoalsLeft s w mid o xs certs
      by [] due stand ready = absurd stand
      by (y ∷ ys) due stand ready =
          let is : y.plan ≡ tree.At here plans = stand.0.plan ∙ plan_is (sorts_in v) (trees_in v) (numbered_at x.cursor) in
          let cs = map (certificate_in (trees_in v)) certs in
          goals_left u.seen u.progress y ys u.at due stand
          (first_waits s.sorts u.seen u.progress.nodes y.state y.above here plans ys cs []
          (subst
          (λ (p : tree.Plan). AreWaiting s.sorts u.seen u.progress.nodes (record { state = y.state; above = y.above; plan = p } ∷ ys) cs [])
          is ready))

-- after the certificates of the goals
pub goals_done : (s : Subject) (w : TableValue) (mid new : WriterValue) (o : Opened × Vec Cursor Global) (xs : List PlacedState)
    (count : ℕ) (certs left : List CertTree) → AreGoalsLeft s w mid o xs certs → count ≡ length o.0.goals.list.items →
    LeavesGoals w mid new count (map (certificate_in (trees_in w)) certs) count (map (certificate_in (trees_in w)) left) →
    IsUnderway s w new (placed_with o.0.states.items o.1.items ++ xs) left
goals_done s w mid new o xs count certs left g many leaves =
    let all : length g.goals ≡ count = g.count ∙ sym many in
    let none : drop count g.goals ≡ [] = drop_all count g.goals (omega (arith, all)) in
    let rest = map due_for g.waits in
    let cs = map (certificate_in (trees_in w)) left in
    let end : GoalsLeft s w mid new g.seen g.progress g.state [] rest cs g.later =
    subst (λ (l : List Assertion). GoalsLeft s w mid new g.seen g.progress g.state l rest cs g.later) none
    (leaves s g.seen g.progress g.state g.goals rest g.later g.at g.pending all g.closed) in
    record {
      seen = g.seen;
      progress = end.stepped.after;
      waits = g.waits;
      at = record {
        sorts = g.at.sorts;
        stands = end.stepped.stands;
        named = seen_kept (trees_in w) mid.names new.names g.seen end.stepped.kept g.at.named;
      };
      pending = end.stepped.is;
      stand = g.stand;
      ready =
          subst (λ (k : ℕ). AreWaiting s.sorts g.seen k g.waits cs []) (sym end.stepped.nodes)
          (subst (λ (l : List Certificate). AreWaiting s.sorts g.seen g.progress.nodes g.waits l []) (sym end.closed) g.ready);
    }

-- where nothing waits, all lines are there
pub underway_whole : (s : Subject) (v : TableValue) (w : WriterValue) (certs : List CertTree) → IsUnderway s v w [] certs →
    IsWhole s w
underway_whole s v w certs u = record { last = u.progress; leads = u.at.stands.leads; done = by u.waits u.pending u.stand }
  where
    by : (ys : List Waits) → u.progress.pending ≡ map due_for ys → AllStandFor v ys [] → u.progress.pending ≡ []
    by [] due stand = due
    by (y ∷ ys) due stand = absurd stand
