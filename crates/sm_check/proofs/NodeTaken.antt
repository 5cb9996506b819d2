-- What a node opens waits, over a proof on its way.
use Rattle.sm_check.proofs.Imports.{◌≡◌, ℕ, suc, ◌+◌, ◌≤◌, ◌⊎◌, ⊎_elim, Bool, true, false, Option, Some, None, Result, Ok, Err, length, take, map, reverse, List, [], ◌∷◌, ◌++◌, refl, sym, ap, ◌∙◌, subst, arith, inl, inr, add-one, take_all, PerCopy, Sorts, SymStore, negate, numbered, assertion_in, IsFormulaWithin, Formula, trees_in, sorts_in, AreBefore, ExtendsTable, AreApart, Tree, contrary_within, BranchFact, Formal, as_facts, FactStands, Fact, one_place, is_shallow, above_opened, opened_by, AreFormsReady, AreSuccessorsReady, IsSuccessorReady, Successor, forms_in, stores_in, state_in, successor_in, opened_in, SymState, NodeLine, found_or, tested_or, and_then, named_node, node_head, Word, BadNumber, Deep, First, Pending, Progress, goal_branch, opened_before, after_node, taken, taken_at, OnlyWaiting, WaitingStands, shared_by, AllWait, AllPending, AreWaitingReady, PendingStands, Waiting, AreRowsReady, RowsStand, opened_or, IsOpenedReady, WalksAt, waits_at, SaysContrary, IsDenied, AreDenied, Tells, WalkValue, Walks, terms_in}
use Rattle.sm_term.proofs.FormulasLemmas.{contrary_negates}
use Rattle.sm_theory.specs.declared.fact.Fact.TheVariants as fact
use Rattle.sm_plan.specs.Nodes as plan
use Rattle.sm_plan.specs.States.{State}
use Rattle.sm_plan.specs.declared.opening.Opened.{Opened}
use Rattle.sm_proof.specs.Passing as plain
use Rattle.sm_check.specs.declared.pending.Waiting.TheVariants as waits
use Rattle.sm_check.specs.Pending.{Due}
use Rattle.sm_check.specs.declared.pending.Due.TheVariants as due
use Rattle.sm_check.specs.FormRows.{FormRow}
use Rattle.sm_check.specs.NodesTaken.{OpensAs}
use Rattle.sm_check.specs.Tells.{LineFault, Wrong, Memory}
use Rattle.sm_check.proofs.PendingLemmas.{facts_append, stand_long}
use Rattle.sm_check.proofs.WalkWidens.{terms_stay, rows_stand, path_stays, facts_stay, all_wait, ready_reversed}
use Rattle.sm_term.proofs.SortedForms.{negate_sorted}

module _ (sorts : Sorts) (trees : List Tree) (facts : List BranchFact) (st : State) (n : ℕ) (is : as_facts st.facts ≡ facts) (whole : take n facts ≡ facts) where
  -- the states
  state_waits : (above : ℕ) (s : Successor) → IsSuccessorReady sorts trees s →
      WaitingStands sorts trees facts (waits_at n above s) (plain.Due (successor_in sorts trees st.facts s) above)
  state_waits above s ready =
      let own = forms_in sorts trees s.kept.value.list.items ++ forms_in sorts trees s.more.list.items in (
        ready.kept,
        ready.more,
        facts_append st.facts own ∙ ap (λ (ks : List BranchFact). ks ++ as_facts own) (is ∙ sym whole),
        refl,
        refl,
      )

  states_wait : (above : ℕ) (ss : List Successor) (ws : List Waiting) (rest : List Pending) → AreSuccessorsReady sorts trees ss →
      AllWait sorts trees facts n ws rest →
      AllWait sorts trees facts n (map (waits_at n above) ss ++ ws)
      (map (λ (next : State). plain.Due next above) (map (successor_in sorts trees st.facts) ss) ++ rest)
  states_wait above [] ws rest ready all = all
  states_wait above (s ∷ ss) ws rest ready all =
      (omega arith, state_waits above s ready.0, states_wait above ss ws rest ready.1 all)

  -- a goal
  contrary_stands : (g : Formula) (f : Fact) → SaysContrary g f → AreFormsReady sorts trees (g ∷ []) →
      FactStands sorts trees f (Formal (negate (assertion_in sorts trees (numbered g))))
  contrary_stands g (fact.Form f) says ready = (
    subst (IsFormulaWithin (length trees)) (sym says) (contrary_within (length trees) (numbered g) ready.0.0),
    ap (assertion_in sorts trees) says ∙ contrary_negates sorts trees (numbered g),
  )
  contrary_stands g (fact.Lin f) says ready = absurd says

  goal_waits : (stores : PerCopy SymStore) (g : Formula) (w : Waiting) → IsDenied n stores g w → AreFormsReady sorts trees (g ∷ []) →
      stores_in trees stores ≡ st.stores →
      (shared_by w ≡ n) × WaitingStands sorts trees facts w (goal_branch st (assertion_in sorts trees (numbered g)))
  goal_waits stores g (waits.State m kept more state above) denied ready same = absurd denied
  goal_waits stores g (waits.Branch m f held splits) denied ready same =
      let goal = assertion_in sorts trees (numbered g) in
      let cut : take m facts ≡ facts = ap (λ (k : ℕ). take k facts) denied.0 ∙ whole in (
        denied.0,
        (
          (
            Formal (negate goal),
            contrary_stands g f denied.1 ready,
            negate_sorted sorts goal ready.0.1,
            ap (λ (ks : List BranchFact). ks ++ Formal (negate goal) ∷ []) (is ∙ sym cut),
          ),
          ap (stores_in trees) denied.2 ∙ same,
          denied.3,
        ),
      )

  goals_wait : (stores : PerCopy SymStore) (gs : List Formula) (ws more : List Waiting) (rest : List Pending) → AreDenied n stores gs ws →
      AreFormsReady sorts trees gs → (gs ≡ []) ⊎ (stores_in trees stores ≡ st.stores) → AllWait sorts trees facts n more rest →
      AllWait sorts trees facts n (ws ++ more) (map (goal_branch st) (forms_in sorts trees gs) ++ rest)
  goals_wait stores [] [] more rest denied ready same all = all
  goals_wait stores [] (w ∷ ws) more rest denied ready same all = absurd denied
  goals_wait stores (g ∷ gs) [] more rest denied ready same all = absurd denied
  goals_wait stores (g ∷ gs) (w ∷ ws) more rest denied ready same all =
      let here : stores_in trees stores ≡ st.stores =
      ⊎_elim (λ (none : (g ∷ gs) ≡ []). absurd cc) (λ (e : stores_in trees stores ≡ st.stores). e) same in
      let one = goal_waits stores g w denied.0 (ready.0, tt) here in
      let fits : shared_by w ≤ n = omega (arith, one.0) in (
        fits,
        one.1,
        subst (λ (m : ℕ). AllWait sorts trees facts m (ws ++ more) (map (goal_branch st) (forms_in sorts trees gs) ++ rest)) (sym one.0)
            (goals_wait stores gs ws more rest denied.1 ready.1 (inr here) all),
      )

  -- all that was opened
  pub opened_waits : (above : ℕ) (o : Opened) (ws more : List Waiting) (rest : List Pending) → AreDenied n o.stores o.goals.list.items ws →
      IsOpenedReady sorts trees o → (o.goals.list.items ≡ []) ⊎ (stores_in trees o.stores ≡ st.stores) → AllWait sorts trees facts n more rest →
      AllWait sorts trees facts n (ws ++ (map (waits_at n above) o.states.items ++ more))
      (opened_before st above (opened_in sorts trees st.facts o) rest)
  opened_waits above o ws more rest denied ready same all =
      goals_wait o.stores o.goals.list.items ws (map (waits_at n above) o.states.items ++ more)
      (map (λ (next : State). plain.Due next above) (map (successor_in sorts trees st.facts) o.states.items) ++ rest) denied ready.goals same
      (states_wait above o.states.items more rest ready.states all)

-- the proof after a node, by what the node opens
abbrev done : Progress → State → List Pending → plan.Opened × ℕ → Result Progress Word
done p st rest o = Ok (record p { nodes = suc p.nodes; pending = opened_before st o.1 o.0 rest })

pub after_is : (p : Progress) (st : State) (above : ℕ) (rest : List Pending) (line : NodeLine) →
    found_or (named_node p.forms line) BadNumber (after_node p st above rest line)
    ≡ and_then (opened_or p.forms p.nodes st above line) (done p st rest)
after_is p st above rest line = go (named_node p.forms line)
  where
    steps : (b : Bool) (q : Option plan.Opened) (over : ℕ) (w : Word) →
        tested_or b Deep (found_or q w (λ (x : plan.Opened). done p st rest (x, over)))
        ≡ and_then (tested_or b Deep (found_or q w (λ (x : plan.Opened). Ok (x, over)))) (done p st rest)
    steps false q over w = refl
    steps true None over w = refl
    steps true (Some x) over w = refl

    go : (o : Option plan.Node) →
        found_or o BadNumber (after_node p st above rest line)
        ≡ and_then
        (found_or o BadNumber
        (λ (n : plan.Node).
        tested_or (is_shallow (above_opened n above)) Deep
        (found_or (opened_by p.nodes st n) (First (node_head line)) (λ (q : plan.Opened). Ok (q, above_opened n above)))))
        (done p st rest)
    go None = refl
    go (Some n) = steps (is_shallow (above_opened n above)) (opened_by p.nodes st n) (above_opened n above) (First (node_head line))

-- a refusal goes on
pub tells_on : {S T U V : Type 0} (P : S → T → Type 0) (Q : U → V → Type 0) (e : LineFault) (r : Result T Word) (next : T → Result V Word) →
    Tells P (Err e) r → Tells Q (Err e) (and_then r next)
tells_on P Q Memory r next h = tt
tells_on P Q (Wrong w) (Ok t) next h = absurd h
tells_on P Q (Wrong w) (Err v) next h = h

-- the line taken: what it opens is put before what waits, and the first of that is due
module _ (w x : WalkValue) (held : SymState) (p : Progress) (st : State) (rest : List Pending) (at : WalksAt w held p st rest) (wider : ExtendsTable w.table x.table)
    (apart : AreApart (trees_in x.table)) where
  abbrev sorts : Sorts
  sorts = sorts_in x.table

  abbrev trees : List Tree
  trees = trees_in x.table

  all_waits : (o : Opened) (over shared : ℕ) (ws put : List Waiting) → AreWaitingReady (sorts_in w.table) (trees_in w.table) w.waiting →
      (o.goals.list.items ≡ []) ⊎ (stores_in trees o.stores ≡ stores_in (trees_in w.table) held.stores) → IsOpenedReady sorts trees o →
      shared ≡ length w.path → AreDenied shared o.stores o.goals.list.items ws →
      reverse put ≡ ws ++ (map (waits_at shared over) o.states.items ++ reverse w.waiting) →
      OnlyWaiting sorts trees w.path put (opened_before st over (opened_in sorts trees st.facts o) rest)
  all_waits o over shared ws put later same ready long denied is =
      let places = one_place trees apart in
      let facts = at.later.facts in
      let pending = opened_before st over (opened_in sorts trees st.facts o) rest in
      let many : length facts ≡ shared = sym (stand_long (sorts_in w.table) (trees_in w.table) w.path facts at.later.stand) ∙ sym long in
      let enough : length facts ≤ shared = omega arith in
      let waits : AllWait sorts trees facts shared (reverse w.waiting) rest =
      subst (λ (k : ℕ). AllWait sorts trees facts k (reverse w.waiting) rest) many
      (all_wait w.table x.table wider places facts (length facts) (reverse w.waiting) rest
      (ready_reversed (sorts_in w.table) (trees_in w.table) w.waiting later) at.later.all) in
      let stores : (o.goals.list.items ≡ []) ⊎ (stores_in trees o.stores ≡ st.stores) =
      ⊎_elim (λ (e : o.goals.list.items ≡ []). inl e)
      (λ (e : stores_in trees o.stores ≡ stores_in (trees_in w.table) held.stores). inr (e ∙ ap (λ (s : State). s.stores) at.state)) same in
      let all = opened_waits sorts trees facts st shared at.facts (take_all shared facts enough) over o ws (reverse w.waiting) rest denied ready stores waits in
      record {
        facts = facts;
        stand = path_stays w.table x.table wider places w.path facts at.later.stand;
        sorted = facts_stay w.table x.table wider places facts at.later.sorted;
        all =
            subst (λ (k : ℕ). AllWait sorts trees facts k (reverse put) pending) (sym many)
            (subst (λ (l : List Waiting). AllWait sorts trees facts shared l pending) (sym is) all);
      }

  pub node_taken : (above : ℕ) (line : NodeLine) (o : Opened) (over shared : ℕ) (ws put : List Waiting) →
      AreBefore (length (trees_in w.table)) w.terms → AreRowsReady (sorts_in w.table) (trees_in w.table) w.forms →
      AreWaitingReady (sorts_in w.table) (trees_in w.table) w.waiting →
      Tells (OpensAs sorts trees st.facts) (Ok (o, over))
      (opened_or p.forms w.nodes (state_in (sorts_in w.table) (trees_in w.table) st.facts held) above line) →
      (o.goals.list.items ≡ []) ⊎ (stores_in trees o.stores ≡ stores_in (trees_in w.table) held.stores) → IsOpenedReady sorts trees o →
      shared ≡ length w.path → AreDenied shared o.stores o.goals.list.items ws →
      reverse put ≡ ws ++ (map (waits_at shared over) o.states.items ++ reverse w.waiting) →
      x.nodes ≡ w.nodes + 1 → x.terms ≡ w.terms → x.forms ≡ w.forms →
      ((pending : List Pending) → OnlyWaiting sorts trees w.path put pending → PendingStands sorts trees x.path x.due x.waiting pending) →
      Tells (λ (_ : Unit {0}) (q : Progress). Walks x q) (Ok tt) (found_or (named_node p.forms line) BadNumber (after_node p st above rest line))
  node_taken above line o over shared ws put before rows later tells same ready long denied is nodes terms forms due =
      subst (Tells (λ (_ : Unit {0}) (q : Progress). Walks x q) (Ok tt)) (sym (after_is p st above rest line))
      (go (opened_or p.forms p.nodes st above line)
      (subst (λ (s : State). Tells (OpensAs sorts trees st.facts) (Ok (o, over)) (opened_or p.forms p.nodes s above line)) at.state
      (subst
      (λ (k : ℕ). Tells (OpensAs sorts trees st.facts) (Ok (o, over))
      (opened_or p.forms k (state_in (sorts_in w.table) (trees_in w.table) st.facts held) above line))
      at.nodes tells)))
    where
      go : (r : Result (plan.Opened × ℕ) Word) → Tells (OpensAs sorts trees st.facts) (Ok (o, over)) r →
          Tells (λ (_ : Unit {0}) (q : Progress). Walks x q) (Ok tt) (and_then r (done p st rest))
      go (Err e) h = absurd h
      go (Ok q) h = record {
        nodes = nodes ∙ ap (λ (k : ℕ). k + 1) at.nodes ∙ add-one p.nodes;
        terms = ap (terms_in trees) terms ∙ terms_stay w.table x.table wider w.terms before ∙ at.terms;
        forms =
            subst (λ (l : List FormRow). RowsStand sorts trees l p.forms) (sym forms)
            (rows_stand w.table x.table wider w.forms p.forms rows at.forms);
        pending =
            subst (λ (k : ℕ). PendingStands sorts trees x.path x.due x.waiting (opened_before st k q.0 rest)) h.1
            (subst (λ (a : plan.Opened). PendingStands sorts trees x.path x.due x.waiting (opened_before st over a rest)) h.0
            (due (opened_before st over (opened_in sorts trees st.facts o) rest) (all_waits o over shared ws put later same ready long denied is)));
      }

-- a refusal of what a line opens
pub node_refused : (w : WalkValue) (held : SymState) (p : Progress) (st : State) (rest : List Pending) → WalksAt w held p st rest →
    {S U : Type 0} (P : S → plan.Opened × ℕ → Type 0) (Q : U → Progress → Type 0) (e : LineFault) (above : ℕ) (line : NodeLine) →
    Tells P (Err e) (opened_or p.forms w.nodes (state_in (sorts_in w.table) (trees_in w.table) st.facts held) above line) →
    Tells Q (Err e) (found_or (named_node p.forms line) BadNumber (after_node p st above rest line))
node_refused w held p st rest at P Q e above line tells =
    subst (Tells Q (Err e)) (sym (after_is p st above rest line))
    (tells_on P Q e (opened_or p.forms p.nodes st above line) (done p st rest)
    (subst (λ (s : State). Tells P (Err e) (opened_or p.forms p.nodes s above line)) at.state
    (subst (λ (k : ℕ). Tells P (Err e) (opened_or p.forms k (state_in (sorts_in w.table) (trees_in w.table) st.facts held) above line)) at.nodes tells)))

-- the state that is due is what is pending first
module _ (w : WalkValue) (p : Progress) (walks : Walks w p) where
  abbrev AtState : Option Due → SymState → ℕ → Type 0
  AtState d held above =
      (st : State) × (rest : List Pending) × (p.pending ≡ plain.Due st above ∷ rest) × WalksAt (record w { due = d }) held p st rest

  pub at_state : (d : Option Due) (held : SymState) (above : ℕ) → w.due ≡ Some (due.State held above) → AtState d held above
  at_state d held above is =
      go p.pending refl
      (subst (λ (o : Option Due). AllPending (sorts_in w.table) (trees_in w.table) walks.pending.facts o (reverse w.waiting) p.pending) is walks.pending.all)
    where
      go : (ps : List Pending) → p.pending ≡ ps →
          AllPending (sorts_in w.table) (trees_in w.table) walks.pending.facts (Some (due.State held above)) (reverse w.waiting) ps →
          AtState d held above
      go [] e h = absurd h
      go (plain.Due st over ∷ rest) e h = (
        st,
        rest,
        e ∙ ap (λ (k : ℕ). plain.Due st k ∷ rest) (sym h.0.2),
        record {
          nodes = walks.nodes;
          terms = walks.terms;
          forms = walks.forms;
          later = record {
            facts = walks.pending.facts;
            stand = walks.pending.stand;
            sorted = walks.pending.sorted;
            all = h.1;
          };
          facts = h.0.0;
          state = h.0.1;
        },
      )
      go (plain.Branch stores own over ∷ rest) e h = absurd h.0
