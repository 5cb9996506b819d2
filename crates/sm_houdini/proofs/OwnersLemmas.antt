-- A goal is final exactly where no site owns it. What a site asks are the templates that are chosen there, at the stores of the node that asks.
use Rattle.sm_houdini.proofs.Imports.{◌≡◌, ◌⊎◌, ℕ, suc, ◌+◌, Bool, true, false, not, ◌&&◌, ◌||◌, is_none, inl, inr, List, [], ◌∷◌, ◌++◌, length, refl, sym, ap, ◌∙◌, subst, arith, ⊎_elim, unwrap_or, same_Some, length-append, Code, End, Skip, Assign, If, While, Hole, Copy, Parts, task_of, Assertion, conj, all_at_stores, SymbolicStore, Copies, subsets, each, has, is_inhabited, is_shallow, is_kept, Node, Opened, opened_by, rule_of, is_end, where_true, after_step, both_ways, Plans, Fault, Wrong, Deep, due, expand, expand_all, size, sizes, branches, obligations, State, start_state, is_over, is_long, is_loop, Each, each_append, Choice, chosen_at, picked, kept_by, SketchNode, BlockSite, sites_of, sites_below, plan_with, plans_with, plan_of, sketch_of, EachNode, EachBelow, HoldsOfNodes, sketch_nodes, AreFinalUnowned, FinalHasNoOwner, AllAskChosen, SitesAskChosen, states_opened, plan_states, plans_states, states_of, AsksChosen, owners, owners_below, owner_of, opened_same, joined_is, passed}
use Rattle.std.proofs.Common.{Option, Some, None, Result, Ok, Err, map, slice_get}
use Rattle.sm_syntax.specs.claim.Syntax.{Write}
use Rattle.sm_plan.specs.Nodes.{Step, Abs, Fork, Loop, Block, Ends}
use Rattle.sm_plan.specs.Plans.{At, Due}
use Rattle.sm_plan.specs.Successors as next
use Rattle.sm_sketch.specs.Sketches.{Plain, LoopSite, Sketch, Draw, Sketches, Over, More}
use Rattle.sm_product.specs.ProductPlans as plans
use Rattle.sm_product.proofs.ChoicesLemmas.{kept_parts_chosen}
use Rattle.sm_houdini.proofs.PlacesLemmas.{IsAt, at_first, at_rest, at_left, at_right, at_start, dues_same, plan_parts, states_length}

-- a state has the target of another one
record IsAs (st other : State) : Type 0 where
  final : other.is_final ≡ st.is_final
  target : other.target ≡ st.target

-- a node asks nothing or is an end, and what follows goes on to the same target
record Passes (st : State) (node : Node) (q : Opened) : Type 0 where
  asks : (q.goals ≡ []) ⊎ ((is_end node ≡ true) × (q.goals ≡ all_at_stores st.stores st.target))
  follow : Each (IsAs st) q.states

abbrev PassesAt : SketchNode → Type 0
PassesAt (Plain node) = (k : ℕ) (st : State) (q : Opened) → opened_by k st node ≡ Some q → Passes st node q
PassesAt (LoopSite set templates) = Unit {0}
PassesAt (BlockSite counts templates) = Unit {0}

as_before : (st : State) → IsAs st st
as_before st = record { final = refl; target = refl }

step_passes : (st : State) (c : Copy) (o : Option (Code × SymbolicStore)) (q : Opened) → after_step st c o ≡ Some q → Passes st (Step c) q
step_passes st c None q e = absurd cc
step_passes st c (Some p) q e = subst (Passes st (Step c)) (same_Some _ q e) (record { asks = inl refl; follow = (record { final = refl; target = refl }, tt) })

where_passes : (st : State) (node : Node) (b : Bool) (p q : Opened) → where_true b p ≡ Some q → Passes st node p → Passes st node q
where_passes st node true p q e h = subst (Passes st node) (same_Some p q e) h
where_passes st node false p q e h = absurd cc

fork_passes : (st : State) (c : Copy) (code : Code) (q : Opened) → both_ways st c code ≡ Some q → Passes st (Fork c) q
fork_passes st c End q e = absurd cc
fork_passes st c (Skip k) q e = absurd cc
fork_passes st c (Assign x v k) q e = absurd cc
fork_passes st c (Write a i v k) q e = absurd cc
fork_passes st c (If b one other k) q e =
    subst (Passes st (Fork c)) (same_Some _ q e)
    (record { asks = inl refl; follow = (record { final = refl; target = refl }, (record { final = refl; target = refl }, tt)) })
fork_passes st c (While b body k) q e = absurd cc
fork_passes st c (Hole h k) q e = absurd cc

nodes_pass : (t : Parts) → HoldsOfNodes t PassesAt
nodes_pass t = record {
  of_step = λ (c : Copy) (k : ℕ) (st : State) (q : Opened) (e : opened_by k st (Step c) ≡ Some q).
      step_passes st c (next.stepped (st.rest c) (st.stores c)) q e;
  of_summary = λ (c : Copy) (k : ℕ) (st : State) (q : Opened) (e : opened_by k st (Abs c 1) ≡ Some q).
      where_passes st (Abs c 1) (is_long 1 (st.rest c)) _ q e
      (record { asks = inl refl; follow = (record { final = refl; target = refl }, tt) });
  of_fork = λ (c : Copy) (k : ℕ) (st : State) (q : Opened) (e : opened_by k st (Fork c) ≡ Some q). fork_passes st c (st.rest c) q e;
  of_end = λ (k : ℕ) (st : State) (q : Opened) (e : opened_by k st Ends ≡ Some q).
      where_passes st Ends (each (λ (c : Copy). is_over (st.rest c))) _ q e
      (record { asks = inr (refl, refl); follow = tt });
  of_loops = λ (set : Copies) (code : Copy → Code). tt;
  of_block = λ (counts : Copy → ℕ) (code : Copy → Code). tt;
}

pub not_ok : (ds : List Due) (w : Fault) → (let r : Result (List Due) Fault = Err w in r) ≡ Ok ds → ⊥
not_ok ds w e = absurd cc

-- a target of a site has certain parts
abbrev pub HasParts : (ℕ → List Assertion) → Option ℕ → List Assertion → Type 0
HasParts parts None fs = Unit {0}
HasParts parts (Some s) fs = fs ≡ parts s

-- goals of a site are these, at stores
abbrev pub AskParts : (ℕ → List Assertion) → (Copy → SymbolicStore) → Option ℕ → List Assertion → Type 0
AskParts parts stores None goals = Unit {0}
AskParts parts stores (Some s) goals = goals ≡ all_at_stores stores (parts s)

pub parts_asked : (parts : ℕ → List Assertion) (o : Option ℕ) (stores : Copy → SymbolicStore) (fs : List Assertion) → HasParts parts o fs →
    AskParts parts stores o (all_at_stores stores fs)
parts_asked parts None stores fs h = tt
parts_asked parts (Some s) stores fs h = ap (all_at_stores stores) h

-- the formulas that sites keep, numbered from s on, have these parts
abbrev pub KeepParts : (ℕ → List Assertion) → (ℕ → List Assertion → Assertion) → ℕ → List (List Assertion) → Type 0
KeepParts parts keep s [] = Unit {0}
KeepParts parts keep s (ts ∷ rest) = (conj (keep s ts) ≡ parts s) × KeepParts parts keep (suc s) rest

pub parts_split : (parts : ℕ → List Assertion) (keep : ℕ → List Assertion → Assertion) (s : ℕ) (xs ys : List (List Assertion)) →
    KeepParts parts keep s (xs ++ ys) → KeepParts parts keep s xs × KeepParts parts keep (s + length xs) ys
parts_split parts keep s [] ys h = (tt, subst (λ (n : ℕ). KeepParts parts keep n ys) (omega arith) h)
parts_split parts keep s (ts ∷ xs) ys h =
    let both = parts_split parts keep (suc s) xs ys h.1 in
    let same : suc s + length xs ≡ s + suc (length xs) = omega arith in
    ((h.0, both.0), subst (λ (n : ℕ). KeepParts parts keep n ys) same both.1)

parts_from : (parts : ℕ → List Assertion) (keep : ℕ → List Assertion → Assertion) (s : ℕ) (xs : List (List Assertion)) →
    ((i : ℕ) (ts : List Assertion) → slice_get xs i ≡ Some ts → conj (keep (s + i) ts) ≡ parts (s + i)) → KeepParts parts keep s xs
parts_from parts keep s [] h = tt
parts_from parts keep s (ts ∷ xs) h =
    let here : s + 0 ≡ s = omega arith in (
      subst (λ (n : ℕ). conj (keep n ts) ≡ parts n) here (h 0 ts refl),
      parts_from parts keep (suc s) xs (λ (i : ℕ) (us : List Assertion) (e : slice_get xs i ≡ Some us).
          let same : s + suc i ≡ suc s + i = omega arith in
          subst (λ (n : ℕ). conj (keep n us) ≡ parts n) same (h (suc i) us e)),
    )

mutual
  -- as many owners as nodes
  pub owners_length : (keep : ℕ → List Assertion → Assertion) (p : Sketch) (target : Option ℕ) (s : ℕ) → length (owners target s p) ≡ size (plan_with keep s p)
  owners_length keep (Draw (Plain node) ps) target s =
      ap (λ (n : ℕ). suc n) (below_length keep ps target target s (s + 0) (omega arith))
  owners_length keep (Draw (LoopSite set templates) ps) target s =
      ap (λ (n : ℕ). suc n) (below_length keep ps (Some s) target (suc s) (s + 1) (omega arith))
  owners_length keep (Draw (BlockSite counts templates) ps) target s =
      ap (λ (n : ℕ). suc n) (below_length keep ps (Some s) target (suc s) (s + 1) (omega arith))

  below_length : (keep : ℕ → List Assertion → Assertion) (ps : Sketches) (inner last : Option ℕ) (s m : ℕ) → s ≡ m →
      length (owners_below inner last s ps) ≡ sizes (plans_with keep m ps)
  below_length keep Over inner last s m e = refl
  below_length keep (More p Over) inner last s m e = owners_length keep p last s ∙ ap (λ (n : ℕ). size (plan_with keep n p)) e ∙ omega arith
  below_length keep (More p (More q ps)) inner last s m e =
      length-append (owners inner s p) (owners_below inner last (s + length (sites_of p)) (More q ps))
      ∙ (λ i. owners_length keep p inner s i
      + below_length keep (More q ps) inner last (s + length (sites_of p)) (s + length (sites_of p)) refl i)
      ∙ ap (λ (n : ℕ). size (plan_with keep n p) + sizes (plans_with keep (n + length (sites_of p)) (More q ps))) e

module _ (base : List (Option ℕ)) (all : List State) (keep : ℕ → List Assertion → Assertion) (chosen : ℕ → List Assertion) where
  -- a state's target is the final one where there is no owner, and otherwise has its owner's parts
  record IsAimed (target : Option ℕ) (st : State) : Type 0 where
    final : st.is_final ≡ is_none target
    has_parts : HasParts chosen target st.target

  -- states that follow go on to one target, but for the last one
  abbrev AreAimed : Option ℕ → Option ℕ → List State → Type 0
  AreAimed inner last [] = Unit {0}
  AreAimed inner last (st ∷ []) = IsAimed last st
  AreAimed inner last (st ∷ other ∷ rest) = IsAimed inner st × AreAimed inner last (other ∷ rest)

  aimed_as : (target : Option ℕ) (st other : State) → IsAimed target st → IsAs st other → IsAimed target other
  aimed_as target st other aimed same = record {
    final = same.final ∙ aimed.final;
    has_parts = subst (HasParts chosen target) (sym same.target) aimed.has_parts;
  }

  all_aimed : (target : Option ℕ) (st : State) (states : List State) → IsAimed target st → Each (IsAs st) states →
      AreAimed target target states
  all_aimed target st [] aimed all = tt
  all_aimed target st (other ∷ []) aimed all = aimed_as target st other aimed all.0
  all_aimed target st (other ∷ third ∷ rest) aimed all =
      (aimed_as target st other aimed all.0, all_aimed target st (third ∷ rest) aimed all.1)

  -- what follows of loops: turns go on to the kept formula
  turns_aimed : (st : State) (k s : ℕ) (target : Option ℕ) (set : Copies) (form : Assertion) → conj form ≡ chosen s →
      IsAimed target st → (vs : List Copies) →
      AreAimed (Some s) target (map (next.turn_state st k set form) vs ++ next.after_loops_state st k set form ∷ [])
  turns_aimed st k s target set form keeps aimed [] = record { final = aimed.final; has_parts = aimed.has_parts }
  turns_aimed st k s target set form keeps aimed (v ∷ []) =
      (record { final = refl; has_parts = keeps }, record { final = aimed.final; has_parts = aimed.has_parts })
  turns_aimed st k s target set form keeps aimed (v ∷ u ∷ vs) =
      (record { final = refl; has_parts = keeps }, turns_aimed st k s target set form keeps aimed (u ∷ vs))

  -- a goal is final exactly where its node has no owner, and an owner asks its parts at the stores of the node's state
  record IsOwned (d : Due) : Type 0 where
    owner : Option ℕ
    found : slice_get base d.node ≡ Some owner
    final : d.is_final ≡ is_none owner
    state : State
    stands : slice_get all d.node ≡ Some state
    facts : d.facts ≡ state.facts
    asks : AskParts chosen state.stores owner d.goals

  due_owned : (k : ℕ) (st : State) (node : Node) (o : Option ℕ) (goals : List Assertion) → slice_get base k ≡ Some o →
      slice_get all k ≡ Some st → (is_end node && st.is_final) ≡ is_none o → AskParts chosen st.stores o goals →
      Each IsOwned (due k st node goals)
  due_owned k st node o [] here stands final asks = tt
  due_owned k st node o (g ∷ gs) here stands final asks =
      (record { owner = o; found = here; final = final; state = st; stands = stands; facts = refl; asks = asks }, tt)

  no_due : (k : ℕ) (st : State) (node : Node) (goals : List Assertion) → goals ≡ [] → Each IsOwned (due k st node goals)
  no_due k st node goals e = subst (λ (gs : List Assertion). Each IsOwned (due k st node gs)) (sym e) tt

  both_owned : (es gs ds : List Due) → es ++ gs ≡ ds → Each IsOwned es → Each IsOwned gs → Each IsOwned ds
  both_owned es gs ds e h g = subst (Each IsOwned) e (each_append IsOwned es gs h g)

  -- the states that follow a node stand behind its own
  states_later : (k : ℕ) (st : State) (node : Node) (ps : Plans) (q : Opened) → opened_by k st node ≡ Some q →
      IsAt all k (plan_states k st (At node ps)) → IsAt all (suc k) (plans_states (suc k) q.states ps)
  states_later k st node ps q e at =
      subst (λ (o : Option Opened). IsAt all (suc k) (plans_states (suc k) (states_opened o) ps)) e
      (at_rest all k st (plans_states (suc k) (states_opened (opened_by k st node)) ps) at)

  state_here : (k : ℕ) (st : State) (node : Node) (ps : Plans) → IsAt all k (plan_states k st (At node ps)) → slice_get all k ≡ Some st
  state_here k st node ps at = at_first all k st (plans_states (suc k) (states_opened (opened_by k st node)) ps) at

  -- the number of a site, by two forms of one number
  renumbered_at : (k : ℕ) (st : State) (p : Sketch) (s m : ℕ) → s ≡ m → IsAt all k (plan_states k st (plan_with keep m p)) →
      IsAt all k (plan_states k st (plan_with keep s p))
  renumbered_at k st p s m eq = subst (λ (n : ℕ). IsAt all k (plan_states k st (plan_with keep n p))) (sym eq)

  mutual
    owned : (p : Sketch) (target : Option ℕ) (k s : ℕ) (st : State) (ds : List Due) → EachNode PassesAt p →
        KeepParts chosen keep s (sites_of p) → IsAimed target st → IsAt base k (owners target s p) →
        IsAt all k (plan_states k st (plan_with keep s p)) → expand k st (plan_with keep s p) ≡ Ok ds → Each IsOwned ds
    owned (Draw (Plain node) ps) target k s st ds good keeps aimed at there e =
        let below = plans_with keep (s + 0) ps in
        let p = plan_parts node below k st ds e in
        let passes = good.0 k st p.q p.opens in
        both_owned (due k st node p.q.goals) p.later ds p.whole
        (⊎_elim (λ (h : p.q.goals ≡ []). no_due k st node p.q.goals h)
        (λ (h : (is_end node ≡ true) × (p.q.goals ≡ all_at_stores st.stores st.target)). due_owned k st node target p.q.goals
        (at_first base k target (owners_below target target s ps) at) (state_here k st node below there)
        (ap (λ (b : Bool). b && st.is_final) h.0 ∙ aimed.final)
        (subst (AskParts chosen st.stores target) (sym h.1) (parts_asked chosen target st.stores st.target aimed.has_parts)))
        passes.asks)
        (all_owned ps target target (Wrong k (rule_of node)) (suc k) s (s + 0) (omega arith) p.q.states p.later good.1 keeps
        (all_aimed target st p.q.states aimed passes.follow) (at_rest base k target (owners_below target target s ps) at)
        (states_later k st node below p.q p.opens there) p.goes_on)
    owned (Draw (LoopSite set templates) ps) target k s st ds good keeps aimed at there e =
        let node = Loop set (keep s templates) in
        let below = plans_with keep (s + 1) ps in
        let p = plan_parts node below k st ds e in
        let same = opened_same
        (is_inhabited set && (each (λ (c : Copy). not (has set c) || is_loop (st.rest c)) && is_kept (keep s templates)))
        _ p.q p.opens in
        both_owned (due k st node p.q.goals) p.later ds p.whole
        (due_owned k st node (Some s) p.q.goals
        (at_first base k (Some s) (owners_below (Some s) target (suc s) ps) at) (state_here k st node below there) refl
        (subst (λ (q : Opened). AskParts chosen st.stores (Some s) q.goals) same
        (parts_asked chosen (Some s) st.stores (conj (keep s templates)) keeps.0)))
        (all_owned ps (Some s) target (Wrong k 4) (suc k) (suc s) (s + 1) (omega arith) p.q.states p.later good.1 keeps.1
        (subst (λ (q : Opened). AreAimed (Some s) target q.states) same
        (turns_aimed st k s target set (keep s templates) keeps.0 aimed (subsets set)))
        (at_rest base k (Some s) (owners_below (Some s) target (suc s) ps) at) (states_later k st node below p.q p.opens there) p.goes_on)
    owned (Draw (BlockSite counts templates) ps) target k s st ds good keeps aimed at there e =
        let node = Block counts (keep s templates) in
        let below = plans_with keep (s + 1) ps in
        let p = plan_parts node below k st ds e in
        let same = opened_same (each (λ (c : Copy). is_long (counts c) (st.rest c)) && is_kept (keep s templates)) _ p.q p.opens in
        both_owned (due k st node p.q.goals) p.later ds p.whole
        (no_due k st node p.q.goals (sym (ap (λ (q : Opened). q.goals) same)))
        (all_owned ps (Some s) target (Wrong k 5) (suc k) (suc s) (s + 1) (omega arith) p.q.states p.later good.1 keeps.1
        (subst (λ (q : Opened). AreAimed (Some s) target q.states) same
        (record { final = refl; has_parts = keeps.0 }, record { final = aimed.final; has_parts = aimed.has_parts }))
        (at_rest base k target (owners_below (Some s) target (suc s) ps) at) (states_later k st node below p.q p.opens there) p.goes_on)

    all_owned : (ps : Sketches) (inner last : Option ℕ) (w : Fault) (k s m : ℕ) → s ≡ m → (states : List State) (ds : List Due) →
        EachBelow PassesAt ps → KeepParts chosen keep s (sites_below ps) → AreAimed inner last states →
        IsAt base k (owners_below inner last s ps) → IsAt all k (plans_states k states (plans_with keep m ps)) →
        expand_all w k states (plans_with keep m ps) ≡ Ok ds → Each IsOwned ds
    all_owned Over inner last w k s m eq [] ds good keeps aimed at there e = subst (Each IsOwned) (dues_same [] ds e) tt
    all_owned Over inner last w k s m eq (st ∷ states) ds good keeps aimed at there e = absurd cc
    all_owned (More p ps) inner last w k s m eq [] ds good keeps aimed at there e = absurd cc
    all_owned (More p Over) inner last w k s m eq (st ∷ []) ds good keeps aimed at there e =
        let parts = joined_is (expand k st (plan_with keep m p)) (Ok []) ds e in
        both_owned parts.0 parts.1 ds parts.4
        (owned p last k s st parts.0 good.0 (parts_split chosen keep s (sites_of p) [] keeps).0 aimed at
        (renumbered_at k st p s m eq (at_left all k (plan_states k st (plan_with keep m p)) [] there))
        (ap (λ (n : ℕ). expand k st (plan_with keep n p)) eq ∙ parts.2))
        (subst (Each IsOwned) (dues_same [] parts.1 parts.3) tt)
    all_owned (More p Over) inner last w k s m eq (st ∷ other ∷ states) ds good keeps aimed at there e =
        let parts = joined_is (expand k st (plan_with keep m p)) (Err w) ds e in absurd (not_ok parts.1 w parts.3)
    all_owned (More p (More q ps)) inner last w k s m eq (st ∷ []) ds good keeps aimed at there e =
        let parts = joined_is (expand k st (plan_with keep m p)) (Err w) ds e in absurd (not_ok parts.1 w parts.3)
    all_owned (More p (More q ps)) inner last w k s m eq (st ∷ other ∷ states) ds good keeps aimed at there e =
        let n = k + size (plan_with keep m p) in
        let parts = joined_is (expand k st (plan_with keep m p))
        (expand_all w n (other ∷ states) (plans_with keep (m + length (sites_of p)) (More q ps))) ds e in
        let mine = owners inner s p in
        let rest = owners_below inner last (s + length (sites_of p)) (More q ps) in
        let here = plan_states k st (plan_with keep m p) in
        let later = plans_states n (other ∷ states) (plans_with keep (m + length (sites_of p)) (More q ps)) in
        let sites = parts_split chosen keep s (sites_of p) (sites_below (More q ps)) keeps in
        both_owned parts.0 parts.1 ds parts.4
        (owned p inner k s st parts.0 good.0 sites.0 aimed.0 (at_left base k mine rest at)
        (renumbered_at k st p s m eq (at_left all k here later there))
        (ap (λ (j : ℕ). expand k st (plan_with keep j p)) eq ∙ parts.2))
        (all_owned (More q ps) inner last w n (s + length (sites_of p)) (m + length (sites_of p))
        (ap (λ (j : ℕ). j + length (sites_of p)) eq)
        (other ∷ states) parts.1 good.1 sites.1 aimed.1
        (at_right base k (size (plan_with keep m p)) mine rest
        (ap (λ (j : ℕ). size (plan_with keep j p)) (sym eq) ∙ sym (owners_length keep p inner s)) at)
        (at_right all k (size (plan_with keep m p)) here later (sym (states_length (plan_with keep m p) k st parts.0 parts.2)) there) parts.3)

-- the templates that are chosen at a site
abbrev pub chosen_templates : Parts → Choice → ℕ → List Assertion
chosen_templates t choice s = picked (plans.templates t s) (chosen_at choice s)

pub sites_keep : (t : Parts) (choice : Choice) → KeepParts (chosen_templates t choice) (kept_by choice) 0 (sites_of (sketch_of t))
sites_keep t choice =
    parts_from (chosen_templates t choice) (kept_by choice) 0 (sites_of (sketch_of t))
    (λ (i : ℕ) (ts : List Assertion) (e : slice_get (sites_of (sketch_of t)) i ≡ Some ts).
    let same : i ≡ 0 + i = omega arith in
    let there : plans.templates t i ≡ ts = ap (λ (o : Option (List Assertion)). unwrap_or o []) e in
    subst (λ (n : ℕ). conj (kept_by choice n ts) ≡ chosen_templates t choice n) same
    (kept_parts_chosen t choice i ts e ∙ ap (λ (us : List Assertion). picked us (chosen_at choice i)) (sym there)))

-- which site owns each obligation of a product
product_owned : (t : Parts) (choice : Choice) (ds : List Due) → obligations (task_of t) (plan_of t choice) ≡ Ok ds →
    Each (IsOwned (owners None 0 (sketch_of t)) (states_of t choice) (kept_by choice) (chosen_templates t choice)) ds
product_owned t choice ds e =
    let base = owners None 0 (sketch_of t) in
    owned base (states_of t choice) (kept_by choice) (chosen_templates t choice) (sketch_of t) None 0 0 (start_state (task_of t)) ds
    (sketch_nodes t PassesAt (nodes_pass t)) (sites_keep t choice) (record { final = refl; has_parts = tt })
    (at_start base) (at_start (states_of t choice))
    (passed (is_shallow (branches (plan_of t choice))) (expand 0 (start_state (task_of t)) (plan_of t choice)) Deep ds e)

module _ (t : Parts) (choice : Choice) where
  abbrev IsOwnedThere : Due → Type 0
  IsOwnedThere d = IsOwned (owners None 0 (sketch_of t)) (states_of t choice) (kept_by choice) (chosen_templates t choice) d

  owner_is : (d : Due) (h : IsOwnedThere d) → owner_of t d ≡ h.owner
  owner_is d h = ap (λ (x : Option (Option ℕ)). unwrap_or x None) h.found

  ends_of : (ds : List Due) → Each IsOwnedThere ds → AreFinalUnowned t ds
  ends_of [] h = tt
  ends_of (d ∷ ds) h = (h.0.final ∙ ap is_none (sym (owner_is d h.0)), ends_of ds h.1)

  asks_there : (d : Due) → IsOwnedThere d → (s : ℕ) → owner_of t d ≡ Some s → AsksChosen t choice s d
  asks_there d h s e = record {
    state = h.state;
    stands = h.stands;
    facts = h.facts;
    goals = subst (λ (o : Option ℕ). AskParts (chosen_templates t choice) h.state.stores o d.goals) (sym (owner_is d h) ∙ e) h.asks;
  }

  asks_of : (ds : List Due) → Each IsOwnedThere ds → AllAskChosen t choice ds
  asks_of [] h = tt
  asks_of (d ∷ ds) h = (asks_there d h.0, asks_of ds h.1)

-- a goal of a product is final exactly where no site owns it
pub owners_final : FinalHasNoOwner
owners_final t choice ds e = ends_of t choice ds (product_owned t choice ds e)

-- what a site asks are the templates that are chosen there
pub owners_ask : SitesAskChosen
owners_ask t choice ds e = asks_of t choice ds (product_owned t choice ds e)
