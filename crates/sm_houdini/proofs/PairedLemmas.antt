-- The plans of two choices side by side. Where one has all templates of the other, each node asks these of it too, over the other's facts
-- among others.
use Rattle.sm_houdini.proofs.Imports.{◌≡◌, ◌⊎◌, inl, inr, ℕ, suc, ◌+◌, Bool, not, ◌&&◌, ◌||◌, List, [], ◌∷◌, ◌++◌, length, refl, sym, ap, ◌∙◌, subst, arith, flat_map, same_Some, Code, End, Skip, Assign, If, While, Hole, Copy, Parts, task_of, Assertion, conj, all_at_stores, SymbolicStore, Copies, subsets, each, has, is_inhabited, copies, no_copies, is_kept, is_shallow, Node, Opened, opened_by, rule_of, where_true, after_step, both_ways, Fault, Wrong, Deep, due, expand, expand_all, size, branches, obligations, State, start_state, is_over, is_long, front, rest_after, is_loop, Each, each_append, each_of_all, Choice, kept_by, SketchNode, BlockSite, sites_of, sites_below, plan_with, plans_with, plan_of, sketch_of, EachNode, EachBelow, HoldsOfNodes, sketch_nodes, owners, owners_below, joined_is, passed, opened_same, get_in_first, get_in_second}
use Rattle.std.proofs.Common.{Option, Some, None, Ok, Err, map, slice_get}
use Rattle.sm_syntax.specs.claim.Syntax.{Write}
use Rattle.sm_plan.specs.Nodes.{Step, Abs, Fork, Loop, Block, Ends}
use Rattle.sm_plan.specs.Plans.{Due}
use Rattle.sm_plan.specs.Successors as next
use Rattle.sm_sketch.specs.Sketches.{Plain, LoopSite, Sketch, Draw, Sketches, Over, More}
use Rattle.sm_houdini.proofs.OwnersLemmas.{HasParts, AskParts, parts_asked, KeepParts, parts_split, owners_length, not_ok, chosen_templates, sites_keep}
use Rattle.sm_houdini.proofs.PlacesLemmas.{IsAt, at_first, at_rest, at_left, at_right, at_start, dues_same, plan_parts}

-- a relation of lists of formulas that holds of each list and itself, and stays with what is put behind and at stores
pub record IsKept (Rel : List Assertion → List Assertion → Type 0) : Type 0 where
  pub itself : (fs : List Assertion) → Rel fs fs
  pub append : (fs gs xs ys : List Assertion) → Rel fs gs → Rel xs ys → Rel (fs ++ xs) (gs ++ ys)
  pub stores : (stores : Copy → SymbolicStore) (fs gs : List Assertion) → Rel fs gs →
      Rel (all_at_stores stores fs) (all_at_stores stores gs)

module _ (Among : List Assertion → List Assertion → Type 0) (kept : IsKept Among) where
  -- a state with other facts and another target
  abbrev put : State → List Assertion → List Assertion → Bool → State
  put st facts aims final = record st { facts = facts; target = aims; is_final = final }

  -- nodes ask nothing at both states, or their targets at the stores that they share
  record Asks (st : State) (aims : List Assertion) (q p : Opened) : Type 0 where
    little : q.goals ≡ all_at_stores st.stores st.target
    much : p.goals ≡ all_at_stores st.stores aims

  record AskNothing (q p : Opened) : Type 0 where
    little : q.goals ≡ []
    much : p.goals ≡ []

  -- two states differ in facts and in targets alone, of which the second has more
  record Differ (st : State) (facts aims : List Assertion) (other big : State) : Type 0 where
    rest : big.rest ≡ other.rest
    stores : big.stores ≡ other.stores
    grows : Among st.facts facts → Among other.facts big.facts
    little : other.target ≡ st.target
    much : big.target ≡ aims

  abbrev AllDiffer : State → List Assertion → List Assertion → List State → List State → Type 0
  AllDiffer st facts aims [] [] = Unit {0}
  AllDiffer st facts aims [] (big ∷ bigs) = ⊥
  AllDiffer st facts aims (other ∷ others) [] = ⊥
  AllDiffer st facts aims (other ∷ others) (big ∷ bigs) = Differ st facts aims other big × AllDiffer st facts aims others bigs

  record Matches (st : State) (facts aims : List Assertion) (q p : Opened) : Type 0 where
    asks : AskNothing q p ⊎ Asks st aims q p
    follow : AllDiffer st facts aims q.states p.states

  abbrev MatchesAt : SketchNode → Type 0
  MatchesAt (Plain node) =
      (k : ℕ) (st : State) (facts aims : List Assertion) (final : Bool) (q p : Opened) → opened_by k st node ≡ Some q →
      opened_by k (put st facts aims final) node ≡ Some p → Matches st facts aims q p
  MatchesAt (LoopSite set templates) = Unit {0}
  MatchesAt (BlockSite counts templates) = Unit {0}

  module _ (st : State) (facts aims : List Assertion) (final : Bool) where
    abbrev big_state : State
    big_state = put st facts aims final

    -- both are what they are
    matches_both : (x y q p : Opened) → x ≡ q → y ≡ p → Matches st facts aims x y → Matches st facts aims q p
    matches_both x y q p e f h = subst (λ (r : Opened). Matches st facts aims r p) e (subst (Matches st facts aims x) f h)

    nothing : (x y : List State) → AllDiffer st facts aims x y →
        Matches st facts aims (record { goals = []; states = x }) (record { goals = []; states = y })
    nothing x y h = record { asks = inl (record { little = refl; much = refl }); follow = h }

    step_matches : (c : Copy) (o : Option (Code × SymbolicStore)) (q p : Opened) → after_step st c o ≡ Some q →
        after_step big_state c o ≡ Some p → Matches st facts aims q p
    step_matches c None q p e f = absurd cc
    step_matches c (Some r) q p e f =
        matches_both _ _ q p (same_Some _ q e) (same_Some _ p f)
        (nothing (next.moved st c r.0 r.1 ∷ []) (next.moved big_state c r.0 r.1 ∷ [])
        (record { rest = refl; stores = refl; grows = λ (h : Among st.facts facts). h; little = refl; much = refl }, tt))

    more_facts : (more : List Assertion) → Among st.facts facts → Among (st.facts ++ more) (facts ++ more)
    more_facts more h = kept.append st.facts facts more more h (kept.itself more)

    summary_matches : (c : Copy) (done left : Code) (b : Bool) (q p : Opened) →
        where_true b (record { goals = []; states = next.summary_state st c done left ∷ [] }) ≡ Some q →
        where_true b (record { goals = []; states = next.summary_state big_state c done left ∷ [] }) ≡ Some p → Matches st facts aims q p
    summary_matches c done left b q p e f =
        matches_both _ _ q p (opened_same b _ q e) (opened_same b _ p f)
        (nothing (next.summary_state st c done left ∷ []) (next.summary_state big_state c done left ∷ [])
        (record { rest = refl; stores = refl; grows = more_facts _; little = refl; much = refl }, tt))

    fork_matches : (c : Copy) (code : Code) (q p : Opened) → both_ways st c code ≡ Some q → both_ways big_state c code ≡ Some p →
        Matches st facts aims q p
    fork_matches c End q p e f = absurd cc
    fork_matches c (Skip k) q p e f = absurd cc
    fork_matches c (Assign x v k) q p e f = absurd cc
    fork_matches c (Write a i v k) q p e f = absurd cc
    fork_matches c (If b one other k) q p e f =
        matches_both _ _ q p (same_Some _ q e) (same_Some _ p f)
        (nothing _ _ (
          record { rest = refl; stores = refl; grows = more_facts _; little = refl; much = refl },
          (record { rest = refl; stores = refl; grows = more_facts _; little = refl; much = refl }, tt),
        ))
    fork_matches c (While b body k) q p e f = absurd cc
    fork_matches c (Hole h k) q p e f = absurd cc

    end_matches : (b : Bool) (q p : Opened) →
        where_true b (record { goals = all_at_stores st.stores st.target; states = [] }) ≡ Some q →
        where_true b (record { goals = all_at_stores st.stores aims; states = [] }) ≡ Some p → Matches st facts aims q p
    end_matches b q p e f =
        matches_both _ _ q p (opened_same b _ q e) (opened_same b _ p f)
        (record { asks = inr (record { little = refl; much = refl }); follow = tt })

  nodes_match : (t : Parts) → HoldsOfNodes t MatchesAt
  nodes_match t = record {
    of_step = λ (c : Copy) (k : ℕ) (st : State) (facts aims : List Assertion) (final : Bool) (q p : Opened)
        (e : opened_by k st (Step c) ≡ Some q) (f : opened_by k (put st facts aims final) (Step c) ≡ Some p).
        step_matches st facts aims final c (next.stepped (st.rest c) (st.stores c)) q p e f;
    of_summary = λ (c : Copy) (k : ℕ) (st : State) (facts aims : List Assertion) (final : Bool) (q p : Opened)
        (e : opened_by k st (Abs c 1) ≡ Some q) (f : opened_by k (put st facts aims final) (Abs c 1) ≡ Some p).
        summary_matches st facts aims final c (front 1 (st.rest c)) (rest_after 1 (st.rest c)) (is_long 1 (st.rest c)) q p e f;
    of_fork = λ (c : Copy) (k : ℕ) (st : State) (facts aims : List Assertion) (final : Bool) (q p : Opened)
        (e : opened_by k st (Fork c) ≡ Some q) (f : opened_by k (put st facts aims final) (Fork c) ≡ Some p).
        fork_matches st facts aims final c (st.rest c) q p e f;
    of_end = λ (k : ℕ) (st : State) (facts aims : List Assertion) (final : Bool) (q p : Opened)
        (e : opened_by k st Ends ≡ Some q) (f : opened_by k (put st facts aims final) Ends ≡ Some p).
        end_matches st facts aims final (each (λ (c : Copy). is_over (st.rest c))) q p e f;
    of_loops = λ (set : Copies) (code : Copy → Code). tt;
    of_block = λ (counts : Copy → ℕ) (code : Copy → Code). tt;
  }

  -- an obligation that asks these goals, over facts that are among those of another one at its node
  pub record Shown (ds : List Due) (e : Due) (goals : List Assertion) : Type 0 where
    pub place : ℕ
    pub due : Due
    pub there : slice_get ds place ≡ Some due
    pub node : due.node ≡ e.node
    pub asks : due.goals ≡ goals
    pub among : Among due.facts e.facts

  shown_left : (ds gs : List Due) (e : Due) (goals : List Assertion) → Shown ds e goals → Shown (ds ++ gs) e goals
  shown_left ds gs e goals h = record {
    place = h.place;
    due = h.due;
    there = get_in_first ds gs h.place h.due h.there;
    node = h.node;
    asks = h.asks;
    among = h.among;
  }

  shown_right : (ds gs : List Due) (e : Due) (goals : List Assertion) → Shown gs e goals → Shown (ds ++ gs) e goals
  shown_right ds gs e goals h = record {
    place = length ds + h.place;
    due = h.due;
    there = get_in_second ds gs h.place ∙ h.there;
    node = h.node;
    asks = h.asks;
    among = h.among;
  }

  -- of two lists of parts for each site, the first has only parts of the second
  module _ (base : List (Option ℕ)) (keep other : ℕ → List Assertion → Assertion) (few many : ℕ → List Assertion)
      (more : (s : ℕ) → Among (few s) (many s)) where
    -- what a site asks are its parts at some stores; where the few are any, they are asked too, at the same stores
    abbrev pub PairedBy : Option ℕ → List Due → Due → Type 0
    PairedBy None ds e = Unit {0}
    PairedBy (Some s) ds e =
        (stores : Copy → SymbolicStore) × (e.goals ≡ all_at_stores stores (many s))
        × ((all_at_stores stores (few s) ≡ []) ⊎ Shown ds e (all_at_stores stores (few s)))

    pub record Paired (ds : List Due) (e : Due) : Type 0 where
      pub owner : Option ℕ
      pub found : slice_get base e.node ≡ Some owner
      pub shown : PairedBy owner ds e

    by_left : (o : Option ℕ) (ds gs : List Due) (e : Due) → PairedBy o ds e → PairedBy o (ds ++ gs) e
    by_left None ds gs e h = tt
    by_left (Some s) ds gs e (stores, asks, inl h) = (stores, asks, inl h)
    by_left (Some s) ds gs e (stores, asks, inr h) = (stores, asks, inr (shown_left ds gs e (all_at_stores stores (few s)) h))

    by_right : (o : Option ℕ) (ds gs : List Due) (e : Due) → PairedBy o gs e → PairedBy o (ds ++ gs) e
    by_right None ds gs e h = tt
    by_right (Some s) ds gs e (stores, asks, inl h) = (stores, asks, inl h)
    by_right (Some s) ds gs e (stores, asks, inr h) = (stores, asks, inr (shown_right ds gs e (all_at_stores stores (few s)) h))

    both_paired : (ds gs all es fs whole : List Due) → ds ++ gs ≡ all → es ++ fs ≡ whole → Each (Paired ds) es → Each (Paired gs) fs →
        Each (Paired all) whole
    both_paired ds gs all es fs whole same there h g =
        subst (λ (xs : List Due). Each (Paired xs) whole) same
        (subst (Each (Paired (ds ++ gs))) there
        (each_append (Paired (ds ++ gs)) es fs
        (each_of_all (Paired ds) (Paired (ds ++ gs))
        (λ (e : Due) (k : Paired ds e). record { owner = k.owner; found = k.found; shown = by_left k.owner ds gs e k.shown }) es h)
        (each_of_all (Paired gs) (Paired (ds ++ gs))
        (λ (e : Due) (k : Paired gs e). record { owner = k.owner; found = k.found; shown = by_right k.owner ds gs e k.shown }) fs g)))

    due_paired : (k : ℕ) (st big : State) (node larger : Node) (o : Option ℕ) (stores : Copy → SymbolicStore) (goals all : List Assertion) →
        slice_get base k ≡ Some o → Among st.facts big.facts → AskParts few stores o goals → AskParts many stores o all →
        Each (Paired (due k st node goals)) (due k big larger all)
    due_paired k st big node larger o stores goals [] here among little much = tt
    due_paired k st big node larger None stores goals (f ∷ fs) here among little much =
        (record { owner = None; found = here; shown = tt }, tt)
    due_paired k st big node larger (Some s) stores [] (f ∷ fs) here among little much =
        (record { owner = Some s; found = here; shown = (stores, much, inl (sym little)) }, tt)
    due_paired k st big node larger (Some s) stores (g ∷ gs) (f ∷ fs) here among little much = (
      record {
        owner = Some s;
        found = here;
        shown = (
          stores,
          much,
          inr (record { place = 0; due = _; there = refl; node = refl; asks = little; among = among }),
        );
      },
      tt,
    )

    no_pair : (k : ℕ) (big : State) (larger : Node) (ds : List Due) (all : List Assertion) → all ≡ [] →
        Each (Paired ds) (due k big larger all)
    no_pair k big larger ds all e = subst (λ (gs : List Assertion). Each (Paired ds) (due k big larger gs)) (sym e) tt

    -- a state and one above it, with facts among others and the parts of one site as their targets
    record Above (target : Option ℕ) (st : State) (facts aims : List Assertion) : Type 0 where
      among : Among st.facts facts
      little : HasParts few target st.target
      much : HasParts many target aims

    record IsAbove (target : Option ℕ) (st big : State) : Type 0 where
      rest : big.rest ≡ st.rest
      stores : big.stores ≡ st.stores
      above : Above target st big.facts big.target

    abbrev AreAbove : Option ℕ → Option ℕ → List State → List State → Type 0
    AreAbove inner last [] [] = Unit {0}
    AreAbove inner last [] (big ∷ bigs) = ⊥
    AreAbove inner last (st ∷ states) [] = ⊥
    AreAbove inner last (st ∷ []) (big ∷ []) = IsAbove last st big
    AreAbove inner last (st ∷ []) (big ∷ bigger ∷ bigs) = ⊥
    AreAbove inner last (st ∷ second ∷ states) (big ∷ []) = ⊥
    AreAbove inner last (st ∷ second ∷ states) (big ∷ bigger ∷ bigs) =
        IsAbove inner st big × AreAbove inner last (second ∷ states) (bigger ∷ bigs)

    put_is : (target : Option ℕ) (st big : State) → IsAbove target st big → put st big.facts big.target big.is_final ≡ big
    put_is target st big h = λ i. record {
      rest = sym h.rest i;
      stores = sym h.stores i;
      facts = big.facts;
      target = big.target;
      is_final = big.is_final;
    }

    above_as : (target : Option ℕ) (st : State) (facts aims : List Assertion) (later big : State) → Above target st facts aims →
        Differ st facts aims later big → IsAbove target later big
    above_as target st facts aims later big h d = record {
      rest = d.rest;
      stores = d.stores;
      above = record {
        among = d.grows h.among;
        little = subst (HasParts few target) (sym d.little) h.little;
        much = subst (HasParts many target) (sym d.much) h.much;
      };
    }

    all_above : (target : Option ℕ) (st : State) (facts aims : List Assertion) (states bigs : List State) → Above target st facts aims →
        AllDiffer st facts aims states bigs → AreAbove target target states bigs
    all_above target st facts aims [] [] h d = tt
    all_above target st facts aims [] (big ∷ bigs) h d = absurd d
    all_above target st facts aims (later ∷ states) [] h d = absurd d
    all_above target st facts aims (later ∷ []) (big ∷ []) h d = above_as target st facts aims later big h d.0
    all_above target st facts aims (later ∷ []) (big ∷ bigger ∷ bigs) h d = absurd d.1
    all_above target st facts aims (later ∷ second ∷ states) (big ∷ []) h d = absurd d.1
    all_above target st facts aims (later ∷ second ∷ states) (big ∷ bigger ∷ bigs) h d =
        (above_as target st facts aims later big h d.0, all_above target st facts aims (second ∷ states) (bigger ∷ bigs) h d.1)

    -- formulas with these parts have parts among parts
    parts_among : (s : ℕ) (form larger : Assertion) → conj form ≡ few s → conj larger ≡ many s → Among (conj form) (conj larger)
    parts_among s form larger e f =
        subst (λ (fs : List Assertion). Among fs (conj larger)) (sym e) (subst (Among (few s)) (sym f) (more s))

    -- what follows of loops
    module _ (st : State) (facts aims : List Assertion) (final : Bool) (k s : ℕ) (target : Option ℕ) (set : Copies) (form larger : Assertion)
        (little : conj form ≡ few s) (much : conj larger ≡ many s) (h : Above target st facts aims) where
      abbrev big : State
      big = put st facts aims final

      turn_facts : (v : Copies) → Among (next.turn_state st k set form v).facts (next.turn_state big k set larger v).facts
      turn_facts v =
          let stores = next.head_stores st k set in
          let guards = flat_map (next.guard_fact st set v stores) copies in
          kept.append st.facts facts (next.head_facts st k set form v) (next.head_facts big k set larger v) h.among
          (kept.append (all_at_stores stores (conj form)) (all_at_stores stores (conj larger)) guards guards
          (kept.stores stores (conj form) (conj larger) (parts_among s form larger little much)) (kept.itself guards))

      turn_above : (v : Copies) → IsAbove (Some s) (next.turn_state st k set form v) (next.turn_state big k set larger v)
      turn_above v =
          record { rest = refl; stores = refl; above = record { among = turn_facts v; little = little; much = much } }

      after_above : IsAbove target (next.after_loops_state st k set form) (next.after_loops_state big k set larger)
      after_above =
          record { rest = refl; stores = refl; above = record { among = turn_facts no_copies; little = h.little; much = h.much } }

      turns_above : (vs : List Copies) →
          AreAbove (Some s) target (map (next.turn_state st k set form) vs ++ next.after_loops_state st k set form ∷ [])
          (map (next.turn_state big k set larger) vs ++ next.after_loops_state big k set larger ∷ [])
      turns_above [] = after_above
      turns_above (v ∷ []) = (turn_above v, after_above)
      turns_above (v ∷ u ∷ vs) = (turn_above v, turns_above (u ∷ vs))

    node_paired : (k : ℕ) (st : State) (facts aims : List Assertion) (final : Bool) (node : Node) (target : Option ℕ) (q p : Opened) →
        slice_get base k ≡ Some target → Above target st facts aims → AskNothing q p ⊎ Asks st aims q p →
        Each (Paired (due k st node q.goals)) (due k (put st facts aims final) node p.goals)
    node_paired k st facts aims final node target q p here h (inl none) =
        no_pair k (put st facts aims final) node (due k st node q.goals) p.goals none.much
    node_paired k st facts aims final node target q p here h (inr asks) =
        due_paired k st (put st facts aims final) node node target st.stores q.goals p.goals here h.among
        (subst (AskParts few st.stores target) (sym asks.little) (parts_asked few target st.stores st.target h.little))
        (subst (AskParts many st.stores target) (sym asks.much) (parts_asked many target st.stores aims h.much))

    mutual
      paired : (p : Sketch) (target : Option ℕ) (k s : ℕ) (st : State) (facts aims : List Assertion) (final : Bool) (ds es : List Due) →
          EachNode MatchesAt p → KeepParts few keep s (sites_of p) → KeepParts many other s (sites_of p) → Above target st facts aims →
          IsAt base k (owners target s p) → expand k st (plan_with keep s p) ≡ Ok ds →
          expand k (put st facts aims final) (plan_with other s p) ≡ Ok es → Each (Paired ds) es
      paired (Draw (Plain node) ps) target k s st facts aims final ds es good little much h at e f =
          let big = put st facts aims final in
          let w = Wrong k (rule_of node) in
          let p = plan_parts node (plans_with keep (s + 0) ps) k st ds e in
          let b = plan_parts node (plans_with other (s + 0) ps) k big es f in
          let same = good.0 k st facts aims final p.q b.q p.opens b.opens in
          both_paired (due k st node p.q.goals) p.later ds (due k big node b.q.goals) b.later es p.whole b.whole
          (node_paired k st facts aims final node target p.q b.q (at_first base k target (owners_below target target s ps) at) h same.asks)
          (all_paired ps target target w w (suc k) s (s + 0) (omega arith) p.q.states b.q.states p.later b.later good.1 little much
          (all_above target st facts aims p.q.states b.q.states h same.follow)
          (at_rest base k target (owners_below target target s ps) at) p.goes_on b.goes_on)
      paired (Draw (LoopSite set templates) ps) target k s st facts aims final ds es good little much h at e f =
          let big = put st facts aims final in
          let form = keep s templates in
          let larger = other s templates in
          let p = plan_parts (Loop set form) (plans_with keep (s + 1) ps) k st ds e in
          let b = plan_parts (Loop set larger) (plans_with other (s + 1) ps) k big es f in
          let loops = each (λ (c : Copy). not (has set c) || is_loop (st.rest c)) in
          let same = opened_same (is_inhabited set && (loops && is_kept form)) _ p.q p.opens in
          let there = opened_same (is_inhabited set && (loops && is_kept larger)) _ b.q b.opens in
          let follow = turns_above st facts aims final k s target set form larger little.0 much.0 h (subsets set) in
          both_paired (due k st (Loop set form) p.q.goals) p.later ds (due k big (Loop set larger) b.q.goals) b.later es p.whole b.whole
          (due_paired k st big (Loop set form) (Loop set larger) (Some s) st.stores p.q.goals b.q.goals
          (at_first base k (Some s) (owners_below (Some s) target (suc s) ps) at) h.among
          (subst (λ (q : Opened). AskParts few st.stores (Some s) q.goals) same (parts_asked few (Some s) st.stores (conj form) little.0))
          (subst (λ (q : Opened). AskParts many st.stores (Some s) q.goals) there (parts_asked many (Some s) st.stores (conj larger) much.0)))
          (all_paired ps (Some s) target (Wrong k 4) (Wrong k 4) (suc k) (suc s) (s + 1) (omega arith) p.q.states b.q.states p.later b.later
          good.1 little.1 much.1
          (subst (λ (q : Opened). AreAbove (Some s) target q.states b.q.states) same
          (subst
          (λ (q : Opened). AreAbove (Some s) target
          (map (next.turn_state st k set form) (subsets set) ++ next.after_loops_state st k set form ∷ []) q.states)
          there follow))
          (at_rest base k (Some s) (owners_below (Some s) target (suc s) ps) at) p.goes_on b.goes_on)
      paired (Draw (BlockSite counts templates) ps) target k s st facts aims final ds es good little much h at e f =
          let big = put st facts aims final in
          let form = keep s templates in
          let larger = other s templates in
          let p = plan_parts (Block counts form) (plans_with keep (s + 1) ps) k st ds e in
          let b = plan_parts (Block counts larger) (plans_with other (s + 1) ps) k big es f in
          let long = each (λ (c : Copy). is_long (counts c) (st.rest c)) in
          let same = opened_same (long && is_kept form) _ p.q p.opens in
          let there = opened_same (long && is_kept larger) _ b.q b.opens in
          let stores = next.renewed k (next.fronts st counts) st.stores in
          let inside : IsAbove (Some s) (next.inner_state st counts form) (next.inner_state big counts larger) =
          record { rest = refl; stores = refl; above = record { among = h.among; little = little.0; much = much.0 } } in
          let after : IsAbove target (next.after_block_state st k counts form) (next.after_block_state big k counts larger) =
          record {
            rest = refl;
            stores = refl;
            above = record {
              among =
                  kept.append st.facts facts (all_at_stores stores (conj form)) (all_at_stores stores (conj larger)) h.among
                  (kept.stores stores (conj form) (conj larger) (parts_among s form larger little.0 much.0));
              little = h.little;
              much = h.much;
            };
          } in
          both_paired (due k st (Block counts form) p.q.goals) p.later ds (due k big (Block counts larger) b.q.goals) b.later es p.whole b.whole
          (no_pair k big (Block counts larger) (due k st (Block counts form) p.q.goals) b.q.goals (sym (ap (λ (q : Opened). q.goals) there)))
          (all_paired ps (Some s) target (Wrong k 5) (Wrong k 5) (suc k) (suc s) (s + 1) (omega arith) p.q.states b.q.states p.later b.later
          good.1 little.1 much.1
          (subst (λ (q : Opened). AreAbove (Some s) target q.states b.q.states) same
          (subst
          (λ (q : Opened). AreAbove (Some s) target (next.inner_state st counts form ∷ next.after_block_state st k counts form ∷ []) q.states)
          there (inside, after)))
          (at_rest base k target (owners_below (Some s) target (suc s) ps) at) p.goes_on b.goes_on)

      all_paired : (ps : Sketches) (inner last : Option ℕ) (w v : Fault) (k s m : ℕ) → s ≡ m → (states bigs : List State) (ds es : List Due) →
          EachBelow MatchesAt ps → KeepParts few keep s (sites_below ps) → KeepParts many other s (sites_below ps) →
          AreAbove inner last states bigs → IsAt base k (owners_below inner last s ps) →
          expand_all w k states (plans_with keep m ps) ≡ Ok ds → expand_all v k bigs (plans_with other m ps) ≡ Ok es → Each (Paired ds) es
      all_paired Over inner last w v k s m eq [] [] ds es good little much h at e f = subst (Each (Paired ds)) (dues_same [] es f) tt
      all_paired Over inner last w v k s m eq [] (big ∷ bigs) ds es good little much h at e f = absurd h
      all_paired Over inner last w v k s m eq (st ∷ states) bigs ds es good little much h at e f = absurd cc
      all_paired (More p ps) inner last w v k s m eq [] bigs ds es good little much h at e f = absurd cc
      all_paired (More p ps) inner last w v k s m eq (st ∷ states) [] ds es good little much h at e f = absurd cc
      all_paired (More p Over) inner last w v k s m eq (st ∷ []) (big ∷ []) ds es good little much h at e f =
          let parts = joined_is (expand k st (plan_with keep m p)) (Ok []) ds e in
          let bits = joined_is (expand k big (plan_with other m p)) (Ok []) es f in
          both_paired parts.0 parts.1 ds bits.0 bits.1 es parts.4 bits.4
          (paired p last k s st big.facts big.target big.is_final parts.0 bits.0 good.0
          (parts_split few keep s (sites_of p) [] little).0 (parts_split many other s (sites_of p) [] much).0 h.above at
          (ap (λ (n : ℕ). expand k st (plan_with keep n p)) eq ∙ parts.2)
          ((λ i. expand k (put_is last st big h i) (plan_with other (eq i) p)) ∙ bits.2))
          (subst (Each (Paired parts.1)) (dues_same [] bits.1 bits.3) tt)
      all_paired (More p Over) inner last w v k s m eq (st ∷ []) (big ∷ bigger ∷ bigs) ds es good little much h at e f = absurd h
      all_paired (More p Over) inner last w v k s m eq (st ∷ second ∷ states) (big ∷ bigs) ds es good little much h at e f =
          let parts = joined_is (expand k st (plan_with keep m p)) (Err w) ds e in absurd (not_ok parts.1 w parts.3)
      all_paired (More p (More q ps)) inner last w v k s m eq (st ∷ []) (big ∷ bigs) ds es good little much h at e f =
          let parts = joined_is (expand k st (plan_with keep m p)) (Err w) ds e in absurd (not_ok parts.1 w parts.3)
      all_paired (More p (More q ps)) inner last w v k s m eq (st ∷ second ∷ states) (big ∷ []) ds es good little much h at e f = absurd h
      all_paired (More p (More q ps)) inner last w v k s m eq (st ∷ second ∷ states) (big ∷ bigger ∷ bigs) ds es good little much h at e f =
          let len = length (sites_of p) in
          let n = k + size (plan_with keep m p) in
          let counts = sym (owners_length keep p inner m) ∙ owners_length other p inner m in
          let parts = joined_is (expand k st (plan_with keep m p))
          (expand_all w n (second ∷ states) (plans_with keep (m + len) (More q ps))) ds e in
          let bits = joined_is (expand k big (plan_with other m p))
          (expand_all v (k + size (plan_with other m p)) (bigger ∷ bigs) (plans_with other (m + len) (More q ps))) es f in
          let mine = owners inner s p in
          let rest = owners_below inner last (s + len) (More q ps) in
          let few_sites = parts_split few keep s (sites_of p) (sites_below (More q ps)) little in
          let many_sites = parts_split many other s (sites_of p) (sites_below (More q ps)) much in
          both_paired parts.0 parts.1 ds bits.0 bits.1 es parts.4 bits.4
          (paired p inner k s st big.facts big.target big.is_final parts.0 bits.0 good.0 few_sites.0 many_sites.0 h.0.above
          (at_left base k mine rest at)
          (ap (λ (j : ℕ). expand k st (plan_with keep j p)) eq ∙ parts.2)
          ((λ i. expand k (put_is inner st big h.0 i) (plan_with other (eq i) p)) ∙ bits.2))
          (all_paired (More q ps) inner last w v n (s + len) (m + len) (ap (λ (j : ℕ). j + len) eq) (second ∷ states) (bigger ∷ bigs)
          parts.1 bits.1 good.1 few_sites.1 many_sites.1 h.1
          (at_right base k (size (plan_with keep m p)) mine rest
          (ap (λ (j : ℕ). size (plan_with keep j p)) (sym eq) ∙ sym (owners_length keep p inner s)) at)
          parts.3
          (ap (λ (j : ℕ). expand_all v (k + j) (bigger ∷ bigs) (plans_with other (m + len) (More q ps))) counts ∙ bits.3))

  -- what the plan of a choice asks, beside what that of one with fewer templates does
  pub product_paired : (t : Parts) (choice round : Choice) (ds es : List Due) →
      (more : (s : ℕ) → Among (chosen_templates t choice s) (chosen_templates t round s)) →
      obligations (task_of t) (plan_of t choice) ≡ Ok ds → obligations (task_of t) (plan_of t round) ≡ Ok es →
      Each (Paired (owners None 0 (sketch_of t)) (kept_by choice) (kept_by round) (chosen_templates t choice) (chosen_templates t round) more ds)
      es
  product_paired t choice round ds es more e f =
      let base = owners None 0 (sketch_of t) in
      let st = start_state (task_of t) in
      paired base (kept_by choice) (kept_by round) (chosen_templates t choice) (chosen_templates t round) more (sketch_of t) None 0 0 st
      st.facts st.target st.is_final ds es (sketch_nodes t MatchesAt (nodes_match t)) (sites_keep t choice) (sites_keep t round)
      (record { among = kept.itself st.facts; little = tt; much = tt }) (at_start base)
      (passed (is_shallow (branches (plan_of t choice))) (expand 0 st (plan_of t choice)) Deep ds e)
      (passed (is_shallow (branches (plan_of t round))) (expand 0 st (plan_of t round)) Deep es f)
