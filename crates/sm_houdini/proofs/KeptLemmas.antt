-- The plan of what is kept has obligations where that of all templates has.
use Rattle.sm_houdini.proofs.Imports.{◌≡◌, ℕ, zero, suc, ◌+◌, ◌-◌, ◌/◌, ◌≤◌, ◌<◌, max, Bool, true, false, if◌then◌else◌, ℤ, List, [], ◌∷◌, ◌++◌, take, drop, length, refl, sym, ap, ◌∙◌, subst, arith, option_to_list, nat_tests, length-take, length-drop, take-append-drop, Sort, Expression, Code, Cmp, Copy, Parts, task_of, Assertion, term_of, Tree, Copies, form_nodes, form_depth, is_shallow, is_branching, Fault, branches, most_branches, size, obligations, Each, slots, weaker, HoldsOfTemplates, of_block_templates, of_loop_templates, each_take, each_drop, Choice, chosen_at, picked, halved, conjoined, kept_by, SketchNode, BlockSite, site_at, sites_of, plan_with, plans_with, each_picked, plan_of, full_choice, sketch_of, HoldsOfNodes, sketch_nodes, each_site, round_at, KeptExpands, owner_of, dues_of, holds_at, numbers_kept, kept}
use Rattle.std.proofs.Common.{Result, Ok, Err, slice_get}
use Rattle.sm_syntax.specs.declared.tree.Cmp.TheVariants as cmp
use Rattle.sm_plan.specs.Limits.{is_kept}
use Rattle.sm_plan.specs.Plans.{Due}
use Rattle.sm_sketch.specs.Sketches.{Plain, LoopSite, Sketch, Draw, Sketches, Over, More}
use Rattle.sm_product.specs.Laws.{AreKept}
use Rattle.sm_product.specs.Sizes.{is_within}
use Rattle.sm_product.proofs.ObligationsLemmas.{obligations_back, expands_exactly}
use Rattle.sm_houdini.proofs.DroppedLemmas.{sites_at, kept_round}
use Rattle.sm_lemmas.proofs.Numbers.{half_less}

-- how many formulas some have, and one more for each
sum_nodes : List Assertion → ℕ
sum_nodes [] = 0
sum_nodes (f ∷ fs) = suc (form_nodes f + sum_nodes fs)

sum_append : (fs gs : List Assertion) → sum_nodes (fs ++ gs) ≡ sum_nodes fs + sum_nodes gs
unfolding sum_nodes
sum_append [] gs = omega arith
sum_append (f ∷ fs) gs = omega (arith, sum_append fs gs)

sum_length : (fs : List Assertion) → length fs ≤ sum_nodes fs
unfolding sum_nodes
sum_length [] = omega arith
sum_length (f ∷ fs) = omega (arith, sum_length fs)

some_half : (n : ℕ) → (0 < suc (suc n) / 2) × (0 < suc (suc n) - suc (suc n) / 2)
some_half n = (omega arith, omega arith)

-- a conjunction by halves has one formula less than that
halved_nodes : (n : ℕ) (fs : List Assertion) → length fs ≤ n → 0 < length fs → suc (form_nodes (halved n fs)) ≡ sum_nodes fs
unfolding sum_nodes
halved_nodes zero fs few some = absurd (omega (arith, few, some))
halved_nodes (suc n) [] few some = absurd (omega (arith, some))
halved_nodes (suc n) (f ∷ []) few some = omega arith
halved_nodes (suc n) (f ∷ g ∷ rest) few some =
    let fs = f ∷ g ∷ rest in
    let half = length fs / 2 in
    let small = half_less (length rest) n few in
    let any = some_half (length rest) in
    let first = length-take half fs in
    let second = length-drop half fs in
    let front = halved_nodes n (take half fs) (subst (λ (m : ℕ). m ≤ n) (sym first) (omega (arith, small.0)))
    (subst (λ (m : ℕ). 0 < m) (sym first) (omega (arith, any.0))) in
    let back = halved_nodes n (drop half fs) (subst (λ (m : ℕ). m ≤ n) (sym second) small.1)
    (subst (λ (m : ℕ). 0 < m) (sym second) any.1) in
    let whole : sum_nodes (take half fs) + sum_nodes (drop half fs) ≡ sum_nodes fs =
    sym (sum_append (take half fs) (drop half fs)) ∙ ap sum_nodes (take-append-drop half fs) in
    omega (arith, front, back, whole)

-- so a conjunction has no more formulas than its formulas have
conjoined_nodes : (fs : List Assertion) (most : ℕ) → 0 < most → sum_nodes fs ≤ suc most → form_nodes (conjoined fs) ≤ most
conjoined_nodes [] most some few = omega (arith, some)
conjoined_nodes (f ∷ fs) most some few =
    let same = halved_nodes (length (f ∷ fs)) (f ∷ fs) (omega arith) (omega arith) in omega (arith, same, few)

nodes_conjoined : (fs : List Assertion) (most : ℕ) → 0 < most → form_nodes (conjoined fs) ≤ most → sum_nodes fs ≤ suc most
unfolding sum_nodes
nodes_conjoined [] most some few = omega arith
nodes_conjoined (f ∷ fs) most some few =
    let same = halved_nodes (length (f ∷ fs)) (f ∷ fs) (omega arith) (omega arith) in omega (arith, same, few)

-- one doubled so many times
doubled : ℕ → ℕ
doubled zero = 1
doubled (suc e) = doubled e + doubled e

-- a formula of so few levels
abbrev IsFlat : Assertion → Type 0
IsFlat f = form_depth f ≤ 3

half_doubled : (n m : ℕ) → suc (suc n) ≤ m + m → (suc (suc n) / 2 ≤ m) × (suc (suc n) - suc (suc n) / 2 ≤ m)
half_doubled n m h = (omega (arith, h), omega (arith, h))

-- a conjunction by halves has one level more for each doubling
halved_depth : (n e : ℕ) (fs : List Assertion) → length fs ≤ doubled e → Each IsFlat fs → form_depth (halved n fs) ≤ e + 3
unfolding doubled
halved_depth zero e fs few flat = omega arith
halved_depth (suc n) e [] few flat = omega arith
halved_depth (suc n) e (f ∷ []) few flat = omega (arith, flat.0)
halved_depth (suc n) zero (f ∷ g ∷ rest) few flat = absurd (omega (arith, few))
halved_depth (suc n) (suc e) (f ∷ g ∷ rest) few flat =
    let fs = f ∷ g ∷ rest in
    let half = length fs / 2 in
    let small = half_doubled (length rest) (doubled e) few in
    let front = halved_depth n e (take half fs)
    (subst (λ (m : ℕ). m ≤ doubled e) (sym (length-take half fs)) (omega (arith, small.0))) (each_take IsFlat half fs flat) in
    let back = halved_depth n e (drop half fs) (subst (λ (m : ℕ). m ≤ doubled e) (sym (length-drop half fs)) small.1)
    (each_drop IsFlat half fs flat) in
    omega (arith, front, back)

-- within the limits
kept_is : (f : Assertion) → form_nodes f ≤ 200000 → form_depth f ≤ 64 → is_kept f ≡ true
unfolding is_kept
kept_is f nodes depth = grind (arith, nat_tests)

is_kept_nodes : (f : Assertion) → is_kept f ≡ true → form_nodes f ≤ 200000
unfolding is_kept
is_kept_nodes f h = grind (arith, nat_tests)

has_room : (n : ℕ) → n ≤ 200001 → n ≤ doubled 18
unfolding doubled
has_room n h = omega (arith, h)

-- fewer flat formulas are kept where more are
fewer_kept : (fs gs : List Assertion) → is_kept (conjoined fs) ≡ true → sum_nodes gs ≤ sum_nodes fs → Each IsFlat gs →
    is_kept (conjoined gs) ≡ true
fewer_kept fs gs h fewer flat =
    let all = nodes_conjoined fs 200000 (omega arith) (is_kept_nodes (conjoined fs) h) in
    let few : sum_nodes gs ≤ suc 200000 = omega (arith, all, fewer) in
    let depth = halved_depth (length gs) 18 gs (has_room (length gs) (omega (arith, sum_length gs, few))) flat in
    kept_is (conjoined gs) (conjoined_nodes gs 200000 (omega arith) few) (omega (arith, depth))

-- fewer numbers pick no more
fewer_picked : (ts : List Assertion) (passes : ℕ → Bool) (i : ℕ) (ns : List ℕ) →
    sum_nodes (picked ts (numbers_kept passes i ns)) ≤ sum_nodes (picked ts ns)
fewer_picked ts passes i [] = omega arith
fewer_picked ts passes i (n ∷ ns) = by (passes i) (fewer_picked ts passes (suc i) ns)
  where
    by : (b : Bool) → sum_nodes (picked ts (numbers_kept passes (suc i) ns)) ≤ sum_nodes (picked ts ns) →
        sum_nodes (picked ts (if b then n ∷ numbers_kept passes (suc i) ns else numbers_kept passes (suc i) ns))
        ≤ sum_nodes (option_to_list (slice_get ts n) ++ picked ts ns)
    by true h =
        omega (
          arith,
          h,
          sum_append (option_to_list (slice_get ts n)) (picked ts (numbers_kept passes (suc i) ns)),
          sum_append (option_to_list (slice_get ts n)) (picked ts ns),
        )
    by false h = omega (arith, h, sum_append (option_to_list (slice_get ts n)) (picked ts ns))

-- so do those of a round
round_picked : (closes : List Assertion → Assertion → Bool) (t : Parts) (ts : List Assertion) (r s : ℕ) →
    sum_nodes (picked ts (chosen_at (round_at closes t r) s)) ≤ sum_nodes (picked ts (chosen_at (full_choice t) s))
round_picked closes t ts zero s = omega arith
round_picked closes t ts (suc r) s =
    let choice = round_at closes t r in
    let passes = holds_at closes (owner_of t) (dues_of t choice) in
    let fewer = fewer_picked ts (passes (0 + s)) 0 (chosen_at choice s) in
    let same = ap (λ (ns : List ℕ). sum_nodes (picked ts ns)) (sites_at passes 0 choice s) in
    omega (arith, fewer, same, round_picked closes t ts r s)

-- templates are flat
weaker_flat : (op : Cmp) (t u : Tree) → Each IsFlat (weaker op t u)
weaker_flat cmp.Eq t u = tt
weaker_flat cmp.Ne t u = tt
weaker_flat cmp.Lt t u = (omega arith, tt)
weaker_flat cmp.Le t u = (omega arith, tt)
weaker_flat cmp.Gt t u = (omega arith, tt)
weaker_flat cmp.Ge t u = (omega arith, tt)

templates_flat : HoldsOfTemplates IsFlat
templates_flat = record {
  of_equal = λ (sort : Sort) (x : ℕ) (c d : Copy). omega arith;
  of_cells = λ (x : ℕ) (c d : Copy). omega arith;
  of_goals = λ (name : ℕ × Sort). (omega arith, (omega arith, (omega arith, tt)));
  of_start = λ (sort : Sort) (x : ℕ) (c : Copy). omega arith;
  of_start_cell = λ (x : ℕ) (c : Copy). omega arith;
  of_shift = λ (x : ℕ) (c d : Copy) (v : ℤ). omega arith;
  of_guard = λ (op : Cmp) (d e : Expression) (c : Copy). weaker_flat op (term_of d (slots c)) (term_of e (slots c));
}

flat_nodes : (t : Parts) → HoldsOfNodes t (λ (node : SketchNode). Each (Each IsFlat) (site_at node))
flat_nodes t = record {
  of_step = λ (c : Copy). tt;
  of_summary = λ (c : Copy). tt;
  of_fork = λ (c : Copy). tt;
  of_end = tt;
  of_loops = λ (set : Copies) (code : Copy → Code). (of_loop_templates IsFlat templates_flat t set code, tt);
  of_block = λ (counts : Copy → ℕ) (code : Copy → Code). (of_block_templates IsFlat templates_flat t code, tt);
}

sites_kept_still : (closes : List Assertion → Assertion → Bool) (t : Parts) (r s : ℕ) (sites : List (List Assertion)) →
    Each (Each IsFlat) sites → AreKept (kept_by (full_choice t)) s sites → AreKept (kept_by (round_at closes t r)) s sites
sites_kept_still closes t r s [] flat h = tt
sites_kept_still closes t r s (ts ∷ sites) flat h = (
  fewer_kept (picked ts (chosen_at (full_choice t) s)) (picked ts (chosen_at (round_at closes t r) s)) h.0
      (round_picked closes t ts r s) (each_picked IsFlat ts (chosen_at (round_at closes t r) s) flat.0),
  sites_kept_still closes t r (suc s) sites flat.1 h.1,
)

-- the plans of a sketch branch alike
mutual
  same_branches : (keep other : ℕ → List Assertion → Assertion) (p : Sketch) (s m : ℕ) →
      branches (plan_with keep s p) ≡ branches (plan_with other m p)
  same_branches keep other (Draw (Plain node) ps) s m =
      ap (λ (n : ℕ). if is_branching node then suc n else n) (all_branches keep other ps (s + 0) (m + 0))
  same_branches keep other (Draw (LoopSite set templates) ps) s m =
      ap (λ (n : ℕ). suc n) (all_branches keep other ps (s + 1) (m + 1))
  same_branches keep other (Draw (BlockSite counts templates) ps) s m =
      ap (λ (n : ℕ). suc n) (all_branches keep other ps (s + 1) (m + 1))

  all_branches : (keep other : ℕ → List Assertion → Assertion) (ps : Sketches) (s m : ℕ) →
      most_branches (plans_with keep s ps) ≡ most_branches (plans_with other m ps)
  all_branches keep other Over s m = refl
  all_branches keep other (More p ps) s m =
      λ i. max (same_branches keep other p s m i) (all_branches keep other ps (s + length (sites_of p)) (m + length (sites_of p)) i)

small_expands : (n : ℕ) (r : Result (List Due) Fault) → is_within n r ≡ true → (ds : List Due) × (r ≡ Ok ds)
unfolding is_within
small_expands n (Err w) h = absurd cc
small_expands n (Ok ds) h = (ds, refl)

pub kept_expands : KeptExpands
kept_expands closes t none small =
    let full = full_choice t in
    let all = small_expands (size (plan_of t full)) (obligations (task_of t) (plan_of t full)) small in
    let back = obligations_back t full all.0 all.1 in
    let round = kept_round closes t in
    let flat = each_site (Each IsFlat) (sketch_of t)
    (sketch_nodes t (λ (node : SketchNode). Each (Each IsFlat) (site_at node)) (flat_nodes t)) in
    let still = sites_kept_still closes t round.0 0 (sites_of (sketch_of t)) flat back.1 in
    (expands_exactly t (kept closes t) none).1 (
      ap is_shallow (same_branches (kept_by (kept closes t)) (kept_by full) (sketch_of t) 0 0) ∙ back.0,
      subst (λ (choice : Choice). AreKept (kept_by choice) 0 (sites_of (sketch_of t))) (sym round.1) still,
    )
