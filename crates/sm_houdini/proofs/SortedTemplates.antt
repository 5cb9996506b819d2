-- Templates of declared names, and of guards that are well sorted, are sorted and have no new value and no summary.
use Rattle.sm_houdini.proofs.Imports.{◌≡◌, ℕ, zero, suc, ◌+◌, ◌==◌, ◌/◌, ◌≤◌, ◌<◌, Bool, true, false, if◌then◌else◌, ℤ, List, [], ◌∷◌, ◌++◌, take, drop, length, refl, ap, ◌∙◌, arith, flat_map, range_with_len, nat_tests, Expression, Condition, Code, Cmp, Copy, O, A, B, M, Parts, sort_of, Sorts, IsWellSortedExpression, IsWellSortedCondition, Sort, Num, Arr, Assertion, Eq, HasSort, IsFormSorted, term_of, Tree, Lit, Start, Slot, Add, Copies, copies, AreNumbered, place, keeps_goals, loop_guard, loop_body, place_sorted, sort_is, members, only_in, pairs, Each, each_append, each_filter, each_of_all, slots, next_to, weaker, guard_templates, equal_cells, equal_copies, unchanged, apart_by, shifted, name_templates, written_templates, block_templates, loop_templates, each_distinct, each_take, each_drop, Choice, chosen_at, picked, halved, kept_by, each_picked, EachSide, NoTerm, IsBuilt}
use Rattle.std.proofs.Common.{Some, map}
use Rattle.sm_syntax.specs.declared.tree.Cmp.TheVariants as cmp
use Rattle.sm_syntax.specs.claim.Syntax as syntax
use Rattle.sm_template.specs.Literals.{literals_of}
use Rattle.sm_template.specs.SameFormulas.{same_formula}
use Rattle.sm_template.specs.Written.{is_written, names_written}
use Rattle.sm_term.proofs.ExpressionLemmas.{named_declared}

-- a sorted formula with no new value and no summary
abbrev pub IsSimpleForm : Sorts → Assertion → Type 0
IsSimpleForm sorts f = IsFormSorted sorts f × EachSide (IsBuilt NoTerm) f

-- names that are declared so
abbrev pub AreDeclared : Sorts → List (ℕ × Sort) → Type 0
AreDeclared sorts names = Each (λ (d : ℕ × Sort). sorts d.0 ≡ Some d.1) names

-- names that are numbered are declared as they stand
numbered_from : (ds : List (ℕ × Sort)) (k : ℕ) → map (λ (d : ℕ × Sort). d.0) ds ≡ range_with_len k (length ds) →
    Each (λ (d : ℕ × Sort). (sort_of ds d.0 ≡ Some d.1) × (k ≤ d.0)) ds
numbered_from [] k e = tt
numbered_from (d ∷ ds) k e =
    let first : d.0 ≡ k = cc in
    let rest : map (λ (c : ℕ × Sort). c.0) ds ≡ range_with_len (k + 1) (length ds) = cc in (
      (ap (λ (b : Bool). if b then Some d.1 else sort_of ds d.0) (same d.0), omega (arith, first)),
      each_of_all (λ (c : ℕ × Sort). (sort_of ds c.0 ≡ Some c.1) × (k + 1 ≤ c.0))
          (λ (c : ℕ × Sort). (sort_of (d ∷ ds) c.0 ≡ Some c.1) × (k ≤ c.0))
          (λ (c : ℕ × Sort) (h : (sort_of ds c.0 ≡ Some c.1) × (k + 1 ≤ c.0)).
          (ap (λ (b : Bool). if b then Some d.1 else sort_of ds c.0) (other d.0 c.0 (omega (arith, first, h.1))) ∙ h.0, omega (arith, h.1)))
          ds (numbered_from ds (k + 1) rest),
    )
  where
    same : (n : ℕ) → (n == n) ≡ true
    same n = grind (arith, nat_tests)

    other : (m n : ℕ) → m < n → (m == n) ≡ false
    other m n less = grind (arith, nat_tests)

pub numbered_declared : (ds : List (ℕ × Sort)) → AreNumbered ds → AreDeclared (sort_of ds) ds
numbered_declared ds numbered =
    each_of_all (λ (d : ℕ × Sort). (sort_of ds d.0 ≡ Some d.1) × (0 ≤ d.0)) (λ (d : ℕ × Sort). sort_of ds d.0 ≡ Some d.1)
    (λ (d : ℕ × Sort) (h : (sort_of ds d.0 ≡ Some d.1) × (0 ≤ d.0)). h.0) ds (numbered_from ds 0 numbered)

module _ (sorts : Sorts) where
  abbrev Simple : Assertion → Type 0
  Simple f = IsSimpleForm sorts f

  slot_sorted : (x : ℕ) (sort : Sort) (c : Copy) → sorts x ≡ Some sort → HasSort sorts sort (Slot c x)
  slot_sorted x sort c e = (named_declared sorts x sort e, sort_is sorts x sort e)

  start_sorted : (x : ℕ) (sort : Sort) → sorts x ≡ Some sort → HasSort sorts sort (Start x)
  start_sorted x sort e = (named_declared sorts x sort e, sort_is sorts x sort e)

  -- what is made of each of a list
  all_made : {T : Type 0} (f : T → Assertion) → ((x : T) → Simple (f x)) → (xs : List T) → Each Simple (map f xs)
  all_made f h [] = tt
  all_made f h (x ∷ xs) = (h x, all_made f h xs)

  all_listed : {T : Type 0} (f : T → List Assertion) → ((x : T) → Each Simple (f x)) → (xs : List T) → Each Simple (flat_map f xs)
  all_listed f h [] = tt
  all_listed f h (x ∷ xs) = each_append Simple (f x) (flat_map f xs) (h x) (all_listed f h xs)

  -- two arrays at the index of the cell
  cells_simple : (t u : Tree) → HasSort sorts Arr t → HasSort sorts Arr u → IsBuilt NoTerm t → IsBuilt NoTerm u →
      Simple (equal_cells t u)
  cells_simple t u s r h g = ((((s.0, s.1, tt, refl), refl), ((r.0, r.1, tt, refl), refl)), ((h, tt), (g, tt)))

  copies_simple : (name : ℕ × Sort) → sorts name.0 ≡ Some name.1 → Each Simple (equal_copies name)
  copies_simple (x, Num) e =
      all_made (λ (p : Copy × Copy). Eq Num (Slot p.0 x) (Slot p.1 x))
      (λ (p : Copy × Copy). ((slot_sorted x Num p.0 e, slot_sorted x Num p.1 e), (tt, tt))) pairs
  copies_simple (x, Arr) e =
      each_append Simple (map (λ (p : Copy × Copy). Eq Arr (Slot p.0 x) (Slot p.1 x)) pairs)
      (map (λ (p : Copy × Copy). equal_cells (Slot p.0 x) (Slot p.1 x)) pairs)
      (all_made (λ (p : Copy × Copy). Eq Arr (Slot p.0 x) (Slot p.1 x))
      (λ (p : Copy × Copy). ((slot_sorted x Arr p.0 e, slot_sorted x Arr p.1 e), (tt, tt))) pairs)
      (all_made (λ (p : Copy × Copy). equal_cells (Slot p.0 x) (Slot p.1 x))
      (λ (p : Copy × Copy). cells_simple (Slot p.0 x) (Slot p.1 x) (slot_sorted x Arr p.0 e) (slot_sorted x Arr p.1 e) tt tt) pairs)

  place_built : (name : ℕ × Sort) (c : Copy) → IsBuilt NoTerm (place name c)
  place_built (x, Num) c = tt
  place_built (x, Arr) c = (tt, tt)

  goals_simple : (name : ℕ × Sort) → sorts name.0 ≡ Some name.1 → Each Simple (keeps_goals (place name))
  goals_simple name e =
      let at = λ (c : Copy). place_sorted sorts name.0 name.1 c e in
      let built = place_built name in (
        (((at O, at A), (at M, at A)), ((built O, built A), (built M, built A))),
        (
          (((at O, at B), (at M, at B)), ((built O, built B), (built M, built B))),
          (
            (((at O, at A), ((at A, at B), (at M, at O))), ((built O, built A), ((built A, built B), (built M, built O)))),
            tt,
          ),
        ),
      )

  unchanged_simple : (name : ℕ × Sort) → sorts name.0 ≡ Some name.1 → (c : Copy) → Each Simple (unchanged name c)
  unchanged_simple (x, Num) e c = (((slot_sorted x Num c e, start_sorted x Num e), (tt, tt)), tt)
  unchanged_simple (x, Arr) e c = (
    ((slot_sorted x Arr c e, start_sorted x Arr e), (tt, tt)),
    (cells_simple (Slot c x) (Start x) (slot_sorted x Arr c e) (start_sorted x Arr e) tt tt, tt),
  )

  shift_simple : (x : ℕ) (v : ℤ) (c d : Copy) → sorts x ≡ Some Num → Simple (Eq Num (Slot d x) (Add (Slot c x) (Lit v)))
  shift_simple x v c d e =
      let of_c = slot_sorted x Num c e in
      ((slot_sorted x Num d e, ((of_c.0, of_c.1, tt, refl), refl)), (tt, (tt, tt)))

  apart_simple : (x : ℕ) → sorts x ≡ Some Num → (p : Copy × Copy) (v : ℤ) → Each Simple (apart_by x p v)
  apart_simple x e (c, d) v = (shift_simple x v c d e, (shift_simple x v d c e, tt))

  shifted_simple : (literals : List ℤ) (name : ℕ × Sort) → sorts name.0 ≡ Some name.1 → Each Simple (shifted literals name)
  shifted_simple literals (x, Num) e =
      all_listed (λ (p : Copy × Copy). flat_map (apart_by x p) literals)
      (λ (p : Copy × Copy). all_listed (apart_by x p) (apart_simple x e p) literals) pairs
  shifted_simple literals (x, Arr) e = tt

  name_simple : (literals : List ℤ) (name : ℕ × Sort) → sorts name.0 ≡ Some name.1 → Each Simple (name_templates literals name)
  name_simple literals name e =
      let goals = keeps_goals (place name) in
      let before = flat_map (unchanged name) copies in
      each_append Simple (equal_copies name ++ goals ++ before) (shifted literals name)
      (each_append Simple (equal_copies name ++ goals) before
      (each_append Simple (equal_copies name) goals (copies_simple name e) (goals_simple name e))
      (all_listed (unchanged name) (unchanged_simple name e) copies))
      (shifted_simple literals name e)

  names_simple : (literals : List ℤ) (names : List (ℕ × Sort)) → AreDeclared sorts names →
      Each Simple (flat_map (name_templates literals) names)
  names_simple literals [] all = tt
  names_simple literals (name ∷ names) all =
      each_append Simple (name_templates literals name) (flat_map (name_templates literals) names) (name_simple literals name all.0)
      (names_simple literals names all.1)

  -- the term of an expression over a copy's slots
  slots_sorted : (e : Expression) (c : Copy) → IsWellSortedExpression sorts e → HasSort sorts Num (term_of e (slots c))
  slots_sorted (syntax.Lit z) c w = (tt, refl)
  slots_sorted (syntax.Var x) c w = slot_sorted x Num c w
  slots_sorted (syntax.Read a i) c w =
      let array = slot_sorted a Arr c w.0 in
      let index = slots_sorted i c w.1 in
      ((array.0, array.1, index.0, index.1), refl)
  slots_sorted (syntax.Neg e) c w = (slots_sorted e c w, refl)
  slots_sorted (syntax.Plus d e) c w =
      let one = slots_sorted d c w.0 in
      let other = slots_sorted e c w.1 in
      ((one.0, one.1, other.0, other.1), refl)
  slots_sorted (syntax.Minus d e) c w =
      let one = slots_sorted d c w.0 in
      let other = slots_sorted e c w.1 in
      ((one.0, one.1, other.0, other.1), refl)
  slots_sorted (syntax.Times d e) c w =
      let one = slots_sorted d c w.0 in
      let other = slots_sorted e c w.1 in
      ((one.0, one.1, other.0, other.1), refl)

  slots_built : (e : Expression) (c : Copy) → IsBuilt NoTerm (term_of e (slots c))
  slots_built (syntax.Lit z) c = tt
  slots_built (syntax.Var x) c = tt
  slots_built (syntax.Read a i) c = (tt, slots_built i c)
  slots_built (syntax.Neg e) c = slots_built e c
  slots_built (syntax.Plus d e) c = (slots_built d c, slots_built e c)
  slots_built (syntax.Minus d e) c = (slots_built d c, slots_built e c)
  slots_built (syntax.Times d e) c = (slots_built d c, slots_built e c)

  next_sorted : (t : Tree) → HasSort sorts Num t → HasSort sorts Num (next_to t)
  next_sorted t h = ((h.0, h.1, tt, refl), refl)

  weaker_simple : (op : Cmp) (t u : Tree) → HasSort sorts Num t → HasSort sorts Num u → IsBuilt NoTerm t → IsBuilt NoTerm u →
      Each Simple (weaker op t u)
  weaker_simple cmp.Eq t u s r h g = tt
  weaker_simple cmp.Ne t u s r h g = tt
  weaker_simple cmp.Lt t u s r h g = (((s, r), (h, g)), tt)
  weaker_simple cmp.Le t u s r h g = (((s, next_sorted u r), (h, (g, tt))), tt)
  weaker_simple cmp.Gt t u s r h g = (((r, s), (g, h)), tt)
  weaker_simple cmp.Ge t u s r h g = (((r, next_sorted t s), (g, (h, tt))), tt)

  guard_simple : (b : Condition) (c : Copy) → IsWellSortedCondition sorts b → Each Simple (guard_templates b c)
  guard_simple syntax.Yes c w = tt
  guard_simple syntax.No c w = tt
  guard_simple (syntax.Compare op d e) c w =
      weaker_simple op (term_of d (slots c)) (term_of e (slots c)) (slots_sorted d c w.0) (slots_sorted e c w.1) (slots_built d c)
      (slots_built e c)
  guard_simple (syntax.Not b) c w = guard_simple b c w
  guard_simple (syntax.And a b) c w =
      each_append Simple (guard_templates a c) (guard_templates b c) (guard_simple a c w.0) (guard_simple b c w.1)
  guard_simple (syntax.Or a b) c w =
      each_append Simple (guard_templates a c) (guard_templates b c) (guard_simple a c w.0) (guard_simple b c w.1)

  -- the templates of names that code writes
  written_simple : (t : Parts) (code : Copy → Code) → AreDeclared sorts t.declared → Each Simple (written_templates t code)
  written_simple t code all =
      names_simple (literals_of t) (names_written t.declared code)
      (each_of_all (λ (d : ℕ × Sort). (is_written code d.0 ≡ true) × (sorts d.0 ≡ Some d.1)) (λ (d : ℕ × Sort). sorts d.0 ≡ Some d.1)
      (λ (d : ℕ × Sort) (h : (is_written code d.0 ≡ true) × (sorts d.0 ≡ Some d.1)). h.1) (names_written t.declared code)
      (each_filter (λ (d : ℕ × Sort). sorts d.0 ≡ Some d.1) (λ (d : ℕ × Sort). is_written code d.0) t.declared all))

  -- those of a block
  pub block_simple : (t : Parts) (code : Copy → Code) → AreDeclared sorts t.declared → Each Simple (block_templates t code)
  block_simple t code all = each_distinct Simple same_formula (written_templates t code) (written_simple t code all)

  -- those of loops whose guards are well sorted
  pub loops_simple : (t : Parts) (set : Copies) (code : Copy → Code) → AreDeclared sorts t.declared →
      ((c : Copy) → IsWellSortedCondition sorts (loop_guard (code c))) → Each Simple (loop_templates t set code)
  loops_simple t set code all well =
      let of_names = written_templates t (only_in set (λ (c : Copy). loop_body (code c))) in
      let of_guards = flat_map (λ (c : Copy). guard_templates (loop_guard (code c)) c) (members set) in
      each_distinct Simple same_formula (of_names ++ of_guards)
      (each_append Simple of_names of_guards (written_simple t (only_in set (λ (c : Copy). loop_body (code c))) all)
      (all_listed (λ (c : Copy). guard_templates (loop_guard (code c)) c)
      (λ (c : Copy). guard_simple (loop_guard (code c)) c (well c)) (members set)))

  -- a conjunction of such formulas
  halved_simple : (n : ℕ) (fs : List Assertion) → Each Simple fs → Simple (halved n fs)
  halved_simple zero fs h = (tt, tt)
  halved_simple (suc n) [] h = (tt, tt)
  halved_simple (suc n) (f ∷ []) h = h.0
  halved_simple (suc n) (f ∷ g ∷ rest) h =
      let fs = f ∷ g ∷ rest in
      let half = length fs / 2 in
      let front = halved_simple n (take half fs) (each_take Simple half fs h) in
      let back = halved_simple n (drop half fs) (each_drop Simple half fs h) in
      ((front.0, back.0), (front.1, back.1))

  -- what a site keeps of them
  pub kept_simple : (choice : Choice) (s : ℕ) (ts : List Assertion) → Each Simple ts → Simple (kept_by choice s ts)
  kept_simple choice s ts h =
      let fs = picked ts (chosen_at choice s) in halved_simple (length fs) fs (each_picked Simple ts (chosen_at choice s) h)
