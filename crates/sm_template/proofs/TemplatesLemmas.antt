-- What holds of each kind of template holds of each template of a block and of loops.
use Rattle.sm_template.proofs.Imports.{ℕ, zero, suc, Bool, true, false, if◌then◌else◌, ℤ, List, [], ◌∷◌, ◌++◌, map, take, drop, fold, list_any, flat_map, Sort, Num, Arr, Expression, Condition, Compare, Not, Code, Cmp, Copy, Parts, Lit, Start, Slot, Add, Assertion, Eq, term_of, Copies, copies, place, keeps_goals, loop_guard, loop_body, only_in, with_new, distinct, slots, weaker, guard_templates, literals_of, same_formula, equal_cells, equal_copies, unchanged, apart_by, shifted, name_templates, written_templates, block_templates, loop_templates, names_written}
use Rattle.sm_syntax.specs.claim.Syntax.{Yes, No, And, Or}
use Rattle.sm_moves.specs.CopySets.{members, pairs}
use Rattle.sm_moves.proofs.SetsLemmas.{Each, each_append, each_map, each_flat_map}

-- what holds of all things holds of each of a list
each_any : {T : Type 0} (P : T → Type 0) → ((x : T) → P x) → (xs : List T) → Each P xs
each_any P h [] = tt
each_any P h (x ∷ xs) = (h x, each_any P h xs)

-- of each of the list without repeats
each_new : {T : Type 0} (P : T → Type 0) (same : T → T → Bool) (xs seen : List T) → Each P xs → Each P seen →
    Each P (fold (with_new same) seen xs)
each_new P same [] seen h g = g
each_new {T} P same (x ∷ xs) seen h g = each_new P same xs (with_new same seen x) h.1 (by (list_any (same x) seen))
  where
    by : (b : Bool) → Each P (if b then seen else seen ++ x ∷ [])
    by true = g
    by false = each_append P seen (x ∷ []) g (h.0, tt)

pub each_distinct : {T : Type 0} (P : T → Type 0) (same : T → T → Bool) (xs : List T) → Each P xs → Each P (distinct same xs)
each_distinct P same xs h = each_new P same xs [] h tt

-- of each of a part of a list
pub each_take : {T : Type 0} (P : T → Type 0) (n : ℕ) (xs : List T) → Each P xs → Each P (take n xs)
each_take P zero [] h = tt
each_take P zero (x ∷ xs) h = tt
each_take P (suc n) [] h = tt
each_take P (suc n) (x ∷ xs) h = (h.0, each_take P n xs h.1)

pub each_drop : {T : Type 0} (P : T → Type 0) (n : ℕ) (xs : List T) → Each P xs → Each P (drop n xs)
each_drop P zero [] h = h
each_drop P zero (x ∷ xs) h = h
each_drop P (suc n) [] h = tt
each_drop P (suc n) (x ∷ xs) h = each_drop P n xs h.1

-- what holds of each kind of template
pub record HoldsOfTemplates (P : Assertion → Type 0) : Type 0 where
  pub of_equal : (sort : Sort) (x : ℕ) (c d : Copy) → P (Eq sort (Slot c x) (Slot d x))
  pub of_cells : (x : ℕ) (c d : Copy) → P (equal_cells (Slot c x) (Slot d x))
  pub of_goals : (name : ℕ × Sort) → Each P (keeps_goals (place name))
  pub of_start : (sort : Sort) (x : ℕ) (c : Copy) → P (Eq sort (Slot c x) (Start x))
  pub of_start_cell : (x : ℕ) (c : Copy) → P (equal_cells (Slot c x) (Start x))
  pub of_shift : (x : ℕ) (c d : Copy) (v : ℤ) → P (Eq Num (Slot d x) (Add (Slot c x) (Lit v)))
  pub of_guard : (op : Cmp) (d e : Expression) (c : Copy) → Each P (weaker op (term_of d (slots c)) (term_of e (slots c)))

module _ (P : Assertion → Type 0) (of : HoldsOfTemplates P) where
  -- what is made of each of a list
  of_map : {T : Type 0} (f : T → Assertion) → ((x : T) → P (f x)) → (xs : List T) → Each P (map f xs)
  of_map f h xs = each_map P f xs (each_any (λ x. P (f x)) h xs)

  of_lists : {T : Type 0} (f : T → List Assertion) → ((x : T) → Each P (f x)) → (xs : List T) → Each P (flat_map f xs)
  of_lists f h xs = each_flat_map P f xs (each_any (λ x. Each P (f x)) h xs)

  of_copies : (name : ℕ × Sort) → Each P (equal_copies name)
  of_copies (x, Num) =
      of_map (λ (p : Copy × Copy). Eq Num (Slot p.0 x) (Slot p.1 x)) (λ (p : Copy × Copy). of.of_equal Num x p.0 p.1) pairs
  of_copies (x, Arr) =
      each_append P (map (λ (p : Copy × Copy). Eq Arr (Slot p.0 x) (Slot p.1 x)) pairs)
      (map (λ (p : Copy × Copy). equal_cells (Slot p.0 x) (Slot p.1 x)) pairs)
      (of_map (λ (p : Copy × Copy). Eq Arr (Slot p.0 x) (Slot p.1 x)) (λ (p : Copy × Copy). of.of_equal Arr x p.0 p.1) pairs)
      (of_map (λ (p : Copy × Copy). equal_cells (Slot p.0 x) (Slot p.1 x)) (λ (p : Copy × Copy). of.of_cells x p.0 p.1) pairs)

  of_unchanged : (name : ℕ × Sort) (c : Copy) → Each P (unchanged name c)
  of_unchanged (x, Num) c = (of.of_start Num x c, tt)
  of_unchanged (x, Arr) c = (of.of_start Arr x c, (of.of_start_cell x c, tt))

  of_apart : (x : ℕ) (p : Copy × Copy) (v : ℤ) → Each P (apart_by x p v)
  of_apart x (c, d) v = (of.of_shift x c d v, (of.of_shift x d c v, tt))

  of_shifted : (literals : List ℤ) (name : ℕ × Sort) → Each P (shifted literals name)
  of_shifted literals (x, Num) =
      of_lists (λ (p : Copy × Copy). flat_map (apart_by x p) literals)
      (λ (p : Copy × Copy). of_lists (apart_by x p) (of_apart x p) literals) pairs
  of_shifted literals (x, Arr) = tt

  of_name : (literals : List ℤ) (name : ℕ × Sort) → Each P (name_templates literals name)
  of_name literals name =
      let goals = keeps_goals (place name) in
      let before = flat_map (unchanged name) copies in
      each_append P (equal_copies name ++ goals ++ before) (shifted literals name)
      (each_append P (equal_copies name ++ goals) before
      (each_append P (equal_copies name) goals (of_copies name) (of.of_goals name))
      (of_lists (unchanged name) (of_unchanged name) copies))
      (of_shifted literals name)

  of_condition : (b : Condition) (c : Copy) → Each P (guard_templates b c)
  of_condition Yes c = tt
  of_condition No c = tt
  of_condition (Compare op d e) c = of.of_guard op d e c
  of_condition (Not b) c = of_condition b c
  of_condition (And a b) c = each_append P (guard_templates a c) (guard_templates b c) (of_condition a c) (of_condition b c)
  of_condition (Or a b) c = each_append P (guard_templates a c) (guard_templates b c) (of_condition a c) (of_condition b c)

  of_written : (t : Parts) (code : Copy → Code) → Each P (written_templates t code)
  of_written t code = of_lists (name_templates (literals_of t)) (of_name (literals_of t)) (names_written t.declared code)

  -- each template of a block and of loops
  pub of_block_templates : (t : Parts) (code : Copy → Code) → Each P (block_templates t code)
  of_block_templates t code = each_distinct P same_formula (written_templates t code) (of_written t code)

  pub of_loop_templates : (t : Parts) (set : Copies) (code : Copy → Code) → Each P (loop_templates t set code)
  of_loop_templates t set code =
      let of_names = written_templates t (only_in set (λ (c : Copy). loop_body (code c))) in
      let of_guards = flat_map (λ (c : Copy). guard_templates (loop_guard (code c)) c) (members set) in
      each_distinct P same_formula (of_names ++ of_guards)
      (each_append P of_names of_guards (of_written t (only_in set (λ (c : Copy). loop_body (code c))))
      (of_lists (λ (c : Copy). guard_templates (loop_guard (code c)) c) (λ (c : Copy). of_condition (loop_guard (code c)) c) (members set)))
