-- The sketch of a task fits its programs, where its fillings have no hole, and so its plans have obligations.
use Rattle.sm_product.proofs.Imports.{◌≡◌, ℕ, Bool, true, false, not, ◌&&◌, ◌||◌, if◌then◌else◌, refl, ap, sym, ◌∙◌, subst, arith, list_any, Condition, Code, End, Skip, Assign, Write, If, While, Hole, append, filling, fill, Copy, O, A, B, M, program_of, Parts, task_of, append-End, Copies, has, no_copies, is_inhabited, is_shallow, Step, Abs, Deep, branches, expand, obligations, is_long, front, rest_after, is_loop, loop_body, start_state, has_that, is_simple, has_hole, has_fork, own_statements, all_copies, members, without, only_in, is_shared, moved_on, own_long, own_front, own_rest, uninhabited, IsWithin, block_templates, loop_templates, Choice, kept_by, ends, each_of, apart, sites_of, HaveNoHole, AreKept, statements_left, side_by_side, plan_of, where_any, forked, branched, product_if, product_while, filled, product, sketch_of}
use Rattle.std.proofs.Common.{Err}
use Rattle.sm_syntax.proofs.Appends.{append_assoc}
use Rattle.sm_sketch.specs.Sketches.{Sketch}
use Rattle.sm_product.proofs.DrawingLemmas.{steps_fit, summaries_fit, looped_fits, apart_fits, ends_fit}
use Rattle.sm_product.proofs.FitsLemmas.{Fits, fits_same, bodies_left, IsExpanded, expanded}
use Rattle.sm_product.proofs.ForksLemmas.{ifs_of, blocks_of, forks_fit}
use Rattle.sm_product.proofs.MiniLemmas.{then_tail, mini_fits}
use Rattle.sm_product.proofs.SmallerLemmas.{IsRest}

-- the code of a set's copies, and then what is left of each copy
abbrev pub before : Copies → (Copy → Code) → (Copy → Code) → Copy → Code
before set code tail d = if has set d then append (code d) (tail d) else tail d

-- nothing
abbrev nothing : Copy → Code
nothing c = End

-- what is so of the code of a copy in a set
in_set : (P : Code → Type 0) (set : Copies) (code tail : Copy → Code) (c : Copy) → has set c ≡ true → P (append (code c) (tail c)) →
    P (before set code tail c)
in_set P set code tail c e h = subst (λ (b : Bool). P (if b then append (code c) (tail c) else tail c)) (sym e) h

-- the first statement is done where it stands before the rest
moved_before : (b : Bool) (x y z : Code) → rest_after 1 x ≡ y →
    (if b then y else z) ≡ (if b then rest_after 1 (if b then x else z) else (if b then x else z))
moved_before true x y z e = sym e
moved_before false x y z e = refl

-- what is drawn for the copies of a set that some are in
any_fits : (set : Copies) (code tail : Copy → Code) (draw : Copies → Sketch → Sketch) (next : Sketch) →
    (is_inhabited set ≡ true → Fits (draw set next) (before set code tail)) → Fits next tail →
    Fits (where_any set draw next) (before set code tail)
any_fits set code tail draw next some h = by (is_inhabited set) refl
  where
    by : (b : Bool) → is_inhabited set ≡ b → Fits (if b then draw set next else next) (before set code tail)
    by true e = some e
    by false e =
        fits_same next tail (before set code tail)
        (λ (d : Copy). sym (ap (λ (x : Bool). if x then append (code d) (tail d) else tail d) (uninhabited set e d))) h

-- one statement of each copy, and more
module _ (set : Copies) (stmt later tail : Copy → Code) (next : Sketch)
    (same : (d : Copy) → rest_after 1 (append (stmt d) (tail d)) ≡ append (later d) (tail d)) (h : Fits next (before set later tail)) where
  moved_fits : Fits next (moved_on set (before set stmt tail))
  moved_fits =
      fits_same next (before set later tail) (moved_on set (before set stmt tail))
      (λ (d : Copy). moved_before (has set d) (append (stmt d) (tail d)) (append (later d) (tail d)) (tail d) (same d)) h

  step_each : ((d : Copy) → is_simple (append (stmt d) (tail d)) ≡ true) → Fits (each_of Step (members set) next) (before set stmt tail)
  step_each simple =
      steps_fit set next (before set stmt tail)
      (λ (c : Copy) (e : has set c ≡ true). in_set (λ (x : Code). is_simple x ≡ true) set stmt tail c e (simple c)) moved_fits

  summarize_each : ((d : Copy) → is_long 1 (append (stmt d) (tail d)) ≡ true) →
      Fits (each_of (λ (c : Copy). Abs c 1) (members set) next) (before set stmt tail)
  summarize_each long =
      summaries_fit set next (before set stmt tail)
      (λ (c : Copy) (e : has set c ≡ true). in_set (λ (x : Code). is_long 1 x ≡ true) set stmt tail c e (long c)) moved_fits

-- what an if of the shared code draws
module _ (t : Parts) (set : Copies) (guard : Condition) (one other later tail : Copy → Code) (first second : Copies → Sketch → Sketch)
    (first_fits : (u : Copies) (next : Sketch) (rest : Copy → Code) → is_inhabited u ≡ true → Fits next rest →
    Fits (first u next) (before u one rest))
    (second_fits : (u : Copies) (next : Sketch) (rest : Copy → Code) → is_inhabited u ≡ true → Fits next rest →
    Fits (second u next) (before u other rest))
    (next : Sketch) (h : Fits next (before set later tail)) where
  abbrev if_of : Copy → Code
  if_of d = If guard (one d) (other d) (later d)

  -- the second block of those that don't take the first
  second_part : (T : Copies) → Fits (where_any (without set T) second ends) (before (without set T) other nothing)
  second_part T =
      any_fits (without set T) other nothing second ends
      (λ (some : is_inhabited (without set T) ≡ true). second_fits (without set T) ends nothing some ends_fit) ends_fit

  branched_fits : (T : Copies) → Fits (branched first second set T) (blocks_of one other set T)
  branched_fits T =
      fits_same (branched first second set T) (before T one (before (without set T) other nothing)) (blocks_of one other set T) same
      (any_fits T one (before (without set T) other nothing) first (where_any (without set T) second ends)
      (λ (some : is_inhabited T ≡ true). first_fits T (where_any (without set T) second ends)
      (before (without set T) other nothing) some (second_part T))
      (second_part T))
    where
      by : (d : Copy) (b c : Bool) → (has set d && not b) ≡ c →
          (if b then append (one d) (if c then append (other d) End else End) else (if c then append (other d) End else End))
          ≡ (if b then append (one d) End else if c then append (other d) End else End)
      by d true true e = absurd (not_so (has set d) e)
        where
          not_so : (x : Bool) → (x && false) ≡ true → ⊥
          not_so true g = absurd cc
          not_so false g = absurd cc
      by d true false e = refl
      by d false c e = refl

      same : (d : Copy) → before T one (before (without set T) other nothing) d ≡ blocks_of one other set T d
      same d = by d (has T d) (has (without set T) d) (sym (has_that (λ (c : Copy). has set c && not (has T c)) d))

  abbrev counts : Copy → ℕ
  counts c = if has set c then 1 else 0

  if_fits : (b : Bool) (code : Copy → Code) → Fits (product_if t b code first second set next) (before set if_of tail)
  if_fits false code = summarize_each set if_of later tail next (λ (d : Copy). refl) h (λ (d : Copy). refl)
  if_fits true code =
      apart_fits (block_templates t (only_in set code)) counts (forked (branched first second set) (members set) no_copies) next
      (before set if_of tail) (λ (c : Copy). long c (has set c))
      (fits_same (forked (branched first second set) (members set) no_copies) (ifs_of (λ (c : Copy). guard) one other set)
      (λ (c : Copy). front (counts c) (before set if_of tail c)) (λ (c : Copy). inside c (has set c))
      (forks_fit (λ (c : Copy). guard) one other (branched first second set) set branched_fits))
      (fits_same next (before set later tail) (λ (c : Copy). rest_after (counts c) (before set if_of tail c))
      (λ (c : Copy). behind c (has set c)) h)
    where
      long : (c : Copy) (b : Bool) → is_long (if b then 1 else 0) (if b then append (if_of c) (tail c) else tail c) ≡ true
      long c true = refl
      long c false = refl

      inside : (c : Copy) (b : Bool) → (if b then If guard (one c) (other c) End else End)
          ≡ front (if b then 1 else 0) (if b then append (if_of c) (tail c) else tail c)
      inside c true = refl
      inside c false = refl

      behind : (c : Copy) (b : Bool) → (if b then append (later c) (tail c) else tail c)
          ≡ rest_after (if b then 1 else 0) (if b then append (if_of c) (tail c) else tail c)
      behind c true = refl
      behind c false = refl

-- what a loop of the shared code draws
module _ (t : Parts) (set : Copies) (some : is_inhabited set ≡ true) (guard : Condition) (inside later tail : Copy → Code)
    (body : Copies → Sketch → Sketch)
    (body_fits : (u : Copies) (next : Sketch) (rest : Copy → Code) → is_inhabited u ≡ true → Fits next rest →
    Fits (body u next) (before u inside rest))
    (next : Sketch) (h : Fits next (before set later tail)) where
  abbrev while_of : Copy → Code
  while_of d = While guard (inside d) (later d)

  turn_fits : (v : Copies) → is_inhabited v ≡ true → IsWithin v set → Fits (body v ends) (bodies_left (before set while_of tail) v)
  turn_fits v any within =
      fits_same (body v ends) (before v inside nothing) (bodies_left (before set while_of tail) v) (λ (d : Copy). by d (has v d) refl)
      (body_fits v ends nothing any ends_fit)
    where
      by : (d : Copy) (b : Bool) → has v d ≡ b →
          (if b then append (inside d) End else End) ≡ (if b then loop_body (before set while_of tail d) else End)
      by d true e = in_set (λ (x : Code). append (inside d) End ≡ loop_body x) set while_of tail d (within d e) (append-End (inside d))
      by d false e = refl

  while_fits : (b : Bool) (code : Copy → Code) → Fits (product_while t b code body set next) (before set while_of tail)
  while_fits false code = summarize_each set while_of later tail next (λ (d : Copy). refl) h (λ (d : Copy). refl)
  while_fits true code =
      looped_fits (loop_templates t set code) set (λ (v : Copies). body v ends) next (before set while_of tail) some
      (λ (c : Copy) (e : has set c ≡ true). in_set (λ (x : Code). is_loop x ≡ true) set while_of tail c e refl) turn_fits
      (moved_fits set while_of later tail next (λ (d : Copy). refl) h)

-- what a hole draws
module _ (t : Parts) (set : Copies) (code later tail : Copy → Code) (no_hole : (c : Copy) → has_hole (code c) ≡ false)
    (next : Sketch) (h : Fits next (before set later tail)) where
  abbrev inside : Copy → Code
  inside = only_in set code

  inside_no_hole : (d : Copy) → has_hole (inside d) ≡ false
  inside_no_hole d = by (has set d)
    where
      by : (b : Bool) → has_hole (if b then code d else End) ≡ false
      by true = no_hole d
      by false = refl

  inside_outside : (d : Copy) → has set d ≡ false → inside d ≡ End
  inside_outside d e = ap (λ (b : Bool). if b then code d else End) e

  inside_is : IsRest set inside (statements_left inside)
  inside_is = record { no_hole = inside_no_hole; outside = inside_outside; enough = omega arith }

  side_fits : (after : Sketch) (rest : Copy → Code) → Fits after rest → Fits (side_by_side t set inside after) (then_tail inside rest)
  side_fits after rest g = mini_fits t (statements_left inside) set inside after rest inside_is g

  -- the fillings, and then the rest
  same_whole : (d : Copy) → then_tail inside (before set later tail) d ≡ before set (λ (c : Copy). append (code c) (later c)) tail d
  same_whole d = by (has set d)
    where
      by : (b : Bool) → append (if b then code d else End) (if b then append (later d) (tail d) else tail d)
          ≡ (if b then append (append (code d) (later d)) (tail d) else tail d)
      by true = sym (append_assoc (code d) (later d) (tail d))
      by false = refl

  hole_fits : Fits (filled t set inside next) (before set (λ (c : Copy). append (code c) (later c)) tail)
  hole_fits =
      fits_same (filled t set inside next) (then_tail inside (before set later tail))
      (before set (λ (c : Copy). append (code c) (later c)) tail) same_whole
      (by (not (is_shared set inside) && list_any (λ (c : Copy). has_fork (inside c)) (members set)))
    where
      by : (b : Bool) → Fits (if b
          then apart (block_templates t inside) (λ (c : Copy). own_statements (inside c)) (side_by_side t set inside ends) next
          else side_by_side t set inside next) (then_tail inside (before set later tail))
      by true =
          apart_fits (block_templates t inside) (λ (c : Copy). own_statements (inside c)) (side_by_side t set inside ends) next
          (then_tail inside (before set later tail))
          (λ (c : Copy). own_long (inside c) (before set later tail c))
          (fits_same (side_by_side t set inside ends) (then_tail inside nothing)
          (λ (c : Copy). front (own_statements (inside c)) (then_tail inside (before set later tail) c))
          (λ (c : Copy). append-End (inside c) ∙ sym (own_front (inside c) (before set later tail c)))
          (side_fits ends nothing ends_fit))
          (fits_same next (before set later tail)
          (λ (c : Copy). rest_after (own_statements (inside c)) (then_tail inside (before set later tail) c))
          (λ (c : Copy). sym (own_rest (inside c) (before set later tail c))) h)
      by false = side_fits next (before set later tail) h

-- the product of a set fits its filled code, and then the rest
pub product_fits : (t : Parts) → HaveNoHole t → (c : Code) (set : Copies) (next : Sketch) (tail : Copy → Code) → is_inhabited set ≡ true →
    Fits next tail → Fits (product t c set next) (before set (λ (p : Copy). fill (t.fillings p) c) tail)
product_fits t none End set next tail some h =
    fits_same next tail (before set nothing tail) (λ (d : Copy). by d (has set d)) h
  where
    by : (d : Copy) (b : Bool) → tail d ≡ (if b then append End (tail d) else tail d)
    by d true = refl
    by d false = refl
product_fits t none (Skip k) set next tail some h =
    step_each set (λ (p : Copy). fill (t.fillings p) (Skip k)) (λ (p : Copy). fill (t.fillings p) k) tail (product t k set next)
    (λ (d : Copy). refl) (product_fits t none k set next tail some h) (λ (d : Copy). refl)
product_fits t none (Assign x e k) set next tail some h =
    step_each set (λ (p : Copy). fill (t.fillings p) (Assign x e k)) (λ (p : Copy). fill (t.fillings p) k) tail (product t k set next)
    (λ (d : Copy). refl) (product_fits t none k set next tail some h) (λ (d : Copy). refl)
product_fits t none (Write a i e k) set next tail some h =
    step_each set (λ (p : Copy). fill (t.fillings p) (Write a i e k)) (λ (p : Copy). fill (t.fillings p) k) tail (product t k set next)
    (λ (d : Copy). refl) (product_fits t none k set next tail some h) (λ (d : Copy). refl)
product_fits t none (If b c d k) set next tail some h =
    if_fits t set b (λ (p : Copy). fill (t.fillings p) c) (λ (p : Copy). fill (t.fillings p) d) (λ (p : Copy). fill (t.fillings p) k) tail
    (product t c) (product t d) (product_fits t none c) (product_fits t none d) (product t k set next)
    (product_fits t none k set next tail some h) (has_hole c || has_hole d) (λ (p : Copy). fill (t.fillings p) (If b c d End))
product_fits t none (While b c k) set next tail some h =
    while_fits t set some b (λ (p : Copy). fill (t.fillings p) c) (λ (p : Copy). fill (t.fillings p) k) tail
    (product t c) (product_fits t none c) (product t k set next)
    (product_fits t none k set next tail some h) (has_hole c) (λ (p : Copy). fill (t.fillings p) (While b c End))
product_fits t none (Hole n k) set next tail some h =
    hole_fits t set (λ (c : Copy). filling (t.fillings c) n) (λ (p : Copy). fill (t.fillings p) k) tail (λ (c : Copy). none c n)
    (product t k set next) (product_fits t none k set next tail some h)

-- the sketch of a task fits its programs
pub sketch_fits : (t : Parts) → HaveNoHole t → Fits (sketch_of t) (program_of (task_of t))
sketch_fits t none =
    fits_same (sketch_of t) (before all_copies (λ (p : Copy). fill (t.fillings p) t.shared) nothing) (program_of (task_of t)) same
    (product_fits t none t.shared all_copies ends nothing refl ends_fit)
  where
    same : (d : Copy) → before all_copies (λ (p : Copy). fill (t.fillings p) t.shared) nothing d ≡ program_of (task_of t) d
    same O = append-End (fill (t.fillings O) t.shared)
    same A = append-End (fill (t.fillings A) t.shared)
    same B = append-End (fill (t.fillings B) t.shared)
    same M = append-End (fill (t.fillings M) t.shared)

-- a plan has obligations where it is shallow and its kept formulas are within their limits
pub plan_expands : (t : Parts) (choice : Choice) → HaveNoHole t → is_shallow (branches (plan_of t choice)) ≡ true →
    AreKept (kept_by choice) 0 (sites_of (sketch_of t)) → IsExpanded (obligations (task_of t) (plan_of t choice))
plan_expands t choice none shallow kept =
    subst (λ (b : Bool). IsExpanded (if b then expand 0 (start_state (task_of t)) (plan_of t choice) else Err Deep)) (sym shallow)
    (expanded (sketch_of t) (kept_by choice) 0 0 (start_state (task_of t)) (sketch_fits t none) kept)
