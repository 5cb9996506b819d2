-- What is drawn for the parts of shared code, put together.
use Rattle.sm_product.proofs.Imports.{◌≡◌, ◌≤◌, ◌<◌, ◌+◌, ◌-◌, ◌==◌, ◌||◌, ℕ, zero, suc, bit_and, true, List, [], ◌∷◌, map, take, drop, length, get_or, inl, inr, refl, sym, ap, ◌∙◌, subst, arith, filter, range_with_len, take_more, fun_ext, Copy, filling, fill, Condition, Code, End, If, While, Hole, append, PerCopy, Parts, Sorts, IsWellSorted, statement_of, Stmt, append-End, fill-append, statement_is, sequence_then, sequence-push, Assertion, TableValue, trees_in, sorts_in, Copies, subsets, set_of, code_before, In, in_map, in_filter, front_well, rest_well, masked, has_hole, own_statements, piece_of, AreFilledAs, first_inside, second_inside, own_front, own_rest, TellsSketch, ProductError, sketch_in, IsSketchReady, IsDrawn, product_if, product_while, product}
use Rattle.std.proofs.Common.{Result, Ok, Err, eq-eqb}
use Rattle.std.specs.Prelude.{IfOk, IfErr, IsErrAnd}
use Rattle.sm_syntax.proofs.Appends.{append_assoc}
use Rattle.sm_deps.proofs.NeededLemmas.{sequence-before}
use Rattle.sm_sketch.specs.declared.error.ProductError.TheVariants as error
use Rattle.sm_sketch.specs.Sketches as plain
use Rattle.sm_sketch.specs.declared.sketch.Sketch.{Sketch}
use Rattle.sm_product.proofs.GrowthLemmas.{IsNoLarger, part_large, after_product, turn_of_loop}
use Rattle.sm_product.proofs.ProductAppends.{product-append}
use denote.Bor.{Bor}

-- an error that tells of a part tells of the whole
pub tells_whole : (e : ProductError) (p whole : plain.Sketch) → IsNoLarger p whole → TellsSketch e p → TellsSketch e whole
tells_whole error.TooMany p whole h told = part_large p whole h told
tells_whole error.Memory p whole h told = tt

-- what is drawn, clause by clause
pub drawn_by : (v : TableValue) (p : plain.Sketch) (r : Result Sketch ProductError) →
    IfOk r (λ (s : Sketch). sketch_in (sorts_in v) (trees_in v) s ≡ p) → IfOk r (IsSketchReady (sorts_in v) (trees_in v)) →
    IfErr r (λ (e : ProductError). TellsSketch e p) → IsDrawn v p r
drawn_by v p (Ok s) made ready told = (made, ready)
drawn_by v p (Err e) made ready told = told

pub drawn_same : (v : TableValue) (p q : plain.Sketch) (r : Result Sketch ProductError) → p ≡ q → IsDrawn v p r → IsDrawn v q r
drawn_same v p q r e h = subst (λ (x : plain.Sketch). IsDrawn v x r) e h

-- an error that is handed on
pub drawn_fault : (v : TableValue) (p : plain.Sketch) (r : Result Sketch ProductError) (x : ProductError) →
    IsErrAnd r (λ (e : ProductError). e ≡ x) → TellsSketch x p → IsDrawn v p r
drawn_fault v p (Ok s) x h told = absurd h
drawn_fault v p (Err e) x h told = subst (λ (f : ProductError). TellsSketch f p) (sym h) told

pub err_is : {T : Type 0} (P : ProductError → Type 0) (r : Result T ProductError) (x : ProductError) →
    IsErrAnd r (λ (e : ProductError). e ≡ x) → P x → IfErr r P
err_is P (Ok t) x h p = tt
err_is P (Err e) x h p = subst P (sym h) p

-- nodes over parts
pub apart_drawn : (w : TableValue) (ts us : List Assertion) (ks ms : Copy → ℕ) (p q a b : plain.Sketch) (r : Result Sketch ProductError) →
    ts ≡ us → ((c : Copy) → ks c ≡ ms c) → p ≡ a → q ≡ b →
    IfOk r (λ (s : Sketch). sketch_in (sorts_in w) (trees_in w) s ≡ plain.apart ts ks p q) →
    IfOk r (IsSketchReady (sorts_in w) (trees_in w)) → IfErr r (λ (e : ProductError). TellsSketch e (plain.apart ts ks p q)) →
    IsDrawn w (plain.apart us ms a b) r
apart_drawn w ts us ks ms p q a b r templates same inner after made ready told =
    let counts : ks ≡ ms = fun_ext same in
    let is : plain.apart ts ks p q ≡ plain.apart us ms a b = λ i. plain.apart (templates i) (counts i) (inner i) (after i) in
    drawn_same w (plain.apart ts ks p q) (plain.apart us ms a b) r is (drawn_by w (plain.apart ts ks p q) r made ready told)

pub looped_drawn : (w : TableValue) (ts us : List Assertion) (set : Copies) (turn : Copies → plain.Sketch) (q b : plain.Sketch)
    (r : Result Sketch ProductError) → ts ≡ us → q ≡ b →
    IfOk r (λ (s : Sketch). sketch_in (sorts_in w) (trees_in w) s ≡ plain.looped ts set turn q) →
    IfOk r (IsSketchReady (sorts_in w) (trees_in w)) → IfErr r (λ (e : ProductError). TellsSketch e (plain.looped ts set turn q)) →
    IsDrawn w (plain.looped us set turn b) r
looped_drawn w ts us set turn q b r templates after made ready told =
    let is : plain.looped ts set turn q ≡ plain.looped us set turn b = λ i. plain.looped (templates i) set turn (after i) in
    drawn_same w (plain.looped ts set turn q) (plain.looped us set turn b) r is (drawn_by w (plain.looped ts set turn q) r made ready told)

pub forking_drawn : (w : TableValue) (c : Copy) (p q a b : plain.Sketch) (r : Result Sketch ProductError) → p ≡ a → q ≡ b →
    IfOk r (λ (s : Sketch). sketch_in (sorts_in w) (trees_in w) s ≡ plain.forking c p q) →
    IfOk r (IsSketchReady (sorts_in w) (trees_in w)) → IfErr r (λ (e : ProductError). TellsSketch e (plain.forking c p q)) →
    IsDrawn w (plain.forking c a b) r
forking_drawn w c p q a b r one other made ready told =
    let is : plain.forking c p q ≡ plain.forking c a b = λ i. plain.forking c (one i) (other i) in
    drawn_same w (plain.forking c p q) (plain.forking c a b) r is (drawn_by w (plain.forking c p q) r made ready told)

-- the product of a statement, by the code that it stands for
pub stands_drawn : (t : Parts) (v : TableValue) (set : Copies) (p : plain.Sketch) (s : Stmt) (code : Code)
    (r : Result Sketch ProductError) →
    statement_of s End ≡ code → IsDrawn v (product t code set p) r → IsDrawn v (product t (statement_of s End) set p) r
stands_drawn t v set p s code r e h = subst (λ (k : Code). IsDrawn v (product t k set p) r) (sym e) h

pub step_drawn : (t : Parts) (v : TableValue) (set : Copies) (p : plain.Sketch) (s : Stmt) (code : Code) (r : Result Sketch ProductError) →
    statement_of s End ≡ code → IfOk r (λ (x : Sketch). sketch_in (sorts_in v) (trees_in v) x ≡ product t code set p) →
    IfOk r (IsSketchReady (sorts_in v) (trees_in v)) → IfErr r (λ (e : ProductError). TellsSketch e (product t code set p)) →
    IsDrawn v (product t (statement_of s End) set p) r
step_drawn t v set p s code r e made ready told = stands_drawn t v set p s code r e (drawn_by v (product t code set p) r made ready told)

pub if_drawn : (t : Parts) (v : TableValue) (set : Copies) (p : plain.Sketch) (s : Stmt) (b : Condition) (c d : Code)
    (pieces : PerCopy (Bor (List Stmt))) (r : Result Sketch ProductError) → statement_of s End ≡ If b c d End →
    ((x : Copy) → piece_of pieces x ≡ fill (t.fillings x) (statement_of s End)) →
    IsDrawn v (product_if t (has_hole c || has_hole d) (piece_of pieces) (product t c) (product t d) set p) r →
    IsDrawn v (product t (statement_of s End) set p) r
if_drawn t v set p s b c d pieces r e filled h =
    let code : piece_of pieces ≡ (λ (x : Copy). fill (t.fillings x) (If b c d End)) =
    fun_ext (λ (x : Copy). filled x ∙ ap (fill (t.fillings x)) e) in
    stands_drawn t v set p s (If b c d End) r e
    (subst (λ (f : Copy → Code). IsDrawn v (product_if t (has_hole c || has_hole d) f (product t c) (product t d) set p) r) code h)

pub while_drawn : (t : Parts) (v : TableValue) (set : Copies) (p : plain.Sketch) (s : Stmt) (b : Condition) (c : Code)
    (pieces : PerCopy (Bor (List Stmt))) (r : Result Sketch ProductError) → statement_of s End ≡ While b c End →
    ((x : Copy) → piece_of pieces x ≡ fill (t.fillings x) (statement_of s End)) →
    IsDrawn v (product_while t (has_hole c) (piece_of pieces) (product t c) set p) r →
    IsDrawn v (product t (statement_of s End) set p) r
while_drawn t v set p s b c pieces r e filled h =
    let code : piece_of pieces ≡ (λ (x : Copy). fill (t.fillings x) (While b c End)) =
    fun_ext (λ (x : Copy). filled x ∙ ap (fill (t.fillings x)) e) in
    stands_drawn t v set p s (While b c End) r e
    (subst (λ (f : Copy → Code). IsDrawn v (product_while t (has_hole c) f (product t c) set p) r) code h)

-- the blocks of a filled if, the body of a filled loop, and a filled hole
pub if_inside : (sorts : Sorts) (t : Parts) (s : Stmt) (b : Condition) (c d : Code) (pieces first second : PerCopy (Bor (List Stmt))) →
    statement_of s End ≡ If b c d End → AreFilledAs sorts t (statement_of s End) pieces →
    ((x : Copy) → piece_of first x ≡ first_inside (piece_of pieces x)) →
    ((x : Copy) → piece_of second x ≡ second_inside (piece_of pieces x)) →
    AreFilledAs sorts t c first × AreFilledAs sorts t d second
if_inside sorts t s b c d pieces first second e h one other =
    let is : (x : Copy) → piece_of pieces x ≡ If b (fill (t.fillings x) c) (fill (t.fillings x) d) End =
    λ (x : Copy). h.filled x ∙ ap (fill (t.fillings x)) e in
    let well : (x : Copy) → IsWellSorted sorts (If b (fill (t.fillings x) c) (fill (t.fillings x) d) End) =
    λ (x : Copy). subst (λ (k : Code). IsWellSorted sorts k) (is x) (h.sorted x) in
    let left : (x : Copy) → piece_of first x ≡ fill (t.fillings x) c = λ (x : Copy). one x ∙ ap first_inside (is x) in
    let right : (x : Copy) → piece_of second x ≡ fill (t.fillings x) d = λ (x : Copy). other x ∙ ap second_inside (is x) in (
      record { filled = left; sorted = λ (x : Copy). subst (λ (k : Code). IsWellSorted sorts k) (sym (left x)) (well x).1 },
      record { filled = right; sorted = λ (x : Copy). subst (λ (k : Code). IsWellSorted sorts k) (sym (right x)) (well x).2 },
    )

pub while_inside : (sorts : Sorts) (t : Parts) (s : Stmt) (b : Condition) (c : Code) (pieces first : PerCopy (Bor (List Stmt))) →
    statement_of s End ≡ While b c End → AreFilledAs sorts t (statement_of s End) pieces →
    ((x : Copy) → piece_of first x ≡ first_inside (piece_of pieces x)) → AreFilledAs sorts t c first
while_inside sorts t s b c pieces first e h one =
    let is : (x : Copy) → piece_of pieces x ≡ While b (fill (t.fillings x) c) End =
    λ (x : Copy). h.filled x ∙ ap (fill (t.fillings x)) e in
    let well : (x : Copy) → IsWellSorted sorts (While b (fill (t.fillings x) c) End) =
    λ (x : Copy). subst (λ (k : Code). IsWellSorted sorts k) (is x) (h.sorted x) in
    let left : (x : Copy) → piece_of first x ≡ fill (t.fillings x) c = λ (x : Copy). one x ∙ ap first_inside (is x) in
    record { filled = left; sorted = λ (x : Copy). subst (λ (k : Code). IsWellSorted sorts k) (sym (left x)) (well x).1 }

pub hole_inside : (sorts : Sorts) (t : Parts) (s : Stmt) (n : ℕ) (pieces : PerCopy (Bor (List Stmt))) →
    statement_of s End ≡ Hole n End → AreFilledAs sorts t (statement_of s End) pieces →
    (x : Copy) → IsWellSorted sorts (filling (t.fillings x) n)
hole_inside sorts t s n pieces e h x =
    subst (λ (k : Code). IsWellSorted sorts k)
    (h.filled x ∙ ap (fill (t.fillings x)) e ∙ append-End (filling (t.fillings x) n)) (h.sorted x)

-- code of statements up to a place and from it on
split_code : (l : List Stmt) (n : ℕ) → append (code_before (take n l) End) (code_before (drop n l) End) ≡ code_before l End
split_code l zero = refl
split_code [] (suc n) = refl
split_code (s ∷ l) (suc n) =
    let x = code_before (take n l) End in
    let y = code_before (drop n l) End in
    ap (λ (c : Code). append c y) (statement_is s x) ∙ append_assoc (statement_of s End) x y ∙ sym (statement_is s (append x y))
    ∙ ap (statement_of s) (split_code l n)

-- one statement more of a block, from its end
module _ (l : List Stmt) (i : ℕ) (s : Stmt) (some : 0 < i) (within : i ≤ length l) (item : s ≡ get_or l (i - 1) s) where
  front_is : code_before (take i l) End ≡ append (code_before (take (i - 1) l) End) (statement_of s End)
  front_is =
      let next : i ≡ (i - 1) + 1 = omega (arith, some) in
      let inside : i - 1 < length l = omega (arith, some, within) in
      ap (λ (n : ℕ). code_before (take n l) End) next ∙ ap (λ (m : List Stmt). code_before m End) (take_more l (i - 1) s inside)
      ∙ sequence-push (take (i - 1) l) (get_or l (i - 1) s) End
      ∙ ap (λ (x : Stmt). code_before (take (i - 1) l) (statement_of x End)) (sym item)
      ∙ sequence_then (take (i - 1) l) (statement_of s End)

  pub cut_step : (sorts : Sorts) (t : Parts) (left front last : PerCopy (Bor (List Stmt))) →
      AreFilledAs sorts t (code_before (take i l) End) left →
      ((k : Code) (c : Copy) → piece_of left c ≡ fill (t.fillings c) (append k (statement_of s End)) →
      (piece_of front c ≡ fill (t.fillings c) k) × (piece_of last c ≡ fill (t.fillings c) (statement_of s End))) →
      AreFilledAs sorts t (code_before (take (i - 1) l) End) front × AreFilledAs sorts t (statement_of s End) last
  cut_step sorts t left front last h cut =
      let k = code_before (take (i - 1) l) End in
      let z = statement_of s End in
      let is : (c : Copy) → piece_of left c ≡ fill (t.fillings c) (append k z) =
      λ (c : Copy). h.filled c ∙ ap (fill (t.fillings c)) front_is in
      let whole : (c : Copy) → IsWellSorted sorts (append (fill (t.fillings c) k) (fill (t.fillings c) z)) =
      λ (c : Copy). subst (λ (x : Code). IsWellSorted sorts x) (is c ∙ fill-append (t.fillings c) k z) (h.sorted c) in (
        record {
          filled = λ (c : Copy). (cut k c (is c)).0;
          sorted = λ (c : Copy). let x = fill (t.fillings c) k in let y = fill (t.fillings c) z in
              subst (λ (u : Code). IsWellSorted sorts u) (own_front x y ∙ sym (cut k c (is c)).0)
              (front_well sorts (own_statements x) (append x y) (whole c));
        },
        record {
          filled = λ (c : Copy). (cut k c (is c)).1;
          sorted = λ (c : Copy). let x = fill (t.fillings c) k in let y = fill (t.fillings c) z in
              subst (λ (u : Code). IsWellSorted sorts u) (own_rest x y ∙ sym (cut k c (is c)).1)
              (rest_well sorts (own_statements x) (append x y) (whole c));
        },
      )

  pub drawn_step : (t : Parts) (set : Copies) (p q r : plain.Sketch) → q ≡ product t (code_before (drop i l) End) set p →
      r ≡ product t (statement_of s End) set q → r ≡ product t (code_before (drop (i - 1) l) End) set p
  drawn_step t set p q r before here =
      here ∙ ap (product t (statement_of s End) set) before
      ∙ sym (product-append t (statement_of s End) (code_before (drop i l) End) set p)
      ∙ ap (λ (c : Code). product t c set p) (sequence-before l i s some within item)

  pub told_step : (t : Parts) (set : Copies) (p q : plain.Sketch) (e : ProductError) → q ≡ product t (code_before (drop i l) End) set p →
      TellsSketch e (product t (statement_of s End) set q) → TellsSketch e (product t (code_before l End) set p)
  told_step t set p q e before told =
      let front = code_before (take (i - 1) l) End in
      let rest = code_before (drop (i - 1) l) End in
      let whole : product t front set (product t rest set p) ≡ product t (code_before l End) set p =
      sym (product-append t front rest set p) ∙ ap (λ (c : Code). product t c set p) (split_code l (i - 1)) in
      subst (λ (x : plain.Sketch). TellsSketch e x) whole
      (tells_whole e (product t rest set p) (product t front set (product t rest set p)) (after_product t front set (product t rest set p))
      (subst (λ (x : plain.Sketch). TellsSketch e x) (drawn_step t set p q (product t (statement_of s End) set q) before refl) told))

-- the sets of masks are subsets
in_range : (a n k : ℕ) → k < n → In (a + k) (range_with_len a n)
in_range a zero k h = absurd (omega (arith, h))
in_range a (suc n) zero h = inl (omega arith)
in_range a (suc n) (suc k) h =
    let here : (a + 1) + k ≡ a + suc k = omega arith in
    inr (subst (λ (m : ℕ). In m (range_with_len (a + 1) n)) here (in_range (a + 1) n k (omega (arith, h))))

all_same : (vs : List Copies) → map (λ (v : Copies). v) vs ≡ vs
all_same [] = refl
all_same (v ∷ vs) = ap (λ (l : List Copies). v ∷ l) (all_same vs)

pub in_subsets : (set k : ℕ) → set ≤ 15 → k < 15 → (bit_and (1 + k) set == 1 + k) ≡ true → In (set_of (1 + k)) (subsets (set_of set))
in_subsets set k few less test =
    let masks = filter (λ (m : ℕ). bit_and m set == m) (range_with_len 1 15) in
    subst (λ (l : List Copies). In (set_of (1 + k)) l) (masked (λ (v : Copies). v) set few ∙ all_same (subsets (set_of set)))
    (in_map (λ (m : ℕ). set_of m) (1 + k) masks
    (in_filter (λ (m : ℕ). bit_and m set == m) (1 + k) (range_with_len 1 15) (in_range 1 15 k less) test))

-- an error of a turn tells of the loops
pub turn_tells : (ts : List Assertion) (set k : ℕ) (turn : Copies → plain.Sketch) (next : plain.Sketch) (e : ProductError) → set ≤ 15 →
    k < 15 → (bit_and (1 + k) set == 1 + k) ≡ true → TellsSketch e (turn (set_of (1 + k))) →
    TellsSketch e (plain.looped ts (set_of set) turn next)
turn_tells ts set k turn next e few less test told =
    tells_whole e (turn (set_of (1 + k))) (plain.looped ts (set_of set) turn next)
    (turn_of_loop ts (set_of set) turn next (set_of (1 + k)) (in_subsets set k few less test)) told

pub mask_tells : (ts : List Assertion) (set m : ℕ) (turn : Copies → plain.Sketch) (next : plain.Sketch) (e : ProductError) → set ≤ 15 →
    0 < m → m ≤ 15 → bit_and m set ≡ m → TellsSketch e (turn (set_of m)) → TellsSketch e (plain.looped ts (set_of set) turn next)
mask_tells ts set zero turn next e few some most is told = absurd (omega (arith, some))
mask_tells ts set (suc k) turn next e few some most is told =
    let same : suc k ≡ 1 + k = omega arith in
    let less : k < 15 = omega (arith, most) in
    turn_tells ts set k turn next e few less
    (eq-eqb (bit_and (1 + k) set) (1 + k) (subst (λ (n : ℕ). bit_and n set ≡ n) same is))
    (subst (λ (n : ℕ). TellsSketch e (turn (set_of n))) same told)
