-- A store has one text, and four ends have one table.
use Rattle.sm_display.proofs.Imports.{◌≡◌, ◌<◌, ◌++◌, ℕ, zero, suc, ℤ, pos, Bool, true, false, if◌then◌else◌, List, [], ◌∷◌, length, inl, inr, ⊎_elim, refl, sym, ap, subst, ◌∙◌, arith, Copy, Value, Number, Array, Store, Sort, Parts, task_of, element_lines, AreStartLines, AreValueLines}
use Rattle.std.specs.Prelude.{◌<ℤ◌, ◌≤ℤ◌}
use Rattle.std.specs.Ordering.{int_eq}
use Rattle.std.proofs.lemmas.Bool.Decides.{Decides-int_eq}
use Rattle.std.proofs.lemmas.Int.{ints}
use Rattle.sm_syntax.specs.declared.tree.Sort.TheVariants.{Num, Arr}
use Rattle.sm_eval.specs.Cells.{index_at, listed, AreCells}
use Rattle.sm_replay.proofs.VerdictSound.{same_ends}
use Rattle.sm_explain.specs.Indices.{IsOf, Rise}
use Rattle.sm_explain.specs.Tables.{element_rows, AreElementRows, AreOutputRows, AreRows, IsTable}
use Rattle.sm_explain.proofs.MergedLists.{first_least}
use Rattle.sm_lemmas.proofs.Tests.{neither_less}

-- ---- rising lists of the same indices

both_ways : (u v : ℤ) → u ≤ℤ v → v ≤ℤ u → u ≡ v
both_ways u v low high = grind (arith, ints)

not_less : (u v : ℤ) → u ≡ v → u <ℤ v → ⊥
not_less u v same lt = omega (arith, ints, same, lt)

-- an index of the rest isn't the first
rest_of : (u : ℤ) (us vs : List ℤ) (i : ℤ) → Rise (u ∷ us) → IsOf us i → IsOf (u ∷ vs) i → IsOf vs i
rest_of u us vs i r o h = ⊎_elim (λ (e : i ≡ u). absurd (not_less u i (sym e) (r.0 i o))) (λ (x : IsOf vs i). x) h

indices_one : (us vs : List ℤ) → Rise us → Rise vs → ((i : ℤ) → IsOf us i → IsOf vs i) → ((i : ℤ) → IsOf vs i → IsOf us i) → us ≡ vs
indices_one [] [] ru rv to from = refl
indices_one [] (v ∷ vs) ru rv to from = absurd (from v (inl refl))
indices_one (u ∷ us) [] ru rv to from = absurd (to u (inl refl))
indices_one (u ∷ us) (v ∷ vs) ru rv to from =
    let same : u ≡ v = both_ways u v (first_least u us ru v (from v (inl refl))) (first_least v vs rv u (to u (inl refl))) in
    let rest : us ≡ vs =
    indices_one us vs ru.1 rv.1
    (λ (i : ℤ) (o : IsOf us i). rest_of u us vs i ru o (subst (λ (z : ℤ). IsOf (z ∷ vs) i) (sym same) (to i (inr o))))
    (λ (i : ℤ) (o : IsOf vs i). rest_of v vs us i rv o (subst (λ (z : ℤ). IsOf (z ∷ us) i) same (from i (inr o)))) in
    ap (λ (z : ℤ). z ∷ us) same ∙ ap (λ (zs : List ℤ). v ∷ zs) rest

-- ---- tables

element_rows_one : (names : List (List ℕ)) (end : Copy → Store) (a : ℕ) (l m : List ℕ) → AreElementRows names end a l
    → AreElementRows names end a m → l ≡ m
element_rows_one names end a l m p q =
    let same : p.indices ≡ q.indices =
    indices_one p.indices q.indices p.rise q.rise (λ (i : ℤ) (o : IsOf p.indices i). (q.each i).1 ((p.each i).0 o))
    (λ (i : ℤ) (o : IsOf q.indices i). (p.each i).1 ((q.each i).0 o)) in
    p.is ∙ ap (element_rows names end a) same ∙ sym q.is

output_rows_one : (names : List (List ℕ)) (end : Copy → Store) (x : ℕ) (sort : Sort) (l m : List ℕ) → AreOutputRows names end x sort l
    → AreOutputRows names end x sort m → l ≡ m
output_rows_one names end x Num l m p q = p ∙ sym q
output_rows_one names end x Arr l m p q = element_rows_one names end x l m p q

rows_one : (names : List (List ℕ)) (end : Copy → Store) (outputs : List (ℕ × Sort)) (l m : List ℕ) → AreRows names end outputs l
    → AreRows names end outputs m → l ≡ m
rows_one names end [] l m p q = p ∙ sym q
rows_one names end (o ∷ rest) l m p q =
    let here : p.0 ≡ q.0 = output_rows_one names end o.0 o.1 p.0 q.0 p.2 q.2 in
    let later : p.1 ≡ q.1 = rows_one names end rest p.1 q.1 p.3 q.3 in
    p.4 ∙ ap (λ (t : List ℕ). t ++ p.1) here ∙ ap (λ (t : List ℕ). q.0 ++ t) later ∙ sym q.4

pub table_one : (t : Parts) (s : Store) (n : ℕ) (l m : List ℕ) → IsTable t s n l → IsTable t s n m → l ≡ m
table_one t s n l m p q =
    let ends : p.end ≡ q.end = same_ends (task_of t) s n p.end q.end p.ends q.ends in
    rows_one t.names q.end (task_of t).outputs l m
    (subst (λ (e : Copy → Store). AreRows t.names e (task_of t).outputs l) ends p.rows) q.rows

-- ---- lists of cells

tail_cells : (c : ℤ × ℤ) (rest : List (ℤ × ℤ)) → AreCells (c ∷ rest) → AreCells rest
tail_cells c rest h = record {
  ascending = λ (p q : ℕ) lt inside. h.ascending (suc p) (suc q) (omega (arith, lt)) (omega (arith, inside));
  no_zero = λ (p : ℕ) inside. h.no_zero (suc p) (omega (arith, inside));
}

-- the first index is below the others
first_below : (c : ℤ × ℤ) (rest : List (ℤ × ℤ)) → AreCells (c ∷ rest) → (q : ℕ) → q < length rest → c.0 <ℤ index_at rest q
first_below c rest h q inside = h.ascending 0 (suc q) (omega arith) (omega (arith, inside))

-- below all indices there is 0
listed_none : (l : List (ℤ × ℤ)) (i : ℤ) → ((q : ℕ) → q < length l → i <ℤ index_at l q) → listed l i ≡ pos 0
listed_none [] i below = refl
listed_none (c ∷ rest) i below =
    by (int_eq i c.0) (Decides-int_eq i c.0).0 (listed_none rest i (λ (q : ℕ) lt. below (suc q) (omega (arith, lt))))
  where
    by : (b : Bool) → (b ≡ true → i ≡ c.0) → listed rest i ≡ pos 0 → (if b then c.1 else listed rest i) ≡ pos 0
    by true same later = absurd (not_less i c.0 (same refl) (below 0 (omega arith)))
    by false same later = later

listed_first : (c : ℤ × ℤ) (rest : List (ℤ × ℤ)) → listed (c ∷ rest) c.0 ≡ c.1
listed_first c rest = ap (λ (b : Bool). if b then c.1 else listed rest c.0) ((Decides-int_eq c.0 c.0).1 refl)

listed_other : (c : ℤ × ℤ) (rest : List (ℤ × ℤ)) (i : ℤ) → int_eq i c.0 ≡ false → listed (c ∷ rest) i ≡ listed rest i
listed_other c rest i other = ap (λ (b : Bool). if b then c.1 else listed rest i) other

less_trans : (u v w : ℤ) → u <ℤ v → v <ℤ w → u <ℤ w
less_trans u v w low high = omega (arith, ints, low, high)

-- the first index of a list isn't below that of another that gives the same numbers
not_below : (c d : ℤ × ℤ) (l m : List (ℤ × ℤ)) → AreCells (c ∷ l) → AreCells (d ∷ m)
    → ((i : ℤ) → listed (c ∷ l) i ≡ listed (d ∷ m) i) → c.0 <ℤ d.0 → ⊥
not_below c d l m p q each low =
    let below : (k : ℕ) → k < length (d ∷ m) → c.0 <ℤ index_at (d ∷ m) k = by in
    p.no_zero 0 (omega arith) (sym (listed_first c l) ∙ each c.0 ∙ listed_none (d ∷ m) c.0 below)
  where
    by : (k : ℕ) → k < length (d ∷ m) → c.0 <ℤ index_at (d ∷ m) k
    by zero inside = low
    by (suc k) inside = less_trans c.0 d.0 (index_at m k) low (first_below d m q k (omega (arith, inside)))

cells_one : (l m : List (ℤ × ℤ)) → AreCells l → AreCells m → ((i : ℤ) → listed l i ≡ listed m i) → l ≡ m
cells_one [] [] p q each = refl
cells_one [] (d ∷ m) p q each = absurd (q.no_zero 0 (omega arith) (sym (listed_first d m) ∙ sym (each d.0)))
cells_one (c ∷ l) [] p q each = absurd (p.no_zero 0 (omega arith) (sym (listed_first c l) ∙ each c.0))
cells_one ((i, z) ∷ l) ((j, w) ∷ m) p q each =
    let c : ℤ × ℤ = (i, z) in
    let d : ℤ × ℤ = (j, w) in
    let same : i ≡ j =
    neither_less i j (not_below c d l m p q each) (not_below d c m l q p (λ (k : ℤ). sym (each k))) in
    let value : z ≡ w =
    sym (listed_first c l) ∙ each i ∙ ap (listed (d ∷ m)) same ∙ listed_first d m in
    let rest : l ≡ m =
    cells_one l m (tail_cells c l p) (tail_cells d m q)
    (λ (k : ℤ). by k same (int_eq k i) refl) in
    ap (λ (x : ℤ). (x, z) ∷ l) same ∙ ap (λ (x : ℤ). (j, x) ∷ l) value ∙ ap (λ (xs : List (ℤ × ℤ)). d ∷ xs) rest
  where
    by : (k : ℤ) → i ≡ j → (b : Bool) → int_eq k i ≡ b → listed l k ≡ listed m k
    by k same true is =
        let here : k ≡ i = (Decides-int_eq k i).0 is in
        ap (listed l) here ∙ listed_none l i (first_below (i, z) l p)
        ∙ sym (listed_none m j (first_below (j, w) m q)) ∙ ap (listed m) (sym (here ∙ same))
    by k same false is =
        sym (listed_other (i, z) l k is) ∙ each k
        ∙ listed_other (j, w) m k (subst (λ (x : ℤ). int_eq k x ≡ false) same is)

-- ---- starts

value_lines_one : (names : List (List ℕ)) (x : ℕ) (v : Value) (l m : List ℕ) → AreValueLines names x v l → AreValueLines names x v m
    → l ≡ m
value_lines_one names x (Number z) l m p q = p ∙ sym q
value_lines_one names x (Array f) l m p q =
    let same : p.0 ≡ q.0 = cells_one p.0 q.0 p.1 q.1 (λ (i : ℤ). ap (λ (g : ℤ → ℤ). g i) (sym p.2 ∙ q.2)) in
    p.3 ∙ ap (element_lines names x) same ∙ sym q.3

pub start_one : (names : List (List ℕ)) (declared : List (ℕ × Sort)) (s : Store) (l m : List ℕ) → AreStartLines names declared s l
    → AreStartLines names declared s m → l ≡ m
start_one names [] s l m p q = p ∙ sym q
start_one names (d ∷ rest) s l m p q =
    let here : p.0 ≡ q.0 = value_lines_one names d.0 (s d.0) p.0 q.0 p.2 q.2 in
    let later : p.1 ≡ q.1 = start_one names rest s p.1 q.1 p.3 q.3 in
    p.4 ∙ ap (λ (t : List ℕ). t ++ p.1) here ∙ ap (λ (t : List ℕ). q.0 ++ t) later ∙ sym q.4
