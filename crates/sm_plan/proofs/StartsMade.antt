-- The start values of declared names, which are numbered from 0 on.
use Rattle.sm_plan.proofs.Imports.{◌≡◌, ℕ, zero, suc, ◌+◌, ◌<◌, ◌==◌, Bool, true, false, if◌then◌else◌, Option, Some, None, List, [], ◌∷◌, ◌++◌, length, map, get_or, slice_get, refl, sym, ap, ◌∙◌, arith, range_with_len, eqb-true, length-map, slice_get_within, slice_get-get_or, same_Some, fun_ext, Name, Sort, sort_of, Tree, Start, tree_or_start, store_in, SymStore, TableValue, trees_in, tree_at, AreBefore, TermId, ExtendsTable, AreNumbered, start_store, get_mapped}
use Rattle.std.proofs.Common.{is_some}
use Rattle.std.proofs.lemmas.Bool.{eq-eqb}
use Rattle.std.proofs.lemmas.List.FromFn.{get_or-range_with_len}
use Rattle.sm_plan.proofs.TablesWiden.{tree_stays}

-- declarations by number
abbrev pub pairs : List (Name × Sort) → List (ℕ × Sort)
pairs ds = map (λ (e : Name × Sort). (e.0.0, e.1)) ds

-- the trees of numbers
abbrev pub trees_of : List Tree → List TermId → List Tree
trees_of trees l = map (λ (t : TermId). tree_at trees t.0) l

-- a name that stands in declarations is declared
pub declared_at : (ds : List (Name × Sort)) (i : ℕ) (d : Name × Sort) → i < length ds →
    is_some (sort_of (pairs ds) (get_or ds i d).0.0) ≡ true
declared_at [] i d h = absurd (omega arith)
declared_at (e ∷ es) zero d h = ap (λ b. is_some (if b then Some e.1 else sort_of (pairs es) e.0.0)) (eq-eqb e.0.0 e.0.0 refl)
declared_at (e ∷ es) (suc i) d h = by (e.0.0 == (get_or es i d).0.0) (declared_at es i d (omega arith))
  where
    by : (b : Bool) → is_some (sort_of (pairs es) (get_or es i d).0.0) ≡ true →
        is_some (if b then Some e.1 else sort_of (pairs es) (get_or es i d).0.0) ≡ true
    by true h = refl
    by false h = h

-- a declared name stands at some place in the declarations
found : (ds : List (ℕ × Sort)) (x : ℕ) → is_some (sort_of ds x) ≡ true →
    (i : ℕ) × (i < length ds) × (get_or (map (λ (d : ℕ × Sort). d.0) ds) i 0 ≡ x)
found [] x h = absurd cc
found (d ∷ ds) x h = by (d.0 == x) refl (found ds x) h
  where
    by : (b : Bool) → (d.0 == x) ≡ b →
        (is_some (sort_of ds x) ≡ true → (i : ℕ) × (i < length ds) × (get_or (map (λ (e : ℕ × Sort). e.0) ds) i 0 ≡ x)) →
        is_some (if b then Some d.1 else sort_of ds x) ≡ true
        → (i : ℕ) × (i < length (d ∷ ds)) × (get_or (map (λ (e : ℕ × Sort). e.0) (d ∷ ds)) i 0 ≡ x)
    by true e later h = (0, omega arith, eqb-true d.0 x e)
    by false e later h = let r = later h in (suc r.0, omega (arith, r.1), r.2)

-- so declared names are below their count
pub declared_below : (ds : List (ℕ × Sort)) → AreNumbered ds → (x : ℕ) → is_some (sort_of ds x) ≡ true → x < length ds
declared_below ds numbered x h =
    let r = found ds x h in
    let place : get_or (range_with_len 0 (length ds)) r.0 0 ≡ x = ap (λ l. get_or l r.0 0) (sym numbered) ∙ r.2 in
    let same : 0 + r.0 ≡ x = sym (get_or-range_with_len 0 (length ds) r.0 0 r.1) ∙ place in
    omega (arith, same, r.1)

-- the start values of numbered names
start_at : (trees : List Tree) (l : List TermId) (names : List ℕ) → trees_of trees l ≡ map (λ (n : ℕ). Start n) names →
    names ≡ range_with_len 0 (length names) →
    (x : ℕ) (t : TermId) → slice_get l x ≡ Some t → tree_at trees t.0 ≡ Start x
start_at trees l names e numbered x t s =
    let here : slice_get (map (λ (n : ℕ). Start n) names) x ≡ Some (tree_at trees t.0) = ap (λ m. slice_get m x) (sym e)
    ∙ get_mapped (λ (u : TermId). tree_at trees u.0) l x t s in
    let long = length-map names (λ (n : ℕ). Start n) in
    let inside : x < length names = omega (arith, long, slice_get_within (map (λ (n : ℕ). Start n) names) x (tree_at trees t.0) here) in
    let named = get_mapped (λ (n : ℕ). Start n) names x (get_or names x 0) (slice_get-get_or names x 0 inside) in
    let same : tree_at trees t.0 ≡ Start (get_or names x 0) = same_Some (tree_at trees t.0) (Start (get_or names x 0)) (sym here ∙ named) in
    let number : get_or names x 0 ≡ x = ap (λ l. get_or l x 0) numbered ∙ get_or-range_with_len 0 (length names) x 0 inside ∙ omega arith in
    same ∙ ap (λ (n : ℕ). Start n) number

names_of : (ds : List (Name × Sort)) → map (λ (d : Name × Sort). Start d.0.0) ds
    ≡ map (λ (n : ℕ). Start n) (map (λ (d : ℕ × Sort). d.0) (pairs ds))
names_of [] = refl
names_of (d ∷ ds) = ap (λ l. Start d.0.0 ∷ l) (names_of ds)

-- the store that has them is the start store
pub starts : (trees : List Tree) (s : SymStore) (ds : List (Name × Sort)) →
    trees_of trees s.list.items ≡ map (λ (d : Name × Sort). Start d.0.0) ds → AreNumbered (pairs ds)
    → store_in trees s ≡ start_store
starts trees s ds e numbered = fun_ext (λ (x : ℕ). by x (slice_get s.list.items x) refl)
  where
    names : List ℕ
    names = map (λ (d : ℕ × Sort). d.0) (pairs ds)

    in_order : map (λ (d : ℕ × Sort). d.0) (pairs ds) ≡ range_with_len 0 (length (map (λ (d : ℕ × Sort). d.0) (pairs ds)))
    in_order = numbered ∙ ap (range_with_len 0) (sym (length-map (pairs ds) (λ (d : ℕ × Sort). d.0)))

    by : (x : ℕ) (o : Option TermId) → slice_get s.list.items x ≡ o → tree_or_start trees x o ≡ Start x
    by x None h = refl
    by x (Some t) h = start_at trees s.list.items (map (λ (d : ℕ × Sort). d.0) (pairs ds)) (e ∙ names_of ds) in_order x t h

-- over a wider table
pub trees_stay : (v w : TableValue) → ExtendsTable v w → (l : List TermId) → AreBefore (length (trees_in v)) l →
    trees_of (trees_in w) l ≡ trees_of (trees_in v) l
trees_stay v w wider [] h = refl
trees_stay v w wider (t ∷ l) h = λ i. tree_stays v w wider t.0 h.0 i ∷ trees_stay v w wider l h.1 i

pub before_append : (n : ℕ) (l m : List TermId) → AreBefore n l → AreBefore n m → AreBefore n (l ++ m)
before_append n [] m p q = q
before_append n (t ∷ l) m p q = (p.0, before_append n l m p.1 q)
