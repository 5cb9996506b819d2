-- First places in a list that grows at its end, and how numbers of terms tell them.
use Rattle.sm_cc.proofs.Imports.{◌≡◌, ℕ, ◌+◌, ◌==◌, ◌<◌, ◌≤◌, zero, suc, nat_eq, Bool, true, false, ◌&&◌, List, [], ◌∷◌, ◌++◌, length, take, get_or, Option, Some, None, unwrap_or, refl, sym, ap, subst, ◌∙◌, if◌then◌else◌, ◌⊎◌, inl, inr, ⊎_elim, arith, get, ne_eqb, cases_lt, Decides-and, Decides-eqb, map_more, length-map, take_at, get_or_past, slice_get-get_or, Sorts, Code, Tree, Read, same_tree, tree_at, tree_in, IsTermWithin, AreBefore, TermId, Term, AreApart, part_before, tree_at-more, same_tree_is, place_of, IsLonger, first_place, first_or, same_pair, is_read, HasPlaces, HasReads, AreReadsBelow, HasNumber, HavePartsIn, AreNoted, ArePositions}
use Rattle.std.proofs.Common.{length-append}
use Rattle.std.specs.Option.{option_map, is_some}
use Rattle.sm_term.specs.declared.term.Term.TheVariants as row
use Rattle.sm_theory.proofs.SidesLemmas.{numbers_tell}
use Rattle.sm_cc.specs.Views.{trees_of}
use Rattle.sm_cc.specs.Positions.{Positions}

-- the place is that of the first, or the length
pub place_is_first : (terms : List Tree) (t : Tree) → unwrap_or (first_place terms t) (length terms) ≡ place_of terms t
place_is_first [] t = refl
place_is_first (u ∷ us) t = by (same_tree u t) (first_place us t) (place_is_first us t)
  where
    by : (b : Bool) (o : Option ℕ) → unwrap_or o (length us) ≡ place_of us t →
        unwrap_or (if b then Some 0 else option_map suc o) (length (u ∷ us)) ≡ (if b then 0 else suc (place_of us t))
    by true o e = refl
    by false None e = ap suc e
    by false (Some n) e = ap suc e

-- one term more
pub first_place-push : (ts : List Tree) (u t : Tree) → first_place (ts ++ u ∷ []) t
    ≡ first_or (first_place ts t) (same_tree u t) (length ts)
first_place-push [] u t = refl
first_place-push (v ∷ ts) u t = by (same_tree v t) (same_tree u t) (first_place ts t) (first_place-push ts u t)
  where
    by : (b d : Bool) (o : Option ℕ) → first_place (ts ++ u ∷ []) t ≡ first_or o d (length ts) →
        (if b then Some 0 else option_map suc (first_place (ts ++ u ∷ []) t))
        ≡ first_or (if b then Some 0 else option_map suc o) d (length (v ∷ ts))
    by true d o e = refl
    by false true None e = ap (option_map suc) e
    by false false None e = ap (option_map suc) e
    by false d (Some n) e = ap (option_map suc) e

-- a pair that is noted where none was known
pub noted : (old new : ℕ × ℕ → Option ℕ) (pair : ℕ × ℕ) (place : ℕ) → old pair ≡ None →
    ((q : ℕ × ℕ) → new q ≡ (if same_pair pair q then Some place else old q)) →
    (a i : ℕ) → new (a, i) ≡ first_or (old (a, i)) (same_pair pair (a, i)) place
noted old new pair place none updates a i = updates (a, i) ∙ by (same_pair pair (a, i)) refl (old (a, i)) refl
  where
    by : (b : Bool) → same_pair pair (a, i) ≡ b → (o : Option ℕ) → old (a, i) ≡ o → (if b then Some place else o) ≡ first_or o b place
    by true e None f = refl
    by true e (Some n) f =
        let parts = (Decides-and _ _ (Decides-eqb pair.0 a) (Decides-eqb pair.1 i)).0 e in
        let one : a ≡ pair.0 = sym parts.0 in
        let two : i ≡ pair.1 = sym parts.1 in
        let wrong : None ≡ Some n = sym none ∙ ap (λ (x : ℕ). old (x, pair.1)) (sym one) ∙ ap (λ (y : ℕ). old (a, y)) (sym two) ∙ f in
        absurd cc
    by false e None f = refl
    by false e (Some n) f = refl

-- an element that is read is told by the numbers of its array and its index
pub read_told : (sorts : Sorts) (codes : List Code) (trees : List Tree) → AreApart trees → (n : ℕ) → n < length trees →
    (term : Term) → IsTermWithin sorts (length codes) n term → (u : Tree) → tree_in codes trees term ≡ u →
    (a i : ℕ) → a < length trees → i < length trees → is_read term a i ≡ same_tree u (Read (tree_at trees a) (tree_at trees i))
read_told sorts codes trees apart n h term within u e a i v w =
    by term within ∙ ap (λ (x : Tree). same_tree x (Read (tree_at trees a) (tree_at trees i))) e
  where
    by : (t : Term) → IsTermWithin sorts (length codes) n t → is_read t a i
        ≡ same_tree (tree_in codes trees t) (Read (tree_at trees a) (tree_at trees i))
    by (row.Read b j) p =
        ap (λ (x : Bool). x && (j.0 == i)) (numbers_tell trees apart b.0 a (omega (arith, p.0)) v)
        ∙ ap (λ (x : Bool). same_tree (tree_at trees b.0) (tree_at trees a) && x) (numbers_tell trees apart j.0 i (omega (arith, p.1)) w)
    by t p = refl

-- as many trees as terms
length_taken : (trees : List Tree) (terms : List TermId) (i : ℕ) → i < length terms → length (trees_of trees (take i terms)) ≡ i
length_taken trees [] i h = absurd (omega arith)
length_taken trees (t ∷ ts) zero h = refl
length_taken trees (t ∷ ts) (suc i) h = let less : i < length ts = omega arith in ap suc (length_taken trees ts i less)

-- each term has one tree
pub length-trees_of : (trees : List Tree) (terms : List TermId) → length (trees_of trees terms) ≡ length terms
length-trees_of trees terms = length-map terms (λ (t : TermId). tree_at trees t.0)

-- one step of the walk through a list of terms
pub places_more : (trees : List Tree) → AreApart trees → (terms : List TermId) → AreBefore (length trees) terms →
    (i : ℕ) (d : TermId) → i < length terms → (old new : ℕ → Option ℕ) → HasPlaces trees (trees_of trees (take i terms)) old →
    ((n : ℕ) → new n ≡ first_or (old n) (nat_eq (get_or terms i d).0 n) i) → HasPlaces trees (trees_of trees (take (i + 1) terms)) new
places_more trees apart terms before i d h old new kept updates n inside =
    let t = get_or terms i d in
    let below = part_before (length trees) terms i t before (slice_get-get_or terms i d h) in
    let told = numbers_tell trees apart t.0 n below inside in
    let f = λ (x : TermId). tree_at trees x.0 in
    let long : length (trees_of trees (take i terms)) ≡ i = length_taken trees terms i h in
    updates n
    ∙ ap (λ (o : Option ℕ). first_or o (nat_eq t.0 n) i) (kept n inside)
    ∙ ap (λ (b : Bool). first_or (first_place (trees_of trees (take i terms)) (tree_at trees n)) b i) told
    ∙ ap (first_or (first_place (trees_of trees (take i terms)) (tree_at trees n)) (same_tree (tree_at trees t.0) (tree_at trees n)))
    (sym long)
    ∙ sym (first_place-push (trees_of trees (take i terms)) (tree_at trees t.0) (tree_at trees n))
    ∙ ap (λ (ts : List Tree). first_place ts (tree_at trees n)) (sym (map_more f terms i d h))

-- one step of the walk through a list of terms, for the first places of elements that are read
pub reads_more : (sorts : Sorts) (codes : List Code) (trees : List Tree) → AreApart trees → (terms : List TermId) →
    AreBefore (length trees) terms →
    (i : ℕ) (d : TermId) → i < length terms → (old new : ℕ × ℕ → Option ℕ) → HasReads trees (trees_of trees (take i terms)) old →
    (term : Term) → IsTermWithin sorts (length codes) (get_or terms i d).0 term → tree_in codes trees term
    ≡ tree_at trees (get_or terms i d).0 →
    ((a j : ℕ) → new (a, j) ≡ first_or (old (a, j)) (is_read term a j) i) → HasReads trees (trees_of trees (take (i + 1) terms)) new
reads_more sorts codes trees apart terms before i d h old new kept term within is updates a j v w =
    let t = get_or terms i d in
    let below = part_before (length trees) terms i t before (slice_get-get_or terms i d h) in
    let r = Read (tree_at trees a) (tree_at trees j) in
    let told = read_told sorts codes trees apart t.0 below term within (tree_at trees t.0) is a j v w in
    let f = λ (x : TermId). tree_at trees x.0 in
    let long : length (trees_of trees (take i terms)) ≡ i = length_taken trees terms i h in
    updates a j
    ∙ ap (λ (o : Option ℕ). first_or o (is_read term a j) i) (kept a j v w)
    ∙ ap (λ (b : Bool). first_or (first_place (trees_of trees (take i terms)) r) b i) told
    ∙ ap (first_or (first_place (trees_of trees (take i terms)) r) (same_tree (tree_at trees t.0) r)) (sym long)
    ∙ sym (first_place-push (trees_of trees (take i terms)) (tree_at trees t.0) r)
    ∙ ap (λ (ts : List Tree). first_place ts r) (sym (map_more f terms i d h))

-- an element that a term reads is read of terms before it
is_read_below : (sorts : Sorts) (bodies n : ℕ) (term : Term) → IsTermWithin sorts bodies n term → (a j : ℕ) → is_read term a j ≡ true →
    (a < n) × (j < n)
is_read_below sorts bodies n (row.Read b i) w a j e =
    let parts = (Decides-and _ _ (Decides-eqb b.0 a) (Decides-eqb i.0 j)).0 e in
    (subst (λ (x : ℕ). x < n) parts.0 w.0, subst (λ (x : ℕ). x < n) parts.1 w.1)
is_read_below sorts bodies n (row.Lit z) w a j e = absurd cc
is_read_below sorts bodies n (row.Start x) w a j e = absurd cc
is_read_below sorts bodies n (row.Havoc k c x) w a j e = absurd cc
is_read_below sorts bodies n (row.Slot c x) w a j e = absurd cc
is_read_below sorts bodies n row.Cell w a j e = absurd cc
is_read_below sorts bodies n (row.Write b i c) w a j e = absurd cc
is_read_below sorts bodies n (row.Neg t) w a j e = absurd cc
is_read_below sorts bodies n (row.Add t u) w a j e = absurd cc
is_read_below sorts bodies n (row.Sub t u) w a j e = absurd cc
is_read_below sorts bodies n (row.Mul t u) w a j e = absurd cc
is_read_below sorts bodies n (row.Fun body x from args) w a j e = absurd cc

-- a term that reads an element has parts with numbers
parts_numbered : (sorts : Sorts) (codes : List Code) (trees : List Tree) (n : ℕ) → n < length trees → (term : Term) →
    IsTermWithin sorts (length codes) n term → (x y : Tree) → tree_in codes trees term ≡ Read x y → HasNumber trees x × HasNumber trees y
parts_numbered sorts codes trees n h (row.Read b i) w x y e =
    let one : tree_at trees b.0 ≡ x = cc in
    let two : tree_at trees i.0 ≡ y = cc in
    ((b.0, omega (arith, w.0), one), (i.0, omega (arith, w.1), two))
parts_numbered sorts codes trees n h (row.Lit z) w x y e = absurd cc
parts_numbered sorts codes trees n h (row.Start z) w x y e = absurd cc
parts_numbered sorts codes trees n h (row.Havoc k c z) w x y e = absurd cc
parts_numbered sorts codes trees n h (row.Slot c z) w x y e = absurd cc
parts_numbered sorts codes trees n h row.Cell w x y e = absurd cc
parts_numbered sorts codes trees n h (row.Write b i c) w x y e = absurd cc
parts_numbered sorts codes trees n h (row.Neg t) w x y e = absurd cc
parts_numbered sorts codes trees n h (row.Add t u) w x y e = absurd cc
parts_numbered sorts codes trees n h (row.Sub t u) w x y e = absurd cc
parts_numbered sorts codes trees n h (row.Mul t u) w x y e = absurd cc
parts_numbered sorts codes trees n h (row.Fun body z from args) w x y e = absurd cc

-- what is known was so, or the test is passed
known_by : (o : Option ℕ) (test : Bool) (place p : ℕ) → first_or o test place ≡ Some p → (o ≡ Some p) ⊎ (test ≡ true)
known_by (Some q) test place p e = inl e
known_by None true place p e = inr refl
known_by None false place p e = absurd cc

-- elements are read of terms of the table after a step
below_more : (sorts : Sorts) (bodies bound n : ℕ) → n < bound → (term : Term) → IsTermWithin sorts bodies n term →
    (old new : ℕ × ℕ → Option ℕ) (i : ℕ) → AreReadsBelow bound old →
    ((a j : ℕ) → new (a, j) ≡ first_or (old (a, j)) (is_read term a j) i) → AreReadsBelow bound new
below_more sorts bodies bound n h term within old new i kept updates a j place e =
    ⊎_elim (λ (f : old (a, j) ≡ Some place). kept a j place f)
    (λ (f : is_read term a j ≡ true).
    let parts = is_read_below sorts bodies n term within a j f in
    let one : a < bound = omega (arith, parts.0) in
    let two : j < bound = omega (arith, parts.1) in
    (one, two))
    (known_by (old (a, j)) (is_read term a j) i place (sym (updates a j) ∙ e))

-- the parts of terms that read elements have numbers after a step
parts_more : (sorts : Sorts) (codes : List Code) (trees ts : List Tree) (n : ℕ) → n < length trees → (term : Term) →
    IsTermWithin sorts (length codes) n term → tree_in codes trees term ≡ tree_at trees n → HavePartsIn trees ts →
    HavePartsIn trees (ts ++ tree_at trees n ∷ [])
parts_more sorts codes trees ts n h term within is kept x y place e =
    let u = tree_at trees n in
    ⊎_elim (λ (f : first_place ts (Read x y) ≡ Some place). kept x y place f)
    (λ (f : same_tree u (Read x y) ≡ true).
    parts_numbered sorts codes trees n h term within x y (is ∙ (same_tree_is u (Read x y)).0 f))
    (known_by (first_place ts (Read x y)) (same_tree u (Read x y)) (length ts) place (sym (first_place-push ts u (Read x y)) ∙ e))

-- all that is noted after a step
pub noted_more : (sorts : Sorts) (codes : List Code) (trees : List Tree) → AreApart trees → (terms : List TermId) →
    AreBefore (length trees) terms → (i : ℕ) (d : TermId) → i < length terms → (old new : List (Option ℕ)) →
    (old_reads new_reads : ℕ × ℕ → Option ℕ) → AreNoted trees (trees_of trees (take i terms)) old old_reads →
    (term : Term) → IsTermWithin sorts (length codes) (get_or terms i d).0 term → tree_in codes trees term
    ≡ tree_at trees (get_or terms i d).0 → length new ≡ length old →
    ((n : ℕ) → get_or new n None ≡ first_or (get_or old n None) (nat_eq (get_or terms i d).0 n) i) →
    ((a j : ℕ) → new_reads (a, j) ≡ first_or (old_reads (a, j)) (is_read term a j) i) →
    AreNoted trees (trees_of trees (take (i + 1) terms)) new new_reads
noted_more sorts codes trees apart terms before i d h old new old_reads new_reads kept term within is long updates reads =
    let t = get_or terms i d in
    let f = λ (x : TermId). tree_at trees x.0 in
    let below : t.0 < length trees = part_before (length trees) terms i t before (slice_get-get_or terms i d h) in
    let inside : length old ≤ length trees = kept.within in
    record {
      within = omega (arith, long, inside);
      places_noted =
          places_more trees apart terms before i d h (λ (n : ℕ). get_or old n None) (λ (n : ℕ). get_or new n None) kept.places_noted
          updates;
      reads_noted =
          reads_more sorts codes trees apart terms before i d h old_reads new_reads kept.reads_noted term within is reads;
      reads_below =
          below_more sorts (length codes) (length trees) t.0 below term within old_reads new_reads i kept.reads_below reads;
      parts =
          subst (HavePartsIn trees) (sym (map_more f terms i d h))
          (parts_more sorts codes trees (trees_of trees (take i terms)) t.0 below term within is kept.parts);
    }

-- trees of terms are the same where more stand behind
trees_of-more : (trees more : List Tree) (terms : List TermId) → AreBefore (length trees) terms →
    trees_of (trees ++ more) terms ≡ trees_of trees terms
trees_of-more trees more [] before = refl
trees_of-more trees more (t ∷ ts) before = rw (tree_at-more trees more t.0 before.0, trees_of-more trees more ts before.1) refl

-- a term behind all those of a list isn't among them
absent : (trees : List Tree) → AreApart trees → (bound : ℕ) → bound ≤ length trees → (terms : List TermId) → AreBefore bound terms →
    (n : ℕ) → bound ≤ n → n < length trees → first_place (trees_of trees terms) (tree_at trees n) ≡ None
absent trees apart bound least [] before n behind inside = refl
absent trees apart bound least (t ∷ ts) before n behind inside =
    let less : t.0 < bound = before.0 in
    let differ : nat_eq t.0 n ≡ false = ne_eqb t.0 n (λ (e : t.0 ≡ n). omega arith) in
    let told : same_tree (tree_at trees t.0) (tree_at trees n) ≡ false =
    sym (numbers_tell trees apart t.0 n (omega arith) inside) ∙ differ in
    rw (told, absent trees apart bound least ts before.1 n behind inside) refl

-- two places that aren't there
neither : (o p : Option ℕ) → ((n : ℕ) → o ≡ Some n → ⊥) → ((n : ℕ) → p ≡ Some n → ⊥) → o ≡ p
neither None None f g = refl
neither None (Some n) f g = absurd (g n refl)
neither (Some n) p f g = absurd (f n refl)

module _ (trees more : List Tree) (apart : AreApart (trees ++ more)) where
  -- a number of a longer table whose tree is in the shorter one
  number_kept : (n : ℕ) → n < length (trees ++ more) → HasNumber trees (tree_at (trees ++ more) n) → n < length trees
  number_kept n inside has =
      let m = has.0 in
      let less : m < length trees = has.1 in
      let long = length-append trees more in
      let same : m ≡ n = apart m n (omega (arith, long)) inside (tree_at-more trees more m less ∙ has.2) in
      omega arith

  module _ (terms : List TermId) (before : AreBefore (length trees) terms) where
    -- places by the numbers of a longer table
    places_kept : (old : List (Option ℕ)) → length old ≤ length trees →
        HasPlaces trees (trees_of trees terms) (λ (n : ℕ). get_or old n None) → (n : ℕ) → n < length (trees ++ more) →
        get_or old n None ≡ first_place (trees_of (trees ++ more) terms) (tree_at (trees ++ more) n)
    places_kept old within kept n inside =
        let long = length-append trees more in
        ⊎_elim (λ (h : n < length trees).
        kept n h ∙ ap (first_place (trees_of trees terms)) (sym (tree_at-more trees more n h))
        ∙ ap (λ (ts : List Tree). first_place ts (tree_at (trees ++ more) n)) (sym (trees_of-more trees more terms before)))
        (λ (h : length trees ≤ n).
        get_or_past old n None (omega arith)
        ∙ sym (absent (trees ++ more) apart (length trees) (omega (arith, long)) terms before n h inside))
        (cases_lt n (length trees))

    module _ (reads : ℕ × ℕ → Option ℕ) (kept : HasReads trees (trees_of trees terms) reads) (below : AreReadsBelow (length trees) reads)
        (parts : HavePartsIn trees (trees_of trees terms)) where
      -- an element that isn't read of terms of the shorter table
      read_absent : (a j : ℕ) → a < length (trees ++ more) → j < length (trees ++ more) → (a < length trees → j < length trees → ⊥) →
          reads (a, j) ≡ first_place (trees_of (trees ++ more) terms) (Read (tree_at (trees ++ more) a) (tree_at (trees ++ more) j))
      read_absent a j v w outside =
          let r = Read (tree_at (trees ++ more) a) (tree_at (trees ++ more) j) in
          neither (reads (a, j)) (first_place (trees_of (trees ++ more) terms) r)
          (λ n e. let both = below a j n e in outside both.0 both.1)
          (λ n e.
          let there : first_place (trees_of trees terms) r ≡ Some n =
          ap (λ (ts : List Tree). first_place ts r) (sym (trees_of-more trees more terms before)) ∙ e in
          let has = parts (tree_at (trees ++ more) a) (tree_at (trees ++ more) j) n there in
          outside (number_kept a v has.0) (number_kept j w has.1))

      -- elements that are read by the numbers of a longer table
      reads_kept : HasReads (trees ++ more) (trees_of (trees ++ more) terms) reads
      reads_kept a j v w =
          let ts = trees_of trees terms in
          ⊎_elim (λ (h : a < length trees).
          ⊎_elim (λ (g : j < length trees).
          kept a j h g ∙ ap (λ (x : Tree). first_place ts (Read x (tree_at trees j))) (sym (tree_at-more trees more a h))
          ∙ ap (λ (y : Tree). first_place ts (Read (tree_at (trees ++ more) a) y)) (sym (tree_at-more trees more j g))
          ∙ ap (λ (us : List Tree). first_place us (Read (tree_at (trees ++ more) a) (tree_at (trees ++ more) j)))
          (sym (trees_of-more trees more terms before)))
          (λ (g : length trees ≤ j). read_absent a j v w (λ x y. omega arith)) (cases_lt j (length trees)))
          (λ (h : length trees ≤ a). read_absent a j v w (λ x y. omega arith)) (cases_lt a (length trees))

    -- a number of the shorter table is one of the longer
    number_more : (t : Tree) → HasNumber trees t → HasNumber (trees ++ more) t
    number_more t has =
        let less : has.0 < length trees = has.1 in
        let long = length-append trees more in
        (has.0, omega (arith, long), tree_at-more trees more has.0 less ∙ has.2)

    -- all that is noted is so in a longer table
    noted_longer : (old new : List (Option ℕ)) (old_reads new_reads : ℕ × ℕ → Option ℕ) →
        AreNoted trees (trees_of trees terms) old old_reads → length new ≡ length (trees ++ more) →
        ((n : ℕ) → n < length (trees ++ more) → get_or new n None ≡ get_or old n None) →
        ((q : ℕ × ℕ) → new_reads q ≡ old_reads q) → AreNoted (trees ++ more) (trees_of (trees ++ more) terms) new new_reads
    noted_longer old new old_reads new_reads kept long same same_reads = record {
      within = omega (arith, long);
      places_noted = λ n inside. same n inside ∙ places_kept old kept.within kept.places_noted n inside;
      reads_noted = λ a j v w. same_reads (a, j) ∙ reads_kept old_reads kept.reads_noted kept.reads_below kept.parts a j v w;
      reads_below = λ a j n e.
          let both = kept.reads_below a j n (sym (same_reads (a, j)) ∙ e) in
          let count = length-append trees more in
          let one : a < length (trees ++ more) = omega (arith, both.0, count) in
          let two : j < length (trees ++ more) = omega (arith, both.1, count) in
          (one, two);
      parts = λ x y n e.
          let same_trees = sym (trees_of-more trees more terms before) in
          let has = kept.parts x y n (ap (λ (ts : List Tree). first_place ts (Read x y)) same_trees ∙ e) in
          (number_more x has.0, number_more y has.1);
    }

-- all that is noted is so of a longer list in a longer table, before its new terms
pub noted_before : (trees table : List Tree) → IsLonger trees table → AreApart table → (first terms : List TermId) →
    AreBefore (length trees) first → IsLonger first terms → (from : ℕ) → length first ≡ from → (old new : List (Option ℕ)) →
    (old_reads new_reads : ℕ × ℕ → Option ℕ) → AreNoted trees (trees_of trees first) old old_reads → length new ≡ length table →
    ((n : ℕ) → n < length table → get_or new n None ≡ get_or old n None) → ((q : ℕ × ℕ) → new_reads q ≡ old_reads q) →
    AreNoted table (trees_of table (take from terms)) new new_reads
noted_before trees table (more, e) apart first terms before (behind, f) from count old new old_reads new_reads kept long same same_reads =
    let taken : take from terms ≡ first = ap (take from) f ∙ take_at first behind from count in
    let moved : (now : List Tree) → now ≡ trees ++ more → AreApart now → length new ≡ length now →
    ((n : ℕ) → n < length now → get_or new n None ≡ get_or old n None) → AreNoted now (trees_of now first) new new_reads =
    λ now is apart_now long_now same_now.
    subst (λ (ts : List Tree). AreNoted ts (trees_of ts first) new new_reads) (sym is)
    (noted_longer trees more (subst AreApart is apart_now) first before old new old_reads new_reads kept
    (long_now ∙ ap length is) (subst (λ (ts : List Tree). (n : ℕ) → n < length ts → get_or new n None ≡ get_or old n None) is same_now)
    same_reads) in
    subst (λ (ts : List TermId). AreNoted table (trees_of table ts) new new_reads) (sym taken) (moved table e apart long same)

-- what is not there
pub none_there : (o : Option ℕ) → is_some o ≡ false → o ≡ None
none_there None e = refl
none_there (Some n) e = absurd cc

-- the first place, or how many terms there are, is the place
place_told : (terms : List Tree) (t : Tree) (o : Option ℕ) (count : ℕ) → o ≡ first_place terms t → count ≡ length terms →
    unwrap_or o count ≡ place_of terms t
place_told terms t o count e f =
    ap (λ (p : Option ℕ). unwrap_or p count) e ∙ ap (unwrap_or (first_place terms t)) f ∙ place_is_first terms t

-- positions by what is noted
pub positions_noted : (trees terms : List Tree) (p : Positions) → AreNoted trees terms p.places.items (get same_pair p.reads) →
    p.count ≡ length terms → ArePositions trees terms p
positions_noted trees terms p noted count = record {
  noted = noted;
  count = count;
  places = λ n inside. place_told terms (tree_at trees n) (get_or p.places.items n None) p.count (noted.places_noted n inside) count;
  reads = λ a j v w.
      place_told terms (Read (tree_at trees a) (tree_at trees j)) (get same_pair p.reads (a, j)) p.count (noted.reads_noted a j v w) count;
}
