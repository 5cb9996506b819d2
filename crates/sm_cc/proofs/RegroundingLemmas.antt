-- Classes that begin with others keep the first places that have their keys.
use Rattle.sm_cc.proofs.Imports.{◌≡◌, ℕ, pos, ◌<◌, ◌==◌, Bool, true, ◌&&◌, ◌||◌, Some, None, Option, List, [], ◌∷◌, length, slice_get, refl, sym, ap, subst, ◌∙◌, ⊎_elim, arith, int_eq, or_left, or_right, or_cases, same_Some, none-some, followed, BaseClasses, if_there, rows_pass, shapes_pass, one_head, equal_places, places_apart, row_brings, IsSound, Grows, are_together, board_of, IsExact, pair_brings, Keyed, Key, first_met, AreFirsts, TriesFirsts, KeysBring, labels_of, with_labels, row_key, shape_key, alike_at, headed_at, AreInside, IsCopy, AreKept, met_or, over_at, KeysMeet, MeetsFirst, AreLabelsKept, IsOver, get_below}
use Rattle.sm_cc.specs.Rows.{is_listed, Row}
use Rattle.sm_cc.specs.Closures.{Closure, Equation}
use Rattle.sm_cc.specs.Firsts.{label_at}
use Rattle.sm_cc.specs.BaseClasses.{AreBelow}
use Rattle.sm_cc.proofs.ClosuresLemmas.{grows_from, roots_of}
use Rattle.sm_cc.proofs.RoundsLemmas.{together_from}
use Rattle.sm_cc.proofs.FirstsLemmas.{firsts_more, met_has, met_already}

-- one more place is met for its key
pub meets_first : (key : ℕ → Option Keyed) (equal : ℕ → ℕ → Bool) (bound : ℕ) (old new : Keyed → Option ℕ) (i j : ℕ) (k : Key) →
    KeysMeet key equal bound → i < bound → key i ≡ Some k.items →
    ((v : Key) → new v.items ≡ first_met (old v.items) k.items v.items i) → new k.items ≡ Some j → MeetsFirst key equal i old new
meets_first key equal bound old new i j k meet inside has more first before =
    let other = met_has key equal old new i j k has more first before in
    firsts_more key equal old new i j k has more first (meet i j k.items inside (omega (arith, other.0, inside)) has other.1) before

-- what pairs of rows bring, rows bring
row_from_pair : (c : Closure) (i j : ℕ) → pair_brings (board_of c) (are_together c.roots.items) i j ≡ true →
    row_brings (board_of c) (are_together c.roots.items) i j ≡ true
row_from_pair c i j h =
    let rows = c.rows.items in
    let equal = are_together c.roots.items in
    let listed = is_listed (board_of c).equal i j in
    let alike = rows_pass rows i j (λ (r s : Row). shapes_pass r s int_eq) in
    let headed = rows_pass rows i j (λ (r s : Row). one_head r s && equal_places equal r.arguments.items s.arguments.items) in
    let read =
    rows_pass rows i j (λ (r s : Row). if_there r.element (λ e. equal e.index e.other && (j == e.written)))
    || rows_pass rows i j (λ (r s : Row). if_there r.element (λ e. places_apart (board_of c) equal e.index e.other && (j == e.before))) in
    or_right listed (alike || (headed || read))
    (⊎_elim (λ (x : alike ≡ true). or_left alike (headed || read) x)
    (λ (x : headed ≡ true). or_right alike (headed || read) (or_left headed read x)) (or_cases alike headed h))

-- in exact classes places with one key are in one class
pub exact_meet : (key : Closure → ℕ → Option Keyed) (c : Closure) → IsExact c → KeysBring (key c) c →
    KeysMeet (key c) (are_together c.roots.items) (length c.rows.items)
exact_meet key c exact bring i j k first second has has_too =
    exact.closed.brought i j first second (row_from_pair c i j (bring i j k has has_too))

-- a key that was met by the map before
pub over_already : (base met : Keyed → Option ℕ) (key k : Keyed) (place first : ℕ) → base key ≡ Some first →
    over_at base met k ≡ first_met (over_at base met k) key k place
over_already base met key k place first e =
    met_already (over_at base met) key k place first (ap (λ (o : Option ℕ). met_or o (met key)) e)

-- first places are so by the same keys in coarser classes
pub firsts_moved : (key moved : ℕ → Option Keyed) (equal coarser : ℕ → ℕ → Bool) (old new : Keyed → Option ℕ) (bound : ℕ) →
    ((i : ℕ) → i < bound → moved i ≡ key i) →
    ((i j : ℕ) → i < bound → j < bound → equal i j ≡ true → coarser i j ≡ true) →
    ((v : Key) → new v.items ≡ old v.items) → AreFirsts key equal old bound → AreFirsts moved coarser new bound
firsts_moved key moved equal coarser old new bound keys more met before = record {
  stored = λ (v : Key) (j : ℕ) (e : new v.items ≡ Some j).
      let x = before.stored v j (sym (met v) ∙ e) in
      (x.0, keys j x.0 ∙ x.1);
  found = λ (i : ℕ) (k : Keyed) (less : i < bound) (e : moved i ≡ Some k).
      let x = before.found i k less (sym (keys i less) ∙ e) in
      let below = (before.stored x.0 x.2.0 x.2.1).0 in
      (x.0, x.1, (x.2.0, met x.0 ∙ x.2.1, more i x.2.0 less below x.2.2));
}

-- a label is that of a root
pub root_with : (o : Option Equation) (l : ℕ) → label_at o ≡ Some l → (r : Equation) × (o ≡ Some r) × (r.right ≡ l)
root_with None l e = absurd (none-some l e)
root_with (Some r) l e = (r, refl, same_Some r.right l e)

-- places are in one class where they have the labels that they had
together_kept : (bound : ℕ) (old new : List Equation) → AreLabelsKept bound old new → (i j : ℕ) → i < bound → j < bound →
    are_together old i j ≡ true → are_together new i j ≡ true
together_kept bound old new kept i j first second h =
    let x = roots_of old i j h in
    let r = root_with (slice_get new i) x.first.right (kept i first ∙ ap label_at x.at_first) in
    let s = root_with (slice_get new j) x.second.right (kept j second ∙ ap label_at x.at_second) in
    together_from new i j r.0 s.0 r.1 s.1 (r.2 ∙ x.label ∙ sym s.2)

-- so the labels of several places are the same
pub labels_kept : (bound : ℕ) (old new : List Equation) → AreLabelsKept bound old new → (is : List ℕ) → AreBelow bound is →
    labels_of new is ≡ labels_of old is
labels_kept bound old new kept [] below = refl
labels_kept bound old new kept (i ∷ is) below =
    ap (λ (o : Option ℕ). followed o (λ (l : ℕ). followed (labels_of new is) (λ (ls : Keyed). Some ((l, pos 0) ∷ ls)))) (kept i below.0)
    ∙ ap (λ (o : Option Keyed). followed (label_at (slice_get old i)) (λ (l : ℕ).
    followed o (λ (ls : Keyed). Some ((l, pos 0) ∷ ls)))) (labels_kept bound old new kept is below.1)

-- a copy has the key of its row
row_kept : (bound : ℕ) (old new : List Equation) (r s : Row) → AreLabelsKept bound old new → IsCopy r s → AreBelow bound r.arguments.items →
    row_key new s ≡ row_key old r
row_kept bound old new r s kept copy below =
    ap (λ (o : Option ℕ). followed o (λ (h : ℕ). with_labels ((h, pos 0) ∷ []) (labels_of new s.arguments.items))) copy.head
    ∙ ap (λ (o : Option Keyed). followed r.head (λ (h : ℕ). with_labels ((h, pos 0) ∷ []) o))
    (ap (labels_of new) copy.arguments ∙ labels_kept bound old new kept r.arguments.items below)

-- copies have the keys of their rows by their forms
alike_kept : (g c : Closure) → AreKept g.rows.items c.rows.items → (i : ℕ) → i < length g.rows.items → alike_at c i ≡ alike_at g i
alike_kept g c kept i less =
    let r = get_below g.rows.items i less in
    let s = kept i r.0 r.1 in
    ap (λ (o : Option Row). followed o (λ (q : Row). shape_key q.shape)) s.1
    ∙ ap shape_key s.2.shape
    ∙ sym (ap (λ (o : Option Row). followed o (λ (q : Row). shape_key q.shape)) r.1)

-- copies have the keys of their rows by their heads with arguments
headed_kept : (g c : Closure) → AreKept g.rows.items c.rows.items → AreInside g.rows.items →
    AreLabelsKept (length g.rows.items) g.roots.items c.roots.items → (i : ℕ) → i < length g.rows.items → headed_at c i ≡ headed_at g i
headed_kept g c kept inside labels i less =
    let r = get_below g.rows.items i less in
    let s = kept i r.0 r.1 in
    ap (λ (o : Option Row). followed o (row_key c.roots.items)) s.1
    ∙ row_kept (length g.rows.items) g.roots.items c.roots.items r.0 s.0 labels s.2 (inside i r.0 r.1).0
    ∙ sym (ap (λ (o : Option Row). followed o (row_key g.roots.items)) r.1)

-- nothing is met yet by the other map
pub over_nothing : (base met : Keyed → Option ℕ) (k : Keyed) → met k ≡ None → over_at base met k ≡ base k
over_nothing base met k none = by (base k)
  where
    by : (o : Option ℕ) → met_or o (met k) ≡ o
    by (Some x) = refl
    by None = none

-- the places before are tried
tried_before : (key : Closure → ℕ → Option Keyed) (c : Closure) (met : Keyed → Option ℕ) (bound : ℕ) → IsSound c →
    AreFirsts (key c) (are_together c.roots.items) met bound → TriesFirsts key bound c c met
tried_before key c met bound sound firsts = record { grows = grows_from c sound; quiet = λ e. (refl, firsts) }

-- the places of other classes are tried by their forms
pub alike_before : (g : BaseClasses) (c : Closure) (base met : Keyed → Option ℕ) → IsSound c → IsOver g c →
    AreLabelsKept (length g.closure.rows.items) g.closure.roots.items c.roots.items →
    AreFirsts (alike_at g.closure) (are_together g.closure.roots.items) base (length g.closure.rows.items) →
    ((v : Key) → met v.items ≡ None) → TriesFirsts alike_at (length g.closure.rows.items) c c (over_at base met)
alike_before g c base met sound over labels firsts empty =
    let bound = length g.closure.rows.items in
    let old = g.closure.roots.items in
    let new = c.roots.items in
    tried_before alike_at c (over_at base met) bound sound
    (firsts_moved (alike_at g.closure) (alike_at c) (are_together old) (are_together new) base (over_at base met) bound
    (alike_kept g.closure c over.kept) (together_kept bound old new labels) (λ (v : Key). over_nothing base met v.items (empty v)) firsts)

-- the places of other classes are tried by their heads with arguments
pub headed_before : (g : BaseClasses) (c : Closure) (base met : Keyed → Option ℕ) → IsSound c → IsOver g c →
    AreLabelsKept (length g.closure.rows.items) g.closure.roots.items c.roots.items →
    AreFirsts (headed_at g.closure) (are_together g.closure.roots.items) base (length g.closure.rows.items) →
    ((v : Key) → met v.items ≡ None) → TriesFirsts headed_at (length g.closure.rows.items) c c (over_at base met)
headed_before g c base met sound over labels firsts empty =
    let bound = length g.closure.rows.items in
    let old = g.closure.roots.items in
    let new = c.roots.items in
    tried_before headed_at c (over_at base met) bound sound
    (firsts_moved (headed_at g.closure) (headed_at c) (are_together old) (are_together new) base (over_at base met) bound
    (headed_kept g.closure c over.kept over.inside labels) (together_kept bound old new labels)
    (λ (v : Key). over_nothing base met v.items (empty v)) firsts)

-- classes still begin with the others as the log grows
pub over_grown : (g : BaseClasses) (a b : Closure) → IsOver g a → Grows a b → IsOver g b
over_grown g a b over grows = record {
  kept = subst (λ (rows : List Row). AreKept g.closure.rows.items rows) (ap (λ r. r.items) (sym grows.rows)) over.kept;
  keyed = over.keyed;
  inside = over.inside;
}
