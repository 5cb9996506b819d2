-- Labels of places behind those of a base tell what equals, and tell the classes where the places are new and quiet.
use Rattle.sm_cc.proofs.Imports.{◌≡◌, ◌⊎◌, ℕ, zero, suc, pos, ◌+◌, ◌-◌, ◌<◌, ◌≤◌, Bool, true, false, ◌&&◌, ◌||◌, inl, inr, Some, None, Option, List, [], ◌∷◌, ◌++◌, length, map, take, drop, slice_get, refl, sym, ap, subst, ◌∙◌, ⊎_elim, arith, list_any, eqb-true, or_cases, cases_lt, false_from_ne_true, or_parts, length-map, take-append-drop, same_Some, int_eq, followed, BaseClasses, Scanned, Board, PlacePairs, one_head, shapes_pass, places_apart, equal_places, ArePlacesClosed, SamePlaces, HasElement, are_together, board_of, pair_brings, IsExact, Keyed, with_labels, row_key, shape_key, AreInside, AreLabels, IsBehind, seen, headed_in, AreNew, AreLooked, has_labels, are_parted, IsQuiet, IsQuietBehind, AreQuiet}
use Rattle.std.proofs.lemmas.Bool.{true≢false}
use Rattle.std.proofs.lemmas.List.{length-append}
use Rattle.sm_cc.specs.Rows.{is_listed, Row, Element}
use Rattle.sm_cc.specs.Log.{Equal}
use Rattle.sm_cc.specs.Closures.{Closure, Equation}
use Rattle.sm_cc.specs.Firsts.{label_at}
use Rattle.sm_cc.specs.BaseClasses.{AreBelow}
use Rattle.sm_cc.proofs.FirstsLemmas.{alike_keys, headed_keys}
use Rattle.sm_cc.proofs.FreshLemmas.{IsUnder, AddsPlaces, brings_hit, element_before, element_below, SayNothing, apart_before, not_apart, IsReadSo, quiet_so, old_read_so, added_are_closed, AreLabelsBelow, HaveOwnLabels, fresh_roots_add}
use Rattle.sm_cc.proofs.FreshLemmas.{together_there, within_old}
use Rattle.sm_cc.proofs.LabelsLemmas.{right_at, together_by}
use Rattle.sm_cc.proofs.LookedLemmas.{alike, headed, get_behind, under_behind, together_equal}
use Rattle.sm_cc.proofs.RegroundingLemmas.{labels_kept}
use Rattle.sm_cc.proofs.RoundsLemmas.{together_from}
use Rattle.sm_cc.proofs.SoundLemmas.{noted_so, brings_listed}
use Rattle.sm_cc.proofs.ExplainingLemmas.{pass_gives}

-- what stands among the first of a list stands in it
taken_same : {A : Type 0} (xs : List A) (m i : ℕ) → i < m → slice_get xs i ≡ slice_get (take m xs) i
taken_same [] zero i h = absurd (omega (arith, h))
taken_same [] (suc m) i h = refl
taken_same (x ∷ xs) zero i h = absurd (omega (arith, h))
taken_same (x ∷ xs) (suc m) zero h = refl
taken_same (x ∷ xs) (suc m) (suc i) h = let less : i < m = omega (arith, h) in taken_same xs m i less

-- the key of a row whose arguments are among the first places is known by these
whole_key : (roots : List Equation) (m : ℕ) (r : Row) → AreBelow m r.arguments.items → row_key roots r ≡ row_key (take m roots) r
whole_key roots m r below =
    ap (λ (o : Option Keyed). followed r.head (λ (h : ℕ). with_labels ((h, pos 0) ∷ []) o))
    (labels_kept m (take m roots) roots (λ (i : ℕ) (h : i < m). ap label_at (taken_same roots m i h)) r.arguments.items below)

-- the labels of exact classes are places that are there
labels_below : (c : Closure) → IsExact c → AreLabelsBelow (length c.roots.items) c.roots.items
labels_below c exact i r at =
    let root = exact.sound.rooted i r at in
    (together_there c.roots.items r.left r.right
    (noted_so c (are_together c.roots.items) exact.sound exact.closed r.entry (Equal r.left r.right) root.1)).1

-- what no element passes
none_passes : {A : Type 0} (p : A → Bool) (xs : List A) (n : ℕ) (x : A) → list_any p xs ≡ false → slice_get xs n ≡ Some x → p x ≡ false
none_passes p [] n x h e = absurd (let k : None ≡ Some x = e in cc)
none_passes {A} p (y ∷ xs) zero x h e = ap p (sym (same_Some y x e)) ∙ first (p y) (list_any p xs) h
  where
    first : (a b : Bool) → (a || b) ≡ false → a ≡ false
    first false b f = refl
    first true b f = f
none_passes {A} p (y ∷ xs) (suc n) x h e = none_passes p xs n x (rest (p y) (list_any p xs) h) e
  where
    rest : (a b : Bool) → (a || b) ≡ false → b ≡ false
    rest false b f = f
    rest true b f = absurd (true≢false f)

module _ (g : BaseClasses) (more : List Row) (s : Scanned) (looked : AreLooked g more s) (b : Board) (behind : IsBehind g.closure more b) where
  abbrev first : ℕ
  first = length g.closure.rows.items

  abbrev all : List Row
  all = g.closure.rows.items ++ more

  abbrev roots : List Equation
  roots = s.roots.items

  abbrev labels : List ℕ
  labels = map (λ (e : Equation). e.right) roots

  -- places that have one label are equal
  pub labels_so : (i j l : ℕ) → slice_get labels i ≡ Some l → slice_get labels j ≡ Some l → SamePlaces b i j
  labels_so i j l at_i at_j equal closed =
      let r = right_at roots i l at_i in
      let t = right_at roots j l at_j in
      together_equal g.closure more b behind equal closed roots looked.so i j
      (together_from roots i j r.0 t.0 r.1 t.1 (r.2 ∙ sym t.2))

  module _ (exact : IsExact g.closure) (inside : AreInside g.closure.rows.items) (count : length roots ≡ first + length more)
      (new : AreNew first all roots) (apart : List (ℕ × ℕ)) (quiet : AreQuiet g.closure more roots apart)
      (only_equal :
      (i j : ℕ) → is_listed b.equal i j ≡ true → (is_listed (board_of g.closure).equal i j ≡ true) × (i < first) × (j < first))
      (only_unequal :
      (i j : ℕ) → is_listed b.unequal i j ≡ true →
      (is_listed (board_of g.closure).unequal i j ≡ true) ⊎ ((n : ℕ) × (slice_get apart n ≡ Some (i, j)))) where
    abbrev old : PlacePairs
    old = are_together g.closure.roots.items

    abbrev pairs : PlacePairs
    pairs = are_together roots

    under : IsUnder (board_of g.closure) b
    under = under_behind g.closure more b behind

    long : length b.rows ≡ length roots
    long = ap length behind.rows ∙ length-append g.closure.rows.items more ∙ sym count

    -- the labels are those of the base, with the place of each new one behind them
    abbrev fresh : List Equation
    fresh = drop first roots

    split : g.closure.roots.items ++ fresh ≡ roots
    split = ap (λ (rs : List Equation). rs ++ fresh) (sym looked.begins) ∙ take-append-drop first roots

    own : HaveOwnLabels (length g.closure.roots.items) fresh
    own k r at =
        let n = exact.sound.count in
        let place = length g.closure.roots.items + k in
        new.own place r (omega (arith, n))
        (ap (λ (rs : List Equation). slice_get rs place) (sym split) ∙ get_behind g.closure.roots.items fresh place k refl ∙ at)

    adds : AddsPlaces first (length b.rows) old pairs
    adds =
        subst (λ (n : ℕ). AddsPlaces n (length b.rows) old pairs) exact.sound.count
        (subst (λ (n : ℕ). AddsPlaces (length g.closure.roots.items) n old pairs) (sym long)
        (subst (λ (rs : List Equation). AddsPlaces (length g.closure.roots.items) (length rs) old (are_together rs)) split
        (fresh_roots_add g.closure.roots.items fresh (labels_below g.closure exact) own)))

    -- a row stands where it does
    at_all : (i : ℕ) (r : Row) → slice_get b.rows i ≡ Some r → slice_get all i ≡ Some r
    at_all i r e = ap (λ (rs : List Row). slice_get rs i) (sym behind.rows) ∙ e

    -- the arguments of a place have labels when it is looked at
    arguments_seen : (i : ℕ) (r : Row) → i < length roots → slice_get all i ≡ Some r → AreBelow (seen first i) r.arguments.items
    arguments_seen i r less at =
        ⊎_elim
        (λ (below : i < first).
        let same : first ≡ seen first i = omega (arith, below) in
        subst (λ (n : ℕ). AreBelow n r.arguments.items) same
        (inside i r (sym (within_old g.closure.rows.items more i below) ∙ at)).0)
        (λ (above : first ≤ i).
        let same : i ≡ seen first i = omega (arith, above) in
        subst (λ (n : ℕ). AreBelow n r.arguments.items) same (new.below i r above less at))
        (cases_lt i first)

    -- a place's key by the labels of all
    key_seen : (i : ℕ) (r : Row) (k : Keyed) → i < length roots → slice_get all i ≡ Some r → row_key roots r ≡ Some k →
        headed_in first all roots i ≡ Some k
    key_seen i r k less at has =
        ap (λ (o : Option Row). followed o (row_key (take (seen first i) roots))) at
        ∙ sym (whole_key roots (seen first i) r (arguments_seen i r less at)) ∙ has

    -- no pair of rows brings anything of a new place
    pairs_quiet : (i k : ℕ) → i < k → first ≤ k → k < length b.rows → pair_brings b pairs i k ≡ false
    pairs_quiet i k less above within =
        let below : k < length roots = omega (arith, within, long) in
        let before : i < length roots = omega (arith, less, below) in
        false_from_ne_true (pair_brings b pairs i k)
        (λ (h : pair_brings b pairs i k ≡ true).
        ⊎_elim
        (λ (x : alike b i k ≡ true).
        let p = pass_gives b.rows i k (λ r s. shapes_pass r s int_eq) x in
        let keys = alike_keys p.0.shape p.1.shape p.4 in
        new.alike k above below i keys.0 less
        (ap (λ (o : Option Row). followed o (λ (r : Row). shape_key r.shape)) (at_all k p.1 p.3) ∙ keys.2)
        (ap (λ (o : Option Row). followed o (λ (r : Row). shape_key r.shape)) (at_all i p.0 p.2) ∙ keys.1))
        (λ (x : headed b pairs i k ≡ true).
        let p = pass_gives b.rows i k (λ r s. one_head r s && equal_places pairs r.arguments.items s.arguments.items) x in
        let keys = headed_keys roots p.0 p.1 p.4 in
        new.headed k above below i keys.0 less (key_seen k p.1 keys.0 below (at_all k p.1 p.3) keys.2)
        (key_seen i p.0 keys.0 before (at_all i p.0 p.2) keys.1))
        (or_cases (alike b i k) (headed b pairs i k) h))

    -- what is given not to be equal says nothing of the places of an element
    says_nothing : (p q : ℕ) → are_parted roots apart p q ≡ false → SayNothing (board_of g.closure) b pairs p q
    says_nothing p q parted x y listed =
        ⊎_elim (λ (was : is_listed (board_of g.closure).unequal x y ≡ true). inl was)
        (λ (at : (n : ℕ) × (slice_get apart n ≡ Some (x, y))).
        inr (or_parts (pairs x p && pairs y q) (pairs x q && pairs y p) (none_passes (has_labels roots p q) apart at.0 (x, y) parted at.1)))
        (only_unequal x y listed)

    -- an element at a place of the base brings nothing more
    old_so : (i : ℕ) → i < first → (e : Element) → HasElement g.closure.rows.items i e → IsReadSo b pairs i e
    old_so i within e has =
        let below = element_below g.closure.rows.items inside i e has in
        let row = quiet.old i has.0 has.1 in
        let is = subst (IsQuiet g.closure roots apart i) has.2 row in
        ⊎_elim
        (λ (same : old i e.before ≡ true). (
          λ (h : pairs e.index e.other ≡ true) there.
              let was = sym (adds.kept e.index e.other below.0 below.2) ∙ h in
              adds.kept i e.written within below.1
              ∙ exact.closed.brought i e.written within below.1
              (brings_hit (board_of g.closure) old i e.written (e, has, below.1, was, refl)),
          λ (h : places_apart b pairs e.index e.other ≡ true) there. adds.kept i e.before within below.3 ∙ same,
        ))
        (λ (parted : are_parted roots apart e.index e.other ≡ false).
        old_read_so (board_of g.closure) b old pairs inside under.rows adds exact.closed i within e has
        (apart_before (board_of g.closure) b old pairs under.rows adds e.index e.other below.0 below.2
        (says_nothing e.index e.other parted))) is

    -- a new one brings nothing
    new_so : (i : ℕ) → first ≤ i → (e : Element) → HasElement b.rows i e → IsReadSo b pairs i e
    new_so i above e has =
        let k = i - first in
        let place : i ≡ first + k = omega (arith, above) in
        let at = sym (get_behind g.closure.rows.items more i k place) ∙ at_all i has.0 has.1 in
        let is = subst (IsQuietBehind g.closure roots apart) has.2 (quiet.new k has.0 at) in
        quiet_so b pairs i e (
          adds.kept e.index e.other is.0 is.1 ∙ is.2,
          not_apart (board_of g.closure) b old pairs under.rows adds e.index e.other is.0 is.1
              (says_nothing e.index e.other is.4) is.3,
        )

    -- so the labels are closed
    pairs_closed : ArePlacesClosed b pairs
    pairs_closed =
        added_are_closed (board_of g.closure) b old pairs inside under.rows adds exact.closed
        (λ (i j : ℕ) f l (h : is_listed b.equal i j ≡ true).
        let x = only_equal i j h in
        adds.kept i j x.1 x.2
        ∙ exact.closed.brought i j x.1 x.2 (brings_listed (board_of g.closure) old i j x.0)) pairs_quiet
        (λ (i : ℕ) (e : Element) (has : HasElement b.rows i e).
        ⊎_elim (λ (within : i < first). old_so i within e (element_before g.closure.rows.items b.rows under.rows i within e has))
        (λ (above : first ≤ i). new_so i above e has) (cases_lt i first))

    -- two places have one label exactly where they are in one class
    pub labels_exact : AreLabels b labels
    labels_exact = record {
      count = length-map roots (λ (e : Equation). e.right) ∙ sym long;
      each = λ i j l m at_i at_j.
          let r = right_at roots i l at_i in
          let t = right_at roots j m at_j in
          let says = together_by roots i j r.0 t.0 r.1 t.1 in (
            λ (e : l ≡ m). labels_so i j l at_i (at_j ∙ ap Some (sym e)),
            λ (same : SamePlaces b i j).
                sym r.2 ∙ eqb-true r.0.right t.0.right (sym says ∙ same pairs pairs_closed) ∙ t.2,
          );
    }
