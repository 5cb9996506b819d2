-- Places with one key come into one class with the first that has it.
use Rattle.sm_cc.proofs.Imports.{◌≡◌, ◌⊎◌, ◌==◌, ℕ, ℤ, pos, ◌<◌, ◌≤◌, Bool, true, false, ◌&&◌, ◌||◌, if◌then◌else◌, cond, Decides, Some, None, Option, List, [], ◌∷◌, ◌++◌, append_assoc, length, slice_get, refl, sym, ap, subst, ◌∙◌, ⊎_elim, inl, inr, drop, get_or, ◌+◌, arith, int_eq, false≢true, eqb-true, eq-eqb, and_parts, and_from, or_left, or_right, or_cases, cases_order, Decides-eqb, Decides-int_eq, same_Some, none-some, slice_eq-Decides, drop_more, followed, Shape, if_there, one_head, shapes_pass, equal_places, IsSound, are_together, Tries, AllPairsSettled, Keyed, Key, same_part, same_key, first_met, AreFirsts, TriesFirst, TriesFirsts, KeysBring, IsPairThere, shape_key, labels_of, with_labels, row_key, alike_at, headed_at, AreKeysSettled, AreAlikeSettled, AreHeadedSettled}
use Rattle.std.proofs.lemmas.Bool.{true≢false}
use Rattle.sm_cc.specs.Rows.{Row}
use Rattle.sm_cc.specs.Closures.{Closure, Equation}
use Rattle.sm_cc.specs.Firsts.{label_at}
use Rattle.sm_cc.proofs.ClosuresLemmas.{grows_from, grows_on, roots_of}
use Rattle.sm_cc.proofs.RoundsLemmas.{together_from}

-- two parts of keys are equal where their numbers are
same_part-Decides : (p q : ℕ × ℤ) → Decides (same_part p q) (p ≡ q)
same_part-Decides p q = by (p.0 == q.0) (int_eq p.1 q.1) (Decides-eqb p.0 q.0) (Decides-int_eq p.1 q.1)
  where
    by : (a b : Bool) → Decides a (p.0 ≡ q.0) → Decides b (p.1 ≡ q.1) → Decides (a && b) (p ≡ q)
    by true b e d = (
      λ (t : b ≡ true). ap (λ (n : ℕ). (n, p.1)) (e.0 refl) ∙ ap (λ (z : ℤ). (q.0, z)) (d.0 t),
      λ (both : p ≡ q). d.1 (ap (λ (r : ℕ × ℤ). r.1) both),
    )
    by false b e d = (
      λ (t : false ≡ true). absurd cc,
      λ (both : p ≡ q). e.1 (ap (λ (r : ℕ × ℤ). r.0) both),
    )

-- two keys are equal where their parts are, one by one
pub same_key-Decides : (k l : Keyed) → Decides (same_key k l) (k ≡ l)
same_key-Decides k l = slice_eq-Decides same_part-Decides k l (same_key k l) refl

abbrev nothing : Option ℕ
nothing = None

-- what is met where nothing was met before
met_anew : (o : Option ℕ) (key k : Keyed) (place j : ℕ) → first_met o key k place ≡ Some j →
    (o ≡ Some j) ⊎ ((o ≡ None) × (k ≡ key) × (j ≡ place))
met_anew (Some x) key k place j e = inl e
met_anew None key k place j e = by (same_key k key) refl e
  where
    by : (b : Bool) → same_key k key ≡ b → (if b then Some place else nothing) ≡ Some j →
        (nothing ≡ Some j) ⊎ ((nothing ≡ None) × (k ≡ key) × (j ≡ place))
    by true same f = inr (refl, (same_key-Decides k key).0 same, sym (same_Some place j f))
    by false other f = inl f

-- what was met stays so
pub met_still : (o : Option ℕ) (key k : Keyed) (place j : ℕ) → o ≡ Some j → first_met o key k place ≡ Some j
met_still (Some x) key k place j e = e
met_still None key k place j e = absurd cc

-- one more place is in one class with the first that has its key
pub firsts_more : (key : ℕ → Option Keyed) (equal : ℕ → ℕ → Bool) (old new : Keyed → Option ℕ) (i j : ℕ) (k : Key) →
    key i ≡ Some k.items → ((v : Key) → new v.items ≡ first_met (old v.items) k.items v.items i) → new k.items ≡ Some j →
    equal i j ≡ true → AreFirsts key equal old i → AreFirsts key equal new (i + 1)
firsts_more key equal old new i j k has more first same before = record {
  stored = λ (l : Key) (m : ℕ) (e : new l.items ≡ Some m).
      ⊎_elim
      (λ (was : old l.items ≡ Some m). let x = before.stored l m was in (omega (arith, x.0), x.1))
      (λ (anew : (old l.items ≡ None) × (l.items ≡ k.items) × (m ≡ i)). (
        omega (arith, anew.2),
        subst (λ (n : ℕ). key n ≡ Some l.items) (sym anew.2) (has ∙ ap Some (sym anew.1)),
      ))
      (met_anew (old l.items) k.items l.items i m (sym (more l) ∙ e));
  found = λ (n : ℕ) (l : Keyed) (less : n < i + 1) (e : key n ≡ Some l).
      ⊎_elim
      (λ (below : n < i).
      let x = before.found n l below e in
      (x.0, x.1, (x.2.0, more x.0 ∙ met_still (old x.0.items) k.items x.0.items i x.2.0 x.2.1, x.2.2)))
      (λ (here : n ≡ i). (
        k,
        same_Some k.items l (sym has ∙ subst (λ (p : ℕ). key p ≡ Some l) here e),
        (j, first, subst (λ (p : ℕ). equal p j ≡ true) (sym here) same),
      ))
      (below_or n i less);
}
  where
    below_or : (n i : ℕ) → n < i + 1 → (n < i) ⊎ (n ≡ i)
    below_or n i less =
        ⊎_elim (λ (same : n ≡ i). inr same)
        (λ (other : (n < i) ⊎ (i < n)). ⊎_elim (λ (below : n < i). inl below) (λ (above : i < n). absurd (omega (arith, less, above))) other)
        (cases_order n i)

-- a place without a key changes nothing
pub firsts_none : (key : ℕ → Option Keyed) (equal : ℕ → ℕ → Bool) (met : Keyed → Option ℕ) (i : ℕ) → key i ≡ None →
    AreFirsts key equal met i → AreFirsts key equal met (i + 1)
firsts_none key equal met i none before = record {
  stored = λ (l : Key) (m : ℕ) (e : met l.items ≡ Some m). let x = before.stored l m e in (omega (arith, x.0), x.1);
  found = λ (n : ℕ) (l : Keyed) (less : n < i + 1) (e : key n ≡ Some l).
      ⊎_elim (λ (below : n < i). before.found n l below e)
      (λ (here : n ≡ i). absurd (none-some l (sym none ∙ subst (λ (p : ℕ). key p ≡ Some l) here e)))
      (below_or n i less);
}
  where
    below_or : (n i : ℕ) → n < i + 1 → (n < i) ⊎ (n ≡ i)
    below_or n i less =
        ⊎_elim (λ (same : n ≡ i). inr same)
        (λ (other : (n < i) ⊎ (i < n)). ⊎_elim (λ (below : n < i). inl below) (λ (above : i < n). absurd (omega (arith, less, above))) other)
        (cases_order n i)

-- the place that is met for a key has it
pub met_has : (key : ℕ → Option Keyed) (equal : ℕ → ℕ → Bool) (old new : Keyed → Option ℕ) (i j : ℕ) (k : Key) →
    key i ≡ Some k.items → ((v : Key) → new v.items ≡ first_met (old v.items) k.items v.items i) → new k.items ≡ Some j →
    AreFirsts key equal old i → (j < i + 1) × (key j ≡ Some k.items)
met_has key equal old new i j k has more first before =
    ⊎_elim
    (λ (was : old k.items ≡ Some j). let x = before.stored k j was in (omega (arith, x.0), x.1))
    (λ (anew : (old k.items ≡ None) × (k.items ≡ k.items) × (j ≡ i)).
    (omega (arith, anew.2), subst (λ (n : ℕ). key n ≡ Some k.items) (sym anew.2) has))
    (met_anew (old k.items) k.items k.items i j (sym (more k) ∙ first))

-- the first place with a key was tried
pub tried_first : (key : ℕ → Option Keyed) (a b : Closure) (old new : Keyed → Option ℕ) (i j : ℕ) (k : Key) →
    i < length a.rows.items → KeysBring key a → key i ≡ Some k.items →
    ((v : Key) → new v.items ≡ first_met (old v.items) k.items v.items i) → new k.items ≡ Some j → Tries (IsPairThere i j) a b →
    TriesFirst key i a b old new
tried_first key a b old new i j k inside bring has more first tries = record {
  grows = tries.grows;
  quiet = λ (e : length b.entries.items ≡ length a.entries.items).
      let still = tries.quiet e in (
        still.0,
        λ (before : AreFirsts key (are_together a.roots.items) old i).
            let other = met_has key (are_together a.roots.items) old new i j k has more first before in
            let there : j < length a.rows.items = omega (arith, other.0, inside) in
            firsts_more key (are_together a.roots.items) old new i j k has more first
            (still.1 inside there (bring i j k.items has other.1)) before,
      );
}

-- a place without a key is tried
pub tried_none : (key : ℕ → Option Keyed) (c : Closure) (met : Keyed → Option ℕ) (i : ℕ) → IsSound c → key i ≡ None →
    TriesFirst key i c c met met
tried_none key c met i sound none = record {
  grows = grows_from c sound;
  quiet = λ e. (refl, firsts_none key (are_together c.roots.items) met i none);
}

-- one more is tried
pub firsts_tried_more : (key : Closure → ℕ → Option Keyed) (i : ℕ) (a b c : Closure) (old new : Keyed → Option ℕ) →
    TriesFirsts key i a b old → TriesFirst (key b) i b c old new → TriesFirsts key (i + 1) a c new
firsts_tried_more key i a b c old new one two = record {
  grows = grows_on a b c one.grows two.grows;
  quiet = λ (e : length c.entries.items ≡ length a.entries.items).
      let first = one.quiet (omega (arith, e, one.grows.longer, two.grows.longer)) in
      let second = two.quiet (omega (arith, e, one.grows.longer, two.grows.longer)) in (
        second.0 ∙ first.0,
        subst (λ (d : Closure). AreFirsts (key d) (are_together d.roots.items) new (i + 1)) first.0
            (second.1 (subst (λ (d : Closure). AreFirsts (key d) (are_together d.roots.items) old i) (sym first.0) first.1)),
      );
}

-- all were tried, so places with one key are in one class
keys_settled : (key : Closure → ℕ → Option Keyed) (c : Closure) (met : Keyed → Option ℕ) (n : ℕ) →
    AreFirsts (key c) (are_together c.roots.items) met n → length c.rows.items ≤ n → AreKeysSettled key c
keys_settled key c met n firsts all i j k below below_too has has_too =
    let first : i < n = omega (arith, below, all) in
    let second : j < n = omega (arith, below_too, all) in
    let roots = c.roots.items in
    let x = firsts.found i k first has in
    let y = firsts.found j k second has_too in
    let one_key = ap met (x.1 ∙ sym y.1) in
    let same : x.2.0 ≡ y.2.0 = same_Some x.2.0 y.2.0 (sym x.2.1 ∙ one_key ∙ y.2.1) in
    let p = roots_of roots i x.2.0 x.2.2 in
    let q = roots_of roots j x.2.0 (subst (λ (n : ℕ). are_together roots j n ≡ true) (sym same) y.2.2) in
    let one : p.second ≡ q.second = same_Some p.second q.second (sym p.at_second ∙ q.at_second) in
    together_from roots i j p.first q.first p.at_first q.at_first
    (p.label ∙ ap (λ (e : Equation). e.right) one ∙ sym q.label)

-- where all places were tried
pub firsts_tried_all : (key : Closure → ℕ → Option Keyed) (n : ℕ) (a b : Closure) (met : Keyed → Option ℕ) → length a.rows.items ≤ n →
    TriesFirsts key n a b met → Tries (AreKeysSettled key) a b
firsts_tried_all key n a b met all tried = record {
  grows = tried.grows;
  quiet = λ (e : length b.entries.items ≡ length a.entries.items).
      ((tried.quiet e).0, keys_settled key a met n (tried.quiet e).1 all);
}

-- rows of one linear form have one key
pub alike_keys : (o p : Option Shape) → if_there o (λ f. if_there p (λ g. (f.parts == g.parts) && int_eq f.constant g.constant)) ≡ true →
    (k : Keyed) × (shape_key o ≡ Some k) × (shape_key p ≡ Some k)
alike_keys None p h = absurd (false≢true h)
alike_keys (Some f) None h = absurd (false≢true h)
alike_keys (Some f) (Some g) h =
    let both = and_parts (f.parts == g.parts) (int_eq f.constant g.constant) h in
    let parts = eqb-true f.parts g.parts both.0 in
    let constant = (Decides-int_eq f.constant g.constant).0 both.1 in (
      (f.parts, f.constant) ∷ [],
      refl,
      ap (λ (n : ℕ). Some ((n, g.constant) ∷ [])) (sym parts) ∙ ap (λ (z : ℤ). Some ((f.parts, z) ∷ [])) (sym constant),
    )

-- equal places have the same labels
equal_labels : (roots : List Equation) (is js : List ℕ) → equal_places (are_together roots) is js ≡ true →
    (ls : Keyed) × (labels_of roots is ≡ Some ls) × (labels_of roots js ≡ Some ls)
equal_labels roots [] [] h = ([], refl, refl)
equal_labels roots [] (j ∷ js) h = absurd (false≢true h)
equal_labels roots (i ∷ is) [] h = absurd (false≢true h)
equal_labels roots (i ∷ is) (j ∷ js) h =
    let both = and_parts (are_together roots i j) (equal_places (are_together roots) is js) h in
    let x = roots_of roots i j both.0 in
    let rest = equal_labels roots is js both.1 in (
      (x.first.right, pos 0) ∷ rest.0,
      step i is x.first rest.0 x.at_first rest.1,
      step j js x.second rest.0 x.at_second rest.2 ∙ ap (λ (n : ℕ). Some ((n, pos 0) ∷ rest.0)) (sym x.label),
    )
  where
    step : (n : ℕ) (ns : List ℕ) (r : Equation) (ls : Keyed) → slice_get roots n ≡ Some r → labels_of roots ns ≡ Some ls →
        labels_of roots (n ∷ ns) ≡ Some ((r.right, pos 0) ∷ ls)
    step n ns r ls e f =
        ap (λ (o : Option Equation). followed (label_at o) (λ (l : ℕ).
        followed (labels_of roots ns) (λ (ks : Keyed). Some ((l, pos 0) ∷ ks)))) e
        ∙ ap (λ (o : Option Keyed). followed o (λ (ks : Keyed). Some ((r.right, pos 0) ∷ ks))) f

-- rows of one head with equal arguments have one key
pub headed_keys : (roots : List Equation) (r s : Row) →
    (one_head r s && equal_places (are_together roots) r.arguments.items s.arguments.items) ≡ true →
    (k : Keyed) × (row_key roots r ≡ Some k) × (row_key roots s ≡ Some k)
headed_keys roots r s h =
    let both = and_parts (one_head r s) (equal_places (are_together roots) r.arguments.items s.arguments.items) h in
    let ls = equal_labels roots r.arguments.items s.arguments.items both.1 in
    by r.head s.head both.0 ls
  where
    by : (a b : Option ℕ) → if_there a (λ (x : ℕ). if_there b (λ (y : ℕ). x == y)) ≡ true →
        (ls : Keyed) × (labels_of roots r.arguments.items ≡ Some ls) × (labels_of roots s.arguments.items ≡ Some ls) →
        (k : Keyed) × (followed a (λ (x : ℕ). with_labels ((x, pos 0) ∷ []) (labels_of roots r.arguments.items)) ≡ Some k)
        × (followed b (λ (x : ℕ). with_labels ((x, pos 0) ∷ []) (labels_of roots s.arguments.items)) ≡ Some k)
    by None b e ls = absurd (false≢true e)
    by (Some x) None e ls = absurd (false≢true e)
    by (Some x) (Some y) e ls =
        let same = eqb-true x y e in (
          (x, pos 0) ∷ ls.0,
          ap (with_labels ((x, pos 0) ∷ [])) ls.1,
          ap (with_labels ((y, pos 0) ∷ [])) ls.2 ∙ ap (λ (n : ℕ). Some ((n, pos 0) ∷ ls.0)) (sym same),
        )

-- what pairs of rows bring is so, where places with one key are in one class
pub pairs_by_keys : (c : Closure) → AreAlikeSettled c → AreHeadedSettled c → AllPairsSettled c
pairs_by_keys c alike headed i first j less h = by (slice_get c.rows.items i) (slice_get c.rows.items j) refl refl h
  where
    second : j < length c.rows.items
    second = omega (arith, first, less)

    by : (o p : Option Row) → slice_get c.rows.items i ≡ o → slice_get c.rows.items j ≡ p →
        (if_there o (λ r. if_there p (λ s. shapes_pass r s int_eq))
        || if_there o (λ r. if_there p (λ s. one_head r s && equal_places (are_together c.roots.items) r.arguments.items s.arguments.items)))
        ≡ true → are_together c.roots.items i j ≡ true
    by None p e f g = absurd (false≢true g)
    by (Some r) None e f g = absurd (false≢true g)
    by (Some r) (Some s) e f g =
        ⊎_elim
        (λ (x : shapes_pass r s int_eq ≡ true).
        let k = alike_keys r.shape s.shape x in
        alike i j k.0 first second
        (ap (λ (o : Option Row). followed o (λ (q : Row). shape_key q.shape)) e ∙ k.1)
        (ap (λ (o : Option Row). followed o (λ (q : Row). shape_key q.shape)) f ∙ k.2))
        (λ (x : (one_head r s && equal_places (are_together c.roots.items) r.arguments.items s.arguments.items) ≡ true).
        let k = headed_keys c.roots.items r s x in
        headed i j k.0 first second (ap (λ (o : Option Row). followed o (row_key c.roots.items)) e ∙ k.1)
        (ap (λ (o : Option Row). followed o (row_key c.roots.items)) f ∙ k.2))
        (or_cases (shapes_pass r s int_eq)
        (one_head r s && equal_places (are_together c.roots.items) r.arguments.items s.arguments.items) g)

-- a label more behind a key
pub label_behind : (key : Keyed) (n : ℕ) (labels : Option Keyed) →
    with_labels key (followed labels (λ (ls : Keyed). Some ((n, pos 0) ∷ ls))) ≡ with_labels (key ++ (n, pos 0) ∷ []) labels
label_behind key n None = refl
label_behind key n (Some ls) = ap Some (sym (append_assoc key ((n, pos 0) ∷ []) ls))

-- a key that was met already
pub met_already : (met : Keyed → Option ℕ) (key k : Keyed) (place first : ℕ) → met key ≡ Some first →
    met k ≡ first_met (met k) key k place
met_already met key k place first e = by (met k) refl
  where
    by : (o : Option ℕ) → met k ≡ o → o ≡ first_met o key k place
    by (Some x) f = refl
    by None f = other (same_key k key) refl
      where
        other : (b : Bool) → same_key k key ≡ b → None ≡ (if b then Some place else None)
        other true same =
            absurd (none-some first (sym f ∙ ap met ((same_key-Decides k key).0 same) ∙ e))
        other false differs = refl

-- keys are compared alike in either order
key_turned : (key k : Keyed) → same_key k key ≡ same_key key k
key_turned key k = by (same_key k key) (same_key key k) refl refl
  where
    by : (a b : Bool) → same_key k key ≡ a → same_key key k ≡ b → a ≡ b
    by true true e f = refl
    by false false e f = refl
    by true false e f = absurd (true≢false (sym ((same_key-Decides key k).1 (sym ((same_key-Decides k key).0 e))) ∙ f))
    by false true e f = absurd (true≢false (sym ((same_key-Decides k key).1 (sym ((same_key-Decides key k).0 f))) ∙ e))

-- a key that is met now
pub met_now : (o n : Option ℕ) (key k : Keyed) (place : ℕ) → (key ≡ k → o ≡ None) → n ≡ cond (same_key key k) (Some place) o →
    n ≡ first_met o key k place
met_now (Some x) n key k place gone e = by (same_key key k) refl e
  where
    by : (b : Bool) → same_key key k ≡ b → n ≡ cond b (Some place) (Some x) → n ≡ Some x
    by true same f = absurd (none-some x (sym (gone ((same_key-Decides key k).0 same))))
    by false differs f = f
met_now None n key k place gone e = by (same_key key k) refl e
  where
    by : (b : Bool) → same_key key k ≡ b → n ≡ cond b (Some place) None → n ≡ (if same_key k key then Some place else None)
    by true same f = f ∙ ap (λ (x : Bool). if x then Some place else None) (sym (key_turned key k ∙ same))
    by false differs f = f ∙ ap (λ (x : Bool). if x then Some place else None) (sym (key_turned key k ∙ differs))

-- the labels of places from one on
pub labels_from : (roots : List Equation) (places : List ℕ) (n : ℕ) → n < length places →
    labels_of roots (drop n places)
    ≡ followed (label_at (slice_get roots (get_or places n 0)))
    (λ (l : ℕ). followed (labels_of roots (drop (n + 1) places)) (λ (ls : Keyed). Some ((l, pos 0) ∷ ls)))
labels_from roots places n less = ap (labels_of roots) (drop_more places n 0 less)

-- the labels of a place and of others
labels_parts : (roots : List Equation) (j : ℕ) (js : List ℕ) (ls : Keyed) → labels_of roots (j ∷ js) ≡ Some ls →
    (r : Equation) × (slice_get roots j ≡ Some r)
    × ((rest : Keyed) × (labels_of roots js ≡ Some rest) × ((r.right, pos 0) ∷ rest ≡ ls))
labels_parts roots j js ls e = by (slice_get roots j) (labels_of roots js) refl refl e
  where
    by : (o : Option Equation) (p : Option Keyed) → slice_get roots j ≡ o → labels_of roots js ≡ p →
        followed (label_at o) (λ (l : ℕ). followed p (λ (ks : Keyed). Some ((l, pos 0) ∷ ks))) ≡ Some ls →
        (r : Equation) × (slice_get roots j ≡ Some r)
        × ((rest : Keyed) × (labels_of roots js ≡ Some rest) × ((r.right, pos 0) ∷ rest ≡ ls))
    by None p f g h = absurd (none-some ls h)
    by (Some r) None f g h = absurd (none-some ls h)
    by (Some r) (Some rest) f g h = (r, f, (rest, g, same_Some ((r.right, pos 0) ∷ rest) ls h))

-- equal lists begin alike and go on alike
first_same : (p q : ℕ × ℤ) (ps qs : Keyed) → p ∷ ps ≡ q ∷ qs → p ≡ q
first_same p q ps qs e = cc

rest_same : (p q : ℕ × ℤ) (ps qs : Keyed) → p ∷ ps ≡ q ∷ qs → ps ≡ qs
rest_same p q ps qs e = cc

-- places with the same labels are equal one by one
pub labels_equal : (roots : List Equation) (is js : List ℕ) (ls : Keyed) → labels_of roots is ≡ Some ls → labels_of roots js ≡ Some ls →
    equal_places (are_together roots) is js ≡ true
labels_equal roots [] [] ls e f = refl
labels_equal roots [] (j ∷ js) ls e f =
    let y = labels_parts roots j js ls f in
    let none : [] ≡ ls = same_Some [] ls e in
    let clash : (y.0.right, pos 0) ∷ y.2.0 ≡ [] = y.2.2 ∙ sym none in
    absurd cc
labels_equal roots (i ∷ is) [] ls e f =
    let x = labels_parts roots i is ls e in
    let none : [] ≡ ls = same_Some [] ls f in
    let clash : (x.0.right, pos 0) ∷ x.2.0 ≡ [] = x.2.2 ∙ sym none in
    absurd cc
labels_equal roots (i ∷ is) (j ∷ js) ls e f =
    let x = labels_parts roots i is ls e in
    let y = labels_parts roots j js ls f in
    let both : (x.0.right, pos 0) ∷ x.2.0 ≡ (y.0.right, pos 0) ∷ y.2.0 = x.2.2 ∙ sym y.2.2 in
    let label = first_same (x.0.right, pos 0) (y.0.right, pos 0) x.2.0 y.2.0 both in
    let rest = rest_same (x.0.right, pos 0) (y.0.right, pos 0) x.2.0 y.2.0 both in
    and_from (are_together roots i j) (equal_places (are_together roots) is js)
    (together_from roots i j x.0 y.0 x.1 y.1 (ap (λ (p : ℕ × ℤ). p.0) label))
    (labels_equal roots is js x.2.0 x.2.1 (y.2.1 ∙ ap Some (sym rest)))

-- forms with one key are equal
pub shapes_bring : (k : Keyed) (o p : Option Shape) → shape_key o ≡ Some k → shape_key p ≡ Some k →
    if_there o (λ f. if_there p (λ g. (f.parts == g.parts) && int_eq f.constant g.constant)) ≡ true
shapes_bring k None p x y = absurd (none-some k x)
shapes_bring k (Some g) None x y = absurd (none-some k y)
shapes_bring k (Some g) (Some h) x y =
    let one : (g.parts, g.constant) ∷ [] ≡ (h.parts, h.constant) ∷ [] =
    same_Some ((g.parts, g.constant) ∷ []) k x ∙ sym (same_Some ((h.parts, h.constant) ∷ []) k y) in
    let both = first_same (g.parts, g.constant) (h.parts, h.constant) [] [] one in
    and_from (g.parts == h.parts) (int_eq g.constant h.constant) (eq-eqb g.parts h.parts (ap (λ (p : ℕ × ℤ). p.0) both))
    ((Decides-int_eq g.constant h.constant).1 (ap (λ (p : ℕ × ℤ). p.1) both))

-- places of one linear form are equal by a rule
pub alike_bring : (c : Closure) → KeysBring (alike_at c) c
alike_bring c i j k e f = by (slice_get c.rows.items i) (slice_get c.rows.items j) e f
  where
    by : (o p : Option Row) → followed o (λ (q : Row). shape_key q.shape) ≡ Some k →
        followed p (λ (q : Row). shape_key q.shape) ≡ Some k →
        (if_there o (λ r. if_there p (λ s. shapes_pass r s int_eq))
        || if_there o (λ r. if_there p (λ s. one_head r s && equal_places (are_together c.roots.items) r.arguments.items s.arguments.items)))
        ≡ true
    by None p x y = absurd (none-some k x)
    by (Some r) None x y = absurd (none-some k y)
    by (Some r) (Some s) x y =
        or_left (shapes_pass r s int_eq)
        (one_head r s && equal_places (are_together c.roots.items) r.arguments.items s.arguments.items)
        (shapes_bring k r.shape s.shape x y)

-- rows with one key have one head, and arguments with the same labels
pub rows_bring_headed : (roots : List Equation) (k : Keyed) (r s : Row) → row_key roots r ≡ Some k → row_key roots s ≡ Some k →
    (one_head r s && equal_places (are_together roots) r.arguments.items s.arguments.items) ≡ true
rows_bring_headed roots k r s x y =
    heads r.head s.head (labels_of roots r.arguments.items) (labels_of roots s.arguments.items) refl refl x y
  where
    heads : (a b : Option ℕ) (p q : Option Keyed) → labels_of roots r.arguments.items ≡ p → labels_of roots s.arguments.items ≡ q →
        followed a (λ (h : ℕ). with_labels ((h, pos 0) ∷ []) p) ≡ Some k →
        followed b (λ (h : ℕ). with_labels ((h, pos 0) ∷ []) q) ≡ Some k →
        (if_there a (λ (x : ℕ). if_there b (λ (y : ℕ). x == y))
        && equal_places (are_together roots) r.arguments.items s.arguments.items) ≡ true
    heads None b p q l m x y = absurd (none-some k x)
    heads (Some g) None p q l m x y = absurd (none-some k y)
    heads (Some g) (Some h) None q l m x y = absurd (none-some k x)
    heads (Some g) (Some h) (Some ls) None l m x y = absurd (none-some k y)
    heads (Some g) (Some h) (Some ls) (Some ms) l m x y =
        let one : (g, pos 0) ∷ ls ≡ (h, pos 0) ∷ ms = same_Some ((g, pos 0) ∷ ls) k x ∙ sym (same_Some ((h, pos 0) ∷ ms) k y) in
        let head : (g, pos 0) ≡ (h, pos 0) = first_same (g, pos 0) (h, pos 0) ls ms one in
        let rest : ls ≡ ms = rest_same (g, pos 0) (h, pos 0) ls ms one in
        and_from (g == h) (equal_places (are_together roots) r.arguments.items s.arguments.items)
        (eq-eqb g h (ap (λ (z : ℕ × ℤ). z.0) head))
        (labels_equal roots r.arguments.items s.arguments.items ls l (m ∙ ap Some (sym rest)))

-- places of one head whose arguments have the same labels are equal by a rule
pub headed_bring : (c : Closure) → KeysBring (headed_at c) c
headed_bring c i j k e f = by (slice_get c.rows.items i) (slice_get c.rows.items j) e f
  where
    by : (o p : Option Row) → followed o (row_key c.roots.items) ≡ Some k → followed p (row_key c.roots.items) ≡ Some k →
        (if_there o (λ r. if_there p (λ s. shapes_pass r s int_eq))
        || if_there o (λ r. if_there p (λ s. one_head r s && equal_places (are_together c.roots.items) r.arguments.items s.arguments.items)))
        ≡ true
    by None p x y = absurd (none-some k x)
    by (Some r) None x y = absurd (none-some k y)
    by (Some r) (Some s) x y =
        or_right (shapes_pass r s int_eq)
        (one_head r s && equal_places (are_together c.roots.items) r.arguments.items s.arguments.items)
        (rows_bring_headed c.roots.items k r s x y)
