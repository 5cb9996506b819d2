-- Classes with their log stay sound as entries are added.
use Rattle.sm_cc.proofs.Imports.{◌≡◌, ◌⊎◌, ℕ, zero, suc, ◌+◌, ◌<◌, ◌≤◌, Some, None, Option, List, [], ◌∷◌, ◌++◌, length, slice_get, inl, inr, refl, sym, ap, subst, ◌∙◌, ⊎_elim, arith, ◌==◌, true, get_or, slice_set, length-set, take, slice_get_within, slice_get_read, same_Some, false≢true, eqb-true, and_parts, take_more, take_all, PlacePairs, equal_places, if_there, Placed, HasElement, SayEqual, Follows, AllFollow, IsSound, IsNoted, placed_of, Noted, Grows, Adds, AddsEquation, are_together, arguments_in, arguments_at, argument_at, AddsPremises}
use Rattle.std.proofs.Common.{length-append}
use Rattle.sm_cc.specs.Rows.{Row, Element}
use Rattle.sm_cc.specs.Log.{Known, Equal, Entry}
use Rattle.sm_cc.specs.Closures.{Closure, Equation}
use Rattle.sm_cc.proofs.LogLemmas.{known_kept, known_last, all_follow_more, say_more, say_one_more, known_within}

-- an entry is put behind the log
pub noted : (before after : Closure) (e : Entry) → IsSound before → Follows (placed_of before) (Noted before.entries.items) e.why e.known →
    after.rows ≡ before.rows → after.equal ≡ before.equal → after.unequal ≡ before.unequal → after.roots ≡ before.roots →
    after.entries.items ≡ before.entries.items ++ e ∷ [] → Adds before after (length before.entries.items) e.known
noted before after e sound follows rows equal unequal roots entries =
    let old = before.entries.items in
    let new = old ++ e ∷ [] in
    let placed : placed_of before ≡ placed_of after =
    ap (λ r. placed_of (record before { rows = r })) (sym rows) ∙
    ap (λ g. placed_of (record before { rows = after.rows; equal = g })) (sym equal) ∙
    ap (λ g. placed_of (record before { rows = after.rows; equal = after.equal; unequal = g })) (sym unequal) in
    record {
      grows = record {
        rows = rows;
        equal = equal;
        unequal = unequal;
        kept = λ n k h. subst (λ (l : List Entry). Noted l n k) (sym entries) (known_kept old e n k h);
        longer = let l = length-append old (e ∷ []) in let m = ap length entries in omega arith;
        sound = record {
          follow =
              subst (λ (v : Placed). AllFollow v after.entries.items) placed
              (subst (λ (l : List Entry). AllFollow (placed_of before) l) (sym entries)
              (all_follow_more (placed_of before) old e sound.follow follows));
          rooted = λ i r h.
              let root = sound.rooted i r (subst (λ rs. slice_get rs.items i ≡ Some r) roots h) in (
                root.0,
                subst (λ (l : List Entry). Noted l r.entry (Equal r.left r.right)) (sym entries)
                    (known_kept old e r.entry (Equal r.left r.right) root.1),
              );
          count = ap (λ rs. length rs.items) roots ∙ sound.count ∙ ap (λ rs. length rs.items) (sym rows);
        };
      };
      roots = roots;
      noted = subst (λ (l : List Entry). Noted l (length old) e.known) (sym entries) (known_last old e);
    }

-- a sound log grows from itself
pub grows_from : (c : Closure) → IsSound c → Grows c c
grows_from c sound = record {
  rows = refl;
  equal = refl;
  unequal = refl;
  kept = λ n k h. h;
  longer = omega arith;
  sound = sound;
}

-- a log that grows twice grows from what it was at first
pub grows_on : (a b c : Closure) → Grows a b → Grows b c → Grows a c
grows_on a b c one two = record {
  rows = two.rows ∙ one.rows;
  equal = two.equal ∙ one.equal;
  unequal = two.unequal ∙ one.unequal;
  kept = λ n k h. two.kept n k (one.kept n k h);
  longer = omega (arith, one.longer, two.longer);
  sound = two.sound;
}

-- the board stays
pub placed_same : (a b : Closure) → Grows a b → placed_of b ≡ placed_of a
placed_same a b g =
    ap (λ r. placed_of (record b { rows = r })) g.rows ∙
    ap (λ e. placed_of (record b { rows = a.rows; equal = e })) g.equal ∙
    ap (λ u. placed_of (record b { rows = a.rows; equal = a.equal; unequal = u })) g.unequal

-- what two steps add
pub adds_on : (a b c : Closure) (n : ℕ) (known : Known) → Grows a b → b.roots ≡ a.roots → Adds b c n known → Adds a c n known
adds_on a b c n known one roots two = record {
  grows = grows_on a b c one two.grows;
  roots = two.roots ∙ roots;
  noted = two.noted;
}

pub equation_on : (a b c : Closure) (e : Equation) (i j k l : ℕ) → Grows a b → b.roots ≡ a.roots → AddsEquation b c e i j → i ≡ k → j ≡ l →
    AddsEquation a c e k l
equation_on a b c e i j k l one roots two left right = record {
  adds =
      subst (λ (x : ℕ). Adds a c e.entry (Equal x l)) left
      (subst (λ (y : ℕ). Adds a c e.entry (Equal i y)) right (adds_on a b c e.entry (Equal i j) one roots two.adds));
  left = two.left ∙ left;
  right = two.right ∙ right;
}

-- the entry that was added says the equation
pub equation_noted : (a b : Closure) (e : Equation) (i j : ℕ) → AddsEquation a b e i j → IsNoted b e
equation_noted a b e i j h =
    subst (λ (x : ℕ). Noted b.entries.items e.entry (Equal x e.right)) (sym h.left)
    (subst (λ (y : ℕ). Noted b.entries.items e.entry (Equal i y)) (sym h.right) h.adds.noted)

-- places of a class have roots with one label
pub record Roots (roots : List Equation) (i j : ℕ) : Type 0 where
  pub first : Equation
  pub second : Equation
  pub at_first : slice_get roots i ≡ Some first
  pub at_second : slice_get roots j ≡ Some second
  pub label : first.right ≡ second.right

roots_in : (roots : List Equation) (i j : ℕ) (o p : Option Equation) → slice_get roots i ≡ o → slice_get roots j ≡ p →
    if_there o (λ (r : Equation). if_there p (λ (s : Equation). r.right == s.right)) ≡ true → Roots roots i j
roots_in roots i j None p first second h = absurd (false≢true h)
roots_in roots i j (Some r) None first second h = absurd (false≢true h)
roots_in roots i j (Some r) (Some s) first second h =
    record { first = r; second = s; at_first = first; at_second = second; label = eqb-true r.right s.right h }

pub roots_of : (roots : List Equation) (i j : ℕ) → are_together roots i j ≡ true → Roots roots i j
roots_of roots i j h = roots_in roots i j (slice_get roots i) (slice_get roots j) refl refl h

-- a root's entry says its equation
pub root_noted : (c : Closure) (i : ℕ) (r : Equation) → IsSound c → slice_get c.roots.items i ≡ Some r → IsNoted c r
root_noted c i r sound h = (sound.rooted i r h).1

-- the root that was read at a place of a class
pub root_left : (c : Closure) (i j : ℕ) (r : Equation) → IsSound c → are_together c.roots.items i j ≡ true → r ≡ get_or c.roots.items i r →
    r.left ≡ i
root_left c i j r sound h read =
    let within = slice_get_within c.roots.items i (roots_of c.roots.items i j h).first (roots_of c.roots.items i j h).at_first in
    (sound.rooted i r (slice_get_read c.roots.items (length c.roots.items) i r refl within read)).0

pub root_right : (c : Closure) (i j : ℕ) (r : Equation) → IsSound c → are_together c.roots.items i j ≡ true → r ≡ get_or c.roots.items j r →
    r.left ≡ j
root_right c i j r sound h read =
    let within = slice_get_within c.roots.items j (roots_of c.roots.items i j h).second (roots_of c.roots.items i j h).at_second in
    (sound.rooted j r (slice_get_read c.roots.items (length c.roots.items) j r refl within read)).0

-- an element that a row has, in classes whose log grew
pub element_kept : (a b : Closure) (i : ℕ) (e : Element) → Grows a b → HasElement a.rows.items i e → HasElement b.rows.items i e
element_kept a b i e g h = subst (λ (rows : List Row). HasElement rows i e) (ap (λ r. r.items) (sym g.rows)) h

pub place_kept : (a b : Closure) (i : ℕ) → Grows a b → i < length a.rows.items → i < length b.rows.items
place_kept a b i g h = subst (λ (rows : List Row). i < length rows) (ap (λ r. r.items) (sym g.rows)) h

-- the root that was read at a place
pub root_at : (c : Closure) (i : ℕ) (r : Equation) → IsSound c → i < length c.roots.items → r ≡ get_or c.roots.items i r → r.left ≡ i
root_at c i r sound within read =
    (sound.rooted i r (slice_get_read c.roots.items (length c.roots.items) i r refl within read)).0

-- the root that was read at a place that has a row has this place on its left
pub root_in : (c : Closure) (i : ℕ) (r : Equation) → IsSound c → i < length c.rows.items → r ≡ get_or c.roots.items i r → r.left ≡ i
root_in c i r sound within read = root_at c i r sound (omega (arith, within, sound.count)) read

-- an element of a list in which another was put is that one or an old one
pub get_set : {X : Type 0} (xs : List X) (k i : ℕ) (x y : X) → slice_get (slice_set xs k y) i ≡ Some x →
    ((i ≡ k) × (y ≡ x)) ⊎ (slice_get xs i ≡ Some x)
get_set [] k i x y h = inr h
get_set (z ∷ xs) zero zero x y h = inl (refl, same_Some y x h)
get_set (z ∷ xs) zero (suc i) x y h = inr h
get_set (z ∷ xs) (suc k) zero x y h = inr h
get_set (z ∷ xs) (suc k) (suc i) x y h =
    ⊎_elim (λ (p : (i ≡ k) × (y ≡ x)). inl (ap suc p.0, p.1)) (λ (e : slice_get xs i ≡ Some x). inr e) (get_set xs k i x y h)

-- another root is put in
pub root_set : (before after : Closure) (k : ℕ) (e : Equation) → IsSound before → e.left ≡ k → IsNoted before e →
    after.rows ≡ before.rows → after.equal ≡ before.equal → after.unequal ≡ before.unequal → after.entries ≡ before.entries →
    after.roots.items ≡ slice_set before.roots.items k e → Grows before after
root_set before after k e sound left noted rows equal unequal entries roots =
    let placed : placed_of before ≡ placed_of after =
    ap (λ r. placed_of (record before { rows = r })) (sym rows) ∙
    ap (λ g. placed_of (record before { rows = after.rows; equal = g })) (sym equal) ∙
    ap (λ g. placed_of (record before { rows = after.rows; equal = after.equal; unequal = g })) (sym unequal) in
    let log : before.entries.items ≡ after.entries.items = ap (λ es. es.items) (sym entries) in
    record {
      rows = rows;
      equal = equal;
      unequal = unequal;
      kept = λ n k h. subst (λ (l : List Entry). Noted l n k) log h;
      longer = let m = ap length log in omega arith;
      sound = record {
        follow =
            subst (λ (v : Placed). AllFollow v after.entries.items) placed
            (subst (λ (l : List Entry). AllFollow (placed_of before) l) log sound.follow);
        rooted = λ i r h.
            ⊎_elim
            (λ (p : (i ≡ k) × (e ≡ r)).
            subst (λ (x : Equation). (x.left ≡ i) × Noted after.entries.items x.entry (Equal x.left x.right)) p.1
            (left ∙ sym p.0, subst (λ (l : List Entry). Noted l e.entry (Equal e.left e.right)) log noted))
            (λ (old : slice_get before.roots.items i ≡ Some r).
            ((sound.rooted i r old).0, subst (λ (l : List Entry). Noted l r.entry (Equal r.left r.right)) log (sound.rooted i r old).1))
            (get_set before.roots.items k i r e (subst (λ (rs : List Equation). slice_get rs i ≡ Some r) roots h));
        count = ap length roots ∙ length-set before.roots.items k e ∙ sound.count ∙ ap (λ rs. length rs.items) (sym rows);
      };
    }

-- the arguments of a row that is there
pub arguments_of : (c : Closure) (i : ℕ) (r : Row) → slice_get c.rows.items i ≡ Some r → r.arguments.items ≡ arguments_at c i
arguments_of c i r h = ap arguments_in (sym h)

-- the row that was read at a place
pub row_at : (c : Closure) (i : ℕ) (r : Row) → i < length c.rows.items → r ≡ get_or c.rows.items i r → slice_get c.rows.items i ≡ Some r
row_at c i r within read = slice_get_read c.rows.items (length c.rows.items) i r refl within read

-- arguments stay
pub arguments_same : (a b : Closure) (i : ℕ) → Grows a b → arguments_at b i ≡ arguments_at a i
arguments_same a b i g = ap (λ r. arguments_in (slice_get r.items i)) g.rows

-- one premise more
pub premise_more : (old cur new : Closure) (ns ms : List ℕ) (n k i j : ℕ) →
    AddsPremises old cur ns (take k (arguments_at old i)) (take k (arguments_at old j)) →
    Adds cur new n (Equal (argument_at cur i k) (argument_at cur j k)) → k < length (arguments_at old i) → k < length (arguments_at old j) →
    ms ≡ ns ++ n ∷ [] → AddsPremises old new ms (take (k + 1) (arguments_at old i)) (take (k + 1) (arguments_at old j))
premise_more old cur new ns ms n k i j before adds first second pushed =
    let is = arguments_at old i in
    let js = arguments_at old j in
    let has : ℕ → Known → Type 0 = Noted new.entries.items in
    let x : argument_at cur i k ≡ get_or is k 0 = ap (λ (l : List ℕ). get_or l k 0) (arguments_same old cur i before.grows) in
    let y : argument_at cur j k ≡ get_or js k 0 = ap (λ (l : List ℕ). get_or l k 0) (arguments_same old cur j before.grows) in
    let one : has n (Equal (get_or is k 0) (get_or js k 0)) =
    subst (λ (b : ℕ). has n (Equal (get_or is k 0) b)) y (subst (λ (a : ℕ). has n (Equal a (argument_at cur j k))) x adds.noted) in
    let all : SayEqual has (ns ++ n ∷ []) (take k is ++ get_or is k 0 ∷ []) (take k js ++ get_or js k 0 ∷ []) =
    say_one_more has ns (take k is) (take k js) n (get_or is k 0) (get_or js k 0)
    (say_more (Noted cur.entries.items) has adds.grows.kept ns (take k is) (take k js) before.say) one in
    record {
      grows = grows_on old cur new before.grows adds.grows;
      roots = adds.roots ∙ before.roots;
      say =
          subst (λ (l : List ℕ). SayEqual has l (take (k + 1) is) (take (k + 1) js)) (sym pushed)
          (subst (λ (l : List ℕ). SayEqual has (ns ++ n ∷ []) l (take (k + 1) js)) (sym (take_more is k 0 first))
          (subst (λ (l : List ℕ). SayEqual has (ns ++ n ∷ []) (take k is ++ get_or is k 0 ∷ []) l) (sym (take_more js k 0 second)) all));
    }

-- all premises
pub premises_all : (old new : Closure) (ns is js : List ℕ) (k : ℕ) → AddsPremises old new ns (take k is) (take k js) → length is ≤ k →
    length js ≤ k → AddsPremises old new ns is js
premises_all old new ns is js k h first second =
    subst (λ (l : List ℕ). AddsPremises old new ns is l) (take_all k js second)
    (subst (λ (l : List ℕ). AddsPremises old new ns l (take k js)) (take_all k is first) h)

-- the arguments at one place are in one class
pub equal_at : (equal : PlacePairs) (is js : List ℕ) (k : ℕ) → equal_places equal is js ≡ true → k < length is →
    equal (get_or is k 0) (get_or js k 0) ≡ true
equal_at equal [] js k h within = absurd (omega arith)
equal_at equal (i ∷ is) [] k h within = absurd (false≢true h)
equal_at equal (i ∷ is) (j ∷ js) zero h within = (and_parts (equal i j) (equal_places equal is js) h).0
equal_at equal (i ∷ is) (j ∷ js) (suc k) h within =
    equal_at equal is js k (and_parts (equal i j) (equal_places equal is js) h).1 (omega arith)

-- so they are as the log grows
pub argument_together : (old cur : Closure) (i j k : ℕ) → Grows old cur → cur.roots ≡ old.roots →
    equal_places (are_together old.roots.items) (arguments_at old i) (arguments_at old j) ≡ true → k < length (arguments_at old i) →
    are_together cur.roots.items (argument_at cur i k) (argument_at cur j k) ≡ true
argument_together old cur i j k grows roots h within =
    ap (λ rs. are_together rs.items (argument_at cur i k) (argument_at cur j k)) roots ∙
    ap (λ (l : List ℕ). are_together old.roots.items (get_or l k 0) (argument_at cur j k)) (arguments_same old cur i grows) ∙
    ap (λ (l : List ℕ). are_together old.roots.items (argument_at old i k) (get_or l k 0)) (arguments_same old cur j grows) ∙
    equal_at (are_together old.roots.items) (arguments_at old i) (arguments_at old j) k h within

-- the roots that were read of two places of a class
pub first_root : (c : Closure) (i j : ℕ) (r : Equation) → are_together c.roots.items i j ≡ true → r ≡ get_or c.roots.items i r →
    slice_get c.roots.items i ≡ Some r
first_root c i j r h read =
    let within = slice_get_within c.roots.items i (roots_of c.roots.items i j h).first (roots_of c.roots.items i j h).at_first in
    slice_get_read c.roots.items (length c.roots.items) i r refl within read

pub second_root : (c : Closure) (i j : ℕ) (r : Equation) → are_together c.roots.items i j ≡ true → r ≡ get_or c.roots.items j r →
    slice_get c.roots.items j ≡ Some r
second_root c i j r h read =
    let within = slice_get_within c.roots.items j (roots_of c.roots.items i j h).second (roots_of c.roots.items i j h).at_second in
    slice_get_read c.roots.items (length c.roots.items) j r refl within read

-- they have one label
pub same_label : (c : Closure) (i j : ℕ) (r s : Equation) → are_together c.roots.items i j ≡ true → slice_get c.roots.items i ≡ Some r →
    slice_get c.roots.items j ≡ Some s → r.right ≡ s.right
same_label c i j r s h first second =
    let x = roots_of c.roots.items i j h in
    ap (λ (e : Equation). e.right) (same_Some r x.first (sym first ∙ x.at_first)) ∙ x.label ∙
    ap (λ (e : Equation). e.right) (same_Some x.second s (sym x.at_second ∙ second))

-- a root's entry is there
pub root_within : (c : Closure) (i : ℕ) (r : Equation) → IsSound c → slice_get c.roots.items i ≡ Some r → r.entry < length c.entries.items
root_within c i r sound h = known_within c.entries.items r.entry (Equal r.left r.right) (sound.rooted i r h).1
