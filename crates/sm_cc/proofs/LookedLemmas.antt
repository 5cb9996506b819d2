-- Places behind those of a base: one look at each tells what equals it.
use Rattle.sm_cc.proofs.Imports.{◌≡◌, ◌⊎◌, ℕ, zero, suc, pos, ◌+◌, ◌<◌, ◌≤◌, Bool, true, ◌&&◌, Some, None, Option, List, [], ◌∷◌, ◌++◌, length, slice_get, take, refl, sym, ap, subst, ◌∙◌, ⊎_elim, inl, inr, arith, false≢true, cases_lt, or_left, or_right, length_push, take_all, take-append-le, same_Some, none-some, slice_get_within, int_eq, followed, BaseClasses, Scanned, Board, PlacePairs, rows_pass, one_head, shapes_pass, equal_places, row_brings, ArePlacesClosed, IsSound, are_together, board_of, IsExact, Keyed, Key, first_met, AreFirsts, labels_of, with_labels, row_key, shape_key, alike_at, headed_at, met_at, AreKeyed, over_at, IsBehind, AreRootsSo, seen, alike_in, headed_in, any_two, HaveOneKey, IsKeyNew, IsMetFor, IsLabelOf, IsLabelFor, AreNew, AreLooked}
use Rattle.sm_cc.specs.declared.log.Known.TheVariants.{Equal}
use Rattle.sm_cc.specs.Rows.{Row}
use Rattle.sm_cc.specs.Closures.{Closure, Equation}
use Rattle.sm_cc.specs.Firsts.{label_at}
use Rattle.sm_cc.specs.BaseClasses.{AreBelow}
use Rattle.sm_cc.proofs.ClosuresLemmas.{roots_of}
use Rattle.sm_cc.proofs.FirstsLemmas.{firsts_more, met_has, met_still, shapes_bring, rows_bring_headed}
use Rattle.sm_cc.proofs.FreshLemmas.{IsUnder, kept_behind, brings_pair, closed_before, within_old}
use Rattle.sm_cc.proofs.LogLemmas.{get_cases}
use Rattle.sm_cc.proofs.RegroundingLemmas.{firsts_moved, root_with, over_nothing}
use Rattle.sm_cc.proofs.SoundLemmas.{pass_at, noted_so}
use Rattle.sm_cc.proofs.StandingLemmas.{and_map}

-- one more place is met for its key
pub meets_any : (key : ℕ → Option Keyed) (old new : Keyed → Option ℕ) (i j : ℕ) (k : Key) → key i ≡ Some k.items →
    ((v : Key) → new v.items ≡ first_met (old v.items) k.items v.items i) → new k.items ≡ Some j → AreFirsts key any_two old i →
    AreFirsts key any_two new (i + 1)
meets_any key old new i j k has more first before = firsts_more key any_two old new i j k has more first refl before

-- it was met before, or has a new key
pub is_met : (key : ℕ → Option Keyed) (old new : Keyed → Option ℕ) (i j : ℕ) (k : Key) → key i ≡ Some k.items →
    ((v : Key) → new v.items ≡ first_met (old v.items) k.items v.items i) → new k.items ≡ Some j → AreFirsts key any_two old i →
    IsMetFor key i j
is_met key old new i j k has more first before = record {
  itself = λ (same : j ≡ i) (m : ℕ) (l : Keyed) (less : m < i) (here : key i ≡ Some l) (there : key m ≡ Some l).
      let x = before.found m l less there in
      let one : x.0.items ≡ k.items = x.1 ∙ same_Some l k.items (sym here ∙ has) in
      let was : old k.items ≡ Some x.2.0 = ap old (sym one) ∙ x.2.1 in
      let now : new k.items ≡ Some x.2.0 = more k ∙ met_still (old k.items) k.items k.items i x.2.0 was in
      let place : x.2.0 ≡ j = same_Some x.2.0 j (sym now ∙ first) in
      let below = (before.stored k x.2.0 was).0 in
      omega (arith, same, place, below);
  other = λ (differs : j ≡ i → ⊥).
      let x = met_has key any_two old new i j k has more first before in
      (below_or x.0 differs, (k.items, has, x.1));
}
  where
    below_or : j < i + 1 → (j ≡ i → ⊥) → j < i
    below_or less differs =
        ⊎_elim (λ (below : j < i). below) (λ (above : i ≤ j). let same : j ≡ i = omega (arith, less, above) in absurd (differs same))
        (cases_lt j i)

-- a place without a key is met for none
pub none_met : (key : ℕ → Option Keyed) (i : ℕ) → key i ≡ None → IsMetFor key i i
none_met key i none = record {
  itself = λ (same : i ≡ i) (m : ℕ) (l : Keyed) (less : m < i) (here : key i ≡ Some l) there. absurd (none-some l (sym none ∙ here));
  other = λ (differs : i ≡ i → ⊥). absurd (differs refl);
}

-- something behind a list
pub get_behind : {A : Type 0} (xs ys : List A) (i k : ℕ) → i ≡ length xs + k → slice_get (xs ++ ys) i ≡ slice_get ys k
get_behind [] ys i k e = let same : i ≡ k = omega (arith, e) in ap (slice_get ys) same
get_behind (x ∷ xs) ys zero k e = absurd (omega (arith, e))
get_behind (x ∷ xs) ys (suc i) k e = let less : i ≡ length xs + k = omega (arith, e) in get_behind xs ys i k less

-- what stands among the first of a list
taken : {A : Type 0} (xs : List A) (m i : ℕ) (x : A) → slice_get (take m xs) i ≡ Some x → slice_get xs i ≡ Some x
taken [] zero i x h = h
taken [] (suc m) i x h = h
taken (y ∷ xs) zero i x h = absurd (let k : None ≡ Some x = h in cc)
taken (y ∷ xs) (suc m) zero x h = h
taken (y ∷ xs) (suc m) (suc i) x h = taken xs m i x h

-- the labels that places had
taken_labels : (roots : List Equation) (m : ℕ) (is : List ℕ) (ls : Keyed) → labels_of (take m roots) is ≡ Some ls →
    labels_of roots is ≡ Some ls
taken_labels roots m [] ls h = h
taken_labels roots m (i ∷ is) ls h =
    by (slice_get (take m roots) i) (labels_of (take m roots) is) refl refl (λ ks. taken_labels roots m is ks) h
  where
    by : (o : Option Equation) (p : Option Keyed) → slice_get (take m roots) i ≡ o → labels_of (take m roots) is ≡ p →
        ((ks : Keyed) → labels_of (take m roots) is ≡ Some ks → labels_of roots is ≡ Some ks) →
        followed (label_at o) (λ (l : ℕ). followed p (λ (ks : Keyed). Some ((l, pos 0) ∷ ks))) ≡ Some ls →
        labels_of roots (i ∷ is) ≡ Some ls
    by None p e f rest g = absurd (none-some ls g)
    by (Some r) None e f rest g = absurd (none-some ls g)
    by (Some r) (Some ks) e f rest g =
        ap (λ (o : Option Equation). followed (label_at o) (λ (l : ℕ).
        followed (labels_of roots is) (λ (xs : Keyed). Some ((l, pos 0) ∷ xs)))) (taken roots m i r e)
        ∙ ap (λ (o : Option Keyed). followed o (λ (xs : Keyed). Some ((r.right, pos 0) ∷ xs))) (rest ks f)
        ∙ g

-- so the key of a row
taken_key : (roots : List Equation) (m : ℕ) (r : Row) (k : Keyed) → row_key (take m roots) r ≡ Some k → row_key roots r ≡ Some k
taken_key roots m r k h = by r.head (labels_of (take m roots) r.arguments.items) refl h
  where
    by : (o : Option ℕ) (p : Option Keyed) → labels_of (take m roots) r.arguments.items ≡ p →
        followed o (λ (x : ℕ). with_labels ((x, pos 0) ∷ []) p) ≡ Some k →
        followed o (λ (x : ℕ). with_labels ((x, pos 0) ∷ []) (labels_of roots r.arguments.items)) ≡ Some k
    by None p e g = absurd (none-some k g)
    by (Some x) None e g = absurd (none-some k g)
    by (Some x) (Some ls) e g = ap (with_labels ((x, pos 0) ∷ [])) (taken_labels roots m r.arguments.items ls e) ∙ g

-- the row that has a key
told : (o : Option Row) (f : Row → Option Keyed) (k : Keyed) → followed o f ≡ Some k → (r : Row) × (o ≡ Some r) × (f r ≡ Some k)
told None f k h = absurd (none-some k h)
told (Some r) f k h = (r, refl, h)

-- lists that are equal by pairs are so by more
pub places_coarser : (equal coarser : PlacePairs) → ((i j : ℕ) → equal i j ≡ true → coarser i j ≡ true) → (is js : List ℕ) →
    equal_places equal is js ≡ true → equal_places coarser is js ≡ true
places_coarser equal coarser more [] [] h = refl
places_coarser equal coarser more [] (j ∷ js) h = absurd (false≢true h)
places_coarser equal coarser more (i ∷ is) [] h = absurd (false≢true h)
places_coarser equal coarser more (i ∷ is) (j ∷ js) h =
    and_map (equal i j) (coarser i j) (more i j) (places_coarser equal coarser more is js) h

-- the two parts of what pairs of rows bring
abbrev pub alike : Board → ℕ → ℕ → Bool
alike b i j = rows_pass b.rows i j (λ r s. shapes_pass r s int_eq)

abbrev pub headed : Board → PlacePairs → ℕ → ℕ → Bool
headed b equal i j = rows_pass b.rows i j (λ r s. one_head r s && equal_places equal r.arguments.items s.arguments.items)

module _ (c : Closure) (more : List Row) (b : Board) (behind : IsBehind c more b) where
  abbrev rows : List Row
  rows = c.rows.items

  -- all rows stand under these
  pub under_behind : IsUnder (board_of c) b
  under_behind =
      record { rows = kept_behind rows more b.rows behind.rows; equal = behind.equal; unequal = behind.unequal }

  module _ (equal : PlacePairs) where
    module _ (closed : ArePlacesClosed b equal) (roots : List Equation) (so : AreRootsSo c more roots) where
      -- places with one label are equal
      pub together_equal : (i j : ℕ) → are_together roots i j ≡ true → equal i j ≡ true
      together_equal i j h =
          let x = roots_of roots i j h in
          let one = so b equal behind closed i x.first x.at_first in
          let two = closed.turned j x.second.right (so b equal behind closed j x.second x.at_second) in
          closed.joined i x.first.right j one (subst (λ (l : ℕ). equal l j ≡ true) (sym x.label) two)

      -- places that have one key are equal by a rule
      bring_alike : (i j : ℕ) → HaveOneKey (alike_in (rows ++ more)) i j → row_brings b equal i j ≡ true
      bring_alike i j one =
          let at = λ (k : ℕ) (r : Row) (e : slice_get (rows ++ more) k ≡ Some r). ap (λ (l : List Row). slice_get l k) behind.rows ∙ e in
          let x = told (slice_get (rows ++ more) i) (λ (r : Row). shape_key r.shape) one.0 one.1 in
          let y = told (slice_get (rows ++ more) j) (λ (r : Row). shape_key r.shape) one.0 one.2 in
          brings_pair b equal i j
          (or_left (alike b i j) (headed b equal i j)
          (pass_at b.rows i j x.0 y.0 (λ r s. shapes_pass r s int_eq) (at i x.0 x.1) (at j y.0 y.1)
          (shapes_bring one.0 x.0.shape y.0.shape x.2 y.2)))

      bring_headed : (first i j : ℕ) → HaveOneKey (headed_in first (rows ++ more) roots) i j → row_brings b equal i j ≡ true
      bring_headed first i j one =
          let at = λ (k : ℕ) (r : Row) (e : slice_get (rows ++ more) k ≡ Some r). ap (λ (l : List Row). slice_get l k) behind.rows ∙ e in
          let x = told (slice_get (rows ++ more) i) (row_key (take (seen first i) roots)) one.0 one.1 in
          let y = told (slice_get (rows ++ more) j) (row_key (take (seen first j) roots)) one.0 one.2 in
          let here = taken_key roots (seen first i) x.0 one.0 x.2 in
          let there = taken_key roots (seen first j) y.0 one.0 y.2 in
          let passed = and_map (one_head x.0 y.0) (one_head x.0 y.0) (λ h. h)
          (places_coarser (are_together roots) equal together_equal x.0.arguments.items y.0.arguments.items)
          (rows_bring_headed roots one.0 x.0 y.0 here there) in
          brings_pair b equal i j
          (or_right (alike b i j) (headed b equal i j)
          (pass_at b.rows i j x.0 y.0 (λ r s. one_head r s && equal_places equal r.arguments.items s.arguments.items) (at i x.0 x.1)
          (at j y.0 y.1) passed))

      -- a place equals the label of one that equals it by a rule
      label_so : (place j label : ℕ) → place < length b.rows → j < place → row_brings b equal place j ≡ true →
          label_at (slice_get roots j) ≡ Some label → equal place label ≡ true
      label_so place j label there below brings has =
          let root = root_with (slice_get roots j) label has in
          let one = closed.brought place j there (omega (arith, there, below)) brings in
          let two = so b equal behind closed j root.0 root.1 in
          closed.joined place j label one (subst (λ (l : ℕ). equal j l ≡ true) root.2 two)

      -- so a place equals its label
      pub chosen_so : (first place a h label : ℕ) → place < length b.rows → IsMetFor (alike_in (rows ++ more)) place a →
          IsMetFor (headed_in first (rows ++ more) roots) place h → IsLabelFor roots place h a label → equal place label ≡ true
      chosen_so first place a h label there alike headed chosen =
          ⊎_elim
          (λ (x : IsLabelOf roots place h label).
          let met = headed.other x.0 in
          label_so place h label there met.0 (bring_headed first place h met.1) x.1)
          (λ (other : IsLabelOf roots place a label ⊎ (label ≡ place)).
          ⊎_elim
          (λ (x : IsLabelOf roots place a label).
          let met = alike.other x.0 in
          label_so place a label there met.0 (bring_alike place a met.1) x.1)
          (λ (same : label ≡ place). subst (λ (l : ℕ). equal place l ≡ true) (sym same) (closed.each place there)) other) chosen

-- the places of sound classes equal their labels
pub roots_so : (c : Closure) (more : List Row) → IsSound c → AreRootsSo c more c.roots.items
roots_so c more sound b equal behind closed i r at =
    let root = sound.rooted i r at in
    let first = closed_before (board_of c) b (under_behind c more b behind) equal closed in
    subst (λ (k : ℕ). equal k r.right ≡ true) root.0 (noted_so c equal sound first r.entry (Equal r.left r.right) root.1)

module _ (g : BaseClasses) (more : List Row) where
  abbrev first : ℕ
  first = length g.closure.rows.items

  abbrev all : List Row
  all = g.closure.rows.items ++ more

  -- the row of a place behind the base
  pub row_behind : (k : ℕ) (r : Row) → slice_get more k ≡ Some r → slice_get all (first + k) ≡ Some r
  row_behind k r e = get_behind g.closure.rows.items more (first + k) k refl ∙ e

  -- its keys
  pub alike_behind : (place k : ℕ) (r : Row) → place ≡ first + k → slice_get more k ≡ Some r → alike_in all place ≡ shape_key r.shape
  alike_behind place k r is e =
      ap (λ (o : Option Row). followed o (λ (s : Row). shape_key s.shape)) (ap (slice_get all) is ∙ row_behind k r e)

  pub headed_behind : (roots : List Equation) (place k : ℕ) (r : Row) → place ≡ first + k → length roots ≡ place →
      slice_get more k ≡ Some r → headed_in first all roots place ≡ row_key roots r
  headed_behind roots place k r is count e =
      ap (λ (o : Option Row). followed o (row_key (take (seen first place) roots))) (ap (slice_get all) is ∙ row_behind k r e)
      ∙ ap (λ (rs : List Equation). row_key rs r) (take_all (seen first place) roots (omega (arith, count)))

  -- a key stays where one more place has a label
  key_stays : (roots : List Equation) (e : Equation) (i : ℕ) → first ≤ length roots → i ≤ length roots →
      headed_in first all (roots ++ e ∷ []) i ≡ headed_in first all roots i
  key_stays roots e i low within =
      ap (λ (rs : List Equation). followed (slice_get all i) (row_key rs))
      (take-append-le (seen first i) roots (e ∷ []) (omega (arith, low, within)))

  new_stays : (roots : List Equation) (e : Equation) (i : ℕ) → first ≤ length roots → i ≤ length roots →
      IsKeyNew (headed_in first all roots) i → IsKeyNew (headed_in first all (roots ++ e ∷ [])) i
  new_stays roots e i low within new j k less here there =
      new j k less (sym (key_stays roots e i low within) ∙ here) (sym (key_stays roots e j low (omega (arith, less, within))) ∙ there)

  -- one more place was looked at
  module _ (s t : Scanned) (k : ℕ) (row : Row) (e : Equation) (a h : ℕ) (before : AreLooked g more s)
      (place : length s.roots.items ≡ first + k) (here : slice_get more k ≡ Some row) (pushed : t.roots.items ≡ s.roots.items ++ e ∷ [])
      (alike_first : AreFirsts (alike_in all) any_two (over_at (met_at g.alike) (met_at t.alike)) (length s.roots.items + 1))
      (alike_met : IsMetFor (alike_in all) (length s.roots.items) a)
      (headed_first : AreFirsts (headed_in first all s.roots.items) any_two (over_at (met_at g.headed) (met_at t.headed))
      (length s.roots.items + 1)) (headed_met : IsMetFor (headed_in first all s.roots.items) (length s.roots.items) h)
      (label : IsLabelFor s.roots.items (length s.roots.items) h a e.right)
      (own : h ≡ length s.roots.items → a ≡ length s.roots.items → e.right ≡ length s.roots.items)
      (news : t.are_new ≡ true →
      (s.are_new ≡ true) × (a ≡ length s.roots.items) × (h ≡ length s.roots.items) × AreBelow (length s.roots.items) row.arguments.items)
    where
      abbrev roots : List Equation
      roots = s.roots.items

      abbrev longer : List Equation
      longer = s.roots.items ++ e ∷ []

      low : first ≤ length roots
      low = omega (arith, place)

      stands : slice_get all (length roots) ≡ Some row
      stands = ap (slice_get all) place ∙ row_behind k row here

      within : length roots < length all
      within = slice_get_within all (length roots) row stands

      still_so : AreRootsSo g.closure more longer
      still_so b equal behind closed i r at =
          ⊎_elim (λ (old : slice_get roots i ≡ Some r). before.so b equal behind closed i r old)
          (λ (new : (i ≡ length roots) × (e ≡ r)).
          let count = ap length behind.rows in
          let one = chosen_so g.closure more b behind equal closed roots before.so first (length roots) a h e.right
          (omega (arith, within, count)) alike_met headed_met label in
          subst (λ (x : Equation). equal i x.right ≡ true) new.1
          (subst (λ (n : ℕ). equal n e.right ≡ true) (sym new.0) one))
          (get_cases roots i r e at)

      at_or_before : (i : ℕ) → i < length longer → (i < length roots) ⊎ (i ≡ length roots)
      at_or_before i less =
          let count = length_push roots e in
          ⊎_elim (λ (below : i < length roots). inl below)
          (λ (above : length roots ≤ i). let same : i ≡ length roots = omega (arith, less, above, count) in inr same)
          (cases_lt i (length roots))

      still_new : t.are_new ≡ true → AreNew first all longer
      still_new is =
          let now = news is in
          let old = before.new now.0 in
          record {
            own = λ (i : ℕ) (r : Equation) (above : first ≤ i) (at : slice_get longer i ≡ Some r).
                ⊎_elim (λ (was : slice_get roots i ≡ Some r). old.own i r above was)
                (λ (new : (i ≡ length roots) × (e ≡ r)).
                ap (λ (x : Equation). x.right) (sym new.1) ∙ own now.2 now.1 ∙ sym new.0)
                (get_cases roots i r e at);
            below = λ (i : ℕ) (r : Row) (above : first ≤ i) (less : i < length longer) (at : slice_get all i ≡ Some r).
                ⊎_elim (λ (was : i < length roots). old.below i r above was at)
                (λ (same : i ≡ length roots).
                let one = same_Some row r (sym stands ∙ ap (slice_get all) (sym same) ∙ at) in
                subst (λ (x : Row). AreBelow i x.arguments.items) one
                (subst (λ (n : ℕ). AreBelow n row.arguments.items) (sym same) now.3))
                (at_or_before i less);
            alike = λ (i : ℕ) (above : first ≤ i) (less : i < length longer).
                ⊎_elim (λ (was : i < length roots). old.alike i above was)
                (λ (same : i ≡ length roots). subst (IsKeyNew (alike_in all)) (sym same) (alike_met.itself now.1))
                (at_or_before i less);
            headed = λ (i : ℕ) (above : first ≤ i) (less : i < length longer).
                new_stays roots e i low
                (let count = length_push roots e in omega (arith, less, count))
                (⊎_elim (λ (was : i < length roots). old.headed i above was)
                (λ (same : i ≡ length roots). subst (IsKeyNew (headed_in first all roots)) (sym same) (headed_met.itself now.2))
                (at_or_before i less));
          }

      pub looked_more : AreLooked g more t
      looked_more =
          let count : length t.roots.items ≡ length roots + 1 = ap length pushed ∙ length_push roots e in
          record {
            begins =
                ap (take first) pushed ∙ take-append-le first roots (e ∷ []) low ∙ before.begins;
            so = subst (AreRootsSo g.closure more) (sym pushed) still_so;
            alike =
                subst (λ (n : ℕ). AreFirsts (alike_in all) any_two (over_at (met_at g.alike) (met_at t.alike)) n) (sym count) alike_first;
            headed =
                subst (λ (n : ℕ).
                AreFirsts (headed_in first all t.roots.items) any_two (over_at (met_at g.headed) (met_at t.headed)) n) (sym count)
                (subst (λ (rs : List Equation).
                AreFirsts (headed_in first all rs) any_two (over_at (met_at g.headed) (met_at t.headed)) (length roots + 1)) (sym pushed)
                (firsts_moved (headed_in first all roots) (headed_in first all longer) any_two any_two
                (over_at (met_at g.headed) (met_at t.headed)) (over_at (met_at g.headed) (met_at t.headed)) (length roots + 1)
                (λ (i : ℕ) (less : i < length roots + 1). key_stays roots e i low (omega (arith, less))) (λ i j f l x. x) (λ v. refl)
                headed_first));
            new = λ (is : t.are_new ≡ true). subst (AreNew first all) (sym pushed) (still_new is);
          }

  -- none was looked at
  module _ (s : Scanned) (exact : IsExact g.closure) (keyed : AreKeyed g) (same : s.roots.items ≡ g.closure.roots.items)
      (no_alike : (v : Key) → met_at s.alike v.items ≡ None) (no_headed : (v : Key) → met_at s.headed v.items ≡ None) where
    count_first : length s.roots.items ≡ first
    count_first = ap length same ∙ exact.sound.count

    row_first : (i : ℕ) → i < first → slice_get all i ≡ slice_get g.closure.rows.items i
    row_first = within_old g.closure.rows.items more

    pub looked_none : AreLooked g more s
    looked_none =
        let count = count_first in
        let old = g.closure.roots.items in
        record {
          begins = take_all first s.roots.items (omega (arith, count)) ∙ same;
          so = subst (AreRootsSo g.closure more) (sym same) (roots_so g.closure more exact.sound);
          alike =
              subst (λ (n : ℕ). AreFirsts (alike_in all) any_two (over_at (met_at g.alike) (met_at s.alike)) n) (sym count)
              (firsts_moved (alike_at g.closure) (alike_in all) (are_together old) any_two (met_at g.alike)
              (over_at (met_at g.alike) (met_at s.alike)) first
              (λ (i : ℕ) (less : i < first). ap (λ (o : Option Row). followed o (λ (r : Row). shape_key r.shape)) (row_first i less))
              (λ i j f l x. refl) (λ (v : Key). over_nothing (met_at g.alike) (met_at s.alike) v.items (no_alike v)) keyed.alike);
          headed =
              subst (λ (n : ℕ).
              AreFirsts (headed_in first all s.roots.items) any_two (over_at (met_at g.headed) (met_at s.headed)) n) (sym count)
              (firsts_moved (headed_at g.closure) (headed_in first all s.roots.items) (are_together old) any_two (met_at g.headed)
              (over_at (met_at g.headed) (met_at s.headed)) first
              (λ (i : ℕ) (less : i < first).
              ap (λ (o : Option Row). followed o (row_key (take (seen first i) s.roots.items))) (row_first i less)
              ∙ ap (λ (rs : List Equation). followed (slice_get g.closure.rows.items i) (row_key rs))
              (take_all (seen first i) s.roots.items (omega (arith, count)) ∙ same))
              (λ i j f l x. refl) (λ (v : Key). over_nothing (met_at g.headed) (met_at s.headed) v.items (no_headed v)) keyed.headed);
          new = λ is. record {
            own = λ (i : ℕ) (r : Equation) (above : first ≤ i) (at : slice_get s.roots.items i ≡ Some r).
                let less = slice_get_within s.roots.items i r at in
                absurd (omega (arith, above, less, count));
            below = λ (i : ℕ) (r : Row) (above : first ≤ i) (less : i < length s.roots.items) at.
                absurd (omega (arith, above, less, count));
            alike = λ (i : ℕ) (above : first ≤ i) (less : i < length s.roots.items). absurd (omega (arith, above, less, count));
            headed = λ (i : ℕ) (above : first ≤ i) (less : i < length s.roots.items). absurd (omega (arith, above, less, count));
          };
        }
