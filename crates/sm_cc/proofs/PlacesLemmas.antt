-- Exact classes of places say what is so in each closed set, and stay sound as more is given.
use Rattle.sm_cc.proofs.Imports.{◌≡◌, ℕ, ◌<◌, Bool, true, false, Some, None, Option, List, [], ◌∷◌, ◌++◌, length, slice_get, map, refl, sym, ap, subst, ◌∙◌, false≢true, or_left, or_right, map_push, MatchOption, Witness, PlacePairs, SamePlaces, ApartPlaces, ArePlacesClosed, places_apart, places_differ, Placed, Derives, Follows, Before, Why, By, IsSound, are_together, board_of, placed_of, pair_of, fact_of, Grows, AllRooted, IsWitness, IsDifference, differ_in_form, differ_otherwise, IsExact, with_equal, with_unequal}
use Rattle.std.proofs.Common.{is_some}
use Rattle.sm_cc.specs.declared.log.Known.TheVariants as known
use Rattle.sm_cc.specs.declared.log.Why.TheVariants as why
use Rattle.sm_cc.specs.declared.witness.Difference.{Difference}
use Rattle.sm_cc.specs.declared.witness.Difference.TheVariants as difference
use Rattle.sm_cc.specs.Rows.{is_listed, Row}
use Rattle.sm_cc.specs.Log.{Known, Entry}
use Rattle.sm_cc.specs.Closures.{Closure, Given}
use Rattle.sm_cc.proofs.ClosuresLemmas.{placed_same}
use Rattle.sm_cc.proofs.LogLemmas.{get_kept}
use Rattle.sm_cc.proofs.SoundLemmas.{together_so, apart_from, listed_at}

-- one label and one class
pub exact_same : (c : Closure) → IsExact c → (i j : ℕ) (b : Bool) → b ≡ are_together c.roots.items i j →
    (b ≡ true → SamePlaces (board_of c) i j) × (SamePlaces (board_of c) i j → b ≡ true)
exact_same c exact i j b tested = (
  λ (h : b ≡ true) (equal : PlacePairs) (closed : ArePlacesClosed (board_of c) equal).
      together_so c equal exact.sound closed i j (sym tested ∙ h),
  λ (s : SamePlaces (board_of c) i j). tested ∙ s (are_together c.roots.items) exact.closed,
)

-- why two places differ
differ_by : (v : Placed) (d : Difference) (p q : ℕ) → IsDifference v d p q → places_differ v.board p q ≡ true
differ_by v (difference.Given fact) p q h =
    or_left (is_listed v.board.unequal p q) (differ_otherwise v.board p q) (listed_at v.board.unequal h.0 p q h.1)
differ_by v (difference.Turned fact) p q h =
    or_right (is_listed v.board.unequal p q) (differ_otherwise v.board p q)
    (or_left (is_listed v.board.unequal q p) (differ_in_form v.board p q) (listed_at v.board.unequal h.0 q p h.1))
differ_by v difference.Forms p q h =
    or_right (is_listed v.board.unequal p q) (differ_otherwise v.board p q)
    (or_right (is_listed v.board.unequal q p) (differ_in_form v.board p q) h)

-- a witness is one in each closed set
witness_so : (c : Closure) → IsSound c → (i j : ℕ) (w : Witness) → IsWitness (placed_of c) (are_together c.roots.items) w i j →
    ApartPlaces (board_of c) i j
witness_so c sound i j w h equal closed =
    apart_from (board_of c) equal i j
    (record {
      left = w.left;
      right = w.right;
      left_there = h.there.0;
      right_there = h.there.1;
      first = together_so c equal sound closed w.left i h.left;
      second = together_so c equal sound closed w.right j h.right;
      differ = differ_by (placed_of c) w.difference w.left w.right h.differ;
    })

-- a witness is found just where places are known apart
exact_found : (c : Closure) → IsExact c → (i j : ℕ) (o : Option Witness) →
    MatchOption o (places_apart (board_of c) (are_together c.roots.items) i j ≡ false)
    (λ (w : Witness). IsWitness (placed_of c) (are_together c.roots.items) w i j) →
    (is_some o ≡ true → ApartPlaces (board_of c) i j) × (ApartPlaces (board_of c) i j → is_some o ≡ true)
exact_found c exact i j None h = (
  λ (e : false ≡ true). absurd (false≢true e),
  λ (a : ApartPlaces (board_of c) i j). absurd (false≢true (sym h ∙ a (are_together c.roots.items) exact.closed)),
)
exact_found c exact i j (Some w) h =
    (λ (e : true ≡ true). witness_so c exact.sound i j w h, λ (a : ApartPlaces (board_of c) i j). refl)

pub exact_apart : (c : Closure) → IsExact c → (i j : ℕ) (o : Option Witness) (b : Bool) → b ≡ is_some o →
    MatchOption o (places_apart (board_of c) (are_together c.roots.items) i j ≡ false)
    (λ (w : Witness). IsWitness (placed_of c) (are_together c.roots.items) w i j) →
    (b ≡ true → ApartPlaces (board_of c) i j) × (ApartPlaces (board_of c) i j → b ≡ true)
exact_apart c exact i j o b tested h =
    subst (λ (x : Bool). (x ≡ true → ApartPlaces (board_of c) i j) × (ApartPlaces (board_of c) i j → x ≡ true)) (sym tested)
    (exact_found c exact i j o h)

-- more is given
record Extends (v w : Placed) : Type 0 where
  rows : v.board.rows ≡ w.board.rows
  equal : (n : ℕ) (p : ℕ × ℕ) → slice_get v.board.equal n ≡ Some p → slice_get w.board.equal n ≡ Some p
  unequal : (n : ℕ) (p : ℕ × ℕ) → slice_get v.board.unequal n ≡ Some p → slice_get w.board.unequal n ≡ Some p
  equal_facts : (n f : ℕ) → slice_get v.equal_facts n ≡ Some f → slice_get w.equal_facts n ≡ Some f
  unequal_facts : (n f : ℕ) → slice_get v.unequal_facts n ≡ Some f → slice_get w.unequal_facts n ≡ Some f

follows_given : (v w : Placed) (has : ℕ → Known → Type 0) → Extends v w → (y : Why) (k : Known) → Follows v has y k → Follows w has y k
follows_given v w has more (why.Given fact) (known.Equal i j) h = (
  (h.0.0, more.equal h.0.0 (i, j) h.0.1, more.equal_facts h.0.0 fact h.0.2),
  subst (λ (rows : List Row). (i < length rows) × (j < length rows)) more.rows h.1,
)
follows_given v w has more (why.Given fact) (known.Unequal i j) h = (
  (h.0.0, more.unequal h.0.0 (i, j) h.0.1, more.unequal_facts h.0.0 fact h.0.2),
  subst (λ (rows : List Row). (i < length rows) × (j < length rows)) more.rows h.1,
)
follows_given v w has more (By r) k h = subst (λ (rows : List Row). Derives rows has r k) more.rows h

-- what one more given pair makes of lists of them
kept_in : {X : Type 0} (f : Given → X) (old new : List Given) (g : Given) → new ≡ old ++ g ∷ [] → (n : ℕ) (x : X) →
    slice_get (map f old) n ≡ Some x → slice_get (map f new) n ≡ Some x
kept_in f old new g pushed n x h =
    subst (λ l. slice_get l n ≡ Some x) (sym (ap (map f) pushed ∙ map_push f old g)) (get_kept (map f old) n x (f g) h)

-- a log stays sound as one more pair is given
sound_given : (before after : Closure) → IsSound before → Extends (placed_of before) (placed_of after) → after.rows ≡ before.rows →
    after.entries ≡ before.entries → after.roots ≡ before.roots → IsSound after
sound_given before after sound more rows entries roots = record {
  follow = λ (m : ℕ) (e : Entry) (h : slice_get after.entries.items m ≡ Some e).
      subst (λ es. Follows (placed_of after) (Before es.items m) e.why e.known) (sym entries)
      (follows_given (placed_of before) (placed_of after) (Before before.entries.items m) more e.why e.known
      (sound.follow m e (subst (λ es. slice_get es.items m ≡ Some e) entries h)));
  rooted =
      subst (λ es. AllRooted es.items after.roots.items) (sym entries)
      (subst (λ rs. AllRooted before.entries.items rs.items) (sym roots) sound.rooted);
  count = ap (λ rs. length rs.items) roots ∙ sound.count ∙ ap (λ rs. length rs.items) (sym rows);
}

pub sound_equal : (before after : Closure) (g : Given) → IsSound before → after.equal.items ≡ before.equal.items ++ g ∷ [] →
    after.rows ≡ before.rows → after.unequal ≡ before.unequal → after.entries ≡ before.entries → after.roots ≡ before.roots → IsSound after
sound_equal before after g sound pushed rows unequal entries roots =
    let more : Extends (placed_of before) (placed_of after) = record {
      rows = ap (λ rs. rs.items) (sym rows);
      equal = kept_in pair_of before.equal.items after.equal.items g pushed;
      unequal = λ n p h. subst (λ us. slice_get (map pair_of us.items) n ≡ Some p) (sym unequal) h;
      equal_facts = kept_in fact_of before.equal.items after.equal.items g pushed;
      unequal_facts = λ n f h. subst (λ us. slice_get (map fact_of us.items) n ≡ Some f) (sym unequal) h;
    } in
    sound_given before after sound more rows entries roots

pub sound_unequal : (before after : Closure) (g : Given) → IsSound before → after.unequal.items ≡ before.unequal.items ++ g ∷ [] →
    after.rows ≡ before.rows → after.equal ≡ before.equal → after.entries ≡ before.entries → after.roots ≡ before.roots → IsSound after
sound_unequal before after g sound pushed rows equal entries roots =
    let more : Extends (placed_of before) (placed_of after) = record {
      rows = ap (λ rs. rs.items) (sym rows);
      equal = λ n p h. subst (λ us. slice_get (map pair_of us.items) n ≡ Some p) (sym equal) h;
      unequal = kept_in pair_of before.unequal.items after.unequal.items g pushed;
      equal_facts = λ n f h. subst (λ us. slice_get (map fact_of us.items) n ≡ Some f) (sym equal) h;
      unequal_facts = kept_in fact_of before.unequal.items after.unequal.items g pushed;
    } in
    sound_given before after sound more rows entries roots

-- what is seen once a pair is given, and the rules were applied
pub placed_equal : (before pushed after : Closure) (g : Given) → pushed.equal.items ≡ before.equal.items ++ g ∷ [] →
    pushed.rows ≡ before.rows → pushed.unequal ≡ before.unequal → Grows pushed after →
    placed_of after ≡ with_equal (placed_of before) g.fact g.left g.right
placed_equal before pushed after g given rows unequal grows =
    placed_same pushed after grows ∙
    ap (λ rs. placed_of (record pushed { rows = rs })) rows ∙
    ap (λ us. placed_of (record pushed { rows = before.rows; unequal = us })) unequal ∙
    ap (λ (es : List Given). record (placed_of before) {
      board = record (board_of before) { equal = map pair_of es };
      equal_facts = map fact_of es;
    }) given ∙
    ap (λ (ps : List (ℕ × ℕ)). record (placed_of before) {
      board = record (board_of before) { equal = ps };
      equal_facts = map fact_of (before.equal.items ++ g ∷ []);
    }) (map_push pair_of before.equal.items g) ∙
    ap (λ (fs : List ℕ). record (placed_of before) {
      board = record (board_of before) { equal = map pair_of before.equal.items ++ pair_of g ∷ [] };
      equal_facts = fs;
    }) (map_push fact_of before.equal.items g)

pub placed_unequal : (before pushed after : Closure) (g : Given) → pushed.unequal.items ≡ before.unequal.items ++ g ∷ [] →
    pushed.rows ≡ before.rows → pushed.equal ≡ before.equal → Grows pushed after →
    placed_of after ≡ with_unequal (placed_of before) g.fact g.left g.right
placed_unequal before pushed after g given rows equal grows =
    placed_same pushed after grows ∙
    ap (λ rs. placed_of (record pushed { rows = rs })) rows ∙
    ap (λ us. placed_of (record pushed { rows = before.rows; equal = us })) equal ∙
    ap (λ (es : List Given). record (placed_of before) {
      board = record (board_of before) { unequal = map pair_of es };
      unequal_facts = map fact_of es;
    }) given ∙
    ap (λ (ps : List (ℕ × ℕ)). record (placed_of before) {
      board = record (board_of before) { unequal = ps };
      unequal_facts = map fact_of (before.unequal.items ++ g ∷ []);
    }) (map_push pair_of before.unequal.items g) ∙
    ap (λ (fs : List ℕ). record (placed_of before) {
      board = record (board_of before) { unequal = map pair_of before.unequal.items ++ pair_of g ∷ [] };
      unequal_facts = fs;
    }) (map_push fact_of before.unequal.items g)
