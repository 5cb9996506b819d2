-- Rounds: marks after what the nodes ask, what is next, and what settles.
use Rattle.sm_houdini.proofs.Imports.{◌≡◌, ℕ, zero, suc, ◌+◌, ◌<◌, ◌≤◌, Bool, true, false, not, ◌&&◌, ◌||◌, if◌then◌else◌, List, [], ◌∷◌, length, drop, get_or, add-one, refl, sym, ap, ◌∙◌, arith, drop-cons, drop-map, Parts, sort_of, Sorts, Assertion, TableValue, trees_in, sorts_in, ExtendsTable, Tree, due_in, AreDuesReady, Choice, sketch_of, Reach, facts_at, closing, stays_at, owner_in, Knows, all_marked, Marked, holds_but, owners, is_site, closes_if, holds_at, next_round, settled, dues_of, same_choice}
use Rattle.std.proofs.Common.{Option, None, map, slice_get}
use Rattle.sm_text.specs.declared.task.Task.{Task}
use Rattle.sm_plan.specs.Plans as plain
use Rattle.sm_expand.specs.Views.{dues_in}
use Rattle.sm_expand.specs.declared.due.Due.{Due}
use Rattle.sm_sketch.proofs.SketchesWiden.{sketch_stays, sketch_ready}
use Rattle.sm_houdini.specs.declared.product.Product.{Product}
use Rattle.sm_houdini.specs.Marks.{numbers_of}
use Rattle.sm_houdini.proofs.MarkedLemmas.{all_same, sites_same}
use Rattle.sm_houdini.proofs.ClosingLemmas.{due_stays}
use Rattle.sm_houdini.proofs.NodeLemmas.{with_true}

-- what is known of a task stays while the table widens
pub knows_stays : (v w : TableValue) → ExtendsTable v w → (task : Task) (p : Product) → Knows v task p → Knows w task p
knows_stays v w wider task p k = record {
  declared = wider.sorts ∙ k.declared;
  numbered = k.numbered;
  sorted = k.sorted;
  filled = k.filled;
  sketch = sketch_stays v w wider p.sketch k.ready ∙ k.sketch;
  ready = sketch_ready v w wider p.sketch k.ready;
  owned = k.owned;
}

-- one due more
and_turned : (a b : Bool) → (a && b) ≡ (b && a)
and_turned true true = refl
and_turned true false = refl
and_turned false true = refl
and_turned false false = refl

holds_more : (out : ℕ → Bool) (closes : List Assertion → Assertion → Bool) (owner : plain.Due → Option ℕ) (n : ℕ) (ds : List plain.Due)
    (d : plain.Due) (s i : ℕ) →
    holds_but out closes owner n (d ∷ ds) s i
    ≡ (holds_but out closes owner (suc n) ds s i
    && (out n || (not (is_site (owner d) s) || closes_if (closes d.facts) (slice_get d.goals i))))
holds_more out closes owner n ds d s i =
    and_turned (out n || (not (is_site (owner d) s) || closes_if (closes d.facts) (slice_get d.goals i)))
    (holds_but out closes owner (suc n) ds s i)

-- the dues from a place on are the one there and those behind it
pub dues_left : (sorts : Sorts) (trees : List Tree) (ds : List Due) (i : ℕ) (d : Due) → i < length ds → d ≡ get_or ds i d →
    drop i (dues_in sorts trees ds) ≡ due_in sorts trees d ∷ drop (i + 1) (dues_in sorts trees ds)
dues_left sorts trees ds i d h e =
    drop-map (due_in sorts trees) i ds
    ∙ ap (map (due_in sorts trees)) (drop-cons ds i d h ∙ ap (λ (x : Due). x ∷ drop (suc i) ds) (sym e))
    ∙ ap (λ (k : ℕ). due_in sorts trees d ∷ map (due_in sorts trees) (drop k ds)) (sym (add-one i))
    ∙ ap (λ (xs : List plain.Due). due_in sorts trees d ∷ xs) (sym (drop-map (due_in sorts trees) (i + 1) ds))

-- nothing asked takes no mark away
pub none_asked : (out : ℕ → Bool) (closes : List Assertion → Assertion → Bool) (owner : plain.Due → Option ℕ) (n : ℕ)
    (passes : ℕ → ℕ → Bool) (choice : Choice) →
    all_marked passes 0 choice ≡ all_marked (λ (s i : ℕ). passes s i && holds_but out closes owner n [] s i) 0 choice
none_asked out closes owner n passes choice =
    all_same passes (λ (s i : ℕ). passes s i && holds_but out closes owner n [] s i) 0 choice
    (λ (s i : ℕ) (l : 0 ≤ s). with_true (passes s i))

and_grouped : (a b c d : Bool) → d ≡ (b && c) → ((a && b) && c) ≡ (a && d)
and_grouped true b c d e = sym e
and_grouped false b c d e = refl

pub round_step : (v w : TableValue) → ExtendsTable v w → (reach : Reach) (owner : plain.Due → Option ℕ) (out : ℕ → Bool) (ds : List Due) (i : ℕ)
    (d : Due) (b : Bool) (passes : ℕ → ℕ → Bool) (choice : Choice) (new : List (List Marked)) →
    AreDuesReady (sorts_in v) (trees_in v) ds → i < length ds → d ≡ get_or ds i d → b ≡ out i →
    new ≡ all_marked (λ (s j : ℕ).
    (passes s j && holds_but out (closing (sorts_in v) reach) owner (i + 1) (drop (i + 1) (dues_in (sorts_in v) (trees_in v) ds)) s j)
    && (b || stays_at (sorts_in w) reach owner (due_in (sorts_in w) (trees_in w) d) s j)) 0 choice →
    new ≡ all_marked (λ (s j : ℕ). passes s j
    && holds_but out (closing (sorts_in v) reach) owner i (drop i (dues_in (sorts_in v) (trees_in v) ds)) s j) 0 choice
round_step v w wider reach owner out ds i d b passes choice new ready h e left judged =
    let parts = facts_at (sorts_in v) (trees_in v) ds i d ready h e in
    let due = due_stays v w wider d parts.0 parts.1 in
    let behind = drop (i + 1) (dues_in (sorts_in v) (trees_in v) ds) in
    let closes = closing (sorts_in v) reach in
    let here = due_in (sorts_in v) (trees_in v) d in
    judged
    ∙ (λ k. all_marked (λ (s j : ℕ). (passes s j && holds_but out closes owner (add-one i k) behind s j)
    && (left k || stays_at (wider.sorts k) reach owner (due k) s j)) 0 choice)
    ∙ all_same _ (λ (s j : ℕ). passes s j && holds_but out closes owner i (here ∷ behind) s j) 0 choice
    (λ (s j : ℕ) (l : 0 ≤ s).
    and_grouped (passes s j) (holds_but out closes owner (suc i) behind s j) (out i || stays_at (sorts_in v) reach owner here s j)
    (holds_but out closes owner i (here ∷ behind) s j) (holds_more out closes owner i behind here s j))
    ∙ ap (λ (es : List plain.Due). all_marked (λ (s j : ℕ). passes s j && holds_but out closes owner i es s j) 0 choice)
    (sym (dues_left (sorts_in v) (trees_in v) ds i d h e))

-- the next round
pub round_is : (t : Parts) (sorts : Sorts) (reach : Reach) (os : List (Option ℕ)) (ds : List plain.Due) (choice c : Choice)
    (rows : List (List Marked)) → sorts ≡ sort_of t.declared → os ≡ owners None 0 (sketch_of t) → ds ≡ dues_of t choice →
    rows ≡ all_marked (holds_at (closing sorts reach) (owner_in os) ds) 0 choice → c ≡ map numbers_of rows →
    c ≡ next_round (closing (sort_of t.declared) reach) t choice
round_is t sorts reach os ds choice c rows same owned asked made is =
    is ∙ ap (map numbers_of) made
    ∙ (λ k. map numbers_of (all_marked (holds_at (closing (same k) reach) (owner_in (owned k)) (asked k)) 0 choice))
    ∙ sites_same (holds_at (closing (sort_of t.declared) reach) (owner_in (owners None 0 (sketch_of t))) (dues_of t choice)) 0 choice

-- rounds that are left
pub settles_now : (next : Choice → Choice) (n : ℕ) (choice : Choice) → 0 < n → same_choice (next choice) choice ≡ true →
    settled next n choice ≡ choice
settles_now next zero choice h e = absurd (let no : 0 < 0 = h in omega arith)
settles_now next (suc n) choice h e =
    ap (λ (b : Bool). if b then choice else settled next n (next choice)) e

pub settles_later : (next : Choice → Choice) (n m : ℕ) (choice : Choice) → n ≡ suc m → same_choice (next choice) choice ≡ false →
    settled next n choice ≡ settled next m (next choice)
settles_later next n m choice eq e =
    ap (λ (k : ℕ). settled next k choice) eq
    ∙ ap (λ (b : Bool). if b then choice else settled next m (next choice)) e
