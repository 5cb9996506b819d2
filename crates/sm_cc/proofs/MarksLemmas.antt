-- Marks at what an entry follows from, down to the first entry.
use Rattle.sm_cc.proofs.Imports.{◌≡◌, ◌⊎◌, ℕ, zero, suc, ◌+◌, ◌<◌, ◌≤◌, Bool, Some, List, [], ◌∷◌, ◌++◌, length, slice_get, take, get_or, refl, sym, ap, subst, ◌∙◌, ⊎_elim, arith, take_more, slice_get_read, same_Some, Placed, SayEqual, Derives, Follows, Before, Rule, Refl, Sym, Subst, Alike, Cong, Why, By, IsSound, placed_of, IsMarked, AreMarked, Marks, AreClosedFrom, numbers_in}
use Rattle.sm_cc.specs.declared.row.Row.{Row}
use Rattle.sm_cc.specs.Log.{Known, Equal, Unequal, Trans, Apart, Hit, Miss, Given, Entry}
use Rattle.sm_cc.specs.Closures.{Closure}
use Rattle.sm_cc.specs.Steps.{AreBelow, numbers_of}

-- each of these is below a number that is above that one
pub below_more : (m n : ℕ) (ns : List ℕ) → m ≤ n → AreBelow m ns → AreBelow n ns
below_more m n [] more h = tt
below_more m n (x ∷ ns) more h = (omega (arith, more, h.0), below_more m n ns more h.1)

-- one of them is
pub below_at : (m : ℕ) (ns : List ℕ) (k : ℕ) → AreBelow m ns → k < length ns → get_or ns k 0 < m
below_at m [] k h within = absurd (omega arith)
below_at m (n ∷ ns) zero h within = h.0
below_at m (n ∷ ns) (suc k) h within = below_at m ns k h.1 (omega arith)

-- all but the last, and the last
pub below_parts : (m : ℕ) (ns : List ℕ) (n : ℕ) → AreBelow m (ns ++ n ∷ []) → AreBelow m ns × (n < m)
below_parts m [] n h = (tt, h.0)
below_parts m (x ∷ ns) n h = let rest = below_parts m ns n h.1 in ((h.0, rest.0), rest.1)

-- marks that were made are kept
pub marked_more : (before after : List Bool) (ns : List ℕ) → ((k : ℕ) → IsMarked before k → IsMarked after k) → AreMarked before ns →
    AreMarked after ns
marked_more before after [] kept h = tt
marked_more before after (n ∷ ns) kept h = (kept n h.0, marked_more before after ns kept h.1)

-- one mark more
pub marked_push : (marks : List Bool) (ns : List ℕ) (n : ℕ) → AreMarked marks ns → IsMarked marks n → AreMarked marks (ns ++ n ∷ [])
marked_push marks [] n h one = (one, tt)
marked_push marks (x ∷ ns) n h one = (h.0, marked_push marks ns n h.1 one)

-- one more of a list is marked
pub marks_push : (a b c : List Bool) (ns : List ℕ) (k : ℕ) → Marks a b (take k ns) → k < length ns → Marks b c (get_or ns k 0 ∷ []) →
    Marks a c (take (k + 1) ns)
marks_push a b c ns k one within two =
    let n = get_or ns k 0 in
    subst (Marks a c) (sym (take_more ns k 0 within))
    (record {
      count = two.count ∙ one.count;
      kept = λ (i : ℕ) (h : IsMarked a i). two.kept i (one.kept i h);
      marked = marked_push c (take k ns) n (marked_more b c (take k ns) two.kept one.marked) two.marked.0;
      others = λ (m : ℕ) (h : AreBelow m (take k ns ++ n ∷ [])) (i : ℕ) (above : m ≤ i).
          let parts = below_parts m (take k ns) n h in
          two.others m (parts.1, tt) i above ∙ one.others m parts.0 i above;
    })

-- premises are below
say_below : (entries : List Entry) (m : ℕ) (ns is js : List ℕ) → SayEqual (Before entries m) ns is js → AreBelow m ns
say_below entries m [] is js h = tt
say_below entries m (n ∷ ns) [] js h = absurd h
say_below entries m (n ∷ ns) (i ∷ is) [] h = absurd h
say_below entries m (n ∷ ns) (i ∷ is) (j ∷ js) h = (h.0.0, say_below entries m ns is js h.1)

derives_below : (rows : List Row) (entries : List Entry) (m : ℕ) (r : Rule) (k : Known) → Derives rows (Before entries m) r k →
    AreBelow m (numbers_of r)
derives_below rows entries m Refl k h = tt
derives_below rows entries m (Sym n) (Equal i j) h = (h.0, tt)
derives_below rows entries m (Sym n) (Unequal i j) h = (h.0, tt)
derives_below rows entries m (Trans x y) (Equal i j) h = (h.1.0, (h.2.0, tt))
derives_below rows entries m (Trans x y) (Unequal i j) h = absurd h
derives_below rows entries m (Subst x y) (Equal i j) h = absurd h
derives_below rows entries m (Subst x y) (Unequal i j) h = (h.1.0, (h.2.0, tt))
derives_below rows entries m Alike k h = tt
derives_below rows entries m Apart k h = tt
derives_below rows entries m (Cong ns) (Equal i j) h = say_below entries m ns.items h.0.arguments.items h.1.arguments.items h.5
derives_below rows entries m (Cong ns) (Unequal i j) h = absurd h
derives_below rows entries m (Hit n) (Equal i j) h = (h.3.0, tt)
derives_below rows entries m (Hit n) (Unequal i j) h = absurd h
derives_below rows entries m (Miss n) (Equal i j) h = (h.3.0, tt)
derives_below rows entries m (Miss n) (Unequal i j) h = absurd h

pub follows_below : (v : Placed) (entries : List Entry) (m : ℕ) (w : Why) (k : Known) → Follows v (Before entries m) w k →
    AreBelow m (numbers_in w)
follows_below v entries m (Given fact) k h = tt
follows_below v entries m (By r) k h = derives_below v.board.rows entries m r k h

-- what an entry of a sound log follows from stands before it
pub entry_below : (c : Closure) (m : ℕ) (e : Entry) → IsSound c → m < length c.entries.items → e ≡ get_or c.entries.items m e →
    AreBelow m (numbers_in e.why)
entry_below c m e sound within read =
    follows_below (placed_of c) c.entries.items m e.why e.known
    (sound.follow m e (slice_get_read c.entries.items (length c.entries.items) m e refl within read))

-- an entry that is marked
pub closed_marked : (entries : List Entry) (before after : List Bool) (m : ℕ) (e : Entry) → AreClosedFrom entries before (m + 1) →
    slice_get entries m ≡ Some e → AreBelow m (numbers_in e.why) → Marks before after (numbers_in e.why) → AreClosedFrom entries after m
closed_marked entries before after m e closed there below marks k x low here marked =
    ⊎_elim
    (λ (more : m + 1 ≤ k).
    marked_more before after (numbers_in x.why) marks.kept
    (closed k x more here (sym (marks.others m below k low) ∙ marked)))
    (λ (same : m ≡ k).
    let is : e ≡ x = same_Some e x (sym there ∙ ap (slice_get entries) same ∙ here) in
    subst (λ (y : Entry). AreMarked after (numbers_in y.why)) is marks.marked) (above_or_at m k low)
  where
    above_or_at : (x y : ℕ) → x ≤ y → (x + 1 ≤ y) ⊎ (x ≡ y)
    above_or_at x y h = grind arith
