-- Where lines start and end.
use Rattle.sm_explain.proofs.Imports.{◌≡◌, ◌⊎◌, ◌+◌, ◌<◌, ◌≤◌, ℕ, List, length, sym, ap, ◌∙◌, ⊎_elim, arith, slice_index, StartsLine, EndsLine, HasNoFeed, IsPlace}
use Rattle.sm_explain.specs.declared.places.Place.{Place}

-- a line's two parts
pub feed_both : (text : List ℕ) (from mid to : ℕ) → HasNoFeed text from mid → HasNoFeed text mid to → HasNoFeed text from to
feed_both text from mid to first second k low high =
    ⊎_elim (λ (early : k < mid). first k low early) (λ (late : mid ≤ k). second k late high) (parts k mid)
  where
    parts : (j m : ℕ) → (j < m) ⊎ (m ≤ j)
    parts j m = grind arith

-- no line starts inside another
starts_first : (text : List ℕ) (s t e : ℕ) → StartsLine text t → HasNoFeed text s e → t ≤ e → t ≤ s
starts_first text s t e starts none within =
    ⊎_elim (λ (zero : t ≡ 0). omega arith)
    (λ (h : (before : ℕ) × (t ≡ before + 1) × (slice_index text before ≡ 10)).
    by h.0 h.1 h.2 (parts s h.0)) starts
  where
    parts : (j m : ℕ) → (j ≤ m) ⊎ (m < j)
    parts j m = grind arith

    by : (before : ℕ) → t ≡ before + 1 → slice_index text before ≡ 10 → (s ≤ before) ⊎ (before < s) → t ≤ s
    by before is feed late =
        ⊎_elim (λ (inside : s ≤ before). absurd (none before inside (omega arith) feed)) (λ (early : before < s). omega arith) late

-- no line ends inside another
ends_last : (text : List ℕ) (s e f : ℕ) → EndsLine text e → HasNoFeed text s f → s ≤ e → f ≤ length text → f ≤ e
ends_last text s e f ends none within short =
    ⊎_elim (λ (last : e ≡ length text). omega arith) (λ (feed : slice_index text e ≡ 10). by feed (parts f e)) ends
  where
    parts : (j m : ℕ) → (j ≤ m) ⊎ (m < j)
    parts j m = grind arith

    by : slice_index text e ≡ 10 → (f ≤ e) ⊎ (e < f) → f ≤ e
    by feed late = ⊎_elim (λ (early : f ≤ e). early) (λ (inside : e < f). absurd (none e within inside feed)) late

made : ℕ → ℕ → ℕ → ℕ → Place
made line column start end = record { line = line; column = column; start = start; end = end }

pub place_one : (text : List ℕ) (offset : ℕ) (p q : Place) → IsPlace text offset p → IsPlace text offset q → p ≡ q
unfolding made
place_one text offset p q g h =
    let start : p.start ≡ q.start =
    by_order p.start q.start
    (starts_first text q.start p.start q.end g.starts h.one_line (omega (arith, g.from_start, h.up_to_end)))
    (starts_first text p.start q.start p.end h.starts g.one_line (omega (arith, h.from_start, g.up_to_end))) in
    let end : p.end ≡ q.end =
    by_order p.end q.end
    (ends_last text p.start q.end p.end h.ends g.one_line (omega (arith, g.from_start, h.up_to_end)) g.inside)
    (ends_last text q.start p.end q.end g.ends h.one_line (omega (arith, h.from_start, g.up_to_end)) h.inside) in
    let line : p.line ≡ q.line = g.line ∙ sym h.line in
    let column : p.column ≡ q.column = omega (arith, g.column, h.column, start) in
    ap (λ (x : ℕ). made x p.column p.start p.end) line
    ∙ ap (λ (x : ℕ). made q.line x p.start p.end) column
    ∙ ap (λ (x : ℕ). made q.line q.column x p.end) start
    ∙ ap (λ (x : ℕ). made q.line q.column q.start x) end
  where
    by_order : (m n : ℕ) → m ≤ n → n ≤ m → m ≡ n
    by_order m n low high = omega arith
