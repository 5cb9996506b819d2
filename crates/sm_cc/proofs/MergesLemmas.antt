-- Two classes become one.
use Rattle.sm_cc.proofs.Imports.{◌≡◌, ◌⊎◌, ℕ, ◌<◌, ◌==◌, Bool, true, false, if◌then◌else◌, Some, List, slice_get, length, get_or, inl, inr, refl, sym, ap, subst, ◌∙◌, ⊎_elim, arith, eq-eqb, slice_get_read, same_Some, IsSound, AddsEquation, are_together, IsLabel, AddsSome, Bridges, Crosses, relabelled, IsRelabelled, MovesRoots, IsCoarser, get_below}
use Rattle.sm_cc.specs.Closures.{Closure, Equation}
use Rattle.sm_cc.proofs.ClosuresLemmas.{grows_on, equation_noted, roots_of}
use Rattle.sm_cc.proofs.RoundsLemmas.{together_from}

-- the root that was read at a place that has a row
pub root_get : (c : Closure) (i : ℕ) (r : Equation) → IsSound c → i < length c.rows.items → r ≡ get_or c.roots.items i r →
    slice_get c.roots.items i ≡ Some r
root_get c i r sound within read =
    slice_get_read c.roots.items (length c.roots.items) i r refl (omega (arith, within, sound.count)) read

-- the equation of both labels
pub bridge_from : (old mid new : Closure) (f root b e : Equation) → AddsSome old mid f e → AddsEquation mid new b f.left root.right →
    slice_get old.roots.items e.right ≡ Some root → Bridges old new b e
bridge_from old mid new f root b e one two here = record {
  grows = grows_on old mid new one.adds.adds.grows two.adds.grows;
  roots = two.adds.roots ∙ one.adds.adds.roots;
  noted = equation_noted mid new b f.left root.right two;
  left = λ (r : Equation) (h : slice_get old.roots.items e.left ≡ Some r). two.left ∙ one.label r h;
  right = λ (s : Equation) (h : slice_get old.roots.items e.right ≡ Some s).
      two.right ∙ ap (λ (x : Equation). x.right) (same_Some root s (sym here ∙ h));
}

-- the one label becomes the other
relabelled_left : (b : Equation) (l : ℕ) → b.left ≡ l → relabelled b l ≡ b.right
relabelled_left b l same = ap (λ (t : Bool). if t then b.right else l) (eq-eqb l b.left (sym same))

-- the other stays
relabelled_right : (b : Equation) (l : ℕ) → b.right ≡ l → relabelled b l ≡ b.right
relabelled_right b l same = elim (l == b.left) as (λ (t : Bool). (if t then b.right else l) ≡ b.right) [ true ↦ refl | false ↦ sym same ]

-- both have the one label then
both_relabelled : (b : Equation) (k l : ℕ) → ((b.left ≡ k) × (b.right ≡ l)) ⊎ ((b.right ≡ k) × (b.left ≡ l)) → relabelled b k ≡
    relabelled b l
both_relabelled b k l sides =
    ⊎_elim
    (λ (p : (b.left ≡ k) × (b.right ≡ l)). relabelled_left b k p.0 ∙ sym (relabelled_right b l p.1))
    (λ (p : (b.right ≡ k) × (b.left ≡ l)). relabelled_right b k p.0 ∙ sym (relabelled_left b l p.1)) sides

-- places whose labels become one are together
pub together_then : (before after : List Equation) (b : Equation) (i j : ℕ) (r s : Equation) → IsRelabelled before after b i →
    IsRelabelled before after b j → slice_get before i ≡ Some r → slice_get before j ≡ Some s →
    relabelled b r.right ≡ relabelled b s.right → are_together after i j ≡ true
together_then before after b i j r s first second at_first at_second label =
    let x = first r at_first in
    let y = second s at_second in
    together_from after i j x.0 y.0 x.1 y.1 (x.2 ∙ label ∙ sym y.2)

-- the two places are together
pub merged_together : (old mid new : Closure) (b e : Equation) → IsSound old → e.left < length old.rows.items → e.right < length
    old.rows.items →
    Crosses old mid b e → MovesRoots mid new b → are_together new.roots.items e.left e.right ≡ true
merged_together old mid new b e sound first second crosses moves =
    let roots = old.roots.items in
    let r = get_below roots e.left (omega (arith, first, sound.count)) in
    let s = get_below roots e.right (omega (arith, second, sound.count)) in
    let same = ap (λ x. x.items) (sym crosses.roots) in
    together_then mid.roots.items new.roots.items b e.left e.right r.0 s.0 (moves.moved e.left) (moves.moved e.right)
    (subst (λ (l : List Equation). slice_get l e.left ≡ Some r.0) same r.1) (subst (λ (l : List Equation). slice_get l e.right ≡ Some
    s.0) same s.1)
    (both_relabelled b r.0.right s.0.right
    (⊎_elim
    (λ (p : IsLabel roots e.left b.left × IsLabel roots e.right b.right). inl (p.0 r.0 r.1, p.1 s.0 s.1))
    (λ (p : IsLabel roots e.left b.right × IsLabel roots e.right b.left). inr (p.0 r.0 r.1, p.1 s.0 s.1)) crosses.sides))

-- those that were together are
pub merged_coarser : (old mid new : Closure) (b : Equation) → mid.roots ≡ old.roots → MovesRoots mid new b →
    IsCoarser old.roots.items new.roots.items
merged_coarser old mid new b same moves i j h =
    let x = roots_of old.roots.items i j h in
    let roots = ap (λ l. l.items) (sym same) in
    together_then mid.roots.items new.roots.items b i j x.first x.second (moves.moved i) (moves.moved j)
    (subst (λ (l : List Equation). slice_get l i ≡ Some x.first) roots x.at_first)
    (subst (λ (l : List Equation). slice_get l j ≡ Some x.second) roots x.at_second) (ap (relabelled b) x.label)
