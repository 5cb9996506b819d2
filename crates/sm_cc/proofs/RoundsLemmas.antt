-- Rounds over pairs of places, until nothing changes.
use Rattle.sm_cc.proofs.Imports.{◌≡◌, ℕ, ◌+◌, ◌<◌, ◌==◌, true, Some, Option, length, List, slice_get, refl, sym, ap, subst, ◌∙◌, arith, below_more, same_Some, eq-eqb, if_there, ArePlacesClosed, IsSound, are_together, board_of, Tries, AreSettled, get_below}
use Rattle.sm_cc.specs.Closures.{Closure, Equation}
use Rattle.sm_cc.proofs.ClosuresLemmas.{grows_on, roots_of}

-- one more is tried
pub tries_more : (P : ℕ → Closure → Type 0) (k : ℕ) (a b c : Closure) → Tries (λ (d : Closure). (m : ℕ) → m < k → P m d) a b →
    Tries (P k) b c → Tries (λ (d : Closure). (m : ℕ) → m < k + 1 → P m d) a c
tries_more P k a b c one two = record {
  grows = grows_on a b c one.grows two.grows;
  quiet = λ (e : length c.entries.items ≡ length a.entries.items).
      let first = one.quiet (omega (arith, e, one.grows.longer, two.grows.longer)) in
      let second = two.quiet (omega (arith, e, one.grows.longer, two.grows.longer)) in
      (second.0 ∙ first.0, below_more (λ (m : ℕ). P m a) k first.1 (subst (P k) first.0 second.1));
}

-- all was tried
pub tries_all : (P Q : Closure → Type 0) (a b : Closure) → Tries P a b → (P a → Q a) → Tries Q a b
tries_all P Q a b h more = record { grows = h.grows; quiet = λ e. ((h.quiet e).0, more (h.quiet e).1) }

-- places with roots that have one label are in one class
pub together_from : (roots : List Equation) (i j : ℕ) (r s : Equation) → slice_get roots i ≡ Some r → slice_get roots j ≡ Some s →
    r.right ≡ s.right → are_together roots i j ≡ true
together_from roots i j r s first second label =
    ap (λ (o : Option Equation). if_there o (λ (x : Equation). if_there (slice_get roots j) (λ (y : Equation). x.right == y.right))) first ∙
    ap (λ (o : Option Equation). if_there o (λ (y : Equation). r.right == y.right)) second ∙ eq-eqb r.right s.right label

-- settled classes are closed
pub closed_from : (c : Closure) → IsSound c → AreSettled c → ArePlacesClosed (board_of c) (are_together c.roots.items)
closed_from c sound settled =
    let roots = c.roots.items in
    record {
      each = λ (i : ℕ) (h : i < length c.rows.items).
          let r = get_below roots i (omega (arith, h, sound.count)) in
          together_from roots i i r.0 r.0 r.1 r.1 refl;
      turned = λ (i j : ℕ) (h : are_together roots i j ≡ true).
          let x = roots_of roots i j h in
          together_from roots j i x.second x.first x.at_second x.at_first (sym x.label);
      joined = λ (i j k : ℕ) (h : are_together roots i j ≡ true) (g : are_together roots j k ≡ true).
          let x = roots_of roots i j h in
          let y = roots_of roots j k g in
          let same : x.second ≡ y.first = same_Some x.second y.first (sym x.at_second ∙ y.at_first) in
          together_from roots i k x.first y.second x.at_first y.at_second (x.label ∙ ap (λ (e : Equation). e.right) same ∙ y.label);
      brought = λ (i j : ℕ) (h : i < length c.rows.items) (g : j < length c.rows.items) b. settled i h j g b;
    }

-- two things are tried
pub tries_both : (P Q : Closure → Type 0) (a b c : Closure) → Tries P a b → Tries Q b c → Tries (λ (d : Closure). P d × Q d) a c
tries_both P Q a b c one two = record {
  grows = grows_on a b c one.grows two.grows;
  quiet = λ (e : length c.entries.items ≡ length a.entries.items).
      let first = one.quiet (omega (arith, e, one.grows.longer, two.grows.longer)) in
      let second = two.quiet (omega (arith, e, one.grows.longer, two.grows.longer)) in
      (second.0 ∙ first.0, (first.1, subst Q first.0 second.1));
}
