-- A list that stands after some room, after an edit of what holds both.
use Rattle.sm_eval.proofs.Imports.{◌≡◌, ◌<◌, ◌≤◌, ◌+◌, ◌++◌, ◌∷◌, ℕ, suc, List, length, get_or, set, take, drop, sym, ap, ◌∙◌, arith, insert, remove, length-take, length-drop, drop-drop, drop-set-add, drop_at, set_at, append_assoc}
use Rattle.std.proofs.Math.Seq.{paste, take-add, drop-cons}

module _ {X : Type 0} (l : List X) (front at : ℕ) where
  -- the room goes, where more than the room stays before something else
  dropped : (rest : List X) → front + at ≤ length l → drop front (take (front + at) l ++ rest) ≡ take at (drop front l) ++ rest
  dropped rest fits =
      let long = length-take front l in
      ap (λ m. drop front (m ++ rest)) (take-add front at l) ∙
      ap (drop front) (append_assoc (take front l) (take at (drop front l)) rest) ∙
      drop_at (take front l) (take at (drop front l) ++ rest) front (omega arith)

  pub drop-insert : (x : X) → front + at ≤ length l → drop front (insert l (front + at) x) ≡ insert (drop front l) at x
  drop-insert x fits = dropped (x ∷ drop (front + at) l) fits ∙ ap (λ m. take at (drop front l) ++ x ∷ m) (sym (drop-drop at front l))

  pub drop-remove : front + at < length l → drop front (remove l (front + at)) ≡ remove (drop front l) at
  drop-remove fits =
      dropped (drop (suc (front + at)) l) (omega arith) ∙
      ap (λ k. take at (drop front l) ++ drop k l) {x = suc (front + at)} {y = front + suc at} (omega arith) ∙
      ap (λ m. take at (drop front l) ++ m) (sym (drop-drop (suc at) front l))

  -- a new one among them, where those before it move into the room
  pub drop-moved : (p n : ℕ) (x : X) → front ≡ p + 1 → n ≡ at → front + at ≤ length l →
      drop p (set (paste l p (drop front l) n) (p + at) x) ≡ insert (drop front l) at x
  drop-moved p n x room same fits =
      let live = drop front l in
      let long = length-take p l in
      let moved : drop p (paste l p live n) ≡ take at live ++ drop (p + at) l =
      ap (λ k. drop p (paste l p live k)) same ∙
      ap (drop p) (append_assoc (take p l) (take at live) (drop (p + at) l)) ∙
      drop_at (take p l) (take at live ++ drop (p + at) l) p (omega arith) in
      let next : drop (p + at) l ≡ get_or l (p + at) x ∷ drop at live =
      drop-cons l (p + at) x (omega arith) ∙
      ap (λ k. get_or l (p + at) x ∷ drop k l) {x = suc (p + at)} {y = front + at} (omega arith) ∙
      ap (λ m. get_or l (p + at) x ∷ m) (sym (drop-drop at front l)) in
      let live_long = length-take at live in
      let rest = length-drop front l in
      drop-set-add p (paste l p live n) at x ∙
      ap (λ m. set m at x) (moved ∙ ap (λ m. take at live ++ m) next) ∙
      set_at (take at live) (get_or l (p + at) x) (drop at live) x at (omega arith)
