-- Lists with more behind them.
use Rattle.std.proofs.Common.{◌≡◌, ℕ, zero, suc, List, [], ◌∷◌, ◌++◌, Some, slice_get, refl, sym, ap, ◌∙◌}
use Rattle.std.proofs.lemmas.List.{append-nil}
use Rattle.sm_pairs.specs.Longer.{IsLonger}

-- what stands in a list stands there when it is longer
pub slice_get-longer : {A : Type 0} (old new : List A) → IsLonger old new → (n : ℕ) (x : A) → slice_get old n ≡ Some x → slice_get new n
    ≡ Some x
slice_get-longer {A} old new longer n x e = ap (λ (l : List A). slice_get l n) longer.1 ∙ by old n e
  where
    by : (l : List A) (n : ℕ) → slice_get l n ≡ Some x → slice_get (l ++ longer.0) n ≡ Some x
    by [] n e = absurd cc
    by (y ∷ l) zero e = e
    by (y ∷ l) (suc n) e = by l n e

-- a list is as long as itself
pub longer_itself : {A : Type 0} (list : List A) → IsLonger list list
longer_itself list = ([], sym (append-nil list))

-- twice longer
pub longer_twice : {A : Type 0} (one two three : List A) → IsLonger one two → IsLonger two three → IsLonger one three
longer_twice {A} one two three p q =
    (p.0 ++ q.0, q.1 ∙ ap (λ (l : List A). l ++ q.0) p.1 ∙ assoc one p.0 q.0)
  where
    assoc : (a b c : List A) → (a ++ b) ++ c ≡ a ++ (b ++ c)
    assoc [] b c = refl
    assoc (x ∷ a) b c = ap (λ (l : List A). x ∷ l) (assoc a b c)
