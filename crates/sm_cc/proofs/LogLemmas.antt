-- A log stays one as it grows.
use Rattle.sm_cc.proofs.Imports.{◌≡◌, ◌⊎◌, ℕ, zero, suc, ◌<◌, Some, None, List, [], ◌∷◌, ◌++◌, length, slice_get, inl, inr, refl, sym, ap, subst, ⊎_elim, arith, same_Some, Placed, SayEqual, Derives, Follows, known_at, Before, AllFollow, Rule, Refl, Sym, Subst, Alike, Cong, Why, By}
use Rattle.sm_cc.specs.declared.row.Row.{Row}
use Rattle.sm_cc.specs.Log.{Known, Equal, Unequal, Trans, Apart, Hit, Miss, Given, Entry}

-- an element of a list stays where it is as another is put behind it
pub get_kept : {X : Type 0} (xs : List X) (n : ℕ) (x y : X) → slice_get xs n ≡ Some x → slice_get (xs ++ y ∷ []) n ≡ Some x
get_kept [] n x y h = absurd (let k : None ≡ Some x = h in cc)
get_kept (z ∷ xs) zero x y h = h
get_kept (z ∷ xs) (suc n) x y h = get_kept xs n x y h

-- an element is an earlier one, or the last
pub get_cases : {X : Type 0} (xs : List X) (n : ℕ) (x y : X) → slice_get (xs ++ y ∷ []) n ≡ Some x →
    (slice_get xs n ≡ Some x) ⊎ ((n ≡ length xs) × (y ≡ x))
get_cases [] zero x y h = inr (refl, same_Some y x h)
get_cases [] (suc n) x y h = absurd (let k : None ≡ Some x = h in cc)
get_cases (z ∷ xs) zero x y h = inl h
get_cases (z ∷ xs) (suc n) x y h =
    ⊎_elim (λ (e : slice_get xs n ≡ Some x). inl e) (λ (p : (n ≡ length xs) × (y ≡ x)). inr (ap suc p.0, p.1)) (get_cases xs n x y h)

-- what an entry says stays as it is
pub known_kept : (entries : List Entry) (e : Entry) (n : ℕ) (k : Known) → known_at entries n ≡ Some k →
    known_at (entries ++ e ∷ []) n ≡ Some k
known_kept [] e n k h = absurd (let p : None ≡ Some k = h in cc)
known_kept (x ∷ entries) e zero k h = h
known_kept (x ∷ entries) e (suc n) k h = known_kept entries e n k h

-- the last entry says its fact
pub known_last : (entries : List Entry) (e : Entry) → known_at (entries ++ e ∷ []) (length entries) ≡ Some e.known
known_last [] e = refl
known_last (x ∷ entries) e = known_last entries e

-- what an entry says is said by one that is there
pub known_within : (entries : List Entry) (n : ℕ) (k : Known) → known_at entries n ≡ Some k → n < length entries
known_within [] n k h = absurd (let p : None ≡ Some k = h in cc)
known_within (x ∷ entries) zero k h = omega arith
known_within (x ∷ entries) (suc n) k h = let rest = known_within entries n k h in omega arith

-- premises are kept where facts are
pub say_more : (has more : ℕ → Known → Type 0) → ((n : ℕ) (k : Known) → has n k → more n k) →
    (ns is js : List ℕ) → SayEqual has ns is js → SayEqual more ns is js
say_more has more kept [] [] [] h = tt
say_more has more kept [] [] (j ∷ js) h = absurd h
say_more has more kept [] (i ∷ is) js h = absurd h
say_more has more kept (n ∷ ns) [] js h = absurd h
say_more has more kept (n ∷ ns) (i ∷ is) [] h = absurd h
say_more has more kept (n ∷ ns) (i ∷ is) (j ∷ js) h = (kept n (Equal i j) h.0, say_more has more kept ns is js h.1)

-- one premise more
pub say_one_more : (has : ℕ → Known → Type 0) (ns is js : List ℕ) (n i j : ℕ) → SayEqual has ns is js → has n (Equal i j) →
    SayEqual has (ns ++ n ∷ []) (is ++ i ∷ []) (js ++ j ∷ [])
say_one_more has [] [] [] n i j h one = (one, tt)
say_one_more has [] [] (y ∷ js) n i j h one = absurd h
say_one_more has [] (x ∷ is) js n i j h one = absurd h
say_one_more has (m ∷ ns) [] js n i j h one = absurd h
say_one_more has (m ∷ ns) (x ∷ is) [] n i j h one = absurd h
say_one_more has (m ∷ ns) (x ∷ is) (y ∷ js) n i j h one = (h.0, say_one_more has ns is js n i j h.1 one)

-- what a rule gives it gives where more is known
pub derives_more : (rows : List Row) (has more : ℕ → Known → Type 0) → ((n : ℕ) (k : Known) → has n k → more n k) →
    (r : Rule) (k : Known) → Derives rows has r k → Derives rows more r k
derives_more rows has more kept Refl (Equal i j) h = h
derives_more rows has more kept Refl (Unequal i j) h = absurd h
derives_more rows has more kept (Sym n) (Equal i j) h = kept n (Equal j i) h
derives_more rows has more kept (Sym n) (Unequal i j) h = kept n (Unequal j i) h
derives_more rows has more kept (Trans m n) (Equal i j) h = (h.0, kept m (Equal i h.0) h.1, kept n (Equal h.0 j) h.2)
derives_more rows has more kept (Trans m n) (Unequal i j) h = absurd h
derives_more rows has more kept (Subst m n) (Equal i j) h = absurd h
derives_more rows has more kept (Subst m n) (Unequal i j) h = (h.0, kept m (Unequal h.0 j) h.1, kept n (Equal h.0 i) h.2)
derives_more rows has more kept Alike (Equal i j) h = h
derives_more rows has more kept Alike (Unequal i j) h = absurd h
derives_more rows has more kept Apart (Equal i j) h = absurd h
derives_more rows has more kept Apart (Unequal i j) h = h
derives_more rows has more kept (Cong ns) (Equal i j) h =
    (h.0, h.1, h.2, h.3, h.4, say_more has more kept ns.items h.0.arguments.items h.1.arguments.items h.5)
derives_more rows has more kept (Cong ns) (Unequal i j) h = absurd h
derives_more rows has more kept (Hit n) (Equal i j) h = (h.0, h.1, h.2, kept n (Equal h.0.index h.0.other) h.3, h.4)
derives_more rows has more kept (Hit n) (Unequal i j) h = absurd h
derives_more rows has more kept (Miss n) (Equal i j) h = (h.0, h.1, h.2, kept n (Unequal h.0.index h.0.other) h.3, h.4)
derives_more rows has more kept (Miss n) (Unequal i j) h = absurd h

-- what follows by a reason follows where more is known
pub follows_more : (v : Placed) (has more : ℕ → Known → Type 0) → ((n : ℕ) (k : Known) → has n k → more n k) →
    (w : Why) (k : Known) → Follows v has w k → Follows v more w k
follows_more v has more kept (Given fact) (Equal i j) h = h
follows_more v has more kept (Given fact) (Unequal i j) h = h
follows_more v has more kept (By r) k h = derives_more v.board.rows has more kept r k h

-- an entry that follows from a log is put behind it
pub all_follow_more : (v : Placed) (entries : List Entry) (e : Entry) → AllFollow v entries →
    Follows v (λ n k. known_at entries n ≡ Some k) e.why e.known → AllFollow v (entries ++ e ∷ [])
all_follow_more v entries e all last m x h =
    ⊎_elim
    (λ (old : slice_get entries m ≡ Some x).
    follows_more v (Before entries m) (Before (entries ++ e ∷ []) m)
    (λ n k b. (b.0, known_kept entries e n k b.1)) x.why x.known (all m x old))
    (λ (new : (m ≡ length entries) × (e ≡ x)).
    subst (λ (y : Entry). Follows v (Before (entries ++ e ∷ []) m) y.why y.known) new.1
    (follows_more v (λ n k. known_at entries n ≡ Some k) (Before (entries ++ e ∷ []) m)
    (λ n k b. (subst (λ (l : ℕ). n < l) (sym new.0) (known_within entries n k b), known_kept entries e n k b)) e.why e.known last))
    (get_cases entries m x e h)
