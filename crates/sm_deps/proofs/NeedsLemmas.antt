-- What is needed grows with what is wanted, and the set of a loop is closed.
use Rattle.sm_deps.proofs.Imports.{◌≢◌, ◌⊎◌, ℕ, Bool, IsTrue, inl, inr, ⊎_elim, Code, End, Skip, Write, If, While, Hole, mentions, tests, NamePredicate, Within, Picked, Least, Needs}
use Rattle.sm_syntax.specs.claim.Syntax.{Assign}

-- one of two, where the first grows
first_grows : (P Q R : Type 0) → (P → Q) → P ⊎ R → Q ⊎ R
first_grows P Q R f h = ⊎_elim (λ (p : P). inl (f p)) (λ (r : R). inr r) h

-- where more is wanted, more is needed
pub needs_grow : (c : Code) (few more : NamePredicate) → Within few more → Within (Needs c few) (Needs c more)
needs_grow End few more h x n = h x n
needs_grow (Skip k) few more h x n = needs_grow k few more h x n
needs_grow (Assign y e k) few more h x n =
    ⊎_elim
    (λ (kept : Needs k few x × (x ≢ y)). inl (needs_grow k few more h x kept.0, kept.1))
    (λ (new : Needs k few y × IsTrue (mentions e x)). inr (needs_grow k few more h y new.0, new.1))
    n
needs_grow (Write a i e k) few more h x n =
    ⊎_elim
    (λ (kept : Needs k few x). inl (needs_grow k few more h x kept))
    (λ (new : Needs k few a × (IsTrue (mentions i x) ⊎ IsTrue (mentions e x))). inr (needs_grow k few more h a new.0, new.1))
    n
needs_grow (If b c d k) few more h x n =
    let after : Within (Needs k few) (Needs k more) = needs_grow k few more h in
    ⊎_elim
    (λ (first : Needs c (Needs k few) x). inl (needs_grow c (Needs k few) (Needs k more) after x first))
    (λ (rest : Needs d (Needs k few) x ⊎ IsTrue (tests b x)).
    inr (first_grows (Needs d (Needs k few) x) (Needs d (Needs k more) x) (IsTrue (tests b x))
    (needs_grow d (Needs k few) (Needs k more) after x) rest))
    n
needs_grow (While b c k) few more h x n =
    λ (set : ℕ → Bool) (starts : Within (λ (y : ℕ). Needs k more y ⊎ IsTrue (tests b y)) (Picked set))
    (stays : Within (Needs c (Picked set)) (Picked set)).
    n set
    (λ (y : ℕ) (f : Needs k few y ⊎ IsTrue (tests b y)).
    starts y (first_grows (Needs k few y) (Needs k more y) (IsTrue (tests b y)) (needs_grow k few more h y) f))
    stays
needs_grow (Hole h' k) few more h x n = needs_grow k few more h x n

-- the least set holds the first names
pub least_starts : (first : NamePredicate) (brings : NamePredicate → NamePredicate) → Within first (Least first brings)
least_starts first brings x f =
    λ (set : ℕ → Bool) (starts : Within first (Picked set)) (stays : Within (brings (Picked set)) (Picked set)). starts x f

-- it holds what a body needs for it
pub least_stays : (first : NamePredicate) (c : Code) → Within (Needs c (Least first (Needs c))) (Least first (Needs c))
least_stays first c x n = λ (set : ℕ → Bool) (starts : Within first (Picked set)) (stays : Within (Needs c (Picked set)) (Picked set)).
    stays x (needs_grow c (Least first (Needs c)) (Picked set) (λ (y : ℕ) (l : Least first (Needs c) y). l set starts stays) x n)
