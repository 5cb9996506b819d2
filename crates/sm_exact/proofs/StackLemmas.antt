-- Frames: one more, one less, and what no frame changes.
use Rattle.sm_exact.proofs.Imports.{◌≡◌, ℕ, ℤ, pos, Option, Some, None, List, [], ◌∷◌, ◌++◌, refl, sym, ap, subst, ◌∙◌, Op, Decision, Done, Passed, Outside, Shallow, Answer, told, Awaits, Frame, Equation, Bounds, Dark, Splinters}

-- a frame more
pub awaits_more : (limit depth : ℕ) (fs : List Frame) (f : Frame) (a whole : Answer) → Awaits limit fs (told limit depth f a) whole →
    Awaits limit (fs ++ f ∷ []) a whole
awaits_more limit depth [] f a whole waits = (depth, a, waits, refl)
awaits_more limit depth (g ∷ fs) f a whole waits = (waits.0, waits.1, waits.2, awaits_more limit depth fs f a waits.1 waits.3)

-- the last frame taken
pub record TakesLast (limit : ℕ) (fs : List Frame) (f : Frame) (a whole : Answer) : Type 0 where
  pub depth : ℕ
  pub waits : Awaits limit fs (told limit depth f a) whole

pub awaits_less : (limit : ℕ) (fs : List Frame) (f : Frame) (a whole : Answer) → Awaits limit (fs ++ f ∷ []) a whole →
    TakesLast limit fs f a whole
awaits_less limit [] f a whole waits = record {
  depth = waits.0;
  waits = waits.2 ∙ ap (told limit waits.0 f) waits.3;
}
awaits_less limit (g ∷ fs) f a whole waits =
    let rest = awaits_less limit fs f a waits.1 waits.3 in
    record { depth = rest.depth; waits = (waits.0, waits.1, waits.2, rest.waits) }

-- another answer that is the same
pub awaits_same : (limit : ℕ) (fs : List Frame) (a b whole : Answer) → a ≡ b → Awaits limit fs a whole → Awaits limit fs b whole
awaits_same limit fs a b whole same waits = subst (λ x. Awaits limit fs x whole) same waits

-- other frames that are the same
pub awaits_along : (limit : ℕ) (fs gs : List Frame) (a whole : Answer) → gs ≡ fs → Awaits limit fs a whole → Awaits limit gs a whole
awaits_along limit fs gs a whole same waits = subst (λ x. Awaits limit x a whole) (sym same) waits

-- what no frame changes
told_passed : (limit depth : ℕ) (f : Frame) → told limit depth f Passed ≡ Passed
told_passed limit depth (Equation t e) = refl
told_passed limit depth (Bounds t side fs) = refl
told_passed limit depth (Dark s t fs) = refl
told_passed limit depth (Splinters r) = refl

told_shallow : (limit depth : ℕ) (f : Frame) → told limit depth f Shallow ≡ Shallow
told_shallow limit depth (Equation t e) = refl
told_shallow limit depth (Bounds t side fs) = refl
told_shallow limit depth (Dark s t fs) = refl
told_shallow limit depth (Splinters r) = refl

told_outside : (limit depth : ℕ) (f : Frame) (op : Op) (y z : ℤ) → told limit depth f (Outside op y z) ≡ Outside op y z
told_outside limit depth (Equation t e) op y z = refl
told_outside limit depth (Bounds t side fs) op y z = refl
told_outside limit depth (Dark s t fs) op y z = refl
told_outside limit depth (Splinters r) op y z = refl

pub awaits_passed : (limit : ℕ) (fs : List Frame) (whole : Answer) → Awaits limit fs Passed whole → whole ≡ Passed
awaits_passed limit [] whole waits = waits
awaits_passed limit (f ∷ fs) whole waits =
    waits.2 ∙ ap (told limit waits.0 f) (awaits_passed limit fs waits.1 waits.3) ∙ told_passed limit waits.0 f

pub awaits_shallow : (limit : ℕ) (fs : List Frame) (whole : Answer) → Awaits limit fs Shallow whole → whole ≡ Shallow
awaits_shallow limit [] whole waits = waits
awaits_shallow limit (f ∷ fs) whole waits =
    waits.2 ∙ ap (told limit waits.0 f) (awaits_shallow limit fs waits.1 waits.3) ∙ told_shallow limit waits.0 f

pub awaits_outside : (limit : ℕ) (fs : List Frame) (whole : Answer) (op : Op) (y z : ℤ) → Awaits limit fs (Outside op y z) whole →
    whole ≡ Outside op y z
awaits_outside limit [] whole op y z waits = waits
awaits_outside limit (f ∷ fs) whole op y z waits =
    waits.2 ∙ ap (told limit waits.0 f) (awaits_outside limit fs waits.1 op y z waits.3) ∙ told_outside limit waits.0 f op y z
