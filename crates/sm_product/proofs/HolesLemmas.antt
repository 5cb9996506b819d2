-- The fillings of a task that meets the conditions have no hole.
use Rattle.sm_product.proofs.Imports.{◌≡◌, ℕ, Option, Some, None, List, [], ◌∷◌, refl, Hole, filling, Copy, O, A, B, M, Parts, ValidHasNoHole}
use Rattle.sm_syntax.specs.text.Conditions.{Section, Refusal, ListOf, HoleInFilling, at_hole, first_outside, first_of_all, holes_inside, hole_in_filling, first_refusal}
use Rattle.sm_syntax.proofs.Refusals.{neither_refuses}
use Rattle.sm_moves.proofs.NoHoles.{no_filling, none_outside}

no_hole_at : (section : Section) (o : Option ℕ) → at_hole HoleInFilling section o ≡ None → o ≡ None
no_hole_at section None e = refl
no_hole_at section (Some h) e = absurd cc

abbrev asked_in : Parts → Copy → Option Refusal
asked_in t c = at_hole HoleInFilling (ListOf c) (first_outside [] (holes_inside (t.fillings c)))

none_in_lists : (t : Parts) → hole_in_filling t ≡ None → (c : Copy) → first_outside [] (holes_inside (t.fillings c)) ≡ None
unfolding hole_in_filling
none_in_lists t e = at (first.0) second.0 third.0 fourth.0
  where
    first : (asked_in t O ≡ None) × (first_of_all (asked_in t A ∷ asked_in t B ∷ asked_in t M ∷ []) ≡ None)
    first = neither_refuses _ _ e

    second : (asked_in t A ≡ None) × (first_of_all (asked_in t B ∷ asked_in t M ∷ []) ≡ None)
    second = neither_refuses _ _ first.1

    third : (asked_in t B ≡ None) × (first_of_all (asked_in t M ∷ []) ≡ None)
    third = neither_refuses _ _ second.1

    fourth : (asked_in t M ≡ None) × (first_of_all [] ≡ None)
    fourth = neither_refuses _ _ third.1

    at : asked_in t O ≡ None → asked_in t A ≡ None → asked_in t B ≡ None → asked_in t M ≡ None → (c : Copy) →
        first_outside [] (holes_inside (t.fillings c)) ≡ None
    at o a b m O = no_hole_at (ListOf O) (first_outside [] (holes_inside (t.fillings O))) o
    at o a b m A = no_hole_at (ListOf A) (first_outside [] (holes_inside (t.fillings A))) a
    at o a b m B = no_hole_at (ListOf B) (first_outside [] (holes_inside (t.fillings B))) b
    at o a b m M = no_hole_at (ListOf M) (first_outside [] (holes_inside (t.fillings M))) m

-- the fillings of a valid task have no hole
pub valid_no_hole : ValidHasNoHole
unfolding first_refusal
valid_no_hole t e c h =
    let second = (neither_refuses (hole_in_filling t) _ (neither_refuses _ _ e).1).0 in
    no_filling (t.fillings c) (none_outside (holes_inside (t.fillings c)) (none_in_lists t second c)) h
