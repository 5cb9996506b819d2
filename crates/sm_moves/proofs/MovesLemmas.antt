-- What each move says of the code that is left.
use Rattle.sm_moves.proofs.Imports.{◌≡◌, Bool, true, false, not, ◌&&◌, if◌then◌else◌, Option, Some, None, List, [], ◌∷◌, cond, refl, ap, sym, ◌∙◌, subst, find, and_parts, same_Some, Code, End, Copy, O, A, B, M, Copies, copies, has, is_inhabited, is_over, is_loop, has_that, inhabited_by, is_simple, is_fork, has_hole, Move, Done, Steps, Summaries, Forks, Loops, left_in, first_in, are_alike, move_or, next_move, move_of}
use Rattle.std.specs.Prelude.{filter}
use Rattle.sm_moves.proofs.CodesLemmas.{loop_or_else}
use Rattle.sm_moves.proofs.SetsLemmas.{Each}

-- what is found among those that pass passes both tests
found_both : (f g : Copy → Bool) (cs : List Copy) (c : Copy) → find f (filter g cs) ≡ Some c → (g c ≡ true) × (f c ≡ true)
found_both f g [] c e = absurd cc
found_both f g (d ∷ cs) c e = by (g d) refl e (found_both f g cs c)
  where
    here : (b : Bool) → g d ≡ true → f d ≡ b → cond b (Some d) (find f (filter g cs)) ≡ Some c →
        (find f (filter g cs) ≡ Some c → (g c ≡ true) × (f c ≡ true)) → (g c ≡ true) × (f c ≡ true)
    here true p q h later = subst (λ (x : Copy). (g x ≡ true) × (f x ≡ true)) (same_Some d c h) (p, q)
    here false p q h later = later h

    by : (b : Bool) → g d ≡ b → find f (cond b (d ∷ filter g cs) (filter g cs)) ≡ Some c →
        (find f (filter g cs) ≡ Some c → (g c ≡ true) × (f c ≡ true)) → (g c ≡ true) × (f c ≡ true)
    by true p h later = here (f d) p refl h later
    by false p h later = later h

-- where nothing is found, none of them passes
none_both : (f g : Copy → Bool) (cs : List Copy) → find f (filter g cs) ≡ None → Each (λ (c : Copy). g c ≡ true → f c ≡ false) cs
none_both f g [] e = tt
none_both f g (d ∷ cs) e = by (g d) refl e (none_both f g cs)
  where
    here : (b : Bool) → f d ≡ b → cond b (Some d) (find f (filter g cs)) ≡ None →
        (find f (filter g cs) ≡ None → Each (λ (c : Copy). g c ≡ true → f c ≡ false) cs) →
        Each (λ (c : Copy). g c ≡ true → f c ≡ false) (d ∷ cs)
    here true q h later = absurd cc
    here false q h later = ((λ (p : g d ≡ true). q), later h)

    by : (b : Bool) → g d ≡ b → find f (cond b (d ∷ filter g cs) (filter g cs)) ≡ None →
        (find f (filter g cs) ≡ None → Each (λ (c : Copy). g c ≡ true → f c ≡ false) cs) →
        Each (λ (c : Copy). g c ≡ true → f c ≡ false) (d ∷ cs)
    by true p h later = here (f d) refl h later
    by false p h later = ((λ (q : g d ≡ true). absurd cc), later h)

-- what holds of each of the copies holds of one
of_copies : (P : Copy → Type 0) → Each P copies → (c : Copy) → P c
of_copies P h O = h.0
of_copies P h A = h.1.0
of_copies P h B = h.1.1.0
of_copies P h M = h.1.1.1.0

-- the first copy of a set that passes is in it, and passes
pub first_found : (set : Copies) (test : Code → Bool) (r : Copy → Code) (c : Copy) → first_in set test r ≡ Some c →
    (has set c ≡ true) × (test (r c) ≡ true)
first_found set test r c e = found_both (λ (d : Copy). test (r d)) (has set) copies c e

-- where there is none, no copy of it passes
pub none_found : (set : Copies) (test : Code → Bool) (r : Copy → Code) → first_in set test r ≡ None → (c : Copy) → has set c ≡ true →
    test (r c) ≡ false
none_found set test r e = of_copies _ (none_both (λ (d : Copy). test (r d)) (has set) copies e)

-- a set without a copy
pub uninhabited : (set : Copies) → is_inhabited set ≡ false → (c : Copy) → has set c ≡ false
uninhabited set e c = by (has set c) refl
  where
    by : (b : Bool) → has set c ≡ b → has set c ≡ false
    by false h = h
    by true h = let some = inhabited_by set c h in absurd cc

-- a copy that has something left
pub left_parts : (set : Copies) (r : Copy → Code) (c : Copy) → has (left_in set r) c ≡ true → (has set c ≡ true) × (is_over (r c) ≡ false)
left_parts set r c h =
    let p = and_parts (has set c) (not (is_over (r c))) (sym (has_that (λ (d : Copy). has set d && not (is_over (r d))) c) ∙ h) in
    (p.0, by (is_over (r c)) p.1)
  where
    by : (b : Bool) → not b ≡ true → b ≡ false
    by true e = absurd cc
    by false e = refl

-- what a move says of the code that is left
abbrev pub MoveSays : Copies → (Copy → Code) → Move → Type 0
MoveSays set r Done = (c : Copy) → is_over (r c) ≡ true
MoveSays set r (Steps c) = (has set c ≡ true) × (is_simple (r c) ≡ true)
MoveSays set r (Summaries left) = (is_inhabited left ≡ true) ×
    ((c : Copy) → has left c ≡ true → (has set c ≡ true) × (is_over (r c) ≡ false))
MoveSays set r (Forks c) = (has set c ≡ true) × (is_fork (r c) ≡ true)
MoveSays set r (Loops left) = (is_inhabited left ≡ true) × ((c : Copy) → has left c ≡ true → (has set c ≡ true) × (is_loop (r c) ≡ true))

module _ (set : Copies) (r : Copy → Code) (no_hole : (c : Copy) → has_hole (r c) ≡ false) where
  abbrev left : Copies
  left = left_in set r

  branching_says : is_inhabited left ≡ true → ((c : Copy) → has left c ≡ true → is_simple (r c) ≡ false) → (o : Option Copy) →
      first_in left is_fork r ≡ o → MoveSays set r (move_or Forks o (Loops left))
  branching_says some simple None e = (
    some,
    λ (c : Copy) (h : has left c ≡ true).
        let p = left_parts set r c h in
        (p.0, loop_or_else (r c) (no_hole c) p.1 (simple c h) (none_found left is_fork r e c h)),
  )
  branching_says some simple (Some c) e =
      let p = first_found left is_fork r c e in ((left_parts set r c p.0).0, p.1)

  composed_says : is_inhabited left ≡ true → ((c : Copy) → has left c ≡ true → is_simple (r c) ≡ false) → (b : Bool) →
      MoveSays set r (if b then Summaries left else move_or Forks (first_in left is_fork r) (Loops left))
  composed_says some simple true = (some, left_parts set r)
  composed_says some simple false = branching_says some simple (first_in left is_fork r) refl

  next_says : is_inhabited left ≡ true → (o : Option Copy) → first_in left is_simple r ≡ o →
      MoveSays set r (move_or Steps o
      (if are_alike set left r then Summaries left else move_or Forks (first_in left is_fork r) (Loops left)))
  next_says some None e = composed_says some (none_found left is_simple r e) (are_alike set left r)
  next_says some (Some c) e =
      let p = first_found left is_simple r c e in ((left_parts set r c p.0).0, p.1)

  -- each move says this, where nothing is left outside the set
  pub move_says : ((c : Copy) → has set c ≡ false → r c ≡ End) → MoveSays set r (move_of set r)
  move_says outside = by (is_inhabited left) refl
    where
      over : (c : Copy) (b n : Bool) → has set c ≡ b → is_over (r c) ≡ n → (b && not n) ≡ false → is_over (r c) ≡ true
      over c false n h e none = ap is_over (outside c h)
      over c true true h e none = e
      over c true false h e none = absurd cc

      by : (b : Bool) → is_inhabited left ≡ b → MoveSays set r (if b then next_move set left r else Done)
      by true some = next_says some (first_in left is_simple r) refl
      by false none = λ (c : Copy).
          over c (has set c) (is_over (r c)) refl refl
          (sym (has_that (λ (d : Copy). has set d && not (is_over (r d))) c) ∙ uninhabited left none c)
