-- Forks of the copies of a set, one after the other, fit where what is drawn for each outcome does.
use Rattle.sm_product.proofs.Imports.{◌≡◌, Bool, true, false, not, ◌&&◌, ◌||◌, if◌then◌else◌, List, [], ◌∷◌, refl, ap, sym, ◌∙◌, subst, Condition, Code, End, If, append, Copy, O, A, B, M, is_copy, Copies, has, no_copies, with_copy, has_that, is_fork, by_first_block, by_second_block, members, with_member, without, IsOneOf, among_members, members_wait, Waits, other_copies, forked, or_parts}
use Rattle.sm_sketch.specs.Sketches.{Sketch}
use Rattle.sm_product.proofs.FitsLemmas.{Fits, fits_same}
use Rattle.sm_term.proofs.SameTermsLemmas.{copy_itself, copy_gives}

-- an if of each copy of a set, nothing for the others
abbrev pub ifs_of : (Copy → Condition) → (Copy → Code) → (Copy → Code) → Copies → Copy → Code
ifs_of guard first second set c = if has set c then If (guard c) (first c) (second c) End else End

-- the first block of those that took it, the second block of the others of the set
abbrev pub blocks_of : (Copy → Code) → (Copy → Code) → Copies → Copies → Copy → Code
blocks_of first second set taken c =
    if has taken c then append (first c) End else if has (without set taken) c then append (second c) End else End

-- a set with one more copy
has_member : (taken : Copies) (c d : Copy) → has (with_member taken c) d ≡ (is_copy c d || has taken d)
has_member taken c d = has_that (λ (x : Copy). is_copy c x || has taken x) d

has_without : (set taken : Copies) (d : Copy) → has (without set taken) d ≡ (has set d && not (has taken d))
has_without set taken d = has_that (λ (x : Copy). has set x && not (has taken x)) d

-- others still wait where one that isn't among them took the first block
waits_more : (set taken : Copies) (c : Copy) (cs : List Copy) → IsOneOf cs c ≡ false → Waits set cs taken →
    Waits set cs (with_member taken c)
waits_more set taken c [] e h = tt
waits_more set taken c (d ∷ cs) e h =
    let p = or_parts (is_copy c d) (IsOneOf cs c) e in
    (h.0, (has_member taken c d ∙ ap (λ (b : Bool). b || has taken d) p.0 ∙ h.1.0, (h.1.1.0, waits_more set taken c cs p.1 h.1.1.1)))

module _ (guard : Copy → Condition) (first second : Copy → Code) (inner : Copies → Sketch) (set : Copies)
    (each : (T : Copies) → Fits (inner T) (blocks_of first second set T)) where
  -- those of a list are still to fork
  abbrev waiting : Bool → Copies → Copy → Code
  waiting b taken d = if b then If (guard d) (first d) (second d) End else blocks_of first second set taken d

  abbrev pending : List Copy → Copies → Copy → Code
  pending cs taken d = waiting (IsOneOf cs d) taken d

  first_at : (taken : Copies) (c : Copy) (b m : Bool) → b ≡ false → m ≡ true → has (with_member taken c) c ≡ m →
      waiting b (with_member taken c) c ≡ append (first c) End
  first_at taken c false true e g h =
      ap (λ (x : Bool). if x then append (first c) End else if has (without set (with_member taken c)) c then append (second c) End
      else End) h
  first_at taken c false false e g h = absurd cc
  first_at taken c true m e g h = absurd cc

  second_at : (taken : Copies) (c : Copy) (b : Bool) → b ≡ false → has taken c ≡ false → has set c ≡ true →
      waiting b taken c ≡ append (second c) End
  second_at taken c false e g h =
      let in_rest : has (without set taken) c ≡ true = has_without set taken c ∙ rw (g, h) refl in rw (g, in_rest) refl
  second_at taken c true e g h = absurd cc

  -- a copy that took the first block is of no account for another
  other_at : (taken : Copies) (c d : Copy) (b : Bool) → is_copy c d ≡ false → waiting b (with_member taken c) d ≡ waiting b taken d
  other_at taken c d b e =
      let same : has (with_member taken c) d ≡ has taken d = has_member taken c d ∙ ap (λ (x : Bool). x || has taken d) e in
      let rest : has (without set (with_member taken c)) d ≡ has (without set taken) d =
      has_without set (with_member taken c) d ∙ ap (λ (x : Bool). has set d && not x) same ∙ sym (has_without set taken d) in
      rw (same, rest) refl

  -- the copy that forks, and the others
  split : (c : Copy) (v : Code) (f g : Copy → Code) → f c ≡ v → ((d : Copy) → is_copy c d ≡ false → f d ≡ g d) → (d : Copy) →
      f d ≡ with_copy g c v d
  split c v f g here there d = by (is_copy c d) refl
    where
      by : (b : Bool) → is_copy c d ≡ b → f d ≡ (if b then v else g d)
      by true e = subst (λ (x : Copy). f x ≡ v) (copy_gives c d e) here
      by false e = there d e

  forks_from : (cs : List Copy) (taken : Copies) → Waits set cs taken → Fits (forked inner cs taken) (pending cs taken)
  forks_from [] taken h = each taken
  forks_from (c ∷ cs) taken h =
      let all = pending (c ∷ cs) taken in
      let here : all c ≡ If (guard c) (first c) (second c) End =
      ap (λ (b : Bool). waiting (b || IsOneOf cs c) taken c) (copy_itself c) in
      let other : (d : Copy) → is_copy c d ≡ false → pending cs taken d ≡ all d =
      λ (d : Copy) (e : is_copy c d ≡ false). ap (λ (b : Bool). waiting (b || IsOneOf cs d) taken d) (sym (other_copies c d e)) in
      let one = with_member taken c in
      let in_one : has one c ≡ true = has_member taken c c ∙ ap (λ (b : Bool). b || has taken c) (copy_itself c) in (
        ap is_fork here,
        (
          fits_same (forked inner cs one) (pending cs one) (with_copy all c (by_first_block (all c)))
              (split c (by_first_block (all c)) (pending cs one) all
              (first_at taken c (IsOneOf cs c) true h.1.1.0 refl in_one ∙ sym (ap by_first_block here))
              (λ (d : Copy) (e : is_copy c d ≡ false). other_at taken c d (IsOneOf cs d) e ∙ other d e))
              (forks_from cs one (waits_more set taken c cs h.1.1.0 h.1.1.1)),
          (
            fits_same (forked inner cs taken) (pending cs taken) (with_copy all c (by_second_block (all c)))
                (split c (by_second_block (all c)) (pending cs taken) all
                (second_at taken c (IsOneOf cs c) h.1.1.0 h.1.0 h.0 ∙ sym (ap by_second_block here)) other)
                (forks_from cs taken h.1.1.1),
            tt,
          ),
        ),
      )

  pub forks_fit : Fits (forked inner (members set) no_copies) (ifs_of guard first second set)
  forks_fit =
      fits_same (forked inner (members set) no_copies) (pending (members set) no_copies) (ifs_of guard first second set)
      (λ (d : Copy). by d (IsOneOf (members set) d) (has set d) refl (among_members set d))
      (forks_from (members set) no_copies (members_wait set))
    where
      none : (d : Copy) → has no_copies d ≡ false
      none O = refl
      none A = refl
      none B = refl
      none M = refl

      by : (d : Copy) (b m : Bool) → has set d ≡ m → b ≡ m →
          waiting b no_copies d ≡ (if m then If (guard d) (first d) (second d) End else End)
      by d true true h e = refl
      by d true false h e = absurd cc
      by d false true h e = absurd cc
      by d false false h e =
          let rest : has (without set no_copies) d ≡ false = has_without set no_copies d ∙ ap
          (λ (b : Bool). b && not (has no_copies d)) h in
          rw (none d, rest) refl
