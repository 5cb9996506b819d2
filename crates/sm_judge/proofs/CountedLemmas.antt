-- Each event is counted before it happens.
use Rattle.sm_judge.proofs.Imports.{◌≡◌, suc, ◌+◌, ◌<◌, nat_lt, Bool, true, false, if◌then◌else◌, List, [], ◌∷◌, ◌++◌, length, Some, slice_get, sym, ap, subst, ◌∙◌, ⊎_elim, add-one, arith, cases_Bool, ltb-false, length-append, Linear, Event, Cancels, Taking, TakesSum, ElimLine, Contradict, AreSums, AreNumbered, Walked, Closes, TooFar, counted, eliminated_by, get_last}
use Rattle.std.proofs.Common.{ℕ}
use Rattle.sm_judge.proofs.SummingLemmas.{sums_more, sums_if, sums_count, sums_contradict, taken_sum}

-- a step is left
pub counted_on : (steps count : ℕ) (next : ℕ → Walked) → count < steps → counted steps count next ≡ next (count + 1)
counted_on steps count next left =
    ⊎_elim
    (λ (e : nat_lt count steps ≡ true). ap (λ (b : Bool). if b then next (suc count) else TooFar) e ∙ ap next (sym (add-one count)))
    (λ (e : nat_lt count steps ≡ false). let wrong = ltb-false count steps e in absurd (omega arith))
    (cases_Bool (nat_lt count steps))

module _ (steps count : ℕ) (left : List Event) (next : ℕ → Walked) where
  -- a sum
  pub walked_sum : (f g t : ℕ) (kept wrong : Bool) (es : List Event) → left ≡ Cancels f g t kept wrong ∷ es → count < steps →
      eliminated_by steps count left next ≡ (if wrong then Closes (count + 1) else eliminated_by steps (count + 1) es next)
  walked_sum f g t kept wrong es is more =
      ap (λ (all : List Event). eliminated_by steps count all next) is
      ∙ counted_on steps count (λ (n : ℕ). if wrong then Closes n else eliminated_by steps n es next) more

  -- a sum that isn't a contradiction
  pub walked_on : (f g t : ℕ) (kept wrong : Bool) (es : List Event) → left ≡ Cancels f g t kept wrong ∷ es → count < steps → wrong ≡ false →
      eliminated_by steps count left next ≡ eliminated_by steps (count + 1) es next
  walked_on f g t kept wrong es is more quiet =
      walked_sum f g t kept wrong es is more
      ∙ ap (λ (b : Bool). if b then Closes (count + 1) else eliminated_by steps (count + 1) es next) quiet

  -- a sum that is a contradiction
  pub walked_last : (f g t : ℕ) (kept wrong : Bool) (es : List Event) → left ≡ Cancels f g t kept wrong ∷ es → count < steps → wrong ≡ true →
      eliminated_by steps count left next ≡ Closes (count + 1)
  walked_last f g t kept wrong es is more bad =
      walked_sum f g t kept wrong es is more
      ∙ ap (λ (b : Bool). if b then Closes (count + 1) else eliminated_by steps (count + 1) es next) bad

-- sums that are kept are recorded
pub recorded : (forms : List (Linear ℕ)) (es new_es : List ElimLine) (old new : Taking) (e : ElimLine) (kept wrong : Bool) →
    AreNumbered 0 old.atoms → AreSums forms es old.forms → TakesSum old new e.f e.g e.atom kept wrong →
    new_es ≡ es ++ (if kept then e ∷ [] else []) → AreSums forms new_es new.forms
recorded forms es new_es old new e kept wrong own sums takes are =
    let one = taken_sum old new e kept wrong own takes in
    let h = one.0 in
    let more = sums_if kept forms es old.forms e h sums one.1 in
    subst (λ (l : List ElimLine). AreSums forms l new.forms) (sym are)
    (subst (λ (l : List (Linear ℕ)). AreSums forms (es ++ (if kept then e ∷ [] else [])) l) (sym one.3) more)

-- the last sum can't hold
pub contradicted : (forms : List (Linear ℕ)) (es new_es : List ElimLine) (old new : Taking) (e : ElimLine) (kept wrong : Bool) →
    AreNumbered 0 old.atoms → AreSums forms es old.forms → TakesSum old new e.f e.g e.atom kept wrong → wrong ≡ true →
    new_es ≡ es ++ e ∷ [] →
    (0 < length new_es) × ((bad : ℕ) → bad + 1 ≡ length forms + length new_es → Contradict forms new_es bad)
contradicted forms es new_es old new e kept wrong own sums takes is are =
    let one = taken_sum old new e kept wrong own takes in
    let h = one.0 in
    let count = sums_count forms es old.forms sums in
    let more : length new_es ≡ length es + 1 = ap length are ∙ length-append es (e ∷ []) in (
      omega arith,
      λ bad place.
          let last : bad ≡ length old.forms = omega arith in
          let at : slice_get (old.forms ++ h ∷ []) bad ≡ Some h =
          subst (λ (n : ℕ). slice_get (old.forms ++ h ∷ []) n ≡ Some h) (sym last) (get_last old.forms h) in
          subst (λ (l : List ElimLine). Contradict forms l bad) (sym are)
          (sums_contradict forms (es ++ e ∷ []) (old.forms ++ h ∷ []) bad h (sums_more forms es old.forms e h sums one.1) at
          (sym one.2 ∙ is)),
    )
