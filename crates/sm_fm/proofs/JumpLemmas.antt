-- Atoms with which no form begins are passed over at once.
use Rattle.sm_fm.proofs.Imports.{◌≡◌, ◌<◌, ◌≤◌, ◌+◌, ◌-◌, ℕ, zero, suc, List, [], map, length, refl, sym, ap, ◌∙◌, arith, Linear, Placed, pairs, taken_out, standing, beginning, placed_at, both_at, place_pairs, later_atoms, left_of}
use Rattle.sm_fm.specs.Elimination.{sums}
use Rattle.sm_fm.proofs.FirstLemmas.{beginning_is}
use Rattle.sm_fm.proofs.PlaceLemmas.{pairs_are}
use Rattle.sm_fm.proofs.StandingLemmas.{others_stand}
use Rattle.sm_fm.proofs.WithLemmas.{pairs_having}

module _ (forms : List (Linear ℕ)) where
  -- the pairs of the forms that begin with an atom are those of all that stand
  pub pairs_begin : (t : ℕ) → map (both_at forms) (place_pairs t forms (beginning forms t)) ≡ pairs t (standing forms t)
  pairs_begin t =
      pairs_are forms t (beginning forms t) ∙ ap (pairs t) (beginning_is forms t) ∙ pairs_having t (standing forms t)

  -- where none begins with it there are none
  no_pairs : (t : ℕ) → beginning forms t ≡ [] → pairs t (standing forms t) ≡ []
  no_pairs t none =
      sym (pairs_having t (standing forms t))
      ∙ ap (pairs t) (sym (beginning_is forms t) ∙ ap (map (placed_at forms)) none)

  -- the others stand at the next atom
  goes_on : (m t count : ℕ) → later_atoms m t (standing forms t) count ≡ taken_out m (suc t) (standing forms (suc t)) count
  goes_on m t count = ap (λ (l : List Placed). taken_out m (suc t) l count) (others_stand forms t)

  -- so nothing happens at so many atoms
  passed_over : (k m t all next count : ℕ) → all ≡ k + m → next ≡ t + k →
      ((a : ℕ) → t ≤ a → a < next → beginning forms a ≡ []) →
      taken_out all t (standing forms t) count ≡ taken_out m next (standing forms next) count
  passed_over zero m t all next count all_is next_is none =
      let first : all ≡ m = omega arith in
      let second : t ≡ next = omega arith in
      ap (λ (n : ℕ). taken_out n t (standing forms t) count) first ∙ ap (λ (n : ℕ). taken_out m n (standing forms n) count) second
  passed_over (suc k) m t all next count all_is next_is none =
      let first : all ≡ suc (k + m) = omega arith in
      ap (λ (n : ℕ). taken_out n t (standing forms t) count) first
      ∙ ap (λ (l : List (Placed × Placed)). sums t l (later_atoms (k + m) t) (standing forms t) count)
      (no_pairs t (none t (omega arith) (omega arith)))
      ∙ goes_on (k + m) t count
      ∙ passed_over k m (suc t) (k + m) next count refl (omega arith) (λ a from to. none a (omega arith) to)

  -- what is left at the next atom with which a form begins is what was left where no pair was
  pub jumped : (t more next fewer : ℕ) (ps : List (ℕ × ℕ)) → t < next → next + fewer ≡ t + more →
      ((a : ℕ) → t < a → a < next → beginning forms a ≡ []) → ps ≡ place_pairs next forms (beginning forms next) →
      left_of forms next fewer ps ≡ left_of forms t more []
  jumped t more next fewer ps after same none ps_is =
      ap (λ (l : List (Placed × Placed)). sums next l (later_atoms fewer next) (standing forms next) (length forms))
      (ap (map (both_at forms)) ps_is ∙ pairs_begin next)
      ∙ sym
      (passed_over (next - suc t) (suc fewer) (suc t) more next (length forms) (omega arith) (omega arith)
      (λ a from to. none a (omega arith) to))
      ∙ sym (goes_on more t (length forms))

  -- where no form begins with one of the atoms that are left, nothing is left
  pub none_left : (t more next : ℕ) → next ≡ t + more + 1 → ((a : ℕ) → t < a → a < next → beginning forms a ≡ []) →
      left_of forms t more [] ≡ []
  none_left t more next next_is none =
      goes_on more t (length forms)
      ∙ passed_over more 0 (suc t) more next (length forms) (omega arith) (omega arith) (λ a from to. none a (omega arith) to)
