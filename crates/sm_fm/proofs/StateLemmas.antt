-- What is left of a state as it goes on.
use Rattle.sm_fm.proofs.Imports.{◌≡◌, ◌<◌, ◌-◌, ℕ, zero, suc, IsTrue, List, [], ◌∷◌, ◌++◌, map, length, sym, ap, subst, ◌∙◌, arith, All, length_push, All-weaker, Linear, same_atom, can_cancel, Placed, pairs, events, standing, beginning, form_at, both_at, place_pairs, AreWithin, later_atoms, after_sum, left_of, IsPairOf, Lacks}
use Rattle.sm_fm.specs.Elimination.{sums}
use Rattle.sm_fm.proofs.FirstLemmas.{beginning_within, beginning_lacks}
use Rattle.sm_fm.proofs.JumpLemmas.{pairs_begin}
use Rattle.sm_fm.proofs.PlaceLemmas.{map-agree, form_stays, placed_stays, pairs_cancel, pairs_have}
use Rattle.sm_fm.proofs.StandingLemmas.{told_lacks, all_stand, standing_grows}

-- what happens to begin with
pub started : (forms : List (Linear ℕ)) (n more : ℕ) (ps : List (ℕ × ℕ)) → 0 < n → more ≡ n - 1 →
    ps ≡ place_pairs 0 forms (beginning forms 0) → left_of forms 0 more ps ≡ events forms n
started forms zero more ps some is ps_is = absurd (omega arith)
started forms (suc n) more ps some is ps_is =
    let more_is : more ≡ n = omega arith in
    ap (λ (k : ℕ). left_of forms 0 k ps) more_is
    ∙ ap (λ (l : List (Placed × Placed)). sums 0 l (later_atoms n 0) (standing forms 0) (length forms))
    (ap (map (both_at forms)) ps_is ∙ pairs_begin forms 0)
    ∙ ap (λ (l : List Placed). sums 0 (pairs 0 l) (later_atoms n 0) l (length forms)) (all_stand forms)

-- places that are looked up are those of forms
pub within_same : (forms others : List (Linear ℕ)) (t : ℕ) (ns : List ℕ) → others ≡ forms → ns ≡ beginning forms t →
    AreWithin (length others) ns
within_same forms others t ns same places =
    subst (λ (l : List (Linear ℕ)). AreWithin (length l) ns) (sym same)
    (subst (AreWithin (length forms)) (sym places) (beginning_within forms t))

-- the pairs of an atom
pub pairs_of_atom : (forms : List (Linear ℕ)) (atoms t : ℕ) (ps : List (ℕ × ℕ)) → t < atoms →
    ps ≡ place_pairs t forms (beginning forms t) → All (IsPairOf forms atoms t) ps
pairs_of_atom forms atoms t ps lt is =
    subst (All (IsPairOf forms atoms t)) (sym is)
    (λ k d here.
    let lacks = pairs_have (λ n. Lacks t (form_at forms n)) forms t (beginning forms t) (beginning_lacks forms t) k d here in
    let pair = pairs_cancel forms t (beginning forms t) (beginning_within forms t) k d here in
    record { atom = lt; pair = pair; first_lacks = lacks.0; second_lacks = lacks.1 })

module _ (forms : List (Linear ℕ)) (h : Linear ℕ) where
  abbrev more_forms : List (Linear ℕ)
  more_forms = forms ++ h ∷ []

  grown : length more_forms ≡ suc (length forms)
  grown = let e = length_push forms h in omega arith

  pair_stays : (atoms t : ℕ) (p : ℕ × ℕ) → IsPairOf forms atoms t p → IsPairOf more_forms atoms t p
  pair_stays atoms t p is =
      let e = grown in
      let first = is.pair.first in
      let second = is.pair.second in
      record {
        atom = is.atom;
        pair = record {
          first = omega arith;
          second = omega arith;
          cancels =
              subst (λ (f : Linear ℕ). IsTrue (can_cancel same_atom f (form_at more_forms p.1) t)) (sym (form_stays forms h p.0 first))
              (subst (λ (g : Linear ℕ). IsTrue (can_cancel same_atom (form_at forms p.0) g t)) (sym (form_stays forms h p.1 second))
              is.pair.cancels);
        };
        first_lacks = subst (Lacks t) (sym (form_stays forms h p.0 first)) is.first_lacks;
        second_lacks = subst (Lacks t) (sym (form_stays forms h p.1 second)) is.second_lacks;
      }

  -- pairs stay pairs
  pub pairs_stay : (atoms t : ℕ) (ps : List (ℕ × ℕ)) → All (IsPairOf forms atoms t) ps → All (IsPairOf more_forms atoms t) ps
  pairs_stay atoms t ps all = All-weaker (IsPairOf forms atoms t) (IsPairOf more_forms atoms t) (pair_stays atoms t) ps all

  -- pairs are of the same forms where one more form is put behind
  both_stay : (atoms t : ℕ) (ps : List (ℕ × ℕ)) → All (IsPairOf forms atoms t) ps → map (both_at more_forms) ps ≡ map (both_at forms) ps
  both_stay atoms t ps all =
      map-agree (IsPairOf forms atoms t) (both_at more_forms) (both_at forms)
      (λ p is. λ k. (placed_stays forms h p.0 is.pair.first k, placed_stays forms h p.1 is.pair.second k)) ps all

  -- what is left where the form stands after the others
  pub kept_left : (atoms t more : ℕ) (ps : List (ℕ × ℕ)) → Lacks t h → All (IsPairOf forms atoms t) ps →
      left_of more_forms t more ps
      ≡ after_sum forms t more ps (standing forms t ++ record { place = length forms; form = h } ∷ []) (suc (length forms))
  kept_left atoms t more ps lacks all =
      ap (λ (l : List (Placed × Placed)). sums t l (later_atoms more t) (standing more_forms t) (length more_forms))
      (both_stay atoms t ps all)
      ∙ ap (λ (n : ℕ). after_sum forms t more ps (standing more_forms t) n) grown
      ∙ ap (λ (l : List Placed). after_sum forms t more ps l (suc (length forms))) (standing_grows forms h t (told_lacks t h lacks))
