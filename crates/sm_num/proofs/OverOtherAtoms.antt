-- Sums of kept forms, put over other atoms, come out alike with sums of forms over these that the
-- forms are alike with.
use Rattle.sm_num.proofs.Imports.{◌≡◌, ◌⊎◌, ℕ, ℤ, pos, ◌&&◌, Bool, true, false, List, [], ◌∷◌, refl, sym, ap, subst, ◌∙◌, inl, inr, ⊎_elim, cases_Bool, Linear, coefficient, renamed_form, IsKept, Kind, Outcome, Fits, Leaves, combined, combination, eliminated, elimination, has_no_part, fails, tightened, is_contradictory, same_atom, AreAlike, ComeOutAlike, renamed_outcome}
use Rattle.sm_num.proofs.OutcomeLemmas.{Gives, gives_fits}
use Rattle.sm_num.proofs.SameAtomLemmas.{IsSound, IsReflexive, IsApart, AreReduced, coefficient_past}
use Rattle.sm_num.proofs.ResultsReduced.{AreAmong, IsReduced, combination_among, elimination_among, combination_reduced, elimination_reduced, tightened_reduced, tightened_among}
use Rattle.sm_num.proofs.KeptLemmas.{combined_among, eliminated_among, parts_reduced, combined_kept, eliminated_kept, tightened_kept}
use Rattle.sm_num.proofs.RenamingLemmas.{renamed_parts, Renames, renamed_coefficient, combination_renamed_among, elimination_renamed_among, tightened_renamed}
use Rattle.sm_num.proofs.AlikeDivided.{tightened_alike, contradictory_alike}
use Rattle.sm_num.proofs.AlikeValues.{come_out_alike_on, come_out_fits}
use Rattle.sm_num.proofs.OrderLemmas.{combined_alike, eliminated_alike, combination_alike, elimination_alike}

module _ {A B : Type 0} (P : A → Type 0) (here : A → A → Bool) (there : B → B → Bool) (rename : A → B) where
  -- an atom over there is one of these, or has no coefficient
  found : IsSound there → (x : B) (ps : List (A × ℤ)) → AreAmong P ps →
      (coefficient there x (renamed_parts rename ps) ≡ pos 0) ⊎ ((a : A) × P a × (x ≡ rename a))
  found sound x [] among = inl refl
  found sound x (p ∷ ps) among =
      ⊎_elim
      (λ (e : there x (rename p.0) ≡ true). inr (p.0, among.0, sound x (rename p.0) e))
      (λ (e : there x (rename p.0) ≡ false).
      ⊎_elim
      (λ (zero : coefficient there x (renamed_parts rename ps) ≡ pos 0). inl
      (coefficient_past there x (rename p.0, p.1) (renamed_parts rename ps) e ∙ zero))
      (λ (is : (a : A) × P a × (x ≡ rename a)). inr is)
      (found sound x ps among.1))
      (cases_Bool (there x (rename p.0)))

  -- forms that are alike are alike over other atoms
  pub renamed_alike : IsSound there → Renames P here there rename → (f g : Linear A) → AreAmong P f.parts → AreAmong P g.parts →
      AreAlike here f g →
      AreAlike there (renamed_form rename f) (renamed_form rename g)
  renamed_alike sound renames f g first second alike =
      record { kind = alike.kind; constant = alike.constant; coefficients = equal }
    where
      at : (x : B) → (a : A) × P a × (x ≡ rename a) →
          coefficient there x (renamed_parts rename f.parts) ≡ coefficient there x (renamed_parts rename g.parts)
      at x is =
          subst (λ (y : B). coefficient there y (renamed_parts rename f.parts) ≡ coefficient there y (renamed_parts rename g.parts))
          (sym is.2)
          (renamed_coefficient P here there rename renames is.0 f.parts is.1 first ∙ alike.coefficients is.0
          ∙ sym (renamed_coefficient P here there rename renames is.0 g.parts is.1 second))

      equal : (x : B) → coefficient there x (renamed_parts rename f.parts) ≡ coefficient there x (renamed_parts rename g.parts)
      equal x =
          ⊎_elim
          (λ (none : coefficient there x (renamed_parts rename f.parts) ≡ pos 0).
          ⊎_elim (λ (nothing : coefficient there x (renamed_parts rename g.parts) ≡ pos 0). none ∙ sym nothing) (at x)
          (found sound x g.parts second))
          (at x) (found sound x f.parts first)

  -- results that are alike too
  pub renamed_outcome_alike : IsSound there → Renames P here there rename → (first second : Outcome (Linear A)) →
      Gives (λ (h : Linear A). AreAmong P h.parts) first →
      Gives (λ (h : Linear A). AreAmong P h.parts) second → ComeOutAlike here first second →
      ComeOutAlike there (renamed_outcome rename first) (renamed_outcome rename second)
  renamed_outcome_alike sound renames (Fits f) (Fits g) one other alike = renamed_alike sound renames f g one other alike
  renamed_outcome_alike sound renames (Fits f) (Leaves op y z) one other alike = absurd alike
  renamed_outcome_alike sound renames (Leaves op y z) (Fits g) one other alike = absurd alike
  renamed_outcome_alike sound renames (Leaves op y z) (Leaves op' y' z') one other alike = tt

  renamed_apart : Renames P here there rename → (a : A) (ps : List (A × ℤ)) → P a → AreAmong P ps → IsApart here a ps →
      IsApart there (rename a) (renamed_parts rename ps)
  renamed_apart renames a [] at among apart = tt
  renamed_apart renames a (p ∷ ps) at among apart = (renames a p.0 at among.0 ∙ apart.0, renamed_apart renames a ps at among.1 apart.1)

  -- a reduced list is reduced over other atoms
  pub renamed_reduced : Renames P here there rename → (ps : List (A × ℤ)) → AreAmong P ps → AreReduced here ps →
      AreReduced there (renamed_parts rename ps)
  renamed_reduced renames [] among reduced = tt
  renamed_reduced renames (p ∷ ps) among reduced =
      (reduced.0, renamed_apart renames p.0 ps among.0 among.1 reduced.1, renamed_reduced renames ps among.1 reduced.2)

-- a contradiction is one over other atoms
pub contradictory_renamed : {A B : Type 0} (rename : A → B) (f : Linear A) → is_contradictory (renamed_form rename f) ≡ is_contradictory f
contradictory_renamed {A} rename f = by f.parts
  where
    by : (ps : List (A × ℤ)) →
        (has_no_part (renamed_parts rename ps) && fails f.kind f.constant) ≡ (has_no_part ps && fails f.kind f.constant)
    by [] = refl
    by (p ∷ ps) = refl

-- a kept form over numbered atoms among these, and a reduced one over other atoms, are alike
pub record StandsFor {B : Type 0} (P : ℕ → Type 0) (there : B → B → Bool) (rename : ℕ → B) (f : Linear ℕ) (k : Linear B) : Type 0 where
  pub kept : IsKept f
  pub among : AreAmong P f.parts
  pub reduced : IsReduced there k
  pub alike : AreAlike there (renamed_form rename f) k

-- numbered atoms stand for atoms of another type
module _ {B : Type 0} (P : ℕ → Type 0) (there : B → B → Bool) (sound : IsSound there) (reflexive : IsReflexive there) (rename : ℕ → B)
    (renames : Renames P same_atom there rename) where
  stands_reduced : (f : Linear ℕ) (k : Linear B) → StandsFor P there rename f k → AreReduced there (renamed_parts rename f.parts)
  stands_reduced f k stands =
      renamed_reduced P same_atom there rename renames f.parts stands.among (parts_reduced 0 f.parts stands.kept.parts)

  -- sums of forms that stand for others come out alike with the sums of these
  pub combined_over : (f g : Linear ℕ) (k l : Linear B) (p q : ℤ) (kind : Kind) → StandsFor P there rename f k →
      StandsFor P there rename g l →
      ComeOutAlike there (renamed_outcome rename (combined f p g q kind)) (combination there k p l q kind)
  combined_over f g k l p q kind first second =
      come_out_alike_on there (renamed_outcome rename (combined f p g q kind)) (renamed_outcome rename (combination same_atom f p g q kind))
      (combination there k p l q kind)
      (renamed_outcome_alike P same_atom there rename sound renames (combined f p g q kind) (combination same_atom f p g q kind)
      (combined_among P f g p q kind first.among second.among) (combination_among same_atom P f g p q kind first.among second.among)
      (combined_alike f g p q kind first.kept second.kept))
      (subst (λ (o : Outcome (Linear B)). ComeOutAlike there o (combination there k p l q kind))
      (combination_renamed_among P same_atom there rename renames f g p q kind first.among second.among)
      (combination_alike there sound reflexive (renamed_form rename f) k (renamed_form rename g) l p q kind (stands_reduced f k first)
      first.reduced.parts (stands_reduced g l second) second.reduced.parts
      first.alike second.alike))

  -- where an atom cancels, sums of forms that stand for others come out alike with sums of these
  pub eliminated_over : (f g : Linear ℕ) (k l : Linear B) (t : ℕ) → P t → StandsFor P there rename f k → StandsFor P there rename g l →
      ComeOutAlike there (renamed_outcome rename (eliminated f g t)) (elimination there k l (rename t))
  eliminated_over f g k l t at first second =
      come_out_alike_on there (renamed_outcome rename (eliminated f g t)) (renamed_outcome rename (elimination same_atom f g t))
      (elimination there k l (rename t))
      (renamed_outcome_alike P same_atom there rename sound renames (eliminated f g t) (elimination same_atom f g t)
      (eliminated_among P f g t first.among second.among) (elimination_among same_atom P f g t first.among second.among)
      (eliminated_alike f g t first.kept second.kept))
      (subst (λ (o : Outcome (Linear B)). ComeOutAlike there o (elimination there k l (rename t)))
      (elimination_renamed_among P same_atom there rename renames f g t at first.among second.among)
      (elimination_alike there sound reflexive (renamed_form rename f) k (renamed_form rename g) l (rename t) (stands_reduced f k first)
      first.reduced.parts (stands_reduced g l second) second.reduced.parts
      first.alike second.alike))

  -- tight forms
  pub tightened_over : (f : Linear ℕ) (k : Linear B) → StandsFor P there rename f k →
      AreAlike there (renamed_form rename (tightened f)) (tightened k)
  tightened_over f k stands =
      subst (λ (h : Linear B). AreAlike there h (tightened k)) (tightened_renamed rename f)
      (tightened_alike there sound reflexive (renamed_form rename f) k (stands_reduced f k stands) stands.reduced.parts stands.alike)

  -- a form that stands for another is a contradiction exactly where that is
  pub contradictory_over : (f : Linear ℕ) (k : Linear B) → StandsFor P there rename f k → is_contradictory f ≡ is_contradictory k
  contradictory_over f k stands =
      sym (contradictory_renamed rename f)
      ∙ contradictory_alike there sound reflexive (renamed_form rename f) k (stands_reduced f k stands) stands.reduced.parts stands.alike

  -- the sum of forms that stand for others stands for the sum of these
  pub combined_stands : (f g h : Linear ℕ) (k l : Linear B) (p q : ℤ) (kind : Kind) → StandsFor P there rename f k →
      StandsFor P there rename g l → combined f p g q kind ≡ Fits h →
      (m : Linear B) × (combination there k p l q kind ≡ Fits m) × StandsFor P there rename h m
  combined_stands f g h k l p q kind first second e =
      let over = combined_over f g k l p q kind first second in
      let m = come_out_fits there (renamed_outcome rename (combined f p g q kind)) (combination there k p l q kind) (renamed_form rename h)
      over (ap (renamed_outcome rename) e) in (
        m.0,
        m.1,
        record {
          kept = gives_fits IsKept (combined f p g q kind) h (combined_kept f g p q kind first.kept second.kept) e;
          among = gives_fits (λ (r : Linear ℕ). AreAmong P r.parts) (combined f p g q kind) h
              (combined_among P f g p q kind first.among second.among) e;
          reduced = gives_fits (IsReduced there) (combination there k p l q kind) m.0
              (combination_reduced there sound reflexive k l p q kind first.reduced.parts second.reduced.parts) m.1;
          alike = m.2;
        },
      )

  -- where an atom cancels, the sum of forms that stand for others stands for the sum of these
  pub eliminated_stands : (f g h : Linear ℕ) (k l : Linear B) (t : ℕ) → P t → StandsFor P there rename f k → StandsFor P there rename g l →
      eliminated f g t ≡ Fits h →
      (m : Linear B) × (elimination there k l (rename t) ≡ Fits m) × StandsFor P there rename h m
  eliminated_stands f g h k l t at first second e =
      let over = eliminated_over f g k l t at first second in
      let m = come_out_fits there (renamed_outcome rename (eliminated f g t)) (elimination there k l (rename t)) (renamed_form rename h)
      over (ap (renamed_outcome rename) e) in (
        m.0,
        m.1,
        record {
          kept = gives_fits IsKept (eliminated f g t) h (eliminated_kept f g t first.kept second.kept) e;
          among = gives_fits (λ (r : Linear ℕ). AreAmong P r.parts) (eliminated f g t) h (eliminated_among P f g t first.among second.among)
              e;
          reduced = gives_fits (IsReduced there) (elimination there k l (rename t)) m.0
              (elimination_reduced there sound reflexive k l (rename t) first.reduced.parts second.reduced.parts) m.1;
          alike = m.2;
        },
      )

  -- the tight form of a form that stands for another stands for the tight form of that
  pub tightened_stands : (f : Linear ℕ) (k : Linear B) → StandsFor P there rename f k → StandsFor P there rename (tightened f) (tightened k)
  tightened_stands f k stands =
      record {
        kept = tightened_kept f stands.kept;
        among = tightened_among P f stands.among;
        reduced = tightened_reduced there k stands.reduced;
        alike = tightened_over f k stands;
      }
