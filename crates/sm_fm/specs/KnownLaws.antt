-- Private: two forms are the same where they are equal, so they are found alike.
use Rattle.std.proofs.Common.{◌≡◌, ◌==◌, ◌&&◌, ℕ, ℤ, true, List, [], ◌∷◌, ◌++◌, refl, ap}
use Rattle.std.specs.Ordering.{int_eq}
use Rattle.std.specs.Bool.{Decides}
use Rattle.std.proofs.lemmas.Bool.Decides.{Decides-and, Decides-eqb, Decides-int_eq}
use Rattle.sm_num.specs.Forms.{Linear}
use Rattle.sm_num.specs.declared.kind.Kind.{Kind}
use Rattle.sm_num.specs.declared.kind.Kind.TheVariants.{Le, Eq}
use Rattle.sm_fm.specs.Elimination.{same_list, same_kind, same_form}
use Rattle.std.specs.Cmp.{IsEquivalence}
use Rattle.sm_term.specs.RowLaws.{equivalence_by}
use Rattle.sm_fm.specs.declared.known.Known.{Known}
use Rattle.sm_fm.specs.Known.{same_known, hashed}
use Rattle.std.specs.Hash as fed

-- two parts are equal where their atoms and coefficients are
pub pair_decides : (p q : ℕ × ℤ) → Decides ((p.0 == q.0) && int_eq p.1 q.1) (p ≡ q)
pair_decides p q =
    let both = Decides-and _ _ (Decides-eqb p.0 q.0) (Decides-int_eq p.1 q.1) in (
      λ h. let e = both.0 h in λ k. (e.0 k, e.1 k),
      λ e. both.1 (ap (λ (r : ℕ × ℤ). r.0) e, ap (λ (r : ℕ × ℤ). r.1) e),
    )

-- two lists of parts are equal where their atoms and coefficients are, in order
pub same_list-Decides : (ps qs : List (ℕ × ℤ)) → Decides (same_list ps qs) (ps ≡ qs)
same_list-Decides [] [] = (λ h. refl, λ e. refl)
same_list-Decides [] (q ∷ qs) = (λ h. absurd cc, λ e. absurd cc)
same_list-Decides (p ∷ ps) [] = (λ h. absurd cc, λ e. absurd cc)
same_list-Decides (p ∷ ps) (q ∷ qs) =
    let rest = Decides-and _ _ (Decides-int_eq p.1 q.1) (same_list-Decides ps qs) in
    let all = Decides-and _ _ (Decides-eqb p.0 q.0) rest in (
      λ h. let e = all.0 h in λ k. (e.0 k, e.1.0 k) ∷ e.1.1 k,
      λ (e : p ∷ ps ≡ q ∷ qs).
          let first : p ≡ q = cc in
          let others : ps ≡ qs = cc in
          all.1 (ap (λ (r : ℕ × ℤ). r.0) first, (ap (λ (r : ℕ × ℤ). r.1) first, others)),
    )

-- two kinds are equal where the test of kinds says so
pub same_kind-Decides : (k l : Kind) → Decides (same_kind k l) (k ≡ l)
same_kind-Decides Le Le = (λ h. refl, λ e. refl)
same_kind-Decides Le Eq = (λ h. absurd cc, λ e. absurd cc)
same_kind-Decides Eq Le = (λ h. absurd cc, λ e. absurd cc)
same_kind-Decides Eq Eq = (λ h. refl, λ e. refl)

-- two forms are equal where their parts, constants and kinds are
pub same_form-Decides : (f g : Linear ℕ) → Decides (same_form f g) (f ≡ g)
same_form-Decides f g =
    let numbers = Decides-int_eq f.constant g.constant in
    let rest = Decides-and _ _ numbers (same_kind-Decides f.kind g.kind) in
    let all = Decides-and _ _ (same_list-Decides f.parts g.parts) rest in (
      λ h. let e = all.0 h in λ k. record { parts = e.0 k; constant = e.1.0 k; kind = e.1.1 k },
      λ e. all.1 (
        ap (λ (r : Linear ℕ). r.parts) e,
        (ap (λ (r : Linear ℕ). r.constant) e, ap (λ (r : Linear ℕ). r.kind) e),
      ),
    )

-- so sameness is an equivalence
pub same_known-equiv : IsEquivalence same_known
same_known-equiv =
    equivalence_by same_known (λ (x : Known). x.form) (λ x y. same_form-Decides x.form y.form)

-- what is hashed of a form
abbrev hashed_of : Linear ℕ → List (List ℕ)
hashed_of f = fed.slice (λ p. fed.u64 p.0 ++ fed.i128 p.1) f.parts ++ fed.i128 f.constant

-- known forms that are the same are hashed alike
pub same_known-hashed : (x y : Known) → same_known x y ≡ true → hashed x ≡ hashed y
unfolding hashed
same_known-hashed x y h = ap hashed_of ((same_form-Decides x.form y.form).0 h)
