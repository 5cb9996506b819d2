-- Reduced parts in which each atom has one coefficient have one sum, in whatever order they stand.
use Rattle.sm_theory.proofs.Imports.{◌≡◌, ◌⊎◌, ℕ, ◌%◌, ◌==◌, nat_abs, ℤ, pos, ◌+ℤ◌, ◌*ℤ◌, Bool, true, false, not, if◌then◌else◌, List, [], ◌∷◌, refl, sym, ap, subst, ◌∙◌, ⊎_elim, inl, inr, int_eq, cases_Bool, and_parts, Decides-int_eq, Linear, sum_of_parts, coefficient, parts_without, Kind, Each, IsSound, IsReflexive, IsApart, AreReduced, not_both, apart_zero, coefficient_past, coefficient_one, coefficient_filter, reduced_filter, sum_without, floor_of, divisor_of_parts, divided_parts, has_no_part, one_is_zero, tightened_by, tightened, divided_among, floor_some, Tree, same_tree, same_tree_is, agree_with, same_parts, EachAtom, StandOnce}
use Rattle.sm_num.specs.declared.kind.Kind.TheVariants as kind
use Rattle.sm_num.proofs.DivisionLemmas.{DividesEach, divisor_divides}
use Rattle.std.proofs.lemmas.Nat.Gcd.{dvd_refl}
use Rattle.sm_theory.proofs.LinearSameTree.{tree_sound, tree_reflexive}

module _ {A : Type 0} (same : A → A → Bool) where
  -- each atom has one coefficient in both
  abbrev pub Alike : List (A × ℤ) → List (A × ℤ) → Type 0
  Alike fs gs = (a : A) → coefficient same a fs ≡ coefficient same a gs

  -- reduced parts without coefficients aren't there
  pub none_there : IsSound same → IsReflexive same → (gs : List (A × ℤ)) → AreReduced same gs → Alike [] gs → gs ≡ []
  none_there sound reflexive [] reduced alike = refl
  none_there sound reflexive (g ∷ gs) reduced alike =
      absurd (reduced.0 (sym (coefficient_one same g.0 g gs sound reduced.1 (reflexive g.0)) ∙ sym (alike g.0)))

  -- without the first part both have what is left
  rest_alike : IsSound same → IsReflexive same → (f : A × ℤ) (fs gs : List (A × ℤ)) → AreReduced same (f ∷ fs) → Alike (f ∷ fs) gs →
      Alike fs (parts_without same f.0 gs)
  rest_alike sound reflexive f fs gs reduced alike a = by (same f.0 a) refl
    where
      by : (b : Bool) → same f.0 a ≡ b → coefficient same a fs ≡ coefficient same a (parts_without same f.0 gs)
      by true e =
          let equal = sound f.0 a e in
          let none = subst (λ (x : A). coefficient same x fs ≡ pos 0) equal (apart_zero same f.0 fs reduced.1) in
          none ∙ sym (coefficient_filter same sound (λ (x : A). not (same f.0 x)) a gs
          ∙ ap (λ (b : Bool). if not b then coefficient same a gs else pos 0) e)
      by false e =
          sym (coefficient_past same a f fs (turned a e)) ∙ alike a
          ∙ sym (coefficient_filter same sound (λ (x : A). not (same f.0 x)) a gs
          ∙ ap (λ (b : Bool). if not b then coefficient same a gs else pos 0) e)
        where
          turned : (a : A) → same f.0 a ≡ false → same a f.0 ≡ false
          turned a e = ⊎_elim (λ (t : same a f.0 ≡ true). absurd
              (not_both (same f.0 a) (subst (λ (x : A). same f.0 x ≡ true) (sym (sound a f.0 t)) (reflexive f.0)) e))
              (λ (f : same a f.0 ≡ false). f) (cases_Bool (same a f.0))

  -- one sum
  pub alike_sum : (v : A → ℤ) → IsSound same → IsReflexive same → (fs gs : List (A × ℤ)) → AreReduced same fs → AreReduced same gs →
      Alike fs gs → sum_of_parts v fs ≡ sum_of_parts v gs
  alike_sum v sound reflexive [] gs first second alike = ap (sum_of_parts v) (sym (none_there sound reflexive gs second alike))
  alike_sum v sound reflexive (f ∷ fs) gs first second alike =
      let whole = sum_without v same sound f.0 gs in
      let here : coefficient same f.0 gs ≡ f.1 = sym (alike f.0) ∙ coefficient_one same f.0 f fs sound first.1 (reflexive f.0) in
      let rest = alike_sum v sound reflexive fs (parts_without same f.0 gs) first.2
      (reduced_filter same (λ r. not (same f.0 r.0)) gs second) (rest_alike sound reflexive f fs gs first alike) in
      ap (λ (x : ℤ). (f.1 *ℤ v f.0) +ℤ x) rest ∙ ap (λ (x : ℤ). (x *ℤ v f.0) +ℤ sum_of_parts v (parts_without same f.0 gs)) (sym here)
      ∙ sym whole

-- a part's coefficient among others, where it agrees with them
agreed : (others ps : List (Tree × ℤ)) → AreReduced same_tree ps → agree_with others ps ≡ true → (t : Tree) →
    (coefficient same_tree t ps ≡ pos 0) ⊎ (coefficient same_tree t ps ≡ coefficient same_tree t others)
agreed others [] reduced agree t = inl refl
agreed others (p ∷ ps) reduced agree t =
    let both = and_parts (int_eq (coefficient same_tree p.0 others) p.1) (agree_with others ps) agree in
    ⊎_elim
    (λ (e : same_tree t p.0 ≡ true).
    let equal = tree_sound t p.0 e in
    inr (coefficient_one same_tree t p ps tree_sound reduced.1 e ∙ sym ((Decides-int_eq (coefficient same_tree p.0 others) p.1).0 both.0)
    ∙ ap (λ (u : Tree). coefficient same_tree u others) (sym equal)))
    (λ (e : same_tree t p.0 ≡ false).
    let past = coefficient_past same_tree t p ps e in
    ⊎_elim (λ (zero : coefficient same_tree t ps ≡ pos 0). inl (past ∙ zero))
    (λ (one : coefficient same_tree t ps ≡ coefficient same_tree t others). inr (past ∙ one)) (agreed others ps reduced.2 both.1 t))
    (cases_Bool (same_tree t p.0))

-- parts that agree both ways are alike
pub same_parts_alike : (f g : Linear Tree) → AreReduced same_tree f.parts → AreReduced same_tree g.parts → same_parts f g ≡ true →
    Alike same_tree f.parts g.parts
same_parts_alike f g first second same t =
    let both = and_parts (agree_with g.parts f.parts) (agree_with f.parts g.parts) same in
    ⊎_elim
    (λ (none : coefficient same_tree t f.parts ≡ pos 0).
    ⊎_elim (λ (other : coefficient same_tree t g.parts ≡ pos 0). none ∙ sym other)
    (λ (equal : coefficient same_tree t g.parts ≡ coefficient same_tree t f.parts). sym equal)
    (agreed f.parts g.parts second both.1 t))
    (λ (equal : coefficient same_tree t f.parts ≡ coefficient same_tree t g.parts). equal)
    (agreed g.parts f.parts first both.0 t)

-- each term once, told by the test
pub once_reduced : (ps : List (Tree × ℤ)) → StandOnce ps → AreReduced same_tree ps
once_reduced [] once = tt
once_reduced (p ∷ ps) once = (once.0, apart ps once.1, once_reduced ps once.2)
  where
    apart : (ps : List (Tree × ℤ)) → EachAtom (λ (t : Tree). p.0 ≡ t → ⊥) ps → IsApart same_tree p.0 ps
    apart [] each = tt
    apart (q ∷ ps) each = (
      ⊎_elim (λ (e : same_tree p.0 q.0 ≡ true). absurd (each.0 (tree_sound p.0 q.0 e))) (λ (e : same_tree p.0 q.0 ≡ false). e)
          (cases_Bool (same_tree p.0 q.0)),
      apart ps each.1,
    )

-- in parts that are reduced, by the test of terms, each term stands once
pub reduced_once : (ps : List (Tree × ℤ)) → AreReduced same_tree ps → StandOnce ps
reduced_once [] reduced = tt
reduced_once (p ∷ ps) reduced = (reduced.0, apart ps reduced.1, reduced_once ps reduced.2)
  where
    apart : (ps : List (Tree × ℤ)) → IsApart same_tree p.0 ps → EachAtom (λ (t : Tree). p.0 ≡ t → ⊥) ps
    apart [] each = tt
    apart (q ∷ ps) each = (λ (e : p.0 ≡ q.0). not_both (same_tree p.0 q.0) ((same_tree_is p.0 q.0).1 e) each.0, apart ps each.1)

-- parts stand once also where they are divided without remainder
divided_once : (d : ℕ) (ps : List (Tree × ℤ)) → DividesEach d ps → AreReduced same_tree ps → AreReduced same_tree (divided_parts d ps)
divided_once d [] whole reduced = tt
divided_once d (p ∷ ps) whole reduced = (
  floor_some p.1 d whole.0 reduced.0,
  divided_among (λ (t : Tree). same_tree p.0 t ≡ false) d ps reduced.1,
  divided_once d ps whole.1
      reduced.2,
)

-- in a tight form too
pub tightened_once : (f : Linear Tree) → AreReduced same_tree f.parts → AreReduced same_tree (tightened f).parts
tightened_once f reduced = by f.parts f.constant f.kind reduced
  where
    divisor : (ps : List (Tree × ℤ)) → AreReduced same_tree ps → AreReduced same_tree (divided_parts (divisor_of_parts ps) ps)
    divisor ps reduced = divided_once (divisor_of_parts ps) ps (divisor_divides (divisor_of_parts ps) ps (dvd_refl (divisor_of_parts ps)))
        reduced

    whole : (b : Bool) (d : ℕ) (ps : List (Tree × ℤ)) (c : ℤ) → AreReduced same_tree (divided_parts d ps) →
        AreReduced same_tree
        (if b then record { parts = divided_parts d ps; constant = floor_of c d; kind = kind.Eq } else one_is_zero).parts
    whole true d ps c each = each
    whole false d ps c each = tt

    tight : (ps : List (Tree × ℤ)) (c : ℤ) (k : Kind) → AreReduced same_tree ps →
        AreReduced same_tree (tightened_by (divisor_of_parts ps) ps c k).parts
    tight ps c kind.Le reduced = divisor ps reduced
    tight ps c kind.Eq reduced = whole (nat_abs c % divisor_of_parts ps == 0) (divisor_of_parts ps) ps c (divisor ps reduced)

    by : (ps : List (Tree × ℤ)) (c : ℤ) (k : Kind) → AreReduced same_tree ps →
        AreReduced same_tree (if has_no_part ps then record { parts = ps; constant = c; kind = k } else tightened_by
        (divisor_of_parts ps) ps c k).parts
    by [] c k reduced = reduced
    by (p ∷ ps) c k reduced = tight (p ∷ ps) c k reduced

-- each of reduced parts has its coefficient
pub own_coefficients : (ps : List (Tree × ℤ)) → AreReduced same_tree ps → Each (λ r. coefficient same_tree r.0 ps ≡ r.1) ps
own_coefficients [] reduced = tt
own_coefficients (p ∷ ps) reduced = (
  coefficient_one same_tree p.0 p ps tree_sound reduced.1 (tree_reflexive p.0),
  later ps reduced.1
      (own_coefficients ps reduced.2),
)
  where
    later : (qs : List (Tree × ℤ)) → IsApart same_tree p.0 qs → Each (λ r. coefficient same_tree r.0 ps ≡ r.1) qs →
        Each (λ r. coefficient same_tree r.0 (p ∷ ps) ≡ r.1) qs
    later [] apart each = tt
    later (q ∷ qs) apart each = (coefficient_past same_tree q.0 p ps (turned q.0 apart.0) ∙ each.0, later qs apart.1 each.1)
      where
        turned : (t : Tree) → same_tree p.0 t ≡ false → same_tree t p.0 ≡ false
        turned t e =
            ⊎_elim
            (λ (s : same_tree t p.0 ≡ true). absurd (not_both (same_tree p.0 t)
            (subst (λ (u : Tree). same_tree p.0 u ≡ true) (sym (tree_sound t p.0 s)) (tree_reflexive p.0)) e))
            (λ (s : same_tree t p.0 ≡ false). s)
            (cases_Bool (same_tree t p.0))
