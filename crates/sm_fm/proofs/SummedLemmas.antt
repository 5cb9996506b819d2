-- While an atom is taken out: each pair has its sum, and what was true of the forms stays so.
use Rattle.sm_fm.proofs.Imports.{◌≡◌, ◌⊎◌, inl, inr, ℕ, suc, ◌<◌, ◌≤◌, ◌==◌, ℤ, pos, Bool, true, false, not, ◌&&◌, if◌then◌else◌, List, [], ◌∷◌, ◌++◌, refl, sym, ap, subst, ◌∙◌, ⊎_elim, arith, list_any, int_eq, eqb-true, eqb-false, and_parts, Decides-int_eq, Linear, IsKept, coefficient, Kind, Le, Eq, same_atom, Outcome, Fits, Leaves, eliminated, has_no_part, is_contradictory, gives_fits, IsApart, same_atom_sound, zero_test, zero_apart, AreAmong, parts_reduced, eliminated_is_kept, eliminated_among, eliminated_takes_atom, Placed, Cancels, same_list, same_kind, same_form, has_atom, is_new, Next, with_sum, forms_without, HoldsOver, AreQuiet, not_true}
use Rattle.sm_fm.specs.Elimination.{sums}
use Rattle.sm_fm.proofs.MembershipLemmas.{IsIn, from_filter, in_first, in_second, from_both, some_passes}
use Rattle.sm_fm.proofs.ValueLemmas.{partless_holds}
use Rattle.sm_fm.proofs.BackSubstitution.{AreApart, none_there}

-- equal tests, equal forms
same_list_is : (ps qs : List (ℕ × ℤ)) → same_list ps qs ≡ true → ps ≡ qs
same_list_is [] [] e = refl
same_list_is [] (q ∷ qs) e = absurd cc
same_list_is (p ∷ ps) [] e = absurd cc
same_list_is (p ∷ ps) (q ∷ qs) e =
    let one = and_parts (p.0 == q.0) (int_eq p.1 q.1 && same_list ps qs) e in
    let two = and_parts (int_eq p.1 q.1) (same_list ps qs) one.1 in
    all p.0 q.0 p.1 q.1 ps qs (eqb-true p.0 q.0 one.0) ((Decides-int_eq p.1 q.1).0 two.0) (same_list_is ps qs two.1)
  where
    all : (a b : ℕ) (c d : ℤ) (ps qs : List (ℕ × ℤ)) → a ≡ b → c ≡ d → ps ≡ qs → ◌≡◌ {A = List (ℕ × ℤ)} ((a, c) ∷ ps) ((b, d) ∷ qs)
    all a b c d ps qs first second third = rw (first, second, third) refl

same_kind_is : (k l : Kind) → same_kind k l ≡ true → k ≡ l
same_kind_is Le Le e = refl
same_kind_is Le Eq e = absurd cc
same_kind_is Eq Le e = absurd cc
same_kind_is Eq Eq e = refl

same_form_is : (f g : Linear ℕ) → same_form f g ≡ true → f ≡ g
same_form_is f g e =
    let one = and_parts (same_list f.parts g.parts) (int_eq f.constant g.constant && same_kind f.kind g.kind) e in
    let two = and_parts (int_eq f.constant g.constant) (same_kind f.kind g.kind) one.1 in
    all f.parts g.parts f.constant g.constant f.kind g.kind (same_list_is f.parts g.parts one.0)
    ((Decides-int_eq f.constant g.constant).0 two.0) (same_kind_is f.kind g.kind two.1)
  where
    all : (ps qs : List (ℕ × ℤ)) (c d : ℤ) (k l : Kind) → ps ≡ qs → c ≡ d → k ≡ l →
        ◌≡◌ {A = Linear ℕ} (record { parts = ps; constant = c; kind = k }) (record { parts = qs; constant = d; kind = l })
    all ps qs c d k l first second third = rw (first, second, third) refl

-- a form over the atoms that are left, which is no contradiction
pub record IsSane (t atoms : ℕ) (f : Linear ℕ) : Type 0 where
  pub kept : IsKept f
  pub among : AreAmong (λ (s : ℕ). (t ≤ s) × (s < atoms)) f.parts
  pub quiet : is_contradictory f ≡ false

-- forms of that kind, each with a place of its own below a count
pub record IsState (t atoms : ℕ) (forms : List Placed) (count : ℕ) : Type 0 where
  pub sane : (f : Placed) → IsIn f forms → IsSane t atoms f.form
  pub below : (f : Placed) → IsIn f forms → f.place < count
  pub apart : AreApart forms

-- a form more
state_more : (t atoms : ℕ) (forms : List Placed) (count : ℕ) (h : Linear ℕ) → IsState t atoms forms count → IsSane t atoms h →
    IsState t atoms (forms ++ record { place = count; form = h } ∷ []) (suc count)
state_more t atoms forms count h state is_sane =
    let new : Placed = record { place = count; form = h } in record {
      sane = λ (f : Placed) (is : IsIn f (forms ++ new ∷ [])). ⊎_elim
          (state.sane f)
          (⊎_elim (λ (same : f ≡ new). subst (λ (g : Placed). IsSane t atoms g.form) (sym same) is_sane) (λ (none : ⊥). absurd none))
          (from_both f forms (new ∷ []) is);
      below = λ (f : Placed) (is : IsIn f (forms ++ new ∷ [])). ⊎_elim
          (λ (old : IsIn f forms). let less = state.below f old in omega arith)
          (⊎_elim (λ (same : f ≡ new). subst (λ (g : Placed). g.place < suc count) (sym same) (omega arith)) (λ (none : ⊥). absurd none))
          (from_both f forms (new ∷ []) is);
      apart = λ (f g : Placed) (first : IsIn f (forms ++ new ∷ [])) (second : IsIn g (forms ++ new ∷ [])) (e : f.place ≡ g.place).
          by f g e (from_both f forms (new ∷ []) first) (from_both g forms (new ∷ []) second);
    }
  where
    new : Placed
    new = record { place = count; form = h }

    by : (f g : Placed) → f.place ≡ g.place → IsIn f forms ⊎ IsIn f (new ∷ []) → IsIn g forms ⊎ IsIn g (new ∷ []) → f ≡ g
    by f g e (inl first) (inl second) = state.apart f g first second e
    by f g e (inl first) (inr (inl same)) =
        let less = state.below f first in let place : g.place ≡ count = ap (λ (z : Placed). z.place) same in absurd (omega arith)
    by f g e (inl first) (inr (inr none)) = absurd none
    by f g e (inr (inl same)) (inl second) =
        let less = state.below g second in let place : f.place ≡ count = ap (λ (z : Placed). z.place) same in absurd (omega arith)
    by f g e (inr (inl same)) (inr (inl other)) = same ∙ sym other
    by f g e (inr (inl same)) (inr (inr none)) = absurd none
    by f g e (inr (inr none)) second = absurd none

-- a form holds wherever those hold that lack the atom
abbrev pub IsServed : ℕ → List Placed → Linear ℕ → Type 0
IsServed t left h =
    (d : ℕ) (v : ℕ → ℤ) → ((f : Placed) → IsIn f left → has_atom t f ≡ false → HoldsOver d v f.form) → HoldsOver d v h

-- two forms have a sum, which holds wherever those hold
pub record HasSum (t : ℕ) (left : List Placed) (f g : Placed) : Type 0 where
  pub sum : Linear ℕ
  pub is : eliminated f.form g.form t ≡ Fits sum
  pub served : IsServed t left sum

-- the forms after pairs have their sums
pub record AreSummed (t atoms : ℕ) (ps : List (Placed × Placed)) (next : Next) (forms : List Placed) : Type 0 where
  pub left : List Placed
  pub count : ℕ
  pub state : IsState t atoms left count
  pub goes_on : AreQuiet (next left count)
  pub more : (f : Placed) → IsIn f forms → IsIn f left
  pub have : (f g : Placed) → IsIn {X = Placed × Placed} (f, g) ps → HasSum t left f g

-- it does so among more forms
served_more : (t : ℕ) (old new : List Placed) (h : Linear ℕ) → ((f : Placed) → IsIn f old → IsIn f new) → IsServed t old h →
    IsServed t new h
served_more t old new h more served d v hold = served d v (λ (f : Placed) (is : IsIn f old). hold f (more f is))

-- a sum that is kept holds where it does
served_kept : (t count : ℕ) (forms : List Placed) (h : Linear ℕ) → coefficient same_atom t h.parts ≡ pos 0 →
    IsServed t (forms ++ record { place = count; form = h } ∷ []) h
served_kept t count forms h none d v hold =
    let new : Placed = record { place = count; form = h } in
    hold new (in_second new forms (new ∷ []) (inl refl)) (ap not (zero_test (coefficient same_atom t h.parts) none))

-- a sum that can hold and isn't new holds wherever those forms do that lack the atom
served_left_out : (t : ℕ) (forms : List Placed) (h : Linear ℕ) → coefficient same_atom t h.parts ≡ pos 0 → is_contradictory h ≡ false →
    is_new h forms ≡ false → IsServed t forms h
served_left_out t forms h none quiet old d v hold =
    by (has_no_part h.parts) (list_any (λ f. same_form h f.form) forms) refl refl old
  where
    by : (x y : Bool) → has_no_part h.parts ≡ x → list_any (λ (f : Placed). same_form h f.form) forms ≡ y → (not x && not y) ≡ false →
        HoldsOver d v h
    by true y e e2 none2 = partless_holds d v h e quiet
    by false true e e2 none2 =
        let there = some_passes (λ (f : Placed). same_form h f.form) forms e2 in
        let same = same_form_is h there.0.form there.2 in
        subst (HoldsOver d v) (sym same)
        (hold there.0 there.1
        (subst (λ (g : Linear ℕ). not (int_eq (coefficient same_atom t g.parts) (pos 0)) ≡ false) same
        (ap not (zero_test (coefficient same_atom t h.parts) none))))
    by false false e e2 none2 = absurd cc

-- a sum is over the atoms of its forms
sane_sum : (f g h : Linear ℕ) (t atoms : ℕ) → IsSane t atoms f → IsSane t atoms g → eliminated f g t ≡ Fits h → is_contradictory h ≡ false →
    IsSane t atoms h
sane_sum f g h t atoms first second e quiet = record {
  kept = eliminated_is_kept f g h t first.kept second.kept e;
  among = gives_fits (λ (k : Linear ℕ). AreAmong (λ (s : ℕ). (t ≤ s) × (s < atoms)) k.parts) (eliminated f g t) h
      (eliminated_among (λ (s : ℕ). (t ≤ s) × (s < atoms)) f g t first.among second.among) e;
  quiet = quiet;
}

-- the sums of pairs, in order
pub summed : (t atoms : ℕ) (ps : List (Placed × Placed)) (next : Next) (forms : List Placed) (count : ℕ) → IsState t atoms forms count →
    ((f g : Placed) → IsIn {X = Placed × Placed} (f, g) ps → IsSane t atoms f.form × IsSane t atoms g.form) →
    AreQuiet (sums t ps next forms count) → AreSummed t atoms ps next forms
summed t atoms [] next forms count state sane quiet = record {
  left = forms;
  count = count;
  state = state;
  goes_on = quiet;
  more = λ (f : Placed) (is : IsIn f forms). is;
  have = λ (f g : Placed) (none : ⊥). absurd none;
}
summed t atoms (p ∷ ps) next forms count state sane quiet =
    outcome (eliminated p.0.form p.1.form t) refl quiet
    (λ (some : List Placed) (n : ℕ) (st : IsState t atoms some n) (q : AreQuiet (sums t ps next some n)).
    summed t atoms ps next some n st (λ (f g : Placed) (is : IsIn {X = Placed × Placed} (f, g) ps). sane f g (inr is)) q)
  where
    both : IsSane t atoms p.0.form × IsSane t atoms p.1.form
    both = sane p.0 p.1 (inl refl)

    -- a sum is made, and then those of the other pairs
    then_others : (some : List Placed) (h : Linear ℕ) → eliminated p.0.form p.1.form t ≡ Fits h → IsServed t some h →
        ((f : Placed) → IsIn f forms → IsIn f some) → AreSummed t atoms ps next some → AreSummed t atoms (p ∷ ps) next forms
    then_others some h e served more rest = record {
      left = rest.left;
      count = rest.count;
      state = rest.state;
      goes_on = rest.goes_on;
      more = λ (f : Placed) (is : IsIn f forms). rest.more f (more f is);
      have = λ (f g : Placed) (is : IsIn {X = Placed × Placed} (f, g) (p ∷ ps)). ⊎_elim
          (λ (same : ◌≡◌ {A = Placed × Placed} (f, g) p).
          subst (λ (q : Placed × Placed). HasSum t rest.left q.0 q.1) (sym same)
          (record { sum = h; is = e; served = served_more t some rest.left h rest.more served }))
          (λ (there : IsIn {X = Placed × Placed} (f, g) ps). rest.have f g there)
          is;
    }

    made : (h : Linear ℕ) → eliminated p.0.form p.1.form t ≡ Fits h → (c n : Bool) → is_contradictory h ≡ c → is_new h forms ≡ n →
        AreQuiet
        (if c then Cancels p.0.place p.1.place t false true ∷ []
        else if n then
        Cancels p.0.place p.1.place t true false
        ∷ sums t ps next (forms ++ record { place = count; form = h } ∷ []) (suc count)
        else Cancels p.0.place p.1.place t false false ∷ sums t ps next forms count) →
        ((some : List Placed) (n : ℕ) → IsState t atoms some n → AreQuiet (sums t ps next some n) → AreSummed t atoms ps next some) →
        AreSummed t atoms (p ∷ ps) next forms
    made h e true n c1 n1 quiet recurse = absurd (let no : false ≡ true = quiet.0 in cc)
    made h e false true c1 n1 quiet recurse =
        let new : Placed = record { place = count; form = h } in
        then_others (forms ++ new ∷ []) h e (served_kept t count forms h (eliminated_takes_atom p.0.form p.1.form h t e))
        (λ (f : Placed) (is : IsIn f forms). in_first f forms (new ∷ []) is)
        (recurse (forms ++ new ∷ []) (suc count)
        (state_more t atoms forms count h state (sane_sum p.0.form p.1.form h t atoms both.0 both.1 e c1)) quiet.1)
    made h e false false c1 n1 quiet recurse =
        then_others forms h e (served_left_out t forms h (eliminated_takes_atom p.0.form p.1.form h t e) c1 n1)
        (λ (f : Placed) (is : IsIn f forms). is) (recurse forms count state quiet.1)

    outcome : (o : Outcome (Linear ℕ)) → eliminated p.0.form p.1.form t ≡ o →
        AreQuiet (with_sum t p.0 p.1 o (sums t ps next) forms count) →
        ((some : List Placed) (n : ℕ) → IsState t atoms some n → AreQuiet (sums t ps next some n) → AreSummed t atoms ps next some) →
        AreSummed t atoms (p ∷ ps) next forms
    outcome (Leaves op y z) e quiet recurse = absurd (let no : false ≡ true = quiet.0 in cc)
    outcome (Fits h) e quiet recurse = made h e (is_contradictory h) (is_new h forms) refl refl quiet recurse

-- the forms without the atom are over those after it
pub state_without : (t atoms : ℕ) (forms : List Placed) (count : ℕ) → IsState t atoms forms count →
    IsState (suc t) atoms (forms_without t forms) count
state_without t atoms forms count state = record {
  sane = λ (f : Placed) (is : IsIn f (forms_without t forms)).
      let from = from_filter (λ (g : Placed). not (has_atom t g)) f forms is in
      let old = state.sane f from.0 in
      let none = none_there (coefficient same_atom t f.form.parts) (not_true (has_atom t f) from.1) in record {
        kept = old.kept;
        among = past f.form.parts old.among
            (zero_apart same_atom same_atom_sound t f.form.parts (parts_reduced 0 f.form.parts old.kept.parts) none);
        quiet = old.quiet;
      };
  below = λ (f : Placed) (is : IsIn f (forms_without t forms)).
      state.below f (from_filter (λ (g : Placed). not (has_atom t g)) f forms is).0;
  apart = λ (f g : Placed) (first : IsIn f (forms_without t forms)) (second : IsIn g (forms_without t forms)).
      state.apart f g (from_filter (λ (h : Placed). not (has_atom t h)) f forms first).0
      (from_filter (λ (h : Placed). not (has_atom t h)) g forms second).0;
}
  where
    past : (ps : List (ℕ × ℤ)) → AreAmong (λ (s : ℕ). (t ≤ s) × (s < atoms)) ps → IsApart same_atom t ps →
        AreAmong (λ (s : ℕ). (suc t ≤ s) × (s < atoms)) ps
    past [] among apart = tt
    past (p ∷ ps) among apart =
        let other = eqb-false t p.0 apart.0 in
        ((omega (arith, among.0.0), among.0.1), past ps among.1 apart.1)
