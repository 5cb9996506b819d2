-- What is found in lists of forms: the first equation, and the part by which it is used.
use Rattle.sm_exact.proofs.Imports.{◌≡◌, ◌≢◌, ◌<◌, ◌≤◌, ◌+◌, ◌==◌, nat_lt, ℕ, zero, suc, ℤ, pos, negsuc, ◌+ℤ◌, nat_abs, Bool, true, false, not, ◌&&◌, if◌then◌else◌, Option, Some, None, List, [], ◌∷◌, ◌++◌, IsTrue, length, get_or, take, drop, map, refl, sym, ap, subst, ◌∙◌, arith, add-one, remove, int_eq, take_more, Decides-eqb, Decides-int_eq, ints, fits_form, Linear, AreParts, IsKept, coefficient, Kind, Le, Eq, same_atom, is_equation, has_no_part, at, has, first_equation, beside, least_part, least_part_of, Finds, IsPartAt, passed, coefficient_first}
use Rattle.std.proofs.Math.Seq.{drop-cons}
use Rattle.std.proofs.Math.ListN.{drop_of_length-le}

-- forms before others
passed_more : (fs : List (Linear ℕ)) (f : Linear ℕ) (found : Option (Linear ℕ × List (Linear ℕ))) →
    passed (fs ++ f ∷ []) found ≡ passed fs (beside f found)
passed_more [] f found = refl
passed_more (g ∷ fs) f found = ap (beside g) (passed_more fs f found)

passed_found : (fs rest : List (Linear ℕ)) (e : Linear ℕ) → passed fs (Some (e, rest)) ≡ Some (e, fs ++ rest)
passed_found [] rest e = refl
passed_found (g ∷ fs) rest e = ap (beside g) (passed_found fs rest e)

passed_none : (fs : List (Linear ℕ)) → passed fs None ≡ None
passed_none [] = refl
passed_none (g ∷ fs) = ap (beside g) (passed_none fs)

-- a form that isn't used is passed
pub equation_later : (fs : List (Linear ℕ)) (i : ℕ) (f : Linear ℕ) → i < length fs → f ≡ get_or fs i f →
    (is_equation f.kind && not (has_no_part f.parts)) ≡ false →
    first_equation fs ≡ passed (take i fs) (first_equation (drop i fs)) →
    first_equation fs ≡ passed (take (i + 1) fs) (first_equation (drop (i + 1) fs))
equation_later fs i f within here unused so_far =
    so_far
    ∙ ap (λ l. passed (take i fs) (first_equation l)) (drop-cons fs i f within)
    ∙ ap (λ g. passed (take i fs) (first_equation (g ∷ drop (suc i) fs))) (sym here)
    ∙ ap (λ (b : Bool). passed (take i fs) (if b then Some (f, drop (suc i) fs) else beside f (first_equation (drop (suc i) fs)))) unused
    ∙ sym (passed_more (take i fs) f (first_equation (drop (suc i) fs)))
    ∙ ap (λ l. passed l (first_equation (drop (suc i) fs)))
    (ap (λ g. take i fs ++ g ∷ []) here ∙ sym (take_more fs i f within))
    ∙ ap (λ n. passed (take (i + 1) fs) (first_equation (drop n fs))) (sym (add-one i))

-- one that is used is found
equation_here : (fs : List (Linear ℕ)) (i : ℕ) (f : Linear ℕ) → i < length fs → f ≡ get_or fs i f →
    (is_equation f.kind && not (has_no_part f.parts)) ≡ true →
    first_equation fs ≡ passed (take i fs) (first_equation (drop i fs)) → first_equation fs ≡ Some (f, remove fs i)
equation_here fs i f within here used so_far =
    so_far
    ∙ ap (λ l. passed (take i fs) (first_equation l)) (drop-cons fs i f within)
    ∙ ap (λ g. passed (take i fs) (first_equation (g ∷ drop (suc i) fs))) (sym here)
    ∙ ap (λ (b : Bool). passed (take i fs) (if b then Some (f, drop (suc i) fs) else beside f (first_equation (drop (suc i) fs)))) used
    ∙ passed_found (take i fs) (drop (suc i) fs) f

-- where there is none
pub equation_nowhere : (fs : List (Linear ℕ)) (i : ℕ) → length fs ≤ i →
    first_equation fs ≡ passed (take i fs) (first_equation (drop i fs)) → first_equation fs ≡ None
equation_nowhere fs i past so_far =
    so_far ∙ ap (λ l. passed (take i fs) (first_equation l)) (drop_of_length-le fs past) ∙ passed_none (take i fs)

-- an equation by its test
equation_kind : (k : Kind) (ps : List (ℕ × ℤ)) → (is_equation k && not (has_no_part ps)) ≡ true → (k ≡ Eq) × (has_no_part ps ≡ false)
equation_kind Le ps used = absurd cc
equation_kind Eq [] used = absurd cc
equation_kind Eq (p ∷ ps) used = (refl, refl)

-- the element at a place is one
same_item : {A : Type 0} (xs : List A) (i : ℕ) (x y : A) → i < length xs → x ≡ get_or xs i x → y ≡ get_or xs i y → x ≡ y
same_item [] i x y within here there = absurd (omega arith)
same_item (z ∷ xs) zero x y within here there = here ∙ sym there
same_item (z ∷ xs) (suc i) x y within here there = same_item xs i x y (omega arith) here there

pub finds_here : (fs : List (Linear ℕ)) (i : ℕ) (f : Linear ℕ) → i < length fs → f ≡ get_or fs i f →
    (is_equation f.kind && not (has_no_part f.parts)) ≡ true →
    first_equation fs ≡ passed (take i fs) (first_equation (drop i fs)) → Finds fs i
finds_here fs i f within here used so_far = record {
  within = within;
  found = λ e there. subst (λ g. first_equation fs ≡ Some (g, remove fs i)) (same_item fs i f e within here there)
      (equation_here fs i f within here used so_far);
  equation = λ e there. subst (λ (g : Linear ℕ). (g.kind ≡ Eq) × (has_no_part g.parts ≡ false)) (same_item fs i f e within here there)
      (equation_kind f.kind f.parts used);
}

-- a part has its coefficient, which is in the range and not 0
pub record IsPartOf (ps : List (ℕ × ℤ)) (least : ℕ) (q : ℕ × ℤ) : Type 0 where
  pub later : least ≤ q.0
  pub here : coefficient same_atom q.0 ps ≡ q.1
  pub fits : IsTrue (fits_form q.1)
  pub some : q.1 ≢ pos 0

abbrev Each : (ℕ × ℤ → Type 0) → List (ℕ × ℤ) → Type 0
Each P [] = Unit {0}
Each P (p ∷ ps) = P p × Each P ps

each_also : (P Q : ℕ × ℤ → Type 0) (ps : List (ℕ × ℤ)) → ((q : ℕ × ℤ) → P q → Q q) → Each P ps → Each Q ps
each_also P Q [] also all = tt
each_also P Q (p ∷ ps) also all = (also p all.0, each_also P Q ps also all.1)

other_atom : (least : ℕ) (p : ℕ × ℤ) (ps : List (ℕ × ℤ)) → least ≤ p.0 → (q : ℕ × ℤ) → IsPartOf ps (suc p.0) q → IsPartOf (p ∷ ps) least q
other_atom least p ps le q part = record {
  later = let after = part.later in omega arith;
  here = ap (λ (b : Bool). if b then p.1 +ℤ coefficient same_atom q.0 ps else coefficient same_atom q.0 ps)
      (test_false (q.0 == p.0) (λ is. let same = (Decides-eqb q.0 p.0).0 is in let after = part.later in absurd (omega arith)))
      ∙ part.here;
  fits = part.fits;
  some = part.some;
}
  where
    test_false : (b : Bool) → (b ≡ true → ⊥) → b ≡ false
    test_false true never = absurd (never refl)
    test_false false never = refl

each_part : (least : ℕ) (ps : List (ℕ × ℤ)) → AreParts least ps → Each (IsPartOf ps least) ps
each_part least [] kept = tt
each_part least (p ∷ ps) kept = (
  record { later = kept.0; here = coefficient_first p.0 least p ps kept refl; fits = kept.1; some = kept.2 },
  each_also (IsPartOf ps (suc p.0)) (IsPartOf (p ∷ ps) least) ps (other_atom least p ps kept.0) (each_part (suc p.0) ps kept.3),
)

least_stays : (P : ℕ × ℤ → Type 0) (p : ℕ × ℤ) (ps : List (ℕ × ℤ)) → P p → Each P ps → P (least_part_of p ps)
least_stays P p [] this all = this
least_stays P p (q ∷ qs) this all =
    least_stays P (if nat_lt (nat_abs q.1) (nat_abs p.1) then q else p) qs (choice (nat_lt (nat_abs q.1) (nat_abs p.1))) all.1
  where
    choice : (b : Bool) → P (if b then q else p)
    choice true = all.0
    choice false = this

pub least_is_part : (ps : List (ℕ × ℤ)) → AreParts 0 ps → has_no_part ps ≡ false → IsPartOf ps 0 (least_part ps)
least_is_part [] kept some = absurd cc
least_is_part (p ∷ ps) kept some = let all = each_part 0 (p ∷ ps) kept in least_stays (IsPartOf (p ∷ ps) 0) p ps all.0 all.1

-- a coefficient that isn't 0
pub has_by : (t : ℕ) (f : Linear ℕ) → (at t f ≡ pos 0 → ⊥) → has t f ≡ true
has_by t f some = turned (int_eq (at t f) (pos 0)) (λ is. some ((Decides-int_eq (at t f) (pos 0)).0 is))
  where
    turned : (b : Bool) → (b ≡ true → ⊥) → not b ≡ true
    turned true never = absurd (never refl)
    turned false never = refl

pub part_here : (fs : List (Linear ℕ)) (i : ℕ) (f : Linear ℕ) (ps : List (ℕ × ℤ)) (part : ℕ × ℤ) → i < length fs → f ≡ get_or fs i f →
    ps ≡ f.parts → IsKept f → Finds fs i → part ≡ least_part ps → IsPartAt fs i part
part_here fs i f ps part within here shown kept finds is =
    let same : part ≡ least_part f.parts = is ∙ ap least_part shown in
    let member : IsPartOf f.parts 0 part =
    subst (IsPartOf f.parts 0) (sym same) (least_is_part f.parts kept.parts (finds.equation f here).1) in
    record {
      least = λ e there. subst (λ (g : Linear ℕ). least_part g.parts ≡ part) (same_item fs i f e within here there) (sym same);
      stands = λ e there. subst (λ (g : Linear ℕ). has part.0 g ≡ true) (same_item fs i f e within here there)
          (has_by part.0 f (λ none. member.some (sym member.here ∙ none)));
      fits = member.fits;
    }

-- some part stands in a list with parts
pub some_part : (ps : List (ℕ × ℤ)) → has_no_part ps ≡ false → 0 < length ps
some_part [] some = absurd cc
some_part (p ∷ ps) some = omega arith

-- the least part of one more
pub least_next : (p : ℕ × ℤ) (ps : List (ℕ × ℤ)) (i : ℕ) (d r : ℕ × ℤ) → i < length ps →
    r ≡ (if nat_lt (nat_abs (get_or ps i d).1) (nat_abs p.1) then get_or ps i d else p) →
    least_part_of p (drop i ps) ≡ least_part_of r (drop (i + 1) ps)
least_next p ps i d r within is =
    ap (least_part_of p) (drop-cons ps i d within)
    ∙ ap (λ (x : ℕ × ℤ). least_part_of x (drop (suc i) ps)) (sym is)
    ∙ ap (λ n. least_part_of r (drop n ps)) (sym (add-one i))

-- the least part from the first on
pub least_first : (ps : List (ℕ × ℤ)) (d : ℕ × ℤ) → 0 < length ps → least_part_of (get_or ps 0 d) ps ≡ least_part ps
least_first [] d some = absurd (omega arith)
least_first (q ∷ ps) d some = ap (λ (x : ℕ × ℤ). least_part_of x ps) (either (nat_lt (nat_abs q.1) (nat_abs q.1)) q)
  where
    either : (b : Bool) (x : ℕ × ℤ) → (if b then x else x) ≡ x
    either true x = refl
    either false x = refl

pub least_last : (p : ℕ × ℤ) (ps : List (ℕ × ℤ)) (i : ℕ) → length ps ≤ i → least_part_of p (drop i ps) ≡ p
least_last p ps i past = ap (least_part_of p) (drop_of_length-le ps past)
