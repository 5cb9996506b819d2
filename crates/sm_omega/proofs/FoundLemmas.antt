-- What the rules take from a list: its first equation, the part of that with the least coefficient, and the least variable.
use Rattle.sm_omega.proofs.Imports.{◌≡◌, ◌≢◌, ◌<◌, ◌≤◌, nat_lt, ℕ, suc, ℤ, pos, nat_abs, Bool, true, false, not, ◌&&◌, ◌||◌, if◌then◌else◌, Option, Some, None, List, [], ◌∷◌, length, refl, sym, ap, subst, ◌∙◌, arith, list_any, and_parts, ne_eqb, Linear, coefficient, AreParts, Kind, Le, Eq, is_equation, has_no_part, same_atom, Each, same_atom_sound, same_atom_reflexive, coefficient_one, coefficient_past, other_test, AreAmong, parts_apart, at, has, others, lesser, lesser_first, least_variable, beside, first_equation, least_part_of, least_part, not_true, or_true, equation_is}
use Rattle.sm_omega.proofs.Predicates.{EachOf, IsListed, AreListed}

-- equations

-- an equation that is found has parts, and what is so of each form is so of it and of those beside it
pub record IsFound (P : Linear ℕ → Type 0) (all : List (Linear ℕ)) (e : Linear ℕ) (gs : List (Linear ℕ)) : Type 0 where
  pub kind : e.kind ≡ Eq
  pub some : has_no_part e.parts ≡ false
  pub first : P e
  pub rest : EachOf P gs
  pub long : length all ≡ suc (length gs)
  -- whatever a test says of it the list says
  pub any_of : (test : Linear ℕ → Bool) → test e ≡ true → list_any test all ≡ true

-- where one is found
abbrev pub IfFound : (Linear ℕ → Type 0) → List (Linear ℕ) → Option (Linear ℕ × List (Linear ℕ)) → Type 0
IfFound P all None = EachOf (λ (f : Linear ℕ). has_no_part f.parts ≡ false → f.kind ≡ Le) all
IfFound P all (Some found) = IsFound P all found.0 found.1

-- a form in front that is no equation with parts
beside_found : (P : Linear ℕ → Type 0) (f : Linear ℕ) (fs : List (Linear ℕ)) (found : Option (Linear ℕ × List (Linear ℕ))) → P f →
    (has_no_part f.parts ≡ false → f.kind ≡ Le) → IfFound P fs found → IfFound P (f ∷ fs) (beside f found)
beside_found P f fs None first le more = (le, more)
beside_found P f fs (Some found) first le more = record {
  kind = more.kind;
  some = more.some;
  first = more.first;
  rest = (first, more.rest);
  long = ap suc more.long;
  any_of = λ test e. ap (λ (b : Bool). test f || b) (more.any_of test e) ∙ or_true (test f);
}

-- a form with parts that is not taken is no equation
le_by_test : (kind : Kind) (b : Bool) → is_equation kind && not b ≡ false → b ≡ false → kind ≡ Le
le_by_test Le b e f = refl
le_by_test Eq true e f = absurd cc
le_by_test Eq false e f = absurd cc

-- the first equation, or that there is none
pub first_found : (P : Linear ℕ → Type 0) (fs : List (Linear ℕ)) → EachOf P fs → IfFound P fs (first_equation fs)
first_found P [] each = tt
first_found P (f ∷ fs) each = by (is_equation f.kind && not (has_no_part f.parts)) refl (first_found P fs each.1)
  where
    by : (b : Bool) → is_equation f.kind && not (has_no_part f.parts) ≡ b → IfFound P fs (first_equation fs) →
        IfFound P (f ∷ fs) (if b then Some (f, fs) else beside f (first_equation fs))
    by true e more =
        let both = and_parts (is_equation f.kind) (not (has_no_part f.parts)) e in
        record {
          kind = equation_is f.kind both.0;
          some = not_true (has_no_part f.parts) both.1;
          first = each.0;
          rest = each.1;
          long = refl;
          any_of = λ test here. ap (λ (b : Bool). b || list_any test fs) here;
        }
    by false e more = beside_found P f fs (first_equation fs) each.0 (le_by_test f.kind (has_no_part f.parts) e) more

-- what is so of the one that is found
pub found_is : (P : Linear ℕ → Type 0) (fs : List (Linear ℕ)) (e : Linear ℕ) (gs : List (Linear ℕ)) → EachOf P fs →
    first_equation fs ≡ Some (e, gs) → IsFound P fs e gs
found_is P fs e gs each found = subst (IfFound P fs) found (first_found P fs each)

-- the others are one fewer
pub found_long : (fs : List (Linear ℕ)) (e : Linear ℕ) (gs : List (Linear ℕ)) → first_equation fs ≡ Some (e, gs) →
    length fs ≡ suc (length gs)
found_long fs e gs found = let is = found_is (λ f. Unit {0}) fs e gs (any fs) found in is.long
  where
    any : (fs : List (Linear ℕ)) → EachOf (λ (f : Linear ℕ). Unit {0}) fs
    any [] = tt
    any (f ∷ fs) = (tt, any fs)

-- what is so of it and of those beside it is so of each
abbrev IfAll : (Linear ℕ → Type 0) → List (Linear ℕ) → Option (Linear ℕ × List (Linear ℕ)) → Type 0
IfAll P all None = Unit {0}
IfAll P all (Some found) = P found.0 → EachOf P found.1 → EachOf P all

-- a form in front
beside_all : (P : Linear ℕ → Type 0) (f : Linear ℕ) (fs : List (Linear ℕ)) (found : Option (Linear ℕ × List (Linear ℕ))) →
    IfAll P fs found → IfAll P (f ∷ fs) (beside f found)
beside_all P f fs None more = tt
beside_all P f fs (Some found) more = λ here each. (each.0, more here each.1)

-- whichever is found
first_all : (P : Linear ℕ → Type 0) (fs : List (Linear ℕ)) → IfAll P fs (first_equation fs)
first_all P [] = tt
first_all P (f ∷ fs) = by (is_equation f.kind && not (has_no_part f.parts)) (beside_all P f fs (first_equation fs) (first_all P fs))
  where
    by : (b : Bool) → IfAll P (f ∷ fs) (beside f (first_equation fs)) →
        IfAll P (f ∷ fs) (if b then Some (f, fs) else beside f (first_equation fs))
    by true more = λ here each. (here, each)
    by false more = more

-- so of the list, where an equation is found
pub found_all : (P : Linear ℕ → Type 0) (fs : List (Linear ℕ)) (e : Linear ℕ) (gs : List (Linear ℕ)) → first_equation fs ≡ Some (e, gs) →
    P e → EachOf P gs → EachOf P fs
found_all P fs e gs found = subst (IfAll P fs) found (first_all P fs)

-- each part has the coefficient of its variable
pub own_coefficients : (least : ℕ) (ps : List (ℕ × ℤ)) → AreParts least ps → Each (λ r. coefficient same_atom r.0 ps ≡ r.1) ps
own_coefficients least [] parts = tt
own_coefficients least (p ∷ ps) parts = (
  coefficient_one same_atom p.0 p ps same_atom_sound (parts_apart p.0 (suc p.0) ps (omega arith) parts.3) (same_atom_reflexive p.0),
  later (suc p.0) ps (omega arith) parts.3 (own_coefficients (suc p.0) ps parts.3),
)
  where
    later : (from : ℕ) (rs : List (ℕ × ℤ)) → p.0 < from → AreParts from rs → Each (λ r. coefficient same_atom r.0 ps ≡ r.1) rs →
        Each (λ r. coefficient same_atom r.0 (p ∷ ps) ≡ r.1) rs
    later from [] above kept each = tt
    later from (r ∷ rs) above kept each = (
      coefficient_past same_atom r.0 p ps (ne_eqb r.0 p.0 (λ (e : r.0 ≡ p.0). omega (arith, above, kept.0))) ∙ each.0,
      later (suc r.0) rs (omega (arith, above, kept.0)) kept.3 each.1,
    )

-- a part of a form: the variable is below a number, and has this coefficient, which isn't 0
abbrev pub IsPartOf : ℕ → List (ℕ × ℤ) → ℕ × ℤ → Type 0
IsPartOf s all p = (p.0 < s) × (coefficient same_atom p.0 all ≡ p.1) × (p.1 ≢ pos 0)

-- each part is one
pub parts_of : (s least : ℕ) (all ps : List (ℕ × ℤ)) → AreParts least ps → AreAmong (λ (a : ℕ). a < s) ps →
    Each (λ r. coefficient same_atom r.0 all ≡ r.1) ps → Each (IsPartOf s all) ps
parts_of s least all [] parts below own = tt
parts_of s least all (p ∷ ps) parts below own = ((below.0, own.0, parts.2), parts_of s (suc p.0) all ps parts.3 below.1 own.1)

-- a chosen part is one of them
least_of_each : (P : ℕ × ℤ → Type 0) (p : ℕ × ℤ) (ps : List (ℕ × ℤ)) → P p → Each P ps → P (least_part_of p ps)
least_of_each P p [] here each = here
least_of_each P p (q ∷ qs) here each =
    least_of_each P (if nat_lt (nat_abs q.1) (nat_abs p.1) then q else p) qs (by (nat_lt (nat_abs q.1) (nat_abs p.1))) each.1
  where
    by : (b : Bool) → P (if b then q else p)
    by true = each.0
    by false = here

-- the part with the least coefficient is a part
pub least_is_part : (s : ℕ) (e : Linear ℕ) → IsListed s e → IsPartOf s e.parts (least_part e.parts)
least_is_part s e listed = by e.parts listed.good.kept.parts listed.good.below listed.some
  where
    by : (ps : List (ℕ × ℤ)) → AreParts 0 ps → AreAmong (λ (a : ℕ). a < s) ps → has_no_part ps ≡ false → IsPartOf s ps (least_part ps)
    by [] parts below some = absurd cc
    by (p ∷ ps) parts below some =
        let each = parts_of s 0 (p ∷ ps) (p ∷ ps) parts below (own_coefficients 0 (p ∷ ps) parts) in
        least_of_each (IsPartOf s (p ∷ ps)) p ps each.0 each.1

-- a form has the variable of its part
pub has_part : (s : ℕ) (f : Linear ℕ) (p : ℕ × ℤ) → IsPartOf s f.parts p → has p.0 f ≡ true
has_part s f p part =
    ap not (other_test (at p.0 f) (λ (zero : at p.0 f ≡ pos 0). part.2 (sym part.1 ∙ zero)))

-- variables

-- a variable below a number that some form has, and of no variable that there is no form
abbrev pub IsLeast : ℕ → List (Linear ℕ) → Option ℕ → Type 0
IsLeast s fs None = fs ≡ []
IsLeast s fs (Some t) = (t < s) × (list_any (has t) fs ≡ true)

-- the variable of a first part, or one of the other forms
lesser_is : (s : ℕ) (f : Linear ℕ) (fs : List (Linear ℕ)) (a : ℕ) (other : Option ℕ) → a < s → has a f ≡ true → IsLeast s fs other →
    IsLeast s (f ∷ fs) (Some (lesser a other))
lesser_is s f fs a None less here more = (less, ap (λ (b : Bool). b || list_any (has a) fs) here)
lesser_is s f fs a (Some m) less here more = by (nat_lt m a)
  where
    by : (b : Bool) → IsLeast s (f ∷ fs) (Some (if b then m else a))
    by true = (more.0, ap (λ (b : Bool). has m f || b) more.1 ∙ or_true (has m f))
    by false = (less, ap (λ (b : Bool). b || list_any (has a) fs) here)

-- the least variable of listed forms
pub least_is : (s : ℕ) (fs : List (Linear ℕ)) → AreListed s fs → IsLeast s fs (least_variable fs)
least_is s [] listed = refl
least_is s (f ∷ fs) listed =
    by f.parts refl listed.0.some
    (parts_of s 0 f.parts f.parts listed.0.good.kept.parts listed.0.good.below (own_coefficients 0 f.parts listed.0.good.kept.parts))
    (least_is s fs listed.1)
  where
    by : (ps : List (ℕ × ℤ)) → f.parts ≡ ps → has_no_part ps ≡ false → Each (IsPartOf s f.parts) ps → IsLeast s fs (least_variable fs) →
        IsLeast s (f ∷ fs) (lesser_first ps (least_variable fs))
    by [] e some each more = absurd cc
    by (p ∷ ps) e some each more = lesser_is s f fs p.0 (least_variable fs) each.0.0 (has_part s f p each.0) more

-- there is none of no form alone
pub least_none : (s : ℕ) (fs : List (Linear ℕ)) → AreListed s fs → least_variable fs ≡ None → fs ≡ []
least_none s fs listed e = subst (IsLeast s fs) e (least_is s fs listed)

-- else some form has it
pub least_some : (s : ℕ) (fs : List (Linear ℕ)) (t : ℕ) → AreListed s fs → least_variable fs ≡ Some t →
    (t < s) × (list_any (has t) fs ≡ true)
least_some s fs t listed e = subst (IsLeast s fs) e (least_is s fs listed)

-- forms that go make a list shorter
others_length : (t : ℕ) (fs : List (Linear ℕ)) → length (others t fs) ≤ length fs
others_length t [] = omega arith
others_length t (f ∷ fs) = by (not (has t f)) (others_length t fs)
  where
    by : (b : Bool) → length (others t fs) ≤ length fs → length (if b then f ∷ others t fs else others t fs) ≤ suc (length fs)
    by true less = omega (arith, less)
    by false less = omega (arith, less)

-- the forms without a variable are fewer than all, where some form has it
pub others_fewer : (t : ℕ) (fs : List (Linear ℕ)) → list_any (has t) fs ≡ true → length (others t fs) < length fs
others_fewer t [] some = absurd cc
others_fewer t (f ∷ fs) some = by (has t f) some (λ (more : list_any (has t) fs ≡ true). others_fewer t fs more) (others_length t fs)
  where
    by : (b : Bool) → (b || list_any (has t) fs) ≡ true → (list_any (has t) fs ≡ true → length (others t fs) < length fs) →
        length (others t fs) ≤ length fs → length (if not b then f ∷ others t fs else others t fs) < suc (length fs)
    by true e more least = omega (arith, least)
    by false e more least = let less = more e in omega (arith, less)
