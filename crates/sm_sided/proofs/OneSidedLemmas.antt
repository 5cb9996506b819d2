-- The test of one-sided programs is exact.
use Rattle.sm_sided.proofs.Imports.{◌≡◌, ◌⊎◌, ◌↔◌, Bool, true, false, ◌&&◌, ◌||◌, IsTrue, Some, None, is_some, MatchOption, inl, inr, refl, sym, and_parts, and_from, or_cases, cases_Bool, or_right, or_left, Code, Copy, O, A, B, M, IsOnly, IsOneSided, agree, is_one_sided}
use Rattle.std.proofs.Common.{Option}
use Rattle.sm_term.specs.SameCodeLaws.{code_gives, same_code_is}
use Rattle.sm_sided.specs.declared.sided.Change.{Change}
use Rattle.sm_sided.specs.declared.sided.Change.TheVariants.{OfA, OfB, OfBoth}

-- two pairs of copies agree
both_agree : (program : Copy → Code) (c d e f : Copy) → (agree program c d && agree program e f) ≡ true
    → (program c ≡ program d) × (program e ≡ program f)
both_agree program c d e f h =
    let p = and_parts (agree program c d) (agree program e f) h in
    (code_gives (program c) (program d) p.0, code_gives (program e) (program f) p.1)

same_both : (program : Copy → Code) (c d e f : Copy) → program c ≡ program d → program e ≡ program f
    → (agree program c d && agree program e f) ≡ true
same_both program c d e f g h =
    and_from (agree program c d) (agree program e f) ((same_code_is (program c) (program d)).1 g)
    ((same_code_is (program e) (program f)).1 h)

-- one of three tests
one_passed : (b c d : Bool) → (b || (c || d)) ≡ true → (b ≡ true) ⊎ ((c ≡ true) ⊎ (d ≡ true))
one_passed true c d e = inl refl
one_passed false c d e = inr (or_cases c d e)

-- what the test tells
pub sided_gives : (program : Copy → Code) → is_one_sided program ≡ true → IsOneSided program
sided_gives program h = of (one_passed _ _ _ h)
  where
    of : ((agree program B O && agree program M A) ≡ true)
        ⊎ (((agree program A O && agree program M B) ≡ true) ⊎ ((agree program M A && agree program A B) ≡ true))
        → IsOneSided program
    of (inl e) = (OfA, both_agree program B O M A e)
    of (inr (inl e)) = (OfB, both_agree program A O M B e)
    of (inr (inr e)) = (OfBoth, both_agree program M A A B e)

-- one of the three passes it
pub only_passes : (program : Copy → Code) (change : Change) → IsOnly program change → is_one_sided program ≡ true
only_passes program OfA only = or_left (agree program B O && agree program M A) _ (same_both program B O M A only.0 only.1)
only_passes program OfB only =
    or_right (agree program B O && agree program M A) _
    (or_left (agree program A O && agree program M B) _ (same_both program A O M B only.0 only.1))
only_passes program OfBoth only =
    or_right (agree program B O && agree program M A) _
    (or_right (agree program A O && agree program M B) _ (same_both program M A A B only.0 only.1))

-- it is not passed where none is so
none_fails : (program : Copy → Code) → (IsOneSided program → ⊥) → is_one_sided program ≡ false
none_fails program none = of (cases_Bool (is_one_sided program))
  where
    of : (is_one_sided program ≡ true) ⊎ (is_one_sided program ≡ false) → is_one_sided program ≡ false
    of (inl e) = absurd (none (sided_gives program e))
    of (inr e) = e

-- whether one of the three was found
pub found_is : (program : Copy → Code) (found : Option Change) →
    MatchOption found (IsOneSided program → ⊥) (λ (change : Change). IsOnly program change) →
    is_some found ≡ is_one_sided program
found_is program None none = sym (none_fails program none)
found_is program (Some change) only = sym (only_passes program change only)

-- the test is passed exactly where one of the three is so
pub one_sided_is : (program : Copy → Code) → IsTrue (is_one_sided program) ↔ IsOneSided program
one_sided_is program = (sided_gives program, λ (h : IsOneSided program). only_passes program h.0 h.1)
