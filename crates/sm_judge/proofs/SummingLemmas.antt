-- Sums that are kept go behind the forms, and the last one can't hold.
use Rattle.sm_judge.proofs.Imports.{◌≡◌, zero, suc, ◌+◌, Bool, true, false, if◌then◌else◌, IsTrue, Option, Some, slice_get, List, [], ◌∷◌, ◌++◌, length, refl, sym, ap, subst, ◌∙◌, rules, arith, unwrap_or, length-append, Linear, is_contradictory, TermId, Taking, TakesSum, ElimLine, Contradict, IsSum, AreSums, AreNumbered}
use Rattle.std.proofs.Common.{ℕ}

-- one sum more
pub sums_more : (forms : List (Linear ℕ)) (es : List ElimLine) (all : List (Linear ℕ)) (e : ElimLine) (h : Linear ℕ) →
    AreSums forms es all → IsSum all e h → AreSums forms (es ++ e ∷ []) (all ++ h ∷ [])
sums_more forms [] all e h sums one =
    let same : all ≡ forms = sums in
    (h, subst (λ (l : List (Linear ℕ)). IsSum l e h) same one, ap (λ (l : List (Linear ℕ)). l ++ h ∷ []) same)
sums_more forms (d ∷ es) all e h sums one = (sums.0, sums.1, sums_more (forms ++ sums.0 ∷ []) es all e h sums.2 one)

-- a sum that is kept, or none
pub sums_if : (kept : Bool) (forms : List (Linear ℕ)) (es : List ElimLine) (all : List (Linear ℕ)) (e : ElimLine) (h : Linear ℕ) →
    AreSums forms es all → IsSum all e h → AreSums forms (es ++ (if kept then e ∷ [] else [])) (all ++ (if kept then h ∷ [] else []))
sums_if true forms es all e h sums one = sums_more forms es all e h sums one
sums_if false forms es all e h sums one =
    let left : (es ++ []) ≡ es = search rules in
    let right : (all ++ []) ≡ all = search rules in
    rw (left, right) sums

-- how many forms there are
pub sums_count : (forms : List (Linear ℕ)) (es : List ElimLine) (all : List (Linear ℕ)) → AreSums forms es all →
    length all ≡ length forms + length es
sums_count forms [] all sums = let same : length all ≡ length forms = ap length sums in omega arith
sums_count forms (e ∷ es) all sums =
    let rest = sums_count (forms ++ sums.0 ∷ []) es all sums.2 in
    let more : length (forms ++ sums.0 ∷ []) ≡ length forms + 1 = length-append forms (sums.0 ∷ []) in
    omega arith

-- sums that come to a form that can't hold
pub sums_contradict : (forms : List (Linear ℕ)) (es : List ElimLine) (all : List (Linear ℕ)) (bad : ℕ) (f : Linear ℕ) →
    AreSums forms es all → slice_get all bad ≡ Some f → IsTrue (is_contradictory f) → Contradict forms es bad
sums_contradict forms [] all bad f sums at wrong = (f, subst (λ (l : List (Linear ℕ)). slice_get l bad ≡ Some f) sums at, wrong)
sums_contradict forms (e ∷ es) all bad f sums at wrong =
    let one = sums.1 in (
      one.first,
      one.second,
      sums.0,
      one.first_is,
      one.second_is,
      one.cancels,
      one.sum_is,
      sums_contradict (forms ++ sums.0 ∷ []) es all bad f sums.2 at wrong,
    )

-- one atom more
pub numbered_more : (n : ℕ) (ts : List TermId) (t : TermId) → AreNumbered n ts → t.0 ≡ n + length ts → AreNumbered n (ts ++ t ∷ [])
numbered_more n [] t own is = (omega arith, tt)
numbered_more n (u ∷ ts) t own is = (own.0, numbered_more (suc n) ts t own.1 (omega arith))

-- the number of an atom is its place
pub numbered_at : (n : ℕ) (ts : List TermId) (k : ℕ) (t : TermId) → AreNumbered n ts → slice_get ts k ≡ Some t → t.0 ≡ n + k
numbered_at n [] k t own at = absurd cc
numbered_at n (u ∷ ts) zero t own at =
    let same : u ≡ t = ap (λ (o : Option TermId). unwrap_or o u) at in
    ap (λ (v : TermId). v.0) (sym same) ∙ own.0 ∙ omega arith
numbered_at n (u ∷ ts) (suc k) t own at = let rest = numbered_at (suc n) ts k t own.1 at in omega arith

-- a step of the elimination is a sum
pub taken_sum : (old new : Taking) (e : ElimLine) (kept wrong : Bool) → AreNumbered 0 old.atoms →
    TakesSum old new e.f e.g e.atom kept wrong → (h : Linear ℕ) × IsSum old.forms e h × (wrong ≡ is_contradictory h)
    × (new.forms ≡ old.forms ++ (if kept then h ∷ [] else []))
taken_sum old new e kept wrong own takes =
    let at : e.atom.0 ≡ 0 + takes.number = numbered_at 0 old.atoms takes.number e.atom own takes.atom_is in
    let number : e.atom.0 ≡ takes.number = omega arith in (
      takes.sum,
      record {
        first = takes.first;
        second = takes.second;
        first_is = takes.first_is;
        second_is = takes.second_is;
        cancels = rw number takes.cancels;
        sum_is = rw number takes.sum_is;
      },
      takes.contradiction_is,
      takes.forms_are,
    )
