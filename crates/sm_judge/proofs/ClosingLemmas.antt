-- Facts of a branch of the program by their places, and those that are refuted.
use Rattle.sm_judge.proofs.Imports.{◌≡◌, zero, suc, ◌<◌, true, Some, List, [], ◌∷◌, length, get_or, slice_get, refl, sym, ap, subst, ◌∙◌, arith, list_any, list_any_at, length-map, get_or_from_slice_get, slice_get_within, Sorts, Tree, Assertion, numbered, assertion_in, IsFormulaWithin, Formula, Seen, is_refuted, all_numbered, assertions_in, AreFormulasWithin}
use Rattle.std.proofs.Common.{ℕ}
use Rattle.sm_term.specs.Assertions.{Yes}

-- a fact is refuted
pub some_refuted : (b : Seen) (n : ℕ) (f : Assertion) → slice_get b.facts n ≡ Some f → is_refuted b f ≡ true →
    true ≡ list_any (is_refuted b) b.facts
some_refuted b n f at bad =
    sym (list_any_at (is_refuted b) b.facts n Yes (slice_get_within b.facts n f at)
    (ap (is_refuted b) (get_or_from_slice_get b.facts n f Yes at) ∙ bad))

-- the fact at a place of a branch of the program
place_of : (sorts : Sorts) (trees : List Tree) (facts : List Formula) (i : ℕ) (d : Formula) → i < length facts →
    slice_get (assertions_in sorts trees (all_numbered facts)) i ≡ Some (assertion_in sorts trees (numbered (get_or facts i d)))
place_of sorts trees [] i d h = absurd (omega arith)
place_of sorts trees (f ∷ fs) zero d h = refl
place_of sorts trees (f ∷ fs) (suc i) d h = place_of sorts trees fs i d (omega arith)

pub fact_at : (sorts : Sorts) (trees : List Tree) (facts : List Formula) (i : ℕ) (f : Formula) → i < length facts → f ≡ get_or facts i f →
    slice_get (assertions_in sorts trees (all_numbered facts)) i ≡ Some (assertion_in sorts trees (numbered f))
fact_at sorts trees facts i f h is =
    place_of sorts trees facts i f h ∙ ap (λ (g : Formula). Some (assertion_in sorts trees (numbered g))) (sym is)

-- as many facts as formulas
pub facts_count : (sorts : Sorts) (trees : List Tree) (facts : List Formula) →
    length (assertions_in sorts trees (all_numbered facts)) ≡ length facts
facts_count sorts trees facts =
    length-map (all_numbered facts) (assertion_in sorts trees) ∙ length-map facts numbered

-- the terms of a fact are within
pub within_at : (count : ℕ) (facts : List Formula) (i : ℕ) (f : Formula) → i < length facts → f ≡ get_or facts i f →
    AreFormulasWithin count (all_numbered facts) → IsFormulaWithin count (numbered f)
within_at count facts i f h is all = subst (λ (g : Formula). IsFormulaWithin count (numbered g)) (sym is) (by facts i h all)
  where
    by : (fs : List Formula) (n : ℕ) → n < length fs → AreFormulasWithin count (all_numbered fs) →
        IsFormulaWithin count (numbered (get_or fs n f))
    by [] n h all = absurd (omega arith)
    by (g ∷ gs) zero h all = all.0
    by (g ∷ gs) (suc n) h all = by gs n (omega arith) all.1
