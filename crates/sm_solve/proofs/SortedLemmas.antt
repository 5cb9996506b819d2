-- The parts of sorted formulas, and those by which a line splits a branch, are sorted.
use Rattle.sm_solve.proofs.Imports.{◌≡◌, ℕ, zero, suc, Option, None, List, [], ◌∷◌, ◌++◌, map, length, Sorts, Tree, Assertion, numbered, assertion_in, IsFormSorted, AreFormsSorted, AreTreesSorted, BranchFact, Formal, as_facts, CertificateLine, Both, Either, Cases, Order, Close, Clash, line_in, ways_with, adds, ways_with_sorted, adding_from, line_sorted, BranchSplit, greatest_of, depth_of, parts_of, parts_of_all, taken_apart, with_parts, IsToldWithin, SplitsBranch, forms_append}
use Rattle.std.proofs.Common.{Some}
use Rattle.sm_term.specs.Assertions.{Yes, No, Eq, Ne, Le, Lt, And, Or}
use Rattle.sm_theory.specs.SortedFacts.{IsFactSorted, AreFactsSorted, IsLineSorted}
use Rattle.sm_theory.specs.Laws.{EachWay}
use Rattle.sm_theory.proofs.SortedFacts.{as_facts_sorted}

sorted_part : (sorts : Sorts) (f : Assertion) → IsFormSorted sorts f → AreFormsSorted sorts (parts_of f)
sorted_part sorts (And p q) h = (h.0, (h.1, tt))
sorted_part sorts Yes h = tt
sorted_part sorts No h = tt
sorted_part sorts (Eq sort t u) h = tt
sorted_part sorts (Ne sort t u) h = tt
sorted_part sorts (Le t u) h = tt
sorted_part sorts (Lt t u) h = tt
sorted_part sorts (Or p q) h = tt

sorted_parts : (sorts : Sorts) (fs : List Assertion) → AreFormsSorted sorts fs → AreFormsSorted sorts (parts_of_all fs)
sorted_parts sorts [] h = tt
sorted_parts sorts (f ∷ fs) h = forms_append sorts (parts_of f) (parts_of_all fs) (sorted_part sorts f h.0) (sorted_parts sorts fs h.1)

sorted_apart : (sorts : Sorts) (n : ℕ) (fs : List Assertion) → AreFormsSorted sorts fs → AreFormsSorted sorts (taken_apart n fs)
sorted_apart sorts zero fs h = h
sorted_apart sorts (suc n) fs h = forms_append sorts fs (taken_apart n (parts_of_all fs)) h
    (sorted_apart sorts n (parts_of_all fs) (sorted_parts sorts fs h))

pub sorted_with : (sorts : Sorts) (fs : List Assertion) → AreFormsSorted sorts fs → AreFormsSorted sorts (with_parts fs)
sorted_with sorts fs h = sorted_apart sorts (greatest_of (map depth_of fs)) fs h

-- with one more formula and its parts
pub sorted_more : (sorts : Sorts) (fs : List Assertion) (f : Assertion) → AreFormsSorted sorts fs → IsFormSorted sorts f →
    AreFormsSorted sorts (fs ++ with_parts (f ∷ []))
sorted_more sorts fs f h k = forms_append sorts fs (with_parts (f ∷ [])) h (sorted_with sorts (f ∷ []) (k, tt))

-- the ways of a split
abbrev two : Assertion → Assertion → List (List BranchFact)
two p q = (Formal p ∷ []) ∷ (Formal q ∷ []) ∷ []

no_fact : (sorts : Sorts) (k : BranchFact) → None ≡ Some k → IsFactSorted sorts k
no_fact sorts k e = absurd cc

pick : (sorts : Sorts) (p q : Assertion) → EachWay (AreFactsSorted sorts) (two p q) → IsFormSorted sorts p × IsFormSorted sorts q
pick sorts p q h = (h.0.0, h.1.0.0)

-- both parts by which a line splits a branch; theories have no say
split_sorted : (sorts : Sorts) (facts : List BranchFact) (added : Option BranchFact) (line : CertificateLine) (p q : Assertion) →
    AreFactsSorted sorts facts → IsLineSorted sorts line → ways_with sorts facts added line ≡ Some (two p q) →
    IsFormSorted sorts p × IsFormSorted sorts q
split_sorted sorts facts added (Both n) p q all named h =
    pick sorts p q (ways_with_sorted sorts facts None (Both n) (two p q) all named (no_fact sorts) h)
split_sorted sorts facts added (Either n) p q all named h =
    pick sorts p q (ways_with_sorted sorts facts None (Either n) (two p q) all named (no_fact sorts) h)
split_sorted sorts facts added (Cases t u) p q all named h =
    pick sorts p q (ways_with_sorted sorts facts None (Cases t u) (two p q) all named (no_fact sorts) h)
split_sorted sorts facts added (Order n) p q all named h =
    pick sorts p q (ways_with_sorted sorts facts None (Order n) (two p q) all named (no_fact sorts) h)
split_sorted sorts facts added (Close n) p q all named h =
    pick sorts p q (ways_with_sorted sorts facts None (Close n) (two p q) all named (no_fact sorts) h)
split_sorted sorts facts added (Clash m n) p q all named h =
    pick sorts p q (ways_with_sorted sorts facts None (Clash m n) (two p q) all named (no_fact sorts) h)
split_sorted sorts facts added line p q all named h =
    absurd (let e = (adding_from added (two p q) h).2 in cc)

pub told_sorted : (sorts : Sorts) (trees : List Tree) (facts : List Assertion) (split : BranchSplit) → AreTreesSorted sorts trees →
    IsToldWithin (length trees) (Some split) → SplitsBranch sorts trees facts (Some split) → AreFormsSorted sorts facts →
    IsFormSorted sorts (assertion_in sorts trees (numbered split.first)) × IsFormSorted sorts
    (assertion_in sorts trees (numbered split.second))
told_sorted sorts trees facts split terms within splits all =
    split_sorted sorts (as_facts facts) (adds sorts (as_facts facts) (line_in trees split.line)) (line_in trees split.line)
    (assertion_in sorts trees (numbered split.first)) (assertion_in sorts trees (numbered split.second))
    (as_facts_sorted sorts facts all) (line_sorted sorts trees split.line terms within.0) splits
