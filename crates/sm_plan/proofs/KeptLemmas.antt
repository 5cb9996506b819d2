-- Formulas that nodes keep: their size, and the parts of a conjunction.
use Rattle.sm_plan.proofs.Imports.{◌≡◌, ◌⊎◌, ℕ, ◌+◌, ◌<◌, ◌≤◌, max, nat_le, inl, inr, Bool, true, false, ◌&&◌, Option, Some, None, List, [], ◌∷◌, ◌++◌, map, length, refl, sym, ap, ◌∙◌, subst, ⊎_elim, arith, MatchOption, and_from, le-leb, leb_tells, map-append, Sorts, conj, NumberedFormula, numbered, assertion_in, IsFormulaWithin, Formula, AreFormsSorted, Tree, nodes_in, depth_in, parts_in, form_nodes, form_depth, IsFormReady, AreFormsReady, forms_in}
use Rattle.std.proofs.Common.{is_some}
use Rattle.sm_term.specs.Formulas.{Yes, No, Eq, Ne, Le, Lt, And, Or}
use Rattle.sm_plan.specs.Limits.{is_kept}
use Rattle.sm_plan.proofs.FillingForms.{AreFormsWithin, ready_from}
use Rattle.sm_plan.proofs.SortedTerms.{conj_sorted}

-- a formula has a node, and is at least 1 deep
pub some_nodes : (f : NumberedFormula) → 1 ≤ nodes_in f
some_nodes Yes = omega arith
some_nodes No = omega arith
some_nodes (Eq t u) = omega arith
some_nodes (Ne t u) = omega arith
some_nodes (Le t u) = omega arith
some_nodes (Lt t u) = omega arith
some_nodes (And p q) = omega arith
some_nodes (Or p q) = omega arith

pub some_depth : (f : NumberedFormula) → 1 ≤ depth_in f
some_depth Yes = omega arith
some_depth No = omega arith
some_depth (Eq t u) = omega arith
some_depth (Ne t u) = omega arith
some_depth (Le t u) = omega arith
some_depth (Lt t u) = omega arith
some_depth (And p q) = omega arith
some_depth (Or p q) = omega arith

-- so none is left of nothing
pub none_left : (nodes m depth n : ℕ) → 1 ≤ m → 1 ≤ n → (depth ≡ 0) ⊎ ((depth ≡ 0 → ⊥) × (nodes ≡ 0)) → (nodes < m) ⊎ (depth < n)
none_left nodes m depth n g h which =
    ⊎_elim (λ (e : depth ≡ 0). inr (omega arith)) (λ (e : (depth ≡ 0 → ⊥) × (nodes ≡ 0)). inl (let z = e.1 in omega arith)) which

-- the size doesn't hang on what the numbers stand for
same_nodes : (sorts : Sorts) (trees : List Tree) (f : NumberedFormula) → form_nodes (assertion_in sorts trees f) ≡ nodes_in f
same_nodes sorts trees Yes = refl
same_nodes sorts trees No = refl
same_nodes sorts trees (Eq t u) = refl
same_nodes sorts trees (Ne t u) = refl
same_nodes sorts trees (Le t u) = refl
same_nodes sorts trees (Lt t u) = refl
same_nodes sorts trees (And p q) = λ i. 1 + same_nodes sorts trees p i + same_nodes sorts trees q i
same_nodes sorts trees (Or p q) = λ i. 1 + same_nodes sorts trees p i + same_nodes sorts trees q i

same_depth : (sorts : Sorts) (trees : List Tree) (f : NumberedFormula) → form_depth (assertion_in sorts trees f) ≡ depth_in f
same_depth sorts trees Yes = refl
same_depth sorts trees No = refl
same_depth sorts trees (Eq t u) = refl
same_depth sorts trees (Ne t u) = refl
same_depth sorts trees (Le t u) = refl
same_depth sorts trees (Lt t u) = refl
same_depth sorts trees (And p q) = λ i. 1 + max (same_depth sorts trees p i) (same_depth sorts trees q i)
same_depth sorts trees (Or p q) = λ i. 1 + max (same_depth sorts trees p i) (same_depth sorts trees q i)

-- the tests of the limits
not_le : (m a : ℕ) → a < m → nat_le m a ≡ false
not_le m a h = ⊎_elim (λ (p : (nat_le m a ≡ true) × (m ≤ a)). absurd (let g = p.1 in omega arith))
    (λ (p : (nat_le m a ≡ false) × (a < m)). p.0) (leb_tells m a)

false_right : (b : Bool) → (b && false) ≡ false
false_right true = refl
false_right false = refl

beyond : (m a n b : ℕ) → (a < m) ⊎ (b < n) → (nat_le m a && nat_le n b) ≡ false
beyond m a n b h =
    ⊎_elim (λ (p : a < m). ap (λ (x : Bool). x && nat_le n b) (not_le m a p))
    (λ (p : b < n). ap (λ (x : Bool). nat_le m a && x) (not_le n b p) ∙ false_right (nat_le m a)) h

inside : (m a n b left : ℕ) → m + left ≡ a → n ≤ b → (nat_le m a && nat_le n b) ≡ true
inside m a n b left e h = and_from (nat_le m a) (nat_le n b) (le-leb m a (omega arith)) (le-leb n b h)

-- a formula whose nodes are counted within the limits
pub kept_counted : (sorts : Sorts) (trees : List Tree) (f : NumberedFormula) (o : Option ℕ) →
    MatchOption o ((200000 < nodes_in f) ⊎ (64 < depth_in f)) (λ (left : ℕ). (nodes_in f + left ≡ 200000) × (depth_in f ≤ 64)) →
    is_some o ≡ is_kept (assertion_in sorts trees f)
unfolding is_kept
kept_counted sorts trees f o counted = of o counted
    ∙ sym (λ i. nat_le (same_nodes sorts trees f i) 200000 && nat_le (same_depth sorts trees f i) 64)
  where
    of : (o : Option ℕ) →
        MatchOption o ((200000 < nodes_in f) ⊎ (64 < depth_in f)) (λ (left : ℕ). (nodes_in f + left ≡ 200000) × (depth_in f ≤ 64)) →
        is_some o ≡ (nat_le (nodes_in f) 200000 && nat_le (depth_in f) 64)
    of None h = sym (beyond (nodes_in f) 200000 (depth_in f) 64 h)
    of (Some left) h = sym (inside (nodes_in f) 200000 (depth_in f) 64 left h.0 h.1)

-- the parts of a conjunction
parts_conj : (sorts : Sorts) (trees : List Tree) (f : NumberedFormula) →
    map (assertion_in sorts trees) (parts_in f) ≡ conj (assertion_in sorts trees f)
parts_conj sorts trees Yes = refl
parts_conj sorts trees No = refl
parts_conj sorts trees (Eq t u) = refl
parts_conj sorts trees (Ne t u) = refl
parts_conj sorts trees (Le t u) = refl
parts_conj sorts trees (Lt t u) = refl
parts_conj sorts trees (And p q) =
    map-append (assertion_in sorts trees) (parts_in p) (parts_in q) ∙ (λ i. parts_conj sorts trees p i ++ parts_conj sorts trees q i)
parts_conj sorts trees (Or p q) = refl

pub by_numbers : (sorts : Sorts) (trees : List Tree) (fs : List Formula) →
    forms_in sorts trees fs ≡ map (assertion_in sorts trees) (map numbered fs)
by_numbers sorts trees [] = refl
by_numbers sorts trees (f ∷ fs) = ap (λ l. assertion_in sorts trees (numbered f) ∷ l) (by_numbers sorts trees fs)

pub conj_made : (sorts : Sorts) (trees : List Tree) (fs : List Formula) (keep : Formula) → map numbered fs ≡ parts_in (numbered keep) →
    forms_in sorts trees fs ≡ conj (assertion_in sorts trees (numbered keep))
conj_made sorts trees fs keep e = by_numbers sorts trees fs ∙ ap (map (assertion_in sorts trees)) e ∙ parts_conj sorts trees (numbered keep)

-- their terms are there
abbrev AreWithin : ℕ → List NumberedFormula → Type 0
AreWithin count [] = Unit {0}
AreWithin count (f ∷ fs) = IsFormulaWithin count f × AreWithin count fs

within_both : (count : ℕ) (fs gs : List NumberedFormula) → AreWithin count fs → AreWithin count gs → AreWithin count (fs ++ gs)
within_both count [] gs v w = w
within_both count (f ∷ fs) gs v w = (v.0, within_both count fs gs v.1 w)

parts_within : (count : ℕ) (f : NumberedFormula) → IsFormulaWithin count f → AreWithin count (parts_in f)
parts_within count Yes w = tt
parts_within count No w = (tt, tt)
parts_within count (Eq t u) w = (w, tt)
parts_within count (Ne t u) w = (w, tt)
parts_within count (Le t u) w = (w, tt)
parts_within count (Lt t u) w = (w, tt)
parts_within count (And p q) w = within_both count (parts_in p) (parts_in q) (parts_within count p w.0) (parts_within count q w.1)
parts_within count (Or p q) w = (w, tt)

forms_within : (count : ℕ) (fs : List Formula) → AreWithin count (map numbered fs) → AreFormsWithin count fs
forms_within count [] w = tt
forms_within count (f ∷ fs) w = (w.0, forms_within count fs w.1)

pub conj_ready : (sorts : Sorts) (trees : List Tree) (fs : List Formula) (keep : Formula) → map numbered fs ≡ parts_in (numbered keep) →
    IsFormReady sorts trees keep → AreFormsReady sorts trees fs
conj_ready sorts trees fs keep e ready =
    ready_from sorts trees fs
    (forms_within (length trees) fs (subst (AreWithin (length trees)) (sym e) (parts_within (length trees) (numbered keep) ready.0)))
    (subst (AreFormsSorted sorts) (sym (conj_made sorts trees fs keep e))
    (conj_sorted sorts (assertion_in sorts trees (numbered keep)) ready.1))
