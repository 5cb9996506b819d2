-- Certificates of branches that are closed at once refute them.
use Rattle.sm_certify.proofs.Imports.{◌≡◌, ℕ, zero, suc, ◌+◌, ◌<◌, ◌≤◌, true, not, ℤ, List, [], ◌∷◌, ◌++◌, map, length, Option, Some, None, slice_get, get_or, refl, sym, ap, subst, ◌∙◌, arith, int_eq, and_parts, append-nil, length-map, slice_get-map, slice_get_within, slice_get_read, Sorts, Tree, Assertion, tree_sort, NumberedFormula, numbered, assertion_in, IsFormulaWithin, Formula, TableValue, trees_in, sorts_in, tree_at, TermId, BranchFact, Formal, as_facts, Close, followed, compared_forms, ways, closing_if, cannot_hold, line_in, IsLineWithin, CertLine, Closed, splits_above, certificate_in, lines_before, lines_of, AreLinesWithin, Pairs, ClassesValue, setting_of, assertion_given, equation_of, GivenFact, added_by, StandAt, Explain, AreLinesOf, Refutes, IsWhole, given_from, classes_by, branch_of, Seen, is_refuted, are_torn, all_numbered, assertions_in, AreFormulasWithin, equal_is_same, one_thing}
use Rattle.std.specs.Option.{option_map}
use Rattle.sm_term.specs.declared.formula.Formula.TheVariants as tree
use Rattle.sm_term.specs.Assertions as plain
use Rattle.sm_term.specs.Formulas.{Yes, No, Eq, Ne, Le, Lt, And, Or}
use Rattle.sm_theory.specs.declared.line.CertLine.TheVariants as line
use Rattle.sm_cert.specs.declared.tree.CertTree.{CertTree}
use Rattle.sm_cc.specs.Classes.{Same}
use Rattle.sm_cc.specs.Views as classes
use Rattle.sm_certify.specs.Certifying.{contrary_numbers, IsRefuting}
use Rattle.sm_judge.specs.Closings.{IsClosing}
use Rattle.sm_judge.specs.declared.closing.Closing.TheVariants as why
use Rattle.sm_certify.proofs.GivenLemmas.{equal_seen}
use Rattle.sm_certify.proofs.RefutingLemmas.{refuted_by, contrary_refuted, torn_refuted, no_splits, lines_within, within_more, counted}

-- two terms that are torn are equal
pub torn_equal : (b : Seen) (t u : Tree) → are_torn b t u ≡ true → b.equal t u ≡ true
torn_equal b t u h = (and_parts (b.equal t u) (compared_forms b.sorts t u (λ (y z : ℤ). not (int_eq y z))) h).0

module _ (table : TableValue) where
  abbrev sorts : Sorts
  sorts = sorts_in table

  abbrev trees : List Tree
  trees = trees_in table

  abbrev facts_of : List Formula → List Assertion
  facts_of fs = assertions_in sorts trees (all_numbered fs)

  -- what is given stands on a branch where the formulas do
  stand_from : (facts : List BranchFact) (n : ℕ) (fs : List Formula) →
      ((k m : ℕ) (a : Assertion) → m ≡ n + k → slice_get (facts_of fs) k ≡ Some a → slice_get facts m ≡ Some (Formal a)) →
      StandAt facts (map (λ (g : GivenFact). g.number) (given_from n fs)) (map (assertion_given table) (given_from n fs))
  stand_from facts n [] h = tt
  stand_from facts n (tree.Yes ∷ fs) h = stand_from facts (suc n) fs (λ k m a e s. h (suc k) m a (omega (arith, e)) s)
  stand_from facts n (tree.No ∷ fs) h = stand_from facts (suc n) fs (λ k m a e s. h (suc k) m a (omega (arith, e)) s)
  stand_from facts n (tree.Eq v w ∷ fs) h = (
    h 0 n (plain.Eq (tree_sort sorts (tree_at trees v.0)) (tree_at trees v.0) (tree_at trees w.0)) (omega arith) refl,
    stand_from facts (suc n) fs (λ k m a e s. h (suc k) m a (omega (arith, e)) s),
  )
  stand_from facts n (tree.Ne v w ∷ fs) h = (
    h 0 n (plain.Ne (tree_sort sorts (tree_at trees v.0)) (tree_at trees v.0) (tree_at trees w.0)) (omega arith) refl,
    stand_from facts (suc n) fs (λ k m a e s. h (suc k) m a (omega (arith, e)) s),
  )
  stand_from facts n (tree.Le v w ∷ fs) h = stand_from facts (suc n) fs (λ k m a e s. h (suc k) m a (omega (arith, e)) s)
  stand_from facts n (tree.Lt v w ∷ fs) h = stand_from facts (suc n) fs (λ k m a e s. h (suc k) m a (omega (arith, e)) s)
  stand_from facts n (tree.And' a p b q ∷ fs) h = stand_from facts (suc n) fs (λ k m a e s. h (suc k) m a (omega (arith, e)) s)
  stand_from facts n (tree.Or' a p b q ∷ fs) h = stand_from facts (suc n) fs (λ k m a e s. h (suc k) m a (omega (arith, e)) s)

  -- an assertion is a fact of the branch
  fact_there : (all : List Assertion) (k m : ℕ) (a : Assertion) → m ≡ k → slice_get all k ≡ Some a →
      slice_get (as_facts all) m ≡ Some (Formal a)
  fact_there all k m a e s =
      ap (λ (n : ℕ). slice_get (as_facts all) n) e ∙ slice_get-map Formal all k
      ∙ ap (λ (o : Option Assertion). option_map Formal o) s

  -- a formula is an assertion of the branch
  pub assertion_there : (fs : List Formula) (n : ℕ) (f : NumberedFormula) → slice_get (all_numbered fs) n ≡ Some f →
      slice_get (facts_of fs) n ≡ Some (assertion_in sorts trees f)
  assertion_there fs n f e =
      slice_get-map (assertion_in sorts trees) (all_numbered fs) n
      ∙ ap (λ (o : Option NumberedFormula). option_map (assertion_in sorts trees) o) e

  pub length_facts : (fs : List Formula) → length (as_facts (facts_of fs)) ≡ length fs
  length_facts fs = length-map (facts_of fs) Formal ∙ length-map (all_numbered fs) (assertion_in sorts trees) ∙ length-map fs numbered

  -- a tree that refutes
  refuting : (fs : List Formula) (c : CertTree) (ls : List CertLine) (l : CertLine) →
      ((trees : List Tree) → certificate_in trees c ≡ lines_before trees ls (Closed (line_in trees l))) → lines_of c ≡ ls ++ l ∷ [] →
      Refutes sorts (as_facts (facts_of fs)) (lines_before trees ls (Closed (line_in trees l))) → AreLinesWithin (length trees) ls →
      IsLineWithin (length trees) l → IsRefuting table fs c
  refuting fs c ls l certificate lines refutes within also = record {
    refutes = subst (Refutes sorts (as_facts (facts_of fs))) (sym (certificate trees)) refutes;
    within = subst (AreLinesWithin (length trees)) (sym lines) (within_more (length trees) ls l within also);
    splits = ap splits_above (certificate trees) ∙ no_splits trees ls (line_in trees l);
  }

  -- a fact that can't hold by itself
  absurd_alone : (b : Seen) (f : NumberedFormula) → contrary_numbers f ≡ None → is_refuted b (assertion_in sorts trees f) ≡ true →
      assertion_in sorts trees f ≡ plain.No
  absurd_alone b Yes none h = absurd cc
  absurd_alone b No none h = refl
  absurd_alone b (Eq t u) none h = absurd cc
  absurd_alone b (Ne t u) none h = absurd cc
  absurd_alone b (Le t u) none h = absurd cc
  absurd_alone b (Lt t u) none h = absurd cc
  absurd_alone b (And p q) none h = absurd cc
  absurd_alone b (Or p q) none h = absurd cc

  pub refuting_alone : (fs : List Formula) (c : CertTree) (ls : List CertLine) (n : ℕ) (b : Seen) (f : NumberedFormula) → ls ≡ [] →
      ((trees : List Tree) → certificate_in trees c ≡ lines_before trees ls (Closed (line_in trees (line.Close n)))) →
      lines_of c ≡ ls ++ line.Close n ∷ [] → slice_get (all_numbered fs) n ≡ Some f → contrary_numbers f ≡ None →
      is_refuted b (assertion_in sorts trees f) ≡ true → IsRefuting table fs c
  refuting_alone fs c ls n b f empty certificate lines there none refuted =
      let facts = as_facts (facts_of fs) in
      let at : slice_get facts n ≡ Some (Formal plain.No) =
      fact_there (facts_of fs) n n plain.No refl (assertion_there fs n f there ∙ ap Some (absurd_alone b f none refuted)) in
      let closes : ways sorts (facts ++ []) (Close n) ≡ Some [] =
      ap (λ (gs : List BranchFact). ways sorts gs (Close n)) (append-nil facts)
      ∙ ap (λ (o : Option BranchFact). followed o (λ (k : BranchFact). closing_if (cannot_hold k))) at in
      refuting fs c ls (line.Close n) certificate lines
      (subst (λ (ms : List CertLine). Refutes sorts facts (lines_before trees ms (Closed (Close n)))) (sym empty)
      (refuted_by sorts trees [] (line.Close n) facts [] refl closes))
      (subst (AreLinesWithin (length trees)) (sym empty) tt) tt

  -- a fact that can't hold, by the formula at its place
  pub refuted_at : (fs : List Formula) (n : ℕ) (f : Formula) → IsClosing (branch_of table fs) (why.Refuted n) → f ≡ get_or fs n f →
      (slice_get (all_numbered fs) n ≡ Some (numbered f)) × (is_refuted (branch_of table fs) (assertion_in sorts trees (numbered f)) ≡ true)
  refuted_at fs n f closing is =
      let count = length-map (all_numbered fs) (assertion_in sorts trees) in
      let also = length-map fs numbered in
      let inside = slice_get_within (facts_of fs) n closing.0 closing.1 in
      let less : n < length fs = omega (arith, count, also, inside) in
      let at : slice_get (all_numbered fs) n ≡ Some (numbered f) =
      slice_get-map numbered fs n ∙ ap (λ (o : Option Formula). option_map numbered o) (slice_get_read fs (length fs) n f refl less is) in
      let same : closing.0 ≡ assertion_in sorts trees (numbered f) =
      one_thing closing.0 (assertion_in sorts trees (numbered f)) (sym closing.1 ∙ assertion_there fs n (numbered f) at) in
      (at, ap (is_refuted (branch_of table fs)) (sym same) ∙ closing.2)

  -- the formula at a place is of terms of the table
  within_there : (count : ℕ) (gs : List NumberedFormula) (n : ℕ) (f : NumberedFormula) → AreFormulasWithin count gs →
      slice_get gs n ≡ Some f → IsFormulaWithin count f
  within_there count [] n f h e = absurd cc
  within_there count (g ∷ gs) zero f h e = subst (IsFormulaWithin count) (one_thing g f e) h.0
  within_there count (g ∷ gs) (suc n) f h e = within_there count gs n f h.1 e

  contrary_is : (f : NumberedFormula) (t u : ℕ) → Some (t, u) ≡ contrary_numbers f → f ≡ Ne t u
  contrary_is Yes t u e = absurd cc
  contrary_is No t u e = absurd cc
  contrary_is (Eq v w) t u e = absurd cc
  contrary_is (Ne v w) t u e =
      let same : (t, u) ≡ (v, w) = one_thing (t, u) (v, w) e in
      ap (λ (n : ℕ). Ne n w) (sym (ap (λ (p : ℕ × ℕ). p.0) same)) ∙ ap (λ (n : ℕ). Ne t n) (sym (ap (λ (p : ℕ × ℕ). p.1) same))
  contrary_is (Le v w) t u e = absurd cc
  contrary_is (Lt v w) t u e = absurd cc
  contrary_is (And p q) t u e = absurd cc
  contrary_is (Or p q) t u e = absurd cc

  -- what is known of a contrary that can't hold
  pub record IsContraryAt (fs : List Formula) (n t u : ℕ) : Type 0 where
    pub left : t < length trees
    pub right : u < length trees
    pub fact : slice_get (all_numbered fs) n ≡ Some (Ne t u)
    pub same : (branch_of table fs).equal (tree_at trees t) (tree_at trees u) ≡ true

  pub contrary_at : (fs : List Formula) (n : ℕ) (f : Formula) (t u : ℕ) → IsClosing (branch_of table fs) (why.Refuted n) →
      f ≡ get_or fs n f →
      AreFormulasWithin (length trees) (all_numbered fs) → Some (t, u) ≡ contrary_numbers (numbered f) → IsContraryAt fs n t u
  contrary_at fs n f t u closing is within some =
      let known = refuted_at fs n f closing is in
      let form = contrary_is (numbered f) t u some in
      let at : slice_get (all_numbered fs) n ≡ Some (Ne t u) = known.0 ∙ ap Some form in
      let inside = within_there (length trees) (all_numbered fs) n (Ne t u) within at in
      record {
        left = inside.0;
        right = inside.1;
        fact = at;
        same = ap (λ (g : NumberedFormula). is_refuted (branch_of table fs) (assertion_in sorts trees g)) (sym form) ∙ known.1;
      }

  module _ (ts : List TermId) (fs : List Formula) (whole : IsWhole (trees_in table) ts) where
    abbrev value : ClassesValue
    value = classes_by table ts fs

    -- terms that are seen to be equal are in one class
    pub same_seen : (t u : Tree) → (branch_of table fs).equal t u ≡ true → Same (setting_of value) t u
    same_seen t u h =
        (equal_is_same (setting_of value) t u).0 (ap (λ (e : Pairs). e t u) (equal_seen table ts fs whole) ∙ h)

    -- lines that explain add facts on the branch, the last of which is the equation
    abbrev Explained : List CertLine → TermId → TermId → Type 0
    Explained ls t u =
        (before : List BranchFact)
        × (added_by sorts (as_facts (facts_of fs)) (map (line_in trees) ls) ≡ Some (before ++ Formal (equation_of table t u) ∷ []))

    explained : (ls : List CertLine) (t u : TermId) →
        Explain sorts (classes.numbers_of value) (setting_of value).given (length fs) (map (line_in trees) ls) (equation_of table t u) →
        Explained ls t u
    explained ls t u explain =
        explain (as_facts (facts_of fs)) (length_facts fs)
        (stand_from (as_facts (facts_of fs)) 0 fs (λ k m a e s. fact_there (facts_of fs) k m a (omega (arith, e)) s))

    -- an explained equation and its contrary
    pub refuting_contrary : (c : CertTree) (ls : List CertLine) (t u : TermId) (m n : ℕ) → AreLinesOf ts ls →
        Explain sorts (classes.numbers_of value) (setting_of value).given (length fs) (map (line_in trees) ls) (equation_of table t u) →
        ((trees : List Tree) → certificate_in trees c ≡ lines_before trees ls (Closed (line_in trees (line.Clash m n)))) →
        lines_of c ≡ ls ++ line.Clash m n ∷ [] → slice_get (all_numbered fs) n ≡ Some (Ne t.0 u.0) → m + 1 ≡ length fs + length ls →
        IsRefuting table fs c
    refuting_contrary c ls t u m n named explain certificate lines there last =
        let v = tree_at trees t.0 in
        let w = tree_at trees u.0 in
        let sort = tree_sort sorts v in
        let e = explained ls t u explain in
        let count = length_facts fs in
        refuting fs c ls (line.Clash m n) certificate lines
        (contrary_refuted sorts trees (as_facts (facts_of fs)) ls e.0 sort v w e.1 m n sort (omega (arith, last, count))
        (fact_there (facts_of fs) n n (plain.Ne sort v w) refl (assertion_there fs n (Ne t.0 u.0) there)))
        (lines_within (length trees) ts whole.below ls named) tt

    -- an explained equation of terms that are torn
    pub refuting_torn : (c : CertTree) (ls all : List CertLine) (t u : TermId) (m n : ℕ) → AreLinesOf ts ls →
        Explain sorts (classes.numbers_of value) (setting_of value).given (length fs) (map (line_in trees) ls) (equation_of table t u) →
        all ≡ ls ++ line.Apart t u ∷ [] →
        ((trees : List Tree) → certificate_in trees c ≡ lines_before trees all (Closed (line_in trees (line.Clash m n)))) →
        lines_of c ≡ all ++ line.Clash m n ∷ [] → m + 1 ≡ length fs + length ls → n ≡ length fs + length ls →
        t.0 < length trees → u.0 < length trees →
        are_torn (branch_of table fs) (tree_at trees t.0) (tree_at trees u.0) ≡ true → IsRefuting table fs c
    refuting_torn c ls all t u m n named explain pushed certificate lines last next left right torn =
        let v = tree_at trees t.0 in
        let w = tree_at trees u.0 in
        let sort = tree_sort sorts v in
        let e = explained ls t u explain in
        let count = length_facts fs in
        let facts = as_facts (facts_of fs) in
        let differ = (and_parts ((branch_of table fs).equal v w) (compared_forms sorts v w (λ (y z : ℤ). not (int_eq y z))) torn).1 in
        refuting fs c all (line.Clash m n) certificate lines
        (subst (λ (ms : List CertLine). Refutes sorts facts (lines_before trees ms (Closed (line_in trees (line.Clash m n))))) (sym pushed)
        (torn_refuted sorts trees facts ls e.0 sort v w e.1 m n t u refl refl (omega (arith, last, count))
        (omega (arith, next, count)) differ))
        (subst (AreLinesWithin (length trees)) (sym pushed)
        (within_more (length trees) ls (line.Apart t u) (lines_within (length trees) ts whole.below ls named) (left, right))) tt

    -- there is a line at least
    pub some_lines : (ls : List CertLine) (t u : TermId) →
        Explain sorts (classes.numbers_of value) (setting_of value).given (length fs) (map (line_in trees) ls) (equation_of table t u) →
        1 ≤ length ls
    some_lines ls t u explain =
        let e = explained ls t u explain in
        let v = tree_at trees t.0 in
        let count = counted sorts trees (as_facts (facts_of fs)) ls e.0 (tree_sort sorts v) v (tree_at trees u.0) e.1 in
        omega (arith, count)
