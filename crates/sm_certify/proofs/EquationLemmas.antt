-- The equation of two numbers of one class is written with what explains it.
use Rattle.sm_certify.proofs.Imports.{◌≡◌, ℕ, zero, suc, ◌<◌, ◌+◌, ◌-◌, Bool, IsTrue, List, [], ◌∷◌, ◌++◌, map, length, slice_get, refl, sym, ap, ◌∙◌, subst, Some, arith, length-map, slice_get-map, Linear, Fits, Formula, Assertion, TableValue, trees_in, sorts_in, tree_at, TermId, BranchFact, Formal, as_facts, is_numeric, HaveOnePlace, line_in, IsLineWithin, CertLine, StandAt, Explain, IsListed, AreLinesOf, IsLineOf, ClassesValue, setting_of, assertion_given, equation_of, GivenFact, slice_get-longer, first_behind, AreLinesWithin, given_from, classes_by, branch_of, Seen, AreBelow, all_numbered, assertions_in, HavePlaces, AreWritten, less_by}
use Rattle.std.specs.Option.{option_map}
use Rattle.std.proofs.lemmas.List.{append_assoc, length-append}
use Rattle.sm_num.specs.declared.kind.Kind.TheVariants as kind
use Rattle.sm_term.specs.declared.formula.Formula.TheVariants as tree
use Rattle.sm_theory.specs.declared.line.CertLine.TheVariants as line
use Rattle.sm_cc.specs.Views.{numbers_of}
use Rattle.sm_terms.specs.Listing as listing
use Rattle.sm_certify.proofs.AddingLemmas.{added_count}
use Rattle.sm_certify.proofs.SourcesLemmas.{equation_makes}
use Rattle.sm_certify.proofs.WrittenLemmas.{so_far, count_so_far, written_more, written_lin}

-- terms of a list are terms of the table
pub listed_below : (count : ℕ) (terms : List TermId) (t : TermId) → AreBelow count (listing.numbers_of terms) → IsListed terms t → t.0 < count
listed_below count [] t below at = let none = at.1 in absurd cc
listed_below count (s ∷ terms) t below at =
    by (λ (n : ℕ) (e : slice_get terms n ≡ Some t). listed_below count terms t below.1 (n, e)) at.0 at.1
  where
    by : ((n : ℕ) → slice_get terms n ≡ Some t → t.0 < count) → (n : ℕ) → slice_get (s ∷ terms) n ≡ Some t → t.0 < count
    by go zero e = let same : s ≡ t = cc in subst (λ (t : TermId). t.0 < count) same below.0
    by go (suc n) e = go n e

-- lines of a list of terms are within the table
line_below : (count : ℕ) (terms : List TermId) → AreBelow count (listing.numbers_of terms) → (l : CertLine) → IsLineOf terms l →
    IsLineWithin count l
line_below count terms below (line.Both n) of = tt
line_below count terms below (line.Either n) of = tt
line_below count terms below (line.Cases t u) of = absurd of
line_below count terms below (line.Order n) of = tt
line_below count terms below (line.Refl t) of = listed_below count terms t below of
line_below count terms below (line.Sym n) of = tt
line_below count terms below (line.Trans m n) of = tt
line_below count terms below (line.Subst m n) of = tt
line_below count terms below (line.Cong t u ns) of = (listed_below count terms t below of.0, listed_below count terms u below of.1)
line_below count terms below (line.Same t u) of = (listed_below count terms t below of.0, listed_below count terms u below of.1)
line_below count terms below (line.Apart t u) of = (listed_below count terms t below of.0, listed_below count terms u below of.1)
line_below count terms below (line.Hit t n) of = listed_below count terms t below of
line_below count terms below (line.Miss t u n) of = (listed_below count terms t below of.0, listed_below count terms u below of.1)
line_below count terms below (line.Lin n) of = tt
line_below count terms below (line.Elim m n t) of = absurd of
line_below count terms below (line.Tight n) of = tt
line_below count terms below (line.Exact n) of = tt
line_below count terms below (line.Close n) of = tt
line_below count terms below (line.Clash m n) of = tt

pub lines_below : (count : ℕ) (terms : List TermId) → AreBelow count (listing.numbers_of terms) → (ls : List CertLine) →
    AreLinesOf terms ls → AreLinesWithin count ls
lines_below count terms below [] of = tt
lines_below count terms below (l ∷ ls) of = (line_below count terms below l of.0, lines_below count terms below ls of.1)

-- formulas stand among facts from a number on
abbrev pub StandFrom : ℕ → List BranchFact → List Assertion → Type 0
StandFrom n facts all = (k : ℕ) (a : Assertion) → slice_get all k ≡ Some a → slice_get facts (n + k) ≡ Some (Formal a)

-- the given facts stand under their numbers
pub given_stand : (table : TableValue) (fs : List Formula) (n : ℕ) (facts : List BranchFact) →
    StandFrom n facts (assertions_in (sorts_in table) (trees_in table) (all_numbered fs)) →
    StandAt facts (map (λ (g : GivenFact). g.number) (given_from n fs)) (map (assertion_given table) (given_from n fs))
given_stand table [] n facts at = tt
given_stand table (f ∷ fs) n facts at = by f (at 0) (given_stand table fs (suc n) facts later)
  where
    later : StandFrom (suc n) facts (assertions_in (sorts_in table) (trees_in table) (all_numbered fs))
    later k a e = let next : suc n + k ≡ n + suc k = omega arith in ap (slice_get facts) next ∙ at (suc k) a e

    first : (a : Assertion) → slice_get facts (n + 0) ≡ Some (Formal a) → slice_get facts n ≡ Some (Formal a)
    first a e = let here : n ≡ n + 0 = omega arith in ap (slice_get facts) here ∙ e

    by : (f : Formula) → ((a : Assertion) → slice_get (assertions_in (sorts_in table) (trees_in table) (all_numbered (f ∷ fs))) 0 ≡ Some a →
        slice_get facts (n + 0) ≡ Some (Formal a)) →
        StandAt facts (map (λ (g : GivenFact). g.number) (given_from (suc n) fs)) (map (assertion_given table) (given_from (suc n) fs)) →
        StandAt facts (map (λ (g : GivenFact). g.number) (given_from n (f ∷ fs))) (map (assertion_given table) (given_from n (f ∷ fs)))
    by tree.Yes here rest = rest
    by tree.No here rest = rest
    by (tree.Eq t u) here rest = (first _ (here _ refl), rest)
    by (tree.Ne t u) here rest = (first _ (here _ refl), rest)
    by (tree.Le t u) here rest = rest
    by (tree.Lt t u) here rest = rest
    by (tree.And' a p c q) here rest = rest
    by (tree.Or' a p c q) here rest = rest

module _ (table : TableValue) (terms : List TermId) (fs : List Formula)
    (below : AreBelow (length (trees_in table)) (listing.numbers_of terms))
    (distinct : HaveOnePlace (trees_in table)) (placed : HavePlaces (trees_in table)) (mark : ℕ → Bool) where
  abbrev b : Seen
  b = branch_of table fs

  abbrev v : ClassesValue
  v = classes_by table terms fs

  -- the facts of the branch stand first
  pub branch_stand : (more : List BranchFact) (k : ℕ) (a : Assertion) → slice_get b.facts k ≡ Some a →
      slice_get (as_facts b.facts ++ more) k ≡ Some (Formal a)
  branch_stand more k a e =
      slice_get-longer (as_facts b.facts) (as_facts b.facts ++ more) (more, refl) k (Formal a)
      (slice_get-map Formal b.facts k ∙ ap (option_map Formal) e)

  pub stand_first : (more : List BranchFact) → StandFrom 0 (as_facts b.facts ++ more) b.facts
  stand_first more k a e =
      let here : 0 + k ≡ k = omega arith in ap (slice_get (as_facts b.facts ++ more)) here ∙ branch_stand more k a e

  module _ (lines : List CertLine) (numbers : List ℕ) (forms : List (Linear ℕ)) (w : AreWritten b mark lines numbers forms) where
    -- lines that explain the equation, and the line of its form
    pub written_equation : (t u : TermId) (f : Linear ℕ) (ls : List CertLine) (m : CertLine) (n : ℕ) →
        t.0 < length (trees_in table) → u.0 < length (trees_in table) →
        IsTrue (is_numeric (sorts_in table) (tree_at (trees_in table) t.0)) →
        less_by b kind.Eq (tree_at (trees_in table) t.0) (tree_at (trees_in table) u.0) ≡ Fits f →
        AreLinesOf terms ls →
        Explain (sorts_in table) (numbers_of v) (setting_of v).given (length b.facts + length lines)
        (map (line_in (trees_in table)) ls) (equation_of table t u) →
        n ≡ (length b.facts + length (lines ++ ls)) - 1 → m ≡ line.Lin n →
        AreWritten b mark ((lines ++ ls) ++ m ∷ []) (numbers ++ (length b.facts + length (lines ++ ls)) ∷ []) (forms ++ f ∷ [])
    written_equation t u f ls m n first second numeric e named explain number same =
        let goal = equation_of table t u in
        let facts = so_far b mark lines numbers forms w in
        let ex = explain facts (count_so_far b mark lines numbers forms w) (given_stand table fs 0 facts (stand_first w.more)) in
        let next : List BranchFact = ex.0 ++ Formal goal ∷ [] in
        let more = written_more b mark lines numbers forms w ls next (lines_below (length (trees_in table)) terms below ls named) ex.1 in
        let long : length next ≡ length ls =
        added_count (sorts_in table) facts (map (line_in (trees_in table)) ls) next ex.1 ∙ length-map ls (line_in (trees_in table)) in
        let size : length next ≡ length ex.0 + 1 = length-append ex.0 (Formal goal ∷ []) in
        let both : length (lines ++ ls) ≡ length lines + length ls = length-append lines ls in
        let before : length (facts ++ ex.0) ≡ length facts + length ex.0 = length-append facts ex.0 in
        let count = count_so_far b mark lines numbers forms w in
        let at : n ≡ length (facts ++ ex.0) = omega (arith, long, size, both, before, count, number) in
        let there : slice_get (as_facts b.facts ++ (w.more ++ next)) n ≡ Some (Formal goal) =
        ap (λ (l : List BranchFact). slice_get l n)
        (sym (append_assoc (as_facts b.facts) w.more next) ∙ sym (append_assoc facts ex.0 (Formal goal ∷ [])))
        ∙ ap (slice_get ((facts ++ ex.0) ++ Formal goal ∷ [])) at
        ∙ first_behind (facts ++ ex.0) (Formal goal) [] in
        written_lin b mark (lines ++ ls) numbers forms more n m goal f same there
        (equation_makes b distinct placed t.0 u.0 f first second numeric e)
