-- Lines name the terms of a table in order, give the forms of sources in order, and close the branch
-- by the exact decision of these.
use Rattle.sm_certify.proofs.Imports.{◌≡◌, ℕ, ◌+◌, ◌-◌, ◌<◌, ◌≤◌, nat_le, true, Bool, ◌&&◌, List, [], ◌∷◌, ◌++◌, map, length, take, slice_get, pos, Option, Some, None, refl, sym, ap, ◌∙◌, subst, arith, filter_map, le-leb, append-nil, length-map, map-append, slice_get-get_or, Linear, Sorts, Formula, Assertion, arguments_of, tree_sort, AreApart, TableValue, trees_in, sorts_in, codes_in, tree_at, tree_in, IsTermWithin, TermId, Tree, Lit, form_of_comparison, formula_if, or_other, forms_by_places, forms_of_branch, has_no_solution, exact_adds, BranchFact, Formal, Sum, as_facts, Lin, Exact, Close, followed, formula_in, form_in, formula_at, line_in, CertLine, adds, cannot_hold, closing_if, added_by, IsListed, ClassesValue, equation_of, first_behind, Closed, lines_before, AreLinesWithin, Seen, HavePlaces, IsSource, AreSources, Source, all_numbered, AreFormulasWithin, there_among, AllAmong, is_among, with_formulas, StandInOrder, Decides, IsWhole, classes_by, branch_of, Refutes, IsUsable, AddsEquation, AddsSource, one_place, within-append}
use Rattle.std.proofs.lemmas.List.{append_assoc, length-append}
use Rattle.sm_omega.specs.Counting.{Done}
use Rattle.sm_omega.specs.Exact.{exact}
use Rattle.sm_omega.specs.Rules.{Answer}
use Rattle.sm_term.specs.Assertions.{No, Eq}
use Rattle.sm_term.specs.Fitting.{term_fits}
use Rattle.sm_term.specs.declared.term.Term.{Term}
use Rattle.sm_theory.specs.declared.line.CertLine.TheVariants as line
use Rattle.sm_euf.specs.Arguments.{argument_numbers, trees_of}
use Rattle.sm_euf.proofs.ArgumentsLemmas.{arguments_are, parts_before}
use Rattle.sm_judge.specs.declared.forms.Source.TheVariants as source
use Rattle.sm_certify.specs.Decided.{AreDecided}
use Rattle.sm_certify.proofs.AddingLemmas.{added_both, added_count, added_then}
use Rattle.sm_certify.proofs.BranchLeadsLemmas.{count_facts}
use Rattle.sm_certify.proofs.EquationLemmas.{branch_stand, given_stand, listed_below, lines_below, stand_first}
use Rattle.sm_certify.proofs.ExplainedTermsLemmas.{all_name, formulas_name, formulas_alone, explained_name}
use Rattle.sm_certify.proofs.LeadsLemmas.{usable}
use Rattle.sm_certify.proofs.NamingLemmas.{next_named, numbers_before, same_with_formulas}
use Rattle.sm_certify.proofs.OrderLemmas.{so_far, order_among, order_closed, order_count, order_form, order_formulas}
use Rattle.sm_certify.proofs.RefutingLemmas.{refuted_by}
use Rattle.sm_certify.proofs.SourcesLemmas.{MakesFor, equation_makes, fact_makes}

-- the line of a comparison that has a number
lin_makes : (sorts : Sorts) (trees : List Tree) (facts : List BranchFact) (n : ℕ) (a : Assertion) (f : Linear ℕ) →
    slice_get facts n ≡ Some (Formal a) → MakesFor trees (form_of_comparison a) f → MakesFor trees (adds sorts facts (Lin n)) f
lin_makes sorts trees facts n a f there made =
    let found : formula_at facts n ≡ Some a = ap (λ (o : Option BranchFact). followed o formula_in) there in
    let adding : adds sorts facts (Lin n) ≡ Some (Sum made.0) =
    ap (λ (o : Option Assertion). or_other (followed o form_of_comparison) None) found
    ∙ ap (λ (o : Option BranchFact). or_other o None) made.1 in
    (made.0, adding, made.2)

-- the exact line, where the forms are told
exact_adds_no : (facts : List BranchFact) (fs : List (Linear ℕ)) (count : ℕ) → forms_of_branch facts ≡ Some fs →
    exact fs count ≡ Done count None → count ≤ 1000000 → exact_adds facts count ≡ Some (Formal No)
exact_adds_no facts fs count forms decided few =
    ap (λ (o : Option (List (Linear ℕ))). followed o (λ (hs : List (Linear ℕ)).
    formula_if (nat_le count 1000000 && has_no_solution (exact hs count)) No)) forms
    ∙ ap (λ (c : Bool). formula_if (c && has_no_solution (exact fs count)) No) (le-leb count 1000000 few)
    ∙ ap (λ (a : Answer). formula_if (has_no_solution a) No) decided

module _ (b : Seen) where
  -- with no source of which lines are written
  pub decides_first : (lines : List CertLine) (sources : List Source) (count : ℕ) → StandInOrder b b.terms lines [] →
      AreDecided b sources count → Decides b lines sources count
  decides_first lines sources count w why = record {
    made = [];
    left = why.forms;
    written = w;
    from = why.from;
    decided = why.decided;
    few = why.few;
  }

  -- the next source can be used
  pub decides_usable : (lines : List CertLine) (s : Source) (ss : List Source) (count : ℕ) → Decides b lines (s ∷ ss) count → IsUsable b s
  decides_usable lines s ss count d = by d.left d.from
    where
      by : (left : List (Linear ℕ)) → AreSources b (s ∷ ss) left → IsUsable b s
      by [] from = absurd from
      by (f ∷ fs) from = usable b (λ n. true) s f from.0

  -- its form is given
  decides_next : (lines more : List CertLine) (s : Source) (ss : List Source) (count : ℕ) → Decides b lines (s ∷ ss) count →
      ((made : List (Linear ℕ)) (f : Linear ℕ) → IsSource b s f → StandInOrder b b.terms lines made →
      StandInOrder b b.terms more (made ++ f ∷ [])) →
      Decides b more ss count
  decides_next lines more s ss count d step = by d.left d.from d.decided
    where
      by : (left : List (Linear ℕ)) → AreSources b (s ∷ ss) left → exact (d.made ++ left) count ≡ Done count None → Decides b more ss count
      by [] from decided = absurd from
      by (f ∷ fs) from decided = record {
        made = d.made ++ f ∷ [];
        left = fs;
        written = step d.made f from.0 d.written;
        from = from.1;
        decided = ap (λ (hs : List (Linear ℕ)). exact hs count) (append_assoc d.made (f ∷ []) fs) ∙ decided;
        few = d.few;
      }

  -- no source is left
  decides_all : (lines : List CertLine) (count : ℕ) (d : Decides b lines [] count) → exact d.made count ≡ Done count None
  decides_all lines count d = by d.left d.from d.decided
    where
      by : (left : List (Linear ℕ)) → AreSources b [] left → exact (d.made ++ left) count ≡ Done count None →
          exact d.made count ≡ Done count None
      by [] from decided = ap (λ (hs : List (Linear ℕ)). exact hs count) (sym (append-nil d.made)) ∙ decided
      by (f ∷ fs) from decided = absurd from

  -- the exact line adds what can't hold, and its number closes the branch
  exact_closes : (lines : List CertLine) (count k : ℕ) → Decides b lines [] count → k ≡ length b.facts + length lines →
      Refutes b.sorts (as_facts b.facts) (lines_before b.terms (lines ++ line.Exact count ∷ []) (Closed (Close k)))
  exact_closes lines count k d number =
      let w = d.written in
      let facts = so_far b b.terms lines d.made w in
      let forms : forms_of_branch facts ≡ Some d.made =
      ap (λ (ts : List Tree). forms_by_places ts (filter_map form_in facts)) w.named ∙ w.placed in
      let adding : adds b.sorts facts (Exact count) ≡ Some (Formal No) =
      ap (λ (o : Option BranchFact). or_other o None) (exact_adds_no facts d.made count forms (decides_all lines count d) d.few) in
      let next : List BranchFact = Formal No ∷ [] in
      let added = ap (added_by b.sorts (as_facts b.facts)) (map-append (line_in b.terms) lines (line.Exact count ∷ []))
      ∙ added_both b.sorts (as_facts b.facts) (map (line_in b.terms) lines) (Exact count ∷ []) w.more next w.added
      (added_then b.sorts facts (Exact count) [] (Formal No) [] adding refl) in
      let last : k ≡ length facts = number ∙ sym (order_count b b.terms lines d.made w) in
      let there : slice_get (as_facts b.facts ++ (w.more ++ next)) k ≡ Some (Formal No) =
      ap (λ (ks : List BranchFact). slice_get ks k) (sym (append_assoc (as_facts b.facts) w.more next))
      ∙ ap (slice_get (facts ++ next)) last ∙ first_behind facts (Formal No) [] in
      refuted_by b.sorts b.terms (lines ++ line.Exact count ∷ []) (line.Close k) (as_facts b.facts) (w.more ++ next) added
      (ap (λ (o : Option BranchFact). followed o (λ (k : BranchFact). closing_if (cannot_hold k))) there)

module _ (table : TableValue) (fs : List Formula) where
  abbrev b : Seen
  b = branch_of table fs

  abbrev trees : List Tree
  trees = trees_in table

  -- a line more names the next term
  pub naming_next : AreApart trees → (n : ℕ) (lines more : List CertLine) (t : TermId) (row : Term) → n < length trees →
      tree_in (codes_in table) trees row ≡ tree_at trees t.0 → IsTermWithin (sorts_in table) (length (codes_in table)) t.0 row →
      term_fits (sorts_in table) trees row ≡ true → t.0 ≡ n → more ≡ lines ++ line.Refl t ∷ [] →
      StandInOrder b (take n trees) lines [] → StandInOrder b (take (n + 1) trees) more []
  naming_next apart n lines more t row inside tree before fits here added w =
      subst (λ (ls : List CertLine). StandInOrder b (take (n + 1) trees) ls []) (sym added)
      (order_formulas b (take n trees) lines [] w (line.Refl t ∷ []) (Formal same ∷ []) (take (n + 1) trees)
      (subst (λ (k : ℕ). k < length trees) (sym here) inside, tt)
      (added_then b.sorts (so_far b (take n trees) lines [] w) (line_in trees (line.Refl t)) [] (Formal same) [] refl refl)
      named refl)
    where
      same : Assertion
      same = Eq (tree_sort (sorts_in table) (tree_at trees t.0)) (tree_at trees t.0) (tree_at trees t.0)

      args : AllAmong (take n trees) (arguments_of (tree_at trees n))
      args =
          let are : arguments_of (tree_at trees n) ≡ trees_of trees (argument_numbers row) =
          ap (λ (k : ℕ). arguments_of (tree_at trees k)) (sym here) ∙ ap arguments_of (sym tree)
          ∙ arguments_are (sorts_in table) (codes_in table) trees row fits in
          subst (AllAmong (take n trees)) (sym are)
          (numbers_before trees n inside (argument_numbers row)
          (parts_before (sorts_in table) (length (codes_in table)) t.0 n (omega (arith, here)) row before))

      named : with_formulas (same ∷ []) (take n trees) ≡ take (n + 1) trees
      named =
          ap (λ (k : ℕ). with_formulas (Eq (tree_sort (sorts_in table) (tree_at trees k)) (tree_at trees k) (tree_at trees k) ∷ [])
          (take n trees)) here
          ∙ next_named trees n inside apart (tree_sort (sorts_in table) (tree_at trees n)) (order_closed b (take n trees) lines [] w) args

  module _ (apart : AreApart trees) (placed : HavePlaces trees) (within : AreFormulasWithin (length trees) (all_numbered fs)) where
    -- the form of a fact
    fact_in_order : (lines : List CertLine) (made : List (Linear ℕ)) (n : ℕ) (f : Linear ℕ) → IsSource b (source.Fact n) f →
        StandInOrder b trees lines made → StandInOrder b trees (lines ++ line.Lin n ∷ []) (made ++ f ∷ [])
    fact_in_order lines made n f from w =
        let there = branch_stand table [] fs tt (one_place trees apart) placed (λ k. true) w.more n from.0 from.1 in
        let makes = fact_makes b (one_place trees apart) placed (all_numbered fs) n from.0 f within from.1 from.2 in
        order_form b trees lines made w (one_place trees apart) (line.Lin n) f tt
        (lin_makes (sorts_in table) trees (so_far b trees lines made w) n from.0 f there makes)

    -- the form of two terms of one class, behind what explains their equation
    class_in_order : (terms : List TermId) → IsWhole trees terms → (lines between : List CertLine) (made : List (Linear ℕ)) (t u : TermId)
        (n : ℕ) (f : Linear ℕ) → IsSource b (source.Class t u) f →
        AddsEquation (classes_by table terms fs) (length fs) t u lines between n → StandInOrder b trees lines made →
        StandInOrder b trees (between ++ line.Lin n ∷ []) (made ++ f ∷ [])
    class_in_order terms whole lines between made t u n f from adds w =
        let ls = adds.lines in
        let goal = equation_of table t u in
        let v = classes_by table terms fs in
        let facts = so_far b trees lines made w in
        let count = order_count b trees lines made w in
        let all = count_facts table fs (λ k. true) in
        let start : length facts ≡ length fs + length lines = omega (arith, count, all) in
        let distinct = one_place trees apart in
        let ex = adds.explain facts start
        (given_stand table fs 0 facts (stand_first table terms fs whole.below distinct placed (λ k. true) w.more)) in
        let next : List BranchFact = ex.0 ++ Formal goal ∷ [] in
        let closed = order_closed b trees lines made w in
        let named = explained_name trees (sorts_in table) terms closed listed facts ls next
        (all_name trees facts (order_among b trees lines made w)) adds.named ex.1 in
        let later = order_formulas b trees lines made w ls next trees (lines_below (length trees) terms whole.below ls adds.named) ex.1
        (same_with_formulas (filter_map formula_in next) trees closed (formulas_name trees next named)) (formulas_alone trees next named) in
        let long : length next ≡ length ls =
        added_count (sorts_in table) facts (map (line_in trees) ls) next ex.1 ∙ length-map ls (line_in trees) in
        let size : length next ≡ length ex.0 + 1 = length-append ex.0 (Formal goal ∷ []) in
        let both : length (lines ++ ls) ≡ length lines + length ls = length-append lines ls in
        let before : length (facts ++ ex.0) ≡ length facts + length ex.0 = length-append facts ex.0 in
        let number : n ≡ (length fs + length (lines ++ ls)) - 1 =
        adds.number ∙ ap (λ (l : List CertLine). (length fs + length l) - 1) adds.added in
        let at : n ≡ length (facts ++ ex.0) = omega (arith, long, size, both, before, start, number) in
        let there : slice_get (as_facts b.facts ++ (w.more ++ next)) n ≡ Some (Formal goal) =
        ap (λ (l : List BranchFact). slice_get l n)
        (sym (append_assoc (as_facts b.facts) w.more next) ∙ sym (append_assoc facts ex.0 (Formal goal ∷ [])))
        ∙ ap (slice_get ((facts ++ ex.0) ++ Formal goal ∷ [])) at
        ∙ first_behind (facts ++ ex.0) (Formal goal) [] in
        subst (λ (l : List CertLine). StandInOrder b trees (l ++ line.Lin n ∷ []) (made ++ f ∷ [])) (sym adds.added)
        (order_form b trees (lines ++ ls) made later distinct (line.Lin n) f tt
        (lin_makes (sorts_in table) trees (as_facts b.facts ++ (w.more ++ next)) n goal f there
        (equation_makes b distinct placed t.0 u.0 f from.0 from.1 from.2 from.4)))
      where
        listed : (t : TermId) → IsListed terms t → is_among trees (tree_at trees t.0) ≡ true
        listed t of =
            there_among trees t.0 (tree_at trees t.0)
            (slice_get-get_or trees t.0 (Lit (pos 0)) (listed_below (length trees) terms t whole.below of))

    -- the lines of a source
    pub source_in_order : (v : ClassesValue) (terms : List TermId) → IsWhole trees terms → v ≡ classes_by table terms fs →
        (lines more : List CertLine) (numbers ns : List ℕ) (s : Source) (ss : List Source) (count : ℕ) → Decides b lines (s ∷ ss) count →
        AddsSource v (length fs) s lines more numbers ns → Decides b more ss count
    source_in_order v terms whole classes lines more numbers ns (source.Fact n) ss count d adds =
        decides_next b lines more (source.Fact n) ss count d
        (λ made f from w. subst (λ (l : List CertLine). StandInOrder b trees l (made ++ f ∷ [])) (sym adds.0)
        (fact_in_order lines made n f from w))
    source_in_order v terms whole classes lines more numbers ns (source.Class t u) ss count d adds =
        decides_next b lines more (source.Class t u) ss count d
        (λ made f from w. subst (λ (l : List CertLine). StandInOrder b trees l (made ++ f ∷ [])) (sym adds.3)
        (class_in_order terms whole lines adds.0 made t u adds.1 f from
        (subst (λ (v : ClassesValue). AddsEquation v (length fs) t u lines adds.0 adds.1) classes adds.2) w))

  -- the certificate
  pub decided_refutes : (lines more : List CertLine) (count k : ℕ) → Decides b lines [] count → more ≡ lines ++ line.Exact count ∷ [] →
      k ≡ length fs + length lines → Refutes (sorts_in table) (as_facts b.facts) (lines_before trees more (Closed (Close k)))
  decided_refutes lines more count k d added number =
      let all = count_facts table fs (λ k. true) in
      subst (λ (l : List CertLine). Refutes (sorts_in table) (as_facts b.facts) (lines_before trees l (Closed (Close k)))) (sym added)
      (exact_closes b lines count k d (omega (arith, all, number)))

  -- its lines are within the table
  pub decided_within : (lines more : List CertLine) (count k : ℕ) → Decides b lines [] count → more ≡ lines ++ line.Exact count ∷ [] →
      AreLinesWithin (length trees) (more ++ line.Close k ∷ [])
  decided_within lines more count k d added =
      subst (λ (l : List CertLine). AreLinesWithin (length trees) (l ++ line.Close k ∷ [])) (sym added)
      (within-append (length trees) (lines ++ line.Exact count ∷ []) (line.Close k ∷ [])
      (within-append (length trees) lines (line.Exact count ∷ []) d.written.within (tt, tt)) (tt, tt))
