-- What is written for the branch of facts of the program leads to a contradiction, step by step.
use Rattle.sm_certify.proofs.Imports.{Bool, false, IsTrue, ◌≡◌, ℕ, ◌<◌, ◌+◌, ◌-◌, List, [], ◌∷◌, ◌++◌, map, length, slice_get, refl, sym, ap, ◌∙◌, subst, Some, drop, get_or, length-map, drop_more, Linear, Tree, AreApart, numbered, assertion_in, Formula, TableValue, trees_in, sorts_in, TermId, line_in, CertLine, Explain, ClassesValue, setting_of, equation_of, as_facts, Close, Closed, lines_before, AreLinesWithin, ElimLine, Refutes, IsWhole, classes_by, branch_of, Seen, all_numbered, AreFormulasWithin, IsSource, Source, HavePlaces, AreWritten, Leads, AddsEquation, AddsSource, one_place, within-append}
use Rattle.sm_theory.specs.declared.line.CertLine.TheVariants as line
use Rattle.sm_cc.specs.Views.{numbers_of}
use Rattle.sm_judge.specs.declared.forms.Source.TheVariants as source
use Rattle.sm_certify.proofs.EquationLemmas.{written_equation, branch_stand}
use Rattle.sm_certify.proofs.LeadsLemmas.{leads_next, leads_skip, leads_sum, leads_skip_sum, leads_closed, leads_places}
use Rattle.sm_certify.proofs.SourcesLemmas.{fact_makes}
use Rattle.sm_certify.proofs.WrittenLemmas.{written_lin}

-- the first that is left of a list
pub item_left : {X : Type 0} (P : List X → Type 0) (xs ys : List X) (i : ℕ) (d : X) → xs ≡ ys → i < length xs → P (drop i ys) →
    P (get_or xs i d ∷ drop (i + 1) ys)
item_left {X} P xs ys i d same h p =
    subst P
    (drop_more ys i d (subst (λ (l : List X). i < length l) same h)
    ∙ ap (λ (l : List X). get_or l i d ∷ drop (i + 1) ys) (sym same)) p

module _ (table : TableValue) (fs : List Formula) (mark : ℕ → Bool) where
  abbrev b : Seen
  b = branch_of table fs

  abbrev trees : List Tree
  trees = trees_in table

  -- how many facts there are
  pub count_facts : length b.facts ≡ length fs
  count_facts = length-map (all_numbered fs) (assertion_in (sorts_in table) trees) ∙ length-map fs numbered

  -- lines and numbers that are written
  abbrev pub Written : List CertLine → List ℕ → List CertLine → List ℕ → CertLine → Type 0
  Written lines numbers more ns m = (more ≡ lines ++ m ∷ []) × (ns ≡ numbers ++ (length fs + length lines) ∷ [])

  -- what holds of these holds of those
  moved : (P : List CertLine → List ℕ → Type 0) (lines : List CertLine) (numbers : List ℕ) (more : List CertLine) (ns : List ℕ)
      (m : CertLine) → Written lines numbers more ns m → P (lines ++ m ∷ []) (numbers ++ (length b.facts + length lines) ∷ []) → P more ns
  moved P lines numbers more ns m w h =
      subst (λ (l : List CertLine). P l ns) (sym w.0)
      (subst (P (lines ++ m ∷ [])) (sym (w.1 ∙ ap (λ (n : ℕ). numbers ++ (n + length lines) ∷ []) (sym count_facts))) h)

  -- a sum is made
  pub sum_step : AreApart trees → (lines more : List CertLine) (numbers ns : List ℕ) (e : ElimLine) (es : List ElimLine) (bad i j : ℕ) →
      Leads b mark lines numbers [] (e ∷ es) bad → IsTrue (mark (length numbers)) → slice_get numbers e.f ≡ Some i →
      slice_get numbers e.g ≡ Some j → Written lines numbers more ns (line.Elim i j e.atom) → Leads b mark more ns [] es bad
  sum_step apart lines more numbers ns e es bad i j d here first second w =
      moved (λ (l : List CertLine) (n : List ℕ). Leads b mark l n [] es bad) lines numbers more ns (line.Elim i j e.atom) w
      (leads_sum b mark lines numbers (one_place trees apart) e es bad (line.Elim i j e.atom) i j d here refl first second)

  -- lines stay, and a number goes behind the others
  abbrev pub Skipped : List CertLine → List ℕ → List CertLine → List ℕ → Type 0
  Skipped lines numbers more ns = (more ≡ lines) × (ns ≡ numbers ++ 0 ∷ [])

  -- a sum isn't needed
  pub skip_sum_step : (lines more : List CertLine) (numbers ns : List ℕ) (e : ElimLine) (es : List ElimLine) (bad : ℕ) →
      Leads b mark lines numbers [] (e ∷ es) bad → mark (length numbers) ≡ false → Skipped lines numbers more ns →
      Leads b mark more ns [] es bad
  skip_sum_step lines more numbers ns e es bad d none w =
      subst (λ (l : List CertLine). Leads b mark l ns [] es bad) (sym w.0)
      (subst (λ (l : List ℕ). Leads b mark lines l [] es bad) (sym w.1) (leads_skip_sum b mark lines numbers e es bad 0 d none))

  -- the form of a source isn't needed
  pub skip_step : (lines more : List CertLine) (numbers ns : List ℕ) (s : Source) (ss : List Source) (es : List ElimLine) (bad : ℕ) →
      Leads b mark lines numbers (s ∷ ss) es bad → mark (length numbers) ≡ false → Skipped lines numbers more ns →
      Leads b mark more ns ss es bad
  skip_step lines more numbers ns s ss es bad d none w =
      subst (λ (l : List CertLine). Leads b mark l ns ss es bad) (sym w.0)
      (subst (λ (l : List ℕ). Leads b mark lines l ss es bad) (sym w.1) (leads_skip b mark lines numbers 0 s ss es bad d none))

  module _ (lines : List CertLine) (numbers : List ℕ) (xs ys : List ElimLine) (k : ℕ) (e : ElimLine) (bad : ℕ) (same : xs ≡ ys)
      (there : k < length xs) (d : Leads b mark lines numbers [] (drop k ys) bad) where
    -- a sum and those behind it are left
    pub sums_left : Leads b mark lines numbers [] (get_or xs k e ∷ drop (k + 1) ys) bad
    sums_left = item_left (λ (l : List ElimLine). Leads b mark lines numbers [] l bad) xs ys k e same there d

    -- its forms have numbers
    pub next_f : (get_or xs k e).f < length numbers
    next_f = (leads_places b mark lines numbers (get_or xs k e) (drop (k + 1) ys) bad sums_left).0

    pub next_g : (get_or xs k e).g < length numbers
    next_g = (leads_places b mark lines numbers (get_or xs k e) (drop (k + 1) ys) bad sums_left).1

  -- the form that can't hold closes the branch
  pub closed_step : AreApart trees → (lines : List CertLine) (numbers : List ℕ) (bad k : ℕ) → Leads b mark lines numbers [] [] bad →
      slice_get numbers bad ≡ Some k → Refutes (sorts_in table) (as_facts b.facts) (lines_before trees lines (Closed (Close k)))
  closed_step apart lines numbers bad k d number = leads_closed b mark lines numbers (one_place trees apart) bad k d number

  -- its line is within the table too
  pub closed_within : (lines : List CertLine) (numbers : List ℕ) (bad k : ℕ) → Leads b mark lines numbers [] [] bad →
      AreLinesWithin (length trees) (lines ++ line.Close k ∷ [])
  closed_within lines numbers bad k d = within-append (length trees) lines (line.Close k ∷ []) d.written.within (tt, tt)

  module _ (apart : AreApart trees) (placed : HavePlaces trees) (within : AreFormulasWithin (length trees) (all_numbered fs)) where
    -- the form of a fact is made
    pub fact_step : (lines more : List CertLine) (numbers ns : List ℕ) (n : ℕ) (ss : List Source) (es : List ElimLine) (bad : ℕ) →
        Leads b mark lines numbers (source.Fact n ∷ ss) es bad → Written lines numbers more ns (line.Lin n) → Leads b mark more ns ss es bad
    fact_step lines more numbers ns n ss es bad d w =
        leads_next b mark lines more numbers ns (source.Fact n) ss es bad d step
      where
        step : (made : List (Linear ℕ)) (f : Linear ℕ) → IsSource b (source.Fact n) f → AreWritten b mark lines numbers made →
            AreWritten b mark more ns (made ++ f ∷ [])
        step made f from v =
            let there = branch_stand table [] fs tt (one_place trees apart) placed mark v.more n from.0 from.1 in
            let makes = fact_makes b (one_place trees apart) placed (all_numbered fs) n from.0 f within from.1 from.2 in
            moved (λ (l : List CertLine) (k : List ℕ). AreWritten b mark l k (made ++ f ∷ [])) lines numbers more ns (line.Lin n) w
            (written_lin b mark lines numbers made v n (line.Lin n) from.0 f refl there makes)

    -- the form of two terms of one class is made
    pub class_step : (terms : List TermId) → IsWhole trees terms → (lines mid more : List CertLine) (numbers ns : List ℕ)
        (t u : TermId) (n : ℕ) (ss : List Source) (es : List ElimLine) (bad : ℕ) →
        Leads b mark lines numbers (source.Class t u ∷ ss) es bad → AddsEquation (classes_by table terms fs) (length fs) t u lines mid n →
        Written mid numbers more ns (line.Lin n) → Leads b mark more ns ss es bad
    class_step terms whole lines mid more numbers ns t u n ss es bad d adds w =
        leads_next b mark lines more numbers ns (source.Class t u) ss es bad d step
      where
        step : (made : List (Linear ℕ)) (f : Linear ℕ) → IsSource b (source.Class t u) f → AreWritten b mark lines numbers made →
            AreWritten b mark more ns (made ++ f ∷ [])
        step made f from v =
            let ls = adds.lines in
            let m = line.Lin n in
            let v_of = classes_by table terms fs in
            let explain = subst (λ (k : ℕ). Explain (sorts_in table) (numbers_of v_of) (setting_of v_of).given (k + length lines)
            (map (line_in trees) adds.lines) (equation_of table t u)) (sym count_facts) adds.explain in
            let number : n ≡ (length b.facts + length (lines ++ ls)) - 1 =
            adds.number ∙ ap (λ (l : List CertLine). (length fs + length l) - 1) adds.added
            ∙ ap (λ (k : ℕ). (k + length (lines ++ ls)) - 1) (sym count_facts) in
            let moves : Written (lines ++ ls) numbers more ns m =
            subst (λ (l : List CertLine). Written l numbers more ns m) adds.added w in
            moved (λ (l : List CertLine) (k : List ℕ). AreWritten b mark l k (made ++ f ∷ [])) (lines ++ ls) numbers more ns m moves
            (written_equation table terms fs whole.below (one_place trees apart) placed mark lines numbers made v t u f ls m n from.0 from.1
            from.2 from.4 adds.named explain number refl)

    -- the form of a source is made
    pub source_step : (v : ClassesValue) → IsWhole trees v.terms → v ≡ classes_by table v.terms fs → (lines more : List CertLine)
        (numbers ns : List ℕ) (s : Source) (ss : List Source) (es : List ElimLine) (bad : ℕ) → Leads b mark lines numbers (s ∷ ss) es bad →
        AddsSource v (length fs) s lines more numbers ns → Leads b mark more ns ss es bad
    source_step v whole classes lines more numbers ns (source.Fact n) ss es bad d adds =
        fact_step lines more numbers ns n ss es bad d adds
    source_step v whole classes lines more numbers ns (source.Class t u) ss es bad d adds =
        class_step v.terms whole lines adds.0 more numbers ns t u adds.1 ss es bad d
        (subst (λ (w : ClassesValue). AddsEquation w (length fs) t u lines adds.0 adds.1) classes adds.2) (adds.3, adds.4)
