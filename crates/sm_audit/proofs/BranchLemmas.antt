-- The branches of goals, and certificates for goals one after the other.
use Rattle.sm_audit.proofs.Imports.{◌≡◌, ◌<◌, ◌+◌, ℕ, zero, suc, List, [], ◌∷◌, ◌++◌, drop, get_or, length, map, take, sym, ap, ◌∙◌, subst, arith, drop_more, map-append, take_more, Sorts, Assertion, negate, NumberedFormula, numbered, assertion_in, contrary, IsFormulaWithin, Formula, Tree, BranchFact, Formal, as_facts, AllStand, FactStands, CertTree, AreFormsReady, IsFormReady, State, forms_in, due_in, dues_in, AreDuesReady, Goal, all_goals, denied, goals_of, AreGoalsFit, IsGoalFit}
use Rattle.sm_term.proofs.FormsLemmas.{contrary_within}
use Rattle.sm_term.proofs.FormulasLemmas.{contrary_negates}
use Rattle.sm_theory.specs.SortedFacts.{AreFactsSorted}
use Rattle.sm_theory.specs.declared.fact.Fact.{Fact}
use Rattle.sm_theory.specs.declared.fact.Fact.TheVariants.{Form}
use Rattle.sm_expand.specs.declared.due.Due.{Due}
use Rattle.sm_term.proofs.SortedForms.{negate_sorted}

module _ (sorts : Sorts) (trees : List Tree) where
  -- a formula stands for its assertion
  form_stands : (f c : Formula) → IsFormReady sorts trees f → numbered c ≡ numbered f →
      FactStands sorts trees (Form c) (Formal (assertion_in sorts trees (numbered f)))
  form_stands f c ready same = (subst (IsFormulaWithin (length trees)) (sym same) ready.0, ap (assertion_in sorts trees) same)

  contrary_stands : (f c : Formula) → IsFormReady sorts trees f → numbered c ≡ contrary (numbered f) →
      FactStands sorts trees (Form c) (Formal (negate (assertion_in sorts trees (numbered f))))
  contrary_stands f c ready same = (
    subst (IsFormulaWithin (length trees)) (sym same) (contrary_within (length trees) (numbered f) ready.0),
    ap (assertion_in sorts trees) same ∙ contrary_negates sorts trees (numbered f),
  )

  stand_more : (fs : List Fact) (ks : List BranchFact) (f : Fact) (k : BranchFact) → AllStand sorts trees fs ks →
      FactStands sorts trees f k → AllStand sorts trees (fs ++ f ∷ []) (ks ++ k ∷ [])
  stand_more [] [] f k all one = (one, tt)
  stand_more [] (l ∷ ks) f k all one = absurd all
  stand_more (g ∷ fs) [] f k all one = absurd all
  stand_more (g ∷ fs) (l ∷ ks) f k all one = (all.0, stand_more fs ks f k all.1 one)

  ready_at : (fs : List Formula) (i : ℕ) (d : Formula) → AreFormsReady sorts trees fs → i < length fs →
      IsFormReady sorts trees (get_or fs i d)
  ready_at [] i d all h = absurd (omega (arith, h))
  ready_at (f ∷ fs) zero d all h = all.0
  ready_at (f ∷ fs) (suc i) d all h = ready_at fs i d all.1 (let fewer : i < length fs = omega (arith, h) in fewer)

  pub form_ready_at : (fs : List Formula) (i : ℕ) (f : Formula) → AreFormsReady sorts trees fs → i < length fs → f ≡ get_or fs i f →
      IsFormReady sorts trees f
  form_ready_at fs i f all h e = subst (IsFormReady sorts trees) (sym e) (ready_at fs i f all h)

  -- a fact more
  pub fact_put : (fs : List Formula) (i : ℕ) (f c : Formula) (old new : List Fact) → AreFormsReady sorts trees fs → i < length fs →
      f ≡ get_or fs i f → numbered c ≡ numbered f → new ≡ old ++ Form c ∷ [] →
      AllStand sorts trees old (as_facts (forms_in sorts trees (take i fs))) →
      AllStand sorts trees new (as_facts (forms_in sorts trees (take (i + 1) fs)))
  fact_put fs i f c old new all h e same put before =
      let means = λ (g : Formula). Formal (assertion_in sorts trees (numbered g)) in
      let views = λ (gs : List Formula). as_facts (forms_in sorts trees gs) in
      let more : take (i + 1) fs ≡ take i fs ++ f ∷ [] =
      take_more fs i f h ∙ ap (λ (g : Formula). take i fs ++ g ∷ []) (sym e) in
      let ks : views (take (i + 1) fs) ≡ views (take i fs) ++ means f ∷ [] =
      ap views more
      ∙ ap as_facts (map-append (λ (g : Formula). assertion_in sorts trees (numbered g)) (take i fs) (f ∷ []))
      ∙ map-append Formal (forms_in sorts trees (take i fs)) (forms_in sorts trees (f ∷ [])) in
      subst (AllStand sorts trees new) (sym ks)
      (subst (λ (l : List Fact). AllStand sorts trees l (views (take i fs) ++ means f ∷ [])) (sym put)
      (stand_more old (views (take i fs)) (Form c) (means f) before (form_stands f c (form_ready_at fs i f all h e) same)))

  -- the contrary of a goal behind facts
  pub denied_stands : (fs : List Formula) (goal c : Formula) (old new : List Fact) → IsFormReady sorts trees goal →
      numbered c ≡ contrary (numbered goal) → new ≡ old ++ Form c ∷ [] →
      AllStand sorts trees old (as_facts (forms_in sorts trees fs)) →
      AllStand sorts trees new (denied (forms_in sorts trees fs) (assertion_in sorts trees (numbered goal)))
  denied_stands fs goal c old new ready same put before =
      let ks = as_facts (forms_in sorts trees fs) in
      let k = Formal (negate (assertion_in sorts trees (numbered goal))) in
      subst (λ (l : List Fact). AllStand sorts trees l (ks ++ k ∷ [])) (sym put)
      (stand_more old ks (Form c) k before (contrary_stands goal c ready same))

  -- the facts of a branch are sorted
  pub denied_sorted : (fs : List Formula) (goal : Formula) → AreFormsReady sorts trees fs → IsFormReady sorts trees goal →
      AreFactsSorted sorts (denied (forms_in sorts trees fs) (assertion_in sorts trees (numbered goal)))
  denied_sorted [] goal all ready = (negate_sorted sorts (assertion_in sorts trees (numbered goal)) ready.1, tt)
  denied_sorted (f ∷ fs) goal all ready = (all.0.1, denied_sorted fs goal all.1 ready)

  -- an obligation is ready
  abbrev IsDueReady : Due → Type 0
  IsDueReady d = AreFormsReady sorts trees d.facts.list.items × AreFormsReady sorts trees d.targets.list.items

  due_at : (ds : List Due) (i : ℕ) (d : Due) → AreDuesReady sorts trees ds → i < length ds → IsDueReady (get_or ds i d)
  due_at [] i d all h = absurd (omega (arith, h))
  due_at (x ∷ ds) zero d all h = (all.0, all.1)
  due_at (x ∷ ds) (suc i) d all h = due_at ds i d all.2 (let fewer : i < length ds = omega (arith, h) in fewer)

  pub due_ready_at : (ds : List Due) (i : ℕ) (d : Due) → AreDuesReady sorts trees ds → i < length ds → d ≡ get_or ds i d →
      AreFormsReady sorts trees d.facts.list.items × AreFormsReady sorts trees d.targets.list.items
  due_ready_at ds i d all h e = subst IsDueReady (sym e) (due_at ds i d all h)

  -- goals over the facts of a node
  abbrev pub goals_over : ℕ → List Assertion → List Formula → List Goal
  goals_over node facts gs =
      map (λ (g : Assertion). record { node = node; branch = denied facts g }) (forms_in sorts trees gs)

  module _ (states : List State) where
    -- a goal and those behind it
    pub goal_before : (node : ℕ) (facts : List Assertion) (gs : List Formula) (more : List Goal) (i : ℕ) (g : Formula) (c : CertTree)
        (left cs : List CertTree) → i < length gs → g ≡ get_or gs i g → left ≡ c ∷ cs →
        IsGoalFit sorts states trees node (denied facts (assertion_in sorts trees (numbered g))) c →
        AreGoalsFit sorts states trees (goals_over node facts (drop (i + 1) gs) ++ more) cs →
        AreGoalsFit sorts states trees (goals_over node facts (drop i gs) ++ more) left
    goal_before node facts gs more i g c left cs h e split one rest =
        let next : drop i gs ≡ g ∷ drop (i + 1) gs =
        drop_more gs i g h ∙ ap (λ (f : Formula). f ∷ drop (i + 1) gs) (sym e) in
        subst (AreGoalsFit sorts states trees (goals_over node facts (drop i gs) ++ more)) (sym split)
        (subst (λ (fs : List Formula). AreGoalsFit sorts states trees (goals_over node facts fs ++ more) (c ∷ cs)) (sym next)
        (one, rest))

    -- an obligation and those behind it
    pub due_before : (ds : List Due) (i : ℕ) (d : Due) (left : List CertTree) → i < length ds → d ≡ get_or ds i d →
        AreGoalsFit sorts states trees (goals_of (due_in sorts trees d) ++ all_goals (dues_in sorts trees (drop (i + 1) ds))) left →
        AreGoalsFit sorts states trees (all_goals (dues_in sorts trees (drop i ds))) left
    due_before ds i d left h e fit =
        let next : drop i ds ≡ d ∷ drop (i + 1) ds = drop_more ds i d h ∙ ap (λ (x : Due). x ∷ drop (i + 1) ds) (sym e) in
        subst (λ (xs : List Due). AreGoalsFit sorts states trees (all_goals (dues_in sorts trees xs)) left) (sym next) fit
