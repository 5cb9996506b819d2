-- Private: a plan that can be written, node by node, with the certificates that are left.
use Rattle.std.specs.Prelude.{◌≡◌, ℕ, suc, ◌+◌, IsTrue, Some, List, [], ◌∷◌, ◌++◌, map}
use Rattle.sm_syntax.specs.text.Sorts.{Sorts}
use Rattle.sm_term.specs.Terms.{Tree}
use Rattle.sm_theory.specs.Facts.{BranchFact}
use Rattle.sm_cert.specs.Certificates.{Certificate, Closes}
use Rattle.sm_cert.specs.NamedTerms.{EachTerm}
use Rattle.sm_plan.specs.Limits.{is_shallow}
use Rattle.sm_plan.specs.NodeLists.{above_opened}
use Rattle.sm_plan.specs.Nodes.{Opened, opened_by}
use Rattle.sm_plan.specs.Plans.{Plan, At, Plans, Over, More, size}
use Rattle.sm_plan.specs.States.{State}
use Rattle.sm_write.specs.PlanStates.{plan_states}
use Rattle.sm_write.specs.Seen.{IsBuilt, Seen}
use Rattle.sm_write.specs.Writable.{EachKept, IsShort, denied}

-- the first certificates close branches, in order, with short lines and terms that are built of a
-- kind; the others are left
abbrev pub AreClosed :
    Sorts → (Tree → Type 0) → List (List BranchFact) → List Certificate → List Certificate → Type 0
AreClosed sorts K [] cs left = cs ≡ left
AreClosed sorts K (b ∷ bs) [] left = ⊥
AreClosed sorts K (b ∷ bs) (c ∷ cs) left =
    Closes sorts b c × EachTerm (IsBuilt K) c × IsShort c × AreClosed sorts K bs cs left

abbrev mutual
  -- the node k at a state, with `above` branching nodes above it, after these states: it fits, not
  -- too many branching nodes stand above what it opens, its kept formula is built of what was seen,
  -- and certificates close its goals; and the plans below it
  pub IsReady : Sorts → List State → ℕ → ℕ → State → Plan → List Certificate → List Certificate → Type 0
  IsReady sorts seen above k st (At node ps) cs left =
      let now = seen ++ st ∷ [] in
      (q : Opened)
      × (opened_by k st node ≡ Some q)
      × IsTrue (is_shallow (above_opened node above))
      × EachKept (IsBuilt (Seen now)) node
      × (mid : List Certificate)
      × AreClosed sorts (Seen now) (map (denied st.facts) q.goals) cs mid
      × AreReady sorts now (above_opened node above) (suc k) q.states ps mid left

  -- plans, one for each state, are ready at their states one after the other: the first is node k,
  -- and each begins behind the nodes of those before it, after the states that they have too, with
  -- the certificates that they leave
  pub AreReady :
      Sorts → List State → ℕ → ℕ → List State → Plans → List Certificate → List Certificate → Type 0
  AreReady sorts seen above k [] Over cs left = cs ≡ left
  AreReady sorts seen above k [] (More p ps) cs left = ⊥
  AreReady sorts seen above k (st ∷ states) Over cs left = ⊥
  AreReady sorts seen above k (st ∷ states) (More p ps) cs left =
      (mid : List Certificate)
      × IsReady sorts seen above k st p cs mid
      × AreReady sorts (seen ++ plan_states k st p) above (k + size p) states ps mid left
