-- What the plan under the kept templates decides.
use Rattle.sm_houdini.proofs.Imports.{◌≡◌, ℕ, suc, Bool, true, false, if◌then◌else◌, List, [], ◌∷◌, refl, sym, ap, ◌∙◌, subst, MatchOption, Parts, sort_of, task_of, Sorts, Assertion, TableValue, trees_in, sorts_in, ExtendsTable, certificate_in, Fault, obligations, IsTaskSorted, AreNumbered, IsPlanReady, numbered_plan, plan_in, plan_stays, plan_ready, Each, plan_of, is_small, Verdict, Walked, walk, Reach, IsWritable, Stop, asked, AreCertified, closing, AreCollected, AreInsideClosed, FinalCloses, FinalStops, AllClose, Outcome, is_closing, goal_outcome, goals_outcome, final_outcome, kept_dues, kept, plan_decides, TellsStop, Accepts}
use Rattle.std.proofs.Common.{map}
use Rattle.std.specs.Prelude.{Option, Some, None, Result, Ok, Err}
use Rattle.sm_plan.specs.Plans as plain
use Rattle.sm_plan.specs.Plans.{Due}
use Rattle.sm_expand.specs.declared.plan.Plan.{Plan}
use Rattle.sm_sided.specs.declared.whole.CertTrees.{CertTrees}
use Rattle.sm_judge.specs.Forms as walked
use Rattle.sm_houdini.specs.Outcomes.{TooMany}
use Rattle.sm_houdini.specs.Rounds.{dues_in}
use Rattle.sm_houdini.proofs.LastPass.{ClosesInside, inside_close}
use Rattle.sm_houdini.proofs.SearchWritable.{search_writable}

-- goals that close are passed
walk_closed : (node i : ℕ) (w : Walked) (later : Outcome (ℕ × Verdict)) → is_closing w ≡ true → goal_outcome node i w later ≡ later
walk_closed node i (walked.Closes count) later e = refl
walk_closed node i (walked.Opens facts) later e = absurd cc
walk_closed node i walked.TooFar later e = absurd cc
walk_closed node i (walked.GoesOut op y z) later e = absurd cc

goals_closed : (by : Assertion → Walked) (node i : ℕ) (gs : List Assertion) (later : Outcome (ℕ × Verdict)) →
    AllClose (λ (g : Assertion). is_closing (by g)) gs → goals_outcome by node i gs later ≡ later
goals_closed by node i [] later h = refl
goals_closed by node i (g ∷ gs) later h =
    walk_closed node i (by g) (goals_outcome by node (suc i) gs later) h.0 ∙ goals_closed by node (suc i) gs later h.1

all_closed : (sorts : Sorts) (reach : Reach) (ds : List Due) → Each (ClosesInside (closing sorts reach)) ds →
    AreInsideClosed (walk sorts reach) ds
all_closed sorts reach [] h = tt
all_closed sorts reach (d ∷ ds) h = (
  λ (e : d.is_final ≡ false) (later : Outcome (ℕ × Verdict)). goals_closed (walk sorts reach d.facts) d.node 0 d.goals later (h.0 e),
  all_closed sorts reach ds h.1,
)

module _ (t : Parts) (reach : Reach) where
  pub inside_closed : (sorts : Sorts) (ds : List Due) → sorts ≡ sort_of t.declared →
      obligations (task_of t) (plan_of t (kept (closing (sort_of t.declared) reach) t)) ≡ Ok ds → AreInsideClosed (walk sorts reach) ds
  inside_closed sorts ds same e =
      subst (λ (s : Sorts). AreInsideClosed (walk s reach) ds) (sym same)
      (all_closed (sort_of t.declared) reach ds (inside_close (closing (sort_of t.declared) reach) t ds e))

  decides : (sorts : Sorts) (ds : List Due) → sorts ≡ sort_of t.declared → is_small t ≡ true →
      obligations (task_of t) (plan_of t (kept (closing (sort_of t.declared) reach) t)) ≡ Ok ds →
      plan_decides t reach ≡ final_outcome (walk sorts reach) ds
  decides sorts ds same small e =
      let W = walk (sort_of t.declared) reach in
      ap (λ (b : Bool). if b then final_outcome W (kept_dues W t) else TooMany) small
      ∙ ap (λ (r : Result (List Due) Fault). final_outcome W (dues_in r)) e
      ∙ ap (λ (s : Sorts). final_outcome (walk s reach) ds) (sym same)

  pub ended_stops : (sorts : Sorts) (ds : List Due) (s : Stop) → sorts ≡ sort_of t.declared → is_small t ≡ true →
      obligations (task_of t) (plan_of t (kept (closing (sort_of t.declared) reach) t)) ≡ Ok ds → FinalStops (walk sorts reach) ds s →
      TellsStop t reach s
  ended_stops sorts ds s same small e stops = sym (decides sorts ds same small e ∙ stops)

  pub ended_accepts : (v x : TableValue) → ExtendsTable v x → (plan : Plan) (trees : CertTrees) (sorts : Sorts) (ds : List Due) →
      sorts_in v ≡ sort_of t.declared → sorts ≡ sort_of t.declared → AreNumbered t.declared →
      IsTaskSorted (sort_of t.declared) (task_of t) → is_small t ≡ true →
      IsPlanReady (sorts_in v) (trees_in v) (numbered_plan plan) →
      plan_in (sorts_in v) (trees_in v) plan ≡ plan_of t (kept (closing (sort_of t.declared) reach) t) →
      obligations (task_of t) (plan_of t (kept (closing (sort_of t.declared) reach) t)) ≡ Ok ds →
      FinalCloses (walk sorts reach) ds → AreCollected x (asked ds) trees.list.items → Accepts t reach x plan trees
  ended_accepts v x wider plan trees sorts ds declared same numbered sorted small ready made e closes collected =
      let choice = kept (closing (sort_of t.declared) reach) t in
      let over : sorts_in x ≡ sort_of t.declared = wider.sorts ∙ declared in
      let cs = map (certificate_in (trees_in x)) trees.list.items in
      let certified : AreCertified (sort_of t.declared) (asked ds) cs =
      subst (λ (s : Sorts). AreCertified s (asked ds) cs) over collected.certified in
      record {
        tells = sym (decides sorts ds same small e ∙ closes);
        whole = record {
          declared = over;
          ready = plan_ready v x wider (numbered_plan plan) ready;
          within = collected.within;
          writable = subst (λ (p : plain.Plan). IsWritable t p cs) (sym (plan_stays v x wider (numbered_plan plan) ready ∙ made))
              (search_writable t choice ds cs numbered sorted e certified collected.short);
        };
      }

-- how the last pass ends
pub final_stop : (P : Type 0) (by : List Assertion → Assertion → Walked) (ds : List Due) (o : Option Stop) (s : Stop) → o ≡ Some s →
    MatchOption o P (FinalStops by ds) → FinalStops by ds s
final_stop P by ds o s is h = subst (λ (x : Option Stop). MatchOption x P (FinalStops by ds)) is h

pub final_close : (P : Type 0) (by : List Assertion → Assertion → Walked) (ds : List Due) (o : Option Stop) → o ≡ None →
    MatchOption o P (FinalStops by ds) → P
final_close P by ds o is h = subst (λ (x : Option Stop). MatchOption x P (FinalStops by ds)) is h

-- nothing is collected at first
pub none_collected : (v : TableValue) → AreCollected v [] []
none_collected v = record { within = tt; certified = tt; short = tt }

-- what a plan asks that has obligations
pub dues_told : (r : Result (List Due) Fault) (all ds : List Due) → r ≡ Ok all → ds ≡ dues_in r → r ≡ Ok ds
dues_told r all ds asks is = asks ∙ ap (λ (l : List Due). Ok l) (sym (is ∙ ap dues_in asks))

-- a plan that isn't small decides that there are too many
pub too_many : (t : Parts) (reach : Reach) → is_small t ≡ false →
    (let many : Outcome (ℕ × Verdict) = TooMany in many) ≡ plan_decides t reach
too_many t reach large =
    let W = walk (sort_of t.declared) reach in
    sym (ap (λ (b : Bool). if b then final_outcome W (kept_dues W t) else TooMany) large)
