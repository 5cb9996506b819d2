-- The answers of the exact decision are right: each rule's, where those of what it goes on with are.
use Rattle.sm_omega.proofs.Imports.{◌≡◌, ◌<◌, ◌==◌, ℕ, zero, suc, ℤ, pos, nat_abs, Bool, true, false, if◌then◌else◌, Option, Some, None, List, [], ◌∷◌, ◌++◌, map, refl, sym, ap, subst, ◌∙◌, eqb-true, Linear, Done, Passed, Outside, Shallow, Item, Enter, Count, Entered, entered, go_on, Values, at, has, lower_bounds, upper_bounds, others, least_variable, Answer, Solver, solved, or_refuted, giving, first_equation, least_part, eliminated_item, modular, modular_item, by_equation, value_by, standing, splinter, greatest_bound, least_bound, by_bounds, by_variable, shadows, by_rule, by_first, by_least, solved_within, enough, above_all, AllHold, IsRightFor, ExactIsRight}
use Rattle.sm_omega.specs.Exact.{exact}
use Rattle.sm_omega.proofs.Predicates.{Fitting, EachOf, IsListed, AreListed, IsGoodItem, AreGoodItems, ItemsHold, Decides, Serves}
use Rattle.sm_omega.proofs.AnswersLemmas.{Answers, answers_less, answers_decide, decides_answers, giving_answers}
use Rattle.sm_omega.proofs.EachLemmas.{each_append, each_weaker}
use Rattle.sm_omega.proofs.ListedLemmas.{entered_listed, each_others, each_lower, each_upper, standing_good, shadows_good, splinter_good, eliminated_items_good, modular_items_good, modular_good, given_good}
use Rattle.sm_omega.proofs.FittingLemmas.{entered_fitting, entered_says, entered_refutes}
use Rattle.sm_omega.proofs.FoundLemmas.{IsPartOf, least_is_part, has_part, least_none}
use Rattle.sm_omega.proofs.RuleOne.{found}
use Rattle.sm_omega.proofs.RuleOneUnit.{unit_forth, unit_back}
use Rattle.sm_omega.proofs.RuleOneModular.{modular_forth, modular_back}
use Rattle.sm_omega.proofs.Bounds.{NoEquations, no_equations, others_hold, no_upper, no_lower}
use Rattle.sm_omega.proofs.Splinters.{IsRightOf}
use Rattle.sm_omega.proofs.RuleFour.{dark_items, SolvesFitting, by_both_right}

-- a solution came of items that all fit
solution_fits : (Can : Values → Type 0) (items : List Item) (answer : Answer) →
    Answers Can (λ (v : Values). ItemsHold v items × EachOf Fitting items) answer → SolvesFitting items answer
solution_fits Can items answer given c v e =
    (subst (Answers Can (λ (w : Values). ItemsHold w items × EachOf Fitting items)) e given).1

module _ (solve : Solver) (serves : Serves solve) (limit : ℕ) where
  -- what enters is decided rightly, and where there is a solution all of it fits
  solved_right : (s : ℕ) (items : List Item) (c : ℕ) → AreGoodItems s items →
      Answers (λ (v : Values). ItemsHold v items) (λ (v : Values). ItemsHold v items × EachOf Fitting items)
      (solved limit (solve s) items c)
  solved_right s items c good = by (entered limit items c) refl
    where
      by : (e : Entered) → entered limit items c ≡ e →
          Answers (λ (v : Values). ItemsHold v items) (λ (v : Values). ItemsHold v items × EachOf Fitting items)
          (go_on e (or_refuted (solve s)))
      by (Done n None) eq = λ v holds. entered_refutes v limit items c n eq holds
      by (Done n (Some fs)) eq =
          answers_less (λ (v : Values). AllHold v fs) (λ (v : Values). AllHold v fs) (λ (v : Values). ItemsHold v items)
          (λ (v : Values). ItemsHold v items × EachOf Fitting items) (solve s fs n)
          (decides_answers (λ (v : Values). AllHold v fs) (solve s fs n) (serves s fs n (entered_listed s limit items c n fs good eq)))
          (λ v holds. (entered_says v limit items c n fs eq).0 holds)
          (λ v all. ((entered_says v limit items c n fs eq).1 all, entered_fitting limit items c n fs eq))
      by Passed eq = tt
      by (Outside op y z) eq = tt
      by Shallow eq = tt

  -- the answer to good items decides what they say
  items_decided : (s : ℕ) (items : List Item) (c : ℕ) → AreGoodItems s items →
      Decides (λ (v : Values). ItemsHold v items) (solved limit (solve s) items c)
  items_decided s items c good =
      answers_decide (λ (v : Values). ItemsHold v items) (solved limit (solve s) items c)
      (answers_less (λ (v : Values). ItemsHold v items) (λ (v : Values). ItemsHold v items × EachOf Fitting items)
      (λ (v : Values). ItemsHold v items) (λ (v : Values). ItemsHold v items) (solved limit (solve s) items c)
      (solved_right s items c good) (λ v holds. holds) (λ v both. both.0))

  -- by an equation
  equation_right : (s : ℕ) (fs : List (Linear ℕ)) (c : ℕ) (e : Linear ℕ) (gs : List (Linear ℕ)) → AreListed s fs →
      first_equation fs ≡ Some (e, gs) → Decides (λ (v : Values). AllHold v fs) (by_equation limit solve s fs c e gs (least_part e.parts))
  equation_right s fs c e gs listed eq = by (nat_abs a == 1) refl
    where
      t : ℕ
      t = (least_part e.parts).0

      a : ℤ
      a = (least_part e.parts).1

      Meets : Values → Type 0
      Meets v = AllHold v fs

      d : Linear ℕ
      d = modular t a s e

      units : List Item
      units = map (eliminated_item e t) gs

      steps : List Item
      steps = map (modular_item d t) fs

      both : IsListed s e × AreListed s gs
      both = (found (IsListed s) fs e gs eq).apart listed

      least : IsPartOf s e.parts (least_part e.parts)
      least = least_is_part s e both.0

      part : (at t e ≡ a) × (at t e ≡ pos 0 → ⊥) × (has t e ≡ true)
      part = (least.1, λ (none : at t e ≡ pos 0). least.2 (sym least.1 ∙ none), has_part s e (least_part e.parts) least)

      below : t < s
      below = least.0

      by : (b : Bool) → (nat_abs a == 1) ≡ b → Decides Meets
          (if b then giving t (value_by t e) (solved limit (solve s) units c)
          else giving t (value_by t d) (solved limit (solve (suc s)) steps c))
      by true one =
          answers_decide Meets (giving t (value_by t e) (solved limit (solve s) units c))
          (giving_answers t (value_by t e) (λ (v : Values). ItemsHold v units) (λ (v : Values). ItemsHold v units × EachOf Fitting units)
          Meets Meets (solved limit (solve s) units c)
          (solved_right s units c (eliminated_items_good s e t gs both.0.good both.1))
          (λ v all none. none v (unit_forth v fs e gs t eq part.2 all))
          (λ v z is fits. unit_back v fs e gs t z eq part.2 (ap nat_abs part.0 ∙ eqb-true (nat_abs a) 1 one) is.1 is.0 fits))
      by false other =
          answers_decide Meets (giving t (value_by t d) (solved limit (solve (suc s)) steps c))
          (giving_answers t (value_by t d) (λ (v : Values). ItemsHold v steps) (λ (v : Values). ItemsHold v steps × EachOf Fitting steps)
          Meets Meets (solved limit (solve (suc s)) steps c)
          (solved_right (suc s) steps c (modular_items_good s d t fs (modular_good s t a e both.0.good) listed))
          (λ v all none. let w = modular_forth s v fs e gs t a eq listed below all in none w.0 w.1)
          (λ v z is fits. modular_back s v fs e gs t a z eq listed below part.1 is.1 is.0 fits))

  -- by a variable
  variable_right : (s : ℕ) (fs : List (Linear ℕ)) (c t : ℕ) → AreListed s fs → first_equation fs ≡ None →
      Decides (λ (v : Values). AllHold v fs) (by_variable limit (solve s) fs c t)
  variable_right s fs c t listed eq = by (lower_bounds t fs) (upper_bounds t fs) refl refl
    where
      Meets : Values → Type 0
      Meets v = AllHold v fs

      Continuation : Values → Type 0
      Continuation v = AllHold v (others t fs)

      les : NoEquations fs
      les = no_equations s fs eq listed

      rest : Answers Continuation Continuation (solve s (others t fs) c)
      rest = decides_answers Continuation (solve s (others t fs) c) (serves s (others t fs) c (each_others (IsListed s) t fs listed))

      forth : (v : Values) → Meets v → ((w : Values) → Continuation w → ⊥) → ⊥
      forth v all none = none v (others_hold t v fs all)

      splinters : (l : Linear ℕ) → IsListed s l → IsRightOf limit (solve s) fs l
      splinters l is =
          λ i n. items_decided s (standing fs ++ Count (splinter l i) ∷ []) n
          (each_append (IsGoodItem s) (standing fs) (Count (splinter l i) ∷ []) (standing_good s fs listed)
          (splinter_good s l i is.good, tt))

      by : (ls us : List (Linear ℕ)) → lower_bounds t fs ≡ ls → upper_bounds t fs ≡ us →
          Decides Meets (by_bounds limit (solve s) fs c t ls us)
      by ls [] lower upper =
          answers_decide Meets (giving t (greatest_bound t ls) (solve s (others t fs) c))
          (giving_answers t (greatest_bound t ls) Continuation Continuation Meets Meets (solve s (others t fs) c) rest forth
          (λ v z all fits. no_upper t fs v z les upper all (ap (λ (xs : List (Linear ℕ)). greatest_bound t xs v) lower ∙ fits)))
      by [] (u ∷ us) lower upper =
          answers_decide Meets (giving t (least_bound t (u ∷ us)) (solve s (others t fs) c))
          (giving_answers t (least_bound t (u ∷ us)) Continuation Continuation Meets Meets (solve s (others t fs) c) rest forth
          (λ v z all fits. no_lower t fs v z les lower all (ap (λ (xs : List (Linear ℕ)). least_bound t xs v) upper ∙ fits)))
      by (l ∷ ls) (u ∷ us) lower upper =
          let dark = dark_items t fs (l ∷ ls) (u ∷ us) in
          let lowers : AreListed s (l ∷ ls) = subst (AreListed s) lower (each_lower (IsListed s) t fs listed) in
          let uppers : AreListed s (u ∷ us) = subst (AreListed s) upper (each_upper (IsListed s) t fs listed) in
          let good : AreGoodItems s dark =
          each_append (IsGoodItem s) (standing (others t fs)) (shadows t (l ∷ ls) (u ∷ us))
          (standing_good s (others t fs) (each_others (IsListed s) t fs listed)) (shadows_good s t (l ∷ ls) (u ∷ us) lowers uppers) in
          by_both_right limit (solve s) fs t c l ls u us les lower upper (items_decided s dark c good)
          (solution_fits (λ (v : Values). ItemsHold v dark) dark (solved limit (solve s) dark c) (solved_right s dark c good))
          (each_weaker (IsListed s) (IsRightOf limit (solve s) fs) splinters (l ∷ ls) lowers)

  -- by the first rule that applies
  rule_right : Serves (by_rule limit solve)
  rule_right = λ s fs c listed. by s fs c listed (first_equation fs) refl
    where
      by_least_right : (s : ℕ) (fs : List (Linear ℕ)) (c : ℕ) → AreListed s fs → first_equation fs ≡ None → (least : Option ℕ) →
          least_variable fs ≡ least → Decides (λ (v : Values). AllHold v fs) (by_least limit (solve s) fs c least)
      by_least_right s fs c listed none None eq = subst (AllHold (λ (a : ℕ). pos 0)) (sym (least_none s fs listed eq)) tt
      by_least_right s fs c listed none (Some t) eq = variable_right s fs c t listed none

      by : (s : ℕ) (fs : List (Linear ℕ)) (c : ℕ) → AreListed s fs → (first : Option (Linear ℕ × List (Linear ℕ))) →
          first_equation fs ≡ first → Decides (λ (v : Values). AllHold v fs) (by_first limit solve s fs c first)
      by s fs c listed None eq = by_least_right s fs c listed eq (least_variable fs) refl
      by s fs c listed (Some (e, gs)) eq = equation_right s fs c e gs listed eq

-- in whatever depth
within_right : (limit depth : ℕ) → Serves (solved_within limit depth)
within_right limit zero = λ s fs c listed. tt
within_right limit (suc depth) = λ s fs c listed. rule_right (solved_within limit depth) (within_right limit depth) limit s fs c listed

-- forms that are given say what their items say
given_hold : (v : Values) (fs : List (Linear ℕ)) → AllHold v fs → ItemsHold v (map Enter fs)
given_hold v [] all = tt
given_hold v (f ∷ fs) all = (all.0, given_hold v fs all.1)

hold_given : (v : Values) (fs : List (Linear ℕ)) → ItemsHold v (map Enter fs) → AllHold v fs
hold_given v [] holds = tt
hold_given v (f ∷ fs) holds = (holds.0, hold_given v fs holds.1)

-- an answer that decides is right
right_for : (fs : List (Linear ℕ)) (answer : Answer) → Decides (λ (v : Values). AllHold v fs) answer → IsRightFor fs answer
right_for fs (Done c None) given = given
right_for fs (Done c (Some v)) given = given
right_for fs Passed given = tt
right_for fs (Outside op y z) given = tt
right_for fs Shallow given = tt

-- the decision is right
pub exact_right : ExactIsRight
unfolding exact
exact_right fs limit kept =
    let solve = solved_within limit (enough limit fs) in
    let answer = solved limit (solve (above_all fs)) (map Enter fs) 0 in
    right_for fs answer
    (answers_decide (λ (v : Values). AllHold v fs) answer
    (answers_less (λ (v : Values). ItemsHold v (map Enter fs)) (λ (v : Values). ItemsHold v (map Enter fs))
    (λ (v : Values). AllHold v fs) (λ (v : Values). AllHold v fs) answer
    (decides_answers (λ (v : Values). ItemsHold v (map Enter fs)) answer
    (items_decided solve (within_right limit (enough limit fs)) limit (above_all fs) (map Enter fs) 0 (given_good fs kept)))
    (λ v all. given_hold v fs all) (λ v holds. hold_given v fs holds)))
