-- A node over a table that has got more terms.
use Rattle.sm_solve.proofs.Imports.{IfSome, List, [], ◌∷◌, ◌++◌, length, sym, ap, ◌∙◌, subst, arith, length-append, Sorts, Assertion, NumberedFormula, assertion_in, IsFormulaWithin, AreFormsSorted, TableValue, trees_in, sorts_in, AreApart, AddsTerms, Tree, assertion-more, FactBase, SharedTerms, with_formulas, all_numbered, assertions_in, AreFormulasWithin, AreShared, IsFactBase, room_for_goal, IsInconsistent, below_grown, same_grown, facts_grown}
use Rattle.sm_term.specs.Assertions.{Yes}
use Rattle.sm_list.proofs.SharedLemmas.{placed_grown}

-- the terms in a table of their own are still those of a table that has got more
pub shared_grown : (old new : TableValue) (terms : List Tree) (s : SharedTerms) → AddsTerms old new → AreApart (trees_in new) →
    AreShared old terms s → AreShared new terms s
shared_grown old new terms s grows apart is =
    let long = length-append (trees_in old) grows.trees.0 in
    let all = ap length grows.trees.1 in
    let count = is.count in
    record {
      sorts = is.sorts ∙ sym grows.sorts;
      codes = is.codes ∙ sym grows.codes;
      own = is.own;
      listed = same_grown (trees_in old) (trees_in new) grows.trees s.listed is.below ∙ is.listed;
      below = below_grown (trees_in old) (trees_in new) grows.trees s.listed is.below;
      closed = is.closed;
      built = is.built;
      count = omega arith;
      placed = placed_grown (trees_in old) (trees_in new) terms s.numbers.items s.listed grows.trees apart is.below is.listed is.placed;
    }

-- a node of a table is still one of a table that has got more
pub node_grown : (old new : TableValue) (given : List Assertion) (n : FactBase) → AddsTerms old new → AreApart (trees_in new) →
    IsFactBase old given n → IsFactBase new given n
node_grown old new given n grows apart is = record {
  shared = shared_grown old new (with_formulas (room_for_goal given) []) n.terms grows apart is.shared;
  forms = is.forms;
  unread = is.unread;
  facts = ap (λ (s : Sorts). assertions_in s (trees_in n.terms.own) (all_numbered n.facts.items)) grows.sorts ∙ is.facts;
  within = is.within;
  place = is.place;
  sorted = subst (λ (s : Sorts). AreFormsSorted s given) (sym grows.sorts) is.sorted;
  grounded = is.grounded;
  inconsistent =
      let terms = with_formulas (room_for_goal given) [] in
      subst (λ (s : Sorts). IfSome n.inconsistent (IsInconsistent s terms (given ++ Yes ∷ []))) (sym grows.sorts) is.inconsistent;
}

-- what is so of facts and a target over a table is so over one that has got more terms, and back
pub moved_on : (old new : TableValue) → AddsTerms old new → (fs : List NumberedFormula) → AreFormulasWithin (length (trees_in old)) fs →
    (f : NumberedFormula) → IsFormulaWithin (length (trees_in old)) f → (P : Sorts → List Assertion → Assertion → Type 0) →
    P (sorts_in old) (assertions_in (sorts_in old) (trees_in old) fs) (assertion_in (sorts_in old) (trees_in old) f) →
    P (sorts_in new) (assertions_in (sorts_in new) (trees_in new) fs) (assertion_in (sorts_in new) (trees_in new) f)
moved_on old new grows fs within f one P h =
    let given = facts_grown old new grows fs within in
    let goal = assertion-more old new grows f one in
    let now = assertions_in (sorts_in new) (trees_in new) fs in
    subst (P (sorts_in new) now) (sym goal)
    (subst (λ (gs : List Assertion). P (sorts_in new) gs (assertion_in (sorts_in old) (trees_in old) f)) (sym given)
    (subst (λ (s : Sorts). P s (assertions_in (sorts_in old) (trees_in old) fs) (assertion_in (sorts_in old) (trees_in old) f)) (sym grows.sorts) h))

pub moved_back : (old new : TableValue) → AddsTerms old new → (fs : List NumberedFormula) → AreFormulasWithin (length (trees_in old)) fs →
    (f : NumberedFormula) → IsFormulaWithin (length (trees_in old)) f → (P : Sorts → List Assertion → Assertion → Type 0) →
    P (sorts_in new) (assertions_in (sorts_in new) (trees_in new) fs) (assertion_in (sorts_in new) (trees_in new) f) →
    P (sorts_in old) (assertions_in (sorts_in old) (trees_in old) fs) (assertion_in (sorts_in old) (trees_in old) f)
moved_back old new grows fs within f one P h =
    let given = facts_grown old new grows fs within in
    let goal = assertion-more old new grows f one in
    let now = assertions_in (sorts_in new) (trees_in new) fs in
    subst (λ (s : Sorts). P s (assertions_in (sorts_in old) (trees_in old) fs) (assertion_in (sorts_in old) (trees_in old) f)) grows.sorts
    (subst (λ (gs : List Assertion). P (sorts_in new) gs (assertion_in (sorts_in old) (trees_in old) f)) given
    (subst (P (sorts_in new) now) goal h))
