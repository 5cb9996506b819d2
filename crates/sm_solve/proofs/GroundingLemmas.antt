-- What a node is made of: the facts with room for a goal, over a table of their terms.
use Rattle.sm_solve.proofs.Imports.{◌≡◌, ℕ, None, Option, IfSome, List, [], ◌∷◌, ◌++◌, length, refl, sym, ap, ◌∙◌, subst, map-append, length-map, range_with_len, Sorts, Tree, Assertion, NumberedFormula, numbered, assertion_in, Formula, AreFormsSorted, TableValue, trees_in, sorts_in, TermId, FactBase, Inconsistent, AreAllForms, IsFrom, with_formulas, terms_of, IsWhole, classes_by, numbers_of, all_numbered, assertions_in, AreFormulasWithin, AreShared, IsFactBase, room_for_goal, IsInconsistent, forms_append}
use Rattle.sm_term.specs.declared.formula.Formula.TheVariants as tree
use Rattle.sm_term.specs.Assertions.{Yes}
use Rattle.sm_term.specs.Formulas as number
use Rattle.sm_solve.proofs.NodeLemmas.{unread}
use Rattle.sm_list.proofs.PartsLemmas.{within-append}
use Rattle.sm_solve.proofs.SortedLemmas.{sorted_with}

-- facts and what always holds
numbers_are : (facts list all : List Formula) → all ≡ list ++ tree.Yes ∷ [] → all_numbered list ≡ all_numbered facts →
    all_numbered all ≡ all_numbered facts ++ number.Yes ∷ []
numbers_are facts list all are same =
    ap all_numbered are ∙ map-append numbered list (tree.Yes ∷ []) ∙ ap (λ (fs : List NumberedFormula). fs ++ number.Yes ∷ []) same

pub room_is : (sorts : Sorts) (trees : List Tree) (facts list all : List Formula) → all ≡ list ++ tree.Yes ∷ [] →
    all_numbered list ≡ all_numbered facts →
    assertions_in sorts trees (all_numbered all) ≡ assertions_in sorts trees (all_numbered facts) ++ Yes ∷ []
room_is sorts trees facts list all are same =
    ap (assertions_in sorts trees) (numbers_are facts list all are same)
    ∙ map-append (assertion_in sorts trees) (all_numbered facts) (number.Yes ∷ [])

pub room_within : (count : ℕ) (facts list all : List Formula) → all ≡ list ++ tree.Yes ∷ [] → all_numbered list ≡ all_numbered facts →
    AreFormulasWithin count (all_numbered facts) → AreFormulasWithin count (all_numbered all)
room_within count facts list all are same within =
    subst (AreFormulasWithin count) (sym (numbers_are facts list all are same))
    (within-append count (all_numbered facts) (number.Yes ∷ []) within (tt, tt))

-- they are sorted with all their parts
pub room_sorted : (sorts : Sorts) (given : List Assertion) → AreFormsSorted sorts given → AreFormsSorted sorts (room_for_goal given)
room_sorted sorts given h = sorted_with sorts (given ++ Yes ∷ []) (forms_append sorts given (Yes ∷ []) h (tt, tt))

-- as many as the facts
pub as_many : (sorts : Sorts) (trees : List Tree) (facts : List Formula) →
    length facts ≡ length (assertions_in sorts trees (all_numbered facts))
as_many sorts trees facts = sym (length-map (all_numbered facts) (assertion_in sorts trees) ∙ length-map facts numbered)

-- facts over a table of their own, in which no more terms stand than they name, with their classes
pub node_of : (table new : TableValue) (given first second : List Assertion) (n : FactBase) → sorts_in new ≡ sorts_in table →
    first ≡ room_for_goal given → second ≡ room_for_goal given → AreShared new (terms_of second) n.terms →
    AreAllForms (trees_in n.terms.own) n.forms.items → length (trees_in n.terms.own) ≡ length (with_formulas first []) →
    assertions_in (sorts_in table) (trees_in n.terms.own) (all_numbered n.facts.items) ≡ second →
    AreFormulasWithin (length (trees_in n.terms.own)) (all_numbered n.facts.items) → n.place ≡ length given →
    AreFormsSorted (sorts_in table) given → (ids : List TermId) → IsWhole (trees_in n.terms.own) ids →
    numbers_of ids ≡ range_with_len 0 (length (trees_in n.terms.own)) →
    IsFrom (classes_by n.terms.own ids n.facts.items) n.base → n.inconsistent ≡ None → IsFactBase new given n
node_of table new given first second n sorts one two shared forms count facts within place sorted ids whole counted ground none_inconsistent =
    let own = trees_in n.terms.own in
    let room = room_for_goal given in
    let many : length (terms_of room) ≡ length (with_formulas room []) =
    ap (λ (fs : List Assertion). length (terms_of fs)) (sym two) ∙ sym (ap length shared.own) ∙ count
    ∙ ap (λ (fs : List Assertion). length (with_formulas fs [])) one in
    let none = unread room many in
    record {
      shared = subst (λ (ts : List Tree). AreShared new ts n.terms) (ap terms_of two ∙ none) shared;
      forms = forms;
      unread = none;
      facts = ap (λ (s : Sorts). assertions_in s own (all_numbered n.facts.items)) sorts ∙ facts ∙ two;
      within = within;
      place = place;
      sorted = subst (λ (s : Sorts). AreFormsSorted s given) (sym sorts) sorted;
      grounded = record {
        table = n.terms.own;
        sorts = refl;
        codes = refl;
        trees = refl;
        ids = ids;
        whole = whole;
        counted = counted;
        ground = ground;
      };
      inconsistent =
          subst (λ (o : Option Inconsistent). IfSome o (IsInconsistent (sorts_in new) (with_formulas room []) (given ++ Yes ∷ []))) (sym none_inconsistent) tt;
    }
