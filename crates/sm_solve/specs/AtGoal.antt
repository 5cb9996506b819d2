-- Private: a node at which the contrary of a goal stands in its place.
use Rattle.std.specs.Prelude.{◌≡◌, ◌⊎◌, ◌+◌, ◌<◌, IfSome, List, [], ◌∷◌, ◌++◌, length, take, slice_set}
use Rattle.std.specs.List.{range_with_len}
use Rattle.sm_term.specs.declared.formula.Formula.{Formula}
use Rattle.sm_term.specs.declared.formula.Formula.TheVariants as tree
use Rattle.sm_term.specs.Assertions.{Assertion, Yes}
use Rattle.sm_term.specs.Sorted.{AreFormsSorted, IsFormSorted}
use Rattle.sm_term.specs.Terms.{Tree}
use Rattle.sm_term.specs.Tables.{TableValue, trees_in, sorts_in, codes_in}
use Rattle.sm_term.specs.declared.term.TermId.{TermId}
use Rattle.sm_solve.specs.declared.fact_base.FactBase.{FactBase}
use Rattle.sm_judge.specs.AllForms.{AreAllForms}
use Rattle.sm_certify.specs.Bases.{IsFrom}
use Rattle.sm_theory.specs.TermsOfFormulas.{with_formulas}
use Rattle.sm_list.specs.Branches.{depth_of, with_parts, terms_of}
use Rattle.sm_certify.specs.Given.{IsWhole, classes_by}
use Rattle.sm_terms.specs.Listing.{numbers_of}
use Rattle.sm_list.specs.Parts.{all_numbered, assertions_in, AreFormulasWithin}
use Rattle.sm_list.specs.Shared.{AreShared}
use Rattle.sm_solve.specs.Sharing.{room_for_goal}
use Rattle.sm_solve.specs.Inconsistent.{IsInconsistent}

-- the contrary of a goal can stand in its place with no fact at another: it has no parts, or none of
-- a fact stand behind that place
abbrev pub HasRoom : FactBase → Assertion → Type 0
HasRoom n contrary = (depth_of contrary ≡ 0) ⊎ (length n.facts.items ≡ n.place + 1)

-- the facts of a node without the contrary of a goal and its parts
abbrev pub facts_without : List Assertion → FactBase → List Formula
facts_without given n =
    slice_set (take (length (room_for_goal given)) n.facts.items) n.place tree.Yes

-- the classes of these facts, by the numbers of a table of their terms alone
pub record AreGroundedBelow (own : TableValue) (given : List Assertion) (n : FactBase) : Type 0 where
  pub table : TableValue
  pub sorts : sorts_in own ≡ sorts_in table
  pub codes : codes_in own ≡ codes_in table
  pub trees : trees_in table ≡ with_formulas (room_for_goal given) []
  pub ids : List TermId
  pub whole : IsWhole (trees_in table) ids
  pub counted : numbers_of ids ≡ range_with_len 0 (length (trees_in table))
  pub ground : IsFrom (classes_by table ids (facts_without given n)) n.base

-- a node has these facts and the contrary of a goal
pub record IsAtGoal (table : TableValue) (given : List Assertion) (contrary : Assertion) (n : FactBase)
    : Type 0 where
  pub more : List Tree
  pub shared : AreShared table (with_formulas (room_for_goal given) [] ++ more) n.terms
  pub forms : AreAllForms (trees_in n.terms.own) n.forms.items
  pub first_forms :
      let terms = with_formulas (room_for_goal given) [] in
      AreAllForms terms (take (length terms) n.forms.items)
  pub unread : terms_of (room_for_goal given) ≡ with_formulas (room_for_goal given) []
  pub terms :
      with_formulas (room_for_goal given) [] ++ more ≡ terms_of (with_parts (given ++ contrary ∷ []))
  pub facts :
      assertions_in (sorts_in table) (trees_in n.terms.own) (all_numbered n.facts.items)
      ≡ with_parts (given ++ contrary ∷ [])
  pub within : AreFormulasWithin (length (trees_in n.terms.own)) (all_numbered n.facts.items)
  pub without :
      let terms = with_formulas (room_for_goal given) [] in
      let facts = all_numbered (facts_without given n) in
      (assertions_in (sorts_in table) terms facts ≡ room_for_goal given)
      × AreFormulasWithin (length terms) facts
  pub place : n.place ≡ length given
  pub there : n.place < length (facts_without given n)
  pub sorted : AreFormsSorted (sorts_in table) given
  pub contrary_sorted : IsFormSorted (sorts_in table) contrary
  pub grounded : AreGroundedBelow n.terms.own given n
  pub inconsistent :
      let terms = with_formulas (room_for_goal given) [] in
      IfSome n.inconsistent (IsInconsistent (sorts_in table) terms (given ++ Yes ∷ []))
