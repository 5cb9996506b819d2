-- Cited by public clauses: the facts of a node, whose terms and classes its goals share.
use Rattle.std.specs.Prelude.{◌≡◌, IfSome, List, [], ◌∷◌, ◌++◌, length}
use Rattle.std.specs.List.{range_with_len}
use Rattle.sm_term.specs.Assertions.{Assertion, Yes}
use Rattle.sm_term.specs.Sorted.{AreFormsSorted}
use Rattle.sm_term.specs.Tables.{TableValue, trees_in, sorts_in, codes_in}
use Rattle.sm_term.specs.declared.term.TermId.{TermId}
use Rattle.sm_solve.specs.declared.fact_base.FactBase.{FactBase}
use Rattle.sm_judge.specs.AllForms.{AreAllForms}
use Rattle.sm_certify.specs.Bases.{IsFrom}
use Rattle.sm_theory.specs.TermsOfFormulas.{with_formulas}
use Rattle.sm_list.specs.Branches.{with_parts, terms_of}
use Rattle.sm_certify.specs.Given.{IsWhole, classes_by}
use Rattle.sm_terms.specs.Listing.{numbers_of}
use Rattle.sm_list.specs.Parts.{all_numbered, assertions_in, AreFormulasWithin}
use Rattle.sm_solve.specs.Inconsistent.{IsInconsistent}
use Rattle.sm_list.specs.Shared.{AreShared}

-- the facts of a node with the place where the contrary of a goal stands, and all parts
abbrev pub room_for_goal : List Assertion → List Assertion
room_for_goal given = with_parts (given ++ Yes ∷ [])

-- the classes of the facts of a node, by the numbers of a table of their terms
pub record AreGrounded (own : TableValue) (n : FactBase) : Type 0 where
  pub table : TableValue
  pub sorts : sorts_in own ≡ sorts_in table
  pub codes : codes_in own ≡ codes_in table
  pub trees : trees_in own ≡ trees_in table
  pub ids : List TermId
  pub whole : IsWhole (trees_in table) ids
  pub counted : numbers_of ids ≡ range_with_len 0 (length (trees_in table))
  pub ground : IsFrom (classes_by table ids n.facts.items) n.base

-- a node has these facts; no element that they read was written before
pub record IsFactBase (table : TableValue) (given : List Assertion) (n : FactBase) : Type 0 where
  pub shared : AreShared table (with_formulas (room_for_goal given) []) n.terms
  pub forms : AreAllForms (trees_in n.terms.own) n.forms.items
  pub unread : terms_of (room_for_goal given) ≡ with_formulas (room_for_goal given) []
  pub facts :
      assertions_in (sorts_in table) (trees_in n.terms.own) (all_numbered n.facts.items)
      ≡ room_for_goal given
  pub within : AreFormulasWithin (length (trees_in n.terms.own)) (all_numbered n.facts.items)
  pub place : n.place ≡ length given
  pub sorted : AreFormsSorted (sorts_in table) given
  pub grounded : AreGrounded n.terms.own n
  pub inconsistent :
      let terms = with_formulas (room_for_goal given) [] in
      IfSome n.inconsistent (IsInconsistent (sorts_in table) terms (given ++ Yes ∷ []))
