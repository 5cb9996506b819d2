-- Cited by public clauses: what is seen on a branch of the program, and what it is split by.
use Rattle.std.specs.Prelude.{ℕ, Bool, true, false, ◌||◌, if◌then◌else◌, Option, Some, None, List, [], ◌∷◌}
use Rattle.sm_syntax.specs.text.Sorts.{Sorts}
use Rattle.sm_syntax.specs.declared.tree.Sort.TheVariants.{Num}
use Rattle.sm_term.specs.Terms.{Tree}
use Rattle.sm_term.specs.Assertions as plain
use Rattle.sm_term.specs.Formulas.{NumberedFormula, Yes, No, Eq, Ne, Le, Lt, And, Or, numbered, assertion_in, IsFormulaWithin}
use Rattle.sm_term.specs.declared.formula.Formula.{Formula}
use Rattle.sm_pairs.specs.Pairs.{Pairs}
use Rattle.sm_theory.specs.Elements.{Written, written_in}
use Rattle.sm_theory.specs.Lines.{followed}
use Rattle.sm_judge.specs.Holding.{Seen, Split}
use Rattle.sm_list.specs.Parts.{all_numbered, assertions_in}

-- what is seen on a branch with these formulas, where it is told which terms are equal and apart
abbrev pub seen_in : Sorts → List Tree → List Tree → List Formula → Pairs → Pairs → Seen
seen_in sorts trees terms facts equal apart = record {
  sorts = sorts;
  facts = assertions_in sorts trees (all_numbered facts);
  terms = terms;
  equal = equal;
  apart = apart;
}

-- the split that two formulas of the program stand for
abbrev pub split_in : Sorts → List Tree → Option (Formula × Formula) → Option Split
split_in sorts trees None = None
split_in sorts trees (Some p) =
    Some (assertion_in sorts trees (numbered p.0), assertion_in sorts trees (numbered p.1))

-- its terms are in a table of `count` terms
abbrev pub IsSplitWithin : ℕ → Option (Formula × Formula) → Type 0
IsSplitWithin count None = Unit {0}
IsSplitWithin count (Some p) =
    IsFormulaWithin count (numbered p.0) × IsFormulaWithin count (numbered p.1)

-- by which indices a branch is split, where an element of an array is read at an index
abbrev pub split_under : Seen → Tree → Tree → Option Split
split_under b a j =
    followed (written_in a) (λ (w : Written).
    if b.equal w.index j || b.apart w.index j then None
    else Some (plain.Eq Num w.index j, plain.Ne Num w.index j))

-- whether a formula is a disjunction
abbrev pub is_disjunction : NumberedFormula → Bool
is_disjunction Yes = false
is_disjunction No = false
is_disjunction (Eq t u) = false
is_disjunction (Ne t u) = false
is_disjunction (Le t u) = false
is_disjunction (Lt t u) = false
is_disjunction (And p q) = false
is_disjunction (Or p q) = true

-- the two parts of a disjunction
abbrev pub disjuncts_of : NumberedFormula → List NumberedFormula
disjuncts_of Yes = []
disjuncts_of No = []
disjuncts_of (Eq t u) = []
disjuncts_of (Ne t u) = []
disjuncts_of (Le t u) = []
disjuncts_of (Lt t u) = []
disjuncts_of (And p q) = []
disjuncts_of (Or p q) = p ∷ q ∷ []
