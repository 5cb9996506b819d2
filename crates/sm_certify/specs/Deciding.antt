-- Private: how far the certificate of a decision is written.
use Rattle.std.specs.Prelude.{◌≡◌, ℕ, ◌≤◌, Some, None, List, ◌++◌, map, length}
use Rattle.std.specs.List.{filter_map}
use Rattle.sm_num.specs.Forms.{Linear}
use Rattle.sm_omega.specs.Counting.{Done}
use Rattle.sm_omega.specs.Exact.{exact}
use Rattle.sm_term.specs.Terms.{Tree}
use Rattle.sm_theory.specs.ExactLine.{forms_by_places}
use Rattle.sm_theory.specs.Facts.{BranchFact, as_facts}
use Rattle.sm_theory.specs.Lines.{formula_in, form_in}
use Rattle.sm_theory.specs.TermsOfFormulas.{all_terms}
use Rattle.sm_theory.specs.Views.{line_in}
use Rattle.sm_theory.specs.declared.line.CertLine.{CertLine}
use Rattle.sm_cc.specs.Explained.{added_by}
use Rattle.sm_cert.specs.Views.{AreLinesWithin}
use Rattle.sm_judge.specs.Holding.{Seen}
use Rattle.sm_judge.specs.Refutations.{AreSources}
use Rattle.sm_judge.specs.declared.forms.Source.{Source}

-- with what lines add to the facts of a branch, the formulas have these terms, in order, and the
-- linear facts are these forms, in order
pub record StandInOrder (b : Seen) (terms : List Tree) (lines : List CertLine)
    (forms : List (Linear ℕ)) : Type 0 where
  pub within : AreLinesWithin (length b.terms) lines
  pub more : List BranchFact
  pub added : added_by b.sorts (as_facts b.facts) (map (line_in b.terms) lines) ≡ Some more
  pub named : all_terms (filter_map formula_in (as_facts b.facts ++ more)) ≡ terms
  pub placed :
      forms_by_places b.terms (filter_map form_in (as_facts b.facts ++ more)) ≡ Some forms

-- lines are written whose forms, with those of the sources that are left, have no solution
pub record Decides (b : Seen) (lines : List CertLine) (sources : List Source) (count : ℕ) :
    Type 0 where
  pub made : List (Linear ℕ)
  pub left : List (Linear ℕ)
  pub written : StandInOrder b b.terms lines made
  pub from : AreSources b sources left
  pub decided : exact (made ++ left) count ≡ Done count None
  pub few : count ≤ 1000000
