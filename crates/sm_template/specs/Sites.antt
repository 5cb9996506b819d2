-- Cited by public clauses: what templates need of a task.
use Rattle.std.specs.Prelude.{◌≡◌, ℕ}
use Rattle.sm_syntax.specs.Assigns.{assigns}
use Rattle.sm_syntax.specs.claim.ConflictFree.{Copy}
use Rattle.sm_syntax.specs.claim.Syntax.{Code}
use Rattle.sm_syntax.specs.declared.program.Outputs.{Outputs}
use Rattle.sm_syntax.specs.text.Conditions.{is_in}
use Rattle.sm_syntax.specs.text.Parts.{Parts, sort_of}
use Rattle.sm_syntax.specs.text.Sorts.{Sorts}
use Rattle.sm_syntax.specs.trees.Copies.{of_copy}
use Rattle.sm_syntax.specs.declared.copies.PerCopy.{PerCopy}
use Rattle.sm_syntax.specs.trees.Programs.{declared_of, outputs_of}
use Rattle.sm_plan.specs.Starts.{AreNumbered}
use Rattle.sm_template.specs.declared.site.SiteContext.{SiteContext}
use Rattle.sm_template.specs.Literals.{literals_of}

-- these are a task's declarations, and the first literals of its fillings
pub record IsSiteOf (t : Parts) (site : SiteContext) : Type 0 where
  pub declared : declared_of site.decls.now ≡ t.declared
  pub literals : site.literals.items ≡ literals_of t

-- names are declared by number, with the sorts of a table
pub record IsSiteReady (sorts : Sorts) (site : SiteContext) : Type 0 where
  pub as_declared : sorts ≡ sort_of (declared_of site.decls.now)
  pub numbered : AreNumbered (declared_of site.decls.now)

-- the lists have the names that the code of each copy writes
abbrev pub AreWrites : (Copy → Code) → PerCopy Outputs → Type 0
AreWrites code written =
    (c : Copy) (x : ℕ) → is_in (outputs_of (of_copy written c)) x ≡ assigns (code c) x
