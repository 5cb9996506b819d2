-- Cited by public clauses: a plan with its certificates, all of which can be written.
use Rattle.std.specs.Prelude.{◌≡◌, length, map}
use Rattle.sm_syntax.specs.text.Parts.{Parts, sort_of}
use Rattle.sm_term.specs.Tables.{trees_in, sorts_in}
use Rattle.sm_cert.specs.Views.{certificate_in}
use Rattle.sm_expand.specs.NumberedPlans.{IsPlanReady}
use Rattle.sm_expand.specs.Views.{numbered_plan, plan_in}
use Rattle.sm_write.specs.TreesWithin.{AreTreesWithin}
use Rattle.sm_write.specs.Writable.{IsWritable}
use Rattle.sm_goals.specs.declared.proof.Proof.{Proof}

-- a plan of a task over a table of its declarations, which can be written with its certificates
pub record IsWhole (t : Parts) (p : Proof) : Type 0 where
  pub declared : sorts_in p.table ≡ sort_of t.declared
  pub ready : IsPlanReady (sorts_in p.table) (trees_in p.table) (numbered_plan p.plan)
  pub within : AreTreesWithin (length (trees_in p.table)) p.trees.list.items
  pub writable : IsWritable t (plan_in (sorts_in p.table) (trees_in p.table) p.plan)
      (map (certificate_in (trees_in p.table)) p.trees.list.items)
