-- What is tested is what a proof must have.
use Rattle.sm_deeper.proofs.Imports.{List, length, map, subst, ◌∙◌, trees_in, sorts_in, plan_in}
use Rattle.sm_cert.specs.Views.{certificate_in}
use Rattle.sm_cert.specs.declared.tree.CertTree.{CertTree}
use Rattle.sm_text.specs.Tasks.{parts_of}
use Rattle.sm_write.specs.TreesWithin.{AreTreesWithin}
use Rattle.sm_write.specs.Writable.{IsWritable}
use Rattle.sm_deeper.proofs.attempt.audited.Goals as goal

pub returns-then-is_whole : goal.returns-then-is_whole
returns-then-is_whole c =
    let w = c.is_writable.new.table in
    let trees = trees_in w in
    let t = parts_of c.args.subject.now.task.now in
    let tells = c.in_ok-is_whole.ensures in
    let good = c.if-is_whole.true in
    record {
      declared = tells.widens.sorts ∙ c.requires.declared;
      ready = tells.plan good;
      within = subst (AreTreesWithin (length trees)) c.deref.ensures.value (tells.trees good);
      writable = subst (λ (ts : List CertTree). IsWritable t (plan_in (sorts_in w) trees c.args.proof.plan) (map (certificate_in trees) ts))
          c.deref.ensures.value (tells.writable good);
    }
