use Rattle.sm_houdini.proofs.Imports.{◌∙◌, subst, length, task_of, Sorts, trees_in, sorts_in, certificate_in, numbered_plan, plan_in, Copy, of_copy, code_of, IsShown}
use Rattle.std.proofs.Common.{map}
use Rattle.sm_text.specs.Tasks.{parts_of}
use Rattle.sm_houdini.proofs.ReadyWhole.{whole_ready}
use Rattle.sm_product.proofs.TaskParts.{has_parts}
use Rattle.sm_houdini.proofs.UnnamedLines.{unnamed_within}
use Rattle.sm_houdini.proofs.WholeProofs.{whole_writable}
use Rattle.sm_houdini.proofs.searching.whole_proof.Goals as goal

pub returns : goal.returns
returns c =
    let v = c.whole_plan.new.table in
    let task = c.args.task.now in
    let t = parts_of task in
    let r = c.in_ok-plan in
    let declared = r.ensures.widens.sorts ∙ c.in_ok-table.ensures.sorts in
    let cs = map (certificate_in (trees_in v)) r.trees.list.items in
    record {
      whole = record {
        declared = declared;
        ready = whole_ready (sorts_in v) (trees_in v) (numbered_plan r.plan) (λ (k : Copy). code_of (of_copy c.args.programs.now k))
            (r.ensures.plan (sorts_in v) (trees_in v));
        within = unnamed_within (length (trees_in v)) (trees_in v) r.trees.list.items (r.ensures.unnamed (trees_in v));
        writable = whole_writable t (plan_in (sorts_in v) (trees_in v) r.plan) cs _
            (subst (λ (s : Sorts). IsShown s (task_of t) (plan_in (sorts_in v) (trees_in v) r.plan) cs) declared
            (r.ensures.shown (task_of t)
            (has_parts task c.args.programs.now c.as_ref-assumed.result c.requires.filled c.as_ref-assumed.ensures.value) (sorts_in v) (trees_in v)))
            (r.ensures.kept (sorts_in v) (trees_in v)) (r.ensures.unnamed (trees_in v)) (r.ensures.few (trees_in v));
      };
    }
