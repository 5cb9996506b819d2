use Rattle.sm_batch.proofs.Imports.{◌∙◌, ℕ, List, sym, subst, Step, IsPutOrNot, ArePutOrNot, entries_of}
use Rattle.sm_batch.proofs.settling.put_all.Goals as goal

pub loop-step-preserved : goal.loop-step-preserved
loop-step-preserved c =
    let old = entries_of c.loop-step.cache.entries in
    let new = entries_of c.put.new.cache.entries in (
      λ after more.
          c.loop-step.invariant.0 after
          (subst (λ (l : List Step). ArePutOrNot c.args.cache.now.cap l old after) (sym c.in-Some.ensures.steps.0)
          (new, subst (λ (n : ℕ). IsPutOrNot n c.in-Some.step old new) c.loop-step.invariant.1 c.put.ensures.entries, more)),
      c.put.ensures.capacity ∙ c.loop-step.invariant.1,
    )
