use Rattle.sm_houdini.proofs.Imports.{◌+◌, ap, ◌∙◌, length, length-append}
use Rattle.sm_houdini.proofs.KnownLemmas.{flags_put}
use Rattle.sm_houdini.proofs.known.flags_of.Goals as goal

pub loop-at-preserved : goal.loop-at-preserved
loop-at-preserved c =
    let inv = c.loop-at.invariant in
    record {
      count = ap length c.in_ok-push.ensures.items ∙ length-append c.loop-at.flags.items _ ∙ ap (λ n. n + 1) inv.count;
      known = λ v reach asked.
          flags_put v reach c.args.dues.now c.push.new.self.items c.loop-at.flags.items c.loop-at.at c.is_known.result c.index-dues-at.result
          c.in_ok-push.ensures.items inv.count c.index-dues-at.is (c.is_known.ensures v reach asked) (inv.known v reach asked);
    }
