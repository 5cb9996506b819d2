use Rattle.sm_houdini.proofs.Imports.{◌≤◌, List, length, ap, ◌∙◌, arith, take_all, certificate_in, CertTree}
use Rattle.std.proofs.Common.{map}
use Rattle.sm_houdini.proofs.EndJobsLemmas.{tree_within, tree_more, within_more}
use Rattle.sm_houdini.proofs.end_jobs.renumbered_trees.Goals as goal

pub loop-tree-preserved : goal.loop-tree-preserved
loop-tree-preserved c =
    let all = c.args.certificates.now in
    let i = c.loop-tree.tree-index in
    let t = c.tree-item.result in
    record {
      same = λ trees others terms there.
          tree_more trees others all c.loop-tree.list.items c.push.new.self.items i t c.in_ok-other.other c.loop-tree-test.true
          c.tree-item.is
          c.in_ok-push.ensures.items
          (c.in_ok-other.ensures.same trees others terms (tree_within (length trees) all i t there c.loop-tree-test.true c.tree-item.is))
          (c.loop-tree.invariant.same trees others terms there);
      within = λ trees others terms there.
          within_more (length others) c.loop-tree.list.items c.push.new.self.items c.in_ok-other.other c.in_ok-push.ensures.items
          (c.loop-tree.invariant.within trees others terms there)
          (c.in_ok-other.ensures.within trees others terms (tree_within (length trees) all i t there c.loop-tree-test.true c.tree-item.is));
    }

pub returns-clause-same : goal.returns-clause-same
returns-clause-same c = λ trees others terms there.
    let past : length c.args.certificates.now ≤ c.loop-tree.tree-index = omega arith in
    c.loop-tree.invariant.same trees others terms there
    ∙ ap (λ (cs : List CertTree). map (certificate_in trees) cs) (take_all c.loop-tree.tree-index c.args.certificates.now past)
