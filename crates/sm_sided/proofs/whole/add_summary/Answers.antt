-- The block has statements.
use Rattle.sm_sided.proofs.Imports.{◌≡◌, ◌<◌, ◌++◌, List, length, ap, ◌∙◌, arith, Simple}
use Rattle.std.proofs.lemmas.Bool.Decides.{nat_tests}
use Rattle.sm_sided.proofs.WholeNodesLemmas.{node_of}
use Rattle.sm_sided.proofs.whole.add_summary.Goals as goal

pub returns : goal.returns
returns c =
    let counted : c.len.result ≡ length c.args.body.now.list.items = omega arith in
    let some : 0 < c.len.result = grind (arith, nat_tests) in
    c.in_ok-push.ensures.items
    ∙ ap (λ (l : List Simple). c.args.straight.now.items ++ l) (node_of c.args.body.now c.args.copy c.len.result counted some)
