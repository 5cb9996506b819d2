use Rattle.sm_deps.proofs.Imports.{on_ok_weaker, InsertsAll, nat_cmp}
use Rattle.sm_deps.proofs.MembersLemmas.{members-union}
use Rattle.sm_deps.proofs.members.add_all.Goals as goal

pub returns : goal.returns
returns c =
    on_ok_weaker c.append.result
    (λ (h : InsertsAll nat_cmp c.args.names.now c.args.others.keys c.append.new.self).
    members-union c.args.names.now c.args.others c.append.new.self h)
    c.append.ensures.inserts_all
