use Rattle.sm_exact.proofs.Imports.{sym, subst, ◌∙◌, map-id, Splits}
use Rattle.std.proofs.lemmas.Iterator.Adapters.{YieldsList-from_vec}
use Rattle.std.proofs.lemmas.Iterator.Consumers.{YieldsList-end}
use Rattle.sm_exact.proofs.SplittingLemmas.{splits_more}
use Rattle.sm_exact.proofs.splitting.split.Goals as goal

pub loop-f-preserved : goal.loop-f-preserved
loop-f-preserved c =
    splits_more c.args.t c.loop-f.yielded c.in-Some.f c.loop-f.out c.deal.new.out c.loop-f.invariant c.in_ok-deal.ensures.others
    c.in_ok-deal.ensures.lower c.in_ok-deal.ensures.upper

pub returns : goal.returns
returns c =
    let ends = YieldsList-end (YieldsList-from_vec {s = c.into_iter-f-iterator.result} c.args.forms.items (cc) (cc)) c.loop-f.yielded
    c.loop-f.f-iterator c.loop-f.yielded_by c.next.result c.next.new.self c.in-None.is c.next.ensures.steps in
    subst (λ fs. Splits c.args.t fs c.loop-f.out) (sym (map-id c.loop-f.yielded) ∙ ends.0) c.loop-f.invariant
