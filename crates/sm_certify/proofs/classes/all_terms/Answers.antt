-- Each turn lists the next term.
use Rattle.sm_certify.proofs.Imports.{◌≡◌, length, refl, ap, ◌∙◌, arith, range_with_len, trees_in}
use Rattle.sm_certify.proofs.GivenLemmas.{numbered_more, all_whole}
use Rattle.sm_certify.proofs.classes.all_terms.Goals as goal

pub loop-n-preserved : goal.loop-n-preserved
loop-n-preserved c =
    numbered_more c.loop-n.list.items c.push.new.self.items _ c.loop-n.n c.loop-n.invariant refl c.in_ok-push.ensures.items

pub returns-clause-whole : goal.returns-clause-whole
returns-clause-whole c =
    let all : c.loop-n.n ≡ length (trees_in c.args.table.now) = omega arith in
    all_whole (trees_in c.args.table.now) c.loop-n.list.items c.loop-n.n c.loop-n.invariant all

pub returns-clause-counted : goal.returns-clause-counted
returns-clause-counted c =
    let all : c.loop-n.n ≡ length (trees_in c.args.table.now) = omega arith in
    c.loop-n.invariant ∙ ap (range_with_len 0) all
