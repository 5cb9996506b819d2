use Rattle.sm_houdini.proofs.Imports.{◌≡◌, ◌<◌, ◌≤◌, length, sym, ap, ◌∙◌, arith, trees_in, sorts_in, due_in}
use Rattle.sm_houdini.proofs.ClosingLemmas.{past_judged, there_judged}
use Rattle.sm_houdini.proofs.KnownLemmas.{known_judged}
use Rattle.sm_houdini.proofs.judging.judge.Goals as goal

pub returns-then-site-as_slice-clause-judged : goal.returns-then-site-as_slice-clause-judged
returns-then-site-as_slice-clause-judged c = λ passes choice e.
    let sorts = sorts_in c.args.table.now in
    let d = due_in sorts (trees_in c.args.table.now) c.args.due.now in
    let vs = c.args.marks.now.sites.items in
    let count : length c.as_slice.result.now ≡ length vs = ap length c.as_slice.ensures.value in
    let past : length vs ≤ c.in-Some.site = omega (arith, count, c.if-site-as_slice.true) in
    let r = c.args.round.now in
    past_judged sorts r.reach passes r.owners.now d c.in-Some.site choice vs (sym c.owner.ensures ∙ c.in-Some.is) past e

pub returns-clause-judged : goal.returns-clause-judged
returns-clause-judged c = λ passes choice e.
    let sorts = sorts_in c.args.table.now in
    let d = due_in sorts (trees_in c.args.table.now) c.args.due.now in
    let vs = c.args.marks.now.sites.items in
    let count : length c.as_slice.result.now ≡ length vs = ap length c.as_slice.ensures.value in
    let inside : c.in-Some.site < length vs = omega (arith, count, c.if-site-as_slice.false) in
    let r = c.args.round.now in
    there_judged sorts r.reach passes r.owners.now d c.in-Some.site choice vs c.index.result.now c.in_ok-list.list c.deref.result.now
    (sym c.owner.ensures ∙ c.in-Some.is) inside c.index.ensures c.deref.ensures.value c.in_ok-list.ensures.judged e

pub returns-then-is_known-clause-judged : goal.returns-then-is_known-clause-judged
returns-then-is_known-clause-judged c = λ passes choice e.
    let sorts = sorts_in c.args.table.now in
    known_judged sorts c.args.round.now.reach passes c.args.round.now.owners.now (due_in sorts (trees_in c.args.table.now) c.args.due.now) choice _
    (c.requires.known c.if-is_known.true).each e
