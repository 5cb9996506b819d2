-- One line more, and the last.
use Rattle.sm_check.proofs.Imports.{ℕ, List, refl, subst, trees_in, sorts_in, ended_in, terms_in}
use Rattle.sm_check.proofs.JobsLemmas.{Leads, leads_first, leads_on, closed_home, none_is}
use Rattle.sm_check.proofs.alone.closes.Goals as goal

pub loop-line-init : goal.loop-line-init
loop-line-init c = λ facts own held splits all sorted opens.
    let sorts = sorts_in c.args.table.now in
    let trees = trees_in c.args.table.now in
    let b = c.in_ok-branch.branch in
    leads_first c.args.exact sorts trees (terms_in trees c.args.terms.now) b.path.list.items b.due b.waiting.items own splits
    (ended_in c.args.bytes.now)
    (c.in_ok-branch.ensures sorts trees facts own held splits all sorted opens)

pub loop-line-preserved : goal.loop-line-preserved
loop-line-preserved c = λ facts own held splits all sorted opens.
    let sorts = sorts_in c.args.table.now in
    let trees = trees_in c.args.table.now in
    let terms = terms_in trees c.args.terms.now in
    let b = c.loop-line.branch in
    let d = c.goes_on.new.branch in
    let lines = ended_in c.args.bytes.now in
    let here =
    subst (λ (ls : List (List ℕ)). Leads c.args.exact sorts trees terms b.path.list.items b.due b.waiting.items own splits ls lines)
    c.in-Some.ensures.some.0
    (c.loop-line.invariant facts own held splits all sorted opens) in
    leads_on c.args.exact sorts trees terms b.path.list.items d.path.list.items b.due d.due b.waiting.items d.waiting.items own splits
    c.in-Some.line.now (ended_in c.in-Some.behind.now) lines here
    (c.in_ok-goes_on.ensures here.pending here.stands c.if-not-branch.false)

pub returns : goal.returns
returns c = λ none facts p all sorted opens.
    let sorts = sorts_in c.args.table.now in
    let trees = trees_in c.args.table.now in
    let terms = terms_in trees c.args.terms.now in
    let b = c.loop-line.branch in
    let lines = ended_in c.args.bytes.now in
    closed_home c.args.exact sorts trees terms b.path.list.items b.due b.waiting.items facts c.args.opening.now p lines
    (none_is b.due c.is_none.result c.is_none.ensures none) opens
    (λ own held splits is.
    subst (λ (ls : List (List ℕ)). Leads c.args.exact sorts trees terms b.path.list.items b.due b.waiting.items own splits ls lines)
    (c.in_default.ensures.none refl) (c.loop-line.invariant facts own held splits all sorted is))
