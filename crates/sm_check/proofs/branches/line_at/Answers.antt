-- The line is named, tested, and taken.
use Rattle.sm_check.proofs.Imports.{◌≡◌, ℕ, Option, Some, Result, Ok, List, length, sym, ap, ◌∙◌, subst, err_from_is_err_and, trees_in, sorts_in, BranchFact, ways, line_in, stores_in, numbered_line, found_or, named_line, Word, Deep, First, Head, Pending, branches_before, pending_after, Misses, PendingStands, terms_in}
use Rattle.sm_check.specs.Pending.{Due}
use Rattle.sm_check.proofs.CertTaken.{misses_told, cert_deep, cert_tried}
use Rattle.sm_check.proofs.NodesLemmas.{tells_word}
use Rattle.sm_check.proofs.PendingLemmas.{stand_long}
use Rattle.sm_check.proofs.TellsLemmas.{tells_along}
use Rattle.sm_check.proofs.branches.line_at.Goals as goal

pub returns-in_err-named-clause-tells : goal.returns-in_err-named-clause-tells
returns-in_err-named-clause-tells c = λ own rest all sorted waits.
    let sorts = sorts_in c.args.table.now in
    let trees = trees_in c.args.table.now in
    let terms = terms_in trees c.args.terms.now in
    let l = numbered_line c.args.line.now in
    let count = c.facts_on-count.ensures ∙ stand_long sorts trees c.args.path.now.list.items own all in
    let e = c.in_err-named.field-0.0 in
    let r = err_from_is_err_and c.from_residual.result c.from_residual.ensures.1 in
    rw (r.1, r.2)
    (misses_told {S = Option Due} {T = List Pending}
    (λ d ps. PendingStands sorts trees c.args.path.now.list.items d c.args.waiting.now.items ps) e (named_line terms (length own) l) _
    (subst (λ (n : ℕ). Misses e (named_line terms n l)) count c.in_err-named.ensures.missing))

pub returns-in-None-clause-tells : goal.returns-in-None-clause-tells
returns-in-None-clause-tells c = λ own rest all sorted waits.
    let sorts = sorts_in c.args.table.now in
    let trees = trees_in c.args.table.now in
    let terms = terms_in trees c.args.terms.now in
    let held = stores_in trees c.args.branch.stores.value in
    let l = numbered_line c.args.line.now in
    let count = c.facts_on-count.ensures ∙ stand_long sorts trees c.args.path.now.list.items own all in
    let line = line_in trees c.in_ok-named.named in
    let there = subst (λ (n : ℕ). named_line terms n l ≡ Some line) count c.in_ok-named.ensures.there in
    tells_word {S = Option Due} {T = List Pending}
    (λ d ps. PendingStands sorts trees c.args.path.now.list.items d c.args.waiting.now.items ps) Deep
    (pending_after sorts terms held own c.args.branch.splits rest l)
    (cert_deep sorts terms held own c.args.branch.splits rest l line there c.in-None.ensures)

pub returns-clause-tells : goal.returns-clause-tells
returns-clause-tells c = λ own rest all sorted waits.
    let sorts = sorts_in c.args.table.now in
    let trees = trees_in c.args.table.now in
    let terms = terms_in trees c.args.terms.now in
    let held = stores_in trees c.args.branch.stores.value in
    let l = numbered_line c.args.line.now in
    let count = c.facts_on-count.ensures ∙ stand_long sorts trees c.args.path.now.list.items own all in
    let line = line_in trees c.in_ok-named.named in
    let there = subst (λ (n : ℕ). named_line terms n l ≡ Some line) count c.in_ok-named.ensures.there in
    let over = c.in-Some.over in
    let next : Head → Result (List Pending) Word =
    λ head. found_or (ways sorts own line) (First head) (λ (to : List (List BranchFact)). Ok (branches_before held own over to rest)) in
    tells_along {S = Option Due} {T = List Pending}
    (λ d ps. PendingStands sorts trees c.after_line.new.path.list.items d c.after_line.new.waiting.items ps) c.after_line.result
    (next c.line_head-head.result) (pending_after sorts terms held own c.args.branch.splits rest l)
    (cert_tried sorts terms held own c.args.branch.splits rest l line there over c.in-Some.ensures.0 c.in-Some.ensures.1
    ∙ ap next (sym c.line_head-head.ensures))
    (c.after_line.ensures.tells own rest all sorted waits)
