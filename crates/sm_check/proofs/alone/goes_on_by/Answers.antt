-- The line is taken at the branch that is due.
use Rattle.sm_check.proofs.Imports.{◌≡◌, ◌∙◌, Ok, Some, ap, trees_in, sorts_in, numbered_line, line_of, Line, terms_in}
use Rattle.sm_check.specs.declared.pending.Due.TheVariants as due
use Rattle.sm_check.proofs.JobsLemmas.{due_first, went_on}
use Rattle.sm_check.proofs.alone.goes_on_by.Goals as goal

pub returns-in-Ok : goal.returns-in-Ok
returns-in-Ok c = λ exact bytes spelled ps stands goes.
    let sorts = sorts_in c.args.table.now in
    let trees = trees_in c.args.table.now in
    let some = c.in-Some-Branch in
    let is : c.args.branch.now.due ≡ Some (due.Branch some.stores some.splits) = cc (c.take.ensures.value, some.is, some.field-0-is) in
    let f = due_first sorts trees c.args.branch.now.path.list.items c.args.branch.now.due some.stores some.splits
    c.args.branch.now.waiting.items ps is stands in
    went_on exact sorts trees (terms_in trees c.args.terms.now) c.args.branch.now.path.list.items c.line_at.new.path.list.items
    some.stores.value some.splits c.args.branch.now.waiting.items c.line_at.new.waiting.items ps (numbered_line c.in-Cert.line) bytes
    c.in-Ok.due f (spelled ∙ ap (λ (l : Line). Ok (line_of l)) c.in-Cert.is) (c.in-Ok.ensures.tells f.own f.rest f.stand f.sorted f.later)
