-- What waits first is due, or a refusal.
use Rattle.sm_check.proofs.Imports.{refl, sym, Ok, trees_in, sorts_in, ways, adds, line_in, First}
use Rattle.sm_check.specs.declared.fault.LineFault.TheVariants.{Wrong}
use Rattle.sm_check.proofs.TellsLemmas.{same_word, tells_along}
use Rattle.sm_check.proofs.CertsLemmas.{Stand, closing_ways, after_all, none_closes, none_refuses}
use Rattle.sm_check.proofs.certs.close.Goals as goal

pub returns-in_err-due-clause-later : goal.returns-in_err-due-clause-later
returns-in_err-due-clause-later c all = c.in_err-due.ensures.later (sorts_in c.args.table.now) (trees_in c.args.table.now) all

pub returns-in_ok-due-clause-later : goal.returns-in_ok-due-clause-later
returns-in_ok-due-clause-later c all = c.in_ok-due.ensures.later (sorts_in c.args.table.now) (trees_in c.args.table.now) all

pub returns-in_ok-due-clause-ready : goal.returns-in_ok-due-clause-ready
returns-in_ok-due-clause-ready c all = c.in_ok-due.ensures.ready (sorts_in c.args.table.now) (trees_in c.args.table.now) all

pub returns-in_ok-due-clause-tells : goal.returns-in_ok-due-clause-tells
returns-in_ok-due-clause-tells c stores splits facts rest all sorted wait =
    let trees = trees_in c.args.table.now in
    let sorts = sorts_in c.args.table.now in
    let l = line_in trees c.args.line.now in
    let w = ways sorts facts l in
    let is = sym (c.if-closes.ensures facts (adds sorts facts l) all) in
    tells_along (Stand sorts trees c.next_due.new.path.list.items c.next_due.new.waiting.items) (Ok c.in_ok-due.due) (Ok rest) _
    (none_closes stores splits facts c.args.head rest w is)
    (c.in_ok-due.ensures.stand sorts trees facts rest all sorted wait)

pub returns-else-closes-clause-tells : goal.returns-else-closes-clause-tells
returns-else-closes-clause-tells c stores splits facts rest all sorted wait =
    let trees = trees_in c.args.table.now in
    let sorts = sorts_in c.args.table.now in
    let l = line_in trees c.args.line.now in
    let w = ways sorts facts l in
    let head = c.args.head in
    let is = sym (c.if-closes.ensures facts (adds sorts facts l) all) in
    same_word (Stand sorts trees c.args.path.now.list.items c.args.waiting.now.items) (Wrong (First head)) (after_all stores splits facts head rest w)
    (First head) refl
    (none_refuses stores splits facts head rest w is (closing_ways sorts trees facts (adds sorts facts l) c.args.line.now c.requires.kind))
