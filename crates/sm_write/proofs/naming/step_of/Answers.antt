-- By the kind of the term.
use Rattle.sm_write.proofs.Imports.{rules, nat_eq, get}
use Rattle.sm_term.specs.declared.term.Term.TheVariants as row
use Rattle.sm_write.proofs.NamingLemmas.{is_row, write_line, neg_line}
use Rattle.sm_write.proofs.naming.step_of.Goals as goal

pub returns-in-Some : goal.returns-in-Some
returns-in-Some c =
    let v = c.args.table.now in
    let names = get nat_eq c.args.names.now in
    let at = is_row v c.args.t.0 c.get.result.now (row.Write c.in-Write.a c.in-Write.i c.in-Write.e) c.in-Write.is c.get.ensures.tree
    c.get.ensures.before c.get.ensures.fits in
    write_line v names c.args.t.0 c.in-Write.a c.in-Write.i c.in-Write.e c.in-Ok-pair.a c.in-Ok-pair.i c.in-Some.e.now at
    c.in-Ok-pair.ensures.ok.0 c.in-Ok-pair.ensures.ok.1 (search rules)

pub returns-in-Some-get : goal.returns-in-Some-get
returns-in-Some-get c =
    let v = c.args.table.now in
    let names = get nat_eq c.args.names.now in
    let at = is_row v c.args.t.0 c.get.result.now (row.Neg c.in-Neg.u) c.in-Neg.is c.get.ensures.tree c.get.ensures.before
    c.get.ensures.fits in
    neg_line v names c.args.t.0 c.in-Neg.u c.in-Some-get.u.now at (search rules)
