-- The line names the term as it is present.
use Rattle.sm_write.proofs.Imports.{rules, ◌<◌, ◌^◌, length, sym, ◌∙◌, copy_named, value_of}
use Rattle.sm_write.proofs.HeldLemmas.{one_added}
use Rattle.sm_write.proofs.states.name_open.Goals as goal

pub returns : goal.returns
returns c =
    let low : c.args.x < 2 ^ 64 = search rules in
    one_added c.args.table.now (value_of c.args.w.now) (value_of c.add_term.new.w) (copy_named c.args.copy) c.args.x c.number-number.result
    c.args.t (record { 0 = length c.args.w.now.order.items }) c.in_ok-add_term.ensures.stands c.in_ok-add_term.ensures.named c.requires.open
    c.number-number.ensures low c.requires.inside (sym c.is_atom.ensures ∙ c.if-not-is_atom.false)
