-- One line more is read and counted.
use Rattle.sm_used.proofs.Imports.{◌∙◌, eqb-true, length, sym, subst, nil_from_length, line_of}
use Rattle.sm_used.proofs.CountedLemmas.{Reads, goes_all, goes_more, reads_all, reads_more}
use Rattle.sm_used.proofs.counting.lines_counted.Goals as goal

pub loop-left-preserved : goal.loop-left-preserved
loop-left-preserved c =
    let i = c.loop-left in
    let rows = c.push.new.self.items in
    let row = c.in_ok-row.row in
    record {
      read =
          subst (Reads c.args.bytes.now rows) (sym c.behind-left.ensures)
          (reads_more c.args.bytes.now i.left.now i.rows.items rows row (line_of c.in_ok-line.line) c.in_ok-line.size
          c.in_ok-push.ensures.items c.in_ok-row.ensures.same c.in_ok-line.ensures.ok c.in_ok-line.ensures.length i.invariant.read);
      counted = λ s exact p at.
          goes_more s exact p i.rows.items rows row i.checker c.next_row.new.checker c.in_ok-push.ensures.items
          (i.invariant.counted s exact p at) (λ q at_q. c.in_ok-row.ensures.counts s exact q at_q);
    }

pub returns-clause-read : goal.returns-clause-read
returns-clause-read c =
    reads_all c.args.bytes.now c.loop-left.left.now c.loop-left.rows.items
    (nil_from_length c.loop-left.left.now
    (eqb-true (length c.loop-left.left.now) 0 (sym c.is_empty.ensures ∙ c.loop-left-test.false))) c.loop-left.invariant.read

pub returns-clause-counted : goal.returns-clause-counted
returns-clause-counted c = λ s exact p at.
    goes_all s exact p c.loop-left.rows.items c.loop-left.checker (c.loop-left.invariant.counted s exact p at)
