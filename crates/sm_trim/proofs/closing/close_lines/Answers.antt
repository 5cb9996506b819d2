use Rattle.sm_trim.proofs.Imports.{◌≡◌, ◌∙◌, ◌+◌, ◌-◌, ◌<◌, ℕ, List, length, take, ap, sym, arith, moved_line, line_in, CertLine, lines_before, new_number, closed_up, left_before}
use Rattle.sm_trim.proofs.LinesLemmas.{begins_on}
use Rattle.sm_trim.proofs.TreesLemmas.{closed_more}
use Rattle.sm_trim.proofs.closing.close_lines.Goals as goal

pub loop-i-preserved : goal.loop-i-preserved
loop-i-preserved c =
    let ls = c.args.lines.now in
    let i = c.loop-i.i in
    let within = c.loop-i.invariant.within in
    let some = c.loop-i-test.true in
    let less : i - 1 < length ls = omega arith in
    let here : i ≡ (i - 1) + 1 = omega arith in
    let old = c.args.moved.now.items in
    let moved = c.loop-i.moved.items in
    let next = c.number_on.new.moved.items in
    let past = c.loop-i.past in
    let to = c.in_ok-past.past in
    let count = c.facts_added-count.result in
    let l = c.index-lines-i.result in
    let m = c.in_ok-moved_line.field-0 in
    record {
      within = omega arith;
      kept = ap (take (length old)) c.in_ok-number_on.ensures ∙ begins_on old moved l.before past count c.loop-i.invariant.kept;
      closed = λ trees p.
          closed_more trees p (closed_up old c.args.to (left_before trees ls p)) c.loop-i.list.items moved next past count to ls (i - 1) l
          m less
          c.index-lines-i.is
          (c.loop-i.invariant.closed trees p
          ∙ ap (λ (n : ℕ). lines_before trees c.loop-i.list.items (closed_up moved past (left_before trees (take n ls) p))) here)
          (c.in_ok-moved_line.ensures trees
          ∙ ap (λ (ns : List ℕ). moved_line (new_number ns) (line_in trees l.line)) c.deref.ensures.value)
          (c.facts_added-count.ensures trees) c.in_ok-number_on.ensures c.in_ok-past.ensures
          ∙ ap (λ (ks : List CertLine). lines_before trees ks (closed_up next to (left_before trees (take (i - 1) ls) p)))
          (sym c.in_ok-push.ensures.items);
    }
