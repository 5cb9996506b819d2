use Rattle.sm_check.proofs.Imports.{◌≡◌, [], rules, sym, subst, arith, StopsAt, reach}
use Rattle.sm_check.specs.Pieces.{Wrong}
use Rattle.sm_check.proofs.EndedLines.{ended-few}
use Rattle.sm_check.proofs.MemoryLemmas.{all_left, bad_line, none_left}
use Rattle.sm_check.proofs.in_memory.check_lines.Goals as goal

pub check_all-requires : goal.check_all-requires
check_all-requires c = omega (arith, ended-few c.args.bytes.now, c.requires)

pub returns-in-Ok : goal.returns-in-Ok
returns-in-Ok c = λ s start.
    let bytes = c.args.bytes.now in
    let left = all_left c.args.lines.now s bytes start c.requires in
    sym (c.at_end.ensures s bytes (none_left c.check_all.new.self s bytes (c.in-Ok.ensures.ok s (reach s bytes) [] left)) c.ends_whole.ensures)

pub returns-in-Err-Wrong : goal.returns-in-Err-Wrong
returns-in-Err-Wrong c = λ s start.
    let bytes = c.args.bytes.now in
    let same : c.in-Err-Wrong.field-0 ≡ Wrong c.in-Err-Wrong.line c.in-Err-Wrong.word = search rules in
    let left = all_left c.args.lines.now s bytes start c.requires in
    bad_line s bytes c.in-Err-Wrong.line c.in-Err-Wrong.word
    (subst (StopsAt (reach s bytes)) same (c.in-Err-Wrong.ensures.err s (reach s bytes) [] left))
