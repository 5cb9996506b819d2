use Rattle.sm_commands.proofs.Imports.{ℕ, List, Some, IfErr, subst, sym, ExitsWith, AnswersByReads, LeavesFiles, LeavesPart, Verifies, EndsWith, asked_in, Status, counts_none, verify_to_command}
use Rattle.std.proofs.Common.{IfOk}
use Rattle.sm_words.specs.declared.words.Request.{Request}
use Rattle.sm_commands.proofs.FilesLemmas.{check_leaves}
use Rattle.sm_commands.proofs.TrimmedFiles.{trim_leaves}
use Rattle.sm_commands.proofs.replying.answer_to.Goals as goal

pub returns-in-Verify-clause-writes : goal.returns-in-Verify-clause-writes
returns-in-Verify-clause-writes g c =
    let task = g.H.Shelf.file c.args.shelf.now c.in-Verify.task.now in
    let proof = g.H.Shelf.file c.args.shelf.now c.in-Verify.proof.now in
    let before = g.H.Shelf.read_faults c.args.shelf.now in
    let now = g.H.Shelf.read_faults c.verify_in.new.shelf in
    counts_none (Verifies task proof before now) (g.H.Shelf.write_faults c.args.shelf.now)
    (g.H.Shelf.write_faults c.verify_in.new.shelf) c.verify_in.ensures.writes
    (λ (s : Status) (t : List ℕ) h. (verify_to_command task proof before now s t h).of_command.not_write) c.verify_in.result
    c.verify_in.ensures.ok c.verify_in.ensures.exit

pub returns-in-Check-clause-left : goal.returns-in-Check-clause-left
returns-in-Check-clause-left g c =
    let before = g.H.Shelf.file c.args.shelf.now in
    let now = g.H.Shelf.file c.check_in.new.shelf in
    subst (λ (q : Request). EndsWith (λ (s : Status). LeavesFiles (asked_in q) before s now) (LeavesPart (asked_in q) before now)
    c.check_in.result)
    (sym c.in-Check.is)
    (check_leaves c.in-Check.task.now c.in-Check.proof.now c.in-Check.effort before now c.check_in.result c.check_in.ensures.others
    c.check_in.ensures.left)

pub returns-in-Check-clause-read : goal.returns-in-Check-clause-read
returns-in-Check-clause-read g c =
    let before = g.H.Shelf.given c.args.shelf.now in
    let now = g.H.Shelf.given c.check_in.new.shelf in
    subst
    (λ (q : Request). IfOk c.check_in.result (λ r. AnswersByReads (Some (asked_in q)) before now r.status r.text.items))
    (sym c.in-Check.is) c.check_in.ensures.read

pub returns-in-Check-clause-exit_read : goal.returns-in-Check-clause-exit_read
returns-in-Check-clause-exit_read g c =
    let before = g.H.Shelf.given c.args.shelf.now in
    let now = g.H.Shelf.given c.check_in.new.shelf in
    subst (λ (q : Request). IfErr c.check_in.result (ExitsWith (AnswersByReads (Some (asked_in q)) before now))) (sym c.in-Check.is)
    c.check_in.ensures.exit_read

pub returns-in-Suggest-clause-read : goal.returns-in-Suggest-clause-read
returns-in-Suggest-clause-read g c =
    let before = g.H.Shelf.given c.args.shelf.now in
    let now = g.H.Shelf.given c.suggest_in.new.shelf in
    subst
    (λ (q : Request). IfOk c.suggest_in.result (λ r. AnswersByReads (Some (asked_in q)) before now r.status r.text.items))
    (sym c.in-Suggest.is) c.suggest_in.ensures.read

pub returns-in-Suggest-clause-exit_read : goal.returns-in-Suggest-clause-exit_read
returns-in-Suggest-clause-exit_read g c =
    let before = g.H.Shelf.given c.args.shelf.now in
    let now = g.H.Shelf.given c.suggest_in.new.shelf in
    subst (λ (q : Request). IfErr c.suggest_in.result (ExitsWith (AnswersByReads (Some (asked_in q)) before now))) (sym c.in-Suggest.is)
    c.suggest_in.ensures.exit_read

pub returns-in-Trim-clause-left : goal.returns-in-Trim-clause-left
returns-in-Trim-clause-left g c =
    let before = g.H.Shelf.file c.args.shelf.now in
    let now = g.H.Shelf.file c.trim_in.new.shelf in
    subst (λ (q : Request). EndsWith (λ (s : Status). LeavesFiles (asked_in q) before s now) (LeavesPart (asked_in q) before now)
    c.trim_in.result)
    (sym c.in-Trim.is)
    (trim_leaves c.in-Trim.task.now c.in-Trim.proof.now c.in-Trim.out.now before now c.trim_in.result c.trim_in.ensures.others
    c.trim_in.ensures.left)

pub returns-in-Trim-clause-read : goal.returns-in-Trim-clause-read
returns-in-Trim-clause-read g c =
    let before = g.H.Shelf.given c.args.shelf.now in
    let now = g.H.Shelf.given c.trim_in.new.shelf in
    subst
    (λ (q : Request). IfOk c.trim_in.result (λ r. AnswersByReads (Some (asked_in q)) before now r.status r.text.items))
    (sym c.in-Trim.is) c.trim_in.ensures.read

pub returns-in-Trim-clause-exit_read : goal.returns-in-Trim-clause-exit_read
returns-in-Trim-clause-exit_read g c =
    let before = g.H.Shelf.given c.args.shelf.now in
    let now = g.H.Shelf.given c.trim_in.new.shelf in
    subst (λ (q : Request). IfErr c.trim_in.result (ExitsWith (AnswersByReads (Some (asked_in q)) before now))) (sym c.in-Trim.is)
    c.trim_in.ensures.exit_read
