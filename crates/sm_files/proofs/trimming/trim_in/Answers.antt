use Rattle.sm_files.proofs.Imports.{rules, ◌∙◌, ℕ, List, subst, parts_of, AnswersTrim}
use Rattle.sm_files.proofs.FilesLemmas.{cut_in, task_told}
use Rattle.sm_files.proofs.TrimmedFiles.{trimmed_in}
use Rattle.sm_files.proofs.TrimmedRead.{none_trimmed, trims_by_reads, trims_read_proof}
use Rattle.sm_files.proofs.trimming.trim_in.Goals as goal

pub returns-clause-ok : goal.returns-clause-ok
returns-clause-ok g c =
    let r = c.in_ok-trim_bytes.field-0 in
    trims_read_proof (g.H.Shelf.file c.args.shelf.now c.args.name.now) (g.H.Shelf.file c.args.shelf.now c.args.proof.now)
    (g.H.Shelf.file c.task_in.new.shelf c.args.proof.now) (g.H.Shelf.read_faults c.args.shelf.now)
    (g.H.Shelf.read_faults c.task_in.new.shelf) (g.H.Shelf.read_faults c.proof_in.new.shelf)
    (g.H.Shelf.read_faults c.trim_bytes.new.shelf) (parts_of c.in_ok-task.task) c.in_ok-bytes.bytes.items r.status r.text.items
    c.in_ok-task.ensures.ok (c.in_ok-task.ensures.same c.args.proof.now) c.in_ok-bytes.ensures.ok c.in_ok-trim_bytes.ensures.reads
    (subst (λ (b : List ℕ). AnswersTrim (parts_of c.in_ok-task.task) b r.status r.text.items) c.deref.ensures.value
    c.in_ok-trim_bytes.ensures.answers)

pub returns-clause-read : goal.returns-clause-read
returns-clause-read g c =
    let r = c.in_ok-trim_bytes.field-0 in
    trims_by_reads c.args.name.now c.args.proof.now (g.H.Shelf.given c.args.shelf.now) (g.H.Shelf.given c.task_in.new.shelf)
    (g.H.Shelf.given c.proof_in.new.shelf) (g.H.Shelf.given c.trim_bytes.new.shelf) (parts_of c.in_ok-task.task)
    c.in_ok-bytes.bytes.items r.status r.text.items c.in_ok-task.ensures.read c.in_ok-bytes.ensures.whole
    c.in_ok-trim_bytes.ensures.keeps c.in_ok-bytes.ensures.ok.within
    (subst (λ (b : List ℕ). AnswersTrim (parts_of c.in_ok-task.task) b r.status r.text.items) c.deref.ensures.value
    c.in_ok-trim_bytes.ensures.answers)

pub returns-clause-left : goal.returns-clause-left
returns-clause-left g c =
    let file = g.H.Shelf.file c.args.shelf.now c.args.name.now in
    let t = parts_of c.in_ok-task.task in
    trimmed_in file (g.H.Shelf.file c.args.shelf.now c.args.out.now) (g.H.Shelf.file c.proof_in.new.shelf c.args.out.now)
    (g.H.Shelf.file c.trim_bytes.new.shelf c.args.out.now) t c.in_ok-trim_bytes.field-0.status
    (task_told file (g.H.Shelf.read_faults c.args.shelf.now) (g.H.Shelf.read_faults c.task_in.new.shelf) t c.in_ok-task.ensures.ok)
    (c.in_ok-bytes.ensures.same c.args.out.now ∙ c.in_ok-task.ensures.same c.args.out.now) c.in_ok-trim_bytes.ensures.left

pub returns-in_err-trim_bytes-clause-left : goal.returns-in_err-trim_bytes-clause-left
returns-in_err-trim_bytes-clause-left g c =
    let file = g.H.Shelf.file c.args.shelf.now c.args.name.now in
    let t = parts_of c.in_ok-task.task in
    let left =
    cut_in file (g.H.Shelf.file c.args.shelf.now c.args.out.now) (g.H.Shelf.file c.proof_in.new.shelf c.args.out.now)
    (g.H.Shelf.file c.trim_bytes.new.shelf c.args.out.now) t
    (task_told file (g.H.Shelf.read_faults c.args.shelf.now) (g.H.Shelf.read_faults c.task_in.new.shelf) t c.in_ok-task.ensures.ok)
    (c.in_ok-bytes.ensures.same c.args.out.now ∙ c.in_ok-task.ensures.same c.args.out.now) c.in_err-trim_bytes.ensures.front in
    search rules

pub returns-in_err-task-clause-exit_read : goal.returns-in_err-task-clause-exit_read
returns-in_err-task-clause-exit_read g c =
    let none =
    none_trimmed c.args.name.now c.args.proof.now (g.H.Shelf.given c.args.shelf.now) (g.H.Shelf.given c.task_in.new.shelf)
    (g.H.Shelf.file c.args.shelf.now c.args.name.now) (g.H.Shelf.read_faults c.args.shelf.now)
    (g.H.Shelf.read_faults c.task_in.new.shelf) c.in_err-task.field-0.0 c.in_err-task.ensures.exit in
    search rules
