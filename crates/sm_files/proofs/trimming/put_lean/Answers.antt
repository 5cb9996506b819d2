-- What is printed tells how many lines the file has that was written.
use Rattle.sm_files.proofs.Imports.{◌≡◌, ◌∙◌, ◌⊎◌, ℕ, List, Option, IfOk, IfSome, ap, subst, emptied, longer, Passes, subject_of, HasUsedLines, parts_of, HasVersion, Says, Accepted, WriteFault, line_count, trimmed_line}
use Rattle.std.specs.Prelude.{Vec, codes}
use Rattle.std.specs.declared.alloc.Global.{Global}
use Rattle.sm_answers.specs.ProofFile.{IsBegun}
use Rattle.sm_files.proofs.TrimmedFiles.{put_told}
use Rattle.sm_files.proofs.trimming.put_lean.Goals as goal

pub returns-in_ok-trimmed_line-in-Some-clause-tells : goal.returns-in_ok-trimmed_line-in-Some-clause-tells
returns-in_ok-trimmed_line-in-Some-clause-tells g c =
    let t = parts_of c.args.task.now in
    let lean = c.in-Some.lean.items in
    let line = c.in_ok-trimmed_line-in-Some.field-0.items in
    let old = g.H.Shelf.file c.args.shelf.now c.args.out.now in
    let new = g.H.Shelf.file c.write_proof.new.shelf c.args.out.now in
    let r = c.write_proof.result in
    put_told t c.args.bytes.now lean Accepted line old new (IsBegun lean old new) r
    (subst (λ (o : Option (Vec ℕ Global)). IfSome o (λ v. Passes t v.items)) c.in-Some.is c.in_ok-lean.ensures.passes)
    (subst (λ (o : Option (Vec ℕ Global)). IfSome o (λ v. HasVersion t v.items)) c.in-Some.is c.in_ok-lean.ensures.version)
    (subst (λ (o : Option (Vec ℕ Global)). IfSome o (λ v. HasUsedLines (subject_of t) v.items)) c.in-Some.is c.in_ok-lean.ensures.used)
    (c.in_ok-trimmed_line-in-Some.ensures
    ∙ ap (λ (text : List ℕ). trimmed_line (line_count c.args.bytes.now) (line_count text)) c.deref.ensures.value)
    (subst
    (λ (text : List ℕ). IfOk r (λ u. (Says Accepted line u.status u.text.items × (new ≡ longer (emptied old) text))
    ⊎ (Says WriteFault (codes "WriteFault\n") u.status u.text.items × IsBegun text old new))) c.deref-in-Some.ensures.value
    c.write_proof.ensures.answers)
