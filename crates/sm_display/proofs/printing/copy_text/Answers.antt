use Rattle.sm_display.proofs.Imports.{◌≡◌, ◌∙◌, ap, Copy, copy_of, program_of, task_of, copy_named, parts_of, program_parts}
use Rattle.sm_syntax.specs.trees.Views.{code_of}
use Rattle.sm_display.proofs.PrintedLemmas.{by_number, filled_named, named_alike, printed_alike}
use Rattle.sm_display.proofs.printing.copy_text.Goals as goal

pub print_program-requires : goal.print_program-requires
print_program-requires c =
    let t = parts_of c.args.task.now in
    let e = c.in_ok-program.ensures in
    let own = copy_of c.number.result in
    named_alike (program_parts c.in_ok-program.program) t.names t.declared t.outputs (program_of (task_of t) own)
    e.names e.declared e.outputs e.body (filled_named t c.requires own)

pub returns : goal.returns
returns c =
    let t = parts_of c.args.task.now in
    let e = c.in_ok-program.ensures in
    let own : copy_of c.number.result ≡ copy_named c.args.copy = ap copy_of c.number.ensures ∙ by_number c.args.copy in
    let body : code_of c.in_ok-program.program.body ≡ program_of (task_of t) (copy_named c.args.copy) =
    e.body ∙ ap (λ (o : Copy). program_of (task_of t) o) own in
    c.in_ok-text.ensures.text
    ∙ printed_alike (program_parts c.in_ok-program.program) t.names t.declared t.outputs (program_of (task_of t) (copy_named c.args.copy))
    e.names e.declared e.outputs body
