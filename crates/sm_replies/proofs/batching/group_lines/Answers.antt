use Rattle.sm_replies.proofs.Imports.{◌≡◌, ℕ, List, Vec, Global, map, rules, subst, AllZip, string_bytes, Task, Line, lines_of, told, AreLinesRead, IsTheReply}
use Rattle.sm_task.specs.Tasks.{parts_of}
use Rattle.sm_replies.proofs.BatchGiven.{lines_told}
use Rattle.sm_replies.proofs.batching.group_lines.Goals as goal

pub returns-clause-lines : goal.returns-clause-lines
returns-clause-lines g c =
    let files = g.H.Shelf.file c.args.shelf.now in
    let count = g.H.Shelf.read_faults c.args.shelf.now in
    let before = g.H.Shelf.given c.args.shelf.now in
    let now = g.H.Shelf.given c.gather.new.shelf in
    let names = map string_bytes c.args.names.now in
    let given = c.in_ok-tasks.field-0 in
    let tasks : c.deref.result.now ≡ given.tasks.items = search rules in
    let lines : told given.slots.items c.in_ok-replies.replies.items ≡ lines_of c.in_ok-tell.field-0.items = search rules in
    subst (λ (ls : List Line). AreLinesRead files count before now c.args.effort names ls) lines
    (lines_told files count before now c.args.effort names given.slots.items given.tasks.items c.in_ok-replies.replies.items
    c.in_ok-tasks.ensures.given
    (subst (λ (ts : List Task). AllZip (IsTheReply c.args.effort) (map parts_of ts)
    (map (λ (r : Vec ℕ Global). r.items) c.in_ok-replies.replies.items)) tasks c.in_ok-replies.ensures.replies))
