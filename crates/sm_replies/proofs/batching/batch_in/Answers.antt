use Rattle.sm_replies.proofs.Imports.{◌≡◌, ℕ, List, map, rules, subst, string_bytes, GivesNoList, Status, stops_by, FailsToReadOne, lines_of, AreLinesRead, AcceptsSafeRead}
use Rattle.sm_replies.proofs.BatchAnswers.{batch_lines}
use Rattle.sm_replies.proofs.BatchSafe.{fault_read, lines_read, none_read}
use Rattle.sm_replies.proofs.batching.batch_in.Goals as goal

pub returns-in_err-names-clause-exit_read : goal.returns-in_err-names-clause-exit_read
returns-in_err-names-clause-exit_read g c =
    let list = c.args.list.now in
    let file = g.H.Shelf.file c.args.shelf.now list in
    let b = g.H.Shelf.read_faults c.args.shelf.now in
    let n = g.H.Shelf.read_faults c.list_in.new.shelf in
    let before = g.H.Shelf.given c.args.shelf.now in
    let now = g.H.Shelf.given c.list_in.new.shelf in
    let stop =
    stops_by (GivesNoList file b n) (λ (s : Status) (t : List ℕ). AcceptsSafeRead list before now t)
    (λ (s : Status) (t : List ℕ) f. none_read list before now file b n s t f) c.in_err-names.field-0.0 c.in_err-names.ensures.exit in
    search rules

pub returns-in_err-lines-clause-exit_read : goal.returns-in_err-lines-clause-exit_read
returns-in_err-lines-clause-exit_read g c =
    let list = c.args.list.now in
    let files = g.H.Shelf.file c.list_in.new.shelf in
    let names = map string_bytes c.deref.result.now in
    let b = g.H.Shelf.read_faults c.list_in.new.shelf in
    let n = g.H.Shelf.read_faults c.all_lines.new.shelf in
    let before = g.H.Shelf.given c.args.shelf.now in
    let now = g.H.Shelf.given c.all_lines.new.shelf in
    let stop =
    stops_by (FailsToReadOne files names b n) (λ (s : Status) (t : List ℕ). AcceptsSafeRead list before now t)
    (λ (s : Status) (t : List ℕ) f. fault_read list before now files names b n s t f) c.in_err-lines.field-0.0 c.in_err-lines.ensures.exit in
    search rules

pub returns-clause-ok : goal.returns-clause-ok
returns-clause-ok g c =
    let files = g.H.Shelf.file c.args.shelf.now in
    let others = g.H.Shelf.file c.list_in.new.shelf in
    let between = g.H.Shelf.given c.list_in.new.shelf in
    let now = g.H.Shelf.given c.all_lines.new.shelf in
    let b = g.H.Shelf.read_faults c.args.shelf.now in
    let m = g.H.Shelf.read_faults c.list_in.new.shelf in
    let n = g.H.Shelf.read_faults c.all_lines.new.shelf in
    let lines = lines_of c.deref-2.result.now in
    let same : c.deref.result.now ≡ c.in_ok-names.names.items = search rules in
    let kept : c.in_ok-lines.lines.items ≡ c.deref-2.result.now = search rules in
    let all : AreLinesRead others m between now c.args.effort (map string_bytes c.in_ok-names.names.items) lines =
    subst (λ ns. AreLinesRead others m between now c.args.effort (map string_bytes ns) lines) same
    (subst (λ ls. AreLinesRead others m between now c.args.effort (map string_bytes c.deref.result.now) (lines_of ls)) kept
    c.in_ok-lines.ensures.lines) in
    batch_lines files others c.args.list.now c.args.effort b m n between now (map string_bytes c.in_ok-names.names.items) lines
    c.in_ok-lines_reply.field-0.status c.in_ok-lines_reply.field-0.text.items c.in_ok-names.ensures.ok c.in_ok-names.ensures.same
    c.in_ok-lines.ensures.quiet all c.in_ok-lines_reply.ensures

pub returns-clause-read : goal.returns-clause-read
returns-clause-read g c =
    let others = g.H.Shelf.file c.list_in.new.shelf in
    let before = g.H.Shelf.given c.args.shelf.now in
    let between = g.H.Shelf.given c.list_in.new.shelf in
    let now = g.H.Shelf.given c.all_lines.new.shelf in
    let m = g.H.Shelf.read_faults c.list_in.new.shelf in
    let lines = lines_of c.deref-2.result.now in
    let same : c.deref.result.now ≡ c.in_ok-names.names.items = search rules in
    let kept : c.in_ok-lines.lines.items ≡ c.deref-2.result.now = search rules in
    let all : AreLinesRead others m between now c.args.effort (map string_bytes c.in_ok-names.names.items) lines =
    subst (λ ns. AreLinesRead others m between now c.args.effort (map string_bytes ns) lines) same
    (subst (λ ls. AreLinesRead others m between now c.args.effort (map string_bytes c.deref.result.now) (lines_of ls)) kept
    c.in_ok-lines.ensures.lines) in
    lines_read others c.args.list.now c.args.effort m before between now (map string_bytes c.in_ok-names.names.items) lines
    c.in_ok-lines_reply.field-0.text.items c.in_ok-names.ensures.read all c.in_ok-lines_reply.ensures.printed
