use Rattle.sm_commands.proofs.Imports.{Option, map, rules, subst, string_bytes, Known, LeavesProof, AnswersRequest, Checks, Asked, asked, leaves_cut, leaves_front, trimmed_kept}
use Rattle.sm_commands.proofs.Answering.{accepts, sound}
use Rattle.sm_commands.proofs.BatchSafe.{batches_safe}
use Rattle.sm_commands.proofs.FilesLemmas.{kept_whole, left_by, same_by}
use Rattle.sm_commands.proofs.ConflictSound.{conflicts, explains_shown, shows, replays_shown}
use Rattle.sm_commands.proofs.ReadingsLemmas.{accepts_read, batches_read, conflicts_read, proves_read, shows_read, suggests_read}
use Rattle.sm_commands.proofs.SuggestedSafe.{suggests_safe}
use Rattle.sm_commands.proofs.TrimmedFiles.{trim_cut_by, trim_front_by, trim_left_by, trim_same_by, trim_tells_by}
use Rattle.sm_commands.proofs.Verified.{verifies_exactly}
use Rattle.sm_commands.proofs.top.safemerge.Goals as goal

pub returns-in-Ok-clause-accepted : goal.returns-in-Ok-clause-accepted
returns-in-Ok-clause-accepted g c =
    accepts (map string_bytes c.args.words.now) (g.H.Shelf.file c.args.shelf.now) (g.H.Shelf.read_faults c.args.shelf.now)
    (g.H.Shelf.read_faults c.reply_to.new.shelf) c.in-Some.reply.status c.in-Some.reply.text.items c.in-Some.ensures.answers

pub returns-in-Ok-clause-verified : goal.returns-in-Ok-clause-verified
returns-in-Ok-clause-verified g c = λ _.
    verifies_exactly (map string_bytes c.args.words.now) (g.H.Shelf.file c.args.shelf.now) (g.H.Shelf.read_faults c.args.shelf.now)
    (g.H.Shelf.read_faults c.reply_to.new.shelf) c.in-Some.reply.status c.in-Some.reply.text.items c.in-Some.ensures.answers

pub returns-in-Ok-clause-usage : goal.returns-in-Ok-clause-usage
returns-in-Ok-clause-usage g c = λ _.
    let s =
    sound (map string_bytes c.args.words.now) (g.H.Shelf.file c.args.shelf.now) (g.H.Shelf.read_faults c.args.shelf.now)
    (g.H.Shelf.read_faults c.reply_to.new.shelf) c.in-Some.reply.status c.in-Some.reply.text.items c.in-Some.ensures.answers in
    (s.usage, s.only)

pub returns-in-Ok-clause-read_quiet : goal.returns-in-Ok-clause-read_quiet
returns-in-Ok-clause-read_quiet g c = λ _ no_fault no_line.
    let s =
    sound (map string_bytes c.args.words.now) (g.H.Shelf.file c.args.shelf.now) (g.H.Shelf.read_faults c.args.shelf.now)
    (g.H.Shelf.read_faults c.reply_to.new.shelf) c.in-Some.reply.status c.in-Some.reply.text.items c.in-Some.ensures.answers in
    s.quiet no_fault
    (λ l. no_line
    (record { to_verify = l.to_verify; refused = l.says.ended; number = l.number; word = l.word; printed = rw (← l.says.printed) (search rules) }))

pub returns-in-Ok-clause-memory : goal.returns-in-Ok-clause-memory
returns-in-Ok-clause-memory g c = λ e.
    absurd ((sound (map string_bytes c.args.words.now) (g.H.Shelf.file c.args.shelf.now) (g.H.Shelf.read_faults c.args.shelf.now)
    (g.H.Shelf.read_faults c.reply_to.new.shelf) c.in-Some.reply.status c.in-Some.reply.text.items c.in-Some.ensures.answers).not_memory
    e)

pub returns-in-Ok-clause-sink : goal.returns-in-Ok-clause-sink
returns-in-Ok-clause-sink g c =
    let s =
    sound (map string_bytes c.args.words.now) (g.H.Shelf.file c.args.shelf.now) (g.H.Shelf.read_faults c.args.shelf.now)
    (g.H.Shelf.read_faults c.reply_to.new.shelf) c.in-Some.reply.status c.in-Some.reply.text.items c.in-Some.ensures.answers in
    let cause = c.in-Ok.ensures.cause in
    record { later = cause.later; rose = λ e. absurd (s.not_sink e); quiet = λ _. cause.quiet (λ e. cc) }

pub returns-in-Ok-clause-cut : goal.returns-in-Ok-clause-cut
returns-in-Ok-clause-cut g c = λ e.
    absurd ((sound (map string_bytes c.args.words.now) (g.H.Shelf.file c.args.shelf.now) (g.H.Shelf.read_faults c.args.shelf.now)
    (g.H.Shelf.read_faults c.reply_to.new.shelf) c.in-Some.reply.status c.in-Some.reply.text.items c.in-Some.ensures.answers).not_sink
    e)

pub returns-in-Ok-clause-conflict : goal.returns-in-Ok-clause-conflict
returns-in-Ok-clause-conflict g c =
    conflicts (map string_bytes c.args.words.now) (g.H.Shelf.file c.args.shelf.now) (g.H.Shelf.read_faults c.args.shelf.now)
    (g.H.Shelf.read_faults c.reply_to.new.shelf) c.in-Some.reply.status c.in-Some.reply.text.items c.in-Some.ensures.answers

pub returns-in-Ok-clause-shown : goal.returns-in-Ok-clause-shown
returns-in-Ok-clause-shown g c = λ e task turns workers asks. (
  c.in-Some.reply.text.items,
  shows (map string_bytes c.args.words.now) (g.H.Shelf.file c.args.shelf.now) (g.H.Shelf.read_faults c.args.shelf.now)
      (g.H.Shelf.read_faults c.reply_to.new.shelf) c.in-Some.reply.status c.in-Some.reply.text.items c.in-Some.ensures.answers e task turns
      workers asks,
  search rules,
)

pub returns-in-Ok-clause-replayed : goal.returns-in-Ok-clause-replayed
returns-in-Ok-clause-replayed g c =
    replays_shown (map string_bytes c.args.words.now) (g.H.Shelf.file c.args.shelf.now) (g.H.Shelf.read_faults c.args.shelf.now)
    (g.H.Shelf.read_faults c.reply_to.new.shelf) c.in-Some.reply.status c.in-Some.reply.text.items c.in-Some.ensures.answers

pub returns-in-Ok-clause-explained : goal.returns-in-Ok-clause-explained
returns-in-Ok-clause-explained g c =
    explains_shown (map string_bytes c.args.words.now) (g.H.Shelf.file c.args.shelf.now) (g.H.Shelf.read_faults c.args.shelf.now)
    (g.H.Shelf.read_faults c.reply_to.new.shelf) c.in-Some.reply.status c.in-Some.reply.text.items c.in-Some.ensures.answers

pub returns-in-Ok-clause-front : goal.returns-in-Ok-clause-front
returns-in-Ok-clause-front g c = λ task proof effort is.
    leaves_front (g.H.Shelf.file c.args.shelf.now task) c.in-Some.reply.status (g.H.Shelf.file c.args.shelf.now proof)
    (g.H.Shelf.file c.reply_to.new.shelf proof)
    (left_by (asked (map string_bytes c.args.words.now)) (g.H.Shelf.file c.args.shelf.now) (g.H.Shelf.file c.reply_to.new.shelf)
    c.in-Some.reply.status task proof effort c.in-Some.ensures.left is)

pub returns-in-Err-Fault-clause-front : goal.returns-in-Err-Fault-clause-front
returns-in-Err-Fault-clause-front g c = λ task proof effort is.
    leaves_front (g.H.Shelf.file c.args.shelf.now task) c.in-Some.reply.status (g.H.Shelf.file c.args.shelf.now proof)
    (g.H.Shelf.file c.reply_to.new.shelf proof)
    (left_by (asked (map string_bytes c.args.words.now)) (g.H.Shelf.file c.args.shelf.now) (g.H.Shelf.file c.reply_to.new.shelf)
    c.in-Some.reply.status task proof effort c.in-Some.ensures.left is)

pub returns-clause-front : goal.returns-clause-front
returns-clause-front g c = λ task proof effort is.
    leaves_front (g.H.Shelf.file c.args.shelf.now task) c.in-Some.reply.status (g.H.Shelf.file c.args.shelf.now proof)
    (g.H.Shelf.file c.reply_to.new.shelf proof)
    (left_by (asked (map string_bytes c.args.words.now)) (g.H.Shelf.file c.args.shelf.now) (g.H.Shelf.file c.reply_to.new.shelf)
    c.in-Some.reply.status task proof effort c.in-Some.ensures.left is)

pub returns-in-Err-Fault-clause-kept : goal.returns-in-Err-Fault-clause-kept
returns-in-Err-Fault-clause-kept g c = λ _ no_write no_read task proof bytes effort t is none held fits spells accepted.
    let words = map string_bytes c.args.words.now in
    let files = g.H.Shelf.file c.args.shelf.now in
    let left = g.H.Shelf.file c.reply_to.new.shelf in
    let b = g.H.Shelf.read_faults c.args.shelf.now in
    let n = g.H.Shelf.read_faults c.reply_to.new.shelf in
    let s = c.in-Some.reply.status in
    let line = c.in-Some.reply.text.items in
    kept_whole bytes effort b n (g.H.Shelf.write_faults c.args.shelf.now) (g.H.Shelf.write_faults c.reply_to.new.shelf) s line
    (files proof) (left proof) t none no_write no_read c.in-Some.ensures.writes fits spells accepted
    (subst (λ (k : Known). Checks k effort b n s line) held
    (subst (λ (o : Option Asked). AnswersRequest o words files b n s line) is c.in-Some.ensures.answers))
    (subst (λ (k : Known). LeavesProof k s (files proof) (left proof)) held
    (left_by (asked words) files left s task proof effort c.in-Some.ensures.left is))

pub returns-in-Ok-clause-unfinished : goal.returns-in-Ok-clause-unfinished
returns-in-Ok-clause-unfinished g c = λ failed task proof effort is.
    leaves_cut (g.H.Shelf.file c.args.shelf.now task) c.in-Some.reply.status (g.H.Shelf.file c.args.shelf.now proof)
    (g.H.Shelf.file c.reply_to.new.shelf proof) failed
    (left_by (asked (map string_bytes c.args.words.now)) (g.H.Shelf.file c.args.shelf.now) (g.H.Shelf.file c.reply_to.new.shelf)
    c.in-Some.reply.status task proof effort c.in-Some.ensures.left is)

pub returns-in-Ok-clause-accepted_read : goal.returns-in-Ok-clause-accepted_read
returns-in-Ok-clause-accepted_read g c =
    accepts_read (map string_bytes c.args.words.now) (g.H.Shelf.given c.args.shelf.now) (g.H.Shelf.given c.reply_to.new.shelf)
    c.in-Some.reply.status c.in-Some.reply.text.items c.in-Some.ensures.read

pub returns-in-Ok-clause-verified_read : goal.returns-in-Ok-clause-verified_read
returns-in-Ok-clause-verified_read g c = λ _.
    proves_read (map string_bytes c.args.words.now) (g.H.Shelf.given c.args.shelf.now) (g.H.Shelf.given c.reply_to.new.shelf)
    c.in-Some.reply.status c.in-Some.reply.text.items c.in-Some.ensures.read

pub returns-in-Ok-clause-conflict_read : goal.returns-in-Ok-clause-conflict_read
returns-in-Ok-clause-conflict_read g c =
    conflicts_read (map string_bytes c.args.words.now) (g.H.Shelf.file c.args.shelf.now) (g.H.Shelf.read_faults c.args.shelf.now)
    (g.H.Shelf.read_faults c.reply_to.new.shelf) (g.H.Shelf.given c.args.shelf.now) (g.H.Shelf.given c.reply_to.new.shelf)
    c.in-Some.reply.status c.in-Some.reply.text.items c.in-Some.ensures.answers c.in-Some.ensures.read

pub returns-in-Ok-clause-shown_read : goal.returns-in-Ok-clause-shown_read
returns-in-Ok-clause-shown_read g c = λ e task proof effort asks. (
  c.in-Some.reply.text.items,
  shows_read (map string_bytes c.args.words.now) (g.H.Shelf.given c.args.shelf.now) (g.H.Shelf.given c.reply_to.new.shelf)
      c.in-Some.reply.status c.in-Some.reply.text.items c.in-Some.ensures.read e task proof effort asks,
  search rules,
)

pub returns-in-Ok-clause-suggested : goal.returns-in-Ok-clause-suggested
returns-in-Ok-clause-suggested g c = λ e task effort asks. (
  c.in-Some.reply.text.items,
  suggests_safe (map string_bytes c.args.words.now) (g.H.Shelf.file c.args.shelf.now) (g.H.Shelf.read_faults c.args.shelf.now)
      (g.H.Shelf.read_faults c.reply_to.new.shelf) c.in-Some.reply.status c.in-Some.reply.text.items c.in-Some.ensures.answers e task
      effort asks,
  search rules,
)

pub returns-in-Ok-clause-suggested_read : goal.returns-in-Ok-clause-suggested_read
returns-in-Ok-clause-suggested_read g c = λ e task effort asks. (
  c.in-Some.reply.text.items,
  suggests_read (map string_bytes c.args.words.now) (g.H.Shelf.given c.args.shelf.now) (g.H.Shelf.given c.reply_to.new.shelf)
      c.in-Some.reply.status c.in-Some.reply.text.items c.in-Some.ensures.read e task effort asks,
  search rules,
)

pub returns-in-Ok-clause-batched : goal.returns-in-Ok-clause-batched
returns-in-Ok-clause-batched g c = λ _ list cache effort asks. (
  c.in-Some.reply.text.items,
  batches_safe (map string_bytes c.args.words.now) (g.H.Shelf.file c.args.shelf.now) (g.H.Shelf.read_faults c.args.shelf.now)
      (g.H.Shelf.read_faults c.reply_to.new.shelf) c.in-Some.reply.status c.in-Some.reply.text.items c.in-Some.ensures.answers list cache
      effort asks,
  search rules,
)

pub returns-in-Ok-clause-batched_read : goal.returns-in-Ok-clause-batched_read
returns-in-Ok-clause-batched_read g c = λ _ list cache effort asks. (
  c.in-Some.reply.text.items,
  batches_read (map string_bytes c.args.words.now) (g.H.Shelf.given c.args.shelf.now) (g.H.Shelf.given c.reply_to.new.shelf)
      c.in-Some.reply.status c.in-Some.reply.text.items c.in-Some.ensures.read list cache effort asks,
  search rules,
)

pub returns-in-Err-Fault-clause-same : goal.returns-in-Err-Fault-clause-same
returns-in-Err-Fault-clause-same g c = λ name never nor.
    same_by (asked (map string_bytes c.args.words.now)) (g.H.Shelf.file c.args.shelf.now) (g.H.Shelf.file c.reply_to.new.shelf)
    c.in-Some.reply.status c.in-Some.ensures.left name never nor

pub returns-clause-same : goal.returns-clause-same
returns-clause-same g c = λ name never nor.
    same_by (asked (map string_bytes c.args.words.now)) (g.H.Shelf.file c.args.shelf.now) (g.H.Shelf.file c.reply_to.new.shelf)
    c.in-Some.reply.status c.in-Some.ensures.left name never nor

pub returns-in-Ok-clause-trimmed_front : goal.returns-in-Ok-clause-trimmed_front
returns-in-Ok-clause-trimmed_front g c = λ task proof out is.
    trim_front_by (asked (map string_bytes c.args.words.now)) (g.H.Shelf.file c.args.shelf.now) (g.H.Shelf.file c.reply_to.new.shelf)
    c.in-Some.reply.status task proof out c.in-Some.ensures.left is

pub returns-in-Err-Fault-clause-trimmed_front : goal.returns-in-Err-Fault-clause-trimmed_front
returns-in-Err-Fault-clause-trimmed_front g c = λ task proof out is.
    trim_front_by (asked (map string_bytes c.args.words.now)) (g.H.Shelf.file c.args.shelf.now) (g.H.Shelf.file c.reply_to.new.shelf)
    c.in-Some.reply.status task proof out c.in-Some.ensures.left is

pub returns-clause-trimmed_front : goal.returns-clause-trimmed_front
returns-clause-trimmed_front g c = λ task proof out is.
    trim_front_by (asked (map string_bytes c.args.words.now)) (g.H.Shelf.file c.args.shelf.now) (g.H.Shelf.file c.reply_to.new.shelf)
    c.in-Some.reply.status task proof out c.in-Some.ensures.left is

pub returns-in-Ok-clause-trimmed_part : goal.returns-in-Ok-clause-trimmed_part
returns-in-Ok-clause-trimmed_part g c = λ failed task proof out is.
    trim_cut_by (asked (map string_bytes c.args.words.now)) (g.H.Shelf.file c.args.shelf.now) (g.H.Shelf.file c.reply_to.new.shelf)
    c.in-Some.reply.status task proof out failed c.in-Some.ensures.left is

pub returns-in-Ok-clause-untrimmed : goal.returns-in-Ok-clause-untrimmed
returns-in-Ok-clause-untrimmed g c = λ _ never nor task proof out is.
    trim_same_by (asked (map string_bytes c.args.words.now)) (g.H.Shelf.file c.args.shelf.now) (g.H.Shelf.file c.reply_to.new.shelf)
    c.in-Some.reply.status task proof out never nor c.in-Some.ensures.left is

pub returns-in-Ok-clause-trimmed : goal.returns-in-Ok-clause-trimmed
returns-in-Ok-clause-trimmed g c = λ e task proof out is.
    let told =
    trim_tells_by (asked (map string_bytes c.args.words.now)) (g.H.Shelf.file c.args.shelf.now) (g.H.Shelf.file c.reply_to.new.shelf)
    c.in-Some.reply.status c.in-Some.reply.text.items task proof out c.in-Some.ensures.tells is e in
    (c.in-Some.reply.text.items, told.0, told.1, told.2, search rules)

pub returns-in-Err-Fault-clause-trimmed_kept : goal.returns-in-Err-Fault-clause-trimmed_kept
returns-in-Err-Fault-clause-trimmed_kept g c = λ _ no_write task proof out is.
    trimmed_kept (g.H.Shelf.file c.args.shelf.now task) (g.H.Shelf.write_faults c.args.shelf.now)
    (g.H.Shelf.write_faults c.reply_to.new.shelf) c.in-Some.reply.status (g.H.Shelf.file c.args.shelf.now out)
    (g.H.Shelf.file c.reply_to.new.shelf out) no_write c.in-Some.ensures.writes
    (trim_left_by (asked (map string_bytes c.args.words.now)) (g.H.Shelf.file c.args.shelf.now) (g.H.Shelf.file c.reply_to.new.shelf)
    c.in-Some.reply.status task proof out c.in-Some.ensures.left is)
