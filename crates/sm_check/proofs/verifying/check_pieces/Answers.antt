use Rattle.sm_check.proofs.Imports.{◌≡◌, ◌<◌, ◌≤◌, ◌+◌, ◌∙◌, ◌++◌, ℕ, List, [], length, take, length-take, refl, sym, ap, subst, arith, ReadsFrom, Read, ReadsOn, reads_none, reads_more, verdict, lines_aside, Judged, TellsAnswer, cut_answer, StopsIn, reach}
use Rattle.sm_io.proofs.FileLemmas.{read_end}
use Rattle.sm_check.proofs.AnswerLemmas.{end_told, fault_told, pass_told, past_told, stopped_told}
use Rattle.sm_check.proofs.EndLemmas.{taken_more, given_stands}
use Rattle.sm_check.proofs.GivenLemmas.{front_of, own_front, own_read, part_given, some_given, stopped_no_pass, taken_long, whole_given}
use Rattle.sm_check.proofs.ReadLemmas.{none_read}
use Rattle.sm_check.proofs.verifying.check_pieces.Goals as goal

pub loop-count-init : goal.loop-count-init
loop-count-init g c = record {
  within = omega arith;
  room = omega arith;
  number = let none = ap (λ (x : List (List ℕ)). length x) c.new-aside.ensures.lines in omega (arith, none);
  gone = λ absent. c.new-aside.ensures.none;
  read = (
    [],
    λ bytes held. refl,
    λ s start. none_read c.args.lines.now (lines_aside c.new-aside.result) c.args.unfinished.now s [] c.new-aside.ensures.lines start,
    refl,
    reads_none c.args.file.now.name.now (g.H.Shelf.given c.args.shelf.now),
  );
  same = λ other. refl;
  count = refl;
  writes = refl;
}

pub returns-then-count-eq0-clause-answer : goal.returns-then-count-eq0-clause-answer
returns-then-count-eq0-clause-answer g c = λ s start bytes held.
    let so_far = c.loop-count.invariant.read in
    let given = c.in-Ok.ensures.bytes bytes (c.loop-count.invariant.same c.args.file.now.name.now ∙ held) in
    let room : 0 < length c.read_at.new.buf = omega arith in
    let all : so_far.0 ≡ bytes = read_end bytes _ _ _ _ given c.if-count-eq0.true room (so_far.1 bytes held) in
    let last : length bytes ≤ c.loop-count.place = (given.end room).0 c.if-count-eq0.true in
    end_told c.args.file.now.limit s bytes c.answer_at_end.result (let within = c.loop-count.invariant.within in omega arith)
    (subst (λ (bs : List ℕ). TellsAnswer c.answer_at_end.result (Judged (verdict s bs))) all
    (c.answer_at_end.ensures.answer s so_far.0 (so_far.2 s start)))

pub returns-then-count-eq0-clause-sound : goal.returns-then-count-eq0-clause-sound
returns-then-count-eq0-clause-sound g c = λ s start pass.
    let so_far = c.loop-count.invariant.read in (
      so_far.0,
      pass_told c.answer_at_end.result (verdict s so_far.0) pass (c.answer_at_end.ensures.answer s so_far.0 (so_far.2 s start)),
    )

pub returns-in-Err-clause-answer : goal.returns-in-Err-clause-answer
returns-in-Err-clause-answer g c = λ s start bytes held.
    let so_far = c.loop-count.invariant.read in
    fault_told c.args.file.now.limit s bytes c.loop-count.place c.in-Err.error c.answer_to_fault.result c.loop-count.invariant.within
    c.answer_to_fault.ensures.err
    (subst (λ (bs : List ℕ). TellsAnswer c.answer_to_fault.result (cut_answer (reach s bs))) (so_far.1 bytes held)
    (c.answer_to_fault.ensures.answer s (reach s so_far.0) (so_far.2 s start).comes))

pub returns-in-Err-take_piece-clause-answer : goal.returns-in-Err-take_piece-clause-answer
returns-in-Err-take_piece-clause-answer g c = λ s start bytes held.
    let so_far = c.loop-count.invariant.read in
    let given = c.in-Ok.ensures.bytes bytes (c.loop-count.invariant.same c.args.file.now.name.now ∙ held) in
    let min = c.min-taken.ensures in
    let low : c.loop-count.place + c.min-taken.result ≤ c.args.file.now.limit =
    let within = c.loop-count.invariant.within in omega (arith, min) in
    let front = taken_more bytes c.read_at.new.buf so_far.0 c.loop-count.place c.in-Ok.count c.min-taken.result given
    (omega (arith, min)) (so_far.1 bytes held) in
    stopped_told c.args.file.now.limit s bytes (c.loop-count.place + c.min-taken.result) c.in-Err-take_piece.stopped c.answer_to.result
    c.answer_to.ensures low
    (subst (λ (bs : List ℕ). StopsIn s bs c.in-Err-take_piece.stopped) front
    (c.in-Err-take_piece.ensures.err s so_far.0 (so_far.2 s start)))

pub returns-then-taken-count-clause-answer : goal.returns-then-taken-count-clause-answer
returns-then-taken-count-clause-answer g c = λ s start bytes held.
    let so_far = c.loop-count.invariant.read in
    let given = c.in-Ok.ensures.bytes bytes (c.loop-count.invariant.same c.args.file.now.name.now ∙ held) in
    let min = c.min-taken.ensures in
    let fine = c.in-Ok-take_piece.ensures.ok s so_far.0 (so_far.2 s start) in
    let less = c.if-taken-count.true in
    let within = c.loop-count.invariant.within in
    let full : c.loop-count.place + c.min-taken.result ≡ c.args.file.now.limit = omega (arith, min, less, within) in
    let stand = given_stands bytes c.read_at.new.buf c.loop-count.place c.in-Ok.count given
    c.in-Ok.ensures.bound (omega (arith, less)) in
    let front = taken_more bytes c.read_at.new.buf so_far.0 c.loop-count.place c.in-Ok.count c.min-taken.result given
    (omega (arith, min)) (so_far.1 bytes held) in
    past_told c.args.file.now.limit s bytes c.answer_past_limit.result (omega (arith, stand, less, full))
    (subst (λ (bs : List ℕ). TellsAnswer c.answer_past_limit.result (cut_answer (reach s bs)))
    (front ∙ ap (λ (n : ℕ). take n bytes) full)
    (c.answer_past_limit.ensures.answer s (reach s (so_far.0 ++ take c.min-taken.result c.read_at.new.buf)) fine.comes))

pub returns-then-count-eq0-clause-read : goal.returns-then-count-eq0-clause-read
returns-then-count-eq0-clause-read g c = λ s start.
    let so_far = c.loop-count.invariant.read in
    whole_given c.args.file.now.name.now (g.H.Shelf.given c.args.shelf.now) (g.H.Shelf.given c.loop-count.shelf)
    (g.H.Shelf.given c.read_at.new.self) c.args.file.now.limit s c.answer_at_end.result so_far.0 c.read_at.new.buf c.loop-count.place
    c.in-Ok.count so_far.4 so_far.3 c.if-count-eq0.true c.in-Ok.ensures.gives c.answer_at_end.ensures.no_fault
    (end_told c.args.file.now.limit s so_far.0 c.answer_at_end.result
    (let within = c.loop-count.invariant.within in omega (arith, so_far.3))
    (c.answer_at_end.ensures.answer s so_far.0 (so_far.2 s start)))

pub returns-in-Err-clause-read : goal.returns-in-Err-clause-read
returns-in-Err-clause-read g c = λ s start.
    let so_far = c.loop-count.invariant.read in
    part_given c.args.file.now.name.now (g.H.Shelf.given c.args.shelf.now) (g.H.Shelf.given c.read_at.new.self) c.args.file.now.limit s
    c.answer_to_fault.result so_far.0
    (subst (λ (rs : List Read). ReadsOn c.args.file.now.name.now (g.H.Shelf.given c.args.shelf.now) rs so_far.0)
    (sym (c.in-Err.ensures.gives_none refl)) so_far.4)
    c.answer_to_fault.ensures.no_pass
    (fault_told c.args.file.now.limit s so_far.0 c.loop-count.place c.in-Err.error c.answer_to_fault.result c.loop-count.invariant.within
    c.answer_to_fault.ensures.err
    (subst (λ (bs : List ℕ). TellsAnswer c.answer_to_fault.result (cut_answer (reach s bs)))
    (own_front so_far.0 c.loop-count.place so_far.3)
    (c.answer_to_fault.ensures.answer s (reach s so_far.0) (so_far.2 s start).comes)))

pub returns-in-Err-take_piece-clause-read : goal.returns-in-Err-take_piece-clause-read
returns-in-Err-take_piece-clause-read g c = λ s start.
    let so_far = c.loop-count.invariant.read in
    let piece = take c.in-Ok.count c.read_at.new.buf in
    let given : ReadsFrom (so_far.0 ++ piece) c.loop-count.place c.in-Ok.count c.read_at.new.buf =
    own_read so_far.0 c.read_at.new.buf c.loop-count.place c.in-Ok.count so_far.3 c.in-Ok.ensures.bound in
    let min = c.min-taken.ensures in
    let low : c.loop-count.place + c.min-taken.result ≤ c.args.file.now.limit =
    let within = c.loop-count.invariant.within in omega (arith, min) in
    let front = taken_more (so_far.0 ++ piece) c.read_at.new.buf so_far.0 c.loop-count.place c.in-Ok.count c.min-taken.result given
    (omega (arith, min)) (front_of so_far.0 piece c.loop-count.place so_far.3) in
    part_given c.args.file.now.name.now (g.H.Shelf.given c.args.shelf.now) (g.H.Shelf.given c.read_at.new.self) c.args.file.now.limit s
    c.answer_to.result (so_far.0 ++ piece)
    (reads_more c.args.file.now.name.now (g.H.Shelf.given c.args.shelf.now) (g.H.Shelf.given c.loop-count.shelf)
    (g.H.Shelf.given c.read_at.new.self) so_far.0 piece c.loop-count.place so_far.4 (sym so_far.3)
    (some_given c.read_at.new.buf c.in-Ok.count c.if-count-eq0.false c.in-Ok.ensures.bound) c.in-Ok.ensures.gives)
    (λ is. stopped_no_pass c.in-Err-take_piece.stopped (sym c.answer_to.ensures ∙ is))
    (stopped_told c.args.file.now.limit s (so_far.0 ++ piece) (c.loop-count.place + c.min-taken.result) c.in-Err-take_piece.stopped
    c.answer_to.result c.answer_to.ensures low
    (subst (λ (bs : List ℕ). StopsIn s bs c.in-Err-take_piece.stopped) front
    (c.in-Err-take_piece.ensures.err s so_far.0 (so_far.2 s start))))

pub returns-then-taken-count-clause-read : goal.returns-then-taken-count-clause-read
returns-then-taken-count-clause-read g c = λ s start.
    let so_far = c.loop-count.invariant.read in
    let piece = take c.in-Ok.count c.read_at.new.buf in
    let given : ReadsFrom (so_far.0 ++ piece) c.loop-count.place c.in-Ok.count c.read_at.new.buf =
    own_read so_far.0 c.read_at.new.buf c.loop-count.place c.in-Ok.count so_far.3 c.in-Ok.ensures.bound in
    let min = c.min-taken.ensures in
    let fine = c.in-Ok-take_piece.ensures.ok s so_far.0 (so_far.2 s start) in
    let less = c.if-taken-count.true in
    let within = c.loop-count.invariant.within in
    let full : c.loop-count.place + c.min-taken.result ≡ c.args.file.now.limit = omega (arith, min, less, within) in
    let long = taken_long so_far.0 c.read_at.new.buf c.loop-count.place c.in-Ok.count c.in-Ok.count so_far.3 c.in-Ok.ensures.bound
    (omega arith) in
    let front = taken_more (so_far.0 ++ piece) c.read_at.new.buf so_far.0 c.loop-count.place c.in-Ok.count c.min-taken.result given
    (omega (arith, min)) (front_of so_far.0 piece c.loop-count.place so_far.3) in
    part_given c.args.file.now.name.now (g.H.Shelf.given c.args.shelf.now) (g.H.Shelf.given c.read_at.new.self) c.args.file.now.limit s
    c.answer_past_limit.result (so_far.0 ++ piece)
    (reads_more c.args.file.now.name.now (g.H.Shelf.given c.args.shelf.now) (g.H.Shelf.given c.loop-count.shelf)
    (g.H.Shelf.given c.read_at.new.self) so_far.0 piece c.loop-count.place so_far.4 (sym so_far.3)
    (some_given c.read_at.new.buf c.in-Ok.count c.if-count-eq0.false c.in-Ok.ensures.bound) c.in-Ok.ensures.gives)
    c.answer_past_limit.ensures.no_pass
    (past_told c.args.file.now.limit s (so_far.0 ++ piece) c.answer_past_limit.result (omega (arith, long, less, full))
    (subst (λ (bs : List ℕ). TellsAnswer c.answer_past_limit.result (cut_answer (reach s bs)))
    (front ∙ ap (λ (n : ℕ). take n (so_far.0 ++ piece)) full)
    (c.answer_past_limit.ensures.answer s (reach s (so_far.0 ++ take c.min-taken.result c.read_at.new.buf)) fine.comes)))

pub loop-count-preserved : goal.loop-count-preserved
loop-count-preserved g c =
    let so_far = c.loop-count.invariant.read in
    let min = c.min-taken.ensures in
    let low : c.loop-count.place + c.min-taken.result ≤ c.args.file.now.limit =
    let within = c.loop-count.invariant.within in omega (arith, min) in
    let more = c.if-taken-count.false in
    let all_taken : c.in-Ok.count ≡ c.min-taken.result = omega (arith, min, more) in
    record {
      within = low;
      room = omega arith;
      number =
          let more = c.in-Ok-take_piece.ensures.number in omega (arith, simp length-take at more, c.loop-count.invariant.number);
      gone = λ none.
          let fails = c.in-Ok.ensures.absent (c.loop-count.invariant.same c.args.file.now.name.now ∙ none) in absurd (cc);
      read = (
        so_far.0 ++ take c.min-taken.result c.read_at.new.buf,
        λ bytes held.
            taken_more bytes c.read_at.new.buf so_far.0 c.loop-count.place c.in-Ok.count c.min-taken.result
            (c.in-Ok.ensures.bytes bytes (c.loop-count.invariant.same c.args.file.now.name.now ∙ held)) (omega (arith, min))
            (so_far.1 bytes held),
        λ s start. c.in-Ok-take_piece.ensures.ok s so_far.0 (so_far.2 s start),
        taken_long so_far.0 c.read_at.new.buf c.loop-count.place c.in-Ok.count c.min-taken.result so_far.3 c.in-Ok.ensures.bound
            (omega (arith, min)),
        subst (λ (n : ℕ). ReadsOn c.args.file.now.name.now (g.H.Shelf.given c.args.shelf.now) (g.H.Shelf.given c.read_at.new.self)
            (so_far.0 ++ take n c.read_at.new.buf)) all_taken
            (reads_more c.args.file.now.name.now (g.H.Shelf.given c.args.shelf.now) (g.H.Shelf.given c.loop-count.shelf)
            (g.H.Shelf.given c.read_at.new.self) so_far.0 (take c.in-Ok.count c.read_at.new.buf) c.loop-count.place so_far.4 (sym so_far.3)
            (some_given c.read_at.new.buf c.in-Ok.count c.if-count-eq0.false c.in-Ok.ensures.bound) c.in-Ok.ensures.gives),
      );
      same = λ other. c.in-Ok.ensures.same other ∙ c.loop-count.invariant.same other;
      count = grind arith;
      writes = grind arith;
    }
