-- One line more, and at the end the bytes that no end follows.
use Rattle.sm_check.proofs.Imports.{◌≡◌, ◌<◌, ◌≤◌, ◌+◌, ◌-◌, ◌++◌, ◌∷◌, [], ℕ, List, refl, sym, ap, subst, take, drop, length, length-take, length-drop, append-nil, ◌∙◌, arith, length-append, take_rest, FileLines, AreRead, lines_aside, HasNoEnd, ended_in, StopsIn}
use Rattle.sm_check.proofs.EndedLines.{ended-few}
use Rattle.sm_check.proofs.LineLemmas.{lines_in-end}
use Rattle.sm_check.proofs.PieceLemmas.{err_is, to_next_end, to_piece_end, to_run_end, stops_in_piece}
use Rattle.sm_check.proofs.ReadLemmas.{rest_is_read, run_is_read}
use Rattle.sm_check.proofs.pieces.take_piece.Goals as goal

pub loop-end-init : goal.loop-end-init
loop-end-init g c = record {
  within = omega arith;
  number = omega arith;
  read = λ s bytes t.
      subst (AreRead c.args.lines.now (lines_aside c.args.aside.now) c.args.unfinished.now s) (sym (append-nil bytes)) t;
}

pub returns-in_err-end_line-clause-err : goal.returns-in_err-end_line-clause-err
returns-in_err-end_line-clause-err g c = λ s bytes t.
    let stopped = c.in_err-end_line.field-0.0 in
    let step = to_next_end bytes c.args.piece.now c.loop-end.start c.in-Some.end c.in-Some.ensures.some.2 in
    err_is (StopsIn s (bytes ++ c.args.piece.now)) c.from_residual.result stopped c.from_residual.ensures.1
    (stops_in_piece s bytes c.args.piece.now (c.loop-end.start + (c.in-Some.end + 1)) stopped
    (subst (λ (all : List ℕ). StopsIn s all stopped) step
    (c.in_err-end_line.ensures.err s (bytes ++ take c.loop-end.start c.args.piece.now) (c.loop-end.invariant.read s bytes t))))

pub loop-end-preserved : goal.loop-end-preserved
loop-end-preserved g c =
    let piece = c.args.piece.now in
    let start = c.loop-end.start in
    let end = c.in-Some.end in
    let found = c.in-Some.ensures.some in
    let below : end < length (take (length piece - start) (drop start piece)) = found.0 in
    let room : end < length piece - start = omega (arith, length-take {A = ℕ}, length-drop {A = ℕ}) in
    let behind = start + (end + 1) in
    let n = c.in_ok-start.field-0 in
    let run = take n (take (length piece - behind) (drop behind piece)) in
    let fits : n ≤ length (take (length piece - behind) (drop behind piece)) = c.in_ok-start.ensures.few in
    let near : n ≤ length piece - behind = omega (arith, length-take {A = ℕ}, length-drop {A = ℕ}, fits) in
    let set = c.in_ok-start.ensures.lines in
    record {
      within = omega (arith, room, near);
      number =
          let counted = c.in_ok-end_line.ensures.number in
          let all = ap (λ (x : List (List ℕ)). length x) set in
          let more = length-append (lines_aside c.end_line.new.aside) (ended_in run) in
          let few = ended-few run in
          let size = length-take n (take (length piece - behind) (drop behind piece)) in
          omega (arith, counted, all, more, few, size, near, c.loop-end.invariant.number);
      read = λ s bytes t.
          let front = take (start + end - start) (drop start piece) in
          let was = bytes ++ take start piece in
          let line = c.in_ok-end_line.ensures.ok s was (c.loop-end.invariant.read s bytes t) in
          let size : end ≡ start + end - start = omega arith in
          let same : take end (take (length piece - start) (drop start piece)) ≡ front =
          ap (λ (x : List ℕ). take end x) (take_rest piece start) ∙ ap (λ (k : ℕ). take k (drop start piece)) size in
          let whole = ap (λ (ls : FileLines). ls.rest) (lines_in-end was front (subst HasNoEnd same found.1)) in
          let added = run_is_read c.end_line.new.lines (lines_aside c.end_line.new.aside) (lines_aside c.push_run.new.self)
          c.end_line.new.unfinished s (was ++ (front ++ 10 ∷ [])) run whole c.in_ok-start.ensures.ended set line in
          subst (AreRead c.end_line.new.lines (lines_aside c.push_run.new.self) c.end_line.new.unfinished s)
          (ap (λ (x : List ℕ). x ++ run) (to_next_end bytes piece start end found.2) ∙ to_run_end bytes piece behind n) added;
    }

pub returns-clause-ok : goal.returns-clause-ok
returns-clause-ok g c = λ s bytes t.
    let front = bytes ++ take c.loop-end.start c.args.piece.now in
    let before = c.loop-end.invariant.read s bytes t in
    subst (AreRead c.loop-end.lines (lines_aside c.loop-end.aside) c.add.new.self s)
    (to_piece_end bytes c.args.piece.now c.loop-end.start)
    (rest_is_read c.loop-end.lines (lines_aside c.loop-end.aside) c.loop-end.unfinished c.add.new.self s front _ before
    (c.in_default.ensures.none refl) (c.in_ok-add.ensures _ before.kept))

pub add-requires : goal.add-requires
add-requires g c = c.in_default.ensures.none refl
