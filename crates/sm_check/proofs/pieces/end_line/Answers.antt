-- The line that ends is read where it lies, or where its bytes are kept.
use Rattle.sm_check.proofs.Imports.{◌∙◌, ◌++◌, ◌∷◌, [], ℕ, List, ap, subst, sym, lines_in, lines_aside, ended_in, IsKept, StopsIn, reach}
use Rattle.sm_check.proofs.AsideLemmas.{line_not_read, line_read}
use Rattle.sm_check.proofs.PieceLemmas.{err_is, keeps_all, keeps_none}
use Rattle.sm_check.proofs.ReadLemmas.{line_not_read_by, line_read_by, long_line_not_read}
use Rattle.sm_check.proofs.pieces.end_line.Goals as goal

pub returns-then-is_empty-clause-ok : goal.returns-then-is_empty-clause-ok
returns-then-is_empty-clause-ok g c = λ s bytes t.
    let none = (c.is_empty.ensures (lines_in bytes).rest t.kept).0 c.if-is_empty.true in
    line_read_by c.take.result c.take.new.self (lines_aside c.take.new.aside) c.args.unfinished.now s bytes c.args.front.now
    c.args.front.now c.requires.no_end (ap (λ (x : List ℕ). x ++ c.args.front.now) (sym none))
    (c.take.ensures.ok s (reach s bytes) t.comes) (subst (IsKept c.args.unfinished.now) none t.kept)

pub returns-then-is_empty-clause-err : goal.returns-then-is_empty-clause-err
returns-then-is_empty-clause-err g c = λ s bytes t.
    let none = (c.is_empty.ensures (lines_in bytes).rest t.kept).0 c.if-is_empty.true in
    line_not_read_by c.take.result s bytes c.args.front.now c.args.front.now c.requires.no_end
    (ap (λ (x : List ℕ). x ++ c.args.front.now) (sym none)) (c.take.ensures.err s (reach s bytes) t.comes)

pub returns-then-unfinished-clause-err : goal.returns-then-unfinished-clause-err
returns-then-unfinished-clause-err g c = λ s bytes t.
    long_line_not_read c.add.new.self s bytes c.args.front.now c.refuse.result c.requires.no_end c.if-unfinished.true
    (c.in_ok-add.ensures (lines_in bytes).rest t.kept) (λ line none. c.refuse.ensures s (reach s bytes) line none t.comes)

pub returns-in_err-take-clause-err : goal.returns-in_err-take-clause-err
returns-in_err-take-clause-err g c = λ s bytes t.
    let kept = c.in_ok-add.ensures (lines_in bytes).rest t.kept in
    let line = keeps_all c.add.new.self.is_too_long c.add.new.self.bytes.items ((lines_in bytes).rest ++ c.args.front.now)
    c.if-unfinished.false kept in
    err_is (StopsIn s (bytes ++ (c.args.front.now ++ 10 ∷ []))) c.from_residual-in_err-take.result c.in_err-take.field-0.0
    c.from_residual-in_err-take.ensures.1
    (line_not_read s bytes c.args.front.now c.line.result.now c.in_err-take.field-0.0 c.requires.no_end (c.line.ensures.bytes ∙ line)
    (c.in_err-take.ensures.err s (reach s bytes) t.comes))

pub returns-clause-ok : goal.returns-clause-ok
returns-clause-ok g c = λ s bytes t.
    let kept = c.in_ok-add.ensures (lines_in bytes).rest t.kept in
    let line = keeps_all c.add.new.self.is_too_long c.add.new.self.bytes.items ((lines_in bytes).rest ++ c.args.front.now)
    c.if-unfinished.false kept in
    line_read _ _ _ s bytes c.args.front.now c.line.result.now c.requires.no_end (c.line.ensures.bytes ∙ line)
    (c.in_ok-take.ensures.ok s (reach s bytes) t.comes)
    (keeps_none c.add.new.self.is_too_long c.clear.new.self.items c.if-unfinished.false c.clear.ensures.items)

pub invariant_of-unfinished : goal.invariant_of-unfinished
invariant_of-unfinished g c = record { no_end = ap ended_in c.clear.ensures.items }
