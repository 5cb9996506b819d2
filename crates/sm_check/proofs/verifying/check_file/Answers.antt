use Rattle.std.proofs.Common.{rules}
use Rattle.sm_check.proofs.GivenLemmas.{none_given}
use Rattle.sm_check.proofs.PieceLemmas.{nothing_taken}
use Rattle.sm_check.proofs.verifying.check_file.Goals as goal

pub returns-clause-answer : goal.returns-clause-answer
returns-clause-answer g c = λ s start.
    c.check_pieces.ensures.answer s
    (nothing_taken _ _ s (c.new-lines.ensures.stands s start) c.new-lines.ensures.number c.new-unfinished.ensures)

pub returns-clause-sound : goal.returns-clause-sound
returns-clause-sound g c = λ s start.
    c.check_pieces.ensures.sound s
    (nothing_taken _ _ s (c.new-lines.ensures.stands s start) c.new-lines.ensures.number c.new-unfinished.ensures)

pub returns-clause-read : goal.returns-clause-read
returns-clause-read g c = λ s start.
    c.check_pieces.ensures.read s
    (nothing_taken _ _ s (c.new-lines.ensures.stands s start) c.new-lines.ensures.number c.new-unfinished.ensures)

pub returns-in_err-piece-clause-read : goal.returns-in_err-piece-clause-read
returns-in_err-piece-clause-read g c = λ s start.
    none_given c.args.file.now.name.now (g.H.Shelf.given c.args.shelf.now) c.args.file.now.limit s c.from_residual.result (search rules)
