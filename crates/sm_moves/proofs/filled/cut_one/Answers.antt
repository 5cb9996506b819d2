-- The statements of the last shared one are as many as it is filled with.
use Rattle.sm_moves.proofs.Imports.{sym, ap, ◌∙◌, End, fillings_of, statement_of, code_before}
use Rattle.sm_moves.proofs.PiecesLemmas.{cut_filled}
use Rattle.sm_moves.proofs.filled.cut_one.Goals as goal

pub returns : goal.returns
returns c = λ k e.
    let both = cut_filled (fillings_of c.args.fillings.now) c.args.list.now c.place_before-place.result c.filled_count-count.result k
    (statement_of c.args.last.now End) e (sym c.filled_count-count.ensures) c.place_before-place.ensures in
    (ap (λ l. code_before l End) c.first_part.ensures ∙ both.0, ap (λ l. code_before l End) c.last_part.ensures ∙ both.1)
