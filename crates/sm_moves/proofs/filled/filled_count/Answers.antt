-- A hole counts as its filling does.
use Rattle.sm_moves.proofs.Imports.{sym, ap, ◌∙◌, fill, End, fillings_of, statement_of, Stmt, own_statements}
use Rattle.sm_moves.proofs.PiecesLemmas.{own-Hole}
use Rattle.sm_moves.proofs.filled.filled_count.Goals as goal

pub returns-in-Hole : goal.returns-in-Hole
returns-in-Hole c =
    let fs = fillings_of c.args.fillings.now in
    c.filling_count.ensures
    ∙ sym (ap (λ (s : Stmt). own_statements (fill fs (statement_of s End))) c.in-Hole.is ∙ own-Hole fs c.in-Hole.hole)
