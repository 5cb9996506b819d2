-- The first statement is the same, or it isn't.
use Rattle.sm_moves.proofs.Imports.{ap, sym, ◌∙◌, End, statement_of, same_code, rest_code}
use Rattle.sm_moves.proofs.MovesMade.{decided, front_is}
use Rattle.sm_moves.proofs.moves.begins_with.Goals as goal

pub returns-in-Some : goal.returns-in-Some
returns-in-Some c =
    let one = statement_of c.args.statement.now End in
    let other = statement_of c.in-Some.first.now End in
    decided c.same_stmt.result one other c.same_stmt.ensures
    ∙ ap (same_code one) (sym (front_is (rest_code c.args.rest.now) c.in-Some.first.now c.in-Some.ensures))
