-- Each begins with the statement of the least copy.
use Rattle.sm_moves.proofs.Imports.{◌≡◌, not, ◌||◌, ap, sym, ◌∙◌, Code, End, Copy, copy_named, of_copy, statement_of, same_code, each, has, set_of, front, rest_code}
use Rattle.sm_plan.specs.declared.rest.Continuation.{Continuation}
use Rattle.sm_moves.proofs.MovesMade.{shared_by, front_is}
use Rattle.sm_moves.proofs.moves.is_shared.Goals as goal

pub returns-in-Some-first : goal.returns-in-Some-first
returns-in-Some-first c =
    let set = set_of c.args.set in
    let f = copy_named c.in-Some.copy in
    let s = c.in-Some-first.statement.now in
    let code : Copy → Code = λ (d : Copy). front 1 (rest_code (of_copy c.args.rests.now d)) in
    let first : code f ≡ statement_of s End =
    ap (λ (r : Continuation). front 1 (rest_code r)) (sym c.get.ensures) ∙ front_is (rest_code c.get.result.now) s c.in-Some-first.ensures in
    c.all_agree.ensures
    ∙ ap (λ (k : Code). each (λ (d : Copy). not (has set d) || same_code k (code d))) (sym first)
    ∙ sym (shared_by set code f (sym c.in-Some.ensures))
