-- The copy's rest lacks its first statements.
use Rattle.sm_plan.proofs.Imports.{◌≡◌, ap, ◌∙◌, Code, Copy, copy_named, of_copy, with_copy, rest_after, rest_code, Continuation}
use Rattle.sm_plan.proofs.PartsMoved.{exchanged}
use Rattle.sm_plan.proofs.summaries.pass.Goals as goal

pub returns : goal.returns
returns c = λ (d : Copy).
    let k = copy_named c.args.copy in
    let old : Copy → Continuation = of_copy c.args.rests.now in
    let rest : Continuation = c.drop_front.new.self in
    let first : of_copy c.exchange.new.all ≡ with_copy old k c.empty-rest.result = c.exchange.ensures.all in
    let second : of_copy c.exchange-2.new.all ≡ with_copy (of_copy c.exchange.new.all) k rest = c.exchange-2.ensures.all in
    let was : c.exchange.new.one ≡ old k = c.exchange.ensures.one in
    let code : rest_code rest ≡ rest_after c.args.count (rest_code (old k)) =
    c.drop_front.ensures ∙ ap (λ (r : Continuation). rest_after c.args.count (rest_code r)) was in
    exchanged rest_code old (of_copy c.exchange.new.all) (of_copy c.exchange-2.new.all) k c.empty-rest.result rest first second d
    ∙ ap (λ (r : Code). with_copy (λ (e : Copy). rest_code (old e)) k r d) code
