-- The elimination begins with the forms and so many atoms.
use Rattle.sm_judge.proofs.Imports.{◌≡◌, List, IfOk, sym, ap, subst, ◌∙◌, Linear, Event, events, Taking, eliminated_by, AreNumbered, TellsSums, ShowsSums}
use Rattle.std.specs.Prelude.{ℕ}
use Rattle.sm_judge.proofs.summing.end_of_sums.Goals as goal

pub take_sums-requires-clause-numbered : goal.take_sums-requires-clause-numbered
take_sums-requires-clause-numbered c =
    subst (AreNumbered 0) (sym (ap (λ (t : Taking). t.atoms) c.in_ok-elimination.ensures)) c.in_ok-places.ensures.numbered

pub returns-clause-tells : goal.returns-clause-tells
returns-clause-tells c = λ next.
    let steps = c.args.so_far.steps in
    let count = c.args.so_far.count in
    let forms = c.args.forms.list.items in
    let left : c.in_ok-elimination.elimination.left ≡ events forms c.args.atoms =
    ap (λ (t : Taking). t.left) c.in_ok-elimination.ensures ∙ ap (events forms) c.in_ok-places.ensures.count in
    subst (λ (es : List Event). IfOk c.take_sums.result (λ e. TellsSums e steps (eliminated_by steps count es next) next)) left
    (c.take_sums.ensures.tells next)

pub returns-clause-sums : goal.returns-clause-sums
returns-clause-sums c =
    subst (λ (fs : List (Linear ℕ)). IfOk c.take_sums.result (ShowsSums fs c.take_sums.new.elims.items))
    (ap (λ (t : Taking). t.forms) c.in_ok-elimination.ensures) c.take_sums.ensures.sums
