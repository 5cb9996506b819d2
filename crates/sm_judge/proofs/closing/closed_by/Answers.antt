-- By a fact, else by two terms that are torn.
use Rattle.sm_judge.proofs.Imports.{◌≡◌, ◌∙◌, Bool, false, ◌||◌, sym, ap, subst, list_any, trees_in, sorts_in, is_refuted, seen_in, IsTornIf, any_torn}
use Rattle.sm_judge.proofs.closing.closed_by.Goals as goal

pub returns-in-Some-2-clause-why : goal.returns-in-Some-2-clause-why
returns-in-Some-2-clause-why g c =
    let equal = g.S.Sees.equal c.args.sees.now in
    subst (IsTornIf (sorts_in c.args.table.now) (trees_in c.args.table.now) equal) c.in-Some-2.is
    (c.in_ok-t.ensures equal c.requires.labels.tell)

pub returns-in-None-clause-closed : goal.returns-in-None-clause-closed
returns-in-None-clause-closed g c =
    let sorts = sorts_in c.args.table.now in
    let trees = trees_in c.args.table.now in
    let equal = g.S.Sees.equal c.args.sees.now in
    let b = seen_in sorts trees trees c.args.facts.now equal (g.S.Sees.apart c.args.sees.now) in
    let none_refuted : list_any (is_refuted b) b.facts ≡ false = sym c.in_default.ensures.refuted in
    let none_torn = subst (IsTornIf sorts trees equal) c.in-None.is (c.in_ok-t.ensures equal c.requires.labels.tell) in
    sym (ap (λ (r : Bool). r || list_any (any_torn sorts equal trees) trees) none_refuted ∙ none_torn)
