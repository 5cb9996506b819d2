-- The formula at the place and those behind tell all that is added.
use Rattle.sm_certify.proofs.Imports.{sym, ap, ◌∙◌, ◌++◌, List, [], ◌∷◌, TermId, given_from}
use Rattle.sm_certify.proofs.ContrariesLemmas.{sides_of, adds_contraries}
use Rattle.sm_certify.proofs.unequal.contraries.Goals as goal

pub returns-then-branch-2 : goal.returns-then-branch-2
returns-then-branch-2 c =
    let f = c.index-facts-place.result in
    let first = c.add_contrary.new.pairs.items in
    let one = c.in_ok-add_contrary.ensures in
    let rest = c.in_ok-add_contraries.ensures in
    let holds = c.if-branch.true in
    let holds_behind = c.if-branch-2.true in
    let with_first : List (TermId × TermId) → List (TermId × TermId) = λ ps. ps ++ sides_of (given_from 0 (f ∷ [])) in
    let made = one.pairs holds ∙ ap with_first c.new-pairs.ensures.items in
    adds_contraries c.args.facts.now c.args.place c.args.from f first c.add_contraries.new.pairs.items c.requires.place c.index-facts-place.is
    (sym holds ∙ one.none) made (sym holds_behind ∙ rest.none) (rest.pairs holds_behind)
