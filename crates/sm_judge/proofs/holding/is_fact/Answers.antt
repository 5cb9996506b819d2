-- Formulas are told by their numbers.
use Rattle.sm_judge.proofs.Imports.{◌∙◌, trees_in, sorts_in, numbered, all_numbered}
use Rattle.sm_judge.proofs.SeeingLemmas.{facts_tell}
use Rattle.sm_judge.proofs.holding.is_fact.Goals as goal

pub returns : goal.returns
returns c = λ terms equal apart.
    c.has.ensures
    ∙ facts_tell (sorts_in c.args.table.now) (trees_in c.args.table.now) c.len-count.ensures.apart (numbered c.args.f.now) c.requires.formula
    (all_numbered c.args.facts.now) c.requires.facts
