-- The parts are those over numbers.
use Rattle.sm_plan.proofs.Imports.{◌∙◌, ◌++◌, List, map, ap, numbered, Formula, parts_in}
use Rattle.sm_plan.proofs.KeptLemmas.{conj_made, conj_ready}
use Rattle.sm_plan.proofs.kept.conjuncts.Goals as goal

pub returns-clause-made : goal.returns-clause-made
returns-clause-made c = λ sorts trees. conj_made sorts trees c.put_parts.new.list.items c.args.keep.now
    (c.in_ok-put_parts.ensures ∙ ap (λ (l : List Formula). map numbered l ++ parts_in (numbered c.args.keep.now)) c.new-list.ensures.items)

pub returns-clause-ready : goal.returns-clause-ready
returns-clause-ready c = λ sorts trees. conj_ready sorts trees c.put_parts.new.list.items c.args.keep.now
    (c.in_ok-put_parts.ensures ∙ ap (λ (l : List Formula). map numbered l ++ parts_in (numbered c.args.keep.now)) c.new-list.ensures.items)
