-- The table has no more terms than are counted, and the classes are boxed.
use Rattle.sm_solve.proofs.Imports.{◌≡◌, IfSome, Option, List, length, sym, subst, arith, range_with_len, trees_in, TermId, AreBaseClasses, AreAllForms, IsWhole, classes_by, numbers_of}
use Rattle.sm_cc.specs.declared.ground.NumberedBase.{NumberedBase}
use Rattle.sm_solve.proofs.grounding.facts_base.Goals as goal

pub ground_of-requires-clause-forms : goal.ground_of-requires-clause-forms
ground_of-requires-clause-forms c =
    subst (AreAllForms (trees_in c.args.table.now)) (sym c.deref.ensures.value) c.in_ok-forms.ensures

pub returns-in_ok-base-in-Some-clause-counted : goal.returns-in_ok-base-in-Some-clause-counted
returns-in_ok-base-in-Some-clause-counted c = omega (arith, c.len.ensures.len, c.if-len-count.false)

pub returns-in_ok-base-in-Some-clause-base : goal.returns-in_ok-base-in-Some-clause-base
returns-in_ok-base-in-Some-clause-base c =
    let own = c.args.table.now in
    let found = subst (λ (o : Option NumberedBase). IfSome o (λ (g : NumberedBase). (ids : List TermId) × IsWhole (trees_in own) ids
    × (numbers_of ids ≡ range_with_len 0 (length (trees_in own)))
    × AreBaseClasses (classes_by own ids c.args.facts.now) g.ground g.numbering)) c.in-Some.is c.in_ok-found.ensures in (
      found.0,
      found.1,
      found.2,
      c.in_ok-base-in-Some.ensures (classes_by own found.0 c.args.facts.now) found.3,
    )
