use Rattle.sm_text.proofs.Imports.{◌++◌, sym, ap, ◌∙◌, err_from_is_err_and, with_sort, numbers_of, entries_of}
use Rattle.sm_text.specs.rules.Reading as spec
use Rattle.sm_text.proofs.Sound.Gathered.{gather-turn, gather-end, gather-fault}
use Rattle.sm_text.proofs.Sound.Loops.{tested, leaves, declaration-shorter}
use Rattle.sm_text.proofs.rules.names.declarations.Goals as goal

pub returns-in_err-one : goal.returns-in_err-one
unfolding spec.more_declarations
returns-in_err-one c =
    leaves _ c.from_residual.result _ (err_from_is_err_and c.from_residual.result c.from_residual.ensures.1) _ _ c.in_err-one.ensures
    (λ f e. c.declarations.invariant
    ∙ gather-fault spec.begins_declaration spec.declaration ◌++◌ _ _ f
    (tested spec.begins_declaration c.first.ensures c.begins_declaration.ensures c.declarations-test.true) e)

pub declarations-smaller : goal.declarations-smaller
declarations-smaller c = declaration-shorter _ _ _ c.in_ok-one.ensures

pub declarations-preserved : goal.declarations-preserved
unfolding spec.more_declarations
declarations-preserved c =
    c.declarations.invariant ∙ gather-turn spec.begins_declaration spec.declaration ◌++◌ declaration-shorter _ _ _ _
    (tested spec.begins_declaration c.first.ensures c.begins_declaration.ensures c.declarations-test.true) c.in_ok-one.ensures
    ∙ ap (λ ds. spec.more_declarations ds c.in_ok-one.behind.now)
    (sym (c.in_ok-declare.ensures ∙ ap (λ xs. entries_of c.declarations.list.items ++ with_sort c.in_ok-one.one.sort (numbers_of xs))
    c.deref.ensures.value))

pub returns : goal.returns
unfolding spec.more_declarations
returns c = c.declarations.invariant
    ∙ gather-end spec.begins_declaration spec.declaration ◌++◌ _ _
    (tested spec.begins_declaration c.first.ensures c.begins_declaration.ensures c.declarations-test.false)
