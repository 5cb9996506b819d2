use Rattle.sm_term.proofs.Imports.{◌≡◌, ◌≤◌, length, Some, IfOk, slice_get, sym, ap, ◌∙◌, subst, arith, slice_get-get_or, trees_in}
use Rattle.sm_term.proofs.ExpressionLemmas.{name_stored, name_started}
use Rattle.sm_term.proofs.symbolic.named_term.Goals as goal

pub returns-then-place-len-clause-made : goal.returns-then-place-len-clause-made
returns-then-place-len-clause-made c =
    name_stored (trees_in c.args.table.now) c.args.s.now c.args.x.0 _ c.requires.within (slice_get-get_or c.args.s.now.list.items c.args.x.0 c.index.result.now (omega arith) ∙ ap Some (sym c.index.ensures))

pub returns-clause-made : goal.returns-clause-made
returns-clause-made c =
    let past : length c.args.s.now.list.items ≤ c.args.x.0 = omega arith in
    subst (λ u. IfOk c.add.result (λ id. slice_get (trees_in c.add.new.self) id.0 ≡ Some u)) (name_started (trees_in c.args.table.now) c.args.s.now c.args.x.0 past) c.add.ensures.stored
