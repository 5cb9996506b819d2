-- By the row of the place.
use Rattle.sm_cc.proofs.Imports.{◌≡◌, Option, sym, ap, subst, List, ◌∙◌, IfOk, followed, Key, Keyed, key_told, row_key, headed_at}
use Rattle.sm_cc.specs.declared.log.Equation.{Equation}
use Rattle.sm_cc.specs.declared.row.Row.{Row}
use Rattle.sm_cc.proofs.ClosuresLemmas.{row_at}
use Rattle.sm_cc.proofs.keys.head_key.Goals as goal

pub returns : goal.returns
returns c =
    let old = c.args.c.now in
    let row = c.index.result.now in
    let at : headed_at old c.args.i ≡ row_key c.deref.result.now row =
    ap (λ (o : Option Row). followed o (row_key old.roots.items)) (row_at old c.args.i row c.requires c.index.ensures)
    ∙ ap (λ (rs : List Equation). row_key rs row) (sym c.deref.ensures.value) in
    subst (λ (k : Option Keyed). IfOk c.argument_key.result (λ (o : Option Key). key_told o ≡ k)) (sym at) c.argument_key.ensures
