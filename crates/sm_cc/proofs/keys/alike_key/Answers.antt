-- By the row of the place.
use Rattle.sm_cc.proofs.Imports.{◌≡◌, Option, sym, ap, subst, IfOk, followed, Key, Keyed, key_told, shape_key, alike_at}
use Rattle.sm_cc.specs.declared.row.Row.{Row}
use Rattle.sm_cc.proofs.ClosuresLemmas.{row_at}
use Rattle.sm_cc.proofs.keys.alike_key.Goals as goal

pub returns : goal.returns
returns c =
    let old = c.args.c.now in
    let row = c.index.result.now in
    let at : alike_at old c.args.i ≡ shape_key row.shape =
    ap (λ (o : Option Row). followed o (λ (r : Row). shape_key r.shape)) (row_at old c.args.i row c.requires c.index.ensures) in
    subst (λ (k : Option Keyed). IfOk c.form_key.result (λ (o : Option Key). key_told o ≡ k)) (sym at) c.form_key.ensures
