-- What is found of the lines, and before it of the splits.
use Rattle.sm_cert.proofs.Imports.{◌≡◌, nat_lt, None, false, refl, sym, ap, ◌∙◌, subst, trees_in, sorts_in, CertFault, first_of_three, splits_above, bad_line, Refused, refused, certificate_in, FaultTells}
use Rattle.std.specs.Prelude.{Option}
use Rattle.sm_cert.proofs.CertificateSound.{closes}
use Rattle.sm_cert.proofs.CheckLemmas.{three_sound}
use Rattle.sm_cert.proofs.TreeLemmas.{err_is, refused_deep, refused_flat}
use Rattle.sm_cert.proofs.check.check_tree.Goals as goal

pub returns-then-is_deep-clause-err : goal.returns-then-is_deep-clause-err
returns-then-is_deep-clause-err g c = λ facts all fine.
    let sorts = sorts_in c.args.table.now in
    let trees = trees_in c.args.table.now in
    let theories = first_of_three (g.E.Theory.adds c.args.euf.now) (g.L.Theory.adds c.args.lia.now) (g.R.Theory.adds c.args.rows.now)
    sorts in
    let tree = certificate_in trees c.args.tree.now in
    refused_deep theories sorts facts tree (sym c.if-is_deep.true ∙ c.is_deep.ensures.deep trees)

pub returns-in_err-check_at-clause-err : goal.returns-in_err-check_at-clause-err
returns-in_err-check_at-clause-err g c = λ facts all fine.
    let sorts = sorts_in c.args.table.now in
    let trees = trees_in c.args.table.now in
    let theories = first_of_three (g.E.Theory.adds c.args.euf.now) (g.L.Theory.adds c.args.lia.now) (g.R.Theory.adds c.args.rows.now)
    sorts in
    let tree = certificate_in trees c.args.tree.now in
    let flat : false ≡ nat_lt 1000 (splits_above tree) = sym c.if-is_deep.false ∙ c.is_deep.ensures.deep trees in
    let stand = c.in_ok-path.ensures sorts trees facts all in
    let x = c.in_err-check_at.field-0.0 in
    err_is (λ (f : CertFault). FaultTells f (refused theories sorts facts tree)) c.from_residual-in_err-check_at.result x
    c.from_residual-in_err-check_at.ensures.1
    (subst (λ (o : Option Refused). FaultTells x o) (sym (refused_flat theories sorts facts tree flat))
    (c.in_err-check_at.ensures.err facts 0 stand fine refl))

pub returns-clause-ok : goal.returns-clause-ok
returns-clause-ok g c = λ facts all fine.
    let sorts = sorts_in c.args.table.now in
    let trees = trees_in c.args.table.now in
    let theories = first_of_three (g.E.Theory.adds c.args.euf.now) (g.L.Theory.adds c.args.lia.now) (g.R.Theory.adds c.args.rows.now)
    sorts in
    let tree = certificate_in trees c.args.tree.now in
    let flat : false ≡ nat_lt 1000 (splits_above tree) = sym c.if-is_deep.false ∙ c.is_deep.ensures.deep trees in
    let stand = c.in_ok-path.ensures sorts trees facts all in
    refused_flat theories sorts facts tree flat ∙ ap bad_line (c.in_ok-check_at.ensures.ok facts 0 stand fine refl).0

pub returns-clause-sound : goal.returns-clause-sound
returns-clause-sound g c = λ facts all fine.
    let sorts = sorts_in c.args.table.now in
    let trees = trees_in c.args.table.now in
    let theories = first_of_three (g.E.Theory.adds c.args.euf.now) (g.L.Theory.adds c.args.lia.now) (g.R.Theory.adds c.args.rows.now)
    sorts in
    let tree = certificate_in trees c.args.tree.now in
    let flat : false ≡ nat_lt 1000 (splits_above tree) = sym c.if-is_deep.false ∙ c.is_deep.ensures.deep trees in
    let stand = c.in_ok-path.ensures sorts trees facts all in
    let sound = three_sound (g.E.Theory.adds c.args.euf.now) (g.L.Theory.adds c.args.lia.now) (g.R.Theory.adds c.args.rows.now)
    (g.met.E.Theory.holds c.args.euf.now) (g.met.L.Theory.holds c.args.lia.now) (g.met.R.Theory.holds c.args.rows.now)
    (g.met.E.Theory.sorted c.args.euf.now) (g.met.L.Theory.sorted c.args.lia.now) (g.met.R.Theory.sorted c.args.rows.now) sorts in
    let closed : refused theories sorts facts tree ≡ None =
    refused_flat theories sorts facts tree flat ∙ ap bad_line (c.in_ok-check_at.ensures.ok facts 0 stand fine refl).0 in
    let terms = c.is_deep.ensures.named c.if-is_deep.false sorts trees c.len.ensures.sorted c.requires in
    closes sorts theories facts tree sound fine terms closed
