use Rattle.sm_cc.proofs.Imports.{◌≡◌, ◌∙◌, refl, sym, ap, subst, same_Some, none-some, on_ok_weaker, HasElement, Tries, IsReadSettled, IsElementSettled}
use Rattle.sm_cc.specs.declared.row.Row.{Row}
use Rattle.sm_cc.specs.declared.row.Element.{Element}
use Rattle.sm_cc.proofs.ClosuresLemmas.{grows_from, row_at}
use Rattle.sm_cc.proofs.RoundsLemmas.{tries_all}
use Rattle.sm_cc.proofs.rounds.relate_element.Goals as goal

pub returns-in-Some : goal.returns-in-Some
returns-in-Some c =
    let old = c.args.c.now in
    let e = c.in-Some.e in
    let row = c.index.result.now in
    let here = row_at old c.args.i row c.requires.there c.index.ensures in
    on_ok_weaker c.relate_read.result
    (λ (h : Tries (IsReadSettled e c.args.i) old c.relate_read.new.c).
    tries_all (IsReadSettled e c.args.i) (IsElementSettled c.args.i) old c.relate_read.new.c h
    (λ (settled : IsReadSettled e c.args.i old) (x : Element) (has : HasElement old.rows.items c.args.i x).
    let same : row ≡ has.0 = same_Some row has.0 (sym here ∙ has.1) in
    let element : e ≡ x = same_Some e x (sym c.in-Some.is ∙ ap (λ (r : Row). r.element) same ∙ has.2) in
    subst (λ (y : Element). IsReadSettled y c.args.i old) element settled)) c.relate_read.ensures

pub returns-in-None : goal.returns-in-None
returns-in-None c =
    let old = c.args.c.now in
    let row = c.index.result.now in
    let here = row_at old c.args.i row c.requires.there c.index.ensures in
    record {
      grows = grows_from old c.requires.sound;
      quiet = λ same. (
        refl,
        λ (x : Element) (has : HasElement old.rows.items c.args.i x).
            let row_same : row ≡ has.0 = same_Some row has.0 (sym here ∙ has.1) in
            absurd (none-some x (sym c.in-None.is ∙ ap (λ (r : Row). r.element) row_same ∙ has.2)),
      );
    }
