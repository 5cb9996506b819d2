-- The kinds of the six pairs, one after the other.
use Rattle.sm_template.proofs.Imports.{◌≡◌, ◌∙◌, List, [], ◌++◌, sym, append-nil, CopyName, on_ok, Shape, above_any}
use Rattle.sm_syntax.specs.declared.copies.CopyName.TheVariants.{O, A, B, M}
use Rattle.sm_template.proofs.FrontLemmas.{put_behind}
use Rattle.sm_template.proofs.shapes.put_all_above.Goals as goal

pub returns : goal.returns
returns c =
    let of : CopyName × CopyName → List Shape = above_any c.args.literals.now in
    let l0 = c.args.list.now.items in
    let l1 = c.put_above.new.list.items in
    let l2 = c.put_above-2.new.list.items in
    let l3 = c.put_above-3.new.list.items in
    let l4 = c.put_above-4.new.list.items in
    let l5 = c.put_above-5.new.list.items in
    let l6 = c.put_above-6.new.list.items in
    let r6 : List Shape = [] in
    let r5 = of (B, M) ++ r6 in
    let r4 = of (A, M) ++ r5 in
    let r3 = of (A, B) ++ r4 in
    let r2 = of (O, M) ++ r3 in
    let r1 = of (O, B) ++ r2 in
    on_ok c.put_above-6.result c.put_above-6.ensures (λ (last : l6 ≡ l5 ++ of (B, M)).
    sym (append-nil l6)
    ∙ put_behind l5 l6 (of (B, M)) r6 last
    ∙ put_behind l4 l5 (of (A, M)) r5 c.in_ok-put_above-5.ensures
    ∙ put_behind l3 l4 (of (A, B)) r4 c.in_ok-put_above-4.ensures
    ∙ put_behind l2 l3 (of (O, M)) r3 c.in_ok-put_above-3.ensures
    ∙ put_behind l1 l2 (of (O, B)) r2 c.in_ok-put_above-2.ensures
    ∙ put_behind l0 l1 (of (O, A)) r1 c.in_ok-put_above.ensures)
