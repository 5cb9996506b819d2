-- One declared name more, which is of the set or isn't.
use Rattle.sm_template.proofs.Imports.{◌∙◌, ℕ, true, false, List, get_or, ap, Name, Sort, Num}
use Rattle.sm_deps.specs.Members.{members}
use Rattle.sm_template.proofs.TemplatesMade.{names_of}
use Rattle.sm_template.proofs.WrittenLemmas.{contained, declared_more, declared_less}
use Rattle.sm_template.proofs.written.declared_in.Goals as goal
use Rattle.sm_template.proofs.written.declared_in.Goals.{then-contains+in_ok-push, else-contains}

pub loop-d-preserved : goal.loop-d-preserved
loop-d-preserved c =
    let ds : List (Name × Sort) = c.deref-d-items.result.now in
    let i = c.loop-d.d-index in
    let d : Name × Sort = (record { 0 = 0 }, Num) in
    let set = c.args.set.now in
    let test = λ (e : ℕ × Sort). members set e.0 in
    let x = (get_or ds i d).0.0 in
    let old = c.loop-d.list.items in
    elim c.if-contains.branch [
      | then-contains+in_ok-push w ↦
          ap (λ l. names_of l.items) w.list-is
          ∙ ap names_of w.in_ok-push.ensures.items
          ∙ declared_more test ds old i d c.loop-d-test.true c.loop-d.invariant
          (contained set x c.contains.result c.contains.ensures true w.if-contains.true)
      | else-contains w ↦
          ap (λ l. names_of l.items) w.list-is
          ∙ declared_less test ds old i d c.loop-d-test.true c.loop-d.invariant
          (contained set x c.contains.result c.contains.ensures false w.if-contains.false)
    ]
