-- The templates of one name more.
use Rattle.sm_template.proofs.Imports.{◌∙◌, List, get_or, refl, sym, ap, subst, flat_map, take_all, Name, Sorts, Sort, Num, sorts_in, grows-not, grows-twice, AreOutputsDeclared, AddsForms, name_templates}
use Rattle.sm_template.proofs.AddedLemmas.{added_none}
use Rattle.sm_template.proofs.TemplatesMade.{names_of, name_at, name_added}
use Rattle.sm_template.proofs.site_templates.put_names.Goals as goal

pub loop-d-init : goal.loop-d-init
loop-d-init c =
    let v = c.args.table.now in
    record { grows = grows-not v v refl; added = added_none v c.args.list.now.items }

pub put_name-requires : goal.put_name-requires
put_name-requires c =
    let sorts = sorts_in c.args.table.now in
    let ds : List (Name × Sort) = c.deref-d-items.result.now in
    let i = c.loop-d.d-index in
    let d : Name × Sort = (record { 0 = 0 }, Num) in
    let declared : AreOutputsDeclared sorts (names_of ds) =
    subst (λ (l : List (Name × Sort)). AreOutputsDeclared sorts (names_of l)) (sym c.deref-d-items.ensures.value) c.requires.declared in
    record {
      declared =
          ap (λ (f : Sorts). f (get_or ds i d).0.0) c.loop-d.invariant.grows.sorts
          ∙ name_at sorts ds i d declared c.loop-d-test.true;
    }

pub loop-d-preserved : goal.loop-d-preserved
loop-d-preserved c =
    let u = c.args.table.now in
    let v = c.loop-d.table in
    let w = c.put_name.new.table in
    let old = c.loop-d.invariant in
    let d : Name × Sort = (record { 0 = 0 }, Num) in
    record {
      grows = grows-twice u v w old.grows c.put_name.ensures.grows;
      added = name_added u v w c.args.literals.now c.deref-d-items.result.now c.loop-d.d-index d c.args.list.now.items
          c.loop-d.list.items c.put_name.new.list.items c.loop-d-test.true old.added c.in_ok-put_name.ensures.added;
    }

pub returns-clause-added : goal.returns-clause-added
returns-clause-added c =
    subst (AddsForms c.args.table.now c.loop-d.table c.args.list.now.items c.loop-d.list.items)
    (ap (λ (l : List (Name × Sort)). flat_map (name_templates c.args.literals.now) (names_of l))
    (take_all c.loop-d.d-index c.deref-d-items.result.now c.loop-d-test.false ∙ c.deref-d-items.ensures.value))
    c.loop-d.invariant.added
