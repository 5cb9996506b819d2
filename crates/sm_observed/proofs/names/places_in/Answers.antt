-- A name that stands in the declarations is declared.
use Rattle.std.proofs.Common.{List, get_or, sym, ap, subst, ◌∙◌}
use Rattle.sm_syntax.specs.declared.tree.Name.{Name}
use Rattle.sm_syntax.specs.text.Parts.{sort_of}
use Rattle.sm_syntax.specs.text.Sorts.{Sorts}
use Rattle.sm_syntax.specs.declared.tree.Sort.{Sort}
use Rattle.sm_syntax.specs.declared.tree.Sort.TheVariants.{Num}
use Rattle.sm_term.specs.Sorted.{IsDeclaredIn}
use Rattle.sm_plan.proofs.StartsMade.{pairs, declared_at}
use Rattle.sm_observed.proofs.names.places_in.Goals as goal

pub slot-requires : goal.slot-requires
slot-requires c =
    let ds : List (Name × Sort) = c.deref-d-items.result.now in
    let i = c.loop-d.d-index in
    let d : Name × Sort = (record { 0 = 0 }, Num) in
    let sorts = c.loop-d.invariant.sorts ∙ c.requires
    ∙ ap (λ (l : List (Name × Sort)). sort_of (pairs l)) (sym c.deref-d-items.ensures.value) in
    subst (λ (f : Sorts). IsDeclaredIn f (get_or ds i d).0.0) (sym sorts) (declared_at ds i d c.loop-d-test.true)
