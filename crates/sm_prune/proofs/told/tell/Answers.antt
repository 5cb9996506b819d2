use Rattle.sm_prune.proofs.Imports.{◌≡◌, sym, ◌∙◌, line_of, left_passes, names_term, names_form}
use Rattle.sm_prune.proofs.ToldLemmas.{marks_named}
use Rattle.sm_prune.proofs.told.tell.Goals as goal

pub returns-then-is_left : goal.returns-then-is_left
returns-then-is_left c = λ at at_forms bs lines marked.
    let l = line_of c.args.line.now in
    let t = c.is_left.ensures at at_forms bs lines marked in (
      sym c.if-is_left.true ∙ t.0,
      (
        marks_named at (λ n. names_term n l) (λ n. left_passes (names_term n) bs lines) c.is_left.new.terms.items
            c.mark_line.new.terms.items t.1.0 c.mark_line.ensures.terms,
        marks_named at_forms (λ n. names_form n l) (λ n. left_passes (names_form n) bs lines) c.is_left.new.forms.items
            c.mark_line.new.forms.items t.1.1 c.mark_line.ensures.forms,
      ),
    )

pub returns-else-is_left : goal.returns-else-is_left
returns-else-is_left c = λ at at_forms bs lines marked.
    let t = c.is_left.ensures at at_forms bs lines marked in (sym c.if-is_left.false ∙ t.0, t.1)
