-- A text is refused with at most one error, and with none where it spells a task.
use Rattle.sm_task.proofs.Imports.{◌≡◌, inl, inr, sym, ap, ◌∙◌, Some, Refusal, first_refusal, AreTasks, whole_text, error_of, from_text}
use Rattle.sm_text.proofs.Complete.Tasks as text
use Rattle.sm_text.proofs.FirstFault.Faultless.{no_fault_in_grammar}
use Rattle.sm_text.proofs.FirstFault.Unique.{one_first_fault}
use Rattle.sm_task.specs.Laws.{OneCondition, FaultOrCondition, OneRefusal, TaskOrRefusal}
use Rattle.sm_task.proofs.Parsing.{none_refusal}

same_refusal : (r s : Refusal) → Some r ≡ Some s → r ≡ s
same_refusal r s e = cc

pub one_condition : OneCondition
one_condition bytes r s (t, g, e) (u, h, f) =
    same_refusal r s (sym e ∙ ap first_refusal (text.one_parse bytes t u g h) ∙ f)

pub fault_or_condition : FaultOrCondition
fault_or_condition bytes r x (t, g, e) fault = no_fault_in_grammar bytes t x g fault

pub one_refusal : OneRefusal
one_refusal bytes e f (inl (x, first, p)) (inl (y, other, q)) =
    p ∙ ap from_text (one_first_fault AreTasks (whole_text bytes) x y first other) ∙ sym q
one_refusal bytes e f (inl (x, first, p)) (inr (r, refused, q)) = absurd (fault_or_condition bytes r x refused first.stands)
one_refusal bytes e f (inr (r, refused, p)) (inl (x, first, q)) = absurd (fault_or_condition bytes r x refused first.stands)
one_refusal bytes e f (inr (r, refused, p)) (inr (s, other, q)) = p ∙ ap error_of (one_condition bytes r s refused other) ∙ sym q

pub task_or_refusal : TaskOrRefusal
task_or_refusal bytes t e spells (inl (x, first, p)) = no_fault_in_grammar bytes t x spells.text first.stands
task_or_refusal bytes t e spells (inr (r, (u, g, f), p)) =
    none_refusal r (sym spells.valid ∙ ap first_refusal (text.one_parse bytes t u spells.text g) ∙ f)
