-- What a step gives, by how the sum of its pair was dealt with.
use Rattle.sm_fm.proofs.Imports.{◌≡◌, ℕ, Some, List, [], ◌∷◌, ◌++◌, Result, Ok, Err, if◌then◌else◌, sym, ap, ◌∙◌, slice_get, NumError, Linear, eliminated, State, Cancels, no_form, form_at, Taking, Gives, events_left, events_of_sum, taking, TakesPair, Finishes, slice_get-get_or}
use Rattle.sm_num.specs.declared.error.NumError.TheVariants.{Beyond, Memory}
use Rattle.sm_term.specs.declared.term.TermId.{TermId}
use Rattle.sm_fm.specs.declared.step.ElimStep.{ElimStep}
use Rattle.sm_fm.specs.declared.step.ElimStep.TheVariants.{Line, End}

-- the sum of the first pair is the next event
pub gives_sum : (old mid new : State) (p : ℕ × ℕ) (atom : TermId) (result : Result ElimStep NumError) → TakesPair old mid p →
    slice_get mid.atoms.list.items mid.atom ≡ Some atom →
    Finishes mid new p atom (eliminated (form_at mid.forms.items p.0) (form_at mid.forms.items p.1) mid.atom) result →
    Gives (taking old) (taking new) result
gives_sum old mid new p atom (Ok (Line f g t kept contradiction)) takes is done =
    let settled = done.2.3 in
    record {
      number = mid.atom;
      first = form_at mid.forms.items p.0;
      second = form_at mid.forms.items p.1;
      sum = done.0;
      atoms_are = settled.atoms_are ∙ takes.atoms_are;
      atom_is = ap (λ (l : List TermId). slice_get l mid.atom) (sym takes.atoms_are) ∙ is ∙ ap Some (sym done.2.2);
      first_is =
          ap (slice_get old.forms.items) done.2.0 ∙ ap (λ (l : List (Linear ℕ)). slice_get l p.0) (sym takes.forms_are)
          ∙ slice_get-get_or mid.forms.items p.0 no_form takes.pair.pair.first;
      second_is =
          ap (slice_get old.forms.items) done.2.1 ∙ ap (λ (l : List (Linear ℕ)). slice_get l p.1) (sym takes.forms_are)
          ∙ slice_get-get_or mid.forms.items p.1 no_form takes.pair.pair.second;
      cancels = takes.pair.pair.cancels;
      sum_is = done.1;
      contradiction_is = settled.contradiction_is;
      forms_are = settled.forms_are ∙ ap (λ (l : List (Linear ℕ)). l ++ (if kept then done.0 ∷ [] else [])) takes.forms_are;
      happens =
          takes.happens ∙ ap (events_of_sum mid p) done.1 ∙ settled.happens
          ∙ sym (λ k. Cancels (done.2.0 k) (done.2.1 k) mid.atom kept contradiction ∷ events_left new);
    }
gives_sum old mid new p atom (Ok End) takes is done = absurd done.2
gives_sum old mid new p atom (Err (Beyond op y z)) takes is done = record {
  atoms_are = ap (λ (t : Taking). t.atoms) done.1 ∙ takes.atoms_are;
  forms_are = ap (λ (t : Taking). t.forms) done.1 ∙ takes.forms_are;
  happens = takes.happens ∙ ap (events_of_sum mid p) done.0;
  over = ap (λ (t : Taking). t.left) done.1;
}
gives_sum old mid new p atom (Err Memory) takes is done = tt
