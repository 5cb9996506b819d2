-- A state waits, and its facts stand.
use Rattle.sm_check.proofs.Imports.{◌≡◌, Option, Some, List, [], ◌∷◌, length, reverse, refl, sym, ap, ◌∙◌, subst, Copy, Condition, Code, sort_of, sorted_outputs, task_of, Sorts, Assertion, trees_in, sorts_in, AreBefore, TermId, parts_of, as_facts, forms_in, state_in, RowsStand, AreRowsReady, AllPending, AreWaitingReady, Waiting, terms_in, assumed_same}
use Rattle.std.proofs.Math.Path.{fun_ext}
use Rattle.sm_syntax.specs.trees.Copies.{of_copy}
use Rattle.sm_syntax.specs.trees.Programs.{declared_of}
use Rattle.sm_syntax.specs.trees.Views.{code_of}
use Rattle.sm_plan.specs.States as plain
use Rattle.sm_plan.specs.States.{State, start_of}
use Rattle.sm_proof.specs.Passing as passing
use Rattle.sm_check.specs.declared.pending.Due.TheVariants as due
use Rattle.sm_check.specs.FormRows.{FormRow}
use Rattle.sm_check.specs.Walks as walk
use Rattle.sm_check.proofs.PendingLemmas.{forms_sorted}
use Rattle.sm_check.proofs.StartLemmas.{numbered_walk, no_rows, no_rows_ready}
use Rattle.sm_check.proofs.start.start.Goals as goal

pub invariant_of-result : goal.invariant_of-result
invariant_of-result c =
    let table = c.start_state.new.table in
    let sorts = sorts_in table in
    let trees = trees_in table in
    let declared = declared_of c.args.task.now.shared.decls in
    let same : sorts ≡ sort_of declared = c.start_state.ensures.widens.sorts ∙ c.in_ok-table.ensures.sorts in
    record {
      numbered =
          subst (λ (f : Sorts). walk.AreNumbered f c.count_of.result) (sym same)
          (numbered_walk declared c.count_of.result c.requires.checkable.numbered c.count_of.ensures.count c.count_of.ensures.fit);
      named = subst (λ (ts : List TermId). AreBefore (length trees) ts) (sym c.new-2.ensures.items) tt;
      rows = subst (λ (rows : List FormRow). AreRowsReady sorts trees rows) (sym c.new-3.ensures.items) (no_rows_ready sorts trees);
      first = c.in_ok-state.ensures.ready;
      later = subst (λ (ws : List Waiting). AreWaitingReady sorts trees ws) (sym c.new-4.ensures.items) tt;
    }

pub returns-clause-walks : goal.returns-clause-walks
returns-clause-walks c =
    let table = c.start_state.new.table in
    let sorts = sorts_in table in
    let trees = trees_in table in
    let task = c.args.task.now in
    let parts = parts_of task in
    let st = plain.start_state (task_of parts) in
    let held = c.in_ok-state.state in
    let fs = forms_in sorts trees c.in_ok-state.facts.list.items in
    let outputs = sorted_outputs parts.declared parts.outputs in
    let program : Copy → Code = λ (d : Copy). code_of (of_copy c.args.programs.now d) in
    let is : state_in sorts trees fs held ≡ st =
    c.in_ok-state.ensures.start
    ∙ ap (λ (b : Option Condition). start_of b outputs program) (assumed_same c.as_ref.result task.assumed c.as_ref.ensures.value)
    ∙ ap (start_of parts.assumed outputs) (fun_ext c.requires.filled) in
    let facts : fs ≡ st.facts = ap (λ (s : State). s.facts) is in
    record {
      nodes = refl;
      terms = ap (λ (ts : List TermId). terms_in trees ts) c.new-2.ensures.items;
      forms = subst (λ (rows : List FormRow). RowsStand sorts trees rows []) (sym c.new-3.ensures.items) (no_rows sorts trees);
      pending = record {
        facts = as_facts fs;
        stand = c.in_ok-path.ensures sorts trees c.in_ok-state.ensures.facts;
        sorted = forms_sorted sorts trees c.in_ok-state.facts.list.items c.in_ok-state.ensures.facts;
        all =
            subst
            (λ (ws : List Waiting). AllPending sorts trees (as_facts fs) (Some (due.State held 0)) (reverse ws) (passing.Due st 0 ∷ []))
            (sym c.new-4.ensures.items)
            ((sym (ap as_facts facts), ap (λ (l : List Assertion). state_in sorts trees l held) (sym facts) ∙ is, refl), tt);
      };
    }
