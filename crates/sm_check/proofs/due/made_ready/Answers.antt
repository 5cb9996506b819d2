-- The path is cut, and grows by what is the thing's own.
use Rattle.sm_check.proofs.Imports.{List, ◌++◌, ◌∷◌, [], ◌≤◌, length, take, sym, ap, ◌∙◌, subst, as_facts, AllStand, Fact, forms_in, AreFormsReady, Formulas, WaitingStands, shared_by, IsMadeReady, Waiting}
use Rattle.sm_check.specs.declared.pending.Due.TheVariants as due
use Rattle.sm_check.proofs.PendingLemmas.{stand_cut, state_turn, branch_turn}
use Rattle.sm_check.proofs.due.made_ready.Goals as goal

pub returns-in_ok-add_forms-in-State-2-clause-stand : goal.returns-in_ok-add_forms-in-State-2-clause-stand
returns-in_ok-add_forms-in-State-2-clause-stand c sorts trees facts p all sorted short waits =
    let k = c.in-State in
    let path = c.add_forms-in-State.new.path.list.items in
    let front = take k.shared facts in
    let cut = subst (λ (l : List Fact). AllStand sorts trees l front) (sym c.truncate.ensures.items)
    (stand_cut sorts trees k.shared c.args.path.now.list.items facts all) in
    let one = subst (λ (f : Formulas). AreFormsReady sorts trees f.list.items →
    AllStand sorts trees c.add_forms.new.path.list.items (front ++ as_facts (forms_in sorts trees f.list.items)))
    c.as_ref.ensures (c.in_ok-add_forms-in-State.ensures sorts trees front cut) in
    subst (λ (w : Waiting). IsMadeReady sorts trees facts path (shared_by w) (due.State k.state k.above) p) (sym k.is)
    (state_turn sorts trees facts path p k.shared k.kept k.more k.state k.above sorted
    (subst (λ (w : Waiting). shared_by w ≤ length facts) k.is short)
    (subst (λ (w : Waiting). WaitingStands sorts trees facts w p) k.is waits)
    (λ first second. c.in_ok-add_forms-in-State-2.ensures sorts trees (front ++ as_facts (forms_in sorts trees k.kept.value.list.items)) (one first) second))

pub returns-in_ok-push-in-Branch-clause-stand : goal.returns-in_ok-push-in-Branch-clause-stand
returns-in_ok-push-in-Branch-clause-stand c sorts trees facts p all sorted short waits =
    let k = c.in-Branch in
    let path = c.push.new.self.items in
    subst (λ (w : Waiting). IsMadeReady sorts trees facts path (shared_by w) (due.Branch k.stores k.splits) p) (sym k.is)
    (branch_turn sorts trees facts c.args.path.now.list.items path p k.shared k.fact k.stores k.splits sorted
    (subst (λ (w : Waiting). shared_by w ≤ length facts) k.is short)
    (subst (λ (w : Waiting). WaitingStands sorts trees facts w p) k.is waits) all
    (c.in_ok-push-in-Branch.ensures.items ∙ ap (λ (l : List Fact). l ++ k.fact ∷ []) c.truncate-in-Branch.ensures.items))
