-- The first facts of the path, and the denied goal behind them.
use Rattle.sm_check.proofs.Imports.{◌≡◌, ◌++◌, ℕ, List, Vec, take, min, length, ap, sym, ◌∙◌, subst, arith, BranchFact, AllStand, Fact}
use Rattle.std.proofs.Common.{Global}
use Rattle.sm_check.proofs.JobsLemmas.{cut_within, denied_none, denied_some}
use Rattle.sm_check.proofs.openings.opened.Goals as goal
use Rattle.sm_check.proofs.openings.opened.Goals.{in-Some+in_ok-copy_fact+in_ok-push, in_default}

pub returns : goal.returns
returns c = λ sorts trees facts more all stands.
    let path = c.args.path.now.list.items in
    let shared = c.args.opening.now.shared in
    let d = c.args.opening.now.denied in
    let long : c.len.result ≡ length path = omega (arith, c.args.path.now.list.ok.0, c.len.ensures) in
    let count : c.min-shared.result ≡ min shared (length path) = c.min-shared.ensures ∙ ap (λ (n : ℕ). min shared n) long in
    let cut : AllStand sorts trees c.in_ok-list.list.items (take shared facts) =
    c.in_ok-list.ensures sorts trees (take shared facts)
    (subst (λ (fs : List Fact). AllStand sorts trees (take c.min-shared.result fs) (take shared facts)) (sym c.deref.ensures.value)
    (subst (λ (n : ℕ). AllStand sorts trees (take n path) (take shared facts)) (sym count)
    (cut_within sorts trees shared path facts all))) in
    elim c.match-opening.branch [
      | in-Some+in_ok-copy_fact+in_ok-push w ↦
          subst (λ (fs : List Fact). AllStand sorts trees fs (take shared facts ++ more))
          (sym (ap (λ (v : Vec Fact Global). v.items) w.list-is ∙ w.in_ok-push.ensures.items))
          (denied_some sorts trees d w.in-Some.fact w.in_ok-copy_fact.field-0 c.in_ok-list.list.items (take shared facts) more w.in-Some.is
          (λ (k : BranchFact). w.in_ok-copy_fact.ensures sorts trees k) stands cut)
      | in_default w ↦
          subst (λ (v : Vec Fact Global). AllStand sorts trees v.items (take shared facts ++ more)) (sym w.list-is)
          (denied_none sorts trees d c.in_ok-list.list.items (take shared facts) more w.in_default.is stands cut)
    ]
