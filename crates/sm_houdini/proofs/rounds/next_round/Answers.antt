use Rattle.sm_houdini.proofs.Imports.{ℕ, Bool, List, ap, sym, ◌∙◌, subst, widens_twice, trees_in, sorts_in, choice_in, Asked, closing, owner_in, IsAskedBefore, AreKnown, all_marked, rows, holds_at}
use Rattle.std.proofs.Common.{Option, Some}
use Rattle.sm_expand.specs.Views.{dues_in}
use Rattle.sm_expand.specs.declared.due.Due.{Due}
use Rattle.sm_text.specs.Tasks.{parts_of}
use Rattle.sm_houdini.proofs.KnownLemmas.{asked_stays, left_asked, round_asked}
use Rattle.sm_houdini.proofs.RoundSteps.{round_is}
use Rattle.sm_houdini.proofs.rounds.next_round.Goals as goal

pub marks_after-requires-clause-known : goal.marks_after-requires-clause-known
marks_after-requires-clause-known g c κs within =
    let v = c.args.table.now in
    let w = c.dues_of.new.table in
    let reach = c.args.reach in
    let owners = c.args.subject.now.product.now.owners.items in
    let before = asked_stays v w c.in_ok-dues.ensures.widens reach owners c.args.before.now c.requires.before in
    let known = c.in_ok-known.ensures w reach
    (subst (λ (os : List (Option ℕ)). IsAskedBefore w reach os c.args.before.now) (sym c.as_slice-owners.ensures.value) before) in
    subst (λ (ds : List Due). AreKnown w reach ds c.deref-3.result.now) (c.deref.ensures.value ∙ sym c.deref-2.ensures.value)
    (subst (λ (fs : List Bool). AreKnown w reach c.deref.result.now fs) (sym c.deref-3.ensures.value) known)

pub returns-in_err-marks-clause-widens : goal.returns-in_err-marks-clause-widens
returns-in_err-marks-clause-widens g c =
    widens_twice c.args.table.now c.dues_of.new.table c.marks_after.new.table c.in_ok-dues.ensures.widens c.in_err-marks.ensures.widens

pub returns-in_err-next-clause-widens : goal.returns-in_err-next-clause-widens
returns-in_err-next-clause-widens g c =
    widens_twice c.args.table.now c.dues_of.new.table c.marks_after.new.table c.in_ok-dues.ensures.widens c.in_ok-marks.ensures.widens

pub returns-clause-next : goal.returns-clause-next
returns-clause-next g c =
    let w = c.dues_of.new.table in
    let t = parts_of c.args.subject.now.task.now in
    round_is t (sorts_in w) c.args.reach c.as_slice-owners.result.now (dues_in (sorts_in w) (trees_in w) c.deref-2.result.now)
    (choice_in c.args.choice.now) (choice_in c.in_ok-next.next) (rows c.in_ok-marks.marks.sites.items)
    (c.in_ok-dues.ensures.widens.sorts ∙ c.requires.knows.declared) (c.as_slice-owners.ensures.value ∙ c.requires.knows.owned)
    (ap (dues_in (sorts_in w) (trees_in w)) c.deref-2.ensures.value ∙ c.in_ok-dues.ensures.dues) c.in_ok-marks.ensures.marks
    c.in_ok-next.ensures

pub returns-clause-before : goal.returns-clause-before
returns-clause-before g c =
    let w = c.dues_of.new.table in
    let u = c.marks_after.new.table in
    let reach = c.args.reach in
    let owners = c.args.subject.now.product.now.owners.items in
    let asked : Asked = record { dues = c.in_ok-dues.field-0.list; marks = c.in_ok-marks.marks } in
    left_asked u reach owners asked c.for_next.result c.for_next.ensures.dues c.for_next.ensures.marks
    (asked_stays w u c.in_ok-marks.ensures.widens reach owners (Some asked)
    (round_asked w reach owners asked (choice_in c.args.choice.now) c.in_ok-dues.ensures.ready
    (c.in_ok-marks.ensures.marks
    ∙ (λ k. all_marked (holds_at (closing (sorts_in w) reach) (owner_in (c.as_slice-owners.ensures.value k))
    (dues_in (sorts_in w) (trees_in w) (c.deref-2.ensures.value k))) 0 (choice_in c.args.choice.now)))))

pub returns-clause-widens : goal.returns-clause-widens
returns-clause-widens g c =
    widens_twice c.args.table.now c.dues_of.new.table c.marks_after.new.table c.in_ok-dues.ensures.widens c.in_ok-marks.ensures.widens
