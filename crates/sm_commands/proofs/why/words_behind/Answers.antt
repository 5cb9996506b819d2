-- What is said behind an answer is what its ground gives.
use Rattle.sm_commands.proofs.Imports.{◌≡◌, ◌++◌, ℕ, List, rules, subst, parts_of, is_spelled, RestsOn, IsReason}
use Rattle.sm_commands.proofs.WhySaid.{proved_says, shown_says, stopped_says}
use Rattle.sm_replies.specs.declared.ground.Ground.{Ground}
use Rattle.sm_commands.proofs.why.words_behind.Goals as goal

pub trials_line-requires : goal.trials_line-requires
trials_line-requires c = (is_spelled (parts_of c.args.read.now.task) c.requires.spelled).runs

pub trials_line-requires-in-Stopped : goal.trials_line-requires-in-Stopped
trials_line-requires-in-Stopped c = (is_spelled (parts_of c.args.read.now.task) c.requires.spelled).runs

pub shown_ends-requires-clause-runs : goal.shown_ends-requires-clause-runs
shown_ends-requires-clause-runs c = (is_spelled (parts_of c.args.read.now.task) c.requires.spelled).runs

pub shown_ends-requires-clause-declared : goal.shown_ends-requires-clause-declared
shown_ends-requires-clause-declared c =
    let t = parts_of c.args.read.now.task in
    let r = c.args.decided.now.reply in
    (subst (λ (g : Ground). RestsOn t c.args.effort r.status r.text.items g) c.in-Input.is c.requires.ground).1

pub returns-in_ok-more-in-Proved : goal.returns-in_ok-more-in-Proved
returns-in_ok-more-in-Proved c =
    let t = parts_of c.args.read.now.task in
    let r = c.args.decided.now.reply in
    proved_says t c.args.effort r.status r.text.items c.in_ok-more-in-Proved.more.items
    (subst (λ (g : Ground). RestsOn t c.args.effort r.status r.text.items g) c.in-Proved.is c.requires.ground)
    c.in_ok-more-in-Proved.ensures

pub returns-in_ok-more-in-Input : goal.returns-in_ok-more-in-Input
returns-in_ok-more-in-Input c =
    let t = parts_of c.args.read.now.task in
    let r = c.args.decided.now.reply in
    shown_says t c.args.effort r.status r.text.items c.in_ok-more-in-Input.more.items c.in-Input.input
    (subst (λ (g : Ground). RestsOn t c.args.effort r.status r.text.items g) c.in-Input.is c.requires.ground)
    c.in_ok-more-in-Input.ensures

pub returns-in_ok-extend_from_slice-in-Stopped : goal.returns-in_ok-extend_from_slice-in-Stopped
returns-in_ok-extend_from_slice-in-Stopped c =
    let t = parts_of c.args.read.now.task in
    let r = c.args.decided.now.reply in
    let reason = c.in_ok-more-in-Stopped.more.items in
    let trials = c.in_ok-trials-in-Stopped.trials.items in
    let more = c.extend_from_slice.new.self.items in
    let printed : more ≡ reason ++ trials = search rules in
    let same : c.deref.result.now ≡ c.args.read.now.text.items = search rules in
    stopped_says t c.args.effort r.status r.text.items reason trials more c.args.read.now.text.items c.in-Stopped.stop
    (subst (λ (g : Ground). RestsOn t c.args.effort r.status r.text.items g) c.in-Stopped.is c.requires.ground)
    c.requires.spells (subst (λ (x : List ℕ). IsReason x t c.in-Stopped.stop reason) same c.in_ok-more-in-Stopped.ensures)
    c.in_ok-trials-in-Stopped.ensures printed
