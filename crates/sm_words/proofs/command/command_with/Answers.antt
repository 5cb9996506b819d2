use Rattle.sm_words.proofs.Imports.{◌≡◌, ◌<◌, ◌≤◌, ◌+◌, ◌∙◌, ℕ, List, map, length, drop, get_or, add-one, drop-cons, ap, App, with_rule, rule_by, with_rules}
use Rattle.std.proofs.Math.ListN.{drop_of_length-le}
use Rattle.clap.specs.Simple.{app_of, new_app}
use Rattle.sm_words.specs.declared.command.Argument.{Argument}
use Rattle.sm_words.proofs.command.command_with.Goals as goal

-- one argument more
step : (app next whole : App) (xs : List Argument) (i : ℕ) (d : Argument) → i < length xs → next ≡ with_rule app (rule_by (get_or xs i d))
    → with_rules app (map rule_by (drop i xs)) ≡ whole → with_rules next (map rule_by (drop (i + 1) xs)) ≡ whole
step app next whole xs i d below is h = rw (add-one, is) (rw (drop-cons xs i d) at h)

-- no argument is left
ended : (app whole : App) (xs : List Argument) (i : ℕ) → length xs ≤ i → with_rules app (map rule_by (drop i xs)) ≡ whole → app ≡ whole
ended app whole xs i behind h = rw (drop_of_length-le xs behind) at h

pub loop-argument-preserved : goal.loop-argument-preserved
loop-argument-preserved c =
    let app = app_of c.loop-argument.command in
    step app (app_of c.in_ok-command.command) (with_rules (new_app c.args.word.now) (map rule_by c.args.arguments.now))
    c.args.arguments.now c.loop-argument.argument-index _ c.loop-argument-test.true
    (c.in_ok-command.ensures.shape c.arg_of.ensures.local ∙ ap (with_rule app) c.arg_of.ensures.rule) c.loop-argument.invariant

pub returns : goal.returns
returns c =
    ended (app_of c.loop-argument.command) (with_rules (new_app c.args.word.now) (map rule_by c.args.arguments.now))
    c.args.arguments.now c.loop-argument.argument-index c.loop-argument-test.false c.loop-argument.invariant
