use Rattle.sm_words.proofs.Imports.{◌≡◌, map, drop, rule_by, with_rules}
use Rattle.clap.specs.Words.{app_of, new_app}
use Rattle.sm_words.proofs.command.command_with.Given as goal

-- what is left of the arguments leads to all of them
abbrev pub invariant-loop-argument : goal.invariant-loop-argument
invariant-loop-argument l =
    with_rules (app_of l.command) (map rule_by (drop l.argument-index l.arguments)) ≡ with_rules (new_app l.word)
    (map rule_by l.arguments)
