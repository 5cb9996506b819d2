-- What `clap` knows of each command. Public clauses cite it.
use Rattle.std.specs.Prelude.{true, Some, codes, List, [], ◌∷◌}
use Rattle.clap.specs.Simple.{App, new_app, new_rule, with_rule}
use Rattle.clap.specs.Walk.{Rule, Text}
use Rattle.clap.specs.declared.builder.action.ArgAction.TheVariants.{Set, SetTrue}
use Rattle.sm_words.specs.declared.about.About.{About}
use Rattle.sm_words.specs.declared.about.About.TheVariants.{Help, Version}
use Rattle.sm_words.specs.declared.command.Argument.{Argument}
use Rattle.sm_words.specs.declared.command.Argument.TheVariants.{Required, Optional, Valued, Flag}
use Rattle.sm_words.specs.declared.command.Verb.{Verb}
use Rattle.sm_words.specs.declared.command.Verb.TheVariants.{Check, Verify, Replay, Print, Suggest, Gen, Explain, Batch, Trim}
use Rattle.sm_words.specs.declared.command.Verb.TheVariants as verb

-- a word that has to be there
abbrev pub required_word : Text → Rule
required_word id = record (new_rule id) { required = true; action = Some Set }

-- a word that may be there
abbrev pub optional_word : Text → Rule
optional_word id = record (new_rule id) { action = Some Set }

-- an option with a value
abbrev pub option_word : Text → Rule
option_word id = record (new_rule id) { long = Some id; action = Some Set }

-- an option without a value
abbrev pub flag_word : Text → Rule
flag_word id = record (new_rule id) { long = Some id; action = Some SetTrue }

-- an argument
abbrev pub rule_by : Argument → Rule
rule_by (Required id) = required_word id.now
rule_by (Optional id) = optional_word id.now
rule_by (Valued id) = option_word id.now
rule_by (Flag id) = flag_word id.now

-- a command with arguments, in turn
abbrev pub with_rules : App → List Rule → App
with_rules command [] = command
with_rules command (rule ∷ rest) = with_rules (with_rule command rule) rest

-- a command with the options of a search
abbrev pub with_effort : App → App
with_effort command =
    with_rule (with_rule (with_rule (with_rule command
    (option_word (codes "steps")))
    (option_word (codes "turns")))
    (option_word (codes "workers")))
    (flag_word (codes "exact"))

-- a command with the options of a search and with a limit of time
abbrev pub with_limit : App → App
with_limit command = with_rule (with_effort command) (option_word (codes "seconds"))

-- two words that have to be there, the options of a search and a limit of time
abbrev pub search_command : Text → Text → Text → App
search_command word first second =
    with_limit (with_rule (with_rule (new_app word) (required_word first)) (required_word second))

-- check TASK PROOF [--steps N] [--turns N] [--workers N] [--exact] [--seconds N] [--deeper] [--why]
unfoldable pub check_command : App
check_command =
    let command = search_command (codes "check") (codes "TASK") (codes "PROOF") in
    with_rule (with_rule command (flag_word (codes "deeper"))) (flag_word (codes "why"))

-- verify TASK PROOF [--workers N]
unfoldable pub verify_command : App
verify_command =
    with_rule (with_rule (with_rule (new_app (codes "verify"))
    (required_word (codes "TASK")))
    (required_word (codes "PROOF")))
    (option_word (codes "workers"))

-- replay TASK INPUT [--turns N] [--workers N]
unfoldable pub replay_command : App
replay_command =
    with_rule (with_rule (with_rule (with_rule (new_app (codes "replay"))
    (required_word (codes "TASK")))
    (required_word (codes "INPUT")))
    (option_word (codes "turns")))
    (option_word (codes "workers"))

-- print TASK [--copy COPY]
unfoldable pub print_command : App
print_command =
    with_rule (with_rule (new_app (codes "print"))
    (required_word (codes "TASK")))
    (option_word (codes "copy"))

-- suggest TASK [--steps N] [--turns N] [--workers N] [--exact] [--seconds N]
unfoldable pub suggest_command : App
suggest_command = with_limit (with_rule (new_app (codes "suggest")) (required_word (codes "TASK")))

-- gen SEED SIZE [--steps N] [--turns N] [--workers N] [--exact] [--seconds N]
unfoldable pub gen_command : App
gen_command = search_command (codes "gen") (codes "SEED") (codes "SIZE")

-- explain TASK [INPUT] [--turns N]
unfoldable pub explain_command : App
explain_command =
    with_rule (with_rule (with_rule (new_app (codes "explain"))
    (required_word (codes "TASK")))
    (optional_word (codes "INPUT")))
    (option_word (codes "turns"))

-- batch LIST [--cache N] [--steps N] [--turns N] [--workers N] [--exact]
unfoldable pub batch_command : App
batch_command =
    with_effort (with_rule (with_rule (new_app (codes "batch"))
    (required_word (codes "LIST")))
    (option_word (codes "cache")))

-- trim TASK PROOF OUT
unfoldable pub trim_command : App
trim_command =
    with_rule (with_rule (with_rule (new_app (codes "trim"))
    (required_word (codes "TASK")))
    (required_word (codes "PROOF")))
    (required_word (codes "OUT"))

-- help, or version
unfoldable pub about_command : About → App
about_command Help = new_app (codes "help")
about_command Version = new_app (codes "version")

-- what `clap` knows of a command
abbrev pub command_of : Verb → App
command_of Check = check_command
command_of Verify = verify_command
command_of Replay = replay_command
command_of Print = print_command
command_of Suggest = suggest_command
command_of Gen = gen_command
command_of Explain = explain_command
command_of Batch = batch_command
command_of Trim = trim_command
command_of (verb.About what) = about_command what
