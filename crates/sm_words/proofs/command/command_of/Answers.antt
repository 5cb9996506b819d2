use Rattle.sm_words.proofs.Imports.{◌≡◌, ◌∙◌, Result, Ok, Err, IfOk, refl, sym, ap, App, Command, command_of, Help, Version, About}
use Rattle.clap.specs.Simple.{app_of}
use Rattle.sm_words.specs.Command.{about_command, batch_command, check_command, explain_command, gen_command, print_command, replay_command, suggest_command, trim_command, verify_command}
use Rattle.sm_words.specs.declared.command.Verb.{Verb}
use Rattle.sm_words.specs.declared.command.Verb.TheVariants.{Check, Verify, Replay, Print, Suggest, Gen, Explain, Batch, Trim}
use Rattle.sm_words.proofs.command.command_of.Goals as goal

-- a command that is made as that of a verb
made : {E : Type 0} (r : Result Command E) (app : App) (verb named : Verb) → verb ≡ named → app ≡ command_of named
    → IfOk r (λ c. app_of c ≡ app) → IfOk r (λ c. app_of c ≡ command_of verb)
made (Ok c) app verb named is same h = h ∙ same ∙ ap command_of (sym is)
made (Err e) app verb named is same h = tt

pub returns-in-Check : goal.returns-in-Check
unfolding check_command
returns-in-Check c = made c.command_with.result _ c.args.verb Check c.in-Check.is refl c.command_with.ensures

pub returns-in-Verify : goal.returns-in-Verify
unfolding verify_command
returns-in-Verify c = made c.command_with-in-Verify.result _ c.args.verb Verify c.in-Verify.is refl c.command_with-in-Verify.ensures

pub returns-in-Replay : goal.returns-in-Replay
unfolding replay_command
returns-in-Replay c = made c.command_with-in-Replay.result _ c.args.verb Replay c.in-Replay.is refl c.command_with-in-Replay.ensures

pub returns-in-Print : goal.returns-in-Print
unfolding print_command
returns-in-Print c = made c.command_with-in-Print.result _ c.args.verb Print c.in-Print.is refl c.command_with-in-Print.ensures

pub returns-in-Suggest : goal.returns-in-Suggest
unfolding suggest_command
returns-in-Suggest c = made c.command_with-in-Suggest.result _ c.args.verb Suggest c.in-Suggest.is refl c.command_with-in-Suggest.ensures

pub returns-in-Gen : goal.returns-in-Gen
unfolding gen_command
returns-in-Gen c = made c.command_with-in-Gen.result _ c.args.verb Gen c.in-Gen.is refl c.command_with-in-Gen.ensures

pub returns-in-Explain : goal.returns-in-Explain
unfolding explain_command
returns-in-Explain c = made c.command_with-in-Explain.result _ c.args.verb Explain c.in-Explain.is refl c.command_with-in-Explain.ensures

pub returns-in-Batch : goal.returns-in-Batch
unfolding batch_command
returns-in-Batch c = made c.command_with-in-Batch.result _ c.args.verb Batch c.in-Batch.is refl c.command_with-in-Batch.ensures

pub returns-in-Trim : goal.returns-in-Trim
unfolding trim_command
returns-in-Trim c = made c.command_with-in-Trim.result _ c.args.verb Trim c.in-Trim.is refl c.command_with-in-Trim.ensures

pub returns-in-About-Help : goal.returns-in-About-Help
unfolding about_command
returns-in-About-Help c =
    let what = rw c.in-About-Help.is at c.in-About-Help.field-0-is in
    made c.command_with-in-About-Help.result _ c.args.verb (About Help) (c.in-About-Help.is ∙ ap About what) refl
    c.command_with-in-About-Help.ensures

pub returns-in-About-Version : goal.returns-in-About-Version
unfolding about_command
returns-in-About-Version c =
    let what = rw c.in-About-Version.is at c.in-About-Version.field-0-is in
    made c.command_with-in-About-Version.result _ c.args.verb (About Version) (c.in-About-Version.is ∙ ap About what) refl
    c.command_with-in-About-Version.ensures
