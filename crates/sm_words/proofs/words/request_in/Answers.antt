use Rattle.clap.specs.Matches.{first_value, found_of}
use Rattle.sm_words.proofs.Asking.{asks_check, asks_gen, asks_verify, asks_replay, asks_print, asks_suggest, asks_explain, asks_batch, asks_trim}
use Rattle.sm_words.proofs.words.request_in.Goals as goal

pub returns-in-Check-clause-ok : goal.returns-in-Check-clause-ok
returns-in-Check-clause-ok c given free texts =
    (asks_check c.args.verb given
    (first_value (found_of c.args.matches.now)) c.check_request.result c.in-Check.is free
    texts c.check_request.ensures.ok c.check_request.ensures.usage).ok

pub returns-in-Check-clause-usage : goal.returns-in-Check-clause-usage
returns-in-Check-clause-usage c given free texts =
    (asks_check c.args.verb given
    (first_value (found_of c.args.matches.now)) c.check_request.result c.in-Check.is free
    texts c.check_request.ensures.ok c.check_request.ensures.usage).usage

pub returns-in-Verify-clause-ok : goal.returns-in-Verify-clause-ok
returns-in-Verify-clause-ok c given free texts =
    (asks_verify c.args.verb given
    (first_value (found_of c.args.matches.now)) c.verify_request.result c.in-Verify.is free
    texts c.verify_request.ensures.ok c.verify_request.ensures.usage).ok

pub returns-in-Verify-clause-usage : goal.returns-in-Verify-clause-usage
returns-in-Verify-clause-usage c given free texts =
    (asks_verify c.args.verb given
    (first_value (found_of c.args.matches.now)) c.verify_request.result c.in-Verify.is free
    texts c.verify_request.ensures.ok c.verify_request.ensures.usage).usage

pub returns-in-Replay-clause-ok : goal.returns-in-Replay-clause-ok
returns-in-Replay-clause-ok c given free texts =
    (asks_replay c.args.verb given
    (first_value (found_of c.args.matches.now)) c.replay_request.result c.in-Replay.is free
    texts c.replay_request.ensures.ok c.replay_request.ensures.usage).ok

pub returns-in-Replay-clause-usage : goal.returns-in-Replay-clause-usage
returns-in-Replay-clause-usage c given free texts =
    (asks_replay c.args.verb given
    (first_value (found_of c.args.matches.now)) c.replay_request.result c.in-Replay.is free
    texts c.replay_request.ensures.ok c.replay_request.ensures.usage).usage

pub returns-in-Print-clause-ok : goal.returns-in-Print-clause-ok
returns-in-Print-clause-ok c given free texts =
    (asks_print c.args.verb given
    (first_value (found_of c.args.matches.now)) c.print_request.result c.in-Print.is free
    texts c.print_request.ensures.ok c.print_request.ensures.usage).ok

pub returns-in-Print-clause-usage : goal.returns-in-Print-clause-usage
returns-in-Print-clause-usage c given free texts =
    (asks_print c.args.verb given
    (first_value (found_of c.args.matches.now)) c.print_request.result c.in-Print.is free
    texts c.print_request.ensures.ok c.print_request.ensures.usage).usage

pub returns-in-Suggest-clause-ok : goal.returns-in-Suggest-clause-ok
returns-in-Suggest-clause-ok c given free texts =
    (asks_suggest c.args.verb given
    (first_value (found_of c.args.matches.now)) c.suggest_request.result c.in-Suggest.is free
    texts c.suggest_request.ensures.ok c.suggest_request.ensures.usage).ok

pub returns-in-Suggest-clause-usage : goal.returns-in-Suggest-clause-usage
returns-in-Suggest-clause-usage c given free texts =
    (asks_suggest c.args.verb given
    (first_value (found_of c.args.matches.now)) c.suggest_request.result c.in-Suggest.is free
    texts c.suggest_request.ensures.ok c.suggest_request.ensures.usage).usage

pub returns-in-Gen-clause-ok : goal.returns-in-Gen-clause-ok
returns-in-Gen-clause-ok c given free texts =
    (asks_gen c.args.verb given
    (first_value (found_of c.args.matches.now)) c.gen_request.result c.in-Gen.is free
    texts c.gen_request.ensures.ok c.gen_request.ensures.usage).ok

pub returns-in-Gen-clause-usage : goal.returns-in-Gen-clause-usage
returns-in-Gen-clause-usage c given free texts =
    (asks_gen c.args.verb given
    (first_value (found_of c.args.matches.now)) c.gen_request.result c.in-Gen.is free
    texts c.gen_request.ensures.ok c.gen_request.ensures.usage).usage

pub returns-in-Explain-clause-ok : goal.returns-in-Explain-clause-ok
returns-in-Explain-clause-ok c given free texts =
    (asks_explain c.args.verb given
    (first_value (found_of c.args.matches.now)) c.explain_request.result c.in-Explain.is free
    texts c.explain_request.ensures.ok c.explain_request.ensures.usage).ok

pub returns-in-Explain-clause-usage : goal.returns-in-Explain-clause-usage
returns-in-Explain-clause-usage c given free texts =
    (asks_explain c.args.verb given
    (first_value (found_of c.args.matches.now)) c.explain_request.result c.in-Explain.is free
    texts c.explain_request.ensures.ok c.explain_request.ensures.usage).usage

pub returns-in-Batch-clause-ok : goal.returns-in-Batch-clause-ok
returns-in-Batch-clause-ok c given free texts =
    (asks_batch c.args.verb given
    (first_value (found_of c.args.matches.now)) c.batch_request.result c.in-Batch.is free
    texts c.batch_request.ensures.ok c.batch_request.ensures.usage).ok

pub returns-in-Batch-clause-usage : goal.returns-in-Batch-clause-usage
returns-in-Batch-clause-usage c given free texts =
    (asks_batch c.args.verb given
    (first_value (found_of c.args.matches.now)) c.batch_request.result c.in-Batch.is free
    texts c.batch_request.ensures.ok c.batch_request.ensures.usage).usage

pub returns-in-Trim-clause-ok : goal.returns-in-Trim-clause-ok
returns-in-Trim-clause-ok c given free texts =
    (asks_trim c.args.verb given
    (first_value (found_of c.args.matches.now)) c.trim_request.result c.in-Trim.is free
    texts c.trim_request.ensures.ok c.trim_request.ensures.usage).ok

pub returns-in-Trim-clause-usage : goal.returns-in-Trim-clause-usage
returns-in-Trim-clause-usage c given free texts =
    (asks_trim c.args.verb given
    (first_value (found_of c.args.matches.now)) c.trim_request.result c.in-Trim.is free
    texts c.trim_request.ensures.ok c.trim_request.ensures.usage).usage
