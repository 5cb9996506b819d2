use Rattle.sm_words.proofs.Imports.{◌≡◌, Ok, Err, map, string_bytes, Usage}
use Rattle.sm_words.proofs.Given.{parses}
use Rattle.sm_words.proofs.words.matches_of.Goals as goal

pub returns-in-Ok-clause-taken : goal.returns-in-Ok-clause-taken
returns-in-Ok-clause-taken c =
    (parses c.in_ok-command.command c.args.verb (map string_bytes c.args.words.now)
    (Ok c.in-Ok.matches) c.in_ok-command.ensures c.in-Ok.ensures.parsed c.in-Ok.ensures.matches c.in-Ok.ensures.kinds).0

pub returns-in-Ok-clause-texts : goal.returns-in-Ok-clause-texts
returns-in-Ok-clause-texts c =
    (parses c.in_ok-command.command c.args.verb (map string_bytes c.args.words.now)
    (Ok c.in-Ok.matches) c.in_ok-command.ensures c.in-Ok.ensures.parsed c.in-Ok.ensures.matches c.in-Ok.ensures.kinds).1.texts

pub returns-in-Ok-clause-required : goal.returns-in-Ok-clause-required
returns-in-Ok-clause-required c =
    (parses c.in_ok-command.command c.args.verb (map string_bytes c.args.words.now)
    (Ok c.in-Ok.matches) c.in_ok-command.ensures c.in-Ok.ensures.parsed c.in-Ok.ensures.matches c.in-Ok.ensures.kinds).1.required

pub returns-in-Err-clause-usage : goal.returns-in-Err-clause-usage
returns-in-Err-clause-usage c = λ u.
    parses c.in_ok-command.command c.args.verb (map string_bytes c.args.words.now)
    (Err c.in-Err.error) c.in_ok-command.ensures c.in-Err.ensures.parsed c.in-Err.ensures.matches c.in-Err.ensures.kinds
    (let same : c.refusal_of.result ≡ Usage = cc in c.refusal_of.ensures same)
