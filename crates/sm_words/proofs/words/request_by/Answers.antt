use Rattle.sm_words.proofs.Imports.{map, string_bytes}
use Rattle.sm_words.proofs.words.request_by.Goals as goal

pub returns-clause-ok : goal.returns-clause-ok
returns-clause-ok c =
    c.request_in.ensures.ok (map string_bytes c.args.words.now) c.in_ok-matches.ensures.taken c.in_ok-matches.ensures.texts

pub returns-clause-usage : goal.returns-clause-usage
returns-clause-usage c =
    c.request_in.ensures.usage (map string_bytes c.args.words.now) c.in_ok-matches.ensures.taken c.in_ok-matches.ensures.texts
