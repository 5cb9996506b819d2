use Rattle.std.proofs.Common.{refl, rules}
use Rattle.sm_replies.proofs.decided.violation.Goals as goal

pub returns : goal.returns
returns c =
    let w = c.in_ok-shown.ensures.text in (
      c.in_ok-shown.shown.items,
      record {
        store = c.args.input.now;
        reads = c.in_ok-shown.ensures.reads_back c.requires.named;
        gives = refl;
        members = w.0;
        compact = w.1;
        written = w.2;
      },
      search rules,
    )
