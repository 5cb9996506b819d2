use Rattle.sm_replay.specs.declared.verdict.Verdict.TheVariants.{Violates}
use Rattle.sm_commands.proofs.deeper.shown_beyond.Goals as goal

pub returns-clause-shows : goal.returns-clause-shows
returns-clause-shows c =
    let found = c.requires.shown in
    record {
      asked = c.requires.asked;
      line = c.args.undecided.now.text.items;
      undecided = c.requires.undecided;
      number = c.args.shown.number;
      beyond = found.beyond;
      store = c.args.shown.input;
      violates = found.violates;
      verdict = Violates c.args.shown.name c.args.shown.index c.args.shown.clause;
      judged = found.judged;
      shows = c.in_ok-decided.ensures.shows;
    }
