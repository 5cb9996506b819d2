-- As many lines end as there are line feeds.
use Rattle.std.proofs.Common.{sym, ◌∙◌}
use Rattle.sm_files.proofs.LinesCounted.{lines_counted}
use Rattle.sm_files.proofs.trimming.line_count.Goals as goal

pub returns : goal.returns
returns c = c.feeds.ensures ∙ sym (lines_counted c.args.bytes.now)
