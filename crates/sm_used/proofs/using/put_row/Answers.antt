-- Of a line that is none of a certificate nothing is asked.
use Rattle.sm_used.proofs.UsedLemmas.{goes_once, none_asked}
use Rattle.sm_used.proofs.using.put_row.Goals as goal

pub returns-in_ok-put_plain-in_default : goal.returns-in_ok-put_plain-in_default
returns-in_ok-put_plain-in_default c = λ lines know. (
  c.in_ok-put_plain-in_default.ensures.know lines (goes_once c.args.row.now.line c.in_default.not-Cert) know,
  λ e. none_asked c.args.row.now.facts c.args.row.now.line lines c.in_default.not-Cert,
)
