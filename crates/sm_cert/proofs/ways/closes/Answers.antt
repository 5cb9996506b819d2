use Rattle.sm_cert.proofs.Imports.{◌≡◌, sym, subst, trees_in, sorts_in, line_in, CertLine, ways_with, is_closed}
use Rattle.sm_cert.proofs.ways.closes.Goals as goal

pub returns-in-Close : goal.returns-in-Close
returns-in-Close c = λ facts added all.
    subst (λ (line : CertLine). c.closes_by.result ≡ is_closed
    (ways_with (sorts_in c.args.table.now) facts added (line_in (trees_in c.args.table.now) line)))
    (sym c.in-Close.is) (c.closes_by.ensures facts added all)

pub returns-in-Clash : goal.returns-in-Clash
returns-in-Clash c = λ facts added all.
    subst (λ (line : CertLine). c.clash.result ≡ is_closed
    (ways_with (sorts_in c.args.table.now) facts added (line_in (trees_in c.args.table.now) line)))
    (sym c.in-Clash.is) (c.clash.ensures facts added all)
