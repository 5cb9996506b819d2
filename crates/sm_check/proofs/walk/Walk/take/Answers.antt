-- A line of a certificate is taken as one.
use Rattle.sm_check.proofs.Imports.{ap, sorts_in, line_of, Line, taken}
use Rattle.sm_check.proofs.TellsLemmas.{tells_along}
use Rattle.sm_check.proofs.walk.Walk.take.Goals as goal

pub returns-in-Cert-clause-tells : goal.returns-in-Cert-clause-tells
returns-in-Cert-clause-tells c = λ p walks.
    tells_along _ c.take_cert.result _ _ (ap (λ (l : Line). taken (sorts_in c.args.self.now.table) p (line_of l)) c.in-Cert.is)
    (c.take_cert.ensures.tells p walks)
