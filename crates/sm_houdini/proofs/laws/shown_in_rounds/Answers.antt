use Rattle.sm_houdini.proofs.laws.shown_in_rounds.Goals as goal
use Rattle.sm_houdini.proofs.ShownLemmas.{shown_in_rounds}
use Rattle.sm_cert.proofs.CertificateLaws.{moved_closes}

pub returns : goal.returns
returns c = shown_in_rounds moved_closes
