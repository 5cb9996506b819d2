-- The laws of certificates over equality, arithmetic and arrays.
use Rattle.sm_cert.proofs.Imports.{adds, adds_hold, adds_sorted, adds_anywhere}
use Rattle.sm_theory.proofs.ArithmeticSound.{arithmetic_holds}
use Rattle.sm_theory.proofs.ArithmeticKept.{arithmetic_sorted, arithmetic_moves}
use Rattle.sm_cert.specs.Laws.{ClosedIsContradictory, ClosesMoved}
use Rattle.sm_cert.proofs.CertificateSound.{closes}
use Rattle.sm_cert.proofs.CertificateMoves.{refused_moves}

-- what is closed is contradictory
pub closed_contradicts : ClosedIsContradictory
closed_contradicts sorts facts c fine terms e =
    closes sorts (adds sorts) facts c (record { holds = adds_hold arithmetic_holds sorts; sorted = adds_sorted arithmetic_sorted sorts })
    fine terms e

-- what closes does so elsewhere
pub moved_closes : ClosesMoved
moved_closes sorts move facts others c stand named e =
    refused_moves sorts (adds sorts) move facts others c (adds_anywhere arithmetic_moves sorts) stand named e
