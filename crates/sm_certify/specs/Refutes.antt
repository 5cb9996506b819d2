-- Cited by public clauses: certificates that close a branch.
use Rattle.std.specs.Prelude.{◌≡◌, ℕ, None, List}
use Rattle.sm_syntax.specs.text.Sorts.{Sorts}
use Rattle.sm_theory.specs.Facts.{BranchFact}
use Rattle.sm_theory.specs.Ways.{adds}
use Rattle.sm_cert.specs.Certificates.{Certificate, first_bad}

-- a certificate closes the branch of these facts, from whichever number its lines are counted
abbrev pub Refutes : Sorts → List BranchFact → Certificate → Type 0
Refutes sorts facts c = (n : ℕ) → first_bad (adds sorts) sorts facts n c ≡ None
