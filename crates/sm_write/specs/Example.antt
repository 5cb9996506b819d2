-- Cited by public clauses: a plan that can be written, worked by hand. Its task has one number, and
-- programs that do nothing; so one node asks the three goals, and no certificate names a term.
use Rattle.std.specs.Prelude.{None, List, [], ◌∷◌}
use Rattle.sm_theory.specs.Lines.{Both, Close}
use Rattle.sm_cert.specs.Certificates.{Certificate, Next, Closed}
use Rattle.sm_plan.specs.Nodes.{Ends}
use Rattle.sm_plan.specs.Plans.{Plan, At, Over}
use Rattle.sm_proof.specs.Cases.{idle}
use Rattle.sm_write.specs.Writable.{IsWritable}

-- the plan
abbrev pub idle_plan : Plan
idle_plan = At Ends Over

-- the certificates of its goals
abbrev pub idle_certificates : List Certificate
idle_certificates =
    Next (Both 0) (Closed (Close 1))
    ∷ Next (Both 0) (Closed (Close 1))
    ∷ Next (Both 0) (Next (Both 2) (Closed (Close 4)))
    ∷ []

-- they can be written
abbrev pub ExampleIsWritable : Type 0
ExampleIsWritable = IsWritable (idle None) idle_plan idle_certificates
