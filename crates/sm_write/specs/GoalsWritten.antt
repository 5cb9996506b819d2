-- Private: the certificates of a node's goals, one after the other.
use Rattle.std.specs.Prelude.{◌≡◌, ℕ, List, ◌++◌, drop, length, map}
use Rattle.sm_term.specs.Assertions.{Assertion}
use Rattle.sm_term.specs.Tables.{TableValue, trees_in, sorts_in}
use Rattle.sm_cert.specs.Certificates.{Certificate}
use Rattle.sm_plan.specs.States.{State}
use Rattle.sm_proof.specs.Passing.{Progress, Pending, goal_branch}
use Rattle.sm_proof.specs.Verdicts.{Subject}
use Rattle.sm_write.specs.Ready.{AreClosed}
use Rattle.sm_write.specs.Seen.{Seen}
use Rattle.sm_write.specs.Stepped.{Stepped}
use Rattle.sm_write.specs.Writable.{denied}
use Rattle.sm_write.specs.Writers.{WriterValue, Stands, AreSeenNamed}

-- a writer that can name what is built of what was seen, whether something is due or not
pub record IsAt (s : Subject) (v : TableValue) (w : WriterValue) (seen : List State)
    (p : Progress) : Type 0 where
  pub sorts : s.sorts ≡ sorts_in v
  pub stands : Stands s (trees_in v) w p
  pub named : AreSeenNamed (trees_in v) w.names seen

-- these goals of a state are left, with certificates for them before others
pub record GoalsLeft (s : Subject) (v : TableValue) (old new : WriterValue) (seen : List State)
    (p : Progress) (st : State) (goals : List Assertion) (rest : List Pending)
    (cs later : List Certificate) : Type 0 where
  pub stepped : Stepped s (trees_in v) old new p (map (goal_branch st) goals ++ rest)
  pub closed : AreClosed s.sorts (Seen seen) (map (denied st.facts) goals) cs later

-- of so many goals with these certificates the first n were written
abbrev pub LeavesGoals :
    TableValue → WriterValue → WriterValue → ℕ → List Certificate → ℕ → List Certificate → Type 0
LeavesGoals v old new count cs n left =
    (s : Subject) (seen : List State) (p : Progress) (st : State) (goals : List Assertion)
    (rest : List Pending) (later : List Certificate) → IsAt s v old seen p →
    p.pending ≡ map (goal_branch st) goals ++ rest → length goals ≡ count →
    AreClosed s.sorts (Seen seen) (map (denied st.facts) goals) cs later →
    GoalsLeft s v old new seen p st (drop n goals) rest left later
