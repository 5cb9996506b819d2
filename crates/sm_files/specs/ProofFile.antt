-- What `check` and `trim` do with the file of a proof. Public clauses cite it.
use Rattle.std.specs.Prelude.{◌≡◌, ◌≢◌, ◌⊎◌, ◌<◌, ℕ, List, length, take}
use Rattle.sm_io.specs.Files.{Known, WhereHeld, emptied, longer}
use Rattle.sm_proof.specs.Verdicts.{Passes}
use Rattle.sm_syntax.specs.text.Parts.{Parts}
use Rattle.sm_syntax.specs.text.Spells.{Spells}
use Rattle.sm_write.specs.Versions.{HasVersion}
use Rattle.sm_answers.specs.declared.status.Status.{Status}
use Rattle.sm_answers.specs.declared.status.Status.TheVariants.{Accepted, WriteFault}

-- the file was emptied, and has the bytes of a proof that passes for the task: of version 3 exactly
-- where it has a line `exact`, else of version 2 exactly where the task assumes something
pub record HoldsProof (t : Parts) (before now : Known) : Type 0 where
  pub proof : List ℕ
  pub passes : Passes t proof
  pub version : HasVersion t proof
  pub holds : now ≡ longer (emptied before) proof

-- the file was emptied, and has a proper front of such a proof
pub record HoldsFront (t : Parts) (before now : Known) : Type 0 where
  pub proof : List ℕ
  pub passes : Passes t proof
  pub version : HasVersion t proof
  pub count : ℕ
  pub part : count < length proof
  pub holds : now ≡ longer (emptied before) (take count proof)

-- what is left in the file where a proof couldn't be written whole: what it had, or nothing, or a
-- proper front of one
abbrev pub LeftCut : Parts → Known → Known → Type 0
LeftCut t before now = (now ≡ before) ⊎ ((now ≡ emptied before) ⊎ HoldsFront t before now)

-- what is left in the file by the answer to the task: a proof where it is accepted, at most a front of
-- one where that couldn't be written, and otherwise what it had
abbrev pub LeftBy : Parts → Status → Known → Known → Type 0
LeftBy t status before now =
    ((status ≡ Accepted) × HoldsProof t before now)
    ⊎ (((status ≡ WriteFault) × LeftCut t before now) ⊎ ((status ≢ Accepted) × (now ≡ before)))

-- the task is the one that the file's bytes spell, where the shelf tells them
abbrev pub IsTaskIn : Known → Parts → Type 0
IsTaskIn file t = WhereHeld file (λ (bytes : List ℕ). Spells bytes t)

-- what is left in the file of a proof that couldn't be written whole: what it had, or nothing, or for
-- the task of a file a proper front of a proof
abbrev pub LeavesCut : Known → Known → Known → Type 0
LeavesCut task before now =
    (now ≡ before) ⊎ ((now ≡ emptied before) ⊎ ((t : Parts) × IsTaskIn task t
    × HoldsFront t before now))

-- what may be left in the file of a proof: what it had, or nothing, or for the task of a file a proof
-- or a proper front of one
abbrev pub LeavesFront : Known → Known → Known → Type 0
LeavesFront task before now =
    (now ≡ before) ⊎ ((now ≡ emptied before) ⊎ ((t : Parts) × IsTaskIn task t
    × (HoldsProof t before now ⊎ HoldsFront t before now)))

-- what is left there by the answer to the task of a file
abbrev pub LeavesProof : Known → Status → Known → Known → Type 0
LeavesProof task status before now =
    ((status ≢ Accepted) × (now ≡ before))
    ⊎ ((t : Parts) × IsTaskIn task t × LeftBy t status before now)
