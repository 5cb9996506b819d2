-- What `trim` leaves in the files.
use Rattle.sm_commands.proofs.Imports.{◌≡◌, ◌≢◌, ℕ, List, Option, Some, subst, Exit, Reply, Status, Accepted, WriteFault, ends_by, leaves_cut, leaves_front, leaves_same, LeavesCut, LeavesFront, Files, LeavesBy, LeavesFiles, LeavesPart, TellsBy, EndsWith, Asked, trim, leaves_proof}
use Rattle.std.proofs.Common.{Result}
use Rattle.sm_files.specs.Trim.{LeavesTrimmed, TellsOfTask}

-- ---- the files of words

-- what is told of the file that `trim` writes
pub trim_tells_by : (o : Option Asked) (before now : Files) (s : Status) (text task proof out : List ℕ) → TellsBy o before s text now →
    o ≡ Some (trim task proof out) → TellsOfTask (before task) s text (before out) (now out)
trim_tells_by o before now s text task proof out h is = subst (λ (p : Option Asked). TellsBy p before s text now) is h

-- what is left in the file that `trim` writes
pub trim_left_by : (o : Option Asked) (before now : Files) (s : Status) (task proof out : List ℕ) → LeavesBy o before s now →
    o ≡ Some (trim task proof out) → LeavesTrimmed (before task) s (before out) (now out)
trim_left_by o before now s task proof out h is = (subst (λ (p : Option Asked). LeavesBy p before s now) is h).1

pub trim_front_by : (o : Option Asked) (before now : Files) (s : Status) (task proof out : List ℕ) → LeavesBy o before s now →
    o ≡ Some (trim task proof out) → LeavesFront (before task) (before out) (now out)
trim_front_by o before now s task proof out h is =
    leaves_front (before task) s (before out) (now out)
    (leaves_proof (before task) s (before out) (now out) (trim_left_by o before now s task proof out h is))

pub trim_cut_by : (o : Option Asked) (before now : Files) (s : Status) (task proof out : List ℕ) → s ≡ WriteFault →
    LeavesBy o before s now → o ≡ Some (trim task proof out) → LeavesCut (before task) (before out) (now out)
trim_cut_by o before now s task proof out e h is =
    leaves_cut (before task) s (before out) (now out) e
    (leaves_proof (before task) s (before out) (now out) (trim_left_by o before now s task proof out h is))

pub trim_same_by : (o : Option Asked) (before now : Files) (s : Status) (task proof out : List ℕ) → s ≢ Accepted → s ≢ WriteFault →
    LeavesBy o before s now → o ≡ Some (trim task proof out) → now out ≡ before out
trim_same_by o before now s task proof out never nor h is =
    leaves_same (before task) s (before out) (now out) never nor
    (leaves_proof (before task) s (before out) (now out) (trim_left_by o before now s task proof out h is))

-- ---- what `trim` leaves

pub trim_leaves : (task proof out : List ℕ) (before now : Files) (r : Result Reply Exit) →
    ((other : List ℕ) → other ≢ out → now other ≡ before other) →
    EndsWith (λ (s : Status). LeavesTrimmed (before task) s (before out) (now out)) (LeavesFront (before task) (before out) (now out)) r →
    EndsWith (λ (s : Status). LeavesFiles (trim task proof out) before s now) (LeavesPart (trim task proof out) before now) r
trim_leaves task proof out before now r others =
    ends_by (λ (s : Status). LeavesTrimmed (before task) s (before out) (now out))
    (λ (s : Status). LeavesFiles (trim task proof out) before s now) (LeavesFront (before task) (before out) (now out))
    (LeavesPart (trim task proof out) before now) (λ s left. (others, left)) (λ left. (others, left)) r
