-- Private: lists on their way.
use Rattle.std.specs.Prelude.{◌≡◌, ℕ, Option, Some, None, List, [], ◌∷◌}
use Rattle.sm_num.specs.Forms.{Linear}
use Rattle.sm_omega.specs.Counting.{Decision, Done, Passed, Outside, Item, Entered, led, entered}
use Rattle.sm_num.specs.declared.error.NumError.{NumError}
use Rattle.sm_num.specs.declared.error.NumError.TheVariants as error
use Rattle.sm_exact.specs.declared.entry.Entry.{Entry}
use Rattle.sm_exact.specs.declared.entry.Entry.TheVariants as entry

-- what an entry says
abbrev pub shown : Entry → Entered
shown (entry.List fs c) = Done c (Some fs.items)
shown (entry.Refuted c) = Done c None
shown entry.Steps = Passed
shown (entry.Beyond op y z) = Outside op y z

-- a list with forms in front, where there is a list
abbrev pub before : List (Linear ℕ) → Entered → Entered
before [] rest = rest
before (f ∷ fs) rest = led f (before fs rest)

-- an entry that goes on with what enters behind it
abbrev pub going : ℕ → Entry → List Item → Entered
going limit (entry.List fs c) items = before fs.items (entered limit items c)
going limit (entry.Refuted c) items = Done c None
going limit entry.Steps items = Passed
going limit (entry.Beyond op y z) items = Outside op y z

-- an entry tells of an operation that left the range; want of memory has none
abbrev pub TellsError : NumError → Entry → Type 0
TellsError (error.Beyond op y z) r = r ≡ entry.Beyond op y z
TellsError error.Memory r = ⊥
