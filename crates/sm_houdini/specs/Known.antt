-- Private: what a round tells of the goals that the next one asks.
use Rattle.std.specs.Prelude.{◌≡◌, ℕ, ◌<◌, Bool, true, false, Option, List, IfSome, length, slice_get, slice_index_or, unwrap_or}
use Rattle.sm_term.specs.Tables.{TableValue, trees_in, sorts_in}
use Rattle.sm_expand.specs.Views.{due_in, dues_in, AreDuesReady}
use Rattle.sm_expand.specs.declared.due.Due.{Due}
use Rattle.sm_solve.specs.declared.reach.Reach.{Reach}
use Rattle.sm_houdini.specs.declared.asked.Asked.{Asked}
use Rattle.sm_houdini.specs.Closing.{closing, closes_at, owner_in}
use Rattle.sm_houdini.specs.Marks.{has_mark, rows}
use Rattle.sm_houdini.specs.Rounds.{holds_at}

-- what a round asked over a table: where the mark of a template stayed, all its goals close
pub record IsAsked (v : TableValue) (reach : Reach) (owners : List (Option ℕ)) (a : Asked) :
    Type 0 where
  pub ready : AreDuesReady (sorts_in v) (trees_in v) a.dues.items
  pub closed :
      (s i : ℕ) →
      has_mark (rows a.marks.sites.items) s i ≡ true →
      (let asked = dues_in (sorts_in v) (trees_in v) a.dues.items in
      holds_at (closing (sorts_in v) reach) (owner_in owners) asked s i ≡ true)

-- what the round before asked, if there was one: where a mark stayed, all its goals close
abbrev pub IsAskedBefore : TableValue → Reach → List (Option ℕ) → Option Asked → Type 0
IsAskedBefore v reach owners before = IfSome before (IsAsked v reach owners)

-- whether a flag is there
abbrev pub is_flagged : List Bool → ℕ → Bool
is_flagged flags k = unwrap_or (slice_get flags k) false

-- all goals that a node asks close
pub record ClosesAll (v : TableValue) (reach : Reach) (d : Due) : Type 0 where
  pub each : (i : ℕ) → closes_at (sorts_in v) reach (due_in (sorts_in v) (trees_in v) d) i ≡ true

-- where the flag of a node is there, all goals that it asks close
pub record AreKnown (v : TableValue) (reach : Reach) (ds : List Due) (flags : List Bool) :
    Type 0 where
  pub closes :
      (k : ℕ) →
      (d : Due) →
      k < length ds →
      is_flagged flags k ≡ true →
      ClosesAll v reach (slice_index_or ds k d)
