-- Where a place of a text stands, by line and column. Public clauses cite it.
-- A line feed, the byte 10, ends a line. Lines and columns count from 1, and columns count bytes.
use Rattle.std.specs.Prelude.{◌≡◌, ◌≢◌, ◌⊎◌, ◌==◌, ◌+◌, ◌≤◌, ◌<◌, ℕ, if◌then◌else◌, List, ◌++◌, length, map, take, slice_index, slice_range, codes, decimal}
use Rattle.std.specs.List.{count_by}
use Rattle.sm_explain.specs.declared.places.Place.{Place}

-- how many line feeds a text has
abbrev pub line_feeds : List ℕ → ℕ
line_feeds text = count_by (λ (b : ℕ). b == 10) text

-- a line starts here: where the text does, or behind a line feed
abbrev pub StartsLine : List ℕ → ℕ → Type 0
StartsLine text start =
    (start ≡ 0) ⊎ ((before : ℕ) × (start ≡ before + 1) × (slice_index text before ≡ 10))

-- a line ends here: where the text does, or at a line feed
abbrev pub EndsLine : List ℕ → ℕ → Type 0
EndsLine text end = (end ≡ length text) ⊎ (slice_index text end ≡ 10)

-- no line feed stands from one place on and before another
abbrev pub HasNoFeed : List ℕ → ℕ → ℕ → Type 0
HasNoFeed text from to = (k : ℕ) → from ≤ k → k < to → slice_index text k ≢ 10

-- where an offset stands: as many line feeds stand before it as lines do before its line, and its
-- column counts from where its line starts
pub record IsPlace (text : List ℕ) (offset : ℕ) (place : Place) : Type 0 where
  pub line : place.line ≡ 1 + line_feeds (take offset text)
  pub column : place.start + place.column ≡ offset + 1
  pub starts : StartsLine text place.start
  pub ends : EndsLine text place.end
  pub one_line : HasNoFeed text place.start place.end
  pub from_start : place.start ≤ offset
  pub up_to_end : offset ≤ place.end
  pub inside : place.end ≤ length text

-- the line that says a line and a column
abbrev pub heading : ℕ → ℕ → List ℕ
heading line column =
    codes "line " ++ decimal line ++ codes ", column " ++ decimal column ++ codes "\n"

-- a tab under a tab, and else a space
abbrev pub blank_under : ℕ → ℕ
blank_under b = if b == 9 then 9 else 32

-- what brings a caret behind some bytes
abbrev pub margin : List ℕ → List ℕ
margin bytes = map blank_under bytes

-- the line and the column of a place, its line, and a caret under the column
abbrev pub place_text : List ℕ → ℕ → Place → List ℕ
place_text text offset place =
    heading place.line place.column
    ++ slice_range text place.start place.end ++ codes "\n"
    ++ margin (slice_range text place.start offset) ++ codes "^\n"

-- a text shows where an offset stands
pub record IsShown (text : List ℕ) (offset : ℕ) (shown : List ℕ) : Type 0 where
  pub place : Place
  pub stands : IsPlace text offset place
  pub is : shown ≡ place_text text offset place
