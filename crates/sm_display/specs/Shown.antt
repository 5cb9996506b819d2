-- What a person reads behind the line of an answer: where a text is refused and what could stand
-- there, the programs of a task, and what they do from an input. Public clauses cite it.
use Rattle.std.specs.Prelude.{◌≡◌, ℕ, Option, Some, None, Result, Ok, Err, List, [], ◌∷◌, ◌++◌, codes, take}
use Rattle.sm_replay.specs.declared.error.ReplayError.{ReplayError}
use Rattle.sm_replay.specs.declared.verdict.Verdict.{Verdict}
use Rattle.sm_replay.specs.declared.verdict.Verdict.TheVariants.{Holds, Unmet, Violates}
use Rattle.sm_syntax.specs.claim.Stores.{Store}
use Rattle.sm_syntax.specs.declared.copies.CopyName.{CopyName}
use Rattle.sm_syntax.specs.declared.copies.CopyName.TheVariants.{O, A, B, M}
use Rattle.sm_syntax.specs.text.Parts.{Parts}
use Rattle.sm_task.specs.declared.error.TaskError.{TaskError}
use Rattle.sm_task.specs.declared.error.TaskError.TheVariants.{BadByte, WideNumber, BadToken, Expected, Nested, MissingFilling, UnknownHole, DoubleHole, HoleInFilling, UnknownName, WrongSort, DoubleName, TooDeep, TooMany, Memory}
use Rattle.sm_explain.specs.Places.{IsShown}
use Rattle.sm_explain.specs.Tables.{IsTable}
use Rattle.sm_follow.specs.Following.{IsFollowLine}
use Rattle.sm_display.specs.Print.{canonical_text}

-- the offset at which a text is refused; none where the cause is a condition, which names a hole or
-- a name, or holds of the whole
abbrev pub offset_of : TaskError → Option ℕ
offset_of (BadByte place) = Some place
offset_of (WideNumber place) = Some place
offset_of (BadToken place) = Some place
offset_of (Expected place) = Some place
offset_of (Nested place) = Some place
offset_of (MissingFilling list hole) = None
offset_of (UnknownHole list hole) = None
offset_of (DoubleHole list hole) = None
offset_of (HoleInFilling list hole) = None
offset_of (UnknownName x) = None
offset_of (WrongSort x) = None
offset_of (DoubleName x) = None
offset_of TooDeep = None
offset_of TooMany = None
offset_of Memory = None

-- the lines that show where an offset of a text stands; none where there is no offset
abbrev pub ShowsOffset : List ℕ → Option ℕ → List ℕ → Type 0
ShowsOffset bytes None lines = lines ≡ []
ShowsOffset bytes (Some offset) lines = IsShown bytes offset lines

-- the offset at which nothing stands that could stand there; none where what stands there nests too
-- deep, or where the cause is a condition
abbrev pub misfit_of : TaskError → Option ℕ
misfit_of (BadByte place) = Some place
misfit_of (WideNumber place) = Some place
misfit_of (BadToken place) = Some place
misfit_of (Expected place) = Some place
misfit_of (Nested place) = None
misfit_of (MissingFilling list hole) = None
misfit_of (UnknownHole list hole) = None
misfit_of (DoubleHole list hole) = None
misfit_of (HoleInFilling list hole) = None
misfit_of (UnknownName x) = None
misfit_of (WrongSort x) = None
misfit_of (DoubleName x) = None
misfit_of TooDeep = None
misfit_of TooMany = None
misfit_of Memory = None

-- the line of what could stand at an offset of a text, behind what stands before it; none where
-- there is no offset
abbrev pub ShowsTokens : List ℕ → Option ℕ → List ℕ → Type 0
ShowsTokens bytes None line = line ≡ []
ShowsTokens bytes (Some offset) line = IsFollowLine (take offset bytes) line

-- the line before the program of a copy: a comment, which no canonical text has
abbrev pub copy_heading : CopyName → List ℕ
copy_heading O = codes "# base\n"
copy_heading A = codes "# a\n"
copy_heading B = codes "# b\n"
copy_heading M = codes "# candidate\n"

-- the program of a copy, with its holes filled, behind its line
abbrev pub copy_section : Parts → CopyName → List ℕ
copy_section t copy = copy_heading copy ++ canonical_text t (Some copy)

-- the programs of the four copies
abbrev pub programs_text : Parts → List ℕ
programs_text t =
    copy_section t O ++ copy_section t A ++ copy_section t B ++ copy_section t M

-- the line before a start
unfoldable pub start_heading : List ℕ
start_heading = codes "start:\n"

-- the line before a table
unfoldable pub table_heading : List ℕ
table_heading = codes "outputs that differ:\n"

-- the line where a table is empty
unfoldable pub same_outputs : List ℕ
same_outputs = codes "the four programs end with the same outputs\n"

-- a table behind its line, or that it is empty
abbrev pub ends_text : List ℕ → List ℕ
ends_text [] = same_outputs
ends_text (b ∷ rest) = table_heading ++ b ∷ rest

-- the four programs end, and this is the table of their ends behind its line
pub record ShowsEnds (t : Parts) (s : Store) (turns : ℕ) (text : List ℕ) : Type 0 where
  pub rows : List ℕ
  pub table : IsTable t s turns rows
  pub is : text ≡ ends_text rows

-- what is shown of the ends, by the verdict: nothing where the assumption isn't met or a program
-- stops, since the line says so
abbrev pub ShowsRun : Parts → Store → ℕ → Result Verdict ReplayError → List ℕ → Type 0
ShowsRun t s turns (Ok Holds) text = ShowsEnds t s turns text
ShowsRun t s turns (Ok (Violates x i clause)) text = ShowsEnds t s turns text
ShowsRun t s turns (Ok Unmet) text = text ≡ []
ShowsRun t s turns (Err e) text = text ≡ []
