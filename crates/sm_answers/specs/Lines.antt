-- The lines that are printed, as bytes. Public clauses cite it.
use Rattle.std.specs.Prelude.{ℕ, ℤ, zero, suc, Option, Some, None, Result, Ok, Err, List, [], ◌∷◌, ◌++◌, unwrap_or, slice_get, codes, decimal, map}
use Rattle.std.specs.Fmt.{signed_decimal}
use Rattle.sm_num.specs.declared.op.Op.{Op}
use Rattle.sm_num.specs.declared.op.Op.TheVariants.{Add, Sub, Mul}
use Rattle.sm_syntax.specs.claim.ConflictFree.{Copy, copy_of}
use Rattle.sm_syntax.specs.declared.tree.Name.{Name}
use Rattle.sm_syntax.specs.trees.Copies.{letter_of}
use Rattle.sm_task.specs.declared.error.TaskError.{TaskError}
use Rattle.sm_task.specs.declared.error.TaskError.TheVariants.{BadByte, WideNumber, BadToken, Expected, Nested, MissingFilling, UnknownHole, DoubleHole, HoleInFilling, UnknownName, WrongSort, DoubleName, TooDeep, TooMany, Memory}
use Rattle.sm_replay.specs.declared.error.InputError.{InputError}
use Rattle.sm_replay.specs.declared.error.InputError.TheVariants as no_input
use Rattle.sm_replay.specs.declared.error.ReplayError.{ReplayError}
use Rattle.sm_replay.specs.declared.error.ReplayError.TheVariants as stop
use Rattle.sm_replay.specs.declared.verdict.Verdict.{Verdict}
use Rattle.sm_replay.specs.declared.verdict.Verdict.TheVariants.{Holds, Unmet, Violates}
use Rattle.sm_words.specs.Lines.{line_of}

-- the text of a name, by the texts of all names; none where there are no more than x
abbrev pub name_text : List (List ℕ) → ℕ → List ℕ
name_text names x = unwrap_or (slice_get names x) []

-- the word for a list of fillings by the number of its copy, or for the shared program
abbrev pub list_word : ℕ → List ℕ
list_word zero = codes "base"
list_word (suc zero) = codes "variant_a"
list_word (suc (suc zero)) = codes "variant_b"
list_word (suc (suc (suc zero))) = codes "candidate"
list_word (suc (suc (suc (suc n)))) = codes "shared"

-- what is refused at a place of the text
abbrev pub line_at_place : List ℕ → ℕ → List ℕ
line_at_place kind place = line_of (codes "Refused") (kind ∷ decimal place ∷ [])

-- what is refused at a hole
abbrev pub line_at_hole : List ℕ → ℕ → ℕ → List ℕ
line_at_hole kind list hole = line_of (codes "Refused") (kind ∷ list_word list ∷ decimal hole ∷ [])

-- what is refused at a name
abbrev pub line_at_name : List ℕ → List (List ℕ) → Name → List ℕ
line_at_name kind names x = line_of (codes "Refused") (kind ∷ name_text names x.0 ∷ [])

-- what is refused as a whole
abbrev pub as_whole : List ℕ → List ℕ
as_whole kind = line_of (codes "Refused") (kind ∷ [])

-- the line on a text that is no task, by the texts of its names; want of memory has none
abbrev pub refusal_line : List (List ℕ) → TaskError → List ℕ
refusal_line names (BadByte place) = line_at_place (codes "BadByte") place
refusal_line names (WideNumber place) = line_at_place (codes "WideNumber") place
refusal_line names (BadToken place) = line_at_place (codes "BadToken") place
refusal_line names (Expected place) = line_at_place (codes "Expected") place
refusal_line names (Nested place) = line_at_place (codes "Nested") place
refusal_line names (MissingFilling list hole) = line_at_hole (codes "MissingFilling") list hole
refusal_line names (UnknownHole list hole) = line_at_hole (codes "UnknownHole") list hole
refusal_line names (DoubleHole list hole) = line_at_hole (codes "DoubleHole") list hole
refusal_line names (HoleInFilling list hole) = line_at_hole (codes "HoleInFilling") list hole
refusal_line names (UnknownName x) = line_at_name (codes "UnknownName") names x
refusal_line names (WrongSort x) = line_at_name (codes "WrongSort") names x
refusal_line names (DoubleName x) = line_at_name (codes "DoubleName") names x
refusal_line names TooDeep = as_whole (codes "TooDeep")
refusal_line names TooMany = as_whole (codes "TooMany")
refusal_line names Memory = []

-- the line after an answer of `check`, where no trial meets the assumption
abbrev pub unmet_line : List ℕ
unmet_line = codes "no trial meets the assumption\n"

-- the text of a cell, by the texts of all names
abbrev pub cell_text : List (List ℕ) → Name → Option ℤ → List ℕ
cell_text names x None = name_text names x.0
cell_text names x (Some i) = name_text names x.0 ++ codes "[" ++ signed_decimal i ++ codes "]"

-- the line on an input that violates, by its number among those that are made, and where
abbrev pub trial_line : List (List ℕ) → ℕ → Name → Option ℤ → ℕ → List ℕ
trial_line names j x i clause =
    line_of (codes "Conflict") (codes "trial" ∷ decimal j
    ∷ codes "cell" ∷ cell_text names x i ∷ codes "clause" ∷ decimal clause ∷ [])

-- the line on the copies whose fillings are suggested, that of the first hole first
abbrev pub suggestion_line : List Copy → List ℕ
suggestion_line copies = line_of (codes "Suggest") (map letter_of copies)

-- the line on a task that no combination is suggested of
abbrev pub none_line : List ℕ
none_line = line_of (codes "None") []

-- the line on holes that are too many for a suggestion
abbrev pub many_holes_line : ℕ → List ℕ
many_holes_line count = line_of (codes "Refused") (codes "TooManyHoles" ∷ decimal count ∷ [])

-- the line with an input's text
abbrev pub input_line : List ℕ → List ℕ
input_line input = codes "input " ++ (input ++ codes "\n")

-- the word for an operation
abbrev pub op_word : Op → List ℕ
op_word Add = codes "add"
op_word Sub = codes "sub"
op_word Mul = codes "mul"

-- the line on a goal of a node of the plan that isn't shown, by the word for the cause
abbrev pub goal_line : List ℕ → ℕ → ℕ → List (List ℕ) → List ℕ
goal_line cause node goal more =
    line_of (codes "Unknown") (cause ∷ decimal node ∷ decimal goal ∷ more)

-- the line on a task whose plan is over its limits
abbrev pub too_many_line : List ℕ
too_many_line = line_of (codes "Unknown") (codes "TooMany" ∷ [])

-- the line on a task that is made up, with how many holes each variant edits
abbrev pub summary_line : ℕ → ℕ → ℕ → ℕ → List ℕ
summary_line seed size a b =
    line_of (codes "gen") (decimal seed ∷ decimal size
    ∷ codes "a" ∷ decimal a ∷ codes "b" ∷ decimal b ∷ [])

-- the line on an operation of a copy, or of the assumption, that leaves 128 bits
abbrev pub beyond_line : List ℕ → Op → ℤ → ℤ → List ℕ
beyond_line whose op a b =
    line_of (codes "Beyond") (whose ∷ op_word op ∷ signed_decimal a ∷ signed_decimal b ∷ [])

-- the line on what an input shows; want of memory has none
abbrev pub verdict_line : List (List ℕ) → Result Verdict ReplayError → List ℕ
verdict_line names (Ok Holds) = codes "Holds\n"
verdict_line names (Ok Unmet) = codes "Unmet\n"
verdict_line names (Ok (Violates x i clause)) =
    line_of (codes "Conflict")
    (codes "cell" ∷ cell_text names x i ∷ codes "clause" ∷ decimal clause ∷ [])
verdict_line names (Err (stop.OutOfTurns copy)) =
    line_of (codes "OutOfTurns") (letter_of (copy_of copy) ∷ [])
verdict_line names (Err (stop.Beyond copy op a b)) = beyond_line (letter_of (copy_of copy)) op a b
verdict_line names (Err (stop.BeyondAssumed op a b)) = beyond_line (codes "assume") op a b
verdict_line names (Err stop.Memory) = []

-- the line on bytes that are no input, by the texts of all names; want of memory has none
abbrev pub input_refusal_line : List (List ℕ) → InputError → List ℕ
input_refusal_line names no_input.BadJson = as_whole (codes "BadJson")
input_refusal_line names no_input.NotObject = as_whole (codes "NotObject")
input_refusal_line names no_input.UnknownKey = as_whole (codes "UnknownKey")
input_refusal_line names (no_input.BadValue x) = line_at_name (codes "BadValue") names x
input_refusal_line names (no_input.BadIndex x) = line_at_name (codes "BadIndex") names x
input_refusal_line names no_input.Memory = []
