-- The edits that a seed draws, one for each hole. Public clauses cite it.
use Rattle.std.specs.Prelude.{ℕ, zero, suc, ◌+◌, ◌-◌, ◌*◌, ◌/◌, ◌%◌, Bool, true, false, List, map}
use Rattle.std.specs.List.{range_with_len, count_by}
use Rattle.sm_syntax.specs.claim.ConflictFree.{Copy}
use Rattle.sm_syntax.specs.text.Parts.{by_copy}
use Rattle.sm_gen.specs.declared.drawing.Edit.{Edit}
use Rattle.sm_gen.specs.declared.drawing.Editor.{Editor}
use Rattle.sm_gen.specs.declared.drawing.Editor.TheVariants.{Nobody, VariantA, VariantB}

-- the number that is drawn after another
unfoldable pub drawn_after : ℕ → ℕ
drawn_after n = (n * 1103515245 + 12345) % 2147483648

-- the numbers that a seed draws: the first is the seed itself
abbrev pub drawn : ℕ → ℕ → ℕ
drawn seed zero = seed
drawn seed (suc k) = drawn_after (drawn seed k)

-- who edits a hole, by a number below 3
abbrev pub editor_of : ℕ → Editor
editor_of zero = Nobody
editor_of (suc zero) = VariantA
editor_of (suc (suc n)) = VariantB

-- whether a copy has the edits of an editor: the candidate has those of both variants
abbrev pub has_edits : Editor → Copy → Bool
has_edits Nobody c = false
has_edits VariantA c = by_copy false true false true c
has_edits VariantB c = by_copy false false true true c

-- the edit of a hole: what is added, from 1 to 100, and who edits
abbrev pub edit_of : ℕ → ℕ → Edit
edit_of seed hole = record {
  hole = hole;
  added = drawn seed (2 * hole - 1) % 100 + 1;
  editor = editor_of ((drawn seed (2 * hole) / 65536) % 3);
}

-- the edits of the holes from 1 to the size
abbrev pub edits : ℕ → ℕ → List Edit
edits seed size = map (edit_of seed) (range_with_len 1 size)

-- how many of the edits a copy has
abbrev pub edit_count : Copy → List Edit → ℕ
edit_count c es = count_by (λ (e : Edit). has_edits e.editor c) es
