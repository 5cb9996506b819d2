-- The task that a seed and a size make. Public clauses cite it.
-- Each copy counts `i` up to `n`. Then it sets each of `x1`, `x2` and so on to `n`, or to `n` and a
-- number where it has the edit of that hole.
use Rattle.std.specs.Prelude.{ℕ, zero, suc, pos, ◌+◌, Bool, true, false, None, List, [], ◌∷◌, ◌++◌, map, codes}
use Rattle.std.specs.Fmt.{decimal}
use Rattle.std.specs.List.{range_with_len}
use Rattle.sm_syntax.specs.claim.ConflictFree.{Copy}
use Rattle.sm_syntax.specs.claim.Syntax.{Expression, Lit, Var, Plus, Compare, Code, End, Assign, While, Hole}
use Rattle.sm_syntax.specs.declared.tree.Cmp.TheVariants.{Lt}
use Rattle.sm_syntax.specs.declared.tree.Sort.TheVariants.{Num}
use Rattle.sm_syntax.specs.text.Parts.{Parts}
use Rattle.sm_syntax.specs.text.TaskGrammar.{with_sort}
use Rattle.sm_gen.specs.Drawing.{has_edits, edits}
use Rattle.sm_gen.specs.declared.drawing.Edit.{Edit}

-- the text of the name with a number: i, n, x1, x2 and so on
abbrev pub name_of : ℕ → List ℕ
name_of zero = codes "i"
name_of (suc zero) = codes "n"
name_of (suc (suc k)) = codes "x" ++ decimal (suc k)

-- while (i < n) { i = i + 1; } before the rest
abbrev pub counting : Code → Code
counting rest = While (Compare Lt (Var 0) (Var 1)) (Assign 0 (Plus (Var 0) (Lit (pos 1))) End) rest

-- i = 0; and that loop before the rest
abbrev pub counted : Code → Code
counted rest = Assign 0 (Lit (pos 0)) (counting rest)

-- holes, one after the other
abbrev pub holes : List ℕ → Code
holes [] = End
holes (h ∷ hs) = Hole h (holes hs)

-- n, or n and a number
abbrev pub value_of : Bool → ℕ → Expression
value_of false added = Var 1
value_of true added = Plus (Var 1) (Lit (pos added))

-- what a copy has for the hole of an edit: hole 1 sets x1, and so on
abbrev pub filling_of : Copy → Edit → ℕ × Code
filling_of c e = (e.hole, Assign (e.hole + 1) (value_of (has_edits e.editor c) e.added) End)

-- the task: all names are numbers, each but i and n is an output, and nothing is assumed
abbrev pub generated : ℕ → ℕ → Parts
generated seed size = record {
  names = map name_of (range_with_len 0 (size + 2));
  declared = with_sort Num (range_with_len 0 (size + 2));
  outputs = range_with_len 2 size;
  assumed = None;
  shared = counted (holes (range_with_len 1 size));
  fillings = λ (c : Copy). map (filling_of c) (edits seed size);
}
