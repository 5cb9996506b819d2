-- A block is well sorted where each of its statements is.
use Rattle.sm_drawing.proofs.Imports.{◌≡◌, ◌≤◌, ◌<◌, ◌+◌, ℕ, List, length, map, drop, get_or, sym, ap, subst, ◌∙◌, End, Sorts, IsWellSorted, sequence, statement_of, code_of, Stmt, Block}
use Rattle.sm_syntax.proofs.Blocks.{block_is, statement_is, sequence-drop, sequence-drop-end}
use Rattle.sm_plan.proofs.SortedCode.{append_well}

-- the statements are those of the block
pub whole_well : (sorts : Sorts) (l : List Stmt) (b : Block) → l ≡ b.list.items →
    IsWellSorted sorts (sequence (map statement_of l) End) → IsWellSorted sorts (code_of b)
whole_well sorts l b e =
    subst (IsWellSorted sorts) (ap (λ (m : List Stmt). sequence (map statement_of m) End) e ∙ sym (block_is b))

-- one statement more, from the back
pub one_more_well : (sorts : Sorts) (l : List Stmt) (i : ℕ) (s : Stmt) → i < length l → s ≡ get_or l i s →
    IsWellSorted sorts (statement_of s End) → IsWellSorted sorts (sequence (map statement_of (drop (i + 1) l)) End) →
    IsWellSorted sorts (sequence (map statement_of (drop i l)) End)
one_more_well sorts l i s inside item well rest =
    let k = sequence (map statement_of (drop (i + 1) l)) End in
    subst (IsWellSorted sorts)
    (sym (sequence-drop l i s End inside ∙ ap (λ (x : Stmt). statement_of x k) (sym item) ∙ statement_is s k))
    (append_well sorts (statement_of s End) k well rest)

-- no statement is left
pub none_well : (sorts : Sorts) (l : List Stmt) (i : ℕ) → length l ≤ i →
    IsWellSorted sorts (sequence (map statement_of (drop i l)) End)
none_well sorts l i past = subst (IsWellSorted sorts) (sym (sequence-drop-end l i End past)) tt
