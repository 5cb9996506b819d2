-- The last statement of a block.
use Rattle.sm_plan.proofs.Imports.{◌≡◌, ℕ, zero, suc, ◌+◌, false, if◌then◌else◌, Some, is_none, List, [], ◌∷◌, length, get_or, refl, sym, ap, ◌∙◌, arith, Code, End, statement_of, code_of, Stmt, block_is, Statement, put_before, is_over, last_guard, code_before}
use Rattle.sm_syntax.specs.declared.tree.Block.{Block}
use Rattle.sm_plan.specs.Statements.{Skip, Assign, Write, If, While, Hole}
use Rattle.sm_plan.proofs.RestsLemmas.{stands, put_first}

not_over : (u : Stmt) (k : Code) → is_over (statement_of u k) ≡ false
not_over u k = ap is_over ((stands u).1 k) ∙ ap is_none (put_first (stands u).0 k)

-- a statement before others isn't the last
put_guard : (t : Statement) (k : Code) → is_over k ≡ false → last_guard (put_before t k) ≡ last_guard k
put_guard Skip k h = refl
put_guard (Assign x e) k h = refl
put_guard (Write a i e) k h = refl
put_guard (If b c d) k h = refl
put_guard (While b c) k h = ap (λ o. if o then Some b else last_guard k) h
put_guard (Hole n) k h = refl

-- the last statement alone says whose guard it is
last_of : (l : List Stmt) (i : ℕ) (s : Stmt) → i + 1 ≡ length l → s ≡ get_or l i s →
    last_guard (code_before l End) ≡ last_guard (statement_of s End)
last_of [] i s h e = absurd (omega arith)
last_of (t ∷ []) zero s h e = ap (λ u. last_guard (statement_of u End)) (sym e)
last_of (t ∷ []) (suc i) s h e = absurd (omega arith)
last_of (t ∷ u ∷ l) zero s h e = absurd (omega arith)
last_of (t ∷ u ∷ l) (suc i) s h e =
    let k = code_before (u ∷ l) End in
    ap last_guard ((stands t).1 k) ∙ put_guard (stands t).0 k (not_over u (code_before l End)) ∙ last_of (u ∷ l) i s (omega arith) e

-- the last guard of a block's code is that of its last statement
pub last_of_block : (b : Block) (i : ℕ) (s : Stmt) → i + 1 ≡ length b.list.items → s ≡ get_or b.list.items i s →
    last_guard (code_of b) ≡ last_guard (statement_of s End)
last_of_block b i s h e = ap last_guard (block_is b) ∙ last_of b.list.items i s h e
