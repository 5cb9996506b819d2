-- Outputs, one behind the other, and the whole table.
use Rattle.sm_explain.proofs.Imports.{◌≡◌, ◌+◌, ◌<◌, ◌≤◌, ℕ, true, None, List, [], ◌∷◌, ◌++◌, length, map, take, get_or, refl, sym, ap, subst, ◌∙◌, append_assoc, append-nil, take_all, take_more, map-append, unwrap_or, Name, Copy, Scalar, number, Store, Code, Sorts, Sort, Num, held, sort, stored_value_of, meaning, sorts_of, code_in, end_in, HaveSort, cell_rows, AreOutputRows, AreRows}
use Rattle.std.proofs.Math.Path.{fun_ext}
use Rattle.sm_syntax.specs.declared.tree.Block.{Block}
use Rattle.sm_syntax.specs.trees.Copies.{of_copy}
use Rattle.sm_syntax.specs.declared.copies.PerCopy.{PerCopy}
use Rattle.sm_eval.specs.declared.stored_value.StoredValue.TheVariants as stored
use Rattle.sm_eval.specs.declared.store.Store as code
use Rattle.sm_eval.specs.declared.stored_value.StoredValue.{StoredValue}
use Rattle.sm_replay.specs.FirstBreak.{sorted_by}
use Rattle.sm_explain.proofs.DifferentCells.{agree_at, zeros_agree}
use Rattle.sm_replay.proofs.FirstBreakSound.{absent}

-- one output more
pub rows_more : (names : List (List ℕ)) (end : Copy → Store) (outputs : List (ℕ × Sort)) (o : ℕ × Sort) (text more : List ℕ)
    → AreRows names end outputs text → AreOutputRows names end o.0 o.1 more → AreRows names end (outputs ++ o ∷ []) (text ++ more)
rows_more names end [] o text more none is =
    (more, [], is, refl, ap (λ (t : List ℕ). t ++ more) none ∙ sym (append-nil more))
rows_more names end (p ∷ rest) o text more h is = (
  h.0,
  h.1 ++ more,
  h.2,
  rows_more names end rest o h.1 more h.3 is,
  ap (λ (t : List ℕ). t ++ more) h.4 ∙ append_assoc h.0 h.1 more,
)

-- the first outputs with their sorts
abbrev pub sorted : Sorts → List Name → List (ℕ × Sort)
sorted sorts outputs = sorted_by sorts (map (λ (x : Name). x.0) outputs)

sorted_more : (sorts : Sorts) (outputs : List Name) (n : ℕ) (d : Name) → n < length outputs
    → sorted sorts (take (n + 1) outputs)
    ≡ sorted sorts (take n outputs) ++ ((get_or outputs n d).0, unwrap_or (sorts (get_or outputs n d).0) Num) ∷ []
sorted_more sorts outputs n d here =
    ap (sorted sorts) (take_more outputs n d here)
    ∙ ap (sorted_by sorts) (map-append (λ (x : Name). x.0) (take n outputs) (get_or outputs n d ∷ []))
    ∙ map-append (λ (x : ℕ). (x, unwrap_or (sorts x) Num)) (map (λ (x : Name). x.0) (take n outputs)) ((get_or outputs n d).0 ∷ [])

pub outputs_more : (names : List (List ℕ)) (end : Copy → Store) (sorts : Sorts) (outputs : List Name) (n : ℕ) (d : Name)
    (text more : List ℕ) → n < length outputs → AreRows names end (sorted sorts (take n outputs)) text
    → AreOutputRows names end (get_or outputs n d).0 (unwrap_or (sorts (get_or outputs n d).0) Num) more
    → AreRows names end (sorted sorts (take (n + 1) outputs)) (text ++ more)
outputs_more names end sorts outputs n d text more here before is =
    let o : ℕ × Sort = ((get_or outputs n d).0, unwrap_or (sorts (get_or outputs n d).0) Num) in
    subst (λ (os : List (ℕ × Sort)). AreRows names end os (text ++ more)) (sym (sorted_more sorts outputs n d here))
    (rows_more names end (sorted sorts (take n outputs)) o text more before is)

pub outputs_all : (names : List (List ℕ)) (end : Copy → Store) (sorts : Sorts) (outputs : List Name) (n : ℕ) (text : List ℕ)
    → length outputs ≤ n → AreRows names end (sorted sorts (take n outputs)) text → AreRows names end (sorted sorts outputs) text
outputs_all names end sorts outputs n text past =
    subst (λ (os : List Name). AreRows names end (sorted sorts os) text) (take_all n outputs past)

pub undeclared_rows : (names : List (List ℕ)) (ends : PerCopy code.Store) (x : ℕ) → HaveSort ends x None
    → [] ≡ cell_rows names (end_in ends) (Scalar x)
undeclared_rows names ends x none =
    let agreed : agree_at (end_in ends) (Scalar x) ≡ true =
    zeros_agree (end_in ends) (Scalar x) (λ (c : Copy). ap number (absent (of_copy ends c) x (none c))) in
    rw agreed

-- what is so of filled programs is so of the task's
pub of_filled : (P : (Copy → Code) → Type 0) (program : Copy → Code) (programs : PerCopy Block)
    → ((c : Copy) → code_in programs c ≡ program c) → P (code_in programs) → P program
of_filled P program programs filled = subst P (fun_ext filled)
