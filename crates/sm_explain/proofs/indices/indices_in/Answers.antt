-- The indices of a copy's cells.
use Rattle.sm_explain.proofs.Imports.{◌≡◌, ℤ, pos, List, sym, ap, subst, ◌∙◌, inl, inr, ⊎_elim, Value, array, listed, meaning, IsOf, Rise, firsts}
use Rattle.sm_eval.specs.declared.store.Store as code
use Rattle.sm_explain.proofs.MergedCells.{rise_of, zero_or_of}
use Rattle.sm_explain.proofs.indices.indices_in.Goals as goal

pub returns-clause-rise : goal.returns-clause-rise
returns-clause-rise c =
    subst Rise (sym c.in_ok-all.ensures) (rise_of c.cells-cells.result.now c.cells-cells.ensures.ordered.ascending)

pub returns-clause-each : goal.returns-clause-each
returns-clause-each c i =
    let cells = c.cells-cells.result.now in
    let there =
    ap (λ (s : code.Store). array (meaning s c.args.a.0) i) (sym c.get.ensures)
    ∙ ap (λ (v : Value). array v i) c.cells-cells.ensures.value in
    ⊎_elim (λ (zero : listed cells i ≡ pos 0). inl (there ∙ zero))
    (λ (o : IsOf (firsts cells) i). inr (subst (λ (xs : List ℤ). IsOf xs i) (sym c.in_ok-all.ensures) o)) (zero_or_of cells i)
