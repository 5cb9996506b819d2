-- Outputs, one after the other.
use Rattle.sm_replay.proofs.Imports.{◌≡◌, ◌+◌, ◌<◌, ◌≤◌, ℕ, zero, suc, Some, List, [], ◌∷◌, length, map, get_or, refl, sym, ap, ◌∙◌, ⊎_elim, arith, cases_eq, slice_get-get_or, Contains, Name, Copy, Cell, variable, Sorts, Sort, Num, Store, sorted_by, IsBreakOf, IsFirstBreak, KeepsAt}
use Rattle.std.specs.List.{slice_get}
use Rattle.std.specs.Option.{unwrap_or}

-- Keeps holds at the outputs below a place
abbrev pub KeptBelow : List (ℕ × Sort) → (Copy → Store) → ℕ → Type 0
KeptBelow outputs end n = (q : ℕ) (c : Cell) → q < n → slice_get outputs q ≡ Some (variable c) → KeepsAt end c

-- an output with its sort
pub output_at : (sorts : Sorts) (outputs : List Name) (i : ℕ) (d : Name) → i < length outputs
    → slice_get (sorted_by sorts (map (λ (x : Name). x.0) outputs)) i ≡ Some
    ((get_or outputs i d).0, unwrap_or (sorts (get_or outputs i d).0) Num)
output_at sorts [] i d here = absurd (omega arith)
output_at sorts (x ∷ xs) zero d here = refl
output_at sorts (x ∷ xs) (suc i) d here = output_at sorts xs i d (omega arith)

-- one more output
pub kept_more : (outputs : List (ℕ × Sort)) (end : Copy → Store) (n : ℕ) (o : ℕ × Sort) → slice_get outputs n ≡ Some o
    → ((c : Cell) → variable c ≡ o → KeepsAt end c) → KeptBelow outputs end n → KeptBelow outputs end (n + 1)
kept_more outputs end n o is here before q c lt there =
    ⊎_elim (λ (same : q ≡ n). here c (by (sym there ∙ ap (slice_get outputs) same ∙ is)))
    (λ (other : q ≡ n → ⊥). before q c (omega arith) there)
    (cases_eq q n)
  where
    by : Some (variable c) ≡ Some o → variable c ≡ o
    by e = cc

-- all outputs
pub all_kept : (outputs : List (ℕ × Sort)) (end : Copy → Store) (n : ℕ) → length outputs ≤ n → KeptBelow outputs end n → (cell : Cell)
    → Contains outputs (variable cell) → KeepsAt end cell
all_kept outputs end n past before cell h =
    before h.0 cell (omega (arith, h.1)) (slice_get-get_or outputs h.0 (variable cell) h.1 ∙ ap Some h.2)

-- the first output at which it fails
pub first_at : (outputs : List (ℕ × Sort)) (end : Copy → Store) (n : ℕ) (o : ℕ × Sort) (cell : Cell) (part : ℕ)
    → slice_get outputs n ≡ Some o
    → KeptBelow outputs end n → IsBreakOf o end cell part → IsFirstBreak outputs end cell part
first_at outputs end n o cell part is before b = record {
  place = n;
  output = is ∙ ap Some (sym b.own);
  outputs_before = before;
  indices_before = b.indices_before;
  broken = b.broken;
}

-- there are as many
length_outputs : (sorts : Sorts) (outputs : List Name) → length (sorted_by sorts (map (λ (x : Name). x.0) outputs)) ≡ length outputs
length_outputs sorts [] = refl
length_outputs sorts (x ∷ xs) = omega (arith, length_outputs sorts xs)

-- all outputs of a task
pub outputs_kept : (sorts : Sorts) (outputs : List Name) (end : Copy → Store) (n : ℕ) → length outputs ≤ n
    → KeptBelow (sorted_by sorts (map (λ (x : Name). x.0) outputs)) end n
    → (cell : Cell) → Contains (sorted_by sorts (map (λ (x : Name). x.0) outputs)) (variable cell) → KeepsAt end cell
outputs_kept sorts outputs end n past before =
    all_kept (sorted_by sorts (map (λ (x : Name). x.0) outputs)) end n (omega (arith, length_outputs sorts outputs)) before
