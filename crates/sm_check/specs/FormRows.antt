-- Private: the formulas of a proof as rows, of which each names earlier ones by their numbers.
use Rattle.std.specs.Prelude.{◌≡◌, ℕ, ◌<◌, min, length, slice_get, Option, Some, List, Bool, Result, Ok, Err}
use Rattle.sm_syntax.specs.text.Sorts.{Sorts}
use Rattle.sm_syntax.specs.declared.tree.Sort.TheVariants.{Num}
use Rattle.sm_term.specs.Terms.{Tree}
use Rattle.sm_term.specs.Assertions as plain
use Rattle.sm_term.specs.Assertions.{Assertion}
use Rattle.sm_term.specs.Sorted.{tree_sort}
use Rattle.sm_term.specs.Tables.{tree_at}
use Rattle.sm_term.specs.declared.term.TermId.{TermId}
use Rattle.sm_theory.specs.Lines.{followed}
use Rattle.sm_plan.specs.Limits.{form_nodes, form_depth}
use Rattle.sm_proof.specs.declared.line.FormLine.{FormLine}
use Rattle.sm_proof.specs.declared.line.FormLine.TheVariants.{Yes, No, Eq, Ne, Le, Lt, And, Or}
use Rattle.sm_proof.specs.declared.word.Head.TheVariants as head
use Rattle.sm_proof.specs.Named.{tested_or}
use Rattle.sm_proof.specs.declared.word.Word.{Word}
use Rattle.sm_proof.specs.declared.word.Word.TheVariants.{First}
use Rattle.sm_check.specs.declared.fault.LineFault.{LineFault}
use Rattle.sm_check.specs.declared.fault.LineFault.TheVariants.{Wrong, Memory}
pub use Rattle.sm_check.specs.declared.forms.FormRow.{FormRow}

-- a formula of two that have numbers
abbrev pub joined :
    List Assertion → ℕ → ℕ → (Assertion → Assertion → Assertion) → Option Assertion
joined forms p q makes =
    followed (slice_get forms p)
    (λ (f : Assertion). followed (slice_get forms q) (λ (g : Assertion). Some (makes f g)))

-- the formula of a row, over the trees of a table and the formulas of the proof
abbrev pub row_form : Sorts → List Tree → List Assertion → FormLine → Option Assertion
row_form sorts trees forms Yes = Some plain.Yes
row_form sorts trees forms No = Some plain.No
row_form sorts trees forms (Eq t u) =
    Some (plain.Eq (tree_sort sorts (tree_at trees t)) (tree_at trees t) (tree_at trees u))
row_form sorts trees forms (Ne t u) =
    Some (plain.Ne (tree_sort sorts (tree_at trees t)) (tree_at trees t) (tree_at trees u))
row_form sorts trees forms (Le t u) = Some (plain.Le (tree_at trees t) (tree_at trees u))
row_form sorts trees forms (Lt t u) = Some (plain.Lt (tree_at trees t) (tree_at trees u))
row_form sorts trees forms (And p q) = joined forms p q plain.And
row_form sorts trees forms (Or p q) = joined forms p q plain.Or

-- a row stands for a formula, and has its counts, which stop behind the limits
pub record RowStands (sorts : Sorts) (trees : List Tree) (forms : List Assertion) (row : FormRow)
    (f : Assertion) : Type 0 where
  pub made : row_form sorts trees forms row.made ≡ Some f
  pub nodes : row.nodes ≡ min (form_nodes f) 200001
  pub depth : row.depth ≡ min (form_depth f) 65

-- each row stands for the formula at its place
pub record RowsStand (sorts : Sorts) (trees : List Tree) (rows : List FormRow)
    (forms : List Assertion) : Type 0 where
  pub count : length rows ≡ length forms
  pub each : (k : ℕ) (row : FormRow) (f : Assertion) → slice_get rows k ≡ Some row →
      slice_get forms k ≡ Some f → RowStands sorts trees forms row f

-- two terms of a table that have one sort
pub record HaveOneSort (sorts : Sorts) (trees : List Tree) (t u : ℕ) : Type 0 where
  pub left : t < length trees
  pub right : u < length trees
  pub same : tree_sort sorts (tree_at trees t) ≡ tree_sort sorts (tree_at trees u)

-- two terms of a table that are numbers
pub record AreNumeric (sorts : Sorts) (trees : List Tree) (t u : ℕ) : Type 0 where
  pub left : t < length trees
  pub right : u < length trees
  pub left_number : tree_sort sorts (tree_at trees t) ≡ Num
  pub right_number : tree_sort sorts (tree_at trees u) ≡ Num

-- a row at place k names terms of a table, of fitting sorts, or earlier rows
abbrev pub IsRowReady : Sorts → List Tree → ℕ → FormLine → Type 0
IsRowReady sorts trees k Yes = Unit {0}
IsRowReady sorts trees k No = Unit {0}
IsRowReady sorts trees k (Eq t u) = HaveOneSort sorts trees t u
IsRowReady sorts trees k (Ne t u) = HaveOneSort sorts trees t u
IsRowReady sorts trees k (Le t u) = AreNumeric sorts trees t u
IsRowReady sorts trees k (Lt t u) = AreNumeric sorts trees t u
IsRowReady sorts trees k (And p q) = (p < k) × (q < k)
IsRowReady sorts trees k (Or p q) = (p < k) × (q < k)

-- each row names terms of a table, of fitting sorts, or earlier rows
abbrev pub AreRowsReady : Sorts → List Tree → List FormRow → Type 0
AreRowsReady sorts trees rows =
    (k : ℕ) (row : FormRow) → slice_get rows k ≡ Some row → IsRowReady sorts trees k row.made

-- a formula about two terms of a table
abbrev pub PairStands :
    List Tree → (Tree → Tree → Assertion) → TermId × TermId → Assertion → Type 0
PairStands trees makes pair f = f ≡ makes (tree_at trees pair.0.0) (tree_at trees pair.1.0)

-- two terms that are there, for which a test is left, or the word for one that isn't
abbrev pub TellsPair :
    List Tree → (Tree → Tree → Bool) → (Tree → Tree → Assertion) →
    Result (TermId × TermId) LineFault → Result Assertion Word → Type 0
TellsPair trees test makes (Ok pair) r =
    let a = tree_at trees pair.0.0 in
    let b = tree_at trees pair.1.0 in
    r ≡ tested_or (test a b) (First head.P) (Ok (makes a b))
TellsPair trees test makes (Err Memory) r = ⊥
TellsPair trees test makes (Err (Wrong w)) r = r ≡ Err w

-- two formulas that are there, or the word for one that isn't
abbrev pub TellsRows :
    List Assertion → ℕ → ℕ → (Assertion → Assertion → Assertion) →
    Result (FormRow × FormRow) LineFault → Result Assertion Word → Type 0
TellsRows forms p q makes (Ok rows) r =
    (f : Assertion) × (g : Assertion) × (slice_get forms p ≡ Some f) × (slice_get forms q ≡ Some g)
    × (r ≡ Ok (makes f g))
TellsRows forms p q makes (Err Memory) r = ⊥
TellsRows forms p q makes (Err (Wrong w)) r = r ≡ Err w
