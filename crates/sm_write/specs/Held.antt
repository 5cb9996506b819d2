-- Private: the new values and summaries that stand in the stores of a state get numbers.
use Rattle.std.specs.Prelude.{◌≡◌, ℕ, ◌<◌, Bool, true, false, List, [], ◌∷◌, ◌++◌, length, slice_get}
use Rattle.sm_syntax.specs.claim.ConflictFree.{Copy}
use Rattle.sm_syntax.specs.declared.copies.PerCopy.{PerCopy}
use Rattle.sm_term.specs.Sorted.{IsStoreSorted}
use Rattle.sm_term.specs.Symbolic.{SymbolicStore}
use Rattle.sm_term.specs.SymStores.{tree_or_start}
use Rattle.sm_term.specs.declared.symbolic.SymStore.{SymStore}
use Rattle.sm_term.specs.Tables.{TableValue, trees_in, sorts_in, tree_at}
use Rattle.sm_term.specs.declared.term.TermId.{TermId}
use Rattle.sm_term.specs.Terms.{Tree, Lit, Start, Havoc, Slot, Cell, Read, Write, Neg, Add, Sub, Mul, Fun}
use Rattle.sm_plan.specs.States.{State}
use Rattle.sm_plan.specs.Views.{stores_in}
use Rattle.sm_proof.specs.Passing.{Pending, Due, Progress, present_term}
use Rattle.sm_proof.specs.Verdicts.{Subject}
use Rattle.sm_write.specs.Seen.{IsAtom}
use Rattle.sm_write.specs.Walked.{Extends, IsSet}
use Rattle.sm_write.specs.Writers.{WriterValue}
use Rattle.sm_write.specs.Written.{Names, IsNamed}

-- whether a term is a new value or a summary
abbrev pub is_atom : Tree → Bool
is_atom (Lit z) = false
is_atom (Start x) = false
is_atom (Havoc k c x) = true
is_atom (Slot c x) = false
is_atom Cell = false
is_atom (Read a i) = false
is_atom (Write a i e) = false
is_atom (Neg t) = false
is_atom (Add t u) = false
is_atom (Sub t u) = false
is_atom (Mul t u) = false
is_atom (Fun c x args) = true

-- a tree is that of a term that has a number in the file
abbrev pub IsTreeNamed : List Tree → Names → Tree → Type 0
IsTreeNamed trees names t =
    (i : ℕ) × (i < length trees) × (tree_at trees i ≡ t) × IsNamed names (record { 0 = i })

-- what is due shows a copy's store
abbrev pub Shows : Progress → Copy → SymbolicStore → Type 0
Shows p c store =
    (due : Pending)
    × (rest : List Pending)
    × (p.pending ≡ due ∷ rest)
    × ((x : ℕ) → present_term due c x ≡ store x)

-- the store whose first names have these terms
abbrev pub terms_store : List Tree → List TermId → SymbolicStore
terms_store trees terms x = tree_or_start trees x (slice_get terms x)

-- a term has a number, if it is a new value or a summary
pub record OneNamed (s : Subject) (v : TableValue) (old new : WriterValue) (p : Progress)
    (t : TermId) : Type 0 where
  pub extends : Extends s (trees_in v) old new p
  pub named : IsAtom (tree_at (trees_in v) t.0) → IsNamed new.names t

-- a term gets a number, if it is a new value or a summary, wherever a copy has it at a name
abbrev pub NamesOne : TableValue → WriterValue → WriterValue → Copy → ℕ → TermId → Type 0
NamesOne v old new c x t =
    (s : Subject) (seen : List State) (p : Progress) (store : SymbolicStore) →
    IsSet s v old seen p → Shows p c store → IsStoreSorted (sorts_in v) store →
    store x ≡ tree_at (trees_in v) t.0 → OneNamed s v old new p t

-- the new values and summaries at the first names of a store have numbers
pub record HeldNamed (s : Subject) (v : TableValue) (old new : WriterValue) (p : Progress)
    (store : SymbolicStore) (n : ℕ) : Type 0 where
  pub extends : Extends s (trees_in v) old new p
  pub named :
      (x : ℕ) → x < n → IsAtom (store x) → IsTreeNamed (trees_in v) new.names (store x)

-- new values and summaries at a store's first names get numbers, wherever a copy has these terms
abbrev pub NamesHeld :
    TableValue → WriterValue → WriterValue → Copy → List TermId → ℕ → Type 0
NamesHeld v old new c terms n =
    (s : Subject) (seen : List State) (p : Progress) → IsSet s v old seen p →
    let store = terms_store (trees_in v) terms in
    Shows p c store → IsStoreSorted (sorts_in v) store → HeldNamed s v old new p store n

-- all new values and summaries of a store have numbers
pub record StoreNamed (s : Subject) (v : TableValue) (old new : WriterValue) (p : Progress)
    (store : SymbolicStore) : Type 0 where
  pub extends : Extends s (trees_in v) old new p
  pub named : (x : ℕ) → IsAtom (store x) → IsTreeNamed (trees_in v) new.names (store x)

-- all new values and summaries of a store get numbers, wherever a copy has the store
abbrev pub NamesStore : TableValue → WriterValue → WriterValue → Copy → SymbolicStore → Type 0
NamesStore v old new c store =
    (s : Subject) (seen : List State) (p : Progress) → IsSet s v old seen p → Shows p c store →
    StoreNamed s v old new p store

-- the state that is due was seen, too
pub record StateNamed (s : Subject) (v : TableValue) (old new : WriterValue) (p : Progress)
    (seen : List State) (st : State) : Type 0 where
  pub extends : Extends s (trees_in v) old new p
  pub set : IsSet s v new (seen ++ st ∷ []) extends.after

-- each state with these stores that is due is among those that were seen afterwards
abbrev pub NamesState :
    TableValue → WriterValue → WriterValue → PerCopy SymStore → Type 0
NamesState v old new stores =
    (s : Subject) (seen : List State) (p : Progress) (st : State) (above : ℕ)
    (rest : List Pending) → IsSet s v old seen p → p.pending ≡ Due st above ∷ rest →
    ((c : Copy) → st.stores c ≡ stores_in (trees_in v) stores c) →
    StateNamed s v old new p seen st
