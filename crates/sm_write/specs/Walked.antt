-- Private: a writer that writes the lines of a term, parts first.
use Rattle.std.specs.Prelude.{◌≡◌, ℕ, Some, List, [], ◌∷◌}
use Rattle.sm_term.specs.Tables.{TableValue, trees_in, sorts_in, tree_at}
use Rattle.sm_term.specs.declared.term.TermId.{TermId}
use Rattle.sm_term.specs.Terms.{Tree}
use Rattle.sm_plan.specs.States.{State}
use Rattle.sm_proof.specs.Passing.{Progress}
use Rattle.sm_proof.specs.Verdicts.{Subject}
use Rattle.sm_write.specs.Seen.{IsBuilt, Seen}
use Rattle.sm_write.specs.Writers.{WriterValue, Stands, AreSeenNamed, IsDue, Adds}
use Rattle.sm_write.specs.Written.{Names}

-- terms keep their numbers
abbrev pub KeepsNames : Names → Names → Type 0
KeepsNames old new = (t : ℕ) (n : TermId) → old t ≡ Some n → new t ≡ Some n

-- a writer wrote lines of terms and formulas, and stands at a proof that has them
pub record Extends (s : Subject) (trees : List Tree) (old new : WriterValue) (p : Progress) : Type 0
  where
    pub after : Progress
    pub stands : Stands s trees new after
    pub adds : Adds p after
    pub kept : KeepsNames old.names new.names

-- a writer can name what is built of what was seen
pub record IsSet (s : Subject) (v : TableValue) (w : WriterValue) (seen : List State) (p : Progress) :
    Type 0
  where
    pub sorts : s.sorts ≡ sorts_in v
    pub stands : Stands s (trees_in v) w p
    pub due : IsDue p
    pub named : AreSeenNamed (trees_in v) w.names seen

-- terms are built of what was seen
abbrev pub AreBuiltAt : TableValue → List State → List ℕ → Type 0
AreBuiltAt v seen [] = Unit {0}
AreBuiltAt v seen (t ∷ ts) =
    IsBuilt (Seen seen) (tree_at (trees_in v) t) × AreBuiltAt v seen ts

-- a walk over the parts of a term: it wrote lines, and goes on at terms that are built of what was
-- seen
pub record Walked (s : Subject) (v : TableValue) (old new : WriterValue) (seen : List State)
    (p : Progress) (waiting : List ℕ) (next : ℕ) : Type 0 where
  pub extends : Extends s (trees_in v) old new p
  pub built : IsBuilt (Seen seen) (tree_at (trees_in v) next)
  pub others : AreBuiltAt v seen waiting

-- a walk over the parts of a term, for each proof on its way that the writer could stand for where it
-- began: it is as `Walked` tells, if what was seen has numbers and the term is built of it
abbrev pub Walks :
    TableValue → WriterValue → WriterValue → ℕ → List ℕ → ℕ → Type 0
Walks v old new t waiting next =
    (s : Subject) (seen : List State) (p : Progress) → IsSet s v old seen p →
    IsBuilt (Seen seen) (tree_at (trees_in v) t) → Walked s v old new seen p waiting next
