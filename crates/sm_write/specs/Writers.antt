-- Private: how far a writer came.
use Rattle.std.specs.Prelude.{◌≡◌, ℕ, ◌<◌, Bool, List, ◌∷◌, ◌++◌, length}
use Rattle.sm_term.specs.Assertions.{Assertion}
use Rattle.sm_term.specs.Tables.{tree_at}
use Rattle.sm_term.specs.Terms.{Tree}
use Rattle.sm_plan.specs.States.{State}
use Rattle.sm_proof.specs.Passing.{Pending, Progress}
use Rattle.sm_proof.specs.Verdicts.{Subject}
use Rattle.sm_write.specs.Seen.{IsAtom, Seen}
use Rattle.sm_prune.specs.Texts.{Leads}
use Rattle.sm_write.specs.Written.{Names, AreNames, IsNamed}

-- a text, whether it has lines `exact`, the numbers that terms have in it, and how many terms,
-- formulas and nodes it has
pub record WriterValue : Type 0 where
  pub text : List ℕ
  pub exact : Bool
  pub names : Names
  pub terms : ℕ
  pub forms : ℕ
  pub nodes : ℕ

-- what was written leads to a proof on its way, in which terms have these numbers
pub record Stands (s : Subject) (trees : List Tree) (w : WriterValue) (p : Progress) : Type 0 where
  pub leads : Leads s w.text w.exact p
  pub names : AreNames trees w.names p.terms
  pub terms : length p.terms ≡ w.terms
  pub forms : length p.forms ≡ w.forms
  pub nodes : p.nodes ≡ w.nodes

-- each new value and each summary that was seen has a number
abbrev pub AreSeenNamed : List Tree → Names → List State → Type 0
AreSeenNamed trees names seen =
    (t : Tree) → IsAtom t → Seen seen t →
    (i : ℕ) × (i < length trees) × (tree_at trees i ≡ t) × IsNamed names (record { 0 = i })

-- something is due
abbrev pub IsDue : Progress → Type 0
IsDue p = (due : Pending) × ((rest : List Pending) × (p.pending ≡ due ∷ rest))

-- a proof with more terms and formulas
pub record Adds (p q : Progress) : Type 0 where
  pub nodes : q.nodes ≡ p.nodes
  pub pending : q.pending ≡ p.pending
  pub terms : (more : List Tree) × (q.terms ≡ p.terms ++ more)
  pub forms : (more : List Assertion) × (q.forms ≡ p.forms ++ more)
