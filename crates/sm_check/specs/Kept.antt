-- Private: the formula that a node's line keeps, and the node with it.
use Rattle.std.specs.Prelude.{◌≡◌, ℕ, ◌<◌, nat_le, if◌then◌else◌, slice_get, Option, Some, None, List}
use Rattle.sm_syntax.specs.claim.ConflictFree.{copy_of}
use Rattle.sm_syntax.specs.text.Parts.{by_copy}
use Rattle.sm_syntax.specs.text.Sorts.{Sorts}
use Rattle.sm_term.specs.Terms.{Tree}
use Rattle.sm_term.specs.Assertions as plain
use Rattle.sm_term.specs.Assertions.{Assertion}
use Rattle.sm_term.specs.Formulas.{numbered, assertion_in}
use Rattle.sm_term.specs.declared.formula.Formula.{Formula}
use Rattle.sm_plan.specs.Masks.{set_of}
use Rattle.sm_plan.specs.Nodes as plan
use Rattle.sm_plan.specs.Nodes.{opened_by}
use Rattle.sm_plan.specs.States.{State}
use Rattle.sm_proof.specs.declared.line.FormLine.{FormLine}
use Rattle.sm_proof.specs.declared.line.FormLine.TheVariants.{Yes, No, Eq, Ne, Le, Lt, And, Or}
use Rattle.sm_proof.specs.declared.line.NodeLine.{NodeLine}
use Rattle.sm_proof.specs.declared.line.NodeLine.TheVariants as node
use Rattle.sm_check.specs.declared.forms.FormRow.{FormRow}

-- a row names earlier ones
abbrev pub NamesEarlier : ℕ → FormLine → Type 0
NamesEarlier k Yes = Unit {0}
NamesEarlier k No = Unit {0}
NamesEarlier k (Eq t u) = Unit {0}
NamesEarlier k (Ne t u) = Unit {0}
NamesEarlier k (Le t u) = Unit {0}
NamesEarlier k (Lt t u) = Unit {0}
NamesEarlier k (And p q) = (p < k) × (q < k)
NamesEarlier k (Or p q) = (p < k) × (q < k)

-- each row names earlier ones
abbrev pub NameEarlier : List FormRow → Type 0
NameEarlier rows =
    (k : ℕ) (row : FormRow) → slice_get rows k ≡ Some row → NamesEarlier k row.made

-- the number of the formula that a line keeps, if it keeps one
abbrev pub keep_of : NodeLine → Option ℕ
keep_of (node.Step c) = None
keep_of (node.Abs c n) = None
keep_of (node.Fork c) = None
keep_of (node.Loop set keep) = Some keep
keep_of (node.Block k0 k1 k2 k3 keep) = Some keep
keep_of node.Dead = None
keep_of node.End = None

-- where a line keeps a formula, it is there
abbrev pub IsThere : ℕ → Option ℕ → Type 0
IsThere count None = Unit {0}
IsThere count (Some n) = n < count

-- the formula with a number, or else Yes
abbrev pub IsKeptForm : List Assertion → Option ℕ → Assertion → Type 0
IsKeptForm forms None f = f ≡ plain.Yes
IsKeptForm forms (Some n) f = slice_get forms n ≡ Some f

-- the node of a line that keeps this
abbrev pub node_with : Assertion → NodeLine → plan.Node
node_with f (node.Step c) = plan.Step (copy_of c)
node_with f (node.Abs c n) = plan.Abs (copy_of c) n
node_with f (node.Fork c) = plan.Fork (copy_of c)
node_with f (node.Loop set keep) =
    if nat_le set 15 then plan.Loop (set_of set) f else plan.Unfit 4
node_with f (node.Block k0 k1 k2 k3 keep) = plan.Block (by_copy k0 k1 k2 k3) f
node_with f node.Dead = plan.Dead
node_with f node.End = plan.Ends

-- a formula was made for this one, or its node opens nothing anywhere
abbrev pub KeepsOrFails :
    Sorts → List Tree → NodeLine → Assertion → Option Formula → Type 0
KeepsOrFails sorts trees line f None =
    (k : ℕ) (st : State) → opened_by k st (node_with f line) ≡ None
KeepsOrFails sorts trees line f (Some made) = assertion_in sorts trees (numbered made) ≡ f
