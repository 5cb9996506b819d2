-- A node is written behind the names of its state's terms and its kept formula.
use Rattle.sm_write.proofs.Imports.{◌≡◌, ℕ, suc, Bool, true, false, nat_le, if◌then◌else◌, Option, Some, List, [], ◌∷◌, ◌++◌, slice_get, refl, ap, sym, subst, ◌∙◌, Copy, by_copy, Sorts, copy_named, PerCopy, SymStore, Assertion, NumberedFormula, numbered, assertion_in, IsFormSorted, TableValue, trees_in, sorts_in, Tree, followed, is_shallow, set_of, above_opened, opened_by, State, node_in, NodeRow, NodeLine, IsNodeLineWithin, named_node, Pending, Progress, Subject, form_over, WritesForm, NamesState, EachSide, IsKeptAt, EachRow, WritesKeep, WritesNode, IsBuilt, Seen, EachKept, WriterValue, Stands, AreSeenNamed, Names, copy_back}
use Rattle.sm_plan.specs.declared.node.NodeRow.TheVariants as row
use Rattle.sm_plan.specs.Nodes as plan
use Rattle.sm_plan.specs.Nodes.{Opened}
use Rattle.sm_proof.specs.Passing.{Due}
use Rattle.sm_write.specs.NodesWritten.{line_of}
use Rattle.sm_write.proofs.StepLemmas.{after_opening}
use Rattle.sm_write.proofs.WalkedLemmas.{seen_kept}

-- a node's line names it
pub line_names : (sorts : Sorts) (trees : List Tree) (forms : List Assertion) (r : NodeRow) (n : ℕ) → IsKeptAt sorts trees forms r n →
    named_node forms (line_of r n) ≡ Some (node_in sorts trees r)
line_names sorts trees forms (row.Step c) n h = ap (λ (d : Copy). Some (plan.Step d)) (copy_back (copy_named c))
line_names sorts trees forms (row.Abs c count) n h = ap (λ (d : Copy). Some (plan.Abs d count)) (copy_back (copy_named c))
line_names sorts trees forms (row.Fork c) n h = ap (λ (d : Copy). Some (plan.Fork d)) (copy_back (copy_named c))
line_names sorts trees forms (row.Loop set f) n h =
    ap
    (λ (o : Option Assertion). followed o
    (λ (g : Assertion). Some (if nat_le set 15 then plan.Loop (set_of set) g else plan.Unfit 4))) h
line_names sorts trees forms (row.Block counts f) n h =
    ap
    (λ (o : Option Assertion). followed o
    (λ (g : Assertion). Some (plan.Block (by_copy counts.base counts.variant_a counts.variant_b counts.candidate) g))) h
line_names sorts trees forms row.Dead n h = refl
line_names sorts trees forms row.End n h = refl

-- the kept formula of a node that fits
pub row_kept : (P : Tree → Type 0) (sorts : Sorts) (trees : List Tree) (k : ℕ) (st : State) (r : NodeRow) (q : Opened) →
    opened_by k st (node_in sorts trees r) ≡ Some q → EachKept P (node_in sorts trees r) → EachRow P sorts trees r
row_kept P sorts trees k st (row.Step c) q e h = tt
row_kept P sorts trees k st (row.Abs c count) q e h = tt
row_kept P sorts trees k st (row.Fork c) q e h = tt
row_kept P sorts trees k st (row.Loop set f) q e h = of (nat_le set 15) e h
  where
    of : (b : Bool) →
        opened_by k st (if b then plan.Loop (set_of set) (assertion_in sorts trees (numbered f.now)) else plan.Unfit 4) ≡ Some q →
        EachKept P (if b then plan.Loop (set_of set) (assertion_in sorts trees (numbered f.now)) else plan.Unfit 4) →
        EachSide P (assertion_in sorts trees (numbered f.now))
    of true e h = h
    of false e h = absurd cc
row_kept P sorts trees k st (row.Block counts f) q e h = h
row_kept P sorts trees k st row.Dead q e h = tt
row_kept P sorts trees k st row.End q e h = tt

-- what a node's line that was added leads to
abbrev pub AddsNode : WriterValue → WriterValue → NodeLine → Type 0
AddsNode old new line =
    (s : Subject) (trees : List Tree) (p : Progress) (st : State) (above : ℕ) (rest : List Pending) (it : plan.Node) (q : Opened) →
    Stands s trees old p → p.pending ≡ Due st above ∷ rest → IsNodeLineWithin line → named_node p.forms line ≡ Some it →
    is_shallow (above_opened it above) ≡ true → opened_by p.nodes st it ≡ Some q →
    Stands s trees new (after_opening p st (above_opened it above) rest q)

-- a node, whole
pub node_written : (v : TableValue) (old a b new : WriterValue) (stores : PerCopy SymStore) (r : NodeRow) (keep : ℕ) (line : NodeLine) →
    NamesState v old a stores → WritesKeep v a b r keep → line ≡ line_of r keep → IsNodeLineWithin line → AddsNode b new line →
    new.names ≡ b.names → WritesNode v old new stores r
node_written v old a b new stores r keep line names keeps is within adds same s seen p st above rest q set due shown opens few kept =
    let sorts = sorts_in v in
    let trees = trees_in v in
    let now = seen ++ st ∷ [] in
    let it = node_in sorts trees r in
    let n = names s seen p st above rest set due shown in
    let k = keeps s now n.extends.after n.set (row_kept (IsBuilt (Seen now)) sorts trees p.nodes st r q opens kept) in
    let e = k.extends in
    let pending : e.after.pending ≡ Due st above ∷ rest = e.adds.pending ∙ (n.extends.adds.pending ∙ due) in
    let nodes : e.after.nodes ≡ p.nodes = e.adds.nodes ∙ n.extends.adds.nodes in
    let named : named_node e.after.forms line ≡ Some it =
    ap (named_node e.after.forms) is ∙ line_names sorts trees e.after.forms r keep k.there in
    let fits : opened_by e.after.nodes st it ≡ Some q = ap (λ (m : ℕ). opened_by m st it) nodes ∙ opens in
    let at = adds s trees e.after st above rest it q e.stands pending within named few fits in
    record {
      after = after_opening e.after st (above_opened it above) rest q;
      sorts = set.sorts;
      stands = at;
      is = refl;
      nodes = ap suc nodes;
      named =
          subst (λ (m : Names). AreSeenNamed trees m now) (sym same)
          (seen_kept trees a.names b.names now k.extends.kept n.set.named);
    }

-- a formula that is kept
pub keep_form : (v : TableValue) (old new : WriterValue) (r : NodeRow) (f : NumberedFormula) (n : ℕ) →
    IsFormSorted (sorts_in v) (form_over v f) →
    ((P : Tree → Type 0) → EachRow P (sorts_in v) (trees_in v) r → EachSide P (form_over v f)) →
    ((forms : List Assertion) → slice_get forms n ≡ Some (form_over v f) → IsKeptAt (sorts_in v) (trees_in v) forms r n) →
    WritesForm v old new f n → WritesKeep v old new r n
keep_form v old new r f n sorted each there writes s seen p set kept =
    let h = writes s seen p set sorted (each (IsBuilt (Seen seen)) kept) in
    record { extends = h.extends; there = there h.extends.after.forms h.there }
