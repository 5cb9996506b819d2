-- Terms that are equal on a branch are of one class by its facts.
use Rattle.sm_certify.proofs.Imports.{◌≡◌, true, IsTrue, List, ap, ◌∙◌, subst, sym, Formula, Tree, TableValue, trees_in, tree_at, TermId, Pairs, Setting, are_equal, ClassesValue, setting_of, IsWhole, classes_by, branch_of, equal_is_same}
use Rattle.sm_cc.specs.Classes.{Same}
use Rattle.sm_certify.proofs.GivenLemmas.{equal_seen}

-- the other way round too
pub same_on_branch : (table : TableValue) (ts : List TermId) (fs : List Formula) → IsWhole (trees_in table) ts → (t u : Tree) →
    IsTrue ((branch_of table fs).equal u t) → Same (setting_of (classes_by table ts fs)) t u
same_on_branch table ts fs whole t u h = λ equal closed.
    let s : Setting = setting_of (classes_by table ts fs) in
    let here : are_equal s u t ≡ true = ap (λ (e : Pairs). e u t) (equal_seen table ts fs whole) ∙ h in
    closed.turned u t ((equal_is_same s u t).0 here equal closed)

-- terms that are equal on a branch are of one class, where the classes are made of its facts
pub same_by_classes : (v : ClassesValue) (table : TableValue) (fs : List Formula) → IsWhole (trees_in table) v.terms →
    v ≡ classes_by table v.terms fs → (t u : TermId) →
    IsTrue ((branch_of table fs).equal (tree_at (trees_in table) u.0) (tree_at (trees_in table) t.0)) →
    Same (setting_of v) (tree_at (trees_in v.table) t.0) (tree_at (trees_in v.table) u.0)
same_by_classes v table fs whole e t u h =
    subst (λ (w : ClassesValue). Same (setting_of w) (tree_at (trees_in w.table) t.0) (tree_at (trees_in w.table) u.0)) (sym e)
    (same_on_branch table v.terms fs whole (tree_at (trees_in table) t.0) (tree_at (trees_in table) u.0) h)
