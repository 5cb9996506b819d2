-- What nodes ask, over a table that widens.
use Rattle.sm_goals.proofs.Imports.{◌≡◌, ℕ, zero, suc, ◌<◌, Option, List, [], ◌∷◌, length, get_or, sym, ap, ◌∙◌, subst, arith, Sorts, Formula, Assertion, TableValue, trees_in, sorts_in, AddsTerms, Tree, AreFormsReady, all_numbered, assertions_in}
use Rattle.std.specs.Prelude.{IfSome}
use Rattle.sm_plan.proofs.TablesWiden as widened
use Rattle.sm_expand.specs.Views.{AreDuesReady}
use Rattle.sm_expand.specs.declared.due.Due.{Due}
use Rattle.sm_solve.specs.declared.fact_base.FactBase.{FactBase}
use Rattle.sm_solve.specs.Sharing.{IsFactBase}
use Rattle.sm_goals.specs.Nodes.{IsNodeOf}
use Rattle.sm_goals.proofs.FormsLemmas.{forms_same}

-- a node of facts, over a table that has got more terms
pub node_over : (v w : TableValue) → AddsTerms v w → (fs : List Formula) → AreFormsReady (sorts_in v) (trees_in v) fs →
    (given : List Formula) → given ≡ fs → (node : Option FactBase) →
    IfSome node (IsFactBase w (assertions_in (sorts_in v) (trees_in v) (all_numbered given))) → IsNodeOf w fs node
node_over v w grows fs ready given are node h =
    let same : assertions_in (sorts_in v) (trees_in v) (all_numbered given) ≡ assertions_in (sorts_in w) (trees_in w) (all_numbered fs) =
    ap (λ (gs : List Formula). assertions_in (sorts_in v) (trees_in v) (all_numbered gs)) are ∙ forms_same (sorts_in v) (trees_in v) fs
    ∙ sym (widened.forms_stay v w (widened.widens_grown v w grows) fs ready) ∙ sym (forms_same (sorts_in w) (trees_in w) fs) in
    subst (λ (gs : List Assertion). IfSome node (IsFactBase w gs)) same h

-- the facts and the goals at a place
pub facts_at : (sorts : Sorts) (trees : List Tree) (ds : List Due) (i : ℕ) (d : Due) → AreDuesReady sorts trees ds → i < length ds →
    d ≡ get_or ds i d → AreFormsReady sorts trees d.facts.list.items × AreFormsReady sorts trees d.targets.list.items
facts_at sorts trees ds i d ready h e =
    subst (λ (x : Due). AreFormsReady sorts trees x.facts.list.items × AreFormsReady sorts trees x.targets.list.items) (sym e) (go ds i ready h)
  where
    go : (ds : List Due) (i : ℕ) → AreDuesReady sorts trees ds → i < length ds →
        (let x = get_or ds i d in AreFormsReady sorts trees x.facts.list.items × AreFormsReady sorts trees x.targets.list.items)
    go [] i r l = absurd (let no : i < 0 = l in omega arith)
    go (x ∷ xs) zero r l = (r.0, r.1)
    go (x ∷ xs) (suc i) r l = let fewer : i < length xs = omega (arith, l) in go xs i r.2 fewer

-- what is asked stays ready over a table with the same terms
pub ready_over : (v w : TableValue) → sorts_in w ≡ sorts_in v → trees_in w ≡ trees_in v → (ds : List Due) →
    AreDuesReady (sorts_in v) (trees_in v) ds → AreDuesReady (sorts_in w) (trees_in w) ds
ready_over v w sorts trees ds ready =
    subst (λ (s : Sorts). AreDuesReady s (trees_in w) ds) (sym sorts)
    (subst (λ (t : List Tree). AreDuesReady (sorts_in v) t ds) (sym trees) ready)
