-- The atom cancels where the term does.
use Rattle.sm_lia.proofs.Imports.{◌≡◌, Bool, true, None, if◌then◌else◌, sym, subst, ◌∙◌, IfOk, trees_in, sorts_in, tree_at, form_fact, StandsIf, can_cancel_stands, eliminated_stands, stands_at, one_place}
use Rattle.sm_num.specs.Eliminating.{eliminated, elimination, can_cancel}
use Rattle.sm_term.specs.SameTerms.{same_tree}
use Rattle.sm_lia.proofs.ComputingLemmas.{returned_for}
use Rattle.sm_lia.proofs.cancelling.cancel.Goals as goal

pub returns : goal.returns
returns c = λ h i first second.
    let trees = trees_in c.args.table.now in
    let sorts = sorts_in c.args.table.now in
    let n = c.args.t.0 in
    let t = tree_at trees n in
    let at = stands_at trees n c.requires in
    let f = c.args.f.now in
    let g = c.args.g.now in
    let yes : can_cancel same_tree h i t ≡ true = sym (can_cancel_stands trees f g h i n t at first.stands second.stands)
    ∙ sym c.cancels.ensures ∙ c.if-not-cancels.false in
    subst (λ (b : Bool). IfOk c.fact_of.result (λ o. StandsIf sorts trees o (if b then form_fact (elimination same_tree h i t) else None)))
    (sym yes)
    (c.fact_of.ensures sorts trees (elimination same_tree h i t)
    (returned_for trees (eliminated f g n) (elimination same_tree h i t) c.elim.result
    (eliminated_stands trees (one_place trees c.len-count.ensures.apart) f g h i n t at first second) c.elim.ensures))
