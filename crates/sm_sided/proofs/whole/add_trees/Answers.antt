-- The three trees are the certificates of the change.
use Rattle.sm_sided.proofs.Imports.{◌++◌, map, ap, sym, ◌∙◌, certificate_in, certificates_of}
use Rattle.sm_sided.specs.WholeCertificates.{Change}
use Rattle.sm_sided.proofs.TreesMade.{three_more}
use Rattle.sm_sided.proofs.whole.add_trees.Goals as goal

pub returns-in_ok-push-in-OfA-3 : goal.returns-in_ok-push-in-OfA-3
returns-in_ok-push-in-OfA-3 c = λ ts.
    three_more (certificate_in ts) _ _ _ _ _ _ _ _ _ _ c.in_ok-push-in-OfA.ensures.items c.in_ok-push-in-OfA-2.ensures.items
    c.in_ok-push-in-OfA-3.ensures.items (c.in_ok-part_tree-in-OfA.ensures ts) (c.in_ok-part_tree-in-OfA-2.ensures ts)
    (c.in_ok-clash_tree-in-OfA.ensures ts)
    ∙ ap (λ (change : Change). map (certificate_in ts) c.args.trees.now.items ++ certificates_of change c.args.n) (sym c.in-OfA.is)

pub returns-in_ok-push-in-OfB-3 : goal.returns-in_ok-push-in-OfB-3
returns-in_ok-push-in-OfB-3 c = λ ts.
    three_more (certificate_in ts) _ _ _ _ _ _ _ _ _ _ c.in_ok-push-in-OfB.ensures.items c.in_ok-push-in-OfB-2.ensures.items
    c.in_ok-push-in-OfB-3.ensures.items (c.in_ok-part_tree-in-OfB.ensures ts) (c.in_ok-part_tree-in-OfB-2.ensures ts)
    (c.in_ok-turned_tree-in-OfB.ensures ts)
    ∙ ap (λ (change : Change). map (certificate_in ts) c.args.trees.now.items ++ certificates_of change c.args.n) (sym c.in-OfB.is)

pub returns-in_ok-push-in-OfBoth-3 : goal.returns-in_ok-push-in-OfBoth-3
returns-in_ok-push-in-OfBoth-3 c = λ ts.
    three_more (certificate_in ts) _ _ _ _ _ _ _ _ _ _ c.in_ok-push-in-OfBoth.ensures.items c.in_ok-push-in-OfBoth-2.ensures.items
    c.in_ok-push-in-OfBoth-3.ensures.items (c.in_ok-part_tree-in-OfBoth.ensures ts) (c.in_ok-part_tree-in-OfBoth-2.ensures ts)
    (c.in_ok-turned_tree-in-OfBoth.ensures ts)
    ∙ ap (λ (change : Change). map (certificate_in ts) c.args.trees.now.items ++ certificates_of change c.args.n) (sym c.in-OfBoth.is)
