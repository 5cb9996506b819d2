-- All sites are put behind none.
use Rattle.sm_sketch.proofs.Imports.{List, ◌++◌, ap, ◌∙◌, Global, Rc, Formulas, forms_of, shared_forms, numbered_sketch}
use Rattle.sm_sketch.proofs.SitesListed.{listed, listed_ready}
use Rattle.sm_sketch.proofs.listing.sites.Goals as goal

pub returns-clause-listed : goal.returns-clause-listed
returns-clause-listed c = λ sorts trees.
    let s = c.args.sketch.now in
    listed sorts trees s c.put_sites.new.list.items
    (c.in_ok-put_sites.ensures
    ∙ ap (λ (l : List (Rc Formulas Global)). shared_forms l ++ forms_of (numbered_sketch s)) c.new-list.ensures.items)

pub returns-clause-ready : goal.returns-clause-ready
returns-clause-ready c = λ sorts trees ready.
    let s = c.args.sketch.now in
    listed_ready sorts trees s c.put_sites.new.list.items
    (c.in_ok-put_sites.ensures
    ∙ ap (λ (l : List (Rc Formulas Global)). shared_forms l ++ forms_of (numbered_sketch s)) c.new-list.ensures.items) ready
