-- All nodes and sites are put behind none.
use Rattle.sm_sketch.specs.SketchViews.{sketch_in}
use Rattle.sm_houdini.proofs.SitesLemmas.{whole_owners, whole_choice}
use Rattle.sm_houdini.proofs.sites.sites_of.Goals as goal

pub returns-clause-owners : goal.returns-clause-owners
returns-clause-owners c = λ sorts trees.
    whole_owners c.new-owners.result c.new-chosen.result c.add_sketch.new.sites (sketch_in sorts trees c.args.sketch.now)
    c.new-owners.ensures.items c.new-chosen.ensures.items (c.in_ok-add_sketch.ensures sorts trees)

pub returns-clause-full : goal.returns-clause-full
returns-clause-full c = λ sorts trees.
    whole_choice c.new-owners.result c.new-chosen.result c.add_sketch.new.sites (sketch_in sorts trees c.args.sketch.now)
    c.new-chosen.ensures.items (c.in_ok-add_sketch.ensures sorts trees)
