use Rattle.sm_houdini.proofs.Imports.{ap, ◌∙◌, trees_in, sorts_in, owners}
use Rattle.std.proofs.Common.{None}
use Rattle.sm_houdini.proofs.deciding.decided_by.Goals as goal

pub decided_if_small-requires-clause-knows : goal.decided_if_small-requires-clause-knows
decided_if_small-requires-clause-knows g c κs within =
    let v = c.args.table in
    record {
      declared = c.requires.declared;
      numbered = c.requires.numbered;
      sorted = c.requires.sorted;
      filled = c.requires.filled;
      sketch = c.requires.sketch;
      ready = c.requires.ready;
      owned = c.in_ok-owners.ensures.owners (sorts_in v) (trees_in v) ∙ ap (owners None 0) c.requires.sketch;
    }
