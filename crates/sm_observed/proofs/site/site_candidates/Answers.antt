-- The table is of the declarations after the templates, too.
use Rattle.std.proofs.Common.{Result, Ok, Err, OnOk, ◌∙◌}
use Rattle.sm_plan.proofs.TablesWiden.{widens_grown, widens_twice}
use Rattle.sm_observed.proofs.site.site_candidates.Goals as goal

-- what holds in any case holds where a call goes well
in_any_case : {T E P : Type 0} (r : Result T E) → P → OnOk r P
in_any_case (Ok x) p = p
in_any_case (Err e) p = tt

pub put_seen-requires : goal.put_seen-requires
put_seen-requires c = c.in_ok-templates.ensures.sorts ∙ c.requires.declared

pub returns : goal.returns
returns c = record {
  widens =
      in_any_case c.filtered.result
      (widens_twice c.args.table.now c.templates_of.new.table c.put_seen.new.table c.in_ok-templates.ensures
      (widens_grown c.templates_of.new.table c.put_seen.new.table c.put_seen.ensures));
}
