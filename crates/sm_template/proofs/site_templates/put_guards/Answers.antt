-- The inequalities stand behind the templates.
use Rattle.sm_template.proofs.Imports.{ℕ, List, subst, flat_map, Copy, of_copy, TableValue, trees_in, sorts_in, set_of, loop_guard, rest_code, AddsForms, AreBoundsReady, bounds_in, guard_templates}
use Rattle.sm_moves.specs.CopySets.{members}
use Rattle.sm_template.proofs.SitesLemmas.{guards_put}
use Rattle.sm_template.proofs.site_templates.put_guards.Goals as goal

pub returns-clause-added : goal.returns-clause-added
returns-clause-added c =
    let v = c.args.table.now in
    let w = c.bounds_of.new.table in
    let gs = c.args.list.now.items in
    let hs = c.put_bounds.new.list.items in
    let keys = c.in_ok-bounds.bounds.keys in
    let guards = flat_map (λ (d : Copy). guard_templates (loop_guard (rest_code (of_copy c.args.code.now d))) d) (members (set_of c.args.set)) in
    let put = λ (l : List (ℕ × ℕ)). (x : TableValue) → AreBoundsReady (sorts_in x) (trees_in x) l →
    AddsForms x x gs hs (bounds_in (trees_in x) l) in
    guards_put v w gs hs keys guards c.bounds_of.ensures.grows c.in_ok-bounds.ensures.added
    (subst put c.as_slice.ensures.keys c.in_ok-put_bounds.ensures)
