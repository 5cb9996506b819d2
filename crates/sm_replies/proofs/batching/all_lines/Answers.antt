use Rattle.sm_replies.proofs.Imports.{ℕ, List, map, rules, ◌∙◌, string_bytes, Status, stops_by, FailsToReadOne}
use Rattle.sm_replies.proofs.BatchAnswers.{fails_among, group_more, in_group}
use Rattle.sm_replies.proofs.BatchGiven.{goes_further}
use Rattle.sm_replies.proofs.batching.all_lines.Goals as goal

pub returns-in_err-more-clause-exit : goal.returns-in_err-more-clause-exit
returns-in_err-more-clause-exit g c =
    let files = g.H.Shelf.file c.args.shelf.now in
    let others = g.H.Shelf.file c.groups.shelf in
    let b = g.H.Shelf.read_faults c.args.shelf.now in
    let m = g.H.Shelf.read_faults c.groups.shelf in
    let n = g.H.Shelf.read_faults c.group_lines.new.shelf in
    let names = map string_bytes c.args.names.now in
    let part = map string_bytes c.first_group.result.0.now in
    let stop =
    stops_by (FailsToReadOne others part m n) (FailsToReadOne files names b n)
    (λ (s : Status) (t : List ℕ) f. fails_among files others names part b m n s t c.groups.invariant.same c.groups.invariant.quiet
    (in_group c.args.names.now c.groups.rest.now c.first_group.result.0.now c.first_group.result.1.now c.groups.invariant.lines.0
    c.groups.invariant.lines.1 c.first_group.ensures.all) f) c.in_err-more.field-0.0 c.in_err-more.ensures.exit in
    search rules

pub groups-preserved : goal.groups-preserved
groups-preserved g c =
    let before = g.H.Shelf.given c.args.shelf.now in
    let mid = g.H.Shelf.given c.groups.shelf in
    let now = g.H.Shelf.given c.group_lines.new.shelf in record {
      lines = group_more (g.H.Shelf.file c.args.shelf.now) (g.H.Shelf.file c.groups.shelf) (g.H.Shelf.read_faults c.args.shelf.now)
          (g.H.Shelf.read_faults c.groups.shelf) before mid now c.args.effort c.args.names.now c.groups.rest.now c.first_group.result.0.now
          c.first_group.result.1.now c.groups.invariant.lines.0 c.groups.lines.items c.in_ok-more.more.items c.append.new.self.items
          c.groups.invariant.same c.groups.invariant.quiet c.groups.invariant.goes_on c.in_ok-more.ensures.goes_on
          c.groups.invariant.lines.1 c.first_group.ensures.all c.groups.invariant.lines.2 c.in_ok-more.ensures.lines (search rules);
      quiet = c.in_ok-more.ensures.quiet ∙ c.groups.invariant.quiet;
      goes_on = goes_further before mid now c.groups.invariant.goes_on c.in_ok-more.ensures.goes_on;
      same = λ (other : List ℕ). c.in_ok-more.ensures.same other ∙ c.groups.invariant.same other;
      writes = c.in_ok-more.ensures.writes ∙ c.groups.invariant.writes;
      worker = search rules;
    }
