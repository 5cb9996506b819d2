use Rattle.sm_cert.proofs.Imports.{◌+◌, Bool, List, take, drop, length, sym, subst, trees_in, sorts_in, line_in, IsLineWithin, CertLine, ways_with, first_of_three, first_bad, bad_line, lines_before, FaultTells, GoesOn, Arrives}
use Rattle.sm_cert.specs.declared.error.CertFault.TheVariants as fault
use Rattle.sm_cert.proofs.CheckLemmas.{within_at, three_sound, line_sorted, arrives_more, arrives_bad, lines_at, lines_more, take_within, take_all}
use Rattle.sm_cert.proofs.check.add_lines.Goals as goal

pub add_line-requires : goal.add_line-requires
add_line-requires g c =
    subst (IsLineWithin (length (trees_in c.args.table.now))) (sym c.line-item.is)
    (within_at (length (trees_in c.args.table.now)) c.args.lines.now c.loop-line.line-index c.line-item.result c.requires.within
    c.loop-line-test.true)

pub returns-then-not-branch-clause-err : goal.returns-then-not-branch-clause-err
returns-then-not-branch-clause-err g c = λ facts m rest all fine e.
    let sorts = sorts_in c.args.table.now in
    let trees = trees_in c.args.table.now in
    let theories = first_of_three (g.E.Theory.adds c.args.three.now.euf.now) (g.L.Theory.adds c.args.three.now.lia.now)
    (g.R.Theory.adds c.args.three.now.rows.now) sorts in
    let ls = c.args.lines.now in
    let i = c.loop-line.line-index in
    let l = c.line-item.result in
    subst (λ (lines : List CertLine). FaultTells (fault.Wrong c.loop-line.at)
    (bad_line (first_bad theories sorts facts m (lines_before trees lines rest))))
    (sym (lines_at ls i l c.loop-line-test.true c.line-item.is))
    (arrives_bad theories sorts trees facts m (take i ls) c.loop-line.path.list.items c.loop-line.at l c.add_line.new.path.list.items
    (drop (i + 1) ls) rest
    (c.loop-line.invariant.arrives facts m all fine e)
    (λ ks stand good. subst (λ (b : Bool). GoesOn sorts trees b c.add_line.new.path.list.items ks
    (ways_with sorts ks (theories ks (line_in trees l)) (line_in trees l))) c.if-not-branch.true
    (c.in_ok-add_line.ensures.ways ks stand good)))

pub loop-line-preserved : goal.loop-line-preserved
loop-line-preserved g c =
    let sorts = sorts_in c.args.table.now in
    let trees = trees_in c.args.table.now in
    let theories = first_of_three (g.E.Theory.adds c.args.three.now.euf.now) (g.L.Theory.adds c.args.three.now.lia.now)
    (g.R.Theory.adds c.args.three.now.rows.now) sorts in
    let sound = three_sound (g.E.Theory.adds c.args.three.now.euf.now) (g.L.Theory.adds c.args.three.now.lia.now)
    (g.R.Theory.adds c.args.three.now.rows.now)
    (g.met.E.Theory.holds c.args.three.now.euf.now) (g.met.L.Theory.holds c.args.three.now.lia.now)
    (g.met.R.Theory.holds c.args.three.now.rows.now)
    (g.met.E.Theory.sorted c.args.three.now.euf.now) (g.met.L.Theory.sorted c.args.three.now.lia.now)
    (g.met.R.Theory.sorted c.args.three.now.rows.now) sorts in
    let ls = c.args.lines.now in
    let i = c.loop-line.line-index in
    let l = c.line-item.result in
    let within = subst (IsLineWithin (length trees)) (sym c.line-item.is)
    (within_at (length trees) ls i l c.requires.within c.loop-line-test.true) in
    record {
      kept = take_within c.args.path.now.list.items c.loop-line.path.list.items c.add_line.new.path.list.items c.loop-line.invariant.kept
          c.in_ok-add_line.ensures.kept;
      arrives = λ facts m all fine e.
          subst (λ (lines : List CertLine). Arrives theories sorts trees facts m lines c.add_line.new.path.list.items
          c.saturating_add-at.result)
          (lines_more ls i l c.loop-line-test.true c.line-item.is)
          (arrives_more theories sorts trees facts m (take i ls) c.loop-line.path.list.items c.loop-line.at l c.add_line.new.path.list.items
          c.saturating_add-at.result sound
          (line_sorted sorts trees l c.requires.sorted within) (c.loop-line.invariant.arrives facts m all fine e)
          (λ ks stand good. subst (λ (b : Bool). GoesOn sorts trees b c.add_line.new.path.list.items ks
          (ways_with sorts ks (theories ks (line_in trees l)) (line_in trees l))) c.if-not-branch.false
          (c.in_ok-add_line.ensures.ways ks stand good)) c.saturating_add-at.ensures);
    }

pub returns-clause-ok : goal.returns-clause-ok
returns-clause-ok g c = λ facts m all fine e.
    let sorts = sorts_in c.args.table.now in
    let trees = trees_in c.args.table.now in
    let theories = first_of_three (g.E.Theory.adds c.args.three.now.euf.now) (g.L.Theory.adds c.args.three.now.lia.now)
    (g.R.Theory.adds c.args.three.now.rows.now) sorts in
    subst (λ (lines : List CertLine). Arrives theories sorts trees facts m lines c.loop-line.path.list.items c.loop-line.at)
    (take_all c.args.lines.now c.loop-line.line-index c.loop-line-test.false) (c.loop-line.invariant.arrives facts m all fine e)
