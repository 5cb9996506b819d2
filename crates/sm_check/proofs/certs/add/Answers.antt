-- One way, or a refusal.
use Rattle.sm_check.proofs.Imports.{◌≡◌, List, Bool, refl, subst, Some, trees_in, sorts_in, BranchFact, ways, adds, line_in, arithmetic_sorted, ways_are_sorted_from, line_sorted, First}
use Rattle.sm_cert.specs.Ways.{GoesOn}
use Rattle.sm_check.specs.declared.fault.LineFault.TheVariants.{Wrong}
use Rattle.sm_check.proofs.TellsLemmas.{same_word}
use Rattle.sm_check.proofs.CertsLemmas.{Stand, next_of, one_goes, one_stops, adding_ways}
use Rattle.sm_check.proofs.certs.add.Goals as goal

pub returns-then-branch-clause-tells : goal.returns-then-branch-clause-tells
returns-then-branch-clause-tells c waiting facts rest all sorted wait =
    let trees = trees_in c.args.table.now in
    let sorts = sorts_in c.args.table.now in
    let branch = c.args.branch in
    let l = line_in trees c.args.line.now in
    let w = ways sorts facts l in
    let path = c.add_line.new.path.list.items in
    let goes = subst (λ (b : Bool). GoesOn sorts trees b path facts w) c.if-branch.true (c.in_ok-add_line.ensures.ways facts all sorted) in
    one_goes sorts trees c.args.path.now.list.items path facts waiting waiting branch.stores branch.splits c.args.head rest all sorted wait w goes
    (λ (to : List (List BranchFact)) (e : w ≡ Some to).
    ways_are_sorted_from arithmetic_sorted sorts facts l to sorted
    (line_sorted sorts trees c.args.line.now c.len.ensures.sorted c.requires.within) e)

pub returns-else-branch-clause-tells : goal.returns-else-branch-clause-tells
returns-else-branch-clause-tells c waiting facts rest all sorted wait =
    let trees = trees_in c.args.table.now in
    let sorts = sorts_in c.args.table.now in
    let branch = c.args.branch in
    let l = line_in trees c.args.line.now in
    let w = ways sorts facts l in
    let path = c.add_line.new.path.list.items in
    let start = c.args.path.now.list.items in
    let head = c.args.head in
    let goes = subst (λ (b : Bool). GoesOn sorts trees b path facts w) c.if-branch.false (c.in_ok-add_line.ensures.ways facts all sorted) in
    let one = adding_ways sorts trees facts (adds sorts facts l) c.args.line.now c.requires.kind c.requires.other in
    same_word (Stand sorts trees path waiting) (Wrong (First head))
    (next_of sorts trees start path facts waiting waiting branch.stores branch.splits head rest all sorted wait w) (First head) refl
    (one_stops sorts trees start path facts waiting waiting branch.stores branch.splits head rest all sorted wait w goes one)
