-- A split names no terms but those of the branch; without one the decision of its forms tells.
use Rattle.sm_solve.proofs.Imports.{◌≡◌, length, subst, ◌∙◌, trees_in, sorts_in, are_apart, are_equal, setting_of, branch_of, Seen, all_numbered, assertions_in, seen_in, IsToldWithin, SplitsBranch, by_no_split}
use Rattle.sm_solve.proofs.NamingLemmas.{split_names}
use Rattle.sm_solve.proofs.WalkingLemmas.{split_is}
use Rattle.sm_solve.proofs.visiting.visit_split.Goals as goal

pub returns-in-Some-clause-tells : goal.returns-in-Some-clause-tells
returns-in-Some-clause-tells c = λ go.
    let table = c.args.cx.now.table.now in
    let sorts = sorts_in table in
    let trees = trees_in table in
    let facts = c.args.facts.now in
    let equal = are_equal (setting_of c.args.classes.now) in
    let s : Seen = seen_in sorts trees trees facts equal (are_apart (setting_of c.args.classes.now) equal) in
    split_is go (by_no_split c.args.cx.now.reach (branch_of table facts)) (assertions_in sorts trees (all_numbered facts)) c.args.count sorts trees s
    (branch_of table facts) c.in_ok-split.field-0 c.in-Some.split c.requires.seen c.in-Some.is c.in_ok-split.ensures.split

pub returns-in-Some-clause-shows : goal.returns-in-Some-clause-shows
returns-in-Some-clause-shows c =
    let table = c.args.cx.now.table.now in
    let sorts = sorts_in table in
    let trees = trees_in table in
    let facts = c.args.facts.now in
    let all = assertions_in sorts trees (all_numbered facts) in
    let equal = are_equal (setting_of c.args.classes.now) in
    let s : Seen = seen_in sorts trees trees facts equal (are_apart (setting_of c.args.classes.now) equal) in (
      subst (IsToldWithin (length trees)) c.in-Some.is c.in_ok-split.ensures.within,
      subst (SplitsBranch sorts trees all) c.in-Some.is c.in_ok-split.ensures.line,
      split_names sorts trees all s c.in_ok-split.field-0 c.in-Some.split c.requires.named c.requires.seen c.in-Some.is
          c.in_ok-split.ensures.split,
    )
