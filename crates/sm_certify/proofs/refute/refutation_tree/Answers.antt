use Rattle.sm_certify.proofs.Imports.{ℕ, List, [], length, sym, ap, ◌∙◌, subst, trees_in, sorts_in, CertLine, Close, as_facts, adds, Certificate, Closed, first_bad, splits_above, AreLinesWithin, branch_of, Leads, mark_at, splits_before}
use Rattle.sm_certify.proofs.LeadsLemmas.{leads_first, leads_bad, places_first}
use Rattle.sm_certify.proofs.BranchLeadsLemmas.{closed_step, closed_within}
use Rattle.sm_certify.proofs.refute.refutation_tree.Goals as goal

pub add_sources-requires-clause-leads : goal.add_sources-requires-clause-leads
add_sources-requires-clause-leads c =
    let b = branch_of c.args.table.now c.args.facts.now in
    let r = c.args.refutation.now in
    let mark = mark_at c.in_ok-marks.marks.list.items in
    subst (λ (l : List CertLine). Leads b mark l c.new-2.result.items r.sources.items r.elims.items r.bad) (sym c.new.ensures.items)
    (subst (λ (l : List ℕ). Leads b mark [] l r.sources.items r.elims.items r.bad) (sym c.new-2.ensures.items)
    (leads_first b mark r c.requires.why c.in_ok-marks.ensures))

pub number_at-bad-requires : goal.number_at-bad-requires
number_at-bad-requires c =
    let b = branch_of c.args.table.now c.args.facts.now in
    let draft = c.add_sums.new.draft in
    leads_bad b (mark_at c.in_ok-marks.marks.list.items) draft.lines.items draft.numbers.items c.args.refutation.now.bad
    c.in_ok-add_sums.ensures

pub returns-clause-refutes : goal.returns-clause-refutes
returns-clause-refutes c =
    λ n.
    let v = c.args.table.now in
    let draft = c.add_sums.new.draft in
    let mark = mark_at c.in_ok-marks.marks.list.items in
    ap (λ (t : Certificate). first_bad (adds (sorts_in v)) (sorts_in v) (as_facts (branch_of v c.args.facts.now).facts) n t)
    (c.closed_tree-tree.ensures.certificate (trees_in v))
    ∙ closed_step v c.args.facts.now mark c.len.ensures.apart draft.lines.items draft.numbers.items c.args.refutation.now.bad
    c.number_at-bad.result c.in_ok-add_sums.ensures c.number_at-bad.ensures n

pub returns-clause-within : goal.returns-clause-within
returns-clause-within c =
    let v = c.args.table.now in
    let draft = c.add_sums.new.draft in
    subst (AreLinesWithin (length (trees_in v))) (sym c.closed_tree-tree.ensures.lines)
    (closed_within v c.args.facts.now (mark_at c.in_ok-marks.marks.list.items) draft.lines.items draft.numbers.items
    c.args.refutation.now.bad c.number_at-bad.result c.in_ok-add_sums.ensures)

pub returns-clause-splits : goal.returns-clause-splits
returns-clause-splits c =
    let trees = trees_in c.args.table.now in
    ap splits_above (c.closed_tree-tree.ensures.certificate trees)
    ∙ splits_before trees c.add_sums.new.draft.lines.items (Closed (Close c.number_at-bad.result))

pub marks_of-requires : goal.marks_of-requires
marks_of-requires c =
    places_first (branch_of c.args.table.now c.args.facts.now) c.args.refutation.now c.requires.why
