use Rattle.sm_certify.proofs.Imports.{◌≡◌, ◌+◌, List, [], length, drop, refl, sym, ap, subst, ◌∙◌, drop_all, trees_in, sorts_in, CertLine, as_facts, Close, adds, Certificate, Closed, first_bad, splits_above, AreLinesWithin, Source, Decides, branch_of, splits_before}
use Rattle.sm_certify.proofs.BranchLeadsLemmas.{item_left}
use Rattle.sm_certify.proofs.DecidedLemmas.{decides_first, decides_usable, source_in_order, decided_refutes, decided_within}
use Rattle.sm_certify.proofs.decided.exact_tree.Goals as goal

pub loop-source-init : goal.loop-source-init
loop-source-init c =
    decides_first (branch_of c.args.table.now c.args.facts.now) c.in_ok-lines.lines.items c.args.sources.now c.args.count
    c.in_ok-lines.ensures c.requires.why

pub add_lines_of-requires-clause-usable : goal.add_lines_of-requires-clause-usable
add_lines_of-requires-clause-usable c =
    let b = branch_of c.args.table.now c.args.facts.now in
    let lines = c.loop-source.draft.lines.items in
    let i = c.loop-source.source-index in
    decides_usable b lines _ (drop (i + 1) c.args.sources.now) c.args.count
    (item_left (λ (l : List Source). Decides b lines l c.args.count) c.args.sources.now c.args.sources.now i _ refl c.loop-source-test.true
    c.loop-source.invariant)

pub loop-source-preserved : goal.loop-source-preserved
loop-source-preserved c =
    let table = c.args.table.now in
    let fs = c.args.facts.now in
    let b = branch_of table fs in
    let draft = c.loop-source.draft in
    let after = c.add_lines_of.new.draft in
    let i = c.loop-source.source-index in
    source_in_order table fs c.len.ensures.apart c.terms_have_places.ensures c.requires.within c.args.classes.now
    c.args.terms.now.list.items c.requires.whole c.requires.classes draft.lines.items after.lines.items draft.numbers.items after.numbers.items
    _ (drop (i + 1) c.args.sources.now) c.args.count
    (item_left (λ (l : List Source). Decides b draft.lines.items l c.args.count) c.args.sources.now c.args.sources.now i _ refl
    c.loop-source-test.true c.loop-source.invariant) c.in_ok-add_lines_of.ensures

pub returns-clause-refutes : goal.returns-clause-refutes
returns-clause-refutes c =
    λ n.
    let v = c.args.table.now in
    let b = branch_of v c.args.facts.now in
    let lines = c.loop-source.draft.lines.items in
    let none : drop c.loop-source.source-index c.args.sources.now ≡ [] =
    drop_all c.loop-source.source-index c.args.sources.now c.loop-source-test.false in
    let d = subst (λ (l : List Source). Decides b lines l c.args.count) none c.loop-source.invariant in
    let number = c.next_number-number.ensures ∙ ap (λ (ls : List CertLine). length c.args.facts.now + length ls) c.deref.ensures.value in
    ap (λ (t : Certificate). first_bad (adds (sorts_in v)) (sorts_in v) (as_facts b.facts) n t)
    (c.closed_tree-tree.ensures.certificate (trees_in v))
    ∙ decided_refutes v c.args.facts.now lines c.push.new.self.items c.args.count c.next_number-number.result d
    c.in_ok-push.ensures.items number n

pub returns-clause-within : goal.returns-clause-within
returns-clause-within c =
    let v = c.args.table.now in
    let b = branch_of v c.args.facts.now in
    let lines = c.loop-source.draft.lines.items in
    let none : drop c.loop-source.source-index c.args.sources.now ≡ [] =
    drop_all c.loop-source.source-index c.args.sources.now c.loop-source-test.false in
    let d = subst (λ (l : List Source). Decides b lines l c.args.count) none c.loop-source.invariant in
    subst (AreLinesWithin (length (trees_in v))) (sym c.closed_tree-tree.ensures.lines)
    (decided_within v c.args.facts.now lines c.push.new.self.items c.args.count c.next_number-number.result d c.in_ok-push.ensures.items)

pub returns-clause-splits : goal.returns-clause-splits
returns-clause-splits c =
    let trees = trees_in c.args.table.now in
    ap splits_above (c.closed_tree-tree.ensures.certificate trees)
    ∙ splits_before trees c.push.new.self.items (Closed (Close c.next_number-number.result))
