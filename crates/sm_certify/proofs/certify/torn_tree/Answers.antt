-- The lines explain the equation, and one more line tells the contrary.
use Rattle.sm_certify.proofs.Imports.{◌≡◌, ◌+◌, ◌-◌, length, map, sym, subst, arith, trees_in, sorts_in, tree_at, line_in, Explain, AreLinesOf, ClassesValue, setting_of, equation_of, branch_of}
use Rattle.sm_cc.specs.Classes.{Same}
use Rattle.sm_cc.specs.Views.{numbers_of}
use Rattle.sm_certify.proofs.CertifyLemmas.{same_seen, some_lines, torn_equal, refuting_torn}
use Rattle.sm_certify.proofs.certify.torn_tree.Goals as goal

pub explain-requires-clause-same : goal.explain-requires-clause-same
explain-requires-clause-same c =
    let table = c.args.table.now in
    let trees = trees_in table in
    let same = same_seen table c.args.terms.now.list.items c.args.facts.now c.requires.whole (tree_at trees c.args.t.0)
    (tree_at trees c.args.u.0)
    (torn_equal (branch_of table c.args.facts.now) (tree_at trees c.args.t.0) (tree_at trees c.args.u.0) c.requires.why.2) in
    subst (λ (v : ClassesValue). Same (setting_of v) (tree_at (trees_in v.table) c.args.t.0) (tree_at (trees_in v.table) c.args.u.0))
    (sym c.requires.classes) same

pub overflow_sub-end : goal.overflow_sub-end
overflow_sub-end c =
    let table = c.args.table.now in
    let ts = c.args.terms.now.list.items in
    let fs = c.args.facts.now in
    let ls = c.in_ok-lines.lines.items in
    let named = subst (λ (v : ClassesValue). AreLinesOf v.terms ls) c.requires.classes c.in_ok-lines.ensures.named in
    let explain = subst (λ (v : ClassesValue). Explain (sorts_in v.table) (numbers_of v) (setting_of v).given (length fs)
    (map (line_in (trees_in v.table)) ls) (equation_of v.table c.args.t c.args.u)) c.requires.classes c.in_ok-lines.ensures.lines in
    let some = some_lines table ts fs c.requires.whole ls c.args.t c.args.u explain in
    omega arith

pub returns : goal.returns
returns c =
    let table = c.args.table.now in
    let ts = c.args.terms.now.list.items in
    let fs = c.args.facts.now in
    let ls = c.in_ok-lines.lines.items in
    let named = subst (λ (v : ClassesValue). AreLinesOf v.terms ls) c.requires.classes c.in_ok-lines.ensures.named in
    let explain = subst (λ (v : ClassesValue). Explain (sorts_in v.table) (numbers_of v) (setting_of v).given (length fs)
    (map (line_in (trees_in v.table)) ls) (equation_of v.table c.args.t c.args.u)) c.requires.classes c.in_ok-lines.ensures.lines in
    let some = some_lines table ts fs c.requires.whole ls c.args.t c.args.u explain in
    let n = length fs + c.len.result in
    let m = n - 1 in
    let next : n ≡ length fs + length ls = omega arith in
    let last : m + 1 ≡ length fs + length ls = omega arith in
    refuting_torn table ts fs c.requires.whole c.closed_tree.result ls c.push.new.self.items c.args.t c.args.u m n named explain
    c.in_ok-push.ensures.items c.closed_tree.ensures.certificate c.closed_tree.ensures.lines last next c.requires.why.0 c.requires.why.1
    c.requires.why.2
