-- The lines explain the equation, whose contrary is the fact.
use Rattle.sm_certify.proofs.Imports.{◌≡◌, ◌+◌, ◌-◌, length, map, sym, subst, arith, trees_in, sorts_in, tree_at, line_in, Explain, AreLinesOf, ClassesValue, setting_of, equation_of}
use Rattle.sm_cc.specs.Classes.{Same}
use Rattle.sm_cc.specs.Views.{numbers_of}
use Rattle.sm_certify.proofs.CertifyLemmas.{same_seen, some_lines, refuting_contrary}
use Rattle.sm_certify.proofs.certify.contrary_tree.Goals as goal

pub explain-requires-clause-same : goal.explain-requires-clause-same
explain-requires-clause-same c =
    let trees = trees_in c.args.table.now in
    let same = same_seen c.args.table.now c.args.terms.now.list.items c.args.facts.now c.requires.whole (tree_at trees c.args.sides.0.0)
    (tree_at trees c.args.sides.1.0) c.requires.same in
    subst (λ (v : ClassesValue). Same (setting_of v) (tree_at (trees_in v.table) c.args.sides.0.0) (tree_at (trees_in v.table) c.args.sides.1.0))
    (sym c.requires.classes) same

pub returns : goal.returns
returns c =
    let table = c.args.table.now in
    let ts = c.args.terms.now.list.items in
    let fs = c.args.facts.now in
    let ls = c.in_ok-lines.lines.items in
    let named = subst (λ (v : ClassesValue). AreLinesOf v.terms ls) c.requires.classes c.in_ok-lines.ensures.named in
    let explain = subst (λ (v : ClassesValue). Explain (sorts_in v.table) (numbers_of v) (setting_of v).given (length fs)
    (map (line_in (trees_in v.table)) ls) (equation_of v.table c.args.sides.0 c.args.sides.1)) c.requires.classes c.in_ok-lines.ensures.lines in
    let some = some_lines table ts fs c.requires.whole ls c.args.sides.0 c.args.sides.1 explain in
    let m = (length fs + c.len.result) - 1 in
    let last : m + 1 ≡ length fs + length ls = omega arith in
    refuting_contrary table ts fs c.requires.whole c.closed_tree.result ls c.args.sides.0 c.args.sides.1 m c.args.n named explain
    c.closed_tree.ensures.certificate c.closed_tree.ensures.lines c.requires.fact last
