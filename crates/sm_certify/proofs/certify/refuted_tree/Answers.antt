-- The fact is a contrary whose terms are in one class, or can't hold by itself.
use Rattle.sm_certify.proofs.Imports.{sym, numbered, branch_of}
use Rattle.sm_certify.proofs.CertifyLemmas.{contrary_at, refuted_at, refuting_alone}
use Rattle.sm_certify.proofs.certify.refuted_tree.Goals as goal

pub contrary_tree-requires-clause-left : goal.contrary_tree-requires-clause-left
contrary_tree-requires-clause-left c =
    (contrary_at c.args.table.now c.args.facts.now c.args.n c.index-facts-n.result c.in-Some.sides.0.0 c.in-Some.sides.1.0 c.requires.why
    c.index-facts-n.is c.requires.within c.in-Some.ensures).left

pub contrary_tree-requires-clause-right : goal.contrary_tree-requires-clause-right
contrary_tree-requires-clause-right c =
    (contrary_at c.args.table.now c.args.facts.now c.args.n c.index-facts-n.result c.in-Some.sides.0.0 c.in-Some.sides.1.0 c.requires.why
    c.index-facts-n.is c.requires.within c.in-Some.ensures).right

pub contrary_tree-requires-clause-fact : goal.contrary_tree-requires-clause-fact
contrary_tree-requires-clause-fact c =
    (contrary_at c.args.table.now c.args.facts.now c.args.n c.index-facts-n.result c.in-Some.sides.0.0 c.in-Some.sides.1.0 c.requires.why
    c.index-facts-n.is c.requires.within c.in-Some.ensures).fact

pub contrary_tree-requires-clause-same : goal.contrary_tree-requires-clause-same
contrary_tree-requires-clause-same c =
    (contrary_at c.args.table.now c.args.facts.now c.args.n c.index-facts-n.result c.in-Some.sides.0.0 c.in-Some.sides.1.0 c.requires.why
    c.index-facts-n.is c.requires.within c.in-Some.ensures).same

pub returns-in-None : goal.returns-in-None
returns-in-None c =
    let table = c.args.table.now in
    let f = numbered c.index-facts-n.result in
    let known = refuted_at table c.args.facts.now c.args.n c.index-facts-n.result c.requires.why c.index-facts-n.is in
    refuting_alone table c.args.facts.now c.closed_tree.result c.new.result.items c.args.n (branch_of table c.args.facts.now) f
    c.new.ensures.items c.closed_tree.ensures.certificate c.closed_tree.ensures.lines known.0 (sym c.in-None.ensures) known.1
