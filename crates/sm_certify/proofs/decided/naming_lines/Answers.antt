use Rattle.sm_certify.proofs.Imports.{◌≡◌, ◌<◌, List, [], length, take, refl, sym, subst, arith, take_all, trees_in, Tree, CertLine, StandInOrder, branch_of}
use Rattle.sm_certify.proofs.DecidedLemmas.{naming_next}
use Rattle.sm_certify.proofs.OrderLemmas.{order_none}
use Rattle.sm_certify.proofs.decided.naming_lines.Goals as goal

pub loop-n-init : goal.loop-n-init
loop-n-init c =
    let b = branch_of c.args.table.now c.args.facts.now in
    let n = c.in_ok-named.named in
    subst (λ (ls : List CertLine). StandInOrder b (take n b.terms) ls []) (sym c.new-lines.ensures.items)
    (order_none b c.requires.first.0 n c.requires.first.1 c.in_ok-named.ensures)

pub loop-n-preserved : goal.loop-n-preserved
loop-n-preserved c =
    let table = c.args.table.now in
    let n = c.loop-n.n in
    let inside : n < length (trees_in table) = omega (arith, c.loop-n-test.true, c.len-n-end.ensures.len) in
    naming_next table c.args.facts.now c.len-n-end.ensures.apart n c.loop-n.lines.items c.push.new.self.items _
    c.get.result.now inside c.get.ensures.tree c.get.ensures.before c.get.ensures.fits refl c.in_ok-push.ensures.items
    c.loop-n.invariant

pub returns : goal.returns
returns c =
    let b = branch_of c.args.table.now c.args.facts.now in
    let all : take c.loop-n.n b.terms ≡ b.terms = take_all c.loop-n.n b.terms (omega (arith, c.loop-n-test.false, c.len-n-end.ensures.len)) in
    subst (λ (ts : List Tree). StandInOrder b ts c.loop-n.lines.items []) all c.loop-n.invariant
