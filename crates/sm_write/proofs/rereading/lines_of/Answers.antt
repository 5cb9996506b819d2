use Rattle.sm_write.proofs.Imports.{◌≡◌, ◌<◌, ℕ, List, [], length, sym, subst, ◌∙◌, rules, arith, nil_from_length, Line}
use Rattle.sm_write.proofs.RereadingLemmas.{AreSoFar, none_so_far, one_so_far, all_so_far}
use Rattle.sm_write.proofs.rereading.lines_of.Goals as goal

pub loop-left-init : goal.loop-left-init
loop-left-init c =
    subst (λ (ls : List Line). AreSoFar c.args.text.now c.args.text.now ls) (sym c.new-lines.ensures.items) (none_so_far c.args.text.now)

pub loop-left-preserved : goal.loop-left-preserved
loop-left-preserved c =
    let i = c.loop-left in
    let some : 0 < length i.left.now = search rules in
    one_so_far c.args.text.now i.left.now c.in_ok-line.rest.now i.lines.items c.push.new.self.items c.in_ok-line.line
    (λ e. omega (arith, some, e)) c.in_ok-push.ensures.items c.in_ok-line.ensures.read i.invariant

pub returns : goal.returns
returns c = λ all is are.
    let i = c.loop-left in
    let none : length i.left.now ≡ 0 = search rules in
    all_so_far c.args.text.now i.left.now i.lines.items (nil_from_length i.left.now none) i.invariant all is are
