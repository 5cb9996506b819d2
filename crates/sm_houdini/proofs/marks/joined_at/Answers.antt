use Rattle.sm_houdini.proofs.Imports.{◌≡◌, ◌≤◌, ℕ, List, length, ap, ◌∙◌, arith, take_all, marked, joins, Marked}
use Rattle.sm_houdini.proofs.ShareLemmas.{length_marked, joined_put}
use Rattle.sm_houdini.proofs.marks.joined_at.Goals as goal

pub loop-at-preserved : goal.loop-at-preserved
loop-at-preserved c = λ p q ns mine theirs.
    joined_put (joins c.args.join) p q ns c.args.marks.now c.args.others.now mine theirs c.push.new.self.items c.loop-at.list.items
    c.loop-at.at _ _ c.in_ok-push.ensures.items
    (c.joined_mark-holds.ensures ∙ ap (joins c.args.join _) c.is_marked-other.ensures)
    c.loop-at-test.true (c.loop-at.invariant p q ns mine theirs)

pub returns : goal.returns
returns c = λ p q ns mine theirs.
    let count : length c.args.marks.now ≡ length ns = ap (λ (ms : List Marked). length ms) mine ∙ length_marked p 0 ns in
    let all : length ns ≤ c.loop-at.at = omega (arith, c.loop-at-test.false, count) in
    c.loop-at.invariant p q ns mine theirs
    ∙ ap (marked (λ (i : ℕ). joins c.args.join (p i) (q i)) 0) (take_all c.loop-at.at ns all)
