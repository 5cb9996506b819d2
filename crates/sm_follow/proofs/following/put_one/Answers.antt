-- The kind is shown, or it isn't.
use Rattle.std.proofs.Common.{◌++◌, ◌∙◌, true≢false, ℕ, List, ap, sym}
use Rattle.sm_follow.proofs.Lines.{none_put, one_put}
use Rattle.sm_follow.proofs.following.put_one.Goals as goal

pub returns-in_ok-extend_from_slice : goal.returns-in_ok-extend_from_slice
returns-in_ok-extend_from_slice c =
    one_put c.args.text.now c.args.kind c.args.out.now.items c.push.new.self.items c.extend_from_slice.new.self.items
    (c.in_ok-could_stand.ensures.0 c.if-branch.true) c.in_ok-push.ensures.items
    (c.in_ok-extend_from_slice.ensures.items
    ∙ ap (λ (l : List ℕ). c.push.new.self.items ++ l) (c.as_bytes.ensures.value ∙ c.shown.ensures))

pub returns-else-branch : goal.returns-else-branch
returns-else-branch c =
    none_put c.args.text.now c.args.kind c.args.out.now.items
    (λ stands. true≢false (sym (c.in_ok-could_stand.ensures.1 stands) ∙ c.if-branch.false))
