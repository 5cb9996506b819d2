use Rattle.sm_batch.proofs.Imports.{◌≡◌, ◌++◌, ◌∷◌, [], ◌∙◌, ℕ, List, length, sym, subst, Vec, Global, into_iter_items, nil_from_length, Looked, Step, AreTold, misses}
use Rattle.sm_batch.proofs.TellLemmas.{told_more, told_end, misses_more}
use Rattle.sm_batch.proofs.telling.tell.Goals as goal

pub loop-one-preserved : goal.loop-one-preserved
loop-one-preserved c =
    let looked = c.args.looked.items in
    let answers = c.args.answers.items in
    let replies = c.loop-one.replies.items in
    let steps = c.loop-one.steps.items in
    let one = c.in-Some.one in
    let rest = into_iter_items c.next.new.self in
    let before = into_iter_items c.loop-one.answers in
    let after = into_iter_items c.tell_one.new.answers in
    let reply = c.in_ok-reply.reply in
    let step = c.in_ok-reply.step in
    let items : into_iter_items c.loop-one.one-iterator ≡ one ∷ rest = c.in-Some.ensures.steps.0 in
    let so_far =
    subst
    (λ (l : List Looked). (rs : List (Vec ℕ Global)) (ss : List Step) → AreTold l before rs ss →
    AreTold looked answers (replies ++ rs) (steps ++ ss)) items c.loop-one.invariant.0 in
    let count : misses (one ∷ rest) ≡ length before = subst (λ (l : List Looked). misses l ≡ length before) items c.loop-one.invariant.1 in (
      λ rs ss told.
          subst (λ (r : List (Vec ℕ Global)). AreTold looked answers (r ++ rs) (c.push-in-loop-one.new.self.items ++ ss)) (sym c.in_ok-push.ensures.items)
          (subst (λ (x : List Step). AreTold looked answers ((replies ++ reply ∷ []) ++ rs) (x ++ ss)) (sym c.in_ok-push-2.ensures.items)
          (told_more looked answers replies steps one rest before after reply step c.in_ok-reply.ensures so_far rs ss told)),
      misses_more one rest before after reply step c.in_ok-reply.ensures count,
    )

pub returns : goal.returns
returns c =
    let left = into_iter_items c.loop-one.one-iterator in
    let none : left ≡ [] = nil_from_length left (sym c.loop-one.one-iterator.rest.ok.0 ∙ c.in-None.ensures.steps.0) in
    told_end c.args.looked.items c.args.answers.items c.loop-one.replies.items c.loop-one.steps.items left (into_iter_items c.loop-one.answers) none
    c.loop-one.invariant.1 c.loop-one.invariant.0
