-- One opening more.
use Rattle.sm_check.proofs.Imports.{◌≡◌, ◌∷◌, [], ◌++◌, List, Option, None, length, refl, ap, ◌∙◌, subst, arith, trees_in, sorts_in, Pending, Opening, WaitingStands, WalkValue}
use Rattle.std.proofs.Common.{IfSome}
use Rattle.sm_check.specs.Closing.{OpensAs}
use Rattle.sm_check.proofs.JobsLemmas.{opens_first, opens_begin, opens_more}
use Rattle.sm_check.proofs.openings.openings.Goals as goal

pub loop-place-init : goal.loop-place-init
loop-place-init c =
    let v : WalkValue = c.args.walk.now in
    let i = c.walk.inside in
    let o : Opening = record { shared = c.len.result; denied = None } in
    let long : c.len-place.result ≡ length i.waiting.items = omega (arith, i.waiting.ok.0, c.len-place.ensures) in
    let short : c.len.result ≡ length i.path.list.items = omega (arith, i.path.list.ok.0, c.len.ensures) in
    record {
      within = omega (arith, long);
      opens = λ p w.
          opens_begin (sorts_in v.table) (trees_in v.table) v.path v.due v.waiting i.waiting.items c.len-place.result
          c.push.new.self.items o p.pending w.pending (c.is_goal_due.ensures c.if-not-is_goal_due.false)
          (short ∙ ap (λ (x : WalkValue). length x.path) c.walk.view_is) refl
          (c.in_ok-push.ensures.items ∙ ap (λ (l : List Opening). l ++ o ∷ []) c.new-list.ensures.items)
          (ap (λ (x : WalkValue). x.waiting) c.walk.view_is) long;
    }

pub loop-place-preserved : goal.loop-place-preserved
loop-place-preserved c =
    let v : WalkValue = c.args.walk.now in
    let i = c.walk.inside in
    let l = c.loop-place in
    let o = c.in-Some.opening in
    let w = c.index.result.now in
    record {
      within = omega (arith, l.invariant.within);
      opens = λ p walks.
          opens_more (sorts_in v.table) (trees_in v.table) walks.pending.facts l.list.items c.push-in-Some.new.self.items o
          i.waiting.items l.place w p.pending (omega (arith, c.loop-place-test.true)) l.invariant.within c.index.ensures
          (λ (q : Pending) (stands : WaitingStands (sorts_in v.table) (trees_in v.table) walks.pending.facts w q).
          subst
          (λ (x : Option Opening).
          IfSome x (λ (y : Opening). OpensAs (sorts_in v.table) (trees_in v.table) walks.pending.facts y q))
          c.in-Some.is
          (c.in_ok-opening.ensures (sorts_in v.table) (trees_in v.table) walks.pending.facts q stands))
          c.in_ok-push-in-Some.ensures.items (l.invariant.opens p walks);
    }

pub returns-in-None : goal.returns-in-None
returns-in-None c = λ p w. opens_first _ _ _ _ _ _ (c.loop-place.invariant.opens p w)

pub returns : goal.returns
returns c = λ p w. opens_first _ _ _ _ _ _ (c.loop-place.invariant.opens p w)
