use Rattle.sm_houdini.proofs.Imports.{◌≡◌, ℕ, ◌<◌, ◌+◌, ◌-◌, ◌&&◌, List, length, drop, sym, ap, ◌∙◌, subst, arith, length-map, drop_all, widens_twice, widens_same, forms_ready, trees_in, sorts_in, due_in, closing, owner_in, ClosesAll, all_marked, rows, holds_but, leaves_out, facts_at}
use Rattle.sm_plan.specs.Plans.{Due}
use Rattle.sm_expand.specs.Views.{dues_in}
use Rattle.sm_houdini.proofs.KnownLemmas.{closes_over}
use Rattle.sm_houdini.proofs.RoundSteps.{none_asked, round_step}
use Rattle.sm_houdini.proofs.judging.judge_all.Goals as goal

pub loop-left-init : goal.loop-left-init
loop-left-init c =
    let v = c.args.table.now in
    let r = c.args.round.now in
    let ds = dues_in (sorts_in v) (trees_in v) r.dues.now in
    let none = drop_all (length r.dues.now) ds (omega (arith, length-map r.dues.now (due_in (sorts_in v) (trees_in v)))) in
    record {
      marks = λ passes choice e.
          let out = leaves_out c.args.nodes.now in
          let n = length r.dues.now in
          e ∙ none_asked out (closing (sorts_in v) r.reach) (owner_in r.owners.now) n passes choice
          ∙ ap (λ (xs : List Due). all_marked (λ (s i : ℕ). passes s i
          && holds_but out (closing (sorts_in v) r.reach) (owner_in r.owners.now) n xs s i) 0 choice) (sym none);
      fits = omega arith;
      widens = widens_same v;
    }

pub judge_unless-requires-clause-facts : goal.judge_unless-requires-clause-facts
judge_unless-requires-clause-facts c =
    let v = c.args.table.now in
    let some = c.loop-left-test.true in
    let fits = c.loop-left.invariant.fits in
    forms_ready v c.loop-left.table c.loop-left.invariant.widens c.index-dues-left.result.facts.list.items
    (facts_at (sorts_in v) (trees_in v) c.args.round.now.dues.now (c.loop-left.left - 1) c.index-dues-left.result c.requires.ready
    (omega (arith, some, fits)) c.index-dues-left.is).0

pub judge_unless-requires-clause-goals : goal.judge_unless-requires-clause-goals
judge_unless-requires-clause-goals c =
    let v = c.args.table.now in
    let some = c.loop-left-test.true in
    let fits = c.loop-left.invariant.fits in
    forms_ready v c.loop-left.table c.loop-left.invariant.widens c.index-dues-left.result.targets.list.items
    (facts_at (sorts_in v) (trees_in v) c.args.round.now.dues.now (c.loop-left.left - 1) c.index-dues-left.result c.requires.ready
    (omega (arith, some, fits)) c.index-dues-left.is).1

pub judge_unless-requires-clause-known : goal.judge_unless-requires-clause-known
judge_unless-requires-clause-known c =
    let v = c.args.table.now in
    let w = c.loop-left.table in
    let r = c.args.round.now in
    let at = c.loop-left.left - 1 in
    let d = c.index-dues-left.result in
    let some = c.loop-left-test.true in
    let fits = c.loop-left.invariant.fits in
    let inside : at < length r.dues.now = omega (arith, some, fits) in
    let parts = facts_at (sorts_in v) (trees_in v) r.dues.now at d c.requires.ready inside c.index-dues-left.is in
    λ is_known.
    closes_over v w c.loop-left.invariant.widens r.reach d parts.0 parts.1
    (subst (ClosesAll v r.reach) (sym c.index-dues-left.is)
    (c.requires.known.closes at d inside (sym c.is_flagged-is_known.ensures ∙ is_known)))

pub returns-in_err-judge_unless-clause-widens : goal.returns-in_err-judge_unless-clause-widens
returns-in_err-judge_unless-clause-widens c =
    widens_twice c.args.table.now c.loop-left.table c.judge_unless.new.table c.loop-left.invariant.widens c.in_err-judge_unless.ensures.widens

pub loop-left-preserved : goal.loop-left-preserved
loop-left-preserved c =
    let v = c.args.table.now in
    let r = c.args.round.now in
    let at = c.loop-left.left - 1 in
    let some = c.loop-left-test.true in
    let fits = c.loop-left.invariant.fits in
    let here : c.loop-left.left ≡ at + 1 = omega (arith, some) in
    let ds = dues_in (sorts_in v) (trees_in v) r.dues.now in
    let closes = closing (sorts_in v) r.reach in
    let owner = owner_in r.owners.now in
    let out = leaves_out c.args.nodes.now in
    record {
      marks = λ passes choice e.
          let left = λ (k : ℕ) (s i : ℕ). passes s i && holds_but out closes owner k (drop k ds) s i in
          let marks = subst (λ (k : ℕ). rows c.loop-left.marks.sites.items ≡ all_marked (left k) 0 choice) here
          (c.loop-left.invariant.marks passes choice e) in
          round_step v c.loop-left.table c.loop-left.invariant.widens r.reach owner out r.dues.now at c.index-dues-left.result
          c.is_left_out-is_left.result passes choice (rows c.judge_unless.new.marks.sites.items) c.requires.ready
          (omega (arith, some, fits)) c.index-dues-left.is c.is_left_out-is_left.ensures
          (c.in_ok-judge_unless.ensures.judged (left (at + 1)) choice marks);
      fits = omega (arith, fits);
      widens = widens_twice v c.loop-left.table c.judge_unless.new.table c.loop-left.invariant.widens c.in_ok-judge_unless.ensures.widens;
    }

pub returns-clause-judged : goal.returns-clause-judged
returns-clause-judged c = λ passes choice e.
    let v = c.args.table.now in
    let r = c.args.round.now in
    let ds = dues_in (sorts_in v) (trees_in v) r.dues.now in
    let none : c.loop-left.left ≡ 0 = omega (arith, c.loop-left-test.false) in
    subst
    (λ (k : ℕ).
    rows c.loop-left.marks.sites.items
    ≡ all_marked (λ (s i : ℕ). passes s i
    && holds_but (leaves_out c.args.nodes.now) (closing (sorts_in v) r.reach) (owner_in r.owners.now) k (drop k ds) s i) 0 choice)
    none (c.loop-left.invariant.marks passes choice e)
