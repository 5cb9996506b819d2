use Rattle.sm_houdini.proofs.Imports.{◌≡◌, ℕ, ◌&&◌, length, add-one, sym, ap, ◌∙◌, arith, choice_in, Marks, all_marked, in_share, rows}
use Rattle.sm_houdini.proofs.ShareLemmas.{among, no_share, one_share, every_share}
use Rattle.sm_houdini.proofs.goal_jobs.all_shares.Goals as goal

pub loop-part-init : goal.loop-part-init
loop-part-init c = λ passes told.
    c.in_ok-marks.ensures ∙ no_share (length c.args.parts.now) passes (choice_in c.args.choice.now) c.requires.some

pub loop-part-preserved : goal.loop-part-preserved
loop-part-preserved c = λ passes told.
    let shares = length c.args.parts.now in
    let k = c.loop-part.part-index in
    let choice = choice_in c.args.choice.now in
    let part = ap (λ (m : Marks). rows m.sites.items) c.part-item.is ∙ told k c.part-item.result c.loop-part-test.true in
    c.in_ok-marks-2.ensures (λ s i. among shares k i && passes s i) (λ s i. in_share shares k i && passes s i) choice
    (c.loop-part.invariant passes told) part
    ∙ one_share shares k passes choice
    ∙ ap (λ (n : ℕ). all_marked (λ s i. among shares n i && passes s i) 0 choice) (sym (add-one k))

pub returns : goal.returns
returns c = λ passes told.
    let shares = length c.args.parts.now in
    let choice = choice_in c.args.choice.now in
    let end : c.loop-part.part-index ≡ shares = omega (arith, c.loop-part-test.false, c.loop-part.auto.part-index-end) in
    c.loop-part.invariant passes told
    ∙ ap (λ (n : ℕ). all_marked (λ s i. among shares n i && passes s i) 0 choice) end
    ∙ every_share shares passes choice c.requires.some
