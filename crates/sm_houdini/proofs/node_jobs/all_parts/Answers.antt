use Rattle.sm_houdini.proofs.Imports.{◌≡◌, ℕ, ◌≤◌, ◌&&◌, length, add-one, sym, ap, ◌∙◌, arith, Marks, all_marked, rows, all_below}
use Rattle.sm_houdini.proofs.MarkedLemmas.{all_same}
use Rattle.sm_houdini.proofs.NodeLemmas.{and_grouped, with_true}
use Rattle.sm_houdini.proofs.node_jobs.all_parts.Goals as goal

pub loop-part-init : goal.loop-part-init
loop-part-init c = λ passes told choice start parts.
    c.in_ok-all.ensures ∙ start
    ∙ all_same passes (λ (s i : ℕ). passes s i && all_below (λ (k : ℕ). told k s i) 0) 0 choice
    (λ (s i : ℕ) (l : 0 ≤ s). with_true (passes s i))

pub loop-part-preserved : goal.loop-part-preserved
loop-part-preserved c = λ passes told choice start parts.
    let k = c.loop-part.part-index in
    let part = ap (λ (m : Marks). rows m.sites.items) c.part-item.is ∙ parts k c.part-item.result c.loop-part-test.true in
    let before = λ (s i : ℕ). all_below (λ (j : ℕ). told j s i) k in
    c.in_ok-all-2.ensures (λ s i. passes s i && before s i) (told k) choice (c.loop-part.invariant passes told choice start parts) part
    ∙ all_same _ (λ (s i : ℕ). passes s i && (before s i && told k s i)) 0 choice
    (λ (s i : ℕ) (l : 0 ≤ s). and_grouped (passes s i) (before s i) (told k s i))
    ∙ ap (λ (n : ℕ). all_marked (λ s i. passes s i && all_below (λ j. told j s i) n) 0 choice) (sym (add-one k))

pub returns : goal.returns
returns c = λ passes told choice start parts.
    let end : c.loop-part.part-index ≡ length c.args.parts.now = omega (arith, c.loop-part-test.false, c.loop-part.auto.part-index-end) in
    c.loop-part.invariant passes told choice start parts
    ∙ ap (λ (n : ℕ). all_marked (λ s i. passes s i && all_below (λ k. told k s i) n) 0 choice) end
