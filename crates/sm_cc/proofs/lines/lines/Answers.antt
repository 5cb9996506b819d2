-- One line more.
use Rattle.sm_cc.proofs.Imports.{◌≡◌, ◌∙◌, sym, ap, refl, length, List, [], ◌∷◌, ◌++◌, map, take, map-append, map_more, take_all, slice_get_read, CertificateLine, line_in, Step, step_line}
use Rattle.sm_cc.specs.Views.{trees_of}
use Rattle.sm_cc.proofs.InsideLemmas.{lines_of_push}
use Rattle.sm_cc.proofs.lines.lines.Goals as goal

pub line-requires-clause-right : goal.line-requires-clause-right
line-requires-clause-right c =
    let steps = c.args.steps.now in
    let s = c.index-steps-k.result in
    (c.requires c.loop-k.k s (slice_get_read steps (length steps) c.loop-k.k s refl c.loop-k-test.true c.index-steps-k.is)).1

pub loop-k-preserved : goal.loop-k-preserved
loop-k-preserved c = (
  lines_of_push c.args.terms.now c.loop-k.lines.items c.in_ok-line.line _ c.loop-k.invariant.0 c.in_ok-line.ensures.named
      c.in_ok-push.ensures.items,
  λ trees.
      let steps = c.args.steps.now in
      let s = c.index-steps-k.result in
      let k = c.loop-k.k in
      let f = step_line (trees_of trees c.args.terms.now) in
      ap (map (line_in trees)) c.in_ok-push.ensures.items
      ∙ map-append (line_in trees) c.loop-k.lines.items (c.in_ok-line.line ∷ [])
      ∙ ap (λ (ls : List CertificateLine). ls ++ line_in trees c.in_ok-line.line ∷ []) (c.loop-k.invariant.1 trees)
      ∙ ap (λ (l : CertificateLine). map f (take k steps) ++ l ∷ []) (c.in_ok-line.ensures.line trees)
      ∙ ap (λ (x : Step). map f (take k steps) ++ f x ∷ []) c.index-steps-k.is
      ∙ sym (map_more f steps k s c.loop-k-test.true),
)

pub returns-clause-named : goal.returns-clause-named
returns-clause-named c = c.loop-k.invariant.0

pub returns-clause-lines : goal.returns-clause-lines
returns-clause-lines c = λ trees.
    c.loop-k.invariant.1 trees
    ∙ ap (map (step_line (trees_of trees c.args.terms.now))) (take_all c.loop-k.k c.args.steps.now c.loop-k-test.false)
