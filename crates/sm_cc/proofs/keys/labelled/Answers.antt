-- One label more, or a place that isn't there.
use Rattle.sm_cc.proofs.Imports.{◌∙◌, ◌+◌, ℕ, pos, Some, Option, ◌∷◌, drop, sym, ap, followed, Keyed, labels_of, with_labels}
use Rattle.sm_cc.proofs.FirstsLemmas.{label_behind, labels_from}
use Rattle.sm_cc.proofs.keys.labelled.Goals as goal

pub returns-in-None : goal.returns-in-None
returns-in-None c =
    let roots = c.args.roots.now in
    let places = c.args.places.now in
    let n = c.loop-place.place-index in
    let rest : ℕ → Option Keyed =
    λ (l : ℕ). followed (labels_of roots (drop (n + 1) places)) (λ (ls : Keyed). Some ((l, pos 0) ∷ ls)) in
    sym
    (sym c.loop-place.invariant ∙ ap (with_labels c.loop-place.key.items) (labels_from roots places n c.loop-place-test.true
    ∙ ap (λ (o : Option ℕ). followed o rest) (sym c.label_in.ensures ∙ c.in-None.is)))

pub loop-place-preserved : goal.loop-place-preserved
loop-place-preserved c =
    let roots = c.args.roots.now in
    let places = c.args.places.now in
    let n = c.loop-place.place-index in
    let key = c.loop-place.key.items in
    let more = labels_of roots (drop (n + 1) places) in
    let rest : ℕ → Option Keyed = λ (l : ℕ). followed more (λ (ls : Keyed). Some ((l, pos 0) ∷ ls)) in
    ap (λ k. with_labels k more) c.in_ok-push-in-Some.ensures.items
    ∙ sym (label_behind key c.in-Some.label more)
    ∙ sym (ap (with_labels key) (labels_from roots places n c.loop-place-test.true
    ∙ ap (λ (o : Option ℕ). followed o rest) (sym c.label_in.ensures ∙ c.in-Some.is)))
    ∙ c.loop-place.invariant
