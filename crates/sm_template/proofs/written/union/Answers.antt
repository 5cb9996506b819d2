-- The names of the four lists.
use Rattle.sm_template.proofs.Imports.{ℕ, Bool, ap, ◌∙◌, is_in, outputs_of, either, members-empty}
use Rattle.sm_template.proofs.WrittenLemmas.{union_is}
use Rattle.sm_template.proofs.written.union.Goals as goal

pub returns : goal.returns
returns c code h =
    let written = c.args.written.now in
    let first = c.in_ok-add_names.ensures
    ∙ ap (λ (s : ℕ → Bool). either s (is_in (outputs_of written.base))) (members-empty c.new-set.result c.new-set.ensures.empty) in
    let second = c.in_ok-add_names-2.ensures ∙ ap (λ (s : ℕ → Bool). either s (is_in (outputs_of written.variant_a))) first in
    let third = c.in_ok-add_names-3.ensures ∙ ap (λ (s : ℕ → Bool). either s (is_in (outputs_of written.variant_b))) second in
    c.in_ok-add_names-4.ensures
    ∙ ap (λ (s : ℕ → Bool). either s (is_in (outputs_of written.candidate))) third
    ∙ union_is code written h
