use Rattle.std.proofs.Common.{◌++◌, ◌∙◌, ℕ, List, ap}
use Rattle.sm_display.proofs.Refused.{shows_no_task}
use Rattle.sm_display.proofs.refusing.refusal.Goals as goal

pub returns : goal.returns
returns c =
    shows_no_task c.args.bytes.now c.args.error c.in_ok-names.names c.in_ok-text.text.items c.in_ok-place.place.items
    c.in_ok-tokens.tokens.items c.extend_from_slice.new.self.items c.extend_from_slice-2.new.self.items c.requires.cause
    c.requires.first c.in_ok-names.ensures c.in_ok-text.ensures c.in_ok-place.ensures c.in_ok-tokens.ensures
    (c.in_ok-extend_from_slice.ensures.items ∙ ap (λ (x : List ℕ). c.in_ok-text.text.items ++ x) c.deref.ensures.value)
    (c.in_ok-extend_from_slice-2.ensures.items ∙ ap (λ (x : List ℕ). c.extend_from_slice.new.self.items ++ x) c.deref-2.ensures.value)
