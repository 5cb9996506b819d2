use Rattle.sm_exact.proofs.Imports.{length, arith, sym, ap, subst, ◌∙◌, Keeps}
use Rattle.sm_exact.proofs.BoundsLemmas.{by_below, by_above, by_dark, by_close, none_by_test, some_by_test}
use Rattle.sm_exact.proofs.bounds.by_parts.Goals as goal

pub returns-then-is_empty : goal.returns-then-is_empty
returns-then-is_empty c = λ depth.
    let parts = c.in_ok-parts.parts in
    by_below c.args.steps depth c.args.s c.args.forms.items c.args.count c.args.t parts.others.items parts.lower.items parts.upper.items
    c.in_ok-parts.ensures.others c.in_ok-parts.ensures.lower c.in_ok-parts.ensures.upper
    (none_by_test parts.upper.len parts.upper.items c.is_empty.result (omega (arith, parts.upper.ok.0)) c.is_empty.ensures
    c.if-is_empty.true)
    ∙ sym (c.from_side.ensures c.args.steps depth)

pub returns-then-is_empty-2 : goal.returns-then-is_empty-2
returns-then-is_empty-2 c = λ depth.
    let parts = c.in_ok-parts.parts in
    by_above c.args.steps depth c.args.s c.args.forms.items c.args.count c.args.t parts.others.items parts.lower.items parts.upper.items
    c.in_ok-parts.ensures.others c.in_ok-parts.ensures.lower c.in_ok-parts.ensures.upper
    (some_by_test parts.upper.len parts.upper.items c.is_empty.result (omega (arith, parts.upper.ok.0)) c.is_empty.ensures
    c.if-is_empty.false)
    (none_by_test parts.lower.len parts.lower.items c.is_empty-2.result (omega (arith, parts.lower.ok.0)) c.is_empty-2.ensures
    c.if-is_empty-2.true)
    ∙ sym (c.from_side-then-is_empty-2.ensures c.args.steps depth)

pub returns-in-Some : goal.returns-in-Some
returns-in-Some c = λ depth.
    let parts = c.in_ok-parts.parts in
    let ls = c.deref.result.now in
    let us = c.deref-2.result.now in
    let e = c.in_ok-entry.entry in
    by_dark c.args.steps depth c.args.s c.args.forms.items c.args.count c.args.t parts.others.items ls us e c.in-Some.forms
    c.in_ok-parts.ensures.others (c.deref.ensures.value ∙ c.in_ok-parts.ensures.lower)
    (c.deref-2.ensures.value ∙ c.in_ok-parts.ensures.upper)
    (some_by_test parts.upper.len us c.is_empty.result (omega (arith, parts.upper.ok.0) ∙ ap length (sym c.deref-2.ensures.value))
    c.is_empty.ensures c.if-is_empty.false)
    (some_by_test parts.lower.len ls c.is_empty-2.result (omega (arith, parts.lower.ok.0) ∙ ap length (sym c.deref.ensures.value))
    c.is_empty-2.ensures c.if-is_empty-2.false)
    c.in_ok-entry.ensures (subst (Keeps (λ v. v.items) c.args.t c.args.forms.items) c.in-Some.is c.requires)

pub returns-in-None : goal.returns-in-None
returns-in-None c = λ depth.
    let parts = c.in_ok-parts.parts in
    let ls = c.deref.result.now in
    let us = c.deref-2.result.now in
    let e = c.in_ok-entry.entry in
    by_close c.args.steps depth c.args.s c.args.forms.items c.args.count c.args.t parts.others.items ls us parts.lower e
    c.in_ok-parts.ensures.others (c.deref.ensures.value ∙ c.in_ok-parts.ensures.lower)
    (c.deref-2.ensures.value ∙ c.in_ok-parts.ensures.upper)
    (some_by_test parts.upper.len us c.is_empty.result (omega (arith, parts.upper.ok.0) ∙ ap length (sym c.deref-2.ensures.value))
    c.is_empty.ensures c.if-is_empty.false)
    (some_by_test parts.lower.len ls c.is_empty-2.result (omega (arith, parts.lower.ok.0) ∙ ap length (sym c.deref.ensures.value))
    c.is_empty-2.ensures c.if-is_empty-2.false)
    c.in_ok-entry.ensures c.in_ok-parts.ensures.lower (subst (Keeps (λ v. v.items) c.args.t c.args.forms.items) c.in-None.is c.requires)
