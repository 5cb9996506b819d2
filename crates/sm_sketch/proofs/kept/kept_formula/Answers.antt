-- What is chosen is picked, and then conjoined.
use Rattle.sm_sketch.proofs.Imports.{◌≡◌, subst, Assertion, numbered, assertion_in, Formula}
use Rattle.std.proofs.Common.{IfOk}
use Rattle.sm_sketch.proofs.KeptFormulas.{kept_is, none_kept, kept_ready}
use Rattle.sm_sketch.proofs.kept.kept_formula.Goals as goal

pub returns-in_ok-fs-in-Some-clause-made : goal.returns-in_ok-fs-in-Some-clause-made
returns-in_ok-fs-in-Some-clause-made c = λ sorts trees.
    let v = c.in-Some.numbers.now in
    let kept =
    kept_is sorts trees c.args.choice.now c.deref.result.now c.args.site v c.args.templates.now.list.items c.as_slice.result.now
    c.as_slice-in-Some.result.now c.in_ok-fs-in-Some.fs.items c.as_slice-in-Some-2.result.now c.deref.ensures.value
    c.in-Some.ensures.lookup.3.0 (c.in-Some.ensures.lookup.3.1 v) c.as_slice.ensures.value c.as_slice-in-Some.ensures.value
    c.as_slice-in-Some-2.ensures.value c.in_ok-fs-in-Some.ensures in
    subst (λ (a : Assertion). IfOk c.conjunction.result (λ (f : Formula). assertion_in sorts trees (numbered f) ≡ a)) kept
    (c.conjunction.ensures.made sorts trees)

pub returns-in_ok-fs-in-Some-clause-ready : goal.returns-in_ok-fs-in-Some-clause-ready
returns-in_ok-fs-in-Some-clause-ready c = λ sorts trees ready.
    c.conjunction.ensures.ready sorts trees
    (kept_ready sorts trees c.args.templates.now.list.items c.as_slice.result.now c.in-Some.numbers.now.items c.as_slice-in-Some.result.now
    c.in_ok-fs-in-Some.fs.items c.as_slice-in-Some-2.result.now c.as_slice.ensures.value c.as_slice-in-Some.ensures.value
    c.as_slice-in-Some-2.ensures.value c.in_ok-fs-in-Some.ensures ready)

pub returns-in-None-clause-made : goal.returns-in-None-clause-made
returns-in-None-clause-made c = λ sorts trees.
    none_kept sorts trees c.args.choice.now c.deref.result.now c.args.site c.args.templates.now.list.items c.deref.ensures.value
    c.in-None.ensures.lookup.3
