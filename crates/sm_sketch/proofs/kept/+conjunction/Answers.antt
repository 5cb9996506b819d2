-- The conjunction of two halves.
use Rattle.sm_sketch.proofs.Imports.{◌≤◌, ◌<◌, ◌/◌, length, sym, subst, arith, numbered, assertion_in, Formula, IsFormReady}
use Rattle.sm_sketch.proofs.KeptFormulas.{two_conjoined, front_ready, rest_ready}
use Rattle.sm_sketch.proofs.kept.+conjunction.Goals as goal

pub boxed_conjunction-returns-clause-ready : goal.boxed_conjunction-returns-clause-ready
boxed_conjunction-returns-clause-ready t c = λ sorts trees ready.
    subst (λ (f : Formula). IsFormReady sorts trees f) (sym c.in_ok-new.ensures.ok) (c.in_ok-conjunction.ensures.ready sorts trees ready)

pub conjunction-returns-in_ok-back-in-Some-clause-made : goal.conjunction-returns-in_ok-back-in-Some-clause-made
conjunction-returns-in_ok-back-in-Some-clause-made t c = λ sorts trees.
    let fs = c.args.fs.now in
    let some : 0 < length fs = c.in-Some.ensures.item.3.0 in
    let more = c.if-fs-eq1.false in
    let many : 2 ≤ length fs = omega arith in
    two_conjoined sorts trees fs c.split_at.result.0.now c.split_at.result.1.now
    (assertion_in sorts trees (numbered c.in_ok-front-in-Some.front.value))
    (assertion_in sorts trees (numbered c.in_ok-back-in-Some.back.value)) many
    c.split_at.ensures.front c.split_at.ensures.back (c.in_ok-front-in-Some.ensures.made sorts trees)
    (c.in_ok-back-in-Some.ensures.made sorts trees)

pub conjunction-returns-in_ok-back-in-Some-clause-ready : goal.conjunction-returns-in_ok-back-in-Some-clause-ready
conjunction-returns-in_ok-back-in-Some-clause-ready t c = λ sorts trees ready.
    let fs = c.args.fs.now in
    let half = length fs / 2 in
    let front =
    c.in_ok-front-in-Some.ensures.ready sorts trees
    (front_ready sorts trees fs c.split_at.result.0.now half c.split_at.ensures.front ready) in
    let back =
    c.in_ok-back-in-Some.ensures.ready sorts trees (rest_ready sorts trees fs c.split_at.result.1.now half c.split_at.ensures.back ready) in
    ((front.0, back.0), (front.1, back.1))
