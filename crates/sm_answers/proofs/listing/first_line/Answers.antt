-- The first line ends at the first line end.
use Rattle.sm_answers.proofs.Imports.{◌+◌, ℕ, List, length, length-drop, refl, sym, ap, ◌∙◌, arith, take_rest, lines_in-plain, lines_in, line_before}
use Rattle.std.proofs.Common.{take}
use Rattle.sm_answers.proofs.ListsLemmas.{first_by}
use Rattle.sm_answers.proofs.listing.first_line.Goals as goal

pub returns-in-Some-clause-some : goal.returns-in-Some-clause-some
returns-in-Some-clause-some c =
    let bytes = c.args.bytes.now in
    let n = c.in-Some.end in
    let found = c.in-Some.ensures.some in
    first_by bytes n found.1 found.2
    ∙ ap (λ (x : List ℕ). line_before (take n bytes) (lines_in x)) (sym (take_rest bytes (n + 1)))

pub returns-in-Some-clause-less : goal.returns-in-Some-clause-less
returns-in-Some-clause-less c =
    let bytes = c.args.bytes.now in
    let n = c.in-Some.end in
    let long = ap (λ (x : List ℕ). length x) (take_rest bytes (n + 1)) in
    omega (arith, c.in-Some.ensures.some.0, long, length-drop (n + 1) bytes)

pub returns-in-None-clause-none : goal.returns-in-None-clause-none
returns-in-None-clause-none c = lines_in-plain c.args.bytes.now (c.in-None.ensures.none refl)
