-- The first line ends at the first line end.
use Rattle.sm_check.proofs.Imports.{◌+◌, ◌∷◌, ℕ, List, take, length, length-drop, refl, sym, ap, ◌∙◌, arith, take_rest, ended_in}
use Rattle.sm_check.proofs.EndedLines.{ended-first, ended-none}
use Rattle.sm_check.proofs.raw_lines.first_line.Goals as goal

pub returns-in-Some-clause-some : goal.returns-in-Some-clause-some
returns-in-Some-clause-some c =
    let bytes = c.args.bytes.now in
    let n = c.in-Some.end in
    let found = c.in-Some.ensures.some in
    let rest = take_rest bytes (n + 1) in
    let long = ap (λ (x : List ℕ). length x) rest in (
      ended-first bytes n found.1 found.2 ∙ ap (λ (x : List ℕ). take n bytes ∷ ended_in x) (sym rest),
      omega (arith, found.0, long, length-drop (n + 1) bytes),
    )

pub returns-in-None-clause-none : goal.returns-in-None-clause-none
returns-in-None-clause-none c = λ none. ended-none c.args.bytes.now (c.in-None.ensures.none refl)
