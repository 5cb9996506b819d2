use Rattle.sm_euf.proofs.EquationsLemmas.{sym_of_equation, sym_of_contrary}
use Rattle.sm_euf.proofs.equations.turned.Goals as goal

pub returns-in-Some : goal.returns-in-Some
returns-in-Some c = λ sorts trees facts all sorted.
    let found = c.in-Some.ensures sorts trees facts all in
    sym_of_equation sorts trees facts c.args.n (c.in-Some.t, c.in-Some.u) sorted found

pub returns-in-Some-contrary_at : goal.returns-in-Some-contrary_at
returns-in-Some-contrary_at c = λ sorts trees facts all sorted.
    let none = c.in-None.ensures sorts trees facts all in
    let found = c.in-Some-contrary_at.ensures sorts trees facts all in
    sym_of_contrary sorts trees facts c.args.n (c.in-Some-contrary_at.t, c.in-Some-contrary_at.u) sorted none found
