-- One line more.
use Rattle.sm_check.proofs.Imports.{◌++◌, ◌∷◌, ℕ, List, length, ap, subst, refl, arith, ComesTo, StopsAt, ended_in}
use Rattle.sm_check.proofs.AsideLemmas.{next_taken, next_refused}
use Rattle.sm_check.proofs.PieceLemmas.{err_is}
use Rattle.sm_check.proofs.taken_lines.TakenLines.check_all.Goals as goal

pub check-requires : goal.check-requires
check-requires c =
    let first = ap (λ (ls : List (List ℕ)). length ls) c.in-Some.ensures.some.0 in
    omega (arith, first, c.loop-line.invariant.number, c.requires)

pub returns-in_err-check-clause-err : goal.returns-in_err-check-clause-err
returns-in_err-check-clause-err c = λ s r more t.
    let at : ComesTo c.loop-line.self (c.in-Some.line.now ∷ (ended_in c.in-Some.behind.now ++ more)) s r =
    subst (λ (ls : List (List ℕ)). ComesTo c.loop-line.self (ls ++ more) s r) c.in-Some.ensures.some.0
    (c.loop-line.invariant.comes s r more t) in
    err_is (StopsAt r) c.from_residual.result c.in_err-check.field-0.0 c.from_residual.ensures.1
    (next_refused c.loop-line.self s r _ _ at _ (c.in_err-check.ensures.err s at.at at.stands))

pub loop-line-preserved : goal.loop-line-preserved
loop-line-preserved c = record {
  number =
      let first = ap (λ (ls : List (List ℕ)). length ls) c.in-Some.ensures.some.0 in
      let one = c.in_ok-check.ensures.number in
      omega (arith, first, one, c.loop-line.invariant.number);
  comes = λ s r more t.
      let at : ComesTo c.loop-line.self (c.in-Some.line.now ∷ (ended_in c.in-Some.behind.now ++ more)) s r =
      subst (λ (ls : List (List ℕ)). ComesTo c.loop-line.self (ls ++ more) s r) c.in-Some.ensures.some.0
      (c.loop-line.invariant.comes s r more t) in
      next_taken c.loop-line.self c.check.new.self s r _ _ at c.in_ok-check.ensures.number (c.in_ok-check.ensures.ok s at.at at.stands);
}

pub returns-clause-number : goal.returns-clause-number
returns-clause-number c =
    let none = ap (λ (ls : List (List ℕ)). length ls) (c.in_default.ensures.none refl) in
    omega (arith, none, c.loop-line.invariant.number)

pub returns-clause-ok : goal.returns-clause-ok
returns-clause-ok c = λ s r more t.
    subst (λ (ls : List (List ℕ)). ComesTo c.loop-line.self (ls ++ more) s r) (c.in_default.ensures.none refl)
    (c.loop-line.invariant.comes s r more t)
