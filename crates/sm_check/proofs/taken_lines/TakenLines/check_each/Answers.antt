-- One certificate more.
use Rattle.sm_check.proofs.Imports.{◌≡◌, ◌+◌, ◌++◌, ℕ, List, length, drop, subst, sym, ap, arith, ComesTo, StopsAt, certificates_of, ended_in}
use Rattle.sm_check.specs.Aside.{joined}
use Rattle.sm_check.proofs.AsideLists.{next_number, next_comes}
use Rattle.sm_check.proofs.PieceLemmas.{err_is}
use Rattle.sm_check.proofs.taken_lines.TakenLines.check_each.Goals as goal

pub returns-in_err-check_all-clause-err : goal.returns-in_err-check_all-clause-err
returns-in_err-check_all-clause-err c = λ s r more t.
    let behind = joined (certificates_of (drop (c.loop-lines.lines-index + 1) c.args.certificates.now)) ++ more in
    err_is (StopsAt r) c.from_residual.result c.in_err-check_all.field-0.0 c.from_residual.ensures.1
    (c.in_err-check_all.ensures.err s r behind
    (subst (λ (bytes : List ℕ). ComesTo c.loop-lines.self (ended_in bytes ++ behind) s r) (sym c.deref.ensures.value)
    (next_comes c.loop-lines.self s r more c.args.certificates.now c.loop-lines.lines-index c.lines-item.result c.loop-lines-test.true
    c.lines-item.is (c.loop-lines.invariant.comes s r more t))))

pub loop-lines-preserved : goal.loop-lines-preserved
loop-lines-preserved c = record {
  number =
      let all : ℕ = c.args.self.now.number + length (joined (certificates_of c.args.certificates.now)) in
      let so_far : (c.loop-lines.self.number + length (ended_in c.lines-item.result.bytes.items))
      + length (joined (certificates_of (drop (c.loop-lines.lines-index + 1) c.args.certificates.now))) ≡ all =
      next_number c.args.certificates.now c.loop-lines.lines-index c.lines-item.result c.loop-lines.self.number all
      c.loop-lines-test.true c.lines-item.is c.loop-lines.invariant.number in
      let same = ap (λ (bytes : List ℕ). length (ended_in bytes)) c.deref.ensures.value in
      let one = c.in_ok-check_all.ensures.number in
      omega (arith, so_far, same, one);
  comes = λ s r more t.
      let behind = joined (certificates_of (drop (c.loop-lines.lines-index + 1) c.args.certificates.now)) ++ more in
      c.in_ok-check_all.ensures.ok s r behind
      (subst (λ (bytes : List ℕ). ComesTo c.loop-lines.self (ended_in bytes ++ behind) s r) (sym c.deref.ensures.value)
      (next_comes c.loop-lines.self s r more c.args.certificates.now c.loop-lines.lines-index c.lines-item.result c.loop-lines-test.true
      c.lines-item.is (c.loop-lines.invariant.comes s r more t)));
}
