-- One certificate more.
use Rattle.sm_check.proofs.Imports.{◌≡◌, ◌+◌, ℕ, length, drop, refl, sym, ap, subst, certificates_of, ended_in}
use Rattle.sm_check.specs.Aside.{joined}
use Rattle.sm_check.proofs.AsideLemmas.{one_skipped}
use Rattle.sm_check.proofs.AsideLists.{next_number, next_skips, all_skipped, all_counted}
use Rattle.sm_check.proofs.taken_lines.TakenLines.skip.Goals as goal

pub loop-lines-init : goal.loop-lines-init
loop-lines-init c = record {
  number = refl;
  skips = λ s r more t close. record { comes = t; close = close };
}

pub loop-lines-preserved : goal.loop-lines-preserved
loop-lines-preserved c = record {
  number =
      subst
      (λ (n : ℕ).
      (c.loop-lines.self.number + n) + length (joined (certificates_of (drop (c.loop-lines.lines-index + 1) c.args.certificates.now)))
      ≡ c.args.self.now.number + length (joined (certificates_of c.args.certificates.now)))
      (sym c.lines-item.result.counted)
      (next_number c.args.certificates.now c.loop-lines.lines-index c.lines-item.result c.loop-lines.self.number _ c.loop-lines-test.true
      c.lines-item.is c.loop-lines.invariant.number);
  skips = λ s r more t close.
      one_skipped c.loop-lines.self _ s r more (ended_in c.lines-item.result.bytes.items) _
      (next_skips c.loop-lines.self s r more c.args.certificates.now c.loop-lines.lines-index c.lines-item.result c.loop-lines-test.true
      c.lines-item.is (c.loop-lines.invariant.skips s r more t close))
      (ap (λ (n : ℕ). c.loop-lines.self.number + n) c.lines-item.result.counted)
      (λ exact p first rest at is. c.in_ok-self.ensures s exact p first rest at is);
}

pub returns-clause-number : goal.returns-clause-number
returns-clause-number c =
    all_counted c.args.certificates.now c.loop-lines.lines-index c.loop-lines.self.number _ c.loop-lines-test.false
    c.loop-lines.invariant.number

pub returns-clause-ok : goal.returns-clause-ok
returns-clause-ok c = λ s r more t close.
    all_skipped c.loop-lines.self s r more c.args.certificates.now c.loop-lines.lines-index c.loop-lines-test.false
    (c.loop-lines.invariant.skips s r more t close)
