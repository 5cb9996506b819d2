-- Where something is set aside, the certificates that were run are skipped, then the others are taken, then the one that is begun.
use Rattle.sm_check.proofs.Imports.{◌≡◌, ◌-◌, ◌++◌, ◌∙◌, ℕ, List, [], length, take, drop, subst, sym, ap, arith, take_rest, RawLines, ComesTo, StopsAt, certificates_of, ended_in}
use Rattle.sm_check.specs.Aside.{joined}
use Rattle.sm_check.proofs.AsideSteps.{begun_comes, cut_count, skipped_comes}
use Rattle.sm_check.proofs.PieceLemmas.{err_is}
use Rattle.sm_check.proofs.taken_lines.TakenLines.take_aside.Goals as goal

-- what is behind a place of a slice
rest_is : (cs given : List RawLines) (n : ℕ) → given ≡ cs → take (length given - n) (drop n given) ≡ drop n cs
rest_is cs given n is = take_rest given n ∙ ap (λ (x : List RawLines). drop n x) is

-- how many lines certificates have, in front of a place of a slice and behind it
front_lines : (cs given : List RawLines) (n : ℕ) → given ≡ cs →
    length (joined (certificates_of (take n given))) ≡ length (joined (certificates_of (take n cs)))
front_lines cs given n is = ap (λ (x : List RawLines). length (joined (certificates_of (take n x)))) is

rest_lines : (cs given : List RawLines) (n : ℕ) → given ≡ cs →
    length (joined (certificates_of (take (length given - n) (drop n given)))) ≡ length (joined (certificates_of (drop n cs)))
rest_lines cs given n is = ap (λ (x : List RawLines). length (joined (certificates_of x))) (rest_is cs given n is)

pub returns-then-is_empty-clause-none : goal.returns-then-is_empty-clause-none
returns-then-is_empty-clause-none g c = c.is_empty.ensures.lines c.if-is_empty.true

pub returns-then-is_empty-clause-number : goal.returns-then-is_empty-clause-number
returns-then-is_empty-clause-number g c =
    let none = ap (λ (ls : List (List ℕ)). length ls) (c.is_empty.ensures.lines c.if-is_empty.true) in omega (arith, none)

pub returns-then-is_empty-clause-ok : goal.returns-then-is_empty-clause-ok
returns-then-is_empty-clause-ok g c = λ s r t.
    subst (λ (ls : List (List ℕ)). ComesTo c.args.self.now ls s r) (c.is_empty.ensures.lines c.if-is_empty.true) t

pub skip-requires : goal.skip-requires
skip-requires g c =
    let n = c.in_ok-closed.closed in
    let cs = c.args.aside.now.whole.items in
    let all = cut_count n cs (ended_in c.args.aside.now.begun.bytes.items) in
    let front = front_lines cs c.deref-2.result.now n c.deref-2.ensures.value in
    omega (arith, all, front, c.requires.room)

pub check_each-requires : goal.check_each-requires
check_each-requires g c =
    let n = c.in_ok-closed.closed in
    let cs = c.args.aside.now.whole.items in
    let all = cut_count n cs (ended_in c.args.aside.now.begun.bytes.items) in
    let front = front_lines cs c.deref-2.result.now n c.deref-2.ensures.value in
    let behind = rest_lines cs c.deref-3.result.now n c.deref-3.ensures.value in
    omega (arith, all, front, behind, c.in_ok-skip.ensures.number, c.requires.room)

pub returns-in_err-check_each-clause-err : goal.returns-in_err-check_each-clause-err
returns-in_err-check_each-clause-err g c = λ s r t.
    let n = c.in_ok-closed.closed in
    let cs = c.args.aside.now.whole.items in
    let begun = ended_in c.args.aside.now.begun.bytes.items in
    let behind = rest_is cs c.deref-3.result.now n c.deref-3.ensures.value in
    let front = ap (λ (x : List RawLines). take n x) c.deref-2.ensures.value in
    let skipped = skipped_comes c.args.self.now c.skip.new.self n cs c.deref.result.now (take n c.deref-2.result.now) _ begun s r
    c.deref.ensures.value front behind (λ at is. c.in_ok-closed.ensures.closed s at is)
    (λ more u close. c.in_ok-skip.ensures.ok s r more u close) t in
    err_is (StopsAt r) c.from_residual-in_err-check_each.result c.in_err-check_each.field-0.0
    c.from_residual-in_err-check_each.ensures.1
    (c.in_err-check_each.ensures.err s r begun skipped)

pub check_all-requires : goal.check_all-requires
check_all-requires g c =
    let n = c.in_ok-closed.closed in
    let cs = c.args.aside.now.whole.items in
    let all = cut_count n cs (ended_in c.args.aside.now.begun.bytes.items) in
    let front = front_lines cs c.deref-2.result.now n c.deref-2.ensures.value in
    let behind = rest_lines cs c.deref-3.result.now n c.deref-3.ensures.value in
    let last = ap (λ (x : List ℕ). length (ended_in x)) c.deref-4.ensures.value in
    omega (arith, all, front, behind, last, c.in_ok-skip.ensures.number, c.in_ok-check_each.ensures.number, c.requires.room)

pub returns-in_err-check_all-clause-err : goal.returns-in_err-check_all-clause-err
returns-in_err-check_all-clause-err g c = λ s r t.
    let n = c.in_ok-closed.closed in
    let cs = c.args.aside.now.whole.items in
    let begun = ended_in c.args.aside.now.begun.bytes.items in
    let behind = rest_is cs c.deref-3.result.now n c.deref-3.ensures.value in
    let front = ap (λ (x : List RawLines). take n x) c.deref-2.ensures.value in
    let skipped = skipped_comes c.args.self.now c.skip.new.self n cs c.deref.result.now (take n c.deref-2.result.now) _ begun s r
    c.deref.ensures.value front behind (λ at is. c.in_ok-closed.ensures.closed s at is)
    (λ more u close. c.in_ok-skip.ensures.ok s r more u close) t in
    let each = c.in_ok-check_each.ensures.ok s r begun skipped in
    err_is (StopsAt r) c.from_residual-in_err-check_all.result c.in_err-check_all.field-0.0 c.from_residual-in_err-check_all.ensures.1
    (c.in_err-check_all.ensures.err s r []
    (subst (λ (x : List ℕ). ComesTo c.check_each.new.self (ended_in x ++ []) s r) (sym c.deref-4.ensures.value)
    (begun_comes c.check_each.new.self begun s r each)))

pub returns-clause-number : goal.returns-clause-number
returns-clause-number g c =
    let n = c.in_ok-closed.closed in
    let cs = c.args.aside.now.whole.items in
    let all = cut_count n cs (ended_in c.args.aside.now.begun.bytes.items) in
    let front = front_lines cs c.deref-2.result.now n c.deref-2.ensures.value in
    let behind = rest_lines cs c.deref-3.result.now n c.deref-3.ensures.value in
    let last = ap (λ (x : List ℕ). length (ended_in x)) c.deref-4.ensures.value in
    omega (
      arith,
      all,
      front,
      behind,
      last,
      c.in_ok-skip.ensures.number,
      c.in_ok-check_each.ensures.number,
      c.in_ok-check_all.ensures.number,
    )

pub returns-clause-ok : goal.returns-clause-ok
returns-clause-ok g c = λ s r t.
    let n = c.in_ok-closed.closed in
    let cs = c.args.aside.now.whole.items in
    let begun = ended_in c.args.aside.now.begun.bytes.items in
    let behind = rest_is cs c.deref-3.result.now n c.deref-3.ensures.value in
    let front = ap (λ (x : List RawLines). take n x) c.deref-2.ensures.value in
    let skipped = skipped_comes c.args.self.now c.skip.new.self n cs c.deref.result.now (take n c.deref-2.result.now) _ begun s r
    c.deref.ensures.value front behind (λ at is. c.in_ok-closed.ensures.closed s at is)
    (λ more u close. c.in_ok-skip.ensures.ok s r more u close) t in
    let each = c.in_ok-check_each.ensures.ok s r begun skipped in
    c.in_ok-check_all.ensures.ok s r []
    (subst (λ (x : List ℕ). ComesTo c.check_each.new.self (ended_in x ++ []) s r) (sym c.deref-4.ensures.value)
    (begun_comes c.check_each.new.self begun s r each))
