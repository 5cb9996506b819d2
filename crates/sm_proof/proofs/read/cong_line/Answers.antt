use Rattle.sm_proof.proofs.Imports.{◌≡◌, ◌≤◌, Some, None, length, arith, rules, behind, any, line_of, numbers_in, read_cong}
use Rattle.sm_proof.proofs.ReadLemmas.{cong_all, cong_facts_err, cong_none, cong_second, cong_short, fault_answer}
use Rattle.sm_proof.proofs.read.cong_line.Goals as goal

pub returns-then-word_count-lt2 : goal.returns-then-word_count-lt2
returns-then-word_count-lt2 c = cong_short (behind c.args.rest.now) (omega (arith, c.if-word_count-lt2.true, c.word_count.ensures))

pub returns-in_err-t : goal.returns-in_err-t
returns-in_err-t c =
    let e = c.in_err-t.field-0.0 in
    let long : 2 ≤ length (behind c.args.rest.now) = omega (arith, c.if-word_count-lt2.false, c.word_count.ensures) in
    fault_answer _ c.from_residual.result line_of e (cong_none c.args.rest.now e long c.in_err-t.ensures.found) (search rules)

pub returns-in_err-u : goal.returns-in_err-u
returns-in_err-u c =
    let e = c.in_err-u.field-0.0 in
    let long : 2 ≤ length (behind c.args.rest.now) = omega (arith, c.if-word_count-lt2.false, c.word_count.ensures) in
    fault_answer _ c.from_residual-in_err-u.result line_of e
    (cong_second c.args.rest.now c.in_ok-t.rest.now c.in_ok-t.t e long c.in_ok-t.ensures.found c.in_err-u.ensures.found) (search rules)

pub returns-in_err-list : goal.returns-in_err-list
returns-in_err-list c =
    cong_facts_err (read_cong (behind c.args.rest.now)) c.from_residual-in_err-list.result line_of c.in_err-list.field-0.0
    (numbers_in any (behind c.in_ok-u.rest.now) ≡ None) (search rules) c.in_err-list.ensures.err
    (λ none. cong_all c.args.rest.now c.in_ok-t.rest.now c.in_ok-u.rest.now c.in_ok-t.t c.in_ok-u.u None c.in_ok-t.ensures.found
    c.in_ok-u.ensures.found none)

pub returns : goal.returns
returns c =
    cong_all c.args.rest.now c.in_ok-t.rest.now c.in_ok-u.rest.now c.in_ok-t.t c.in_ok-u.u (Some c.in_ok-list.list.items)
    c.in_ok-t.ensures.found c.in_ok-u.ensures.found c.in_ok-list.ensures.ok
