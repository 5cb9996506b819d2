use Rattle.sm_proof.proofs.Imports.{◌≤◌, ℕ, not, ◌==◌, length, take, refl, arith, rules, prefix_len-le-length}
use Rattle.sm_proof.proofs.ReadLemmas.{first_length, first_none, first_read, first_some}
use Rattle.sm_proof.proofs.read.read_line.Goals as goal

pub returns-then-size-bytes-clause-truncated : goal.returns-then-size-bytes-clause-truncated
returns-then-size-bytes-clause-truncated c =
    (λ e. first_none c.args.bytes.now c.line_size-size.result c.line_size-size.ensures (search rules), λ e. refl)

pub returns-in_err-line-clause-bad_line : goal.returns-in_err-line-clause-bad_line
returns-in_err-line-clause-bad_line c e =
    let size = c.line_size-size.result in
    first_read c.args.bytes.now (take size c.args.bytes.now) _ (first_some c.args.bytes.now size c.line_size-size.ensures (search rules))
    (c.in_err-line.ensures.bad_line (search rules))

pub returns-in_err-line-clause-bad_number : goal.returns-in_err-line-clause-bad_number
returns-in_err-line-clause-bad_number c e =
    let size = c.line_size-size.result in
    first_read c.args.bytes.now (take size c.args.bytes.now) _ (first_some c.args.bytes.now size c.line_size-size.ensures (search rules))
    (c.in_err-line.ensures.bad_number (search rules))

pub returns-in_err-line-clause-truncated : goal.returns-in_err-line-clause-truncated
returns-in_err-line-clause-truncated c =
    let size = c.line_size-size.result in
    let first = first_some c.args.bytes.now size c.line_size-size.ensures (search rules) in
    (λ e. absurd (c.in_err-line.ensures.ended (search rules)), λ e. cc)

pub returns-clause-ok : goal.returns-clause-ok
returns-clause-ok c =
    let size = c.line_size-size.result in
    first_read c.args.bytes.now (take size c.args.bytes.now) _ (first_some c.args.bytes.now size c.line_size-size.ensures (search rules))
    c.in_ok-line.ensures.ok

pub returns-clause-length : goal.returns-clause-length
returns-clause-length c =
    let size = c.line_size-size.result in
    let within : size ≤ length c.args.bytes.now =
    omega (arith, c.line_size-size.ensures, prefix_len-le-length (λ (b : ℕ). not (b == 10)) c.args.bytes.now) in
    first_length c.args.bytes.now size within (first_some c.args.bytes.now size c.line_size-size.ensures (search rules))

pub returns-clause-truncated : goal.returns-clause-truncated
returns-clause-truncated c =
    let size = c.line_size-size.result in
    let first = first_some c.args.bytes.now size c.line_size-size.ensures (search rules) in
    (λ e. cc, λ e. cc)

pub returns-clause-size : goal.returns-clause-size
returns-clause-size c =
    let within : c.line_size-size.result ≤ length c.args.bytes.now =
    omega (arith, c.line_size-size.ensures, prefix_len-le-length (λ (b : ℕ). not (b == 10)) c.args.bytes.now) in
    (omega arith, omega (arith, c.if-size-bytes.false))
