use Rattle.sm_proof.proofs.Imports.{◌≤◌, length, arith, line_of}
use Rattle.sm_proof.proofs.ReadLemmas.{answer_bad_line, answer_bad_number, answer_ended, answer_ok, answer_within, long_line, same_answer, short_line}
use Rattle.sm_proof.proofs.read.line_from.Goals as goal

pub returns-then-bytes-gt-MOST_BYTES-clause-bad_line : goal.returns-then-bytes-gt-MOST_BYTES-clause-bad_line
returns-then-bytes-gt-MOST_BYTES-clause-bad_line c e = long_line c.args.bytes.now (omega (arith, c.if-bytes-gt-MOST_BYTES.true))

pub returns-clause-ok : goal.returns-clause-ok
returns-clause-ok c =
    let short : length c.args.bytes.now ≤ 4096 = omega (arith, c.if-bytes-gt-MOST_BYTES.false) in
    answer_ok _ c.line_by_words.result line_of (same_answer _ _ c.line_by_words.result line_of
    (short_line c.args.bytes.now short) c.line_by_words.ensures)

pub returns-clause-within : goal.returns-clause-within
returns-clause-within c =
    let short : length c.args.bytes.now ≤ 4096 = omega (arith, c.if-bytes-gt-MOST_BYTES.false) in
    answer_within c.args.bytes.now c.line_by_words.result line_of
    (same_answer _ _ c.line_by_words.result line_of (short_line c.args.bytes.now short) c.line_by_words.ensures)

pub returns-clause-bad_line : goal.returns-clause-bad_line
returns-clause-bad_line c e =
    let short : length c.args.bytes.now ≤ 4096 = omega (arith, c.if-bytes-gt-MOST_BYTES.false) in
    answer_bad_line _ c.line_by_words.result line_of
    (same_answer _ _ c.line_by_words.result line_of (short_line c.args.bytes.now short) c.line_by_words.ensures) e

pub returns-clause-bad_number : goal.returns-clause-bad_number
returns-clause-bad_number c e =
    let short : length c.args.bytes.now ≤ 4096 = omega (arith, c.if-bytes-gt-MOST_BYTES.false) in
    answer_bad_number _ c.line_by_words.result line_of
    (same_answer _ _ c.line_by_words.result line_of (short_line c.args.bytes.now short) c.line_by_words.ensures) e

pub returns-clause-ended : goal.returns-clause-ended
returns-clause-ended c e = answer_ended _ c.line_by_words.result line_of c.line_by_words.ensures e
