use Rattle.std.proofs.Common.{◌≡◌, ◌<◌, ◌≤◌, ◌∙◌, ◌+◌, ◌++◌, ℕ, List, length, length-take, take, vec_len, arith}
use Rattle.std.proofs.lemmas.List.{length-append}
use Rattle.sm_io.proofs.FileLemmas.{read_end, read_more}
use Rattle.sm_io.proofs.ReadLemmas.{reads_more}
use Rattle.sm_io.proofs.read.read_by.Goals as goal

-- a read that gave some bytes
some_read : (piece : List ℕ) (count : ℕ) → (count ≡ 0 → ⊥) → count ≤ length piece → 0 < length (take count piece)
some_read piece count some fits = rw (length-take count piece) (omega (arith, some, fits))

pub returns-then-count-eq0-clause-bytes : goal.returns-then-count-eq0-clause-bytes
returns-then-count-eq0-clause-bytes g c = λ bytes held.
    let given = c.in_ok-count.ensures.bytes bytes (c.loop-bytes.invariant.same c.args.name.now ∙ held) in
    let room : 0 < length c.read_at.new.buf = omega arith in
    read_end bytes _ _ _ _ given c.if-count-eq0.true room
    (rw (← c.len-place.ensures) at (c.loop-bytes.invariant.so_far bytes held))

pub returns-then-count-limit-clause-part : goal.returns-then-count-limit-clause-part
returns-then-count-limit-clause-part g c = λ err. (
  _,
  reads_more _ _ _ _ _ _ _ c.loop-bytes.invariant.given (c.len-place.ensures ∙ c.loop-bytes.bytes.ok.0)
      (some_read _ _ c.if-count-eq0.false c.in_ok-count.ensures.bound) c.in_ok-count.ensures.gives,
)

pub returns-then-count-limit-clause-over : goal.returns-then-count-limit-clause-over
returns-then-count-limit-clause-over g c = λ err.
    let long = length-append c.loop-bytes.bytes.items (take c.in_ok-count.count c.read_at.new.buf) in
    let cut = length-take c.in_ok-count.count c.read_at.new.buf in (
      c.loop-bytes.bytes.items ++ take c.in_ok-count.count c.read_at.new.buf,
      omega (arith, long, cut, c.in_ok-count.ensures.bound, c.len-place.ensures, c.loop-bytes.bytes.ok.0),
      reads_more _ _ _ _ _ _ _ c.loop-bytes.invariant.given (c.len-place.ensures ∙ c.loop-bytes.bytes.ok.0)
          (some_read _ _ c.if-count-eq0.false c.in_ok-count.ensures.bound) c.in_ok-count.ensures.gives,
    )

pub returns-in_err-extend_from_slice-clause-part : goal.returns-in_err-extend_from_slice-clause-part
returns-in_err-extend_from_slice-clause-part g c = λ err. (
  _,
  reads_more _ _ _ _ _ _ _ c.loop-bytes.invariant.given (c.len-place.ensures ∙ c.loop-bytes.bytes.ok.0)
      (some_read _ _ c.if-count-eq0.false c.in_ok-count.ensures.bound) c.in_ok-count.ensures.gives,
)

pub loop-bytes-preserved : goal.loop-bytes-preserved
loop-bytes-preserved g c =
    let taken = simp length-take at c.in_ok-extend_from_slice.ensures.len in
    let len : vec_len c.extend_from_slice.new.self ≡ c.len-place.result + c.in_ok-count.count =
    omega (arith, taken, c.in_ok-count.ensures.bound) in
    record {
      within = omega (arith, len);
      room = omega arith;
      so_far = λ bytes held.
          let given = c.in_ok-count.ensures.bytes bytes (c.loop-bytes.invariant.same c.args.name.now ∙ held) in
          let before = rw (← c.len-place.ensures) at (c.loop-bytes.invariant.so_far bytes held) in
          rw (len, c.in_ok-extend_from_slice.ensures.items) (read_more bytes _ _ _ _ given before);
      given = rw (c.in_ok-extend_from_slice.ensures.items)
          (reads_more _ _ _ _ _ _ _ c.loop-bytes.invariant.given (c.len-place.ensures ∙ c.loop-bytes.bytes.ok.0)
          (some_read _ _ c.if-count-eq0.false c.in_ok-count.ensures.bound) c.in_ok-count.ensures.gives);
      same = λ other. c.in_ok-count.ensures.same other ∙ c.loop-bytes.invariant.same other;
      count = grind arith;
      writes = grind arith;
    }
