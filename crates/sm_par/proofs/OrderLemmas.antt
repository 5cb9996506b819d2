-- Results in order that stand for one thing stand for another.
use Rattle.std.proofs.Common.{ℕ, ◌+◌, ◌<◌, Result, Ok, Err, IfOk, arith, slice_index_or, Vec, Global}
use Rattle.sm_par.specs.Results.{StandInOrder}

-- where what stands for a number in one way does in another, so do results
pub stand_by : {T E : Type 0} (P Q : ℕ → T → Type 0) (start count : ℕ) (r : Result (Vec T Global) E) →
    ((i : ℕ) (t : T) → i < start + count → P i t → Q i t) →
    IfOk r (λ (v : Vec T Global). StandInOrder P start count v.items) →
    IfOk r (λ (v : Vec T Global). StandInOrder Q start count v.items)
stand_by P Q start count (Ok v) moves stand = record {
  all = stand.all;
  each = λ k d below. moves (start + k) (slice_index_or v.items k d) (omega arith) (stand.each k d below);
}
stand_by P Q start count (Err e) moves stand = tt
