-- The plan of programs that do nothing can be written.
use Rattle.sm_write.proofs.Imports.{ℕ, ◌<◌, refl, arith, Both, Close, IsShortLine, ExampleIsWritable}
use Rattle.sm_plan.specs.Limits.{is_shallow}

-- one small number
one_short : (n : ℕ) → n < 100 → IsShortLine (Both n)
one_short n low = (omega arith, (omega arith, tt))

close_short : (n : ℕ) → n < 100 → IsShortLine (Close n)
close_short n low = (omega arith, (omega arith, tt))

-- what computes, and that no number is long
pub example_is_writable : ExampleIsWritable
unfolding is_shallow
example_is_writable = record {
  dues = _;
  expands = refl;
  kept = (tt, tt);
  shown = (refl, (tt, tt), (refl, (tt, tt), (refl, (tt, (tt, tt)), tt)));
  short = (
    (one_short 0 (omega arith), close_short 1 (omega arith)),
    (
      (one_short 0 (omega arith), close_short 1 (omega arith)),
      ((one_short 0 (omega arith), (one_short 2 (omega arith), close_short 4 (omega arith))), tt),
    ),
  );
}
