-- The first numbers are listed.
use Rattle.sm_houdini.proofs.Imports.{◌≡◌, range_with_len}
use Rattle.sm_terms.specs.Listing.{numbers_of}
use Rattle.sm_houdini.proofs.end_jobs.numbers_with.Given as goal

abbrev pub invariant-loop-n : goal.invariant-loop-n
invariant-loop-n l = numbers_of l.list.items ≡ range_with_len 0 l.n
