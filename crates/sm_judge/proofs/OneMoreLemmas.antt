-- A kept form and the number 1 are the form with 1 more.
use Rattle.std.proofs.Common.{[]}
use Rattle.sm_num.specs.declared.op.Op.TheVariants as op
