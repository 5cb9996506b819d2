-- The equation so far, with the parts from here on, is the whole, and its variables are below theirs.
use Rattle.sm_exact.proofs.Imports.{◌≡◌, ◌++◌, drop, neg_ℤ, Eq, modular_parts, quotient}
use Rattle.sm_exact.specs.Rows.{AreBelow}
use Rattle.sm_exact.proofs.ModularLemmas.{next_atom}
use Rattle.sm_exact.proofs.modular.modular.Given as goal

abbrev pub invariant-loop-part : goal.invariant-loop-part
invariant-loop-part l = record {
  kind : l.d.kind ≡ Eq;
  constant : l.d.constant ≡ neg_ℤ (quotient l.e.constant l.a);
  below : AreBelow (next_atom l.s (drop l.part-index l.parts)) l.d.parts;
  parts :
      modular_parts l.t l.a l.s l.parts
      ≡ l.d.parts ++ modular_parts l.t l.a l.s (drop l.part-index l.parts);
}
