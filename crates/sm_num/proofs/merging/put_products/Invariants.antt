-- What is put so far, and then the parts from here on, are all of them.
use Rattle.sm_num.proofs.Imports.{◌≡◌, drop, scaled, behind}
use Rattle.sm_num.proofs.merging.put_products.Given as goal

abbrev pub invariant-loop-part : goal.invariant-loop-part
invariant-loop-part l = behind l.fn.out.items (scaled l.by l.parts) ≡ behind l.out.items (scaled l.by (drop l.part-index l.parts))
