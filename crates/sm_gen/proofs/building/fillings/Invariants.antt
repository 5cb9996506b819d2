use Rattle.sm_gen.proofs.Imports.{◌≡◌, map, take, code_of, filling_of}
use Rattle.sm_syntax.specs.declared.program.Filling.{Filling}
use Rattle.sm_syntax.specs.trees.Copies.{copy_named}
use Rattle.sm_gen.proofs.building.fillings.Given as goal

abbrev pub invariant-loop-edit : goal.invariant-loop-edit
invariant-loop-edit l =
    map (λ (f : Filling). (f.hole, code_of f.block)) l.list.items ≡ map (filling_of (copy_named l.copy)) (take l.edit-index l.edits)
