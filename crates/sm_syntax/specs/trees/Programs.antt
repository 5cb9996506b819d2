-- What the lists of a program stand for. Public clauses cite it.
use Rattle.std.specs.Prelude.{ℕ, List, map}
use Rattle.sm_syntax.specs.declared.program.Decls.{Decls}
use Rattle.sm_syntax.specs.declared.program.Filling.{Filling}
use Rattle.sm_syntax.specs.declared.program.Fillings as tree
use Rattle.sm_syntax.specs.declared.program.Outputs.{Outputs}
use Rattle.sm_syntax.specs.declared.tree.Name.{Name}
use Rattle.sm_syntax.specs.declared.tree.Sort.{Sort}
use Rattle.sm_syntax.specs.claim.Fill.{Fillings}
use Rattle.sm_syntax.specs.trees.Views.{code_of}

-- the declared names, each with its sort
abbrev pub declared_of : Decls → List (ℕ × Sort)
declared_of d = map (λ (e : Name × Sort). (e.0.0, e.1)) d.list.items

-- the output names
abbrev pub outputs_of : Outputs → List ℕ
outputs_of o = map (λ (x : Name). x.0) o.list.items

-- the code for each hole
abbrev pub fillings_of : tree.Fillings → Fillings
fillings_of fs = map (λ (f : Filling). (f.hole, code_of f.block)) fs.list.items
