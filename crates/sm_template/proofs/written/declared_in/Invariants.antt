-- Those of the set are there, of the first names.
use Rattle.sm_template.proofs.Imports.{◌≡◌, ℕ, take, filter, Sort}
use Rattle.sm_deps.specs.Members.{members}
use Rattle.sm_template.proofs.TemplatesMade.{names_of}
use Rattle.sm_template.proofs.written.declared_in.Given as goal

abbrev pub invariant-loop-d : goal.invariant-loop-d
invariant-loop-d l =
    names_of l.list.items ≡ filter (λ (e : ℕ × Sort). members l.set e.0) (names_of (take l.d-index l.d-items))
