-- The declared names of the union.
use Rattle.sm_template.proofs.Imports.{◌≡◌, ℕ, Bool, ap, ◌∙◌, filter, Sort, declared_of, if_ok, names_written}
use Rattle.sm_syntax.specs.declared.program.Decls.{Decls}
use Rattle.sm_deps.specs.Members.{members}
use Rattle.sm_template.proofs.written.names_written.Goals as goal

pub returns : goal.returns
returns c code h =
    let declared = declared_of c.args.decls.now in
    let set = c.in_ok-set.set in
    if_ok c.declared_in.result (λ (d : Decls). declared_of d ≡ filter (λ (e : ℕ × Sort). members set e.0) declared)
    (λ (d : Decls). declared_of d ≡ names_written declared code) c.declared_in.ensures
    (λ (d : Decls) (e : declared_of d ≡ filter (λ (e : ℕ × Sort). members set e.0) declared).
    e ∙ ap (λ (s : ℕ → Bool). filter (λ (e : ℕ × Sort). s e.0) declared) (c.in_ok-set.ensures code h))
