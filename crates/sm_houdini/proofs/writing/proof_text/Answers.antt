use Rattle.sm_houdini.proofs.Imports.{sym, subst, List, sort_of, trees_in, sorts_in, certificate_in, CertTree, plan_in, IsWritable}
use Rattle.std.proofs.Common.{map}
use Rattle.sm_text.specs.Tasks.{parts_of}
use Rattle.sm_houdini.proofs.writing.proof_text.Goals as goal

-- src/writing.rt:27:5
pub write_proof-requires-clause-writable : goal.write_proof-requires-clause-writable
write_proof-requires-clause-writable c =
    let table = c.args.proof.table in
    let terms = trees_in table in
    subst (λ (certs : List CertTree). IsWritable (parts_of c.args.task.now) (plan_in (sorts_in table) terms c.args.proof.plan)
    (map (certificate_in terms) certs)) (sym c.deref.ensures.value) c.requires.proof.writable
