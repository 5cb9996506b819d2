use Rattle.sm_syntax.proofs.Imports.{◌≡◌, subst, arith, common_steps, size_fault, Reports, declared_of, outputs_of, code_of}
use Rattle.sm_syntax.specs.text.Conditions.{program_fault}
use Rattle.sm_syntax.proofs.Uses.{conditions}
use Rattle.sm_syntax.proofs.checks.well_formed_block.Goals as goal

pub returns : goal.returns
unfolding program_fault
returns c =
    let fault = program_fault (declared_of c.args.decls.now) (outputs_of c.args.outputs.now) (code_of c.args.body.now) in
    let same : size_fault c.nodes.result c.depth.result ≡ fault = grind (arith, common_steps, conditions) in
    subst (Reports c.check_size.result) same c.check_size.ensures
