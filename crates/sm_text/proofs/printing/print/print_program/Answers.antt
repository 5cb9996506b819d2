use Rattle.sm_text.proofs.Imports.{◌≡◌, ℕ, List, ◌++◌, ◌∙◌, sym, ap, subst, declaration_pieces, output_pieces, shared_pieces, SpellsProgram, program_parts, pieces_text}
use Rattle.sm_text.specs.printing.Canonical.{program_pieces}
use Rattle.sm_text.proofs.RoundTrip.Parts.{program_back}
use Rattle.sm_text.proofs.RoundTrip.Putting.{put_both}
use Rattle.sm_text.proofs.printing.print.print_program.Goals as goal

pub put_declarations-requires : goal.put_declarations-requires
put_declarations-requires c = c.requires.declared

pub put_outputs-requires : goal.put_outputs-requires
put_outputs-requires c = c.requires.outputs

pub put_shared-requires : goal.put_shared-requires
put_shared-requires c = c.requires.body

pub returns-clause-reads_back : goal.returns-clause-reads_back
unfolding program_pieces
returns-clause-reads_back c has deep =
    let p = program_parts c.args.p.now in
    let declared = declaration_pieces p.declared in
    let outputs = output_pieces p.outputs in
    let body = shared_pieces p.body in
    let start = c.new-out.result.items in
    let one = c.put_declarations.new.out.items in
    let two = c.put_outputs.new.out.items in
    let end = c.put_shared.new.out.items in
    let last = put_both p.names outputs body one two end c.in_ok-put_outputs.ensures c.in_ok-put_shared.ensures in
    let all = put_both p.names declared (outputs ++ body) start one end c.in_ok-put_declarations.ensures last in
    let text = pieces_text p.names (program_pieces p.declared p.outputs p.body) in
    let same : end ≡ text = all ∙ ap (λ (l : List ℕ). l ++ text) c.new-out.ensures.items in
    let S : List ℕ → Type 0 = λ l. SpellsProgram l p in
    subst S (sym same) (program_back p has deep)
