use Rattle.sm_text.proofs.Imports.{rules, ◌≡◌, ℕ, List, sym, subst, code_of, block_pieces, SpellsBlock, pieces_text, margin_at}
use Rattle.sm_text.proofs.RoundTrip.Parts.{block_back}
use Rattle.sm_text.proofs.printing.print.print_block.Goals as goal

pub returns-clause-reads_back : goal.returns-clause-reads_back
returns-clause-reads_back c has deep =
    let names = c.args.names.now in
    let code = code_of c.args.block.now in
    let same : c.put_block.new.out.items ≡ pieces_text names (block_pieces (margin_at c.args.level) code) = search rules in
    let S : List ℕ → Type 0 = λ l. SpellsBlock names l code in
    subst S (sym same) (block_back names code c.args.level has deep)
