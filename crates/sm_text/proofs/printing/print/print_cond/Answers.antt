use Rattle.sm_text.proofs.Imports.{◌≡◌, ℕ, List, ◌++◌, ◌∙◌, sym, ap, subst, condition_of, condition_pieces, SpellsCondition, pieces_text}
use Rattle.sm_text.proofs.RoundTrip.Parts.{condition_back}
use Rattle.sm_text.proofs.printing.print.print_cond.Goals as goal

pub returns-clause-reads_back : goal.returns-clause-reads_back
returns-clause-reads_back c has deep =
    let names = c.args.names.now in
    let tree = condition_of c.args.c.now in
    let text = pieces_text names (condition_pieces tree) in
    let same : c.put_cond.new.out.items ≡ text = c.in_ok-put_cond.ensures ∙ ap (λ (l : List ℕ). l ++ text) c.new-out.ensures.items in
    let S : List ℕ → Type 0 = λ l. SpellsCondition names l tree in
    subst S (sym same) (condition_back names tree has deep)
