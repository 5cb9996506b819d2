use Rattle.sm_text.proofs.Imports.{ℕ, List, ◌++◌, ◌∙◌, sym, ap, subst, Spells, declaration_pieces, output_pieces, assumption_pieces, shared_pieces, lists_pieces, pieces_text, parts_of}
use Rattle.sm_text.specs.printing.Canonical.{task_pieces}
use Rattle.sm_text.proofs.RoundTrip.Putting.{put_both}
use Rattle.sm_text.proofs.RoundTrip.Tasks.{spelled_named, reads_back}
use Rattle.sm_text.proofs.printing.print.print_task.Goals as goal

pub put_declarations-requires : goal.put_declarations-requires
put_declarations-requires c = (spelled_named (parts_of c.args.task.now) c.requires).declared

pub put_outputs-requires : goal.put_outputs-requires
put_outputs-requires c = (spelled_named (parts_of c.args.task.now) c.requires).outputs

pub put_assumption-requires : goal.put_assumption-requires
put_assumption-requires c = (spelled_named (parts_of c.args.task.now) c.requires).assumed

pub put_shared-requires : goal.put_shared-requires
put_shared-requires c = (spelled_named (parts_of c.args.task.now) c.requires).shared

pub put_lists-requires : goal.put_lists-requires
put_lists-requires c = (spelled_named (parts_of c.args.task.now) c.requires).fillings

pub returns-clause-text : goal.returns-clause-text
unfolding task_pieces
returns-clause-text c =
    let t = parts_of c.args.task.now in
    let names = t.names in
    let declared = declaration_pieces t.declared in
    let outputs = output_pieces t.outputs in
    let assumed = assumption_pieces t.assumed in
    let shared = shared_pieces t.shared in
    let lists = lists_pieces t.fillings in
    let start = c.new-out.result.items in
    let one = c.put_declarations.new.out.items in
    let two = c.put_outputs.new.out.items in
    let three = c.put_assumption.new.out.items in
    let four = c.put_shared.new.out.items in
    let end = c.put_lists.new.out.items in
    let last = put_both names shared lists three four end c.in_ok-put_shared.ensures c.in_ok-put_lists.ensures in
    let more = put_both names assumed (shared ++ lists) two three end c.in_ok-put_assumption.ensures last in
    let most = put_both names outputs (assumed ++ (shared ++ lists)) one two end c.in_ok-put_outputs.ensures more in
    let all = put_both names declared (outputs ++ (assumed ++ (shared ++ lists))) start one end c.in_ok-put_declarations.ensures most in
    all ∙ ap (λ (l : List ℕ). l ++ pieces_text names (task_pieces t)) c.new-out.ensures.items

pub returns-clause-reads_back : goal.returns-clause-reads_back
returns-clause-reads_back c =
    let t = parts_of c.args.task.now in
    let S : List ℕ → Type 0 = λ l. Spells l t in
    subst S (sym (returns-clause-text c)) (reads_back t c.requires)
