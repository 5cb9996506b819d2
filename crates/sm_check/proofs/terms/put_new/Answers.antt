-- The term is the one that the line tells.
use Rattle.sm_check.proofs.Imports.{◌≡◌, Some, None, length, refl, sym, ap, ◌∙◌, codes_in, sorts_in, trees_in, BadNumber, term_made, IsTerm, terms_in}
use Rattle.sm_check.proofs.NewTermLemmas.{found_in, new_made, new_within}
use Rattle.sm_check.proofs.TellsLemmas.{same_word, tells_along}
use Rattle.sm_check.proofs.terms.put_new.Goals as goal

pub put-requires : goal.put-requires
put-requires c =
    let table = c.args.table.now in
    new_within (sorts_in table) (length (codes_in table)) (length (trees_in table)) c.args.declared c.requires.numbered c.args.terms.now
    c.requires.terms c.args.line.now c.in-Some.term c.requires.line (sym c.in-Some.ensures)

pub returns-in-Some-clause-tells : goal.returns-in-Some-clause-tells
returns-in-Some-clause-tells c first =
    let table = c.args.table.now in
    let sorts = sorts_in table in
    let codes = codes_in table in
    let trees = trees_in table in
    let terms = c.args.terms.now in
    tells_along (IsTerm (trees_in c.put.new.table)) c.put.result (found_in sorts codes trees (Some c.in-Some.term))
    (term_made sorts (terms_in trees terms) first c.args.line.now)
    (new_made sorts codes trees terms c.args.declared c.requires.numbered first c.args.line.now c.requires.kind
    ∙ ap (found_in sorts codes trees) (sym c.in-Some.ensures))
    c.put.ensures.tells

pub returns-in-None-clause-tells : goal.returns-in-None-clause-tells
returns-in-None-clause-tells c first =
    let table = c.args.table.now in
    let sorts = sorts_in table in
    let codes = codes_in table in
    let trees = trees_in table in
    let terms = c.args.terms.now in
    same_word (IsTerm trees) _ (term_made sorts (terms_in trees terms) first c.args.line.now) BadNumber refl
    (new_made sorts codes trees terms c.args.declared c.requires.numbered first c.args.line.now c.requires.kind
    ∙ ap (found_in sorts codes trees) (sym c.in-None.ensures))
