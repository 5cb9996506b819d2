-- The literals of the four lists.
use Rattle.sm_template.proofs.Imports.{ℤ, List, ap, ◌∙◌, Copy, Fillings, of_copy, fillings_of, with_literals, literals_filled}
use Rattle.sm_syntax.specs.claim.ConflictFree.{O, A, B, M}
use Rattle.sm_template.proofs.LiteralsLemmas.{literals_of_four}
use Rattle.sm_template.proofs.literals.literals_of.Goals as goal

pub returns : goal.returns
returns c t h =
    let of : Copy → Fillings = λ (d : Copy). fillings_of (of_copy c.args.fillings.now d) in
    let with : Copy → List ℤ → List ℤ = λ (d : Copy) (seen : List ℤ). with_literals seen (literals_filled (of d)) in
    let first = c.in_ok-add_fillings.ensures ∙ ap (with O) c.new-list.ensures.items in
    let second = c.in_ok-add_fillings-2.ensures ∙ ap (with A) first in
    let third = c.in_ok-add_fillings-3.ensures ∙ ap (with B) second in
    c.in_ok-add_fillings-4.ensures ∙ ap (with M) third ∙ literals_of_four t of h
