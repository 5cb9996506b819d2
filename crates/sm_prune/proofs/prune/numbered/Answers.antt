use Rattle.sm_prune.proofs.Imports.{◌≡◌, ◌∙◌, [], map, reverse, sym, nil_from_length, line_of, left_lines, no_numbers, answers_of, lines_told, numbering_of}
use Rattle.sm_prune.proofs.ToldLemmas.{put_more, all_put}
use Rattle.sm_prune.proofs.prune.numbered.Goals as goal

pub loop-next-preserved : goal.loop-next-preserved
loop-next-preserved c =
    let i = c.loop-next in
    let all = reverse c.args.told.items in
    put_more (numbering_of i.numbers) (numbering_of c.put_next.new.numbers) (map line_of i.left.items)
    (map line_of c.put_next.new.left.items) i.rest.items c.pop.new.self.items c.in-Some.next
    (left_lines no_numbers (answers_of all) (lines_told all)) c.in-Some.ensures.items c.in_ok-put_next.ensures.items
    c.in_ok-put_next.ensures.numbers i.invariant

pub returns : goal.returns
returns c =
    let i = c.loop-next in
    let all = reverse c.args.told.items in
    let none : i.rest.items ≡ [] = nil_from_length i.rest.items (sym i.rest.ok.0 ∙ c.in_default.ensures.cases.0) in
    all_put (numbering_of i.numbers) (map line_of i.left.items) i.rest.items (left_lines no_numbers (answers_of all) (lines_told all)) none
    i.invariant
