-- Where the text is not made, the table is cut back.
use Rattle.sm_write.proofs.Imports.{◌≡◌, ℕ, length, take, ap, ◌∙◌, TableValue, trees_in, cut_back, widens_cut}
use Rattle.sm_write.proofs.writing.write_proof.Goals as goal

-- to as many terms as there were
cut_to : (u v w : TableValue) (n : ℕ) → n ≡ length (trees_in u) → trees_in w ≡ take n (trees_in v) →
    trees_in w ≡ take (length (trees_in u)) (trees_in v)
cut_to u v w n is cut = cut ∙ ap (λ (m : ℕ). take m (trees_in v)) is

pub returns-in-Err-clause-widens : goal.returns-in-Err-clause-widens
returns-in-Err-clause-widens c =
    let u = c.args.table.now in
    let v = c.written_proof.new.table in
    let w = c.cut.new.self in
    widens_cut u v w c.in-Err.ensures.widens (cut_to u v w c.len-len.result c.len-len.ensures.len c.cut.ensures.trees)
    c.cut.ensures.sorts c.cut.ensures.codes

pub returns-in-Err-clause-err : goal.returns-in-Err-clause-err
returns-in-Err-clause-err c =
    let u = c.args.table.now in
    let v = c.written_proof.new.table in
    let w = c.cut.new.self in
    cut_back u v w c.in-Err.ensures.widens (cut_to u v w c.len-len.result c.len-len.ensures.len c.cut.ensures.trees)
