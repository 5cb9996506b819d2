use Rattle.sm_fm.proofs.Imports.{sym, ◌∙◌, arith, Decides-eqb, nil_from_length}
use Rattle.sm_fm.proofs.CrossedLemmas.{starts_done, starts_first}
use Rattle.sm_fm.proofs.pairs.Pairs.new.Goals as goal
use Rattle.sm_fm.proofs.pairs.Pairs.new.Goals.{then-is_empty, else-is_empty}

pub returns : goal.returns
returns c =
    let fs = c.args.firsts.items in
    let gs = c.args.seconds.items in
    elim c.if-is_empty.branch [
      | then-is_empty w ↦
          let e = (Decides-eqb _ 0).0 (sym c.is_empty.ensures ∙ w.if-is_empty.true) in
          starts_done fs gs c.if-is_empty.first (nil_from_length gs (omega arith)) (omega arith)
      | else-is_empty w ↦ starts_first fs gs c.if-is_empty.first w.first-is
    ]
