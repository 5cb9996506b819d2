use Rattle.sm_fm.proofs.Imports.{same_from_decides, same_list, pair_decides, same_list-Decides}
use Rattle.std.proofs.lemmas.Slice.Eq.{slice_eq-Decides}
use Rattle.sm_fm.proofs.same.same_parts.Goals as goal

pub returns : goal.returns
returns c =
    let ps = c.args.a.now in
    let qs = c.args.b.now in
    same_from_decides c.eq.result (same_list ps qs) (slice_eq-Decides pair_decides ps qs c.eq.result c.eq.ensures) (same_list-Decides ps qs)
