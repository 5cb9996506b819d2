-- One place more without a hole.
use Rattle.sm_why.proofs.HolesFound.{none_more}
use Rattle.sm_why.proofs.sites.first_token.Goals as goal

pub loop-k-preserved : goal.loop-k-preserved
loop-k-preserved c =
    none_more c.args.symbols.now c.args.hole c.loop-k.k c.loop-k.invariant
    (let same = c.begins_hole.ensures in let fails = c.if-begins_hole.false in cc)
