-- The token that begins the hole.
use Rattle.sm_why.proofs.HolesFound.{begins_at, place_inside, token_there}
use Rattle.sm_why.proofs.sites.offset_at.Goals as goal

pub place_at-requires : goal.place_at-requires
place_at-requires c = token_there c.args.text.now c.args.tokens.now c.args.hole c.args.k c.requires.cut c.requires.begins

pub returns-clause-offset : goal.returns-clause-offset
returns-clause-offset c =
    begins_at c.args.text.now c.args.tokens.now c.args.hole c.args.k c.place_at.result c.requires.cut c.requires.begins c.requires.first
    c.place_at.ensures

pub returns-clause-inside : goal.returns-clause-inside
returns-clause-inside c = place_inside c.args.text.now c.args.tokens.now c.args.k c.place_at.result c.requires.cut c.place_at.ensures
