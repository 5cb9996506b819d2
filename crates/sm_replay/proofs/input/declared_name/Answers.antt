-- A name by its place.
use Rattle.sm_replay.proofs.Imports.{Some, sym, ◌∙◌, sorts_of}
use Rattle.sm_replay.proofs.MembersLemmas.{unnamed, named}
use Rattle.sm_replay.proofs.input.declared_name.Goals as goal

pub returns-in-None : goal.returns-in-None
returns-in-None c = unnamed c.args.names.now (sorts_of c.args.s.now) c.args.key.now (sym c.in-None.ensures.found)

pub returns-in-Some-sort : goal.returns-in-Some-sort
returns-in-Some-sort c =
    named c.args.names.now (sorts_of c.args.s.now) c.args.key.now c.in-Some.name.0
    (Some c.in-Some-sort.sort) c.in-Some.ensures.number c.in-Some.ensures.stored
    (sym c.in-Some-sort.is ∙ c.sort.ensures)
