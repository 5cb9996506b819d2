-- By what the map has afterwards.
use Rattle.sm_cc.proofs.Imports.{sym, ◌∙◌, get, same_pair}
use Rattle.sm_cc.proofs.PositionsLemmas.{noted, none_there}
use Rattle.sm_cc.proofs.positions.note_pair.Goals as goal

pub returns-in_ok-insert : goal.returns-in_ok-insert
returns-in_ok-insert c =
    let old = get same_pair c.args.reads.now in
    let none = none_there (old c.args.pair) (sym c.contains_key.ensures ∙ c.if-not-contains_key.true) in
    noted old (get same_pair c.insert.new.self) c.args.pair c.args.place none c.in_ok-insert.ensures.updates.0
