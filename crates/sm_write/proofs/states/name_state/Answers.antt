-- One copy after the other.
use Rattle.sm_write.proofs.Imports.{O, A, B, M, value_of}
use Rattle.sm_write.proofs.StatesNamed.{state_named}
use Rattle.sm_write.proofs.states.name_state.Goals as goal

pub name_store-requires : goal.name_store-requires
name_store-requires c = c.requires O

pub name_store-requires-2 : goal.name_store-requires-2
name_store-requires-2 c = c.requires A

pub name_store-requires-3 : goal.name_store-requires-3
name_store-requires-3 c = c.requires B

pub name_store-requires-4 : goal.name_store-requires-4
name_store-requires-4 c = c.requires M

pub returns : goal.returns
returns c =
    state_named c.args.table.now (value_of c.args.w.now) (value_of c.name_store.new.w) (value_of c.name_store-2.new.w)
    (value_of c.name_store-3.new.w) (value_of c.name_store-4.new.w) c.args.stores.now c.in_ok-name_store.ensures
    c.in_ok-name_store-2.ensures c.in_ok-name_store-3.ensures c.in_ok-name_store-4.ensures
