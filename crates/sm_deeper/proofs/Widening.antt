-- A table that widens in two steps, the second by a call that may fail.
use Rattle.sm_deeper.proofs.Imports.{Ok, Err, OnOk, TableValue, ExtendsTable, widens_twice}
use Rattle.std.proofs.Common.{Result}

-- it has widened since before both
pub widens_then : {T E : Type 0} (u v w : TableValue) (r : Result T E) → ExtendsTable u v → OnOk r (ExtendsTable v w) → OnOk r (ExtendsTable u w)
widens_then u v w (Ok x) first second = widens_twice u v w first second
widens_then u v w (Err e) first second = tt
