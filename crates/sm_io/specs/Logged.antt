-- A read as the log of a shelf keeps it. Public clauses cite it.
use Rattle.std.specs.Prelude.{ℕ, List}
use Rattle.sm_io.specs.Reads.{Read}
use Rattle.sm_io.specs.declared.read_log.Gave.{Gave}

-- the read that gave this
abbrev pub read_of : Gave → Read
read_of gave = (gave.name.now, gave.place, gave.bytes.now)
