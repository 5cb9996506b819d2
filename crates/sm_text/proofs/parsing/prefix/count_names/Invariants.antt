-- The symbols that are left count on from here.
use Rattle.sm_text.proofs.Imports.{◌≡◌, drop, names_counted}
use Rattle.sm_text.proofs.parsing.prefix.count_names.Given as goal

abbrev pub invariant-loop-symbol : goal.invariant-loop-symbol
invariant-loop-symbol l = names_counted l.before l.symbols ≡ names_counted l.count (drop l.symbol-index l.symbols)
