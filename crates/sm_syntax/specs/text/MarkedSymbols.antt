-- Symbols of the grammar, each with whether it nests too deep. Public clauses cite it.
-- The grammar has no limit on nesting: each symbol carries whether it nests too deep there, and in
-- the text of a task none does.
use Rattle.std.specs.Prelude.{ℕ, Bool, false, nat_le}
pub use Rattle.sm_syntax.specs.declared.symbol.Mark.{Mark}
pub use Rattle.sm_syntax.specs.declared.symbol.Symbol.{Symbol}
use Rattle.sm_syntax.specs.declared.symbol.Symbol.TheVariants as s
pub use Rattle.sm_syntax.specs.declared.symbol.Mark.TheVariants.{Semicolon}

-- a symbol, and whether it nests too deep
abbrev pub Marked : Type 0
Marked = Symbol × Bool

-- a symbol at which nothing nests
abbrev pub plain : Symbol → Marked
plain t = (t, false)

-- a reserved word or a sign at which nothing nests
abbrev pub word : Mark → Marked
word m = plain (s.Mark m)

-- a sign that opens a group, where d groups are open: the sixty-fifth is too deep
abbrev pub opens : Mark → ℕ → Marked
opens m d = (s.Mark m, nat_le 64 d)

-- an operator after k others of its chain: the sixty-fourth is too deep
abbrev pub joins : Mark → ℕ → Marked
joins m k = (s.Mark m, nat_le 63 k)
