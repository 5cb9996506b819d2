-- No public clause cites this file.
-- How far symbols count in the names, where each new name has the next number.
use Rattle.std.specs.Prelude.{ℕ, ◌+◌, ◌==◌, if◌then◌else◌, List, [], ◌∷◌}
use Rattle.sm_syntax.specs.declared.symbol.Symbol.{Symbol}
use Rattle.sm_syntax.specs.declared.symbol.Symbol.TheVariants as s

-- how many names there are after n of them and the symbols
abbrev pub names_counted : ℕ → List Symbol → ℕ
names_counted n [] = n
names_counted n (s.Mark m ∷ ts) = names_counted n ts
names_counted n (s.Number z ∷ ts) = names_counted n ts
names_counted n (s.Name x ∷ ts) = names_counted (if x.0 == n then n + 1 else n) ts
