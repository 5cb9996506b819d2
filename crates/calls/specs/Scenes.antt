-- Private: tables that go on from others.
use Rattle.std.specs.Prelude.{◌≡◌, List, ◌++◌}
use Rattle.sm_term.specs.Terms.{Tree}
use Rattle.sm_term.specs.Tables.{TableValue, trees_in, sorts_in}

-- a table has the sorts of another, and its terms with more behind them
abbrev pub Continues : TableValue → TableValue → Type 0
Continues old new =
    (sorts_in new ≡ sorts_in old) × ((more : List Tree) × (trees_in new ≡ trees_in old ++ more))
