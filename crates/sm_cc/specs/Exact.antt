-- Private: classes of places that are exact.
use Rattle.std.specs.Prelude.{ℕ, List, [], ◌∷◌, ◌++◌, map}
use Rattle.sm_cc.specs.Rows.{ArePlacesClosed, Row}
use Rattle.sm_cc.specs.Log.{Placed}
use Rattle.sm_cc.specs.Closures.{IsSound, board_of, are_together, pair_of, fact_of, Closure, Given}

-- classes follow from what is given, and no rule brings more
pub record IsExact (c : Closure) : Type 0 where
  pub sound : IsSound c
  pub closed : ArePlacesClosed (board_of c) (are_together c.roots.items)

-- the rows, of which nothing is given
abbrev pub nothing_given : List Row → Placed
nothing_given rows = record {
  board = record { rows = rows; equal = []; unequal = [] };
  equal_facts = [];
  unequal_facts = [];
}

-- the rows, of which it is given that these places are equal, and that these aren't
abbrev pub placed_with : List Row → List Given → List Given → Placed
placed_with rows equal unequal = record {
  board = record {
    rows = rows;
    equal = map pair_of equal;
    unequal = map pair_of unequal;
  };
  equal_facts = map fact_of equal;
  unequal_facts = map fact_of unequal;
}

-- two places are given to be equal, last of all
abbrev pub with_equal : Placed → ℕ → ℕ → ℕ → Placed
with_equal v fact i j = record v {
  board = record v.board { equal = v.board.equal ++ (i, j) ∷ [] };
  equal_facts = v.equal_facts ++ fact ∷ [];
}

-- two places are given not to be equal, last of all
abbrev pub with_unequal : Placed → ℕ → ℕ → ℕ → Placed
with_unequal v fact i j = record v {
  board = record v.board { unequal = v.board.unequal ++ (i, j) ∷ [] };
  unequal_facts = v.unequal_facts ++ fact ∷ [];
}
