-- The first terms of a table that widens.
use Rattle.sm_goals.proofs.Imports.{◌≡◌, ℕ, ◌+◌, ◌≤◌, length, take, ap, ◌∙◌, arith, length-append, take-append-le, TableValue, trees_in, ExtendsTable}

-- as many terms as there were are there
pub first_within : (v w : TableValue) → ExtendsTable v w → (from : ℕ) → from ≡ length (trees_in v) → from ≤ length (trees_in w)
first_within v w wider from is =
    let long : length (trees_in w) ≡ length (trees_in v) + length wider.trees.0 = ap length wider.trees.1
    ∙ length-append (trees_in v) wider.trees.0 in
    omega (arith, long, is)

-- the first terms of a table stay, as many as there are
pub front_stays : (v w : TableValue) → ExtendsTable v w → (from : ℕ) → from ≤ length (trees_in v) → take from (trees_in w) ≡ take from (trees_in v)
front_stays v w wider from within = ap (take from) wider.trees.1 ∙ take-append-le from (trees_in v) wider.trees.0 within

-- a front of the terms is there
pub front_within : (v w : TableValue) → ExtendsTable v w → (from : ℕ) → from ≤ length (trees_in v) → from ≤ length (trees_in w)
front_within v w wider from within =
    let long : length (trees_in w) ≡ length (trees_in v) + length wider.trees.0 = ap length wider.trees.1
    ∙ length-append (trees_in v) wider.trees.0 in
    omega (arith, long, within)
