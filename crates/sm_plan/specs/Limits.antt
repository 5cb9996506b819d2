-- Cited by public clauses: how large a kept formula may be, where terms don't count, and how deep
-- plans may branch.
use Rattle.std.specs.Prelude.{ℕ, ◌+◌, nat_le, max, Bool, ◌&&◌}
use Rattle.sm_term.specs.Assertions.{Assertion, Yes, No, Eq, Ne, Le, Lt, And, Or}

-- how many formulas a formula has, itself among them
abbrev pub form_nodes : Assertion → ℕ
form_nodes Yes = 1
form_nodes No = 1
form_nodes (Eq sort t u) = 1
form_nodes (Ne sort t u) = 1
form_nodes (Le t u) = 1
form_nodes (Lt t u) = 1
form_nodes (And p q) = 1 + form_nodes p + form_nodes q
form_nodes (Or p q) = 1 + form_nodes p + form_nodes q

-- the depth of a formula: 1 for a leaf, otherwise 1 more than its deepest part
abbrev pub form_depth : Assertion → ℕ
form_depth Yes = 1
form_depth No = 1
form_depth (Eq sort t u) = 1
form_depth (Ne sort t u) = 1
form_depth (Le t u) = 1
form_depth (Lt t u) = 1
form_depth (And p q) = 1 + max (form_depth p) (form_depth q)
form_depth (Or p q) = 1 + max (form_depth p) (form_depth q)

-- a kept formula has at most 200,000 nodes and is at most 64 deep
unfoldable pub is_kept : Assertion → Bool
is_kept keep = nat_le (form_nodes keep) 200000 && nat_le (form_depth keep) 64

-- at most 1,000 branching nodes stand above a node
unfoldable pub is_shallow : ℕ → Bool
is_shallow branches = nat_le branches 1000
