-- Private: from which nodes on the terms of a table can be named. Each term has an entry: the number
-- of a node, or none.
use Rattle.std.specs.Prelude.{◌≡◌, ◌⊎◌, ◌<◌, ◌≤◌, ℕ, Option, Some, None, List, [], ◌∷◌, length, get_or}
use Rattle.sm_syntax.specs.text.Sorts.{Sorts}
use Rattle.sm_term.specs.declared.term.Term.TheVariants as row
use Rattle.sm_term.specs.Tables.{tree_at}
use Rattle.sm_term.specs.declared.term.TermId.{TermId}
use Rattle.sm_term.specs.declared.term.Term.{Term}
use Rattle.sm_term.specs.Terms.{Tree}
use Rattle.sm_plan.specs.States.{State}
use Rattle.sm_write.specs.Nameable.{Nameable}
use Rattle.sm_write.specs.Writable.{states_until}

-- the entry of a term; one past the end has none
abbrev pub entry_of : List (Option ℕ) → ℕ → Option ℕ
entry_of since n = get_or since n None

-- a term is in a table, and can be named after the states of the nodes up to a number
abbrev pub IsNamedFrom : Sorts → List State → List Tree → ℕ → ℕ → Type 0
IsNamedFrom sorts states trees node n =
    (n < length trees) × Nameable sorts (states_until states node) (tree_at trees n)

-- terms are in a table, and can be named after the states of the nodes up to a number
abbrev pub AreNamedFrom : Sorts → List State → List Tree → ℕ → List TermId → Type 0
AreNamedFrom sorts states trees node [] = Unit {0}
AreNamedFrom sorts states trees node (t ∷ ts) =
    IsNamedFrom sorts states trees node t.0 × AreNamedFrom sorts states trees node ts

-- each entry tells a node from which on its term can be named
abbrev pub AreSince : Sorts → List State → List Tree → List (Option ℕ) → Type 0
AreSince sorts states trees since =
    (n node : ℕ) → entry_of since n ≡ Some node → IsNamedFrom sorts states trees node n

-- the entry of a term is a node up to this one
abbrev pub IsKnownBy : List (Option ℕ) → ℕ → ℕ → Type 0
IsKnownBy since node n =
    (first : ℕ) × (entry_of since n ≡ Some first) × (first ≤ node)

-- an entry may have become this node, and the others stayed
abbrev pub IsPut : List (Option ℕ) → List (Option ℕ) → ℕ → ℕ → Type 0
IsPut old new at node =
    (n first : ℕ) → entry_of new n ≡ Some first →
    (entry_of old n ≡ Some first) ⊎ ((n ≡ at) × (first ≡ node))

-- a term that is no new value and no summary, of whose parts each is known by a node
abbrev pub IsMadeOf : List (Option ℕ) → ℕ → Term → Type 0
IsMadeOf since node (row.Lit z) = Unit {0}
IsMadeOf since node (row.Start x) = Unit {0}
IsMadeOf since node (row.Havoc k c x) = ⊥
IsMadeOf since node (row.Slot c x) = Unit {0}
IsMadeOf since node row.Cell = Unit {0}
IsMadeOf since node (row.Read a i) = IsKnownBy since node a.0 × IsKnownBy since node i.0
IsMadeOf since node (row.Write a i e) =
    IsKnownBy since node a.0 × IsKnownBy since node i.0 × IsKnownBy since node e.0
IsMadeOf since node (row.Neg t) = IsKnownBy since node t.0
IsMadeOf since node (row.Add t u) = IsKnownBy since node t.0 × IsKnownBy since node u.0
IsMadeOf since node (row.Sub t u) = IsKnownBy since node t.0 × IsKnownBy since node u.0
IsMadeOf since node (row.Mul t u) = IsKnownBy since node t.0 × IsKnownBy since node u.0
IsMadeOf since node (row.Fun body x from args) = ⊥
