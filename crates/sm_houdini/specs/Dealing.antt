-- Private: which node comes when, where nodes are dealt to jobs.
use Rattle.std.specs.Prelude.{ℕ, ◌+◌, ◌-◌, ◌*◌, ◌/◌, ◌%◌, ◌==◌, nat_lt, if◌then◌else◌}

-- of so many nodes, how many come first: of each four the second and the third
abbrev pub first_count : ℕ → ℕ
first_count count = count / 2 + (count % 4) / 3

-- the one that comes at a place: of each four the second and the third come first, and then the others
abbrev pub dealt : ℕ → ℕ → ℕ
dealt count place =
    let first = first_count count in
    if nat_lt place first then (2 * place + 1) - (place % 2) else 2 * (place - first) + ((place - first) % 2)

-- the place at which a node comes
abbrev pub placed : ℕ → ℕ → ℕ
placed count node = if ((node % 2 + node / 2) % 2) == 1 then node / 2 else first_count count + node / 2
