-- Private: what trimming leaves of a certificate, first with the numbers that facts had, then with
-- those that they get.
use Rattle.std.specs.Prelude.{ℕ, suc, ◌+◌, ◌-◌, Bool, ◌||◌, if◌then◌else◌, List, ◌++◌, length, get_or}
use Rattle.std.specs.List.{range_with_len}
use Rattle.sm_theory.specs.Lines.{CertificateLine}
use Rattle.sm_theory.specs.Named.{facts_added}
use Rattle.sm_theory.specs.Moved.{moved_line}
use Rattle.sm_cert.specs.Certificates.{Certificate, Next, Closed, Split}
use Rattle.sm_trim.specs.Used.{names_fact, some_pass}

-- lines that are left of a certificate, each with the number of facts that stood before it; facts
-- have the numbers that they had
pub data Pruned : Type 0 where
  LeftNext : ℕ → CertificateLine → Pruned → Pruned
  LeftClosed : ℕ → CertificateLine → Pruned
  LeftSplit : ℕ → CertificateLine → Pruned → Pruned → Pruned

-- whether a line that is left names fact n
abbrev pub needs : Pruned → ℕ → Bool
needs (LeftNext at line p) n = names_fact at line n || needs p n
needs (LeftClosed at line) n = names_fact at line n
needs (LeftSplit at line p q) n = names_fact at line n || (needs p n || needs q n)

-- a line before what is left, where that needs one of the facts that the line adds
abbrev pub with_line : ℕ → CertificateLine → Pruned → Pruned
with_line at line p = if some_pass (facts_added line) at (needs p) then LeftNext at line p else p

-- a split, or the first of its parts that doesn't need the fact that the split adds there
abbrev pub with_split : ℕ → CertificateLine → Pruned → Pruned → Pruned
with_split at line p q =
    if needs p at then (if needs q at then LeftSplit at line p q else q) else p

-- what is left of a certificate before which `at` facts stand, from the leaves on
abbrev pub pruned : ℕ → Certificate → Pruned
pruned at (Next line c) = with_line at line (pruned (at + facts_added line) c)
pruned at (Closed line) = LeftClosed at line
pruned at (Split line c d) = with_split at line (pruned (suc at) c) (pruned (suc at) d)

-- the new number of fact n, where those of facts from 0 on are told; of other facts the old one
abbrev pub new_number : List ℕ → ℕ → ℕ
new_number moved n = get_or moved n n

-- facts up to number `at` keep what they have, and k facts from there on get numbers from `to` on
abbrev pub numbered_on : List ℕ → ℕ → ℕ → ℕ → List ℕ
numbered_on moved at to k =
    (moved ++ range_with_len (length moved) (at - length moved)) ++ range_with_len to k

-- the certificate with new numbers of facts, where `to` facts stand before it
abbrev pub closed_up : List ℕ → ℕ → Pruned → Certificate
closed_up moved to (LeftNext at line p) =
    Next (moved_line (new_number moved) line)
    (closed_up (numbered_on moved at to (facts_added line)) (to + facts_added line) p)
closed_up moved to (LeftClosed at line) = Closed (moved_line (new_number moved) line)
closed_up moved to (LeftSplit at line p q) =
    Split (moved_line (new_number moved) line)
    (closed_up (numbered_on moved at to 1) (suc to) p)
    (closed_up (numbered_on moved at to 1) (suc to) q)
