-- The sites so far.
use Rattle.sm_houdini.proofs.Imports.{◌≡◌, ℕ, Bool, take, Choice, all_marked, joins, rows}
use Rattle.sm_houdini.proofs.marks.joined_marks.Given as goal

abbrev pub invariant-loop-site : goal.invariant-loop-site
invariant-loop-site l =
    (p q : ℕ → ℕ → Bool) (c : Choice) → rows l.marks.sites.items ≡ all_marked p 0 c → rows l.others.sites.items ≡ all_marked q 0 c →
    rows l.sites.items ≡ all_marked (λ s i. joins l.join (p s i) (q s i)) 0 (take l.site c)
