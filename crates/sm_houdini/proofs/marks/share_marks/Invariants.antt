-- Each site so far has its marks.
use Rattle.sm_houdini.proofs.Imports.{◌≡◌, take, all_marked, in_share, rows}
use Rattle.sm_houdini.proofs.marks.share_marks.Given as goal

abbrev pub invariant-loop-numbers : goal.invariant-loop-numbers
invariant-loop-numbers l =
    rows l.sites.items ≡ all_marked (λ s. in_share l.shares l.share) 0 (rows (take l.numbers-index l.numbers-items))
