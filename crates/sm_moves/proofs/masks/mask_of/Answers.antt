-- The sum of the bits is the mask of the set.
use Rattle.sm_moves.proofs.Imports.{◌+◌, ◌∙◌, of_copy, set_of}
use Rattle.sm_plan.specs.Copies as sets
use Rattle.sm_plan.proofs.MasksExact.{mask_exact}
use Rattle.sm_moves.proofs.masks.mask_of.Goals as goal

pub returns-clause-set : goal.returns-clause-set
returns-clause-set c =
    let base = c.counted-base.ensures in
    let variant_a = c.counted-variant_a.ensures in
    let variant_b = c.counted-variant_b.ensures in
    let candidate = c.counted-candidate.ensures in
    (λ i. set_of (base i + variant_a i + variant_b i + candidate i)) ∙ mask_exact (sets.copies_that (of_copy c.args.chosen))
