-- What `==` of two lists of parts tells.
use Rattle.sm_judge.proofs.Imports.{◌≡◌, ◌↔◌, true, List, subst, pair_decides}
use Rattle.std.proofs.Common.{ℕ, ℤ}
use Rattle.std.proofs.lemmas.Slice.Eq.{slice_eq-Decides}
use Rattle.sm_judge.proofs.torn.have_same_parts.Goals as goal

pub returns : goal.returns
returns c =
    let fs = c.parts.result.now in
    let gs = c.parts-2.result.now in
    let one = slice_eq-Decides pair_decides fs gs c.eq.result c.eq.ensures in
    subst (λ (ps : List (ℕ × ℤ)). (c.eq.result ≡ true) ↔ (ps ≡ c.args.g.now.parts)) c.parts.ensures.parts
    (subst (λ (ps : List (ℕ × ℤ)). (c.eq.result ≡ true) ↔ (fs ≡ ps)) c.parts-2.ensures.parts one)
