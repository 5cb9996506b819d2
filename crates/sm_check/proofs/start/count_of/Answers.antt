-- The last name has the greatest number.
use Rattle.sm_check.proofs.Imports.{◌≡◌, ℕ, ◌+◌, ◌-◌, length, Some, List, sym, ap, ◌∙◌, subst, Name, Sort}
use Rattle.std.proofs.Common.{slice_get}
use Rattle.sm_check.proofs.StartLemmas.{counted}
use Rattle.sm_check.proofs.start.count_of.Goals as goal

pub returns-in-Some-clause-count : goal.returns-in-Some-clause-count
returns-in-Some-clause-count c =
    let d = c.in-Some.field-0.now in
    let e =
    subst (λ (l : List (Name × Sort)). slice_get l (length l - 1) ≡ Some d) c.deref.ensures.value (sym c.in-Some.ensures.value) in
    ap (λ (n : ℕ). n + 1) c.from.ensures ∙ counted c.args.decls.now.list.items d c.requires e
