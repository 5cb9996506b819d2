-- One of the three was found, or none is so.
use Rattle.sm_sided.proofs.Imports.{◌≡◌, true, sym, ◌∙◌, Copy, of_copy, code_of, IsOneSided, is_one_sided}
use Rattle.sm_sided.proofs.OneSidedLemmas.{found_is, one_sided_is}
use Rattle.sm_sided.proofs.sided.one_sided.Goals as goal

pub returns-clause-exact : goal.returns-clause-exact
returns-clause-exact c =
    c.is_some.ensures
    ∙ found_is (λ (copy : Copy). code_of (of_copy c.args.programs.now copy)) c.only_change.result c.only_change.ensures

pub returns-clause-says : goal.returns-clause-says
returns-clause-says c =
    let program = λ (copy : Copy). code_of (of_copy c.args.programs.now copy) in
    let e : c.is_some.result ≡ is_one_sided program =
    c.is_some.ensures ∙ found_is program c.only_change.result c.only_change.ensures in (
      λ (h : c.is_some.result ≡ true). (one_sided_is program).0 (sym e ∙ h),
      λ (h : IsOneSided program). e ∙ (one_sided_is program).1 h,
    )
