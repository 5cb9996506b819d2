use Rattle.sm_syntax.proofs.Imports.{◌≡◌, Some, ap, subst, arith, first_sort_fault, size_fault, names_tested, Reports, declared_of, Sorts, condition_of}
use Rattle.sm_syntax.specs.text.Conditions.{ill_assumed}
use Rattle.sm_syntax.proofs.Uses.{conditions}
use Rattle.sm_syntax.proofs.checks.well_formed_cond.Goals as goal

pub returns-in_err-check_cond : goal.returns-in_err-check_cond
unfolding ill_assumed
returns-in_err-check_cond c =
    let known = ap (λ (s : Sorts). first_sort_fault s (names_tested (condition_of c.args.c.now))) c.in_ok-sorts.ensures.ok in
    grind (arith, conditions)

pub returns : goal.returns
unfolding ill_assumed
returns c =
    let known = ap (λ (s : Sorts). first_sort_fault s (names_tested (condition_of c.args.c.now))) c.in_ok-sorts.ensures.ok in
    let same : size_fault c.nodes_of_cond.result c.depth_of_cond.result ≡ ill_assumed (declared_of c.args.decls.now) (Some (condition_of c.args.c.now)) = grind (arith, conditions) in
    subst (Reports c.check_size.result) same c.check_size.ensures
