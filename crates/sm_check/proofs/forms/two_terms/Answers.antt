-- Two terms that are there.
use Rattle.sm_check.proofs.Imports.{length, sym, trees_in, part_before}
use Rattle.sm_check.proofs.FormRowsLemmas.{about_without_first, about_without_second}
use Rattle.sm_check.proofs.forms.two_terms.Goals as goal

pub returns-in-Some-term_at-clause-within : goal.returns-in-Some-term_at-clause-within
returns-in-Some-term_at-clause-within c =
    let n = length (trees_in c.args.table.now) in
    let terms = c.args.terms.now in (
      part_before n terms c.args.t c.in-Some.a c.requires (sym c.in-Some.ensures),
      part_before n terms c.args.u c.in-Some-term_at.b c.requires (sym c.in-Some-term_at.ensures),
    )

pub returns-in-None-term_at-clause-tells : goal.returns-in-None-term_at-clause-tells
returns-in-None-term_at-clause-tells c test makes =
    about_without_second (trees_in c.args.table.now) c.args.terms.now c.args.t c.args.u test makes c.in-Some.a (sym c.in-Some.ensures)
    (sym c.in-None-term_at.ensures)

pub returns-in-None-clause-tells : goal.returns-in-None-clause-tells
returns-in-None-clause-tells c test makes =
    about_without_first (trees_in c.args.table.now) c.args.terms.now c.args.t c.args.u test makes (sym c.in-None.ensures)
