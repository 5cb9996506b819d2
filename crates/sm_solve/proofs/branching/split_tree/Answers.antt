use Rattle.sm_solve.proofs.Imports.{refl, sym, subst, lines_of, AreLinesWithin, CertTree, CertTree-F, CertEnd}
use Rattle.sm_cert.specs.declared.tree.CertEnd.TheVariants as ends
use Rattle.sm_solve.proofs.LeadingLemmas.{split_within}
use Rattle.sm_solve.proofs.branching.split_tree.Goals as goal

pub returns-clause-within : goal.returns-clause-within
returns-clause-within c = λ count line first second.
    let one = c.in_ok-one.one in
    let other = c.in_ok-other.other in
    let x : CertTree-F CertEnd CertTree = record { lines = record { list = c.new.result }; last = ends.Split c.args.line one other } in
    split_within count c.args.line one other x c.new.ensures.items refl line
    (subst (λ (t : CertTree). AreLinesWithin count (lines_of t)) (sym c.in_ok-one.ensures.ok) first)
    (subst (λ (t : CertTree). AreLinesWithin count (lines_of t)) (sym c.in_ok-other.ensures.ok) second)
