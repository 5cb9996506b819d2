-- The terms of the formulas that are left go behind those that are listed.
use Rattle.sm_exact.proofs.Imports.{◌≡◌, length, drop, trees_in, sorts_in, all_terms, with_formulas, trees_at, IsClosed, formulas_of}
use Rattle.sm_terms.specs.Listing.{AreBelow}
use Rattle.sm_exact.proofs.branch_terms.terms_of.Given as goal

abbrev pub invariant-loop-fact : goal.invariant-loop-fact
invariant-loop-fact l =
    let trees = trees_in l.table in
    let sorts = sorts_in l.table in
    let facts = l.branch.list.items in
    record {
      listed : AreBelow (length trees) l.terms;
      closed : IsClosed (trees_at trees l.terms);
      rest : with_formulas (formulas_of sorts trees (drop l.fact-index l.fact-items)) (trees_at trees l.terms)
          ≡ all_terms (formulas_of sorts trees facts);
    }
