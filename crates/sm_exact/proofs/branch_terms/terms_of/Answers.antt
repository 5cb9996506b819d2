-- The terms of formulas have one place each, and so have their numbers.
use Rattle.sm_exact.proofs.Imports.{◌≡◌, List, [], drop, sym, subst, arith, trees_in, sorts_in, Fact, all_terms, with_formulas, HaveOnePlace, all_terms_places, trees_at, formulas_of}
use Rattle.std.proofs.Math.ListN.{drop_of_length-le}
use Rattle.sm_exact.proofs.PlacedBranch.{places_once}
use Rattle.sm_exact.proofs.branch_terms.terms_of.Goals as goal

pub returns-clause-once : goal.returns-clause-once
returns-clause-once c =
    let trees = trees_in c.args.table.now in
    let sorts = sorts_in c.args.table.now in
    let facts = c.args.branch.now.list.items in
    let keys = c.loop-fact.terms in
    let past : drop c.loop-fact.fact-index c.deref-fact-items.result.now ≡ [] =
    drop_of_length-le c.deref-fact-items.result.now (omega (arith, c.loop-fact-test.false)) in
    let all : trees_at trees keys ≡ all_terms (formulas_of sorts trees facts) =
    subst (λ (fs : List Fact). with_formulas (formulas_of sorts trees fs) (trees_at trees keys) ≡ all_terms (formulas_of sorts trees facts)) past
    c.loop-fact.invariant.rest in
    places_once trees keys c.loop-fact.invariant.listed (subst HaveOnePlace (sym all) (all_terms_places (formulas_of sorts trees facts)))
