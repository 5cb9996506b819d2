-- By what is told of the facts alone, or else by the walk.
use Rattle.sm_solve.proofs.Imports.{◌≡◌, ℕ, [], ◌∷◌, ◌++◌, Option, IfSome, subst, trees_in, sorts_in, CertTree, with_parts, terms_of, Closes, walk_from, ClosesIn}
use Rattle.sm_solve.proofs.fact_base.FactBase.end_of_goal.Goals as goal

pub returns-in-Some-clause-tells : goal.returns-in-Some-clause-tells
returns-in-Some-clause-tells c = λ table given contrary at.
    let sorts = sorts_in table in
    let all = with_parts (given ++ contrary ∷ []) in
    let w = walk_from sorts (terms_of all) c.args.reach 1001 0 all in
    subst (λ (o : Option CertTree). IfSome o (λ t. (n : ℕ) × (w ≡ Closes n))) c.in-Some.is
    (c.in_ok-tree.ensures.tells table given contrary at)

pub returns-in-Some-clause-shows : goal.returns-in-Some-clause-shows
returns-in-Some-clause-shows c = λ table given contrary at.
    let trees = trees_in c.inconsistent_goal.new.self.terms.own in
    subst (λ (o : Option CertTree). IfSome o (ClosesIn (sorts_in table) trees (given ++ contrary ∷ []) 1001)) c.in-Some.is
    (c.in_ok-tree.ensures.shows table given contrary at)

pub returns-in_ok-end-in-None-clause-tells : goal.returns-in_ok-end-in-None-clause-tells
returns-in_ok-end-in-None-clause-tells c = λ table given contrary at.
    c.in_ok-end-in-None.ensures.tells table given contrary (c.in_ok-tree.ensures.stays table given contrary at)

pub returns-in_ok-end-in-None-clause-shows : goal.returns-in_ok-end-in-None-clause-shows
returns-in_ok-end-in-None-clause-shows c = λ table given contrary at.
    c.in_ok-end-in-None.ensures.shows table given contrary (c.in_ok-tree.ensures.stays table given contrary at)
