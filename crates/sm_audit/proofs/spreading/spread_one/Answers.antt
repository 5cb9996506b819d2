-- A term that its parts make can be named when they can.
use Rattle.sm_audit.proofs.Imports.{◌<◌, ℕ, Option, List, length, sym, subst, arith, IsSorted, trees_in, sorts_in, codes_in, Nameable, states_until, IsMadeOf}
use Rattle.sm_audit.proofs.SinceLemmas.{made_named, since_put}
use Rattle.sm_audit.proofs.spreading.spread_one.Goals as goal

pub returns-in-Some : goal.returns-in-Some
returns-in-Some c = λ states all.
    let v = c.args.table.now in
    let sorts = sorts_in v in
    let trees = trees_in v in
    let since = c.args.since.now.items in
    let term = c.get.result.now in
    let node = c.in-Some.node in
    let inside : c.args.t.0 < length trees = omega arith in
    let made : IsMadeOf since node term = subst (λ (s : List (Option ℕ)). IsMadeOf s node term) c.as_slice.ensures.value c.in-Some.ensures in
    let sorted = subst (IsSorted sorts) (sym c.get.ensures.tree) (c.len.ensures.sorted c.args.t.0 inside) in
    let named =
    subst (Nameable sorts (states_until states node)) c.get.ensures.tree
    (made_named sorts states trees since all (codes_in v) node term sorted made) in
    since_put sorts states trees since c.put.new.since.items c.args.t.0 node c.put.ensures all (inside, named)
