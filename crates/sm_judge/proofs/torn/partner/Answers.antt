-- Back along the chain.
use Rattle.sm_judge.proofs.Imports.{◌≡◌, ◌<◌, ◌∙◌, Option, None, IfSome, List, length, get_or, sym, subst, arith, trees_in, sorts_in, AreLinked}
use Rattle.std.proofs.Common.{ℕ}
use Rattle.sm_judge.proofs.TornLemmas.{IsSearched, below_later, searched_next}
use Rattle.sm_judge.proofs.torn.partner.Goals as goal

pub loop-next-preserved : goal.loop-next-preserved
loop-next-preserved c =
    let sorts = sorts_in c.args.table.now in
    let trees = trees_in c.args.table.now in
    let before = c.args.before.now in
    let n = c.args.t.0 in
    let m = c.in-Some.m in
    let next : Option ℕ = get_or before m None in
    let earlier : m < n = subst (λ (place : Option ℕ). IfSome place (λ (k : ℕ). k < n)) c.in-Some.is c.loop-next.invariant.below in
    let inside : m < length before = omega (arith, earlier, c.requires.count, c.requires.within) in
    record {
      below = below_later m n next earlier (c.requires.back m inside);
      searched = λ (labels : List ℕ) (count : length labels ≡ length before) (linked : AreLinked labels before).
          searched_next sorts trees labels n m next
          (subst (IsSearched sorts trees labels n) c.in-Some.is (c.loop-next.invariant.searched labels count linked))
          (sym c.is_partner.ensures ∙ c.if-is_partner.false) (linked m (omega (arith, inside, count)));
    }
