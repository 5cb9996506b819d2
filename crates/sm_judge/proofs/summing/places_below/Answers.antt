-- The next atom's number is its place.
use Rattle.sm_judge.proofs.Imports.{◌≡◌, ◌+◌, length, sym, ap, subst, ◌++◌, ◌∷◌, [], arith, length-append, TermId, AreNumbered}
use Rattle.sm_judge.proofs.SummingLemmas.{numbered_more}
use Rattle.sm_judge.proofs.summing.places_below.Goals as goal

pub loop-n-preserved : goal.loop-n-preserved
loop-n-preserved c =
    let t : TermId = record { 0 = c.loop-n.n } in
    let old = c.loop-n.list.items in
    let before = c.loop-n.invariant.count in
    let items : c.push.new.self.items ≡ old ++ t ∷ [] = c.in_ok-push.ensures.items in
    let more : length (old ++ t ∷ []) ≡ length old + 1 = length-append old (t ∷ []) in
    let count : length c.push.new.self.items ≡ length (old ++ t ∷ []) = ap length items in
    record {
      numbered = subst (AreNumbered 0) (sym items) (numbered_more 0 old t c.loop-n.invariant.numbered (omega arith));
      count = omega arith;
    }
