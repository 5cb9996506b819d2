-- One term more.
use Rattle.sm_judge.proofs.Imports.{◌≡◌, refl, suc, slice_index, ◌<◌, ◌+◌, ◌++◌, List, Some, nat_eq, length, ap, ◌∙◌, arith, get, trees_in, sorts_in, tree_at, Pairs, TellClasses, places_of, pair_with}
use Rattle.std.proofs.Common.{ℕ}
use Rattle.sm_judge.proofs.LabelledLemmas.{firsts_next, below_next, pairs_next}
use Rattle.sm_judge.proofs.pairs.class_pairs.Goals as goal

pub loop-n-preserved : goal.loop-n-preserved
loop-n-preserved c =
    let n = c.loop-n.n in
    let labels = c.args.labels.now in
    let trees = trees_in c.args.table.now in
    let x = slice_index labels n in
    let old = get nat_eq c.loop-n.firsts in
    let new = get nat_eq c.first_with.new.firsts in
    let count = c.requires in
    let len = c.len-n-end.ensures.len in
    let below : n < length labels = omega arith in
    let inside : n < length trees = omega arith in
    let next : n + 1 ≡ suc n = omega arith in
    let tree = tree_at trees n in
    let with_pair : ℕ → List (ℕ × ℕ) =
    λ (first : ℕ). places_of c.loop-n.pairs.items ++ pair_with (sorts_in c.args.table.now) tree n (Some first) in
    record {
      firsts = firsts_next labels n (n + 1) x next below refl old new c.in_ok-first.ensures.noted c.loop-n.invariant.firsts;
      below = below_next labels n (n + 1) x next below refl old new c.in_ok-first.ensures.noted c.loop-n.invariant.firsts (length trees) inside
          c.loop-n.invariant.below;
      pairs = λ (equal : Pairs) (tell : TellClasses trees equal labels).
          pairs_next labels n (n + 1) x next below refl old new c.in_ok-first.ensures.noted c.loop-n.invariant.firsts (sorts_in c.args.table.now) trees
          equal c.requires tell (places_of c.loop-n.pairs.items) (places_of c.add_pair.new.pairs.items) (c.loop-n.invariant.pairs equal tell)
          (c.in_ok-add_pair.ensures.pairs ∙ ap with_pair c.in_ok-first.ensures.first);
      within = c.in_ok-add_pair.ensures.within;
    }
