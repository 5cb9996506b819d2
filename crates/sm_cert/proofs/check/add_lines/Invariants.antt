-- The lines so far lead to the branch as it is, and it begins with the facts that it had.
use Rattle.sm_cert.proofs.Imports.{◌≡◌, ℕ, List, length, take, trees_in, sorts_in, BranchFact, AreFactsSorted, AllStand, first_of_three, line_number, Arrives}
use Rattle.sm_cert.proofs.check.add_lines.Given as goal

abbrev pub invariant-loop-line : goal.invariant-loop-line
invariant-loop-line g l =
    let sorts = sorts_in l.table in
    let trees = trees_in l.table in
    let theories = first_of_three (g.E.Theory.adds l.three.euf.now) (g.L.Theory.adds l.three.lia.now)
    (g.R.Theory.adds l.three.rows.now) sorts in
    record {
      kept : take (length l.fn.path.list.items) l.path.list.items ≡ l.fn.path.list.items;
      arrives : (facts : List BranchFact) (m : ℕ) → AllStand sorts trees l.fn.path.list.items facts → AreFactsSorted sorts facts →
          l.n ≡ line_number m →
          Arrives theories sorts trees facts m (take l.line-index l.lines) l.path.list.items l.at;
    }
