-- The goals that are left, with certificates for them that name terms of the table.
use Rattle.sm_write.proofs.Imports.{length, map, trees_in, certificate_in, LeavesGoals, AreTreesWithin, value_of}
use Rattle.sm_write.proofs.goals.write_goals.Given as goal

abbrev pub invariant-loop-n : goal.invariant-loop-n
invariant-loop-n l =
    let trees = trees_in l.table in record {
      written :
          LeavesGoals l.table (value_of l.fn.w) (value_of l.w) l.goals (map (certificate_in trees) l.certs) l.n
          (map (certificate_in trees) l.left);
      within : AreTreesWithin (length trees) l.left;
    }
