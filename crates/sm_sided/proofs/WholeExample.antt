-- A task worked by hand: the base and B have no statement; A and the candidate set a number and count
-- it down in a loop; the number and an array are outputs, and two things are assumed.
use Rattle.sm_sided.proofs.Imports.{◌≡◌, pos, Some, Ok, Err, List, [], ◌∷◌, refl, Num, Arr, Condition, Code, End, Assign, While, Hole, Compare, Var, Lit, Minus, A, M, Task, program_of, by_copy, sort_of, Abs, Fault, obligations, whole_certificates, whole_plan, IsShown}
use Rattle.std.proofs.Common.{Result}
use Rattle.sm_syntax.specs.declared.tree.Cmp.TheVariants as cmp
use Rattle.sm_syntax.specs.claim.Syntax.{And}
use Rattle.sm_deps.specs.Inputs.{inputs}
use Rattle.sm_plan.specs.Limits.{is_shallow}
use Rattle.sm_plan.specs.Nodes.{Ends}
use Rattle.sm_plan.specs.Plans.{At, Over, More, Due}
use Rattle.sm_sided.specs.WholeCertificates.{OfA}

-- x = 5; while (0 < x) { x = x - 1; }
counts_down : Code
counts_down = Assign 0 (Lit (pos 5)) (While (Compare cmp.Lt (Lit (pos 0)) (Var 0)) (Assign 0 (Minus (Var 0) (Lit (pos 1))) End) End)

-- 0 <= x and x < 9
bounds : Condition
bounds = And (Compare cmp.Le (Lit (pos 0)) (Var 0)) (Compare cmp.Lt (Var 0) (Lit (pos 9)))

pub task : Task
unfolding counts_down bounds
task = record {
  assumed = Some bounds;
  outputs = (0, Num) ∷ (1, Arr) ∷ [];
  shared = Hole 1 End;
  fillings = by_copy ((1, End) ∷ []) ((1, counts_down) ∷ []) ((1, End) ∷ []) ((1, counts_down) ∷ []);
}

-- the summaries of A and of the candidate
plan_is : whole_plan (program_of task) ≡ At (Abs A 2) (More (At (Abs M 2) (More (At Ends Over) Over)) Over)
unfolding task counts_down
plan_is = refl

-- its obligations
asked : Result (List Due) Fault → List Due
asked (Ok ds) = ds
asked (Err w) = []

-- four facts stand before the goals: two of the assumption, and that both loops have ended
pub is_shown : IsShown (sort_of ((0, Num) ∷ (1, Arr) ∷ [])) task (whole_plan (program_of task)) (whole_certificates OfA 4 2)
unfolding task counts_down bounds is_shallow asked inputs
is_shown = record {
  dues = asked (obligations task (whole_plan (program_of task)));
  expands = refl;
  closed = (refl, (refl, (refl, (refl, (refl, (refl, tt))))));
}
