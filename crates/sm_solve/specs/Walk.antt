-- Cited by public clauses: the walk over the branches of an obligation, with what it counts.
use Rattle.std.specs.Prelude.{ℕ, zero, suc, ◌+◌, ◌-◌, min, if◌then◌else◌, Option, Some, None, List, [], ◌∷◌, ◌++◌, length}
use Rattle.sm_syntax.specs.text.Sorts.{Sorts}
use Rattle.sm_num.specs.Forms.{Linear}
use Rattle.sm_num.specs.Combining.{Outcome, Fits, Leaves}
use Rattle.sm_omega.specs.Counting.{Done, Passed, Outside, Shallow}
use Rattle.sm_omega.specs.Rules.{Answer}
use Rattle.sm_omega.specs.Exact.{exact}
use Rattle.sm_term.specs.Terms.{Tree}
use Rattle.sm_term.specs.Assertions.{Assertion, negate}
use Rattle.sm_list.specs.Branches.{with_parts, terms_of}
use Rattle.sm_judge.specs.Holding.{Seen, is_closed, Split, split_of}
use Rattle.sm_certify.specs.Given.{seen_by}
use Rattle.sm_judge.specs.Forms.{Walked, Closes, Opens, TooFar, GoesOut, forms_of, counted, by_forms}
pub use Rattle.sm_solve.specs.declared.reach.Reach.{Reach}

-- the walk goes on where it closes
abbrev pub then_walk : Walked → (ℕ → Walked) → Walked
then_walk (Closes count) next = next count
then_walk (Opens facts) next = Opens facts
then_walk TooFar next = TooFar
then_walk (GoesOut op y z) next = GoesOut op y z

-- what the exact decision of a branch's forms comes to: without a solution the branch is closed
abbrev pub decided : ℕ → List Assertion → Answer → Walked
decided count facts (Done steps None) = Closes (count + steps)
decided count facts (Done steps (Some values)) = Opens facts
decided count facts Passed = TooFar
decided count facts (Outside op y z) = GoesOut op y z
decided count facts Shallow = Opens facts

-- forms are decided exactly, in the steps that are left, at most 1,000,000
abbrev pub by_decision : ℕ → ℕ → List Assertion → Outcome (List (Linear ℕ)) → Walked
by_decision steps count facts (Fits forms) =
    decided count facts (exact forms (min (steps - count) 1000000))
by_decision steps count facts (Leaves op y z) = GoesOut op y z

-- a branch without a split stays open, or its forms are decided exactly
abbrev pub by_no_split : Reach → Seen → ℕ → Walked
by_no_split reach b count =
    if reach.exact then by_decision reach.steps count b.facts (forms_of b) else Opens b.facts

-- both parts of a split, the first first; what a branch without a split comes to is told
abbrev pub by_parts :
    (ℕ → List Assertion → Walked) → (ℕ → Walked) → List Assertion → Option Split → ℕ → Walked
by_parts go alone facts None count = alone count
by_parts go alone facts (Some s) count =
    then_walk (go count (facts ++ with_parts (s.0 ∷ [])))
    (λ (n : ℕ). go n (facts ++ with_parts (s.1 ∷ [])))

-- a branch that is visited: its classes, its forms, then its parts
abbrev pub by_classes : (ℕ → List Assertion → Walked) → Reach → Seen → ℕ → Walked
by_classes go reach b count =
    if is_closed b then Closes count
    else by_forms reach.steps count (length b.terms) (forms_of b)
    (by_parts go (by_no_split reach b) b.facts (split_of b))

-- the walk from a branch on, above which so many more splits may stand than are left
abbrev pub walk_from : Sorts → List Tree → Reach → ℕ → ℕ → List Assertion → Walked
walk_from sorts terms reach zero count facts = TooFar
walk_from sorts terms reach (suc room) count facts =
    counted reach.steps count
    (by_classes (walk_from sorts terms reach room) reach (seen_by sorts terms facts))

-- the walk of an obligation: at most 1,000 splits stand above a branch
abbrev pub walk : Sorts → Reach → List Assertion → Assertion → Walked
walk sorts reach facts target =
    let all = with_parts (facts ++ negate target ∷ []) in
    walk_from sorts (terms_of all) reach 1001 0 all
