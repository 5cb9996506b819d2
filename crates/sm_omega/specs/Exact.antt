-- Cited by public clauses: whether whole numbers satisfy linear forms, decided by the Omega test
-- with a count of the forms that are computed. Over 128 bits, and within a count, it needn't come to an
-- answer; where it does, the answer is right (`ExactLaws`).
use Rattle.std.specs.Prelude.{ℕ, zero, suc, ◌+◌, ℤ, pos, Option, Some, None, List, [], ◌∷◌, map, length, nat_lt, if◌then◌else◌}
use Rattle.sm_num.specs.Forms.{Linear}
use Rattle.sm_omega.specs.Counting.{Done, Shallow, Enter}
use Rattle.sm_omega.specs.Solving.{least_variable}
use Rattle.sm_omega.specs.Rules.{Answer, Solver, solved}
use Rattle.sm_omega.specs.Equalities.{first_equation, least_part, by_equation}
use Rattle.sm_omega.specs.Inequalities.{by_variable}

-- decides a list without equations by its least variable; without one, all values are 0
abbrev pub by_least : ℕ → (List (Linear ℕ) → ℕ → Answer) → List (Linear ℕ) → ℕ → Option ℕ → Answer
by_least limit solve fs c None = Done c (Some (λ (a : ℕ). pos 0))
by_least limit solve fs c (Some t) = by_variable limit solve fs c t

-- decides a list by its first equation, or by a variable where there is none
abbrev pub by_first :
    ℕ → Solver → ℕ → List (Linear ℕ) → ℕ → Option (Linear ℕ × List (Linear ℕ)) → Answer
by_first limit solve s fs c None = by_least limit (solve s) fs c (least_variable fs)
by_first limit solve s fs c (Some found) =
    by_equation limit solve s fs c found.0 found.1 (least_part found.0.parts)

-- decides a list of tight forms, each with parts, by the first rule that applies
abbrev pub by_rule : ℕ → Solver → Solver
by_rule limit solve s fs c = by_first limit solve s fs c (first_equation fs)

-- decides a list in so many steps of rules
abbrev pub solved_within : ℕ → ℕ → Solver
solved_within limit zero s fs c = Shallow
solved_within limit (suc depth) s fs c = by_rule limit (solved_within limit depth) s fs c

-- a number above those of all variables of parts
abbrev pub above_parts : List (ℕ × ℤ) → ℕ → ℕ
above_parts [] n = n
above_parts (p ∷ ps) n = above_parts ps (if nat_lt p.0 n then n else suc p.0)

-- a number above those of all variables of forms
abbrev pub above_all : List (Linear ℕ) → ℕ
above_all [] = 0
above_all (f ∷ fs) = above_parts f.parts (above_all fs)

-- a depth that is enough, since each rule takes a form away or counts more than it adds
abbrev pub enough : ℕ → List (Linear ℕ) → ℕ
enough limit fs = suc (limit + limit + length fs)

-- whether whole numbers satisfy forms, within so many steps
unfoldable pub exact : List (Linear ℕ) → ℕ → Answer
exact fs limit =
    solved limit (solved_within limit (enough limit fs) (above_all fs)) (map Enter fs) 0
