-- The first refusal of conditions that are checked one after the other.
use Rattle.sm_task.proofs.Imports.{◌≡◌, ℕ, zero, suc, ◌≤◌, arith, refl, Option, Some, None, Err, ListOf, Refusal, Copy, O, A, B, M, section_number, TaskError}
use Rattle.std.specs.Option.{option_or}
use Rattle.sm_syntax.specs.trees.Copies.{number_of}
use Rattle.sm_syntax.proofs.Uses.{option_or-None}
use Rattle.sm_task.specs.Checks.{ReportsRefusal, section_of}

-- an error is the first refusal, whatever stands after it
pub reports_or : (e : TaskError) (a b : Option Refusal) → ReportsRefusal (Err e) a → ReportsRefusal (Err e) (option_or a b)
reports_or e None b here named = let none = here named in cc
reports_or e (Some r) b here named = here named

-- what checks one after the other need
pub ruleset checks = (reports_or, option_or-None)

-- a copy's list is the section with the copy's number
pub same_section : (c : Copy) → section_of (number_of c) ≡ ListOf c
same_section O = refl
same_section A = refl
same_section B = refl
same_section M = refl

-- a number up to 4 is that of its section
pub same_number : (n : ℕ) → n ≤ 4 → section_number (section_of n) ≡ n
same_number zero h = refl
same_number (suc zero) h = refl
same_number (suc (suc zero)) h = refl
same_number (suc (suc (suc zero))) h = refl
same_number (suc (suc (suc (suc zero)))) h = refl
same_number (suc (suc (suc (suc (suc n))))) h = absurd (omega (arith, h))
