-- A task that is made of copies of another's parts, and of a candidate.
use Rattle.sm_suggest.proofs.Imports.{◌≡◌, ℕ, Option, option_map, ap, ◌∙◌, Copy, O, A, B, M, Fillings, Condition, Code, holes_of, Parts, condition_of, code_of, ProgramParts, program_parts, lists_of, parts_of, Task, choices, chosen, hole_count, combination}
use Rattle.std.proofs.Math.Path.{fun_ext}
use Rattle.sm_syntax.specs.declared.program.Filling.{Filling}
use Rattle.sm_syntax.specs.trees.Programs.{fillings_of}

-- a filling, as what it stands for
abbrev pub entry : Filling → ℕ × Code
entry f = (f.hole, code_of f.block)

-- the parts of a task, from those of its program, its assumption and its lists
abbrev parts_with : ProgramParts → Option Condition → (Copy → Fillings) → Parts
parts_with p assumed fillings = record {
  names = p.names;
  declared = p.declared;
  outputs = p.outputs;
  assumed = assumed;
  shared = p.body;
  fillings = fillings;
}

-- the fillings of the candidate of combination k
abbrev pub candidate_of : Task → ℕ → Fillings
candidate_of t k = chosen (lists_of t.lists) (holes_of (code_of t.shared.body)) (choices (hole_count (parts_of t)) k)

pub combined : (t u : Task) (k : ℕ) → program_parts u.shared ≡ program_parts t.shared
    → option_map condition_of u.assumed ≡ option_map condition_of t.assumed → fillings_of u.lists.base ≡ fillings_of t.lists.base
    → fillings_of u.lists.variant_a ≡ fillings_of t.lists.variant_a → fillings_of u.lists.variant_b ≡ fillings_of t.lists.variant_b
    → fillings_of u.lists.candidate ≡ candidate_of t k → parts_of u ≡ combination (parts_of t) k
combined t u k program assumed base a b candidate =
    ap (λ (p : ProgramParts). parts_with p (option_map condition_of u.assumed) (lists_of u.lists)) program
    ∙ ap (λ (o : Option Condition). parts_with (program_parts t.shared) o (lists_of u.lists)) assumed
    ∙ ap (parts_with (program_parts t.shared) (option_map condition_of t.assumed)) (fun_ext each)
  where
    each : (c : Copy) → lists_of u.lists c ≡ (combination (parts_of t) k).fillings c
    each O = base
    each A = a
    each B = b
    each M = candidate
