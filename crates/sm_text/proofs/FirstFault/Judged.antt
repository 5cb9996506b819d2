-- The readings of tasks and of programs judge by their grammars.
use Rattle.sm_text.proofs.Imports.{ℕ, sym, ◌≡◌, subst, Ok, List, [], map, Marked, plain, Symbol, IsTask, task, Parts, IsProgram, program, AreTasks, ArePrograms, IsViable, ProgramParts}
use Rattle.std.proofs.lemmas.List.{append-nil}
use Rattle.sm_text.specs.parsing.Program as p
use Rattle.sm_text.specs.rules.Reading as r
use Rattle.sm_text.proofs.Sound.Parsers.{weaken}
use Rattle.sm_text.proofs.Sound.Sections.{task_told, whole_told}
use Rattle.sm_text.proofs.Complete.Tasks.{task_read}
use Rattle.sm_text.proofs.Sound.Programs.{program_told, program_read, whole_program_told}
use Rattle.sm_text.proofs.FirstFault.Refusals.{Judges, Reads, whole_judges, viable}

-- the names play no part in the symbols
abbrev task_under : List (List ℕ) → Parts → Parts
task_under names t = record {
  names = names;
  declared = t.declared;
  outputs = t.outputs;
  assumed = t.assumed;
  shared = t.shared;
  fillings = t.fillings;
}

is_under : (names : List (List ℕ)) {ts : List Marked} {t : Parts} → IsTask ts t → IsTask ts (task_under names t)
is_under names (task t declared named assumed code base variant_a variant_b candidate) =
    task (task_under names t) declared named assumed code base variant_a variant_b candidate

tasks_read : (names : List (List ℕ)) → Reads (r.task names) AreTasks
tasks_read names ts s = (task_under names s.0, task_read (is_under names s.1) [])

pub task_judges : (names : List (List ℕ)) → Judges (r.whole names) AreTasks
unfolding r.whole
task_judges names = whole_judges (r.task names) AreTasks (weaken (λ us t i. (t, i.0)) (task_told names)) (tasks_read names)

-- what is read as a task is one
pub task_viable : (names : List (List ℕ)) (ts : List Symbol) (t : Parts) → r.whole names ts ≡ Ok t → IsViable AreTasks ts
task_viable names ts t e =
    let F : List Marked → Type 0 = λ l. AreTasks l in
    viable AreTasks ts [] (subst F (sym (append-nil (map plain ts))) (t, (whole_told names ts t e).0))

abbrev program_under : List (List ℕ) → ProgramParts → ProgramParts
program_under names x = record { names = names; declared = x.declared; outputs = x.outputs; body = x.body }

is_program_under : (names : List (List ℕ)) {ts : List Marked} {x : ProgramParts} → IsProgram ts x → IsProgram ts (program_under names x)
is_program_under names (program x declared named code) = program (program_under names x) declared named code

programs_read : (names : List (List ℕ)) → Reads (p.program names) ArePrograms
programs_read names ts s = (program_under names s.0, program_read (is_program_under names s.1) [])

pub program_judges : (names : List (List ℕ)) → Judges (p.whole_program names) ArePrograms
unfolding p.whole_program
program_judges names = whole_judges (p.program names) ArePrograms (weaken (λ us x i. (x, i.0)) (program_told names)) (programs_read names)

-- what is read as a program is one
pub program_viable : (names : List (List ℕ)) (ts : List Symbol) (x : ProgramParts) → p.whole_program names ts ≡ Ok x →
    IsViable ArePrograms ts
program_viable names ts x e =
    let F : List Marked → Type 0 = λ l. ArePrograms l in
    viable ArePrograms ts [] (subst F (sym (append-nil (map plain ts))) (x, (whole_program_told names ts x e).0))
