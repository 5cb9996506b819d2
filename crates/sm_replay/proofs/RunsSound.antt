-- The four ends, or the copy that stops first, as a verdict.
use Rattle.sm_replay.proofs.Imports.{◌≡◌, ℕ, Ok, Err, sym, subst, ◌∙◌, fun_ext, PerCopy, Block, Copy, O, Task, program_of, Sorts, Store, Code, EvalError, sorts_of, code_in, stop_of, HaveSorts, Finds, Stops, Judges, IsMet, AreEnds}
use Rattle.sm_eval.specs.declared.error.EvalError.TheVariants as eval
use Rattle.sm_eval.specs.declared.store.Store as code
use Rattle.sm_replay.specs.declared.error.ReplayError.TheVariants as stop
use Rattle.sm_replay.specs.declared.verdict.Verdict.{Verdict}
use Rattle.sm_replay.specs.declared.verdict.Verdict.TheVariants as verdict

-- the sorts of all are those of the base
pub same_sorts : (ends : PerCopy code.Store) (sorts : Sorts) → HaveSorts ends sorts → HaveSorts ends (sorts_of ends.base)
same_sorts ends sorts have c = have c ∙ sym (have O)

-- what is so of the programs is so of the task's, where they are filled
pub of_task : (P : (Copy → Code) → Type 0) (t : Task) (programs : PerCopy Block) → ((c : Copy) → code_in programs c ≡ program_of t c)
    → P (code_in programs) → P (program_of t)
of_task P t programs filled = subst P (fun_ext filled)

-- the verdict on ends
pub judged_ends : (t : Task) (s : Store) (n : ℕ) (end : Copy → Store) → IsMet t.assumed s → AreEnds (program_of t) s n end → (v : Verdict)
    → Finds t.outputs end v → Judges t s n (Ok v)
judged_ends t s n end met ends verdict.Holds finds = record { met = met; end = end; ends = ends; keeps = finds }
judged_ends t s n end met ends verdict.Unmet finds = absurd finds
judged_ends t s n end met ends (verdict.Violates x i part) finds = record { met = met; end = end; ends = ends; first = finds }

-- a copy that stops
stopped : (t : Task) (s : Store) (n copy : ℕ) (ev : EvalError) → IsMet t.assumed s → Stops (program_of t) s n copy ev
    → Judges t s n (Err (stop_of copy ev))
stopped t s n copy eval.OutOfTurns met st = (met, st)
stopped t s n copy (eval.Beyond op a b) met st = (met, st)
stopped t s n copy eval.Memory met st = tt
