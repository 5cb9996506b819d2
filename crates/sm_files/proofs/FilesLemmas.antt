-- What answers leave in the files.
use Rattle.sm_files.proofs.Imports.{◌≡◌, ◌≢◌, ◌≤◌, ◌<◌, ◌⊎◌, inl, inr, ℕ, List, length, Some, Result, Ok, Err, IfOk, IfErr, refl, sym, ap, subst, ◌∙◌, arith, HasCause, Rose, Known, absent, holds, emptied, Parts, Spells, ExitsWith, Exit, file_limit, GivesNoTask, GivesTask, Status, Accepted, WriteFault, HoldsFront, HoldsProof, IsTaskIn, LeavesCut, LeavesFront, LeavesProof, LeftBy, LeftCut, CountsWrites, EndsWith, Reply}
use Rattle.sm_text.proofs.Complete.Tasks as text
use Rattle.sm_words.specs.Words.{Asked}
use Rattle.sm_answers.specs.declared.exit.Exit.TheVariants as stopped

-- ---- results of commands

-- what ends with one ends with what follows from it
pub ends_by : (Has Gets : Status → Type 0) (Else Or : Type 0) → ((s : Status) → Has s → Gets s) → (Else → Or) → (r : Result Reply Exit)
    → EndsWith Has Else r → EndsWith Gets Or r
ends_by Has Gets Else Or f g (Ok r) h = f r.status h
ends_by Has Gets Else Or f g (Err (stopped.Answer r)) h = f r.status h
ends_by Has Gets Else Or f g (Err stopped.Memory) h = g h

-- a count that is as it was, where nothing is answered by a fault to write
pub still : (before now : ℕ) (s : Status) → now ≡ before → s ≢ WriteFault → HasCause before now (s ≡ WriteFault)
still before now s same never = record { later = omega (arith, same); rose = λ e. absurd (never e); quiet = λ _. same }

pub counts_none : (Gives : Status → List ℕ → Type 0) (before now : ℕ) → now ≡ before
    → ((s : Status) (t : List ℕ) → Gives s t → s ≢ WriteFault) → (r : Result Reply Exit)
    → IfOk r (λ (p : Reply). Gives p.status p.text.items) → IfErr r (ExitsWith Gives) → CountsWrites before now r
counts_none Gives before now same never (Ok r) ok stop = still before now r.status same (never r.status r.text.items ok)
counts_none Gives before now same never (Err (stopped.Answer r)) ok stop = still before now r.status same (never r.status r.text.items stop)
counts_none Gives before now same never (Err stopped.Memory) ok stop = same

-- ---- the proof of a task

-- a file that gives a task has it
pub task_told : (file : Known) (before now : ℕ) (t : Parts) → GivesTask file before now t → IsTaskIn file t
task_told file before now t gives bytes told = subst (λ (b : List ℕ). Spells b t) (sym (gives.read.held bytes told)) gives.spells

-- what is left by the answer to the task of a file
pub left_in : (file old mid new : Known) (t : Parts) (s : Status) → IsTaskIn file t → mid ≡ old → LeftBy t s mid new
    → LeavesProof file s old new
left_in file old mid new t s is same left = inr (t, is, subst (λ (k : Known). LeftBy t s k new) same left)

pub cut_in : (file old mid new : Known) (t : Parts) → IsTaskIn file t → mid ≡ old → LeftCut t mid new → LeavesFront file old new
cut_in file old mid new t is same (inl e) = inl (e ∙ same)
cut_in file old mid new t is same (inr (inl e)) = inr (inl (e ∙ ap emptied same))
cut_in file old mid new t is same (inr (inr h)) = inr (inr (t, is, inr (subst (λ (k : Known). HoldsFront t k new) same h)))

-- ---- one task

-- a fault to write has no other status
not_both : (s : Status) → s ≡ WriteFault → s ≡ Accepted → ⊥
not_both s e f = cc

pub leaves_front : (file : Known) (s : Status) (old new : Known) → LeavesProof file s old new → LeavesFront file old new
leaves_front file s old new (inl h) = inl h.1
leaves_front file s old new (inr (t, is, inl h)) = inr (inr (t, is, inl h.1))
leaves_front file s old new (inr (t, is, inr (inl h))) = cut_in file old old new t is refl h.1
leaves_front file s old new (inr (t, is, inr (inr h))) = inl h.1

-- where it couldn't be written, a proper front of it is there at most
pub leaves_cut : (file : Known) (s : Status) (old new : Known) → s ≡ WriteFault → LeavesProof file s old new → LeavesCut file old new
leaves_cut file s old new e (inl h) = inl h.1
leaves_cut file s old new e (inr (t, is, inl h)) = absurd (not_both s e h.0)
leaves_cut file s old new e (inr (t, is, inr (inl (same, inl h)))) = inl h
leaves_cut file s old new e (inr (t, is, inr (inl (same, inr (inl h))))) = inr (inl h)
leaves_cut file s old new e (inr (t, is, inr (inl (same, inr (inr h))))) = inr (inr (t, is, h))
leaves_cut file s old new e (inr (t, is, inr (inr h))) = inl h.1

-- where it is accepted, the proof is there
pub leaves_whole : (file : Known) (s : Status) (old new : Known) → s ≡ Accepted → LeavesProof file s old new
    → (t : Parts) × IsTaskIn file t × HoldsProof t old new
leaves_whole file s old new e (inl h) = absurd (h.0 e)
leaves_whole file s old new e (inr (t, is, inl h)) = (t, is, h.1)
leaves_whole file s old new e (inr (t, is, inr (inl h))) = absurd (not_both s h.0 e)
leaves_whole file s old new e (inr (t, is, inr (inr h))) = absurd (h.0 e)

-- where it is neither accepted nor a fault to write, the file is as it was
pub leaves_same : (file : Known) (s : Status) (old new : Known) → s ≢ Accepted → s ≢ WriteFault → LeavesProof file s old new → new ≡ old
leaves_same file s old new never nor (inl h) = h.1
leaves_same file s old new never nor (inr (t, is, inl h)) = absurd (never h.0)
leaves_same file s old new never nor (inr (t, is, inr (inl h))) = absurd (nor h.0)
leaves_same file s old new never nor (inr (t, is, inr (inr h))) = h.1

-- ---- the files of words

pub same_ask : (p q : Asked) → Some p ≡ Some q → p ≡ q
same_ask p q e = cc

-- ---- an accepted task whose answer could not be printed

-- a file that is told and gives a task isn't answered otherwise
pub none_refused : (bytes : List ℕ) (t : Parts) (b n : ℕ) (s : Status) (line : List ℕ) → (¬ Rose b n) → length bytes ≤ file_limit
    → Spells bytes t → GivesNoTask (holds bytes) b n s line → ⊥
none_refused bytes t b n s line quiet fits spells (inl (inl f)) = go f.cause
  where
    go : Rose b n ⊎ (holds bytes ≡ absent) → ⊥
    go (inl rose) = quiet rose
    go (inr gone) = cc
none_refused bytes t b n s line quiet fits spells (inl (inr f)) =
    let over : file_limit < length bytes = f.over bytes refl in omega (arith, over, fits)
none_refused bytes t b n s line quiet fits spells (inr f) =
    f.refuses.spells_none t (subst (λ (x : List ℕ). Spells x t) (f.read.held bytes refl) spells)

pub one_spelled : (bytes : List ℕ) (t u : Parts) → Spells bytes t → Spells bytes u → t ≡ u
one_spelled bytes t u a b = text.one_parse bytes t u a.text b.text

-- ---- `check` of a task
