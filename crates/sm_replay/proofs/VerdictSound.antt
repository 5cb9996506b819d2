-- What a verdict tells of violations.
use Rattle.sm_replay.proofs.Imports.{◌≡◌, ◌⊎◌, ◌+◌, ◌<◌, ◌≤◌, ◌↔◌, ℕ, ℤ, Bool, true, false, Option, Some, None, Result, Ok, Err, List, IsTrue, refl, sym, subst, ◌∙◌, arith, ⊎_elim, true≢false, fun_ext, cases_eq, slice_get_within, get_or_from_slice_get, Contains, Copy, Task, program_of, copy_of, IsFirstBroken, Keeps, KeepsChange, AddsNothing, Cell, variable, run, Sorts, Store, Condition, Code, EvalError, Tells, trial, SomeTrialMeets, shown_of, Shows, KeepsOutputs, Breaks, IsUnmet, Stops, Judges, IsViolation, cell_of, ReplayError, IsMet, AreEnds, KeepsAt, Violates}
use Rattle.std.specs.List.{slice_get}
use Rattle.sm_replay.specs.declared.error.ReplayError.TheVariants as stop
use Rattle.sm_replay.specs.declared.verdict.Verdict.TheVariants as verdict
use Rattle.sm_replay.specs.Trials.{Verdict}

-- a run has one end
same_end : (n : ℕ) (c : Code) (s t u : Store) → run n c s ≡ Some t → run n c s ≡ Some u → t ≡ u
same_end n c s t u p q = let both : Some t ≡ Some u = sym p ∙ q in cc

-- four runs have one list of ends
pub same_ends : (t : Task) (s : Store) (n : ℕ) (e f : Copy → Store) → AreEnds (program_of t) s n e → AreEnds (program_of t) s n f → e ≡ f
same_ends t s n e f p q = fun_ext (λ (c : Copy). same_end n (program_of t c) s (e c) (f c) (p.ends c) (q.ends c))

-- where Keeps holds everywhere, nothing violates
pub holds_not_violated : (t : Task) (s : Store) (n : ℕ) → KeepsOutputs t s n → ¬ Violates t s n
holds_not_violated t s n h v =
    v.broken (subst (λ (end : Copy → Store). KeepsAt end v.cell) (same_ends t s n h.end v.end h.ends v.ends) (h.keeps v.cell v.output))

-- a store that isn't met violates nothing
unmet_not_violated : (t : Task) (s : Store) (n : ℕ) → IsUnmet t.assumed s → ¬ Violates t s n
unmet_not_violated t s n u v = u.fails v.met.meets

-- an event of a copy
stops_not_violated : (t : Task) (s : Store) (n copy : ℕ) (e : EvalError) → Stops (program_of t) s n copy e → ¬ Violates t s n
stops_not_violated t s n copy e st v = let both : None ≡ Some e = sym (v.ends.no_event (copy_of copy)) ∙ st.stops in cc

-- a first part that fails is a part that fails
pub not_kept : (part : ℕ) (o a b m : ℤ) → IsFirstBroken part o a b m → ¬ Keeps o a b m
not_kept part o a b m first k =
    ⊎_elim (λ (h : (part ≡ 1) × (¬ KeepsChange o a m)). h.1 k.change_of_a)
    (λ (h : ((part ≡ 2) × KeepsChange o a m × (¬ KeepsChange o b m))
    ⊎ ((part ≡ 3) × KeepsChange o a m × KeepsChange o b m × (¬ AddsNothing o a b m))).
    ⊎_elim (λ (g : (part ≡ 2) × KeepsChange o a m × (¬ KeepsChange o b m)). g.2 k.change_of_b)
    (λ (g : (part ≡ 3) × KeepsChange o a m × KeepsChange o b m × (¬ AddsNothing o a b m)). g.3 k.no_other) h) first

-- an element at a place is among the elements
among : {X : Type 0} (xs : List X) (k : ℕ) (x : X) → slice_get xs k ≡ Some x → Contains xs x
among xs k x is = (k, slice_get_within xs k x is, get_or_from_slice_get xs k x x is)

-- a first cell and part show a violation
pub breaks_violates : (t : Task) (s : Store) (n : ℕ) (cell : Cell) (part : ℕ) → Breaks t s n cell part → Violates t s n
breaks_violates t s n cell part b = record {
  met = b.met;
  end = b.end;
  ends = b.ends;
  cell = cell;
  output = among t.outputs b.first.place (variable cell) b.first.output;
  broken = not_kept part _ _ _ _ b.first.broken;
}

-- what the verdict shows
pub shows : (t : Task) (s : Store) (n : ℕ) (r : Result Verdict ReplayError) → Judges t s n r → (r ≡ Err stop.Memory → ⊥)
    → Shows t s n (shown_of r)
shows t s n (Ok verdict.Holds) j some = holds_not_violated t s n j
shows t s n (Ok verdict.Unmet) j some = unmet_not_violated t s n j
shows t s n (Ok (verdict.Violates x i part)) j some = (breaks_violates t s n (cell_of x.0 i) part j, j)
shows t s n (Err (stop.OutOfTurns copy)) j some = stops_not_violated t s n copy _ j.1
shows t s n (Err (stop.Beyond copy op a b)) j some = stops_not_violated t s n copy _ j.1
shows t s n (Err (stop.BeyondAssumed op a b)) j some = λ v. let both = sym v.met.no_event ∙ j in cc
shows t s n (Err stop.Memory) j some = absurd (some refl)

-- the answer is that the store violates exactly where it does
pub violates_exactly : (t : Task) (s : Store) (n : ℕ) (r : Result Verdict ReplayError) → Judges t s n r → (r ≡ Err stop.Memory → ⊥)
    → IsViolation r ↔ Violates t s n
violates_exactly t s n (Ok verdict.Holds) j known = (λ (none : ⊥). absurd none, shows t s n (Ok verdict.Holds) j known)
violates_exactly t s n (Ok verdict.Unmet) j known = (λ (none : ⊥). absurd none, shows t s n (Ok verdict.Unmet) j known)
violates_exactly t s n (Ok (verdict.Violates x i part)) j known =
    (λ (one : Unit {0}). breaks_violates t s n (cell_of x.0 i) part j, λ (v : Violates t s n). tt)
violates_exactly t s n (Err e) j known = (λ (none : ⊥). absurd none, shows t s n (Err e) j known)

-- an assumption that is computed is true just where it is met
pub told : (assumed : Option Condition) (s : Store) (b : Bool) → Tells assumed s (Ok b) → IsTrue b ↔ IsMet assumed s
told assumed s true met = (λ (yes : true ≡ true). met, λ (m : IsMet assumed s). refl)
told assumed s false unmet = (λ (yes : false ≡ true). cc, λ (m : IsMet assumed s). absurd (unmet.fails m.meets))

-- what the answer to a trial shows
pub shows_trial : (t : Task) (s u : Store) (n : ℕ) (r : Result Verdict ReplayError) (out : Option Verdict) → u ≡ s → Judges t u n r
    → (out ≡ shown_of r) × (r ≡ Err stop.Memory → ⊥) → Shows t s n out
shows_trial t s u n r out same j h = subst (Shows t s n) (sym h.0) (shows t s n r (subst (λ (x : Store). Judges t x n r) same j) h.1)

-- a trial that meets the assumption, and none
pub some_met : (t : Task) (sorts : Sorts) (j : ℕ) → j < 256 → IsMet t.assumed (trial sorts j) → IsTrue true ↔ SomeTrialMeets t sorts
some_met t sorts j inside met = (λ (yes : true ≡ true). (j, inside, met), λ (h : SomeTrialMeets t sorts). refl)

pub none_met : (t : Task) (sorts : Sorts) (n : ℕ) → 256 ≤ n → ((i : ℕ) → i < n → ¬ IsMet t.assumed (trial sorts i))
    → IsTrue false ↔ SomeTrialMeets t sorts
none_met t sorts n past none = (λ (no : false ≡ true). cc, λ (h : SomeTrialMeets t sorts). absurd (none h.0 (omega (arith, h.1)) h.2))

-- one more trial that doesn't meet it
pub none_more : (t : Task) (sorts : Sorts) (n : ℕ) → ((i : ℕ) → i < n → ¬ IsMet t.assumed (trial sorts i))
    → ¬ IsMet t.assumed (trial sorts n) → (i : ℕ) → i < n + 1 → ¬ IsMet t.assumed (trial sorts i)
none_more t sorts n before here i lt met =
    ⊎_elim (λ (same : i ≡ n). here (subst (λ (k : ℕ). IsMet t.assumed (trial sorts k)) same met))
    (λ (other : i ≡ n → ⊥). before i (omega arith) met) (cases_eq i n)

-- whether a store is met, by an equal store
pub met_there : (assumed : Option Condition) (s u : Store) (b : Bool) → u ≡ s → IsTrue b ↔ IsMet assumed u → b ≡ true → IsMet assumed s
met_there assumed s u b same exact holds = subst (IsMet assumed) same (exact.0 holds)

pub unmet_there : (assumed : Option Condition) (s u : Store) (b : Bool) → u ≡ s → IsTrue b ↔ IsMet assumed u → b ≡ false → ¬ IsMet assumed s
unmet_there assumed s u b same exact fails met = true≢false (sym (exact.1 (subst (IsMet assumed) (sym same) met)) ∙ fails)
