-- One store has one verdict, and one list of trials has one first violation.
use Rattle.sm_replay.proofs.Imports.{◌≡◌, ◌⊎◌, ◌<◌, ℕ, suc, ℤ, pos, negsuc, Option, Some, None, Ok, Err, refl, sym, ap, subst, ◌∙◌, inl, inr, ⊎_elim, arith, List, ◌<ℤ◌, ints, Sort, Name, Copy, Task, program_of, copy_of, IsFirstBroken, Cell, Scalar, Element, variable, Store, Code, event, EvalError, stop_of, VerdictIsOne, LeastTrialIsOne, FirstViolationIsOne, trial, Names, cell_of, IsBelow, FailsAt, IsFirstBreak, KeepsOutputs, Breaks, IsUnmet, Stops, ReplayError, assumed_event, IsMet, AreEnds, KeepsAt, order}
use Rattle.std.specs.List.{slice_get}
use Rattle.sm_eval.specs.declared.error.EvalError.TheVariants as eval
use Rattle.sm_replay.specs.declared.error.ReplayError.TheVariants as stop
use Rattle.sm_replay.specs.declared.verdict.Verdict.TheVariants as verdict
use Rattle.sm_replay.specs.Trials.{Verdict}
use Rattle.sm_replay.proofs.VerdictSound.{same_ends, not_kept, holds_not_violated, breaks_violates}
use Rattle.sm_lemmas.proofs.Lists.{one_thing}

int_order : (i j : ℤ) → (i <ℤ j) ⊎ ((i ≡ j) ⊎ (j <ℤ i))
int_order (pos a) (pos b) =
    ⊎_elim (λ (lt : a < b). inl (omega (arith, ints, lt)))
    (λ (h : (a ≡ b) ⊎ (b < a)). ⊎_elim (λ (e : a ≡ b). inr (inl (ap pos e))) (λ (gt : b < a). inr (inr (omega (arith, ints, gt)))) h)
    (order a b)
int_order (pos a) (negsuc b) = inr (inr (omega (arith, ints)))
int_order (negsuc a) (pos b) = inl (omega (arith, ints))
int_order (negsuc a) (negsuc b) =
    ⊎_elim (λ (lt : a < b). inr (inr (omega (arith, ints, lt))))
    (λ (h : (a ≡ b) ⊎ (b < a)). ⊎_elim (λ (e : a ≡ b). inr (inl (ap negsuc e))) (λ (gt : b < a). inl (omega (arith, ints, gt))) h)
    (order a b)

-- ---- the copy that stops first, and its event

-- no copy stops below the first that does
stop_below : (program : Copy → Code) (s : Store) (n c d : ℕ) (e f : EvalError) → Stops program s n c e → Stops program s n d f → c < d → ⊥
stop_below program s n c d e f p q lt = let clash : None ≡ Some e = sym (q.no_event_before c lt) ∙ p.stops in cc

stopped_one : (program : Copy → Code) (s : Store) (n c d : ℕ) (e f : EvalError) → Stops program s n c e → Stops program s n d f
    → stop_of c e ≡ stop_of d f
stopped_one program s n c d e f p q =
    let copy : c ≡ d =
    ⊎_elim (λ (lt : c < d). absurd (stop_below program s n c d e f p q lt))
    (λ (h : (c ≡ d) ⊎ (d < c)). ⊎_elim (λ (e : c ≡ d). e) (λ (gt : d < c). absurd (stop_below program s n d c f e q p gt)) h) (order c d) in
    let events : Some e ≡ Some f = sym p.stops ∙ ap (λ (k : ℕ). event n (program (copy_of k)) s) copy ∙ q.stops in
    ap (λ (k : ℕ). stop_of k e) copy ∙ ap (stop_of d) (one_thing e f events)

-- ---- the cell and the part at which Keeps fails first

-- one part of Keeps fails first
part_one : (p q : ℕ) (o a b m : ℤ) → IsFirstBroken p o a b m → IsFirstBroken q o a b m → p ≡ q
part_one p q o a b m first second = go first second
  where
    go : IsFirstBroken p o a b m → IsFirstBroken q o a b m → p ≡ q
    go (inl x) (inl y) = x.0 ∙ sym y.0
    go (inl x) (inr (inl y)) = absurd (x.1 y.1)
    go (inl x) (inr (inr y)) = absurd (x.1 y.1)
    go (inr (inl x)) (inl y) = absurd (y.1 x.1)
    go (inr (inl x)) (inr (inl y)) = x.0 ∙ sym y.0
    go (inr (inl x)) (inr (inr y)) = absurd (x.2 y.2)
    go (inr (inr x)) (inl y) = absurd (y.1 x.1)
    go (inr (inr x)) (inr (inl y)) = absurd (y.2 x.2)
    go (inr (inr x)) (inr (inr y)) = x.0 ∙ sym y.0

-- of two cells of one variable one is below, or they are the same
cells_order : (c d : Cell) → variable c ≡ variable d → IsBelow c d ⊎ ((c ≡ d) ⊎ IsBelow d c)
cells_order (Scalar x) (Scalar y) own = inr (inl (ap (λ (v : ℕ × _). Scalar v.0) own))
cells_order (Scalar x) (Element b j) own = let differ = ap (λ (v : ℕ × _). v.1) own in cc
cells_order (Element a i) (Scalar y) own = let differ = ap (λ (v : ℕ × _). v.1) own in cc
cells_order (Element a i) (Element b j) own =
    let array : a ≡ b = ap (λ (v : ℕ × _). v.0) own in
    ⊎_elim (λ (lt : i <ℤ j). inl (array, lt))
    (λ (h : (i ≡ j) ⊎ (j <ℤ i)).
    ⊎_elim (λ (e : i ≡ j). inr (inl (ap (λ (x : ℕ). Element x i) array ∙ ap (Element b) e))) (λ (gt : j <ℤ i). inr (inr (sym array, gt))) h)
    (int_order i j)

-- a cell at which Keeps fails first isn't one at which it holds
broken_not_kept : (end : Copy → Store) (c : Cell) (p : ℕ) → FailsAt end c p → ¬ KeepsAt end c
broken_not_kept end c p broken = not_kept p _ _ _ _ broken

module _ (outputs : List (ℕ × Sort)) (end : Copy → Store) (c d : Cell) (p q : ℕ) (x : IsFirstBreak outputs end c p)
    (y : IsFirstBreak outputs end d q) where
  place_one : x.place ≡ y.place
  place_one =
      ⊎_elim (λ (lt : x.place < y.place). absurd (broken_not_kept end c p x.broken (y.outputs_before x.place c lt x.output)))
      (λ (h : (x.place ≡ y.place) ⊎ (y.place < x.place)).
      ⊎_elim (λ (e : x.place ≡ y.place). e)
      (λ (gt : y.place < x.place). absurd (broken_not_kept end d q y.broken (x.outputs_before y.place d gt y.output))) h)
      (order x.place y.place)

  variable_one : variable c ≡ variable d
  variable_one = one_thing (variable c) (variable d) (sym x.output ∙ ap (slice_get outputs) place_one ∙ y.output)

  cell_one : c ≡ d
  cell_one =
      ⊎_elim (λ (below : IsBelow c d). absurd (broken_not_kept end c p x.broken (y.indices_before c below)))
      (λ (h : (c ≡ d) ⊎ IsBelow d c).
      ⊎_elim (λ (e : c ≡ d). e) (λ (below : IsBelow d c). absurd (broken_not_kept end d q y.broken (x.indices_before d below))) h)
      (cells_order c d variable_one)

  first_part_one : p ≡ q
  first_part_one = part_one p q _ _ _ _ x.broken (subst (λ (k : Cell). FailsAt end k q) (sym cell_one) y.broken)

-- the name and the index of a cell
abbrev verdict_at : Cell → ℕ → Verdict
verdict_at (Scalar x) part = verdict.Violates (record { 0 = x }) None part
verdict_at (Element a i) part = verdict.Violates (record { 0 = a }) (Some i) part

names_cell : (x : Name) (i : Option ℤ) (part : ℕ) → verdict_at (cell_of x.0 i) part ≡ verdict.Violates x i part
names_cell x None part = refl
names_cell x (Some i) part = refl

-- ---- verdicts

module _ (t : Task) (s : Store) (n : ℕ) where
  met_unmet : IsMet t.assumed s → IsUnmet t.assumed s → ⊥
  met_unmet m u = u.fails m.meets

  met_beyond : (e : EvalError) → IsMet t.assumed s → assumed_event t.assumed s ≡ Some e → ⊥
  met_beyond e m is = let clash : None ≡ Some e = sym m.no_event ∙ is in cc

  unmet_beyond : (e : EvalError) → IsUnmet t.assumed s → assumed_event t.assumed s ≡ Some e → ⊥
  unmet_beyond e u is = let clash : None ≡ Some e = sym u.no_event ∙ is in cc

  ends_stop : (end : Copy → Store) (c : ℕ) (e : EvalError) → AreEnds (program_of t) s n end → Stops (program_of t) s n c e → ⊥
  ends_stop end c e ends st = let clash : None ≡ Some e = sym (ends.no_event (copy_of c)) ∙ st.stops in cc

  holds_breaks : (c : Cell) (p : ℕ) → KeepsOutputs t s n → Breaks t s n c p → ⊥
  holds_breaks c p h b = holds_not_violated t s n h (breaks_violates t s n c p b)

  breaks_one : (x y : Name) (i j : Option ℤ) (p q : ℕ) → Breaks t s n (cell_of x.0 i) p → Breaks t s n (cell_of y.0 j) q
      → verdict.Violates x i p ≡ verdict.Violates y j q
  breaks_one x y i j p q a b =
      let c = cell_of x.0 i in
      let d = cell_of y.0 j in
      let second : IsFirstBreak t.outputs a.end d q =
      subst (λ (end : Copy → Store). IsFirstBreak t.outputs end d q) (same_ends t s n b.end a.end b.ends a.ends) b.first in
      let cell : c ≡ d = cell_one t.outputs a.end c d p q a.first second in
      let part : p ≡ q = first_part_one t.outputs a.end c d p q a.first second in
      sym (names_cell x i p) ∙ ap (λ (k : Cell). verdict_at k p) cell ∙ ap (verdict_at d) part ∙ names_cell y j q

-- the error for an event of the assumption
abbrev assumed_stop : EvalError → ReplayError
assumed_stop eval.OutOfTurns = stop.Memory
assumed_stop (eval.Beyond op a b) = stop.BeyondAssumed op a b
assumed_stop eval.Memory = stop.Memory

-- two answers to one store are the same
pub verdict_one : VerdictIsOne
verdict_one t s n (Ok verdict.Holds) (Ok verdict.Holds) ka kb a b = refl
verdict_one t s n (Ok verdict.Holds) (Ok verdict.Unmet) ka kb a b = absurd (met_unmet t s n a.met b)
verdict_one t s n (Ok verdict.Holds) (Ok (verdict.Violates x i p)) ka kb a b = absurd (holds_breaks t s n _ p a b)
verdict_one t s n (Ok verdict.Holds) (Err (stop.OutOfTurns d)) ka kb a b = absurd (ends_stop t s n a.end d _ a.ends b.1)
verdict_one t s n (Ok verdict.Holds) (Err (stop.Beyond d op y z)) ka kb a b = absurd (ends_stop t s n a.end d _ a.ends b.1)
verdict_one t s n (Ok verdict.Holds) (Err (stop.BeyondAssumed op y z)) ka kb a b = absurd (met_beyond t s n _ a.met b)
verdict_one t s n (Ok verdict.Unmet) (Ok verdict.Holds) ka kb a b = absurd (met_unmet t s n b.met a)
verdict_one t s n (Ok verdict.Unmet) (Ok verdict.Unmet) ka kb a b = refl
verdict_one t s n (Ok verdict.Unmet) (Ok (verdict.Violates x i p)) ka kb a b = absurd (met_unmet t s n b.met a)
verdict_one t s n (Ok verdict.Unmet) (Err (stop.OutOfTurns d)) ka kb a b = absurd (met_unmet t s n b.0 a)
verdict_one t s n (Ok verdict.Unmet) (Err (stop.Beyond d op y z)) ka kb a b = absurd (met_unmet t s n b.0 a)
verdict_one t s n (Ok verdict.Unmet) (Err (stop.BeyondAssumed op y z)) ka kb a b = absurd (unmet_beyond t s n _ a b)
verdict_one t s n (Ok (verdict.Violates x i p)) (Ok verdict.Holds) ka kb a b = absurd (holds_breaks t s n _ p b a)
verdict_one t s n (Ok (verdict.Violates x i p)) (Ok verdict.Unmet) ka kb a b = absurd (met_unmet t s n a.met b)
verdict_one t s n (Ok (verdict.Violates x i p)) (Ok (verdict.Violates y j q)) ka kb a b = ap Ok (breaks_one t s n x y i j p q a b)
verdict_one t s n (Ok (verdict.Violates x i p)) (Err (stop.OutOfTurns d)) ka kb a b = absurd (ends_stop t s n a.end d _ a.ends b.1)
verdict_one t s n (Ok (verdict.Violates x i p)) (Err (stop.Beyond d op y z)) ka kb a b = absurd (ends_stop t s n a.end d _ a.ends b.1)
verdict_one t s n (Ok (verdict.Violates x i p)) (Err (stop.BeyondAssumed op y z)) ka kb a b = absurd (met_beyond t s n _ a.met b)
verdict_one t s n (Err (stop.OutOfTurns c)) (Ok verdict.Holds) ka kb a b = absurd (ends_stop t s n b.end c _ b.ends a.1)
verdict_one t s n (Err (stop.OutOfTurns c)) (Ok verdict.Unmet) ka kb a b = absurd (met_unmet t s n a.0 b)
verdict_one t s n (Err (stop.OutOfTurns c)) (Ok (verdict.Violates y j q)) ka kb a b = absurd (ends_stop t s n b.end c _ b.ends a.1)
verdict_one t s n (Err (stop.OutOfTurns c)) (Err (stop.OutOfTurns d)) ka kb a b = ap Err (stopped_one (program_of t) s n c d _ _ a.1 b.1)
verdict_one t s n (Err (stop.OutOfTurns c)) (Err (stop.Beyond d op y z)) ka kb a b = ap Err (stopped_one (program_of t) s n c d _ _ a.1 b.1)
verdict_one t s n (Err (stop.OutOfTurns c)) (Err (stop.BeyondAssumed op y z)) ka kb a b = absurd (met_beyond t s n _ a.0 b)
verdict_one t s n (Err (stop.Beyond c op y z)) (Ok verdict.Holds) ka kb a b = absurd (ends_stop t s n b.end c _ b.ends a.1)
verdict_one t s n (Err (stop.Beyond c op y z)) (Ok verdict.Unmet) ka kb a b = absurd (met_unmet t s n a.0 b)
verdict_one t s n (Err (stop.Beyond c op y z)) (Ok (verdict.Violates x j q)) ka kb a b = absurd (ends_stop t s n b.end c _ b.ends a.1)
verdict_one t s n (Err (stop.Beyond c op y z)) (Err (stop.OutOfTurns d)) ka kb a b = ap Err (stopped_one (program_of t) s n c d _ _ a.1 b.1)
verdict_one t s n (Err (stop.Beyond c op y z)) (Err (stop.Beyond d oq v w)) ka kb a b =
    ap Err (stopped_one (program_of t) s n c d _ _ a.1 b.1)
verdict_one t s n (Err (stop.Beyond c op y z)) (Err (stop.BeyondAssumed oq v w)) ka kb a b = absurd (met_beyond t s n _ a.0 b)
verdict_one t s n (Err (stop.BeyondAssumed op y z)) (Ok verdict.Holds) ka kb a b = absurd (met_beyond t s n _ b.met a)
verdict_one t s n (Err (stop.BeyondAssumed op y z)) (Ok verdict.Unmet) ka kb a b = absurd (unmet_beyond t s n _ b a)
verdict_one t s n (Err (stop.BeyondAssumed op y z)) (Ok (verdict.Violates x j q)) ka kb a b = absurd (met_beyond t s n _ b.met a)
verdict_one t s n (Err (stop.BeyondAssumed op y z)) (Err (stop.OutOfTurns d)) ka kb a b = absurd (met_beyond t s n _ b.0 a)
verdict_one t s n (Err (stop.BeyondAssumed op y z)) (Err (stop.Beyond d oq v w)) ka kb a b = absurd (met_beyond t s n _ b.0 a)
verdict_one t s n (Err (stop.BeyondAssumed op y z)) (Err (stop.BeyondAssumed oq v w)) ka kb a b =
    ap (λ (e : EvalError). Err (assumed_stop e)) (one_thing (eval.Beyond op y z) (eval.Beyond oq v w) (sym a ∙ b))
verdict_one t s n (Err stop.Memory) b ka kb ja jb = absurd (ka refl)
verdict_one t s n (Ok v) (Err stop.Memory) ka kb a b = absurd (kb refl)
verdict_one t s n (Err e) (Err stop.Memory) ka kb a b = absurd (kb refl)

-- ---- the least trial that violates

-- verdicts that name the first cell of one store are the same
names_one : (t : Task) (s : Store) (n : ℕ) (v w : Verdict) → Names t s n v → Names t s n w → v ≡ w
names_one t s n verdict.Holds w a b = absurd a
names_one t s n verdict.Unmet w a b = absurd a
names_one t s n (verdict.Violates x i p) verdict.Holds a b = absurd b
names_one t s n (verdict.Violates x i p) verdict.Unmet a b = absurd b
names_one t s n (verdict.Violates x i p) (verdict.Violates y j q) a b = breaks_one t s n x y i j p q a b

pub least_one : LeastTrialIsOne
least_one t sorts n j k v w a b =
    let number : j ≡ k =
    ⊎_elim (λ (lt : j < k). absurd (b.no_violation_before j lt a.violates))
    (λ (h : (j ≡ k) ⊎ (k < j)). ⊎_elim (λ (e : j ≡ k). e) (λ (gt : k < j). absurd (a.no_violation_before k gt b.violates)) h) (order j k) in
    (number, names_one t (trial sorts k) n v w (subst (λ (i : ℕ). Names t (trial sorts i) n v) number a.verdict) b.verdict)

pub first_violation_one : FirstViolationIsOne
first_violation_one t sorts n None None a b = refl
first_violation_one t sorts n None (Some g) a b = absurd (a g.0 b.inside b.violates)
first_violation_one t sorts n (Some f) None a b = absurd (b f.0 a.inside a.violates)
first_violation_one t sorts n (Some f) (Some g) a b =
    let same = least_one t sorts n f.0 g.0 f.1 g.1 a b in
    ap (λ (j : ℕ). Some (j, f.1)) same.0 ∙ ap (λ (v : Verdict). Some (g.0, v)) same.1
