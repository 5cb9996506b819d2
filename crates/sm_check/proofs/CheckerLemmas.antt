-- Where the proof of a checker stands, and how it goes on.
use Rattle.sm_check.proofs.Imports.{◌≡◌, inl, inr, Bool, true, false, if◌then◌else◌, Some, None, Result, Ok, Err, refl, sym, ap, ◌∙◌, subst, Sorts, sorts_in, ProofLine, tested_or, and_then, Word, BadLine, BadVersion, Progress, start_progress, taken, Subject, Standing, Unopened, Underway, none_waits, passes_version, opens_if, next_standing, reads_exact, has_exact, may_stand, Checker, Done, More, progress_at, IsAbout, state_of, Stops, Tells, WalkValue, Walks}
use Rattle.sm_check.specs.declared.checker.State.{State}
use Rattle.sm_check.specs.Checkers.{IsAt, StandsAt, GoesOn}
use Rattle.sm_check.specs.Tells.{LineFault, Wrong, Memory}
use Rattle.sm_check.proofs.CertTaken.{tells_then}
use Rattle.sm_check.proofs.NodeTaken.{tells_on}
use Rattle.sm_check.proofs.NodesLemmas.{tells_word}

-- what a checker that goes on is, in parts
pub parts_at : (c : Checker) (s : Subject) (at : Standing) → IsAt c s (Ok at) →
    (c.stopped ≡ None) × IsAbout c s × StandsAt c s at × (c.exact ≡ reads_exact at)
unfolding IsAt
parts_at c s at is = is

pub at_parts : (c : Checker) (s : Subject) (at : Standing) → c.stopped ≡ None → IsAbout c s → StandsAt c s at → c.exact ≡ reads_exact at →
    IsAt c s (Ok at)
unfolding IsAt
at_parts c s at goes about stands exact = (goes, about, stands, exact)

-- a checker that stopped has the fault by which it did
pub stopped_is : (c : Checker) (s : Subject) (e : LineFault) → IsAt c s (Err e) → c.stopped ≡ Some e
unfolding IsAt
stopped_is c s e is = is

pub is_stopped : (c : Checker) (s : Subject) (e : LineFault) → c.stopped ≡ Some e → IsAt c s (Err e)
unfolding IsAt
is_stopped c s e is = is

-- the proof that stands there
pub walks_at : (c : Checker) (s : Subject) (at : Standing) → IsAt c s (Ok at) → Walks c.walk (progress_at s at)
walks_at c s Unopened is = (parts_at c s Unopened is).2.1
walks_at c s (Underway exact p) is = (parts_at c s (Underway exact p) is).2.1

-- whether it is done
module _ (c : Checker) (s : Subject) where
  pub done_told : (at : Standing) → IsAt c s (Ok at) → c.opened ≡ true → (done : Bool) →
      ((p : Progress) → Walks c.walk p → done ≡ none_waits p.pending) → done ≡ true → Done ≡ state_of at
  done_told Unopened is taken done told ends = let shut = (parts_at c s Unopened is).2.0 in absurd cc
  done_told (Underway exact p) is taken done told ends =
      sym (ap (λ (b : Bool). if b then Done else More) (sym (told p (parts_at c s (Underway exact p) is).2.1) ∙ ends))

  pub more_told : (at : Standing) → IsAt c s (Ok at) → c.opened ≡ true → (done : Bool) →
      ((p : Progress) → Walks c.walk p → done ≡ none_waits p.pending) → done ≡ false → More ≡ state_of at
  more_told Unopened is taken done told lasts = refl
  more_told (Underway exact p) is taken done told lasts =
      sym (ap (λ (b : Bool). if b then Done else More) (sym (told p (parts_at c s (Underway exact p) is).2.1) ∙ lasts))

  pub unopened_told : (at : Standing) → IsAt c s (Ok at) → c.opened ≡ false → More ≡ state_of at
  unopened_told Unopened is shut = refl
  unopened_told (Underway exact p) is shut = let taken = (parts_at c s (Underway exact p) is).2.0 in absurd cc

-- a line of a checker that goes on
module _ (c d : Checker) (s : Subject) (l : ProofLine) (goes : c.stopped ≡ None → d.stopped ≡ None) (assumes : d.assumes ≡ c.assumes) where
  abbrev Next : Result Standing Word → Result (Unit {0}) LineFault → Type 0
  Next after r = Tells {S = Unit {0}} {T = Standing} (λ x at. IsAt d s (Ok at)) r after

  pub line_taken : (at : Standing) (r : Result (Unit {0}) LineFault) → IsAt c s (Ok at) → c.opened ≡ true → d.opened ≡ true →
      d.exact ≡ c.exact → may_stand c.exact l ≡ true → sorts_in d.walk.table ≡ sorts_in c.walk.table →
      ((p : Progress) → Walks c.walk p →
      Tells {S = Unit {0}} {T = Progress} (λ x q. Walks d.walk q) r (taken (sorts_in c.walk.table) p l)) →
      Next (next_standing s at (Ok l)) r
  line_taken Unopened r is began still same stands sorts told = let shut = (parts_at c s Unopened is).2.0 in absurd cc
  line_taken (Underway exact p) r is began still same stands sorts told =
      let parts = parts_at c s (Underway exact p) is in
      let about : IsAbout d s = record {
        sorts = sorts ∙ parts.1.sorts;
        assumes = assumes ∙ parts.1.assumes;
      } in
      subst (λ (b : Bool). Next (tested_or b BadLine (and_then (taken s.sorts p l) (λ (q : Progress). Ok (Underway exact q)))) r)
      (sym stands ∙ ap (λ (b : Bool). may_stand b l) parts.3)
      (by r
      (subst (λ (f : Sorts). Tells {S = Unit {0}} {T = Progress} (λ x q. Walks d.walk q) r (taken f p l)) parts.1.sorts (told p parts.2.1))
      (λ (q : Progress) (walks : Walks d.walk q). at_parts d s (Underway exact q) (goes parts.0) about (still, walks) (same ∙ parts.3)))
    where
      by : (r : Result (Unit {0}) LineFault) → Tells {S = Unit {0}} {T = Progress} (λ x q. Walks d.walk q) r (taken s.sorts p l) →
          ((q : Progress) → Walks d.walk q → IsAt d s (Ok (Underway exact q))) →
          Next (and_then (taken s.sorts p l) (λ (q : Progress). Ok (Underway exact q))) r
      by (Ok u) h more =
          tells_then {S = Unit {0}} {T = Progress} {U = Unit {0}} {V = Standing} (λ x q. Walks d.walk q) (λ x at. IsAt d s (Ok at)) u u (taken s.sorts p l)
          (Underway exact) more h
      by (Err e) h more =
          tells_on {S = Unit {0}} {T = Progress} {U = Unit {0}} {V = Standing} (λ x q. Walks d.walk q) (λ x at. IsAt d s (Ok at)) e (taken s.sorts p l)
          (λ (q : Progress). Ok (Underway exact q)) h

  pub version_taken : (at : Standing) → IsAt c s (Ok at) → c.opened ≡ false → d.opened ≡ true → d.exact ≡ has_exact l → d.walk ≡ c.walk →
      passes_version s l ≡ true → Next (next_standing s at (Ok l)) (Ok tt)
  version_taken Unopened is shut still exact walk passes =
      let parts = parts_at c s Unopened is in
      let about : IsAbout d s = record {
        sorts = ap (λ (w : WalkValue). sorts_in w.table) walk ∙ parts.1.sorts;
        assumes = assumes ∙ parts.1.assumes;
      } in
      subst (λ (b : Bool). Next (opens_if b (has_exact l) s) (Ok tt)) (sym passes)
      (at_parts d s (Underway (has_exact l) (start_progress s.start)) (goes parts.0) about
      (still, subst (λ (w : WalkValue). Walks w (start_progress s.start)) (sym walk) parts.2.1) exact)
  version_taken (Underway exact p) is shut still has walk passes =
      let taken = (parts_at c s (Underway exact p) is).2.0 in absurd cc

-- a line that may not stand here
pub line_barred : (P : Unit {0} → Standing → Type 0) (c : Checker) (s : Subject) (l : ProofLine) (at : Standing) → IsAt c s (Ok at) →
    c.opened ≡ true → may_stand c.exact l ≡ false → Tells P (Err (Wrong BadLine)) (next_standing s at (Ok l))
line_barred P c s l Unopened is began stands = let shut = (parts_at c s Unopened is).2.0 in absurd cc
line_barred P c s l (Underway exact p) is began stands =
    let next : Bool → Result Standing Word =
    λ b. tested_or b BadLine (and_then (taken s.sorts p l) (λ (q : Progress). Ok (Underway exact q))) in
    tells_word P BadLine (next (may_stand exact l))
    (ap next (ap (λ (b : Bool). may_stand b l) (sym (parts_at c s (Underway exact p) is).3) ∙ stands))

-- the first line is another one
pub version_refused : (P : Unit {0} → Standing → Type 0) (c : Checker) (s : Subject) (l : ProofLine) (at : Standing) → IsAt c s (Ok at) →
    c.opened ≡ false → passes_version s l ≡ false → Tells P (Err (Wrong BadVersion)) (next_standing s at (Ok l))
version_refused P c s l Unopened is shut fails =
    tells_word P BadVersion (opens_if (passes_version s l) (has_exact l) s) (ap (λ (b : Bool). opens_if b (has_exact l) s) fails)
version_refused P c s l (Underway exact p) is shut fails = let began = (parts_at c s (Underway exact p) is).2.0 in absurd cc

-- the answer to a line
pub goes_told : (c d : Checker) (s : Subject) (r : Result Standing Word) (state : State) →
    Tells {S = Unit {0}} {T = Standing} (λ x at. IsAt c s (Ok at)) (Ok tt) r → c ≡ d →
    ((at : Standing) → IsAt c s (Ok at) → state ≡ state_of at) → GoesOn s r d state
goes_told c d s (Ok at) state h same told = (subst (λ (x : Checker). IsAt x s (Ok at)) same h, told at h)
goes_told c d s (Err w) state h same told = h

pub stops_told : (P : Unit {0} → Standing → Type 0) (d : Checker) (s : Subject) (r : Result Standing Word) (e : LineFault) →
    Tells P (Err e) r → d.stopped ≡ Some e → Stops s r d e
stops_told P d s (Ok at) Memory h is = (refl, is_stopped d s Memory is)
stops_told P d s (Ok at) (Wrong w) h is = absurd h
stops_told P d s (Err v) Memory h is = inr (refl, is_stopped d s Memory is)
stops_told P d s (Err v) (Wrong w) h is =
    inl (ap Wrong h, is_stopped d s (Wrong v) (is ∙ ap (λ (x : Word). Some (Wrong x)) h))

-- a checker that goes on didn't stop
pub both_ways : (c : Checker) (s : Subject) (e : LineFault) → c.stopped ≡ None → IsAt c s (Err e) → ⊥
both_ways c s e goes is = let stops = stopped_is c s e is in absurd cc
