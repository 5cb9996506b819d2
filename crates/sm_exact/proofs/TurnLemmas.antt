-- What comes of a turn: one rule, or one step back.
use Rattle.sm_exact.proofs.Imports.{◌≡◌, ◌++◌, ◌<◌, ◌≤◌, ◌-◌, ℕ, zero, suc, ℤ, Option, Some, None, List, [], ◌∷◌, refl, sym, ap, subst, ◌∙◌, Vec, Global, Ok, Err, length, get_or, drop, arith, Op, Linear, IsKept, Decision, Done, Passed, Outside, Shallow, Answer, solved_within, by_rule, AllKept, Turned, Entry, Step, told, answer_of, all_zero, Awaits, Stands, StepsByRule, Frame, Turns}
use Rattle.std.proofs.Common.{Result}
use Rattle.std.specs.Result.{IfOk}
use Rattle.std.proofs.Math.Seq.{drop-cons}
use Rattle.std.proofs.Math.ListN.{drop_of_length-le}
use Rattle.sm_exact.specs.declared.entry.Entry.TheVariants as entry
use Rattle.sm_exact.proofs.StackLemmas.{awaits_more, awaits_less, awaits_same, awaits_along, awaits_shallow, awaits_passed, awaits_outside}

-- a rule that applies
pub step_stands : (limit s : ℕ) (old new : List Frame) (fs : Vec (Linear ℕ) Global) (c : ℕ) (r : Step) (whole : Answer) →
    new ≡ old ++ r.frame ∷ [] → StepsByRule limit s fs.items c r → (whole ≡ Shallow → ⊥) →
    Stands limit old s (entry.List fs c) whole → Stands limit new r.s r.entry whole
step_stands limit s old new fs c r whole pushed steps never (depth, waits) = by_depth depth waits
  where
    by_depth : (depth : ℕ) → Awaits limit old (solved_within limit depth s fs.items c) whole → Stands limit new r.s r.entry whole
    by_depth zero waits = absurd (never (awaits_shallow limit old whole waits))
    by_depth (suc depth) waits = (
      depth,
      awaits_along limit (old ++ r.frame ∷ []) new (answer_of limit depth r.s r.entry) whole pushed
          (awaits_more limit depth old r.frame (answer_of limit depth r.s r.entry) whole
          (awaits_same limit old (by_rule limit (solved_within limit depth) s fs.items c)
          (told limit depth r.frame (answer_of limit depth r.s r.entry)) whole (steps depth) waits)),
    )

-- no variable is left
pub zero_stands : (limit s : ℕ) (old : List Frame) (fs : Vec (Linear ℕ) Global) (c : ℕ) (whole : Answer) →
    ((depth : ℕ) → by_rule limit (solved_within limit depth) s fs.items c ≡ Done c (Some all_zero)) → (whole ≡ Shallow → ⊥) →
    Stands limit old s (entry.List fs c) whole → (n : ℕ) × Awaits limit old (Done n (Some all_zero)) whole
zero_stands limit s old fs c whole solved never (depth, waits) = by_depth depth waits
  where
    by_depth : (depth : ℕ) → Awaits limit old (solved_within limit depth s fs.items c) whole →
        (n : ℕ) × Awaits limit old (Done n (Some all_zero)) whole
    by_depth zero waits = absurd (never (awaits_shallow limit old whole waits))
    by_depth (suc depth) waits = (
      c,
      awaits_same limit old (by_rule limit (solved_within limit depth) s fs.items c) (Done c (Some all_zero)) whole (solved depth) waits,
    )

-- nothing waits
pub none_waits : (limit : ℕ) (fs : List Frame) (a whole : Answer) → fs ≡ [] → Awaits limit fs a whole → whole ≡ a
none_waits limit fs a whole none waits = subst (λ l. Awaits limit l a whole) none waits

-- the last frame is taken
pub last_taken : {E : Type 0} (limit count : ℕ) (old mid new : List Frame) (f : Frame) (r : Result Turned E) → old ≡ mid ++ f ∷ [] →
    IfOk r (λ x. (depth : ℕ) (whole : Answer) → Awaits limit mid (told limit depth f (Done count None)) whole → Turns limit new whole x) →
    IfOk r (λ x. (whole : Answer) → Awaits limit old (Done count None) whole → Turns limit new whole x)
last_taken limit count old mid new f (Ok x) is goes = λ whole waits.
    let taken = awaits_less limit mid f (Done count None) whole (awaits_along limit old (mid ++ f ∷ []) (Done count None) whole (sym is)
    waits) in
    goes taken.depth whole taken.waits
last_taken limit count old mid new f (Err y) is goes = tt

-- a list at hand
pub turns_list : {E : Type 0} (limit : ℕ) (old new : List Frame) (s : ℕ) (e : Entry) (fs : Vec (Linear ℕ) Global) (c : ℕ)
    (r : Result Turned E) → e ≡ entry.List fs c →
    IfOk r (λ x. (whole : Answer) → (whole ≡ Shallow → ⊥) → Stands limit old s (entry.List fs c) whole → Turns limit new whole x) →
    IfOk r (λ x. (whole : Answer) → (whole ≡ Shallow → ⊥) → Stands limit old s e whole → Turns limit new whole x)
turns_list limit old new s e fs c (Ok x) is goes = λ whole never stands.
    goes whole never (subst (λ y. Stands limit old s y whole) is stands)
turns_list limit old new s e fs c (Err y) is goes = tt

-- no solution
pub turns_back : {E : Type 0} (limit : ℕ) (old new : List Frame) (s : ℕ) (e : Entry) (c : ℕ) (r : Result Turned E) →
    e ≡ entry.Refuted c →
    IfOk r (λ x. (whole : Answer) → Awaits limit old (Done c None) whole → Turns limit new whole x) →
    IfOk r (λ x. (whole : Answer) → (whole ≡ Shallow → ⊥) → Stands limit old s e whole → Turns limit new whole x)
turns_back limit old new s e c (Ok x) is goes = λ whole never stands.
    let waits = subst (λ y. Stands limit old s y whole) is stands in goes whole waits.1
turns_back limit old new s e c (Err y) is goes = tt

-- the count would pass its limit
pub steps_end : (limit : ℕ) (old : List Frame) (s : ℕ) (e : Entry) (whole : Answer) → e ≡ entry.Steps → Stands limit old s e whole →
    whole ≡ Passed
steps_end limit old s e whole is stands =
    let waits = subst (λ y. Stands limit old s y whole) is stands in awaits_passed limit old whole waits.1

-- an operation left the range
pub beyond_ends : (limit : ℕ) (old : List Frame) (s : ℕ) (e : Entry) (whole : Answer) (op : Op) (y z : ℤ) → e ≡ entry.Beyond op y z →
    Stands limit old s e whole → whole ≡ Outside op y z
beyond_ends limit old s e whole op y z is stands =
    let waits = subst (λ x. Stands limit old s x whole) is stands in awaits_outside limit old whole op y z waits.1

-- forms that are kept, from the last on
pub kept_none : (fs : List (Linear ℕ)) (i : ℕ) → length fs ≤ i → AllKept (drop i fs)
kept_none fs i past = subst AllKept (sym (drop_of_length-le fs past)) tt

pub kept_down : (fs : List (Linear ℕ)) (i : ℕ) (f : Linear ℕ) → 0 < i → i ≤ length fs → f ≡ get_or fs (i - 1) f → IsKept f →
    AllKept (drop i fs) → AllKept (drop (i - 1) fs)
kept_down fs i f some within here kept all =
    let next : suc (i - 1) ≡ i = omega arith in
    subst AllKept (sym (drop-cons fs (i - 1) f (omega arith)))
    (subst IsKept here kept, subst (λ n. AllKept (drop n fs)) (sym next) all)
