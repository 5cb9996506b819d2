-- Cited by public clauses: the linear forms of a branch, and what the walk comes to by them.
use Rattle.std.specs.Prelude.{ℕ, suc, nat_lt, ℤ, pos, negsuc, Bool, ◌&&◌, ◌||◌, not, if◌then◌else◌, Option, Some, None, List, [], ◌∷◌}
use Rattle.std.specs.List.{find, list_any}
use Rattle.std.specs.Ordering.{int_eq}
use Rattle.sm_num.specs.declared.kind.Kind.TheVariants as kind
use Rattle.sm_num.specs.Forms.{Linear}
use Rattle.sm_num.specs.declared.kind.Kind.{Kind}
use Rattle.sm_num.specs.Combining.{Outcome, Fits, Leaves, then_with, combined}
use Rattle.sm_num.specs.declared.op.Op.{Op}
use Rattle.sm_num.specs.Tightening.{has_no_part, is_contradictory}
use Rattle.sm_term.specs.Terms.{Tree}
use Rattle.sm_term.specs.Assertions.{Assertion, Yes, No, Eq, Ne, Le, Lt, And, Or}
use Rattle.sm_term.specs.SameTerms.{same_tree}
use Rattle.sm_theory.specs.LinearTerms.{linear_by}
use Rattle.sm_theory.specs.Arithmetic.{is_numeric, one_more}
use Rattle.sm_fm.specs.Elimination.{Event, Cancels, GoesBeyond, events}
use Rattle.sm_judge.specs.Holding.{Seen}

-- what a walk comes to
pub data Walked : Type 0 where
  -- each branch is closed, with the count so far
  Closes : ℕ → Walked
  -- a branch stays open, with these facts
  Opens : List Assertion → Walked
  -- the count passes the steps, or there are too many splits
  TooFar : Walked
  -- an operation leaves the range
  GoesOut : Op → ℤ → ℤ → Walked

-- the place of a term in a list
abbrev pub place_in : List Tree → Tree → ℕ
place_in [] t = 0
place_in (u ∷ us) t = if same_tree u t then 0 else suc (place_in us t)

-- the form of a term less another; the atoms are places
abbrev pub less_by : Seen → Kind → Tree → Tree → Outcome (Linear ℕ)
less_by b kind t u =
    let place = place_in b.terms in
    combined (linear_by place t) (pos 1) (linear_by place u) (negsuc 0) kind

-- whether a form is 0 whatever its atoms are
abbrev pub is_zero : Linear ℕ → Bool
is_zero f = has_no_part f.parts && int_eq f.constant (pos 0)

-- a form before others that are made after it
abbrev pub led : Outcome (Linear ℕ) → Outcome (List (Linear ℕ)) → Outcome (List (Linear ℕ))
led form rest =
    then_with form (λ (f : Linear ℕ). then_with rest (λ (fs : List (Linear ℕ)). Fits (f ∷ fs)))

-- a form, unless it is 0, before others that are made after it
abbrev pub led_unless_zero :
    Outcome (Linear ℕ) → Outcome (List (Linear ℕ)) → Outcome (List (Linear ℕ))
led_unless_zero form rest =
    then_with form (λ (f : Linear ℕ). then_with rest (λ (fs : List (Linear ℕ)).
    Fits (if is_zero f then fs else f ∷ fs)))

-- the first term of a class, of a list
abbrev pub first_like : Seen → Tree → Option Tree
first_like b t = find (λ u. b.equal u t) b.terms

-- a number that isn't the first term of its class equals that one
abbrev pub led_by_class :
    Seen → Tree → Option Tree → Outcome (List (Linear ℕ)) → Outcome (List (Linear ℕ))
led_by_class b t None rest = rest
led_by_class b t (Some u) rest =
    if same_tree t u || not (is_numeric b.sorts t) then rest
    else led_unless_zero (less_by b kind.Eq t u) rest

-- the forms of terms by their classes, then others
abbrev pub class_forms : Seen → List Tree → Outcome (List (Linear ℕ)) → Outcome (List (Linear ℕ))
class_forms b [] rest = rest
class_forms b (t ∷ ts) rest = led_by_class b t (first_like b t) (class_forms b ts rest)

-- the forms of comparisons
abbrev pub fact_forms : Seen → List Assertion → Outcome (List (Linear ℕ))
fact_forms b [] = Fits []
fact_forms b (Yes ∷ fs) = fact_forms b fs
fact_forms b (No ∷ fs) = fact_forms b fs
fact_forms b (Eq sort t u ∷ fs) = fact_forms b fs
fact_forms b (Ne sort t u ∷ fs) = fact_forms b fs
fact_forms b (Le t u ∷ fs) = led (less_by b kind.Le t u) (fact_forms b fs)
fact_forms b (Lt t u ∷ fs) = led (then_with (less_by b kind.Le t u) one_more) (fact_forms b fs)
fact_forms b (And p q ∷ fs) = fact_forms b fs
fact_forms b (Or p q ∷ fs) = fact_forms b fs

-- the forms of a branch: those of its classes, then those of its comparisons
abbrev pub forms_of : Seen → Outcome (List (Linear ℕ))
forms_of b = class_forms b b.terms (fact_forms b b.facts)

-- a step is counted, and the walk goes on where there is one left
abbrev pub counted : ℕ → ℕ → (ℕ → Walked) → Walked
counted steps count next = if nat_lt count steps then next (suc count) else TooFar

-- each elimination is counted before it is made
abbrev pub eliminated_by : ℕ → ℕ → List Event → (ℕ → Walked) → Walked
eliminated_by steps count [] next = next count
eliminated_by steps count (Cancels f g t kept contradiction ∷ es) next =
    counted steps count
    (λ (n : ℕ). if contradiction then Closes n else eliminated_by steps n es next)
eliminated_by steps count (GoesBeyond op y z ∷ es) next =
    counted steps count (λ (n : ℕ). GoesOut op y z)

-- what the forms of a branch say, then what goes on
abbrev pub by_forms :
    ℕ → ℕ → ℕ → Outcome (List (Linear ℕ)) → (ℕ → Walked) → Walked
by_forms steps count atoms (Leaves op y z) next = GoesOut op y z
by_forms steps count atoms (Fits forms) next =
    if list_any is_contradictory forms then Closes count
    else eliminated_by steps count (events forms atoms) next
