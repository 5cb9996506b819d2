-- What answers say as they go from rule to rule: of what values there are none, and what those that
-- are given meet.
use Rattle.sm_omega.proofs.Imports.{◌≡◌, ℕ, ℤ, Some, None, refl, Outcome, Fits, Leaves, Done, Passed, Outside, Shallow, with_result, Values, put, Answer, giving}
use Rattle.sm_omega.proofs.Predicates.{Decides}

-- where there is no solution, nothing can meet the one fact; a solution meets the other
abbrev pub Answers : (Values → Type 0) → (Values → Type 0) → Answer → Type 0
Answers Can Meets (Done c None) = (v : Values) → Can v → ⊥
Answers Can Meets (Done c (Some v)) = Meets v
Answers Can Meets Passed = Unit {0}
Answers Can Meets (Outside op y z) = Unit {0}
Answers Can Meets Shallow = Unit {0}

-- less that can be met, and less that is
pub answers_less : (Can Meets Could Met : Values → Type 0) (answer : Answer) → Answers Can Meets answer →
    ((v : Values) → Could v → Can v) → ((v : Values) → Meets v → Met v) → Answers Could Met answer
answers_less Can Meets Could Met (Done c None) given less more = λ v could. given v (less v could)
answers_less Can Meets Could Met (Done c (Some v)) given less more = more v given
answers_less Can Meets Could Met Passed given less more = tt
answers_less Can Meets Could Met (Outside op y z) given less more = tt
answers_less Can Meets Could Met Shallow given less more = tt

-- an answer is right where both facts are one
pub answers_decide : (Meets : Values → Type 0) (answer : Answer) → Answers Meets Meets answer → Decides Meets answer
answers_decide Meets (Done c None) given = given
answers_decide Meets (Done c (Some v)) given = given
answers_decide Meets Passed given = tt
answers_decide Meets (Outside op y z) given = tt
answers_decide Meets Shallow given = tt

-- where both facts are one, a right answer is one for them
pub decides_answers : (Meets : Values → Type 0) (answer : Answer) → Decides Meets answer → Answers Meets Meets answer
decides_answers Meets (Done c None) given = given
decides_answers Meets (Done c (Some v)) given = given
decides_answers Meets Passed given = tt
decides_answers Meets (Outside op y z) given = tt
decides_answers Meets Shallow given = tt

-- a solution with a value that fits
valued_answers : (t c : ℕ) (v : Values) (outcome : Outcome ℤ) (Could Met : Values → Type 0) →
    ((z : ℤ) → outcome ≡ Fits z → Met (put t z v)) →
    Answers Could Met (with_result outcome (λ (z : ℤ). Done c (Some (put t z v))))
valued_answers t c v (Fits z) Could Met met = met z refl
valued_answers t c v (Leaves op y z) Could Met met = tt

-- a variable gets its value: what could be met of all can be met of the rest
pub giving_answers : (t : ℕ) (value : Values → Outcome ℤ) (Can Meets Could Met : Values → Type 0) (answer : Answer) →
    Answers Can Meets answer → ((v : Values) → Could v → ((w : Values) → Can w → ⊥) → ⊥) →
    ((v : Values) (z : ℤ) → Meets v → value v ≡ Fits z → Met (put t z v)) → Answers Could Met (giving t value answer)
giving_answers t value Can Meets Could Met (Done c None) given forth back = λ v could. forth v could given
giving_answers t value Can Meets Could Met (Done c (Some v)) given forth back =
    valued_answers t c v (value v) Could Met (λ (z : ℤ) (fits : value v ≡ Fits z). back v z given fits)
giving_answers t value Can Meets Could Met Passed given forth back = tt
giving_answers t value Can Meets Could Met (Outside op y z) given forth back = tt
giving_answers t value Can Meets Could Met Shallow given forth back = tt
