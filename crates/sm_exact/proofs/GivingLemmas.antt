-- Values that frames give: a variable more, and what all frames await.
use Rattle.sm_exact.proofs.Imports.{◌≡◌, ◌==◌, ℕ, ℤ, pos, Bool, true, false, if◌then◌else◌, nat_eq, unwrap_or, Option, Some, List, [], ◌∷◌, ◌++◌, refl, sym, ap, subst, ◌∙◌, eq-eqb, NumError, Outcome, Fits, Done, with_result, Values, put, Answer, giving, Awaits, Frame, values_in, Leads, Fails, FailsAll}
use Rattle.std.proofs.Math.Path.{fun_ext}
use Rattle.std.proofs.lemmas.Bool.{eqb-true}
use Rattle.sm_num.specs.declared.error.NumError.TheVariants as error
use Rattle.sm_exact.proofs.StackLemmas.{awaits_less, awaits_outside}

-- the order in which numbers are compared
eqb_turned : (m n : ℕ) → (m == n) ≡ (n == m)
eqb_turned m n = by (m == n) (n == m) refl refl
  where
    by : (b d : Bool) → (m == n) ≡ b → (n == m) ≡ d → b ≡ d
    by true true e g = refl
    by false false e g = refl
    by true false e g = sym (eq-eqb n m (sym (eqb-true m n e))) ∙ g
    by false true e g = sym e ∙ eq-eqb m n (sym (eqb-true n m g))

-- a value more
pub values_more : (found new : ℕ → Option ℤ) (t : ℕ) (z : ℤ) → ((a : ℕ) → new a ≡ (if nat_eq t a then Some z else found a)) →
    values_in new ≡ put t z (values_in found)
values_more found new t z more =
    fun_ext (λ (a : ℕ). ap (λ o. unwrap_or o (pos 0)) (more a) ∙ ap (λ (b : Bool). unwrap_or (if b then Some z else found a) (pos 0))
    (eqb_turned t a) ∙ by a (a == t))
  where
    by : (a : ℕ) (b : Bool) → unwrap_or (if b then Some z else found a) (pos 0) ≡ (if b then z else values_in found a)
    by a true = refl
    by a false = refl

-- a variable gets its value
pub gives_value : (value : Values → Outcome ℤ) (new : ℕ → Option ℤ) (found : ℕ → Option ℤ) (t : ℕ) (y z : ℤ) (c : ℕ) →
    value (values_in found) ≡ Fits z → ((a : ℕ) → new a ≡ (if nat_eq t a then Some y else found a)) → y ≡ z →
    giving t value (Done c (Some (values_in found))) ≡ Done c (Some (values_in new))
gives_value value new found t y z c fits more same =
    ap (λ o. with_result o (λ (x : ℤ). Done c (Some (put t x (values_in found))))) fits
    ∙ ap (λ (x : ℤ). Done c (Some (put t x (values_in found)))) (sym same)
    ∙ ap (λ w. Done c (Some w)) (sym (values_more found new t y more))

-- the last frame made of a solution another
pub leads_on : (limit c : ℕ) (fs : List Frame) (f : Frame) (v w : Values) (whole : Answer) → Leads f v w →
    Awaits limit (fs ++ f ∷ []) (Done c (Some v)) whole → Awaits limit fs (Done c (Some w)) whole
leads_on limit c fs f v w whole leads waits =
    let last = awaits_less limit fs f (Done c (Some v)) whole waits in
    subst (λ a. Awaits limit fs a whole) (leads limit last.depth c) last.waits

-- the last frame left the range
pub fails_on : (limit c : ℕ) (fs : List Frame) (f : Frame) (v : Values) (whole : Answer) (e : NumError) → Fails f v e →
    Awaits limit (fs ++ f ∷ []) (Done c (Some v)) whole → FailsAll whole e
fails_on limit c fs f v whole error.Memory fails waits = tt
fails_on limit c fs f v whole (error.Beyond op y z) fails waits =
    let last = awaits_less limit fs f (Done c (Some v)) whole waits in
    awaits_outside limit fs whole op y z (subst (λ a. Awaits limit fs a whole) (fails limit last.depth c) last.waits)
