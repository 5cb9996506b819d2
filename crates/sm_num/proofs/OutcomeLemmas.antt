-- What is true of a result, if there is one, through each step that computes forms.
use Rattle.sm_num.proofs.Imports.{◌≡◌, ℤ, pos, ◌+ℤ◌, ◌*ℤ◌, Bool, true, false, if◌then◌else◌, IsTrue, List, [], ◌∷◌, refl, sym, ap, subst, ◌∙◌, arith, int_eq, Decides-int_eq, exact, fits_form, Linear, coefficient, Kind, Outcome, Fits, Leaves, then_with, computed, combined_number, with_part, led_by, formed, met_part, Op, Add, Mul}
use Rattle.sm_num.proofs.RingLemmas.{mul_zero, sums}

-- a fact holds of the result, where there is one
abbrev pub Gives : {S : Type 0} → (S → Type 0) → Outcome S → Type 0
Gives P (Fits s) = P s
Gives P (Leaves op y z) = Unit {0}

-- what a result that is there has
pub gives_fits : {S : Type 0} (P : S → Type 0) (outcome : Outcome S) (s : S) → Gives P outcome → outcome ≡ Fits s → P s
gives_fits P outcome s given e = subst (Gives P) e given

-- a fact of the result from one of the step before
pub then_gives : {S T : Type 0} (P : S → Type 0) (Q : T → Type 0) (outcome : Outcome S) (next : S → Outcome T) → Gives P outcome →
    ((s : S) → P s → Gives Q (next s)) → Gives Q (then_with outcome next)
then_gives P Q (Fits s) next given step = step s given
then_gives P Q (Leaves op y z) next given step = tt

-- a weaker fact
pub gives_more : {S : Type 0} (P Q : S → Type 0) (outcome : Outcome S) → Gives P outcome → ((s : S) → P s → Q s) → Gives Q outcome
gives_more P Q (Fits s) given step = step s given
gives_more P Q (Leaves op y z) given step = tt

-- two facts
pub gives_both : {S : Type 0} (P Q : S → Type 0) (outcome : Outcome S) → Gives P outcome → Gives Q outcome →
    Gives (λ (s : S). P s × Q s) outcome
gives_both P Q (Fits s) first second = (first, second)
gives_both P Q (Leaves op y z) first second = tt

-- a computed number is the exact one and lies in the range
pub computed_gives : (op : Op) (y z : ℤ) → Gives (λ (w : ℤ). (w ≡ exact op y z) × IsTrue (fits_form w)) (computed op y z)
computed_gives op y z = by (exact op y z) (fits_form (exact op y z)) refl
  where
    by : (x : ℤ) (b : Bool) → fits_form x ≡ b → Gives (λ (w : ℤ). (w ≡ x) × IsTrue (fits_form w)) (if b then Fits x else Leaves op y z)
    by x true e = (refl, e)
    by x false e = tt

-- w is p times y and q times z, in the range
abbrev pub IsSum : ℤ → ℤ → ℤ → ℤ → ℤ → Type 0
IsSum p y q z w = (w ≡ (p *ℤ y) +ℤ (q *ℤ z)) × IsTrue (fits_form w)

-- what combined_number computes is p times y and q times z, in the range
pub combined_number_gives : (p y q z : ℤ) → Gives (IsSum p y q z) (combined_number p y q z)
combined_number_gives p y q z =
    then_gives (λ (a : ℤ). (a ≡ p *ℤ y) × IsTrue (fits_form a)) (IsSum p y q z) (computed Mul p y) _ (computed_gives Mul p y)
    (λ (a : ℤ) (first : (a ≡ p *ℤ y) × IsTrue (fits_form a)).
    then_gives (λ (b : ℤ). (b ≡ q *ℤ z) × IsTrue (fits_form b)) (IsSum p y q z) (computed Mul q z) _ (computed_gives Mul q z)
    (λ (b : ℤ) (second : (b ≡ q *ℤ z) × IsTrue (fits_form b)).
    gives_more (λ (w : ℤ). (w ≡ a +ℤ b) × IsTrue (fits_form w)) (IsSum p y q z) (computed Add a b) (computed_gives Add a b)
    (λ (w : ℤ) (third : (w ≡ a +ℤ b) × IsTrue (fits_form w)).
    (third.0 ∙ ap (λ (x : ℤ). x +ℤ b) first.0 ∙ ap (λ (x : ℤ). (p *ℤ y) +ℤ x) second.0, third.1))))

-- a product with nothing added
pub product_gives : (p y q : ℤ) → Gives (IsSum p y q (pos 0)) (computed Mul p y)
product_gives p y q =
    gives_more (λ (w : ℤ). (w ≡ p *ℤ y) × IsTrue (fits_form w)) (IsSum p y q (pos 0)) (computed Mul p y) (computed_gives Mul p y)
    (λ (w : ℤ) (first : (w ≡ p *ℤ y) × IsTrue (fits_form w)). let none : q *ℤ pos 0 ≡ pos 0 = mul_zero q in (omega (arith, sums), first.1))

-- a product added to nothing
pub other_product_gives : (p q z : ℤ) → Gives (IsSum p (pos 0) q z) (computed Mul q z)
other_product_gives p q z =
    gives_more (λ (w : ℤ). (w ≡ q *ℤ z) × IsTrue (fits_form w)) (IsSum p (pos 0) q z) (computed Mul q z) (computed_gives Mul q z)
    (λ (w : ℤ) (first : (w ≡ q *ℤ z) × IsTrue (fits_form w)). let none : p *ℤ pos 0 ≡ pos 0 = mul_zero p in (omega (arith, sums), first.1))

-- a part and what follows it
pub led_gives : {A : Type 0} (Z : ℤ → Type 0) (P Q : List (A × ℤ) → Type 0) (a : A) (c : Outcome ℤ) (rest : Outcome (List (A × ℤ))) →
    Gives Z c → Gives P rest → ((z : ℤ) (ps : List (A × ℤ)) → Z z → P ps → Q (with_part a z ps)) → Gives Q (led_by a c rest)
led_gives Z P Q a (Fits z) (Fits ps) number parts step = step z ps number parts
led_gives Z P Q a (Fits z) (Leaves op x y) number parts step = tt
led_gives Z P Q a (Leaves op x y) rest number parts step = tt

-- what a part meets in the other form
pub met_part_gives : {A : Type 0} (same : A → A → Bool) (p : ℤ) (f : A × ℤ) (q : ℤ) (gs : List (A × ℤ)) →
    Gives (IsSum p f.1 q (coefficient same f.0 gs)) (met_part same p f q gs)
met_part_gives same p f q gs = by (coefficient same f.0 gs) (int_eq (coefficient same f.0 gs) (pos 0)) refl
  where
    by : (d : ℤ) (b : Bool) → int_eq d (pos 0) ≡ b → Gives (IsSum p f.1 q d) (if b then computed Mul p f.1 else combined_number p f.1 q d)
    by d true e = subst (λ (x : ℤ). Gives (IsSum p f.1 q x) (computed Mul p f.1)) (sym ((Decides-int_eq d (pos 0)).0 e))
        (product_gives p f.1 q)
    by d false e = combined_number_gives p f.1 q d

-- parts with a constant
pub formed_gives : {A : Type 0} (P : List (A × ℤ) → Type 0) (Z : ℤ → Type 0) (Q : Linear A → Type 0) (parts : Outcome (List (A × ℤ)))
    (constant : Outcome ℤ) (kind : Kind) →
    Gives P parts → Gives Z constant → ((ps : List (A × ℤ)) (c : ℤ) → P ps → Z c → Q (record { parts = ps; constant = c; kind = kind })) →
    Gives Q (formed parts constant kind)
formed_gives P Z Q (Fits ps) (Fits c) kind first second step = step ps c first second
formed_gives P Z Q (Fits ps) (Leaves op y z) kind first second step = tt
formed_gives P Z Q (Leaves op y z) constant kind first second step = tt

-- a part that goes where its coefficient is 0
pub with_part_has : {A : Type 0} (P : List (A × ℤ) → Type 0) (a : A) (z : ℤ) (ps : List (A × ℤ)) → (z ≡ pos 0 → P ps) →
    ((z ≡ pos 0 → ⊥) → P ((a, z) ∷ ps)) → P (with_part a z ps)
with_part_has P a z ps none some = by (int_eq z (pos 0)) refl
  where
    by : (b : Bool) → int_eq z (pos 0) ≡ b → P (if b then ps else (a, z) ∷ ps)
    by true e = none ((Decides-int_eq z (pos 0)).0 e)
    by false e = some (λ (zero : z ≡ pos 0). let yes_it : int_eq z (pos 0) ≡ true = (Decides-int_eq z (pos 0)).1 zero in absurd cc)

-- a fact of each part
abbrev pub Each : {A : Type 0} → (A × ℤ → Type 0) → List (A × ℤ) → Type 0
Each P [] = Unit {0}
Each P (p ∷ ps) = P p × Each P ps
