-- What formulas say: of conditions, of their contraries, of conjunctions and of refuted facts.
use Rattle.sm_term.proofs.Imports.{◌≡◌, ◌↔◌, ℤ, Bool, true, false, not, ◌&&◌, ◌||◌, IsTrue, List, [], ◌∷◌, ◌++◌, refl, sym, ⊎_elim, arith, int_lt, ◌≤ℤ◌, ◌<ℤ◌, cases_Bool, Decides-int_eq, not_from_Decides, Sort, Num, Arr, Expression, Condition, Value, number, array, relation, truth_of, SameAs, Tree, Structure, meaning, Assertion, Holds, AllHold, IsValid, IsRefuted, negate, conj, SymbolicStore, store_meant, term_of, comparison_form, form_of}
use Rattle.std.specs.Ordering.{int_eq}
use Rattle.std.proofs.lemmas.Int.{ints, by_lt_z}
use Rattle.sm_syntax.proofs.Kept.{int_cases}
use Rattle.sm_syntax.specs.declared.tree.Cmp.TheVariants as cmp
use Rattle.sm_syntax.specs.claim.Syntax as syntax
use Rattle.sm_syntax.specs.declared.tree.Cmp.{Cmp}
use Rattle.sm_term.specs.Assertions.{Yes, No, Eq, Ne, Le, Lt, And, Or}
use Rattle.sm_term.proofs.SymbolicLemmas.{term_means}

-- numbers that can't differ are equal
equal : (y z : ℤ) → ((y ≡ z → ⊥) → ⊥) → y ≡ z
equal y z may = ⊎_elim (λ (e : y ≡ z). e) (λ (d : y ≡ z → ⊥). absurd (may d)) (int_cases y z)

-- values that can't differ are the same
same : (sort : Sort) (v w : Value) → ((SameAs sort v w → ⊥) → ⊥) → SameAs sort v w
same Num v w may = equal (number v) (number w) may
same Arr v w may =
    λ (i : ℤ). equal (array v i) (array w i) (λ (d : array v i ≡ array w i → ⊥). may (λ (s : (j : ℤ) → array v j ≡ array w j). d (s i)))

-- not above is at most
at_most : (y z : ℤ) → (z <ℤ y → ⊥) → y ≤ℤ z
at_most y z never = by_lt_z {P = y ≤ℤ z} z y (λ (below : z <ℤ y). absurd (never below)) (λ (h : y ≤ℤ z). h)

-- not at least is below
below : (y z : ℤ) → (z ≤ℤ y → ⊥) → y <ℤ z
below y z never = by_lt_z {P = y <ℤ z} y z (λ (h : y <ℤ z). h) (λ (above : z ≤ℤ y). absurd (never above))

-- one of below and at least is not there
apart : (y z : ℤ) → y <ℤ z → z ≤ℤ y → ⊥
apart y z first second = omega (arith, ints)

-- a formula that can't fail holds
pub stable : (m : Structure) (f : Assertion) → ((Holds m f → ⊥) → ⊥) → Holds m f
stable m Yes may = tt
stable m No may = may (λ (h : ⊥). h)
stable m (Eq sort t u) may = same sort (meaning m t) (meaning m u) may
stable m (Ne sort t u) may =
    λ (h : SameAs sort (meaning m t) (meaning m u)). may (λ (never : SameAs sort (meaning m t) (meaning m u) → ⊥). never h)
stable m (Le t u) may =
    at_most (number (meaning m t)) (number (meaning m u))
    (λ (h : number (meaning m u) <ℤ number (meaning m t)). may (apart (number (meaning m u)) (number (meaning m t)) h))
stable m (Lt t u) may =
    below (number (meaning m t)) (number (meaning m u))
    (λ (h : number (meaning m u) ≤ℤ number (meaning m t)).
    may (λ (g : number (meaning m t) <ℤ number (meaning m u)). apart (number (meaning m t)) (number (meaning m u)) g h))
stable m (And p q) may = (
  stable m p (λ (never : Holds m p → ⊥). may (λ (h : Holds m p × Holds m q). never h.0)),
  stable m q (λ (never : Holds m q → ⊥). may (λ (h : Holds m p × Holds m q). never h.1)),
)
stable m (Or p q) may =
    λ (first : Holds m p → ⊥) (second : Holds m q → ⊥). may (λ (h : (Holds m p → ⊥) → (Holds m q → ⊥) → ⊥). h first second)

-- negate says the contrary
pub contrary : (m : Structure) (f : Assertion) → Holds m (negate f) ↔ (Holds m f → ⊥)
contrary m Yes = (λ (h : ⊥). absurd h, λ (never : Unit {0} → ⊥). never tt)
contrary m No = (λ (h : Unit {0}) (g : ⊥). g, λ (never : ⊥ → ⊥). tt)
contrary m (Eq sort t u) =
    (λ (h : SameAs sort (meaning m t) (meaning m u) → ⊥). h, λ (h : SameAs sort (meaning m t) (meaning m u) → ⊥). h)
contrary m (Ne sort t u) = (
  λ (h : SameAs sort (meaning m t) (meaning m u)) (never : SameAs sort (meaning m t) (meaning m u) → ⊥). never h,
  same sort (meaning m t) (meaning m u),
)
contrary m (Le t u) = (
  λ (h : number (meaning m u) <ℤ number (meaning m t)). apart (number (meaning m u)) (number (meaning m t)) h,
  below (number (meaning m u)) (number (meaning m t)),
)
contrary m (Lt t u) = (
  λ (h : number (meaning m u) ≤ℤ number (meaning m t)) (g : number (meaning m t) <ℤ number (meaning m u)).
      apart (number (meaning m t)) (number (meaning m u)) g h,
  at_most (number (meaning m u)) (number (meaning m t)),
)
contrary m (And p q) = (
  λ (h : (Holds m (negate p) → ⊥) → (Holds m (negate q) → ⊥) → ⊥) (both : Holds m p × Holds m q).
      h (λ (g : Holds m (negate p)). (contrary m p).0 g both.0) (λ (g : Holds m (negate q)). (contrary m q).0 g both.1),
  λ (never : Holds m p × Holds m q → ⊥) (first : Holds m (negate p) → ⊥) (second : Holds m (negate q) → ⊥).
      never (
        stable m p (λ (g : Holds m p → ⊥). first ((contrary m p).1 g)),
        stable m q (λ (g : Holds m q → ⊥). second ((contrary m q).1 g)),
      ),
)
contrary m (Or p q) = (
  λ (h : Holds m (negate p) × Holds m (negate q)) (some : (Holds m p → ⊥) → (Holds m q → ⊥) → ⊥).
      some ((contrary m p).0 h.0) ((contrary m q).0 h.1),
  λ (never : ((Holds m p → ⊥) → (Holds m q → ⊥) → ⊥) → ⊥). (
    (contrary m p).1 (λ (g : Holds m p). never (λ (first : Holds m p → ⊥) (second : Holds m q → ⊥). first g)),
    (contrary m q).1 (λ (g : Holds m q). never (λ (first : Holds m p → ⊥) (second : Holds m q → ⊥). second g)),
  ),
)

-- facts hold together
pub holds_append : (m : Structure) (fs gs : List Assertion) → AllHold m fs → AllHold m gs → AllHold m (fs ++ gs)
holds_append m [] gs first second = second
holds_append m (f ∷ fs) gs first second = (first.0, holds_append m fs gs first.1 second)

-- where the facts of two lists hold together, those of each list hold
pub holds_parts : (m : Structure) (fs gs : List Assertion) → AllHold m (fs ++ gs) → AllHold m fs × AllHold m gs
holds_parts m [] gs all = (tt, all)
holds_parts m (f ∷ fs) gs all = let rest = holds_parts m fs gs all.1 in ((all.0, rest.0), rest.1)

-- a formula holds exactly where its parts do
pub conj_means : (m : Structure) (f : Assertion) → Holds m f ↔ AllHold m (conj f)
conj_means m Yes = (λ (h : Unit {0}). tt, λ (h : Unit {0}). tt)
conj_means m No = (λ (h : ⊥). (h, tt), λ (h : ⊥ × Unit {0}). h.0)
conj_means m (Eq sort t u) = (λ (h : Holds m (Eq sort t u)). (h, tt), λ (h : Holds m (Eq sort t u) × Unit {0}). h.0)
conj_means m (Ne sort t u) = (λ (h : Holds m (Ne sort t u)). (h, tt), λ (h : Holds m (Ne sort t u) × Unit {0}). h.0)
conj_means m (Le t u) = (λ (h : Holds m (Le t u)). (h, tt), λ (h : Holds m (Le t u) × Unit {0}). h.0)
conj_means m (Lt t u) = (λ (h : Holds m (Lt t u)). (h, tt), λ (h : Holds m (Lt t u) × Unit {0}). h.0)
conj_means m (And p q) = (
  λ (h : Holds m p × Holds m q). holds_append m (conj p) (conj q) ((conj_means m p).0 h.0) ((conj_means m q).0 h.1),
  λ (h : AllHold m (conj p ++ conj q)). let parts = holds_parts m (conj p) (conj q) h in
      ((conj_means m p).1 parts.0, (conj_means m q).1 parts.1),
)
conj_means m (Or p q) = (λ (h : Holds m (Or p q)). (h, tt), λ (h : Holds m (Or p q) × Unit {0}). h.0)

-- where the facts and the negated goal can't hold together, the goal holds where the facts do
pub refuted_here : (m : Structure) (facts : List Assertion) (goal : Assertion) → (AllHold m (facts ++ negate goal ∷ []) → ⊥)
    → AllHold m facts → Holds m goal
refuted_here m facts goal never hold =
    stable m goal (λ (fails : Holds m goal → ⊥). never (holds_append m facts (negate goal ∷ []) hold ((contrary m goal).1 fails, tt)))

-- where no structure makes the facts and the negated goal hold, the goal holds where the facts do
pub refuted : (facts : List Assertion) (goal : Assertion) → IsRefuted (facts ++ negate goal ∷ []) → IsValid facts goal
refuted facts goal never m hold = refuted_here m facts goal (never m) hold

-- a test whose contrary is true
not_true : (b : Bool) → IsTrue (not b) → b ≡ false
not_true true h = sym h
not_true false h = refl

-- unequal numbers fail the test
not_equal : (y z : ℤ) → (y ≡ z → ⊥) → IsTrue (not (int_eq y z))
not_equal y z differ =
    ⊎_elim
    (λ (e : int_eq y z ≡ true). absurd (differ ((Decides-int_eq y z).0 e)))
    (λ (e : int_eq y z ≡ false). rw e refl)
    (cases_Bool (int_eq y z))

-- how two numbers compare, as a formula says it and as a test does
pub compares : (op : Cmp) (m : Structure) (t u : Tree)
    → Holds m (comparison_form op t u) ↔ IsTrue (relation op (number (meaning m t)) (number (meaning m u)))
compares cmp.Eq m t u = let d = Decides-int_eq (number (meaning m t)) (number (meaning m u)) in (d.1, d.0)
compares cmp.Ne m t u =
    let y = number (meaning m t) in
    let z = number (meaning m u) in
    (not_equal y z, λ (h : IsTrue (not (int_eq y z))). not_from_Decides (int_eq y z) (Decides-int_eq y z) (not_true (int_eq y z) h))
compares cmp.Lt m t u = (
  λ (h : number (meaning m t) <ℤ number (meaning m u)). grind (arith, ints),
  λ (h : IsTrue (int_lt (number (meaning m t)) (number (meaning m u)))). grind (arith, ints),
)
compares cmp.Le m t u = (
  λ (h : number (meaning m t) ≤ℤ number (meaning m u)). grind (arith, ints),
  λ (h : IsTrue (not (int_lt (number (meaning m u)) (number (meaning m t))))). grind (arith, ints),
)
compares cmp.Gt m t u = (
  λ (h : number (meaning m u) <ℤ number (meaning m t)). grind (arith, ints),
  λ (h : IsTrue (int_lt (number (meaning m u)) (number (meaning m t)))). grind (arith, ints),
)
compares cmp.Ge m t u = (
  λ (h : number (meaning m u) ≤ℤ number (meaning m t)). grind (arith, ints),
  λ (h : IsTrue (not (int_lt (number (meaning m t)) (number (meaning m u))))). grind (arith, ints),
)

-- the contrary of what is exactly true is exactly not true
contrary_true : (f : Assertion) (m : Structure) (b : Bool) → Holds m f ↔ IsTrue b → Holds m (negate f) ↔ IsTrue (not b)
contrary_true f m true exact = (λ (h : Holds m (negate f)). absurd ((contrary m f).0 h (exact.1 refl)), λ (h : IsTrue false). absurd cc)
contrary_true f m false exact =
    (λ (h : Holds m (negate f)). refl, λ (h : IsTrue true). (contrary m f).1 (λ (g : Holds m f). let e = exact.0 g in absurd cc))

-- both
both_true : (f g : Assertion) (m : Structure) (b c : Bool) → Holds m f ↔ IsTrue b → Holds m g ↔ IsTrue c
    → Holds m (And f g) ↔ IsTrue (b && c)
both_true f g m true c first second = (λ (h : Holds m f × Holds m g). second.0 h.1, λ (h : IsTrue c). (first.1 refl, second.1 h))
both_true f g m false c first second = (λ (h : Holds m f × Holds m g). first.0 h.0, λ (h : IsTrue false). absurd cc)

-- one of two
some_true : (f g : Assertion) (m : Structure) (b c : Bool) → Holds m f ↔ IsTrue b → Holds m g ↔ IsTrue c
    → Holds m (Or f g) ↔ IsTrue (b || c)
some_true f g m true c first second =
    (λ (h : Holds m (Or f g)). refl, λ (h : IsTrue true) (left : Holds m f → ⊥) (right : Holds m g → ⊥). left (first.1 refl))
some_true f g m false true first second =
    (λ (h : Holds m (Or f g)). refl, λ (h : IsTrue true) (left : Holds m f → ⊥) (right : Holds m g → ⊥). right (second.1 refl))
some_true f g m false false first second = (
  λ (h : Holds m (Or f g)).
      absurd (h (λ (a : Holds m f). let e = first.0 a in absurd cc) (λ (a : Holds m g). let e = second.0 a in absurd cc)),
  λ (h : IsTrue false). absurd cc,
)

-- the formula of a condition holds exactly where the condition is true
pub form_means : (m : Structure) (b : Condition) (s : SymbolicStore) → Holds m (form_of b s) ↔ IsTrue (truth_of b (store_meant m s))
form_means m syntax.Yes s = (λ (h : Unit {0}). refl, λ (h : IsTrue true). tt)
form_means m syntax.No s = (λ (h : ⊥). absurd h, λ (h : IsTrue false). absurd cc)
form_means m (syntax.Compare op d e) s = rw⁻¹ (term_means m d s, term_means m e s) (compares op m (term_of d s) (term_of e s))
form_means m (syntax.Not b) s = contrary_true (form_of b s) m (truth_of b (store_meant m s)) (form_means m b s)
form_means m (syntax.And b c) s =
    both_true (form_of b s) (form_of c s) m (truth_of b (store_meant m s)) (truth_of c (store_meant m s)) (form_means m b s)
    (form_means m c s)
form_means m (syntax.Or b c) s =
    some_true (form_of b s) (form_of c s) m (truth_of b (store_meant m s)) (truth_of c (store_meant m s)) (form_means m b s)
    (form_means m c s)
