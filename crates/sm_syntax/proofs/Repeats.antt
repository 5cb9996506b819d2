-- What is known of the names, declared or put out, that a walk over them has passed.
use Rattle.sm_syntax.proofs.Imports.{◌≡◌, ℕ, Bool, true, false, cond, not, ◌||◌, if◌then◌else◌, nat_eq, Option, Some, None, is_some, List, [], ◌∷◌, map, refl, ap, sym, ◌∙◌, arith, nat_tests, common_steps, option_or, Name, Refusal, is_in, first_repeated, first_output_fault, output_refusal, DoubleName, sort_of, Sorts}
use Rattle.std.specs.Map.{lookup}
use Rattle.sm_syntax.specs.text.Sorts.{Sort}

-- declarations and names, as numbers
abbrev pub sorted_numbers : List (Name × Sort) → List (ℕ × Sort)
sorted_numbers ds = map (λ (e : Name × Sort). (e.0.0, e.1)) ds

abbrev pub name_numbers : List Name → List ℕ
name_numbers xs = map (λ (x : Name). x.0) xs

-- the first repetition depends on the numbers that stood before, whatever their order
pub first_repeated-same : (seen stood : List ℕ) (xs : List ℕ) → ((q : ℕ) → is_in seen q ≡ is_in stood q) → first_repeated seen xs ≡ first_repeated stood xs
first_repeated-same seen stood [] same = refl
first_repeated-same seen stood (x ∷ xs) same =
    ap (λ (b : Bool). if b then Some x else first_repeated (x ∷ seen) xs) (same x) ∙
    ap (λ (o : Option ℕ). if is_in stood x then Some x else o)
    (first_repeated-same (x ∷ seen) (x ∷ stood) xs (λ (q : ℕ). ap (λ (b : Bool). nat_eq q x || b) (same q)))

-- so does the first fault of outputs
pub first_output_fault-same : (sorts : Sorts) (seen stood : List ℕ) (xs : List ℕ) → ((q : ℕ) → is_in seen q ≡ is_in stood q) →
    first_output_fault sorts seen xs ≡ first_output_fault sorts stood xs
first_output_fault-same sorts seen stood [] same = refl
first_output_fault-same sorts seen stood (x ∷ xs) same =
    ap (λ (b : Bool). option_or (output_refusal (sorts x) b x) (first_output_fault sorts (x ∷ seen) xs)) (same x) ∙
    ap (option_or (output_refusal (sorts x) (is_in stood x) x))
    (first_output_fault-same sorts (x ∷ seen) (x ∷ stood) xs (λ (q : ℕ). ap (λ (b : Bool). nat_eq q x || b) (same q)))

-- the sort of a name before and after a declaration of another one
sort_step : (here : Bool) (old rest : Option Sort) (sort : Sort) → (here ≡ true → old ≡ None) →
    option_or old (if here then Some sort else rest) ≡ option_or (cond here (Some sort) old) rest
sort_step true old rest sort new = ap (λ (o : Option Sort). option_or o (Some sort)) (new refl)
sort_step false old rest sort new = refl

-- no value
pub is_none : (o : Option Sort) → false ≡ is_some o → o ≡ None
is_none None none = refl
is_none (Some sort) none = cc

-- numbers are equal in either order
eqb_comm : (x y : ℕ) → nat_eq x y ≡ nat_eq y x
eqb_comm x y = grind (arith, nat_tests)

-- the numbers of a set with one more
set_step : (here stood : Bool) → (here || stood) ≡ cond here true stood
set_step true stood = refl
set_step false stood = refl

-- what a set says that it didn't have is new
pub added_new : (stood added : Bool) → added ≡ not stood → added ≡ true → stood ≡ false
added_new true added was new = cc
added_new false added was new = refl

-- a set with one number more
pub set_grows : (seen more : List ℕ) (x : ℕ) → ((q : ℕ) → is_in more q ≡ cond (nat_eq x q) true (is_in seen q)) → (q : ℕ) → is_in (x ∷ seen) q ≡ is_in more q
set_grows seen more x grows q = ap (λ (b : Bool). b || is_in seen q) (eqb_comm q x) ∙ set_step (nat_eq x q) (is_in seen q) ∙ sym (grows q)

-- the sorts of declarations, where those of `stood` go first
abbrev pub sorts_after : List (ℕ × Sort) → List (ℕ × Sort) → ℕ → Option Sort
sorts_after stood rest x = option_or (lookup (nat_eq x) stood) (sort_of rest x)

-- one declaration more, of a name that is new
pub sorts_after-new : (stood more : List (ℕ × Sort)) (d : ℕ × Sort) (rest : List (ℕ × Sort)) → is_some (lookup (nat_eq d.0) stood) ≡ false →
    ((q : ℕ) → lookup (nat_eq q) more ≡ cond (nat_eq d.0 q) (Some d.1) (lookup (nat_eq q) stood)) → (x : ℕ) → sorts_after stood (d ∷ rest) x ≡ sorts_after more rest x
sorts_after-new stood more d rest new grows x =
    let none = is_none (lookup (nat_eq d.0) stood) (sym new) in
    sort_step (nat_eq d.0 x) (lookup (nat_eq x) stood) (sort_of rest x) d.1 (λ (here : nat_eq d.0 x ≡ true). grind (arith, common_steps, nat_tests, none)) ∙
    ap (λ (o : Option Sort). option_or o (sort_of rest x)) (sym (grows x))

-- a name that stood keeps its sort
again_step : (here : Bool) (old rest : Option Sort) (sort : Sort) → (here ≡ true → is_some old ≡ true) → option_or old (if here then Some sort else rest) ≡ option_or old rest
again_step true None rest sort known = let none : false ≡ true = known refl in cc
again_step true (Some s) rest sort known = refl
again_step false old rest sort known = refl

-- one declaration more, of a name that stood
pub sorts_after-again : (stood : List (ℕ × Sort)) (d : ℕ × Sort) (rest : List (ℕ × Sort)) → is_some (lookup (nat_eq d.0) stood) ≡ true → (x : ℕ) →
    sorts_after stood (d ∷ rest) x ≡ sorts_after stood rest x
sorts_after-again stood d rest known x =
    again_step (nat_eq d.0 x) (lookup (nat_eq x) stood) (sort_of rest x) d.1 (λ (here : nat_eq d.0 x ≡ true). grind (arith, common_steps, nat_tests, known))

-- one number more that is new
pub first_repeated-new : (seen more : List ℕ) (x : ℕ) (rest : List ℕ) → is_in seen x ≡ false →
    ((q : ℕ) → is_in more q ≡ cond (nat_eq x q) true (is_in seen q)) → first_repeated seen (x ∷ rest) ≡ first_repeated more rest
first_repeated-new seen more x rest new grows =
    ap (λ (b : Bool). if b then Some x else first_repeated (x ∷ seen) rest) new ∙
    first_repeated-same (x ∷ seen) more rest (set_grows seen more x grows)

-- what is said of an output that is declared
known_output : (o : Option Sort) (stood : Bool) (x : ℕ) → is_some o ≡ true → output_refusal o stood x ≡ (if stood then Some (DoubleName x) else None)
known_output None stood x known = cc
known_output (Some sort) stood x known = refl

-- one output more that is new
pub first_output_fault-new : (sorts : Sorts) (seen more : List ℕ) (x : ℕ) (rest : List ℕ) → is_some (sorts x) ≡ true → is_in seen x ≡ false →
    ((q : ℕ) → is_in more q ≡ cond (nat_eq x q) true (is_in seen q)) → first_output_fault sorts seen (x ∷ rest) ≡ first_output_fault sorts more rest
first_output_fault-new sorts seen more x rest known new grows =
    let others = first_output_fault sorts (x ∷ seen) rest in
    ap (λ (o : Option Refusal). option_or o others) (known_output (sorts x) (is_in seen x) x known) ∙
    ap (λ (b : Bool). option_or (if b then Some (DoubleName x) else None) others) new ∙
    first_output_fault-same sorts (x ∷ seen) more rest (set_grows seen more x grows)
