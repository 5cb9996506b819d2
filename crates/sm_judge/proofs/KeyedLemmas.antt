-- Facts that are found by keys.
use Rattle.sm_judge.proofs.Imports.{◌≡◌, ◌+◌, ◌==◌, ◌<◌, nat_eq, Bool, true, false, ◌&&◌, Option, Some, None, List, length, get_or, refl, sym, ap, ◌∙◌, is_some, if◌then◌else◌, true≢false, below_more, arith, list_any, Decides-and, Decides-eqb, get_or-map, length-map, list_any_at, NumberedFormula, numbered, Formula, mixed, key_of, HasKeys, AreKeyed, all_numbered, numbered_at, same_numbered, both_pass}
use Rattle.std.proofs.Common.{ℕ}
use Rattle.sm_term.specs.Formulas.{Yes, No, Eq, Ne, Le, Lt, And, Or}
use Rattle.sm_judge.proofs.TornLemmas.{none_passes}

-- equal numbers have one key
two : (kind t u v w : ℕ) → ((t == v) && (u == w)) ≡ true → mixed kind t u ≡ mixed kind v w
two kind t u v w h =
    let same = (Decides-and _ _ (Decides-eqb t v) (Decides-eqb u w)).0 h in
    ap (λ (n : ℕ). mixed kind n u) same.0 ∙ ap (mixed kind v) same.1

-- equal formulas have one key
same_key : (f g : NumberedFormula) → same_numbered f g ≡ true → key_of f ≡ key_of g
same_key (Eq t u) (Eq v w) h = two 2 t u v w h
same_key (Ne t u) (Ne v w) h = two 3 t u v w h
same_key (Le t u) (Le v w) h = two 4 t u v w h
same_key (Lt t u) (Lt v w) h = two 5 t u v w h
same_key (And p q) (And r s) h =
    let parts = both_pass (same_numbered p r) (same_numbered q s) h in
    ap (λ (k : ℕ). mixed 6 k (key_of q)) (same_key p r parts.0) ∙ ap (mixed 6 (key_of r)) (same_key q s parts.1)
same_key (Or p q) (Or r s) h =
    let parts = both_pass (same_numbered p r) (same_numbered q s) h in
    ap (λ (k : ℕ). mixed 7 k (key_of q)) (same_key p r parts.0) ∙ ap (mixed 7 (key_of r)) (same_key q s parts.1)
same_key Yes Yes h = refl
same_key No No h = refl
same_key f g h = absurd (true≢false (sym h))

-- a formula isn't one whose key is there where its own isn't
other_key : (place : ℕ → Option ℕ) (f g : NumberedFormula) → is_some (place (key_of g)) ≡ true → place (key_of f) ≡ None →
    same_numbered f g ≡ false
other_key place f g there none = by (same_numbered f g) refl
  where
    by : (b : Bool) → same_numbered f g ≡ b → same_numbered f g ≡ false
    by false e = e
    by true e =
        absurd (true≢false (sym there ∙ ap (λ (k : ℕ). is_some (place k)) (sym (same_key f g e)) ∙ ap is_some none))

-- a formula whose key isn't there is no fact
pub none_keyed : (place : ℕ → Option ℕ) (facts : List Formula) → AreKeyed place facts → (f : NumberedFormula) →
    place (key_of f) ≡ None → false ≡ list_any (same_numbered f) (all_numbered facts)
none_keyed place facts keyed f none =
    let count = length-map facts numbered in
    sym (none_passes (same_numbered f) Yes (all_numbered facts)
    (λ (m : ℕ) (h : m < length (all_numbered facts)). other_key place f (numbered_at facts m) (keyed m (omega (arith, h, count))) none))

-- the fact at a place
number_at : (facts : List Formula) (n : ℕ) (f : Formula) → n < length facts → f ≡ get_or facts n f → numbered f ≡ numbered_at facts n
number_at facts n f inside at = ap numbered at ∙ sym (get_or-map numbered facts n f Yes inside)

-- a formula that is the one at a place is a fact
pub there_keyed : (facts : List Formula) (n : ℕ) (f : NumberedFormula) (g : Formula) → n < length facts → g ≡ get_or facts n g →
    same_numbered f (numbered g) ≡ true → list_any (same_numbered f) (all_numbered facts) ≡ true
there_keyed facts n f g inside at same =
    let count = length-map facts numbered in
    list_any_at (same_numbered f) (all_numbered facts) n Yes (omega (arith, inside, count))
    (ap (same_numbered f) (sym (number_at facts n g inside at)) ∙ same)

-- the key of one fact more
pub keys_more : (old new : ℕ → Option ℕ) (facts : List Formula) (n key place : ℕ) (f : Formula) → n < length facts →
    f ≡ get_or facts n f → key ≡ key_of (numbered f) →
    ((k : ℕ) → new k ≡ (if nat_eq key k then Some place else old k)) → HasKeys old facts n → HasKeys new facts (n + 1)
keys_more old new facts n key place f inside at is updates before =
    below_more (λ (m : ℕ). is_some (new (key_of (numbered_at facts m))) ≡ true) n
    (λ m h. stays (key_of (numbered_at facts m)) (before m h))
    (here (key_of (numbered_at facts n)) (is ∙ ap key_of (number_at facts n f inside at)))
  where
    by : (b : Bool) (o : Option ℕ) → is_some o ≡ true → is_some (if b then Some place else o) ≡ true
    by true o h = refl
    by false o h = h

    stays : (k : ℕ) → is_some (old k) ≡ true → is_some (new k) ≡ true
    stays k h = ap is_some (updates k) ∙ by (nat_eq key k) (old k) h

    here : (k : ℕ) → key ≡ k → is_some (new k) ≡ true
    here k e =
        ap is_some (updates k) ∙ ap (λ (b : Bool). is_some (if b then Some place else old k)) ((Decides-eqb key k).1 e)
