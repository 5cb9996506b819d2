-- A text's number in a table: the place at which it stands, which stays where texts are added.
use Rattle.sm_syntax.proofs.Imports.{◌≡◌, ℕ, zero, suc, ◌+◌, ◌<◌, ◌≤◌, Bool, true, false, cond, not, ◌||◌, List, [], ◌∷◌, ◌++◌, map, length, take, get_or, Some, slice_get, refl, sym, ap, ◌∙◌, true≢false, if◌then◌else◌, one-add, arith, append-nil, length_push, map-append, map_more, or_parts, list_any, position, position_or_len, AllByRecursion, bytes_eq, is_among}
use Rattle.std.proofs.lemmas.Option.{cond_some}
use Rattle.std.proofs.lemmas.Slice.Eq.{bytes_eq-Decides}
use Rattle.std.specs.List.{IsDistinct}
use Rattle.sm_syntax.specs.text.Symbols.{with_text}

-- a text is itself
pub bytes_eq-refl : (t : List ℕ) → bytes_eq t t ≡ true
bytes_eq-refl t = (bytes_eq-Decides t t).1 refl

-- either way round
pub bytes_eq-sym : (a b : List ℕ) → bytes_eq a b ≡ bytes_eq b a
bytes_eq-sym a b = by (bytes_eq a b) refl (bytes_eq b a) refl
  where
    by : (x : Bool) → bytes_eq a b ≡ x → (y : Bool) → bytes_eq b a ≡ y → bytes_eq a b ≡ bytes_eq b a
    by true p true q = p ∙ sym q
    by false p false q = p ∙ sym q
    by true p false q = absurd (true≢false (sym ((bytes_eq-Decides b a).1 (sym ((bytes_eq-Decides a b).0 p))) ∙ q))
    by false p true q = absurd (true≢false (sym ((bytes_eq-Decides a b).1 (sym ((bytes_eq-Decides b a).0 q))) ∙ p))

-- adding a text that is there leaves the texts as they are
pub with_text-among : (texts : List (List ℕ)) (t : List ℕ) → is_among texts t ≡ true → with_text texts t ≡ texts
unfolding with_text
with_text-among texts t h = ap (λ b. if b then texts else texts ++ t ∷ []) h

-- a new text goes last
pub with_text-new : (texts : List (List ℕ)) (t : List ℕ) → is_among texts t ≡ false → with_text texts t ≡ texts ++ t ∷ []
unfolding with_text
with_text-new texts t h = ap (λ b. if b then texts else texts ++ t ∷ []) h

-- a text that is among others stands at its number
pub slice_get-number : (texts : List (List ℕ)) (t : List ℕ) → is_among texts t ≡ true → slice_get texts (position_or_len (bytes_eq t) texts) ≡ Some t
slice_get-number [] t h = absurd (true≢false (sym h))
slice_get-number (x ∷ xs) t h = by (bytes_eq t x) refl (slice_get-number xs t)
  where
    by : (b : Bool) → bytes_eq t x ≡ b → (is_among xs t ≡ true → slice_get xs (position_or_len (bytes_eq t) xs) ≡ Some t) → slice_get (x ∷ xs) (position_or_len (bytes_eq t) (x ∷ xs)) ≡ Some t
    by true e rest = ap (λ c. slice_get (x ∷ xs) (cond (not c) (1 + position_or_len (bytes_eq t) xs) 0)) e ∙ ap Some (sym ((bytes_eq-Decides t x).0 e))
    by false e rest =
        ap (λ c. slice_get (x ∷ xs) (cond (not c) (1 + position_or_len (bytes_eq t) xs) 0)) e
        ∙ ap (slice_get (x ∷ xs)) (one-add (position_or_len (bytes_eq t) xs))
        ∙ rest (sym (ap (λ c. c || is_among xs t) e) ∙ h)

-- a text is among those that it was put after
pub is_among-last : (texts : List (List ℕ)) (t : List ℕ) → is_among (texts ++ t ∷ []) t ≡ true
is_among-last [] t = ap (λ b. b || false) (bytes_eq-refl t)
is_among-last (x ∷ xs) t = ap (λ b. bytes_eq t x || b) (is_among-last xs t) ∙ or_true (bytes_eq t x)
  where
    or_true : (b : Bool) → (b || true) ≡ true
    or_true true = refl
    or_true false = refl

-- a text is among those that it was added to
pub is_among-with_text : (texts : List (List ℕ)) (t : List ℕ) → is_among (with_text texts t) t ≡ true
is_among-with_text texts t = by (is_among texts t) refl
  where
    by : (b : Bool) → is_among texts t ≡ b → is_among (with_text texts t) t ≡ true
    by true e = ap (λ l. is_among l t) (with_text-among texts t e) ∙ e
    by false e = ap (λ l. is_among l t) (with_text-new texts t e) ∙ is_among-last texts t

-- put last, a text has the number that it had, or else the count of the others
pub number-last : (texts : List (List ℕ)) (t : List ℕ) → position_or_len (bytes_eq t) (texts ++ t ∷ []) ≡ position_or_len (bytes_eq t) texts
number-last [] t = ap (λ b. cond (not b) (1 + 0) 0) (bytes_eq-refl t)
number-last (x ∷ xs) t = ap (λ n. cond (not (bytes_eq t x)) (1 + n) 0) (number-last xs t)

-- adding a text keeps its number
pub number-with_text : (texts : List (List ℕ)) (t : List ℕ) → position_or_len (bytes_eq t) (with_text texts t) ≡ position_or_len (bytes_eq t) texts
number-with_text texts t = by (is_among texts t) refl
  where
    by : (b : Bool) → is_among texts t ≡ b → position_or_len (bytes_eq t) (with_text texts t) ≡ position_or_len (bytes_eq t) texts
    by true e = ap (position_or_len (bytes_eq t)) (with_text-among texts t e)
    by false e = ap (position_or_len (bytes_eq t)) (with_text-new texts t e) ∙ number-last texts t

-- a text that isn't there has the count of the others as its number
pub number-new : (texts : List (List ℕ)) (t : List ℕ) → is_among texts t ≡ false → position_or_len (bytes_eq t) texts ≡ length texts
number-new [] t h = refl
number-new (x ∷ xs) t h =
    let both = or_parts (bytes_eq t x) (is_among xs t) h in
    ap (λ b. cond (not b) (1 + position_or_len (bytes_eq t) xs) 0) both.0
    ∙ one-add (position_or_len (bytes_eq t) xs)
    ∙ ap suc (number-new xs t both.1)

-- a place that `position` gives is the number
pub number-position : {T : Type 0} (p : T → Bool) (ks : List T) (i : ℕ) → position p ks ≡ Some i → i ≡ position_or_len p ks
number-position p ks i e = sym (cond_some _ _ _ e).1

-- the texts of keys
module _ {T : Type 0} (text : T → List ℕ) where
  pub is_among-map : (ks : List T) (t : List ℕ) → is_among (map text ks) t ≡ list_any (λ k. bytes_eq t (text k)) ks
  is_among-map [] t = refl
  is_among-map (k ∷ ks) t = ap (λ b. bytes_eq t (text k) || b) (is_among-map ks t)

  pub number-map : (ks : List T) (t : List ℕ) → position_or_len (bytes_eq t) (map text ks) ≡ position_or_len (λ k. bytes_eq t (text k)) ks
  number-map [] t = refl
  number-map (k ∷ ks) t = ap (λ n. cond (not (bytes_eq t (text k))) (1 + n) 0) (number-map ks t)

  -- where no two keys have one text, none before a key has its text
  later : (P : T → Type 0) (ks : List T) → AllByRecursion P ks → (i : ℕ) (d : T) → i < length ks → P (get_or ks i d)
  later P [] all i d h = absurd (omega arith)
  later P (k ∷ ks) all zero d h = all.0
  later P (k ∷ ks) all (suc i) d h = later P ks all.1 i d (omega arith)

  fresh : (ks : List T) → IsDistinct (λ a b. bytes_eq (text a) (text b)) ks → (i : ℕ) (d : T) → i < length ks → is_among (map text (take i ks)) (text (get_or ks i d)) ≡ false
  unfolding IsDistinct
  fresh [] apart i d h = absurd (omega arith)
  fresh (k ∷ ks) apart zero d h = refl
  fresh (k ∷ ks) apart (suc i) d h =
      ap (λ b. b || is_among (map text (take i ks)) (text (get_or ks i d))) (bytes_eq-sym (text (get_or ks i d)) (text k) ∙ later (λ y. bytes_eq (text k) (text y) ≡ false) ks apart.0 i d (omega arith))
      ∙ fresh ks apart.1 i d (omega arith)

  -- so adding the keys' texts in turn makes the same table
  pub with_text-next : (ks : List T) → IsDistinct (λ a b. bytes_eq (text a) (text b)) ks → (i : ℕ) (d : T) → i < length ks → with_text (map text (take i ks)) (text (get_or ks i d)) ≡ map text (take (i + 1) ks)
  with_text-next ks apart i d h = with_text-new _ _ (fresh ks apart i d h) ∙ sym (map_more text ks i d h)

-- more texts keep the number of a text that is there
pub number-append : (texts more : List (List ℕ)) (t : List ℕ) → is_among texts t ≡ true → position_or_len (bytes_eq t) (texts ++ more) ≡ position_or_len (bytes_eq t) texts
number-append [] more t h = absurd (true≢false (sym h))
number-append (x ∷ xs) more t h = by (bytes_eq t x) refl (number-append xs more t)
  where
    by : (b : Bool) → bytes_eq t x ≡ b → (is_among xs t ≡ true → position_or_len (bytes_eq t) (xs ++ more) ≡ position_or_len (bytes_eq t) xs)
        → position_or_len (bytes_eq t) (x ∷ xs ++ more) ≡ position_or_len (bytes_eq t) (x ∷ xs)
    by true e rest =
        ap (λ c. cond (not c) (1 + position_or_len (bytes_eq t) (xs ++ more)) 0) e
        ∙ sym (ap (λ c. cond (not c) (1 + position_or_len (bytes_eq t) xs) 0) e)
    by false e rest = ap (λ n. cond (not (bytes_eq t x)) (1 + n) 0) (rest (sym (ap (λ c. c || is_among xs t) e) ∙ h))

-- a text makes the table at most one longer
pub length-with_text : (texts : List (List ℕ)) (t : List ℕ) → length (with_text texts t) ≤ length texts + 1
length-with_text texts t = by (is_among texts t) refl
  where
    by : (b : Bool) → is_among texts t ≡ b → length (with_text texts t) ≤ length texts + 1
    by true e = let l = ap length (with_text-among texts t e) in omega arith
    by false e = let l = ap length (with_text-new texts t e) ∙ length_push texts t in omega arith

-- a table to which a text was added begins with what it was
pub grown-with_text : (texts : List (List ℕ)) (t : List ℕ) → (more : List (List ℕ)) × (with_text texts t ≡ texts ++ more)
grown-with_text texts t = by (is_among texts t) refl
  where
    by : (b : Bool) → is_among texts t ≡ b → (more : List (List ℕ)) × (with_text texts t ≡ texts ++ more)
    by true e = ([], with_text-among texts t e ∙ sym (append-nil texts))
    by false e = (t ∷ [], with_text-new texts t e)
