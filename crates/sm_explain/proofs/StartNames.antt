-- Declared names, one behind the other.
use Rattle.sm_explain.proofs.Imports.{◌≡◌, ◌≢◌, ◌==◌, ◌+◌, ◌<◌, ◌≤◌, ℕ, zero, suc, Bool, true, false, if◌then◌else◌, Some, None, List, [], ◌∷◌, ◌++◌, length, take, get_or, refl, sym, ap, subst, ◌∙◌, append_assoc, append-nil, take_all, arith, take_more, map-append, Name, Sort, Store, sort_of, numbered, AreValueLines, AreStartLines}

-- one name more
lines_more : (names : List (List ℕ)) (s : Store) (declared : List (ℕ × Sort)) (d : ℕ × Sort) (text more : List ℕ)
    → AreStartLines names declared s text → AreValueLines names d.0 (s d.0) more → AreStartLines names (declared ++ d ∷ []) s (text ++ more)
lines_more names s [] d text more none is =
    (more, [], is, refl, ap (λ (t : List ℕ). t ++ more) none ∙ sym (append-nil more))
lines_more names s (e ∷ rest) d text more h is = (
  h.0,
  h.1 ++ more,
  h.2,
  lines_more names s rest d h.1 more h.3 is,
  ap (λ (t : List ℕ). t ++ more) h.4 ∙ append_assoc h.0 h.1 more,
)

pub names_more : (names : List (List ℕ)) (s : Store) (list : List (Name × Sort)) (n : ℕ) (d : Name × Sort) (text more : List ℕ)
    → n < length list → AreStartLines names (numbered (take n list)) s text
    → AreValueLines names (get_or list n d).0.0 (s (get_or list n d).0.0) more
    → AreStartLines names (numbered (take (n + 1) list)) s (text ++ more)
names_more names s list n d text more here before is =
    let e : Name × Sort = get_or list n d in
    subst (λ (xs : List (ℕ × Sort)). AreStartLines names xs s (text ++ more))
    (sym (ap numbered (take_more list n d here) ∙ map-append (λ (x : Name × Sort). (x.0.0, x.1)) (take n list) (e ∷ [])))
    (lines_more names s (numbered (take n list)) (e.0.0, e.1) text more before is)

pub names_all : (names : List (List ℕ)) (s : Store) (list : List (Name × Sort)) (n : ℕ) (text : List ℕ) → length list ≤ n
    → AreStartLines names (numbered (take n list)) s text → AreStartLines names (numbered list) s text
names_all names s list n text past =
    subst (λ (xs : List (Name × Sort)). AreStartLines names (numbered xs) s text) (take_all n list past)

-- a declared name has a sort
has_sort : (x : ℕ) (d : ℕ × Sort) (rest : List (ℕ × Sort)) → (d.0 ≡ x) → sort_of (d ∷ rest) x ≢ None
has_sort x d rest same = by (d.0 == x) (eq_true d.0 x same)
  where
    eq_true : (m n : ℕ) → m ≡ n → (m == n) ≡ true
    eq_true m n e = grind arith

    by : (b : Bool) → b ≡ true → (if b then Some d.1 else sort_of rest x) ≢ None
    by true is none = cc
    by false is none = cc

pub declared_sort : (list : List (Name × Sort)) (n : ℕ) (d : Name × Sort) → n < length list
    → sort_of (numbered list) (get_or list n d).0.0 ≢ None
declared_sort [] n d here = absurd (omega arith)
declared_sort (e ∷ list) zero d here = has_sort e.0.0 (e.0.0, e.1) (numbered list) refl
declared_sort (e ∷ list) (suc n) d here = by (e.0.0 == (get_or list n d).0.0) (declared_sort list n d (omega arith))
  where
    by : (b : Bool) → sort_of (numbered list) (get_or list n d).0.0 ≢ None
        → (if b then Some e.1 else sort_of (numbered list) (get_or list n d).0.0) ≢ None
    by true rest none = cc
    by false rest none = rest none
