-- Copies begin with the same statement where each begins with that of the least.
use Rattle.sm_moves.proofs.Imports.{◌≡◌, ◌↔◌, IsTrue, Bool, true, false, not, ◌&&◌, ◌||◌, cond, Some, List, [], ◌∷◌, map, refl, ap, sym, ◌∙◌, subst, find, list_all, same_Some, Code, End, Copy, O, A, B, M, statement_of, Stmt, same_code, same_code_is, code_itself, Copies, copies, each, has, Statement, by_first, front, put_before, rest_after, stands, put_first, are_same, is_shared, same_tests}
use Rattle.std.specs.Prelude.{filter}
use Rattle.sm_moves.proofs.SharedLemmas.{and_true}

-- whether all that pass a test have this code, one after the other
abbrev agree : (Copy → Bool) → (Copy → Code) → Code → List Copy → Bool
agree test code first [] = true
agree test code first (c ∷ cs) = (not (test c) || same_code first (code c)) && agree test code first cs

all_agree : (test : Copy → Bool) (code : Copy → Code) (first : Code) (cs : List Copy) →
    list_all (same_code first) (map code (filter test cs)) ≡ agree test code first cs
all_agree test code first [] = refl
all_agree test code first (c ∷ cs) = by (test c) (all_agree test code first cs)
  where
    by : (b : Bool) → list_all (same_code first) (map code (filter test cs)) ≡ agree test code first cs →
        list_all (same_code first) (map code (cond b (c ∷ filter test cs) (filter test cs)))
        ≡ ((not b || same_code first (code c)) && agree test code first cs)
    by true e = ap (λ (v : Bool). same_code first (code c) && v) e
    by false e = e

-- those that pass are the same where each is as the first that passes
same_as_first : (test : Copy → Bool) (code : Copy → Code) (cs : List Copy) (f : Copy) → find test cs ≡ Some f →
    are_same (map code (filter test cs)) ≡ agree test code (code f) cs
same_as_first test code [] f e = absurd cc
same_as_first test code (c ∷ cs) f e = by (test c) refl e (same_as_first test code cs f)
  where
    by : (b : Bool) → test c ≡ b → cond b (Some c) (find test cs) ≡ Some f →
        (find test cs ≡ Some f → are_same (map code (filter test cs)) ≡ agree test code (code f) cs) →
        are_same (map code (cond b (c ∷ filter test cs) (filter test cs)))
        ≡ ((not b || same_code (code f) (code c)) && agree test code (code f) cs)
    by true is h later =
        let same : c ≡ f = same_Some c f h in
        subst
        (λ (g : Copy). list_all (same_code (code c)) (map code (filter test cs))
        ≡ (same_code (code g) (code c) && agree test code (code g) cs)) same
        (all_agree test code (code c) cs
        ∙ ap (λ (v : Bool). v && agree test code (code c) cs) (sym (code_itself (code c))))
    by false is h later = later h

-- the code of a set's copies is the same where each has that of the least
pub shared_by : (set : Copies) (code : Copy → Code) (f : Copy) → find (has set) copies ≡ Some f →
    is_shared set code ≡ each (λ (c : Copy). not (has set c) || same_code (code f) (code c))
shared_by set code f e =
    same_as_first (has set) code copies f e
    ∙ ap
    (λ (v : Bool). (not (has set O) || same_code (code f) (code O)) && ((not (has set A) || same_code (code f) (code A))
    && ((not (has set B) || same_code (code f) (code B)) && v)))
    (and_true (not (has set M) || same_code (code f) (code M)))

-- the first statement of code that begins with one
pub front_is : (c : Code) (s : Stmt) → c ≡ statement_of s (rest_after 1 c) → front 1 c ≡ statement_of s End
front_is c s e =
    let t = (stands s).0 in
    let k = rest_after 1 c in
    let f : Statement → Code → Code = λ (u : Statement) (r : Code). put_before u (front 0 r) in
    ap (front 1) e
    ∙ ap (front 1) ((stands s).1 k)
    ∙ ap (by_first End f) (put_first t k)
    ∙ sym ((stands s).1 End)

pub decided : (b : Bool) (c d : Code) → IsTrue b ↔ (c ≡ d) → b ≡ same_code c d
decided b c d e =
    same_tests b (same_code c d) (λ (h : b ≡ true). (same_code_is c d).1 (e.0 h))
    (λ (h : same_code c d ≡ true). e.1 ((same_code_is c d).0 h))
