-- The lines of bytes that have an end: the first of them, how many there are, and one more.
use Rattle.sm_check.proofs.Imports.{◌≡◌, ◌≤◌, ◌+◌, ◌-◌, ℕ, suc, Bool, true, false, ◌==◌, length, take, drop, List, [], ◌∷◌, ◌++◌, refl, ap, ◌∙◌, arith, append_assoc, sym, if◌then◌else◌, take_rest, take-append-drop, take-add, FileLines, lines_in, in_first_line, HasNoEnd, ended_in}
use Rattle.sm_check.proofs.LineLemmas.{lines_of, with_byte, lines_in-plain, lines_in-rest, lines_in-end}

-- the first line, with its end
ended-front : (front more : List ℕ) → HasNoEnd front → ended_in (front ++ 10 ∷ more) ≡ front ∷ ended_in more
ended-front [] more h = refl
ended-front (b ∷ bs) more h =
    let all = lines_in (bs ++ 10 ∷ more) in
    ap (λ (t : Bool). (with_byte t b all).ended) h.0
    ∙ ap (λ (ls : List (List ℕ)). (in_first_line b ls all.rest).ended) (ended-front bs more h.1)

-- the first line, with its end, by where the end is
pub ended-first : (bytes : List ℕ) (n : ℕ) → HasNoEnd (take n bytes) → take (n + 1) bytes ≡ take n bytes ++ 10 ∷ [] →
    ended_in bytes ≡ take n bytes ∷ ended_in (drop (n + 1) bytes)
ended-first bytes n h ends =
    let split : bytes ≡ take n bytes ++ 10 ∷ drop (n + 1) bytes =
    sym (take-append-drop (n + 1) bytes)
    ∙ ap (λ (x : List ℕ). x ++ drop (n + 1) bytes) ends
    ∙ append_assoc (take n bytes) (10 ∷ []) (drop (n + 1) bytes) in
    ap ended_in split ∙ ended-front (take n bytes) (drop (n + 1) bytes) h

-- no end, no line
pub ended-none : (bytes : List ℕ) → HasNoEnd bytes → ended_in bytes ≡ []
ended-none bytes h = ap (λ (ls : FileLines). ls.ended) (lines_in-plain bytes h)

-- one more byte makes one more line at most
few_more : (ends : Bool) (byte : ℕ) (ended : List (List ℕ)) (rest : List ℕ) →
    length (with_byte ends byte (lines_of ended rest)).ended ≤ suc (length ended)
few_more true byte ended rest = omega arith
few_more false byte [] rest = omega arith
few_more false byte (l ∷ ls) rest = omega arith

-- no more lines than bytes
pub ended-few : (bytes : List ℕ) → length (ended_in bytes) ≤ length bytes
ended-few [] = omega arith
ended-few (b ∷ bs) =
    let step = few_more (b == 10) b (lines_in bs).ended (lines_in bs).rest in let few = ended-few bs in omega (arith, step, few)

-- one more line behind bytes that end with a line end
pub lines_in-push : (bytes line all : List ℕ) → HasNoEnd line → (lines_in bytes).rest ≡ [] → all ≡ (bytes ++ line) ++ 10 ∷ [] →
    lines_in all ≡ lines_of (ended_in bytes ++ line ∷ []) []
lines_in-push bytes line all h none is =
    ap lines_in (is ∙ append_assoc bytes line (10 ∷ []))
    ∙ lines_in-end bytes line h
    ∙ ap (λ (rest : List ℕ). lines_of (ended_in bytes ++ (rest ++ line) ∷ []) []) none

-- bytes in which no line ends have no line end
one_more : (ends : Bool) (byte : ℕ) (ended : List (List ℕ)) (rest : List ℕ) →
    (with_byte ends byte (lines_of ended rest)).ended ≡ [] → (ends ≡ false) × (ended ≡ [])
one_more true byte ended rest none = absurd (cc)
one_more false byte [] rest none = (refl, refl)
one_more false byte (l ∷ ls) rest none = absurd (cc)

pub none-ended : (bytes : List ℕ) → ended_in bytes ≡ [] → HasNoEnd bytes
none-ended [] none = tt
none-ended (b ∷ bs) none =
    let both = one_more (b == 10) b (lines_in bs).ended (lines_in bs).rest none in (both.0, none-ended bs both.1)

-- none ends in more of them, where more came
pub ended-extend : (came : Bool) (bytes more all : List ℕ) → ended_in bytes ≡ [] → HasNoEnd more →
    all ≡ (if came then bytes ++ more else bytes) → ended_in all ≡ []
ended-extend true bytes more all none h is =
    ap ended_in is ∙ ap (λ (ls : FileLines). ls.ended) (lines_in-rest bytes more h) ∙ none
ended-extend false bytes more all none h is = ap ended_in is ∙ none

-- one more byte before bytes that end with a line end
behind_step : (ends : Bool) (byte : ℕ) (ended later : List (List ℕ)) (rest last : List ℕ) →
    (with_byte ends byte (lines_of ended rest)).rest ≡ [] →
    (rest ≡ [])
    × (with_byte ends byte (lines_of (ended ++ later) last) ≡ lines_of ((with_byte ends byte (lines_of ended rest)).ended ++ later) last)
behind_step true byte ended later rest last none = (none, refl)
behind_step false byte [] later rest last none = absurd (cc)
behind_step false byte (l ∷ ls) later rest last none = (none, refl)

-- bytes behind those that end with a line end
pub lines_in-behind : (bytes more : List ℕ) → (lines_in bytes).rest ≡ [] →
    lines_in (bytes ++ more) ≡ lines_of (ended_in bytes ++ ended_in more) (lines_in more).rest
lines_in-behind [] more none = refl
lines_in-behind (b ∷ bs) more none =
    let step = behind_step (b == 10) b (lines_in bs).ended (ended_in more) (lines_in bs).rest (lines_in more).rest none in
    ap (λ (ls : FileLines). with_byte (b == 10) b ls) (lines_in-behind bs more step.0) ∙ step.1

-- a run of lines goes on by the line behind it
pub run_more : (bytes : List ℕ) (size end : ℕ) → HasNoEnd (take end (take (length bytes - size) (drop size bytes))) →
    take (end + 1) (take (length bytes - size) (drop size bytes)) ≡ take end (take (length bytes - size) (drop size bytes)) ++ 10 ∷ [] →
    (lines_in (take size bytes)).rest ≡ [] →
    lines_in (take (size + (end + 1)) bytes)
    ≡ lines_of (ended_in (take size bytes) ++ take end (take (length bytes - size) (drop size bytes)) ∷ []) []
run_more bytes size end h ends none =
    let rest = take (length bytes - size) (drop size bytes) in
    lines_in-push (take size bytes) (take end rest) (take (size + (end + 1)) bytes) h none
    (take-add size (end + 1) bytes
    ∙ ap (λ (x : List ℕ). take size bytes ++ take (end + 1) x) (sym (take_rest bytes size))
    ∙ ap (λ (x : List ℕ). take size bytes ++ x) ends
    ∙ sym (append_assoc (take size bytes) (take end rest) (10 ∷ [])))
