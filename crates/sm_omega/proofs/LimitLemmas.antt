-- The depth is enough, a count is within its limit, and each limit that isn't below the count gives the answer.
use Rattle.sm_omega.proofs.Imports.{◌≡◌, ◌<◌, ◌≤◌, ℕ, zero, suc, Option, Some, None, List, map, refl, sym, subst, arith, Linear, Done, Passed, Outside, Shallow, Enter, entered, Values, Answer, Solver, or_refuted, by_rule, solved_within, above_all, enough, AllKept}
use Rattle.sm_omega.specs.Exact.{exact}
use Rattle.sm_omega.proofs.Predicates.{AreListed}
use Rattle.sm_omega.proofs.ListedLemmas.{entered_listed, given_good}
use Rattle.sm_omega.proofs.Progress.{left, forms_given, entered_left}
use Rattle.sm_omega.proofs.MatchLemmas.{Matches, done_matches, matches_weaker, matches_alone, go_on_matches, entered_matches}
use Rattle.sm_omega.proofs.StepLemmas.{IsDeep, Follows, rule_match}

-- two depths, with two limits, match
pub depths_match : (limit depth other deep : ℕ) → Follows limit depth other deep (solved_within other deep)
depths_match limit zero other deep s fs c = λ deep_is. let less = deep_is.less in absurd (omega arith)
depths_match limit (suc depth) other zero s fs c =
    matches_alone limit other (IsDeep limit (suc depth) s fs c → ⊥) (left other fs c < 1) (left other fs c < 0) c
    (solved_within limit (suc depth) s fs c) (by_rule other (solved_within other zero) s fs c) Shallow (λ none. omega (arith, none))
    (rule_match limit depth other zero (solved_within other zero) (depths_match limit depth other zero) s fs c)
depths_match limit (suc depth) other (suc deep) s fs c =
    rule_match limit depth other deep (solved_within other deep) (depths_match limit depth other deep) s fs c

-- decisions with one limit that match are one, where the depth is enough
same_limit : (limit : ℕ) (S G : Type 0) (c : ℕ) (a b : Answer) → c ≤ limit → G → (S → ⊥) → Matches limit limit S G c a b → b ≡ a
same_limit limit S G c (Done n x) b within good deep h = h.2 (h.1 within) good
same_limit limit S G c Passed b within good deep h = h within refl good
same_limit limit S G c (Outside op y z) b within good deep h = h within refl good
same_limit limit S G c Shallow b within good deep h = absurd (deep h)

-- a list decided to the depth that is enough for it
abbrev pub decided : ℕ → Solver
decided limit s fs c = solved_within limit (suc (left limit fs c)) s fs c

-- so depths needn't be spoken of
pub decided_is : (limit s : ℕ) (fs : List (Linear ℕ)) (c : ℕ) → AreListed s fs → c ≤ limit →
    decided limit s fs c ≡ by_rule limit (decided limit) s fs c
decided_is limit s fs c listed within =
    sym (same_limit limit (IsDeep limit (suc (left limit fs c)) s fs c → ⊥) (left limit fs c < suc (left limit fs c)) c
    (decided limit s fs c) (by_rule limit (decided limit) s fs c) within (omega arith)
    (λ never. never (record { listed = listed; less = omega arith }))
    (rule_match limit (left limit fs c) limit (left limit fs c) (decided limit) follows s fs c))
  where
    follows : Follows limit (left limit fs c) limit (left limit fs c) (decided limit)
    follows t gs n =
        matches_weaker limit limit (IsDeep limit (left limit fs c) t gs n → ⊥) (IsDeep limit (left limit fs c) t gs n → ⊥)
        (left limit gs n < suc (left limit gs n)) (left limit gs n < left limit fs c) n (solved_within limit (left limit fs c) t gs n)
        (decided limit t gs n) (λ same. same) (λ less more. omega arith)
        (depths_match limit (left limit fs c) limit (suc (left limit gs n)) t gs n)

-- decisions with two limits match
pub exact_match : (fs : List (Linear ℕ)) (limit other : ℕ) →
    Matches limit other (AllKept fs → ⊥) (Unit {0}) 0 (exact fs limit) (exact fs other)
unfolding exact
exact_match fs limit other =
    go_on_matches limit other (AllKept fs → ⊥) (Unit {0}) 0 (entered limit (map Enter fs) 0) (entered other (map Enter fs) 0)
    (or_refuted (solved_within limit (enough limit fs) (above_all fs))) (or_refuted (solved_within other (enough other fs) (above_all fs)))
    (entered_matches limit other (AllKept fs → ⊥) (Unit {0}) (map Enter fs) 0)
    (λ n x e more back. exact_step fs limit other n x e (λ within. back within tt))
  where
    exact_step : (fs : List (Linear ℕ)) (limit other n : ℕ) (x : Option (List (Linear ℕ))) → entered limit (map Enter fs) 0 ≡ Done n x →
        (n ≤ other → entered other (map Enter fs) 0 ≡ Done n x) →
        Matches limit other (AllKept fs → ⊥) (Unit {0}) n (or_refuted (solved_within limit (enough limit fs) (above_all fs)) n x)
        (or_refuted (solved_within other (enough other fs) (above_all fs)) n x)
    exact_step fs limit other n None e back = done_matches limit other (AllKept fs → ⊥) (Unit {0}) n None
    exact_step fs limit other n (Some gs) e back =
        let given = forms_given fs in
        matches_weaker limit other (IsDeep limit (enough limit fs) (above_all fs) gs n → ⊥) (AllKept fs → ⊥)
        (left other gs n < enough other fs) (Unit {0}) n
        (solved_within limit (enough limit fs) (above_all fs) gs n) (solved_within other (enough other fs) (above_all fs) gs n)
        (λ never kept.
        let goes = entered_left limit (map Enter fs) 0 n gs e in
        never (record {
          listed = entered_listed (above_all fs) limit (map Enter fs) 0 n gs (given_good fs kept) e;
          less = omega (arith, goes, given);
        }))
        (λ within none. let goes = entered_left other (map Enter fs) 0 n gs (back within) in omega (arith, goes, given))
        (depths_match limit (enough limit fs) other (enough other fs) (above_all fs) gs n)

-- where neither the count nor the range stops it, it comes to an answer
pub exact_answers : (fs : List (Linear ℕ)) (limit : ℕ) → AllKept fs → exact fs limit ≡ Shallow → ⊥
exact_answers fs limit kept e =
    subst (λ a. Matches limit limit (AllKept fs → ⊥) (Unit {0}) 0 a (exact fs limit)) e (exact_match fs limit limit) kept

-- an answer's count is within the limit
pub count_is_within : (fs : List (Linear ℕ)) (limit c : ℕ) (answer : Option Values) → exact fs limit ≡ Done c answer → c ≤ limit
count_is_within fs limit c answer e =
    let h = subst (λ a. Matches limit limit (AllKept fs → ⊥) (Unit {0}) 0 a (exact fs limit)) e (exact_match fs limit limit) in
    h.1 (omega arith)

-- each limit that isn't below an answer's count gives this answer
pub limit_does_not_matter : (fs : List (Linear ℕ)) (limit other c : ℕ) (answer : Option Values) → exact fs limit ≡ Done c answer →
    c ≤ other → exact fs other ≡ Done c answer
limit_does_not_matter fs limit other c answer e within =
    let h = subst (λ a. Matches limit other (AllKept fs → ⊥) (Unit {0}) 0 a (exact fs other)) e (exact_match fs limit other) in
    h.2 within tt
