-- A rule, by two solvers that match, with two limits: the first solves to a depth, the second is any.
use Rattle.sm_omega.proofs.Imports.{◌≡◌, ◌<◌, ◌≤◌, ◌==◌, ℕ, zero, suc, ◌+◌, ℤ, pos, neg_ℤ, nat_abs, Bool, true, false, if◌then◌else◌, Option, Some, None, List, [], ◌∷◌, ◌++◌, map, length, refl, arith, list_any, Linear, Outcome, Done, Item, Count, entered, Values, at, has, others, lower_bounds, upper_bounds, least_variable, Answer, Solver, or_refuted, solved, giving, first_equation, least_part, eliminated_item, modular, modular_item, value_by, by_equation, shadows, standing, greatest_at, splinters_at, splinter, by_splinters, by_all_splinters, greatest_bound, least_bound, by_bounds, by_variable, by_least, by_first, by_rule, solved_within}
use Rattle.sm_omega.proofs.Predicates.{IsGood, IsListed, AreListed, IsGoodItem, AreGoodItems}
use Rattle.sm_omega.proofs.EachLemmas.{each_append}
use Rattle.sm_omega.proofs.ListedLemmas.{each_lower, each_upper, each_others, entered_listed, standing_good, eliminated_items_good, modular_items_good, modular_good, shadows_good, splinter_good}
use Rattle.sm_omega.proofs.FoundLemmas.{found_is, found_long, least_is_part, has_part, least_some, others_fewer}
use Rattle.sm_omega.proofs.Progress.{left, forms_in, counts_in, entered_left, eliminated_fewer, modular_fewer, dark_fewer, splinter_fewer, stuck_variable, shallow_variable, stuck_equation, shallow_equation}
use Rattle.sm_omega.proofs.MatchLemmas.{Matches, done_matches, shallow_matches, matches_weaker, go_on_matches, result_matches, entered_matches, giving_matches, or_else_matches}

-- a depth is enough for a list
pub record IsDeep (limit depth s : ℕ) (fs : List (Linear ℕ)) (c : ℕ) : Type 0 where
  pub listed : AreListed s fs
  pub less : left limit fs c < depth

-- a solver matches what a depth solves: the first gives up only where its depth isn't enough
abbrev pub Follows : (limit depth other deep : ℕ) → Solver → Type 0
Follows limit depth other deep solve =
    (s : ℕ) (fs : List (Linear ℕ)) (c : ℕ) →
    Matches limit other (IsDeep limit depth s fs c → ⊥) (left other fs c < deep) c (solved_within limit depth s fs c) (solve s fs c)

module _ (limit depth other deep : ℕ) (solve : Solver) (follows : Follows limit depth other deep solve) (s : ℕ)
    (fs : List (Linear ℕ)) (c : ℕ) where
  -- what is to be shown of a rule, from a count on
  abbrev RuleMatches : ℕ → Answer → Answer → Type 0
  RuleMatches r a b = Matches limit other (IsDeep limit (suc depth) s fs c → ⊥) (left other fs c < suc deep) r a b

  -- a list with less left
  next_matches : (next : ℕ) (gs : List (Linear ℕ)) (n : ℕ) → (AreListed s fs → AreListed next gs) →
      (left limit fs c < suc depth → left limit gs n < depth) →
      (n ≤ other → left other fs c < suc deep → left other gs n < deep) →
      RuleMatches n (solved_within limit depth next gs n) (solve next gs n)
  next_matches next gs n good first second =
      matches_weaker limit other (IsDeep limit depth next gs n → ⊥) (IsDeep limit (suc depth) s fs c → ⊥) (left other gs n < deep)
      (left other fs c < suc deep) n (solved_within limit depth next gs n) (solve next gs n)
      (λ not_deep deep_is. not_deep (record { listed = good deep_is.listed; less = first deep_is.less }))
      second (follows next gs n)

  -- what items make, of which fewer are forms than stand in the list and are counted
  items_match : (next : ℕ) (items : List Item) (r : ℕ) → c ≤ r → (AreListed s fs → AreGoodItems next items) →
      forms_in items < length fs + counts_in items →
      RuleMatches r (solved limit (solved_within limit depth next) items r) (solved other (solve next) items r)
  items_match next items r above good fewer =
      go_on_matches limit other (IsDeep limit (suc depth) s fs c → ⊥) (left other fs c < suc deep) r (entered limit items r)
      (entered other items r)
      (or_refuted (solved_within limit depth next)) (or_refuted (solve next))
      (entered_matches limit other (IsDeep limit (suc depth) s fs c → ⊥) (left other fs c < suc deep) items r) step
    where
      step : (n : ℕ) (x : Option (List (Linear ℕ))) → entered limit items r ≡ Done n x → r ≤ n →
          (n ≤ other → left other fs c < suc deep → entered other items r ≡ Done n x) →
          RuleMatches n (or_refuted (solved_within limit depth next) n x) (or_refuted (solve next) n x)
      step n None e more back =
          done_matches limit other (IsDeep limit (suc depth) s fs c → ⊥) (left other fs c < suc deep) n None
      step n (Some gs) e more back =
          next_matches next gs n (λ listed. entered_listed next limit items r n gs (good listed) e)
          (λ less. let goes = entered_left limit items r n gs e in omega (arith, less, goes, fewer, above))
          (λ within less. let goes = entered_left other items r n gs (back within less) in omega (arith, less, goes, fewer, above))

  -- a list without the forms that have a variable
  others_match : (t : ℕ) → list_any (has t) fs ≡ true →
      RuleMatches c (solved_within limit depth s (others t fs) c) (solve s (others t fs) c)
  others_match t some =
      let fewer = others_fewer t fs some in
      next_matches s (others t fs) c (λ listed. each_others (IsListed s) t fs listed) (λ less. omega (arith, less, fewer))
      (λ within less. omega (arith, less, fewer))

  -- values
  given_match : (r t : ℕ) (value : Values → Outcome ℤ) (a b : Answer) → RuleMatches r a b →
      RuleMatches r (giving t value a) (giving t value b)
  given_match r t value a b h =
      giving_matches limit other (IsDeep limit (suc depth) s fs c → ⊥) (left other fs c < suc deep) r t value a b h

  -- splinters
  splinters_match : (l : Linear ℕ) (n i : ℕ) (first second : ℕ → Answer) (r : ℕ) → c ≤ r → (AreListed s fs → IsGood s l) →
      ((m : ℕ) → r ≤ m → RuleMatches m (first m) (second m)) →
      RuleMatches r (by_splinters limit (solved_within limit depth s) fs l n i first r) (by_splinters other (solve s) fs l n i second r)
  splinters_match l zero i first second r above good next = next r (omega arith)
  splinters_match l (suc n) i first second r above good next =
      let items = standing fs ++ Count (splinter l i) ∷ [] in
      or_else_matches limit other (IsDeep limit (suc depth) s fs c → ⊥) (left other fs c < suc deep) r
      (solved limit (solved_within limit depth s) items r) (solved other (solve s) items r)
      (by_splinters limit (solved_within limit depth s) fs l n (suc i) first) (by_splinters other (solve s) fs l n (suc i) second)
      (items_match s items r above
      (λ listed. each_append (IsGoodItem s) (standing fs) (Count (splinter l i) ∷ []) (standing_good s fs listed)
      (splinter_good s l i (good listed), tt))
      (splinter_fewer fs (splinter l i)))
      (λ (m : ℕ) (more : r ≤ m). splinters_match l n (suc i) first second m (omega (arith, above, more)) good
      (λ (k : ℕ) (past : m ≤ k). next k (omega (arith, more, past))))

  -- those of all lower bounds
  all_splinters_match : (t : ℕ) (m : ℤ) (ls : List (Linear ℕ)) (r : ℕ) → c ≤ r → (AreListed s fs → AreListed s ls) →
      RuleMatches r (by_all_splinters limit (solved_within limit depth s) fs t m ls r) (by_all_splinters other (solve s) fs t m ls r)
  all_splinters_match t m [] r above good =
      done_matches limit other (IsDeep limit (suc depth) s fs c → ⊥) (left other fs c < suc deep) r None
  all_splinters_match t m (l ∷ ls) r above good =
      result_matches limit other (IsDeep limit (suc depth) s fs c → ⊥) (left other fs c < suc deep) r (splinters_at m (neg_ℤ (at t l)))
      (λ (n : ℕ). by_splinters limit (solved_within limit depth s) fs l n 0
      (by_all_splinters limit (solved_within limit depth s) fs t m ls) r)
      (λ (n : ℕ). by_splinters other (solve s) fs l n 0 (by_all_splinters other (solve s) fs t m ls) r)
      (λ (n : ℕ). splinters_match l n 0 (by_all_splinters limit (solved_within limit depth s) fs t m ls)
      (by_all_splinters other (solve s) fs t m ls) r above (λ listed. (good listed).0.good)
      (λ (k : ℕ) (more : r ≤ k). all_splinters_match t m ls k (omega (arith, above, more)) (λ listed. (good listed).1)))

  -- bounds of a variable that some form has
  bounds_match : (t : ℕ) (ls us : List (Linear ℕ)) → list_any (has t) fs ≡ true → (AreListed s fs → AreListed s ls) →
      (AreListed s fs → AreListed s us) →
      RuleMatches c (by_bounds limit (solved_within limit depth s) fs c t ls us) (by_bounds other (solve s) fs c t ls us)
  bounds_match t ls [] some lower upper =
      given_match c t (greatest_bound t ls) (solved_within limit depth s (others t fs) c) (solve s (others t fs) c) (others_match t some)
  bounds_match t [] (u ∷ us) some lower upper =
      given_match c t (least_bound t (u ∷ us)) (solved_within limit depth s (others t fs) c) (solve s (others t fs) c)
      (others_match t some)
  bounds_match t (l ∷ ls) (u ∷ us) some lower upper =
      let items = standing (others t fs) ++ shadows t (l ∷ ls) (u ∷ us) in
      let value = greatest_bound t (l ∷ ls) in
      or_else_matches limit other (IsDeep limit (suc depth) s fs c → ⊥) (left other fs c < suc deep) c
      (giving t value (solved limit (solved_within limit depth s) items c)) (giving t value (solved other (solve s) items c))
      (by_all_splinters limit (solved_within limit depth s) fs t (greatest_at t (u ∷ us)) (l ∷ ls))
      (by_all_splinters other (solve s) fs t (greatest_at t (u ∷ us)) (l ∷ ls))
      (given_match c t value (solved limit (solved_within limit depth s) items c) (solved other (solve s) items c)
      (items_match s items c (omega arith)
      (λ listed. each_append (IsGoodItem s) (standing (others t fs)) (shadows t (l ∷ ls) (u ∷ us))
      (standing_good s (others t fs) (each_others (IsListed s) t fs listed))
      (shadows_good s t (l ∷ ls) (u ∷ us) (lower listed) (upper listed)))
      (dark_fewer t fs (others t fs) (l ∷ ls) (u ∷ us) (others_fewer t fs some))))
      (λ (k : ℕ) (more : c ≤ k). all_splinters_match t (greatest_at t (u ∷ us)) (l ∷ ls) k more lower)

  -- a variable
  variable_match : (t : ℕ) → first_equation fs ≡ None → least_variable fs ≡ Some t →
      RuleMatches c (by_variable limit (solved_within limit depth s) fs c t) (by_variable other (solve s) fs c t)
  variable_match t bounds least = by (list_any (has t) fs) refl
    where
      by : (b : Bool) → list_any (has t) fs ≡ b →
          RuleMatches c (by_variable limit (solved_within limit depth s) fs c t) (by_variable other (solve s) fs c t)
      by true some =
          bounds_match t (lower_bounds t fs) (upper_bounds t fs) some (λ listed. each_lower (IsListed s) t fs listed)
          (λ listed. each_upper (IsListed s) t fs listed)
      by false none =
          shallow_matches limit other (IsDeep limit (suc depth) s fs c → ⊥) (left other fs c < suc deep) c
          (by_variable limit (solved_within limit depth s) fs c t) (by_variable other (solve s) fs c t)
          (stuck_variable limit (solved_within limit depth s) fs c t none (shallow_variable limit depth s fs c t bounds least none))
          (λ deep_is. let both = least_some s fs t deep_is.listed least in let some = both.1 in absurd cc)

  -- a rule by the least variable, where there may be none
  least_match : (found : Option ℕ) → first_equation fs ≡ None → least_variable fs ≡ found →
      RuleMatches c (by_least limit (solved_within limit depth s) fs c found) (by_least other (solve s) fs c found)
  least_match None bounds least =
      done_matches limit other (IsDeep limit (suc depth) s fs c → ⊥) (left other fs c < suc deep) c (Some (λ (a : ℕ). pos 0))
  least_match (Some t) bounds least = variable_match t bounds least

  -- either of two
  either_match : (b : Bool) (x y v w : Answer) → (b ≡ true → RuleMatches c x y) → (b ≡ false → RuleMatches c v w) →
      RuleMatches c (if b then x else v) (if b then y else w)
  either_match true x y v w first second = first refl
  either_match false x y v w first second = second refl

  -- an equation with coefficient 1 goes
  unit_match : (e : Linear ℕ) (gs : List (Linear ℕ)) (t : ℕ) → first_equation fs ≡ Some (e, gs) →
      RuleMatches c (solved limit (solved_within limit depth s) (map (eliminated_item e t) gs) c)
      (solved other (solve s) (map (eliminated_item e t) gs) c)
  unit_match e gs t found =
      let long = found_long fs e gs found in
      let fewer = eliminated_fewer e t gs in
      items_match s (map (eliminated_item e t) gs) c (omega arith)
      (λ listed. let is = found_is (IsListed s) fs e gs listed found in eliminated_items_good s e t gs is.first.good is.rest)
      (omega (arith, long, fewer))

  -- by any other a modular step is made, of which some form is computed
  modular_match : (e : Linear ℕ) (gs : List (Linear ℕ)) (t : ℕ) (a : ℤ) → first_equation fs ≡ Some (e, gs) → list_any (has t) fs ≡ true →
      RuleMatches c (solved limit (solved_within limit depth (suc s)) (map (modular_item (modular t a s e) t) fs) c)
      (solved other (solve (suc s)) (map (modular_item (modular t a s e) t) fs) c)
  modular_match e gs t a found some =
      let d = modular t a s e in
      items_match (suc s) (map (modular_item d t) fs) c (omega arith)
      (λ listed. let is = found_is (IsListed s) fs e gs listed found in
      modular_items_good s d t fs (modular_good s t a e is.first.good) listed)
      (modular_fewer d t fs some)

  -- either of the two
  by_size_match : (e : Linear ℕ) (gs : List (Linear ℕ)) (part : ℕ × ℤ) → first_equation fs ≡ Some (e, gs) →
      ((nat_abs part.1 == 1) ≡ false → list_any (has part.0) fs ≡ true) →
      RuleMatches c (by_equation limit (solved_within limit depth) s fs c e gs part) (by_equation other solve s fs c e gs part)
  by_size_match e gs part found some =
      let t = part.0 in
      let a = part.1 in
      let d = modular t a s e in
      let first = solved limit (solved_within limit depth s) (map (eliminated_item e t) gs) c in
      let second = solved other (solve s) (map (eliminated_item e t) gs) c in
      let third = solved limit (solved_within limit depth (suc s)) (map (modular_item d t) fs) c in
      let last = solved other (solve (suc s)) (map (modular_item d t) fs) c in
      either_match (nat_abs a == 1) (giving t (value_by t e) first) (giving t (value_by t e) second) (giving t (value_by t d) third)
      (giving t (value_by t d) last)
      (λ size. given_match c t (value_by t e) first second (unit_match e gs t found))
      (λ size. given_match c t (value_by t d) third last (modular_match e gs t a found (some size)))

  -- an equation
  equation_match : (e : Linear ℕ) (gs : List (Linear ℕ)) → first_equation fs ≡ Some (e, gs) →
      RuleMatches c (by_equation limit (solved_within limit depth) s fs c e gs (least_part e.parts))
      (by_equation other solve s fs c e gs (least_part e.parts))
  equation_match e gs found =
      by (nat_abs (least_part e.parts).1 == 1) (list_any (has (least_part e.parts).0) fs) refl refl
    where
      by : (b x : Bool) → (nat_abs (least_part e.parts).1 == 1) ≡ b → list_any (has (least_part e.parts).0) fs ≡ x →
          RuleMatches c (by_equation limit (solved_within limit depth) s fs c e gs (least_part e.parts))
          (by_equation other solve s fs c e gs (least_part e.parts))
      by b true size some = by_size_match e gs (least_part e.parts) found (λ other_size. some)
      by true false size none = by_size_match e gs (least_part e.parts) found (λ other_size. absurd cc)
      by false false size none =
          shallow_matches limit other (IsDeep limit (suc depth) s fs c → ⊥) (left other fs c < suc deep) c
          (by_equation limit (solved_within limit depth) s fs c e gs (least_part e.parts))
          (by_equation other solve s fs c e gs (least_part e.parts))
          (stuck_equation limit (solved_within limit depth) s fs c e gs (least_part e.parts) size none
          (shallow_equation limit depth (suc s) fs c e gs found size none))
          (λ deep_is.
          let is = found_is (IsListed s) fs e gs deep_is.listed found in
          let some = is.any_of (has (least_part e.parts).0) (has_part s e (least_part e.parts) (least_is_part s e is.first)) in
          absurd cc)

  -- the first rule that applies
  first_match : (found : Option (Linear ℕ × List (Linear ℕ))) → first_equation fs ≡ found →
      RuleMatches c (by_first limit (solved_within limit depth) s fs c found) (by_first other solve s fs c found)
  first_match None e = least_match (least_variable fs) e refl
  first_match (Some found) e = equation_match found.0 found.1 e

  -- a rule by two solvers that match
  pub rule_match : Matches limit other (IsDeep limit (suc depth) s fs c → ⊥) (left other fs c < suc deep) c
      (solved_within limit (suc depth) s fs c) (by_rule other solve s fs c)
  rule_match = first_match (first_equation fs) refl
