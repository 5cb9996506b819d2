-- The first of a list that gives a split, found one by one.
use Rattle.sm_judge.proofs.Imports.{◌≡◌, ◌+◌, ◌<◌, ◌≤◌, Option, Some, None, List, ◌∷◌, length, get_or, drop, refl, sym, ap, ◌∙◌, drop_more, drop_all, Sorts, Tree, Assertion, numbered, assertion_in, Formula, or_other, BranchSplit, Split, first_of, all_numbered, assertions_in, split_in, split_told}
use Rattle.std.proofs.Common.{ℕ}

-- what isn't there splits nothing
split_none : (sorts : Sorts) (trees : List Tree) (o : Option (Formula × Formula)) → ((s : Formula × Formula) → o ≡ Some s → ⊥) →
    split_in sorts trees o ≡ None
split_none sorts trees None h = refl
split_none sorts trees (Some s) h = absurd (h s refl)

-- of a list whose first element splits something, or nothing
module _ (sorts : Sorts) (trees : List Tree) {S : Type 0} (gives : S → Option Split) (s : S) (rest : List S) where
  here : (p : Formula × Formula) → split_in sorts trees (Some p) ≡ gives s → split_in sorts trees (Some p) ≡ first_of gives (s ∷ rest)
  here p is = ap (λ (o : Option Split). or_other o (first_of gives rest)) is

  next : (o : Option (Formula × Formula)) → split_in sorts trees o ≡ gives s → ((p : Formula × Formula) → o ≡ Some p → ⊥) →
      first_of gives rest ≡ first_of gives (s ∷ rest)
  next o is none =
      ap (λ (q : Option Split). or_other q (first_of gives rest)) (sym (split_none sorts trees o none) ∙ is)

-- terms one by one
module _ (sorts : Sorts) (trees : List Tree) {S : Type 0} (gives : S → Option Split) (xs : List S) (i : ℕ) (d : S) (inside : i < length xs)
    (before : first_of gives (drop i xs) ≡ first_of gives xs) where
  off : first_of gives (get_or xs i d ∷ drop (i + 1) xs) ≡ first_of gives xs
  off = ap (first_of gives) (sym (drop_more xs i d inside)) ∙ before

  pub term_here : (p : Formula × Formula) → split_in sorts trees (Some p) ≡ gives (get_or xs i d) →
      split_in sorts trees (Some p) ≡ first_of gives xs
  term_here p is = here sorts trees gives (get_or xs i d) (drop (i + 1) xs) p is ∙ off

  pub term_next : (o : Option (Formula × Formula)) → split_in sorts trees o ≡ gives (get_or xs i d) →
      ((p : Formula × Formula) → o ≡ Some p → ⊥) → first_of gives (drop (i + 1) xs) ≡ first_of gives xs
  term_next o is none = next sorts trees gives (get_or xs i d) (drop (i + 1) xs) o is none ∙ off

-- none splits anything
pub terms_end : (gives : Tree → Option Split) (xs : List Tree) (i : ℕ) → length xs ≤ i → first_of gives (drop i xs) ≡ first_of gives xs →
    None ≡ first_of gives xs
terms_end gives xs i h before = ap (first_of gives) (sym (drop_all i xs h)) ∙ before

-- the formulas from a place on
abbrev pub left : Sorts → List Tree → List Formula → ℕ → List Assertion
left sorts trees facts n = assertions_in sorts trees (all_numbered (drop n facts))

-- what the formulas from a place on give, all give
abbrev pub GiveAsAll : Sorts → List Tree → (Assertion → Option Split) → List Formula → ℕ → Type 0
GiveAsAll sorts trees gives facts n =
    first_of gives (left sorts trees facts n) ≡ first_of gives (assertions_in sorts trees (all_numbered facts))

-- formulas one by one
module _ (sorts : Sorts) (trees : List Tree) (gives : Assertion → Option Split) (facts : List Formula) (i : ℕ) (f : Formula)
    (inside : i < length facts) (is : f ≡ get_or facts i f) (before : GiveAsAll sorts trees gives facts i) where
  split_off : left sorts trees facts i ≡ assertion_in sorts trees (numbered f) ∷ left sorts trees facts (i + 1)
  split_off =
      ap (λ (fs : List Formula). assertions_in sorts trees (all_numbered fs)) (drop_more facts i f inside)
      ∙ ap (λ (g : Formula). assertion_in sorts trees (numbered g) ∷ left sorts trees facts (i + 1)) (sym is)

  rest_too : first_of gives (assertion_in sorts trees (numbered f) ∷ left sorts trees facts (i + 1))
      ≡ first_of gives (assertions_in sorts trees (all_numbered facts))
  rest_too = ap (first_of gives) (sym split_off) ∙ before

  pub fact_here : (p : Formula × Formula) → split_in sorts trees (Some p) ≡ gives (assertion_in sorts trees (numbered f)) →
      split_in sorts trees (Some p) ≡ first_of gives (assertions_in sorts trees (all_numbered facts))
  fact_here p from = here sorts trees gives (assertion_in sorts trees (numbered f)) (left sorts trees facts (i + 1)) p from ∙ rest_too

  pub fact_next : (o : Option (Formula × Formula)) → split_in sorts trees o ≡ gives (assertion_in sorts trees (numbered f)) →
      ((p : Formula × Formula) → o ≡ Some p → ⊥) → GiveAsAll sorts trees gives facts (i + 1)
  fact_next o from none =
      next sorts trees gives (assertion_in sorts trees (numbered f)) (left sorts trees facts (i + 1)) o from none ∙ rest_too

-- none splits anything
pub facts_end : (sorts : Sorts) (trees : List Tree) (gives : Assertion → Option Split) (facts : List Formula) (i : ℕ) → length facts ≤ i →
    GiveAsAll sorts trees gives facts i → None ≡ first_of gives (assertions_in sorts trees (all_numbered facts))
facts_end sorts trees gives facts i h before =
    ap (λ (fs : List Formula). first_of gives (assertions_in sorts trees (all_numbered fs))) (sym (drop_all i facts h)) ∙ before

-- a split of the first kind, or else one of another
pub first_wins : (sorts : Sorts) (trees : List Tree) (s : BranchSplit) (first rest : Option Split) →
    split_told sorts trees (Some s) ≡ first → split_told sorts trees (Some s) ≡ or_other first rest
first_wins sorts trees s first rest is = ap (λ (o : Option Split). or_other o rest) is

pub second_wins : (sorts : Sorts) (trees : List Tree) (o : Option BranchSplit) (first rest split : Option Split) →
    split_told sorts trees o ≡ first → ((s : BranchSplit) → o ≡ Some s → ⊥) → split ≡ rest → split ≡ or_other first rest
second_wins sorts trees None first rest split is none second = second ∙ ap (λ (q : Option Split). or_other q rest) is
second_wins sorts trees (Some s) first rest split is none second = absurd (none s refl)
