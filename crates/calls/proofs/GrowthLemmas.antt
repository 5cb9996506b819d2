-- Tables that go on from others, and rows that they take from one another.
use Rattle.calls.proofs.Imports.{◌≡◌, ℕ, List, length, take, refl, ap, sym, ◌∙◌, subst, take_at, Tree, TableValue, trees_in, sorts_in}
use Rattle.sm_term.specs.declared.tails.TermRows.{TermRows}
use Rattle.sm_term.specs.Tails.{AreRowsSound}
use Rattle.calls.specs.Scenes.{Continues}

-- the first terms are there still
pub first_terms : (u v : TableValue) → Continues u v → take (length (trees_in u)) (trees_in v) ≡ trees_in u
first_terms u v (s, (more, e)) = ap (take (length (trees_in u))) e ∙ take_at (trees_in u) more (length (trees_in u)) refl

-- rows of a table that goes on from another suit a third that does
pub rows_suit : (u v w : TableValue) (from : ℕ) (rows : TermRows) → from ≡ length (trees_in u) → Continues u v → Continues u w
    → AreRowsSound (sorts_in v) (take from (trees_in v)) rows → AreRowsSound (sorts_in w) (take from (trees_in w)) rows
rows_suit u v w from rows e one two sound =
    let first : take from (trees_in v) ≡ take from (trees_in w) =
    ap (λ (n : ℕ). take n (trees_in v)) e ∙ first_terms u v one ∙ sym (ap (λ (n : ℕ). take n (trees_in w)) e ∙ first_terms u w two) in
    let sorts : sorts_in v ≡ sorts_in w = one.0 ∙ sym two.0 in
    subst (λ s. AreRowsSound s (take from (trees_in w)) rows) sorts
    (subst (λ (ts : List Tree). AreRowsSound (sorts_in v) ts rows) first sound)
