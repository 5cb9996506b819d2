-- Formulas of terms that are made.
use Rattle.sm_template.proofs.Imports.{◌≡◌, ℕ, ◌<◌, Some, length, slice_get, sym, ap, ◌∙◌, subst, Copy, Sort, Num, NumberedFormula, numbered, assertion_in, IsFormulaWithin, Formula, tree_sort, TableValue, trees_in, sorts_in, tree_at, Tree, tree_got, there, place, place_sorted, IsFormMade, keeps_change, adds_nothing}
use Rattle.sm_syntax.specs.claim.ConflictFree.{O, A, B, M}
use Rattle.sm_term.specs.Assertions as plain
use Rattle.sm_term.specs.Formulas as over

module _ (v : TableValue) where
  -- a number has a tree
  abbrev pub Has : ℕ → Tree → Type 0
  Has n t = slice_get (trees_in v) n ≡ Some t

  -- an equation
  pub equation_made : (f : Formula) (n m : ℕ) (sort : Sort) (t u : Tree) → numbered f ≡ over.Eq n m → Has n t → Has m u →
      tree_sort (sorts_in v) t ≡ sort → IsFormMade v f (plain.Eq sort t u)
  equation_made f n m sort t u e h g s = (
    subst (IsFormulaWithin (length (trees_in v))) (sym e) (there (trees_in v) n t h, there (trees_in v) m u g),
    ap (assertion_in (sorts_in v) (trees_in v)) e
        ∙ (λ k.
        plain.Eq ((ap (tree_sort (sorts_in v)) (tree_got (trees_in v) n t h) ∙ s) k) (tree_got (trees_in v) n t h k)
        (tree_got (trees_in v) m u g k)),
  )

  -- the goals of a name
  module _ (name : ℕ × Sort) (known : sorts_in v name.0 ≡ Some name.1) where
    abbrev At : ℕ → Copy → Type 0
    At n c = slice_get (trees_in v) n ≡ Some (place name c)

    sort_at : (n : ℕ) (c : Copy) → At n c → tree_sort (sorts_in v) (tree_at (trees_in v) n) ≡ Num
    sort_at n c h =
        ap (tree_sort (sorts_in v)) (tree_got (trees_in v) n (place name c) h)
        ∙ (place_sorted (sorts_in v) name.0 name.1 c known).1

    tree_here : (n : ℕ) (c : Copy) → At n c → tree_at (trees_in v) n ≡ place name c
    tree_here n c h = tree_got (trees_in v) n (place name c) h

    here : (n : ℕ) (c : Copy) → At n c → n < length (trees_in v)
    here n c h = there (trees_in v) n (place name c) h

    pub keeps_made : (f : Formula) (c : Copy) (t u a b : ℕ) → numbered f ≡ over.Or (over.Eq t u) (over.Eq a b) →
        At t O → At u c → At a M → At b c → IsFormMade v f (keeps_change (place name) c)
    keeps_made f c t u a b e ht hu ha hb = (
      subst (IsFormulaWithin (length (trees_in v))) (sym e) ((here t O ht, here u c hu), (here a M ha, here b c hb)),
      ap (assertion_in (sorts_in v) (trees_in v)) e
          ∙ (λ k.
          plain.Or (plain.Eq (sort_at t O ht k) (tree_here t O ht k) (tree_here u c hu k))
          (plain.Eq (sort_at a M ha k) (tree_here a M ha k) (tree_here b c hb k))),
    )

    pub adds_made : (f : Formula) (t u a b m o : ℕ) → numbered f ≡ over.Or (over.Ne t u) (over.Or (over.Ne a b) (over.Eq m o)) →
        At t O → At u A → At a A → At b B → At m M → At o O → IsFormMade v f (adds_nothing (place name))
    adds_made f t u a b m o e ht hu ha hb hm ho = (
      subst (IsFormulaWithin (length (trees_in v))) (sym e)
          ((here t O ht, here u A hu), ((here a A ha, here b B hb), (here m M hm, here o O ho))),
      ap (assertion_in (sorts_in v) (trees_in v)) e
          ∙ (λ k.
          plain.Or (plain.Ne (sort_at t O ht k) (tree_here t O ht k) (tree_here u A hu k))
          (plain.Or (plain.Ne (sort_at a A ha k) (tree_here a A ha k) (tree_here b B hb k))
          (plain.Eq (sort_at m M hm k) (tree_here m M hm k) (tree_here o O ho k)))),
    )
