-- The places of steps are there, and the terms of a table are well sorted.
use Rattle.sm_cc.proofs.Imports.{◌≡◌, ℕ, ◌<◌, ◌+◌, zero, suc, pos, List, [], ◌∷◌, ◌++◌, map, length, slice_get, Option, Some, None, refl, sym, ap, ◌∙◌, subst, arith, ⊎_elim, int_eq, slice_get_within, Tree, Lit, tree_at, TermId, CertLine, Step, shapes_pass, Placed, Derives, Rule, IsGiven, IsStated, StepsFollow, step_says, left_of, right_of, AreStepsIn, IsLineOf, AreLinesOf, one_thing}
use Rattle.std.specs.Option.{option_map}
use Rattle.sm_cc.specs.declared.log.Rule.TheVariants as rule
use Rattle.sm_cc.specs.Rows.{Row}
use Rattle.sm_cc.specs.Log.{Known, Equal, Unequal}
use Rattle.sm_cc.specs.Views.{trees_of}
use Rattle.sm_cc.proofs.ExplainingLemmas.{pass_gives}

-- the places of what is known are below a number
abbrev pub AreInside : ℕ → Known → Type 0
AreInside n k = (left_of k < n) × (right_of k < n)

-- what a rule gives is of places that are there
derives_inside : (rows : List Row) (has : ℕ → Known → Type 0) →
    ((n : ℕ) (k : Known) → has n k → AreInside (length rows) k) →
    (r : Rule) (k : Known) → Derives rows has r k → AreInside (length rows) k
derives_inside rows has inside rule.Refl (Equal i j) d = (d.1, subst (λ (n : ℕ). n < length rows) d.0 d.1)
derives_inside rows has inside (rule.Sym n) (Equal i j) d = let g = inside n (Equal j i) d in (g.1, g.0)
derives_inside rows has inside (rule.Sym n) (Unequal i j) d = let g = inside n (Unequal j i) d in (g.1, g.0)
derives_inside rows has inside (rule.Trans m n) (Equal i j) d =
    let g = inside m (Equal i d.0) d.1 in
    let h = inside n (Equal d.0 j) d.2 in
    (g.0, h.1)
derives_inside rows has inside (rule.Subst m n) (Unequal i j) d =
    let g = inside m (Unequal d.0 j) d.1 in
    let h = inside n (Equal d.0 i) d.2 in
    (h.1, g.1)
derives_inside rows has inside rule.Alike (Equal i j) d =
    let g = pass_gives rows i j (λ r s. shapes_pass r s int_eq) d in
    (slice_get_within rows i g.0 g.2, slice_get_within rows j g.1 g.3)
derives_inside rows has inside rule.Apart (Unequal i j) d =
    let g = pass_gives rows i j _ d in
    (slice_get_within rows i g.0 g.2, slice_get_within rows j g.1 g.3)
derives_inside rows has inside (rule.Cong ns) (Equal i j) d =
    (slice_get_within rows i d.0 d.2, slice_get_within rows j d.1 d.3)
derives_inside rows has inside (rule.Hit n) (Equal i j) d = (slice_get_within rows i d.1.0 d.1.1, d.2)
derives_inside rows has inside (rule.Miss n) (Equal i j) d = (slice_get_within rows i d.1.0 d.1.1, d.2)
derives_inside rows has inside r k d = absurd d

-- what a step says is what is known by it
step_said : (steps : List Step) (n : ℕ) (k : Known) → step_says steps n ≡ Some k →
    (s : Step) × (slice_get steps n ≡ Some s) × (s.known ≡ k)
step_said steps n k h = by (slice_get steps n) refl h
  where
    by : (o : Option Step) → slice_get steps n ≡ o → option_map (λ (s : Step). s.known) o ≡ Some k →
        (s : Step) × (slice_get steps n ≡ Some s) × (s.known ≡ k)
    by None e h = absurd cc
    by (Some s) e h = (s, e, one_thing s.known k h)

module _ (p : Placed) (start : ℕ) (steps : List Step) (follow : StepsFollow p start steps)
    (given : (n : ℕ) (k : Known) → IsGiven p n k → AreInside (length p.board.rows) k) where
  -- the first steps are of places that are there
  first_inside : (bound m : ℕ) → m < bound → (s : Step) → slice_get steps m ≡ Some s → AreInside (length p.board.rows) s.known
  first_inside zero m h s e = absurd (omega arith)
  first_inside (suc bound) m h s e =
      derives_inside p.board.rows (IsStated p start steps m)
      (λ (n : ℕ) (k : Known) (stated : IsStated p start steps m n k).
      ⊎_elim (λ (g : IsGiven p n k). given n k g)
      (λ (x : (j : ℕ) × (n ≡ start + j) × (j < m) × (step_says steps j ≡ Some k)).
      let said = step_said steps x.0 k x.3 in
      let less : x.0 < bound = omega (arith, x.2, h) in
      subst (AreInside (length p.board.rows)) said.2 (first_inside bound x.0 less said.0 said.1)) stated)
      s.rule s.known (follow m s e)

  -- all steps are of places that are there
  pub steps_inside : AreStepsIn (length p.board.rows) steps
  steps_inside m s e = let less : m < suc m = omega arith in first_inside (suc m) m less s e

-- what is so of each tree of a table, and of the number 0, is so of a tree by any number
pub each_tree : (P : Tree → Type 0) → P (Lit (pos 0)) → (trees : List Tree) →
    ((n : ℕ) → n < length trees → P (tree_at trees n)) → (n : ℕ) → P (tree_at trees n)
each_tree P none [] all n = none
each_tree P none (t ∷ ts) all zero = all 0 (omega arith)
each_tree P none (t ∷ ts) all (suc n) = each_tree P none ts (λ m h. all (suc m) (omega (arith, h))) n

-- what is so of the trees by all numbers is so of the tree of each term of a list
pub each_term : (P : Tree → Type 0) (trees : List Tree) → ((n : ℕ) → P (tree_at trees n)) → (terms : List TermId) →
    (i : ℕ) (t : Tree) → slice_get (trees_of trees terms) i ≡ Some t → P t
each_term P trees all [] i t e = absurd cc
each_term P trees all (x ∷ terms) zero t e = subst P (one_thing (tree_at trees x.0) t e) (all x.0)
each_term P trees all (x ∷ terms) (suc i) t e = each_term P trees all terms i t e

-- one line more names terms of the list
lines_push : (terms : List TermId) (ls : List CertLine) (l : CertLine) → AreLinesOf terms ls → IsLineOf terms l →
    AreLinesOf terms (ls ++ l ∷ [])
lines_push terms [] l all one = (one, tt)
lines_push terms (x ∷ ls) l all one = (all.0, lines_push terms ls l all.1 one)

pub lines_of_push : (terms : List TermId) (ls : List CertLine) (l : CertLine) (more : List CertLine) → AreLinesOf terms ls →
    IsLineOf terms l → more ≡ ls ++ l ∷ [] → AreLinesOf terms more
lines_of_push terms ls l more all one e = subst (AreLinesOf terms) (sym e) (lines_push terms ls l all one)
