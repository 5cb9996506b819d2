-- The line of a term makes it, and a part without a number stands before it.
use Rattle.sm_write.proofs.Imports.{◌≡◌, ◌⊎◌, inl, inr, ℕ, ◌<◌, ◌^◌, Bool, true, ◌&&◌, if◌then◌else◌, is_some, Option, Some, None, slice_get, length, Result, Ok, Err, List, ap, sym, subst, ◌∙◌, arith, Num, Arr, TableValue, trees_in, sorts_in, codes_in, tree_at, tree_in, IsTermWithin, TermId, Tree, Start, Read, Write, Neg, Add, State, found_or, tested_or, Word, BadNumber, First, with_tree, IsLineOf, IsOpenPart, IsBuilt, Seen, Names, AreNames, below_if_got}
use Rattle.sm_syntax.specs.declared.tree.Name.{Name}
use Rattle.sm_term.specs.declared.term.Term.TheVariants as row
use Rattle.sm_term.specs.Fitting.{term_fits, has_sort}
use Rattle.sm_term.specs.declared.term.Term.{Term}
use Rattle.sm_proof.specs.declared.line.TermLine.TheVariants as line
use Rattle.sm_proof.specs.declared.word.Head.TheVariants as head

-- term n of a table is this row
pub record IsRow (v : TableValue) (n : ℕ) (u : Term) : Type 0 where
  pub tree : tree_in (codes_in v) (trees_in v) u ≡ tree_at (trees_in v) n
  pub within : IsTermWithin (sorts_in v) (length (codes_in v)) n u
  pub fits : term_fits (sorts_in v) (trees_in v) u ≡ true

pub is_row : (v : TableValue) (n : ℕ) (t u : Term) → t ≡ u → tree_in (codes_in v) (trees_in v) t ≡ tree_at (trees_in v) n →
    IsTermWithin (sorts_in v) (length (codes_in v)) n t → term_fits (sorts_in v) (trees_in v) t ≡ true → IsRow v n u
is_row v n t u e tree within fits = subst (IsRow v n) e (record { tree = tree; within = within; fits = fits })

-- what is named is there
there_then : (terms : List Tree) (k : ℕ) (t : Tree) (next : Tree → Result Tree Word) → slice_get terms k ≡ Some t →
    with_tree terms k next ≡ next t
there_then terms k t next e = ap (λ (o : Option Tree). found_or o BadNumber next) e

tested_then : (b : Bool) (w : Word) (r : Result Tree Word) → b ≡ true → tested_or b w r ≡ r
tested_then b w r e = ap (λ (c : Bool). if c then r else Err w) e

-- numbers of terms in a file are small
small : (trees : List Tree) (names : Names) (terms : List Tree) → AreNames trees names terms → (t : ℕ) (n : TermId) → names t ≡ Some n →
    n.0 < 2 ^ 64
small trees names terms are t n e =
    let below = below_if_got terms n.0 (tree_at trees t) (are.right t n e).1 in
    let few = are.few in
    omega (arith, below, few)

module _ (v : TableValue) (names : Names) (n : ℕ) where
  pub start_line : (x : Name) → x.0 < 2 ^ 64 → IsRow v n (row.Start x) → IsLineOf v names n (line.Start x.0)
  start_line x low at terms due are other = (
    low,
    tested_then (is_some (sorts_in v x.0)) BadNumber (Ok (Start x.0)) at.within ∙ ap (λ (t : Tree). Ok t) at.tree,
  )

  pub read_line : (a i b j : TermId) → IsRow v n (row.Read a i) → names a.0 ≡ Some b → names i.0 ≡ Some j →
      IsLineOf v names n (line.Read b.0 j.0)
  read_line a i b j at e f terms due are other = (
    (small (trees_in v) names terms are a.0 b e, small (trees_in v) names terms are i.0 j f),
    there_then terms b.0 (tree_at (trees_in v) a.0) _ (are.right a.0 b e).1
        ∙ (there_then terms j.0 (tree_at (trees_in v) i.0) _ (are.right i.0 j f).1
        ∙ (tested_then (has_sort (sorts_in v) (trees_in v) a Arr && has_sort (sorts_in v) (trees_in v) i Num) (First head.T)
        (Ok (Read (tree_at (trees_in v) a.0) (tree_at (trees_in v) i.0))) at.fits
        ∙ ap (λ (t : Tree). Ok t) at.tree)),
  )

  pub write_line : (a i d b j g : TermId) → IsRow v n (row.Write a i d) → names a.0 ≡ Some b → names i.0 ≡ Some j → names d.0 ≡ Some g →
      IsLineOf v names n (line.Write b.0 j.0 g.0)
  write_line a i d b j g at e f h terms due are other = (
    (
      small (trees_in v) names terms are a.0 b e,
      small (trees_in v) names terms are i.0 j f,
      small (trees_in v) names terms are d.0 g h,
    ),
    there_then terms b.0 (tree_at (trees_in v) a.0) _ (are.right a.0 b e).1
        ∙ (there_then terms j.0 (tree_at (trees_in v) i.0) _ (are.right i.0 j f).1
        ∙ (there_then terms g.0 (tree_at (trees_in v) d.0) _ (are.right d.0 g h).1
        ∙ (tested_then
        (has_sort (sorts_in v) (trees_in v) a Arr
        && (has_sort (sorts_in v) (trees_in v) i Num && has_sort (sorts_in v) (trees_in v) d Num)) (First head.T)
        (Ok (Write (tree_at (trees_in v) a.0) (tree_at (trees_in v) i.0) (tree_at (trees_in v) d.0))) at.fits
        ∙ ap (λ (t : Tree). Ok t) at.tree))),
  )

  pub neg_line : (a b : TermId) → IsRow v n (row.Neg a) → names a.0 ≡ Some b → IsLineOf v names n (line.Neg b.0)
  neg_line a b at e terms due are other = (
    small (trees_in v) names terms are a.0 b e,
    there_then terms b.0 (tree_at (trees_in v) a.0) _ (are.right a.0 b e).1
        ∙ (tested_then (has_sort (sorts_in v) (trees_in v) a Num) (First head.T) (Ok (Neg (tree_at (trees_in v) a.0))) at.fits
        ∙ ap (λ (t : Tree). Ok t) at.tree),
  )

  pub add_line : (a i b j : TermId) → IsRow v n (row.Add a i) → names a.0 ≡ Some b → names i.0 ≡ Some j →
      IsLineOf v names n (line.Add b.0 j.0)
  add_line a i b j at e f terms due are other = (
    (small (trees_in v) names terms are a.0 b e, small (trees_in v) names terms are i.0 j f),
    there_then terms b.0 (tree_at (trees_in v) a.0) _ (are.right a.0 b e).1
        ∙ (there_then terms j.0 (tree_at (trees_in v) i.0) _ (are.right i.0 j f).1
        ∙ (tested_then (has_sort (sorts_in v) (trees_in v) a Num && has_sort (sorts_in v) (trees_in v) i Num) (First head.T)
        (Ok (Add (tree_at (trees_in v) a.0) (tree_at (trees_in v) i.0))) at.fits
        ∙ ap (λ (t : Tree). Ok t) at.tree)),
  )

  -- parts
  part_of : (a : TermId) (p : ℕ) → p ≡ a.0 → a.0 < n → names p ≡ None →
      ((seen : List State) → IsBuilt (Seen seen) (tree_at (trees_in v) n) → IsBuilt (Seen seen) (tree_at (trees_in v) a.0)) →
      IsOpenPart v names n p
  part_of a p same before none built = record {
    before = subst (λ (q : ℕ). q < n) (sym same) before;
    unnamed = none;
    built = λ (seen : List State) (b : IsBuilt (Seen seen) (tree_at (trees_in v) n)).
        subst (λ (q : ℕ). IsBuilt (Seen seen) (tree_at (trees_in v) q)) (sym same) (built seen b);
  }

  pub add_part : (a i : TermId) (p : ℕ) → IsRow v n (row.Add a i) → (p ≡ a.0) ⊎ (p ≡ i.0) → names p ≡ None → IsOpenPart v names n p
  add_part a i p at (inl e) none =
      part_of a p e at.within.0 none
      (λ (seen : List State) (b : IsBuilt (Seen seen) (tree_at (trees_in v) n)). (subst (IsBuilt (Seen seen)) (sym at.tree) b).0)
  add_part a i p at (inr e) none =
      part_of i p e at.within.1 none
      (λ (seen : List State) (b : IsBuilt (Seen seen) (tree_at (trees_in v) n)). (subst (IsBuilt (Seen seen)) (sym at.tree) b).1)
