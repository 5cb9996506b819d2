-- The first terms of classes are those with the first labels.
use Rattle.sm_judge.proofs.Imports.{◌≡◌, suc, pos, ◌==◌, ◌<◌, Bool, true, false, if◌then◌else◌, Option, Some, None, List, [], ◌∷◌, ◌++◌, drop, length, get_or, slice_get, refl, sym, ap, subst, ◌∙◌, arith, eq-eqb, slice_get-get_or, Sorts, Tree, Lit, tree_at, Pairs, TellClasses, first_label, noted_or, noted_first, noted_else, first_place, pair_with, pairs_of}
use Rattle.std.proofs.Common.{ℕ}
use Rattle.std.proofs.Math.Seq.{drop-cons}
use Rattle.std.proofs.lemmas.List.{append_assoc}

-- what is noted next is what is found next
noted_next : (o : Option ℕ) (b : Bool) (n : ℕ) (rest : Option ℕ) →
    noted_else (noted_first o b n) rest ≡ noted_else o (if b then Some n else rest)
noted_next (Some m) b n rest = refl
noted_next None true n rest = refl
noted_next None false n rest = refl

-- what is noted or found here is found
noted_here : (o : Option ℕ) (n : ℕ) → noted_else o (Some n) ≡ Some (noted_or o n)
noted_here (Some m) n = refl
noted_here None n = refl

-- a noted place is an earlier one or this one
noted_below : (bound n f : ℕ) (o : Option ℕ) (b : Bool) → n < bound → ((m : ℕ) → o ≡ Some m → m < bound) →
    noted_first o b n ≡ Some f → f < bound
noted_below bound n f (Some m) b here before is = before f is
noted_below bound n f None true here before is = let same : n ≡ f = cc in subst (λ (k : ℕ). k < bound) same here
noted_below bound n f None false here before is = let wrong : None ≡ Some f = is in absurd cc

-- the first place of a label is that of the first term that is equal to one with this label
same_firsts : (equal : Pairs) (t : Tree) (l n : ℕ) (ls : List ℕ) (us : List Tree) → length ls ≡ length us →
    ((i m : ℕ) (u : Tree) → slice_get ls i ≡ Some m → slice_get us i ≡ Some u → (m == l) ≡ equal u t) →
    first_label l n ls ≡ first_place equal t n us
same_firsts equal t l n [] [] count each = refl
same_firsts equal t l n [] (u ∷ us) count each = absurd (omega arith)
same_firsts equal t l n (m ∷ ms) [] count each = absurd (omega arith)
same_firsts equal t l n (m ∷ ms) (u ∷ us) count each =
    let less : length ms ≡ length us = omega arith in
    ap (λ (b : Bool). if b then Some n else first_label l (suc n) ms) (each 0 m u refl refl)
    ∙ ap (λ (o : Option ℕ). if equal u t then Some n else o)
    (same_firsts equal t l (suc n) ms us less (λ (i k : ℕ) (v : Tree). each (suc i) k v))

module _ (labels : List ℕ) (n next x : ℕ) (is_next : next ≡ suc n) (below : n < length labels) (label : x ≡ get_or labels n 0) (old new : ℕ → Option ℕ)
    (noted : (m : ℕ) → new m ≡ noted_first (old m) (x == m) n)
    (before : (m : ℕ) → first_label m 0 labels ≡ noted_else (old m) (first_label m n (drop n labels))) where
  left : (m : ℕ) → first_label m n (drop n labels) ≡ (if x == m then Some n else first_label m next (drop next labels))
  left m =
      ap (first_label m n) (drop-cons labels n 0 below)
      ∙ ap (λ (k : ℕ). if get_or labels n 0 == m then Some n else first_label m k (drop k labels)) (sym is_next)
      ∙ ap (λ (l : ℕ). if l == m then Some n else first_label m next (drop next labels)) (sym label)

  -- the first places of labels, with one place more
  pub firsts_next : (m : ℕ) → first_label m 0 labels ≡ noted_else (new m) (first_label m next (drop next labels))
  firsts_next m =
      let rest = first_label m next (drop next labels) in
      before m ∙ ap (noted_else (old m)) (left m) ∙ sym (noted_next (old m) (x == m) n rest)
      ∙ ap (λ (o : Option ℕ). noted_else o rest) (sym (noted m))

  -- the first place of the label here
  pub first_here : first_label x 0 labels ≡ Some (noted_or (old x) n)
  first_here =
      let rest = first_label x next (drop next labels) in
      before x ∙ ap (noted_else (old x)) (left x ∙ ap (λ (b : Bool). if b then Some n else rest) (eq-eqb x x refl)) ∙ noted_here (old x) n

  -- noted places stay below a bound
  pub below_next : (bound : ℕ) → n < bound → ((m f : ℕ) → old m ≡ Some f → f < bound) → (m f : ℕ) → new m ≡ Some f → f < bound
  below_next bound here all m f is = noted_below bound n f (old m) (x == m) here (all m) (sym (noted m) ∙ is)

  -- the pairs of one term more
  pub pairs_next : (sorts : Sorts) (trees : List Tree) (equal : Pairs) → length labels ≡ length trees → TellClasses trees equal labels →
      (so_far pairs : List (ℕ × ℕ)) → so_far ++ pairs_of sorts equal trees n (drop n trees) ≡ pairs_of sorts equal trees 0 trees →
      pairs ≡ so_far ++ pair_with sorts (tree_at trees n) n (Some (noted_or (old x) n)) →
      pairs ++ pairs_of sorts equal trees next (drop next trees) ≡ pairs_of sorts equal trees 0 trees
  pairs_next sorts trees equal count tell so_far pairs whole are =
      let rest = pairs_of sorts equal trees next (drop next trees) in
      let tree = tree_at trees n in
      let inside : n < length trees = omega arith in
      let at_label = slice_get-get_or labels n 0 below ∙ ap Some (sym label) in
      let at_tree = slice_get-get_or trees n (Lit (pos 0)) inside in
      let first : first_place equal tree 0 trees ≡ Some (noted_or (old x) n) =
      sym (same_firsts equal tree x 0 labels trees count (λ (i m : ℕ) (u : Tree) at_m at_u. tell i n m x u tree at_u at_tree at_m at_label))
      ∙ first_here in
      let here : pairs_of sorts equal trees n (drop n trees) ≡ pair_with sorts tree n (Some (noted_or (old x) n)) ++ rest =
      ap (pairs_of sorts equal trees n) (drop-cons trees n (Lit (pos 0)) inside)
      ∙ ap (λ (k : ℕ). pair_with sorts tree n (first_place equal tree 0 trees) ++ pairs_of sorts equal trees k (drop k trees))
      (sym is_next)
      ∙ ap (λ (o : Option ℕ). pair_with sorts tree n o ++ rest) first in
      ap (λ (ps : List (ℕ × ℕ)). ps ++ rest) are ∙ append_assoc so_far (pair_with sorts tree n (Some (noted_or (old x) n))) rest
      ∙ ap (λ (ps : List (ℕ × ℕ)). so_far ++ ps) (sym here) ∙ whole
