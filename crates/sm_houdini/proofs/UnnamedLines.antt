-- Certificates that name no term are within each table.
use Rattle.sm_houdini.proofs.Imports.{◌≡◌, ◌<◌, ℕ, List, [], ◌∷◌, ◌++◌, subst, sym, AllByRecursion, tree_at, Tree, EachNamed, line_in, IsLineWithin, numbered_line, CertLine, Certificate, EachTerm, lines_before, tree_layer, end_layer, certificate_in, end_lines, tree_lines, lines_of, AreLinesWithin, CertTree, CertTree-F, roll-CertTree, map-CertTree, fold-roll-CertTree, ind-CertTree, end_in, lines_of_end, NoTerm, AreTreesWithin}
use Rattle.std.specs.Prelude.{map}
use Rattle.sm_theory.proofs.LinesOver.{each_back, each_more}
use Rattle.sm_cert.specs.declared.tree.CertEnd.TheOpen as layer
use Rattle.sm_cert.specs.declared.tree.CertEnd.{CertEnd, CertEnd-F, roll-CertEnd, map-CertEnd, fold-roll-CertEnd}

module _ (count : ℕ) (trees : List Tree) where
  line_within : (l : CertLine) → EachNamed NoTerm (line_in trees l) → IsLineWithin count l
  line_within l h =
      each_more (λ (n : ℕ). NoTerm (tree_at trees n)) (λ (n : ℕ). n < count) (numbered_line l)
      (λ (n : ℕ) (none : NoTerm (tree_at trees n)). absurd none) (each_back NoTerm (tree_at trees) (numbered_line l) h)

  -- lines before a certificate
  lines_within : (ls : List CertLine) (c : Certificate) → EachTerm NoTerm (lines_before trees ls c) →
      AreLinesWithin count ls × EachTerm NoTerm c
  lines_within [] c h = (tt, h)
  lines_within (l ∷ ls) c h = let rest = lines_within ls c h.1 in ((line_within l h.0, rest.0), rest.1)

  both_within : (xs ys : List CertLine) → AreLinesWithin count xs → AreLinesWithin count ys → AreLinesWithin count (xs ++ ys)
  both_within [] ys first second = second
  both_within (x ∷ xs) ys first second = (first.0, both_within xs ys first.1 second)

  -- certificates and their ends
  abbrev TreeWithin : CertTree → Type 0
  TreeWithin tree = EachTerm NoTerm (certificate_in trees tree) → AreLinesWithin count (lines_of tree)

  abbrev EndWithin : CertEnd → Type 0
  EndWithin end = EachTerm NoTerm (end_in trees end) → AreLinesWithin count (lines_of_end end)

  -- with what is so of each
  abbrev WithinTree : Type 0
  WithinTree = (tree : CertTree) × TreeWithin tree

  abbrev WithinEnd : Type 0
  WithinEnd = (end : CertEnd) × EndWithin end

  -- an end over certificates of which it is so
  end_layer_within : (y : CertEnd-F WithinEnd WithinTree) →
      EndWithin (roll-CertEnd (map-CertEnd WithinEnd WithinTree CertEnd CertTree (λ (e : WithinEnd). e.0) (λ (t : WithinTree). t.0) y))
  end_layer_within (layer.Close l) h =
      let lines = fold-roll-CertEnd (List CertLine) (List CertLine) end_lines tree_lines (layer.Close l) in
      let named = subst (EachTerm NoTerm) (fold-roll-CertEnd Certificate Certificate (end_layer trees) (tree_layer trees) (layer.Close l)) h in
      subst (AreLinesWithin count) (sym lines) (line_within l named, tt)
  end_layer_within (layer.Split l c d) h =
      let x = map-CertEnd WithinEnd WithinTree CertEnd CertTree (λ (e : WithinEnd). e.0) (λ (t : WithinTree). t.0) (layer.Split l c d) in
      let lines = fold-roll-CertEnd (List CertLine) (List CertLine) end_lines tree_lines x in
      let named = subst (EachTerm NoTerm) (fold-roll-CertEnd Certificate Certificate (end_layer trees) (tree_layer trees) x) h in
      subst (AreLinesWithin count) (sym lines)
      (line_within l named.0, both_within (lines_of c.value.0) (lines_of d.value.0) (c.value.1 named.1) (d.value.1 named.2))

  -- lines over an end of which it is so
  tree_layer_within : (y : CertTree-F WithinEnd WithinTree) →
      TreeWithin (roll-CertTree (map-CertTree WithinEnd WithinTree CertEnd CertTree (λ (e : WithinEnd). e.0) (λ (t : WithinTree). t.0) y))
  tree_layer_within y h =
      let x = map-CertTree WithinEnd WithinTree CertEnd CertTree (λ (e : WithinEnd). e.0) (λ (t : WithinTree). t.0) y in
      let ls = y.lines.list.items in
      let end = y.last.0 in
      let lines : lines_of (roll-CertTree x) ≡ ls ++ lines_of_end end =
      fold-roll-CertTree (List CertLine) (List CertLine) end_lines tree_lines x in
      let named = lines_within ls (end_in trees end)
      (subst (EachTerm NoTerm) (fold-roll-CertTree Certificate Certificate (end_layer trees) (tree_layer trees) x) h) in
      subst (AreLinesWithin count) (sym lines) (both_within ls (lines_of_end end) named.0 (y.last.1 named.1))

  tree_within : (tree : CertTree) → TreeWithin tree
  tree_within =
      ind-CertTree EndWithin TreeWithin (λ x y is. subst (λ z. EndWithin (roll-CertEnd z)) is (end_layer_within y))
      (λ x y is. subst (λ z. TreeWithin (roll-CertTree z)) is (tree_layer_within y))

  pub unnamed_within : (ts : List CertTree) → AllByRecursion (EachTerm NoTerm) (map (certificate_in trees) ts) → AreTreesWithin count ts
  unnamed_within [] h = tt
  unnamed_within (t ∷ ts) h = (tree_within t h.0, unnamed_within ts h.1)
