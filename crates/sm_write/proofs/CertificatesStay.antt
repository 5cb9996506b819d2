-- What certificates stand for stays while a table widens.
use Rattle.sm_write.proofs.Imports.{◌≡◌, ◌<◌, ℕ, List, [], ◌∷◌, ◌++◌, length, refl, ap, sym, subst, ◌∙◌, arith, ExtendsTable, TableValue, trees_in, tree_at, line_in, IsLineWithin, CertLine, with_same, each_more, Certificate, Next, Closed, Split, lines_before, tree_layer, end_layer, certificate_in, end_lines, tree_lines, lines_of, AreLinesWithin, CertTree, CertTree-F, roll-CertTree, map-CertTree, fold-roll-CertTree, ind-CertTree, end_in, lines_of_end, within_parts, longer, tree_stays}
use Rattle.sm_theory.specs.Views.{numbered_line}
use Rattle.sm_cert.specs.declared.tree.CertEnd.TheOpen as layer
use Rattle.sm_cert.specs.declared.tree.CertEnd.{CertEnd, CertEnd-F, roll-CertEnd, map-CertEnd, fold-roll-CertEnd}

module _ (v w : TableValue) (wider : ExtendsTable v w) where
  -- a line
  pub line_stays : (l : CertLine) → IsLineWithin (length (trees_in v)) l → line_in (trees_in w) l ≡ line_in (trees_in v) l
  line_stays l h =
      with_same (tree_at (trees_in w)) (tree_at (trees_in v)) (numbered_line l)
      (each_more (λ (n : ℕ). n < length (trees_in v)) (λ (n : ℕ). tree_at (trees_in w) n ≡ tree_at (trees_in v) n) (numbered_line l)
      (tree_stays v w wider) h)

  -- lines before a certificate
  pub lines_stay : (ls : List CertLine) (c : Certificate) → AreLinesWithin (length (trees_in v)) ls →
      lines_before (trees_in w) ls c ≡ lines_before (trees_in v) ls c
  lines_stay [] c h = refl
  lines_stay (l ∷ ls) c h = λ i. Next (line_stays l h.0 i) (lines_stay ls c h.1 i)

  -- lines within the narrower table are within the wider one
  pub line_wider : (l : CertLine) → IsLineWithin (length (trees_in v)) l → IsLineWithin (length (trees_in w)) l
  line_wider l h =
      let m = longer v w wider in
      each_more (λ (n : ℕ). n < length (trees_in v)) (λ (n : ℕ). n < length (trees_in w)) (numbered_line l)
      (λ (n : ℕ) (less : n < length (trees_in v)). omega (arith, less, m)) h

  pub lines_wider : (ls : List CertLine) → AreLinesWithin (length (trees_in v)) ls → AreLinesWithin (length (trees_in w)) ls
  lines_wider [] h = tt
  lines_wider (l ∷ ls) h = (line_wider l h.0, lines_wider ls h.1)

  -- certificates and their ends
  abbrev Stays : CertTree → Type 0
  Stays tree = AreLinesWithin (length (trees_in v)) (lines_of tree) →
      certificate_in (trees_in w) tree ≡ certificate_in (trees_in v) tree

  abbrev EndStays : CertEnd → Type 0
  EndStays end = AreLinesWithin (length (trees_in v)) (lines_of_end end) → end_in (trees_in w) end ≡ end_in (trees_in v) end

  -- with what is so of each
  abbrev StayingTree : Type 0
  StayingTree = (tree : CertTree) × Stays tree

  abbrev StayingEnd : Type 0
  StayingEnd = (end : CertEnd) × EndStays end

  -- an end over certificates of which it is so
  end_layer_stays : (y : CertEnd-F StayingEnd StayingTree) →
      EndStays (roll-CertEnd (map-CertEnd StayingEnd StayingTree CertEnd CertTree (λ (e : StayingEnd). e.0) (λ (t : StayingTree). t.0) y))
  end_layer_stays (layer.Close l) all =
      let lines = fold-roll-CertEnd (List CertLine) (List CertLine) end_lines tree_lines (layer.Close l) in
      let within = subst (AreLinesWithin (length (trees_in v))) lines all in
      fold-roll-CertEnd Certificate Certificate (end_layer (trees_in w)) (tree_layer (trees_in w)) (layer.Close l)
      ∙ (ap Closed (line_stays l within.0)
      ∙ sym (fold-roll-CertEnd Certificate Certificate (end_layer (trees_in v)) (tree_layer (trees_in v)) (layer.Close l)))
  end_layer_stays (layer.Split l c d) all =
      let x =
      map-CertEnd StayingEnd StayingTree CertEnd CertTree (λ (e : StayingEnd). e.0) (λ (t : StayingTree). t.0) (layer.Split l c d) in
      let lines = fold-roll-CertEnd (List CertLine) (List CertLine) end_lines tree_lines x in
      let within = subst (AreLinesWithin (length (trees_in v))) lines all in
      let sides = within_parts (length (trees_in v)) (lines_of c.value.0) (lines_of d.value.0) within.1 in
      let one = line_stays l within.0 in
      let first = c.value.1 sides.0 in
      let second = d.value.1 sides.1 in
      let same : Split (line_in (trees_in w) l) (certificate_in (trees_in w) c.value.0) (certificate_in (trees_in w) d.value.0)
      ≡ Split (line_in (trees_in v) l) (certificate_in (trees_in v) c.value.0) (certificate_in (trees_in v) d.value.0) =
      λ i. Split (one i) (first i) (second i) in
      fold-roll-CertEnd Certificate Certificate (end_layer (trees_in w)) (tree_layer (trees_in w)) x
      ∙ (same ∙ sym (fold-roll-CertEnd Certificate Certificate (end_layer (trees_in v)) (tree_layer (trees_in v)) x))

  -- lines over an end of which it is so
  tree_layer_stays : (y : CertTree-F StayingEnd StayingTree) →
      Stays (roll-CertTree (map-CertTree StayingEnd StayingTree CertEnd CertTree (λ (e : StayingEnd). e.0) (λ (t : StayingTree). t.0) y))
  tree_layer_stays y all =
      let x = map-CertTree StayingEnd StayingTree CertEnd CertTree (λ (e : StayingEnd). e.0) (λ (t : StayingTree). t.0) y in
      let ls = y.lines.list.items in
      let end = y.last.0 in
      let lines : lines_of (roll-CertTree x) ≡ ls ++ lines_of_end end =
      fold-roll-CertTree (List CertLine) (List CertLine) end_lines tree_lines x in
      let parts = within_parts (length (trees_in v)) ls (lines_of_end end) (subst (AreLinesWithin (length (trees_in v))) lines all) in
      fold-roll-CertTree Certificate Certificate (end_layer (trees_in w)) (tree_layer (trees_in w)) x
      ∙ (lines_stay ls (end_in (trees_in w) end) parts.0
      ∙ (ap (lines_before (trees_in v) ls) (y.last.1 parts.1)
      ∙ sym (fold-roll-CertTree Certificate Certificate (end_layer (trees_in v)) (tree_layer (trees_in v)) x)))

  -- a certificate within the narrower table
  pub certificate_stays : (tree : CertTree) → AreLinesWithin (length (trees_in v)) (lines_of tree) →
      certificate_in (trees_in w) tree ≡ certificate_in (trees_in v) tree
  certificate_stays =
      ind-CertTree EndStays Stays (λ x y is. subst (λ z. EndStays (roll-CertEnd z)) is (end_layer_stays y))
      (λ x y is. subst (λ z. Stays (roll-CertTree z)) is (tree_layer_stays y))
