-- What is left of a certificate names only terms of a kind where the certificate does, and is within a table where it is.
use Rattle.sm_trim.proofs.Imports.{◌≡◌, ◌⊎◌, ◌<◌, ◌≤◌, ◌+◌, ℕ, suc, pos, Bool, true, false, if◌then◌else◌, List, [], ◌∷◌, ◌++◌, replicate, inl, inr, subst, sym, ◌∙◌, arith, get_or-replicate, get_or_past, length-replicate, Tree, Cell, Lit, CertificateLine, facts_added, EachOf, EachNamed, moved_line, line_in, IsLineWithin, numbered_line, CertLine, Certificate, Next, Closed, Split, lines_before, certificate_in, end_lines, tree_lines, lines_of, AreLinesWithin, CertTree, CertTree-F, roll-CertTree, map-CertTree, fold-roll-CertTree, ind-CertTree, end_in, lines_of_end, within_parts, some_pass, Pruned, LeftNext, LeftSplit, needs, with_line, with_split, pruned, new_number, numbered_on, closed_up}
use Rattle.sm_term.specs.Tables.{tree_at}
use Rattle.sm_theory.proofs.LinesOver.{each_with, each_back, each_more}
use Rattle.sm_cert.specs.declared.tree.CertEnd.TheOpen as layer
use Rattle.sm_cert.specs.NamedTerms.{EachTerm}
use Rattle.sm_cert.specs.Views.{tree_layer, end_layer}
use Rattle.sm_cert.specs.declared.tree.CertEnd.{CertEnd, CertEnd-F, roll-CertEnd, map-CertEnd, fold-roll-CertEnd}
use Rattle.sm_trim.proofs.NamesLemmas.{moved_alike}
use Rattle.sm_trim.proofs.NumbersLemmas.{less_or_not}

-- a line with other numbers of facts names the terms that it named
moved_each : (P : Tree → Type 0) (move : ℕ → ℕ) (line : CertificateLine) → EachNamed P line → EachNamed P (moved_line move line)
moved_each P move line h = subst (EachOf P) (sym (moved_alike move line).terms) h

-- a line before what is left
next_each : (P : Tree → Type 0) (at to : ℕ) (moved : List ℕ) (line : CertificateLine) (p : Pruned) → EachNamed P line →
    EachTerm P (closed_up moved to p) → EachTerm P (closed_up (numbered_on moved at to (facts_added line)) (to + facts_added line) p) →
    EachTerm P (closed_up moved to (with_line at line p))
next_each P at to moved line p named goes stays = of (some_pass (facts_added line) at (needs p))
  where
    of : (b : Bool) → EachTerm P (closed_up moved to (if b then LeftNext at line p else p))
    of true = (moved_each P (new_number moved) line named, stays)
    of false = goes

-- a split, or a part in its place
split_each : (P : Tree → Type 0) (at to : ℕ) (moved : List ℕ) (line : CertificateLine) (p q : Pruned) → EachNamed P line →
    EachTerm P (closed_up moved to p) → EachTerm P (closed_up moved to q) → EachTerm P (closed_up (numbered_on moved at to 1) (suc to) p) →
    EachTerm P (closed_up (numbered_on moved at to 1) (suc to) q) → EachTerm P (closed_up moved to (with_split at line p q))
split_each P at to moved line p q named first second one two = of (needs p at) (needs q at)
  where
    of : (a b : Bool) → EachTerm P (closed_up moved to (if a then (if b then LeftSplit at line p q else q) else p))
    of true true = (moved_each P (new_number moved) line named, one, two)
    of true false = second
    of false b = first

-- what is so of each term stays so
pub trimmed_each : (P : Tree → Type 0) (at to : ℕ) (moved : List ℕ) (c : Certificate) → EachTerm P c →
    EachTerm P (closed_up moved to (pruned at c))
trimmed_each P at to moved (Next line c) all =
    next_each P at to moved line (pruned (at + facts_added line) c) all.0 (trimmed_each P (at + facts_added line) to moved c all.1)
    (trimmed_each P (at + facts_added line) (to + facts_added line) (numbered_on moved at to (facts_added line)) c all.1)
trimmed_each P at to moved (Closed line) all = moved_each P (new_number moved) line all
trimmed_each P at to moved (Split line c d) all =
    split_each P at to moved line (pruned (suc at) c) (pruned (suc at) d) all.0 (trimmed_each P (suc at) to moved c all.1)
    (trimmed_each P (suc at) to moved d all.2) (trimmed_each P (suc at) (suc to) (numbered_on moved at to 1) c all.1)
    (trimmed_each P (suc at) (suc to) (numbered_on moved at to 1) d all.2)

module _ (count : ℕ) where
  -- a table of so many cells
  abbrev cells : List Tree
  cells = replicate count Cell

  abbrev IsCell : Tree → Type 0
  IsCell t = t ≡ Cell

  -- the terms in it are cells, and no other is
  cell_at : (n : ℕ) → n < count → tree_at cells n ≡ Cell
  cell_at n less = get_or-replicate count n Cell (Lit (pos 0)) less

  at_cell : (n : ℕ) → tree_at cells n ≡ Cell → n < count
  at_cell n e = of (less_or_not n count)
    where
      of : (n < count) ⊎ (count ≤ n) → n < count
      of (inl h) = h
      of (inr h) =
          absurd (let past : tree_at cells n ≡ Lit (pos 0) =
          get_or_past cells n (Lit (pos 0)) (let l = length-replicate count Cell in omega arith) in
          let wrong : Lit (pos 0) ≡ Cell = sym past ∙ e in cc)

  line_named : (l : CertLine) → IsLineWithin count l → EachNamed IsCell (line_in cells l)
  line_named l h =
      each_with IsCell (tree_at cells) (numbered_line l)
      (each_more (λ (n : ℕ). n < count) (λ (n : ℕ). IsCell (tree_at cells n)) (numbered_line l) cell_at h)

  line_within : (l : CertLine) → EachNamed IsCell (line_in cells l) → IsLineWithin count l
  line_within l h =
      each_more (λ (n : ℕ). IsCell (tree_at cells n)) (λ (n : ℕ). n < count) (numbered_line l) at_cell
      (each_back IsCell (tree_at cells) (numbered_line l) h)

  -- lines before a certificate
  lines_within : (ls : List CertLine) (c : Certificate) → EachTerm IsCell (lines_before cells ls c) →
      AreLinesWithin count ls × EachTerm IsCell c
  lines_within [] c h = (tt, h)
  lines_within (l ∷ ls) c h = let rest = lines_within ls c h.1 in ((line_within l h.0, rest.0), rest.1)

  lines_named : (ls : List CertLine) (c : Certificate) → AreLinesWithin count ls → EachTerm IsCell c →
      EachTerm IsCell (lines_before cells ls c)
  lines_named [] c h all = all
  lines_named (l ∷ ls) c h all = (line_named l h.0, lines_named ls c h.1 all)

  both_within : (xs ys : List CertLine) → AreLinesWithin count xs → AreLinesWithin count ys → AreLinesWithin count (xs ++ ys)
  both_within [] ys first second = second
  both_within (x ∷ xs) ys first second = (first.0, both_within xs ys first.1 second)

  -- certificates and their ends are within the table exactly where each term that they name is a cell
  abbrev TreeWithin : CertTree → Type 0
  TreeWithin tree =
      (EachTerm IsCell (certificate_in cells tree) → AreLinesWithin count (lines_of tree))
      × (AreLinesWithin count (lines_of tree) → EachTerm IsCell (certificate_in cells tree))

  abbrev EndWithin : CertEnd → Type 0
  EndWithin end =
      (EachTerm IsCell (end_in cells end) → AreLinesWithin count (lines_of_end end))
      × (AreLinesWithin count (lines_of_end end) → EachTerm IsCell (end_in cells end))

  -- with what is so of each
  abbrev WithinTree : Type 0
  WithinTree = (tree : CertTree) × TreeWithin tree

  abbrev WithinEnd : Type 0
  WithinEnd = (end : CertEnd) × EndWithin end

  -- an end over certificates of which it is so
  end_layer_within : (y : CertEnd-F WithinEnd WithinTree) →
      EndWithin (roll-CertEnd (map-CertEnd WithinEnd WithinTree CertEnd CertTree (λ (e : WithinEnd). e.0) (λ (t : WithinTree). t.0) y))
  end_layer_within (layer.Close l) =
      let lines = fold-roll-CertEnd (List CertLine) (List CertLine) end_lines tree_lines (layer.Close l) in
      let named = fold-roll-CertEnd Certificate Certificate (end_layer cells) (tree_layer cells) (layer.Close l) in (
        λ h. subst (AreLinesWithin count) (sym lines) (line_within l (subst (EachTerm IsCell) named h), tt),
        λ h. subst (EachTerm IsCell) (sym named) (line_named l (subst (AreLinesWithin count) lines h).0),
      )
  end_layer_within (layer.Split l c d) =
      let x = map-CertEnd WithinEnd WithinTree CertEnd CertTree (λ (e : WithinEnd). e.0) (λ (t : WithinTree). t.0) (layer.Split l c d) in
      let lines = fold-roll-CertEnd (List CertLine) (List CertLine) end_lines tree_lines x in
      let named = fold-roll-CertEnd Certificate Certificate (end_layer cells) (tree_layer cells) x in (
        λ h.
            let all = subst (EachTerm IsCell) named h in
            subst (AreLinesWithin count) (sym lines)
            (line_within l all.0, both_within (lines_of c.value.0) (lines_of d.value.0) (c.value.1.0 all.1) (d.value.1.0 all.2)),
        λ h.
            let all = subst (AreLinesWithin count) lines h in
            let parts = within_parts count (lines_of c.value.0) (lines_of d.value.0) all.1 in
            subst (EachTerm IsCell) (sym named) (line_named l all.0, c.value.1.1 parts.0, d.value.1.1 parts.1),
      )

  -- lines over an end of which it is so
  tree_layer_within : (y : CertTree-F WithinEnd WithinTree) →
      TreeWithin (roll-CertTree (map-CertTree WithinEnd WithinTree CertEnd CertTree (λ (e : WithinEnd). e.0) (λ (t : WithinTree). t.0) y))
  tree_layer_within y =
      let x = map-CertTree WithinEnd WithinTree CertEnd CertTree (λ (e : WithinEnd). e.0) (λ (t : WithinTree). t.0) y in
      let ls = y.lines.list.items in
      let end = y.last.0 in
      let lines : lines_of (roll-CertTree x) ≡ ls ++ lines_of_end end =
      fold-roll-CertTree (List CertLine) (List CertLine) end_lines tree_lines x in
      let whole : certificate_in cells (roll-CertTree x) ≡ lines_before cells ls (end_in cells end) =
      fold-roll-CertTree Certificate Certificate (end_layer cells) (tree_layer cells) x in (
        λ h.
            let named = lines_within ls (end_in cells end) (subst (EachTerm IsCell) whole h) in
            subst (AreLinesWithin count) (sym lines) (both_within ls (lines_of_end end) named.0 (y.last.1.0 named.1)),
        λ h.
            let parts = within_parts count ls (lines_of_end end) (subst (AreLinesWithin count) lines h) in
            subst (EachTerm IsCell) (sym whole) (lines_named ls (end_in cells end) parts.0 (y.last.1.1 parts.1)),
      )

  tree_within : (tree : CertTree) → TreeWithin tree
  tree_within =
      ind-CertTree EndWithin TreeWithin (λ x y is. subst (λ z. EndWithin (roll-CertEnd z)) is (end_layer_within y))
      (λ x y is. subst (λ z. TreeWithin (roll-CertTree z)) is (tree_layer_within y))

  -- a trimmed tree is within the table
  pub trimmed_within : (at : ℕ) (tree other : CertTree) →
      ((trees : List Tree) → certificate_in trees other ≡ closed_up [] at (pruned at (certificate_in trees tree))) →
      AreLinesWithin count (lines_of tree) → AreLinesWithin count (lines_of other)
  trimmed_within at tree other same within =
      (tree_within other).0
      (subst (EachTerm IsCell) (sym (same cells)) (trimmed_each IsCell at at [] (certificate_in cells tree) ((tree_within tree).1 within)))
