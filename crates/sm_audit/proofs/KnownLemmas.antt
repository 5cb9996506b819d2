-- Formulas, nodes and lines of which each term is known compare and name what can be named.
use Rattle.sm_audit.proofs.Imports.{◌≡◌, ◌<◌, ◌≤◌, ◌+◌, ℕ, zero, suc, nat_le, Bool, true, false, if◌then◌else◌, Option, Some, None, List, [], ◌∷◌, ◌++◌, length, drop, map, get_or, sym, subst, arith, drop_more, Sorts, Assertion, NumberedFormula, Yes, No, Eq, Ne, Le, Lt, And, Or, numbered, assertion_in, tree_at, Tree, line_in, IsLineWithin, numbered_line, CertLine, Certificate, EachTerm, lines_before, AreLinesWithin, State, node_in, NodeRow, EachSide, Nameable, AreKeptNameable, EachKept, IsShort, states_until, IsFormKnown, IsRowKnown, AreRowsKnown, IsLineKnown, IsLineFit, AreLinesFit, entry_of, AreSince, IsKnownBy}
use Rattle.sm_theory.specs.Named.{EachNamed}
use Rattle.sm_theory.proofs.LinesOver.{each_with, each_more}
use Rattle.sm_plan.specs.declared.node.NodeRow.TheVariants as row
use Rattle.sm_plan.specs.Masks.{set_of}
use Rattle.sm_plan.specs.Nodes as plan
use Rattle.sm_audit.proofs.SinceLemmas.{known_named}

-- a term with an entry is among the entries
inside : (since : List (Option ℕ)) (n first : ℕ) → entry_of since n ≡ Some first → n < length since
inside [] zero first e = absurd cc
inside [] (suc n) first e = absurd cc
inside (o ∷ since) zero first e = let some : zero < suc (length since) = omega arith in some
inside (o ∷ since) (suc n) first e = let rest = inside since n first e in let more : suc n < suc (length since) = omega (arith, rest) in more

module _ (since : List (Option ℕ)) (k : ℕ) where
  known_inside : (n count : ℕ) → length since ≤ count → IsKnownBy since k n → n < count
  known_inside n count few known = let here = inside since n known.0 known.1 in omega (arith, here, few)

  line_within : (count : ℕ) → length since ≤ count → (l : CertLine) → IsLineKnown since k l → IsLineWithin count l
  line_within count few l h =
      each_more (IsKnownBy since k) (λ (n : ℕ). n < count) (numbered_line l)
      (λ (n : ℕ) (known : IsKnownBy since k n). known_inside n count few known) h

  pub lines_within : (count : ℕ) → length since ≤ count → (ls : List CertLine) → AreLinesFit since k ls → AreLinesWithin count ls
  lines_within count few [] all = tt
  lines_within count few (l ∷ ls) all = (line_within count few l all.0.1, lines_within count few ls all.1)

  -- lines and then others
  pub both_fit : (xs ys : List CertLine) → AreLinesFit since k xs → AreLinesFit since k ys → AreLinesFit since k (xs ++ ys)
  both_fit [] ys one other = other
  both_fit (x ∷ xs) ys one other = (one.0, both_fit xs ys one.1 other)

  -- a line and those behind it
  pub line_before : (ls : List CertLine) (i : ℕ) (d : CertLine) → i < length ls → IsLineFit since k (get_or ls i d) →
      AreLinesFit since k (drop (i + 1) ls) → AreLinesFit since k (drop i ls)
  line_before ls i d less one rest = subst (AreLinesFit since k) (sym (drop_more ls i d less)) (one, rest)

  -- lines before a certificate
  pub lines_short : (trees : List Tree) (ls : List CertLine) (c : Certificate) → AreLinesFit since k ls → IsShort c →
      IsShort (lines_before trees ls c)
  lines_short trees [] c all short = short
  lines_short trees (l ∷ ls) c all short = (all.0.0 trees, lines_short trees ls c all.1 short)

  module _ (sorts : Sorts) (states : List State) (trees : List Tree) (all : AreSince sorts states trees since) where
    abbrev Named : Tree → Type 0
    Named = Nameable sorts (states_until states k)

    known : (n : ℕ) → IsKnownBy since k n → Named (tree_at trees n)
    known n h = (known_named sorts states trees since all k n h).1

    pub line_named : (l : CertLine) → IsLineKnown since k l → EachNamed Named (line_in trees l)
    line_named l h =
        each_with Named (tree_at trees) (numbered_line l)
        (each_more (IsKnownBy since k) (λ (n : ℕ). Named (tree_at trees n)) (numbered_line l) known h)

    pub lines_named : (ls : List CertLine) (c : Certificate) → AreLinesFit since k ls → EachTerm Named c →
        EachTerm Named (lines_before trees ls c)
    lines_named [] c fit named = named
    lines_named (l ∷ ls) c fit named = (line_named l fit.0.1, lines_named ls c fit.1 named)

    form_named : (f : NumberedFormula) → IsFormKnown since k f → EachSide Named (assertion_in sorts trees f)
    form_named Yes h = tt
    form_named No h = tt
    form_named (Eq t u) h = (known t h.0, known u h.1)
    form_named (Ne t u) h = (known t h.0, known u h.1)
    form_named (Le t u) h = (known t h.0, known u h.1)
    form_named (Lt t u) h = (known t h.0, known u h.1)
    form_named (And p q) h = (form_named p h.0, form_named q h.1)
    form_named (Or p q) h = (form_named p h.0, form_named q h.1)

    row_named : (r : NodeRow) → IsRowKnown since k r → EachKept Named (node_in sorts trees r)
    row_named (row.Step c) h = tt
    row_named (row.Abs c count) h = tt
    row_named (row.Fork c) h = tt
    row_named (row.Loop set keep) h = by (nat_le set 15)
      where
        by : (b : Bool) →
            EachKept Named (if b then plan.Loop (set_of set) (assertion_in sorts trees (numbered keep.now)) else plan.Unfit 4)
        by true = form_named (numbered keep.now) h
        by false = tt
    row_named (row.Block counts keep) h = form_named (numbered keep.now) h
    row_named row.Dead h = tt
    row_named row.End h = tt

-- nodes, each by its own number
pub rows_named : (since : List (Option ℕ)) (sorts : Sorts) (states : List State) (trees : List Tree) → AreSince sorts states trees since →
    (k : ℕ) (rows : List NodeRow) → AreRowsKnown since k rows → AreKeptNameable sorts states k (map (node_in sorts trees) rows)
rows_named since sorts states trees all k [] h = tt
rows_named since sorts states trees all k (r ∷ rows) h =
    (row_named since k sorts states trees all r h.0, rows_named since sorts states trees all (suc k) rows h.1)

-- a node and those behind it
pub row_before : (since : List (Option ℕ)) (rows : List NodeRow) (k : ℕ) (d : NodeRow) → k < length rows →
    IsRowKnown since k (get_or rows k d) → AreRowsKnown since (k + 1) (drop (k + 1) rows) → AreRowsKnown since k (drop k rows)
row_before since rows k d less one rest =
    let next : k + 1 ≡ suc k = omega arith in
    subst (AreRowsKnown since k) (sym (drop_more rows k d less))
    (one, subst (λ (n : ℕ). AreRowsKnown since n (drop (k + 1) rows)) next rest)
