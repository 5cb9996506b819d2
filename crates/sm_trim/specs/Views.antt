-- Private: what is left of a certificate, as the program has it, and marks of facts.
use Rattle.std.specs.Prelude.{◌≡◌, ℕ, ◌+◌, ◌<◌, Bool, ◌||◌, nat_eq, nat_lt, List, [], ◌∷◌}
use Rattle.std.specs.List.{list_any}
use Rattle.sm_term.specs.Terms.{Tree}
use Rattle.sm_theory.specs.Views.{line_in}
use Rattle.sm_theory.specs.declared.line.CertLine.{CertLine}
use Rattle.sm_theory.specs.Named.{facts_added}
use Rattle.sm_trim.specs.declared.left.LeftLine.{LeftLine}
use Rattle.sm_trim.specs.declared.left.LeftTree.{LeftTree, LeftTree-F, fold-LeftTree}
use Rattle.sm_trim.specs.declared.left.LeftEnd.{LeftEnd-F}
use Rattle.sm_trim.specs.declared.left.LeftEnd.TheOpen as layer
use Rattle.sm_trim.specs.declared.left.Needing.{Needing}
use Rattle.sm_trim.specs.declared.marks.Marks.{Marks}
use Rattle.sm_trim.specs.Pruned.{Pruned, LeftNext, LeftClosed, LeftSplit, needs}

-- lines that are left, from the last to the first, before what is left
abbrev pub left_before : List Tree → List LeftLine → Pruned → Pruned
left_before trees [] p = p
left_before trees (l ∷ rest) p = left_before trees rest (LeftNext l.before (line_in trees l.line) p)

-- one tree, where its end is told
abbrev pub tree_layer : List Tree → LeftTree-F Pruned Pruned → Pruned
tree_layer trees t = left_before trees t.lines.list.items t.last

-- one end, where the trees under it are told
abbrev pub end_layer : List Tree → LeftEnd-F Pruned Pruned → Pruned
end_layer trees (layer.Close l) = LeftClosed l.before (line_in trees l.line)
end_layer trees (layer.Split l p q) = LeftSplit l.before (line_in trees l.line) p.value q.value

-- what a tree of the program stands for
abbrev pub pruned_in : List Tree → LeftTree → Pruned
pruned_in trees = fold-LeftTree Pruned Pruned (end_layer trees) (tree_layer trees)

-- how many facts stand after lines, where `at` stand before them
abbrev pub facts_past : List Tree → ℕ → List CertLine → ℕ
facts_past trees at [] = at
facts_past trees at (l ∷ ls) = facts_past trees (at + facts_added (line_in trees l)) ls

-- whether a fact is marked
abbrev pub is_marked : Marks → ℕ → Bool
is_marked m n = nat_lt n m.all || list_any (nat_eq n) m.named.keys

-- there are so many facts, and the marks tell which of them are needed
abbrev pub AreMarks : ℕ → (ℕ → Bool) → Marks → Type 0
AreMarks at needed m = (m.facts ≡ at) × ((n : ℕ) → n < at → is_marked m n ≡ needed n)

-- the facts that are named are marked too
abbrev pub MarksMore : (ℕ → Bool) → Marks → Marks → Type 0
MarksMore named before after =
    (after.facts ≡ before.facts)
    × ((n : ℕ) → n < before.facts → is_marked after n ≡ (named n || is_marked before n))

-- a tree is what is left, and marks tell which of the first `at` facts that needs
pub record Leaves (trees : List Tree) (at : ℕ) (p : Pruned) (r : Needing) : Type 0 where
  pub tree : pruned_in trees r.tree ≡ p
  pub marks : AreMarks at (needs p) r.marks
