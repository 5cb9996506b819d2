-- Trees of the program, as what is left of certificates.
use Rattle.sm_trim.proofs.Imports.{◌≡◌, ◌<◌, ◌+◌, ℕ, Bool, true, false, ◌||◌, if◌then◌else◌, List, [], ◌∷◌, ◌++◌, length, get_or, take, drop, refl, ap, sym, ◌∙◌, subst, Tree, CertificateLine, facts_added, moved_line, line_in, CertLine, Certificate, Next, lines_before, LeftLine, LeftTree, fold_out-LeftTree, Marks, names_fact, some_pass, Pruned, LeftNext, LeftClosed, LeftSplit, needs, with_line, with_split, pruned, new_number, numbered_on, closed_up, left_before, pruned_in, facts_past, AreMarks, MarksMore, Leaves}
use Rattle.std.specs.Prelude.{Box}
use Rattle.std.specs.declared.alloc.Global.{Global}
use Rattle.sm_trim.specs.declared.left.LeftEnd.{LeftEnd, fold-LeftEnd, fold-roll-LeftEnd}
use Rattle.sm_trim.specs.declared.left.LeftEnd.TheOpen as layer
use Rattle.sm_trim.specs.declared.left.LeftEnd.TheVariants as ends
use Rattle.sm_trim.specs.declared.left.LeftEnd.TheVariants.{rolls-Close, rolls-Split}
use Rattle.sm_trim.specs.declared.left.Needing.{Needing}
use Rattle.sm_trim.specs.Views.{tree_layer, end_layer}
use Rattle.sm_trim.proofs.MarksLemmas.{marks_more}
use Rattle.sm_trim.proofs.LinesLemmas.{here_on, up_to, past_pushed}

-- what an end stands for
abbrev pub end_in : List Tree → LeftEnd → Pruned
end_in trees = fold-LeftEnd Pruned Pruned (end_layer trees) (tree_layer trees)

-- a tree is its lines, and then its end
tree_is : (trees : List Tree) (t : LeftTree) → pruned_in trees t ≡ left_before trees t.lines.list.items (end_in trees t.last)
tree_is trees t = fold_out-LeftTree Pruned Pruned (end_layer trees) (tree_layer trees) t

-- a tree that a line closes
pub left_closed : (trees : List Tree) (t : LeftTree) (l : LeftLine) → t.last ≡ ends.Close l →
    pruned_in trees t ≡ left_before trees t.lines.list.items (LeftClosed l.before (line_in trees l.line))
left_closed trees t l e = tree_is trees t ∙ ap (left_before trees t.lines.list.items)
    (ap (end_in trees) (e ∙ sym (rolls-Close l)) ∙ fold-roll-LeftEnd Pruned Pruned (end_layer trees) (tree_layer trees) (layer.Close l))

-- a tree that a line splits
pub left_split : (trees : List Tree) (t : LeftTree) (l : LeftLine) (c d : Box LeftTree Global) → t.last ≡ ends.Split l c d →
    pruned_in trees t ≡ left_before trees t.lines.list.items
    (LeftSplit l.before (line_in trees l.line) (pruned_in trees c.value) (pruned_in trees d.value))
left_split trees t l c d e = tree_is trees t ∙ ap (left_before trees t.lines.list.items)
    (ap (end_in trees) (e ∙ sym (rolls-Split l c d)) ∙ fold-roll-LeftEnd Pruned Pruned (end_layer trees) (tree_layer trees)
    (layer.Split l c d))

-- a line behind lines stands above them
pub left_pushed : (trees : List Tree) (ls : List LeftLine) (l : LeftLine) (p : Pruned) →
    left_before trees (ls ++ (l ∷ [])) p ≡ LeftNext l.before (line_in trees l.line) (left_before trees ls p)
left_pushed trees [] l p = refl
left_pushed trees (k ∷ ls) l p = left_pushed trees ls l (LeftNext k.before (line_in trees k.line) p)

-- a line is put above a tree
pub tree_pushed : (trees : List Tree) (t u : LeftTree) (l : LeftLine) (line : CertificateLine) →
    u.lines.list.items ≡ t.lines.list.items ++ (l ∷ []) →
    u.last ≡ t.last → line_in trees l.line ≡ line → pruned_in trees u ≡ LeftNext l.before line (pruned_in trees t)
tree_pushed trees t u l line items last same =
    tree_is trees u ∙ ap (λ (ls : List LeftLine). left_before trees ls (end_in trees u.last)) items
    ∙ ap (λ (e : LeftEnd). left_before trees (t.lines.list.items ++ (l ∷ [])) (end_in trees e)) last
    ∙ left_pushed trees t.lines.list.items l (end_in trees t.last)
    ∙ ap (λ (k : CertificateLine). LeftNext l.before k (left_before trees t.lines.list.items (end_in trees t.last))) same
    ∙ ap (LeftNext l.before line) (sym (tree_is trees t))

-- lines behind lines
pub lines_pushed : (trees : List Tree) (ls : List CertLine) (l : CertLine) (c : Certificate) →
    lines_before trees (ls ++ (l ∷ [])) c ≡ lines_before trees ls (Next (line_in trees l) c)
lines_pushed trees [] l c = refl
lines_pushed trees (k ∷ ls) l c = ap (Next (line_in trees k)) (lines_pushed trees ls l c)

-- the marks of a leaf
pub leaf_leaves : (trees : List Tree) (at : ℕ) (r : Needing) (l : LeftLine) (line : CertificateLine) (m : Marks) →
    r.tree.lines.list.items ≡ [] → r.tree.last ≡ ends.Close l → l.before ≡ at → line_in trees l.line ≡ line →
    AreMarks at (λ (n : ℕ). false) m → MarksMore (names_fact m.facts line) m r.marks → Leaves trees at (LeftClosed at line) r
leaf_leaves trees at r l line m items last before same none more = record {
  tree = left_closed trees r.tree l last
      ∙ ap (λ (ls : List LeftLine). left_before trees ls (LeftClosed l.before (line_in trees l.line))) items
      ∙ ap (λ (n : ℕ). LeftClosed n (line_in trees l.line)) before ∙ ap (LeftClosed at) same;
  marks =
      let k = marks_more at (names_fact m.facts line) (λ (n : ℕ). false) m r.marks none more in (
        k.0,
        λ (n : ℕ) (less : n < at).
            k.1 n less ∙ or_false (names_fact m.facts line n) ∙ ap (λ (k : ℕ). names_fact k line n) none.0,
      );
}
  where
    or_false : (x : Bool) → (x || false) ≡ x
    or_false true = refl
    or_false false = refl

pub line_in_place : (trees : List Tree) (at : ℕ) (line : CertificateLine) (p : Pruned) (t : LeftTree) (l : LeftLine) (m : Marks)
    (r : Needing) →
    true ≡ some_pass (facts_added line) at (needs p) → pruned_in trees t ≡ p → AreMarks at (needs p) m →
    MarksMore (names_fact m.facts line) m r.marks → r.tree.lines.list.items ≡ t.lines.list.items ++ (l ∷ []) →
    r.tree.last ≡ t.last →
    l.before ≡ m.facts → line_in trees l.line ≡ line → Leaves trees at (with_line at line p) r
line_in_place trees at line p t l m r e tree marks more items last before same = of (some_pass (facts_added line) at (needs p)) e
  where
    of : (b : Bool) → true ≡ b → Leaves trees at (if b then LeftNext at line p else p) r
    of false h = absurd cc
    of true h = record {
      tree = tree_pushed trees t r.tree l line items last same
          ∙ ap (λ (n : ℕ). LeftNext n line (pruned_in trees t)) (before ∙ marks.0) ∙ ap (LeftNext at line) tree;
      marks =
          let k = marks_more at (names_fact m.facts line) (needs p) m r.marks marks more in (
            k.0,
            λ (n : ℕ) (less : n < at).
                k.1 n less ∙ ap (λ (k : ℕ). names_fact k line n || needs p n) marks.0,
          );
    }

-- the first part takes the place of a split, or the second
pub first_in_place : (trees : List Tree) (at : ℕ) (line : CertificateLine) (p q : Pruned) (r : Needing) → false ≡ needs p at →
    Leaves trees at p r → Leaves trees at (with_split at line p q) r
first_in_place trees at line p q r e left = of (needs p at) e
  where
    of : (b : Bool) → false ≡ b → Leaves trees at (if b then (if needs q at then LeftSplit at line p q else q) else p) r
    of false h = left
    of true h = absurd cc

pub second_in_place : (trees : List Tree) (at : ℕ) (line : CertificateLine) (p q : Pruned) (r : Needing) → true ≡ needs p at →
    false ≡ needs q at → Leaves trees at q r → Leaves trees at (with_split at line p q) r
second_in_place trees at line p q r e f left = of (needs p at) (needs q at) e f
  where
    of : (a b : Bool) → true ≡ a → false ≡ b → Leaves trees at (if a then (if b then LeftSplit at line p q else q) else p) r
    of true false h g = left
    of true true h g = absurd cc
    of false b h g = absurd cc

pub both_in_place : (trees : List Tree) (at : ℕ) (line : CertificateLine) (p q : Pruned) (r : Needing) (m : Marks) →
    true ≡ needs p at →
    true ≡ needs q at → pruned_in trees r.tree ≡ LeftSplit at line p q → AreMarks at (λ (n : ℕ). needs p n || needs q n) m →
    MarksMore (names_fact m.facts line) m r.marks → Leaves trees at (with_split at line p q) r
both_in_place trees at line p q r m e f tree marks more = of (needs p at) (needs q at) e f
  where
    of : (a b : Bool) → true ≡ a → true ≡ b → Leaves trees at (if a then (if b then LeftSplit at line p q else q) else p) r
    of true true h g = record {
      tree = tree;
      marks =
          let k = marks_more at (names_fact m.facts line) (λ (n : ℕ). needs p n || needs q n) m r.marks marks more in (
            k.0,
            λ (n : ℕ) (less : n < at).
                k.1 n less ∙ ap (λ (k : ℕ). names_fact k line n || (needs p n || needs q n)) marks.0,
          );
    }
    of true false h g = absurd cc
    of false b h g = absurd cc

-- one line more is pruned
pub pruned_more : (trees : List Tree) (at : ℕ) (c : Certificate) (ls : List CertLine) (i : ℕ) (l : CertLine) (r s : Needing) →
    i < length ls →
    l ≡ get_or ls i l →
    Leaves trees (facts_past trees at (take (i + 1) ls)) (pruned (facts_past trees at (take (i + 1) ls))
    (lines_before trees (drop (i + 1) ls) c)) r →
    ((a : ℕ) (p : Pruned) → Leaves trees (a + facts_added (line_in trees l)) p r → Leaves trees a (with_line a (line_in trees l) p) s) →
    Leaves trees (facts_past trees at (take i ls)) (pruned (facts_past trees at (take i ls)) (lines_before trees (drop i ls) c)) s
pruned_more trees at c ls i l r s less is left put =
    let a = facts_past trees at (take i ls) in
    let rest = lines_before trees (drop (i + 1) ls) c in
    let past : facts_past trees at (take (i + 1) ls) ≡ a + facts_added (line_in trees l) =
    ap (facts_past trees at) (up_to ls i l less is) ∙ past_pushed trees at (take i ls) l in
    subst (λ (k : Certificate). Leaves trees a (pruned a k) s)
    (ap (λ (ks : List CertLine). lines_before trees ks c) (sym (here_on ls i l less is)))
    (put a (pruned (a + facts_added (line_in trees l)) rest)
    (subst (λ (n : ℕ). Leaves trees n (pruned n rest) r) past left))

-- one line more is closed up
pub closed_more : (trees : List Tree) (p : Pruned) (whole : Certificate) (out : List CertLine) (moved next : List ℕ) (past k to : ℕ)
    (ls : List LeftLine) (i : ℕ) (l : LeftLine) (m : CertLine) → i < length ls → l ≡ get_or ls i l →
    whole ≡ lines_before trees out (closed_up moved past (left_before trees (take (i + 1) ls) p)) →
    line_in trees m ≡ moved_line (new_number moved) (line_in trees l.line) → k ≡ facts_added (line_in trees l.line) →
    next ≡ numbered_on moved l.before past k → to ≡ past + k →
    whole ≡ lines_before trees (out ++ (m ∷ [])) (closed_up next to (left_before trees (take i ls) p))
closed_more trees p whole out moved next past k to ls i l m less is e line count numbers more =
    let rest = left_before trees (take i ls) p in
    e ∙ ap (λ (ks : List LeftLine). lines_before trees out (closed_up moved past (left_before trees ks p))) (up_to ls i l less is)
    ∙ ap (λ (q : Pruned). lines_before trees out (closed_up moved past q)) (left_pushed trees (take i ls) l p)
    ∙ ap (λ (j : ℕ). lines_before trees out
    (Next (moved_line (new_number moved) (line_in trees l.line)) (closed_up (numbered_on moved l.before past j) (past + j) rest)))
    (sym count)
    ∙ ap (λ (ns : List ℕ). lines_before trees out (Next (moved_line (new_number moved) (line_in trees l.line))
    (closed_up ns (past + k) rest)))
    (sym numbers)
    ∙ ap (λ (n : ℕ). lines_before trees out (Next (moved_line (new_number moved) (line_in trees l.line)) (closed_up next n rest)))
    (sym more)
    ∙ ap (λ (x : CertificateLine). lines_before trees out (Next x (closed_up next to rest))) (sym line)
    ∙ sym (lines_pushed trees out m (closed_up next to rest))
