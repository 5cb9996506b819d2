-- Lines of certificates name terms that are there, and nodes keep formulas that are there.
use Rattle.sm_proof.proofs.Imports.{◌≡◌, ℕ, ◌<◌, Bool, ◌&&◌, true, false, nat_lt, nat_le, if◌then◌else◌, Some, None, slice_get, List, [], ◌∷◌, length, refl, ap, subst, and_from, ltb-true, lt-ltb, same_Some, slice_get-get_or, copy_of, by_copy, Sorts, Tree, Assertion, CertificateLine, facts_named, terms_named, with_terms, EachOf, EachNamed, followed_from, IsFreshAt, IsNodeSorted, NumberedLine, are_there, named_line, named_node, both_pass}
use Rattle.sm_term.specs.Tables.{tree_at}
use Rattle.sm_theory.proofs.LinesOver.{each_with, each_more}
use Rattle.sm_plan.specs.Copies.{Copies}
use Rattle.sm_plan.specs.Masks.{set_of}
use Rattle.sm_plan.specs.Nodes as plan
use Rattle.sm_proof.specs.declared.line.NodeLine.TheVariants as node
use Rattle.sm_proof.specs.Lines.{NodeLine}
use Rattle.sm_proof.proofs.ProgressLemmas.{Each, IsFormFine, each_at}

-- numbers that are there are below the count
pub there_below : (count : ℕ) (ns : List ℕ) → are_there count ns ≡ true → EachOf (λ (n : ℕ). n < count) ns
there_below count [] e = tt
there_below count (n ∷ []) e = ltb-true n count (both_pass (nat_lt n count) true e).0
there_below count (n ∷ (m ∷ ms)) e =
    let it = both_pass (nat_lt n count) (are_there count (m ∷ ms)) e in (ltb-true n count it.0, there_below count (m ∷ ms) it.1)

-- numbers below the count are there
all_there : (count : ℕ) (ns : List ℕ) → EachOf (λ (n : ℕ). n < count) ns → are_there count ns ≡ true
all_there count [] all = refl
all_there count (n ∷ []) all = and_from (nat_lt n count) true (lt-ltb n count all) refl
all_there count (n ∷ (m ∷ ms)) all =
    and_from (nat_lt n count) (are_there count (m ∷ ms)) (lt-ltb n count all.0) (all_there count (m ∷ ms) all.1)

-- so a line whose terms and facts are there is named
pub named_from : (trees : List Tree) (count : ℕ) (line : NumberedLine) → EachNamed (λ (n : ℕ). n < length trees) line →
    are_there count (facts_named line) ≡ true → named_line trees count line ≡ Some (with_terms (tree_at trees) line)
named_from trees count line all facts =
    ap (λ (b : Bool). if b then Some (with_terms (tree_at trees) line) else None)
    (and_from (are_there (length trees) (terms_named line)) (are_there count (facts_named line))
    (all_there (length trees) (terms_named line) all) facts)

-- a line that is named has its terms and facts
pub named_there : (trees : List Tree) (count : ℕ) (line : NumberedLine) (l : CertificateLine) → named_line trees count line ≡ Some l →
    (are_there (length trees) (terms_named line) ≡ true) × (are_there count (facts_named line) ≡ true)
    × (with_terms (tree_at trees) line ≡ l)
named_there trees count line l = of (are_there (length trees) (terms_named line)) (are_there count (facts_named line))
  where
    of : (a b : Bool) → (if a && b then Some (with_terms (tree_at trees) line) else None) ≡ Some l →
        (a ≡ true) × (b ≡ true) × (with_terms (tree_at trees) line ≡ l)
    of true true e = (refl, refl, same_Some (with_terms (tree_at trees) line) l e)
    of true false e = absurd cc
    of false b e = absurd cc

-- what is so of each term that is there is so of each term that a line names
pub named_line_fine : (P : Tree → Type 0) (trees : List Tree) (count : ℕ) (line : NumberedLine) (l : CertificateLine) →
    Each P trees → named_line trees count line ≡ Some l →
    EachNamed P l
named_line_fine P trees count line l all e =
    let is = named_there trees count line l e in
    subst (EachNamed P) is.2
    (each_with P (tree_at trees) line
    (each_more (λ (n : ℕ). n < length trees) (λ (n : ℕ). P (tree_at trees n)) line
    (λ (n : ℕ) (h : n < length trees). each_at P trees n (tree_at trees n) all (slice_get-get_or trees n _ h))
    (there_below (length trees) (terms_named line) is.0)))

-- the formula that a node keeps is sorted, and names no new value of node k or of a later one
abbrev pub IsNodeFine : Sorts → ℕ → plan.Node → Type 0
IsNodeFine sorts k n = IsNodeSorted sorts n × IsFreshAt k n

-- a node keeps a formula that is there
pub named_node_fine : (sorts : Sorts) (k : ℕ) (forms : List Assertion) (line : NodeLine) (n : plan.Node) →
    Each (IsFormFine sorts k) forms → named_node forms line ≡ Some n →
    IsNodeFine sorts k n
named_node_fine sorts k forms (node.Step c) n all e = subst (IsNodeFine sorts k) (same_Some (plan.Step (copy_of c)) n e) (tt, tt)
named_node_fine sorts k forms (node.Abs c count) n all e = subst (IsNodeFine sorts k) (same_Some (plan.Abs (copy_of c) count) n e) (tt, tt)
named_node_fine sorts k forms (node.Fork c) n all e = subst (IsNodeFine sorts k) (same_Some (plan.Fork (copy_of c)) n e) (tt, tt)
named_node_fine sorts k forms (node.Loop set keep) n all e =
    let next = λ (f : Assertion). Some (if nat_le set 15 then plan.Loop (set_of set) f else plan.Unfit 4) in
    let p = followed_from (slice_get forms keep) next n e in
    let fine = each_at (IsFormFine sorts k) forms keep p.0 all p.1 in
    subst (IsNodeFine sorts k) (same_Some (if nat_le set 15 then plan.Loop (set_of set) p.0 else plan.Unfit 4) n p.2)
    (of (nat_le set 15) (set_of set) p.0 fine)
  where
    of : (b : Bool) (copies : Copies) (f : Assertion) → IsFormFine sorts k f →
        IsNodeFine sorts k (if b then plan.Loop copies f else plan.Unfit 4)
    of true copies f fine = fine
    of false copies f fine = (tt, tt)
named_node_fine sorts k forms (node.Block k0 k1 k2 k3 keep) n all e =
    let next = λ (f : Assertion). Some (plan.Block (by_copy k0 k1 k2 k3) f) in
    let p = followed_from (slice_get forms keep) next n e in
    subst (IsNodeFine sorts k) (same_Some (plan.Block (by_copy k0 k1 k2 k3) p.0) n p.2)
    (each_at (IsFormFine sorts k) forms keep p.0 all p.1)
named_node_fine sorts k forms node.Dead n all e = subst (IsNodeFine sorts k) (same_Some plan.Dead n e) (tt, tt)
named_node_fine sorts k forms node.End n all e = subst (IsNodeFine sorts k) (same_Some plan.Ends n e) (tt, tt)
