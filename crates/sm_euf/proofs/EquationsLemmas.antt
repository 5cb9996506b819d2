-- Facts of the program stand for equations, and for contraries of these, that are turned round or put
-- into one another. The sort of an equation is that of both its sides, where the facts are sorted.
use Rattle.sm_euf.proofs.Imports.{◌≡◌, ◌<◌, ℕ, Bool, true, List, length, Option, Some, None, refl, sym, ap, subst, ◌∙◌, Sorts, Tree, tree_at, TermId, same_tree, same_tree_is, BranchFact, Formal, followed, Sides, equation_at, contrary_at, Sym, Subst, equality_adds, or_other, turned_equation, turned_contrary, substituted, formula_if, FactStands, StandsIf, OptionStands, SidesStand}
use Rattle.sm_syntax.specs.declared.tree.Sort.{Sort}
use Rattle.sm_term.specs.declared.formula.Formula.TheVariants as tree
use Rattle.sm_term.specs.Assertions.{Eq, Ne}
use Rattle.sm_term.specs.Sorted.{tree_sort}
use Rattle.sm_theory.specs.declared.fact.Fact.TheVariants as fact
use Rattle.sm_theory.specs.SortedFacts.{AreFactsSorted}
use Rattle.sm_theory.specs.declared.fact.Fact.{Fact}
use Rattle.sm_theory.proofs.FactsLemmas.{fact_is_sorted, equation_stands, contrary_stands, equation, contrary}

-- the right side of an equation has its sort
right_sort : (sorts : Sorts) (facts : List BranchFact) (n : ℕ) (s : Sides) → AreFactsSorted sorts facts → equation_at facts n ≡ Some s →
    tree_sort sorts s.right ≡ s.sort
right_sort sorts facts n s sorted found =
    let both = fact_is_sorted sorts facts n (equation s) sorted (equation_stands facts n s found) in both.1.1

-- so has that of a contrary
right_sort_contrary : (sorts : Sorts) (facts : List BranchFact) (n : ℕ) (s : Sides) → AreFactsSorted sorts facts → contrary_at facts n ≡ Some s →
    tree_sort sorts s.right ≡ s.sort
right_sort_contrary sorts facts n s sorted found =
    let both = fact_is_sorted sorts facts n (contrary s) sorted (contrary_stands facts n s found) in both.1.1

-- two terms of the program that are equal the other way round
abbrev pub turned_fact : TermId × TermId → Fact
turned_fact pair = fact.Form (tree.Eq pair.1 pair.0)

abbrev pub turned_contrary_fact : TermId × TermId → Fact
turned_contrary_fact pair = fact.Form (tree.Ne pair.1 pair.0)

-- an equation that is turned round stands for the one that is turned round
turned_stands : (sorts : Sorts) (trees : List Tree) (pair : TermId × TermId) (s : Sides) → tree_sort sorts s.right ≡ s.sort →
    SidesStand sorts trees pair s → FactStands sorts trees (turned_fact pair) (Formal (Eq s.sort s.right s.left))
turned_stands sorts trees pair s same h =
    let left = tree_at trees pair.0.0 in
    let right = tree_at trees pair.1.0 in
    let there : tree_sort sorts right ≡ tree_sort sorts left = subst (λ (v : Sides). tree_sort sorts v.right ≡ v.sort) (sym h.2) same in
    ((h.1, h.0), ap (λ (sort : Sort). Eq sort right left) there ∙ ap (λ (v : Sides). Eq v.sort v.right v.left) h.2)

turned_contrary_stands : (sorts : Sorts) (trees : List Tree) (pair : TermId × TermId) (s : Sides) → tree_sort sorts s.right ≡ s.sort →
    SidesStand sorts trees pair s → FactStands sorts trees (turned_contrary_fact pair) (Formal (Ne s.sort s.right s.left))
turned_contrary_stands sorts trees pair s same h =
    let left = tree_at trees pair.0.0 in
    let right = tree_at trees pair.1.0 in
    let there : tree_sort sorts right ≡ tree_sort sorts left = subst (λ (v : Sides). tree_sort sorts v.right ≡ v.sort) (sym h.2) same in
    ((h.1, h.0), ap (λ (sort : Sort). Ne sort right left) there ∙ ap (λ (v : Sides). Ne v.sort v.right v.left) h.2)

-- `sym` of an equation
pub sym_of_equation : (sorts : Sorts) (trees : List Tree) (facts : List BranchFact) (n : ℕ) (pair : TermId × TermId) →
    AreFactsSorted sorts facts →
    OptionStands (SidesStand sorts trees) (Some pair) (equation_at facts n) →
    StandsIf sorts trees (Some (turned_fact pair)) (equality_adds sorts facts (Sym n))
sym_of_equation sorts trees facts n pair sorted h = by (equation_at facts n) refl h
  where
    by : (o : Option Sides) → equation_at facts n ≡ o → OptionStands (SidesStand sorts trees) (Some pair) o →
        StandsIf sorts trees (Some (turned_fact pair))
        (or_other (followed o turned_equation) (followed (contrary_at facts n) turned_contrary))
    by None found h = absurd h
    by (Some s) found h = turned_stands sorts trees pair s (right_sort sorts facts n s sorted found) h

-- `sym` of the contrary of one
pub sym_of_contrary : (sorts : Sorts) (trees : List Tree) (facts : List BranchFact) (n : ℕ) (pair : TermId × TermId) →
    AreFactsSorted sorts facts →
    OptionStands (SidesStand sorts trees) None (equation_at facts n) →
    OptionStands (SidesStand sorts trees) (Some pair) (contrary_at facts n) →
    StandsIf sorts trees (Some (turned_contrary_fact pair)) (equality_adds sorts facts (Sym n))
sym_of_contrary sorts trees facts n pair sorted none h = by (equation_at facts n) none (contrary_at facts n) refl h
  where
    by : (e : Option Sides) → OptionStands (SidesStand sorts trees) None e → (o : Option Sides) → contrary_at facts n ≡ o →
        OptionStands (SidesStand sorts trees) (Some pair) o →
        StandsIf sorts trees (Some (turned_contrary_fact pair)) (or_other (followed e turned_equation) (followed o turned_contrary))
    by (Some s) none o found h = absurd none
    by None none None found h = absurd h
    by None none (Some s) found h = turned_contrary_stands sorts trees pair s (right_sort_contrary sorts facts n s sorted found) h

-- `subst`, where the terms that are exchanged are the same
pub subst_of_contrary : (sorts : Sorts) (trees : List Tree) (facts : List BranchFact) (m n : ℕ) (one other : TermId × TermId) (same : Bool) →
    AreFactsSorted sorts facts → OptionStands (SidesStand sorts trees) (Some one) (contrary_at facts m) →
    OptionStands (SidesStand sorts trees) (Some other) (equation_at facts n) →
    (one.0.0 < length trees → other.0.0 < length trees → same ≡ same_tree (tree_at trees one.0.0) (tree_at trees other.0.0)) → same ≡ true →
    StandsIf sorts trees (Some (fact.Form (tree.Ne other.1 one.1))) (equality_adds sorts facts (Subst m n))
subst_of_contrary sorts trees facts m n one other same sorted h g tells is = by (contrary_at facts m) (equation_at facts n) refl h g
  where
    exchanged : Fact
    exchanged = fact.Form (tree.Ne other.1 one.1)

    by : (o p : Option Sides) → equation_at facts n ≡ p → OptionStands (SidesStand sorts trees) (Some one) o →
        OptionStands (SidesStand sorts trees) (Some other) p →
        StandsIf sorts trees (Some exchanged) (followed o (λ (s : Sides). followed p (substituted s)))
    by None p found h g = absurd h
    by (Some s) None found h g = absurd g
    by (Some s) (Some r) found h g =
        let test = tells h.0 g.0 in
        let here = sym test ∙ is in
        let inner = subst (λ (v : Sides). same_tree (tree_at trees one.0.0) v.left ≡ true) g.2 here in
        let passes = subst (λ (v : Sides). same_tree v.left r.left ≡ true) h.2 inner in
        let outer = subst (λ (v : Sides). tree_sort sorts v.right ≡ v.sort) (sym g.2) (right_sort sorts facts n r sorted found) in
        let there = outer ∙ ap (tree_sort sorts) (sym ((same_tree_is (tree_at trees one.0.0) (tree_at trees other.0.0)).0 here)) in
        let same_sorts = ap (λ (sort : Sort). Ne sort (tree_at trees other.1.0) (tree_at trees one.1.0)) there in
        let new_side = ap (λ (v : Sides). Ne (tree_sort sorts (tree_at trees one.0.0)) v.right (tree_at trees one.1.0)) g.2 in
        let old_side = ap (λ (v : Sides). Ne v.sort r.right v.right) h.2 in
        subst (λ (b : Bool). StandsIf sorts trees (Some exchanged) (formula_if b (Ne s.sort r.right s.right))) (sym passes)
        ((g.1, h.1), same_sorts ∙ new_side ∙ old_side)
