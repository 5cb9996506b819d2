-- The fact of two terms of one head stands for what the definition adds.
use Rattle.sm_euf.proofs.Imports.{◌≡◌, ℕ, ◌==◌, ◌<◌, Bool, true, false, ◌&&◌, List, [], ◌∷◌, length, Some, None, refl, sym, ◌∙◌, Sorts, Tree, tree_at, TermId, same_head, arguments_of, BranchFact, Cong, equality_adds, is_inhabited_list, say_equal, StandsIf}
use Rattle.sm_term.specs.declared.formula.Formula.TheVariants as tree
use Rattle.sm_theory.specs.declared.fact.Fact.TheVariants as fact

-- a list that isn't empty has an element
inhabited : (ns : List ℕ) (b : Bool) → b ≡ (length ns == 0) → b ≡ false → is_inhabited_list ns ≡ true
inhabited [] b e f = absurd cc
inhabited (n ∷ ns) b e f = refl

-- what the three tests say together, where the first two are passed
three : (a b c r : Bool) → a ≡ true → b ≡ true → r ≡ c → r ≡ (a && (b && c))
three a b c r one two e = rw (one, two) e

-- all tests are passed
pub cong_stands : (sorts : Sorts) (trees : List Tree) (facts : List BranchFact) (t u : TermId) (ns : List ℕ) (empty head equal : Bool) →
    t.0 < length trees → u.0 < length trees → empty ≡ (length ns == 0) → empty ≡ false →
    head ≡ same_head (tree_at trees t.0) (tree_at trees u.0) → head ≡ true →
    equal ≡ say_equal facts ns (arguments_of (tree_at trees t.0)) (arguments_of (tree_at trees u.0)) → equal ≡ true →
    StandsIf sorts trees (Some (fact.Form (tree.Eq t u))) (equality_adds sorts facts (Cong (tree_at trees t.0) (tree_at trees u.0) ns))
cong_stands sorts trees facts t u ns empty head equal v w e some h same f are =
    let test = three _ _ _ equal (inhabited ns empty e some) (sym h ∙ same) f in
    rw (sym test, are) ((v, w), refl)

-- the last one isn't
pub cong_fails : (sorts : Sorts) (trees : List Tree) (facts : List BranchFact) (t u : TermId) (ns : List ℕ) (empty head equal : Bool) →
    empty ≡ (length ns == 0) → empty ≡ false → head ≡ same_head (tree_at trees t.0) (tree_at trees u.0) → head ≡ true →
    equal ≡ say_equal facts ns (arguments_of (tree_at trees t.0)) (arguments_of (tree_at trees u.0)) → equal ≡ false →
    StandsIf sorts trees None (equality_adds sorts facts (Cong (tree_at trees t.0) (tree_at trees u.0) ns))
cong_fails sorts trees facts t u ns empty head equal e some h same f are =
    let test = three _ _ _ equal (inhabited ns empty e some) (sym h ∙ same) f in
    rw (sym test, are) tt
