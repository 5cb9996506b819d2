-- Terms with one head: they have one sort and as many arguments, and differ in these alone.
use Rattle.sm_term.proofs.Imports.{◌≡◌, ℕ, ◌==◌, ◌&&◌, IsTrue, List, [], ◌∷◌, refl, ap, eqb-true, and_parts, Sorts, Code, Tree, Write, Add, Sub, Mul, Fun, Arguments, Over, Given, tree_sort, sort_named, same_code}
use Rattle.sm_term.specs.Terms.{Read, Neg}
use Rattle.sm_term.specs.Heads.{terms_given, arguments_of, same_names, same_head}
use Rattle.sm_term.proofs.SameTermsLemmas.{same_code_is}

-- summaries with one head are of one code and of one name, and their arguments of the same names
pub same_head_of_summaries : (c d : Code) (x y : ℕ) (ts us : Arguments) → IsTrue (same_head (Fun c x ts) (Fun d y us)) →
    (c ≡ d) × (x ≡ y) × IsTrue (same_names ts us)
same_head_of_summaries c d x y ts us h =
    let p = and_parts (same_code c d) ((x == y) && same_names ts us) h in
    let q = and_parts (x == y) (same_names ts us) p.1 in
    ((same_code_is c d).0 p.0, eqb-true x y q.0, q.1)

-- terms with one head have one sort
pub same_head_has_sort : (sorts : Sorts) (t u : Tree) → IsTrue (same_head t u) → tree_sort sorts t ≡ tree_sort sorts u
same_head_has_sort sorts (Read a i) (Read b j) h = refl
same_head_has_sort sorts (Write a i d) (Write b j e) h = refl
same_head_has_sort sorts (Neg t) (Neg u) h = refl
same_head_has_sort sorts (Add r s) (Add t u) h = refl
same_head_has_sort sorts (Sub r s) (Sub t u) h = refl
same_head_has_sort sorts (Mul r s) (Mul t u) h = refl
same_head_has_sort sorts (Fun c x ts) (Fun d y us) h = ap (sort_named sorts) (same_head_of_summaries c d x y ts us h).1
same_head_has_sort sorts t u h = absurd cc

-- the first of a list and what follows it, from equal lists
first_is : (t u : Tree) (ts us : List Tree) → t ∷ ts ≡ u ∷ us → (t ≡ u) × (ts ≡ us)
first_is t u ts us h = (cc, cc)

-- arguments of the same names and with equal terms are equal
names_and_terms : (ts us : Arguments) → IsTrue (same_names ts us) → terms_given ts ≡ terms_given us → ts ≡ us
names_and_terms Over Over h same = refl
names_and_terms (Given x t ts) (Given y u us) h same =
    let p = and_parts (x == y) (same_names ts us) h in
    let q = first_is t u (terms_given ts) (terms_given us) same in
    rw (eqb-true x y p.0, q.0, names_and_terms ts us p.1 q.1) refl
names_and_terms ts us h same = absurd cc

-- terms with one head and with equal arguments are equal
pub same_head_decides : (t u : Tree) → IsTrue (same_head t u) → arguments_of t ≡ arguments_of u → t ≡ u
same_head_decides (Read a i) (Read b j) h same = let p = first_is a b (i ∷ []) (j ∷ []) same in rw (p.0, (first_is i j [] [] p.1).0) refl
same_head_decides (Write a i d) (Write b j e) h same =
    let p = first_is a b (i ∷ d ∷ []) (j ∷ e ∷ []) same in
    let q = first_is i j (d ∷ []) (e ∷ []) p.1 in
    rw (p.0, q.0, (first_is d e [] [] q.1).0) refl
same_head_decides (Neg t) (Neg u) h same = rw ((first_is t u [] [] same).0) refl
same_head_decides (Add r s) (Add t u) h same = let p = first_is r t (s ∷ []) (u ∷ []) same in rw (p.0, (first_is s u [] [] p.1).0) refl
same_head_decides (Sub r s) (Sub t u) h same = let p = first_is r t (s ∷ []) (u ∷ []) same in rw (p.0, (first_is s u [] [] p.1).0) refl
same_head_decides (Mul r s) (Mul t u) h same = let p = first_is r t (s ∷ []) (u ∷ []) same in rw (p.0, (first_is s u [] [] p.1).0) refl
same_head_decides (Fun c x ts) (Fun d y us) h same =
    let p = same_head_of_summaries c d x y ts us h in rw (p.0, p.1, names_and_terms ts us p.2 same) refl
same_head_decides t u h same = absurd cc
