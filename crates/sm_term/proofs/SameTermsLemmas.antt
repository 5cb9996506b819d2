-- Terms pass the test of being the same exactly where they are equal.
use Rattle.sm_term.proofs.Imports.{◌≡◌, ◌↔◌, ◌==◌, true, ◌&&◌, IsTrue, refl, eqb-true, and_parts, Decides-int_eq, Sort, Num, Arr, Copy, O, A, B, M, Tree, Start, Havoc, Slot, Write, Add, Sub, Mul, Fun, Arguments, Over, Given, is_copy, same_sort, same_code, same_tree, same_arguments}
use Rattle.sm_term.specs.Terms.{Lit, Cell, Read, Neg}
use Rattle.sm_term.specs.SameTestLaws.{both, three, says, same_number, same_whole}
use Rattle.sm_term.specs.SameCodeLaws.{code_gives, code_itself}
pub use Rattle.sm_term.specs.SameTestLaws.{same_comparison_is, same_expression_is, same_condition_is}
pub use Rattle.sm_term.specs.SameCodeLaws.{same_code_is}

-- copies
pub copy_gives : (c d : Copy) → is_copy c d ≡ true → c ≡ d
copy_gives O O h = refl
copy_gives A A h = refl
copy_gives B B h = refl
copy_gives M M h = refl
copy_gives c d h = absurd cc

pub copy_itself : (c : Copy) → is_copy c c ≡ true
copy_itself O = refl
copy_itself A = refl
copy_itself B = refl
copy_itself M = refl

-- two copies are the same exactly where they are equal
pub is_copy_is : (c d : Copy) → IsTrue (is_copy c d) ↔ (c ≡ d)
is_copy_is = says is_copy copy_gives copy_itself

-- sorts
sort_gives : (s r : Sort) → same_sort s r ≡ true → s ≡ r
sort_gives Num Num h = refl
sort_gives Arr Arr h = refl
sort_gives s r h = absurd cc

pub sort_itself : (s : Sort) → same_sort s s ≡ true
sort_itself Num = refl
sort_itself Arr = refl

-- two sorts are the same exactly where they are equal
pub same_sort_is : (s r : Sort) → IsTrue (same_sort s r) ↔ (s ≡ r)
same_sort_is = says same_sort sort_gives sort_itself

mutual
  -- terms
  tree_gives : (t u : Tree) → same_tree t u ≡ true → t ≡ u
  tree_gives (Lit y) (Lit z) h = rw ((Decides-int_eq y z).0 h) refl
  tree_gives (Start x) (Start y) h = rw (eqb-true x y h) refl
  tree_gives (Havoc j c x) (Havoc k d y) h =
      let p = and_parts (j == k) (is_copy c d && (x == y)) h in
      let q = and_parts (is_copy c d) (x == y) p.1 in
      rw (eqb-true j k p.0, copy_gives c d q.0, eqb-true x y q.1) refl
  tree_gives (Slot c x) (Slot d y) h =
      let p = and_parts (is_copy c d) (x == y) h in rw (copy_gives c d p.0, eqb-true x y p.1) refl
  tree_gives Cell Cell h = refl
  tree_gives (Read a i) (Read b j) h =
      let p = and_parts (same_tree a b) (same_tree i j) h in rw (tree_gives a b p.0, tree_gives i j p.1) refl
  tree_gives (Write a i d) (Write b j e) h =
      let p = and_parts (same_tree a b) (same_tree i j && same_tree d e) h in
      let q = and_parts (same_tree i j) (same_tree d e) p.1 in
      rw (tree_gives a b p.0, tree_gives i j q.0, tree_gives d e q.1) refl
  tree_gives (Neg t) (Neg u) h = rw (tree_gives t u h) refl
  tree_gives (Add r s) (Add t u) h =
      let p = and_parts (same_tree r t) (same_tree s u) h in rw (tree_gives r t p.0, tree_gives s u p.1) refl
  tree_gives (Sub r s) (Sub t u) h =
      let p = and_parts (same_tree r t) (same_tree s u) h in rw (tree_gives r t p.0, tree_gives s u p.1) refl
  tree_gives (Mul r s) (Mul t u) h =
      let p = and_parts (same_tree r t) (same_tree s u) h in rw (tree_gives r t p.0, tree_gives s u p.1) refl
  tree_gives (Fun c x ts) (Fun d y us) h =
      let p = and_parts (same_code c d) ((x == y) && same_arguments ts us) h in
      let q = and_parts (x == y) (same_arguments ts us) p.1 in
      rw (code_gives c d p.0, eqb-true x y q.0, arguments_give ts us q.1) refl
  tree_gives t u h = absurd cc

  -- arguments
  arguments_give : (ts us : Arguments) → same_arguments ts us ≡ true → ts ≡ us
  arguments_give Over Over h = refl
  arguments_give (Given x t ts) (Given y u us) h =
      let p = and_parts (x == y) (same_tree t u && same_arguments ts us) h in
      let q = and_parts (same_tree t u) (same_arguments ts us) p.1 in
      rw (eqb-true x y p.0, tree_gives t u q.0, arguments_give ts us q.1) refl
  arguments_give ts us h = absurd cc

mutual
  tree_itself : (t : Tree) → same_tree t t ≡ true
  tree_itself (Lit z) = same_whole z
  tree_itself (Start x) = same_number x
  tree_itself (Havoc k c x) = three (k == k) (is_copy c c) (x == x) (same_number k) (copy_itself c) (same_number x)
  tree_itself (Slot c x) = both (is_copy c c) (x == x) (copy_itself c) (same_number x)
  tree_itself Cell = refl
  tree_itself (Read a i) = both (same_tree a a) (same_tree i i) (tree_itself a) (tree_itself i)
  tree_itself (Write a i e) = three (same_tree a a) (same_tree i i) (same_tree e e) (tree_itself a) (tree_itself i) (tree_itself e)
  tree_itself (Neg t) = tree_itself t
  tree_itself (Add t u) = both (same_tree t t) (same_tree u u) (tree_itself t) (tree_itself u)
  tree_itself (Sub t u) = both (same_tree t t) (same_tree u u) (tree_itself t) (tree_itself u)
  tree_itself (Mul t u) = both (same_tree t t) (same_tree u u) (tree_itself t) (tree_itself u)
  tree_itself (Fun c x args) =
      three (same_code c c) (x == x) (same_arguments args args) (code_itself c) (same_number x) (arguments_themselves args)

  arguments_themselves : (args : Arguments) → same_arguments args args ≡ true
  arguments_themselves Over = refl
  arguments_themselves (Given x t rest) =
      three (x == x) (same_tree t t) (same_arguments rest rest) (same_number x) (tree_itself t) (arguments_themselves rest)

-- two terms are the same exactly where they are equal
pub same_tree_is : (t u : Tree) → IsTrue (same_tree t u) ↔ (t ≡ u)
same_tree_is = says same_tree tree_gives tree_itself

-- two lists of arguments are the same exactly where they are equal
pub same_arguments_is : (ts us : Arguments) → IsTrue (same_arguments ts us) ↔ (ts ≡ us)
same_arguments_is = says same_arguments arguments_give arguments_themselves
