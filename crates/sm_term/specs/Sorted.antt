-- Cited by public clauses: the sorts of terms and formulas, and those in which each part has the
-- sort that it is used with.
use Rattle.std.specs.Prelude.{◌≡◌, ℕ, IsTrue, Some, None, is_some, unwrap_or, List, [], ◌∷◌}
use Rattle.sm_syntax.specs.text.Sorts.{Sorts, IsWellSorted}
use Rattle.sm_syntax.specs.declared.tree.Sort.{Sort}
use Rattle.sm_syntax.specs.declared.tree.Sort.TheVariants.{Num, Arr}
use Rattle.sm_term.specs.Terms.{Tree, Lit, Start, Havoc, Slot, Cell, Read, Write, Neg, Add, Sub, Mul, Fun, Arguments, Over, Given}
use Rattle.sm_term.specs.Assertions.{Assertion, Yes, No, Eq, Ne, Le, Lt, And, Or}
use Rattle.sm_term.specs.Symbolic.{SymbolicStore}

-- the sort of a name; a name that isn't declared counts as a number
abbrev pub sort_named : Sorts → ℕ → Sort
sort_named sorts x = unwrap_or (sorts x) Num

-- the sort of a term
abbrev pub tree_sort : Sorts → Tree → Sort
tree_sort sorts (Lit z) = Num
tree_sort sorts (Start x) = sort_named sorts x
tree_sort sorts (Havoc k c x) = sort_named sorts x
tree_sort sorts (Slot c x) = sort_named sorts x
tree_sort sorts Cell = Num
tree_sort sorts (Read a i) = Num
tree_sort sorts (Write a i e) = Arr
tree_sort sorts (Neg t) = Num
tree_sort sorts (Add t u) = Num
tree_sort sorts (Sub t u) = Num
tree_sort sorts (Mul t u) = Num
tree_sort sorts (Fun c x args) = sort_named sorts x

-- a name is declared
abbrev pub IsDeclaredIn : Sorts → ℕ → Type 0
IsDeclaredIn sorts x = IsTrue (is_some (sorts x))

abbrev mutual
  -- each symbol is of a declared name, each part of an operation has the sort that it needs, and the
  -- code of a summary is well sorted
  pub IsSorted : Sorts → Tree → Type 0
  IsSorted sorts (Lit z) = Unit {0}
  IsSorted sorts (Start x) = IsDeclaredIn sorts x
  IsSorted sorts (Havoc k c x) = IsDeclaredIn sorts x
  IsSorted sorts (Slot c x) = IsDeclaredIn sorts x
  IsSorted sorts Cell = Unit {0}
  IsSorted sorts (Read a i) =
      IsSorted sorts a × (tree_sort sorts a ≡ Arr)
      × IsSorted sorts i × (tree_sort sorts i ≡ Num)
  IsSorted sorts (Write a i e) =
      IsSorted sorts a × (tree_sort sorts a ≡ Arr)
      × IsSorted sorts i × (tree_sort sorts i ≡ Num)
      × IsSorted sorts e × (tree_sort sorts e ≡ Num)
  IsSorted sorts (Neg t) = IsSorted sorts t × (tree_sort sorts t ≡ Num)
  IsSorted sorts (Add t u) =
      IsSorted sorts t × (tree_sort sorts t ≡ Num)
      × IsSorted sorts u × (tree_sort sorts u ≡ Num)
  IsSorted sorts (Sub t u) =
      IsSorted sorts t × (tree_sort sorts t ≡ Num)
      × IsSorted sorts u × (tree_sort sorts u ≡ Num)
  IsSorted sorts (Mul t u) =
      IsSorted sorts t × (tree_sort sorts t ≡ Num)
      × IsSorted sorts u × (tree_sort sorts u ≡ Num)
  IsSorted sorts (Fun c x args) =
      IsWellSorted sorts c × IsDeclaredIn sorts x × AreArgumentsSorted sorts args

  -- each argument has the sort of its name
  pub AreArgumentsSorted : Sorts → Arguments → Type 0
  AreArgumentsSorted sorts Over = Unit {0}
  AreArgumentsSorted sorts (Given x t rest) =
      (sorts x ≡ Some (tree_sort sorts t)) × IsSorted sorts t × AreArgumentsSorted sorts rest

-- a term with a sort
abbrev pub HasSort : Sorts → Sort → Tree → Type 0
HasSort sorts sort t = IsSorted sorts t × (tree_sort sorts t ≡ sort)

-- the sides of each equation have its sort, and those of each inequality are numbers
abbrev pub IsFormSorted : Sorts → Assertion → Type 0
IsFormSorted sorts Yes = Unit {0}
IsFormSorted sorts No = Unit {0}
IsFormSorted sorts (Eq sort t u) = HasSort sorts sort t × HasSort sorts sort u
IsFormSorted sorts (Ne sort t u) = HasSort sorts sort t × HasSort sorts sort u
IsFormSorted sorts (Le t u) = HasSort sorts Num t × HasSort sorts Num u
IsFormSorted sorts (Lt t u) = HasSort sorts Num t × HasSort sorts Num u
IsFormSorted sorts (And p q) = IsFormSorted sorts p × IsFormSorted sorts q
IsFormSorted sorts (Or p q) = IsFormSorted sorts p × IsFormSorted sorts q

-- in each formula of a list, equations have sides of their sort, and inequalities have numbers
abbrev pub AreFormsSorted : Sorts → List Assertion → Type 0
AreFormsSorted sorts [] = Unit {0}
AreFormsSorted sorts (f ∷ fs) = IsFormSorted sorts f × AreFormsSorted sorts fs

-- a symbolic store: each declared name has a term of its sort, each other name its start
pub record IsStoreSorted (sorts : Sorts) (s : SymbolicStore) : Type 0 where
  pub declared : (x : ℕ) (sort : Sort) → sorts x ≡ Some sort → HasSort sorts sort (s x)
  pub other : (x : ℕ) → sorts x ≡ None → s x ≡ Start x
