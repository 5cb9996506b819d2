-- Terms in which no summary has more than so many arguments.
use Rattle.sm_houdini.proofs.Imports.{◌≡◌, ◌≤◌, ℕ, nat_le, Bool, true, ◌&&◌, List, [], ◌∷◌, length, refl, arith, and_parts, and_from, Copy, Assertion, Yes, No, Eq, Ne, Le, Lt, And, Or, terms_given, arguments_of, fill_term, at_stores, all_at_stores, SymbolicStore, Tree, Lit, Start, Havoc, Slot, Cell, Read, Neg, Add, Sub, Mul, Fun, Arguments, Given, EachOf, EachSide, AllSides, PassesTest, NoTerm, IsBuilt, IsStoreBuilt, le_from_test}
use Rattle.sm_term.specs.Terms.{Write, Over}

abbrev mutual
  -- each summary in a term has at most so many arguments, inside others too
  pub is_lean : ℕ → Tree → Bool
  is_lean most (Lit z) = true
  is_lean most (Start x) = true
  is_lean most (Havoc k c x) = true
  is_lean most (Slot c x) = true
  is_lean most Cell = true
  is_lean most (Read a i) = is_lean most a && is_lean most i
  is_lean most (Write a i e) = is_lean most a && (is_lean most i && is_lean most e)
  is_lean most (Neg t) = is_lean most t
  is_lean most (Add t u) = is_lean most t && is_lean most u
  is_lean most (Sub t u) = is_lean most t && is_lean most u
  is_lean most (Mul t u) = is_lean most t && is_lean most u
  is_lean most (Fun c x args) = nat_le (length (terms_given args)) most && are_lean most args

  -- each summary in arguments has at most so many arguments, inside others too
  pub are_lean : ℕ → Arguments → Bool
  are_lean most Over = true
  are_lean most (Given x t rest) = is_lean most t && are_lean most rest

module _ (most : ℕ) where
  -- a term that is so
  abbrev pub Lean : Tree → Type 0
  Lean = PassesTest (is_lean most)

  -- a term that is built of such summaries is so
  pub built_lean : (t : Tree) → IsBuilt Lean t → Lean t
  built_lean (Lit z) b = refl
  built_lean (Start x) b = refl
  built_lean (Havoc k c x) b = refl
  built_lean (Slot c x) b = refl
  built_lean Cell b = refl
  built_lean (Read a i) b = and_from (is_lean most a) (is_lean most i) (built_lean a b.0) (built_lean i b.1)
  built_lean (Write a i e) b =
      and_from (is_lean most a) (is_lean most i && is_lean most e) (built_lean a b.0)
      (and_from (is_lean most i) (is_lean most e) (built_lean i b.1) (built_lean e b.2))
  built_lean (Neg t) b = built_lean t b
  built_lean (Add t u) b = and_from (is_lean most t) (is_lean most u) (built_lean t b.0) (built_lean u b.1)
  built_lean (Sub t u) b = and_from (is_lean most t) (is_lean most u) (built_lean t b.0) (built_lean u b.1)
  built_lean (Mul t u) b = and_from (is_lean most t) (is_lean most u) (built_lean t b.0) (built_lean u b.1)
  built_lean (Fun c x args) b = b

  -- its arguments are so too
  given_lean : (args : Arguments) → are_lean most args ≡ true → EachOf Lean (terms_given args)
  given_lean Over h = tt
  given_lean (Given x t rest) h =
      let both = and_parts (is_lean most t) (are_lean most rest) h in (both.0, given_lean rest both.1)

  two_lean : (t u : Tree) → (is_lean most t && is_lean most u) ≡ true → EachOf Lean (t ∷ u ∷ [])
  two_lean t u h = let both = and_parts (is_lean most t) (is_lean most u) h in (both.0, (both.1, tt))

  pub arguments_lean : (t : Tree) → Lean t → EachOf Lean (arguments_of t)
  arguments_lean (Lit z) h = tt
  arguments_lean (Start x) h = tt
  arguments_lean (Havoc k c x) h = tt
  arguments_lean (Slot c x) h = tt
  arguments_lean Cell h = tt
  arguments_lean (Read a i) h = two_lean a i h
  arguments_lean (Write a i e) h =
      let both = and_parts (is_lean most a) (is_lean most i && is_lean most e) h in (both.0, two_lean i e both.1)
  arguments_lean (Neg t) h = (h, tt)
  arguments_lean (Add t u) h = two_lean t u h
  arguments_lean (Sub t u) h = two_lean t u h
  arguments_lean (Mul t u) h = two_lean t u h
  arguments_lean (Fun c x args) h =
      given_lean args (and_parts (nat_le (length (terms_given args)) most) (are_lean most args) h).1

  -- a lean term has at most as many arguments as its summaries may have, or 3
  pub arguments_few : (n : ℕ) → most ≤ n → 3 ≤ n → (t : Tree) → Lean t → length (arguments_of t) ≤ n
  arguments_few n h g (Lit z) lean = omega (arith, g)
  arguments_few n h g (Start x) lean = omega (arith, g)
  arguments_few n h g (Havoc k c x) lean = omega (arith, g)
  arguments_few n h g (Slot c x) lean = omega (arith, g)
  arguments_few n h g Cell lean = omega (arith, g)
  arguments_few n h g (Read a i) lean = omega (arith, g)
  arguments_few n h g (Write a i e) lean = omega (arith, g)
  arguments_few n h g (Neg t) lean = omega (arith, g)
  arguments_few n h g (Add t u) lean = omega (arith, g)
  arguments_few n h g (Sub t u) lean = omega (arith, g)
  arguments_few n h g (Mul t u) lean = omega (arith, g)
  arguments_few n h g (Fun c x args) lean =
      let few = le_from_test (length (terms_given args)) most
      (and_parts (nat_le (length (terms_given args)) most) (are_lean most args) lean).0 in
      omega (arith, few, h)

  -- terms with no summary, at stores of such terms
  module _ (s : Copy → SymbolicStore) (all : (c : Copy) → IsStoreBuilt Lean (s c)) where
    filled_lean : (t : Tree) → IsBuilt NoTerm t → IsBuilt Lean (fill_term s t)
    filled_lean (Lit z) b = tt
    filled_lean (Start x) b = tt
    filled_lean (Havoc k c x) b = absurd b
    filled_lean (Slot c x) b = all c x
    filled_lean Cell b = tt
    filled_lean (Read a i) b = (filled_lean a b.0, filled_lean i b.1)
    filled_lean (Write a i e) b = (filled_lean a b.0, filled_lean i b.1, filled_lean e b.2)
    filled_lean (Neg t) b = filled_lean t b
    filled_lean (Add t u) b = (filled_lean t b.0, filled_lean u b.1)
    filled_lean (Sub t u) b = (filled_lean t b.0, filled_lean u b.1)
    filled_lean (Mul t u) b = (filled_lean t b.0, filled_lean u b.1)
    filled_lean (Fun c x args) b = absurd b

    at_lean : (f : Assertion) → EachSide (IsBuilt NoTerm) f → EachSide (IsBuilt Lean) (at_stores s f)
    at_lean Yes b = tt
    at_lean No b = tt
    at_lean (Eq sort t u) b = (filled_lean t b.0, filled_lean u b.1)
    at_lean (Ne sort t u) b = (filled_lean t b.0, filled_lean u b.1)
    at_lean (Le t u) b = (filled_lean t b.0, filled_lean u b.1)
    at_lean (Lt t u) b = (filled_lean t b.0, filled_lean u b.1)
    at_lean (And p q) b = (at_lean p b.0, at_lean q b.1)
    at_lean (Or p q) b = (at_lean p b.0, at_lean q b.1)

    pub all_at_lean : (fs : List Assertion) → AllSides (IsBuilt NoTerm) fs → AllSides (IsBuilt Lean) (all_at_stores s fs)
    all_at_lean [] b = tt
    all_at_lean (f ∷ fs) b = (at_lean f b.0, all_at_lean fs b.1)
