-- Terms that are built of literals, starts, slots and the cell, and of new values and summaries of a kind.
use Rattle.sm_write.proofs.Imports.{◌≡◌, ℕ, List, [], ◌∷◌, ◌++◌, refl, ap, subst, sym, Expression, Condition, Code, Copy, Tree, Start, Havoc, Slot, Cell, Read, Write, Neg, Add, Sub, Mul, Fun, Arguments, Given, Assertion, negate, conj, arguments_of, SymbolicStore, term_of, comparison_form, form_of, fill_term, fill_arguments, at_stores, all_at_stores, EachOf, EachSide, AllSides, IsBuilt, IsAtom}
use Rattle.sm_syntax.specs.declared.tree.Cmp.TheVariants as cmp
use Rattle.sm_syntax.specs.claim.Syntax as syntax
use Rattle.sm_syntax.specs.declared.tree.Cmp.{Cmp}
use Rattle.sm_term.specs.Terms.{Lit, Over}
use Rattle.sm_term.specs.Assertions.{Yes, No, Eq, Ne, Le, Lt, And, Or}

abbrev mutual
  -- a term has no slot
  pub IsPlain : Tree → Type 0
  IsPlain (Lit z) = Unit {0}
  IsPlain (Start x) = Unit {0}
  IsPlain (Havoc k c x) = Unit {0}
  IsPlain (Slot c x) = ⊥
  IsPlain Cell = Unit {0}
  IsPlain (Read a i) = IsPlain a × IsPlain i
  IsPlain (Write a i e) = IsPlain a × IsPlain i × IsPlain e
  IsPlain (Neg t) = IsPlain t
  IsPlain (Add t u) = IsPlain t × IsPlain u
  IsPlain (Sub t u) = IsPlain t × IsPlain u
  IsPlain (Mul t u) = IsPlain t × IsPlain u
  IsPlain (Fun c x args) = ArePlain args

  -- arguments have no slot
  pub ArePlain : Arguments → Type 0
  ArePlain Over = Unit {0}
  ArePlain (Given x t rest) = IsPlain t × ArePlain rest

-- a wider kind
pub built_more : (K L : Tree → Type 0) → ((t : Tree) → IsAtom t → K t → L t) → (t : Tree) → IsBuilt K t → IsBuilt L t
built_more K L more (Lit z) b = tt
built_more K L more (Start x) b = tt
built_more K L more (Havoc k c x) b = more (Havoc k c x) tt b
built_more K L more (Slot c x) b = tt
built_more K L more Cell b = tt
built_more K L more (Read a i) b = (built_more K L more a b.0, built_more K L more i b.1)
built_more K L more (Write a i e) b = (built_more K L more a b.0, built_more K L more i b.1, built_more K L more e b.2)
built_more K L more (Neg t) b = built_more K L more t b
built_more K L more (Add t u) b = (built_more K L more t b.0, built_more K L more u b.1)
built_more K L more (Sub t u) b = (built_more K L more t b.0, built_more K L more u b.1)
built_more K L more (Mul t u) b = (built_more K L more t b.0, built_more K L more u b.1)
built_more K L more (Fun c x args) b = more (Fun c x args) tt b

-- what is of the kind is built
pub built_known : (K : Tree → Type 0) (t : Tree) → IsAtom t → K t → IsBuilt K t
built_known K (Lit z) a b = tt
built_known K (Start x) a b = tt
built_known K (Havoc k c x) a b = b
built_known K (Slot c x) a b = tt
built_known K Cell a b = tt
built_known K (Read t i) a b = absurd a
built_known K (Write t i e) a b = absurd a
built_known K (Neg t) a b = absurd a
built_known K (Add t u) a b = absurd a
built_known K (Sub t u) a b = absurd a
built_known K (Mul t u) a b = absurd a
built_known K (Fun c x args) a b = b

-- the arguments of a term that is built, where those of the kind's terms are
pub built_parts : (K : Tree → Type 0) → ((t : Tree) → IsAtom t → K t → EachOf (IsBuilt K) (arguments_of t)) → (t : Tree) → IsBuilt K t
    → EachOf (IsBuilt K) (arguments_of t)
built_parts K parts (Lit z) b = tt
built_parts K parts (Start x) b = tt
built_parts K parts (Havoc k c x) b = tt
built_parts K parts (Slot c x) b = tt
built_parts K parts Cell b = tt
built_parts K parts (Read a i) b = (b.0, (b.1, tt))
built_parts K parts (Write a i e) b = (b.0, (b.1, (b.2, tt)))
built_parts K parts (Neg t) b = (b, tt)
built_parts K parts (Add t u) b = (b.0, (b.1, tt))
built_parts K parts (Sub t u) b = (b.0, (b.1, tt))
built_parts K parts (Mul t u) b = (b.0, (b.1, tt))
built_parts K parts (Fun c x args) b = parts (Fun c x args) tt b

-- something else that follows of each
pub each_more : (P Q : Tree → Type 0) → ((t : Tree) → P t → Q t) → (ts : List Tree) → EachOf P ts → EachOf Q ts
each_more P Q more [] b = tt
each_more P Q more (t ∷ ts) b = (more t b.0, each_more P Q more ts b.1)

-- what follows of each term is so of the terms that a formula compares
pub side_more : (P Q : Tree → Type 0) → ((t : Tree) → P t → Q t) → (f : Assertion) → EachSide P f → EachSide Q f
side_more P Q more Yes b = tt
side_more P Q more No b = tt
side_more P Q more (Eq sort t u) b = (more t b.0, more u b.1)
side_more P Q more (Ne sort t u) b = (more t b.0, more u b.1)
side_more P Q more (Le t u) b = (more t b.0, more u b.1)
side_more P Q more (Lt t u) b = (more t b.0, more u b.1)
side_more P Q more (And p q) b = (side_more P Q more p b.0, side_more P Q more q b.1)
side_more P Q more (Or p q) b = (side_more P Q more p b.0, side_more P Q more q b.1)

pub sides_more : (P Q : Tree → Type 0) → ((t : Tree) → P t → Q t) → (fs : List Assertion) → AllSides P fs → AllSides Q fs
sides_more P Q more [] b = tt
sides_more P Q more (f ∷ fs) b = (side_more P Q more f b.0, sides_more P Q more fs b.1)

-- formulas one after the other
pub sides_append : (P : Tree → Type 0) (fs gs : List Assertion) → AllSides P fs → AllSides P gs → AllSides P (fs ++ gs)
sides_append P [] gs first second = second
sides_append P (f ∷ fs) gs first second = (first.0, sides_append P fs gs first.1 second)

-- a comparison of terms
compared_sides : (P : Tree → Type 0) (op : Cmp) (t u : Tree) → P t → P u → EachSide P (comparison_form op t u)
compared_sides P cmp.Eq t u first second = (first, second)
compared_sides P cmp.Ne t u first second = (first, second)
compared_sides P cmp.Lt t u first second = (first, second)
compared_sides P cmp.Le t u first second = (first, second)
compared_sides P cmp.Gt t u first second = (second, first)
compared_sides P cmp.Ge t u first second = (second, first)

-- a formula's contrary
pub negate_sides : (P : Tree → Type 0) (f : Assertion) → EachSide P f → EachSide P (negate f)
negate_sides P Yes b = tt
negate_sides P No b = tt
negate_sides P (Eq sort t u) b = b
negate_sides P (Ne sort t u) b = b
negate_sides P (Le t u) b = (b.1, b.0)
negate_sides P (Lt t u) b = (b.1, b.0)
negate_sides P (And p q) b = (negate_sides P p b.0, negate_sides P q b.1)
negate_sides P (Or p q) b = (negate_sides P p b.0, negate_sides P q b.1)

-- the parts of a conjunction
pub conj_sides : (P : Tree → Type 0) (f : Assertion) → EachSide P f → AllSides P (conj f)
conj_sides P Yes b = tt
conj_sides P No b = (tt, tt)
conj_sides P (Eq sort t u) b = (b, tt)
conj_sides P (Ne sort t u) b = (b, tt)
conj_sides P (Le t u) b = (b, tt)
conj_sides P (Lt t u) b = (b, tt)
conj_sides P (And p q) b = sides_append P (conj p) (conj q) (conj_sides P p b.0) (conj_sides P q b.1)
conj_sides P (Or p q) b = (b, tt)

-- the terms of a store are built
abbrev pub IsStoreBuilt : (Tree → Type 0) → SymbolicStore → Type 0
IsStoreBuilt K s = (x : ℕ) → IsBuilt K (s x)

-- none has a slot
abbrev pub IsStorePlain : SymbolicStore → Type 0
IsStorePlain s = (x : ℕ) → IsPlain (s x)

-- the term of an expression
pub term_built : (K : Tree → Type 0) (e : Expression) (s : SymbolicStore) → IsStoreBuilt K s → IsBuilt K (term_of e s)
term_built K (syntax.Lit z) s b = tt
term_built K (syntax.Var x) s b = b x
term_built K (syntax.Read a i) s b = (b a, term_built K i s b)
term_built K (syntax.Neg e) s b = term_built K e s b
term_built K (syntax.Plus d e) s b = (term_built K d s b, term_built K e s b)
term_built K (syntax.Minus d e) s b = (term_built K d s b, term_built K e s b)
term_built K (syntax.Times d e) s b = (term_built K d s b, term_built K e s b)

pub term_plain : (e : Expression) (s : SymbolicStore) → IsStorePlain s → IsPlain (term_of e s)
term_plain (syntax.Lit z) s b = tt
term_plain (syntax.Var x) s b = b x
term_plain (syntax.Read a i) s b = (b a, term_plain i s b)
term_plain (syntax.Neg e) s b = term_plain e s b
term_plain (syntax.Plus d e) s b = (term_plain d s b, term_plain e s b)
term_plain (syntax.Minus d e) s b = (term_plain d s b, term_plain e s b)
term_plain (syntax.Times d e) s b = (term_plain d s b, term_plain e s b)

-- the formula of a condition
pub form_built : (K : Tree → Type 0) (b : Condition) (s : SymbolicStore) → IsStoreBuilt K s → EachSide (IsBuilt K) (form_of b s)
form_built K syntax.Yes s b = tt
form_built K syntax.No s b = tt
form_built K (syntax.Compare op d e) s b =
    compared_sides (IsBuilt K) op (term_of d s) (term_of e s) (term_built K d s b) (term_built K e s b)
form_built K (syntax.Not c) s b = negate_sides (IsBuilt K) (form_of c s) (form_built K c s b)
form_built K (syntax.And c d) s b = (form_built K c s b, form_built K d s b)
form_built K (syntax.Or c d) s b = (form_built K c s b, form_built K d s b)

mutual
  -- a term without slots stays at stores
  filled_plain : (s : Copy → SymbolicStore) (t : Tree) → IsPlain t → fill_term s t ≡ t
  filled_plain s (Lit z) b = refl
  filled_plain s (Start x) b = refl
  filled_plain s (Havoc k c x) b = refl
  filled_plain s (Slot c x) b = absurd b
  filled_plain s Cell b = refl
  filled_plain s (Read a i) b = rw (filled_plain s a b.0, filled_plain s i b.1) refl
  filled_plain s (Write a i e) b = rw (filled_plain s a b.0, filled_plain s i b.1, filled_plain s e b.2) refl
  filled_plain s (Neg t) b = rw (filled_plain s t b) refl
  filled_plain s (Add t u) b = rw (filled_plain s t b.0, filled_plain s u b.1) refl
  filled_plain s (Sub t u) b = rw (filled_plain s t b.0, filled_plain s u b.1) refl
  filled_plain s (Mul t u) b = rw (filled_plain s t b.0, filled_plain s u b.1) refl
  filled_plain s (Fun c x args) b = rw (given_plain s args b) refl

  given_plain : (s : Copy → SymbolicStore) (args : Arguments) → ArePlain args → fill_arguments s args ≡ args
  given_plain s Over b = refl
  given_plain s (Given x t rest) b = rw (filled_plain s t b.0, given_plain s rest b.1) refl

-- a term at stores is built, where terms of the kind have no slots
pub filled_built : (K : Tree → Type 0) → ((t : Tree) → IsAtom t → K t → IsPlain t) → (s : Copy → SymbolicStore) →
    ((c : Copy) → IsStoreBuilt K (s c)) → (t : Tree) → IsBuilt K t → IsBuilt K (fill_term s t)
filled_built K plain s all (Lit z) b = tt
filled_built K plain s all (Start x) b = tt
filled_built K plain s all (Havoc k c x) b = b
filled_built K plain s all (Slot c x) b = all c x
filled_built K plain s all Cell b = tt
filled_built K plain s all (Read a i) b = (filled_built K plain s all a b.0, filled_built K plain s all i b.1)
filled_built K plain s all (Write a i e) b =
    (filled_built K plain s all a b.0, filled_built K plain s all i b.1, filled_built K plain s all e b.2)
filled_built K plain s all (Neg t) b = filled_built K plain s all t b
filled_built K plain s all (Add t u) b = (filled_built K plain s all t b.0, filled_built K plain s all u b.1)
filled_built K plain s all (Sub t u) b = (filled_built K plain s all t b.0, filled_built K plain s all u b.1)
filled_built K plain s all (Mul t u) b = (filled_built K plain s all t b.0, filled_built K plain s all u b.1)
filled_built K plain s all (Fun c x args) b =
    subst K (ap (λ (ts : Arguments). Fun c x ts) (sym (given_plain s args (plain (Fun c x args) tt b)))) b

-- a formula at stores compares built terms, where terms of the kind have no slots
pub at_stores_built : (K : Tree → Type 0) → ((t : Tree) → IsAtom t → K t → IsPlain t) → (s : Copy → SymbolicStore) →
    ((c : Copy) → IsStoreBuilt K (s c)) → (f : Assertion) → EachSide (IsBuilt K) f → EachSide (IsBuilt K) (at_stores s f)
at_stores_built K plain s all Yes b = tt
at_stores_built K plain s all No b = tt
at_stores_built K plain s all (Eq sort t u) b = (filled_built K plain s all t b.0, filled_built K plain s all u b.1)
at_stores_built K plain s all (Ne sort t u) b = (filled_built K plain s all t b.0, filled_built K plain s all u b.1)
at_stores_built K plain s all (Le t u) b = (filled_built K plain s all t b.0, filled_built K plain s all u b.1)
at_stores_built K plain s all (Lt t u) b = (filled_built K plain s all t b.0, filled_built K plain s all u b.1)
at_stores_built K plain s all (And p q) b = (at_stores_built K plain s all p b.0, at_stores_built K plain s all q b.1)
at_stores_built K plain s all (Or p q) b = (at_stores_built K plain s all p b.0, at_stores_built K plain s all q b.1)

-- formulas at stores compare built terms, where terms of the kind have no slots
pub all_at_stores_built : (K : Tree → Type 0) → ((t : Tree) → IsAtom t → K t → IsPlain t) → (s : Copy → SymbolicStore) →
    ((c : Copy) → IsStoreBuilt K (s c)) → (fs : List Assertion) → AllSides (IsBuilt K) fs → AllSides (IsBuilt K) (all_at_stores s fs)
all_at_stores_built K plain s all [] b = tt
all_at_stores_built K plain s all (f ∷ fs) b =
    (at_stores_built K plain s all f b.0, all_at_stores_built K plain s all fs b.1)
