-- Cited by public clauses: the facts of a branch, and the terms that they name.
use Rattle.std.specs.Prelude.{ℕ, zero, suc, max, IsTrue, Option, Some, None, List, [], ◌∷◌, ◌++◌, map}
use Rattle.sm_term.specs.Terms.{Tree, Lit, Start, Havoc, Slot, Cell, Read, Write, Neg, Add, Sub, Mul, Fun}
use Rattle.sm_term.specs.Assertions.{Assertion, Yes, No, Eq, Ne, Le, Lt, And, Or}
use Rattle.sm_theory.specs.Lines.{followed}
use Rattle.sm_theory.specs.Elements.{Written, written_in, read_in}
use Rattle.sm_theory.specs.TermsOfFormulas.{is_among, put, with_formulas}

-- the greatest of numbers, 0 of none
abbrev pub greatest_of : List ℕ → ℕ
greatest_of [] = 0
greatest_of (n ∷ ns) = max n (greatest_of ns)

-- the two parts of a conjunction
abbrev pub parts_of : Assertion → List Assertion
parts_of Yes = []
parts_of No = []
parts_of (Eq sort t u) = []
parts_of (Ne sort t u) = []
parts_of (Le t u) = []
parts_of (Lt t u) = []
parts_of (And p q) = p ∷ q ∷ []
parts_of (Or p q) = []

-- those of each formula
abbrev pub parts_of_all : List Assertion → List Assertion
parts_of_all [] = []
parts_of_all (f ∷ fs) = parts_of f ++ parts_of_all fs

-- how deep conjunctions stand in one another
abbrev pub depth_of : Assertion → ℕ
depth_of Yes = 0
depth_of No = 0
depth_of (Eq sort t u) = 0
depth_of (Ne sort t u) = 0
depth_of (Le t u) = 0
depth_of (Lt t u) = 0
depth_of (And p q) = suc (max (depth_of p) (depth_of q))
depth_of (Or p q) = 0

-- formulas, behind them their parts, behind those theirs, and so on, so many times
abbrev pub taken_apart : ℕ → List Assertion → List Assertion
taken_apart zero fs = fs
taken_apart (suc n) fs = fs ++ taken_apart n (parts_of_all fs)

-- formulas with all parts of their conjunctions, which stand behind them in the order of a queue
abbrev pub with_parts : List Assertion → List Assertion
with_parts fs = taken_apart (greatest_of (map depth_of fs)) fs

-- what is read at an index before an element was written, of a term that reads there after it
abbrev pub read_before : Tree → Option Tree
read_before t =
    followed (read_in t) (λ (r : Tree × Tree).
    followed (written_in r.0) (λ (w : Written). Some (Read w.before r.1)))

-- a term behind others, where there is one that isn't among them
abbrev pub put_if : Option Tree → List Tree → List Tree
put_if None seen = seen
put_if (Some t) seen = put t seen

-- what each term's element was before, behind other terms
abbrev pub with_reads : List Tree → List Tree → List Tree
with_reads [] seen = seen
with_reads (t ∷ ts) seen = with_reads ts (put_if (read_before t) seen)

-- so many times
abbrev pub with_all_reads : ℕ → List Tree → List Tree
with_all_reads zero seen = seen
with_all_reads (suc n) seen = with_all_reads n (with_reads seen seen)

-- how many writes stand on one another in an array
abbrev pub writes_on : Tree → ℕ
writes_on (Lit z) = 0
writes_on (Start x) = 0
writes_on (Havoc k c x) = 0
writes_on (Slot c x) = 0
writes_on Cell = 0
writes_on (Read a i) = 0
writes_on (Write a i e) = suc (writes_on a)
writes_on (Neg t) = 0
writes_on (Add t u) = 0
writes_on (Sub t u) = 0
writes_on (Mul t u) = 0
writes_on (Fun c x args) = 0

-- the terms of formulas, each after its arguments and once; behind them what each element that is
-- read was before it was written, which may be read after another write, and so on
abbrev pub terms_of : List Assertion → List Tree
terms_of fs =
    let seen = with_formulas fs [] in with_all_reads (greatest_of (map writes_on seen)) seen

-- a term is one of these
abbrev pub IsOneOf : List Tree → Tree → Type 0
IsOneOf terms t = IsTrue (is_among terms t)
