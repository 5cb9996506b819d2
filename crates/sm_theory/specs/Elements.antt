-- Cited by public clauses: the lines of arrays, each with the fact that it adds.
use Rattle.std.specs.Prelude.{◌&&◌, Option, Some, None, List}
use Rattle.sm_syntax.specs.declared.tree.Sort.TheVariants.{Num}
use Rattle.sm_term.specs.Terms.{Tree, Read, Write, Lit, Start, Havoc, Slot, Cell, Neg, Add, Sub, Mul, Fun}
use Rattle.sm_term.specs.Assertions.{Eq}
use Rattle.sm_term.specs.SameTerms.{same_tree}
use Rattle.sm_theory.specs.Facts.{BranchFact}
use Rattle.sm_theory.specs.Lines.{CertificateLine, Both, Either, Cases, Order, Refl, Sym, Trans, Subst, Cong, Same, Apart, Hit, Miss, Lin, Elim, Tight, Exact, Close, Clash, followed, equation_at, contrary_at}
use Rattle.sm_theory.specs.Equality.{formula_if, says_equal}

-- an array to which an element was written, with its index and the number that was written
pub record Written : Type 0 where
  pub before : Tree
  pub index : Tree
  pub element : Tree

-- what was written, where an array is a write
abbrev pub written_in : Tree → Option Written
written_in (Lit z) = None
written_in (Start x) = None
written_in (Havoc k c x) = None
written_in (Slot c x) = None
written_in Cell = None
written_in (Read a i) = None
written_in (Write a i e) = Some (record { before = a; index = i; element = e })
written_in (Neg t) = None
written_in (Add t u) = None
written_in (Sub t u) = None
written_in (Mul t u) = None
written_in (Fun c x args) = None

-- the array and the index of an element that is read
abbrev pub read_in : Tree → Option (Tree × Tree)
read_in (Lit z) = None
read_in (Start x) = None
read_in (Havoc k c x) = None
read_in (Slot c x) = None
read_in Cell = None
read_in (Read a i) = Some (a, i)
read_in (Write a i e) = None
read_in (Neg t) = None
read_in (Add t u) = None
read_in (Sub t u) = None
read_in (Mul t u) = None
read_in (Fun c x args) = None

-- goes on with what was written and the index at which it is read
abbrev pub read_of_written : Tree → (Written → Tree → Option BranchFact) → Option BranchFact
read_of_written t next =
    followed (read_in t) (λ (r : Tree × Tree).
    followed (written_in r.0) (λ (w : Written). next w r.1))

-- the fact that a line of arrays adds, none where it is no such line or its condition fails: what
-- is read at the index that was written is what was written, and at another what was there before
abbrev pub element_adds : List BranchFact → CertificateLine → Option BranchFact
element_adds facts (Hit t n) =
    read_of_written t (λ (w : Written) (j : Tree).
    formula_if (says_equal (equation_at facts n) w.index j) (Eq Num t w.element))
element_adds facts (Miss t u n) =
    read_of_written t (λ (w : Written) (j : Tree).
    formula_if
    (says_equal (contrary_at facts n) w.index j && same_tree u (Read w.before j))
    (Eq Num t u))
element_adds facts (Both n) = None
element_adds facts (Either n) = None
element_adds facts (Cases t u) = None
element_adds facts (Order n) = None
element_adds facts (Refl t) = None
element_adds facts (Sym n) = None
element_adds facts (Trans m n) = None
element_adds facts (Subst m n) = None
element_adds facts (Cong t u ns) = None
element_adds facts (Same t u) = None
element_adds facts (Apart t u) = None
element_adds facts (Lin n) = None
element_adds facts (Elim m n t) = None
element_adds facts (Tight n) = None
element_adds facts (Exact n) = None
element_adds facts (Close n) = None
element_adds facts (Clash m n) = None
