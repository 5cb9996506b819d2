-- Cited by public clauses: the lines of equality, each with the fact that it adds.
use Rattle.std.specs.Prelude.{ℕ, Bool, true, false, ◌&&◌, if◌then◌else◌, Option, Some, None, List, [], ◌∷◌}
use Rattle.sm_syntax.specs.text.Sorts.{Sorts}
use Rattle.sm_term.specs.Terms.{Tree}
use Rattle.sm_term.specs.Assertions.{Assertion, Eq, Ne}
use Rattle.sm_term.specs.Sorted.{tree_sort}
use Rattle.sm_term.specs.SameTerms.{same_tree}
use Rattle.sm_term.specs.Heads.{arguments_of, same_head}
use Rattle.sm_theory.specs.Facts.{BranchFact, Formal}
use Rattle.sm_theory.specs.Lines.{CertificateLine, Both, Either, Cases, Order, Refl, Sym, Trans, Subst, Cong, Same, Apart, Hit, Miss, Lin, Elim, Tight, Exact, Close, Clash, followed, Sides, equation_at, contrary_at}

-- a formula, where a test is passed
abbrev pub formula_if : Bool → Assertion → Option BranchFact
formula_if test f = if test then Some (Formal f) else None

-- the other way round: of t = u, u = t
abbrev pub turned_equation : Sides → Option BranchFact
turned_equation s = Some (Formal (Eq s.sort s.right s.left))

-- the other way round: of t ≠ u, u ≠ t
abbrev pub turned_contrary : Sides → Option BranchFact
turned_contrary s = Some (Formal (Ne s.sort s.right s.left))

-- the first of two facts
abbrev pub or_other : {T : Type 0} → Option T → Option T → Option T
or_other None other = other
or_other (Some t) other = Some t

-- t = u and u = w give t = w
abbrev pub chained : Sides → Sides → Option BranchFact
chained s r = formula_if (same_tree s.right r.left) (Eq s.sort s.left r.right)

-- t ≠ u and t = w give w ≠ u
abbrev pub substituted : Sides → Sides → Option BranchFact
substituted s r = formula_if (same_tree s.left r.left) (Ne s.sort r.right s.right)

-- whether fact n says that t = u
abbrev pub says_equal : Option Sides → Tree → Tree → Bool
says_equal None t u = false
says_equal (Some s) t u = same_tree s.left t && same_tree s.right u

-- whether the facts with these numbers say in order that the terms are equal
abbrev pub say_equal : List BranchFact → List ℕ → List Tree → List Tree → Bool
say_equal facts [] [] [] = true
say_equal facts (n ∷ ns) (t ∷ ts) (u ∷ us) =
    says_equal (equation_at facts n) t u && say_equal facts ns ts us
say_equal facts ns ts us = false

-- whether a list has an element
abbrev pub is_inhabited_list : List ℕ → Bool
is_inhabited_list [] = false
is_inhabited_list (n ∷ ns) = true

-- the fact that a line of equality adds, none where it is no such line or its condition fails
abbrev pub equality_adds : Sorts → List BranchFact → CertificateLine → Option BranchFact
equality_adds sorts facts (Refl t) = Some (Formal (Eq (tree_sort sorts t) t t))
equality_adds sorts facts (Sym n) =
    or_other
    (followed (equation_at facts n) turned_equation)
    (followed (contrary_at facts n) turned_contrary)
equality_adds sorts facts (Trans m n) =
    followed (equation_at facts m) (λ (s : Sides). followed (equation_at facts n) (chained s))
equality_adds sorts facts (Subst m n) =
    followed (contrary_at facts m) (λ (s : Sides). followed (equation_at facts n) (substituted s))
equality_adds sorts facts (Cong t u ns) =
    formula_if
    (is_inhabited_list ns
    && (same_head t u && say_equal facts ns (arguments_of t) (arguments_of u)))
    (Eq (tree_sort sorts t) t u)
equality_adds sorts facts (Both n) = None
equality_adds sorts facts (Either n) = None
equality_adds sorts facts (Cases t u) = None
equality_adds sorts facts (Order n) = None
equality_adds sorts facts (Same t u) = None
equality_adds sorts facts (Apart t u) = None
equality_adds sorts facts (Hit t n) = None
equality_adds sorts facts (Miss t u n) = None
equality_adds sorts facts (Lin n) = None
equality_adds sorts facts (Elim m n t) = None
equality_adds sorts facts (Tight n) = None
equality_adds sorts facts (Exact n) = None
equality_adds sorts facts (Close n) = None
equality_adds sorts facts (Clash m n) = None
