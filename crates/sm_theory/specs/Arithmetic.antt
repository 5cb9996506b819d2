-- Cited by public clauses: the lines of linear arithmetic over whole numbers, each with the fact
-- that it adds.
use Rattle.std.specs.Prelude.{ℤ, pos, negsuc, Bool, true, ◌&&◌, not, if◌then◌else◌, Option, Some, None, List, [], ◌∷◌}
use Rattle.std.specs.Ordering.{int_eq}
use Rattle.sm_syntax.specs.text.Sorts.{Sorts}
use Rattle.sm_syntax.specs.declared.tree.Sort.TheVariants.{Num}
use Rattle.sm_num.specs.declared.op.Op.TheVariants as op
use Rattle.sm_num.specs.declared.kind.Kind.TheVariants as kind
use Rattle.sm_num.specs.Forms.{Linear, coefficient}
use Rattle.sm_num.specs.declared.kind.Kind.{Kind}
use Rattle.sm_num.specs.Combining.{Outcome, Fits, Leaves, then_with, computed, combination}
use Rattle.sm_num.specs.Eliminating.{can_cancel, elimination}
use Rattle.sm_num.specs.Tightening.{tightened}
use Rattle.sm_term.specs.Terms.{Tree}
use Rattle.sm_term.specs.Assertions.{Assertion, Yes, No, Eq, Ne, Le, Lt, And, Or}
use Rattle.sm_term.specs.Sorted.{tree_sort}
use Rattle.sm_term.specs.SameTerms.{same_tree, same_sort}
use Rattle.sm_theory.specs.Facts.{BranchFact, Sum}
use Rattle.sm_theory.specs.LinearTerms.{linear_of}
use Rattle.sm_theory.specs.Lines.{CertificateLine, Both, Either, Cases, Order, Refl, Sym, Trans, Subst, Cong, Same, Apart, Hit, Miss, Lin, Elim, Tight, Exact, Close, Clash, followed, formula_at, form_at}
use Rattle.sm_theory.specs.Equality.{formula_if}

-- whether a term is a number
abbrev pub is_numeric : Sorts → Tree → Bool
is_numeric sorts t = same_sort (tree_sort sorts t) Num

-- whether each part has the coefficient that its term has among other parts
abbrev pub agree_with : List (Tree × ℤ) → List (Tree × ℤ) → Bool
agree_with others [] = true
agree_with others (p ∷ ps) =
    int_eq (coefficient same_tree p.0 others) p.1 && agree_with others ps

-- whether two forms have the same coefficients
abbrev pub same_parts : Linear Tree → Linear Tree → Bool
same_parts f g = agree_with g.parts f.parts && agree_with f.parts g.parts

-- whether two terms are numbers with the same parts, and whether the constants are as a test wants
abbrev pub compared_forms : Sorts → Tree → Tree → (ℤ → ℤ → Bool) → Bool
compared_forms sorts t u test =
    let f = linear_of t in
    let g = linear_of u in
    is_numeric sorts t && (is_numeric sorts u && (same_parts f g && test f.constant g.constant))

-- a form that was computed, as a fact
abbrev pub form_fact : Outcome (Linear Tree) → Option BranchFact
form_fact (Fits f) = Some (Sum f)
form_fact (Leaves operation y z) = None

-- the form with a constant that was computed
abbrev pub with_constant : {A : Type 0} → Linear A → ℤ → Linear A
with_constant f c = record { parts = f.parts; constant = c; kind = f.kind }

-- the form of a number less another, which is 0 or at most 0
abbrev pub difference : Tree → Tree → Kind → Outcome (Linear Tree)
difference t u k = combination same_tree (linear_of t) (pos 1) (linear_of u) (negsuc 0) k

-- the form with 1 more in its constant
abbrev pub one_more : {A : Type 0} → Linear A → Outcome (Linear A)
one_more f =
    then_with (computed op.Add f.constant (pos 1)) (λ (c : ℤ). Fits (with_constant f c))

-- a comparison of numbers as a form
abbrev pub form_of_comparison : Assertion → Option BranchFact
form_of_comparison Yes = None
form_of_comparison No = None
form_of_comparison (Eq sort t u) =
    if same_sort sort Num then form_fact (difference t u kind.Eq) else None
form_of_comparison (Ne sort t u) = None
form_of_comparison (Le t u) = form_fact (difference t u kind.Le)
form_of_comparison (Lt t u) = form_fact (then_with (difference t u kind.Le) one_more)
form_of_comparison (And p q) = None
form_of_comparison (Or p q) = None

-- the sum of two forms in which a term cancels
abbrev pub cancelled : Tree → Linear Tree → Linear Tree → Option BranchFact
cancelled t f g =
    if can_cancel same_tree f g t then form_fact (elimination same_tree f g t) else None

-- the fact that a line of arithmetic adds, none where it is no such line or its condition fails
abbrev pub arithmetic_adds : Sorts → List BranchFact → CertificateLine → Option BranchFact
arithmetic_adds sorts facts (Same t u) = formula_if (compared_forms sorts t u int_eq) (Eq Num t u)
arithmetic_adds sorts facts (Apart t u) =
    formula_if (compared_forms sorts t u (λ (y z : ℤ). not (int_eq y z))) (Ne Num t u)
arithmetic_adds sorts facts (Lin n) = followed (formula_at facts n) form_of_comparison
arithmetic_adds sorts facts (Elim m n t) =
    followed (form_at facts m) (λ (f : Linear Tree). followed (form_at facts n) (cancelled t f))
arithmetic_adds sorts facts (Tight n) =
    followed (form_at facts n) (λ (f : Linear Tree). Some (Sum (tightened f)))
arithmetic_adds sorts facts (Both n) = None
arithmetic_adds sorts facts (Either n) = None
arithmetic_adds sorts facts (Cases t u) = None
arithmetic_adds sorts facts (Order n) = None
arithmetic_adds sorts facts (Refl t) = None
arithmetic_adds sorts facts (Sym n) = None
arithmetic_adds sorts facts (Trans m n) = None
arithmetic_adds sorts facts (Subst m n) = None
arithmetic_adds sorts facts (Cong t u ns) = None
arithmetic_adds sorts facts (Hit t n) = None
arithmetic_adds sorts facts (Miss t u n) = None
arithmetic_adds sorts facts (Exact n) = None
arithmetic_adds sorts facts (Close n) = None
arithmetic_adds sorts facts (Clash m n) = None
