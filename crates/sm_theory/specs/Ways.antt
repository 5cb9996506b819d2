-- Cited by public clauses: what a line does to a branch, as one function: it gives the ways in which
-- the branch goes on, each with the facts that it adds. None is refused; no way closes the branch,
-- one adds, two split.
use Rattle.std.specs.Prelude.{Bool, true, false, ◌&&◌, if◌then◌else◌, Option, Some, None, slice_get, List, [], ◌∷◌}
use Rattle.sm_syntax.specs.text.Sorts.{Sorts}
use Rattle.sm_syntax.specs.declared.tree.Sort.TheVariants.{Num}
use Rattle.sm_num.specs.Tightening.{is_contradictory}
use Rattle.sm_term.specs.Assertions.{Assertion, Yes, No, Eq, Ne, Le, Lt, And, Or}
use Rattle.sm_term.specs.SameTerms.{same_tree, same_sort}
use Rattle.sm_theory.specs.Facts.{BranchFact, Formal, Sum}
use Rattle.sm_theory.specs.Lines.{CertificateLine, Both, Either, Cases, Order, Refl, Sym, Trans, Subst, Cong, Same, Apart, Hit, Miss, Lin, Elim, Tight, Exact, Close, Clash, followed, Sides, formula_at, equation_at, contrary_at}
use Rattle.sm_theory.specs.Equality.{or_other, equality_adds, says_equal}
use Rattle.sm_theory.specs.Elements.{element_adds}
use Rattle.sm_theory.specs.Arithmetic.{arithmetic_adds, is_numeric}
use Rattle.sm_theory.specs.ExactLine.{with_exact}

-- the ways in which a branch goes on, each with the facts that it adds
abbrev pub Ways : Type 0
Ways = Option (List (List BranchFact))

-- one way, with these formulas
abbrev pub goes_on_with : List BranchFact → Ways
goes_on_with more = Some (more ∷ [])

-- one way, with one fact, where there is one
abbrev pub adding : Option BranchFact → Ways
adding None = None
adding (Some k) = goes_on_with (k ∷ [])

-- two ways
abbrev pub splitting : Assertion → Assertion → Ways
splitting p q = Some ((Formal p ∷ []) ∷ (Formal q ∷ []) ∷ [])

-- no way, where a test is passed
abbrev pub closing_if : Bool → Ways
closing_if test = if test then Some [] else None

-- the parts of a conjunction are added
abbrev pub both_parts : Assertion → Ways
both_parts Yes = None
both_parts No = None
both_parts (Eq sort t u) = None
both_parts (Ne sort t u) = None
both_parts (Le t u) = None
both_parts (Lt t u) = None
both_parts (And p q) = goes_on_with (Formal p ∷ Formal q ∷ [])
both_parts (Or p q) = None

-- the branch is split by the parts of a disjunction
abbrev pub either_part : Assertion → Ways
either_part Yes = None
either_part No = None
either_part (Eq sort t u) = None
either_part (Ne sort t u) = None
either_part (Le t u) = None
either_part (Lt t u) = None
either_part (And p q) = None
either_part (Or p q) = splitting p q

-- of two numbers that aren't equal, the first is less or the second is
abbrev pub ordered : Sides → Ways
ordered s = if same_sort s.sort Num then splitting (Lt s.left s.right) (Lt s.right s.left) else None

-- whether a formula says that a term isn't equal to itself, or that nothing holds
abbrev pub is_absurd : Assertion → Bool
is_absurd Yes = false
is_absurd No = true
is_absurd (Eq sort t u) = false
is_absurd (Ne sort t u) = same_tree t u
is_absurd (Le t u) = false
is_absurd (Lt t u) = false
is_absurd (And p q) = false
is_absurd (Or p q) = false

-- whether a fact can't hold
abbrev pub cannot_hold : BranchFact → Bool
cannot_hold (Formal f) = is_absurd f
cannot_hold (Sum f) = is_contradictory f

-- the fact that a line of one of the three theories adds, arithmetic with the exact line
abbrev pub adds : Sorts → List BranchFact → CertificateLine → Option BranchFact
adds sorts facts line =
    or_other (equality_adds sorts facts line)
    (or_other (with_exact arithmetic_adds sorts facts line) (element_adds facts line))

-- the ways in which a branch goes on after a line, where theories add what is told
abbrev pub ways_with : Sorts → List BranchFact → Option BranchFact → CertificateLine → Ways
ways_with sorts facts added (Both n) = followed (formula_at facts n) both_parts
ways_with sorts facts added (Either n) = followed (formula_at facts n) either_part
ways_with sorts facts added (Cases t u) =
    if is_numeric sorts t && is_numeric sorts u then splitting (Eq Num t u) (Ne Num t u) else None
ways_with sorts facts added (Order n) = followed (contrary_at facts n) ordered
ways_with sorts facts added (Close n) =
    followed (slice_get facts n) (λ (k : BranchFact). closing_if (cannot_hold k))
ways_with sorts facts added (Clash m n) =
    followed (equation_at facts m)
    (λ (s : Sides). closing_if (says_equal (contrary_at facts n) s.left s.right))
ways_with sorts facts added (Refl t) = adding added
ways_with sorts facts added (Sym n) = adding added
ways_with sorts facts added (Trans m n) = adding added
ways_with sorts facts added (Subst m n) = adding added
ways_with sorts facts added (Cong t u ns) = adding added
ways_with sorts facts added (Same t u) = adding added
ways_with sorts facts added (Apart t u) = adding added
ways_with sorts facts added (Hit t n) = adding added
ways_with sorts facts added (Miss t u n) = adding added
ways_with sorts facts added (Lin n) = adding added
ways_with sorts facts added (Elim m n t) = adding added
ways_with sorts facts added (Tight n) = adding added
ways_with sorts facts added (Exact n) = adding added

-- the ways in which a branch goes on after a line
abbrev pub ways : Sorts → List BranchFact → CertificateLine → Ways
ways sorts facts line = ways_with sorts facts (adds sorts facts line) line
