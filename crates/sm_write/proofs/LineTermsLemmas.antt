-- The terms of a line, one by one.
use Rattle.sm_write.proofs.Imports.{◌≡◌, ℕ, Option, Some, None, List, IfSome, tree_at, TermId, Tree, EachNamed, line_in, CertLine, each_back, first_term, second_term, Names, IsNamed, IsLineNamed}
use Rattle.sm_theory.specs.declared.line.CertLine.TheVariants as cert
use Rattle.sm_theory.specs.Views.{numbered_line}

-- what is so of each number that a line names
pub first_named : (P : ℕ → Type 0) (l : CertLine) → EachNamed P (numbered_line l) → IfSome (first_term l) (λ (t : TermId). P t.0)
first_named P (cert.Both n) h = tt
first_named P (cert.Either n) h = tt
first_named P (cert.Cases t u) h = h.0
first_named P (cert.Order n) h = tt
first_named P (cert.Refl t) h = h
first_named P (cert.Sym n) h = tt
first_named P (cert.Trans m n) h = tt
first_named P (cert.Subst m n) h = tt
first_named P (cert.Cong t u ns) h = h.0
first_named P (cert.Same t u) h = h.0
first_named P (cert.Apart t u) h = h.0
first_named P (cert.Hit t n) h = h
first_named P (cert.Miss t u n) h = h.0
first_named P (cert.Lin n) h = tt
first_named P (cert.Elim m n t) h = h
first_named P (cert.Tight n) h = tt
first_named P (cert.Exact n) h = tt
first_named P (cert.Close n) h = tt
first_named P (cert.Clash m n) h = tt

pub second_named : (P : ℕ → Type 0) (l : CertLine) → EachNamed P (numbered_line l) → IfSome (second_term l) (λ (t : TermId). P t.0)
second_named P (cert.Both n) h = tt
second_named P (cert.Either n) h = tt
second_named P (cert.Cases t u) h = h.1
second_named P (cert.Order n) h = tt
second_named P (cert.Refl t) h = tt
second_named P (cert.Sym n) h = tt
second_named P (cert.Trans m n) h = tt
second_named P (cert.Subst m n) h = tt
second_named P (cert.Cong t u ns) h = h.1
second_named P (cert.Same t u) h = h.1
second_named P (cert.Apart t u) h = h.1
second_named P (cert.Hit t n) h = tt
second_named P (cert.Miss t u n) h = h.1
second_named P (cert.Lin n) h = tt
second_named P (cert.Elim m n t) h = tt
second_named P (cert.Tight n) h = tt
second_named P (cert.Exact n) h = tt
second_named P (cert.Close n) h = tt
second_named P (cert.Clash m n) h = tt

-- what is so of each term
pub first_each : (P : Tree → Type 0) (trees : List Tree) (l : CertLine) → EachNamed P (line_in trees l) →
    IfSome (first_term l) (λ (t : TermId). P (tree_at trees t.0))
first_each P trees l h = first_named (λ (n : ℕ). P (tree_at trees n)) l (each_back P (tree_at trees) (numbered_line l) h)

pub second_each : (P : Tree → Type 0) (trees : List Tree) (l : CertLine) → EachNamed P (line_in trees l) →
    IfSome (second_term l) (λ (t : TermId). P (tree_at trees t.0))
second_each P trees l h = second_named (λ (n : ℕ). P (tree_at trees n)) l (each_back P (tree_at trees) (numbered_line l) h)

-- where both are named, the line is
pub line_named : (names : Names) (l : CertLine) → IfSome (first_term l) (IsNamed names) → IfSome (second_term l) (IsNamed names) →
    IsLineNamed names l
line_named names (cert.Both n) h g = tt
line_named names (cert.Either n) h g = tt
line_named names (cert.Cases t u) h g = (h, g)
line_named names (cert.Order n) h g = tt
line_named names (cert.Refl t) h g = h
line_named names (cert.Sym n) h g = tt
line_named names (cert.Trans m n) h g = tt
line_named names (cert.Subst m n) h g = tt
line_named names (cert.Cong t u ns) h g = (h, g)
line_named names (cert.Same t u) h g = (h, g)
line_named names (cert.Apart t u) h g = (h, g)
line_named names (cert.Hit t n) h g = h
line_named names (cert.Miss t u n) h g = (h, g)
line_named names (cert.Lin n) h g = tt
line_named names (cert.Elim m n t) h g = h
line_named names (cert.Tight n) h g = tt
line_named names (cert.Exact n) h g = tt
line_named names (cert.Close n) h g = tt
line_named names (cert.Clash m n) h g = tt

-- what is named is named still
pub some_kept : (a b : Names) → ((t : ℕ) (n : TermId) → a t ≡ Some n → b t ≡ Some n) → (o : Option TermId) → IfSome o (IsNamed a) →
    IfSome o (IsNamed b)
some_kept a b kept None h = tt
some_kept a b kept (Some t) h = (h.0, kept t.0 h.0 h.1)
