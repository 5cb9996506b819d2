-- Private: terms that lines make, beside those of the definition.
use Rattle.std.specs.Prelude.{◌≡◌, ℕ, nat_lt, Bool, true, false, if◌then◌else◌, Option, Some, None, slice_get, List}
use Rattle.sm_syntax.specs.declared.tree.Name.{Name}
use Rattle.sm_term.specs.declared.term.Term.{Term}
use Rattle.sm_term.specs.declared.term.Term.TheVariants.{Lit, Start, Slot, Cell, Read, Write, Neg, Add, Sub, Mul}
use Rattle.sm_term.specs.declared.term.TermId.{TermId}
use Rattle.sm_term.specs.Terms.{Tree}
use Rattle.sm_theory.specs.Lines.{followed}
use Rattle.sm_proof.specs.declared.line.TermLine.{TermLine}
use Rattle.sm_proof.specs.declared.line.TermLine.TheVariants as line

-- a number is that of a term
abbrev pub IsTerm : List Tree → TermId → Tree → Type 0
IsTerm trees t tree = slice_get trees t.0 ≡ Some tree

-- two numbers are those of two terms
abbrev pub ArePairOf : List Tree → TermId × TermId → Tree × Tree → Type 0
ArePairOf trees ids pair = IsTerm trees ids.0 pair.0 × IsTerm trees ids.1 pair.1

-- whether a line tells a term by names and terms
abbrev pub is_new : TermLine → Bool
is_new (line.Lit z) = true
is_new (line.Start x) = true
is_new line.Cell = true
is_new (line.Slot c x) = true
is_new (line.Cur c x) = false
is_new (line.Of n side) = false
is_new (line.Arg t k) = false
is_new (line.Read t u) = true
is_new (line.Write t u v) = true
is_new (line.Neg t) = true
is_new (line.Add t u) = true
is_new (line.Sub t u) = true
is_new (line.Mul t u) = true

-- the declared name with a number
abbrev pub name_in : ℕ → ℕ → Option Name
name_in declared x = if nat_lt x declared then Some (record { 0 = x }) else None

-- both, if both are there
abbrev pub pair_of : Option TermId → Option TermId → Option (TermId × TermId)
pair_of None p = None
pair_of (Some a) None = None
pair_of (Some a) (Some b) = Some (a, b)

-- the term that such a line tells, where what it names is there
abbrev pub new_term : ℕ → List TermId → TermLine → Option Term
new_term declared terms (line.Lit z) = Some (Lit z)
new_term declared terms (line.Start x) = followed (name_in declared x) (λ (n : Name). Some (Start n))
new_term declared terms line.Cell = Some Cell
new_term declared terms (line.Slot c x) = followed (name_in declared x) (λ (n : Name). Some (Slot c n))
new_term declared terms (line.Cur c x) = None
new_term declared terms (line.Of n side) = None
new_term declared terms (line.Arg t k) = None
new_term declared terms (line.Read t u) =
    followed (pair_of (slice_get terms t) (slice_get terms u)) (λ (p : TermId × TermId). Some (Read p.0 p.1))
new_term declared terms (line.Write t u v) =
    followed (slice_get terms t)
    (λ (a : TermId). followed (pair_of (slice_get terms u) (slice_get terms v)) (λ (p : TermId × TermId). Some (Write a p.0 p.1)))
new_term declared terms (line.Neg t) = followed (slice_get terms t) (λ (a : TermId). Some (Neg a))
new_term declared terms (line.Add t u) =
    followed (pair_of (slice_get terms t) (slice_get terms u)) (λ (p : TermId × TermId). Some (Add p.0 p.1))
new_term declared terms (line.Sub t u) =
    followed (pair_of (slice_get terms t) (slice_get terms u)) (λ (p : TermId × TermId). Some (Sub p.0 p.1))
new_term declared terms (line.Mul t u) =
    followed (pair_of (slice_get terms t) (slice_get terms u)) (λ (p : TermId × TermId). Some (Mul p.0 p.1))
