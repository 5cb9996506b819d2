-- Code with its holes filled. Public clauses cite it.
use Rattle.std.specs.Prelude.{ℕ, ◌==◌, if◌then◌else◌, List, [], ◌∷◌}
use Rattle.sm_syntax.specs.claim.Syntax.{Code, End, Skip, Assign, Write, If, While, Hole, append}

-- the code for each hole, by the hole's number
abbrev pub Fillings : Type 0
Fillings = List (ℕ × Code)

-- the code for a hole, none where it has no filling
abbrev pub filling : Fillings → ℕ → Code
filling [] h = End
filling (f ∷ rest) h = if f.0 == h then f.1 else filling rest h

-- each hole replaced in place by its code
abbrev pub fill : Fillings → Code → Code
fill fs End = End
fill fs (Skip k) = Skip (fill fs k)
fill fs (Assign x e k) = Assign x e (fill fs k)
fill fs (Write a i e k) = Write a i e (fill fs k)
fill fs (If b c d k) = If b (fill fs c) (fill fs d) (fill fs k)
fill fs (While b c k) = While b (fill fs c) (fill fs k)
fill fs (Hole h k) = append (filling fs h) (fill fs k)
