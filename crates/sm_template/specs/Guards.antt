-- Cited by public clauses: what the guard of a loop suggests to keep. A comparison that a turn may
-- break by one step is kept in its weaker form.
use Rattle.std.specs.Prelude.{pos, List, [], ◌∷◌, ◌++◌}
use Rattle.sm_syntax.specs.declared.tree.Cmp.TheVariants as cmp
use Rattle.sm_syntax.specs.claim.Syntax.{Condition, Yes, No, Compare, Not, And, Or}
use Rattle.sm_syntax.specs.declared.tree.Cmp.{Cmp}
use Rattle.sm_syntax.specs.claim.ConflictFree.{Copy}
use Rattle.sm_term.specs.Terms.{Tree, Lit, Slot, Add}
use Rattle.sm_term.specs.Assertions.{Assertion, Le}
use Rattle.sm_term.specs.Symbolic.{SymbolicStore, term_of}

-- the place of each value of a copy
abbrev pub slots : Copy → SymbolicStore
slots c x = Slot c x

-- a number and one more
abbrev pub next_to : Tree → Tree
next_to t = Add t (Lit (pos 1))

-- what a comparison of two terms suggests
abbrev pub weaker : Cmp → Tree → Tree → List Assertion
weaker cmp.Eq t u = []
weaker cmp.Ne t u = []
weaker cmp.Lt t u = Le t u ∷ []
weaker cmp.Le t u = Le t (next_to u) ∷ []
weaker cmp.Gt t u = Le u t ∷ []
weaker cmp.Ge t u = Le u (next_to t) ∷ []

-- what a copy's guard suggests, comparison by comparison, also of those that are negated
abbrev pub guard_templates : Condition → Copy → List Assertion
guard_templates Yes c = []
guard_templates No c = []
guard_templates (Compare op d e) c = weaker op (term_of d (slots c)) (term_of e (slots c))
guard_templates (Not b) c = guard_templates b c
guard_templates (And a b) c = guard_templates a c ++ guard_templates b c
guard_templates (Or a b) c = guard_templates a c ++ guard_templates b c
