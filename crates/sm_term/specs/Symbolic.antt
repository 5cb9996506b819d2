-- Cited by public clauses: symbolic stores, which have a term for each name, and what expressions
-- and conditions are in them.
use Rattle.std.specs.Prelude.{ℕ, ◌==◌, if◌then◌else◌}
use Rattle.sm_syntax.specs.declared.tree.Cmp.TheVariants as cmp
use Rattle.sm_syntax.specs.declared.tree.Sort.TheVariants.{Num}
use Rattle.sm_syntax.specs.claim.Syntax as syntax
use Rattle.sm_syntax.specs.claim.Syntax.{Expression, Condition}
use Rattle.sm_syntax.specs.declared.tree.Cmp.{Cmp}
use Rattle.sm_syntax.specs.claim.Stores.{Store}
use Rattle.sm_term.specs.Terms.{Tree, Lit, Read, Neg, Add, Sub, Mul}
use Rattle.sm_term.specs.Structures.{Structure, meaning}
use Rattle.sm_term.specs.Assertions.{Assertion, Yes, No, Eq, Ne, Le, Lt, And, Or, negate}

-- a term for each name
abbrev pub SymbolicStore : Type 0
SymbolicStore = ℕ → Tree

-- the store that the terms mean
abbrev pub store_meant : Structure → SymbolicStore → Store
store_meant m s x = meaning m (s x)

-- the symbolic store with a new term for a name
abbrev pub with_term : SymbolicStore → ℕ → Tree → SymbolicStore
with_term s x t y = if y == x then t else s y

-- the term of an expression
abbrev pub term_of : Expression → SymbolicStore → Tree
term_of (syntax.Lit z) s = Lit z
term_of (syntax.Var x) s = s x
term_of (syntax.Read a i) s = Read (s a) (term_of i s)
term_of (syntax.Neg e) s = Neg (term_of e s)
term_of (syntax.Plus d e) s = Add (term_of d s) (term_of e s)
term_of (syntax.Minus d e) s = Sub (term_of d s) (term_of e s)
term_of (syntax.Times d e) s = Mul (term_of d s) (term_of e s)

-- the formula that says how two terms compare
abbrev pub comparison_form : Cmp → Tree → Tree → Assertion
comparison_form cmp.Eq t u = Eq Num t u
comparison_form cmp.Ne t u = Ne Num t u
comparison_form cmp.Lt t u = Lt t u
comparison_form cmp.Le t u = Le t u
comparison_form cmp.Gt t u = Lt u t
comparison_form cmp.Ge t u = Le u t

-- the formula of a condition
abbrev pub form_of : Condition → SymbolicStore → Assertion
form_of syntax.Yes s = Yes
form_of syntax.No s = No
form_of (syntax.Compare op d e) s = comparison_form op (term_of d s) (term_of e s)
form_of (syntax.Not b) s = negate (form_of b s)
form_of (syntax.And b c) s = And (form_of b s) (form_of c s)
form_of (syntax.Or b c) s = Or (form_of b s) (form_of c s)
