-- The term of an expression means its value.
use Rattle.sm_term.proofs.Imports.{◌≡◌, neg_ℤ, refl, ap, Expression, Var, Plus, Minus, Times, Value, Number, number, array, value_of, Structure, meaning, SymbolicStore, store_meant, term_of}
use Rattle.sm_syntax.specs.claim.Syntax.{Lit, Read, Neg}

-- the term of an expression means the expression's value in the store that the symbolic store means
pub term_means : (m : Structure) (e : Expression) (s : SymbolicStore) → meaning m (term_of e s) ≡ value_of e (store_meant m s)
term_means m (Lit z) s = refl
term_means m (Var x) s = refl
term_means m (Read a i) s = ap (λ (v : Value). Number (array (meaning m (s a)) (number v))) (term_means m i s)
term_means m (Neg e) s = ap (λ (v : Value). Number (neg_ℤ (number v))) (term_means m e s)
term_means m (Plus d e) s = rw (term_means m d s, term_means m e s) refl
term_means m (Minus d e) s = rw (term_means m d s, term_means m e s) refl
term_means m (Times d e) s = rw (term_means m d s, term_means m e s) refl
