-- What is read of an expression is what the grammar says.
use Rattle.sm_text.proofs.Imports.{◌≡◌, ℕ, suc, zero, ◌+◌, ℤ, pos, refl, sym, ap, ◌∙◌, subst, arith, Bool, true, false, Option, Some, None, List, [], ◌∷◌, ◌++◌, nat_tests, Expression, Marked, plain, word, opens, Symbol, Mark, IsExpression, Parser, refuse, stands, inside_group, Expected}
use Rattle.std.specs.Prelude.{nat_le, if◌then◌else◌}
use Rattle.std.proofs.lemmas.List.{append-nil}
use denote.Enum.Bare.{sameb, same_true}
use Rattle.sm_syntax.specs.contracts.symbol.Mark.{the_type}
use Rattle.sm_syntax.specs.declared.symbol.Mark.TheVariants as mark
use Rattle.sm_syntax.specs.declared.symbol.Symbol.TheVariants as s
use Rattle.sm_syntax.specs.declared.tree.Name.{Name}
use Rattle.sm_syntax.specs.claim.Syntax as plain_code
use Rattle.sm_syntax.specs.text.ExpressionGrammar as exp
use Rattle.sm_text.specs.rules.Reading as r
use Rattle.sm_text.proofs.Sound.Parsers.{made, Possible, Describes, DescribesAt, Both, Is, bind, weaken, possibly, give}
use Rattle.sm_text.proofs.Sound.Choices.{refused_at, anywhere, choose, choose_by, after, bind_at, weaken_at, standing, Inner, Enclosed, inside_told}
use Rattle.sm_text.proofs.Sound.Chained.{IsChain, Joins, joins_if, joins_none, chain_reads}

-- an expression where d groups are open
abbrev pub IsSum : ℕ → List Marked → Expression → Type 0
IsSum d us e = IsChain (λ k ts x. IsExpression exp.Sum d k ts x) us e

-- a product where d groups are open
abbrev pub IsProduct : ℕ → List Marked → Expression → Type 0
IsProduct d us e = IsChain (λ k ts x. IsExpression exp.Product d k ts x) us e

abbrev pub IsUnary : ℕ → List Marked → Expression → Type 0
IsUnary d us e = IsExpression exp.Unary d 0 us e

abbrev pub IsAtom : ℕ → List Marked → Expression → Type 0
IsAtom d us e = IsExpression exp.Atom d 0 us e

some_atom : (d : ℕ) → Possible (IsAtom d)
some_atom d = record { list = plain (s.Number (pos 0)) ∷ []; value = plain_code.Lit (pos 0); fits = exp.number d (pos 0) }

some_unary : (d : ℕ) → Possible (IsUnary d)
some_unary d = possibly (λ us e a. exp.as_unary a) (some_atom d)

some_sum : (d : ℕ) → Possible (IsSum d)
some_sum d = possibly (λ us e u. record { operators = 0; spelled = exp.as_sum (exp.as_product u) }) (some_unary d)

module _ (deeper : Option (Parser Expression)) (d : ℕ) (inner : Inner deeper (IsSum (suc d)) d) where
  is_element : (x : Name) (us : List Marked) (e : Expression) →
      Both (Enclosed d mark.OpenSquare mark.CloseSquare (IsSum (suc d))) (λ i. Is (plain_code.Read x.0 i)) us e →
      IsAtom d (plain (s.Name x) ∷ us) e
  is_element x us e b = made (λ l y. IsAtom d (plain (s.Name x) ∷ l) y)
      (opens mark.OpenSquare d ∷ (b.one.body ++ word mark.CloseSquare ∷ [])) us (plain_code.Read x.0 b.value) e
      (b.parts ∙ ap (λ (l : List Marked). b.front ++ l) b.two.none ∙ append-nil b.front ∙ b.one.split) b.two.same
      (exp.element x b.one.fits.spelled)

  is_variable : (x : Name) (us : List Marked) (e : Expression) → Is (plain_code.Var x.0) us e → IsAtom d (plain (s.Name x) ∷ us) e
  is_variable x us e i = made (λ l y. IsAtom d (plain (s.Name x) ∷ l) y) [] us (plain_code.Var x.0) e i.none i.same (exp.variable d x)

  named_told : (x : Name) → Describes (r.named deeper x) (λ us e. IsAtom d (plain (s.Name x) ∷ us) e)
  unfolding r.named r.index
  named_told x = choose_by (λ o. r.named_by deeper x (stands mark.OpenSquare o)) (λ ts. refl)
      (possibly (is_variable x) (give (plain_code.Var x.0)).possible) (λ o. by o (stands mark.OpenSquare o) refl)
    where
      by : (o : Option Symbol) (b : Bool) → stands mark.OpenSquare o ≡ b →
          DescribesAt o (r.named_by deeper x b) (λ us e. IsAtom d (plain (s.Name x) ∷ us) e)
      by o true e = standing mark.OpenSquare o e
          (weaken_at (is_element x)
          (bind_at (inside_told deeper (IsSum (suc d)) d mark.OpenSquare mark.CloseSquare inner) (λ i. give (plain_code.Read x.0 i))))
      by o false e = anywhere o (weaken (is_variable x) (give (plain_code.Var x.0)))

  is_literal : (z : ℤ) (us : List Marked) (e : Expression) → Is (plain_code.Lit z) us e → IsAtom d (plain (s.Number z) ∷ us) e
  is_literal z us e i = made (λ l y. IsAtom d (plain (s.Number z) ∷ l) y) [] us (plain_code.Lit z) e i.none i.same (exp.number d z)

  is_group : (us : List Marked) (e : Expression) → Enclosed d mark.OpenRound mark.CloseRound (IsSum (suc d)) us e → IsAtom d us e
  is_group us e b = let F : List Marked → Type 0 = λ l. IsAtom d l e in subst F (sym b.split) (exp.group b.fits.spelled)

  parenthesized_at : (m : Mark) (b : Bool) → sameb the_type m mark.OpenRound ≡ b →
      DescribesAt (Some (s.Mark m)) (if b then r.parenthesized deeper else refuse Expected) (IsAtom d)
  unfolding r.parenthesized
  parenthesized_at m false e = refused_at (IsAtom d) (some_atom d) (Some (s.Mark m))
  parenthesized_at m true e =
      let F : Mark → Type 0 = λ v. DescribesAt (Some (s.Mark v)) (inside_group deeper mark.CloseRound) (IsAtom d) in
      subst F (sym (same_true the_type tt m mark.OpenRound e))
      (weaken_at is_group (inside_told deeper (IsSum (suc d)) d mark.OpenRound mark.CloseRound inner))

  atom_told : Describes (r.atom deeper) (IsAtom d)
  unfolding r.atom
  atom_told = choose (some_atom d) by
    where
      by : (o : Option Symbol) → DescribesAt o (r.atom_by deeper o) (IsAtom d)
      by None = refused_at (IsAtom d) (some_atom d) None
      by (Some (s.Mark m)) = parenthesized_at m (sameb the_type m mark.OpenRound) refl
      by (Some (s.Number z)) = after (s.Number z) (is_literal z) (give (plain_code.Lit z))
      by (Some (s.Name x)) = after (s.Name x) (λ us e i. i) (named_told x)

  is_negative : (us : List Marked) (e : Expression) → Both (IsAtom d) (λ f. Is (plain_code.Neg f)) us e → IsUnary d (word mark.Minus ∷ us) e
  is_negative us e b = made (λ l y. IsUnary d (word mark.Minus ∷ l) y) b.front us (plain_code.Neg b.value) e
      (b.parts ∙ ap (λ (l : List Marked). b.front ++ l) b.two.none ∙ append-nil b.front) b.two.same (exp.negative b.one)

  unary_told : Describes (r.unary deeper) (IsUnary d)
  unfolding r.unary
  unary_told = choose_by (λ o. r.unary_by deeper (stands mark.Minus o)) (λ ts. refl) (some_unary d) (λ o. by o (stands mark.Minus o) refl)
    where
      by : (o : Option Symbol) (b : Bool) → stands mark.Minus o ≡ b → DescribesAt o (r.unary_by deeper b) (IsUnary d)
      by o true e = standing mark.Minus o e (after (s.Mark mark.Minus) is_negative (bind atom_told (λ f. give (plain_code.Neg f))))
      by o false e = anywhere o (weaken (λ us e a. exp.as_unary a) atom_told)

  product_joins : (o : Option Symbol) (make : Expression → Expression → Expression) → r.product_operators o ≡ Some make →
      Joins (λ k us e. IsExpression exp.Product d k us e) (IsUnary d) o make
  product_joins o make = joins_if mark.Star plain_code.Times o None make (λ k ts us x y a b. exp.times a b) (joins_none o make)

  product_told : Describes (r.product deeper) (IsProduct d)
  unfolding r.product
  product_told = chain_reads r.product_operators (r.unary deeper) (λ k us e. IsExpression exp.Product d k us e) (IsUnary d) unary_told
      product_joins (λ us e u. exp.as_product u)

  sum_joins : (o : Option Symbol) (make : Expression → Expression → Expression) → r.sum_operators o ≡ Some make →
      Joins (λ k us e. IsExpression exp.Sum d k us e) (IsProduct d) o make
  sum_joins o make =
      joins_if mark.Plus plain_code.Plus o (if stands mark.Minus o then Some plain_code.Minus else None) make
      (λ k ts us x y a b. exp.plus a b.spelled)
      (joins_if mark.Minus plain_code.Minus o None make (λ k ts us x y a b. exp.minus a b.spelled) (joins_none o make))

  pub sum_told : Describes (r.sum deeper) (IsSum d)
  unfolding r.sum
  sum_told = chain_reads r.sum_operators (r.product deeper) (λ k us e. IsExpression exp.Sum d k us e) (IsProduct d) product_told sum_joins
      (λ us e p. exp.as_sum p.spelled)

pub shallow : (d n : ℕ) → d + suc n ≡ 64 → nat_le 64 d ≡ false
shallow d n e = grind (arith, nat_tests)

pub deep : (d : ℕ) → d + 0 ≡ 64 → nat_le 64 d ≡ true
deep d e = grind (arith, nat_tests)

-- the rule inside a group of an expression
pub inner_sum_told : (n d : ℕ) → d + n ≡ 64 → Inner (r.inner_sum n) (IsSum (suc d)) d
unfolding r.inner_sum
inner_sum_told zero d e = (some_sum (suc d), deep d e)
inner_sum_told (suc n) d e = (sum_told (r.inner_sum n) (suc d) (inner_sum_told n (suc d) (omega (arith, e))), shallow d n e)

pub expression_told : (n d : ℕ) → d + n ≡ 64 → Describes (r.expression n) (IsSum d)
unfolding r.expression
expression_told n d e = sum_told (r.inner_sum n) d (inner_sum_told n d e)
