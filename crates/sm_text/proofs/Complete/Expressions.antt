-- Each expression that the grammar spells is read, or refused at the first symbol that nests too deep.
use Rattle.sm_text.proofs.Imports.{◌≡◌, ℕ, suc, zero, ◌+◌, ℤ, refl, sym, ap, ◌∙◌, arith, Bool, true, false, Option, Some, None, Ok, List, [], ◌∷◌, ◌++◌, nat_tests, Expression, Marked, plain, word, opens, joins, Symbol, Mark, Level, IsExpression, first, pure, stands, chain_in, unmarked}
use Rattle.std.specs.Prelude.{nat_le}
use Rattle.sm_syntax.specs.declared.symbol.Mark.TheVariants as mark
use Rattle.sm_syntax.specs.declared.symbol.Symbol.TheVariants as s
use Rattle.sm_syntax.specs.declared.tree.Name.{Name}
use Rattle.sm_syntax.specs.claim.Syntax as plain_code
use Rattle.sm_syntax.specs.text.ExpressionGrammar as exp
use Rattle.sm_text.specs.rules.Reading as r
use Rattle.sm_text.proofs.Sound.Chained.{chain-end}
use Rattle.sm_text.proofs.Complete.Parsers.{reach, reads-then, go_on-pure, Opened, inside-then, room, chain-first, chain-more}

-- nothing that stands there goes on with an expression
pub record Ends (o : Option Symbol) : Type 0 where
  pub square : stands mark.OpenSquare o ≡ false
  pub product : r.product_operators o ≡ None
  pub sum : r.sum_operators o ≡ None

-- the symbols are read as the expression, at each level, where n more groups may be opened and k operators stood in the chain
abbrev Claim : Level → ℕ → ℕ → List Marked → Expression → Type 0
Claim exp.Atom n k ts e =
    (z : List Symbol) → (stands mark.Minus (first (unmarked ts ++ z)) ≡ false) × (stands mark.OpenSquare (first z) ≡ false →
    r.atom (r.inner_sum n) (unmarked ts ++ z) ≡ reach ts z (Ok (e, z)))
Claim exp.Unary n k ts e =
    (z : List Symbol) → stands mark.OpenSquare (first z) ≡ false → r.unary (r.inner_sum n) (unmarked ts ++ z) ≡ reach ts z (Ok (e, z))
Claim exp.Product n k ts e =
    (z : List Symbol) → stands mark.OpenSquare (first z) ≡ false →
    r.product (r.inner_sum n) (unmarked ts ++ z) ≡ reach ts z (chain_in r.product_operators (r.unary (r.inner_sum n)) (room k) e z)
Claim exp.Sum n k ts e =
    (z : List Symbol) → stands mark.OpenSquare (first z) ≡ false → r.product_operators (first z) ≡ None →
    r.sum (r.inner_sum n) (unmarked ts ++ z) ≡ reach ts z (chain_in r.sum_operators (r.product (r.inner_sum n)) (room k) e z)

sum_ends : (n k : ℕ) (ts : List Marked) (e : Expression) → Claim exp.Sum n k ts e → (z : List Symbol) → Ends (first z) →
    r.sum (r.inner_sum n) (unmarked ts ++ z) ≡ reach ts z (Ok (e, z))
sum_ends n k ts e read z end =
    read z end.square end.product ∙ ap (reach ts z) (chain-end r.sum_operators (r.product (r.inner_sum n)) (room k) e z end.sum)

pub full : (d : ℕ) → d + 0 ≡ 64 → nat_le 64 d ≡ true
full d e = grind (arith, nat_tests)

pub shallow : (d n : ℕ) → d + suc n ≡ 64 → nat_le 64 d ≡ false
shallow d n e = grind (arith, nat_tests)

-- inside a group
sum_opened : (n d k : ℕ) → d + n ≡ 64 → (ts : List Marked) (e : Expression) (close : Mark) → Ends (Some (s.Mark close)) →
    ((m : ℕ) → suc d + m ≡ 64 → Claim exp.Sum m k ts e) → Opened (r.inner_sum n) d ts e close
unfolding r.inner_sum
sum_opened zero d k fits ts e close end read = full d fits
sum_opened (suc m) d k fits ts e close end read =
    (shallow d m fits, λ z. sum_ends m k ts e (read m (omega (arith, fits))) (s.Mark close ∷ z) end)

number_read : (n : ℕ) (v : ℤ) → Claim exp.Atom n 0 (plain (s.Number v) ∷ []) (plain_code.Lit v)
unfolding r.atom
number_read n v z = (refl, λ h. refl)

variable_read : (n : ℕ) (x : Name) → Claim exp.Atom n 0 (plain (s.Name x) ∷ []) (plain_code.Var x.0)
unfolding r.atom r.named
variable_read n x z = (refl, λ h. ap (λ (b : Bool). r.named_by (r.inner_sum n) x b z) h)

element_read : (n d k : ℕ) → d + n ≡ 64 → (ts : List Marked) (i : Expression) (x : Name) →
    ((m : ℕ) → suc d + m ≡ 64 → Claim exp.Sum m k ts i) →
    Claim exp.Atom n 0 (plain (s.Name x) ∷ opens mark.OpenSquare d ∷ (ts ++ word mark.CloseSquare ∷ [])) (plain_code.Read x.0 i)
unfolding r.atom r.named r.index
element_read n d k fits ts i x read z = (
  refl,
  λ h. inside-then (r.inner_sum n) d mark.OpenSquare mark.CloseSquare ts [] i z (λ (j : Expression). pure (plain_code.Read x.0 j))
      (Ok (plain_code.Read x.0 i, z))
      (sum_opened n d k fits ts i mark.CloseSquare (record { square = refl; product = refl; sum = refl }) read) refl,
)

group_read : (n d k : ℕ) → d + n ≡ 64 → (ts : List Marked) (e : Expression) → ((m : ℕ) → suc d + m ≡ 64 → Claim exp.Sum m k ts e) →
    Claim exp.Atom n 0 (opens mark.OpenRound d ∷ (ts ++ word mark.CloseRound ∷ [])) e
unfolding r.atom r.parenthesized
group_read n d k fits ts e read z = (
  refl,
  λ h. sym (go_on-pure
      (r.parenthesized (r.inner_sum n) (s.Mark mark.OpenRound ∷ (unmarked (ts ++ word mark.CloseRound ∷ []) ++ z))))
      ∙ inside-then (r.inner_sum n) d mark.OpenRound mark.CloseRound ts [] e z pure (Ok (e, z))
      (sum_opened n d k fits ts e mark.CloseRound (record { square = refl; product = refl; sum = refl }) read) refl,
)

negative_read : (n : ℕ) (ts : List Marked) (e : Expression) → Claim exp.Atom n 0 ts e →
    Claim exp.Unary n 0 (word mark.Minus ∷ ts) (plain_code.Neg e)
unfolding r.unary
negative_read n ts e read z h = reads-then ts z (Ok (e, z)) (λ (f : Expression). pure (plain_code.Neg f)) ((read z).1 h)

as_unary_read : (n : ℕ) (ts : List Marked) (e : Expression) → Claim exp.Atom n 0 ts e → Claim exp.Unary n 0 ts e
unfolding r.unary
as_unary_read n ts e read z h = ap (λ (b : Bool). r.unary_by (r.inner_sum n) b (unmarked ts ++ z)) (read z).0 ∙ (read z).1 h

as_product_read : (n : ℕ) (ts : List Marked) (e : Expression) → Claim exp.Unary n 0 ts e → Claim exp.Product n 0 ts e
unfolding r.product
as_product_read n ts e read z h = chain-first r.product_operators (r.unary (r.inner_sum n)) ts e z (read z h)

times_read : (n k : ℕ) (ts us : List Marked) (e f : Expression) → Claim exp.Product n k ts e → Claim exp.Unary n 0 us f →
    Claim exp.Product n (suc k) (ts ++ joins mark.Star k ∷ us) (plain_code.Times e f)
unfolding r.product
times_read n k ts us e f left right z h =
    chain-more r.product_operators (r.unary (r.inner_sum n)) mark.Star plain_code.Times k ts us e f z refl
    (λ y i. left y (ap (stands mark.OpenSquare) i)) (right z h)

-- a product, before what doesn't go on with it
product_ends : (n k : ℕ) (ts : List Marked) (e : Expression) → Claim exp.Product n k ts e → (z : List Symbol) →
    stands mark.OpenSquare (first z) ≡ false → r.product_operators (first z) ≡ None →
    r.product (r.inner_sum n) (unmarked ts ++ z) ≡ reach ts z (Ok (e, z))
product_ends n k ts e read z h p = read z h ∙ ap (reach ts z) (chain-end r.product_operators (r.unary (r.inner_sum n)) (room k) e z p)

as_sum_read : (n k : ℕ) (ts : List Marked) (e : Expression) → Claim exp.Product n k ts e → Claim exp.Sum n 0 ts e
unfolding r.sum
as_sum_read n k ts e read z h p = chain-first r.sum_operators (r.product (r.inner_sum n)) ts e z (product_ends n k ts e read z h p)

sum_read : (n k j : ℕ) (sign : Mark) (make : Expression → Expression → Expression) → stands mark.OpenSquare (Some (s.Mark sign)) ≡ false →
    r.product_operators (Some (s.Mark sign)) ≡ None → r.sum_operators (Some (s.Mark sign)) ≡ Some make →
    (ts us : List Marked) (e f : Expression) → Claim exp.Sum n k ts e → Claim exp.Product n j us f →
    Claim exp.Sum n (suc k) (ts ++ joins sign k ∷ us) (make e f)
unfolding r.sum
sum_read n k j sign make o q m ts us e f left right z h p =
    chain-more r.sum_operators (r.product (r.inner_sum n)) sign make k ts us e f z m
    (λ y i. left y (ap (stands mark.OpenSquare) i ∙ o) (ap r.product_operators i ∙ q)) (product_ends n j us f right z h p)

expression_claim : {l : Level} {d k : ℕ} {ts : List Marked} {e : Expression} → IsExpression l d k ts e → (n : ℕ) → d + n ≡ 64 →
    Claim l n k ts e
expression_claim (exp.number d v) n fits = number_read n v
expression_claim (exp.variable d x) n fits = variable_read n x
expression_claim (exp.element {d = d} {k = k} {ts = ts} {i = i} x p) n fits = element_read n d k fits ts i x (λ m f. expression_claim p m f)
expression_claim (exp.group {d = d} {k = k} {ts = ts} {e = e} p) n fits = group_read n d k fits ts e (λ m f. expression_claim p m f)
expression_claim (exp.negative {ts = ts} {e = e} p) n fits = negative_read n ts e (expression_claim p n fits)
expression_claim (exp.as_unary {ts = ts} {e = e} p) n fits = as_unary_read n ts e (expression_claim p n fits)
expression_claim (exp.as_product {ts = ts} {e = e} p) n fits = as_product_read n ts e (expression_claim p n fits)
expression_claim (exp.times {k = k} {ts = ts} {us = us} {e = e} {f = f} p q) n fits =
    times_read n k ts us e f (expression_claim p n fits) (expression_claim q n fits)
expression_claim (exp.as_sum {k = k} {ts = ts} {e = e} p) n fits = as_sum_read n k ts e (expression_claim p n fits)
expression_claim (exp.plus {j = j} {k = k} {ts = ts} {us = us} {e = e} {f = f} p q) n fits =
    sum_read n k j mark.Plus plain_code.Plus refl refl refl ts us e f (expression_claim p n fits) (expression_claim q n fits)
expression_claim (exp.minus {j = j} {k = k} {ts = ts} {us = us} {e = e} {f = f} p q) n fits =
    sum_read n k j mark.Minus plain_code.Minus refl refl refl ts us e f (expression_claim p n fits) (expression_claim q n fits)

-- an expression is read, before what doesn't go on with it
pub expression_read : {d k : ℕ} {ts : List Marked} {e : Expression} → IsExpression exp.Sum d k ts e → (n : ℕ) → d + n ≡ 64 →
    (z : List Symbol) → Ends (first z) → r.expression n (unmarked ts ++ z) ≡ reach ts z (Ok (e, z))
unfolding r.expression
expression_read {k = k} {ts = ts} {e = e} p n fits z end = sum_ends n k ts e (expression_claim p n fits) z end

-- the inside of a group that opens after a name
pub index_opened : {d k : ℕ} {ts : List Marked} {i : Expression} → IsExpression exp.Sum (suc d) k ts i → (n : ℕ) → d + n ≡ 64 →
    Opened (r.inner_sum n) d ts i mark.CloseSquare
index_opened {d = d} {k = k} {ts = ts} {i = i} p n fits =
    sum_opened n d k fits ts i mark.CloseSquare (record { square = refl; product = refl; sum = refl }) (λ m f. expression_claim p m f)

-- what an expression begins with
pub data Begins : List Marked → Type 0 where
  number : (v : ℤ) (us : List Marked) → Begins (plain (s.Number v) ∷ us)
  name : (x : Name) (us : List Marked) → Begins (plain (s.Name x) ∷ us)
  round : (d : ℕ) (us : List Marked) → Begins (opens mark.OpenRound d ∷ us)
  minus : (us : List Marked) → Begins (word mark.Minus ∷ us)

pub begins-append : {ts : List Marked} → Begins ts → (us : List Marked) → Begins (ts ++ us)
begins-append (number v ts) us = number v (ts ++ us)
begins-append (name x ts) us = name x (ts ++ us)
begins-append (round d ts) us = round d (ts ++ us)
begins-append (minus ts) us = minus (ts ++ us)

pub expression_begins : {l : Level} {d k : ℕ} {ts : List Marked} {e : Expression} → IsExpression l d k ts e → Begins ts
expression_begins (exp.number d v) = number v []
expression_begins (exp.variable d x) = name x []
expression_begins (exp.element {d = d} {ts = ts} x p) = name x (opens mark.OpenSquare d ∷ (ts ++ word mark.CloseSquare ∷ []))
expression_begins (exp.group {d = d} {ts = ts} p) = round d (ts ++ word mark.CloseRound ∷ [])
expression_begins (exp.negative {ts = ts} p) = minus ts
expression_begins (exp.as_unary p) = expression_begins p
expression_begins (exp.as_product p) = expression_begins p
expression_begins (exp.times {k = k} {us = us} p q) = begins-append (expression_begins p) (joins mark.Star k ∷ us)
expression_begins (exp.as_sum p) = expression_begins p
expression_begins (exp.plus {k = k} {us = us} p q) = begins-append (expression_begins p) (joins mark.Plus k ∷ us)
expression_begins (exp.minus {k = k} {us = us} p q) = begins-append (expression_begins p) (joins mark.Minus k ∷ us)
