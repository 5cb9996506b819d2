-- What is read of a condition is what the grammar says.
use Rattle.sm_text.proofs.Imports.{◌≡◌, ℕ, suc, zero, ◌+◌, refl, sym, ap, ◌∙◌, subst, arith, Bool, true, false, Option, Some, None, List, [], ◌∷◌, ◌++◌, Expression, Condition, Cmp, Eq, Ne, Lt, Le, Gt, Ge, Marked, word, Symbol, Mark, comparison, IsCondition, Parser, ◌>>◌, pure, skip, stands}
use Rattle.std.specs.Prelude.{if◌then◌else◌}
use Rattle.std.proofs.lemmas.List.{append-nil}
use Rattle.sm_syntax.specs.declared.symbol.Mark.TheVariants as mark
use Rattle.sm_syntax.specs.declared.symbol.Symbol.TheVariants as s
use Rattle.sm_syntax.specs.claim.Syntax as plain_code
use Rattle.sm_syntax.specs.text.ConditionGrammar as cond
use Rattle.sm_text.specs.rules.Reading as r
use Rattle.sm_text.proofs.Sound.Parsers.{made, Possible, Describes, DescribesAt, Both, Is, bind, weaken, possibly, give}
use Rattle.sm_text.proofs.Sound.Choices.{refused_at, anywhere, choose_by, after, weaken_at, stands-is, standing, Inner, Enclosed, inside_told}
use Rattle.sm_text.proofs.Sound.Chained.{IsChain, Joins, joins_if, joins_none, chain_reads}
use Rattle.sm_text.proofs.Sound.Expressions.{IsSum, shallow, deep, expression_told}

-- what holds of the sign of each comparison
pub each_comparison : (P : Mark → Type 0) → P mark.Equal → P mark.Unequal → P mark.Less → P mark.AtMost → P mark.Greater → P mark.AtLeast →
    (op : Cmp) → P (comparison op)
each_comparison P equal unequal less at_most greater at_least Eq = equal
each_comparison P equal unequal less at_most greater at_least Ne = unequal
each_comparison P equal unequal less at_most greater at_least Lt = less
each_comparison P equal unequal less at_most greater at_least Le = at_most
each_comparison P equal unequal less at_most greater at_least Gt = greater
each_comparison P equal unequal less at_most greater at_least Ge = at_least

-- the sign of a comparison
abbrev pub IsComparison : List Marked → Cmp → Type 0
IsComparison us op = us ≡ word (comparison op) ∷ []

is_this_comparison : (op : Cmp) (us : List Marked) (x : Cmp) → Is op us x → IsComparison (word (comparison op) ∷ us) x
is_this_comparison op us x i = made (λ l y. IsComparison (word (comparison op) ∷ l) y) [] us op x i.none i.same refl

some_comparison : Possible IsComparison
some_comparison = record { list = word (comparison Eq) ∷ []; value = Eq; fits = refl }

comparison_at : (m : Mark) (op : Cmp) (o : Option Symbol) → comparison op ≡ m → stands m o ≡ true →
    DescribesAt o (r.comparison_if (Some op)) IsComparison
comparison_at m op o e f =
    let F : Option Symbol → Type 0 = λ p. DescribesAt p (skip >> pure op) IsComparison in
    subst F (ap (λ (n : Mark). Some (s.Mark n)) e ∙ sym (stands-is m o f))
    (after (s.Mark (comparison op)) (is_this_comparison op) (give op))

comparison_by : (o : Option Symbol) → DescribesAt o (r.comparison_if (r.comparison_of o)) IsComparison
comparison_by o = by (stands mark.Equal o) refl (stands mark.Unequal o) refl (stands mark.Less o) refl (stands mark.AtMost o) refl
    (stands mark.Greater o) refl (stands mark.AtLeast o) refl
  where
    by : (a : Bool) → stands mark.Equal o ≡ a → (b : Bool) → stands mark.Unequal o ≡ b → (c : Bool) → stands mark.Less o ≡ c → (e : Bool) →
        stands mark.AtMost o ≡ e → (f : Bool) → stands mark.Greater o ≡ f → (h : Bool) → stands mark.AtLeast o ≡ h →
        DescribesAt o (r.comparison_if
        (if a then Some Eq else (if b then Some Ne else
        (if c then Some Lt else (if e then Some Le else (if f then Some Gt else (if h then Some Ge else None))))))) IsComparison
    by true p b q c t e u f v h w = comparison_at mark.Equal Eq o refl p
    by false p true q c t e u f v h w = comparison_at mark.Unequal Ne o refl q
    by false p false q true t e u f v h w = comparison_at mark.Less Lt o refl t
    by false p false q false t true u f v h w = comparison_at mark.AtMost Le o refl u
    by false p false q false t false u true v h w = comparison_at mark.Greater Gt o refl v
    by false p false q false t false u false v true w = comparison_at mark.AtLeast Ge o refl w
    by false p false q false t false u false v false w = refused_at IsComparison some_comparison o

comparison_told : Describes r.comparison_sign IsComparison
unfolding r.comparison_sign
comparison_told = choose_by (λ o. r.comparison_if (r.comparison_of o)) (λ ts. refl) some_comparison comparison_by

-- a condition where d groups are open
abbrev pub IsDisjunction : ℕ → List Marked → Condition → Type 0
IsDisjunction d us b = IsChain (λ k ts x. IsCondition cond.Disjunction d k ts x) us b

-- a conjunction where d groups are open
abbrev pub IsConjunction : ℕ → List Marked → Condition → Type 0
IsConjunction d us b = IsChain (λ k ts x. IsCondition cond.Conjunction d k ts x) us b

abbrev pub IsLiteral : ℕ → List Marked → Condition → Type 0
IsLiteral d us b = IsCondition cond.Literal d 0 us b

abbrev pub IsTest : ℕ → List Marked → Condition → Type 0
IsTest d us b = IsCondition cond.Test d 0 us b

some_test : (d : ℕ) → Possible (IsTest d)
some_test d = record { list = word mark.True ∷ []; value = plain_code.Yes; fits = cond.always d }

some_literal : (d : ℕ) → Possible (IsLiteral d)
some_literal d = possibly (λ us b t. cond.as_literal t) (some_test d)

some_disjunction : (d : ℕ) → Possible (IsDisjunction d)
some_disjunction d = possibly (λ us b l. record { operators = 0; spelled = cond.as_disjunction (cond.as_conjunction l) }) (some_literal d)

module _ (deeper : Option (Parser Condition)) (value : Parser Expression) (d : ℕ) (inner : Inner deeper (IsDisjunction (suc d)) d)
    (reads : Describes value (IsSum d)) where
  is_compared : (us : List Marked) (b : Condition) →
      Both (IsSum d) (λ x. Both IsComparison (λ op. Both (IsSum d) (λ y. Is (plain_code.Compare op x y)))) us b → IsTest d us b
  is_compared us b p = made (λ l y. IsTest d l y) (p.front ++ word (comparison p.two.value) ∷ p.two.two.front) us
      (plain_code.Compare p.two.value p.value p.two.two.value) b line p.two.two.two.same
      (cond.compares p.two.value p.one.spelled p.two.two.one.spelled)
    where
      line : us ≡ p.front ++ word (comparison p.two.value) ∷ p.two.two.front
      line = p.parts ∙ ap (λ (l : List Marked). p.front ++ l) (p.two.parts ∙ ap (λ (l : List Marked). l ++ p.two.behind) p.two.one
          ∙ ap (λ (l : List Marked). word (comparison p.two.value) ∷ l)
          (p.two.two.parts ∙ ap (λ (l : List Marked). p.two.two.front ++ l) p.two.two.two.none ∙ append-nil p.two.two.front))

  compared_told : Describes (r.compared value) (IsTest d)
  unfolding r.compared
  compared_told = weaken is_compared (bind reads (λ x. bind comparison_told (λ op. bind reads (λ y. give (plain_code.Compare op x y)))))

  is_constant : (m : Mark) (c : Condition) → IsTest d (word m ∷ []) c → (us : List Marked) (b : Condition) → Is c us b →
      IsTest d (word m ∷ us) b
  is_constant m c t us b i = made (λ l y. IsTest d (word m ∷ l) y) [] us c b i.none i.same t

  is_bracketed : (us : List Marked) (b : Condition) → Enclosed d mark.OpenSquare mark.CloseSquare (IsDisjunction (suc d)) us b →
      IsTest d us b
  is_bracketed us b e = let F : List Marked → Type 0 = λ l. IsTest d l b in subst F (sym e.split) (cond.group e.fits.spelled)

  constant_at : (m : Mark) (c : Condition) → IsTest d (word m ∷ []) c → DescribesAt (Some (s.Mark m)) (skip >> pure c) (IsTest d)
  constant_at m c t = after (s.Mark m) (is_constant m c t) (give c)

  bracketed_at : DescribesAt (Some (s.Mark mark.OpenSquare)) (r.bracketed deeper) (IsTest d)
  unfolding r.bracketed
  bracketed_at = weaken_at is_bracketed (inside_told deeper (IsDisjunction (suc d)) d mark.OpenSquare mark.CloseSquare inner)

  test_told : Describes (r.simple_test deeper value) (IsTest d)
  unfolding r.simple_test
  test_told = choose_by (r.test_at deeper value) (λ ts. refl) (some_test d)
      (λ o. by o (stands mark.True o) refl (stands mark.False o) refl (stands mark.OpenSquare o) refl)
    where
      by : (o : Option Symbol) (a : Bool) → stands mark.True o ≡ a → (b : Bool) → stands mark.False o ≡ b → (c : Bool) →
          stands mark.OpenSquare o ≡ c →
          DescribesAt o (if a then skip >> pure plain_code.Yes else
          (if b then skip >> pure plain_code.No else (if c then r.bracketed deeper else r.compared value))) (IsTest d)
      by o true e b f c h = standing mark.True o e (constant_at mark.True plain_code.Yes (cond.always d))
      by o false e true f c h = standing mark.False o f (constant_at mark.False plain_code.No (cond.never d))
      by o false e false f true h = standing mark.OpenSquare o h bracketed_at
      by o false e false f false h = anywhere o compared_told

  is_denied : (us : List Marked) (b : Condition) → Both (IsTest d) (λ c. Is (plain_code.Not c)) us b → IsLiteral d (word mark.Bang ∷ us) b
  is_denied us b p = made (λ l y. IsLiteral d (word mark.Bang ∷ l) y) p.front us (plain_code.Not p.value) b
      (p.parts ∙ ap (λ (l : List Marked). p.front ++ l) p.two.none ∙ append-nil p.front) p.two.same (cond.denied p.one)

  literal_told : Describes (r.literal deeper value) (IsLiteral d)
  unfolding r.literal
  literal_told = choose_by (λ o. r.literal_by deeper value (stands mark.Bang o)) (λ ts. refl) (some_literal d)
      (λ o. by o (stands mark.Bang o) refl)
    where
      by : (o : Option Symbol) (b : Bool) → stands mark.Bang o ≡ b → DescribesAt o (r.literal_by deeper value b) (IsLiteral d)
      by o true e = standing mark.Bang o e (after (s.Mark mark.Bang) is_denied (bind test_told (λ c. give (plain_code.Not c))))
      by o false e = anywhere o (weaken (λ us b t. cond.as_literal t) test_told)

  conjunction_joins : (o : Option Symbol) (make : Condition → Condition → Condition) → r.conjunction_operators o ≡ Some make →
      Joins (λ k us b. IsCondition cond.Conjunction d k us b) (IsLiteral d) o make
  conjunction_joins o make = joins_if mark.Both plain_code.And o None make (λ k ts us x y a b. cond.both a b) (joins_none o make)

  conjunction_told : Describes (r.conjunction deeper value) (IsConjunction d)
  unfolding r.conjunction
  conjunction_told = chain_reads r.conjunction_operators (r.literal deeper value) (λ k us b. IsCondition cond.Conjunction d k us b)
      (IsLiteral d) literal_told conjunction_joins (λ us b l. cond.as_conjunction l)

  disjunction_joins : (o : Option Symbol) (make : Condition → Condition → Condition) → r.disjunction_operators o ≡ Some make →
      Joins (λ k us b. IsCondition cond.Disjunction d k us b) (IsConjunction d) o make
  disjunction_joins o make = joins_if mark.Either plain_code.Or o None make (λ k ts us x y a b. cond.either a b.spelled) (joins_none o make)

  pub disjunction_told : Describes (r.disjunction deeper value) (IsDisjunction d)
  unfolding r.disjunction
  disjunction_told = chain_reads r.disjunction_operators (r.conjunction deeper value) (λ k us b. IsCondition cond.Disjunction d k us b)
      (IsConjunction d) conjunction_told disjunction_joins (λ us b c. cond.as_disjunction c.spelled)

-- the rule inside a group of a condition
pub inner_condition_told : (n d : ℕ) → d + n ≡ 64 → Inner (r.inner_condition n) (IsDisjunction (suc d)) d
unfolding r.inner_condition
inner_condition_told zero d e = (some_disjunction (suc d), deep d e)
inner_condition_told (suc n) d e = (
  disjunction_told (r.inner_condition n) (r.expression n) (suc d) (inner_condition_told n (suc d) (omega (arith, e)))
      (expression_told n (suc d) (omega (arith, e))),
  shallow d n e,
)

pub condition_told : (n d : ℕ) → d + n ≡ 64 → Describes (r.condition n) (IsDisjunction d)
unfolding r.condition
condition_told n d e = disjunction_told (r.inner_condition n) (r.expression n) d (inner_condition_told n d e) (expression_told n d e)
