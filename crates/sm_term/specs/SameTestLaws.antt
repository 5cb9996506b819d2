-- Private: expressions and conditions pass the test of being the same exactly where they are equal.
use Rattle.std.specs.Prelude.{◌≡◌, ◌↔◌, ℕ, ◌==◌, ℤ, Bool, true, ◌&&◌, IsTrue}
use Rattle.std.proofs.Common.{refl, subst}
use Rattle.std.specs.Ordering.{int_eq}
use Rattle.std.proofs.lemmas.Bool.{eqb-true, eq-eqb, and_parts, and_from}
use Rattle.std.proofs.lemmas.Bool.Decides.{Decides-int_eq}
use Rattle.sm_syntax.specs.declared.tree.Cmp.TheVariants as cmp
use Rattle.sm_syntax.specs.claim.Syntax as syntax
use Rattle.sm_syntax.specs.claim.Syntax.{Expression, Condition}
use Rattle.sm_syntax.specs.declared.tree.Cmp.{Cmp}
use Rattle.sm_term.specs.SameTerms.{same_comparison, same_expression, same_condition}

-- two tests that are passed
pub both : (b c : Bool) → b ≡ true → c ≡ true → (b && c) ≡ true
both b c first second = and_from b c first second

-- three
pub three : (b c d : Bool) → b ≡ true → c ≡ true → d ≡ true → (b && (c && d)) ≡ true
three b c d first second third = both b (c && d) first (both c d second third)

-- four
pub four :
    (b c d e : Bool) → b ≡ true → c ≡ true → d ≡ true → e ≡ true → (b && (c && (d && e))) ≡ true
four b c d e first second third fourth =
    both b (c && (d && e)) first (three c d e second third fourth)

-- a test that each thing passes with itself, and that only equal things pass, says that two are
-- equal
pub says :
    {T : Type 0} (same : T → T → Bool) →
    ((t u : T) → same t u ≡ true → t ≡ u) → ((t : T) → same t t ≡ true) →
    (t u : T) → IsTrue (same t u) ↔ (t ≡ u)
says same gives itself t u =
    (gives t u, λ (e : t ≡ u). subst (λ (v : _). same t v ≡ true) e (itself t))

-- a number is itself
pub same_number : (n : ℕ) → (n == n) ≡ true
same_number n = eq-eqb n n refl

-- a whole number is itself
pub same_whole : (z : ℤ) → int_eq z z ≡ true
same_whole z = (Decides-int_eq z z).1 refl

-- comparisons
pub comparison_gives : (op other : Cmp) → same_comparison op other ≡ true → op ≡ other
comparison_gives cmp.Eq cmp.Eq h = refl
comparison_gives cmp.Ne cmp.Ne h = refl
comparison_gives cmp.Lt cmp.Lt h = refl
comparison_gives cmp.Le cmp.Le h = refl
comparison_gives cmp.Gt cmp.Gt h = refl
comparison_gives cmp.Ge cmp.Ge h = refl
comparison_gives op other h = absurd cc

pub comparison_itself : (op : Cmp) → same_comparison op op ≡ true
comparison_itself cmp.Eq = refl
comparison_itself cmp.Ne = refl
comparison_itself cmp.Lt = refl
comparison_itself cmp.Le = refl
comparison_itself cmp.Gt = refl
comparison_itself cmp.Ge = refl

-- two comparisons are the same exactly where they are equal
pub same_comparison_is : (op other : Cmp) → IsTrue (same_comparison op other) ↔ (op ≡ other)
same_comparison_is = says same_comparison comparison_gives comparison_itself

-- expressions
pub expression_gives : (d e : Expression) → same_expression d e ≡ true → d ≡ e
expression_gives (syntax.Lit y) (syntax.Lit z) h = rw ((Decides-int_eq y z).0 h) refl
expression_gives (syntax.Var x) (syntax.Var y) h = rw (eqb-true x y h) refl
expression_gives (syntax.Read a i) (syntax.Read b j) h =
    let p = and_parts (a == b) (same_expression i j) h in
    rw (eqb-true a b p.0, expression_gives i j p.1) refl
expression_gives (syntax.Neg d) (syntax.Neg e) h = rw (expression_gives d e h) refl
expression_gives (syntax.Plus c d) (syntax.Plus e f) h =
    let p = and_parts (same_expression c e) (same_expression d f) h in
    rw (expression_gives c e p.0, expression_gives d f p.1) refl
expression_gives (syntax.Minus c d) (syntax.Minus e f) h =
    let p = and_parts (same_expression c e) (same_expression d f) h in
    rw (expression_gives c e p.0, expression_gives d f p.1) refl
expression_gives (syntax.Times c d) (syntax.Times e f) h =
    let p = and_parts (same_expression c e) (same_expression d f) h in
    rw (expression_gives c e p.0, expression_gives d f p.1) refl
expression_gives d e h = absurd cc

pub expression_itself : (e : Expression) → same_expression e e ≡ true
expression_itself (syntax.Lit z) = same_whole z
expression_itself (syntax.Var x) = same_number x
expression_itself (syntax.Read a i) = both _ _ (same_number a) (expression_itself i)
expression_itself (syntax.Neg e) = expression_itself e
expression_itself (syntax.Plus d e) = both _ _ (expression_itself d) (expression_itself e)
expression_itself (syntax.Minus d e) = both _ _ (expression_itself d) (expression_itself e)
expression_itself (syntax.Times d e) = both _ _ (expression_itself d) (expression_itself e)

-- two expressions are the same exactly where they are equal
pub same_expression_is : (d e : Expression) → IsTrue (same_expression d e) ↔ (d ≡ e)
same_expression_is = says same_expression expression_gives expression_itself

-- conditions
pub condition_gives : (b c : Condition) → same_condition b c ≡ true → b ≡ c
condition_gives syntax.Yes syntax.Yes h = refl
condition_gives syntax.No syntax.No h = refl
condition_gives (syntax.Compare op c d) (syntax.Compare other e f) h =
    let p = and_parts (same_comparison op other) (same_expression c e && same_expression d f) h in
    let q = and_parts (same_expression c e) (same_expression d f) p.1 in
    rw (comparison_gives op other p.0, expression_gives c e q.0, expression_gives d f q.1) refl
condition_gives (syntax.Not b) (syntax.Not c) h = rw (condition_gives b c h) refl
condition_gives (syntax.And b c) (syntax.And d e) h =
    let p = and_parts (same_condition b d) (same_condition c e) h in
    rw (condition_gives b d p.0, condition_gives c e p.1) refl
condition_gives (syntax.Or b c) (syntax.Or d e) h =
    let p = and_parts (same_condition b d) (same_condition c e) h in
    rw (condition_gives b d p.0, condition_gives c e p.1) refl
condition_gives b c h = absurd cc

pub condition_itself : (b : Condition) → same_condition b b ≡ true
condition_itself syntax.Yes = refl
condition_itself syntax.No = refl
condition_itself (syntax.Compare op d e) =
    three _ _ _ (comparison_itself op) (expression_itself d) (expression_itself e)
condition_itself (syntax.Not b) = condition_itself b
condition_itself (syntax.And b c) = both _ _ (condition_itself b) (condition_itself c)
condition_itself (syntax.Or b c) = both _ _ (condition_itself b) (condition_itself c)

-- two conditions are the same exactly where they are equal
pub same_condition_is : (b c : Condition) → IsTrue (same_condition b c) ↔ (b ≡ c)
same_condition_is = says same_condition condition_gives condition_itself
