-- Private: pieces of code pass the test of being the same exactly where they are equal.
use Rattle.std.specs.Prelude.{◌≡◌, ◌↔◌, ◌==◌, true, ◌&&◌, IsTrue}
use Rattle.std.proofs.Common.{refl}
use Rattle.std.proofs.lemmas.Bool.{eqb-true, and_parts}
use Rattle.sm_syntax.specs.claim.Syntax as syntax
use Rattle.sm_syntax.specs.claim.Syntax.{Code}
use Rattle.sm_term.specs.SameTerms.{same_expression, same_condition, same_code}
use Rattle.sm_term.specs.SameTestLaws.{both, three, four, says, same_number, expression_gives, expression_itself, condition_gives, condition_itself}

-- code
pub code_gives : (c d : Code) → same_code c d ≡ true → c ≡ d
code_gives syntax.End syntax.End h = refl
code_gives (syntax.Skip k) (syntax.Skip l) h = rw (code_gives k l h) refl
code_gives (syntax.Assign x d k) (syntax.Assign y e l) h =
    let p = and_parts (x == y) (same_expression d e && same_code k l) h in
    let q = and_parts (same_expression d e) (same_code k l) p.1 in
    rw (eqb-true x y p.0, expression_gives d e q.0, code_gives k l q.1) refl
code_gives (syntax.Write a i d k) (syntax.Write b j e l) h =
    let p = and_parts (a == b) (same_expression i j && (same_expression d e && same_code k l)) h in
    let q = and_parts (same_expression i j) (same_expression d e && same_code k l) p.1 in
    let r = and_parts (same_expression d e) (same_code k l) q.1 in
    let index = expression_gives i j q.0 in
    rw (eqb-true a b p.0, index, expression_gives d e r.0, code_gives k l r.1) refl
code_gives (syntax.If b c d k) (syntax.If e f g l) h =
    let p = and_parts (same_condition b e) (same_code c f && (same_code d g && same_code k l)) h in
    let q = and_parts (same_code c f) (same_code d g && same_code k l) p.1 in
    let r = and_parts (same_code d g) (same_code k l) q.1 in
    rw (condition_gives b e p.0, code_gives c f q.0, code_gives d g r.0, code_gives k l r.1) refl
code_gives (syntax.While b c k) (syntax.While d e l) h =
    let p = and_parts (same_condition b d) (same_code c e && same_code k l) h in
    let q = and_parts (same_code c e) (same_code k l) p.1 in
    rw (condition_gives b d p.0, code_gives c e q.0, code_gives k l q.1) refl
code_gives (syntax.Hole i k) (syntax.Hole j l) h =
    let p = and_parts (i == j) (same_code k l) h in
    rw (eqb-true i j p.0, code_gives k l p.1) refl
code_gives c d h = absurd cc

pub code_itself : (c : Code) → same_code c c ≡ true
code_itself syntax.End = refl
code_itself (syntax.Skip k) = code_itself k
code_itself (syntax.Assign x e k) =
    three _ _ _ (same_number x) (expression_itself e) (code_itself k)
code_itself (syntax.Write a i e k) =
    four _ _ _ _ (same_number a) (expression_itself i) (expression_itself e) (code_itself k)
code_itself (syntax.If b c d k) =
    four _ _ _ _ (condition_itself b) (code_itself c) (code_itself d) (code_itself k)
code_itself (syntax.While b c k) = three _ _ _ (condition_itself b) (code_itself c) (code_itself k)
code_itself (syntax.Hole h k) = both _ _ (same_number h) (code_itself k)

-- two pieces of code are the same exactly where they are equal
pub same_code_is : (c d : Code) → IsTrue (same_code c d) ↔ (c ≡ d)
same_code_is = says same_code code_gives code_itself
