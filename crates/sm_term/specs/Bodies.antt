-- Private: bodies are compared by their code, and hashed by their size.
use Rattle.std.specs.Prelude.{◌≡◌, ℕ, true, Bool, List, min, ◌-◌, ◌^◌}
use Rattle.std.proofs.Common.{ap, Decides}
use Rattle.std.specs.Hash as fed
use Rattle.std.specs.Cmp.{IsEquivalence}
use Rattle.sm_syntax.specs.claim.Syntax.{Code}
use Rattle.sm_syntax.specs.text.Conditions.{code_nodes}
use Rattle.sm_syntax.specs.trees.Views.{code_of}
use Rattle.sm_syntax.specs.declared.tree.Block.{Block}
use Rattle.sm_term.specs.declared.body.Body.{Body}
use Rattle.sm_term.specs.SameTerms.{same_code}
use Rattle.sm_term.specs.RowLaws.{equivalence_by}
use Rattle.sm_term.specs.SameCodeLaws.{same_code_is}

-- the block of a body
abbrev pub block_of : Body → Block
block_of b = b.block

-- the code of a body
abbrev pub body_code : Body → Code
body_code b = code_of b.block

-- whether two bodies have the same code
unfoldable pub same_body : Body → Body → Bool
same_body a b = same_code (body_code a) (body_code b)

-- the size of code, as far as it is counted
abbrev pub size_of : Code → ℕ
size_of c = min (code_nodes c) (2 ^ 64 - 1)

-- what is hashed of a body
unfoldable pub hashed_body : Body → List (List ℕ)
hashed_body b = fed.u64 (size_of (body_code b))

-- the test of code is exact
pub same_body-Decides : (a b : Body) → Decides (same_body a b) (body_code a ≡ body_code b)
unfolding same_body
same_body-Decides a b = same_code_is (body_code a) (body_code b)

-- so it is an equivalence
pub same_body-equiv : IsEquivalence same_body
same_body-equiv = equivalence_by same_body body_code same_body-Decides

-- equal bodies are hashed alike
pub same_body-hashed : (a b : Body) → same_body a b ≡ true → hashed_body a ≡ hashed_body b
unfolding hashed_body
same_body-hashed a b h = ap (λ c. fed.u64 (size_of c)) ((same_body-Decides a b).0 h)
