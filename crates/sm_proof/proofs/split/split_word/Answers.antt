use Rattle.sm_proof.proofs.Imports.{ℕ, not, ◌==◌, ◌∷◌, ◌∙◌, sym, arith, prefix_len-le-length, behind}
use Rattle.sm_proof.proofs.WordLemmas.{split_at}
use Rattle.sm_proof.proofs.split.split_word.Goals as goal

pub split_at-requires : goal.split_at-requires
split_at-requires c =
    omega (arith, c.word_size-size.ensures, prefix_len-le-length (λ (b : ℕ). not (b == 32)) c.args.bytes.now)

pub returns-clause-words : goal.returns-clause-words
returns-clause-words c =
    split_at c.args.bytes.now c.word_size-size.result c.word_size-size.ensures
    ∙ (λ i. sym c.split_at.ensures.front i ∷ behind (sym c.split_at.ensures.back i))
