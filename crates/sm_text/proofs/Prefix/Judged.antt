-- The readings of heads and blocks judge by their grammars.
use Rattle.sm_text.proofs.Imports.{ℕ, List, [], AreHeads, AreBlocks}
use Rattle.sm_text.specs.rules.Reading as r
use Rattle.sm_text.proofs.Sound.Sections.{head_told}
use Rattle.sm_text.proofs.Prefix.Exact.{head_under, is_under, head_read, groups_left, any_block_told, any_block_read}
use Rattle.sm_text.proofs.FirstFault.Refusals.{Judges, parser_judges}
use Rattle.sm_text.proofs.Sound.Parsers.{weaken}

pub head_judges : (names : List (List ℕ)) → Judges (r.head names) AreHeads
head_judges names = parser_judges (r.head names) AreHeads (weaken (λ us h i. (h, i.0)) (head_told names))
    (λ ts s. (head_under names s.0, head_read (is_under names s.1) []))

pub block_judges : (d : ℕ) → Judges (r.block (groups_left d)) (AreBlocks d)
block_judges d = parser_judges (r.block (groups_left d)) (AreBlocks d) (weaken (λ us c i. (c, i)) (any_block_told d))
    (λ ts s. (s.0, any_block_read s.1 []))
