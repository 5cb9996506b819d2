use Rattle.std.proofs.Common.{◌≡◌, ℕ, List, ◌++◌, map, drop, Bor}
use Rattle.sm_words.specs.Lines.{spaced}
use Rattle.sm_words.proofs.lines.line.Given as goal

-- the words so far and those that are left are all of them
abbrev pub invariant-loop-word : goal.invariant-loop-word
invariant-loop-word l =
    l.text.items ++ spaced (map (λ (word : Bor (List ℕ)). word.now) (drop l.word-index l.rest)) ≡ l.first ++ spaced
    (map (λ (word : Bor (List ℕ)). word.now) l.rest)
