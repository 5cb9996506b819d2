-- What several calls of `append` and of `read_at` do together.
use Rattle.std.proofs.Common.{◌≡◌, ◌+◌, ◌-◌, ◌<◌, ◌++◌, ℕ, List, length, take, drop, sym, ◌∙◌, append_assoc}
use Rattle.std.proofs.Math.Seq.{take-add}
use Rattle.std.proofs.lemmas.List.{take_all}
use Rattle.sm_io.specs.Files.{Known, untold, absent, holds, longer, ReadsFrom}
use Rattle.sm_io.proofs.SinkLemmas.{take_more}

-- the first bytes, then the first of the rest
pub longer_more : (before between now : Known) (bytes : List ℕ) (done count : ℕ) →
    between ≡ longer before (take done bytes) →
    now ≡ longer between (take count (take (length bytes - done) (drop done bytes))) →
    now ≡ longer before (take (done + count) bytes)
longer_more untold between now bytes done count p q = rw p at q
longer_more absent between now bytes done count p q = rw p at q
longer_more (holds was) between now bytes done count p q =
    rw (← take_more bytes done count, ← append_assoc) (rw p at q)

-- the bytes read before, and those of one more read
pub read_more : (bytes piece read : List ℕ) (place count : ℕ) → ReadsFrom bytes place count piece →
    read ≡ take place bytes → read ++ take count piece ≡ take (place + count) bytes
read_more bytes piece read place count given before =
    rw (before, given.given) (sym (take-add place count bytes))

-- where a read gives nothing, all was read
pub read_end : (bytes piece read : List ℕ) (place count : ℕ) → ReadsFrom bytes place count piece →
    count ≡ 0 → 0 < length piece → read ≡ take place bytes → read ≡ bytes
read_end bytes piece read place count given none some before =
    before ∙ take_all place bytes ((given.end some).0 none)
