-- What several calls of `put` add together.
use Rattle.std.proofs.Common.{◌≡◌, ◌+◌, ◌-◌, ◌++◌, ℕ, List, Option, Some, None, length, take, drop, sym, append_assoc, arith}
use Rattle.std.proofs.Math.Seq.{take-add}
use Rattle.std.proofs.lemmas.List.{take_all, length-drop}
use Rattle.sm_io.specs.Sinks.{Adds}

-- the rest of a list, as the code takes it, is the whole rest
pub take_rest : (bytes : List ℕ) (done : ℕ) → take (length bytes - done) (drop done bytes) ≡ drop done bytes
take_rest bytes done = take_all _ _ (simp length-drop (omega arith))

-- the first bytes and then the first of the rest are the first of all
pub take_more : (bytes : List ℕ) (done count : ℕ) →
    take done bytes ++ take count (take (length bytes - done) (drop done bytes)) ≡ take (done + count) bytes
take_more bytes done count = rw (take_rest bytes done) (sym (take-add done count bytes))

-- the first bytes, then the first of the rest
pub adds_more : (before between now : Option (List ℕ)) (bytes : List ℕ) (done count : ℕ) →
    Adds before between (take done bytes) →
    Adds between now (take count (take (length bytes - done) (drop done bytes))) →
    Adds before now (take (done + count) bytes)
adds_more None between now bytes done count p q = rw p at q
adds_more (Some taken) between now bytes done count p q =
    rw (← take_more bytes done count, ← append_assoc) (rw p at q)
