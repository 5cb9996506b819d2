use Rattle.sm_term.proofs.Imports.{◌≡◌, List, [], ◌∷◌, map, refl, length-map, flat_map}
use Rattle.std.specs.Hash as fed
use Rattle.std.specs.Hash.{HashWrites}
use Rattle.sm_term.specs.declared.term.TermId.{TermId}
use Rattle.sm_term.specs.Rows.{hashed}
use Rattle.sm_term.proofs.term.TermHash.hash.Goals as goal

-- the numbers of terms, one after the other
each : (F : TermId → HashWrites) → ((t : TermId) → F t ≡ fed.u64 t.0) → (ts : List TermId) → flat_map F ts ≡ flat_map fed.u64 (map (λ (t : TermId). t.0) ts)
each F same [] = refl
each F same (t ∷ ts) = rw (same t, each F same ts) refl

pub returns : goal.returns
unfolding hashed
returns g c =
    let parts = each _ (λ t. refl) c.parts.result.now in
    let long = length-map c.parts.result.now (λ (t : TermId). t.0) in
    rw (c.hash-6.ensures, c.hash-5.ensures, c.hash-4.ensures, c.hash-3.ensures, c.hash-2.ensures, c.hash.ensures, parts, ← c.parts.ensures, ← c.numbers-numbers.ensures, long) refl
