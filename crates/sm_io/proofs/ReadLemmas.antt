-- What several reads of one file give together.
use Rattle.std.proofs.Common.{◌≡◌, ◌+◌, ◌<◌, ◌++◌, ℕ, List, [], ◌∷◌, length, refl, sym, ap, ◌∙◌, add-zero, zero-add, add_assoc, append_assoc, append-nil, arith}
use Rattle.std.proofs.lemmas.List.{length-append}
use Rattle.std.proofs.lemmas.List.Elements.{All-push}
use Rattle.sm_io.specs.Reads.{Read, reads_on, joined, ReadsOn}

-- one more read, from where the last one ended
reads_push : (name : List ℕ) (place : ℕ) (pieces : List (List ℕ)) (piece : List ℕ) →
    reads_on name place (pieces ++ piece ∷ []) ≡ reads_on name place pieces ++ (name, place + length (joined pieces), piece) ∷ []
reads_push name place [] piece = rw (add-zero place) refl
reads_push name place (first ∷ rest) piece =
    rw (length-append first (joined rest), ← add_assoc place (length first) (length (joined rest)))
    (ap (λ (rs : List Read). (name, place, first) ∷ rs) (reads_push name (place + length first) rest piece))

joined_push : (pieces : List (List ℕ)) (piece : List ℕ) → joined (pieces ++ piece ∷ []) ≡ joined pieces ++ piece
joined_push [] piece = append-nil piece
joined_push (first ∷ rest) piece = rw (append_assoc first (joined rest) piece) (ap (λ (bs : List ℕ). first ++ bs) (joined_push rest piece))

-- no read was made yet
pub reads_none : (name : List ℕ) (reads : List Read) → ReadsOn name reads reads []
reads_none name reads = record { pieces = []; some = λ k d past. omega (arith, past); together = refl; made = sym (append-nil reads) }

-- the bytes read before, and those of one more read
pub reads_more : (name : List ℕ) (before now next : List Read) (bytes piece : List ℕ) (place : ℕ) → ReadsOn name before now bytes →
    place ≡ length bytes → 0 < length piece → next ≡ now ++ (name, place, piece) ∷ [] → ReadsOn name before next (bytes ++ piece)
reads_more name before now next bytes piece place on at some is = record {
  pieces = on.pieces ++ piece ∷ [];
  some = All-push (λ (p : List ℕ). 0 < length p) on.pieces piece on.some some;
  together = joined_push on.pieces piece ∙ ap (λ (bs : List ℕ). bs ++ piece) on.together;
  made =
      let here : place ≡ 0 + length (joined on.pieces) =
      at ∙ (ap (λ (bs : List ℕ). length bs) (sym on.together) ∙ sym (zero-add (length (joined on.pieces)))) in
      is
      ∙ (ap (λ (rs : List Read). rs ++ (name, place, piece) ∷ []) on.made
      ∙ (append_assoc before (reads_on name 0 on.pieces) ((name, place, piece) ∷ [])
      ∙ ap (λ (rs : List Read). before ++ rs)
      (ap (λ (p : ℕ). reads_on name 0 on.pieces ++ (name, p, piece) ∷ []) here ∙ sym (reads_push name 0 on.pieces piece))));
}
