-- Reads come in passes in one way: a pass that went to its end did so by the first read that gave nothing.
use Rattle.sm_answers.proofs.Imports.{◌≡◌, ◌<◌, ◌+◌, ◌++◌, ℕ, List, [], ◌∷◌, length, All, refl, sym, ap, ◌∙◌, append_assoc, append-nil, arith, append_cancel_left, Read, reads_on, joined, ReadsOn, ReadsWhole}
use Rattle.std.proofs.lemmas.List.Elements.{All-head, All-tail}

-- the bytes of each pass that went to its end, where a pass that isn't at its end yet gave these before
abbrev pub passes_of : List ℕ → List Read → List (List ℕ)
passes_of so_far [] = []
passes_of so_far ((name, place, []) ∷ rest) = so_far ∷ passes_of [] rest
passes_of so_far ((name, place, b ∷ bs) ∷ rest) = passes_of (so_far ++ b ∷ bs) rest

-- pieces that each have some bytes end no pass
pieces_pass : (name : List ℕ) (place : ℕ) (pieces : List (List ℕ)) (so_far : List ℕ) (rest : List Read) →
    All (λ (piece : List ℕ). 0 < length piece) pieces →
    passes_of so_far (reads_on name place pieces ++ rest) ≡ passes_of (so_far ++ joined pieces) rest
pieces_pass name place [] so_far rest some = rw (append-nil so_far) refl
pieces_pass name place ([] ∷ ps) so_far rest some =
    let none : 0 < 0 = All-head (λ (piece : List ℕ). 0 < length piece) [] ps some in absurd (omega (arith, none))
pieces_pass name place ((b ∷ bs) ∷ ps) so_far rest some =
    pieces_pass name (place + length (b ∷ bs)) ps (so_far ++ b ∷ bs) rest
    (All-tail (λ (piece : List ℕ). 0 < length piece) (b ∷ bs) ps some)
    ∙ ap (λ (bytes : List ℕ). passes_of bytes rest) (append_assoc so_far (b ∷ bs) (joined ps))

-- since the reads were `before`, these are the bytes of the passes that went to their ends
pub record HasPasses (before now : List Read) (passes : List (List ℕ)) : Type 0 where
  pub since : List Read
  pub made : now ≡ before ++ since
  pub are : passes_of [] since ≡ passes

-- there is one such list
pub same_passes : (before now : List Read) (ps qs : List (List ℕ)) → HasPasses before now ps → HasPasses before now qs → ps ≡ qs
same_passes before now ps qs p q =
    let one = append_cancel_left before p.since q.since (sym p.made ∙ q.made) in
    sym p.are ∙ (ap (λ (rs : List Read). passes_of [] rs) one ∙ q.are)

-- a pass that isn't at its end
pub unended : (name : List ℕ) (before now : List Read) (bytes : List ℕ) → ReadsOn name before now bytes → HasPasses before now []
unended name before now bytes on = record {
  since = reads_on name 0 on.pieces;
  made = on.made;
  are =
      ap (λ (rs : List Read). passes_of [] rs) (sym (append-nil (reads_on name 0 on.pieces)))
      ∙ pieces_pass name 0 on.pieces [] [] on.some;
}

-- one that is, and then others
pub ended_first : (name : List ℕ) (before between now : List Read) (bytes : List ℕ) (passes : List (List ℕ)) →
    ReadsWhole name before between bytes → HasPasses between now passes → HasPasses before now (bytes ∷ passes)
ended_first name before between now bytes passes whole rest =
    let first = reads_on name 0 whole.on.pieces in
    let last : Read = (name, length bytes, []) in record {
      since = first ++ last ∷ rest.since;
      made =
          rest.made
          ∙ (ap (λ (rs : List Read). rs ++ rest.since) (whole.end ∙ ap (λ (rs : List Read). rs ++ last ∷ []) whole.on.made)
          ∙ (append_assoc (before ++ first) (last ∷ []) rest.since ∙ append_assoc before first (last ∷ rest.since)));
      are =
          pieces_pass name 0 whole.on.pieces [] (last ∷ rest.since) whole.on.some
          ∙ (ap (λ (bs : List ℕ). bs ∷ passes_of [] rest.since) whole.on.together ∙ ap (λ (ps : List (List ℕ)). bytes ∷ ps) rest.are);
    }

-- no read is no pass
pub unread : (reads : List Read) → HasPasses reads reads []
unread reads = record { since = []; made = sym (append-nil reads); are = refl }

-- a pass that is at its end, and nothing else
pub ended_alone : (name : List ℕ) (before now : List Read) (bytes : List ℕ) → ReadsWhole name before now bytes →
    HasPasses before now (bytes ∷ [])
ended_alone name before now bytes whole = ended_first name before now now bytes [] whole (unread now)
