-- Pieces that are put one after the other.
use Rattle.sm_text.proofs.Imports.{◌≡◌, ℕ, List, ◌++◌, ◌∙◌, sym, ap, append_assoc, flat_map-append, pieces_text}
use Rattle.sm_text.specs.printing.Pieces.{Piece}

-- one list of pieces after another
pub put_both : (names : List (List ℕ)) (ps qs : List Piece) (o n m : List ℕ) → n ≡ o ++ pieces_text names ps →
    m ≡ n ++ pieces_text names qs → m ≡ o ++ pieces_text names (ps ++ qs)
put_both names ps qs o n m first second =
    second ∙ ap (λ (l : List ℕ). l ++ pieces_text names qs) first ∙ append_assoc o (pieces_text names ps) (pieces_text names qs) ∙
    ap (λ (l : List ℕ). o ++ l) (sym (flat_map-append _ ps qs))
