-- The bytes one behind the other.
use Rattle.sm_write.proofs.Imports.{◌≡◌, ℕ, List, [], ◌∷◌, ◌++◌, ap, ◌∙◌, signed_decimal}
use Rattle.std.proofs.lemmas.List.{append_assoc}
use Rattle.std.proofs.lemmas.Int.{to_z-of_z}
use Rattle.std.specs.Int.{w128}
use Rattle.sm_write.proofs.BytesLemmas.{literal_line}
use Rattle.sm_write.proofs.text.put_literal.Goals as goal

pub returns : goal.returns
returns c =
    let old = c.args.text.now.items in
    let front : List ℕ = 116 ∷ 32 ∷ 108 ∷ 105 ∷ 116 ∷ 32 ∷ [] in
    let number : c.as_bytes.result.now ≡ signed_decimal c.args.value =
    c.as_bytes.ensures.value ∙ (c.format.ensures.text ∙ ap signed_decimal (to_z-of_z w128 c.args.value c.ranges.value)) in
    let before : c.extend_from_slice-2.new.self.items ≡ (old ++ front) ++ signed_decimal c.args.value =
    c.in_ok-extend_from_slice-2.ensures.items
    ∙ (ap (λ (b : List ℕ). b ++ c.as_bytes.result.now) c.in_ok-extend_from_slice.ensures.items
    ∙ ap (λ (b : List ℕ). (old ++ front) ++ b) number) in
    c.in_ok-push.ensures.items
    ∙ (ap (λ (b : List ℕ). b ++ 10 ∷ []) before
    ∙ (append_assoc (old ++ front) (signed_decimal c.args.value) (10 ∷ [])
    ∙ (append_assoc old front (signed_decimal c.args.value ++ 10 ∷ [])
    ∙ ap (λ (b : List ℕ). old ++ b) (literal_line c.args.value))))
