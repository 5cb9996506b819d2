-- The numbers of both lists stand one behind the other.
use Rattle.sm_write.proofs.Imports.{◌≡◌, ℕ, List, [], ◌∷◌, ◌++◌, ap, sym, ◌∙◌, numbers_text}
use Rattle.std.proofs.lemmas.List.{append_assoc}
use Rattle.sm_write.proofs.BytesLemmas.{numbers_of_both}
use Rattle.sm_write.proofs.text.put_two_lists.Goals as goal

pub returns : goal.returns
returns c =
    let old = c.args.text.now.items in
    let word = c.args.word.now in
    let first = numbers_text c.args.first.now in
    let second = numbers_text c.args.second.now in
    let one : c.extend_from_slice.new.self.items ≡ old ++ word =
    c.in_ok-extend_from_slice.ensures.items ∙ ap (λ (b : List ℕ). old ++ b) c.as_bytes.ensures.value in
    let two : c.put_numbers.new.text.items ≡ (old ++ word) ++ first = c.in_ok-put_numbers.ensures ∙ ap (λ (b : List ℕ). b ++ first) one in
    let three : c.put_numbers-2.new.text.items ≡ ((old ++ word) ++ first) ++ second =
    c.in_ok-put_numbers-2.ensures ∙ ap (λ (b : List ℕ). b ++ second) two in
    c.in_ok-push.ensures.items
    ∙ (ap (λ (b : List ℕ). b ++ 10 ∷ []) (three ∙ append_assoc (old ++ word) first second)
    ∙ (append_assoc (old ++ word) (first ++ second) (10 ∷ [])
    ∙ (append_assoc old word ((first ++ second) ++ 10 ∷ [])
    ∙ ap (λ (b : List ℕ). old ++ (word ++ (b ++ 10 ∷ []))) (sym (numbers_of_both c.args.first.now c.args.second.now)))))
