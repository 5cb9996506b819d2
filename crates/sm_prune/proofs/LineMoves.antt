-- What a line makes or names is the same by other numbers, where all that it names stands under these.
use Rattle.sm_prune.proofs.Imports.{◌≡◌, ℕ, ◌<◌, Option, Some, slice_get, Result, Ok, List, [], ◌∷◌, length, ap, ◌∙◌, slice_get-get_or, slice_get_within, get_or_from_slice_get, Sorts, Assertion, Tree, CertificateLine, followed, terms_named, with_terms, EachOf, EachNamed, facts_with, with_twice, with_same, each_with, NumberedLine, TermLine, NodeLine, FormLine, found_or, are_there, named_line, named_node, Word, Pending, term_made, form_made, found_from, terms_of_term, terms_of_form, forms_of_form, forms_of_node, renumbered_term, renumbered_form, renumbered_node}
use Rattle.sm_term.specs.Tables.{tree_at}
use Rattle.sm_theory.proofs.FactsLemmas.{followed_from}
use Rattle.sm_plan.specs.Nodes as plan
use Rattle.sm_proof.specs.declared.line.FormLine.TheVariants as form
use Rattle.sm_proof.specs.declared.line.NodeLine.TheVariants as node
use Rattle.sm_proof.specs.declared.line.TermLine.TheVariants as term
use Rattle.sm_proof.proofs.NamedKept.{named_there, named_from, there_below}
use Rattle.sm_prune.proofs.CarriedLemmas.{StandsAt, EachStands}

-- what goes on with an element to a good end does so with it in the other list
found_moves : {S T : Type 0} (move : ℕ → ℕ) (xs ys : List S) (n : ℕ) (w : Word) (f g : S → Result T Word) (t : T) →
    StandsAt move xs ys n → found_or (slice_get xs n) w f ≡ Ok t → ((s : S) → f s ≡ Ok t → g s ≡ Ok t) →
    found_or (slice_get ys (move n)) w g ≡ Ok t
found_moves {S} move xs ys n w f g t stands e more =
    let found = found_from (slice_get xs n) w f t e in
    ap (λ (o : Option S). found_or o w g) (stands found.0 found.1) ∙ more found.0 found.2

-- what goes on with an element to an end that is there does so with it in the other list
follow_moves : {S T : Type 0} (move : ℕ → ℕ) (xs ys : List S) (n : ℕ) (f g : S → Option T) (t : T) → StandsAt move xs ys n →
    followed (slice_get xs n) f ≡ Some t → ((s : S) → f s ≡ Some t → g s ≡ Some t) → followed (slice_get ys (move n)) g ≡ Some t
follow_moves {S} move xs ys n f g t stands e more =
    let found = followed_from (slice_get xs n) f t e in
    ap (λ (o : Option S). followed o g) (stands found.0 found.1) ∙ more found.0 found.2

-- the term that a line makes
pub term_moves : (sorts : Sorts) (move : ℕ → ℕ) (xs ys : List Tree) (due : Pending) (l : TermLine) (t : Tree) →
    EachStands move xs ys (terms_of_term l) → term_made sorts xs due l ≡ Ok t → term_made sorts ys due (renumbered_term move l) ≡ Ok t
term_moves sorts move xs ys due (term.Lit z) t h e = e
term_moves sorts move xs ys due (term.Start x) t h e = e
term_moves sorts move xs ys due term.Cell t h e = e
term_moves sorts move xs ys due (term.Slot c x) t h e = e
term_moves sorts move xs ys due (term.Cur c x) t h e = e
term_moves sorts move xs ys due (term.Of n side) t h e = e
term_moves sorts move xs ys due (term.Arg u k) t h e = found_moves move xs ys u _ _ _ t h.0 e (λ a e. e)
term_moves sorts move xs ys due (term.Read u v) t h e =
    found_moves move xs ys u _ _ _ t h.0 e (λ a e. found_moves move xs ys v _ _ _ t h.1.0 e (λ b e. e))
term_moves sorts move xs ys due (term.Write u v w) t h e =
    found_moves move xs ys u _ _ _ t h.0 e
    (λ a e. found_moves move xs ys v _ _ _ t h.1.0 e (λ b e. found_moves move xs ys w _ _ _ t h.1.1.0 e (λ c e. e)))
term_moves sorts move xs ys due (term.Neg u) t h e = found_moves move xs ys u _ _ _ t h.0 e (λ a e. e)
term_moves sorts move xs ys due (term.Add u v) t h e =
    found_moves move xs ys u _ _ _ t h.0 e (λ a e. found_moves move xs ys v _ _ _ t h.1.0 e (λ b e. e))
term_moves sorts move xs ys due (term.Sub u v) t h e =
    found_moves move xs ys u _ _ _ t h.0 e (λ a e. found_moves move xs ys v _ _ _ t h.1.0 e (λ b e. e))
term_moves sorts move xs ys due (term.Mul u v) t h e =
    found_moves move xs ys u _ _ _ t h.0 e (λ a e. found_moves move xs ys v _ _ _ t h.1.0 e (λ b e. e))

-- the formula that a line makes
pub form_moves : (sorts : Sorts) (move move_form : ℕ → ℕ) (xs ys : List Tree) (fs gs : List Assertion) (l : FormLine) (f : Assertion) →
    EachStands move xs ys (terms_of_form l) → EachStands move_form fs gs (forms_of_form l) → form_made sorts xs fs l ≡ Ok f →
    form_made sorts ys gs (renumbered_form move move_form l) ≡ Ok f
form_moves sorts move move_form xs ys fs gs form.Yes f h k e = e
form_moves sorts move move_form xs ys fs gs form.No f h k e = e
form_moves sorts move move_form xs ys fs gs (form.Eq u v) f h k e =
    found_moves move xs ys u _ _ _ f h.0 e (λ a e. found_moves move xs ys v _ _ _ f h.1.0 e (λ b e. e))
form_moves sorts move move_form xs ys fs gs (form.Ne u v) f h k e =
    found_moves move xs ys u _ _ _ f h.0 e (λ a e. found_moves move xs ys v _ _ _ f h.1.0 e (λ b e. e))
form_moves sorts move move_form xs ys fs gs (form.Le u v) f h k e =
    found_moves move xs ys u _ _ _ f h.0 e (λ a e. found_moves move xs ys v _ _ _ f h.1.0 e (λ b e. e))
form_moves sorts move move_form xs ys fs gs (form.Lt u v) f h k e =
    found_moves move xs ys u _ _ _ f h.0 e (λ a e. found_moves move xs ys v _ _ _ f h.1.0 e (λ b e. e))
form_moves sorts move move_form xs ys fs gs (form.And p q) f h k e =
    found_moves move_form fs gs p _ _ _ f k.0 e (λ a e. found_moves move_form fs gs q _ _ _ f k.1.0 e (λ b e. e))
form_moves sorts move move_form xs ys fs gs (form.Or p q) f h k e =
    found_moves move_form fs gs p _ _ _ f k.0 e (λ a e. found_moves move_form fs gs q _ _ _ f k.1.0 e (λ b e. e))

-- the node that a line stands for
pub node_moves : (move_form : ℕ → ℕ) (fs gs : List Assertion) (l : NodeLine) (it : plan.Node) →
    EachStands move_form fs gs (forms_of_node l) → named_node fs l ≡ Some it → named_node gs (renumbered_node move_form l) ≡ Some it
node_moves move_form fs gs (node.Step c) it k e = e
node_moves move_form fs gs (node.Abs c n) it k e = e
node_moves move_form fs gs (node.Fork c) it k e = e
node_moves move_form fs gs (node.Loop set keep) it k e = follow_moves move_form fs gs keep _ _ it k.0 e (λ f e. e)
node_moves move_form fs gs (node.Block k0 k1 k2 k3 keep) it k e = follow_moves move_form fs gs keep _ _ it k.0 e (λ f e. e)
node_moves move_form fs gs node.Dead it k e = e
node_moves move_form fs gs node.End it k e = e

-- the line of a certificate
pub cert_moves : (move : ℕ → ℕ) (xs ys : List Tree) (count : ℕ) (l : NumberedLine) (it : CertificateLine) →
    EachStands move xs ys (terms_named l) → named_line xs count l ≡ Some it → named_line ys count (with_terms move l) ≡ Some it
cert_moves move xs ys count l it h e =
    let is = named_there xs count l it e in
    let below : EachNamed (λ (n : ℕ). n < length xs) l = there_below (length xs) (terms_named l) is.0 in
    named_from ys count (with_terms move l)
    (each_with (λ (n : ℕ). n < length ys) move l (each_meets (λ (n : ℕ). move n < length ys) (λ n stands less. (moved n stands less).0) l below h))
    (ap (are_there count) (facts_with move l) ∙ is.1)
    ∙ ap (λ (x : CertificateLine). Some x)
    (with_twice (tree_at ys) move l
    ∙ with_same (λ (n : ℕ). tree_at ys (move n)) (tree_at xs) l
    (each_meets (λ (n : ℕ). tree_at ys (move n) ≡ tree_at xs n) (λ n stands less. (moved n stands less).1) l below h)
    ∙ is.2)
  where
    -- a term that is there stands under its new number
    moved : (n : ℕ) → StandsAt move xs ys n → n < length xs → (move n < length ys) × (tree_at ys (move n) ≡ tree_at xs n)
    moved n stands less =
        let there = stands (tree_at xs n) (slice_get-get_or xs n _ less) in
        (slice_get_within ys (move n) (tree_at xs n) there, get_or_from_slice_get ys (move n) (tree_at xs n) _ there)

    each_of : (P : ℕ → Type 0) → ((n : ℕ) → StandsAt move xs ys n → n < length xs → P n) → (ns : List ℕ) →
        EachOf (λ (n : ℕ). n < length xs) ns → EachStands move xs ys ns → EachOf P ns
    each_of P gives [] less all = tt
    each_of P gives (n ∷ []) less all = gives n all.0 less
    each_of P gives (n ∷ (m ∷ ms)) less all = (gives n all.0 less.0, each_of P gives (m ∷ ms) less.1 all.1)

    each_meets : (P : ℕ → Type 0) → ((n : ℕ) → StandsAt move xs ys n → n < length xs → P n) → (k : NumberedLine) →
        EachNamed (λ (n : ℕ). n < length xs) k → EachStands move xs ys (terms_named k) → EachNamed P k
    each_meets P gives k less all = each_of P gives (terms_named k) less all
