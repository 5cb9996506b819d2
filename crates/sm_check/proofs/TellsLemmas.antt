-- Answers beside those of a definition, one made of another.
use Rattle.sm_check.proofs.Imports.{◌≡◌, Result, Err, refl, sym, subst, Word, Tells}
use Rattle.sm_check.specs.Tells.{LineFault, Wrong}

-- what is told of an answer is told of an equal one
pub tells_along : {S T : Type 0} (P : S → T → Type 0) (s : Result S LineFault) (r q : Result T Word) → q ≡ r → Tells P s r → Tells P s q
tells_along P s r q e h = subst (Tells P s) (sym e) h

-- one word
pub same_word : {S T : Type 0} (P : S → T → Type 0) (e : LineFault) (r : Result T Word) (w : Word) → e ≡ Wrong w → r ≡ Err w →
    Tells P (Err e) r
same_word {S = S} {T = T} P e r w is f =
    let Q : LineFault → Type 0 = λ (x : LineFault). (let s : Result S LineFault = Err x in Tells P s r) in
    subst Q (sym is) (subst (Tells P (Err (Wrong w))) (sym f) refl)
