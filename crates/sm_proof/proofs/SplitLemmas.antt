-- Words and the single spaces between them.
use Rattle.sm_proof.proofs.Imports.{◌≡◌, ℕ, Bool, true, false, ◌==◌, if◌then◌else◌, List, [], ◌∷◌, ◌++◌, refl, sym, ap, ◌∙◌, Decides-eqb, with_byte}
use Rattle.sm_proof.specs.Numbers.{words_of}
use Rattle.sm_proof.specs.Spelling.{spaced}

-- no space is in a word
abbrev pub is_clear : List ℕ → Bool
is_clear [] = true
is_clear (byte ∷ bytes) = if byte == 32 then false else is_clear bytes

-- no space is in any of many words
abbrev pub are_clear : List (List ℕ) → Bool
are_clear [] = true
are_clear (word ∷ words) = if is_clear word then are_clear words else false

-- bytes have at least one word
pub some_words : (bytes : List ℕ) → (word : List ℕ) × ((words : List (List ℕ)) × (words_of bytes ≡ word ∷ words))
unfolding words_of
some_words [] = ([], ([], refl))
some_words (byte ∷ bytes) = by (byte == 32) (words_of bytes)
  where
    by : (b : Bool) (ws : List (List ℕ))
        → (word : List ℕ) × ((words : List (List ℕ)) × ((if b then [] ∷ ws else with_byte byte ws) ≡ word ∷ words))
    by true ws = ([], (ws, refl))
    by false [] = (byte ∷ [], ([], refl))
    by false (w ∷ ws) = (byte ∷ w, (ws, refl))

-- words that are parted by spaces make up the bytes
pub spaced_words : (bytes : List ℕ) → spaced (words_of bytes) ≡ bytes
unfolding words_of spaced
spaced_words [] = refl
spaced_words (byte ∷ bytes) = by (byte == 32) refl (spaced_words bytes)
  where
    space : (ws : List (List ℕ)) (w : List ℕ) (more : List (List ℕ)) → ws ≡ w ∷ more → spaced ([] ∷ ws) ≡ 32 ∷ spaced ws
    space [] w more e = cc
    space (v ∷ vs) w more e = refl

    front : (ws : List (List ℕ)) (w : List ℕ) (more : List (List ℕ)) → ws ≡ w ∷ more → spaced (with_byte byte ws) ≡ byte ∷ spaced ws
    front [] w more e = cc
    front (v ∷ []) w more e = refl
    front (v ∷ u ∷ vs) w more e = refl

    by : (b : Bool) → (byte == 32) ≡ b → spaced (words_of bytes) ≡ bytes
        → spaced (if b then [] ∷ words_of bytes else with_byte byte (words_of bytes)) ≡ byte ∷ bytes
    by true e same =
        let s = some_words bytes in
        space (words_of bytes) s.0 s.1.0 s.1.1 ∙ ap (λ (x : List ℕ). 32 ∷ x) same
        ∙ ap (λ (x : ℕ). x ∷ bytes) (sym ((Decides-eqb byte 32).0 e))
    by false e same =
        let s = some_words bytes in
        front (words_of bytes) s.0 s.1.0 s.1.1 ∙ ap (λ (x : List ℕ). byte ∷ x) same

-- a word without a space, and what is behind it
pub words_alone : (word : List ℕ) → is_clear word ≡ true → words_of word ≡ word ∷ []
unfolding words_of
words_alone [] clear = refl
words_alone (byte ∷ bytes) clear = by (byte == 32) refl clear (λ h. words_alone bytes h)
  where
    by : (b : Bool) → (byte == 32) ≡ b → (if b then false else is_clear bytes) ≡ true
        → (is_clear bytes ≡ true → words_of bytes ≡ bytes ∷ [])
        → (if b then [] ∷ words_of bytes else with_byte byte (words_of bytes)) ≡ (byte ∷ bytes) ∷ []
    by true e h more = cc
    by false e h more = ap (with_byte byte) (more h)

pub words_next : (word more : List ℕ) → is_clear word ≡ true → words_of (word ++ (32 ∷ more)) ≡ word ∷ words_of more
unfolding words_of
words_next [] more clear = refl
words_next (byte ∷ bytes) more clear = by (byte == 32) refl clear (λ h. words_next bytes more h)
  where
    by : (b : Bool) → (byte == 32) ≡ b → (if b then false else is_clear bytes) ≡ true
        → (is_clear bytes ≡ true → words_of (bytes ++ (32 ∷ more)) ≡ bytes ∷ words_of more)
        → (if b then [] ∷ words_of (bytes ++ (32 ∷ more)) else with_byte byte (words_of (bytes ++ (32 ∷ more)))) ≡
        (byte ∷ bytes) ∷ words_of more
    by true e h next = cc
    by false e h next = ap (with_byte byte) (next h)

clear_parts : (a b : Bool) → (if a then b else false) ≡ true → (a ≡ true) × (b ≡ true)
clear_parts true b e = (refl, e)
clear_parts false b e = cc

-- words without spaces are the words of the bytes that they make up
pub words_spaced : (word : List ℕ) (words : List (List ℕ)) → are_clear (word ∷ words) ≡ true
    → words_of (spaced (word ∷ words)) ≡ word ∷ words
unfolding spaced
words_spaced word [] clear = words_alone word (clear_parts (is_clear word) true clear).0
words_spaced word (next ∷ words) clear =
    let c = clear_parts (is_clear word) (are_clear (next ∷ words)) clear in
    words_next word (spaced (next ∷ words)) c.0 ∙ ap (λ (x : List (List ℕ)). word ∷ x) (words_spaced next words c.1)
