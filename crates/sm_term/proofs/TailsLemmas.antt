-- The last terms of a table, behind the trees of the first.
use Rattle.sm_term.proofs.Imports.{◌≡◌, ℕ, zero, suc, List, [], ◌∷◌, ◌++◌, length, take, drop, map, refl, sym, ap, ◌∙◌, subst, append_assoc, append-nil, Code, Sorts, Tree, code_of, Body, block_of, body_code, contents_of, tree_in, trees_behind, Term, AreTermsSound}
use Rattle.sm_term.proofs.TermsLemmas.{alike, within_alike, fits_alike}

-- what stands behind the first trees
behind : (older : List Tree) (first : Tree) (rest : List Tree) → older ++ first ∷ rest ≡ (older ++ first ∷ []) ++ rest
behind older first rest = sym (append_assoc older (first ∷ []) rest)

-- the trees of the last terms are the last trees
pub drop-trees : (codes : List Code) (older : List Tree) (ts : List Term) (n : ℕ) → trees_behind codes (older ++ take n (trees_behind codes older ts)) (drop n ts) ≡ drop n (trees_behind codes older ts)
drop-trees codes older [] zero = refl
drop-trees codes older [] (suc n) = refl
drop-trees codes older (t ∷ ts) zero = ap (λ l. trees_behind codes l (t ∷ ts)) (append-nil older)
drop-trees codes older (t ∷ ts) (suc n) =
    let first = tree_in codes older t in
    let next = older ++ first ∷ [] in
    ap (λ l. trees_behind codes l (drop n ts)) (behind older first (take n (trees_behind codes next ts))) ∙ drop-trees codes next ts n

-- the last terms are sound behind the first trees
pub sound-drop : (sorts : Sorts) (codes : List Code) (older : List Tree) (ts : List Term) (n : ℕ) → AreTermsSound sorts codes older ts
    → AreTermsSound sorts codes (older ++ take n (trees_behind codes older ts)) (drop n ts)
sound-drop sorts codes older [] zero s = tt
sound-drop sorts codes older [] (suc n) s = tt
sound-drop sorts codes older (t ∷ ts) zero s = subst (λ l. AreTermsSound sorts codes l (t ∷ ts)) (sym (append-nil older)) s
sound-drop sorts codes older (t ∷ ts) (suc n) s =
    let first = tree_in codes older t in
    let next = older ++ first ∷ [] in
    subst (λ l. AreTermsSound sorts codes l (drop n ts)) (sym (behind older first (take n (trees_behind codes next ts)))) (sound-drop sorts codes next ts n s.2)

-- terms that hold the same, in turn, stand for the same
pub trees_alike : (codes : List Code) (older : List Tree) (ts us : List Term) → map contents_of ts ≡ map contents_of us → trees_behind codes older ts ≡ trees_behind codes older us
trees_alike codes older [] [] e = refl
trees_alike codes older [] (u ∷ us) e = absurd cc
trees_alike codes older (t ∷ ts) [] e = absurd cc
trees_alike codes older (t ∷ ts) (u ∷ us) e =
    let here : contents_of t ≡ contents_of u = cc in
    let there : map contents_of ts ≡ map contents_of us = cc in
    let same = alike codes older t u here in
    ap (λ x. x ∷ trees_behind codes (older ++ x ∷ []) ts) same ∙ ap (λ l. tree_in codes older u ∷ l) (trees_alike codes (older ++ tree_in codes older u ∷ []) ts us there)

-- terms that hold what sound ones hold, in turn, are sound
pub sound_alike : (sorts : Sorts) (codes : List Code) (older : List Tree) (ts us : List Term) → map contents_of ts ≡ map contents_of us → AreTermsSound sorts codes older ts → AreTermsSound sorts codes older us
sound_alike sorts codes older [] [] e s = tt
sound_alike sorts codes older [] (u ∷ us) e s = absurd cc
sound_alike sorts codes older (t ∷ ts) [] e s = absurd cc
sound_alike sorts codes older (t ∷ ts) (u ∷ us) e s =
    let here : contents_of t ≡ contents_of u = cc in
    let there : map contents_of ts ≡ map contents_of us = cc in
    let same = alike codes older t u here in (
      within_alike sorts (length codes) (length older) t u here s.0,
      sym (fits_alike sorts older t u here) ∙ s.1,
      sound_alike sorts codes (older ++ tree_in codes older u ∷ []) ts us there (subst (λ x. AreTermsSound sorts codes (older ++ x ∷ []) ts) same s.2),
    )

-- the code of each body, in one step or in two
pub two_maps : (bodies : List Body) → map body_code bodies ≡ map code_of (map block_of bodies)
two_maps [] = refl
two_maps (b ∷ bs) = ap (λ l. body_code b ∷ l) (two_maps bs)

-- copies of the last terms, over copies of the bodies, stand for the last trees
pub tail_trees :
    (codes copies : List Code) → copies ≡ codes → (keys : List Term) (n : ℕ) (rows : List Term) → map contents_of rows ≡ map contents_of (drop n keys)
    → trees_behind copies (take n (trees_behind codes [] keys)) rows ≡ drop n (trees_behind codes [] keys)
tail_trees codes copies same keys n rows held =
    let all = trees_behind codes [] keys in
    ap (λ c. trees_behind c (take n all) rows) same ∙ trees_alike codes (take n all) rows (drop n keys) held ∙ drop-trees codes [] keys n

-- copies of the last terms, over copies of the bodies, are sound behind the first trees
pub tail_sound :
    (sorts : Sorts) (codes copies : List Code) → copies ≡ codes → (keys : List Term) (n : ℕ) (rows : List Term) → map contents_of rows ≡ map contents_of (drop n keys)
    → AreTermsSound sorts codes [] keys → AreTermsSound sorts copies (take n (trees_behind codes [] keys)) rows
tail_sound sorts codes copies same keys n rows held sound =
    let first = take n (trees_behind codes [] keys) in
    subst (λ c. AreTermsSound sorts c first rows) (sym same) (sound_alike sorts codes first (drop n keys) rows (sym held) (sound-drop sorts codes [] keys n sound))
