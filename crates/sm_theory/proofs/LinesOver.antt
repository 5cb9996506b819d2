-- Lines with other terms.
use Rattle.sm_theory.proofs.Imports.{◌≡◌, List, [], ◌∷◌, map, refl, sym, ap, ap₂, subst, LineOver, Both, Either, Cases, Order, Refl, Sym, Trans, Subst, Cong, Same, Apart, Hit, Miss, Lin, Elim, Tight, Exact, Close, Clash, facts_named, terms_named, with_terms, reads_all, is_split, EachOf, EachNamed}

-- such a line names the other terms
pub terms_with : {S T : Type 0} (new : S → T) (l : LineOver S) → terms_named (with_terms new l) ≡ map new (terms_named l)
terms_with new (Both n) = refl
terms_with new (Either n) = refl
terms_with new (Cases t u) = refl
terms_with new (Order n) = refl
terms_with new (Refl t) = refl
terms_with new (Sym n) = refl
terms_with new (Trans m n) = refl
terms_with new (Subst m n) = refl
terms_with new (Cong t u ns) = refl
terms_with new (Same t u) = refl
terms_with new (Apart t u) = refl
terms_with new (Hit t n) = refl
terms_with new (Miss t u n) = refl
terms_with new (Lin n) = refl
terms_with new (Elim m n t) = refl
terms_with new (Tight n) = refl
terms_with new (Exact n) = refl
terms_with new (Close n) = refl
terms_with new (Clash m n) = refl

-- and the same facts
pub facts_with : {S T : Type 0} (new : S → T) (l : LineOver S) → facts_named (with_terms new l) ≡ facts_named l
facts_with new (Both n) = refl
facts_with new (Either n) = refl
facts_with new (Cases t u) = refl
facts_with new (Order n) = refl
facts_with new (Refl t) = refl
facts_with new (Sym n) = refl
facts_with new (Trans m n) = refl
facts_with new (Subst m n) = refl
facts_with new (Cong t u ns) = refl
facts_with new (Same t u) = refl
facts_with new (Apart t u) = refl
facts_with new (Hit t n) = refl
facts_with new (Miss t u n) = refl
facts_with new (Lin n) = refl
facts_with new (Elim m n t) = refl
facts_with new (Tight n) = refl
facts_with new (Exact n) = refl
facts_with new (Close n) = refl
facts_with new (Clash m n) = refl

-- and reads all facts where that does
pub reads_with : {S T : Type 0} (new : S → T) (l : LineOver S) → reads_all (with_terms new l) ≡ reads_all l
reads_with new (Both n) = refl
reads_with new (Either n) = refl
reads_with new (Cases t u) = refl
reads_with new (Order n) = refl
reads_with new (Refl t) = refl
reads_with new (Sym n) = refl
reads_with new (Trans m n) = refl
reads_with new (Subst m n) = refl
reads_with new (Cong t u ns) = refl
reads_with new (Same t u) = refl
reads_with new (Apart t u) = refl
reads_with new (Hit t n) = refl
reads_with new (Miss t u n) = refl
reads_with new (Lin n) = refl
reads_with new (Elim m n t) = refl
reads_with new (Tight n) = refl
reads_with new (Exact n) = refl
reads_with new (Close n) = refl
reads_with new (Clash m n) = refl

-- and splits its branch where that does
pub splits_with : {S T : Type 0} (new : S → T) (l : LineOver S) → is_split (with_terms new l) ≡ is_split l
splits_with new (Both n) = refl
splits_with new (Either n) = refl
splits_with new (Cases t u) = refl
splits_with new (Order n) = refl
splits_with new (Refl t) = refl
splits_with new (Sym n) = refl
splits_with new (Trans m n) = refl
splits_with new (Subst m n) = refl
splits_with new (Cong t u ns) = refl
splits_with new (Same t u) = refl
splits_with new (Apart t u) = refl
splits_with new (Hit t n) = refl
splits_with new (Miss t u n) = refl
splits_with new (Lin n) = refl
splits_with new (Elim m n t) = refl
splits_with new (Tight n) = refl
splits_with new (Exact n) = refl
splits_with new (Close n) = refl
splits_with new (Clash m n) = refl

-- other terms twice
pub with_twice : {S T U : Type 0} (new : T → U) (old : S → T) (l : LineOver S) →
    with_terms new (with_terms old l) ≡ with_terms (λ (s : S). new (old s)) l
with_twice new old (Both n) = refl
with_twice new old (Either n) = refl
with_twice new old (Cases t u) = refl
with_twice new old (Order n) = refl
with_twice new old (Refl t) = refl
with_twice new old (Sym n) = refl
with_twice new old (Trans m n) = refl
with_twice new old (Subst m n) = refl
with_twice new old (Cong t u ns) = refl
with_twice new old (Same t u) = refl
with_twice new old (Apart t u) = refl
with_twice new old (Hit t n) = refl
with_twice new old (Miss t u n) = refl
with_twice new old (Lin n) = refl
with_twice new old (Elim m n t) = refl
with_twice new old (Tight n) = refl
with_twice new old (Exact n) = refl
with_twice new old (Close n) = refl
with_twice new old (Clash m n) = refl

-- where two give each term that the line names alike, they give one line
pub with_same : {S T : Type 0} (f g : S → T) (l : LineOver S) → EachNamed (λ (s : S). f s ≡ g s) l → with_terms f l ≡ with_terms g l
with_same {S} {T} f g (Both n) same = refl
with_same {S} {T} f g (Either n) same = refl
with_same {S} {T} f g (Cases t u) same = ap₂ (λ (a b : T). Cases a b) same.0 same.1
with_same {S} {T} f g (Order n) same = refl
with_same {S} {T} f g (Refl t) same = ap (λ (a : T). Refl a) same
with_same {S} {T} f g (Sym n) same = refl
with_same {S} {T} f g (Trans m n) same = refl
with_same {S} {T} f g (Subst m n) same = refl
with_same {S} {T} f g (Cong t u ns) same = ap₂ (λ (a b : T). Cong a b ns) same.0 same.1
with_same {S} {T} f g (Same t u) same = ap₂ (λ (a b : T). Same a b) same.0 same.1
with_same {S} {T} f g (Apart t u) same = ap₂ (λ (a b : T). Apart a b) same.0 same.1
with_same {S} {T} f g (Hit t n) same = ap (λ (a : T). Hit a n) same
with_same {S} {T} f g (Miss t u n) same = ap₂ (λ (a b : T). Miss a b n) same.0 same.1
with_same {S} {T} f g (Lin n) same = refl
with_same {S} {T} f g (Elim m n t) same = ap (λ (a : T). Elim m n a) same
with_same {S} {T} f g (Tight n) same = refl
with_same {S} {T} f g (Exact n) same = refl
with_same {S} {T} f g (Close n) same = refl
with_same {S} {T} f g (Clash m n) same = refl

-- of a few terms
each_map : {S T : Type 0} (P : T → Type 0) (new : S → T) (ss : List S) → EachOf (λ (s : S). P (new s)) ss → EachOf P (map new ss)
each_map P new [] all = tt
each_map P new (s ∷ []) all = all
each_map P new (s ∷ (r ∷ rs)) all = (all.0, each_map P new (r ∷ rs) all.1)

each_unmap : {S T : Type 0} (P : T → Type 0) (new : S → T) (ss : List S) → EachOf P (map new ss) → EachOf (λ (s : S). P (new s)) ss
each_unmap P new [] all = tt
each_unmap P new (s ∷ []) all = all
each_unmap P new (s ∷ (r ∷ rs)) all = (all.0, each_unmap P new (r ∷ rs) all.1)

each_weaker : {T : Type 0} (P Q : T → Type 0) (ts : List T) → ((t : T) → P t → Q t) → EachOf P ts → EachOf Q ts
each_weaker P Q [] more all = tt
each_weaker P Q (t ∷ []) more all = more t all
each_weaker P Q (t ∷ (u ∷ us)) more all = (more t all.0, each_weaker P Q (u ∷ us) more all.1)

-- what is so of each other term is so of each that the line with these names
pub each_with : {S T : Type 0} (P : T → Type 0) (new : S → T) (l : LineOver S) → EachNamed (λ (s : S). P (new s)) l →
    EachNamed P (with_terms new l)
each_with P new l all = subst (EachOf P) (sym (terms_with new l)) (each_map P new (terms_named l) all)

-- and the other way round
pub each_back : {S T : Type 0} (P : T → Type 0) (new : S → T) (l : LineOver S) → EachNamed P (with_terms new l) →
    EachNamed (λ (s : S). P (new s)) l
each_back P new l all = each_unmap P new (terms_named l) (subst (EachOf P) (terms_with new l) all)

-- what follows from it is so, too
pub each_more : {T : Type 0} (P Q : T → Type 0) (l : LineOver T) → ((t : T) → P t → Q t) → EachNamed P l → EachNamed Q l
each_more P Q l more all = each_weaker P Q (terms_named l) more all
