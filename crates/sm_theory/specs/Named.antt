-- Cited by public clauses: what lines name and read, lines with other terms, and how many facts they
-- add.
use Rattle.std.specs.Prelude.{ℕ, Bool, true, false, List, [], ◌∷◌}
use Rattle.sm_theory.specs.Lines.{LineOver, Both, Either, Cases, Order, Refl, Sym, Trans, Subst, Cong, Same, Apart, Hit, Miss, Lin, Elim, Tight, Exact, Close, Clash}

-- the facts that a line names
abbrev pub facts_named : {T : Type 0} → LineOver T → List ℕ
facts_named (Both n) = n ∷ []
facts_named (Either n) = n ∷ []
facts_named (Cases t u) = []
facts_named (Order n) = n ∷ []
facts_named (Refl t) = []
facts_named (Sym n) = n ∷ []
facts_named (Trans m n) = m ∷ n ∷ []
facts_named (Subst m n) = m ∷ n ∷ []
facts_named (Cong t u ns) = ns
facts_named (Same t u) = []
facts_named (Apart t u) = []
facts_named (Hit t n) = n ∷ []
facts_named (Miss t u n) = n ∷ []
facts_named (Lin n) = n ∷ []
facts_named (Elim m n t) = m ∷ n ∷ []
facts_named (Tight n) = n ∷ []
facts_named (Exact n) = []
facts_named (Close n) = n ∷ []
facts_named (Clash m n) = m ∷ n ∷ []

-- the terms that a line names
abbrev pub terms_named : {T : Type 0} → LineOver T → List T
terms_named (Both n) = []
terms_named (Either n) = []
terms_named (Cases t u) = t ∷ u ∷ []
terms_named (Order n) = []
terms_named (Refl t) = t ∷ []
terms_named (Sym n) = []
terms_named (Trans m n) = []
terms_named (Subst m n) = []
terms_named (Cong t u ns) = t ∷ u ∷ []
terms_named (Same t u) = t ∷ u ∷ []
terms_named (Apart t u) = t ∷ u ∷ []
terms_named (Hit t n) = t ∷ []
terms_named (Miss t u n) = t ∷ u ∷ []
terms_named (Lin n) = []
terms_named (Elim m n t) = t ∷ []
terms_named (Tight n) = []
terms_named (Exact n) = []
terms_named (Close n) = []
terms_named (Clash m n) = []

-- a line with another term in place of each
abbrev pub with_terms : {S T : Type 0} → (S → T) → LineOver S → LineOver T
with_terms new (Both n) = Both n
with_terms new (Either n) = Either n
with_terms new (Cases t u) = Cases (new t) (new u)
with_terms new (Order n) = Order n
with_terms new (Refl t) = Refl (new t)
with_terms new (Sym n) = Sym n
with_terms new (Trans m n) = Trans m n
with_terms new (Subst m n) = Subst m n
with_terms new (Cong t u ns) = Cong (new t) (new u) ns
with_terms new (Same t u) = Same (new t) (new u)
with_terms new (Apart t u) = Apart (new t) (new u)
with_terms new (Hit t n) = Hit (new t) n
with_terms new (Miss t u n) = Miss (new t) (new u) n
with_terms new (Lin n) = Lin n
with_terms new (Elim m n t) = Elim m n (new t)
with_terms new (Tight n) = Tight n
with_terms new (Exact n) = Exact n
with_terms new (Close n) = Close n
with_terms new (Clash m n) = Clash m n

-- something is so of each of a few
abbrev pub EachOf : {T : Type 0} → (T → Type 0) → List T → Type 0
EachOf P [] = Unit {0}
EachOf P (t ∷ []) = P t
EachOf P (t ∷ (u ∷ us)) = P t × EachOf P (u ∷ us)

-- something is so of each term that a line names
abbrev pub EachNamed : {T : Type 0} → (T → Type 0) → LineOver T → Type 0
EachNamed P line = EachOf P (terms_named line)

-- whether a line reads all facts of the branch
abbrev pub reads_all : {T : Type 0} → LineOver T → Bool
reads_all (Exact n) = true
reads_all line = false

-- whether a line splits its branch
abbrev pub is_split : {T : Type 0} → LineOver T → Bool
is_split (Either n) = true
is_split (Cases t u) = true
is_split (Order n) = true
is_split line = false

-- whether a line closes its branch
abbrev pub is_closing : {T : Type 0} → LineOver T → Bool
is_closing (Close n) = true
is_closing (Clash m n) = true
is_closing line = false

-- how many facts a line adds in each way
abbrev pub facts_added : {T : Type 0} → LineOver T → ℕ
facts_added (Both n) = 2
facts_added line = 1
