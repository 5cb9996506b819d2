-- A line that may stand on a branch names facts that are there, and splits it in two where it splits by its kind.
use Rattle.sm_write.proofs.Imports.{◌≡◌, ◌⊎◌, inl, inr, ℕ, ◌<◌, ◌^◌, nat_lt, nat_le, Bool, true, false, ◌&&◌, if◌then◌else◌, slice_get, length, Option, Some, None, List, [], ◌∷◌, refl, ap, ◌∙◌, arith, lt-ltb, leb-true, Sorts, Num, Assertion, arguments_of, same_head, same_sort, Tree, or_other, formula_if, says_equal, say_equal, is_inhabited_list, turned_equation, turned_contrary, chained, substituted, BranchFact, CertificateLine, Both, Either, Cases, Order, Refl, Sym, Trans, Subst, Cong, Same, Apart, Hit, Miss, Lin, Elim, Tight, Exact, Close, Clash, followed, formula_in, form_in, formula_at, form_at, Sides, equal_sides, unequal_sides, equation_at, contrary_at, facts_named, is_split, Ways, adding, splitting, closing_if, both_parts, either_part, ordered, adds, ways, are_there, both_pass, below_if_got}
use Rattle.sm_num.specs.Forms.{Linear}
use Rattle.sm_term.specs.Assertions as form
use Rattle.sm_theory.specs.Arithmetic.{is_numeric, form_of_comparison, cancelled}
use Rattle.sm_theory.specs.Elements.{Written, written_in, read_in}
use Rattle.sm_theory.specs.ExactLine.{forms_of_branch, exact_adds}
use Rattle.sm_theory.proofs.FactsLemmas.{followed_from}
use Rattle.sm_theory.proofs.EqualityLemmas.{or_else_from}

formula_from : (test : Bool) (f : Assertion) (k : BranchFact) → formula_if test f ≡ Some k → test ≡ true
formula_from true f k e = refl
formula_from false f k e = absurd cc

closing_from : (test : Bool) (to : List (List BranchFact)) → closing_if test ≡ Some to → test ≡ true
closing_from true to e = refl
closing_from false to e = absurd cc

adding_from : (o : Option BranchFact) (to : List (List BranchFact)) → adding o ≡ Some to → (k : BranchFact) × (o ≡ Some k)
adding_from None to e = absurd cc
adding_from (Some k) to e = (k, refl)

-- a fact is there
abbrev IsThere : List BranchFact → ℕ → Type 0
IsThere facts n = nat_lt n (length facts) ≡ true

fact_there : (facts : List BranchFact) (n : ℕ) (k : BranchFact) → slice_get facts n ≡ Some k → IsThere facts n
fact_there facts n k e = lt-ltb n (length facts) (below_if_got facts n k e)

formula_there : (facts : List BranchFact) (n : ℕ) (f : Assertion) → formula_at facts n ≡ Some f → IsThere facts n
formula_there facts n f e = let a = followed_from (slice_get facts n) formula_in f e in fact_there facts n a.0 a.1

form_there : (facts : List BranchFact) (n : ℕ) (f : Linear Tree) → form_at facts n ≡ Some f → IsThere facts n
form_there facts n f e = let a = followed_from (slice_get facts n) form_in f e in fact_there facts n a.0 a.1

equation_there : (facts : List BranchFact) (n : ℕ) (s : Sides) → equation_at facts n ≡ Some s → IsThere facts n
equation_there facts n s e = let a = followed_from (formula_at facts n) equal_sides s e in formula_there facts n a.0 a.1

contrary_there : (facts : List BranchFact) (n : ℕ) (s : Sides) → contrary_at facts n ≡ Some s → IsThere facts n
contrary_there facts n s e = let a = followed_from (formula_at facts n) unequal_sides s e in formula_there facts n a.0 a.1

-- sides that say something are there
said : (o : Option Sides) (t u : Tree) → says_equal o t u ≡ true → (s : Sides) × (o ≡ Some s)
said None t u e = absurd cc
said (Some s) t u e = (s, refl)

equal_there : (facts : List BranchFact) (n : ℕ) (t u : Tree) → says_equal (equation_at facts n) t u ≡ true → IsThere facts n
equal_there facts n t u e = let a = said (equation_at facts n) t u e in equation_there facts n a.0 a.1

unequal_there : (facts : List BranchFact) (n : ℕ) (t u : Tree) → says_equal (contrary_at facts n) t u ≡ true → IsThere facts n
unequal_there facts n t u e = let a = said (contrary_at facts n) t u e in contrary_there facts n a.0 a.1

-- one fact, and two
one_there : (facts : List BranchFact) (n : ℕ) → IsThere facts n → are_there (length facts) (n ∷ []) ≡ true
one_there facts n e = ap (λ (b : Bool). b && true) e

two_there : (facts : List BranchFact) (m n : ℕ) → IsThere facts m → IsThere facts n → are_there (length facts) (m ∷ n ∷ []) ≡ true
two_there facts m n d e =
    ap (λ (b : Bool). b && are_there (length facts) (n ∷ [])) d ∙ one_there facts n e

-- many
many_there : (facts : List BranchFact) (ns : List ℕ) (ts us : List Tree) → say_equal facts ns ts us ≡ true →
    are_there (length facts) ns ≡ true
many_there facts [] ts us e = refl
many_there facts (n ∷ ns) [] us e = absurd cc
many_there facts (n ∷ ns) (t ∷ ts) [] e = absurd cc
many_there facts (n ∷ ns) (t ∷ ts) (u ∷ us) e =
    let both = both_pass (says_equal (equation_at facts n) t u) (say_equal facts ns ts us) e in
    ap (λ (b : Bool). b && are_there (length facts) ns) (equal_there facts n t u both.0) ∙ many_there facts ns ts us both.1

-- what was added by a line of its theory alone
added_first : (o : Option BranchFact) (k : BranchFact) → or_other o None ≡ Some k → o ≡ Some k
added_first None k e = e
added_first (Some l) k e = e

-- the facts that a line names are there
pub facts_there : (sorts : Sorts) (facts : List BranchFact) (line : CertificateLine) (to : List (List BranchFact)) →
    ways sorts facts line ≡ Some to → are_there (length facts) (facts_named line) ≡ true
facts_there sorts facts (Both n) to e =
    let a = followed_from (formula_at facts n) both_parts to e in
    one_there facts n (formula_there facts n a.0 a.1)
facts_there sorts facts (Either n) to e =
    let a = followed_from (formula_at facts n) either_part to e in
    one_there facts n (formula_there facts n a.0 a.1)
facts_there sorts facts (Cases t u) to e = refl
facts_there sorts facts (Order n) to e =
    let a = followed_from (contrary_at facts n) ordered to e in
    one_there facts n (contrary_there facts n a.0 a.1)
facts_there sorts facts (Refl t) to e = refl
facts_there sorts facts (Sym n) to e =
    let a = adding_from (adds sorts facts (Sym n)) to e in
    let first = followed (equation_at facts n) turned_equation in
    let second = followed (contrary_at facts n) turned_contrary in
    one_there facts n (of (or_else_from first second a.0 (added_first (or_other first second) a.0 a.1)))
  where
    of : {k : BranchFact} →
        (followed (equation_at facts n) turned_equation ≡ Some k) ⊎ (followed (contrary_at facts n) turned_contrary ≡ Some k) →
        IsThere facts n
    of {k} (inl h) = let b = followed_from (equation_at facts n) turned_equation k h in equation_there facts n b.0 b.1
    of {k} (inr h) = let b = followed_from (contrary_at facts n) turned_contrary k h in contrary_there facts n b.0 b.1
facts_there sorts facts (Trans m n) to e =
    let a = adding_from (adds sorts facts (Trans m n)) to e in
    let whole = followed (equation_at facts m) (λ (s : Sides). followed (equation_at facts n) (chained s)) in
    let b = followed_from (equation_at facts m) (λ (s : Sides). followed (equation_at facts n) (chained s)) a.0 (added_first whole a.0 a.1) in
    let c = followed_from (equation_at facts n) (chained b.0) a.0 b.2 in
    two_there facts m n (equation_there facts m b.0 b.1) (equation_there facts n c.0 c.1)
facts_there sorts facts (Subst m n) to e =
    let a = adding_from (adds sorts facts (Subst m n)) to e in
    let whole = followed (contrary_at facts m) (λ (s : Sides). followed (equation_at facts n) (substituted s)) in
    let b = followed_from (contrary_at facts m) (λ (s : Sides). followed (equation_at facts n) (substituted s)) a.0
    (added_first whole a.0 a.1) in
    let c = followed_from (equation_at facts n) (substituted b.0) a.0 b.2 in
    two_there facts m n (contrary_there facts m b.0 b.1) (equation_there facts n c.0 c.1)
facts_there sorts facts (Cong t u ns) to e =
    let a = adding_from (adds sorts facts (Cong t u ns)) to e in
    let said_all = say_equal facts ns (arguments_of t) (arguments_of u) in
    let test = is_inhabited_list ns && (same_head t u && said_all) in
    let f = form.Eq _ t u in
    let b = formula_from test f a.0 (added_first (formula_if test f) a.0 a.1) in
    let c = both_pass (is_inhabited_list ns) (same_head t u && said_all) b in
    many_there facts ns (arguments_of t) (arguments_of u) (both_pass (same_head t u) said_all c.1).1
facts_there sorts facts (Same t u) to e = refl
facts_there sorts facts (Apart t u) to e = refl
facts_there sorts facts (Hit t n) to e =
    let a = adding_from (adds sorts facts (Hit t n)) to e in
    let b = followed_from (read_in t)
    (λ (r : Tree × Tree). followed (written_in r.0)
    (λ (w : Written). formula_if (says_equal (equation_at facts n) w.index r.1) (form.Eq Num t w.element))) a.0 a.1 in
    let c = followed_from (written_in b.0.0)
    (λ (w : Written). formula_if (says_equal (equation_at facts n) w.index b.0.1) (form.Eq Num t w.element)) a.0 b.2 in
    one_there facts n
    (equal_there facts n c.0.index b.0.1
    (formula_from (says_equal (equation_at facts n) c.0.index b.0.1) (form.Eq Num t c.0.element) a.0 c.2))
facts_there sorts facts (Miss t u n) to e =
    let a = adding_from (adds sorts facts (Miss t u n)) to e in
    let b = followed_from (read_in t) _ a.0 a.1 in
    let c = followed_from (written_in b.0.0) _ a.0 b.2 in
    one_there facts n
    (unequal_there facts n c.0.index b.0.1 (both_pass (says_equal (contrary_at facts n) c.0.index b.0.1) _ (formula_from _ _ a.0 c.2)).0)
facts_there sorts facts (Lin n) to e =
    let a = adding_from (adds sorts facts (Lin n)) to e in
    let b = followed_from (formula_at facts n) form_of_comparison a.0
    (added_first (followed (formula_at facts n) form_of_comparison) a.0 a.1) in
    one_there facts n (formula_there facts n b.0 b.1)
facts_there sorts facts (Elim m n t) to e =
    let a = adding_from (adds sorts facts (Elim m n t)) to e in
    let next : Linear Tree → Option BranchFact = λ (f : Linear Tree). followed (form_at facts n) (cancelled t f) in
    let b = followed_from (form_at facts m) next a.0 (added_first (followed (form_at facts m) next) a.0 a.1) in
    let c = followed_from (form_at facts n) (cancelled t b.0) a.0 b.2 in
    two_there facts m n (form_there facts m b.0 b.1) (form_there facts n c.0 c.1)
facts_there sorts facts (Tight n) to e =
    let a = adding_from (adds sorts facts (Tight n)) to e in
    let b = followed_from (form_at facts n) _ a.0 (added_first (followed (form_at facts n) _) a.0 a.1) in
    one_there facts n (form_there facts n b.0 b.1)
facts_there sorts facts (Exact n) to e = refl
facts_there sorts facts (Close n) to e =
    let a = followed_from (slice_get facts n) _ to e in
    one_there facts n (fact_there facts n a.0 a.1)
facts_there sorts facts (Clash m n) to e =
    let next : Sides → Ways = λ (s : Sides). closing_if (says_equal (contrary_at facts n) s.left s.right) in
    let a = followed_from (equation_at facts m) next to e in
    two_there facts m n (equation_there facts m a.0 a.1)
    (unequal_there facts n a.0.left a.0.right (closing_from (says_equal (contrary_at facts n) a.0.left a.0.right) to a.2))

-- the number of a line `exact` is short, if a line is one
abbrev pub AreStepsShort : CertificateLine → Type 0
AreStepsShort (Exact n) = n < 2 ^ 63
AreStepsShort line = Unit {0}

-- so it is where the line leaves ways, as it is at most 1,000,000 then
pub steps_short : (sorts : Sorts) (facts : List BranchFact) (line : CertificateLine) (to : List (List BranchFact)) →
    ways sorts facts line ≡ Some to → AreStepsShort line
steps_short sorts facts (Exact n) to e =
    let a = adding_from (adds sorts facts (Exact n)) to e in
    let b = followed_from (forms_of_branch facts) _ a.0 (added_first (exact_adds facts n) a.0 a.1) in
    let few = both_pass (nat_le n 1000000) _ (formula_from _ form.No a.0 b.2) in
    omega (arith, leb-true n 1000000 few.0)
steps_short sorts facts line to e = tt

-- two ways
abbrev AreTwo : List (List BranchFact) → Type 0
AreTwo [] = ⊥
AreTwo (a ∷ []) = ⊥
AreTwo (a ∷ b ∷ rest) = Unit {0}

splitting_two : (p q : Assertion) (to : List (List BranchFact)) → splitting p q ≡ Some to → AreTwo to
splitting_two p q [] e = absurd cc
splitting_two p q (a ∷ []) e = absurd cc
splitting_two p q (a ∷ b ∷ rest) e = tt

either_two : (f : Assertion) (to : List (List BranchFact)) → either_part f ≡ Some to → AreTwo to
either_two form.Yes to e = absurd cc
either_two form.No to e = absurd cc
either_two (form.Eq sort t u) to e = absurd cc
either_two (form.Ne sort t u) to e = absurd cc
either_two (form.Le t u) to e = absurd cc
either_two (form.Lt t u) to e = absurd cc
either_two (form.And p q) to e = absurd cc
either_two (form.Or p q) to e = splitting_two p q to e

tested_two : (test : Bool) (p q : Assertion) (to : List (List BranchFact)) → (if test then splitting p q else None) ≡ Some to → AreTwo to
tested_two true p q to e = splitting_two p q to e
tested_two false p q to e = absurd cc

split_two : (sorts : Sorts) (facts : List BranchFact) (line : CertificateLine) (to : List (List BranchFact)) → is_split line ≡ true →
    ways sorts facts line ≡ Some to → AreTwo to
split_two sorts facts (Either n) to s e =
    let a = followed_from (formula_at facts n) either_part to e in
    either_two a.0 to a.2
split_two sorts facts (Cases t u) to s e =
    tested_two (is_numeric sorts t && is_numeric sorts u) (form.Eq Num t u) (form.Ne Num t u) to e
split_two sorts facts (Order n) to s e =
    let a = followed_from (contrary_at facts n) ordered to e in
    tested_two (same_sort a.0.sort Num) (form.Lt a.0.left a.0.right) (form.Lt a.0.right a.0.left) to a.2
split_two sorts facts (Both n) to s e = absurd cc
split_two sorts facts (Refl t) to s e = absurd cc
split_two sorts facts (Sym n) to s e = absurd cc
split_two sorts facts (Trans m n) to s e = absurd cc
split_two sorts facts (Subst m n) to s e = absurd cc
split_two sorts facts (Cong t u ns) to s e = absurd cc
split_two sorts facts (Same t u) to s e = absurd cc
split_two sorts facts (Apart t u) to s e = absurd cc
split_two sorts facts (Hit t n) to s e = absurd cc
split_two sorts facts (Miss t u n) to s e = absurd cc
split_two sorts facts (Lin n) to s e = absurd cc
split_two sorts facts (Elim m n t) to s e = absurd cc
split_two sorts facts (Tight n) to s e = absurd cc
split_two sorts facts (Exact n) to s e = absurd cc
split_two sorts facts (Close n) to s e = absurd cc
split_two sorts facts (Clash m n) to s e = absurd cc

-- a line that leaves one way, or none, is none that splits
pub one_no_split : (sorts : Sorts) (facts : List BranchFact) (line : CertificateLine) (way : List BranchFact) →
    ways sorts facts line ≡ Some (way ∷ []) → is_split line ≡ false
one_no_split sorts facts line way e = of (is_split line) refl
  where
    of : (b : Bool) → is_split line ≡ b → b ≡ false
    of true s = absurd (split_two sorts facts line (way ∷ []) s e)
    of false s = refl

pub none_no_split : (sorts : Sorts) (facts : List BranchFact) (line : CertificateLine) → ways sorts facts line ≡ Some [] →
    is_split line ≡ false
none_no_split sorts facts line e = of (is_split line) refl
  where
    of : (b : Bool) → is_split line ≡ b → b ≡ false
    of true s = absurd (split_two sorts facts line [] s e)
    of false s = refl
