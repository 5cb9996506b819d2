-- What is given to the walk of an obligation, and what its end says under other numbers.
use Rattle.sm_solve.proofs.Imports.{◌≡◌, ℕ, ◌+◌, ◌<◌, nat_lt, Bool, true, false, List, [], ◌∷◌, ◌++◌, length, take, get_or, refl, sym, ap, subst, ◌∙◌, arith, ltb-true, map-append, take_more, Sorts, Tree, Assertion, negate, IsFormSorted, AreFormsSorted, NumberedFormula, numbered, contrary, assertion_in, IsFormulaWithin, Formula, contrary_negates, as_facts, adds, Certificate, bad_line, splits_above, certificate_in, lines_of, AreLinesWithin, CertTree, Certifies, with_parts, terms_of, Refutes, all_numbered, assertions_in, AreFormulasWithin, walk_from, Reach, ClosesIn, Shows, contrary_within, forms_append, negate_sorted}
use Rattle.sm_cert.proofs.TreeLemmas.{refused_flat}
use Rattle.sm_solve.specs.declared.solving.Answer.{Answer}
use Rattle.sm_solve.specs.declared.solving.Answer.TheVariants as answer
use Rattle.sm_list.proofs.PartsLemmas.{within-append}
use Rattle.sm_solve.proofs.SortedLemmas.{sorted_with}

-- the facts and the contrary of the target
pub given_is : (sorts : Sorts) (trees : List Tree) (facts list all : List Formula) (target other : Formula) →
    all ≡ list ++ other ∷ [] → all_numbered list ≡ all_numbered facts → numbered other ≡ contrary (numbered target) →
    assertions_in sorts trees (all_numbered all)
    ≡ assertions_in sorts trees (all_numbered facts) ++ negate (assertion_in sorts trees (numbered target)) ∷ []
given_is sorts trees facts list all target other are same against =
    let says = assertion_in sorts trees in
    let goal = numbered target in
    ap (λ (fs : List Formula). assertions_in sorts trees (all_numbered fs)) are
    ∙ ap (assertions_in sorts trees) (map-append numbered list (other ∷ []))
    ∙ ap (λ (fs : List NumberedFormula). assertions_in sorts trees (fs ++ numbered other ∷ [])) same
    ∙ ap (λ (f : NumberedFormula). assertions_in sorts trees (all_numbered facts ++ f ∷ [])) against
    ∙ map-append says (all_numbered facts) (contrary goal ∷ [])
    ∙ ap (λ (f : Assertion). assertions_in sorts trees (all_numbered facts) ++ f ∷ []) (contrary_negates sorts trees goal)

pub given_within : (count : ℕ) (facts list all : List Formula) (target other : Formula) →
    all ≡ list ++ other ∷ [] → all_numbered list ≡ all_numbered facts → numbered other ≡ contrary (numbered target) →
    AreFormulasWithin count (all_numbered facts) → IsFormulaWithin count (numbered target) → AreFormulasWithin count (all_numbered all)
given_within count facts list all target other are same against within one =
    let whole : all_numbered all ≡ all_numbered facts ++ contrary (numbered target) ∷ [] =
    ap all_numbered are ∙ map-append numbered list (other ∷ [])
    ∙ ap (λ (fs : List NumberedFormula). fs ++ numbered other ∷ []) same
    ∙ ap (λ (f : NumberedFormula). all_numbered facts ++ f ∷ []) against in
    subst (AreFormulasWithin count) (sym whole)
    (within-append count (all_numbered facts) (contrary (numbered target) ∷ []) within (contrary_within count (numbered target) one, tt))

-- they are sorted with all their parts
pub given_sorted : (sorts : Sorts) (facts : List Assertion) (goal : Assertion) → AreFormsSorted sorts facts → IsFormSorted sorts goal →
    AreFormsSorted sorts (with_parts (facts ++ negate goal ∷ []))
given_sorted sorts facts goal h k =
    sorted_with sorts (facts ++ negate goal ∷ []) (forms_append sorts facts (negate goal ∷ []) h (negate_sorted sorts goal k, tt))

-- the walk over the terms of the facts alone
pub walk_own : (sorts own : Sorts) (trees : List Tree) (reach : Reach) (facts all given : List Assertion) → own ≡ sorts → trees ≡ terms_of all →
    facts ≡ all → all ≡ given → walk_from own trees reach 1001 0 facts ≡ walk_from sorts (terms_of given) reach 1001 0 given
walk_own sorts own trees reach facts all given same terms are is =
    ap (λ (s : Sorts). walk_from s trees reach 1001 0 facts) same
    ∙ ap (λ (ts : List Tree). walk_from sorts ts reach 1001 0 facts) terms
    ∙ ap (walk_from sorts (terms_of all) reach 1001 0) are
    ∙ ap (λ (fs : List Assertion). walk_from sorts (terms_of fs) reach 1001 0 fs) is

-- a certificate under other numbers
pub renumbered_closes : (sorts : Sorts) (trees others : List Tree) (facts : List Assertion) (room : ℕ) (tree other : CertTree) →
    certificate_in others other ≡ certificate_in trees tree → AreLinesWithin (length others) (lines_of other) →
    ClosesIn sorts trees facts room tree → ClosesIn sorts others facts room other
renumbered_closes sorts trees others facts room tree other same within closes = record {
  refutes = subst (Refutes sorts (as_facts facts)) (sym same) closes.refutes;
  within = within;
  splits = subst (λ (c : Certificate). splits_above c < room) (sym same) closes.splits;
}

few_splits : (n : ℕ) → n < 1001 → false ≡ nat_lt 1000 n
few_splits n h = by (nat_lt 1000 n) refl
  where
    by : (b : Bool) → nat_lt 1000 n ≡ b → false ≡ b
    by false e = refl
    by true e = absurd (let more = ltb-true 1000 n e in omega arith)

-- what is shown of an answer certifies it
pub shows_certify : (sorts : Sorts) (trees : List Tree) (facts : List Assertion) (goal : Assertion) (a : Answer) →
    Shows sorts trees (facts ++ negate goal ∷ []) 1001 a → Certifies sorts trees facts goal a
shows_certify sorts trees facts goal (answer.Closed tree) shows =
    let all = as_facts (facts ++ negate goal ∷ []) in
    let c = certificate_in trees tree in
    (shows.within, refused_flat (adds sorts) sorts all c (few_splits (splits_above c) shows.splits) ∙ ap bad_line (shows.refutes 0))
shows_certify sorts trees facts goal (answer.Open leaf) shows = tt
shows_certify sorts trees facts goal answer.Steps shows = tt
shows_certify sorts trees facts goal (answer.Coefficient op y z) shows = tt

-- one formula more under other numbers
pub renumbered_more : (sorts : Sorts) (trees others : List Tree) (facts list now : List Formula) (n : ℕ) (f g : Formula) →
    n < length facts →
    f ≡ get_or facts n f → now ≡ list ++ g ∷ [] →
    assertions_in sorts others (all_numbered list) ≡ assertions_in sorts trees (all_numbered (take n facts)) →
    assertion_in sorts others (numbered g) ≡ assertion_in sorts trees (numbered f) →
    assertions_in sorts others (all_numbered now) ≡ assertions_in sorts trees (all_numbered (take (n + 1) facts))
renumbered_more sorts trees others facts list now n f g less is made before same =
    let done = take n facts in
    let more : take (n + 1) facts ≡ done ++ f ∷ [] = take_more facts n f less ∙ ap (λ (h : Formula). done ++ h ∷ []) (sym is) in
    ap (λ (fs : List Formula). assertions_in sorts others (all_numbered fs)) made
    ∙ ap (assertions_in sorts others) (map-append numbered list (g ∷ []))
    ∙ map-append (assertion_in sorts others) (all_numbered list) (numbered g ∷ [])
    ∙ ap (λ (fs : List Assertion). fs ++ assertion_in sorts others (numbered g) ∷ []) before
    ∙ ap (λ (a : Assertion). assertions_in sorts trees (all_numbered done) ++ a ∷ []) same
    ∙ sym (ap (λ (fs : List Formula). assertions_in sorts trees (all_numbered fs)) more
    ∙ ap (assertions_in sorts trees) (map-append numbered done (f ∷ []))
    ∙ map-append (assertion_in sorts trees) (all_numbered done) (numbered f ∷ []))

pub more_within : (count : ℕ) (list now : List Formula) (g : Formula) → now ≡ list ++ g ∷ [] → AreFormulasWithin count (all_numbered list) →
    IsFormulaWithin count (numbered g) → AreFormulasWithin count (all_numbered now)
more_within count list now g made all one =
    let is : all_numbered now ≡ all_numbered list ++ numbered g ∷ [] = ap all_numbered made ∙ map-append numbered list (g ∷ []) in
    subst (AreFormulasWithin count) (sym is) (within-append count (all_numbered list) (numbered g ∷ []) all (one, tt))
