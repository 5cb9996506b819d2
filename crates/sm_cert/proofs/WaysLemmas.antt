-- What is found on a branch of the program, by the ways in which the branch that it stands for goes on.
use Rattle.sm_cert.proofs.Imports.{◌≡◌, ◌<◌, ◌+◌, ℕ, Bool, true, false, slice_get, get_or, Some, None, List, [], ◌∷◌, ◌++◌, length, drop, take, refl, ap, sym, ◌∙◌, subst, drop_more, Sorts, Tree, tree_at, AreApart, NumberedFormula, And, numbered, assertion_in, IsFormulaWithin, BranchFact, Formal, Sum, Sides, followed, formula_at, equation_at, contrary_at, says_equal, line_in, FactStands, AllStand, StandsIf, CertLine, Fact, ways_with, adding, cannot_hold, closing_if, is_absurd, both_parts, GoesOn, is_closed, SplitsInto}
use Rattle.std.proofs.Common.{Option}
use Rattle.sm_term.specs.declared.term.TermId.{TermId}
use Rattle.sm_term.specs.declared.formula.Formula.{Formula}
use Rattle.sm_term.specs.Assertions as plain
use Rattle.sm_term.specs.Assertions.{Assertion}
use Rattle.sm_num.specs.Forms.{Linear}
use Rattle.sm_num.specs.Tightening.{is_contradictory}
use Rattle.sm_theory.specs.declared.fact.Fact.TheVariants as fact
use Rattle.sm_theory.specs.declared.line.CertLine.TheVariants as line
use Rattle.sm_theory.specs.Sides.{OptionStands, FormulaStands, SidesStand}
use Rattle.sm_theory.proofs.LinearStanding.{contradictory_stands}
use Rattle.sm_theory.proofs.FormsOfTermsLemmas.{one_place}

-- facts behind facts
pub stand_append : (sorts : Sorts) (trees : List Tree) (path more : List Fact) (facts way : List BranchFact) →
    AllStand sorts trees path facts → AllStand sorts trees more way →
    AllStand sorts trees (path ++ more) (facts ++ way)
stand_append sorts trees [] more [] way all and = and
stand_append sorts trees [] more (k ∷ ks) way all and = absurd all
stand_append sorts trees (f ∷ fs) more [] way all and = absurd all
stand_append sorts trees (f ∷ fs) more (k ∷ ks) way all and = (all.0, stand_append sorts trees fs more ks way all.1 and)

-- a fact replaced by one that stands for the same
stand_replaced : (sorts : Sorts) (trees : List Tree) (path : List Fact) (f g : Fact) (more : List Fact) (facts : List BranchFact) →
    AllStand sorts trees (path ++ (f ∷ more)) facts →
    ((k : BranchFact) → FactStands sorts trees f k → FactStands sorts trees g k) → AllStand sorts trees ((path ++ (g ∷ [])) ++ more) facts
stand_replaced sorts trees [] f g more [] all same = absurd all
stand_replaced sorts trees [] f g more (k ∷ ks) all same = (same k all.0, all.1)
stand_replaced sorts trees (h ∷ hs) f g more [] all same = absurd all
stand_replaced sorts trees (h ∷ hs) f g more (k ∷ ks) all same = (all.0, stand_replaced sorts trees hs f g more ks all.1 same)

-- one more fact copied
pub copied_more : (sorts : Sorts) (trees : List Tree) (path : List Fact) (i : ℕ) (copied : List Fact) (g : Fact) (facts : List BranchFact) →
    (d : Fact) → i < length path →
    AllStand sorts trees (copied ++ drop i path) facts →
    ((k : BranchFact) → FactStands sorts trees (get_or path i d) k → FactStands sorts trees g k) →
    AllStand sorts trees ((copied ++ (g ∷ [])) ++ drop (i + 1) path) facts
copied_more sorts trees path i copied g facts d within all same =
    stand_replaced sorts trees copied (get_or path i d) g (drop (i + 1) path) facts
    (subst (λ (rest : List Fact). AllStand sorts trees (copied ++ rest) facts) (drop_more path i d within) all) same

-- two facts one after the other
append_two : (ks : List BranchFact) (k l : BranchFact) → (ks ++ (k ∷ [])) ++ (l ∷ []) ≡ ks ++ (k ∷ l ∷ [])
append_two [] k l = refl
append_two (h ∷ ks) k l = ap (λ (rest : List BranchFact). h ∷ rest) (append_two ks k l)

-- both parts of a conjunction behind the others
pub both_go_on : (sorts : Sorts) (trees : List Tree) (path : List Fact) (facts : List BranchFact) (whole f g : Formula)
    (o : Option Assertion) → AllStand sorts trees path facts →
    numbered whole ≡ And (numbered f) (numbered g) → OptionStands (FormulaStands sorts trees) (Some whole) o →
    GoesOn sorts trees true ((path ++ (fact.Form f ∷ [])) ++ (fact.Form g ∷ [])) facts (followed o both_parts)
both_go_on sorts trees path facts whole f g None all same stands = absurd stands
both_go_on sorts trees path facts whole f g (Some a) all same stands =
    of a (subst (λ (h : NumberedFormula). IsFormulaWithin (length trees) h) same stands.0) (sym (ap (assertion_in sorts trees) same)
    ∙ stands.1)
  where
    of : (a : Assertion) → IsFormulaWithin (length trees) (And (numbered f) (numbered g)) →
        assertion_in sorts trees (And (numbered f) (numbered g)) ≡ a →
        GoesOn sorts trees true ((path ++ (fact.Form f ∷ [])) ++ (fact.Form g ∷ [])) facts (both_parts a)
    of a within e = subst (λ (a : Assertion). GoesOn sorts trees true ((path ++ (fact.Form f ∷ [])) ++ (fact.Form g ∷ [])) facts
        (both_parts a)) e
        (let p = assertion_in sorts trees (numbered f) in let q = assertion_in sorts trees (numbered g) in
        subst (λ (as_facts : List BranchFact). AllStand sorts trees ((path ++ (fact.Form f ∷ [])) ++ (fact.Form g ∷ [])) as_facts)
        (append_two facts (Formal p) (Formal q))
        (stand_append sorts trees (path ++ (fact.Form f ∷ [])) (fact.Form g ∷ []) (facts ++ (Formal p ∷ [])) (Formal q ∷ [])
        (stand_append sorts trees path (fact.Form f ∷ []) facts (Formal p ∷ []) all ((within.0, refl), tt)) ((within.1, refl), tt)))

-- a fact that is added stands behind the others
pub adding_goes_on : (sorts : Sorts) (trees : List Tree) (path : List Fact) (f : Fact) (facts : List BranchFact)
    (added : Option BranchFact) → AllStand sorts trees path facts → StandsIf sorts trees (Some f) added →
    GoesOn sorts trees true (path ++ (f ∷ [])) facts (adding added)
adding_goes_on sorts trees path f facts None all stands = absurd stands
adding_goes_on sorts trees path f facts (Some k) all stands = stand_append sorts trees path (f ∷ []) facts (k ∷ []) all (stands, tt)

-- a test closes a branch where it is passed
pub closing_closes : (b : Bool) → b ≡ is_closed (closing_if b)
closing_closes true = refl
closing_closes false = refl

-- a line that only closes branches doesn't go on in one way
pub closing_stops : (sorts : Sorts) (trees : List Tree) (path : List Fact) (facts : List BranchFact) (b : Bool) →
    GoesOn sorts trees false path facts (closing_if b)
closing_stops sorts trees path facts true = tt
closing_stops sorts trees path facts false = tt

-- a fact closes the branch where it can't hold
pub closes_with : (sorts : Sorts) (trees : List Tree) (f : Fact) (o : Option BranchFact) (b : Bool) →
    OptionStands (FactStands sorts trees) (Some f) o → ((k : BranchFact) → FactStands sorts trees f k → b ≡ cannot_hold k) →
    b ≡ is_closed (followed {T = List (List BranchFact)} o (λ (k : BranchFact). closing_if (cannot_hold k)))
closes_with sorts trees f None b stands law = absurd stands
closes_with sorts trees f (Some k) b stands law = law k stands ∙ closing_closes (cannot_hold k)

-- none doesn't
pub closes_without : (sorts : Sorts) (trees : List Tree) (o : Option BranchFact) → OptionStands (FactStands sorts trees) None o →
    false ≡ is_closed (followed {T = List (List BranchFact)} o (λ (k : BranchFact). closing_if (cannot_hold k)))
closes_without sorts trees None stands = refl
closes_without sorts trees (Some k) stands = absurd stands

-- a formula that can't hold
pub form_cannot : (sorts : Sorts) (trees : List Tree) (f : Formula) (k : BranchFact) (b : Bool) → FactStands sorts trees (fact.Form f) k →
    (IsFormulaWithin (length trees) (numbered f) → b ≡ is_absurd (assertion_in sorts trees (numbered f))) → b ≡ cannot_hold k
form_cannot sorts trees f (Formal g) b stands law = law stands.0 ∙ ap is_absurd stands.1
form_cannot sorts trees f (Sum g) b stands law = absurd stands

-- a form that can't
pub sum_cannot : (sorts : Sorts) (trees : List Tree) (f : Linear ℕ) (k : BranchFact) → AreApart trees →
    FactStands sorts trees (fact.Lin f) k → is_contradictory f ≡ cannot_hold k
sum_cannot sorts trees f (Formal g) apart stands = absurd stands
sum_cannot sorts trees f (Sum g) apart stands = contradictory_stands trees (one_place trees apart) f g stands

-- an equation closes the branch with its contrary
pub clashes_with : (sorts : Sorts) (trees : List Tree) (pair : TermId × TermId) (o p : Option Sides) (b : Bool) →
    OptionStands (SidesStand sorts trees) (Some pair) o →
    (pair.0.0 < length trees → pair.1.0 < length trees → b ≡ says_equal p (tree_at trees pair.0.0) (tree_at trees pair.1.0)) →
    b ≡ is_closed (followed {T = List (List BranchFact)} o (λ (s : Sides). closing_if (says_equal p s.left s.right)))
clashes_with sorts trees pair None p b stands law = absurd stands
clashes_with sorts trees pair (Some s) p b stands law =
    law stands.0 stands.1 ∙
    subst (λ (s : Sides). says_equal p (tree_at trees pair.0.0) (tree_at trees pair.1.0) ≡ is_closed
    (closing_if (says_equal p s.left s.right))) stands.2
    (closing_closes (says_equal p (tree_at trees pair.0.0) (tree_at trees pair.1.0)))

-- without an equation it isn't closed
pub clashes_without : (sorts : Sorts) (trees : List Tree) (o p : Option Sides) → OptionStands (SidesStand sorts trees) None o →
    false ≡ is_closed (followed {T = List (List BranchFact)} o (λ (s : Sides). closing_if (says_equal p s.left s.right)))
clashes_without sorts trees None p stands = refl
clashes_without sorts trees (Some s) p stands = absurd stands

pub clash_stops : (sorts : Sorts) (trees : List Tree) (path : List Fact) (facts : List BranchFact) (o p : Option Sides) →
    GoesOn sorts trees false path facts (followed {T = List (List BranchFact)} o (λ (s : Sides). closing_if (says_equal p s.left s.right)))
clash_stops sorts trees path facts None p = tt
clash_stops sorts trees path facts (Some s) p = closing_stops sorts trees path facts (says_equal p s.left s.right)

-- a fact that is added splits nothing
pub adding_is_whole : (sorts : Sorts) (trees : List Tree) (added : Option BranchFact) → SplitsInto sorts trees None (adding added)
adding_is_whole sorts trees None = tt
adding_is_whole sorts trees (Some k) = tt

-- a conjunction splits nothing, nor does a line that only closes branches
both_is_whole : (sorts : Sorts) (trees : List Tree) (o : Option Assertion) → SplitsInto sorts trees None (followed o both_parts)
both_is_whole sorts trees None = tt
both_is_whole sorts trees (Some plain.Yes) = tt
both_is_whole sorts trees (Some plain.No) = tt
both_is_whole sorts trees (Some (plain.Eq sort t u)) = tt
both_is_whole sorts trees (Some (plain.Ne sort t u)) = tt
both_is_whole sorts trees (Some (plain.Le t u)) = tt
both_is_whole sorts trees (Some (plain.Lt t u)) = tt
both_is_whole sorts trees (Some (plain.And p q)) = tt
both_is_whole sorts trees (Some (plain.Or p q)) = tt

closing_is_whole : (sorts : Sorts) (trees : List Tree) (b : Bool) → SplitsInto sorts trees None (closing_if b)
closing_is_whole sorts trees true = tt
closing_is_whole sorts trees false = tt

close_is_whole : (sorts : Sorts) (trees : List Tree) (o : Option BranchFact) →
    SplitsInto sorts trees None (followed {T = List (List BranchFact)} o (λ (k : BranchFact). closing_if (cannot_hold k)))
close_is_whole sorts trees None = tt
close_is_whole sorts trees (Some k) = closing_is_whole sorts trees (cannot_hold k)

clash_is_whole : (sorts : Sorts) (trees : List Tree) (o p : Option Sides) →
    SplitsInto sorts trees None (followed {T = List (List BranchFact)} o (λ (s : Sides). closing_if (says_equal p s.left s.right)))
clash_is_whole sorts trees None p = tt
clash_is_whole sorts trees (Some s) p = closing_is_whole sorts trees (says_equal p s.left s.right)

-- a line of another kind splits nothing
pub other_is_whole : (sorts : Sorts) (trees : List Tree) (facts : List BranchFact) (added : Option BranchFact) (l : CertLine) →
    ((n : ℕ) → l ≡ CertLine.Either n → ⊥) →
    ((t u : TermId) → l ≡ CertLine.Cases t u → ⊥) → ((n : ℕ) → l ≡ CertLine.Order n → ⊥) →
    SplitsInto sorts trees None (ways_with sorts facts added (line_in trees l))
other_is_whole sorts trees facts added (line.Both n) either cases order = both_is_whole sorts trees (formula_at facts n)
other_is_whole sorts trees facts added (line.Either n) either cases order = absurd (either n refl)
other_is_whole sorts trees facts added (line.Cases t u) either cases order = absurd (cases t u refl)
other_is_whole sorts trees facts added (line.Order n) either cases order = absurd (order n refl)
other_is_whole sorts trees facts added (line.Refl t) either cases order = adding_is_whole sorts trees added
other_is_whole sorts trees facts added (line.Sym n) either cases order = adding_is_whole sorts trees added
other_is_whole sorts trees facts added (line.Trans m n) either cases order = adding_is_whole sorts trees added
other_is_whole sorts trees facts added (line.Subst m n) either cases order = adding_is_whole sorts trees added
other_is_whole sorts trees facts added (line.Cong t u ns) either cases order = adding_is_whole sorts trees added
other_is_whole sorts trees facts added (line.Same t u) either cases order = adding_is_whole sorts trees added
other_is_whole sorts trees facts added (line.Apart t u) either cases order = adding_is_whole sorts trees added
other_is_whole sorts trees facts added (line.Hit t n) either cases order = adding_is_whole sorts trees added
other_is_whole sorts trees facts added (line.Miss t u n) either cases order = adding_is_whole sorts trees added
other_is_whole sorts trees facts added (line.Lin n) either cases order = adding_is_whole sorts trees added
other_is_whole sorts trees facts added (line.Elim m n t) either cases order = adding_is_whole sorts trees added
other_is_whole sorts trees facts added (line.Tight n) either cases order = adding_is_whole sorts trees added
other_is_whole sorts trees facts added (line.Exact n) either cases order = adding_is_whole sorts trees added
other_is_whole sorts trees facts added (line.Close n) either cases order = close_is_whole sorts trees (slice_get facts n)
other_is_whole sorts trees facts added (line.Clash m n) either cases order =
    clash_is_whole sorts trees (equation_at facts m) (contrary_at facts n)

-- a line of a theory goes on as the theory tells
pub theory_adds : (sorts : Sorts) (trees : List Tree) (facts : List BranchFact) (added : Option BranchFact) (l : CertLine) →
    ((n : ℕ) → l ≡ CertLine.Both n → ⊥) → ((n : ℕ) → l ≡ CertLine.Either n → ⊥) →
    ((t u : TermId) → l ≡ CertLine.Cases t u → ⊥) → ((n : ℕ) → l ≡ CertLine.Order n → ⊥) → ((n : ℕ) → l ≡ CertLine.Close n → ⊥) →
    ((m n : ℕ) → l ≡ CertLine.Clash m n → ⊥) →
    ways_with sorts facts added (line_in trees l) ≡ adding added
theory_adds sorts trees facts added (line.Both n) both either cases order close clash = absurd (both n refl)
theory_adds sorts trees facts added (line.Either n) both either cases order close clash = absurd (either n refl)
theory_adds sorts trees facts added (line.Cases t u) both either cases order close clash = absurd (cases t u refl)
theory_adds sorts trees facts added (line.Order n) both either cases order close clash = absurd (order n refl)
theory_adds sorts trees facts added (line.Close n) both either cases order close clash = absurd (close n refl)
theory_adds sorts trees facts added (line.Clash m n) both either cases order close clash = absurd (clash m n refl)
theory_adds sorts trees facts added (line.Refl t) both either cases order close clash = refl
theory_adds sorts trees facts added (line.Sym n) both either cases order close clash = refl
theory_adds sorts trees facts added (line.Trans m n) both either cases order close clash = refl
theory_adds sorts trees facts added (line.Subst m n) both either cases order close clash = refl
theory_adds sorts trees facts added (line.Cong t u ns) both either cases order close clash = refl
theory_adds sorts trees facts added (line.Same t u) both either cases order close clash = refl
theory_adds sorts trees facts added (line.Apart t u) both either cases order close clash = refl
theory_adds sorts trees facts added (line.Hit t n) both either cases order close clash = refl
theory_adds sorts trees facts added (line.Miss t u n) both either cases order close clash = refl
theory_adds sorts trees facts added (line.Lin n) both either cases order close clash = refl
theory_adds sorts trees facts added (line.Elim m n t) both either cases order close clash = refl
theory_adds sorts trees facts added (line.Tight n) both either cases order close clash = refl
theory_adds sorts trees facts added (line.Exact n) both either cases order close clash = refl

-- the first elements of a list and others
pub take_first : {X : Type 0} (xs ys : List X) → take (length xs) (xs ++ ys) ≡ xs
take_first [] ys = refl
take_first {X = X} (x ∷ xs) ys = ap (λ (rest : List X). x ∷ rest) (take_first xs ys)
