-- Lines that make terms and formulas keep a proof fine: what they make is sorted, and names only what is there.
use Rattle.sm_proof.proofs.Imports.{◌≡◌, ℕ, Bool, true, false, ◌&&◌, if◌then◌else◌, ◌==◌, Option, Some, Ok, slice_get, List, is_some, refl, sym, subst, same_Some, and_parts, Copy, copy_of, Sorts, Tree, Start, Havoc, Slot, Cell, Read, Write, Neg, Add, Sub, Mul, Fun, Arguments, Over, Given, Assertion, Yes, No, Eq, Ne, Le, Lt, And, Or, IsDeclaredIn, tree_sort, IsSorted, AreArgumentsSorted, HasSort, IsBelow, AreBelow, BranchFact, Formal, followed, formula_in, fact_is_sorted, fact_is_below, followed_from, formula_stands, found_or, tested_or, BadNumber, First, Pending, Due, Branch, present_term, compared, side_of, term_of_fact, of_name, with_tree, is_of, of_two, term_made, form_about, form_from, have_one_sort, are_numbers, form_made}
use Rattle.std.proofs.Common.{Result}
use Rattle.sm_syntax.specs.declared.tree.Sort.{Sort}
use Rattle.sm_syntax.specs.declared.tree.Sort.TheVariants.{Num, Arr}
use Rattle.sm_term.specs.Terms.{Lit}
use Rattle.sm_term.specs.Heads.{terms_given, arguments_of}
use Rattle.sm_term.proofs.SameTermsLemmas.{same_sort_is}
use Rattle.sm_plan.proofs.SortedTerms.{of_declared}
use Rattle.sm_proof.specs.declared.line.FormLine.{FormLine}
use Rattle.sm_proof.specs.declared.line.FormLine.TheVariants as form
use Rattle.sm_proof.specs.declared.line.TermLine.{TermLine}
use Rattle.sm_proof.specs.declared.line.TermLine.TheVariants as term
use Rattle.sm_proof.specs.declared.word.Head.TheVariants as head
use Rattle.sm_proof.specs.Named.{Word}
use Rattle.sm_proof.proofs.ProgressLemmas.{Each, IsTreeFine, IsFormFine, IsPendingFine, each_at, found_from, tested_from, same_end}

-- the arguments of a summary
given_fine : (sorts : Sorts) (k : ℕ) (args : Arguments) → AreArgumentsSorted sorts args → AreBelow k args
    → Each (IsTreeFine sorts k) (terms_given args)
given_fine sorts k Over sorted below = tt
given_fine sorts k (Given x t rest) sorted below = ((sorted.1, below.0), given_fine sorts k rest sorted.2 below.1)

-- the arguments of a term
arguments_fine : (sorts : Sorts) (k : ℕ) (t : Tree) → IsTreeFine sorts k t → Each (IsTreeFine sorts k) (arguments_of t)
arguments_fine sorts k (Lit z) fine = tt
arguments_fine sorts k (Start x) fine = tt
arguments_fine sorts k (Havoc j c x) fine = tt
arguments_fine sorts k (Slot c x) fine = tt
arguments_fine sorts k Cell fine = tt
arguments_fine sorts k (Read a i) fine = ((fine.0.0, fine.1.0), ((fine.0.2, fine.1.1), tt))
arguments_fine sorts k (Write a i e) fine = ((fine.0.0, fine.1.0), ((fine.0.2, fine.1.1), ((fine.0.4, fine.1.2), tt)))
arguments_fine sorts k (Neg t) fine = ((fine.0.0, fine.1), tt)
arguments_fine sorts k (Add t u) fine = ((fine.0.0, fine.1.0), ((fine.0.2, fine.1.1), tt))
arguments_fine sorts k (Sub t u) fine = ((fine.0.0, fine.1.0), ((fine.0.2, fine.1.1), tt))
arguments_fine sorts k (Mul t u) fine = ((fine.0.0, fine.1.0), ((fine.0.2, fine.1.1), tt))
arguments_fine sorts k (Fun c x args) fine = given_fine sorts k args fine.0.2 fine.1

-- both terms of a pair
abbrev IsPairFine : Sorts → ℕ → Tree × Tree → Type 0
IsPairFine sorts k pair = IsTreeFine sorts k pair.0 × IsTreeFine sorts k pair.1

-- the terms that a formula compares
compared_fine : (sorts : Sorts) (k : ℕ) (f : Assertion) (pair : Tree × Tree) → IsFormFine sorts k f → compared f ≡ Some pair
    → IsPairFine sorts k pair
compared_fine sorts k Yes pair fine e = absurd cc
compared_fine sorts k No pair fine e = absurd cc
compared_fine sorts k (Eq sort t u) pair fine e =
    subst (IsPairFine sorts k) (same_Some (t, u) pair e) ((fine.0.0.0, fine.1.0), (fine.0.1.0, fine.1.1))
compared_fine sorts k (Ne sort t u) pair fine e =
    subst (IsPairFine sorts k) (same_Some (t, u) pair e) ((fine.0.0.0, fine.1.0), (fine.0.1.0, fine.1.1))
compared_fine sorts k (Le t u) pair fine e =
    subst (IsPairFine sorts k) (same_Some (t, u) pair e) ((fine.0.0.0, fine.1.0), (fine.0.1.0, fine.1.1))
compared_fine sorts k (Lt t u) pair fine e =
    subst (IsPairFine sorts k) (same_Some (t, u) pair e) ((fine.0.0.0, fine.1.0), (fine.0.1.0, fine.1.1))
compared_fine sorts k (And p q) pair fine e = absurd cc
compared_fine sorts k (Or p q) pair fine e = absurd cc

-- one of the two
side_fine : (sorts : Sorts) (k side : ℕ) (pair : Tree × Tree) → IsPairFine sorts k pair → IsTreeFine sorts k (side_of side pair)
side_fine sorts k side pair fine = of (side == 0)
  where
    of : (left : Bool) → IsTreeFine sorts k (if left then pair.0 else pair.1)
    of true = fine.0
    of false = fine.1

-- a term of a fact
of_fact_fine : (sorts : Sorts) (k : ℕ) (due : Pending) (n side : ℕ) (t : Tree) → IsPendingFine sorts k due → term_of_fact due n side ≡ Ok t
    → IsTreeFine sorts k t
of_fact_fine sorts k (Due st above) n side t fine e = absurd cc
of_fact_fine sorts k (Branch stores facts splits) n side t fine e =
    let a = found_from (slice_get facts n) BadNumber
    (λ (g : BranchFact). found_or (followed (formula_in g) compared) (First head.T) (λ (pair : Tree × Tree). Ok (side_of side pair))) t e in
    let b = found_from (followed (formula_in a.0) compared) (First head.T) (λ (pair : Tree × Tree). Ok (side_of side pair)) t a.2 in
    let f = followed_from (formula_in a.0) compared b.0 b.1 in
    let stands =
    formula_stands facts n f.0 (subst (λ (o : Option BranchFact). followed o formula_in ≡ Some f.0) (sym a.1) f.1) in
    let formula : IsFormFine sorts k f.0 =
    (fact_is_sorted sorts facts n (Formal f.0) fine.2 stands, fact_is_below k facts n (Formal f.0) fine.3 stands) in
    subst (IsTreeFine sorts k) (same_end (side_of side b.0) t b.2) (side_fine sorts k side b.0 (compared_fine sorts k f.0 b.0 formula f.2))

-- the present term of a declared name
present_fine : (sorts : Sorts) (k : ℕ) (due : Pending) (c : Copy) (x : ℕ) → IsPendingFine sorts k due → IsDeclaredIn sorts x
    → IsTreeFine sorts k (present_term due c x)
present_fine sorts k (Due st above) c x fine declared =
    ((of_declared sorts (st.stores c) (fine.0.stores c) x declared).0, fine.1.stores c x)
present_fine sorts k (Branch stores facts splits) c x fine declared =
    ((of_declared sorts (stores c) (fine.0 c) x declared).0, fine.1 c x)

-- a term of a name: the name is declared
name_fine : (sorts : Sorts) (k x : ℕ) (t u : Tree) → (IsDeclaredIn sorts x → IsTreeFine sorts k t) → of_name sorts x t ≡ Ok u
    → IsTreeFine sorts k u
name_fine sorts k x t u fine e =
    let p = tested_from (is_some (sorts x)) BadNumber (Ok t) u e in subst (IsTreeFine sorts k) (same_end t u p.1) (fine p.0)

-- a term that has a sort by the test
pub has_sort : (sorts : Sorts) (sort : Sort) (t : Tree) → is_of sorts sort t ≡ true → tree_sort sorts t ≡ sort
has_sort sorts sort t e = (same_sort_is (tree_sort sorts t) sort).0 e

-- a term with a number is fine
tree_from : (sorts : Sorts) (k : ℕ) (terms : List Tree) (n : ℕ) (next : Tree → Result Tree Word) (u : Tree) →
    Each (IsTreeFine sorts k) terms → with_tree terms n next ≡ Ok u →
    (t : Tree) × IsTreeFine sorts k t × (next t ≡ Ok u)
tree_from sorts k terms n next u all e =
    let p = found_from (slice_get terms n) BadNumber next u e in (p.0, each_at (IsTreeFine sorts k) terms n p.0 all p.1, p.2)

-- an operation on two numbers
two_fine : (sorts : Sorts) (k : ℕ) (terms : List Tree) (n m : ℕ) (operation : Tree → Tree → Tree) (r : Tree) →
    Each (IsTreeFine sorts k) terms → of_two sorts terms n m operation ≡ Ok r →
    ((t u : Tree) → IsTreeFine sorts k t → tree_sort sorts t ≡ Num → IsTreeFine sorts k u → tree_sort sorts u ≡ Num →
    IsTreeFine sorts k (operation t u)) →
    IsTreeFine sorts k r
two_fine sorts k terms n m operation r all e makes =
    let end = λ (t u : Tree). tested_or (is_of sorts Num t && is_of sorts Num u) (First head.T) (Ok (operation t u)) in
    let a = tree_from sorts k terms n (λ (t : Tree). with_tree terms m (end t)) r all e in
    let b = tree_from sorts k terms m (end a.0) r all a.2 in
    let p = tested_from (is_of sorts Num a.0 && is_of sorts Num b.0) (First head.T) (Ok (operation a.0 b.0)) r b.2 in
    let q = and_parts (is_of sorts Num a.0) (is_of sorts Num b.0) p.0 in
    subst (IsTreeFine sorts k) (same_end (operation a.0 b.0) r p.1)
    (makes a.0 b.0 a.1 (has_sort sorts Num a.0 q.0) b.1 (has_sort sorts Num b.0 q.1))

-- what an operation on two numbers needs
numbers_fine : (sorts : Sorts) (k : ℕ) (t u : Tree) → IsTreeFine sorts k t → tree_sort sorts t ≡ Num → IsTreeFine sorts k u →
    tree_sort sorts u ≡ Num →
    (IsSorted sorts t × (tree_sort sorts t ≡ Num) × IsSorted sorts u × (tree_sort sorts u ≡ Num)) × (IsBelow k t × IsBelow k u)
numbers_fine sorts k t u left number right other = ((left.0, number, right.0, other), (left.1, right.1))

-- the term that a line makes is sorted, and names no later new value than what is there
pub term_made_fine : (sorts : Sorts) (k : ℕ) (terms : List Tree) (due : Pending) (line : TermLine) (r : Tree) →
    Each (IsTreeFine sorts k) terms → IsPendingFine sorts k due → term_made sorts terms due line ≡ Ok r →
    IsTreeFine sorts k r
term_made_fine sorts k terms due (term.Lit z) r all fine e = subst (IsTreeFine sorts k) (same_end (Lit z) r e) (tt, tt)
term_made_fine sorts k terms due (term.Start x) r all fine e =
    name_fine sorts k x (Start x) r (λ (declared : IsDeclaredIn sorts x). (declared, tt)) e
term_made_fine sorts k terms due term.Cell r all fine e = subst (IsTreeFine sorts k) (same_end Cell r e) (tt, tt)
term_made_fine sorts k terms due (term.Slot c x) r all fine e =
    name_fine sorts k x (Slot (copy_of c) x) r (λ (declared : IsDeclaredIn sorts x). (declared, tt)) e
term_made_fine sorts k terms due (term.Cur c x) r all fine e =
    name_fine sorts k x (present_term due (copy_of c) x) r (present_fine sorts k due (copy_of c) x fine) e
term_made_fine sorts k terms due (term.Of n side) r all fine e = of_fact_fine sorts k due n side r fine e
term_made_fine sorts k terms due (term.Arg n place) r all fine e =
    let a = tree_from sorts k terms n (λ (t : Tree). found_or (slice_get (arguments_of t) place) (First head.T) Ok) r all e in
    let b = found_from (slice_get (arguments_of a.0) place) (First head.T) Ok r a.2 in
    subst (IsTreeFine sorts k) (same_end b.0 r b.2)
    (each_at (IsTreeFine sorts k) (arguments_of a.0) place b.0 (arguments_fine sorts k a.0 a.1) b.1)
term_made_fine sorts k terms due (term.Read n m) r all fine e =
    let end = λ (a i : Tree). tested_or (is_of sorts Arr a && is_of sorts Num i) (First head.T) (Ok (Read a i)) in
    let a = tree_from sorts k terms n (λ (t : Tree). with_tree terms m (end t)) r all e in
    let i = tree_from sorts k terms m (end a.0) r all a.2 in
    let p = tested_from (is_of sorts Arr a.0 && is_of sorts Num i.0) (First head.T) (Ok (Read a.0 i.0)) r i.2 in
    let q = and_parts (is_of sorts Arr a.0) (is_of sorts Num i.0) p.0 in
    subst (IsTreeFine sorts k) (same_end (Read a.0 i.0) r p.1)
    ((a.1.0, has_sort sorts Arr a.0 q.0, i.1.0, has_sort sorts Num i.0 q.1), (a.1.1, i.1.1))
term_made_fine sorts k terms due (term.Write n m o) r all fine e =
    let end =
    λ (a i v : Tree). tested_or (is_of sorts Arr a && (is_of sorts Num i && is_of sorts Num v)) (First head.T) (Ok (Write a i v)) in
    let a = tree_from sorts k terms n (λ (t : Tree). with_tree terms m (λ (u : Tree). with_tree terms o (end t u))) r all e in
    let i = tree_from sorts k terms m (λ (u : Tree). with_tree terms o (end a.0 u)) r all a.2 in
    let v = tree_from sorts k terms o (end a.0 i.0) r all i.2 in
    let p =
    tested_from (is_of sorts Arr a.0 && (is_of sorts Num i.0 && is_of sorts Num v.0)) (First head.T) (Ok (Write a.0 i.0 v.0)) r v.2 in
    let q = and_parts (is_of sorts Arr a.0) (is_of sorts Num i.0 && is_of sorts Num v.0) p.0 in
    let s = and_parts (is_of sorts Num i.0) (is_of sorts Num v.0) q.1 in
    subst (IsTreeFine sorts k) {x = Write a.0 i.0 v.0} (same_end (Write a.0 i.0 v.0) r p.1) (
      (a.1.0, has_sort sorts Arr a.0 q.0, i.1.0, has_sort sorts Num i.0 s.0, v.1.0, has_sort sorts Num v.0 s.1),
      (a.1.1, i.1.1, v.1.1),
    )
term_made_fine sorts k terms due (term.Neg n) r all fine e =
    let a = tree_from sorts k terms n (λ (t : Tree). tested_or (is_of sorts Num t) (First head.T) (Ok (Neg t))) r all e in
    let p = tested_from (is_of sorts Num a.0) (First head.T) (Ok (Neg a.0)) r a.2 in
    subst (IsTreeFine sorts k) (same_end (Neg a.0) r p.1) ((a.1.0, has_sort sorts Num a.0 p.0), a.1.1)
term_made_fine sorts k terms due (term.Add n m) r all fine e =
    two_fine sorts k terms n m Add r all e (numbers_fine sorts k)
term_made_fine sorts k terms due (term.Sub n m) r all fine e =
    two_fine sorts k terms n m Sub r all e (numbers_fine sorts k)
term_made_fine sorts k terms due (term.Mul n m) r all fine e =
    two_fine sorts k terms n m Mul r all e (numbers_fine sorts k)

-- a formula about two terms that are there
about_from : (sorts : Sorts) (k : ℕ) (terms : List Tree) (n m : ℕ) (test : Tree → Tree → Bool) (makes : Tree → Tree → Assertion)
    (r : Assertion) →
    Each (IsTreeFine sorts k) terms → form_about terms n m test makes ≡ Ok r →
    ((t u : Tree) → IsTreeFine sorts k t → IsTreeFine sorts k u → test t u ≡ true → IsFormFine sorts k (makes t u)) →
    IsFormFine sorts k r
about_from sorts k terms n m test makes r all e fine =
    let end = λ (t u : Tree). tested_or (test t u) (First head.P) (Ok (makes t u)) in
    let a = found_from (slice_get terms n) BadNumber (λ (t : Tree). found_or (slice_get terms m) BadNumber (end t)) r e in
    let b = found_from (slice_get terms m) BadNumber (end a.0) r a.2 in
    let p = tested_from (test a.0 b.0) (First head.P) (Ok (makes a.0 b.0)) r b.2 in
    subst (IsFormFine sorts k) (same_end (makes a.0 b.0) r p.1)
    (fine a.0 b.0 (each_at (IsTreeFine sorts k) terms n a.0 all a.1) (each_at (IsTreeFine sorts k) terms m b.0 all b.1) p.0)

-- a formula of two that are there
from_two : (sorts : Sorts) (k : ℕ) (forms : List Assertion) (n m : ℕ) (makes : Assertion → Assertion → Assertion) (r : Assertion) →
    Each (IsFormFine sorts k) forms → form_from forms n m makes ≡ Ok r →
    ((f g : Assertion) → IsFormFine sorts k f → IsFormFine sorts k g → IsFormFine sorts k (makes f g)) →
    IsFormFine sorts k r
from_two sorts k forms n m makes r all e fine =
    let end : Assertion → Assertion → Result Assertion Word = λ (f g : Assertion). Ok (makes f g) in
    let a = found_from (slice_get forms n) BadNumber (λ (f : Assertion). found_or (slice_get forms m) BadNumber (end f)) r e in
    let b = found_from (slice_get forms m) BadNumber (end a.0) r a.2 in
    subst (IsFormFine sorts k) (same_end (makes a.0 b.0) r b.2)
    (fine a.0 b.0 (each_at (IsFormFine sorts k) forms n a.0 all a.1) (each_at (IsFormFine sorts k) forms m b.0 all b.1))

-- two terms of one sort
one_sort : (sorts : Sorts) (k : ℕ) (t u : Tree) → IsTreeFine sorts k t → IsTreeFine sorts k u → have_one_sort sorts t u ≡ true →
    (HasSort sorts (tree_sort sorts t) t × HasSort sorts (tree_sort sorts t) u) × (IsBelow k t × IsBelow k u)
one_sort sorts k t u left right e =
    (((left.0, refl), (right.0, sym ((same_sort_is (tree_sort sorts t) (tree_sort sorts u)).0 e))), (left.1, right.1))

-- two numbers
both_numbers : (sorts : Sorts) (k : ℕ) (t u : Tree) → IsTreeFine sorts k t → IsTreeFine sorts k u → are_numbers sorts t u ≡ true →
    (HasSort sorts Num t × HasSort sorts Num u) × (IsBelow k t × IsBelow k u)
both_numbers sorts k t u left right e =
    let q = and_parts (is_of sorts Num t) (is_of sorts Num u) e in
    (((left.0, has_sort sorts Num t q.0), (right.0, has_sort sorts Num u q.1)), (left.1, right.1))

-- the formula that a line makes is sorted, and names no later new value than what is there
pub form_made_fine : (sorts : Sorts) (k : ℕ) (terms : List Tree) (forms : List Assertion) (line : FormLine) (r : Assertion) →
    Each (IsTreeFine sorts k) terms → Each (IsFormFine sorts k) forms → form_made sorts terms forms line ≡ Ok r →
    IsFormFine sorts k r
form_made_fine sorts k terms forms form.Yes r all fine e = subst (IsFormFine sorts k) (same_end Yes r e) (tt, tt)
form_made_fine sorts k terms forms form.No r all fine e = subst (IsFormFine sorts k) (same_end No r e) (tt, tt)
form_made_fine sorts k terms forms (form.Eq n m) r all fine e =
    about_from sorts k terms n m (have_one_sort sorts) (λ (t u : Tree). Eq (tree_sort sorts t) t u) r all e (one_sort sorts k)
form_made_fine sorts k terms forms (form.Ne n m) r all fine e =
    about_from sorts k terms n m (have_one_sort sorts) (λ (t u : Tree). Ne (tree_sort sorts t) t u) r all e (one_sort sorts k)
form_made_fine sorts k terms forms (form.Le n m) r all fine e =
    about_from sorts k terms n m (are_numbers sorts) Le r all e (both_numbers sorts k)
form_made_fine sorts k terms forms (form.Lt n m) r all fine e =
    about_from sorts k terms n m (are_numbers sorts) Lt r all e (both_numbers sorts k)
form_made_fine sorts k terms forms (form.And n m) r all fine e =
    from_two sorts k forms n m And r fine e
    (λ (f g : Assertion) (left : IsFormFine sorts k f) (right : IsFormFine sorts k g). ((left.0, right.0), (left.1, right.1)))
form_made_fine sorts k terms forms (form.Or n m) r all fine e =
    from_two sorts k forms n m Or r fine e
    (λ (f g : Assertion) (left : IsFormFine sorts k f) (right : IsFormFine sorts k g). ((left.0, right.0), (left.1, right.1)))
