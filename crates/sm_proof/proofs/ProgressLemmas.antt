-- What is kept of a proof on its way: each term, formula and pending thing is sorted, and names new values of earlier nodes alone.
-- And what is shown of it in the end: each pending state is sound, and each pending branch is contradictory.
use Rattle.sm_proof.proofs.Imports.{◌≡◌, ◌≤◌, ℕ, zero, suc, Bool, true, false, Option, Some, None, Ok, Err, slice_get, List, [], ◌∷◌, ◌++◌, refl, subst, arith, same_Some, Copy, Sorts, Tree, Assertion, IsSorted, IsFormSorted, IsStoreSorted, IsBelow, IsFormBelow, AreFormsBelow, BranchFact, Formal, Sum, IsContradictory, as_facts, EachAtom, AreFactsSorted, IsFactBelow, AreFactsBelow, IsSound, IsStateBelow, IsStateSorted, state_later, found_or, tested_or, and_then, Pending, Due, Branch, Progress}
use Rattle.std.proofs.Common.{Result}
use Rattle.std.specs.Prelude.{ℤ}
use Rattle.sm_term.proofs.FreshLemmas.{tree_later, form_later}
use Rattle.sm_proof.specs.Named.{Word}

-- something is so of each element
abbrev pub Each : {T : Type 0} → (T → Type 0) → List T → Type 0
Each P [] = Unit {0}
Each P (x ∷ xs) = P x × Each P xs

-- a term is sorted and names no new value of node k or of a later one
abbrev pub IsTreeFine : Sorts → ℕ → Tree → Type 0
IsTreeFine sorts k t = IsSorted sorts t × IsBelow k t

-- a formula is sorted and names no new value of node k or of a later one
abbrev pub IsFormFine : Sorts → ℕ → Assertion → Type 0
IsFormFine sorts k f = IsFormSorted sorts f × IsFormBelow k f

-- what is pending is sorted and names no new value of node k or of a later one
abbrev pub IsPendingFine : Sorts → ℕ → Pending → Type 0
IsPendingFine sorts k (Due st above) = IsStateSorted sorts st × IsStateBelow k st
IsPendingFine sorts k (Branch stores facts splits) =
    ((c : Copy) → IsStoreSorted sorts (stores c))
    × ((c : Copy) (x : ℕ) → IsBelow k (stores c x))
    × AreFactsSorted sorts facts
    × AreFactsBelow k facts

-- all of a proof is sorted and names no new value but of its nodes
pub record IsFine (sorts : Sorts) (p : Progress) : Type 0 where
  pub terms : Each (IsTreeFine sorts p.nodes) p.terms
  pub forms : Each (IsFormFine sorts p.nodes) p.forms
  pub pending : Each (IsPendingFine sorts p.nodes) p.pending

-- a pending state is sound, and a pending branch is contradictory
abbrev pub IsShown : Pending → Type 0
IsShown (Due st above) = IsSound st
IsShown (Branch stores facts splits) = IsContradictory facts

-- a proof goes on to another that is fine too, and where all that is pending there is shown, it was shown here
pub record GoesOn (sorts : Sorts) (p q : Progress) : Type 0 where
  pub fine : IsFine sorts q
  pub shown : Each IsShown q.pending → Each IsShown p.pending

-- the element with a number
pub each_at : {T : Type 0} (P : T → Type 0) (xs : List T) (n : ℕ) (x : T) → Each P xs → slice_get xs n ≡ Some x → P x
each_at P [] n x all e = absurd cc
each_at P (y ∷ ys) zero x all e = subst P (same_Some y x e) all.0
each_at P (y ∷ ys) (suc n) x all e = each_at P ys n x all.1 e

-- elements one after the other
pub each_append : {T : Type 0} (P : T → Type 0) (xs ys : List T) → Each P xs → Each P ys → Each P (xs ++ ys)
each_append P [] ys first second = second
each_append P (x ∷ xs) ys first second = (first.0, each_append P xs ys first.1 second)

-- both parts of them
pub each_parts : {T : Type 0} (P : T → Type 0) (xs ys : List T) → Each P (xs ++ ys) → Each P xs × Each P ys
each_parts P [] ys all = (tt, all)
each_parts P (x ∷ xs) ys all = let both = each_parts P xs ys all.1 in ((all.0, both.0), both.1)

-- something else that follows
pub each_gives : {T : Type 0} (P Q : T → Type 0) (xs : List T) → ((x : T) → P x → Q x) → Each P xs → Each Q xs
each_gives P Q [] gives all = tt
each_gives P Q (x ∷ xs) gives all = (gives x all.0, each_gives P Q xs gives all.1)

-- what goes on to a good end was there
pub found_from : {S T : Type 0} (o : Option S) (w : Word) (next : S → Result T Word) (t : T) → found_or o w next ≡ Ok t
    → (s : S) × (o ≡ Some s) × (next s ≡ Ok t)
found_from None w next t e = absurd cc
found_from (Some s) w next t e = (s, refl, e)

-- so a test was passed
pub tested_from : {T : Type 0} (test : Bool) (w : Word) (r : Result T Word) (t : T) → tested_or test w r ≡ Ok t → (test ≡ true) × (r ≡ Ok t)
tested_from true w r t e = (refl, e)
tested_from false w r t e = absurd cc

-- what goes on to a good end was made
pub made_from : {S T : Type 0} (r : Result S Word) (next : S → Result T Word) (t : T) → and_then r next ≡ Ok t
    → (s : S) × (r ≡ Ok s) × (next s ≡ Ok t)
made_from (Err w) next t e = absurd cc
made_from (Ok s) next t e = (s, refl, e)

-- a good end is one alone
pub same_end : {T : Type 0} (s t : T) → ◌≡◌ {A = Result T Word} (Ok s) (Ok t) → s ≡ t
same_end s t e = cc

-- the atoms of a form later
atoms_later : (k l : ℕ) → k ≤ l → (ps : List (Tree × ℤ)) → EachAtom (IsBelow k) ps → EachAtom (IsBelow l) ps
atoms_later k l more [] all = tt
atoms_later k l more (p ∷ ps) all = (tree_later k l more p.0 all.0, atoms_later k l more ps all.1)

-- a fact later
fact_later : (k l : ℕ) → k ≤ l → (f : BranchFact) → IsFactBelow k f → IsFactBelow l f
fact_later k l more (Formal f) below = form_later k l more f below
fact_later k l more (Sum f) below = atoms_later k l more f.parts below

-- facts later
pub facts_later : (k l : ℕ) → k ≤ l → (fs : List BranchFact) → AreFactsBelow k fs → AreFactsBelow l fs
facts_later k l more [] all = tt
facts_later k l more (f ∷ fs) all = (fact_later k l more f all.0, facts_later k l more fs all.1)

-- facts one after the other
pub facts_below_append : (k : ℕ) (fs gs : List BranchFact) → AreFactsBelow k fs → AreFactsBelow k gs → AreFactsBelow k (fs ++ gs)
facts_below_append k [] gs first second = second
facts_below_append k (f ∷ fs) gs first second = (first.0, facts_below_append k fs gs first.1 second)

-- formulas as facts are below a node where the formulas are
pub as_facts_below : (k : ℕ) (fs : List Assertion) → AreFormsBelow k fs → AreFactsBelow k (as_facts fs)
as_facts_below k [] all = tt
as_facts_below k (f ∷ fs) all = (all.0, as_facts_below k fs all.1)

-- what is pending later
pub pending_later : (sorts : Sorts) (k : ℕ) (due : Pending) → IsPendingFine sorts k due → IsPendingFine sorts (suc k) due
pending_later sorts k (Due st above) fine = (fine.0, state_later k (suc k) st (omega arith) fine.1)
pending_later sorts k (Branch stores facts splits) fine = (
  fine.0,
  λ (c : Copy) (x : ℕ). tree_later k (suc k) (omega arith) (stores c x) (fine.1 c x),
  fine.2,
  facts_later k (suc k) (omega arith) facts fine.3,
)

-- terms later
pub terms_later : (sorts : Sorts) (k : ℕ) (ts : List Tree) → Each (IsTreeFine sorts k) ts → Each (IsTreeFine sorts (suc k)) ts
terms_later sorts k ts all =
    each_gives (IsTreeFine sorts k) (IsTreeFine sorts (suc k)) ts
    (λ (t : Tree) (fine : IsTreeFine sorts k t). (fine.0, tree_later k (suc k) (omega arith) t fine.1)) all

-- formulas later
pub forms_later : (sorts : Sorts) (k : ℕ) (fs : List Assertion) → Each (IsFormFine sorts k) fs → Each (IsFormFine sorts (suc k)) fs
forms_later sorts k fs all =
    each_gives (IsFormFine sorts k) (IsFormFine sorts (suc k)) fs
    (λ (f : Assertion) (fine : IsFormFine sorts k f). (fine.0, form_later k (suc k) (omega arith) f fine.1)) all

-- all that is pending later
pub all_later : (sorts : Sorts) (k : ℕ) (ps : List Pending) → Each (IsPendingFine sorts k) ps → Each (IsPendingFine sorts (suc k)) ps
all_later sorts k ps all = each_gives (IsPendingFine sorts k) (IsPendingFine sorts (suc k)) ps (pending_later sorts k) all
