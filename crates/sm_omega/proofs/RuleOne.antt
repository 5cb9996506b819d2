-- The first equation of a list and the forms beside it, its part with the least coefficient, and facts
-- of items that are made of forms.
use Rattle.sm_omega.proofs.Imports.{◌≡◌, ℕ, false, Some, List, [], ◌∷◌, map, refl, Linear, Eq, Outcome, Fits, Leaves, has_no_part, Gives, Item, first_equation}
use Rattle.sm_omega.proofs.EachLemmas.{each_always}
use Rattle.sm_omega.proofs.FoundLemmas.{found_is, found_all}
use Rattle.sm_omega.proofs.Predicates.{EachOf}

-- two facts of each item that is made of a form are one of the form
pub each_unmade : (P : Linear ℕ → Type 0) (Q R : Item → Type 0) (item : Linear ℕ → Item) →
    ((f : Linear ℕ) → Q (item f) → R (item f) → P f) → (fs : List (Linear ℕ)) → EachOf Q (map item fs) → EachOf R (map item fs) →
    EachOf P fs
each_unmade P Q R item step [] first second = tt
each_unmade P Q R item step (f ∷ fs) first second =
    (step f first.0 second.0, each_unmade P Q R item step fs first.1 second.1)

-- what each result has that fits
pub gives_each : {S : Type 0} (P : S → Type 0) (outcome : Outcome S) → ((s : S) → outcome ≡ Fits s → P s) → Gives P outcome
gives_each P (Fits s) each = each s refl
gives_each P (Leaves op y z) each = tt

-- a form that is found is an equation with parts, and a fact of each form is one of it and of those
-- beside it
pub record StandsBeside (P : Linear ℕ → Type 0) (fs : List (Linear ℕ)) (e : Linear ℕ) (gs : List (Linear ℕ)) : Type 0 where
  pub equation : e.kind ≡ Eq
  pub some : has_no_part e.parts ≡ false
  pub apart : EachOf P fs → P e × EachOf P gs
  pub again : P e → EachOf P gs → EachOf P fs

-- the first equation is so found
pub found : (P : Linear ℕ → Type 0) (fs : List (Linear ℕ)) (e : Linear ℕ) (gs : List (Linear ℕ)) →
    first_equation fs ≡ Some (e, gs) → StandsBeside P fs e gs
found P fs e gs eq =
    let bare = found_is (λ (f : Linear ℕ). Unit {0}) fs e gs (each_always (λ (f : Linear ℕ). Unit {0}) (λ f. tt) fs) eq in
    record {
      equation = bare.kind;
      some = bare.some;
      apart = λ (each : EachOf P fs). let is = found_is P fs e gs each eq in (is.first, is.rest);
      again = found_all P fs e gs eq;
    }
