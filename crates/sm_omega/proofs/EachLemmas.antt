-- Facts of each element of a list.
use Rattle.sm_omega.proofs.Imports.{◌≡◌, ℕ, Bool, true, false, if◌then◌else◌, List, [], ◌∷◌, ◌++◌, map, filter, refl, Linear, HoldsAt, Values, AllHold}
use Rattle.sm_omega.proofs.Predicates.{EachOf}

module _ {A : Type 0} where
  -- what is so of everything
  pub each_always : (P : A → Type 0) → ((x : A) → P x) → (xs : List A) → EachOf P xs
  each_always P step [] = tt
  each_always P step (x ∷ xs) = (step x, each_always P step xs)

  -- a weaker fact
  pub each_weaker : (P Q : A → Type 0) → ((x : A) → P x → Q x) → (xs : List A) → EachOf P xs → EachOf Q xs
  each_weaker P Q step [] each = tt
  each_weaker P Q step (x ∷ xs) each = (step x each.0, each_weaker P Q step xs each.1)

  -- one that two facts give
  pub each_two : (P Q R : A → Type 0) → ((x : A) → P x → Q x → R x) → (xs : List A) → EachOf P xs → EachOf Q xs → EachOf R xs
  each_two P Q R step [] first second = tt
  each_two P Q R step (x ∷ xs) first second = (step x first.0 second.0, each_two P Q R step xs first.1 second.1)

  -- one that three give
  pub each_three : (P Q R S : A → Type 0) → ((x : A) → P x → Q x → R x → S x) → (xs : List A) → EachOf P xs → EachOf Q xs → EachOf R xs →
      EachOf S xs
  each_three P Q R S step [] first second third = tt
  each_three P Q R S step (x ∷ xs) first second third =
      (step x first.0 second.0 third.0, each_three P Q R S step xs first.1 second.1 third.1)

  -- a fact of each stays where elements go
  pub each_filter : (P : A → Type 0) (test : A → Bool) (xs : List A) → EachOf P xs → EachOf P (filter test xs)
  each_filter P test [] each = tt
  each_filter P test (x ∷ xs) each = by (test x) (each_filter P test xs each.1)
    where
      by : (b : Bool) → EachOf P (filter test xs) → EachOf P (if b then x ∷ filter test xs else filter test xs)
      by true rest = (each.0, rest)
      by false rest = rest

  -- each that is chosen passes the test
  pub filter_passes : (test : A → Bool) (xs : List A) → EachOf (λ (x : A). test x ≡ true) (filter test xs)
  filter_passes test [] = tt
  filter_passes test (x ∷ xs) = by (test x) refl (filter_passes test xs)
    where
      by : (b : Bool) → test x ≡ b → EachOf (λ (y : A). test y ≡ true) (filter test xs) →
          EachOf (λ (y : A). test y ≡ true) (if b then x ∷ filter test xs else filter test xs)
      by true e rest = (e, rest)
      by false e rest = rest

  -- a fact of each of two lists is one of both together
  pub each_append : (P : A → Type 0) (xs ys : List A) → EachOf P xs → EachOf P ys → EachOf P (xs ++ ys)
  each_append P [] ys first second = second
  each_append P (x ∷ xs) ys first second = (first.0, each_append P xs ys first.1 second)

  -- a fact of each of two lists together is one of each of the first, and of each of the second
  pub each_front : (P : A → Type 0) (xs ys : List A) → EachOf P (xs ++ ys) → EachOf P xs
  each_front P [] ys each = tt
  each_front P (x ∷ xs) ys each = (each.0, each_front P xs ys each.1)

  pub each_back : (P : A → Type 0) (xs ys : List A) → EachOf P (xs ++ ys) → EachOf P ys
  each_back P [] ys each = each
  each_back P (x ∷ xs) ys each = each_back P xs ys each.1

  -- a fact of each gives one of each that is made of it
  pub each_made : {B : Type 0} (P : A → Type 0) (Q : B → Type 0) (f : A → B) → ((x : A) → P x → Q (f x)) → (xs : List A) → EachOf P xs →
      EachOf Q (map f xs)
  each_made P Q f step [] each = tt
  each_made P Q f step (x ∷ xs) each = (step x each.0, each_made P Q f step xs each.1)

  -- a fact of each result of a function
  pub each_map : {B : Type 0} (P : B → Type 0) (f : A → B) (xs : List A) → EachOf (λ (x : A). P (f x)) xs → EachOf P (map f xs)
  each_map P f [] each = tt
  each_map P f (x ∷ xs) each = (each.0, each_map P f xs each.1)

  pub each_unmap : {B : Type 0} (P : B → Type 0) (f : A → B) (xs : List A) → EachOf P (map f xs) → EachOf (λ (x : A). P (f x)) xs
  each_unmap P f [] each = tt
  each_unmap P f (x ∷ xs) each = (each.0, each_unmap P f xs each.1)

-- forms that all hold each hold
pub all_each : (v : Values) (fs : List (Linear ℕ)) → AllHold v fs → EachOf (λ (f : Linear ℕ). HoldsAt v f) fs
all_each v [] all = tt
all_each v (f ∷ fs) all = (all.0, all_each v fs all.1)

pub each_all : (v : Values) (fs : List (Linear ℕ)) → EachOf (λ (f : Linear ℕ). HoldsAt v f) fs → AllHold v fs
each_all v [] each = tt
each_all v (f ∷ fs) each = (each.0, each_all v fs each.1)
