-- The copies of a set, one after the other.
use Rattle.sm_moves.proofs.Imports.{◌≡◌, Bool, true, false, cond, List, [], ◌∷◌, ◌++◌, map, refl, flat_map, list_any, Code, Copy, O, A, B, M, is_copy, Copies, has, is_inhabited, choices, all_subsets, subsets, with_copy, no_copies, rest_after, moved_on}
use Rattle.std.specs.List.{filter}
use Rattle.sm_moves.specs.CopySets.{members}

-- the first statement of each copy of a list is done, one after the other
abbrev pub each_moved : List Copy → (Copy → Code) → Copy → Code
each_moved [] r = r
each_moved (c ∷ cs) r = each_moved cs (with_copy r c (rest_after 1 (r c)))

-- the code of each passes a test when it is that copy's turn
abbrev pub AreReady : (Code → Bool) → List Copy → (Copy → Code) → Type 0
AreReady test [] r = Unit {0}
AreReady test (c ∷ cs) r = (test (r c) ≡ true) × AreReady test cs (with_copy r c (rest_after 1 (r c)))

-- the set of which this is said
abbrev set_with : Bool → Bool → Bool → Bool → Copies
set_with o a b m = record { base = o; variant_a = a; variant_b = b; candidate = m }

-- all copies of a set are done in the end
members_moved : (o a b m : Bool) (r : Copy → Code) (d : Copy) →
    each_moved (members (set_with o a b m)) r d ≡ moved_on (set_with o a b m) r d
members_moved true true true true r O = refl
members_moved true true true true r A = refl
members_moved true true true true r B = refl
members_moved true true true true r M = refl
members_moved true true true false r O = refl
members_moved true true true false r A = refl
members_moved true true true false r B = refl
members_moved true true true false r M = refl
members_moved true true false true r O = refl
members_moved true true false true r A = refl
members_moved true true false true r B = refl
members_moved true true false true r M = refl
members_moved true true false false r O = refl
members_moved true true false false r A = refl
members_moved true true false false r B = refl
members_moved true true false false r M = refl
members_moved true false true true r O = refl
members_moved true false true true r A = refl
members_moved true false true true r B = refl
members_moved true false true true r M = refl
members_moved true false true false r O = refl
members_moved true false true false r A = refl
members_moved true false true false r B = refl
members_moved true false true false r M = refl
members_moved true false false true r O = refl
members_moved true false false true r A = refl
members_moved true false false true r B = refl
members_moved true false false true r M = refl
members_moved true false false false r O = refl
members_moved true false false false r A = refl
members_moved true false false false r B = refl
members_moved true false false false r M = refl
members_moved false true true true r O = refl
members_moved false true true true r A = refl
members_moved false true true true r B = refl
members_moved false true true true r M = refl
members_moved false true true false r O = refl
members_moved false true true false r A = refl
members_moved false true true false r B = refl
members_moved false true true false r M = refl
members_moved false true false true r O = refl
members_moved false true false true r A = refl
members_moved false true false true r B = refl
members_moved false true false true r M = refl
members_moved false true false false r O = refl
members_moved false true false false r A = refl
members_moved false true false false r B = refl
members_moved false true false false r M = refl
members_moved false false true true r O = refl
members_moved false false true true r A = refl
members_moved false false true true r B = refl
members_moved false false true true r M = refl
members_moved false false true false r O = refl
members_moved false false true false r A = refl
members_moved false false true false r B = refl
members_moved false false true false r M = refl
members_moved false false false true r O = refl
members_moved false false false true r A = refl
members_moved false false false true r B = refl
members_moved false false false true r M = refl
members_moved false false false false r O = refl
members_moved false false false false r A = refl
members_moved false false false false r B = refl
members_moved false false false false r M = refl

pub each_moved_is : (set : Copies) (r : Copy → Code) (d : Copy) → each_moved (members set) r d ≡ moved_on set r d
each_moved_is set = members_moved set.base set.variant_a set.variant_b set.candidate

-- each is ready where it was at first
members_ready : (o a b m : Bool) (test : Code → Bool) (r : Copy → Code) →
    ((c : Copy) → has (set_with o a b m) c ≡ true → test (r c) ≡ true) →
    AreReady test (members (set_with o a b m)) r
members_ready true true true true test r h = (h O refl, (h A refl, (h B refl, (h M refl, tt))))
members_ready true true true false test r h = (h O refl, (h A refl, (h B refl, tt)))
members_ready true true false true test r h = (h O refl, (h A refl, (h M refl, tt)))
members_ready true true false false test r h = (h O refl, (h A refl, tt))
members_ready true false true true test r h = (h O refl, (h B refl, (h M refl, tt)))
members_ready true false true false test r h = (h O refl, (h B refl, tt))
members_ready true false false true test r h = (h O refl, (h M refl, tt))
members_ready true false false false test r h = (h O refl, tt)
members_ready false true true true test r h = (h A refl, (h B refl, (h M refl, tt)))
members_ready false true true false test r h = (h A refl, (h B refl, tt))
members_ready false true false true test r h = (h A refl, (h M refl, tt))
members_ready false true false false test r h = (h A refl, tt)
members_ready false false true true test r h = (h B refl, (h M refl, tt))
members_ready false false true false test r h = (h B refl, tt)
members_ready false false false true test r h = (h M refl, tt)
members_ready false false false false test r h = tt

pub each_ready : (set : Copies) (test : Code → Bool) (r : Copy → Code) → ((c : Copy) → has set c ≡ true → test (r c) ≡ true) →
    AreReady test (members set) r
each_ready set = members_ready set.base set.variant_a set.variant_b set.candidate

-- each of a list
abbrev pub Each : {T : Type 0} → (T → Type 0) → List T → Type 0
Each P [] = Unit {0}
Each P (x ∷ xs) = P x × Each P xs

pub each_append : {T : Type 0} (P : T → Type 0) (xs ys : List T) → Each P xs → Each P ys → Each P (xs ++ ys)
each_append P [] ys h g = g
each_append P (x ∷ xs) ys h g = (h.0, each_append P xs ys h.1 g)

pub each_map : {T U : Type 0} (P : U → Type 0) (f : T → U) (xs : List T) → Each (λ (x : T). P (f x)) xs → Each P (map f xs)
each_map P f [] h = tt
each_map P f (x ∷ xs) h = (h.0, each_map P f xs h.1)

pub each_flat_map : {T U : Type 0} (P : U → Type 0) (f : T → List U) (xs : List T) → Each (λ (x : T). Each P (f x)) xs →
    Each P (flat_map f xs)
each_flat_map P f [] h = tt
each_flat_map P f (x ∷ xs) h = each_append P (f x) (flat_map f xs) h.0 (each_flat_map P f xs h.1)

pub each_filter : {T : Type 0} (P : T → Type 0) (test : T → Bool) (xs : List T) → Each P xs →
    Each (λ (x : T). (test x ≡ true) × P x) (filter test xs)
each_filter P test [] h = tt
each_filter {T} P test (x ∷ xs) h = by (test x) refl (each_filter P test xs h.1)
  where
    by : (b : Bool) → test x ≡ b → Each (λ (y : T). (test y ≡ true) × P y) (filter test xs) →
        Each (λ (y : T). (test y ≡ true) × P y) (cond b (x ∷ filter test xs) (filter test xs))
    by true e g = ((e, h.0), g)
    by false e g = g

-- what holds of each thing holds of each of a list
pub each_of_all : {T : Type 0} (P Q : T → Type 0) → ((x : T) → P x → Q x) → (xs : List T) → Each P xs → Each Q xs
each_of_all P Q go [] h = tt
each_of_all P Q go (x ∷ xs) h = (go x h.0, each_of_all P Q go xs h.1)

-- what holds of both choices that there may be
each_choice : (P : Bool → Type 0) (b : Bool) → ((v : Bool) → (v ≡ true → b ≡ true) → P v) → Each P (choices b)
each_choice P false go = (go false (λ (e : false ≡ true). e), tt)
each_choice P true go = (go false (λ (e : false ≡ true). refl), (go true (λ (e : true ≡ true). refl), tt))

-- the first set has no copy that the second hasn't
abbrev pub IsWithin : Copies → Copies → Type 0
IsWithin v set = (c : Copy) → has v c ≡ true → has set c ≡ true

within_parts : (set v : Copies) → (v.base ≡ true → set.base ≡ true) → (v.variant_a ≡ true → set.variant_a ≡ true) →
    (v.variant_b ≡ true → set.variant_b ≡ true) → (v.candidate ≡ true → set.candidate ≡ true) → IsWithin v set
within_parts set v o a b m O = o
within_parts set v o a b m A = a
within_parts set v o a b m B = b
within_parts set v o a b m M = m

-- each subset has a copy, and none that the set hasn't
pub each_subset : (set : Copies) → Each (λ (v : Copies). (is_inhabited v ≡ true) × IsWithin v set) (subsets set)
each_subset set =
    each_filter (λ (v : Copies). IsWithin v set) is_inhabited (all_subsets set)
    (each_flat_map _ _ (choices set.candidate) (each_choice _ set.candidate (λ (m : Bool) (hm : m ≡ true → set.candidate ≡ true).
    each_flat_map _ _ (choices set.variant_b) (each_choice _ set.variant_b (λ (b : Bool) (hb : b ≡ true → set.variant_b ≡ true).
    each_flat_map _ _ (choices set.variant_a) (each_choice _ set.variant_a (λ (a : Bool) (ha : a ≡ true → set.variant_a ≡ true).
    each_map _ _ (choices set.base) (each_choice _ set.base (λ (o : Bool) (ho : o ≡ true → set.base ≡ true).
    within_parts set (set_with o a b m) ho ha hb hm)))))))))

-- whether a copy is in a list
abbrev pub IsOneOf : List Copy → Copy → Bool
IsOneOf cs c = list_any (is_copy c) cs

-- each of a list is in a set and was not taken, and none stands twice
abbrev pub Waits : Copies → List Copy → Copies → Type 0
Waits set [] taken = Unit {0}
Waits set (c ∷ cs) taken = (has set c ≡ true) × ((has taken c ≡ false) × ((IsOneOf cs c ≡ false) × Waits set cs taken))

pub other_copies : (c d : Copy) → is_copy c d ≡ false → is_copy d c ≡ false
other_copies O O e = e
other_copies O A e = e
other_copies O B e = e
other_copies O M e = e
other_copies A O e = e
other_copies A A e = e
other_copies A B e = e
other_copies A M e = e
other_copies B O e = e
other_copies B A e = e
other_copies B B e = e
other_copies B M e = e
other_copies M O e = e
other_copies M A e = e
other_copies M B e = e
other_copies M M e = e

-- a copy is among the members exactly where it is in the set
among : (o a b m : Bool) (d : Copy) → IsOneOf (members (set_with o a b m)) d ≡ has (set_with o a b m) d
among true true true true O = refl
among true true true true A = refl
among true true true true B = refl
among true true true true M = refl
among true true true false O = refl
among true true true false A = refl
among true true true false B = refl
among true true true false M = refl
among true true false true O = refl
among true true false true A = refl
among true true false true B = refl
among true true false true M = refl
among true true false false O = refl
among true true false false A = refl
among true true false false B = refl
among true true false false M = refl
among true false true true O = refl
among true false true true A = refl
among true false true true B = refl
among true false true true M = refl
among true false true false O = refl
among true false true false A = refl
among true false true false B = refl
among true false true false M = refl
among true false false true O = refl
among true false false true A = refl
among true false false true B = refl
among true false false true M = refl
among true false false false O = refl
among true false false false A = refl
among true false false false B = refl
among true false false false M = refl
among false true true true O = refl
among false true true true A = refl
among false true true true B = refl
among false true true true M = refl
among false true true false O = refl
among false true true false A = refl
among false true true false B = refl
among false true true false M = refl
among false true false true O = refl
among false true false true A = refl
among false true false true B = refl
among false true false true M = refl
among false true false false O = refl
among false true false false A = refl
among false true false false B = refl
among false true false false M = refl
among false false true true O = refl
among false false true true A = refl
among false false true true B = refl
among false false true true M = refl
among false false true false O = refl
among false false true false A = refl
among false false true false B = refl
among false false true false M = refl
among false false false true O = refl
among false false false true A = refl
among false false false true B = refl
among false false false true M = refl
among false false false false O = refl
among false false false false A = refl
among false false false false B = refl
among false false false false M = refl

pub among_members : (set : Copies) (d : Copy) → IsOneOf (members set) d ≡ has set d
among_members set = among set.base set.variant_a set.variant_b set.candidate

-- the members wait where none was taken
wait : (o a b m : Bool) → Waits (set_with o a b m) (members (set_with o a b m)) no_copies
wait true true true true = (refl, (refl, (refl, (refl, (refl, (refl, (refl, (refl, (refl, (refl, (refl, (refl, tt))))))))))))
wait true true true false = (refl, (refl, (refl, (refl, (refl, (refl, (refl, (refl, (refl, tt)))))))))
wait true true false true = (refl, (refl, (refl, (refl, (refl, (refl, (refl, (refl, (refl, tt)))))))))
wait true true false false = (refl, (refl, (refl, (refl, (refl, (refl, tt))))))
wait true false true true = (refl, (refl, (refl, (refl, (refl, (refl, (refl, (refl, (refl, tt)))))))))
wait true false true false = (refl, (refl, (refl, (refl, (refl, (refl, tt))))))
wait true false false true = (refl, (refl, (refl, (refl, (refl, (refl, tt))))))
wait true false false false = (refl, (refl, (refl, tt)))
wait false true true true = (refl, (refl, (refl, (refl, (refl, (refl, (refl, (refl, (refl, tt)))))))))
wait false true true false = (refl, (refl, (refl, (refl, (refl, (refl, tt))))))
wait false true false true = (refl, (refl, (refl, (refl, (refl, (refl, tt))))))
wait false true false false = (refl, (refl, (refl, tt)))
wait false false true true = (refl, (refl, (refl, (refl, (refl, (refl, tt))))))
wait false false true false = (refl, (refl, (refl, tt)))
wait false false false true = (refl, (refl, (refl, tt)))
wait false false false false = tt

pub members_wait : (set : Copies) → Waits set (members set) no_copies
members_wait set = wait set.base set.variant_a set.variant_b set.candidate
