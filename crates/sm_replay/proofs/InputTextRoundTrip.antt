-- A written input is read back: the members that stand for a store are an input that gives it.
use Rattle.sm_replay.proofs.Imports.{◌≡◌, ◌≤◌, ℕ, ℤ, pos, Bool, true, false, ◌||◌, if◌then◌else◌, Option, Some, None, option_map, option_and_then, List, [], ◌∷◌, Ordering, Less, Equal, Greater, is_eq, refl, sym, ap, subst, ◌∙◌, true≢false, arith, fun_ext, Decides-int_eq, nat_list_cmp_total, tied_itself, is_eq-slice_cmp, bytes_eq-Decides, slice_cmp, signed_decimal, AllByRecursion, position, option_or, int_eq, match_ordering, bytes_eq, Data, object, Members, no_members, member, depth, members_depth, get, get_member, max_depth, has_float, members_have_float, fits, Sorts, Sort, Num, Arr, Number, Array, zero_value, Store, listed, StoredValue, Texts, name_of, declared_name, missing, cells_fault, value_fault, members_fault, number_or_zero, element, given, member_of, store_of, IsJson, IsInput, InputError, BadValue, BadIndex, IsInside, IsInsideAt, AreInside, number_of_text, json_number, StandsBefore, AreOrdered, number_text, cell_at, AreWrittenCells, IsWrittenAs, IsMemberOf, AreWritten, AreNamed}
use Rattle.std.proofs.Common.{unwrap_or, nat_cmp}
use Rattle.sm_syntax.specs.claim.Stores.{Value}
use Rattle.sm_eval.specs.StoredValues as stored_values
use Rattle.sm_eval.specs.StoredValues.{meaning, sorts_of}
use Rattle.sm_eval.specs.declared.stored_value.StoredValue.TheVariants as stored
use Rattle.sm_eval.specs.declared.store.Store as code
use Rattle.sm_replay.proofs.MembersLemmas.{by_place}
use Rattle.sm_replay.proofs.NumberUnique.{spells_itself}

-- ---- each of members that rise is found by its key

-- a fact of each member
abbrev pub AllMembers : (List ℕ → Data → Type 0) → Members → Type 0
AllMembers P no_members = Unit {0}
AllMembers P (member key d rest) = P key d × AllMembers P rest

-- a key is itself
pub same_text : (key : List ℕ) → slice_cmp nat_cmp key key ≡ Equal
same_text key = tied_itself nat_list_cmp_total key

-- a key that stands before others is not among them
pub before_all : (key : List ℕ) (rest : Members) → StandsBefore key rest → get_member key rest ≡ None
before_all key no_members h = refl
before_all key (member k d rest) h =
    ap (λ (o : Ordering). match_ordering o (get_member key rest) (Some d) (get_member key rest)) h.0 ∙ before_all key rest h.1

-- what is found among later members is found with one before
found_later : (key k : List ℕ) (d e : Data) (rest : Members) → StandsBefore k rest → get_member key rest ≡ Some e
    → get_member key (member k d rest) ≡ Some e
found_later key k d e rest before found = by (slice_cmp nat_cmp key k) refl
  where
    by : (o : Ordering) → slice_cmp nat_cmp key k ≡ o → match_ordering o (get_member key rest) (Some d) (get_member key rest) ≡ Some e
    by Less is = found
    by Equal is =
        let same : key ≡ k = (bytes_eq-Decides key k).0 (sym (is_eq-slice_cmp key k) ∙ ap is_eq is) in
        let none : get_member key rest ≡ None = ap (λ (t : List ℕ). get_member t rest) same ∙ before_all k rest before in
        absurd (let clash : None ≡ Some e = sym none ∙ found in cc)
    by Greater is = found

-- what holds of each member that is found holds of each member
all_found : (P : List ℕ → Data → Type 0) (members : Members) → AreOrdered members
    → ((key : List ℕ) (d : Data) → get_member key members ≡ Some d → P key d) → AllMembers P members
all_found P no_members ordered holds = tt
all_found P (member k d rest) ordered holds = (
  holds k d (ap (λ (o : Ordering). match_ordering o (get_member k rest) (Some d) (get_member k rest)) (same_text k)),
  all_found P rest ordered.1
      (λ (key : List ℕ) (e : Data) (found : get_member key rest ≡ Some e). holds key e (found_later key k d e rest ordered.0 found)),
)

-- ---- cells

-- a cell is a number at an index
record IsCell (f : ℤ → ℤ) (key : List ℕ) (d : Data) : Type 0 where
  index : ℤ
  key_is : number_of_text key ≡ Some index
  value_is : d ≡ number_text (f index)

-- a number that isn't 0 is written
cell_is : (f : ℤ → ℤ) (key : List ℕ) (d : Data) (o : Option ℤ) → number_of_text key ≡ o → cell_at f o ≡ Some d → IsCell f key d
cell_is f key d None is found = cc
cell_is f key d (Some i) is found = by (int_eq (f i) (pos 0)) found
  where
    by : (b : Bool) → (if b then None else Some (number_text (f i))) ≡ Some d → IsCell f key d
    by true found = cc
    by false found = let same : number_text (f i) ≡ d = cc in record { index = i; key_is = is; value_is = sym same }

all_cells : (f : ℤ → ℤ) (cells : Members) → AreWrittenCells f cells → AllMembers (IsCell f) cells
all_cells f cells written =
    all_found (IsCell f) cells written.ordered
    (λ (key : List ℕ) (d : Data) (found : get_member key cells ≡ Some d).
    cell_is f key d (number_of_text key) refl (sym (written.each key) ∙ found))

-- a written number is read
number_back : (z : ℤ) → fits z ≡ true → json_number (number_text z) ≡ Some z
number_back z room = spells_itself z room

-- cells have no fault
cells_faultless : (x : ℕ) (f : ℤ → ℤ) (cells : Members) → IsInside (Array f) → AllMembers (IsCell f) cells → cells_fault x cells ≡ None
cells_faultless x f no_members inside all = refl
cells_faultless x f (member key d rest) inside all =
    ap (λ (o : Option ℤ).
    option_or (missing o (BadIndex (name_of x))) (option_or (missing (json_number d) (BadValue (name_of x))) (cells_fault x rest)))
    all.0.key_is
    ∙ ap (λ (o : Option ℤ). option_or (missing o (BadValue (name_of x))) (cells_fault x rest))
    (ap json_number all.0.value_is ∙ number_back (f all.0.index) (inside all.0.index).0)
    ∙ cells_faultless x f rest inside all.1

-- the number at an index of cells that were written
element_back : (f : ℤ → ℤ) (cells : Members) (i : ℤ) → IsInside (Array f) → AreWrittenCells f cells → element (Some (object cells)) i ≡ f i
element_back f cells i inside written = by (fits i) refl
  where
    at : (z : ℤ) → fits z ≡ true → (b : Bool) → int_eq z (pos 0) ≡ b
        → unwrap_or (option_map (λ (v : Data). number_or_zero (Some v)) (if b then None else Some (number_text z))) (pos 0) ≡ z
    at z room true is = sym ((Decides-int_eq z (pos 0)).0 is)
    at z room false is = ap (λ (o : Option ℤ). unwrap_or o (pos 0)) (number_back z room)

    by : (b : Bool) → fits i ≡ b
        → unwrap_or (if b then option_map (λ (v : Data). number_or_zero (Some v)) (get_member (signed_decimal i) cells) else None) (pos 0)
        ≡ f i
    by true room =
        ap (λ (o : Option Data). unwrap_or (option_map (λ (v : Data). number_or_zero (Some v)) o) (pos 0))
        (written.each (signed_decimal i) ∙ ap (cell_at f) (spells_itself i room))
        ∙ at (f i) (inside i).0 (int_eq (f i) (pos 0)) refl
    by false far = sym ((inside i).1 far)

-- ---- values

-- a value of a sort
abbrev IsOfSort : Option Sort → Value → Type 0
IsOfSort None v = v ≡ zero_value
IsOfSort (Some Num) v = (z : ℤ) × (v ≡ Number z)
IsOfSort (Some Arr) v = (f : ℤ → ℤ) × (v ≡ Array f)

-- a name's value is of its sort
held_sort : (s : StoredValue) → IsOfSort (stored_values.sort s) (stored_values.held s)
held_sort stored.Absent = refl
held_sort (stored.Number z) = (z, refl)
held_sort (stored.Array cells) = (listed cells, refl)

meaning_sort : (s : code.Store) (x : ℕ) → IsOfSort (sorts_of s x) (meaning s x)
unfolding meaning sorts_of
meaning_sort s x = held_sort (stored_values.stored_value_of s.stored.items x)

-- a written value has no fault
value_faultless : (x : ℕ) (sort : Sort) (v : Value) (d : Data) → IsOfSort (Some sort) v → IsInside v → IsWrittenAs v d
    → value_fault (Some (x, sort)) d ≡ None
value_faultless x Num v d of_sort inside written =
    let room : fits of_sort.0 ≡ true = subst IsInside of_sort.1 inside in
    let is : d ≡ number_text of_sort.0 = subst (λ (w : Value). IsWrittenAs w d) of_sort.1 written in
    ap (λ (o : Option ℤ). missing o (BadValue (name_of x))) (ap json_number is ∙ number_back of_sort.0 room)
value_faultless x Arr v d of_sort inside written =
    let room : IsInside (Array of_sort.0) = subst IsInside of_sort.1 inside in
    let is : IsWrittenAs (Array of_sort.0) d = subst (λ (w : Value). IsWrittenAs w d) of_sort.1 written in
    ap (value_fault (Some (x, Arr))) is.1 ∙ cells_faultless x of_sort.0 is.0 room (all_cells of_sort.0 is.0 is.2)

-- a written value is given back
value_back : (sort : Sort) (v : Value) (d : Data) → IsOfSort (Some sort) v → IsInside v → IsWrittenAs v d → given (Some sort) (Some d) ≡ v
value_back Num v d of_sort inside written =
    let room : fits of_sort.0 ≡ true = subst IsInside of_sort.1 inside in
    let is : d ≡ number_text of_sort.0 = subst (λ (w : Value). IsWrittenAs w d) of_sort.1 written in
    ap (λ (o : Option ℤ). Number (unwrap_or o (pos 0))) (ap json_number is ∙ number_back of_sort.0 room) ∙ sym of_sort.1
value_back Arr v d of_sort inside written =
    let room : IsInside (Array of_sort.0) = subst IsInside of_sort.1 inside in
    let is : IsWrittenAs (Array of_sort.0) d = subst (λ (w : Value). IsWrittenAs w d) of_sort.1 written in
    ap (λ (e : Data). given (Some Arr) (Some e)) is.1
    ∙ ap Array (fun_ext (λ (i : ℤ). element_back of_sort.0 is.0 i room is.2))
    ∙ sym of_sort.1

-- ---- the members of an input

-- the sort of a name that is found by its text
declared_sort : (sorts : Sorts) (place : Option ℕ) (x : ℕ) (sort : Sort) → by_place sorts place ≡ Some (x, sort) → sorts x ≡ Some sort
declared_sort sorts None x sort is = cc
declared_sort sorts (Some y) x sort is = by (sorts y) refl is
  where
    by : (o : Option Sort) → sorts y ≡ o → option_and_then {U = ℕ × Sort} (λ (other : Sort). Some (y, other)) o ≡ Some (x, sort)
        → sorts x ≡ Some sort
    by None e is = cc
    by (Some other) e is =
        let both = ap (λ (o : Option (ℕ × Sort)). unwrap_or o (x, sort)) is in
        ap sorts (sym (ap (λ (p : ℕ × Sort). p.0) both)) ∙ e ∙ ap (λ (p : ℕ × Sort). Some p.1) both

module _ (names : Texts) (sorts : Sorts) (s : code.Store) (members : Members) (declared : sorts_of s ≡ sorts)
    (written : AreWritten names sorts (meaning s) members) (inside : AreInside names sorts (meaning s)) where
  of_sort : (x : ℕ) (sort : Sort) → sorts x ≡ Some sort → IsOfSort (Some sort) (meaning s x)
  of_sort x sort is = subst (λ (o : Option Sort). IsOfSort o (meaning s x)) (ap (λ (f : Sorts). f x) declared ∙ is) (meaning_sort s x)

  -- a member that is found has no fault
  member_faultless : (key : List ℕ) (d : Data) → get_member key members ≡ Some d → value_fault (declared_name names sorts key) d ≡ None
  member_faultless key d found = by (declared_name names sorts key) refl (written.each key) (inside key)
    where
      by : (o : Option (ℕ × Sort)) → declared_name names sorts key ≡ o → IsMemberOf (meaning s) o (get_member key members)
          → IsInsideAt (meaning s) o → value_fault o d ≡ None
      by None is none room = absurd (let clash : None ≡ Some d = sym none ∙ found in cc)
      by (Some (x, sort)) is some room =
          let same : some.0 ≡ d = (let both : Some some.0 ≡ Some d = sym some.1 ∙ found in cc) in
          value_faultless x sort (meaning s x) d (of_sort x sort (declared_sort sorts (position (bytes_eq key) names) x sort is)) room
          (subst (IsWrittenAs (meaning s x)) same some.2)

  all_faultless : (rest : Members) → AllMembers (λ (key : List ℕ) (d : Data). value_fault (declared_name names sorts key) d ≡ None) rest
      → members_fault names sorts rest ≡ None
  all_faultless no_members all = refl
  all_faultless (member key d rest) all =
      ap (λ (o : Option InputError). option_or o (members_fault names sorts rest)) all.0 ∙ all_faultless rest all.1

  module _ (named : AreNamed names sorts) where
    -- a name's member gives its value back
    name_back : (x : ℕ) → meaning s x ≡ store_of names sorts (object members) x
    name_back x = by (sorts x) refl
      where
        by : (o : Option Sort) → sorts x ≡ o → meaning s x ≡ given o (member_of names (object members) x)
        by None is = subst (λ (o : Option Sort). IsOfSort o (meaning s x)) (ap (λ (f : Sorts). f x) declared ∙ is) (meaning_sort s x)
        by (Some sort) is =
            let own = named x sort is in
            let text : List ℕ = own.0 in
            let found : declared_name names sorts text ≡ Some (x, sort) =
            ap (by_place sorts) own.2 ∙ ap (λ (o : Option Sort). option_and_then {U = ℕ × Sort} (λ (sort : Sort). Some (x, sort)) o) is in
            let some : IsMemberOf (meaning s) (Some (x, sort)) (get_member text members) =
            subst (λ (o : Option (ℕ × Sort)). IsMemberOf (meaning s) o (get_member text members)) found (written.each text) in
            let room : IsInside (meaning s x) = subst (IsInsideAt (meaning s)) found (inside text) in
            sym (value_back sort (meaning s x) some.0 (of_sort x sort is) room some.2)
            ∙ ap (given (Some sort)) (sym some.1)
            ∙ sym (ap (λ (o : Option (List ℕ)). given (Some sort) (option_and_then (λ (t : List ℕ). get t (object members)) o)) own.1)

-- a written input is read back
pub written_back : (names : Texts) (sorts : Sorts) (s : code.Store) (members : Members) (bytes : List ℕ) → sorts_of s ≡ sorts
    → IsJson bytes (object members)
    → AreWritten names sorts (meaning s) members → AreInside names sorts (meaning s) → AreNamed names sorts → IsInput names sorts bytes s
written_back names sorts s members bytes declared json written inside named = record {
  value = object members;
  json = json;
  faultless =
      all_faultless names sorts s members declared written inside members
      (all_found _ members written.ordered (member_faultless names sorts s members declared written inside));
  gives = fun_ext (λ (x : ℕ). name_back names sorts s members declared written inside named x);
  declared = declared;
}

-- ---- how deep it nests, and that it has no float

-- cells are flat, and have no float
flat_cells : (f : ℤ → ℤ) (cells : Members) → AllMembers (IsCell f) cells → (members_depth cells ≡ 0) × (members_have_float cells ≡ false)
flat_cells f no_members all = (refl, refl)
flat_cells f (member key d rest) all =
    let more = flat_cells f rest all.1 in
    let zero : depth d ≡ 0 = ap depth all.0.value_is in
    (omega (arith, more.0, zero), ap (λ (b : Bool). b || members_have_float rest) (ap has_float all.0.value_is) ∙ more.1)

-- a value that was written nests at most once, and has no float
record IsFlat (key : List ℕ) (d : Data) : Type 0 where
  shallow : depth d ≤ 1
  whole : has_float d ≡ false

written_flat : (key : List ℕ) (v : Value) (d : Data) → IsWrittenAs v d → IsFlat key d
written_flat key (Number z) d is = let zero : depth d ≡ 0 = ap depth is in record { shallow = omega (arith, zero); whole = ap has_float is }
written_flat key (Array f) d is =
    let flat = flat_cells f is.0 (all_cells f is.0 is.2) in
    let one : depth d ≡ depth (object is.0) = ap depth is.1 in
    record { shallow = omega (arith, one, flat.0); whole = ap has_float is.1 ∙ flat.1 }

all_flat : (names : Texts) (sorts : Sorts) (s : Store) (members : Members) → AreWritten names sorts s members → AllMembers IsFlat members
all_flat names sorts s members written =
    all_found IsFlat members written.ordered
    (λ (key : List ℕ) (d : Data) (found : get_member key members ≡ Some d).
    by key d (declared_name names sorts key) (written.each key) found)
  where
    by : (key : List ℕ) (d : Data) (o : Option (ℕ × Sort)) → IsMemberOf s o (get_member key members) → get_member key members ≡ Some d
        → IsFlat key d
    by key d None none found = absurd (let clash : None ≡ Some d = sym none ∙ found in cc)
    by key d (Some x) some found = let both : Some some.0 ≡ Some d = sym some.1 ∙ found in let same : some.0 ≡ d = cc in
        written_flat key (s x.0) d (subst (IsWrittenAs (s x.0)) same some.2)

flat_members : (members : Members) → AllMembers IsFlat members → (members_depth members ≤ 1) × (members_have_float members ≡ false)
flat_members no_members all = (omega arith, refl)
flat_members (member key d rest) all =
    let more = flat_members rest all.1 in
    (omega (arith, more.0, all.0.shallow), ap (λ (b : Bool). b || members_have_float rest) all.0.whole ∙ more.1)

-- a written input nests no deeper than a text may
pub written_depth : (names : Texts) (sorts : Sorts) (s : Store) (members : Members) → AreWritten names sorts s members
    → depth (object members) ≤ max_depth
written_depth names sorts s members written = let flat = flat_members members (all_flat names sorts s members written) in
    omega (arith, flat.0)

-- a written input has no float
pub written_whole : (names : Texts) (sorts : Sorts) (s : Store) (members : Members) → AreWritten names sorts s members
    → has_float (object members) ≡ false
written_whole names sorts s members written = (flat_members members (all_flat names sorts s members written)).1

-- ---- cells whose indices and numbers are inside 128 bits

-- an index and a number inside 128 bits
abbrev pub IsInsideCell : ℤ × ℤ → Type 0
IsInsideCell c = (fits c.0 ≡ true) × (fits c.1 ≡ true)

-- the array of such cells is inside 128 bits
pub listed_inside : (cells : List (ℤ × ℤ)) → AllByRecursion IsInsideCell cells → IsInside (Array (listed cells))
listed_inside [] all i = (refl, λ (far : fits i ≡ false). refl)
listed_inside (c ∷ rest) all i = by (int_eq i c.0) (Decides-int_eq i c.0).0 (listed_inside rest all.1 i)
  where
    by : (b : Bool) → (b ≡ true → i ≡ c.0) → (fits (listed rest i) ≡ true) × (fits i ≡ false → listed rest i ≡ pos 0)
        → (fits (if b then c.1 else listed rest i) ≡ true) × (fits i ≡ false → (if b then c.1 else listed rest i) ≡ pos 0)
    by true same more = (all.0.1, λ (far : fits i ≡ false). absurd (true≢false (sym all.0.0 ∙ sym (ap fits (same refl)) ∙ far)))
    by false same more = more
