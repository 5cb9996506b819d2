-- Bytes give one store as an input, and a store has one text as an input.
use Rattle.sm_replay.proofs.Imports.{◌≡◌, ◌≢◌, ◌⊎◌, ℕ, Option, Some, None, Ok, Err, List, Ordering, Less, Equal, Greater, is_eq, refl, sym, ap, subst, ◌∙◌, inl, inr, nat_list_cmp_total, is_eq-slice_cmp, bytes_eq-Decides, slice_cmp, match_ordering, ordering_reverse, Data, object, Members, no_members, member, as_object, get_member, Sorts, Sort, Number, Array, Store, Texts, declared_name, input_fault, store_of, IsJson, IsInput, IsRefusedInput, Reads, InputError, BadJson, NotObject, UnknownKey, BadValue, BadIndex, ReadingIsOne, WrittenTextIsOne, StandsBefore, AreOrdered, IsWrittenAs, IsMemberOf}
use Rattle.std.proofs.Common.{nat_cmp}
use Rattle.sm_syntax.specs.claim.Stores.{Value}
use Rattle.sm_eval.specs.declared.store.Store as code
use Rattle.sm_replay.specs.Input.{Memory}
use Rattle.sm_replay.proofs.InputTextRoundTrip.{same_text, before_all}
use Rattle.sm_replay.proofs.InputTextSound.{stands_below}

-- ---- ordered members are known by what each key has

-- the first member is found by its key
found_here : (key : List ℕ) (d : Data) (rest : Members) → get_member key (member key d rest) ≡ Some d
found_here key d rest = ap (λ (o : Ordering). match_ordering o (get_member key rest) (Some d) (get_member key rest)) (same_text key)

-- a key below the first isn't found
not_below : (key l : List ℕ) (e : Data) (rest : Members) → slice_cmp nat_cmp key l ≡ Less → StandsBefore l rest
    → get_member key (member l e rest) ≡ None
not_below key l e rest below before =
    ap (λ (o : Ordering). match_ordering o (get_member key rest) (Some e) (get_member key rest)) below ∙
    before_all key rest (stands_below key l rest below before)

-- keys that compare equal are the same
same_key : (k l : List ℕ) → slice_cmp nat_cmp k l ≡ Equal → k ≡ l
same_key k l is = (bytes_eq-Decides k l).0 (sym (is_eq-slice_cmp k l) ∙ ap is_eq is)

-- what two lists of members have below one first key
rest_each : (k : List ℕ) (d e : Data) (m n : Members) → StandsBefore k m → StandsBefore k n
    → ((key : List ℕ) → get_member key (member k d m) ≡ get_member key (member k e n)) → (key : List ℕ)
    → get_member key m ≡ get_member key n
rest_each k d e m n before_m before_n each key = by (slice_cmp nat_cmp key k) refl (each key)
  where
    by : (o : Ordering) → slice_cmp nat_cmp key k ≡ o
        → match_ordering (slice_cmp nat_cmp key k) (get_member key m) (Some d) (get_member key m) ≡ match_ordering (slice_cmp nat_cmp key k)
        (get_member key n) (Some e) (get_member key n)
        → get_member key m ≡ get_member key n
    by Less is same = rw is at same
    by Equal is same =
        let key_is : key ≡ k = same_key key k is in
        ap (λ (t : List ℕ). get_member t m) key_is ∙ before_all k m before_m ∙ sym (before_all k n before_n) ∙
        ap (λ (t : List ℕ). get_member t n) (sym key_is)
    by Greater is same = rw is at same

-- ordered members with one first key
member_one : (k : List ℕ) (d e : Data) (m n : Members) → Some d ≡ Some e → m ≡ n → member k d m ≡ member k e n
member_one k d e m n value rest = let same : d ≡ e = cc in ap (λ (x : Data). member k x m) same ∙ ap (member k e) rest

-- ordered members that have the same at each key are the same
members_one : (m n : Members) → AreOrdered m → AreOrdered n → ((key : List ℕ) → get_member key m ≡ get_member key n) → m ≡ n
members_one no_members no_members p q each = refl
members_one no_members (member l e n) p q each = let clash : None ≡ Some e = each l ∙ found_here l e n in cc
members_one (member k d m) no_members p q each = let clash : Some d ≡ None = sym (found_here k d m) ∙ each k in cc
members_one (member k d m) (member l e n) p q each = by (slice_cmp nat_cmp k l) refl (members_one m n p.1 q.1)
  where
    by : (o : Ordering) → slice_cmp nat_cmp k l ≡ o → (((key : List ℕ) → get_member key m ≡ get_member key n) → m ≡ n)
        → member k d m ≡ member l e n
    by Less is rest = let clash : Some d ≡ None = sym (found_here k d m) ∙ each k ∙ not_below k l e n is q.0 in cc
    by Greater is rest =
        let below : slice_cmp nat_cmp l k ≡ Less = nat_list_cmp_total.antisymm l k ∙ ap ordering_reverse is in
        let clash : Some e ≡ None = sym (found_here l e n) ∙ sym (each l) ∙ not_below l k d m below p.0 in cc
    by Equal is rest =
        let key : k ≡ l = same_key k l is in
        let before : StandsBefore k n = subst (λ (t : List ℕ). StandsBefore t n) (sym key) q.0 in
        let all : (t : List ℕ) → get_member t (member k d m) ≡ get_member t (member k e n) =
        λ (t : List ℕ). each t ∙ ap (λ (f : List ℕ). get_member t (member f e n)) (sym key) in
        member_one k d e m n (sym (found_here k d m) ∙ all k ∙ found_here k e n) (rest (rest_each k d e m n p.0 before all)) ∙
        ap (λ (f : List ℕ). member f e n) key

-- ---- a store has one text

-- a value is written in one way
value_one : (v : Value) (d e : Data) → IsWrittenAs v d → IsWrittenAs v e → d ≡ e
value_one (Number z) d e p q = p ∙ sym q
value_one (Array f) d e p q =
    p.1 ∙ ap object (members_one p.0 q.0 p.2.ordered q.2.ordered (λ (key : List ℕ). p.2.each key ∙ sym (q.2.each key))) ∙ sym q.1

-- a key has one member
member_of_one : (s : Store) (x : Option (ℕ × Sort)) (d e : Option Data) → IsMemberOf s x d → IsMemberOf s x e → d ≡ e
member_of_one s None d e p q = p ∙ sym q
member_of_one s (Some x) d e p q = p.1 ∙ ap Some (value_one (s x.0) p.0 q.0 p.2 q.2) ∙ sym q.1

pub written_one : WrittenTextIsOne
written_one names sorts s m n p q =
    members_one m n p.ordered q.ordered (λ (key : List ℕ). member_of_one s (declared_name names sorts key) _ _ (p.each key) (q.each key))

-- ---- bytes give one store

-- bytes are one value of JSON
json_one : (bytes : List ℕ) (d e : Data) → IsJson bytes d → IsJson bytes e → d ≡ e
json_one bytes d e p q = let both : Some d ≡ Some e = sym p.value ∙ q.value in cc

module _ (names : Texts) (sorts : Sorts) (bytes : List ℕ) where
  -- the bytes aren't JSON, or there is a first refusal
  abbrev pub Refuses : InputError → Type 0
  Refuses e = ((e ≡ BadJson) × ((d : Data) → ¬ IsJson bytes d)) ⊎ IsRefusedInput names sorts bytes e

  refuses : (e : InputError) → e ≢ Memory → Reads names sorts bytes (Err e) → Refuses e
  refuses BadJson known r = inl (refl, r)
  refuses NotObject known r = inr r
  refuses UnknownKey known r = inr r
  refuses (BadValue x) known r = inr r
  refuses (BadIndex x) known r = inr r
  refuses Memory known r = absurd (known refl)

  -- an input isn't refused
  input_refused : (s : code.Store) (e : InputError) → IsInput names sorts bytes s → Refuses e → ⊥
  input_refused s e i (inl r) = r.1 i.value i.json
  input_refused s e i (inr r) =
      let fault = λ (d : Data). input_fault names sorts (as_object d) in
      let clash : None ≡ Some e = sym i.faultless ∙ ap fault (json_one bytes i.value r.value i.json r.json) ∙ r.fault in cc

  -- there is one first refusal
  refused_one : (e f : InputError) → Refuses e → Refuses f → e ≡ f
  refused_one e f (inl a) (inl b) = a.0 ∙ sym b.0
  refused_one e f (inl a) (inr b) = absurd (a.1 b.value b.json)
  refused_one e f (inr a) (inl b) = absurd (b.1 a.value a.json)
  refused_one e f (inr a) (inr b) =
      let fault = λ (d : Data). input_fault names sorts (as_object d) in
      let both : Some e ≡ Some f = sym a.fault ∙ ap fault (json_one bytes a.value b.value a.json b.json) ∙ b.fault in cc

pub reading_one : ReadingIsOne
reading_one names sorts bytes (Ok s) (Ok u) ka kb a b = (
  a.gives ∙ ap (store_of names sorts) (json_one bytes a.value b.value a.json b.json) ∙ sym b.gives,
  a.declared ∙ sym b.declared,
)
reading_one names sorts bytes (Ok s) (Err f) ka kb a b =
    input_refused names sorts bytes s f a (refuses names sorts bytes f (λ (m : f ≡ Memory). kb (ap Err m)) b)
reading_one names sorts bytes (Err e) (Ok u) ka kb a b =
    input_refused names sorts bytes u e b (refuses names sorts bytes e (λ (m : e ≡ Memory). ka (ap Err m)) a)
reading_one names sorts bytes (Err e) (Err f) ka kb a b =
    refused_one names sorts bytes e f (refuses names sorts bytes e (λ (m : e ≡ Memory). ka (ap Err m)) a)
    (refuses names sorts bytes f (λ (m : f ≡ Memory). kb (ap Err m)) b)
