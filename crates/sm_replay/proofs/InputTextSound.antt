-- What is written for a store, member by member and cell by cell.
use Rattle.sm_replay.proofs.Imports.{◌≡◌, ◌≢◌, ◌⊎◌, ◌+◌, ◌<◌, ◌≤◌, ℕ, suc, ℤ, pos, Bool, true, false, if◌then◌else◌, Option, Some, None, option_and_then, Result, Ok, Err, List, [], ◌∷◌, length, drop, get_or, BTreeMap, String, Global, Ordering, Less, Equal, Greater, refl, sym, ap, subst, ◌∙◌, inl, inr, ⊎_elim, true≢false, add-one, drop-cons, arith, ne_eqb, Decides-int_eq, nat_list_cmp_total, drop_all, get_or_default, none-some, slice_get-get_or, slice_get_within, bytes_eq-Decides, slice_cmp, signed_decimal, AllByRecursion, position, int_eq, match_ordering, ordering_reverse, IfOk, IsUtf8, bytes_eq, Data, object, Members, no_members, member, depth, get_member, read, max_depth, view, members_view, view-Object, get_member-put, get_member-put_other, Name, sort_of, Sorts, Sort, Array, Store, listed, AreCells, Texts, declared_name, IsJson, IsInside, IsInsideAt, AreInside, Writes, number_of_text, StandsBefore, AreOrdered, number_text, nonzero_text, cell_at, AreWrittenCells, IsMemberOf, AreWritten}
use Rattle.std.proofs.lemmas.List.Quantifiers.{position-Some}
use Rattle.std.specs.List.{slice_get}
use Rattle.std.specs.Ordering.{nat_cmp}
use Rattle.serde_json.specs.Data.{put}
use Rattle.serde_json.specs.declared.value.Value.{Object, Value as Json}
use Rattle.sm_eval.proofs.Ordered.{listed_at}
use Rattle.sm_replay.proofs.UpdatesSound.{numbered}
use Rattle.sm_replay.proofs.MembersLemmas.{by_place}
use Rattle.sm_replay.proofs.NumberUnique.{spells_itself, spelled_back}
use Rattle.sm_replay.proofs.InputTextRoundTrip.{IsInsideCell, listed_inside}

-- a key below one that stands before members stands before them
pub stands_below : (key l : List ℕ) (ms : Members) → slice_cmp nat_cmp key l ≡ Less → StandsBefore l ms → StandsBefore key ms
stands_below key l no_members below h = tt
stands_below key l (member k d ms) below h = (nat_list_cmp_total.trans key l k below h.0, stands_below key l ms below h.1)

-- a key stands before a greater one that is put among members after it
stands_before_put : (l key : List ℕ) (d : Data) (ms : Members) → slice_cmp nat_cmp l key ≡ Less → StandsBefore l ms
    → StandsBefore l (put key d ms)
stands_before_put l key d no_members below h = (below, tt)
stands_before_put l key d (member k e ms) below h = by (slice_cmp nat_cmp key k) (stands_before_put l key d ms below h.1)
  where
    by : (o : Ordering) → StandsBefore l (put key d ms)
        → StandsBefore l (match_ordering o (member key d (member k e ms)) (member k d ms) (member k e (put key d ms)))
    by Less rest = (below, h)
    by Equal rest = h
    by Greater rest = (h.0, rest)

-- what is put among ordered members leaves them ordered
put_ordered : (key : List ℕ) (d : Data) (ms : Members) → AreOrdered ms → AreOrdered (put key d ms)
put_ordered key d no_members o = (tt, tt)
put_ordered key d (member l e ms) o = by (slice_cmp nat_cmp key l) refl (put_ordered key d ms o.1)
  where
    by : (c : Ordering) → slice_cmp nat_cmp key l ≡ c → AreOrdered (put key d ms)
        → AreOrdered (match_ordering c (member key d (member l e ms)) (member l d ms) (member l e (put key d ms)))
    by Less is rest = ((is, stands_below key l ms is o.0), o)
    by Equal is rest = o
    by Greater is rest = (stands_before_put l key d ms (nat_list_cmp_total.antisymm l key ∙ ap ordering_reverse is) o.0, rest)

-- each key has its cell, or none yet, and its cell is among the rest; and the cells before the rest are inside 128 bits
pub record CellsSoFar (list rest : List (ℤ × ℤ)) (cells : Members) : Type 0 where
  pub ordered : AreOrdered cells
  pub each : (key : List ℕ) → (get_member key cells ≡ cell_at (listed list) (number_of_text key))
      ⊎ ((get_member key cells ≡ None) × (cell_at (listed rest) (number_of_text key) ≡ cell_at (listed list) (number_of_text key)))
  pub inside : AllByRecursion IsInsideCell rest → AllByRecursion IsInsideCell list

-- no cell is among none
zero_cells : (n : Option ℤ) → cell_at (listed []) n ≡ None
zero_cells None = refl
zero_cells (Some i) = refl

-- at the end they are the cells
all_cells : (list : List (ℤ × ℤ)) (cells : Members) → CellsSoFar list [] cells → AreWrittenCells (listed list) cells
all_cells list cells w = record {
  ordered = w.ordered;
  each = λ (key : List ℕ).
      ⊎_elim (λ (e : get_member key cells ≡ cell_at (listed list) (number_of_text key)). e)
      (λ (e : (get_member key cells ≡ None) × (cell_at (listed []) (number_of_text key) ≡ cell_at (listed list) (number_of_text key))).
      e.0 ∙ sym (zero_cells (number_of_text key)) ∙ e.1)
      (w.each key);
}

-- numbers that differ
differ : (i j : ℤ) → i ≢ j → int_eq i j ≡ false
differ i j other = by (int_eq i j) (Decides-int_eq i j).0
  where
    by : (b : Bool) → (b ≡ true → i ≡ j) → b ≡ false
    by true same = absurd (other (same refl))
    by false same = refl

-- a cell of another index is passed
cell_passed : (c : ℤ × ℤ) (rest : List (ℤ × ℤ)) (n : Option ℤ) → (n ≡ Some c.0 → ⊥)
    → cell_at (listed rest) n ≡ cell_at (listed (c ∷ rest)) n
cell_passed c rest None other = refl
cell_passed c rest (Some i) other =
    ap (λ (b : Bool). nonzero_text (if b then c.1 else listed rest i)) (sym (differ i c.0 (λ (same : i ≡ c.0). other (ap Some same))))

-- one cell more
cell_step : (list : List (ℤ × ℤ)) (c : ℤ × ℤ) (rest : List (ℤ × ℤ)) (old new : Members) → IsInsideCell c → listed list c.0 ≡ c.1
    → c.1 ≢ pos 0
    → new ≡ put (signed_decimal c.0) (number_text c.1) old → CellsSoFar list (c ∷ rest) old → CellsSoFar list rest new
cell_step list c rest old new room has some is w = record {
  ordered = subst AreOrdered (sym is) (put_ordered (signed_decimal c.0) (number_text c.1) old w.ordered);
  each = λ (key : List ℕ). by key (bytes_eq key (signed_decimal c.0)) refl;
  inside = λ (all : AllByRecursion IsInsideCell rest). w.inside (room, all);
}
  where
    nonzero : nonzero_text c.1 ≡ Some (number_text c.1)
    nonzero = ap (λ (b : Bool). if b then None else Some (number_text c.1)) (differ c.1 (pos 0) some)

    by : (key : List ℕ) (b : Bool) → bytes_eq key (signed_decimal c.0) ≡ b
        → (get_member key new ≡ cell_at (listed list) (number_of_text key))
        ⊎ ((get_member key new ≡ None) × (cell_at (listed rest) (number_of_text key) ≡ cell_at (listed list) (number_of_text key)))
    by key true same =
        let text : key ≡ signed_decimal c.0 = (bytes_eq-Decides key (signed_decimal c.0)).0 same in
        inl (ap (get_member key) is
        ∙ ap (λ (k : List ℕ). get_member k (put (signed_decimal c.0) (number_text c.1) old)) text
        ∙ get_member-put (signed_decimal c.0) (number_text c.1) old
        ∙ sym (ap (cell_at (listed list)) (ap number_of_text text ∙ spells_itself c.0 room.0) ∙ ap nonzero_text has ∙ nonzero))
    by key false same =
        let other : key ≡ signed_decimal c.0 → ⊥ =
        λ (t : key ≡ signed_decimal c.0). true≢false (sym ((bytes_eq-Decides key (signed_decimal c.0)).1 t) ∙ same) in
        let kept : get_member key new ≡ get_member key old =
        ap (get_member key) is ∙ get_member-put_other key (signed_decimal c.0) (number_text c.1) old other in
        ⊎_elim (λ (e : get_member key old ≡ cell_at (listed list) (number_of_text key)). inl (kept ∙ e))
        (λ (e : (get_member key old ≡ None)
        × (cell_at (listed (c ∷ rest)) (number_of_text key) ≡ cell_at (listed list) (number_of_text key))).
        inr (
          kept ∙ e.0,
          cell_passed c rest (number_of_text key)
              (λ (n : number_of_text key ≡ Some c.0). other (sym (spelled_back key c.0 n).1)) ∙ e.1,
        ))
        (w.each key)

-- one turn over cells
pub cell_turn : (list : List (ℤ × ℤ)) (p : ℕ) (d : ℤ × ℤ) (i z : ℤ) (old new : Members) → AreCells list → p < length list
    → get_or list p d ≡ (i, z) → IsInsideCell (i, z)
    → new ≡ put (signed_decimal i) (number_text z) old → CellsSoFar list (drop p list) old → CellsSoFar list (drop (p + 1) list) new
cell_turn list p d i z old new cells here read room is w =
    let plain : get_or list p (pos 0, pos 0) ≡ (i, z) = get_or_default list p (pos 0, pos 0) d here ∙ read in
    let has : listed list i ≡ z =
    listed_at list cells i p (record { in_range = here; same = ap (λ (e : ℤ × ℤ). e.0) plain }) ∙ ap (λ (e : ℤ × ℤ). e.1) plain in
    let some : z ≢ pos 0 = λ (none : z ≡ pos 0). cells.no_zero p here (ap (λ (e : ℤ × ℤ). e.1) plain ∙ none) in
    subst (λ (k : ℕ). CellsSoFar list (drop k list) new) (sym (add-one p))
    (cell_step list (i, z) (drop (suc p) list) old new room has some is
    (subst (λ (l : List (ℤ × ℤ)). CellsSoFar list l old) (drop-cons list p d here ∙ ap (λ (e : ℤ × ℤ). e ∷ drop (suc p) list) read) w))

-- after all cells they are the cells, and these are inside 128 bits
pub cells_end : (list : List (ℤ × ℤ)) (p : ℕ) (cells : Members) → length list ≤ p → CellsSoFar list (drop p list) cells
    → AreWrittenCells (listed list) cells × IsInside (Array (listed list))
cells_end list p cells past w =
    let whole = subst (λ (l : List (ℤ × ℤ)). CellsSoFar list l cells) (drop_all p list past) w in
    (all_cells list cells whole, listed_inside list (whole.inside tt))

-- a text stands at the place where it is found
stored_at : (names : Texts) (key : List ℕ) (n : ℕ) → position (bytes_eq key) names ≡ Some n → slice_get names n ≡ Some key
stored_at names key n found =
    let at = position-Some (bytes_eq key) names n [] found in
    slice_get-get_or names n [] at.0 ∙ ap Some (sym ((bytes_eq-Decides key (get_or names n [])).0 at.1))

-- a name with its sort, if it has one
abbrev with_sort : ℕ → Option Sort → Option (ℕ × Sort)
with_sort n sort = option_and_then (λ (s : Sort). Some (n, s)) sort

-- a declared name's text stands at its place, and the name has its sort
declared_at : (names : Texts) (sorts : Sorts) (key : List ℕ) (x : ℕ × Sort) → declared_name names sorts key ≡ Some x
    → (slice_get names x.0 ≡ Some key) × (sorts x.0 ≡ Some x.1)
declared_at names sorts key x is = placed (position (bytes_eq key) names) refl is
  where
    sorted : (n : ℕ) (o : Option Sort) → position (bytes_eq key) names ≡ Some n → sorts n ≡ o → with_sort n o ≡ Some x
        → (slice_get names x.0 ≡ Some key) × (sorts x.0 ≡ Some x.1)
    sorted n None found declared e = cc
    sorted n (Some sort) found declared e =
        let same : (n, sort) ≡ x = cc in
        subst (λ (y : ℕ × Sort). (slice_get names y.0 ≡ Some key) × (sorts y.0 ≡ Some y.1)) same (stored_at names key n found, declared)

    placed : (o : Option ℕ) → position (bytes_eq key) names ≡ o → by_place sorts o ≡ Some x
        → (slice_get names x.0 ≡ Some key) × (sorts x.0 ≡ Some x.1)
    placed None found e = cc
    placed (Some n) found e = sorted n (sorts n) found refl e

-- the key is a declared name's, and the name is still declared in the rest
abbrev IsToCome : Texts → Sorts → List (ℕ × Sort) → List ℕ → Type 0
IsToCome names sorts rest key = (x : ℕ × Sort) × (declared_name names sorts key ≡ Some x) × (sort_of rest x.0 ≡ Some x.1)

-- what a key has is written, and inside 128 bits
abbrev IsWritten : Store → Option (ℕ × Sort) → Option Data → Type 0
IsWritten s o d = IsMemberOf s o d × IsInsideAt s o

-- each key has its member, or its name is to come
pub record MembersSoFar (names : Texts) (sorts : Sorts) (s : Store) (rest : List (ℕ × Sort)) (members : Members) : Type 0 where
  pub ordered : AreOrdered members
  pub each : (key : List ℕ) → IsWritten s (declared_name names sorts key) (get_member key members) ⊎ IsToCome names sorts rest key

-- at the end they are the members
all_members : (names : Texts) (sorts : Sorts) (s : Store) (members : Members) → MembersSoFar names sorts s [] members
    → AreWritten names sorts s members × AreInside names sorts s
all_members names sorts s members w = (record { ordered = w.ordered; each = λ (key : List ℕ). (by key).0 }, λ (key : List ℕ). (by key).1)
  where
    by : (key : List ℕ) → IsWritten s (declared_name names sorts key) (get_member key members)
    by key =
        ⊎_elim (λ (is : IsWritten s (declared_name names sorts key) (get_member key members)). is)
        (λ (come : IsToCome names sorts [] key). absurd (none-some come.0.1 come.2)) (w.each key)

-- a name of the rest is declared after another name
declared_later : (d : ℕ × Sort) (rest : List (ℕ × Sort)) (x : ℕ × Sort) → d.0 ≢ x.0 → sort_of (d ∷ rest) x.0 ≡ Some x.1
    → sort_of rest x.0 ≡ Some x.1
declared_later d rest x other is = sym (ap (λ (b : Bool). if b then Some d.1 else sort_of rest x.0) (ne_eqb d.0 x.0 other)) ∙ is

-- a name without a text leaves the members
unnamed_step : (names : Texts) (sorts : Sorts) (s : Store) (d : ℕ × Sort) (rest : List (ℕ × Sort)) (members : Members) → length names ≤ d.0
    → MembersSoFar names sorts s (d ∷ rest) members → MembersSoFar names sorts s rest members
unnamed_step names sorts s d rest members past w = record {
  ordered = w.ordered;
  each = λ (key : List ℕ).
      ⊎_elim (λ (is : IsWritten s (declared_name names sorts key) (get_member key members)). inl is)
      (λ (come : IsToCome names sorts (d ∷ rest) key).
      inr (come.0, come.1, declared_later d rest come.0 (apart key come.0 come.1) come.2))
      (w.each key);
}
  where
    apart : (key : List ℕ) (x : ℕ × Sort) → declared_name names sorts key ≡ Some x → d.0 ≢ x.0
    apart key x is same = omega (arith, slice_get_within names x.0 key (declared_at names sorts key x is).0)

-- what stands at a key where its name's value was written
here_written : (s : Store) (o : Option (ℕ × Sort)) (key : List ℕ) (old new : Members) → Writes s o key old new → IsInsideAt s o
    → (o ≡ None → get_member key old ≡ None) → IsWritten s o (get_member key new)
here_written s None key old new w room none = (ap (get_member key) w ∙ none refl, tt)
here_written s (Some x) key old new w room none = ((w.0, ap (get_member key) w.2 ∙ get_member-put key w.0 old, w.1), room)

-- another key keeps its member
others_kept : (s : Store) (o : Option (ℕ × Sort)) (key q : List ℕ) (old new : Members) → Writes s o key old new → q ≢ key
    → get_member q new ≡ get_member q old
others_kept s None key q old new w other = ap (get_member q) w
others_kept s (Some x) key q old new w other = ap (get_member q) w.2 ∙ get_member-put_other q key w.0 old other

-- members stay in order where one is written
order_kept : (s : Store) (o : Option (ℕ × Sort)) (key : List ℕ) (old new : Members) → Writes s o key old new → AreOrdered old
    → AreOrdered new
order_kept s None key old new w o = subst AreOrdered (sym w) o
order_kept s (Some x) key old new w o = subst AreOrdered (sym w.2) (put_ordered key w.0 old o)

-- a name with a text gets its member
named_step : (names : Texts) (sorts : Sorts) (s : Store) (d : ℕ × Sort) (rest : List (ℕ × Sort)) (key : List ℕ) (old new : Members)
    → slice_get names d.0 ≡ Some key
    → Writes s (declared_name names sorts key) key old new → IsInsideAt s (declared_name names sorts key)
    → MembersSoFar names sorts s (d ∷ rest) old → MembersSoFar names sorts s rest new
named_step names sorts s d rest key old new text written room w =
    record {
      ordered = order_kept s (declared_name names sorts key) key old new written w.ordered;
      each =
          λ (q : List ℕ). by q (bytes_eq q key) refl;
    }
  where
    nothing : declared_name names sorts key ≡ None → get_member key old ≡ None
    nothing none =
        ⊎_elim (λ (is : IsWritten s (declared_name names sorts key) (get_member key old)).
        (subst (λ (o : Option (ℕ × Sort)). IsWritten s o (get_member key old)) none is).0)
        (λ (come : IsToCome names sorts (d ∷ rest) key). absurd (none-some come.0 (sym none ∙ come.1)))
        (w.each key)

    apart : (q : List ℕ) (x : ℕ × Sort) → q ≢ key → declared_name names sorts q ≡ Some x → d.0 ≢ x.0
    apart q x other is same =
        let both : Some q ≡ Some key = sym (declared_at names sorts q x is).0 ∙ ap (slice_get names) (sym same) ∙ text in
        let equal : q ≡ key = cc in
        other equal

    by : (q : List ℕ) (b : Bool) → bytes_eq q key ≡ b
        → IsWritten s (declared_name names sorts q) (get_member q new) ⊎ IsToCome names sorts rest q
    by q true same =
        inl (subst (λ (k : List ℕ). IsWritten s (declared_name names sorts k) (get_member k new)) (sym ((bytes_eq-Decides q key).0 same))
        (here_written s (declared_name names sorts key) key old new written room nothing))
    by q false same =
        let other : q ≢ key = λ (t : q ≡ key). true≢false (sym ((bytes_eq-Decides q key).1 t) ∙ same) in
        ⊎_elim
        (λ (is : IsWritten s (declared_name names sorts q) (get_member q old)).
        inl (subst (IsWritten s (declared_name names sorts q))
        (sym (others_kept s (declared_name names sorts key) key q old new written other)) is))
        (λ (come : IsToCome names sorts (d ∷ rest) q).
        inr (come.0, come.1, declared_later d rest come.0 (apart q come.0 other come.1) come.2))
        (w.each q)

-- one turn over declarations, where the name has no text
pub unnamed_turn : (names : Texts) (sorts : Sorts) (s : Store) (items : List (Name × Sort)) (i : ℕ) (d : Name × Sort) (members : Members)
    → i < length items
    → length names ≤ (get_or items i d).0.0
    → MembersSoFar names sorts s (numbered (drop i items)) members → MembersSoFar names sorts s (numbered (drop (i + 1) items)) members
unnamed_turn names sorts s items i d members here past w =
    subst (λ (k : ℕ). MembersSoFar names sorts s (numbered (drop k items)) members) (sym (add-one i))
    (unnamed_step names sorts s ((get_or items i d).0.0, (get_or items i d).1) (numbered (drop (suc i) items)) members past
    (subst (λ (l : List (Name × Sort)). MembersSoFar names sorts s (numbered l) members) (drop-cons items i d here) w))

-- one turn over declarations, where the name has a text
pub named_turn : (names : Texts) (sorts : Sorts) (s : Store) (items : List (Name × Sort)) (i : ℕ) (d : Name × Sort) (key : List ℕ)
    (old new : Members) → i < length items
    → slice_get names (get_or items i d).0.0 ≡ Some key → Writes s (declared_name names sorts key) key old new
    → IsInsideAt s (declared_name names sorts key)
    → MembersSoFar names sorts s (numbered (drop i items)) old → MembersSoFar names sorts s (numbered (drop (i + 1) items)) new
named_turn names sorts s items i d key old new here text written room w =
    subst (λ (k : ℕ). MembersSoFar names sorts s (numbered (drop k items)) new) (sym (add-one i))
    (named_step names sorts s ((get_or items i d).0.0, (get_or items i d).1) (numbered (drop (suc i) items)) key old new text written room
    (subst (λ (l : List (Name × Sort)). MembersSoFar names sorts s (numbered l) old) (drop-cons items i d here) w))

-- after all declarations they are the members
pub members_end : (names : Texts) (sorts : Sorts) (s : Store) (items : List (Name × Sort)) (i : ℕ) (members : Members) → length items ≤ i
    → MembersSoFar names sorts s (numbered (drop i items)) members → AreWritten names sorts s members × AreInside names sorts s
members_end names sorts s items i members past w =
    all_members names sorts s members
    (subst (λ (l : List (Name × Sort)). MembersSoFar names sorts s (numbered l) members) (drop_all i items past) w)

-- two facts of what a call gave
pub both_ok : {T E : Type 0} (r : Result T E) (P Q R : T → Type 0) → ((x : T) → P x → Q x → R x) → IfOk r P → IfOk r Q → IfOk r R
both_ok (Ok x) P Q R both p q = both x p q
both_ok (Err e) P Q R both p q = tt

-- bytes that read as a map are JSON of its members
pub json_of : (map : BTreeMap (String Global) Json) (bytes : List ℕ) → IsUtf8 bytes → depth (object (members_view map.entries)) ≤ max_depth
    → (depth (view (Object map)) ≤ max_depth → read bytes ≡ Some (view (Object map))) → IsJson bytes (object (members_view map.entries))
json_of map bytes utf8 shallow reads = record {
  utf8 = utf8;
  value = reads (subst (λ (d : Data). depth d ≤ max_depth) (sym (view-Object map)) shallow) ∙ ap Some (view-Object map);
}
