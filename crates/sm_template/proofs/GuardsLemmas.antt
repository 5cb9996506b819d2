-- Terms of well-sorted expressions over places, and what comparisons of them suggest.
use Rattle.sm_template.proofs.Imports.{◌≡◌, ℕ, ◌<◌, Bool, true, false, if◌then◌else◌, Option, Some, None, is_some, List, [], ◌∷◌, ◌++◌, cond, length, slice_get, refl, sym, ap, ◌∙◌, subst, filter, flat_map, Expression, Cmp, Copy, Sorts, IsWellSortedExpression, Sort, Num, Arr, Assertion, HasSort, IsStoreSorted, SymbolicStore, term_of, store_in, IsStoreWithin, SymStore, TableValue, trees_in, sorts_in, tree_at, AddsTerms, Start, Slot, Read, Neg, Add, Sub, Mul, store-more, stays_got, tree_got, there, named_declared, sort_is, term_sorted, Copies, copies, has, AddsBounds, places_of, slots, weaker}
use Rattle.sm_syntax.specs.claim.Syntax as syntax
use Rattle.sm_syntax.specs.claim.ConflictFree.{O, A, B, M}
use Rattle.sm_moves.specs.CopySets.{members}
use Rattle.sm_template.proofs.BoundsMade.{bounds_none, bounds_then}

-- the place of a declared name
place_is : (sorts : Sorts) (c : Copy) (x : ℕ) (sort : Sort) → sorts x ≡ Some sort → places_of sorts c x ≡ Slot c x
place_is sorts c x sort known = ap (λ (b : Bool). if b then Slot c x else Start x) (named_declared sorts x sort known)

-- the term of an expression
pub places_term : (sorts : Sorts) (c : Copy) (e : Expression) → IsWellSortedExpression sorts e →
    term_of e (places_of sorts c) ≡ term_of e (slots c)
places_term sorts c (syntax.Lit z) w = refl
places_term sorts c (syntax.Var x) w = place_is sorts c x Num w
places_term sorts c (syntax.Read a i) w = λ k. Read (place_is sorts c a Arr w.0 k) (places_term sorts c i w.1 k)
places_term sorts c (syntax.Neg e) w = ap Neg (places_term sorts c e w)
places_term sorts c (syntax.Plus d e) w = λ k. Add (places_term sorts c d w.0 k) (places_term sorts c e w.1 k)
places_term sorts c (syntax.Minus d e) w = λ k. Sub (places_term sorts c d w.0 k) (places_term sorts c e w.1 k)
places_term sorts c (syntax.Times d e) w = λ k. Mul (places_term sorts c d w.0 k) (places_term sorts c e w.1 k)

-- the store of places is sorted
pub places_sorted : (sorts : Sorts) (c : Copy) → IsStoreSorted sorts (places_of sorts c)
places_sorted sorts c = record {
  declared = λ (x : ℕ) (sort : Sort) (known : sorts x ≡ Some sort).
      subst (HasSort sorts sort) (sym (place_is sorts c x sort known))
      (named_declared sorts x sort known, sort_is sorts x sort known);
  other = λ (x : ℕ) (none : sorts x ≡ None). ap (λ (o : Option Sort). if is_some o then Slot c x else Start x) none;
}

-- a table that grows keeps the store
pub places_stay : (u v : TableValue) → AddsTerms u v → (s : SymStore) (c : Copy) → IsStoreWithin (length (trees_in u)) s →
    store_in (trees_in u) s ≡ places_of (sorts_in u) c → store_in (trees_in v) s ≡ places_of (sorts_in v) c
places_stay u v grows s c within store =
    store-more u v grows s within ∙ store ∙ ap (λ (f : Sorts). places_of f c) (sym grows.sorts)

pub store_sorted : (v : TableValue) (s : SymStore) (c : Copy) → store_in (trees_in v) s ≡ places_of (sorts_in v) c →
    IsStoreSorted (sorts_in v) (store_in (trees_in v) s)
store_sorted v s c store = subst (IsStoreSorted (sorts_in v)) (sym store) (places_sorted (sorts_in v) c)

-- the number of an expression's term
pub record IsGuardTerm (v : TableValue) (c : Copy) (e : Expression) (n : ℕ) : Type 0 where
  pub inside : n < length (trees_in v)
  pub sorted : HasSort (sorts_in v) Num (tree_at (trees_in v) n)
  pub is : tree_at (trees_in v) n ≡ term_of e (slots c)

pub guard_term : (v : TableValue) (c : Copy) (f : SymbolicStore) (e : Expression) (n : ℕ) → f ≡ places_of (sorts_in v) c →
    IsWellSortedExpression (sorts_in v) e → slice_get (trees_in v) n ≡ Some (term_of e f) → IsGuardTerm v c e n
guard_term v c f e n store well made =
    let sorts = sorts_in v in
    let places = places_of sorts c in
    let tree : tree_at (trees_in v) n ≡ term_of e places = tree_got (trees_in v) n (term_of e f) made ∙ ap (term_of e) store in
    record {
      inside = there (trees_in v) n (term_of e f) made;
      sorted = subst (HasSort sorts Num) (sym tree)
          (term_sorted sorts e places well (places_sorted sorts c));
      is = tree ∙ places_term sorts c e well;
    }

-- what two terms suggest, where they are those of expressions
pub weaker_is : (v : TableValue) (c : Copy) (op : Cmp) (d e : Expression) (n m : ℕ) → IsGuardTerm v c d n → IsGuardTerm v c e m →
    weaker op (tree_at (trees_in v) n) (tree_at (trees_in v) m) ≡ weaker op (term_of d (slots c)) (term_of e (slots c))
weaker_is v c op d e n m first second = λ k. weaker op (first.is k) (second.is k)

-- the terms of two expressions, over the table that has both
module _ (u v w : TableValue) (first : AddsTerms u v) (second : AddsTerms v w) (s : SymStore) (c : Copy)
    (within : IsStoreWithin (length (trees_in u)) s) (store : store_in (trees_in u) s ≡ places_of (sorts_in u) c) where
  same : sorts_in w ≡ sorts_in u
  same = second.sorts ∙ first.sorts

  well_later : (e : Expression) → IsWellSortedExpression (sorts_in u) e → IsWellSortedExpression (sorts_in w) e
  well_later e well = subst (λ (f : Sorts). IsWellSortedExpression f e) (sym same) well

  pub first_term : (e : Expression) (n : ℕ) → IsWellSortedExpression (sorts_in u) e →
      slice_get (trees_in v) n ≡ Some (term_of e (store_in (trees_in u) s)) → IsGuardTerm w c e n
  first_term e n well made =
      guard_term w c (store_in (trees_in u) s) e n (store ∙ ap (λ (f : Sorts). places_of f c) (sym same)) (well_later e well)
      (stays_got v w second n (term_of e (store_in (trees_in u) s)) made)

  pub second_term : (e : Expression) (n : ℕ) → IsWellSortedExpression (sorts_in u) e →
      slice_get (trees_in w) n ≡ Some (term_of e (store_in (trees_in v) s)) → IsGuardTerm w c e n
  second_term e n well made =
      guard_term w c (store_in (trees_in v) s) e n
      (places_stay u v first s c within store ∙ ap (λ (f : Sorts). places_of f c) (sym second.sorts)) (well_later e well) made

-- what is made of some of a list
flat_some : {T U : Type 0} (p : T → Bool) (f : T → List U) (xs : List T) →
    flat_map f (filter p xs) ≡ flat_map (λ (x : T). if p x then f x else []) xs
flat_some p f [] = refl
flat_some {T} {U} p f (x ∷ xs) = by (p x) (flat_some p f xs)
  where
    by : (b : Bool) → flat_map f (filter p xs) ≡ flat_map (λ (y : T). if p y then f y else []) xs →
        flat_map f (cond b (x ∷ filter p xs) (filter p xs)) ≡ (if b then f x else []) ++ flat_map (λ (y : T). if p y then f y else []) xs
    by true e = ap (λ l. f x ++ l) e
    by false e = e

-- what the copies of a set suggest, copy by copy
pub four_bounds : (set : Copies) (f : Copy → List Assertion) (v0 v1 v2 v3 v4 : TableValue) (ps0 ps1 ps2 ps3 ps4 : List (ℕ × ℕ)) → ps0 ≡ [] →
    AddsBounds v0 v1 ps0 ps1 (if has set O then f O else []) → AddsBounds v1 v2 ps1 ps2 (if has set A then f A else []) →
    AddsBounds v2 v3 ps2 ps3 (if has set B then f B else []) → AddsBounds v3 v4 ps3 ps4 (if has set M then f M else []) →
    AddsBounds v0 v4 [] ps4 (flat_map f (members set))
four_bounds set f v0 v1 v2 v3 v4 ps0 ps1 ps2 ps3 ps4 none one two three four =
    let some : Copy → List Assertion = λ (c : Copy). if has set c then f c else [] in
    let last = bounds_then v3 v4 v4 ps3 ps4 ps4 (some M) [] four (bounds_none v4 ps4) in
    let third = bounds_then v2 v3 v4 ps2 ps3 ps4 (some B) (some M ++ []) three last in
    let second = bounds_then v1 v2 v4 ps1 ps2 ps4 (some A) (some B ++ (some M ++ [])) two third in
    let all = bounds_then v0 v1 v4 ps0 ps1 ps4 (some O) (some A ++ (some B ++ (some M ++ []))) one second in
    subst (AddsBounds v0 v4 [] ps4) (sym (flat_some (has set) f copies))
    (subst (λ (l : List (ℕ × ℕ)). AddsBounds v0 v4 l ps4 (flat_map some copies)) none all)
