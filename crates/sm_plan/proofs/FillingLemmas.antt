-- Terms whose parts are known with their slots replaced.
use Rattle.sm_plan.proofs.Imports.{◌≡◌, ℕ, ◌<◌, true, Option, Some, None, List, [], ◌∷◌, length, map, slice_get, refl, sym, ap, ◌∙◌, subst, get_or, take, ◌+◌, ◌++◌, map_more, map-append, Name, Sort, Num, Arr, Copy, copy_of, of_copy, PerCopy, outputs_of, has_sort, arguments_fit, term_fits, fill_term, fill_arguments, sort_named, tree_sort, IsStoreSorted, IsDeclaredIn, SymbolicStore, tree_or_start, IsStoreWithin, SymStore, AreTreesSorted, TableValue, trees_in, sorts_in, codes_in, tree_at, tree_in, code_at, arguments_in, IsTermWithin, AreBefore, AreNamesDeclared, TermId, Tree, slice_get-get_or, same_sort, part_before, stores_in, tree_got, there, name_stored, Filling, AreKnown, IsFilling, ArePartsKnown, IsSummary, at_name}
use Rattle.std.proofs.Common.{unwrap_or}
use Rattle.sm_syntax.specs.declared.program.Outputs.{Outputs}
use Rattle.sm_term.specs.declared.term.BodyId.{BodyId}
use Rattle.sm_term.specs.declared.term.Terms.{Terms}
use Rattle.sm_term.specs.declared.term.Term.TheVariants as row
use Rattle.sm_term.specs.declared.term.Term.{Term}
use Rattle.sm_term.specs.Terms as tree
use Rattle.sm_plan.specs.declared.filling.Filling.TheVariants.{There, Made, Part}
use Rattle.sm_plan.specs.declared.filling.Parts.TheVariants as parts
use Rattle.sm_plan.proofs.SortedTerms.{filled_sorted}

-- the row of a table at a place
pub record StandsAs (v : TableValue) (n : ℕ) (t : Term) : Type 0 where
  pub tree : tree_in (codes_in v) (trees_in v) t ≡ tree_at (trees_in v) n
  pub within : IsTermWithin (sorts_in v) (length (codes_in v)) n t
  pub fits : term_fits (sorts_in v) (trees_in v) t ≡ true
  pub inside : n < length (trees_in v)

-- a row that is known by its value
pub stands_as : (v : TableValue) (n : ℕ) (t u : Term) → t ≡ u → tree_in (codes_in v) (trees_in v) t ≡ tree_at (trees_in v) n →
    IsTermWithin (sorts_in v) (length (codes_in v)) n t →
    term_fits (sorts_in v) (trees_in v) t ≡ true → n < length (trees_in v) → StandsAs v n u
stands_as v n t u e tree within fits inside =
    subst (StandsAs v n) e (record {
      tree = tree;
      within = within;
      fits = fits;
      inside = inside;
    })

module _ (v : TableValue) (s : Copy → SymbolicStore) (known : ℕ → Option TermId) (kept : AreKnown v s known)
    (good : (c : Copy) → IsStoreSorted (sorts_in v) (s c)) (sorted : AreTreesSorted (sorts_in v) (trees_in v)) where
  -- a slot
  pub slot_filled : (stores : PerCopy SymStore) → s ≡ stores_in (trees_in v) stores →
      ((c : Copy) → IsStoreWithin (length (trees_in v)) (of_copy stores c)) →
      (n c : ℕ) (x : Name) → StandsAs v n (row.Slot c x) →
      IsFilling v s known n (at_name (slice_get (of_copy stores (copy_of c)).list.items x.0) x)
  slot_filled stores same within n c x at = by (slice_get (of_copy stores (copy_of c)).list.items x.0) refl
    where
      by : (o : Option TermId) → slice_get (of_copy stores (copy_of c)).list.items x.0 ≡ o → IsFilling v s known n (at_name o x)
      by None e = (
        at.within.1,
        refl,
        ap (tree_or_start (trees_in v) x.0) (sym e) ∙ ap (λ (f : Copy → SymbolicStore). f (copy_of c) x.0) (sym same)
            ∙ ap (fill_term s) at.tree,
      )
      by (Some t) e =
          name_stored (trees_in v) (of_copy stores (copy_of c)) x.0 t (within (copy_of c)) e
          ∙ ap (λ (f : Copy → SymbolicStore). Some (f (copy_of c) x.0)) (sym same) ∙ ap (λ (u : Tree). Some (fill_term s u)) at.tree

  -- a known part: its tree, and its sort
  got : (a b : TermId) → known a.0 ≡ Some b → tree_at (trees_in v) b.0 ≡ fill_term s (tree_at (trees_in v) a.0)
  got a b e = tree_got (trees_in v) b.0 (fill_term s (tree_at (trees_in v) a.0)) (kept a.0 b e).1

  inside : (a b : TermId) → known a.0 ≡ Some b → b.0 < length (trees_in v)
  inside a b e = there (trees_in v) b.0 (fill_term s (tree_at (trees_in v) a.0)) (kept a.0 b e).1

  same_fit : (a b : TermId) (sort : Sort) → known a.0 ≡ Some b →
      has_sort (sorts_in v) (trees_in v) b sort ≡ has_sort (sorts_in v) (trees_in v) a sort
  same_fit a b sort e =
      let part = filled_sorted (sorts_in v) s good (tree_at (trees_in v) a.0) (sorted a.0 (kept a.0 b e).0) in
      ap (λ (r : Sort). same_sort r sort) (ap (tree_sort (sorts_in v)) (got a b e) ∙ part.1)

  -- terms of one part, two parts and three parts
  pub read_filled : (n : ℕ) (a i b j : TermId) → StandsAs v n (row.Read a i) → known a.0 ≡ Some b → known i.0 ≡ Some j →
      IsFilling v s known n (Made (row.Read b j))
  read_filled n a i b j at e f = (
    (inside a b e, inside i j f),
    rw (same_fit a b Arr e, same_fit i j Num f) at.fits,
    rw (got a b e, got i j f) (ap (fill_term s) at.tree),
  )

  pub write_filled : (n : ℕ) (a i d b j g : TermId) → StandsAs v n (row.Write a i d) → known a.0 ≡ Some b → known i.0 ≡ Some j →
      known d.0 ≡ Some g →
      IsFilling v s known n (Made (row.Write b j g))
  write_filled n a i d b j g at e f h = (
    (inside a b e, inside i j f, inside d g h),
    rw (same_fit a b Arr e, same_fit i j Num f, same_fit d g Num h) at.fits,
    rw (got a b e, got i j f, got d g h) (ap (fill_term s) at.tree),
  )

  pub neg_filled : (n : ℕ) (a b : TermId) → StandsAs v n (row.Neg a) → known a.0 ≡ Some b → IsFilling v s known n (Made (row.Neg b))
  neg_filled n a b at e = (
    inside a b e,
    rw (same_fit a b Num e) at.fits,
    rw (got a b e) (ap (fill_term s) at.tree),
  )

  pub add_filled : (n : ℕ) (a i b j : TermId) → StandsAs v n (row.Add a i) → known a.0 ≡ Some b → known i.0 ≡ Some j →
      IsFilling v s known n (Made (row.Add b j))
  add_filled n a i b j at e f = (
    (inside a b e, inside i j f),
    rw (same_fit a b Num e, same_fit i j Num f) at.fits,
    rw (got a b e, got i j f) (ap (fill_term s) at.tree),
  )

  pub sub_filled : (n : ℕ) (a i b j : TermId) → StandsAs v n (row.Sub a i) → known a.0 ≡ Some b → known i.0 ≡ Some j →
      IsFilling v s known n (Made (row.Sub b j))
  sub_filled n a i b j at e f = (
    (inside a b e, inside i j f),
    rw (same_fit a b Num e, same_fit i j Num f) at.fits,
    rw (got a b e, got i j f) (ap (fill_term s) at.tree),
  )

  pub mul_filled : (n : ℕ) (a i b j : TermId) → StandsAs v n (row.Mul a i) → known a.0 ≡ Some b → known i.0 ≡ Some j →
      IsFilling v s known n (Made (row.Mul b j))
  mul_filled n a i b j at e f = (
    (inside a b e, inside i j f),
    rw (same_fit a b Num e, same_fit i j Num f) at.fits,
    rw (got a b e, got i j f) (ap (fill_term s) at.tree),
  )

  -- the arguments of a summary
  some_same : (t u : TermId) → Some t ≡ Some u → t ≡ u
  some_same t u e = ap (λ (o : Option TermId). unwrap_or o t) e

  args_inside : (args ids : List TermId) → map (λ (t : TermId). known t.0) args ≡ map (λ (t : TermId). Some t) ids →
      AreBefore (length (trees_in v)) ids
  args_inside [] [] e = tt
  args_inside [] (u ∷ ids) e = tt_of cc
    where
      tt_of : ⊥ → AreBefore (length (trees_in v)) (u ∷ ids)
      tt_of h = absurd h
  args_inside (t ∷ args) [] e = tt
  args_inside (t ∷ args) (u ∷ ids) e =
      let here : known t.0 ≡ Some u = cc in
      let rest : map (λ (t : TermId). known t.0) args ≡ map (λ (t : TermId). Some t) ids = cc in
      (inside t u here, args_inside args ids rest)

  names_inside : (from names : List Name) → map (λ (x : Name). x.0) names ≡ map (λ (x : Name). x.0) from →
      AreNamesDeclared (sorts_in v) from → AreNamesDeclared (sorts_in v) names
  names_inside from [] e h = tt
  names_inside [] (y ∷ names) e h = absurd cc
  names_inside (x ∷ from) (y ∷ names) e h =
      let here : x.0 ≡ y.0 = cc in
      let rest : map (λ (x : Name). x.0) names ≡ map (λ (x : Name). x.0) from = cc in
      (subst (IsDeclaredIn (sorts_in v)) here h.0, names_inside from names rest h.1)

  args_fit : (from names : List Name) (args ids : List TermId) → map (λ (x : Name). x.0) names ≡ map (λ (x : Name). x.0) from →
      map (λ (t : TermId). known t.0) args ≡ map (λ (t : TermId). Some t) ids →
      arguments_fit (sorts_in v) (trees_in v) names ids ≡ arguments_fit (sorts_in v) (trees_in v) from args
  args_fit [] [] [] [] e f = refl
  args_fit [] [] [] (u ∷ ids) e f = absurd cc
  args_fit [] [] (t ∷ args) [] e f = absurd cc
  args_fit [] [] (t ∷ args) (u ∷ ids) e f = refl
  args_fit [] (y ∷ names) args ids e f = absurd cc
  args_fit (x ∷ from) [] args ids e f = absurd cc
  args_fit (x ∷ from) (y ∷ names) [] [] e f = refl
  args_fit (x ∷ from) (y ∷ names) [] (u ∷ ids) e f = absurd cc
  args_fit (x ∷ from) (y ∷ names) (t ∷ args) [] e f = absurd cc
  args_fit (x ∷ from) (y ∷ names) (t ∷ args) (u ∷ ids) e f =
      let name : y.0 ≡ x.0 = cc in
      let here : known t.0 ≡ Some u = cc in
      let names_same : map (λ (x : Name). x.0) names ≡ map (λ (x : Name). x.0) from = cc in
      let rest : map (λ (t : TermId). known t.0) args ≡ map (λ (t : TermId). Some t) ids = cc in
      rw (name, same_fit t u (sort_named (sorts_in v) x.0) here, args_fit from names args ids names_same rest) refl

  args_filled : (from names : List Name) (args ids : List TermId) → map (λ (x : Name). x.0) names ≡ map (λ (x : Name). x.0) from →
      map (λ (t : TermId). known t.0) args ≡ map (λ (t : TermId). Some t) ids →
      arguments_in (trees_in v) names ids ≡ fill_arguments s (arguments_in (trees_in v) from args)
  args_filled [] [] args ids e f = refl
  args_filled [] (y ∷ names) args ids e f = absurd cc
  args_filled (x ∷ from) [] args ids e f = absurd cc
  args_filled (x ∷ from) (y ∷ names) [] [] e f = refl
  args_filled (x ∷ from) (y ∷ names) [] (u ∷ ids) e f = absurd cc
  args_filled (x ∷ from) (y ∷ names) (t ∷ args) [] e f = absurd cc
  args_filled (x ∷ from) (y ∷ names) (t ∷ args) (u ∷ ids) e f =
      let name : y.0 ≡ x.0 = cc in
      let here : known t.0 ≡ Some u = cc in
      let names_same : map (λ (x : Name). x.0) names ≡ map (λ (x : Name). x.0) from = cc in
      let rest : map (λ (t : TermId). known t.0) args ≡ map (λ (t : TermId). Some t) ids = cc in
      rw (name, got t u here, args_filled from names args ids names_same rest) refl

  -- a summary
  pub fun_filled : (n : ℕ) (body : BodyId) (x : Name) (from names : Outputs) (args ids : Terms) → StandsAs v n (row.Fun body x from args) →
      outputs_of names ≡ outputs_of from →
      ArePartsKnown known args.list.items (parts.Known ids) → IsFilling v s known n (Made (row.Fun body x names ids))
  fun_filled n body x from names args ids at e f = (
    (at.within.0, at.within.1, names_inside from.list.items names.list.items e at.within.2, args_inside args.list.items ids.list.items f),
    args_fit from.list.items names.list.items args.list.items ids.list.items e f ∙ at.fits,
    ap (tree.Fun (code_at (codes_in v) body.0) x.0) (args_filled from.list.items names.list.items args.list.items ids.list.items e f)
        ∙ ap (fill_term s) at.tree,
  )

  -- whatever was found of its arguments
  pub summary_filled : (n : ℕ) (body : BodyId) (x : Name) (from : Outputs) (args : Terms) (f : Filling) →
      StandsAs v n (row.Fun body x from args) →
      IsSummary known body x from args f → IsFilling v s known n f
  summary_filled n body x from args (There id) at h = absurd h
  summary_filled n body x from args (Made t) at h =
      subst (λ (u : Term). IsFilling v s known n (Made u)) (sym h.2) (fun_filled n body x from h.0 args h.1 at h.3 h.4)
  summary_filled n body x from args (Part p) at h = (h.0 n at.within.3, h.1)

-- an argument stands where all do
pub arg_before : (args : List TermId) (i : ℕ) (d : TermId) → i < length args → (n : ℕ) → AreBefore n args → (get_or args i d).0 < n
arg_before args i d h n w = part_before n args i (get_or args i d) w (slice_get-get_or args i d h)

-- one argument more is known
pub known_push : (known : ℕ → Option TermId) (args ids all : List TermId) (i : ℕ) (d t : TermId) → i < length args →
    known (get_or args i d).0 ≡ Some t →
    map (λ (x : TermId). known x.0) (take i args) ≡ map (λ (x : TermId). Some x) ids → all ≡ ids ++ t ∷ [] →
    map (λ (x : TermId). known x.0) (take (i + 1) args) ≡ map (λ (x : TermId). Some x) all
known_push known args ids all i d t h e made pushed =
    map_more (λ (x : TermId). known x.0) args i d h
    ∙ (λ k. made k ++ e k ∷ [])
    ∙ sym (ap (map (λ (x : TermId). Some x)) pushed ∙ map-append (λ (x : TermId). Some x) ids (t ∷ []))
