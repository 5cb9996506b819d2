-- Rows that are put into another table: each is there, and what was there stays.
use Rattle.sm_term.proofs.Imports.{◌≡◌, ℕ, zero, suc, ◌+◌, ◌-◌, ◌<◌, ◌≤◌, Bool, true, false, nat_lt, if◌then◌else◌, Some, List, [], ◌∷◌, ◌++◌, length, map, take, drop, get_or, slice_get, pos, refl, sym, ap, ◌∙◌, subst, arith, list_any, with_value, append-nil, append_assoc, map-append, take_more, drop_more, length-take, length-append, get_or-take, get_or_append_left, get_or-append-add, take-append_seam, ltb-true, ltb-false, slice_get-get_or, get_or_from_slice_get, slice_get_within, Code, End, sort_of, Sorts, code_of, Body, BodyId, Tree, block_of, same_body, parts_in_list, contents_of, TableValue, trees_in, codes_in, tree_at, code_at, tree_in, trees_behind, IsTermWithin, Term, term_fits, AreTermsSound, with_tree, with_code, with_trees, with_codes, ExtendsTable, trees_numbered, moved_part, moved_body, bodies_in_list, moved_contents, codes_numbered, KeepsRows}
use Rattle.sm_syntax.specs.declared.tree.Block.{Block}
use Rattle.sm_term.specs.declared.term.Term.TheVariants as row
use Rattle.sm_term.specs.Terms as tree
use Rattle.sm_term.specs.Tables.{TermId}
use Rattle.sm_term.proofs.TreesLemmas.{length-trees}
use Rattle.sm_term.proofs.TablesLemmas.{stands}
use Rattle.sm_term.proofs.MovesLemmas.{moved_tree, moved_within, moved_fits}

-- values with one more begin with what they were
pub grown_key : {T : Type 0} (same : T → T → Bool) (xs : List T) (x : T) → (more : List T) × (with_value same xs x ≡ xs ++ more)
grown_key same xs x = by (list_any (same x) xs) refl
  where
    by : (b : Bool) → list_any (same x) xs ≡ b → (more : List _) × (with_value same xs x ≡ xs ++ more)
    by true e = ([], ap (λ b. if b then xs else xs ++ x ∷ []) e ∙ sym (append-nil xs))
    by false e = (x ∷ [], ap (λ b. if b then xs else xs ++ x ∷ []) e)

-- so do the blocks of bodies
pub grown_bodies : (bs : List Body) (b : Body) → (more : List Block) × (map block_of (with_value same_body bs b) ≡ map block_of bs ++ more)
grown_bodies bs b =
    let grown = grown_key same_body bs b in
    (map block_of grown.0, ap (map block_of) grown.1 ∙ map-append block_of bs grown.0)

-- a table keeps its rows where it stays
pub keeps-not : (v w : TableValue) → w ≡ v → KeepsRows v w
keeps-not v w e = record {
  declared = ap (λ (t : TableValue). t.declared) e;
  bodies = ([], ap (λ (t : TableValue). t.bodies) e ∙ sym (append-nil v.bodies));
  terms = ([], ap (λ (t : TableValue). t.terms) e ∙ sym (append-nil v.terms));
}

-- rows that are kept from one table to a second, and from that to a third, are kept in the third
pub keeps-twice : (u v w : TableValue) → KeepsRows u v → KeepsRows v w → KeepsRows u w
keeps-twice u v w first second = record {
  declared = second.declared ∙ first.declared;
  bodies = (first.bodies.0 ++ second.bodies.0, second.bodies.1 ∙ ap (λ l. l ++ second.bodies.0) first.bodies.1 ∙ append_assoc u.bodies first.bodies.0 second.bodies.0);
  terms = (first.terms.0 ++ second.terms.0, second.terms.1 ∙ ap (λ l. l ++ second.terms.0) first.terms.1 ∙ append_assoc u.terms first.terms.0 second.terms.0);
}

-- the code of the bodies that were there comes first
pub codes-kept : (v w : TableValue) → KeepsRows v w → (more : List Code) × (codes_in w ≡ codes_in v ++ more)
codes-kept v w kept = (map code_of kept.bodies.0, ap (map code_of) kept.bodies.1 ∙ map-append code_of v.bodies kept.bodies.0)

-- a table that keeps its rows and its trees is wider
pub widens : (v w : TableValue) → KeepsRows v w → (more : List Tree) × (trees_in w ≡ trees_in v ++ more) → ExtendsTable v w
widens v w kept trees = record {
  sorts = ap sort_of kept.declared;
  codes = codes-kept v w kept;
  trees = trees;
}

-- the first of a list that was put before more
first_of : {T : Type 0} (xs ys more : List T) (n : ℕ) → n ≡ length xs → ys ≡ xs ++ more → take n ys ≡ xs
first_of xs ys more n long e = ap (take n) e ∙ ap (λ m. take m (xs ++ more)) long ∙ take-append_seam xs more

module _ (v w : TableValue) (kept : KeepsRows v w) (b t : ℕ) (bodies : b ≡ length v.bodies) (terms : t ≡ length v.terms) where
  -- a table that kept its rows, cut back to as many as it had, is what it was
  pub kept_is : (r : TableValue) → r.declared ≡ w.declared → r.bodies ≡ take b w.bodies → r.terms ≡ take t w.terms → r ≡ v
  kept_is r declared first last =
      let names = declared ∙ kept.declared in
      let blocks = first ∙ first_of v.bodies w.bodies kept.bodies.0 b bodies kept.bodies.1 in
      let rows = last ∙ first_of v.terms w.terms kept.terms.0 t terms kept.terms.1 in
      λ k. record { declared = names k; bodies = blocks k; terms = rows k }

-- trees that have grown twice have grown
pub more_twice :
    (older trees new : List Tree) → (more : List Tree) × (trees ≡ older ++ more) → (more : List Tree) × (new ≡ trees ++ more) → (more : List Tree) × (new ≡ older ++ more)
more_twice older trees new first second = (first.0 ++ second.0, second.1 ∙ ap (λ l. l ++ second.0) first.1 ∙ append_assoc older first.0 second.0)

-- the next item of a list, under a function
pub next_item : {A B : Type 0} (f : A → B) (xs : List A) (i : ℕ) (d : B) (x : A) → i < length xs → x ≡ get_or xs i x → get_or (map f xs) i d ≡ f x
next_item f xs i d x h is = by xs i (slice_get-get_or xs i x h ∙ ap Some (sym is))
  where
    by : (ys : List _) (i : ℕ) → slice_get ys i ≡ Some x → get_or (map f ys) i d ≡ f x
    by [] i e = absurd cc
    by (y ∷ ys) zero e = let same : y ≡ x = cc in ap f same
    by (y ∷ ys) (suc i) e = by ys i e

-- what numbers stand for stays where more is put behind
numbered_more : {I T : Type 0} (f : I → ℕ) (xs more : List T) (ids : List I) (ys : List T) → map (λ j. slice_get xs (f j)) ids ≡ map Some ys → map (λ j. slice_get (xs ++ more) (f j)) ids ≡ map Some ys
numbered_more f xs more [] [] e = refl
numbered_more f xs more [] (y ∷ ys) e = absurd cc
numbered_more f xs more (j ∷ ids) [] e = absurd cc
numbered_more f xs more (j ∷ ids) (y ∷ ys) e =
    let here : slice_get xs (f j) ≡ Some y = cc in
    let there : map (λ j. slice_get xs (f j)) ids ≡ map Some ys = cc in
    let inside = slice_get_within xs (f j) y here in
    let long = length-append xs more in
    let at = slice_get-get_or (xs ++ more) (f j) y (omega (arith, inside, long)) ∙ ap Some (get_or_append_left xs more y (f j) inside ∙ get_or_from_slice_get xs (f j) y y here) in
    rw (at, numbered_more f xs more ids ys there) refl

-- one number more
pub numbered_push :
    {I T : Type 0} (f : I → ℕ) (xs more : List T) (ids : List I) (id : I) (ys : List T) (i : ℕ) (d : T) → map (λ j. slice_get xs (f j)) ids ≡ map Some (take i ys) → i < length ys
    → slice_get (xs ++ more) (f id) ≡ Some (get_or ys i d) → map (λ j. slice_get (xs ++ more) (f j)) (ids ++ id ∷ []) ≡ map Some (take (i + 1) ys)
numbered_push f xs more ids id ys i d e h found =
    map-append (λ j. slice_get (xs ++ more) (f j)) ids (id ∷ [])
    ∙ ap (λ l. l ++ slice_get (xs ++ more) (f id) ∷ []) (numbered_more f xs more ids (take i ys) e)
    ∙ ap (λ o. map Some (take i ys) ++ o ∷ []) found
    ∙ sym (ap (map Some) (take_more ys i d h) ∙ map-append Some (take i ys) (get_or ys i d ∷ []))

-- what the number at a place stands for
numbered_at : {I T : Type 0} (f : I → ℕ) (xs : List T) (ids : List I) (ys : List T) (k p : ℕ) (d : T) → map (λ j. slice_get xs (f j)) ids ≡ map Some ys → k < length ys
    → slice_get xs (get_or (map f ids) k p) ≡ Some (get_or ys k d)
numbered_at f xs [] [] k p d e h = absurd (omega arith)
numbered_at f xs [] (y ∷ ys) k p d e h = absurd cc
numbered_at f xs (j ∷ ids) [] k p d e h = absurd cc
numbered_at f xs (j ∷ ids) (y ∷ ys) zero p d e h = cc
numbered_at f xs (j ∷ ids) (y ∷ ys) (suc k) p d e h =
    let there : map (λ j. slice_get xs (f j)) ids ≡ map Some ys = cc in numbered_at f xs ids ys k p d there (omega arith)

-- the next code goes in
pub codes_step : (codes cs : List Code) (i : ℕ) (c : Code) → i < length cs → get_or cs i End ≡ c → with_codes (with_code codes c) (drop (i + 1) cs) ≡ with_codes codes (drop i cs)
codes_step codes cs i c h e = ap (λ d. with_codes (with_code codes d) (drop (i + 1) cs)) (sym e) ∙ sym (ap (with_codes codes) (drop_more cs i End h))

-- the next tree goes in
pub trees_step : (trees ts : List Tree) (i : ℕ) (t : Tree) → i < length ts → tree_at ts i ≡ t → with_trees (with_tree trees t) (drop (i + 1) ts) ≡ with_trees trees (drop i ts)
trees_step trees ts i t h e = ap (λ u. with_trees (with_tree trees u) (drop (i + 1) ts)) (sym e) ∙ sym (ap (with_trees trees) (drop_more ts i (tree.Lit (pos 0)) h))

-- a moved row: what is asked of it, and its tree
pub record MovedRow (sorts : Sorts) (codes : List Code) (trees : List Tree) (made : Tree) (u : Term) : Type 0 where
  pub within : IsTermWithin sorts (length codes) (length trees) u
  pub fit : term_fits sorts trees u ≡ true
  pub tree : tree_in codes trees u ≡ made

module _ (sorts : Sorts) (codes there : List Code) (older more trees : List Tree) (from : ℕ) (inside : from ≤ length older) (grown : trees ≡ older ++ more)
    (rows : List Term) (sound : AreTermsSound sorts there (take from older) rows) (i : ℕ) (h : i < length rows)
    (answers : List TermId) (stored : trees_numbered trees answers ≡ map Some (take i (trees_behind there (take from older) rows)))
    (numbers : List BodyId) (found : codes_numbered codes numbers ≡ map Some there) where
  abbrev first : List Tree
  first = take from older

  abbrev all : List Tree
  all = trees_behind there first rows

  abbrev part : ℕ → ℕ
  part = moved_part from (parts_in_list answers)

  abbrev body : ℕ → ℕ
  body = moved_body (bodies_in_list numbers)

  long : length first ≡ from
  long = let taken = length-take from older in omega (arith, taken, inside)

  parts : (p : ℕ) → p < from + i → (part p < length trees) × (tree_at trees (part p) ≡ tree_at (first ++ all) p)
  parts p g = by (nat_lt p from) refl
    where
      by : (b : Bool) → nat_lt p from ≡ b → (part p < length trees) × (tree_at trees (part p) ≡ tree_at (first ++ all) p)
      by true e =
          let before : p < from = ltb-true p from e in
          let stays : part p ≡ p = ap (λ b. if b then p else get_or (parts_in_list answers) (p - from) p) e in
          let wide = ap length grown ∙ length-append older more in
          let d = tree.Lit (pos 0) in (
            omega (arith, stays, wide, before, inside),
            ap (tree_at trees) stays
                ∙ ap (λ l. tree_at l p) grown
                ∙ get_or_append_left older more d p (omega (arith, before, inside))
                ∙ sym (get_or-take from older p d before)
                ∙ sym (get_or_append_left first all d p (omega (arith, before, long))),
          )
      by false e =
          let after : from ≤ p = ltb-false p from e in
          let k = p - from in
          let place : from + k ≡ p = omega (arith, after) in
          let moves : part p ≡ get_or (parts_in_list answers) k p = ap (λ b. if b then p else get_or (parts_in_list answers) (p - from) p) e in
          let d = tree.Lit (pos 0) in
          let taken = length-take i all in
          let many = length-trees there first rows in
          let earlier : k < i = omega (arith, g, after) in
          let short : k < length (take i all) = omega (arith, taken, many, h, earlier) in
          let at = numbered_at (λ (t : TermId). t.0) trees answers (take i all) k p d stored short in
          let here = ap (slice_get trees) moves ∙ at in (
            slice_get_within trees (part p) (get_or (take i all) k d) here,
            get_or_from_slice_get trees (part p) (get_or (take i all) k d) d here
                ∙ get_or-take i all k d earlier
                ∙ sym (get_or-append-add first all k d)
                ∙ ap (tree_at (first ++ all)) (omega (arith, long, place)),
          )

  bodies : (b : ℕ) → b < length there → (body b < length codes) × (code_at codes (body b) ≡ code_at there b)
  bodies b g =
      let at = numbered_at (λ (x : BodyId). x.0) codes numbers there b b End found g in
      (slice_get_within codes (body b) (get_or there b End) at, get_or_from_slice_get codes (body b) (get_or there b End) End at)

  pub moved_row : (u : Term) → contents_of u ≡ moved_contents part body (get_or rows i row.Cell) → MovedRow sorts codes trees (tree_at all i) u
  moved_row u e =
      let t = get_or rows i row.Cell in
      let place = stands sorts there first rows sound i h in
      let within = subst (λ n. IsTermWithin sorts (length there) (n + i) t) long place.before in
      record {
        within = moved_within sorts codes there trees (first ++ all) (from + i) part body parts bodies t u e within;
        fit = moved_fits sorts codes there trees (first ++ all) (from + i) part body parts bodies t u e within ∙ place.fit;
        tree =
            moved_tree sorts codes there trees (first ++ all) (from + i) part body parts bodies t u e within
            ∙ sym place.tree
            ∙ get_or-append-add first all i (tree.Lit (pos 0));
      }
