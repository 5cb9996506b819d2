-- What is so of tables of terms stays so where a term or a body is put behind, or the last are cut.
use Rattle.sm_term.proofs.Imports.{◌≡◌, ℕ, zero, suc, pos, ◌+◌, ◌<◌, ◌≤◌, Bool, true, false, ◌||◌, if◌then◌else◌, List, [], ◌∷◌, ◌++◌, map, length, take, get_or, slice_get, refl, sym, ap, ◌∙◌, subst, arith, Some, true≢false, ⊎_elim, list_any, with_value, get_or-append_seam, cases_lt, get_or_append_left, length-append, append_assoc, get_or-take, length-take, append-nil, slice_get-get_or, get_or_from_slice_get, slice_get_within, Code, End, Sorts, IsWellSorted, Tree, same_code, same_tree, code_of, Body, block_of, body_code, same_body-Decides, same_term, same_term-Decides, IsSorted, TableValue, trees_in, sorts_in, codes_in, tree_at, code_at, tree_in, trees_behind, IsTermWithin, Term, term_fits, AreTermsSound, AreApart, AreCodesApart, AreTreesSorted, AreCodesSorted, IsTable, with_tree, with_code, AddsTerms}
use Rattle.sm_term.specs.declared.term.Term.TheVariants as row
use Rattle.sm_term.specs.Terms as tree
use Rattle.sm_term.specs.Bodies.{same_body}
use Rattle.sm_term.proofs.SameTermsLemmas.{same_code_is, same_tree_is}
use Rattle.sm_term.proofs.TermsLemmas.{alike, unlike, term_sorted}
use Rattle.sm_term.proofs.TreesLemmas.{length-trees, take-trees, trees-push, tree_at-more, tree_in-more, fits-more, within-later, trees-codes, sound-codes, sound-take, sound-push}
use Rattle.sm_lemmas.proofs.Tests.{same_tests}

-- the term at a place, over all trees: its tree, and what is so of it
pub record StandsAt (sorts : Sorts) (codes : List Code) (trees : List Tree) (i : ℕ) (t : Term) : Type 0 where
  pub tree : tree_at trees i ≡ tree_in codes trees t
  pub within : IsTermWithin sorts (length codes) (length trees) t
  pub before : IsTermWithin sorts (length codes) i t
  pub fit : term_fits sorts trees t ≡ true

pub stands : (sorts : Sorts) (codes : List Code) (older : List Tree) (ts : List Term) → AreTermsSound sorts codes older ts → (i : ℕ) → i < length ts
    → StandsAt sorts codes (older ++ trees_behind codes older ts) (length older + i) (get_or ts i row.Cell)
stands sorts codes older [] s i h = absurd (omega arith)
stands sorts codes older (t ∷ ts) s zero h =
    let first = tree_in codes older t in
    let rest = trees_behind codes (older ++ first ∷ []) ts in
    let long = length-append older (first ∷ rest) in
    record {
      tree = ap (tree_at (older ++ first ∷ rest)) (omega arith) ∙ get_or-append_seam older first rest (tree.Lit (pos 0)) ∙ sym (tree_in-more sorts (length codes) codes older (first ∷ rest) t s.0);
      within = within-later sorts (length codes) (length codes) (length older) (length (older ++ first ∷ rest)) (omega arith) (omega arith) t s.0;
      before = within-later sorts (length codes) (length codes) (length older) (length older + 0) (omega arith) (omega arith) t s.0;
      fit = fits-more sorts (length codes) older (first ∷ rest) t s.0 ∙ s.1;
    }
stands sorts codes older (t ∷ ts) s (suc i) h =
    let first = tree_in codes older t in
    let next = older ++ first ∷ [] in
    let rest = trees_behind codes next ts in
    let joined : next ++ rest ≡ older ++ first ∷ rest = append_assoc older (first ∷ []) rest in
    let long = length-append older (first ∷ []) in
    let place : length next + i ≡ length older + suc i = omega arith in
    subst (λ l. StandsAt sorts codes l (length older + suc i) (get_or ts i row.Cell)) joined
    (subst (λ n. StandsAt sorts codes (next ++ rest) n (get_or ts i row.Cell)) place (stands sorts codes next ts s.2 i (omega arith)))

-- the term at a place in a list of sound terms, over all their trees
pub row_at : (sorts : Sorts) (codes : List Code) (ts : List Term) → AreTermsSound sorts codes [] ts → (i : ℕ) → i < length ts → StandsAt sorts codes (trees_behind codes [] ts) i (get_or ts i row.Cell)
row_at sorts codes ts s i h =
    let place : 0 + i ≡ i = omega arith in
    subst (λ n. StandsAt sorts codes (trees_behind codes [] ts) n (get_or ts i row.Cell)) place (stands sorts codes [] ts s i h)

-- an element that passes a test
any_at : {T : Type 0} (p : T → Bool) (xs : List T) (i : ℕ) (d : T) → i < length xs → p (get_or xs i d) ≡ true → list_any p xs ≡ true
any_at p [] i d h e = absurd (omega arith)
any_at p (x ∷ xs) zero d h e = ap (λ b. b || list_any p xs) e
any_at p (x ∷ xs) (suc i) d h e = ap (λ b. p x || b) (any_at p xs i d (omega arith) e) ∙ or_true (p x)
  where
    or_true : (b : Bool) → (b || true) ≡ true
    or_true true = refl
    or_true false = refl

pub any_where : {T : Type 0} (p : T → Bool) (xs : List T) (d : T) → list_any p xs ≡ true → (i : ℕ) × (i < length xs) × (p (get_or xs i d) ≡ true)
any_where p [] d h = absurd cc
any_where p (x ∷ xs) d h = by (p x) refl (any_where p xs d)
  where
    by : (b : Bool) → p x ≡ b → (list_any p xs ≡ true → (i : ℕ) × (i < length xs) × (p (get_or xs i d) ≡ true)) → (i : ℕ) × (i < length (x ∷ xs)) × (p (get_or (x ∷ xs) i d) ≡ true)
    by true e rest = (0, omega arith, e)
    by false e rest = let found = rest (sym (ap (λ b. b || list_any p xs) e) ∙ h) in (suc found.0, omega (arith, found.1), found.2)

module _ (sorts : Sorts) (codes : List Code) (terms : List Term) (table : IsTable sorts codes terms) (t : Term) where
  abbrev all : List Tree
  all = trees_behind codes [] terms

  abbrev new : Tree
  new = tree_in codes all t

  -- the term at a place of the table
  pub at_place : (i : ℕ) → i < length terms → StandsAt sorts codes all i (get_or terms i row.Cell)
  at_place i h = row_at sorts codes terms table.sound i h

  module _ (within : IsTermWithin sorts (length codes) (length all) t) (fit : term_fits sorts all t ≡ true) where
    -- a term is there exactly where its tree is
    pub there : list_any (same_term t) terms ≡ list_any (same_tree new) all
    there = same_tests _ _ forth back
      where
        forth : list_any (same_term t) terms ≡ true → list_any (same_tree new) all ≡ true
        forth h =
            let found = any_where (same_term t) terms row.Cell h in
            let place = at_place found.0 found.1 in
            let same = alike codes all t (get_or terms found.0 row.Cell) ((same_term-Decides t (get_or terms found.0 row.Cell)).0 found.2) ∙ sym place.tree in
            let long = length-trees codes [] terms in
            any_at (same_tree new) all found.0 (tree.Lit (pos 0)) (omega (arith, found.1)) ((same_tree_is new (tree_at all found.0)).1 same)

        back : list_any (same_tree new) all ≡ true → list_any (same_term t) terms ≡ true
        back h =
            let found = any_where (same_tree new) all (tree.Lit (pos 0)) h in
            let long = length-trees codes [] terms in
            let inside : found.0 < length terms = omega (arith, found.1) in
            let place = at_place found.0 inside in
            let same = (same_tree_is new (tree_at all found.0)).0 found.2 ∙ place.tree in
            let equal = unlike sorts codes all table.codes_apart table.apart t (get_or terms found.0 row.Cell) within place.within fit place.fit same in
            any_at (same_term t) terms found.0 row.Cell inside ((same_term-Decides t (get_or terms found.0 row.Cell)).1 equal)

    -- a term that isn't there goes last, and the table stays one
    pub table-push : list_any (same_term t) terms ≡ false → IsTable sorts codes (terms ++ t ∷ [])
    table-push fresh =
        let pushed = trees-push codes [] terms t in
        record {
          sound = sound-push sorts codes [] terms t table.sound within fit;
          codes_sorted = table.codes_sorted;
          codes_apart = table.codes_apart;
          sorted = subst (AreTreesSorted sorts) (sym pushed) sorted;
          apart = subst AreApart (sym pushed) apart;
        }
      where
        at_last : tree_at (all ++ new ∷ []) (length all) ≡ new
        at_last = get_or-append_seam all new [] (tree.Lit (pos 0))

        not_there : (j : ℕ) → j < length all → tree_at all j ≡ new → ⊥
        not_there j h e =
            let passed = any_at (same_tree new) all j (tree.Lit (pos 0)) h ((same_tree_is new (tree_at all j)).1 (sym e)) in
            true≢false (sym (there ∙ passed) ∙ fresh)

        inside : (i : ℕ) → i < length all → tree_at (all ++ new ∷ []) i ≡ tree_at all i
        inside i h = tree_at-more all (new ∷ []) i h

        past : (i : ℕ) → i < length (all ++ new ∷ []) → length all ≤ i → tree_at (all ++ new ∷ []) i ≡ new
        past i h p = let long = length-append all (new ∷ []) in let place : i ≡ length all = omega arith in ap (tree_at (all ++ new ∷ [])) place ∙ at_last

        sorted : AreTreesSorted sorts (all ++ new ∷ [])
        sorted i h =
            ⊎_elim
            (λ (p : i < length all). subst (IsSorted sorts) (sym (inside i p)) (table.sorted i p))
            (λ (p : length all ≤ i). subst (IsSorted sorts) (sym (past i h p)) (term_sorted sorts codes all table.codes_sorted table.sorted t within fit))
            (cases_lt i (length all))

        apart : AreApart (all ++ new ∷ [])
        apart i j g h e =
            ⊎_elim
            (λ (p : i < length all).
            ⊎_elim
            (λ (q : j < length all). table.apart i j p q (sym (inside i p) ∙ e ∙ inside j q))
            (λ (q : length all ≤ j). absurd (not_there i p (sym (inside i p) ∙ e ∙ past j h q)))
            (cases_lt j (length all)))
            (λ (p : length all ≤ i).
            ⊎_elim
            (λ (q : j < length all). absurd (not_there j q (sym (inside j q) ∙ sym e ∙ past i g p)))
            (λ (q : length all ≤ j). let long = length-append all (new ∷ []) in omega arith)
            (cases_lt j (length all)))
            (cases_lt i (length all))

  -- the table stays one where the set of terms takes a term, and has its tree
  module _ (within : IsTermWithin sorts (length codes) (length all) t) (fit : term_fits sorts all t ≡ true) where
    abbrev taken : List Term
    taken = with_value same_term terms t

    pub table-insert : IsTable sorts codes taken
    table-insert = by (list_any (same_term t) terms) refl
      where
        by : (b : Bool) → list_any (same_term t) terms ≡ b → IsTable sorts codes taken
        by true e = subst (λ b. IsTable sorts codes (if b then terms else terms ++ t ∷ [])) (sym e) table
        by false e = subst (λ b. IsTable sorts codes (if b then terms else terms ++ t ∷ [])) (sym e) (table-push within fit e)

    pub trees-insert : trees_behind codes [] taken ≡ with_tree all new
    trees-insert = by (list_any (same_term t) terms) refl
      where
        by : (b : Bool) → list_any (same_term t) terms ≡ b → trees_behind codes [] taken ≡ with_tree all new
        by true e =
            ap (λ b. trees_behind codes [] (if b then terms else terms ++ t ∷ [])) e
            ∙ sym (ap (λ b. if b then all else all ++ new ∷ []) (sym (there within fit) ∙ e))
        by false e =
            ap (λ b. trees_behind codes [] (if b then terms else terms ++ t ∷ [])) e
            ∙ trees-push codes [] terms t
            ∙ sym (ap (λ b. if b then all else all ++ new ∷ []) (sym (there within fit) ∙ e))

    -- the tree stays the same over the new trees
    stays : tree_in codes (with_tree all new) t ≡ new
    stays = by (list_any (same_tree new) all) refl
      where
        by : (b : Bool) → list_any (same_tree new) all ≡ b → tree_in codes (with_tree all new) t ≡ new
        by true e = ap (λ b. tree_in codes (if b then all else all ++ new ∷ []) t) e
        by false e = ap (λ b. tree_in codes (if b then all else all ++ new ∷ []) t) e ∙ tree_in-more sorts (length codes) codes all (new ∷ []) t within

    pub stored-insert : (k : Term) (i : ℕ) → slice_get taken i ≡ Some k → same_term t k ≡ true → slice_get (trees_behind codes [] taken) i ≡ Some new
    stored-insert k i found same =
        let inside : i < length taken = slice_get_within taken i k found in
        let place = row_at sorts codes taken table-insert.sound i inside in
        let here = get_or_from_slice_get taken i k row.Cell found in
        let equal = alike codes (trees_behind codes [] taken) k t (sym ((same_term-Decides t k).0 same)) in
        let over = ap (λ l. tree_in codes l t) trees-insert ∙ stays in
        let long = length-trees codes [] taken in
        slice_get-get_or (trees_behind codes [] taken) i (tree.Lit (pos 0)) (omega arith)
        ∙ ap Some (place.tree ∙ ap (tree_in codes (trees_behind codes [] taken)) here ∙ equal ∙ over)

-- the first terms of a table are a table
pub table-take : (sorts : Sorts) (codes : List Code) (terms : List Term) → IsTable sorts codes terms → (n : ℕ) → IsTable sorts codes (take n terms)
table-take sorts codes terms table n =
    let all = trees_behind codes [] terms in
    let kept : (i : ℕ) → i < length (take n all) → (i < n) × (i < length all) = λ i h. let long = length-take n all in (omega (arith, long), omega (arith, long)) in
    let same : (i : ℕ) → i < n → tree_at (take n all) i ≡ tree_at all i = λ i h. get_or-take n all i (tree.Lit (pos 0)) h in
    record {
      sound = sound-take sorts codes [] terms n table.sound;
      codes_sorted = table.codes_sorted;
      codes_apart = table.codes_apart;
      sorted = subst (AreTreesSorted sorts) (sym (take-trees codes [] terms n)) (λ i h. subst (IsSorted sorts) (sym (same i (kept i h).0)) (table.sorted i (kept i h).1));
      apart =
          subst AreApart (sym (take-trees codes [] terms n))
          (λ i j g h e. table.apart i j (kept i g).1 (kept j h).1 (sym (same i (kept i g).0) ∙ e ∙ same j (kept j h).0));
    }

-- a table of nothing
pub table-new : (sorts : Sorts) → IsTable sorts [] []
table-new sorts = record {
  sound = tt;
  codes_sorted = λ i h. absurd (omega arith);
  codes_apart = λ i j g h e. absurd (omega arith);
  sorted = λ i h. absurd (omega arith);
  apart = λ i j g h e. absurd (omega arith);
}

-- a body that isn't there goes last, and the trees stay
pub table-body :
    (sorts : Sorts) (codes : List Code) (terms : List Term) → IsTable sorts codes terms → (c : Code) → IsWellSorted sorts c → list_any (same_code c) codes ≡ false
    → IsTable sorts (codes ++ c ∷ []) terms
table-body sorts codes terms table c well fresh =
    let stay = trees-codes sorts codes (c ∷ []) [] terms table.sound in
    record {
      sound = sound-codes sorts codes (c ∷ []) [] terms table.sound;
      codes_sorted = sorted;
      codes_apart = apart;
      sorted = subst (AreTreesSorted sorts) (sym stay) table.sorted;
      apart = subst AreApart (sym stay) table.apart;
    }
  where
    not_there : (j : ℕ) → j < length codes → code_at codes j ≡ c → ⊥
    not_there j h e = true≢false (sym (any_at (same_code c) codes j End h ((same_code_is c (code_at codes j)).1 (sym e))) ∙ fresh)

    inside : (i : ℕ) → i < length codes → code_at (codes ++ c ∷ []) i ≡ code_at codes i
    inside i h = get_or_append_left codes (c ∷ []) End i h

    past : (i : ℕ) → i < length (codes ++ c ∷ []) → length codes ≤ i → code_at (codes ++ c ∷ []) i ≡ c
    past i h p =
        let long = length-append codes (c ∷ []) in
        let place : i ≡ length codes = omega arith in
        ap (code_at (codes ++ c ∷ [])) place ∙ get_or-append_seam codes c [] End

    sorted : AreCodesSorted sorts (codes ++ c ∷ [])
    sorted i h =
        ⊎_elim
        (λ (p : i < length codes). subst (IsWellSorted sorts) (sym (inside i p)) (table.codes_sorted i p))
        (λ (p : length codes ≤ i). subst (IsWellSorted sorts) (sym (past i h p)) well)
        (cases_lt i (length codes))

    apart : AreCodesApart (codes ++ c ∷ [])
    apart i j g h e =
        ⊎_elim
        (λ (p : i < length codes).
        ⊎_elim
        (λ (q : j < length codes). table.codes_apart i j p q (sym (inside i p) ∙ e ∙ inside j q))
        (λ (q : length codes ≤ j). absurd (not_there i p (sym (inside i p) ∙ e ∙ past j h q)))
        (cases_lt j (length codes)))
        (λ (p : length codes ≤ i).
        ⊎_elim
        (λ (q : j < length codes). absurd (not_there j q (sym (inside j q) ∙ sym e ∙ past i g p)))
        (λ (q : length codes ≤ j). let long = length-append codes (c ∷ []) in omega arith)
        (cases_lt j (length codes)))
        (cases_lt i (length codes))

-- a body that the set of bodies takes
module _ (sorts : Sorts) (bodies : List Body) (terms : List Term) (table : IsTable sorts (map code_of (map block_of bodies)) terms) (body : Body) where
  abbrev codes : List Code
  codes = map code_of (map block_of bodies)

  abbrev taken_bodies : List Body
  taken_bodies = with_value same_body bodies body

  -- the code is there exactly where an equal body is
  there_as : list_any (same_body body) bodies ≡ list_any (same_code (body_code body)) codes
  unfolding same_body
  there_as = over bodies
    where
      over : (bs : List Body) → list_any (λ (b : Body). same_code (body_code body) (body_code b)) bs ≡ list_any (same_code (body_code body)) (map code_of (map block_of bs))
      over [] = refl
      over (b ∷ bs) = ap (λ r. same_code (body_code body) (body_code b) || r) (over bs)

  pub codes-insert : map code_of (map block_of taken_bodies) ≡ with_code codes (body_code body)
  codes-insert = by (list_any (same_body body) bodies) refl
    where
      last : (bs : List Body) → map code_of (map block_of (bs ++ body ∷ [])) ≡ map code_of (map block_of bs) ++ body_code body ∷ []
      last [] = refl
      last (b ∷ bs) = ap (λ l. body_code b ∷ l) (last bs)

      by : (b : Bool) → list_any (same_body body) bodies ≡ b → map code_of (map block_of taken_bodies) ≡ with_code codes (body_code body)
      by true e =
          ap (λ b. map code_of (map block_of (if b then bodies else bodies ++ body ∷ []))) e
          ∙ sym (ap (λ b. if b then codes else codes ++ body_code body ∷ []) (sym there_as ∙ e))
      by false e =
          ap (λ b. map code_of (map block_of (if b then bodies else bodies ++ body ∷ []))) e
          ∙ last bodies
          ∙ sym (ap (λ b. if b then codes else codes ++ body_code body ∷ []) (sym there_as ∙ e))

  pub bodies-insert : IsWellSorted sorts (body_code body) → IsTable sorts (map code_of (map block_of taken_bodies)) terms
  bodies-insert well = subst (λ cs. IsTable sorts cs terms) (sym codes-insert) (by (list_any (same_code (body_code body)) codes) refl)
    where
      by : (b : Bool) → list_any (same_code (body_code body)) codes ≡ b → IsTable sorts (with_code codes (body_code body)) terms
      by true e = subst (λ b. IsTable sorts (if b then codes else codes ++ body_code body ∷ []) terms) (sym e) table
      by false e = subst (λ b. IsTable sorts (if b then codes else codes ++ body_code body ∷ []) terms) (sym e) (table-body sorts codes terms table (body_code body) well e)

  pub bodies-trees : trees_behind (map code_of (map block_of taken_bodies)) [] terms ≡ trees_behind codes [] terms
  bodies-trees = ap (λ cs. trees_behind cs [] terms) codes-insert ∙ by (list_any (same_code (body_code body)) codes) refl
    where
      by : (b : Bool) → list_any (same_code (body_code body)) codes ≡ b → trees_behind (with_code codes (body_code body)) [] terms ≡ trees_behind codes [] terms
      by true e = ap (λ b. trees_behind (if b then codes else codes ++ body_code body ∷ []) [] terms) e
      by false e = ap (λ b. trees_behind (if b then codes else codes ++ body_code body ∷ []) [] terms) e ∙ trees-codes sorts codes (body_code body ∷ []) [] terms table.sound

  pub body-stored : (k : Body) (i : ℕ) → slice_get taken_bodies i ≡ Some k → same_body body k ≡ true → slice_get (map code_of (map block_of taken_bodies)) i ≡ Some (body_code body)
  body-stored k i found same = kept taken_bodies i found ∙ ap Some (sym ((same_body-Decides body k).0 same))
    where
      kept : (bs : List Body) (i : ℕ) → slice_get bs i ≡ Some k → slice_get (map code_of (map block_of bs)) i ≡ Some (body_code k)
      kept [] i e = absurd cc
      kept (b ∷ bs) zero e = let same : b ≡ k = cc in ap (λ d. Some (body_code d)) same
      kept (b ∷ bs) (suc i) e = kept bs i e

-- trees with one more begin with what they were
pub grown-with_tree : (trees : List Tree) (t : Tree) → (more : List Tree) × (with_tree trees t ≡ trees ++ more)
grown-with_tree trees t = by (list_any (same_tree t) trees) refl
  where
    by : (b : Bool) → list_any (same_tree t) trees ≡ b → (more : List Tree) × (with_tree trees t ≡ trees ++ more)
    by true e = ([], ap (λ b. if b then trees else trees ++ t ∷ []) e ∙ sym (append-nil trees))
    by false e = (t ∷ [], ap (λ b. if b then trees else trees ++ t ∷ []) e)

-- a table that stays has grown by nothing
pub grows-not : (v w : TableValue) → w ≡ v → AddsTerms v w
grows-not v w e = record {
  sorts = ap sorts_in e;
  codes = ap codes_in e;
  trees = ([], ap trees_in e ∙ sym (append-nil (trees_in v)));
}

-- a table that has grown twice has grown
pub grows-twice : (u v w : TableValue) → AddsTerms u v → AddsTerms v w → AddsTerms u w
grows-twice u v w first second = record {
  sorts = second.sorts ∙ first.sorts;
  codes = second.codes ∙ first.codes;
  trees = (first.trees.0 ++ second.trees.0, second.trees.1 ∙ ap (λ l. l ++ second.trees.0) first.trees.1 ∙ append_assoc (trees_in u) first.trees.0 second.trees.0);
}
