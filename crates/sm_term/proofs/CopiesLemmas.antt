-- A table whose rows are put into a new table in turn, which then stands for the same.
use Rattle.sm_term.proofs.Imports.{◌≡◌, ◌↔◌, ℕ, zero, suc, ◌+◌, map, slice_get, Some, ◌<◌, Bool, true, false, if◌then◌else◌, IsTrue, List, [], ◌∷◌, ◌++◌, length, take, drop, get_or, pos, refl, sym, ap, ◌∙◌, subst, arith, list_any, get_or-take, length-take, take_more, take-append-drop, slice_get-get_or, get_or_from_slice_get, Code, End, code_of, Body, block_of, Sorts, Tree, same_code, same_tree, contents_of, code_at, tree_in, trees_behind, IsTermWithin, Term, term_fits, AreCodesApart, IsTable, with_tree, with_code}
use Rattle.sm_term.specs.declared.term.Term.TheVariants as row
use Rattle.sm_term.specs.Terms as tree
use Rattle.sm_term.proofs.SameTermsLemmas.{same_code_is, same_tree_is}
use Rattle.sm_term.proofs.TermsLemmas.{alike, within_alike, fits_alike}
use Rattle.sm_term.proofs.TreesLemmas.{length-trees, tree_in-more, fits-more}
use Rattle.sm_term.proofs.TablesLemmas.{any_where, row_at}

-- the next of things that are apart is not among those before it
pub next_apart :
    {T : Type 0} (same : T → T → Bool) → ((t u : T) → IsTrue (same t u) ↔ (t ≡ u)) → (xs : List T) (d : T)
    → ((i j : ℕ) → i < length xs → j < length xs → get_or xs i d ≡ get_or xs j d → i ≡ j) → (i : ℕ) → i < length xs
    → (if list_any (same (get_or xs i d)) (take i xs) then take i xs else take i xs ++ get_or xs i d ∷ []) ≡ take (i + 1) xs
next_apart same same_is xs d apart i h = by (list_any (same (get_or xs i d)) (take i xs)) refl
  where
    by : (b : Bool) → list_any (same (get_or xs i d)) (take i xs) ≡ b → (if list_any (same (get_or xs i d)) (take i xs) then take i xs else take i xs ++ get_or xs i d ∷ []) ≡ take (i + 1) xs
    by true e =
        let found = any_where (same (get_or xs i d)) (take i xs) d e in
        let long = length-take i xs in
        let before : found.0 < i = omega (arith, found.1, long) in
        let equal = (same_is (get_or xs i d) (get_or (take i xs) found.0 d)).0 found.2 ∙ get_or-take i xs found.0 d before in
        let place = apart i found.0 h (omega arith) equal in
        absurd (omega (arith, before, place))
    by false e = ap (λ b. if b then take i xs else take i xs ++ get_or xs i d ∷ []) e ∙ sym (take_more xs i d h)

-- the next body
pub code_next : (codes : List Code) → AreCodesApart codes → (i : ℕ) → i < length codes → with_code (take i codes) (code_at codes i) ≡ take (i + 1) codes
code_next codes apart i h = next_apart same_code same_code_is codes End apart i h

-- a copy of the next row: what is asked of it over the rows before it, and its tree
pub record NextRow (sorts : Sorts) (codes : List Code) (all : List Tree) (i : ℕ) (u : Term) : Type 0 where
  pub within : IsTermWithin sorts (length codes) (length (take i all)) u
  pub fit : term_fits sorts (take i all) u ≡ true
  pub next : with_tree (take i all) (tree_in codes (take i all) u) ≡ take (i + 1) all

pub row_next : (sorts : Sorts) (codes : List Code) (keys : List Term) → IsTable sorts codes keys → (i : ℕ) → i < length keys → (u : Term) → contents_of (get_or keys i row.Cell) ≡ contents_of u
    → NextRow sorts codes (trees_behind codes [] keys) i u
row_next sorts codes keys table i h u copied =
    let all = trees_behind codes [] keys in
    let t = get_or keys i row.Cell in
    let place = row_at sorts codes keys table.sound i h in
    let many = length-trees codes [] keys in
    let taken = length-take i all in
    let long : length (take i all) ≡ i = omega (arith, many, taken, h) in
    let first = subst (λ n. IsTermWithin sorts (length codes) n t) (sym long) place.before in
    let parts = take-append-drop i all in
    let made = sym (alike codes (take i all) t u copied) ∙ sym (tree_in-more sorts (length codes) codes (take i all) (drop i all) t first) ∙ ap (λ l. tree_in codes l t) parts ∙ sym place.tree in
    record {
      within = within_alike sorts (length codes) (length (take i all)) t u copied first;
      fit = sym (fits_alike sorts (take i all) t u copied) ∙ sym (fits-more sorts (length codes) (take i all) (drop i all) t first) ∙ ap (λ l. term_fits sorts l t) parts ∙ place.fit;
      next = ap (with_tree (take i all)) made ∙ next_apart same_tree same_tree_is all (tree.Lit (pos 0)) table.apart i (omega (arith, many, h));
    }

-- the row of an item
pub item_row : (items keys : List Term) → items ≡ keys → (i : ℕ) → i < length items → (t : Term) → t ≡ get_or items i t → get_or keys i row.Cell ≡ t
item_row items keys same i h t is = get_or_from_slice_get keys i t row.Cell (ap (λ l. slice_get l i) (sym same) ∙ slice_get-get_or items i t h ∙ ap Some (sym is))

-- the code of an item
pub item_code : (items bodies : List Body) → items ≡ bodies → (i : ℕ) → i < length items → (b : Body) → b ≡ get_or items i b → code_at (map code_of (map block_of bodies)) i ≡ code_of b.block
item_code items bodies same i h b is = by bodies i (ap (λ l. slice_get l i) (sym same) ∙ slice_get-get_or items i b h ∙ ap Some (sym is))
  where
    by : (bs : List Body) (i : ℕ) → slice_get bs i ≡ Some b → code_at (map code_of (map block_of bs)) i ≡ code_of b.block
    by [] i e = absurd cc
    by (c ∷ bs) zero e = let equal : c ≡ b = cc in ap (λ d. code_of d.block) equal
    by (c ∷ bs) (suc i) e = by bs i e

-- as many codes as bodies
pub length-codes : (bodies : List Body) → length (map code_of (map block_of bodies)) ≡ length bodies
length-codes [] = refl
length-codes (b ∷ bs) = ap suc (length-codes bs)

-- what is so of a table is so of one that stands for the same
pub over_same :
    (P : Sorts → List Code → List Tree → Type 0) (s t : Sorts) (c d : List Code) (l k : List Tree) → s ≡ t → c ≡ d → l ≡ k → P t d k → P s c l
over_same P s t c d l k sorts codes trees p = subst (λ x. P x c l) (sym sorts) (subst (λ x. P t x l) (sym codes) (subst (λ x. P t d x) (sym trees) p))
