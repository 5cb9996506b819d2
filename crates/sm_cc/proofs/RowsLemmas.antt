-- Rows of single terms stand together for the terms.
use Rattle.sm_cc.proofs.Imports.{◌≡◌, ℕ, ℤ, ◌==◌, ◌+◌, ◌≤◌, nat_eq, Bool, true, false, ◌&&◌, List, [], ◌∷◌, ◌++◌, map, length, slice_get, Option, Some, None, Decides, refl, sym, ap, ◌∙◌, subst, ⊎_elim, ◌⊎◌, pointwise, Decides-and, Decides-eqb, same_from_decides, bytes_eq-Decides, Sorts, names_in_list, same_numbers, Contents, same_numbers-Decides, Tree, same_head, arguments_of, TableValue, trees_in, sorts_in, codes_in, tree_at, AreBefore, TermId, Term, AreCodesApart, linear_of, is_numeric, same_parts, compared_forms, same_parts_stand, Shape, if_there, one_head, place_of, RowsStand, StandApart, head_of, IsHeadAt, IsShapeAt, heads_met, parts_met, IsLonger, place_at, ArePositions, HasTree, IsRowOf, IsFurther, AreRowsFrom, Numbering, slice_get-longer, longer_twice, get_pushed}
use Rattle.sm_term.specs.declared.term.Term.TheVariants as row
use Rattle.sm_euf.specs.Arguments.{argument_numbers, have_one_head, trees_of}
use Rattle.sm_euf.proofs.ArgumentsLemmas.{trees_have_one_head, arguments_are, parts_before}
use Rattle.sm_cc.specs.Rows.{Row}
use Rattle.sm_cc.specs.Positions.{Positions}

-- whether two heads hold the same
same_heads : Option Contents → Option Contents → Bool
same_heads None d = false
same_heads (Some c) None = false
same_heads (Some c) (Some d) = same_numbers c.0 d.0 && (pointwise nat_eq c.1 d.1 && pointwise nat_eq c.2 d.2)

-- terms have one head exactly where their heads hold the same
heads_are : (t u : Term) → same_heads (head_of t) (head_of u) ≡ have_one_head t u
unfolding same_heads
heads_are (row.Fun b x from args) (row.Fun c y names parts) =
    by (b.0 == c.0) (x.0 == y.0) (pointwise nat_eq (names_in_list from.list.items) (names_in_list names.list.items))
  where
    by : (p q r : Bool) → (p && (q && true)) && (r && true) ≡ (p && (q && r))
    by true true true = refl
    by true true false = refl
    by true false r = refl
    by false q r = refl
heads_are (row.Read a i) (row.Read b j) = refl
heads_are (row.Write a i d) (row.Write b j e) = refl
heads_are (row.Neg p) (row.Neg q) = refl
heads_are (row.Add p q) (row.Add r s) = refl
heads_are (row.Sub p q) (row.Sub r s) = refl
heads_are (row.Mul p q) (row.Mul r s) = refl
heads_are t u = refl

-- the test is exact
contents-Decides : (c d : Contents) → Decides (same_numbers c.0 d.0 && (pointwise nat_eq c.1 d.1 && pointwise nat_eq c.2 d.2)) (c ≡ d)
contents-Decides c d =
    let lists = Decides-and _ _ (bytes_eq-Decides c.1 d.1) (bytes_eq-Decides c.2 d.2) in
    let all = Decides-and _ _ (same_numbers-Decides c.0 d.0) lists in (
      λ h. let e = all.0 h in λ k. (e.0 k, e.1.0 k, e.1.1 k),
      λ e. all.1 (
        ap (λ (k : Contents). k.0) e,
        (ap (λ (k : Contents). k.1) e, ap (λ (k : Contents). k.2) e),
      ),
    )

-- numbers of heads are equal exactly where the heads are
numbers_are : (heads : List Contents) → StandApart heads → (c d : Option Contents) (m n : Option ℕ) → IsHeadAt heads c m →
    IsHeadAt heads d n →
    if_there m (λ (h : ℕ). if_there n (λ (k : ℕ). h == k)) ≡ same_heads c d
unfolding same_heads
numbers_are heads apart None d None n at of = refl
numbers_are heads apart None d (Some m) n at of = absurd at
numbers_are heads apart (Some c) d None n at of = absurd at
numbers_are heads apart (Some c) None (Some m) None at of = refl
numbers_are heads apart (Some c) None (Some m) (Some n) at of = absurd of
numbers_are heads apart (Some c) (Some d) (Some m) None at of = absurd of
numbers_are heads apart (Some c) (Some d) (Some m) (Some n) at of =
    same_from_decides (m == n) (same_heads (Some c) (Some d)) (Decides-eqb m n) (
      λ h. apart m n c at (of ∙ ap Some (sym ((contents-Decides c d).0 h))),
      λ (e : m ≡ n). (contents-Decides c d).1 (some_is c d (sym at ∙ ap (slice_get heads) e ∙ of)),
    )
  where
    some_is : (c d : Contents) → Some c ≡ Some d → c ≡ d
    some_is c d e = cc

-- so rows tell whether the terms have one head
pub heads_stand : (table : TableValue) → AreCodesApart (codes_in table) → (heads : List Contents) → StandApart heads →
    (term other : Term) (t u : Tree) → HasTree table term t → HasTree table other u → (r s : Row) →
    IsHeadAt heads (head_of term) r.head → IsHeadAt heads (head_of other) s.head → one_head r s ≡ same_head t u
heads_stand table codes heads apart term other t u one two r s at of =
    numbers_are heads apart (head_of term) (head_of other) r.head s.head at of
    ∙ heads_are term other
    ∙ trees_have_one_head (sorts_in table) (codes_in table) (trees_in table) codes one.place two.place term other one.within two.within
    one.fits two.fits t u one.tree two.tree

-- a form that is compared with another
shapes_are : (sorts : Sorts) (trees : List Tree) (parts : List (List (ℕ × ℤ))) → StandApart parts → (t u : Tree) (test : ℤ → ℤ → Bool)
    (m n : Option Shape) → IsShapeAt sorts trees parts t m → IsShapeAt sorts trees parts u n →
    if_there m (λ (f : Shape). if_there n (λ (g : Shape). (f.parts == g.parts) && test f.constant g.constant))
    ≡ compared_forms sorts t u test
shapes_are sorts trees parts apart t u test None n at of =
    sym (ap (λ (b : Bool). b &&
    (is_numeric sorts u && (same_parts (linear_of t) (linear_of u) && test (linear_of t).constant (linear_of u).constant))) at)
shapes_are sorts trees parts apart t u test (Some f) None at of =
    sym (
    ap (λ (b : Bool). b &&
    (is_numeric sorts u && (same_parts (linear_of t) (linear_of u) && test (linear_of t).constant (linear_of u).constant))) at.0
    ∙ ap (λ (b : Bool). b && (same_parts (linear_of t) (linear_of u) && test (linear_of t).constant (linear_of u).constant)) of
    )
shapes_are sorts trees parts apart t u test (Some f) (Some g) at of =
    let F = linear_of t in
    let G = linear_of u in
    let law = same_parts_stand trees at.1.0 of.1.0 F G at.1.1 of.1.1 in
    let first : f.constant ≡ F.constant = at.1.3 ∙ at.1.1.stands.constant in
    let second : g.constant ≡ G.constant = of.1.3 ∙ of.1.1.stands.constant in
    let same : (f.parts == g.parts) ≡ same_parts F G =
    same_from_decides (f.parts == g.parts) (same_parts F G) (Decides-eqb f.parts g.parts) (
      λ (h : same_parts F G ≡ true). apart f.parts g.parts at.1.0.parts at.1.2 (of.1.2 ∙ ap Some (sym (law.0 h))),
      λ (e : f.parts ≡ g.parts). law.1 (some_is at.1.0.parts of.1.0.parts (sym at.1.2 ∙ ap (slice_get parts) e ∙ of.1.2)),
    ) in
    ap (λ (b : Bool). b && test f.constant g.constant) same
    ∙ ap (λ (z : ℤ). same_parts F G && test z g.constant) first
    ∙ ap (λ (z : ℤ). same_parts F G && test F.constant z) second
    ∙ sym (
    ap (λ (b : Bool). b && (is_numeric sorts u && (same_parts F G && test F.constant G.constant))) at.0
    ∙ ap (λ (b : Bool). b && (same_parts F G && test F.constant G.constant)) of.0
    )
  where
    some_is : (c d : List (ℕ × ℤ)) → Some c ≡ Some d → c ≡ d
    some_is c d e = cc

-- a row stays one where more is numbered
pub row_later : (table : TableValue) (terms : List Tree) (heads more : List Contents) (parts others : List (List (ℕ × ℤ))) (t : Tree)
    (r : Row) →
    IsLonger heads more → IsLonger parts others → IsRowOf table terms heads parts t r → IsRowOf table terms more others t r
row_later table terms heads more parts others t r longer wider is = record {
  term = is.term;
  tree = is.tree;
  arguments = is.arguments;
  element = is.element;
  head = by (head_of is.term) r.head is.head;
  shape = form r.shape is.shape;
}
  where
    by : (c : Option Contents) (n : Option ℕ) → IsHeadAt heads c n → IsHeadAt more c n
    by None None at = tt
    by None (Some n) at = absurd at
    by (Some c) None at = absurd at
    by (Some c) (Some n) at = slice_get-longer heads more longer n c at

    form : (o : Option Shape) → IsShapeAt (sorts_in table) (trees_in table) parts t o →
        IsShapeAt (sorts_in table) (trees_in table) others t o
    form None at = at
    form (Some s) at = (at.0, (at.1.0, at.1.1, slice_get-longer parts others wider s.parts at.1.0.parts at.1.2, at.1.3))

-- rows of single terms stand for them all
pub rows_stand : (table : TableValue) → AreCodesApart (codes_in table) →
    (terms : List Tree) (heads : List Contents) (parts : List (List (ℕ × ℤ))) →
    StandApart heads → StandApart parts → (rows : List Row) → length rows ≡ length terms →
    ((i : ℕ) (r : Row) (t : Tree) → slice_get rows i ≡ Some r → slice_get terms i ≡ Some t → IsRowOf table terms heads parts t r) →
    RowsStand (sorts_in table) terms rows
rows_stand table codes terms heads parts one two rows count each = record {
  count = count;
  arguments = λ i r t f g. (each i r t f g).arguments;
  element = λ i r t f g. (each i r t f g).element;
  heads = λ i j r s t u f g h k.
      let p = each i r t f g in
      let q = each j s u h k in
      heads_stand table codes heads one p.term q.term t u p.tree q.tree r s p.head q.head;
  shapes = λ i j r s t u test f g h k.
      shapes_are (sorts_in table) (trees_in table) parts two t u test r.shape s.shape (each i r t f g).shape (each j s u h k).shape;
}

-- the places of the arguments are those of their terms
pub arguments_stand : (table : TableValue) (terms : List Tree) (p : Positions) → ArePositions (trees_in table) terms p →
    (term : Term) (t : Tree) (is : HasTree table term t) → is.place ≤ length (trees_in table) →
    (places : List ℕ) → places ≡ map (λ (a : TermId). place_at p a.0) (argument_numbers term) → places
    ≡ map (place_of terms) (arguments_of t)
arguments_stand table terms p are term t is low places e =
    let trees = trees_in table in
    let before = parts_before (sorts_in table) (length (codes_in table)) is.place (length trees) low term is.within in
    e ∙ by (argument_numbers term) before
    ∙ ap (map (place_of terms)) (sym (arguments_are (sorts_in table) (codes_in table) trees term is.fits) ∙ ap arguments_of is.tree)
  where
    by : (list : List TermId) → AreBefore (length (trees_in table)) list →
        map (λ (a : TermId). place_at p a.0) list ≡ map (place_of terms) (trees_of (trees_in table) list)
    by [] before = refl
    by (a ∷ list) before =
        ap (λ (n : ℕ). n ∷ map (λ (a : TermId). place_at p a.0) list) (are.places a.0 before.0)
        ∙ ap (λ (ns : List ℕ). place_of terms (tree_at (trees_in table) a.0) ∷ ns) (by list before.1)

-- one row more
pub rows_more : (table : TableValue) (terms : List Tree) (old new : Numbering) → IsFurther old new → (from : ℕ) (rows : List Row)
    (next : Row) → AreRowsFrom table terms old from rows → (u : Tree) → slice_get terms (from + length rows) ≡ Some u →
    IsRowOf table terms (heads_met new.heads) (parts_met new.shapes) u next → AreRowsFrom table terms new from (rows ++ next ∷ [])
rows_more table terms old new further from rows next each u there made k r t f g =
    ⊎_elim
    (λ (h : slice_get rows k ≡ Some r).
    row_later table terms (heads_met old.heads) (heads_met new.heads) (parts_met old.shapes) (parts_met new.shapes) t r
    further.heads further.parts (each k r t h g))
    (λ (h : (k ≡ length rows) × (next ≡ r)).
    let same = some_is u t (sym there ∙ ap (λ (n : ℕ). slice_get terms (from + n)) (sym h.0) ∙ g) in
    subst (λ (x : Tree). IsRowOf table terms (heads_met new.heads) (parts_met new.shapes) x r) same
    (subst (λ (x : Row). IsRowOf table terms (heads_met new.heads) (parts_met new.shapes) u x) h.1 made))
    (get_pushed rows next r k f)
  where
    some_is : (c d : Tree) → Some c ≡ Some d → c ≡ d
    some_is c d e = cc

pub further_twice : (l m n : Numbering) → IsFurther l m → IsFurther m n → IsFurther l n
further_twice l m n p q = record {
  heads = longer_twice (heads_met l.heads) (heads_met m.heads) (heads_met n.heads) p.heads q.heads;
  parts = longer_twice (parts_met l.shapes) (parts_met m.shapes) (parts_met n.shapes) p.parts q.parts;
  heads_apart = λ h. q.heads_apart (p.heads_apart h);
  parts_apart = λ h. q.parts_apart (p.parts_apart h);
}

-- nothing stands in no list twice
pub none_apart : {A : Type 0} (list : List A) → list ≡ [] → StandApart list
none_apart {A} list none i j x e f = let wrong : None ≡ Some x = ap (λ (l : List A). slice_get l i) (sym none) ∙ e in absurd cc
