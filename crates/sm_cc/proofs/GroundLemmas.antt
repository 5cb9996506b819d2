-- Classes that begin with those of others: the rows of these stay, and what is given of them is given still.
use Rattle.sm_cc.proofs.Imports.{◌≡◌, ℕ, ◌+◌, ◌<◌, zero, suc, Bool, true, false, List, [], ◌∷◌, ◌++◌, map, length, slice_get, Option, Some, None, refl, sym, ap, ◌∙◌, subst, arith, IsTrue, not, if◌then◌else◌, ⊎_elim, ◌⊎◌, ℤ, filter, length-map, map-append, slice_get-map, slice_get_within, Code, Sorts, Contents, Tree, Read, same_tree, arguments_of, TableValue, trees_in, sorts_in, codes_in, tree_at, tree_in, IsTermWithin, AreBefore, TermId, Term, AddsTerms, AreApart, AreCodesApart, tree_at-more, tree_in-more, fits-more, within-later, linear_of, is_numeric, Written, written_in, read_in, followed, stands_later, BaseClasses, Numbering, Shape, is_among, place_of, element_of, RowsStand, IsLonger, head_of, IsHeadAt, IsShapeAt, heads_met, parts_met, HasTree, IsRowOf, IsFurther, AreRowsFrom, IsCopy, AreGrown, IsElementBelow, IsRowBelow, AreInside, AreNumberedBy, AreAllGiven, AreBaseClasses, IsLedBy, ClassesValue, setting_of, AreOfTwoTerms, GivenFact, ArePositions, place_at, Placed, pair_of, fact_of, placed_of, placed_with, placed_fact, placed_equations, placed_contraries, AreClasses, slice_get-longer, get_in_either, get_below, one_thing}
use Rattle.std.specs.Option.{option_map}
use Rattle.std.proofs.lemmas.List.{length-append}
use Rattle.sm_term.specs.Fitting.{term_fits}
use Rattle.sm_theory.proofs.FormsOfTermsLemmas.{one_place}
use Rattle.sm_cc.specs.declared.row.Row.{Row}
use Rattle.sm_cc.specs.declared.row.Element.{Element}
use Rattle.sm_cc.specs.BaseClasses.{AreBelow}
use Rattle.sm_cc.specs.Views.{trees_of}
use Rattle.sm_cc.specs.Positions.{Positions}
use Rattle.sm_cc.specs.Closures.{Given}
use Rattle.sm_cc.proofs.StandingLemmas.{among_there}
use Rattle.sm_cc.proofs.RowsLemmas.{row_later, rows_stand}
use Rattle.sm_cc.proofs.PlacedLemmas.{classes_made}

-- a place that is there stays where more stand behind
place_behind : (more : List Tree) (x : Tree) (ts : List Tree) → place_of ts x < length ts → place_of (ts ++ more) x ≡ place_of ts x
place_behind more x [] h = absurd (omega arith)
place_behind more x (u ∷ ts) h = by (same_tree u x) (place_behind more x ts) h
  where
    by : (b : Bool) → (place_of ts x < length ts → place_of (ts ++ more) x ≡ place_of ts x) →
        (if b then 0 else suc (place_of ts x)) < length (u ∷ ts) →
        (if b then 0 else suc (place_of (ts ++ more) x)) ≡ (if b then 0 else suc (place_of ts x))
    by true rest h = refl
    by false rest h = let less : place_of ts x < length ts = omega arith in ap suc (rest less)

pub place_longer : (ts us : List Tree) → IsLonger ts us → (x : Tree) → place_of ts x < length ts → place_of us x ≡ place_of ts x
place_longer ts us longer x h = ap (λ (l : List Tree). place_of l x) longer.1 ∙ place_behind longer.0 x ts h

-- the places of terms
places_longer : (ts us : List Tree) → IsLonger ts us → (xs : List Tree) → AreBelow (length ts) (map (place_of ts) xs) →
    map (place_of us) xs ≡ map (place_of ts) xs
places_longer ts us longer [] below = refl
places_longer ts us longer (x ∷ xs) below =
    ap (λ (n : ℕ). n ∷ map (place_of us) xs) (place_longer ts us longer x below.0)
    ∙ ap (λ (ns : List ℕ). place_of ts x ∷ ns) (places_longer ts us longer xs below.1)

-- those of an element that is read of a written array
abbrev element_at : List Tree → Written → Tree → Element
element_at terms w j = record {
  index = place_of terms w.index;
  written = place_of terms w.element;
  other = place_of terms j;
  before = place_of terms (Read w.before j);
}

abbrev element_read : List Tree → Tree × Tree → Option Element
element_read terms r = followed (written_in r.0) (λ (w : Written). Some (element_at terms w r.1))

element_longer : (ts us : List Tree) → IsLonger ts us → (t : Tree) → IsElementBelow (length ts) (element_of ts t) →
    element_of us t ≡ element_of ts t
element_longer ts us longer t below = by (read_in t) below
  where
    inner : (j : Tree) (o : Option Written) → IsElementBelow (length ts) (followed o (λ (w : Written). Some (element_at ts w j))) →
        followed o (λ (w : Written). Some (element_at us w j)) ≡ followed o (λ (w : Written). Some (element_at ts w j))
    inner j None below = refl
    inner j (Some w) below =
        let before = place_of us (Read w.before j) in
        ap (λ (n : ℕ). Some (record { index = n; written = place_of us w.element; other = place_of us j; before = before }))
        (place_longer ts us longer w.index below.0)
        ∙ ap (λ (n : ℕ). Some (record { index = place_of ts w.index; written = n; other = place_of us j; before = before }))
        (place_longer ts us longer w.element below.1)
        ∙ ap (λ (n : ℕ).
        Some (record { index = place_of ts w.index; written = place_of ts w.element; other = n; before = before }))
        (place_longer ts us longer j below.2)
        ∙ ap (λ (n : ℕ).
        Some (record { index = place_of ts w.index; written = place_of ts w.element; other = place_of ts j; before = n }))
        (place_longer ts us longer (Read w.before j) below.3)

    by : (o : Option (Tree × Tree)) → IsElementBelow (length ts) (followed o (element_read ts)) →
        followed o (element_read us) ≡ followed o (element_read ts)
    by None below = refl
    by (Some r) below = inner r.1 (written_in r.0) below

-- the tree of a term of a table stays where the table grows
tree_over : (old new : TableValue) → AddsTerms old new → (term : Term) (t : Tree) → HasTree old term t → HasTree new term t
tree_over old new grows term t is =
    let bodies = length (codes_in old) in
    let trees = trees_in old in
    let more = grows.trees.0 in
    let inside = is.inside in
    let within = within-later (sorts_in old) bodies bodies is.place (length trees) (omega arith) (omega (arith, inside)) term is.within in
    let long = length-append trees more in
    let all = ap length grows.trees.1 in
    record {
      place = is.place;
      inside = omega (arith, inside, long, all);
      within =
          subst (λ (codes : List Code). IsTermWithin (sorts_in new) (length codes) is.place term) (sym grows.codes)
          (subst (λ (sorts : Sorts). IsTermWithin sorts bodies is.place term) (sym grows.sorts) is.within);
      fits =
          subst (λ (ts : List Tree). IsTrue (term_fits (sorts_in new) ts term)) (sym grows.trees.1)
          (subst (λ (sorts : Sorts). IsTrue (term_fits sorts (trees ++ more) term)) (sym grows.sorts)
          (fits-more (sorts_in old) bodies trees more term within ∙ is.fits));
      tree =
          ap (λ (ts : List Tree). tree_in (codes_in new) ts term) grows.trees.1
          ∙ ap (λ (codes : List Code). tree_in codes (trees ++ more) term) grows.codes
          ∙ tree_in-more (sorts_in old) bodies (codes_in old) trees more term within
          ∙ is.tree;
    }

-- a copy of a row is the row of the term where the table and the list of terms are longer
row_over : (old new : TableValue) → AddsTerms old new → AreApart (trees_in new) → (ts us : List Tree) → IsLonger ts us →
    (heads : List Contents) (parts : List (List (ℕ × ℤ))) (t : Tree) (r s : Row) → IsRowBelow (length ts) r → IsCopy r s →
    IsRowOf old ts heads parts t r → IsRowOf new us heads parts t s
row_over old new grows apart ts us longer heads parts t r s below copy is = record {
  term = is.term;
  tree = tree_over old new grows is.term t is.tree;
  arguments =
      copy.arguments ∙ is.arguments
      ∙ sym (places_longer ts us longer (arguments_of t) (subst (λ (ns : List ℕ). AreBelow (length ts) ns) is.arguments below.0));
  element =
      copy.element ∙ is.element
      ∙ sym (element_longer ts us longer t (subst (λ (o : Option Element). IsElementBelow (length ts) o) is.element below.1));
  head = subst (λ (o : Option ℕ). IsHeadAt heads (head_of is.term) o) (sym copy.head) is.head;
  shape = subst (λ (o : Option Shape). IsShapeAt (sorts_in new) (trees_in new) parts t o) (sym copy.shape) (form r.shape is.shape);
}
  where
    numeric : is_numeric (sorts_in new) t ≡ is_numeric (sorts_in old) t
    numeric = ap (λ (sorts : Sorts). is_numeric sorts t) grows.sorts

    form : (o : Option Shape) → IsShapeAt (sorts_in old) (trees_in old) parts t o → IsShapeAt (sorts_in new) (trees_in new) parts t o
    form None at = numeric ∙ at
    form (Some f) at = (
      numeric ∙ at.0,
      (
        at.1.0,
        stands_later (trees_in old) (trees_in new) at.1.0 (linear_of t)
            (λ (n : ℕ) (x : Tree) e. slice_get-longer (trees_in old) (trees_in new) grows.trees n x e)
            (one_place (trees_in new) apart) at.1.1,
        at.1.2,
        at.1.3,
      ),
    )

-- the trees of numbers stay where there are more trees
tree_kept : (trees later : List Tree) → IsLonger trees later → (n : ℕ) → n < length trees → tree_at later n ≡ tree_at trees n
tree_kept trees later longer n h = ap (λ (ts : List Tree). tree_at ts n) longer.1 ∙ tree_at-more trees longer.0 n h

trees_kept : (trees later : List Tree) → IsLonger trees later → (ids : List TermId) → AreBefore (length trees) ids →
    trees_of later ids ≡ trees_of trees ids
trees_kept trees later longer [] before = refl
trees_kept trees later longer (x ∷ ids) before =
    ap (λ (t : Tree). t ∷ trees_of later ids) (tree_kept trees later longer x.0 before.0)
    ∙ ap (λ (ts : List Tree). tree_at trees x.0 ∷ ts) (trees_kept trees later longer ids before.1)

trees_longer : (trees later : List Tree) → IsLonger trees later → (ids more : List TermId) → AreBefore (length trees) ids →
    IsLonger ids more → IsLonger (trees_of trees ids) (trees_of later more)
trees_longer trees later longer ids more before wider = (
  trees_of later wider.0,
  ap (trees_of later) wider.1
      ∙ map-append (λ (x : TermId). tree_at later x.0) ids wider.0
      ∙ ap (λ (ts : List Tree). ts ++ trees_of later wider.0) (trees_kept trees later longer ids before),
)

-- copies of rows with those of more terms behind them stand for all terms
module _ (old new : TableValue) (grows : AddsTerms old new) (apart : AreApart (trees_in new)) (codes : AreCodesApart (codes_in new))
    (ts us : List Tree) (longer : IsLonger ts us) (n m : Numbering) (further : IsFurther n m) (rows more all : List Row)
    (count : length rows ≡ length ts) (inside : AreInside rows) (numbered : AreNumberedBy old ts rows n)
    (total : length rows + length more ≡ length us) (behind : AreRowsFrom new us m (length rows) more)
    (grown : AreGrown rows more all) where
  first : (i : ℕ) (r : Row) (t : Tree) → slice_get grown.copies i ≡ Some r → slice_get us i ≡ Some t →
      IsRowOf new us (heads_met m.heads) (parts_met m.shapes) t r
  first i r t h g =
      let in_copies = slice_get_within grown.copies i r h in
      let same_count = grown.count in
      let row = get_below rows i (omega (arith, in_copies, same_count)) in
      let term = get_below ts i (omega (arith, in_copies, same_count, count)) in
      let kept = grown.kept i row.0 row.1 in
      let same = one_thing kept.0 r (sym kept.1 ∙ h) in
      let tree = one_thing term.0 t (sym (slice_get-longer ts us longer i term.0 term.1) ∙ g) in
      let below = subst (λ (k : ℕ). IsRowBelow k row.0) count (inside i row.0 row.1) in
      let is = row_over old new grows apart ts us longer (heads_met n.heads) (parts_met n.shapes) term.0 row.0 kept.0 below kept.2
      (numbered.each i row.0 term.0 row.1 term.1) in
      row_later new us (heads_met n.heads) (heads_met m.heads) (parts_met n.shapes) (parts_met m.shapes) t r further.heads further.parts
      (subst (λ (x : Tree). IsRowOf new us (heads_met n.heads) (parts_met n.shapes) x r) tree
      (subst (λ (x : Row). IsRowOf new us (heads_met n.heads) (parts_met n.shapes) term.0 x) same is))

  each : (i : ℕ) (r : Row) (t : Tree) → slice_get all i ≡ Some r → slice_get us i ≡ Some t →
      IsRowOf new us (heads_met m.heads) (parts_met m.shapes) t r
  each i r t f g =
      ⊎_elim (λ (h : slice_get grown.copies i ≡ Some r). first i r t h g)
      (λ (h : (k : ℕ) × (i ≡ length grown.copies + k) × (slice_get more k ≡ Some r)).
      let place : i ≡ length rows + h.0 = h.1 ∙ ap (λ (l : ℕ). l + h.0) grown.count in
      behind h.0 r t h.2 (ap (slice_get us) (sym place) ∙ g))
      (get_in_either grown.copies more i r (ap (λ (l : List Row). slice_get l i) (sym grown.all) ∙ f))

  pub rows_over : RowsStand (sorts_in new) us all
  rows_over =
      let long = length-append grown.copies more in
      let same = ap length grown.all in
      let same_count = grown.count in
      rows_stand new codes us (heads_met m.heads) (parts_met m.shapes) (further.heads_apart numbered.heads_apart)
      (further.parts_apart numbered.parts_apart) all (omega (arith, long, same, same_count, total)) each

-- what stands in a list that is chosen from another
pub filtered : {A : Type 0} (test : A → Bool) (xs : List A) (n : ℕ) (x : A) → slice_get (filter test xs) n ≡ Some x →
    (m : ℕ) × (slice_get xs m ≡ Some x) × (test x ≡ true)
filtered test [] n x e = absurd cc
filtered {A} test (y ∷ xs) n x e = by (test y) refl (filtered test xs) n e
  where
    by : (b : Bool) → test y ≡ b →
        ((n : ℕ) (z : A) → slice_get (filter test xs) n ≡ Some z → (m : ℕ) × (slice_get xs m ≡ Some z) × (test z ≡ true)) →
        (n : ℕ) → slice_get (if b then y ∷ filter test xs else filter test xs) n ≡ Some x →
        (m : ℕ) × (slice_get (y ∷ xs) m ≡ Some x) × (test x ≡ true)
    by true is rest zero e = (0, e, ap test (sym (one_thing y x e)) ∙ is)
    by true is rest (suc n) e = let found = rest n x e in (suc found.0, found.1, found.2)
    by false is rest n e = let found = rest n x e in (suc found.0, found.1, found.2)

pub chosen : {A : Type 0} (test : A → Bool) (xs : List A) (m : ℕ) (x : A) → slice_get xs m ≡ Some x → test x ≡ true →
    (n : ℕ) × (slice_get (filter test xs) n ≡ Some x)
chosen test [] m x e h = absurd cc
chosen test (y ∷ xs) zero x e h =
    (0, ap (λ (b : Bool). slice_get (if b then y ∷ filter test xs else filter test xs) 0) (ap test (one_thing y x e) ∙ h) ∙ e)
chosen {A} test (y ∷ xs) (suc m) x e h = by (test y) (chosen test xs m x e h)
  where
    by : (b : Bool) → (n : ℕ) × (slice_get (filter test xs) n ≡ Some x) →
        (n : ℕ) × (slice_get (if b then y ∷ filter test xs else filter test xs) n ≡ Some x)
    by true rest = (suc rest.0, rest.1)
    by false rest = rest

-- what stands in a mapped list
pub mapped : {A B : Type 0} (f : A → B) (xs : List A) (n : ℕ) (y : B) → slice_get (map f xs) n ≡ Some y →
    (x : A) × (slice_get xs n ≡ Some x) × (f x ≡ y)
mapped f [] n y e = absurd cc
mapped f (x ∷ xs) zero y e = (x, refl, one_thing (f x) y e)
mapped f (x ∷ xs) (suc n) y e = mapped f xs n y e

-- facts that are given still, and whose places stay, are given of the places still
placed_still : (p q : Positions) (test : GivenFact → Bool) (old new : List GivenFact) → AreAllGiven old new →
    ((n : ℕ) (g : GivenFact) → slice_get old n ≡ Some g → placed_fact q g ≡ placed_fact p g) →
    AreAllGiven (map (placed_fact p) (filter test old)) (map (placed_fact q) (filter test new))
placed_still p q test old new all stay n x e =
    let source = mapped (placed_fact p) (filter test old) n x e in
    let was = filtered test old n source.0 source.1 in
    let is = all was.0 source.0 was.1 in
    let here = chosen test new is.0 source.0 is.1 was.2 in (
      here.0,
      slice_get-map (placed_fact q) (filter test new) here.0
          ∙ ap (option_map (placed_fact q)) here.1
          ∙ ap Some (stay was.0 source.0 was.1 ∙ source.2),
    )

-- the place of a number stays where the term is in the list
place_kept : (trees later ts us : List Tree) (p q : Positions) → IsLonger trees later → IsLonger ts us → ArePositions trees ts p →
    ArePositions later us q → (n : ℕ) → n < length trees → place_of ts (tree_at trees n) < length ts → place_at q n ≡ place_at p n
place_kept trees later ts us p q grown longer tell told n h below =
    let long = length-append trees grown.0 in
    let all = ap length grown.1 in
    told.places n (omega (arith, h, long, all))
    ∙ ap (place_of us) (tree_kept trees later grown n h)
    ∙ place_longer ts us longer (tree_at trees n) below
    ∙ sym (tell.places n h)

-- given pairs are told by their places and their numbers
pub given_same : (xs ys : List Given) → map pair_of xs ≡ map pair_of ys → map fact_of xs ≡ map fact_of ys → xs ≡ ys
given_same [] [] e f = refl
given_same [] (y ∷ ys) e f = absurd cc
given_same (x ∷ xs) [] e f = absurd cc
given_same (x ∷ xs) (y ∷ ys) e f =
    let pair = head (pair_of x) (pair_of y) (map pair_of xs) (map pair_of ys) e in
    let number = head (fact_of x) (fact_of y) (map fact_of xs) (map fact_of ys) f in
    let rest = given_same xs ys (tail (pair_of x) (pair_of y) (map pair_of xs) (map pair_of ys) e)
    (tail (fact_of x) (fact_of y) (map fact_of xs) (map fact_of ys) f) in
    let same = one x y number (ap (λ (r : ℕ × ℕ). r.0) pair) (ap (λ (r : ℕ × ℕ). r.1) pair) in
    ap (λ (g : Given). g ∷ xs) same ∙ ap (λ (gs : List Given). y ∷ gs) rest
  where
    head : {A : Type 0} (a b : A) (xs ys : List A) → a ∷ xs ≡ b ∷ ys → a ≡ b
    head a b xs ys e = cc

    tail : {A : Type 0} (a b : A) (xs ys : List A) → a ∷ xs ≡ b ∷ ys → xs ≡ ys
    tail a b xs ys e = cc

    one : (g h : Given) → g.fact ≡ h.fact → g.left ≡ h.left → g.right ≡ h.right → g ≡ h
    one g h e f k =
        ap (λ (n : ℕ). let made : Given = record { fact = n; left = g.left; right = g.right } in made) e
        ∙ ap (λ (n : ℕ). let made : Given = record { fact = h.fact; left = n; right = g.right } in made) f
        ∙ ap (λ (n : ℕ). let made : Given = record { fact = h.fact; left = h.left; right = n } in made) k

-- a base has a row for each of its terms
pub rows_of_base : (v : ClassesValue) (g : BaseClasses) (n : Numbering) → AreBaseClasses v g n → length g.closure.rows.items ≡ length v.terms
rows_of_base v g n is = is.classes.rows_stand.count ∙ length-map v.terms (λ (t : TermId). tree_at (trees_in v.table) t.0)

module _ (old new : ClassesValue) (g : BaseClasses) (n : Numbering) (is : AreBaseClasses old g n) (led : IsLedBy old new) where
  abbrev ts : List Tree
  ts = (setting_of old).terms

  abbrev us : List Tree
  us = (setting_of new).terms

  abbrev rows : List Row
  rows = g.closure.rows.items

  -- the terms are longer
  terms_longer : IsLonger ts us
  terms_longer = trees_longer (trees_in old.table) (trees_in new.table) led.table.trees old.terms new.terms is.before led.terms

  -- what is given of the places is what is given of the terms
  pub placed : placed_of g.closure
      ≡ placed_with rows (placed_equations g.positions old.given) (placed_contraries g.positions old.given)
  placed =
      let equal = placed_equations g.positions old.given in
      let unequal = placed_contraries g.positions old.given in
      is.classes.given_of_both
      ∙ sym (classes_made old g.positions is.classes.positions_tell rows is.classes.rows_stand (record { each = is.classes.of_two_terms })
      equal unequal refl refl (placed_with rows equal unequal) refl).given_of_both

  module _ (q : Positions) (told : ArePositions (trees_in new.table) us q) where
    -- the places of a fact stay
    pub fact_stays : (k : ℕ) (f : GivenFact) → slice_get old.given k ≡ Some f → placed_fact q f ≡ placed_fact g.positions f
    fact_stays k f e =
        let fine = is.classes.of_two_terms k f e in
        let trees = trees_in old.table in
        let kept = place_kept trees (trees_in new.table) ts us g.positions q led.table.trees terms_longer is.classes.positions_tell told in
        let below = λ (t : Tree) (h : is_among ts t ≡ true). slice_get_within ts (place_of ts t) t (among_there ts t h) in
        let left = kept f.left.0 fine.0.0 (below (tree_at trees f.left.0) fine.0.1) in
        let right = kept f.right.0 fine.1.0 (below (tree_at trees f.right.0) fine.1.1) in
        ap (λ (i : ℕ). let made : Given = record { fact = f.number; left = i; right = place_at q f.right.0 } in made) left
        ∙ ap (λ (i : ℕ). let made : Given = record { fact = f.number; left = place_at g.positions f.left.0; right = i } in made) right

    pub equal_still : (equal : List Given) → equal ≡ placed_equations q new.given → AreAllGiven g.closure.equal.items equal
    equal_still equal e =
        let test = λ (f : GivenFact). f.are_equal in
        let was = placed_equations g.positions old.given in
        let same : g.closure.equal.items ≡ was =
        given_same g.closure.equal.items was (ap (λ (p : Placed). p.board.equal) placed) (ap (λ (p : Placed). p.equal_facts) placed) in
        subst (λ (gs : List Given). AreAllGiven gs equal) (sym same)
        (subst (λ (gs : List Given). AreAllGiven was gs) (sym e)
        (placed_still g.positions q test old.given new.given led.given fact_stays))

    pub unequal_still : (unequal : List Given) → unequal ≡ placed_contraries q new.given →
        AreAllGiven g.closure.unequal.items unequal
    unequal_still unequal e =
        let test = λ (f : GivenFact). not f.are_equal in
        let was = placed_contraries g.positions old.given in
        let same : g.closure.unequal.items ≡ was =
        given_same g.closure.unequal.items was (ap (λ (p : Placed). p.board.unequal) placed)
        (ap (λ (p : Placed). p.unequal_facts) placed) in
        subst (λ (gs : List Given). AreAllGiven gs unequal) (sym same)
        (subst (λ (gs : List Given). AreAllGiven was gs) (sym e)
        (placed_still g.positions q test old.given new.given led.given fact_stays))

    -- the classes of all places are those of all terms
    pub classes_over : AreApart (trees_in new.table) → AreCodesApart (codes_in new.table) → AreOfTwoTerms new → (m : Numbering) →
        IsFurther n m → (more all : List Row) → length rows + length more ≡ length new.terms →
        AreRowsFrom new.table us m (length rows) more → AreGrown rows more all → (equal unequal : List Given) →
        equal ≡ placed_equations q new.given → unequal ≡ placed_contraries q new.given → (places : Placed) →
        places ≡ placed_with all equal unequal → AreClasses new q places
    classes_over apart codes fine m further more all total behind grown equal unequal e f places made =
        let long = length-map new.terms (λ (t : TermId). tree_at (trees_in new.table) t.0) in
        let stand = rows_over old.table new.table led.table apart codes ts us terms_longer n m further rows more all
        is.classes.rows_stand.count is.inside is.numbered (total ∙ sym long) behind grown in
        classes_made new q told all stand fine equal unequal e f places made

-- classes that others begin with stay such where more is numbered
pub ground_later : (v : ClassesValue) (g : BaseClasses) (n m : Numbering) → IsFurther n m → AreBaseClasses v g n → AreBaseClasses v g m
ground_later v g n m further is = record {
  before = is.before;
  classes = is.classes;
  exact = is.exact;
  keyed = is.keyed;
  inside = is.inside;
  numbered =
      record {
        heads_apart = further.heads_apart is.numbered.heads_apart;
        parts_apart = further.parts_apart is.numbered.parts_apart;
        each = λ i r t e f.
            row_later v.table (trees_of (trees_in v.table) v.terms) (heads_met n.heads) (heads_met m.heads) (parts_met n.shapes)
            (parts_met m.shapes) t r further.heads further.parts (is.numbered.each i r t e f);
      };
}

-- numbers of which each is below a bound are below it
pub all_below : (bound : ℕ) (ns : List ℕ) → ((i n : ℕ) → slice_get ns i ≡ Some n → n < bound) → AreBelow bound ns
all_below bound [] each = tt
all_below bound (n ∷ ns) each = (each 0 n refl, all_below bound ns (λ i m e. each (suc i) m e))
