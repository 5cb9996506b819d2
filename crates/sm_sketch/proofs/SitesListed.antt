-- The templates of a sketch's sites, by how it ends.
use Rattle.sm_sketch.proofs.Imports.{◌≡◌, ℕ, zero, suc, ◌+◌, ◌<◌, ◌≤◌, List, [], ◌∷◌, ◌++◌, map, take, length, get_or, append-nil, refl, sym, ap, ◌∙◌, subst, arith, length-map, map-append, take_more, take_all, Box, Global, Rc, Sorts, Formula, Assertion, Tree, Formulas, AreFormsReady, forms_in, simple_node, Simple, Sketches, out-Sketches, NumberedSite, Plain, LoopSite, BlockSite, NumberedSketch, Draw, NumberedSketches, Over, More, site_over, sketch_over, sketches_over, sketches_before, IsSiteReady, AreNodesReady, AreBelowReady, site_at, sites_of, sites_below, forms_at, forms_of, forms_below, forms_of_all, shared_forms, AreListsReady, stacked, numbered_sketch, numbered_end, numbered_sketches, sketch_in, IsSketchReady}
use Rattle.std.proofs.Common.{append_assoc}
use Rattle.sm_sketch.specs.declared.sketch.SketchEnd.TheVariants as last
use Rattle.sm_sketch.specs.SketchViews.{Sketch}
use Rattle.sm_sketch.proofs.SketchEnds.{sketch_is, sketches_are, end_fork, end_loop, end_block, end_end}

-- over the trees of a table they are those of the sketch
module _ (sorts : Sorts) (trees : List Tree) where
  node_sites : (n : NumberedSite) → map (forms_in sorts trees) (forms_at n) ≡ site_at (site_over sorts trees n)
  node_sites (Plain node) = refl
  node_sites (LoopSite set fs) = refl
  node_sites (BlockSite counts fs) = refl

  mutual
    over_sites : (p : NumberedSketch) → map (forms_in sorts trees) (forms_of p) ≡ sites_of (sketch_over sorts trees p)
    over_sites (Draw node ps) =
        map-append (forms_in sorts trees) (forms_at node) (forms_below ps)
        ∙ (λ i. node_sites node i ++ over_below ps i)

    over_below : (ps : NumberedSketches) → map (forms_in sorts trees) (forms_below ps) ≡ sites_below (sketches_over sorts trees ps)
    over_below Over = refl
    over_below (More p ps) =
        map-append (forms_in sorts trees) (forms_of p) (forms_below ps)
        ∙ (λ i. over_sites p i ++ over_below ps i)

  forms_shared : (l : List (Rc Formulas Global)) →
      map (λ (fs : Rc Formulas Global). forms_in sorts trees fs.value.list.items) l ≡ map (forms_in sorts trees) (shared_forms l)
  forms_shared [] = refl
  forms_shared (x ∷ l) = ap (λ (r : List (List Assertion)). forms_in sorts trees x.value.list.items ∷ r) (forms_shared l)

  pub listed : (s : Sketch) (l : List (Rc Formulas Global)) → shared_forms l ≡ forms_of (numbered_sketch s) →
      map (λ (fs : Rc Formulas Global). forms_in sorts trees fs.value.list.items) l ≡ sites_of (sketch_in sorts trees s)
  listed s l e = forms_shared l ∙ ap (map (forms_in sorts trees)) e ∙ over_sites (numbered_sketch s)

  -- where the formulas of two lists are in the table, those of both together are
  lists_append : (xs ys : List (List Formula)) → AreListsReady sorts trees xs → AreListsReady sorts trees ys →
      AreListsReady sorts trees (xs ++ ys)
  lists_append [] ys first second = second
  lists_append (x ∷ xs) ys first second = (first.0, lists_append xs ys first.1 second)

  node_ready : (n : NumberedSite) → IsSiteReady sorts trees n → AreListsReady sorts trees (forms_at n)
  node_ready (Plain node) r = tt
  node_ready (LoopSite set fs) r = (r.1, tt)
  node_ready (BlockSite counts fs) r = (r, tt)

  mutual
    over_ready : (p : NumberedSketch) → AreNodesReady sorts trees p → AreListsReady sorts trees (forms_of p)
    over_ready (Draw node ps) r = lists_append (forms_at node) (forms_below ps) (node_ready node r.0) (below_ready ps r.1)

    below_ready : (ps : NumberedSketches) → AreBelowReady sorts trees ps → AreListsReady sorts trees (forms_below ps)
    below_ready Over r = tt
    below_ready (More p ps) r = lists_append (forms_of p) (forms_below ps) (over_ready p r.0) (below_ready ps r.1)

  pub listed_ready : (s : Sketch) (l : List (Rc Formulas Global)) → shared_forms l ≡ forms_of (numbered_sketch s) →
      IsSketchReady sorts trees s → AreListsReady sorts trees (shared_forms l)
  listed_ready s l e r = subst (AreListsReady sorts trees) (sym e) (over_ready (numbered_sketch s) r.formulas)

  -- as many as the sketch has
  pub site_inside : (l : List (Rc Formulas Global)) (all : List (List Assertion)) (i : ℕ) →
      map (λ (fs : Rc Formulas Global). forms_in sorts trees fs.value.list.items) l ≡ all → i < length all → i < length l
  site_inside l all i same inside =
      let long = length-map l (λ (fs : Rc Formulas Global). forms_in sorts trees fs.value.list.items) in
      let whole = ap (λ (r : List (List Assertion)). length r) same in
      omega (arith, long, whole, inside)

  -- the formulas of one are ready
  pub one_ready : (l : List (Rc Formulas Global)) (i : ℕ) (x : Rc Formulas Global) → AreListsReady sorts trees (shared_forms l) →
      i < length l → x ≡ get_or l i x → AreFormsReady sorts trees x.value.list.items
  one_ready [] i x r inside item = absurd (omega (arith, inside))
  one_ready (y ∷ l) zero x r inside item =
      subst (λ (z : Rc Formulas Global). AreFormsReady sorts trees z.value.list.items) (sym item) r.0
  one_ready (y ∷ l) (suc i) x r inside item = let less : i < length l = omega (arith, inside) in one_ready l i x r.1 less item

-- simple nodes have none
stacked_none : (ss : List Simple) (p : NumberedSketch) → forms_of (stacked ss p) ≡ forms_of p
stacked_none [] p = refl
stacked_none (s ∷ ss) p = stacked_none ss (Draw (Plain (simple_node s)) (More p Over)) ∙ append-nil (forms_of p)

ends_with : (s : Sketch) → forms_of (numbered_sketch s) ≡ forms_of (numbered_end s.last)
ends_with s = ap forms_of (sketch_is s) ∙ stacked_none s.straight.list.items (numbered_end s.last)

-- those of sketches before others
before_all : (ps : List NumberedSketch) (qs : NumberedSketches) → forms_below (sketches_before ps qs) ≡ forms_of_all ps ++ forms_below qs
before_all [] qs = refl
before_all (p ∷ ps) qs =
    ap (λ (r : List (List Formula)). forms_of p ++ r) (before_all ps qs)
    ∙ sym (append_assoc (forms_of p) (forms_of_all ps) (forms_below qs))

pub all_append : (ps qs : List NumberedSketch) → forms_of_all (ps ++ qs) ≡ forms_of_all ps ++ forms_of_all qs
all_append [] qs = refl
all_append (p ∷ ps) qs =
    ap (λ (r : List (List Formula)). forms_of p ++ r) (all_append ps qs)
    ∙ sym (append_assoc (forms_of p) (forms_of_all ps) (forms_of_all qs))

-- a list that grows by what parts have
module _ (s : Sketch) (a : List (List Formula)) where
  pub fork_listed : (copy : ℕ) (one other : Box Sketch Global) (b c : List (List Formula)) → s.last ≡ last.Fork copy one other →
      b ≡ a ++ forms_of (numbered_sketch one.value) → c ≡ b ++ forms_of (numbered_sketch other.value) →
      c ≡ a ++ forms_of (numbered_sketch s)
  fork_listed copy one other b c is first second =
      let p = forms_of (numbered_sketch one.value) in
      let q = forms_of (numbered_sketch other.value) in
      let own : forms_of (numbered_sketch s) ≡ p ++ (q ++ []) =
      ends_with s ∙ ap (λ e. forms_of (numbered_end e)) is ∙ ap forms_of (end_fork copy one other) in
      second ∙ ap (λ (l : List (List Formula)). l ++ q) first ∙ append_assoc a p q
      ∙ ap (λ (l : List (List Formula)). a ++ (p ++ l)) (sym (append-nil q)) ∙ ap (λ (l : List (List Formula)). a ++ l) (sym own)

  pub block_listed : (k0 k1 k2 k3 : ℕ) (templates : Rc Formulas Global) (inner after : Box Sketch Global) (b c d : List (List Formula)) →
      s.last ≡ last.Block k0 k1 k2 k3 templates inner after → b ≡ a ++ templates.value.list.items ∷ [] →
      c ≡ b ++ forms_of (numbered_sketch inner.value) → d ≡ c ++ forms_of (numbered_sketch after.value) →
      d ≡ a ++ forms_of (numbered_sketch s)
  block_listed k0 k1 k2 k3 templates inner after b c d is here first second =
      let fs = templates.value.list.items in
      let p = forms_of (numbered_sketch inner.value) in
      let q = forms_of (numbered_sketch after.value) in
      let own : forms_of (numbered_sketch s) ≡ fs ∷ (p ++ (q ++ [])) =
      ends_with s ∙ ap (λ e. forms_of (numbered_end e)) is ∙ ap forms_of (end_block k0 k1 k2 k3 templates inner after) in
      second ∙ ap (λ (l : List (List Formula)). l ++ q) (first ∙ ap (λ (l : List (List Formula)). l ++ p) here)
      ∙ append_assoc (a ++ fs ∷ []) p q ∙ append_assoc a (fs ∷ []) (p ++ q)
      ∙ ap (λ (l : List (List Formula)). a ++ fs ∷ (p ++ l)) (sym (append-nil q)) ∙ ap (λ (l : List (List Formula)). a ++ l) (sym own)

  pub loop_listed : (set : ℕ) (templates : Rc Formulas Global) (turns : Sketches) (after : Box Sketch Global)
      (b c d : List (List Formula)) →
      s.last ≡ last.Loop set templates turns after → b ≡ a ++ templates.value.list.items ∷ [] →
      c ≡ b ++ forms_of_all (numbered_sketches turns) → d ≡ c ++ forms_of (numbered_sketch after.value) →
      d ≡ a ++ forms_of (numbered_sketch s)
  loop_listed set templates turns after b c d is here first second =
      let fs = templates.value.list.items in
      let ps = map numbered_sketch (out-Sketches turns).list.items in
      let p = forms_of_all (numbered_sketches turns) in
      let q = forms_of (numbered_sketch after.value) in
      let turned : forms_of_all ps ≡ p = ap forms_of_all (sym (sketches_are turns)) in
      let own : forms_of (numbered_sketch s) ≡ fs ∷ (p ++ (q ++ [])) =
      ends_with s ∙ ap (λ e. forms_of (numbered_end e)) is ∙ ap forms_of (end_loop set templates turns after)
      ∙ ap (λ (l : List (List Formula)). fs ∷ l) (before_all ps (More (numbered_sketch after.value) Over))
      ∙ ap (λ (l : List (List Formula)). fs ∷ (l ++ (q ++ []))) turned in
      second ∙ ap (λ (l : List (List Formula)). l ++ q) (first ∙ ap (λ (l : List (List Formula)). l ++ p) here)
      ∙ append_assoc (a ++ fs ∷ []) p q ∙ append_assoc a (fs ∷ []) (p ++ q)
      ∙ ap (λ (l : List (List Formula)). a ++ fs ∷ (p ++ l)) (sym (append-nil q)) ∙ ap (λ (l : List (List Formula)). a ++ l) (sym own)

  pub end_listed : s.last ≡ last.End → a ≡ a ++ forms_of (numbered_sketch s)
  end_listed is =
      let own : forms_of (numbered_sketch s) ≡ [] =
      ends_with s ∙ ap (λ e. forms_of (numbered_end e)) is ∙ ap forms_of end_end in
      sym (append-nil a) ∙ ap (λ (l : List (List Formula)). a ++ l) (sym own)

-- what comes behind, by what a part stands for
pub behind : (a : List (List Formula)) {p q : Sketch} → p ≡ q → a ++ forms_of (numbered_sketch p) ≡ a ++ forms_of (numbered_sketch q)
behind a e = ap (λ (s : Sketch). a ++ forms_of (numbered_sketch s)) e

-- one list more
pub push_shared : (old new : List (Rc Formulas Global)) (x y : Rc Formulas Global) → new ≡ old ++ x ∷ [] → x.value ≡ y.value →
    shared_forms new ≡ shared_forms old ++ y.value.list.items ∷ []
push_shared old new x y e is =
    ap shared_forms e ∙ map-append (λ (fs : Rc Formulas Global). fs.value.list.items) old (x ∷ [])
    ∙ ap (λ (fs : Formulas). shared_forms old ++ fs.list.items ∷ []) is

-- one sketch more
pub listed_more : (a b d : List (List Formula)) (l : List Sketch) (i : ℕ) (s : Sketch) →
    b ≡ a ++ forms_of_all (map numbered_sketch (take i l)) → d ≡ b ++ forms_of (numbered_sketch s) → i < length l → s ≡ get_or l i s →
    d ≡ a ++ forms_of_all (map numbered_sketch (take (i + 1) l))
listed_more a b d l i s before new inside item =
    let own = forms_of (numbered_sketch s) in
    let ps = map numbered_sketch (take i l) in
    let front : map numbered_sketch (take (i + 1) l) ≡ ps ++ numbered_sketch s ∷ [] =
    ap (map numbered_sketch) (take_more l i s inside) ∙ map-append numbered_sketch (take i l) (get_or l i s ∷ [])
    ∙ ap (λ (x : Sketch). ps ++ numbered_sketch x ∷ []) (sym item) in
    let whole : forms_of_all (map numbered_sketch (take (i + 1) l)) ≡ forms_of_all ps ++ own =
    ap forms_of_all front ∙ all_append ps (numbered_sketch s ∷ [])
    ∙ ap (λ (r : List (List Formula)). forms_of_all ps ++ r) (append-nil own) in
    new ∙ ap (λ (r : List (List Formula)). r ++ own) before ∙ append_assoc a (forms_of_all ps) own
    ∙ ap (λ (r : List (List Formula)). a ++ r) (sym whole)

-- all sketches
pub listed_all : (a b : List (List Formula)) (l : List Sketch) (i : ℕ) (ps : Sketches) →
    b ≡ a ++ forms_of_all (map numbered_sketch (take i l)) → length l ≤ i → l ≡ (out-Sketches ps).list.items →
    b ≡ a ++ forms_of_all (numbered_sketches ps)
listed_all a b l i ps before past same =
    before ∙ ap (λ (m : List Sketch). a ++ forms_of_all (map numbered_sketch m)) (take_all i l past ∙ same)
    ∙ ap (λ (r : List NumberedSketch). a ++ forms_of_all r) (sym (sketches_are ps))
