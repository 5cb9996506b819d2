-- Owners of nodes and templates of sites, by how a sketch ends.
use Rattle.sm_houdini.proofs.Imports.{◌≡◌, ℕ, suc, ◌+◌, ◌<◌, ◌≤◌, List, [], ◌∷◌, ◌++◌, length, take, get_or, refl, sym, ap, ◌∙◌, subst, arith, Vec, Box, Global, range_with_len, append_assoc, length-append, map-append, take_more, take_all, Sorts, Formula, Assertion, Tree, forms_in, simple_node, TemplateChoice, Choice, all_chosen, sites_of, sites_below, stacked, numbered_sketch, numbered_end, numbered_sketches, sketch_in, rows, owners, owners_below, owners_from, chosen_from, targets, Puts, PutsAll, forms_long}
use Rattle.std.proofs.Common.{Option, Some, None, map}
use Rattle.std.specs.declared.rc.Rc.{Rc}
use Rattle.sm_plan.specs.declared.state.Formulas.{Formulas}
use Rattle.sm_expand.specs.declared.plan.Simple.{Simple}
use Rattle.sm_sketch.specs.declared.sketch.SketchEnd.{SketchEnd}
use Rattle.sm_sketch.specs.declared.sketch.SketchEnd.TheVariants as last
use Rattle.sm_sketch.specs.declared.sketch.Sketches.{Sketches, out-Sketches}
use Rattle.sm_sketch.specs.NumberedSketches.{Plain, LoopSite, NumberedSketch, Draw, Over, More, sketch_over, sketches_over, sketches_before}
use Rattle.sm_sketch.specs.Sketches as tree
use Rattle.sm_sketch.specs.declared.sketch.Sketch.{Sketch}
use Rattle.sm_sketch.proofs.SketchEnds.{sketch_is, sketches_are, fork_end, end_loop, block_end}
use Rattle.sm_houdini.specs.declared.sites.Sites.{Sites}

append_none : {X : Type 0} (xs : List X) → xs ++ [] ≡ xs
append_none [] = refl
append_none {X} (x ∷ xs) = ap (λ (l : List X). x ∷ l) (append_none xs)

-- a target among others
target_first : (target : Option ℕ) (ss : List Simple) (os : List (Option ℕ)) →
    targets target ss ++ target ∷ os ≡ target ∷ (targets target ss ++ os)
target_first target [] os = refl
target_first target (s ∷ ss) os = ap (λ (l : List (Option ℕ)). target ∷ l) (target_first target ss os)

-- one node more, and all
targets_more : (target : Option ℕ) (l : List Simple) (i : ℕ) → i < length l →
    targets target (take (i + 1) l) ≡ targets target (take i l) ++ target ∷ []
targets_more target [] i inside = absurd (omega (arith, inside))
targets_more target (x ∷ l) i inside =
    ap (targets target) (take_more (x ∷ l) i x inside)
    ∙ map-append (λ (s : Simple). target) (take i (x ∷ l)) (get_or (x ∷ l) i x ∷ [])

pub target_put : (old mid new : List (Option ℕ)) (target : Option ℕ) (l : List Simple) (i : ℕ) →
    mid ≡ old ++ targets target (take i l) → new ≡ mid ++ target ∷ [] → i < length l →
    new ≡ old ++ targets target (take (i + 1) l)
target_put old mid new target l i before put inside =
    put ∙ ap (λ (os : List (Option ℕ)). os ++ target ∷ []) before ∙ append_assoc old (targets target (take i l)) (target ∷ [])
    ∙ ap (λ (os : List (Option ℕ)). old ++ os) (sym (targets_more target l i inside))

pub targets_put : (old new : List (Option ℕ)) (target : Option ℕ) (l all : List Simple) (i : ℕ) →
    new ≡ old ++ targets target (take i l) → length l ≤ i → l ≡ all → new ≡ old ++ targets target all
targets_put old new target l all i before past same =
    before ∙ ap (λ (ss : List Simple). old ++ targets target ss) (take_all i l past ∙ same)

-- templates of both parts
chosen_append : (xs ys : List (List Assertion)) → all_chosen (xs ++ ys) ≡ all_chosen xs ++ all_chosen ys
chosen_append xs ys = map-append (λ (ts : List Assertion). range_with_len 0 (length ts)) xs ys

chosen_length : (xs : List (List Assertion)) → length (all_chosen xs) ≡ length xs
chosen_length [] = refl
chosen_length (x ∷ xs) = ap suc (chosen_length xs)

-- how many sites there are after more
length-rows : (vs : List (Vec ℕ Global)) → length (rows vs) ≡ length vs
length-rows [] = refl
length-rows (v ∷ vs) = ap suc (length-rows vs)

count_more : (old new : List (Vec ℕ Global)) (c : Choice) → rows new ≡ rows old ++ c → length new ≡ length old + length c
count_more old new c e =
    sym (length-rows new) ∙ ap (λ (l : Choice). length l) e ∙ length-append (rows old) c
    ∙ ap (λ (n : ℕ). n + length c) (length-rows old)

more_sites : (old new : List (Vec ℕ Global)) (xs : List (List Assertion)) → rows new ≡ rows old ++ all_chosen xs →
    length new ≡ length old + length xs
more_sites old new xs e =
    count_more old new (all_chosen xs) e ∙ ap (λ (n : ℕ). length old + n) (chosen_length xs)

one_site : (old new : List (Vec ℕ Global)) (ns : List ℕ) → rows new ≡ rows old ++ ns ∷ [] → length new ≡ suc (length old)
one_site old new ns e = let h = count_more old new (ns ∷ []) e in omega (arith, h)

module _ (sorts : Sorts) (trees : List Tree) where
  -- simple nodes, and then an end
  straight_owners : (target : Option ℕ) (s : ℕ) (ss : List Simple) (p : NumberedSketch) →
      owners target s (sketch_over sorts trees (stacked ss p)) ≡ targets target ss ++ owners target s (sketch_over sorts trees p)
  straight_owners target s [] p = refl
  straight_owners target s (x ∷ ss) p =
      straight_owners target s ss (Draw (Plain (simple_node x)) (More p Over))
      ∙ target_first target ss (owners target s (sketch_over sorts trees p))

  straight_sites : (ss : List Simple) (p : NumberedSketch) →
      sites_of (sketch_over sorts trees (stacked ss p)) ≡ sites_of (sketch_over sorts trees p)
  straight_sites [] p = refl
  straight_sites (s ∷ ss) p =
      straight_sites ss (Draw (Plain (simple_node s)) (More p Over)) ∙ append_none (sites_of (sketch_over sorts trees p))

  sketch_owners : (target : Option ℕ) (s : ℕ) (p : Sketch) (old mid new : List (Option ℕ)) →
      mid ≡ old ++ targets target p.straight.list.items → new ≡ mid ++ owners target s (sketch_over sorts trees (numbered_end p.last)) →
      new ≡ old ++ owners target s (sketch_in sorts trees p)
  sketch_owners target s p old mid new first second =
      second ∙ ap (λ (l : List (Option ℕ)). l ++ owners target s (sketch_over sorts trees (numbered_end p.last))) first
      ∙ append_assoc old (targets target p.straight.list.items) (owners target s (sketch_over sorts trees (numbered_end p.last)))
      ∙ ap (λ (l : List (Option ℕ)). old ++ l)
      (sym (ap (λ (q : NumberedSketch). owners target s (sketch_over sorts trees q)) (sketch_is p)
      ∙ straight_owners target s p.straight.list.items (numbered_end p.last)))

  sketch_sites : (p : Sketch) (old new : Choice) → new ≡ old ++ all_chosen (sites_of (sketch_over sorts trees (numbered_end p.last))) →
      new ≡ old ++ all_chosen (sites_of (sketch_in sorts trees p))
  sketch_sites p old new e =
      e ∙ ap (λ (l : List (List Assertion)). old ++ all_chosen l)
      (sym (ap (λ (q : NumberedSketch). sites_of (sketch_over sorts trees q)) (sketch_is p)
      ∙ straight_sites p.straight.list.items (numbered_end p.last)))

  -- turns, and then what comes after
  turns_owners : (inner last : Option ℕ) (m : ℕ) (ps : List NumberedSketch) (q : NumberedSketch) →
      owners_below inner last m (sketches_over sorts trees (sketches_before ps (More q Over)))
      ≡ owners_from inner m (map (sketch_over sorts trees) ps)
      ++ owners last (m + length (chosen_from (map (sketch_over sorts trees) ps))) (sketch_over sorts trees q)
  turns_owners inner last m [] q =
      let e : m ≡ m + 0 = omega arith in ap (λ (n : ℕ). owners last n (sketch_over sorts trees q)) e
  turns_owners inner last m (p ∷ []) q =
      let p2 = sketch_over sorts trees p in
      let count : length (all_chosen (sites_of p2) ++ []) ≡ length (sites_of p2) =
      ap (λ (l : Choice). length l) (append_none (all_chosen (sites_of p2))) ∙ chosen_length (sites_of p2) in
      (λ k. sym (append_none (owners inner m p2)) k
      ++ owners last (m + sym count k) (sketch_over sorts trees q))
  turns_owners inner last m (p ∷ r ∷ ps) q =
      let p2 = sketch_over sorts trees p in
      let later = chosen_from (map (sketch_over sorts trees) (r ∷ ps)) in
      let lengths : length (all_chosen (sites_of p2) ++ later) ≡ length (sites_of p2) + length later =
      length-append (all_chosen (sites_of p2)) later ∙ ap (λ (n : ℕ). n + length later) (chosen_length (sites_of p2)) in
      let count : m + length (sites_of p2) + length later ≡ m + length (all_chosen (sites_of p2) ++ later) = omega (arith, lengths) in
      ap (λ (l : List (Option ℕ)). owners inner m p2 ++ l) (turns_owners inner last (m + length (sites_of p2)) (r ∷ ps) q)
      ∙ sym (append_assoc (owners inner m p2) (owners_from inner (m + length (sites_of p2)) (map (sketch_over sorts trees) (r ∷ ps)))
      (owners last (m + length (sites_of p2) + length later) (sketch_over sorts trees q)))
      ∙ ap (λ (n : ℕ). (owners inner m p2 ++ owners_from inner (m + length (sites_of p2)) (map (sketch_over sorts trees) (r ∷ ps)))
      ++ owners last n (sketch_over sorts trees q)) count

  turns_sites : (ps : List NumberedSketch) (q : NumberedSketch) →
      all_chosen (sites_below (sketches_over sorts trees (sketches_before ps (More q Over))))
      ≡ chosen_from (map (sketch_over sorts trees) ps) ++ all_chosen (sites_of (sketch_over sorts trees q))
  turns_sites [] q = ap all_chosen (append_none (sites_of (sketch_over sorts trees q)))
  turns_sites (p ∷ ps) q =
      let p2 = sketch_over sorts trees p in
      chosen_append (sites_of p2) (sites_below (sketches_over sorts trees (sketches_before ps (More q Over))))
      ∙ ap (λ (l : Choice). all_chosen (sites_of p2) ++ l) (turns_sites ps q)
      ∙ sym (append_assoc (all_chosen (sites_of p2)) (chosen_from (map (sketch_over sorts trees) ps))
      (all_chosen (sites_of (sketch_over sorts trees q))))

-- a node, and two sketches below it
two_owners : (head inner last : Option ℕ) (m n : ℕ) (p q : tree.Sketch) (old one two new : List (Option ℕ)) →
    one ≡ old ++ head ∷ [] → two ≡ one ++ owners inner m p → new ≡ two ++ owners last n q → n ≡ m + length (sites_of p) →
    new ≡ old ++ (head ∷ (owners inner m p ++ owners last (m + length (sites_of p)) q))
two_owners head inner last m n p q old one two new a b c e =
    c ∙ (λ k. (b ∙ ap (λ (l : List (Option ℕ)). l ++ owners inner m p) a) k ++ owners last (e k) q)
    ∙ append_assoc (old ++ head ∷ []) (owners inner m p) (owners last (m + length (sites_of p)) q)
    ∙ append_assoc old (head ∷ []) (owners inner m p ++ owners last (m + length (sites_of p)) q)

two_sites : (p q : tree.Sketch) (old one new : Choice) → one ≡ old ++ all_chosen (sites_of p) → new ≡ one ++ all_chosen (sites_of q) →
    new ≡ old ++ all_chosen (sites_of p ++ (sites_of q ++ []))
two_sites p q old one new a b =
    b ∙ ap (λ (l : Choice). l ++ all_chosen (sites_of q)) a
    ∙ append_assoc old (all_chosen (sites_of p)) (all_chosen (sites_of q))
    ∙ ap (λ (l : Choice). old ++ l) (sym (chosen_append (sites_of p) (sites_of q))
    ∙ ap (λ (l : List (List Assertion)). all_chosen (sites_of p ++ l)) (sym (append_none (sites_of q))))

-- one more of a list
from_more : (target : Option ℕ) (s : ℕ) (ps : List tree.Sketch) (p : tree.Sketch) →
    owners_from target s (ps ++ p ∷ []) ≡ owners_from target s ps ++ owners target (s + length (chosen_from ps)) p
from_more target s [] p =
    let e : s ≡ s + 0 = omega arith in append_none (owners target s p) ∙ ap (λ (n : ℕ). owners target n p) e
from_more target s (q ∷ ps) p =
    let lengths : length (all_chosen (sites_of q) ++ chosen_from ps) ≡ length (sites_of q) + length (chosen_from ps) =
    length-append (all_chosen (sites_of q)) (chosen_from ps)
    ∙ ap (λ (n : ℕ). n + length (chosen_from ps)) (chosen_length (sites_of q)) in
    let count : s + length (sites_of q) + length (chosen_from ps) ≡ s + length (all_chosen (sites_of q) ++ chosen_from ps) =
    omega (arith, lengths) in
    ap (λ (l : List (Option ℕ)). owners target s q ++ l) (from_more target (s + length (sites_of q)) ps p)
    ∙ sym (append_assoc (owners target s q) (owners_from target (s + length (sites_of q)) ps)
    (owners target (s + length (sites_of q) + length (chosen_from ps)) p))
    ∙ ap (λ (n : ℕ). (owners target s q ++ owners_from target (s + length (sites_of q)) ps) ++ owners target n p) count

chosen_more : (ps : List tree.Sketch) (p : tree.Sketch) → chosen_from (ps ++ p ∷ []) ≡ chosen_from ps ++ all_chosen (sites_of p)
chosen_more [] p = append_none (all_chosen (sites_of p))
chosen_more (q ∷ ps) p =
    ap (λ (l : Choice). all_chosen (sites_of q) ++ l) (chosen_more ps p)
    ∙ sym (append_assoc (all_chosen (sites_of q)) (chosen_from ps) (all_chosen (sites_of p)))

-- a site before others
site_then : (old ts : Choice) (ns ms : List ℕ) (c : Choice) → ts ≡ old ++ ns ∷ [] → ns ≡ ms → ts ++ c ≡ old ++ ms ∷ c
site_then old ts ns ms c made same =
    (λ i. (made ∙ ap (λ (n : List ℕ). old ++ n ∷ []) same) i ++ c) ∙ append_assoc old (ms ∷ []) c

-- what is put behind others, by how a sketch ends
module _ (sorts : Sorts) (trees : List Tree) where
  all_numbers : (fs : Formulas) →
      range_with_len 0 (length fs.list.items) ≡ range_with_len 0 (length (forms_in sorts trees fs.list.items))
  all_numbers fs = ap (λ (n : ℕ). range_with_len 0 n) (sym (forms_long sorts trees fs.list.items))

  pub sketch_put : (p : Sketch) (a e : Sites) (os : Vec (Option ℕ) Global) (target : Option ℕ) →
      os.items ≡ a.owners.items ++ targets target p.straight.list.items →
      Puts (record { owners = os; full = a.full }) e target (sketch_over sorts trees (numbered_end p.last)) →
      Puts a e target (sketch_in sorts trees p)
  sketch_put p a e os target straight puts = record {
    nodes =
        sketch_owners sorts trees target (length a.full.sites.items) p a.owners.items os.items e.owners.items straight puts.nodes;
    choice = sketch_sites sorts trees p (rows a.full.sites.items) (rows e.full.sites.items) puts.choice;
  }

  pub fork_put : (s : SketchEnd) (copy : ℕ) (one other : Box Sketch Global) (p q : Sketch) (target : Option ℕ) (a d e : Sites)
      (os : Vec (Option ℕ) Global) → s ≡ last.Fork copy one other → p ≡ one.value → q ≡ other.value →
      os.items ≡ a.owners.items ++ target ∷ [] →
      Puts (record { owners = os; full = a.full }) d target (sketch_in sorts trees p) →
      Puts d e target (sketch_in sorts trees q) →
      Puts a e target (sketch_over sorts trees (numbered_end s))
  fork_put s copy one other p q target a d e os is first second pushed puts later =
      let p2 = sketch_in sorts trees p in
      let q2 = sketch_in sorts trees q in
      let m = length a.full.sites.items in
      let shape = ap numbered_end is ∙ fork_end copy one other p q (sym first) (sym second) in
      let count = more_sites a.full.sites.items d.full.sites.items (sites_of p2) puts.choice in
      record {
        nodes =
            two_owners target target target m (length d.full.sites.items) p2 q2 a.owners.items os.items d.owners.items e.owners.items
            pushed puts.nodes later.nodes count
            ∙ ap (λ (x : NumberedSketch). a.owners.items ++ owners target m (sketch_over sorts trees x)) (sym shape);
        choice =
            two_sites p2 q2 (rows a.full.sites.items) (rows d.full.sites.items) (rows e.full.sites.items) puts.choice later.choice
            ∙ ap (λ (x : NumberedSketch). rows a.full.sites.items ++ all_chosen (sites_of (sketch_over sorts trees x))) (sym shape);
      }

  pub block_put : (s : SketchEnd) (k0 k1 k2 k3 : ℕ) (templates : Rc Formulas Global) (inner after : Box Sketch Global) (fs : Formulas)
      (p q : Sketch) (target : Option ℕ) (n : ℕ) (a d e : Sites) (ts : TemplateChoice) (os : Vec (Option ℕ) Global) →
      s ≡ last.Block k0 k1 k2 k3 templates inner after → fs ≡ templates.value → p ≡ inner.value → q ≡ after.value →
      n ≡ length a.full.sites.items →
      rows ts.sites.items ≡ rows a.full.sites.items ++ range_with_len 0 (length fs.list.items) ∷ [] →
      os.items ≡ a.owners.items ++ target ∷ [] →
      Puts (record { owners = os; full = ts }) d (Some n) (sketch_in sorts trees p) →
      Puts d e target (sketch_in sorts trees q) →
      Puts a e target (sketch_over sorts trees (numbered_end s))
  block_put s k0 k1 k2 k3 templates inner after fs p q target n a d e ts os is same first second site made pushed puts later =
      let p2 = sketch_in sorts trees p in
      let q2 = sketch_in sorts trees q in
      let m = length a.full.sites.items in
      let ns = range_with_len 0 (length fs.list.items) in
      let shape =
      ap numbered_end is ∙ block_end k0 k1 k2 k3 templates inner after fs p q (sym same) (sym first) (sym second) in
      let next = one_site a.full.sites.items ts.sites.items ns made in
      let count : length d.full.sites.items ≡ suc m + length (sites_of p2) =
      more_sites ts.sites.items d.full.sites.items (sites_of p2) puts.choice ∙ ap (λ (k : ℕ). k + length (sites_of p2)) next in
      let inside : d.owners.items ≡ os.items ++ owners (Some m) (suc m) p2 =
      puts.nodes ∙ (λ i. os.items ++ owners (Some (site i)) (next i) p2) in
      record {
        nodes =
            two_owners target (Some m) target (suc m) (length d.full.sites.items) p2 q2 a.owners.items os.items d.owners.items
            e.owners.items pushed inside later.nodes count
            ∙ ap (λ (x : NumberedSketch). a.owners.items ++ owners target m (sketch_over sorts trees x)) (sym shape);
        choice =
            two_sites p2 q2 (rows ts.sites.items) (rows d.full.sites.items) (rows e.full.sites.items) puts.choice later.choice
            ∙ site_then (rows a.full.sites.items) (rows ts.sites.items) ns
            (range_with_len 0 (length (forms_in sorts trees fs.list.items))) (all_chosen (sites_of p2 ++ (sites_of q2 ++ []))) made
            (all_numbers fs)
            ∙ ap (λ (x : NumberedSketch). rows a.full.sites.items ++ all_chosen (sites_of (sketch_over sorts trees x))) (sym shape);
      }

  pub loop_put : (s : SketchEnd) (set : ℕ) (templates : Rc Formulas Global) (turns : Sketches) (after : Box Sketch Global)
      (fs : Formulas) (q : Sketch) (target : Option ℕ) (n : ℕ) (a d e : Sites) (ts : TemplateChoice) (os : Vec (Option ℕ) Global) →
      s ≡ last.Loop set templates turns after → fs ≡ templates.value → q ≡ after.value →
      n ≡ length a.full.sites.items →
      rows ts.sites.items ≡ rows a.full.sites.items ++ range_with_len 0 (length fs.list.items) ∷ [] →
      os.items ≡ a.owners.items ++ Some n ∷ [] →
      PutsAll (record { owners = os; full = ts }) d (Some n) (map (sketch_over sorts trees) (numbered_sketches turns)) →
      Puts d e target (sketch_in sorts trees q) →
      Puts a e target (sketch_over sorts trees (numbered_end s))
  loop_put s set templates turns after fs q target n a d e ts os is same second site made pushed puts later =
      let ss = (out-Sketches turns).list.items in
      let ps = map numbered_sketch ss in
      let are = sketches_are turns in
      let over_all : List tree.Sketch = map (sketch_over sorts trees) ps in
      let q2 = sketch_in sorts trees q in
      let m = length a.full.sites.items in
      let olds = a.owners.items in
      let ns = range_with_len 0 (length fs.list.items) in
      let shape =
      ap numbered_end is ∙ end_loop set templates turns after
      ∙ (λ i. Draw (LoopSite set (sym same i).list.items) (sketches_before ps (More (numbered_sketch (sym second i)) Over))) in
      let next = one_site a.full.sites.items ts.sites.items ns made in
      let chosen : rows d.full.sites.items ≡ rows ts.sites.items ++ chosen_from over_all =
      puts.choice ∙ (λ i. rows ts.sites.items ++ chosen_from (map (sketch_over sorts trees) (are i))) in
      let count : length d.full.sites.items ≡ suc m + length (chosen_from over_all) =
      count_more ts.sites.items d.full.sites.items (chosen_from over_all) chosen
      ∙ ap (λ (k : ℕ). k + length (chosen_from over_all)) next in
      let turned : d.owners.items ≡ os.items ++ owners_from (Some m) (suc m) over_all =
      puts.nodes ∙ (λ i. os.items ++ owners_from (Some (site i)) (next i) (map (sketch_over sorts trees) (are i))) in
      let pushed_m : os.items ≡ olds ++ Some m ∷ [] = pushed ∙ ap (λ (k : ℕ). olds ++ Some k ∷ []) site in
      let own = owners_from (Some m) (suc m) over_all in
      let rest = owners target (suc m + length (chosen_from over_all)) q2 in
      record {
        nodes =
            later.nodes
            ∙ (λ i. (turned ∙ ap (λ (l : List (Option ℕ)). l ++ own) pushed_m) i ++ owners target (count i) q2)
            ∙ append_assoc (olds ++ Some m ∷ []) own rest ∙ append_assoc olds (Some m ∷ []) (own ++ rest)
            ∙ ap (λ (l : List (Option ℕ)). olds ++ Some m ∷ l)
            (sym (turns_owners sorts trees (Some m) target (suc m) ps (numbered_sketch q)))
            ∙ ap (λ (x : NumberedSketch). olds ++ owners target m (sketch_over sorts trees x)) (sym shape);
        choice =
            later.choice ∙ ap (λ (l : Choice). l ++ all_chosen (sites_of q2)) chosen
            ∙ append_assoc (rows ts.sites.items) (chosen_from over_all) (all_chosen (sites_of q2))
            ∙ ap (λ (l : Choice). rows ts.sites.items ++ l) (sym (turns_sites sorts trees ps (numbered_sketch q)))
            ∙ site_then (rows a.full.sites.items) (rows ts.sites.items) ns
            (range_with_len 0 (length (forms_in sorts trees fs.list.items)))
            (all_chosen (sites_below (sketches_over sorts trees (sketches_before ps (More (numbered_sketch q) Over))))) made
            (all_numbers fs)
            ∙ ap (λ (x : NumberedSketch). rows a.full.sites.items ++ all_chosen (sites_of (sketch_over sorts trees x))) (sym shape);
      }

  -- sketches, one after the other
  over_each : (ss : List Sketch) → map (sketch_over sorts trees) (map numbered_sketch ss) ≡ map (sketch_in sorts trees) ss
  over_each [] = refl
  over_each (s ∷ ss) = ap (λ (l : List tree.Sketch). sketch_in sorts trees s ∷ l) (over_each ss)

  pub next_put : (a b d : Sites) (target : Option ℕ) (l : List Sketch) (i : ℕ) (s : Sketch) →
      PutsAll a b target (map (sketch_in sorts trees) (take i l)) → Puts b d target (sketch_in sorts trees s) →
      i < length l → s ≡ get_or l i s → PutsAll a d target (map (sketch_in sorts trees) (take (i + 1) l))
  next_put a b d target l i s before new inside item =
      let ps = map (sketch_in sorts trees) (take i l) in
      let p = sketch_in sorts trees s in
      let m = length a.full.sites.items in
      let front : map (sketch_in sorts trees) (take (i + 1) l) ≡ ps ++ p ∷ [] =
      ap (map (sketch_in sorts trees)) (take_more l i s inside ∙ ap (λ (x : Sketch). take i l ++ x ∷ []) (sym item))
      ∙ map-append (sketch_in sorts trees) (take i l) (s ∷ []) in
      let count = count_more a.full.sites.items b.full.sites.items (chosen_from ps) before.choice in
      subst (PutsAll a d target) (sym front) (record {
        nodes =
            new.nodes ∙ (λ k. before.nodes k ++ owners target (count k) p)
            ∙ append_assoc a.owners.items (owners_from target m ps) (owners target (m + length (chosen_from ps)) p)
            ∙ ap (λ (l : List (Option ℕ)). a.owners.items ++ l) (sym (from_more target m ps p));
        choice =
            new.choice ∙ ap (λ (l : Choice). l ++ all_chosen (sites_of p)) before.choice
            ∙ append_assoc (rows a.full.sites.items) (chosen_from ps) (all_chosen (sites_of p))
            ∙ ap (λ (l : Choice). rows a.full.sites.items ++ l) (sym (chosen_more ps p));
      })

  pub all_put : (a b : Sites) (target : Option ℕ) (l : List Sketch) (i : ℕ) (ps : Sketches) →
      PutsAll a b target (map (sketch_in sorts trees) (take i l)) → length l ≤ i → l ≡ (out-Sketches ps).list.items →
      PutsAll a b target (map (sketch_over sorts trees) (numbered_sketches ps))
  all_put a b target l i ps before past same =
      subst (PutsAll a b target)
      (ap (map (sketch_in sorts trees)) (take_all i l past ∙ same) ∙ sym (over_each (out-Sketches ps).list.items)
      ∙ ap (map (sketch_over sorts trees)) (sym (sketches_are ps)))
      before

-- what is put behind nothing
pub whole_owners : (os : Vec (Option ℕ) Global) (cs : Vec (Vec ℕ Global) Global) (e : Sites) (p : tree.Sketch) → os.items ≡ [] →
    cs.items ≡ [] → Puts (record { owners = os; full = record { sites = cs } }) e None p → e.owners.items ≡ owners None 0 p
whole_owners os cs e p no_owner no_site puts = puts.nodes ∙ (λ i. no_owner i ++ owners None (length (no_site i)) p)

pub whole_choice : (os : Vec (Option ℕ) Global) (cs : Vec (Vec ℕ Global) Global) (e : Sites) (p : tree.Sketch) → cs.items ≡ [] →
    Puts (record { owners = os; full = record { sites = cs } }) e None p → rows e.full.sites.items ≡ all_chosen (sites_of p)
whole_choice os cs e p no_site puts =
    puts.choice ∙ ap (λ (l : List (Vec ℕ Global)). rows l ++ all_chosen (sites_of p)) no_site
