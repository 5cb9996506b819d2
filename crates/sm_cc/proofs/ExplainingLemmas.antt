-- A line adds to a branch what its rule gives from facts that stand there.
use Rattle.sm_cc.proofs.Imports.{◌≡◌, ℕ, ℤ, ◌<◌, ◌==◌, zero, suc, Bool, true, false, ◌&&◌, not, List, [], ◌∷◌, ◌++◌, map, length, slice_get, Option, Some, None, refl, sym, ap, ◌∙◌, subst, arith, if◌then◌else◌, IsTrue, int_eq, and_parts, slice_get-get_or, slice_get_within, Sorts, Sort, Tree, Lit, Start, Havoc, Slot, Cell, Read, Write, Neg, Add, Sub, Mul, Fun, Assertion, Eq, Ne, tree_sort, IsSorted, same_tree, tree_at, arguments_of, same_head, same_tree_is, BranchFact, Formal, CertificateLine, Sides, followed, formula_in, equal_sides, unequal_sides, equation_at, contrary_at, or_other, formula_if, turned_equation, turned_contrary, chained, substituted, says_equal, say_equal, equality_adds, is_numeric, same_parts, compared_forms, arithmetic_adds, element_adds, linear_of, adds, if_there, rows_pass, one_head, shapes_pass, SayEqual, Derives, HasElement, Rule, place_of, element_of, RowsStand, left_of, right_of, congruence_line, line_of, known_fact, IsOfTerms}
use Rattle.sm_syntax.specs.declared.tree.Sort.TheVariants.{Num}
use Rattle.sm_term.proofs.HeadsLemmas.{same_head_has_sort, same_head_decides}
use Rattle.sm_theory.specs.Lines as line
use Rattle.sm_theory.proofs.ArithmeticKept.{number_is}
use Rattle.sm_cc.specs.declared.log.Rule.TheVariants as rule
use Rattle.sm_cc.specs.Rows.{Row, Element}
use Rattle.sm_cc.specs.Log.{Known, Equal, Unequal}
use Rattle.sm_cc.proofs.StandingLemmas.{place_found}

-- rows that pass a test are there
pub pass_gives : (rows : List Row) (i j : ℕ) (test : Row → Row → Bool) → rows_pass rows i j test ≡ true →
    (r : Row) × (s : Row) × (slice_get rows i ≡ Some r) × (slice_get rows j ≡ Some s) × (test r s ≡ true)
pass_gives rows i j test h = by (slice_get rows i) refl (slice_get rows j) refl h
  where
    by : (o : Option Row) → slice_get rows i ≡ o → (p : Option Row) → slice_get rows j ≡ p →
        if_there o (λ (r : Row). if_there p (λ (s : Row). test r s)) ≡ true →
        (r : Row) × (s : Row) × (slice_get rows i ≡ Some r) × (slice_get rows j ≡ Some s) × (test r s ≡ true)
    by None e p f h = absurd cc
    by (Some r) e None f h = absurd cc
    by (Some r) e (Some s) f h = (r, s, e, f, h)

-- a term that has an element is one that reads of a write
read_written : (terms : List Tree) (t : Tree) (e : Element) → element_of terms t ≡ Some e →
    (a : Tree) × (i : Tree) × (v : Tree) × (k : Tree) × (t ≡ Read (Write a i v) k)
    × (e ≡ record { index = place_of terms i; written = place_of terms v; other = place_of terms k; before = place_of terms (Read a k) })
read_written terms (Read (Write a i v) k) e h = (a, i, v, k, refl, sym (one_element _ e h))
  where
    one_element : (d e : Element) → Some d ≡ Some e → d ≡ e
    one_element d e h = cc
read_written terms t e h = absurd cc

module _ (sorts : Sorts) (terms : List Tree) (rows : List Row) (stand : RowsStand sorts terms rows)
    (sorted : (i : ℕ) (t : Tree) → slice_get terms i ≡ Some t → IsSorted sorts t)
    (facts : List BranchFact) (has : ℕ → Known → Type 0)
    (tells : (n : ℕ) (k : Known) → has n k → (slice_get facts n ≡ Some (known_fact sorts terms k)) × IsOfTerms sorts terms k) where
  abbrev at : ℕ → Tree
  at i = tree_at terms i

  -- a term that is there
  there : (i : ℕ) → i < length terms → slice_get terms i ≡ Some (at i)
  there i h = slice_get-get_or terms i _ h

  -- a row that is there is that of the term
  row_below : (i : ℕ) (r : Row) → slice_get rows i ≡ Some r → i < length terms
  row_below i r e = let inside = slice_get_within rows i r e in omega (arith, stand.count, inside)

  -- a term whose place is there
  at_place : (t : Tree) (i : ℕ) → i ≡ place_of terms t → i < length terms → at i ≡ t
  at_place t i e h = place_found terms t (at i) (ap (slice_get terms) (sym e) ∙ there i h)

  -- a term is itself
  itself : (t : Tree) → same_tree t t ≡ true
  itself t = (same_tree_is t t).1 refl

  -- what stands under a number is said of terms
  equal_said : (n : ℕ) (t u : Tree) → has n (Equal (place_of terms t) (place_of terms u)) → says_equal (equation_at facts n) t u ≡ true
  equal_said n t u h =
      let told = tells n (Equal (place_of terms t) (place_of terms u)) h in
      ap (λ (o : Option BranchFact). says_equal (followed (followed o formula_in) equal_sides) t u) told.0
      ∙ ap (λ (x : Tree). same_tree x t && same_tree (at (place_of terms u)) u) (at_place t (place_of terms t) refl told.1.left)
      ∙ ap (λ (x : Tree). same_tree t t && same_tree x u) (at_place u (place_of terms u) refl told.1.right)
      ∙ ap (λ (b : Bool). b && same_tree u u) (itself t)
      ∙ itself u

  unequal_said : (n : ℕ) (t u : Tree) → has n (Unequal (place_of terms t) (place_of terms u)) → says_equal (contrary_at facts n) t u ≡ true
  unequal_said n t u h =
      let told = tells n (Unequal (place_of terms t) (place_of terms u)) h in
      ap (λ (o : Option BranchFact). says_equal (followed (followed o formula_in) unequal_sides) t u) told.0
      ∙ ap (λ (x : Tree). same_tree x t && same_tree (at (place_of terms u)) u) (at_place t (place_of terms t) refl told.1.left)
      ∙ ap (λ (x : Tree). same_tree t t && same_tree x u) (at_place u (place_of terms u) refl told.1.right)
      ∙ ap (λ (b : Bool). b && same_tree u u) (itself t)
      ∙ itself u

  -- what is given of arguments is said of them
  said : (ns : List ℕ) (ts us : List Tree) → SayEqual has ns (map (place_of terms) ts) (map (place_of terms) us) → say_equal facts ns ts us
      ≡ true
  said [] [] [] h = refl
  said [] [] (u ∷ us) h = absurd h
  said [] (t ∷ ts) us h = absurd h
  said (n ∷ ns) [] us h = absurd h
  said (n ∷ ns) (t ∷ ts) [] h = absurd h
  said (n ∷ ns) (t ∷ ts) (u ∷ us) h =
      ap (λ (b : Bool). b && say_equal facts ns ts us) (equal_said n t u h.0) ∙ said ns ts us h.1

  -- no arguments are left
  none_left : (ts us : List Tree) → SayEqual has [] (map (place_of terms) ts) (map (place_of terms) us) → (ts ≡ []) × (us ≡ [])
  none_left [] [] h = (refl, refl)
  none_left [] (u ∷ us) h = absurd h
  none_left (t ∷ ts) us h = absurd h

  -- terms of one head with equal arguments
  congruent : (t u : Tree) → same_head t u ≡ true → (ns : List ℕ) →
      SayEqual has ns (map (place_of terms) (arguments_of t)) (map (place_of terms) (arguments_of u)) →
      adds sorts facts (congruence_line t u ns) ≡ Some (Formal (Eq (tree_sort sorts t) t u))
  congruent t u head [] h =
      let none = none_left (arguments_of t) (arguments_of u) h in
      ap (λ (x : Tree). Some (Formal (Eq (tree_sort sorts t) t x))) (same_head_decides t u head (none.0 ∙ sym none.1))
  congruent t u head (n ∷ ns) h =
      ap (λ (b : Bool). or_other (formula_if (b && say_equal facts (n ∷ ns) (arguments_of t) (arguments_of u)) (Eq (tree_sort sorts t) t u))
      None) head
      ∙ ap (λ (b : Bool). or_other (formula_if b (Eq (tree_sort sorts t) t u)) None) (said (n ∷ ns) (arguments_of t) (arguments_of u) h)

  -- terms whose forms are compared are numbers
  both_numbers : (i j : ℕ) (test : ℤ → ℤ → Bool) → compared_forms sorts (at i) (at j) test ≡ true →
      (tree_sort sorts (at i) ≡ Num) × (tree_sort sorts (at j) ≡ Num)
  both_numbers i j test h =
      let f = linear_of (at i) in
      let g = linear_of (at j) in
      let one = and_parts (is_numeric sorts (at i)) (is_numeric sorts (at j) && (same_parts f g && test f.constant g.constant)) h in
      let two = and_parts (is_numeric sorts (at j)) (same_parts f g && test f.constant g.constant) one.1 in
      (number_is sorts (at i) one.0, number_is sorts (at j) two.0)

  -- a line adds what its rule gives
  pub rule_adds : (r : Rule) (k : Known) → Derives rows has r k →
      (adds sorts facts (line_of terms r k) ≡ Some (known_fact sorts terms k)) × IsOfTerms sorts terms k
  rule_adds rule.Refl (Equal i j) d =
      let same = ap at d.0 in
      let below : i < length terms = omega (arith, stand.count, d.1) in (
        ap (λ (t : Tree). Some (Formal (Eq (tree_sort sorts (at i)) (at i) t))) same,
        record { left = below; right = omega (arith, below, d.0); one_sort = ap (tree_sort sorts) same },
      )
  rule_adds (rule.Sym n) (Equal i j) d =
      let told = tells n (Equal j i) d in (
        ap (λ (o : Option BranchFact). or_other
            (or_other (followed (followed (followed o formula_in) equal_sides) turned_equation)
            (followed (followed (followed o formula_in) unequal_sides) turned_contrary))
            None) told.0
            ∙ ap (λ (s : Sort). Some (Formal (Eq s (at i) (at j)))) told.1.one_sort,
        record { left = told.1.right; right = told.1.left; one_sort = sym told.1.one_sort },
      )
  rule_adds (rule.Sym n) (Unequal i j) d =
      let told = tells n (Unequal j i) d in (
        ap (λ (o : Option BranchFact). or_other
            (or_other (followed (followed (followed o formula_in) equal_sides) turned_equation)
            (followed (followed (followed o formula_in) unequal_sides) turned_contrary))
            None) told.0
            ∙ ap (λ (s : Sort). Some (Formal (Ne s (at i) (at j)))) told.1.one_sort,
        record { left = told.1.right; right = told.1.left; one_sort = sym told.1.one_sort },
      )
  rule_adds (rule.Trans m n) (Equal i j) d =
      let k = d.0 in
      let one = tells m (Equal i k) d.1 in
      let two = tells n (Equal k j) d.2 in (
        ap (λ (o : Option BranchFact). or_other
            (followed (followed (followed o formula_in) equal_sides) (λ (s : Sides). followed (equation_at facts n) (chained s))) None) one.0
            ∙ ap (λ (o : Option BranchFact). or_other
            (followed (followed (followed o formula_in) equal_sides)
            (chained (record { sort = tree_sort sorts (at i); left = at i; right = at k }))) None) two.0
            ∙ ap (λ (b : Bool). or_other (formula_if b (Eq (tree_sort sorts (at i)) (at i) (at j))) None) (itself (at k)),
        record { left = one.1.left; right = two.1.right; one_sort = one.1.one_sort ∙ two.1.one_sort },
      )
  rule_adds (rule.Subst m n) (Unequal i j) d =
      let k = d.0 in
      let one = tells m (Unequal k j) d.1 in
      let two = tells n (Equal k i) d.2 in (
        ap (λ (o : Option BranchFact). or_other
            (followed (followed (followed o formula_in) unequal_sides) (λ (s : Sides). followed (equation_at facts n) (substituted s))) None)
            one.0
            ∙ ap (λ (o : Option BranchFact). or_other
            (followed (followed (followed o formula_in) equal_sides)
            (substituted (record { sort = tree_sort sorts (at k); left = at k; right = at j }))) None) two.0
            ∙ ap (λ (b : Bool). or_other (formula_if b (Ne (tree_sort sorts (at k)) (at i) (at j))) None) (itself (at k))
            ∙ ap (λ (s : Sort). Some (Formal (Ne s (at i) (at j)))) two.1.one_sort,
        record { left = two.1.right; right = one.1.right; one_sort = sym two.1.one_sort ∙ one.1.one_sort },
      )
  rule_adds rule.Alike (Equal i j) d =
      let g = pass_gives rows i j (λ r s. shapes_pass r s int_eq) d in
      let left = row_below i g.0 g.2 in
      let right = row_below j g.1 g.3 in
      let forms = sym (stand.shapes i j g.0 g.1 (at i) (at j) int_eq g.2 (there i left) g.3 (there j right)) ∙ g.4 in
      let numbers = both_numbers i j int_eq forms in (
        ap (λ (b : Bool). or_other (formula_if b (Eq Num (at i) (at j))) None) forms
            ∙ ap (λ (s : Sort). Some (Formal (Eq s (at i) (at j)))) (sym numbers.0),
        record { left = left; right = right; one_sort = numbers.0 ∙ sym numbers.1 },
      )
  rule_adds rule.Apart (Unequal i j) d =
      let test = λ (y z : ℤ). not (int_eq y z) in
      let g = pass_gives rows i j (λ r s. shapes_pass r s test) d in
      let left = row_below i g.0 g.2 in
      let right = row_below j g.1 g.3 in
      let forms = sym (stand.shapes i j g.0 g.1 (at i) (at j) test g.2 (there i left) g.3 (there j right)) ∙ g.4 in
      let numbers = both_numbers i j test forms in (
        ap (λ (b : Bool). or_other (formula_if b (Ne Num (at i) (at j))) None) forms
            ∙ ap (λ (s : Sort). Some (Formal (Ne s (at i) (at j)))) (sym numbers.0),
        record { left = left; right = right; one_sort = numbers.0 ∙ sym numbers.1 },
      )
  rule_adds (rule.Cong ns) (Equal i j) d =
      let r = d.0 in
      let s = d.1 in
      let left = row_below i r d.2 in
      let right = row_below j s d.3 in
      let head = sym (stand.heads i j r s (at i) (at j) d.2 (there i left) d.3 (there j right)) ∙ d.4 in
      let say = subst (λ (js : List ℕ). SayEqual has ns.items (map (place_of terms) (arguments_of (at i))) js)
      (stand.arguments j s (at j) d.3 (there j right))
      (subst (λ (is : List ℕ). SayEqual has ns.items is s.arguments.items) (stand.arguments i r (at i) d.2 (there i left)) d.5) in (
        congruent (at i) (at j) head ns.items say,
        record { left = left; right = right; one_sort = same_head_has_sort sorts (at i) (at j) head },
      )
  rule_adds (rule.Hit n) (Equal i j) d =
      let e = d.0 in
      let left = row_below i d.1.0 d.1.1 in
      let right : j < length terms = omega (arith, stand.count, d.2) in
      let w = read_written terms (at i) e (sym (stand.element i d.1.0 (at i) d.1.1 (there i left)) ∙ d.1.2) in
      let here = subst (λ (x : Element). has n (Equal x.index x.other)) w.5 d.3 in
      let element = at_place w.2 j (d.4 ∙ ap (λ (x : Element). x.written) w.5) right in
      let number : tree_sort sorts (at i) ≡ Num = ap (tree_sort sorts) w.4 in
      let fine = subst (IsSorted sorts) w.4 (sorted i (at i) (there i left)) in (
        ap (λ (t : Tree). element_adds facts (line.Hit t n)) w.4
            ∙ ap (λ (b : Bool). formula_if b (Eq Num (Read (Write w.0 w.1 w.2) w.3) w.2)) (equal_said n w.1 w.3 here)
            ∙ ap (λ (t : Tree). Some (Formal (Eq Num t w.2))) (sym w.4)
            ∙ ap (λ (t : Tree). Some (Formal (Eq Num (at i) t))) (sym element)
            ∙ ap (λ (s : Sort). Some (Formal (Eq s (at i) (at j)))) (sym number),
        record { left = left; right = right; one_sort = number ∙ sym fine.0.5 ∙ ap (tree_sort sorts) (sym element) },
      )
  rule_adds (rule.Miss n) (Equal i j) d =
      let e = d.0 in
      let left = row_below i d.1.0 d.1.1 in
      let right : j < length terms = omega (arith, stand.count, d.2) in
      let w = read_written terms (at i) e (sym (stand.element i d.1.0 (at i) d.1.1 (there i left)) ∙ d.1.2) in
      let here = subst (λ (x : Element). has n (Unequal x.index x.other)) w.5 d.3 in
      let element = at_place (Read w.0 w.3) j (d.4 ∙ ap (λ (x : Element). x.before) w.5) right in
      let number : tree_sort sorts (at i) ≡ Num = ap (tree_sort sorts) w.4 in
      let other : tree_sort sorts (at j) ≡ Num = ap (tree_sort sorts) element in (
        ap (λ (t : Tree). element_adds facts (line.Miss t (at j) n)) w.4
            ∙ ap (λ (b : Bool). formula_if (b && same_tree (at j) (Read w.0 w.3)) (Eq Num (Read (Write w.0 w.1 w.2) w.3) (at j)))
            (unequal_said n w.1 w.3 here)
            ∙ ap (λ (b : Bool). formula_if b (Eq Num (Read (Write w.0 w.1 w.2) w.3) (at j))) ((same_tree_is (at j) (Read w.0 w.3)).1 element)
            ∙ ap (λ (t : Tree). Some (Formal (Eq Num t (at j)))) (sym w.4)
            ∙ ap (λ (s : Sort). Some (Formal (Eq s (at i) (at j)))) (sym number),
        record { left = left; right = right; one_sort = number ∙ sym other },
      )
  rule_adds r k d = absurd d
