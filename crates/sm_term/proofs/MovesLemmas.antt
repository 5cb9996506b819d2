-- A row whose parts and body are moved stands for the same in the other table.
use Rattle.sm_term.proofs.Imports.{◌≡◌, ℕ, ◌<◌, Bool, ◌&&◌, List, [], ◌∷◌, length, map, refl, sym, ap, ◌∙◌, subst, arith, Name, Code, copy_of, Sorts, Sort, Num, Arr, Tree, term_numbers, names_of_term, parts_of_term, names_in_list, parts_in_list, Contents, contents_of, IsDeclaredIn, tree_at, code_at, arguments_in, tree_in, IsTermWithin, AreBefore, Term, has_sort, arguments_fit, term_fits, moved_numbers, moved_contents}
use Rattle.sm_term.specs.declared.term.Term.TheVariants as row
use Rattle.sm_term.specs.Terms as tree
use Rattle.sm_term.specs.Tables.{TermId}
use Rattle.sm_term.proofs.TermsLemmas.{declared_alike}

module _ (sorts : Sorts) (codes there : List Code) (trees whole : List Tree) (n : ℕ) (part body : ℕ → ℕ)
    (parts : (p : ℕ) → p < n → (part p < length trees) × (tree_at trees (part p) ≡ tree_at whole p))
    (bodies : (b : ℕ) → b < length there → (body b < length codes) × (code_at codes (body b) ≡ code_at there b)) where
  -- moved arguments stand for the same
  moved_arguments :
      (from names : List Name) (args moved : List TermId) → names_in_list names ≡ names_in_list from → parts_in_list moved ≡ map part (parts_in_list args) → AreBefore n args
      → arguments_in trees names moved ≡ arguments_in whole from args
  moved_arguments [] [] args moved first second w = refl
  moved_arguments [] (y ∷ names) args moved first second w = absurd cc
  moved_arguments (x ∷ from) [] args moved first second w = absurd cc
  moved_arguments (x ∷ from) (y ∷ names) [] [] first second w = refl
  moved_arguments (x ∷ from) (y ∷ names) [] (u ∷ moved) first second w = absurd cc
  moved_arguments (x ∷ from) (y ∷ names) (t ∷ args) [] first second w = absurd cc
  moved_arguments (x ∷ from) (y ∷ names) (t ∷ args) (u ∷ moved) first second w =
      let name : y.0 ≡ x.0 = cc in
      let place : u.0 ≡ part t.0 = cc in
      let behind : names_in_list names ≡ names_in_list from = cc in
      let after : parts_in_list moved ≡ map part (parts_in_list args) = cc in
      rw (name, place, (parts t.0 w.0).1, moved_arguments from names args moved behind after w.1) refl

  -- they fit alike
  moved_arguments_fit :
      (from names : List Name) (args moved : List TermId) → names_in_list names ≡ names_in_list from → parts_in_list moved ≡ map part (parts_in_list args) → AreBefore n args
      → arguments_fit sorts trees names moved ≡ arguments_fit sorts whole from args
  moved_arguments_fit [] [] [] [] first second w = refl
  moved_arguments_fit [] [] (t ∷ args) (u ∷ moved) first second w = refl
  moved_arguments_fit (x ∷ from) (y ∷ names) [] [] first second w = refl
  moved_arguments_fit (x ∷ from) (y ∷ names) (t ∷ args) (u ∷ moved) first second w =
      let name : y.0 ≡ x.0 = cc in
      let place : u.0 ≡ part t.0 = cc in
      let behind : names_in_list names ≡ names_in_list from = cc in
      let after : parts_in_list moved ≡ map part (parts_in_list args) = cc in
      rw (name, place, (parts t.0 w.0).1, moved_arguments_fit from names args moved behind after w.1) refl
  moved_arguments_fit [] (y ∷ names) args moved first second w = absurd cc
  moved_arguments_fit (x ∷ from) [] args moved first second w = absurd cc
  moved_arguments_fit [] [] [] (u ∷ moved) first second w = absurd cc
  moved_arguments_fit [] [] (t ∷ args) [] first second w = absurd cc
  moved_arguments_fit (x ∷ from) (y ∷ names) [] (u ∷ moved) first second w = absurd cc
  moved_arguments_fit (x ∷ from) (y ∷ names) (t ∷ args) [] first second w = absurd cc

  -- they are there
  moved_before : (args moved : List TermId) → parts_in_list moved ≡ map part (parts_in_list args) → AreBefore n args → AreBefore (length trees) moved
  moved_before [] [] e w = tt
  moved_before (t ∷ args) (u ∷ moved) e w =
      let place : u.0 ≡ part t.0 = cc in
      let after : parts_in_list moved ≡ map part (parts_in_list args) = cc in
      (subst (λ m. m < length trees) (sym place) (parts t.0 w.0).0, moved_before args moved after w.1)
  moved_before args moved e w = absurd cc

  -- the moved row stands for the same
  pub moved_tree : (t u : Term) → contents_of u ≡ moved_contents part body t → IsTermWithin sorts (length there) n t → tree_in codes trees u ≡ tree_in there whole t
  moved_tree t u e = by t u (ap (λ (h : Contents). h.0) e) (ap (λ (h : Contents). h.1) e) (ap (λ (h : Contents). h.2) e)
    where
      at : ℕ → Tree
      at p = tree_at trees p

      by : (t u : Term) → term_numbers u ≡ moved_numbers part body t → names_of_term u ≡ names_of_term t → parts_of_term u ≡ map part (parts_of_term t)
          → IsTermWithin sorts (length there) n t → tree_in codes trees u ≡ tree_in there whole t
      by (row.Lit y) (row.Lit z) m from args w = ap (λ k. tree.Lit k.value) m
      by (row.Start x) (row.Start y) m from args w = ap (λ k. tree.Start k.first) m
      by (row.Havoc j c x) (row.Havoc k d y) m from args w = ap (λ k. tree.Havoc k.first (copy_of k.second) k.third) m
      by (row.Slot c x) (row.Slot d y) m from args w = ap (λ k. tree.Slot (copy_of k.first) k.second) m
      by row.Cell row.Cell m from args w = refl
      by (row.Read a i) (row.Read b j) m from args w =
          ap (λ k. tree.Read (at k.first) (at k.second)) m ∙ ap (λ x. tree.Read x (at (part i.0))) (parts a.0 w.0).1 ∙ ap (tree.Read (tree_at whole a.0)) (parts i.0 w.1).1
      by (row.Write a i d) (row.Write b j e) m from args w =
          ap (λ k. tree.Write (at k.first) (at k.second) (at k.third)) m
          ∙ ap (λ x. tree.Write x (at (part i.0)) (at (part d.0))) (parts a.0 w.0).1
          ∙ ap (λ x. tree.Write (tree_at whole a.0) x (at (part d.0))) (parts i.0 w.1).1
          ∙ ap (tree.Write (tree_at whole a.0) (tree_at whole i.0)) (parts d.0 w.2).1
      by (row.Neg r) (row.Neg s) m from args w = ap (λ k. tree.Neg (at k.first)) m ∙ ap tree.Neg (parts r.0 w).1
      by (row.Add p q) (row.Add r s) m from args w =
          ap (λ k. tree.Add (at k.first) (at k.second)) m ∙ ap (λ x. tree.Add x (at (part q.0))) (parts p.0 w.0).1 ∙ ap (tree.Add (tree_at whole p.0)) (parts q.0 w.1).1
      by (row.Sub p q) (row.Sub r s) m from args w =
          ap (λ k. tree.Sub (at k.first) (at k.second)) m ∙ ap (λ x. tree.Sub x (at (part q.0))) (parts p.0 w.0).1 ∙ ap (tree.Sub (tree_at whole p.0)) (parts q.0 w.1).1
      by (row.Mul p q) (row.Mul r s) m from args w =
          ap (λ k. tree.Mul (at k.first) (at k.second)) m ∙ ap (λ x. tree.Mul x (at (part q.0))) (parts p.0 w.0).1 ∙ ap (tree.Mul (tree_at whole p.0)) (parts q.0 w.1).1
      by (row.Fun b x from args) (row.Fun c y names moved) m names_same parts_same w =
          ap (λ k. tree.Fun (code_at codes k.first) k.second (arguments_in trees names.list.items moved.list.items)) m
          ∙ ap (λ d. tree.Fun d x.0 (arguments_in trees names.list.items moved.list.items)) (bodies b.0 w.0).1
          ∙ ap (tree.Fun (code_at there b.0) x.0) (moved_arguments from.list.items names.list.items args.list.items moved.list.items names_same parts_same w.3)
      by t u m from args w = absurd (let kinds = ap (λ k. k.kind) m in omega arith)

  -- its parts are there
  pub moved_within : (t u : Term) → contents_of u ≡ moved_contents part body t → IsTermWithin sorts (length there) n t → IsTermWithin sorts (length codes) (length trees) u
  moved_within t u e = by t u (ap (λ (h : Contents). h.0) e) (ap (λ (h : Contents). h.1) e) (ap (λ (h : Contents). h.2) e)
    where
      by : (t u : Term) → term_numbers u ≡ moved_numbers part body t → names_of_term u ≡ names_of_term t → parts_of_term u ≡ map part (parts_of_term t)
          → IsTermWithin sorts (length there) n t → IsTermWithin sorts (length codes) (length trees) u
      by (row.Lit y) (row.Lit z) m from args w = tt
      by (row.Start x) (row.Start y) m from args w = subst (λ k. IsDeclaredIn sorts k.first) (sym m) w
      by (row.Havoc j c x) (row.Havoc k d y) m from args w = subst (λ k. (k.second < 4) × IsDeclaredIn sorts k.third) (sym m) w
      by (row.Slot c x) (row.Slot d y) m from args w = subst (λ k. (k.first < 4) × IsDeclaredIn sorts k.second) (sym m) w
      by row.Cell row.Cell m from args w = tt
      by (row.Read a i) (row.Read b j) m from args w = subst (λ k. (k.first < length trees) × (k.second < length trees)) (sym m) ((parts a.0 w.0).0, (parts i.0 w.1).0)
      by (row.Write a i d) (row.Write b j e) m from args w =
          subst (λ k. (k.first < length trees) × (k.second < length trees) × (k.third < length trees)) (sym m) ((parts a.0 w.0).0, (parts i.0 w.1).0, (parts d.0 w.2).0)
      by (row.Neg r) (row.Neg s) m from args w = subst (λ k. k.first < length trees) (sym m) (parts r.0 w).0
      by (row.Add p q) (row.Add r s) m from args w = subst (λ k. (k.first < length trees) × (k.second < length trees)) (sym m) ((parts p.0 w.0).0, (parts q.0 w.1).0)
      by (row.Sub p q) (row.Sub r s) m from args w = subst (λ k. (k.first < length trees) × (k.second < length trees)) (sym m) ((parts p.0 w.0).0, (parts q.0 w.1).0)
      by (row.Mul p q) (row.Mul r s) m from args w = subst (λ k. (k.first < length trees) × (k.second < length trees)) (sym m) ((parts p.0 w.0).0, (parts q.0 w.1).0)
      by (row.Fun b x from args) (row.Fun c y names moved) m names_same parts_same w = (
        subst (λ k. k.first < length codes) (sym m) (bodies b.0 w.0).0,
        subst (λ k. IsDeclaredIn sorts k.second) (sym m) w.1,
        declared_alike sorts from.list.items names.list.items (sym names_same) w.2,
        moved_before args.list.items moved.list.items parts_same w.3,
      )
      by t u m from args w = absurd (let kinds = ap (λ k. k.kind) m in omega arith)

  -- the moved row fits exactly where the row does
  pub moved_fits : (t u : Term) → contents_of u ≡ moved_contents part body t → IsTermWithin sorts (length there) n t → term_fits sorts trees u ≡ term_fits sorts whole t
  moved_fits t u e = by t u (ap (λ (h : Contents). h.0) e) (ap (λ (h : Contents). h.1) e) (ap (λ (h : Contents). h.2) e)
    where
      has : ℕ → Sort → Bool
      has p sort = has_sort sorts trees (record { 0 = p }) sort

      same : (p : TermId) (sort : Sort) → p.0 < n → has (part p.0) sort ≡ has_sort sorts whole p sort
      same p sort w = rw (parts p.0 w).1 refl

      two : (p q : TermId) (r s : Sort) → p.0 < n → q.0 < n → (has (part p.0) r && has (part q.0) s) ≡ (has_sort sorts whole p r && has_sort sorts whole q s)
      two p q r s v w = ap (λ b. b && has (part q.0) s) (same p r v) ∙ ap (λ b. has_sort sorts whole p r && b) (same q s w)

      by : (t u : Term) → term_numbers u ≡ moved_numbers part body t → names_of_term u ≡ names_of_term t → parts_of_term u ≡ map part (parts_of_term t)
          → IsTermWithin sorts (length there) n t → term_fits sorts trees u ≡ term_fits sorts whole t
      by (row.Lit y) (row.Lit z) m from args w = refl
      by (row.Start x) (row.Start y) m from args w = refl
      by (row.Havoc j c x) (row.Havoc k d y) m from args w = refl
      by (row.Slot c x) (row.Slot d y) m from args w = refl
      by row.Cell row.Cell m from args w = refl
      by (row.Read a i) (row.Read b j) m from args w = ap (λ k. has k.first Arr && has k.second Num) m ∙ two a i Arr Num w.0 w.1
      by (row.Write a i d) (row.Write b j e) m from args w =
          ap (λ k. has k.first Arr && (has k.second Num && has k.third Num)) m
          ∙ ap (λ v. v && (has (part i.0) Num && has (part d.0) Num)) (same a Arr w.0)
          ∙ ap (λ v. has_sort sorts whole a Arr && v) (two i d Num Num w.1 w.2)
      by (row.Neg r) (row.Neg s) m from args w = ap (λ k. has k.first Num) m ∙ same r Num w
      by (row.Add p q) (row.Add r s) m from args w = ap (λ k. has k.first Num && has k.second Num) m ∙ two p q Num Num w.0 w.1
      by (row.Sub p q) (row.Sub r s) m from args w = ap (λ k. has k.first Num && has k.second Num) m ∙ two p q Num Num w.0 w.1
      by (row.Mul p q) (row.Mul r s) m from args w = ap (λ k. has k.first Num && has k.second Num) m ∙ two p q Num Num w.0 w.1
      by (row.Fun b x from args) (row.Fun c y names moved) m names_same parts_same w =
          moved_arguments_fit from.list.items names.list.items args.list.items moved.list.items names_same parts_same w.3
      by t u m from args w = absurd (let kinds = ap (λ k. k.kind) m in omega arith)
