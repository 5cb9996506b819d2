-- A term under other numbers of its arguments stands for the same tree in the table where these have
-- the same trees, and fits there alike.
use Rattle.sm_list.proofs.Imports.{◌≡◌, ℕ, ◌<◌, Bool, ◌&&◌, List, [], ◌∷◌, length, map, refl, sym, ap, ◌∙◌, subst, arith, Code, Sorts, Tree, term_numbers, names_of_term, parts_of_term, names_in_list, parts_in_list, Contents, contents_of, IsDeclaredIn, tree_at, code_at, arguments_in, tree_in, IsTermWithin, AreBefore, TermId, Term, has_sort, arguments_fit, term_fits, moved_numbers, moved_contents, argument_numbers}
use Rattle.sm_syntax.specs.declared.tree.Name.{Name}
use Rattle.sm_syntax.specs.claim.ConflictFree.{copy_of}
use Rattle.sm_syntax.specs.declared.tree.Sort.{Sort}
use Rattle.sm_syntax.specs.declared.tree.Sort.TheVariants.{Num, Arr}
use Rattle.sm_term.specs.declared.term.Term.TheVariants as row
use Rattle.sm_term.specs.Terms as tree
use Rattle.sm_term.proofs.TermsLemmas.{declared_alike}
use Rattle.sm_list.proofs.RenumberLemmas.{Stands}

-- bodies keep their numbers
abbrev same_body : ℕ → ℕ
same_body b = b

module _ (sorts : Sorts) (codes : List Code) (whole trees : List Tree) (part : ℕ → ℕ) where
  -- each of a list of terms has its tree in the other table
  abbrev pub AllStand : List TermId → Type 0
  AllStand [] = Unit {0}
  AllStand (t ∷ ts) = Stands whole trees part t.0 × AllStand ts

  -- what a term holds under the other numbers
  abbrev pub Moved : Term → Contents
  Moved t = moved_contents part same_body t

  -- a term holds, part by part, what another one does under the other numbers
  record IsMoved (t u : Term) : Type 0 where
    numbers : term_numbers u ≡ moved_numbers part same_body t
    names : names_of_term u ≡ names_of_term t
    parts : parts_of_term u ≡ map part (parts_of_term t)

  is_moved : (t u : Term) → contents_of u ≡ Moved t → IsMoved t u
  is_moved t u e =
      record { numbers = ap (λ (h : Contents). h.0) e; names = ap (λ (h : Contents). h.1) e; parts = ap (λ (h : Contents). h.2) e }

  -- arguments under the other numbers stand for the same
  renumbered_arguments :
      (from names : List Name) (args moved : List TermId) → names_in_list names ≡ names_in_list from →
      parts_in_list moved ≡ map part (parts_in_list args) → AllStand args → arguments_in trees names moved ≡ arguments_in whole from args
  renumbered_arguments [] [] args moved first second w = refl
  renumbered_arguments [] (y ∷ names) args moved first second w = absurd cc
  renumbered_arguments (x ∷ from) [] args moved first second w = absurd cc
  renumbered_arguments (x ∷ from) (y ∷ names) [] [] first second w = refl
  renumbered_arguments (x ∷ from) (y ∷ names) [] (u ∷ moved) first second w = absurd cc
  renumbered_arguments (x ∷ from) (y ∷ names) (t ∷ args) [] first second w = absurd cc
  renumbered_arguments (x ∷ from) (y ∷ names) (t ∷ args) (u ∷ moved) first second w =
      let name : y.0 ≡ x.0 = cc in
      let place : u.0 ≡ part t.0 = cc in
      let behind : names_in_list names ≡ names_in_list from = cc in
      let after : parts_in_list moved ≡ map part (parts_in_list args) = cc in
      rw (name, place, w.0.same, renumbered_arguments from names args moved behind after w.1) refl

  -- they fit alike
  renumbered_arguments_fit :
      (from names : List Name) (args moved : List TermId) → names_in_list names ≡ names_in_list from →
      parts_in_list moved ≡ map part (parts_in_list args) → AllStand args →
      arguments_fit sorts trees names moved ≡ arguments_fit sorts whole from args
  renumbered_arguments_fit [] [] [] [] first second w = refl
  renumbered_arguments_fit [] [] (t ∷ args) (u ∷ moved) first second w = refl
  renumbered_arguments_fit (x ∷ from) (y ∷ names) [] [] first second w = refl
  renumbered_arguments_fit (x ∷ from) (y ∷ names) (t ∷ args) (u ∷ moved) first second w =
      let name : y.0 ≡ x.0 = cc in
      let place : u.0 ≡ part t.0 = cc in
      let behind : names_in_list names ≡ names_in_list from = cc in
      let after : parts_in_list moved ≡ map part (parts_in_list args) = cc in
      rw (name, place, w.0.same, renumbered_arguments_fit from names args moved behind after w.1) refl
  renumbered_arguments_fit [] (y ∷ names) args moved first second w = absurd cc
  renumbered_arguments_fit (x ∷ from) [] args moved first second w = absurd cc
  renumbered_arguments_fit [] [] [] (u ∷ moved) first second w = absurd cc
  renumbered_arguments_fit [] [] (t ∷ args) [] first second w = absurd cc
  renumbered_arguments_fit (x ∷ from) (y ∷ names) [] (u ∷ moved) first second w = absurd cc
  renumbered_arguments_fit (x ∷ from) (y ∷ names) (t ∷ args) [] first second w = absurd cc

  -- they are there
  renumbered_before : (args moved : List TermId) → parts_in_list moved ≡ map part (parts_in_list args) → AllStand args →
      AreBefore (length trees) moved
  renumbered_before [] [] e w = tt
  renumbered_before (t ∷ args) (u ∷ moved) e w =
      let place : u.0 ≡ part t.0 = cc in
      let after : parts_in_list moved ≡ map part (parts_in_list args) = cc in
      (subst (λ m. m < length trees) (sym place) w.0.there, renumbered_before args moved after w.1)
  renumbered_before args moved e w = absurd cc

  -- the term stands for the same
  pub renumbered_tree : (t u : Term) → contents_of u ≡ Moved t → AllStand (argument_numbers t) →
      tree_in codes trees u ≡ tree_in codes whole t
  renumbered_tree t u e = by t u (is_moved t u e)
    where
      at : ℕ → Tree
      at p = tree_at trees p

      by : (t u : Term) → IsMoved t u → AllStand (argument_numbers t) → tree_in codes trees u ≡ tree_in codes whole t
      by (row.Lit y) (row.Lit z) m w = ap (λ k. tree.Lit k.value) m.numbers
      by (row.Start x) (row.Start y) m w = ap (λ k. tree.Start k.first) m.numbers
      by (row.Havoc j c x) (row.Havoc k d y) m w = ap (λ k. tree.Havoc k.first (copy_of k.second) k.third) m.numbers
      by (row.Slot c x) (row.Slot d y) m w = ap (λ k. tree.Slot (copy_of k.first) k.second) m.numbers
      by row.Cell row.Cell m w = refl
      by (row.Read a i) (row.Read b j) m w =
          ap (λ k. tree.Read (at k.first) (at k.second)) m.numbers ∙ ap (λ x. tree.Read x (at (part i.0))) w.0.same
          ∙ ap (tree.Read (tree_at whole a.0)) w.1.0.same
      by (row.Write a i d) (row.Write b j e) m w =
          ap (λ k. tree.Write (at k.first) (at k.second) (at k.third)) m.numbers
          ∙ ap (λ x. tree.Write x (at (part i.0)) (at (part d.0))) w.0.same
          ∙ ap (λ x. tree.Write (tree_at whole a.0) x (at (part d.0))) w.1.0.same
          ∙ ap (tree.Write (tree_at whole a.0) (tree_at whole i.0)) w.1.1.0.same
      by (row.Neg r) (row.Neg s) m w = ap (λ k. tree.Neg (at k.first)) m.numbers ∙ ap tree.Neg w.0.same
      by (row.Add p q) (row.Add r s) m w =
          ap (λ k. tree.Add (at k.first) (at k.second)) m.numbers ∙ ap (λ x. tree.Add x (at (part q.0))) w.0.same
          ∙ ap (tree.Add (tree_at whole p.0)) w.1.0.same
      by (row.Sub p q) (row.Sub r s) m w =
          ap (λ k. tree.Sub (at k.first) (at k.second)) m.numbers ∙ ap (λ x. tree.Sub x (at (part q.0))) w.0.same
          ∙ ap (tree.Sub (tree_at whole p.0)) w.1.0.same
      by (row.Mul p q) (row.Mul r s) m w =
          ap (λ k. tree.Mul (at k.first) (at k.second)) m.numbers ∙ ap (λ x. tree.Mul x (at (part q.0))) w.0.same
          ∙ ap (tree.Mul (tree_at whole p.0)) w.1.0.same
      by (row.Fun b x from args) (row.Fun c y names moved) m w =
          ap (λ k. tree.Fun (code_at codes k.first) k.second (arguments_in trees names.list.items moved.list.items)) m.numbers
          ∙ ap (tree.Fun (code_at codes b.0) x.0) (renumbered_arguments from.list.items names.list.items args.list.items moved.list.items
          m.names m.parts w)
      by t u m w = absurd (let kinds = ap (λ k. k.kind) m.numbers in omega arith)

  -- its parts are there
  pub renumbered_within : (n : ℕ) (t u : Term) → contents_of u ≡ Moved t → AllStand (argument_numbers t) →
      IsTermWithin sorts (length codes) n t → IsTermWithin sorts (length codes) (length trees) u
  renumbered_within n t u e = by t u (is_moved t u e)
    where
      by : (t u : Term) → IsMoved t u → AllStand (argument_numbers t) →
          IsTermWithin sorts (length codes) n t → IsTermWithin sorts (length codes) (length trees) u
      by (row.Lit y) (row.Lit z) m there w = tt
      by (row.Start x) (row.Start y) m there w = subst (λ k. IsDeclaredIn sorts k.first) (sym m.numbers) w
      by (row.Havoc j c x) (row.Havoc k d y) m there w = subst (λ k. (k.second < 4) × IsDeclaredIn sorts k.third) (sym m.numbers) w
      by (row.Slot c x) (row.Slot d y) m there w = subst (λ k. (k.first < 4) × IsDeclaredIn sorts k.second) (sym m.numbers) w
      by row.Cell row.Cell m there w = tt
      by (row.Read a i) (row.Read b j) m there w =
          subst (λ k. (k.first < length trees) × (k.second < length trees)) (sym m.numbers) (there.0.there, there.1.0.there)
      by (row.Write a i d) (row.Write b j e) m there w =
          subst (λ k. (k.first < length trees) × (k.second < length trees) × (k.third < length trees)) (sym m.numbers) (
            there.0.there,
            there.1.0.there,
            there.1.1.0.there,
          )
      by (row.Neg r) (row.Neg s) m there w = subst (λ k. k.first < length trees) (sym m.numbers) there.0.there
      by (row.Add p q) (row.Add r s) m there w =
          subst (λ k. (k.first < length trees) × (k.second < length trees)) (sym m.numbers) (there.0.there, there.1.0.there)
      by (row.Sub p q) (row.Sub r s) m there w =
          subst (λ k. (k.first < length trees) × (k.second < length trees)) (sym m.numbers) (there.0.there, there.1.0.there)
      by (row.Mul p q) (row.Mul r s) m there w =
          subst (λ k. (k.first < length trees) × (k.second < length trees)) (sym m.numbers) (there.0.there, there.1.0.there)
      by (row.Fun b x from args) (row.Fun c y names moved) m there w = (
        subst (λ k. k.first < length codes) (sym m.numbers) w.0,
        subst (λ k. IsDeclaredIn sorts k.second) (sym m.numbers) w.1,
        declared_alike sorts from.list.items names.list.items (sym m.names) w.2,
        renumbered_before args.list.items moved.list.items m.parts there,
      )
      by t u m there w = absurd (let kinds = ap (λ k. k.kind) m.numbers in omega arith)

  -- a term under the other numbers fits as the term does
  pub renumbered_fits : (t u : Term) → contents_of u ≡ Moved t → AllStand (argument_numbers t) →
      term_fits sorts trees u ≡ term_fits sorts whole t
  renumbered_fits t u e = by t u (is_moved t u e)
    where
      has : ℕ → Sort → Bool
      has p sort = has_sort sorts trees (record { 0 = p }) sort

      same : (p : TermId) (sort : Sort) → Stands whole trees part p.0 → has (part p.0) sort ≡ has_sort sorts whole p sort
      same p sort w = rw w.same refl

      two : (p q : TermId) (r s : Sort) → Stands whole trees part p.0 → Stands whole trees part q.0 →
          (has (part p.0) r && has (part q.0) s) ≡ (has_sort sorts whole p r && has_sort sorts whole q s)
      two p q r s v w = ap (λ b. b && has (part q.0) s) (same p r v) ∙ ap (λ b. has_sort sorts whole p r && b) (same q s w)

      by : (t u : Term) → IsMoved t u → AllStand (argument_numbers t) → term_fits sorts trees u ≡ term_fits sorts whole t
      by (row.Lit y) (row.Lit z) m w = refl
      by (row.Start x) (row.Start y) m w = refl
      by (row.Havoc j c x) (row.Havoc k d y) m w = refl
      by (row.Slot c x) (row.Slot d y) m w = refl
      by row.Cell row.Cell m w = refl
      by (row.Read a i) (row.Read b j) m w = ap (λ k. has k.first Arr && has k.second Num) m.numbers ∙ two a i Arr Num w.0 w.1.0
      by (row.Write a i d) (row.Write b j e) m w =
          ap (λ k. has k.first Arr && (has k.second Num && has k.third Num)) m.numbers
          ∙ ap (λ v. v && (has (part i.0) Num && has (part d.0) Num)) (same a Arr w.0)
          ∙ ap (λ v. has_sort sorts whole a Arr && v) (two i d Num Num w.1.0 w.1.1.0)
      by (row.Neg r) (row.Neg s) m w = ap (λ k. has k.first Num) m.numbers ∙ same r Num w.0
      by (row.Add p q) (row.Add r s) m w = ap (λ k. has k.first Num && has k.second Num) m.numbers ∙ two p q Num Num w.0 w.1.0
      by (row.Sub p q) (row.Sub r s) m w = ap (λ k. has k.first Num && has k.second Num) m.numbers ∙ two p q Num Num w.0 w.1.0
      by (row.Mul p q) (row.Mul r s) m w = ap (λ k. has k.first Num && has k.second Num) m.numbers ∙ two p q Num Num w.0 w.1.0
      by (row.Fun b x from args) (row.Fun c y names moved) m w =
          renumbered_arguments_fit from.list.items names.list.items args.list.items moved.list.items m.names m.parts w
      by t u m w = absurd (let kinds = ap (λ k. k.kind) m.numbers in omega arith)
