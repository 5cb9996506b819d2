-- Terms of one table: their trees, which are equal exactly where they hold the same, and their sorts.
use Rattle.sm_term.proofs.Imports.{◌≡◌, ℕ, zero, suc, ◌+◌, ◌<◌, ◌≤◌, Bool, true, false, ◌&&◌, IsTrue, List, [], ◌∷◌, length, drop, slice_get, refl, sym, ap, ◌∙◌, subst, arith, Option, Some, None, is_some, unwrap_or, and_parts, drop_all, Name, Code, copy_of, Sorts, Sort, Num, Arr, Tree, Arguments, Over, Given, kind_numbers, term_numbers, names_of_term, parts_of_term, names_in_list, parts_in_list, Contents, contents_of, sort_named, tree_sort, IsSorted, AreArgumentsSorted, IsDeclaredIn, tree_at, code_at, arguments_in, tree_in, IsTermWithin, AreBefore, AreNamesDeclared, Term, has_sort, arguments_fit, term_fits, AreApart, AreCodesApart, AreCodesSorted, AreTreesSorted}
use Rattle.sm_syntax.specs.trees.Copies.{number_of}
use Rattle.sm_term.specs.declared.term.Term.TheVariants as row
use Rattle.sm_term.specs.Terms as tree
use Rattle.sm_term.specs.Tables.{TermId}
use Rattle.sm_term.proofs.SameTermsLemmas.{same_sort_is}

-- a copy's number gives the copy back
number-copy_of : (c : ℕ) → c < 4 → number_of (copy_of c) ≡ c
number-copy_of zero h = refl
number-copy_of (suc zero) h = refl
number-copy_of (suc (suc zero)) h = refl
number-copy_of (suc (suc (suc zero))) h = refl
number-copy_of (suc (suc (suc (suc n)))) h = absurd (omega arith)

-- so copies of different numbers differ
copy_same : (c d : ℕ) → c < 4 → d < 4 → copy_of c ≡ copy_of d → c ≡ d
copy_same c d g h e = sym (number-copy_of c g) ∙ ap number_of e ∙ number-copy_of d h

-- what is held by terms of one kind with the same numbers
abbrev bare : ℕ → ℕ → ℕ → ℕ → Contents
bare kind a b c = (kind_numbers kind a b c, [], [])

same_held : (kind a b c x y z : ℕ) → a ≡ x → b ≡ y → c ≡ z → bare kind a b c ≡ bare kind x y z
same_held kind a b c x y z first second third = rw (first, second, third) refl

-- arguments that hold the same stand for the same
arguments_alike : (trees : List Tree) (from names : List Name) (args parts : List TermId) → names_in_list from ≡ names_in_list names → parts_in_list args ≡ parts_in_list parts → arguments_in trees from args ≡ arguments_in trees names parts
arguments_alike trees [] [] args parts first second = refl
arguments_alike trees [] (y ∷ names) args parts first second = absurd cc
arguments_alike trees (x ∷ from) [] args parts first second = absurd cc
arguments_alike trees (x ∷ from) (y ∷ names) [] [] first second = refl
arguments_alike trees (x ∷ from) (y ∷ names) [] (u ∷ parts) first second = absurd cc
arguments_alike trees (x ∷ from) (y ∷ names) (t ∷ args) [] first second = absurd cc
arguments_alike trees (x ∷ from) (y ∷ names) (t ∷ args) (u ∷ parts) first second =
    let name : x.0 ≡ y.0 = cc in
    let part : t.0 ≡ u.0 = cc in
    let behind : names_in_list from ≡ names_in_list names = cc in
    let after : parts_in_list args ≡ parts_in_list parts = cc in
    let rest = arguments_alike trees from names args parts behind after in
    rw (name, part, rest) refl

-- terms that hold the same stand for the same
pub alike : (codes : List Code) (trees : List Tree) (t u : Term) → contents_of t ≡ contents_of u → tree_in codes trees t ≡ tree_in codes trees u
alike codes trees t u e = by t u (ap (λ (h : Contents). h.0) e) (ap (λ (h : Contents). h.1) e) (ap (λ (h : Contents). h.2) e)
  where
    by : (t u : Term) → term_numbers t ≡ term_numbers u → names_of_term t ≡ names_of_term u → parts_of_term t ≡ parts_of_term u → tree_in codes trees t ≡ tree_in codes trees u
    by (row.Lit y) (row.Lit z) n from args = ap (λ m. tree.Lit m.value) n
    by (row.Start x) (row.Start y) n from args = ap (λ m. tree.Start m.first) n
    by (row.Havoc j c x) (row.Havoc k d y) n from args = ap (λ m. tree.Havoc m.first (copy_of m.second) m.third) n
    by (row.Slot c x) (row.Slot d y) n from args = ap (λ m. tree.Slot (copy_of m.first) m.second) n
    by row.Cell row.Cell n from args = refl
    by (row.Read a i) (row.Read b j) n from args = ap (λ m. tree.Read (tree_at trees m.first) (tree_at trees m.second)) n
    by (row.Write a i d) (row.Write b j e) n from args = ap (λ m. tree.Write (tree_at trees m.first) (tree_at trees m.second) (tree_at trees m.third)) n
    by (row.Neg r) (row.Neg s) n from args = ap (λ m. tree.Neg (tree_at trees m.first)) n
    by (row.Add p q) (row.Add r s) n from args = ap (λ m. tree.Add (tree_at trees m.first) (tree_at trees m.second)) n
    by (row.Sub p q) (row.Sub r s) n from args = ap (λ m. tree.Sub (tree_at trees m.first) (tree_at trees m.second)) n
    by (row.Mul p q) (row.Mul r s) n from args = ap (λ m. tree.Mul (tree_at trees m.first) (tree_at trees m.second)) n
    by (row.Fun b x from args) (row.Fun c y names parts) n names_same parts_same =
        ap (λ m. tree.Fun (code_at codes m.first) m.second (arguments_in trees from.list.items args.list.items)) n
        ∙ ap (tree.Fun (code_at codes c.0) y.0) (arguments_alike trees from.list.items names.list.items args.list.items parts.list.items names_same parts_same)
    by t u n from args = absurd (let kinds = ap (λ m. m.kind) n in omega arith)

-- arguments that stand for the same hold the same
arguments_unlike :
    (sorts : Sorts) (trees : List Tree) → AreApart trees → (from names : List Name) (args parts : List TermId) → AreBefore (length trees) args → AreBefore (length trees) parts
    → arguments_fit sorts trees from args ≡ true → arguments_fit sorts trees names parts ≡ true
    → arguments_in trees from args ≡ arguments_in trees names parts → (names_in_list from ≡ names_in_list names) × (parts_in_list args ≡ parts_in_list parts)
arguments_unlike sorts trees apart [] [] [] [] v w f g e = (refl, refl)
arguments_unlike sorts trees apart (x ∷ from) (y ∷ names) (t ∷ args) (u ∷ parts) v w f g e =
    let name : x.0 ≡ y.0 = cc in
    let part : t.0 ≡ u.0 = apart t.0 u.0 v.0 w.0 cc in
    let behind : arguments_in trees from args ≡ arguments_in trees names parts = cc in
    let here = and_parts _ _ f in
    let there = and_parts _ _ g in
    let rest = arguments_unlike sorts trees apart from names args parts v.1 w.1 here.1 there.1 behind in
    (rw (name, rest.0) refl, rw (part, rest.1) refl)
arguments_unlike sorts trees apart [] [] [] (u ∷ parts) v w f g e = absurd cc
arguments_unlike sorts trees apart [] [] (t ∷ args) parts v w f g e = absurd cc
arguments_unlike sorts trees apart [] (y ∷ names) [] [] v w f g e = absurd cc
arguments_unlike sorts trees apart [] (y ∷ names) [] (u ∷ parts) v w f g e = absurd cc
arguments_unlike sorts trees apart [] (y ∷ names) (t ∷ args) parts v w f g e = absurd cc
arguments_unlike sorts trees apart (x ∷ from) names [] parts v w f g e = absurd cc
arguments_unlike sorts trees apart (x ∷ from) [] (t ∷ args) [] v w f g e = absurd cc
arguments_unlike sorts trees apart (x ∷ from) [] (t ∷ args) (u ∷ parts) v w f g e = absurd cc
arguments_unlike sorts trees apart (x ∷ from) (y ∷ names) (t ∷ args) [] v w f g e = absurd cc

-- terms that stand for the same hold the same
pub unlike :
    (sorts : Sorts) (codes : List Code) (trees : List Tree) → AreCodesApart codes → AreApart trees → (t u : Term)
    → IsTermWithin sorts (length codes) (length trees) t → IsTermWithin sorts (length codes) (length trees) u → term_fits sorts trees t ≡ true → term_fits sorts trees u ≡ true
    → tree_in codes trees t ≡ tree_in codes trees u → contents_of t ≡ contents_of u
unlike sorts codes trees bodies apart (row.Lit y) (row.Lit z) v w f g e = let same : y ≡ z = cc in rw same refl
unlike sorts codes trees bodies apart (row.Start x) (row.Start y) v w f g e = let name : x.0 ≡ y.0 = cc in same_held 1 _ _ _ _ _ _ name refl refl
unlike sorts codes trees bodies apart (row.Havoc j c x) (row.Havoc k d y) v w f g e =
    let node : j ≡ k = cc in
    let name : x.0 ≡ y.0 = cc in
    same_held 2 _ _ _ _ _ _ node (copy_same c d v.0 w.0 cc) name
unlike sorts codes trees bodies apart (row.Slot c x) (row.Slot d y) v w f g e = let name : x.0 ≡ y.0 = cc in same_held 3 _ _ _ _ _ _ (copy_same c d v.0 w.0 cc) name refl
unlike sorts codes trees bodies apart row.Cell row.Cell v w f g e = refl
unlike sorts codes trees bodies apart (row.Read a i) (row.Read b j) v w f g e = same_held 5 _ _ _ _ _ _ (apart a.0 b.0 v.0 w.0 cc) (apart i.0 j.0 v.1 w.1 cc) refl
unlike sorts codes trees bodies apart (row.Write a i d) (row.Write b j h) v w f g e =
    same_held 6 _ _ _ _ _ _ (apart a.0 b.0 v.0 w.0 cc) (apart i.0 j.0 v.1 w.1 cc) (apart d.0 h.0 v.2 w.2 cc)
unlike sorts codes trees bodies apart (row.Neg r) (row.Neg s) v w f g e = same_held 7 _ _ _ _ _ _ (apart r.0 s.0 v w cc) refl refl
unlike sorts codes trees bodies apart (row.Add p q) (row.Add r s) v w f g e = same_held 8 _ _ _ _ _ _ (apart p.0 r.0 v.0 w.0 cc) (apart q.0 s.0 v.1 w.1 cc) refl
unlike sorts codes trees bodies apart (row.Sub p q) (row.Sub r s) v w f g e = same_held 9 _ _ _ _ _ _ (apart p.0 r.0 v.0 w.0 cc) (apart q.0 s.0 v.1 w.1 cc) refl
unlike sorts codes trees bodies apart (row.Mul p q) (row.Mul r s) v w f g e = same_held 10 _ _ _ _ _ _ (apart p.0 r.0 v.0 w.0 cc) (apart q.0 s.0 v.1 w.1 cc) refl
unlike sorts codes trees bodies apart (row.Fun b x from args) (row.Fun c y names parts) v w f g e =
    let body : b.0 ≡ c.0 = bodies b.0 c.0 v.0 w.0 cc in
    let name : x.0 ≡ y.0 = cc in
    let lists = arguments_unlike sorts trees apart from.list.items names.list.items args.list.items parts.list.items v.3 w.3 f g cc in
    rw (body, name, lists.0, lists.1) refl
unlike sorts codes trees bodies apart t u v w f g e = absurd cc

-- the sort of a declared name
pub named : (sorts : Sorts) (x : ℕ) → IsDeclaredIn sorts x → sorts x ≡ Some (sort_named sorts x)
named sorts x d = by (sorts x) d
  where
    by : (o : Option Sort) → IsTrue (is_some o) → o ≡ Some (unwrap_or o Num)
    by (Some sort) d = refl
    by None d = absurd cc

-- a part that has a sort, by the test
part_sorted : (sorts : Sorts) (trees : List Tree) (t : TermId) (sort : Sort) → AreTreesSorted sorts trees → t.0 < length trees → has_sort sorts trees t sort ≡ true → IsSorted sorts (tree_at trees t.0) × (tree_sort sorts (tree_at trees t.0) ≡ sort)
part_sorted sorts trees t sort all within h = (all t.0 within, (same_sort_is (tree_sort sorts (tree_at trees t.0)) sort).0 h)

-- arguments that fit are well sorted
arguments_sorted :
    (sorts : Sorts) (trees : List Tree) → AreTreesSorted sorts trees → (from : List Name) (args : List TermId) → AreNamesDeclared sorts from → AreBefore (length trees) args
    → arguments_fit sorts trees from args ≡ true → AreArgumentsSorted sorts (arguments_in trees from args)
arguments_sorted sorts trees all [] args d v f = tt
arguments_sorted sorts trees all (x ∷ from) [] d v f = tt
arguments_sorted sorts trees all (x ∷ from) (t ∷ args) d v f =
    let here = and_parts _ _ f in
    let part = part_sorted sorts trees t (sort_named sorts x.0) all v.0 here.0 in
    (named sorts x.0 d.0 ∙ ap Some (sym part.1), part.0, arguments_sorted sorts trees all from args d.1 v.1 here.1)

-- the tree of a term that fits is well sorted
pub term_sorted :
    (sorts : Sorts) (codes : List Code) (trees : List Tree) → AreCodesSorted sorts codes → AreTreesSorted sorts trees → (t : Term)
    → IsTermWithin sorts (length codes) (length trees) t → term_fits sorts trees t ≡ true → IsSorted sorts (tree_in codes trees t)
term_sorted sorts codes trees bodies all (row.Lit z) v f = tt
term_sorted sorts codes trees bodies all (row.Start x) v f = v
term_sorted sorts codes trees bodies all (row.Havoc k c x) v f = v.1
term_sorted sorts codes trees bodies all (row.Slot c x) v f = v.1
term_sorted sorts codes trees bodies all row.Cell v f = tt
term_sorted sorts codes trees bodies all (row.Read a i) v f =
    let p = and_parts _ _ f in
    let first = part_sorted sorts trees a Arr all v.0 p.0 in
    let second = part_sorted sorts trees i Num all v.1 p.1 in
    (first.0, first.1, second.0, second.1)
term_sorted sorts codes trees bodies all (row.Write a i e) v f =
    let p = and_parts _ _ f in
    let q = and_parts _ _ p.1 in
    let first = part_sorted sorts trees a Arr all v.0 p.0 in
    let second = part_sorted sorts trees i Num all v.1 q.0 in
    let third = part_sorted sorts trees e Num all v.2 q.1 in
    (first.0, first.1, second.0, second.1, third.0, third.1)
term_sorted sorts codes trees bodies all (row.Neg t) v f = part_sorted sorts trees t Num all v f
term_sorted sorts codes trees bodies all (row.Add t u) v f =
    let p = and_parts _ _ f in
    let first = part_sorted sorts trees t Num all v.0 p.0 in
    let second = part_sorted sorts trees u Num all v.1 p.1 in
    (first.0, first.1, second.0, second.1)
term_sorted sorts codes trees bodies all (row.Sub t u) v f =
    let p = and_parts _ _ f in
    let first = part_sorted sorts trees t Num all v.0 p.0 in
    let second = part_sorted sorts trees u Num all v.1 p.1 in
    (first.0, first.1, second.0, second.1)
term_sorted sorts codes trees bodies all (row.Mul t u) v f =
    let p = and_parts _ _ f in
    let first = part_sorted sorts trees t Num all v.0 p.0 in
    let second = part_sorted sorts trees u Num all v.1 p.1 in
    (first.0, first.1, second.0, second.1)
term_sorted sorts codes trees bodies all (row.Fun b x from args) v f =
    (bodies b.0 v.0, v.1, arguments_sorted sorts trees all from.list.items args.list.items v.2 v.3 f)

-- as many arguments as names, where arguments fit
pub same_length : (sorts : Sorts) (trees : List Tree) (from : List Name) (args : List TermId) → arguments_fit sorts trees from args ≡ true → length from ≡ length args
same_length sorts trees [] [] f = refl
same_length sorts trees [] (t ∷ args) f = absurd cc
same_length sorts trees (x ∷ from) [] f = absurd cc
same_length sorts trees (x ∷ from) (t ∷ args) f = ap suc (same_length sorts trees from args (and_parts _ _ f).1)

-- so other lists don't fit
pub other_length : (sorts : Sorts) (trees : List Tree) (from : List Name) (args : List TermId) → (length from ≡ length args → ⊥) → false ≡ arguments_fit sorts trees from args
other_length sorts trees from args other = by (arguments_fit sorts trees from args) refl
  where
    by : (b : Bool) → arguments_fit sorts trees from args ≡ b → false ≡ arguments_fit sorts trees from args
    by true e = absurd (other (same_length sorts trees from args e))
    by false e = sym e

-- a number of a list stands before the place
pub part_before : (n : ℕ) (args : List TermId) (i : ℕ) (t : TermId) → AreBefore n args → slice_get args i ≡ Some t → t.0 < n
part_before n [] i t w e = absurd cc
part_before n (u ∷ args) zero t w e = let same : u ≡ t = cc in subst (λ v. v.0 < n) same w.0
part_before n (u ∷ args) (suc i) t w e = part_before n args i t w.1 e

-- one argument after the other
pub fit_step :
    (sorts : Sorts) (trees : List Tree) (from : List Name) (args : List TermId) (i : ℕ) (x : Name) (t : TermId) → slice_get from i ≡ Some x → slice_get args i ≡ Some t
    → arguments_fit sorts trees (drop i from) (drop i args) ≡ (has_sort sorts trees t (sort_named sorts x.0) && arguments_fit sorts trees (drop (i + 1) from) (drop (i + 1) args))
fit_step sorts trees from args i x t first second = let next : i + 1 ≡ suc i = omega arith in rw next (by from args i first second)
  where
    by : (from : List Name) (args : List TermId) (i : ℕ) → slice_get from i ≡ Some x → slice_get args i ≡ Some t
        → arguments_fit sorts trees (drop i from) (drop i args) ≡ (has_sort sorts trees t (sort_named sorts x.0) && arguments_fit sorts trees (drop (suc i) from) (drop (suc i) args))
    by [] args i f g = absurd cc
    by (y ∷ from) [] i f g = absurd cc
    by (y ∷ from) (u ∷ args) zero f g = let name : y ≡ x = cc in let part : u ≡ t = cc in rw (name, part) refl
    by (y ∷ from) (u ∷ args) (suc i) f g = by from args i f g

-- nothing is left
pub fit_end : (sorts : Sorts) (trees : List Tree) (from : List Name) (args : List TermId) (i : ℕ) → length from ≤ i → length from ≡ length args → arguments_fit sorts trees (drop i from) (drop i args) ≡ true
fit_end sorts trees from args i h long = rw (drop_all i from h, drop_all i args (omega arith)) refl

-- lists that hold the same have the same facts
before_alike : (n : ℕ) (args parts : List TermId) → parts_in_list args ≡ parts_in_list parts → AreBefore n args → AreBefore n parts
before_alike n [] [] e w = tt
before_alike n (t ∷ args) (u ∷ parts) e w =
    let part : t.0 ≡ u.0 = cc in
    let rest : parts_in_list args ≡ parts_in_list parts = cc in
    (subst (λ m. m < n) part w.0, before_alike n args parts rest w.1)
before_alike n args parts e w = absurd cc

pub declared_alike : (sorts : Sorts) (from names : List Name) → names_in_list from ≡ names_in_list names → AreNamesDeclared sorts from → AreNamesDeclared sorts names
declared_alike sorts [] [] e w = tt
declared_alike sorts (x ∷ from) (y ∷ names) e w =
    let name : x.0 ≡ y.0 = cc in
    let rest : names_in_list from ≡ names_in_list names = cc in
    (subst (IsDeclaredIn sorts) name w.0, declared_alike sorts from names rest w.1)
declared_alike sorts from names e w = absurd cc

fit_alike :
    (sorts : Sorts) (trees : List Tree) (from names : List Name) (args parts : List TermId) → names_in_list from ≡ names_in_list names → parts_in_list args ≡ parts_in_list parts
    → arguments_fit sorts trees from args ≡ arguments_fit sorts trees names parts
fit_alike sorts trees [] [] [] [] first second = refl
fit_alike sorts trees [] [] (t ∷ args) (u ∷ parts) first second = refl
fit_alike sorts trees (x ∷ from) (y ∷ names) [] [] first second = refl
fit_alike sorts trees (x ∷ from) (y ∷ names) (t ∷ args) (u ∷ parts) first second =
    let name : x.0 ≡ y.0 = cc in
    let part : t.0 ≡ u.0 = cc in
    let behind : names_in_list from ≡ names_in_list names = cc in
    let after : parts_in_list args ≡ parts_in_list parts = cc in
    rw (name, part, fit_alike sorts trees from names args parts behind after) refl
fit_alike sorts trees [] (y ∷ names) args parts first second = absurd cc
fit_alike sorts trees (x ∷ from) [] args parts first second = absurd cc
fit_alike sorts trees [] [] [] (u ∷ parts) first second = absurd cc
fit_alike sorts trees [] [] (t ∷ args) [] first second = absurd cc
fit_alike sorts trees (x ∷ from) (y ∷ names) [] (u ∷ parts) first second = absurd cc
fit_alike sorts trees (x ∷ from) (y ∷ names) (t ∷ args) [] first second = absurd cc

-- terms that hold the same stand at the same places, and fit alike
pub within_alike : (sorts : Sorts) (bodies n : ℕ) (t u : Term) → contents_of t ≡ contents_of u → IsTermWithin sorts bodies n t → IsTermWithin sorts bodies n u
within_alike sorts bodies n t u e = by t u (ap (λ (h : Contents). h.0) e) (ap (λ (h : Contents). h.1) e) (ap (λ (h : Contents). h.2) e)
  where
    by : (t u : Term) → term_numbers t ≡ term_numbers u → names_of_term t ≡ names_of_term u → parts_of_term t ≡ parts_of_term u → IsTermWithin sorts bodies n t → IsTermWithin sorts bodies n u
    by (row.Lit y) (row.Lit z) m from args w = tt
    by (row.Start x) (row.Start y) m from args w = subst (λ k. IsDeclaredIn sorts k.first) m w
    by (row.Havoc j c x) (row.Havoc k d y) m from args w = subst (λ k. (k.second < 4) × IsDeclaredIn sorts k.third) m w
    by (row.Slot c x) (row.Slot d y) m from args w = subst (λ k. (k.first < 4) × IsDeclaredIn sorts k.second) m w
    by row.Cell row.Cell m from args w = tt
    by (row.Read a i) (row.Read b j) m from args w = subst (λ k. (k.first < n) × (k.second < n)) m w
    by (row.Write a i d) (row.Write b j e) m from args w = subst (λ k. (k.first < n) × (k.second < n) × (k.third < n)) m w
    by (row.Neg r) (row.Neg s) m from args w = subst (λ k. k.first < n) m w
    by (row.Add p q) (row.Add r s) m from args w = subst (λ k. (k.first < n) × (k.second < n)) m w
    by (row.Sub p q) (row.Sub r s) m from args w = subst (λ k. (k.first < n) × (k.second < n)) m w
    by (row.Mul p q) (row.Mul r s) m from args w = subst (λ k. (k.first < n) × (k.second < n)) m w
    by (row.Fun b x from args) (row.Fun c y names parts) m names_same parts_same w = (
      subst (λ k. k.first < bodies) m w.0,
      subst (λ k. IsDeclaredIn sorts k.second) m w.1,
      declared_alike sorts from.list.items names.list.items names_same w.2,
      before_alike n args.list.items parts.list.items parts_same w.3,
    )
    by t u m from args w = absurd (let kinds = ap (λ k. k.kind) m in omega arith)

pub fits_alike : (sorts : Sorts) (trees : List Tree) (t u : Term) → contents_of t ≡ contents_of u → term_fits sorts trees t ≡ term_fits sorts trees u
fits_alike sorts trees t u e = by t u (ap (λ (h : Contents). h.0) e) (ap (λ (h : Contents). h.1) e) (ap (λ (h : Contents). h.2) e)
  where
    has : ℕ → Sort → Bool
    has n sort = has_sort sorts trees (record { 0 = n }) sort

    by : (t u : Term) → term_numbers t ≡ term_numbers u → names_of_term t ≡ names_of_term u → parts_of_term t ≡ parts_of_term u → term_fits sorts trees t ≡ term_fits sorts trees u
    by (row.Lit y) (row.Lit z) m from args = refl
    by (row.Start x) (row.Start y) m from args = refl
    by (row.Havoc j c x) (row.Havoc k d y) m from args = refl
    by (row.Slot c x) (row.Slot d y) m from args = refl
    by row.Cell row.Cell m from args = refl
    by (row.Read a i) (row.Read b j) m from args = ap (λ k. has k.first Arr && has k.second Num) m
    by (row.Write a i d) (row.Write b j e) m from args = ap (λ k. has k.first Arr && (has k.second Num && has k.third Num)) m
    by (row.Neg r) (row.Neg s) m from args = ap (λ k. has k.first Num) m
    by (row.Add p q) (row.Add r s) m from args = ap (λ k. has k.first Num && has k.second Num) m
    by (row.Sub p q) (row.Sub r s) m from args = ap (λ k. has k.first Num && has k.second Num) m
    by (row.Mul p q) (row.Mul r s) m from args = ap (λ k. has k.first Num && has k.second Num) m
    by (row.Fun b x from args) (row.Fun c y names parts) m names_same parts_same = fit_alike sorts trees from.list.items names.list.items args.list.items parts.list.items names_same parts_same
    by t u m from args = absurd (let kinds = ap (λ k. k.kind) m in omega arith)
