-- Terms that lines tell by names and terms.
use Rattle.sm_check.proofs.Imports.{◌≡◌, ℕ, ◌<◌, ◌≤◌, nat_lt, Bool, true, false, ◌&&◌, if◌then◌else◌, Option, Some, None, Result, Ok, Err, List, refl, sym, ap, ◌∙◌, subst, arith, same_Some, slice_get-map, copy_of, Name, Sorts, Num, Arr, IsDeclaredIn, Code, AreBefore, IsTermWithin, tree_at, tree_in, TermId, Tree, part_before, followed, TermLine, found_or, tested_or, Word, BadNumber, First, Pending, is_of, of_name, term_made, with_tree, is_new, name_in, new_term, pair_of, terms_in}
use Rattle.std.proofs.Common.{slice_get}
use Rattle.std.specs.Option.{option_map}
use Rattle.sm_term.specs.declared.term.Term.TheVariants as row
use Rattle.sm_term.specs.Fitting.{term_fits}
use Rattle.sm_term.specs.declared.term.Term.{Term}
use Rattle.sm_term.specs.Terms as tree
use Rattle.sm_proof.specs.declared.line.TermLine.TheVariants as line
use Rattle.sm_proof.specs.declared.word.Head.TheVariants as head
use Rattle.sm_proof.specs.FieldRanges.{IsTermLineWithin}
use Rattle.sm_check.specs.Walks.{AreNumbered}

abbrev the_name : ℕ → Name
the_name x = record { 0 = x }

module _ (sorts : Sorts) (codes : List Code) (trees : List Tree) where
  -- what is told of a term that is put, or that what it names is missing
  abbrev pub found_in : Option Term → Result Tree Word
  found_in None = Err BadNumber
  found_in (Some t) = tested_or (term_fits sorts trees t) (First head.T) (Ok (tree_in codes trees t))

  abbrev tree_of : TermId → Tree
  tree_of t = tree_at trees t.0

  one : (o : Option TermId) (f : TermId → Term) (next : Tree → Result Tree Word) → ((a : TermId) → next (tree_of a) ≡ found_in (Some (f a))) →
      found_or (option_map tree_of o) BadNumber next ≡ found_in (followed o (λ (a : TermId). Some (f a)))
  one None f next h = refl
  one (Some a) f next h = h a

  two : (o p : Option TermId) (f : TermId → TermId → Term) (next : Tree → Tree → Result Tree Word) →
      ((a b : TermId) → next (tree_of a) (tree_of b) ≡ found_in (Some (f a b))) →
      found_or (option_map tree_of o) BadNumber (λ (a : Tree). found_or (option_map tree_of p) BadNumber (next a))
      ≡ found_in (followed (pair_of o p) (λ (q : TermId × TermId). Some (f q.0 q.1)))
  two None p f next h = refl
  two (Some a) None f next h = refl
  two (Some a) (Some b) f next h = h a b

  module _ (terms : List TermId) where
    abbrev known : List Tree
    known = terms_in trees terms

    named : (n : ℕ) → slice_get known n ≡ option_map tree_of (slice_get terms n)
    named n = slice_get-map tree_of terms n

    of_one : (t : ℕ) (f : TermId → Term) (next : Tree → Result Tree Word) → ((a : TermId) → next (tree_of a) ≡ found_in (Some (f a))) →
        with_tree known t next ≡ found_in (followed (slice_get terms t) (λ (a : TermId). Some (f a)))
    of_one t f next h = ap (λ (o : Option Tree). found_or o BadNumber next) (named t) ∙ one (slice_get terms t) f next h

    of_pair : (t u : ℕ) (f : TermId → TermId → Term) (next : Tree → Tree → Result Tree Word) →
        ((a b : TermId) → next (tree_of a) (tree_of b) ≡ found_in (Some (f a b))) →
        with_tree known t (λ (a : Tree). with_tree known u (next a))
        ≡ found_in (followed (pair_of (slice_get terms t) (slice_get terms u)) (λ (q : TermId × TermId). Some (f q.0 q.1)))
    of_pair t u f next h =
        ap (λ (o : Option Tree). found_or o BadNumber (λ (a : Tree). with_tree known u (next a))) (named t)
        ∙ (ap (λ (o : Option Tree). found_or (option_map tree_of (slice_get terms t)) BadNumber (λ (a : Tree). found_or o BadNumber (next a))) (named u)
        ∙ two (slice_get terms t) (slice_get terms u) f next h)

    of_three : (t u v : ℕ) (f : TermId → TermId → TermId → Term) (next : Tree → Tree → Tree → Result Tree Word) →
        ((a b d : TermId) → next (tree_of a) (tree_of b) (tree_of d) ≡ found_in (Some (f a b d))) →
        with_tree known t (λ (a : Tree). with_tree known u (λ (b : Tree). with_tree known v (next a b)))
        ≡ found_in
        (followed (slice_get terms t)
        (λ (a : TermId). followed (pair_of (slice_get terms u) (slice_get terms v)) (λ (q : TermId × TermId). Some (f a q.0 q.1))))
    of_three t u v f next h =
        ap (λ (o : Option Tree). found_or o BadNumber (λ (a : Tree). with_tree known u (λ (b : Tree). with_tree known v (next a b)))) (named t)
        ∙ go (slice_get terms t)
      where
        go : (o : Option TermId) →
            found_or (option_map tree_of o) BadNumber (λ (a : Tree). with_tree known u (λ (b : Tree). with_tree known v (next a b)))
            ≡ found_in
            (followed o
            (λ (a : TermId). followed (pair_of (slice_get terms u) (slice_get terms v)) (λ (q : TermId × TermId). Some (f a q.0 q.1))))
        go None = refl
        go (Some a) = of_pair u v (f a) (next (tree_of a)) (h a)

    module _ (declared : ℕ) (numbered : AreNumbered sorts declared) where
      of_declared : (x : ℕ) (f : Name → Term) (t : Tree) → found_in (Some (f (the_name x))) ≡ Ok t →
          of_name sorts x t ≡ found_in (followed (name_in declared x) (λ (n : Name). Some (f n)))
      of_declared x f t h = ap (λ (b : Bool). tested_or b BadNumber (Ok t)) (numbered.each x) ∙ go (nat_lt x declared)
        where
          go : (b : Bool) → tested_or b BadNumber (Ok t) ≡ found_in (followed (if b then Some (the_name x) else None) (λ (n : Name). Some (f n)))
          go true = sym h
          go false = refl

      -- a line that tells its term by names and terms makes that term
      pub new_made : (due : Pending) (l : TermLine) → is_new l ≡ true → term_made sorts known due l ≡ found_in (new_term declared terms l)
      new_made due (line.Lit z) k = refl
      new_made due (line.Start x) k = of_declared x row.Start (tree.Start x) refl
      new_made due line.Cell k = refl
      new_made due (line.Slot c x) k = of_declared x (row.Slot c) (tree.Slot (copy_of c) x) refl
      new_made due (line.Cur c x) k = absurd cc
      new_made due (line.Of n side) k = absurd cc
      new_made due (line.Arg t j) k = absurd cc
      new_made due (line.Read t u) k =
          of_pair t u row.Read (λ (a i : Tree). tested_or (is_of sorts Arr a && is_of sorts Num i) (First head.T) (Ok (tree.Read a i))) (λ a b. refl)
      new_made due (line.Write t u v) k =
          of_three t u v row.Write
          (λ (a i e : Tree). tested_or (is_of sorts Arr a && (is_of sorts Num i && is_of sorts Num e)) (First head.T) (Ok (tree.Write a i e)))
          (λ a b d. refl)
      new_made due (line.Neg t) k = of_one t row.Neg (λ (a : Tree). tested_or (is_of sorts Num a) (First head.T) (Ok (tree.Neg a))) (λ a. refl)
      new_made due (line.Add t u) k =
          of_pair t u row.Add (λ (a b : Tree). tested_or (is_of sorts Num a && is_of sorts Num b) (First head.T) (Ok (tree.Add a b))) (λ a b. refl)
      new_made due (line.Sub t u) k =
          of_pair t u row.Sub (λ (a b : Tree). tested_or (is_of sorts Num a && is_of sorts Num b) (First head.T) (Ok (tree.Sub a b))) (λ a b. refl)
      new_made due (line.Mul t u) k =
          of_pair t u row.Mul (λ (a b : Tree). tested_or (is_of sorts Num a && is_of sorts Num b) (First head.T) (Ok (tree.Mul a b))) (λ a b. refl)

module _ (sorts : Sorts) (bodies count declared : ℕ) (numbered : AreNumbered sorts declared) (terms : List TermId) (all : AreBefore count terms) where
  abbrev Within : Term → Type 0
  Within t = IsTermWithin sorts bodies count t

  one_in : (o : Option TermId) (f : TermId → Term) → ((a : TermId) → o ≡ Some a → Within (f a)) → (t : Term) →
      followed o (λ (a : TermId). Some (f a)) ≡ Some t → Within t
  one_in None f h t e = absurd cc
  one_in (Some a) f h t e = subst Within (same_Some (f a) t e) (h a refl)

  two_in : (o p : Option TermId) (f : TermId → TermId → Term) → ((a b : TermId) → o ≡ Some a → p ≡ Some b → Within (f a b)) → (t : Term) →
      followed (pair_of o p) (λ (q : TermId × TermId). Some (f q.0 q.1)) ≡ Some t → Within t
  two_in None p f h t e = absurd cc
  two_in (Some a) None f h t e = absurd cc
  two_in (Some a) (Some b) f h t e = subst Within (same_Some (f a b) t e) (h a b refl refl)

  three_in : (o p q : Option TermId) (f : TermId → TermId → TermId → Term) →
      ((a b d : TermId) → o ≡ Some a → p ≡ Some b → q ≡ Some d → Within (f a b d)) → (t : Term) →
      followed o (λ (a : TermId). followed (pair_of p q) (λ (r : TermId × TermId). Some (f a r.0 r.1))) ≡ Some t → Within t
  three_in None p q f h t e = absurd cc
  three_in (Some a) p q f h t e = two_in p q (f a) (λ b d x y. h a b d refl x y) t e

  at : (n : ℕ) (a : TermId) → slice_get terms n ≡ Some a → a.0 < count
  at n a e = part_before count terms n a all e

  declared_in : (x : ℕ) (f : Name → Term) → (IsDeclaredIn sorts x → Within (f (the_name x))) → (t : Term) →
      followed (name_in declared x) (λ (n : Name). Some (f n)) ≡ Some t → Within t
  declared_in x f h t e = go (nat_lt x declared) refl e
    where
      go : (b : Bool) → nat_lt x declared ≡ b → followed (if b then Some (the_name x) else None) (λ (n : Name). Some (f n)) ≡ Some t → Within t
      go true is e = subst Within (same_Some (f (the_name x)) t e) (h (numbered.each x ∙ is))
      go false is e = absurd cc

  -- its names are declared, and its parts are in the table
  pub new_within : (l : TermLine) (t : Term) → IsTermLineWithin l → new_term declared terms l ≡ Some t → Within t
  new_within (line.Lit z) t w e = subst Within (same_Some (row.Lit z) t e) tt
  new_within (line.Start x) t w e = declared_in x row.Start (λ d. d) t e
  new_within line.Cell t w e = subst Within (same_Some row.Cell t e) tt
  new_within (line.Slot c x) t w e =
      let few : c ≤ 3 = w.0 in
      let less : c < 4 = omega arith in
      declared_in x (row.Slot c) (λ d. (less, d)) t e
  new_within (line.Cur c x) t w e = absurd cc
  new_within (line.Of n side) t w e = absurd cc
  new_within (line.Arg n j) t w e = absurd cc
  new_within (line.Read m n) t w e = two_in (slice_get terms m) (slice_get terms n) row.Read (λ a b x y. (at m a x, at n b y)) t e
  new_within (line.Write m n k) t w e =
      three_in (slice_get terms m) (slice_get terms n) (slice_get terms k) row.Write (λ a b d x y z. (at m a x, at n b y, at k d z)) t e
  new_within (line.Neg n) t w e = one_in (slice_get terms n) row.Neg (λ a x. at n a x) t e
  new_within (line.Add m n) t w e = two_in (slice_get terms m) (slice_get terms n) row.Add (λ a b x y. (at m a x, at n b y)) t e
  new_within (line.Sub m n) t w e = two_in (slice_get terms m) (slice_get terms n) row.Sub (λ a b x y. (at m a x, at n b y)) t e
  new_within (line.Mul m n) t w e = two_in (slice_get terms m) (slice_get terms n) row.Mul (λ a b x y. (at m a x, at n b y)) t e
