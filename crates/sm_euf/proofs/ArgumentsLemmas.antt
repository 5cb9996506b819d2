-- Terms of a table have one head exactly where their trees have, and the arguments of a term's tree
-- are the trees of its arguments.
use Rattle.sm_euf.proofs.Imports.{◌≡◌, ℕ, ◌==◌, ◌+◌, ◌<◌, ◌≤◌, zero, suc, Bool, true, false, ◌&&◌, List, [], ◌∷◌, length, drop, nat_eq, refl, sym, ap, ◌∙◌, arith, Option, Some, None, slice_get, is_none, Name, Sorts, Tree, tree_at, code_at, tree_in, arguments_in, IsTermWithin, AreBefore, TermId, same_code, same_head, same_names, terms_given, arguments_of, same_code_is, BranchFact, equation_at, OptionStands, says_equal, say_equal, argument_numbers, have_one_head, trees_of}
use Rattle.std.specs.Cmp.Lexicographic.{pointwise}
use Rattle.std.proofs.lemmas.Bool.{and_parts}
use Rattle.std.proofs.lemmas.Bool.Decides.{same_from_decides, Decides-eqb}
use Rattle.sm_syntax.specs.claim.Syntax.{Code}
use Rattle.sm_term.specs.declared.term.Term.TheVariants as row
use Rattle.sm_term.specs.declared.term.Term.{Term}
use Rattle.sm_term.specs.TableLaws.{AreCodesApart}
use Rattle.sm_term.specs.Fitting.{arguments_fit, term_fits}
use Rattle.sm_term.specs.Rows.{names_in_list}
use Rattle.sm_term.proofs.TreesLemmas.{before-later}

-- numbers of bodies are equal exactly where the bodies are
codes_tell : (codes : List Code) → AreCodesApart codes → (i j : ℕ) → i < length codes → j < length codes →
    (i == j) ≡ same_code (code_at codes i) (code_at codes j)
codes_tell codes apart i j v w =
    same_from_decides (i == j) (same_code (code_at codes i) (code_at codes j)) (Decides-eqb i j) (
      λ (e : same_code (code_at codes i) (code_at codes j) ≡ true). apart i j v w ((same_code_is (code_at codes i) (code_at codes j)).0 e),
      λ (e : i ≡ j). (same_code_is (code_at codes i) (code_at codes j)).1 (ap (code_at codes) e),
    )

-- names of arguments that fit are the names in the tree
names_tell : (sorts : Sorts) (trees : List Tree) (from names : List Name) (args parts : List TermId) →
    arguments_fit sorts trees from args ≡ true → arguments_fit sorts trees names parts ≡ true →
    pointwise nat_eq (names_in_list from) (names_in_list names) ≡ same_names (arguments_in trees from args) (arguments_in trees names parts)
names_tell sorts trees [] [] args parts f g = refl
names_tell sorts trees [] (y ∷ names) args [] f g = absurd cc
names_tell sorts trees [] (y ∷ names) args (u ∷ parts) f g = refl
names_tell sorts trees (x ∷ from) [] [] parts f g = absurd cc
names_tell sorts trees (x ∷ from) [] (t ∷ args) parts f g = refl
names_tell sorts trees (x ∷ from) (y ∷ names) [] parts f g = absurd cc
names_tell sorts trees (x ∷ from) (y ∷ names) (t ∷ args) [] f g = absurd cc
names_tell sorts trees (x ∷ from) (y ∷ names) (t ∷ args) (u ∷ parts) f g =
    let rest = names_tell sorts trees from names args parts (and_parts _ _ f).1 (and_parts _ _ g).1 in
    ap (λ (b : Bool). (x.0 == y.0) && b) rest

-- terms have one head exactly where their trees have
heads_tell : (sorts : Sorts) (codes : List Code) (trees : List Tree) → AreCodesApart codes → (m n : ℕ) (t u : Term) →
    IsTermWithin sorts (length codes) m t → IsTermWithin sorts (length codes) n u →
    term_fits sorts trees t ≡ true → term_fits sorts trees u ≡ true →
    have_one_head t u ≡ same_head (tree_in codes trees t) (tree_in codes trees u)
heads_tell sorts codes trees apart m n (row.Fun b x from args) (row.Fun c y names parts) v w f g =
    let bodies = codes_tell codes apart b.0 c.0 v.0 w.0 in
    let same = names_tell sorts trees from.list.items names.list.items args.list.items parts.list.items f g in
    ap (λ (e : Bool). e && ((x.0 == y.0) && pointwise nat_eq (names_in_list from.list.items) (names_in_list names.list.items))) bodies
    ∙ ap (λ (e : Bool). same_code (code_at codes b.0) (code_at codes c.0) && ((x.0 == y.0) && e)) same
heads_tell sorts codes trees apart m n (row.Read a i) (row.Read b j) v w f g = refl
heads_tell sorts codes trees apart m n (row.Write a i d) (row.Write b j e) v w f g = refl
heads_tell sorts codes trees apart m n (row.Neg p) (row.Neg q) v w f g = refl
heads_tell sorts codes trees apart m n (row.Add p q) (row.Add r s) v w f g = refl
heads_tell sorts codes trees apart m n (row.Sub p q) (row.Sub r s) v w f g = refl
heads_tell sorts codes trees apart m n (row.Mul p q) (row.Mul r s) v w f g = refl
heads_tell sorts codes trees apart m n t u v w f g = refl

-- terms have one head exactly where the trees that are told to be theirs have
pub trees_have_one_head : (sorts : Sorts) (codes : List Code) (trees : List Tree) → AreCodesApart codes → (m n : ℕ) (t u : Term) →
    IsTermWithin sorts (length codes) m t → IsTermWithin sorts (length codes) n u →
    term_fits sorts trees t ≡ true → term_fits sorts trees u ≡ true →
    (x y : Tree) → tree_in codes trees t ≡ x → tree_in codes trees u ≡ y → have_one_head t u ≡ same_head x y
trees_have_one_head sorts codes trees apart m n t u v w f g x y left right =
    heads_tell sorts codes trees apart m n t u v w f g ∙ ap (λ (z : Tree). same_head z (tree_in codes trees u)) left
    ∙ ap (same_head x) right

-- the terms that arguments give are the trees of the arguments
given_are : (sorts : Sorts) (trees : List Tree) (from : List Name) (args : List TermId) → arguments_fit sorts trees from args ≡ true →
    terms_given (arguments_in trees from args) ≡ trees_of trees args
given_are sorts trees [] [] f = refl
given_are sorts trees [] (t ∷ args) f = absurd cc
given_are sorts trees (x ∷ from) [] f = absurd cc
given_are sorts trees (x ∷ from) (t ∷ args) f =
    let rest = given_are sorts trees from args (and_parts _ _ f).1 in ap (λ (ts : List Tree). tree_at trees t.0 ∷ ts) rest

-- the arguments of a term's tree are the trees of its arguments
pub arguments_are : (sorts : Sorts) (codes : List Code) (trees : List Tree) (t : Term) → term_fits sorts trees t ≡ true →
    arguments_of (tree_in codes trees t) ≡ trees_of trees (argument_numbers t)
arguments_are sorts codes trees (row.Fun b x from args) f = given_are sorts trees from.list.items args.list.items f
arguments_are sorts codes trees t f = refl

-- so facts that say that the arguments of two terms are equal say it of those of their trees
pub say_of_trees : (sorts : Sorts) (codes : List Code) (trees : List Tree) (facts : List BranchFact) (ns : List ℕ) (t u : Term) →
    term_fits sorts trees t ≡ true → term_fits sorts trees u ≡ true →
    (x y : Tree) → tree_in codes trees t ≡ x → tree_in codes trees u ≡ y →
    say_equal facts ns (trees_of trees (argument_numbers t)) (trees_of trees (argument_numbers u))
    ≡ say_equal facts ns (arguments_of x) (arguments_of y)
say_of_trees sorts codes trees facts ns t u f g x y left right =
    let one = sym (arguments_are sorts codes trees t f) ∙ ap arguments_of left in
    let other = sym (arguments_are sorts codes trees u g) ∙ ap arguments_of right in
    ap (λ (ts : List Tree). say_equal facts ns ts (trees_of trees (argument_numbers u))) one
    ∙ ap (say_equal facts ns (arguments_of x)) other

-- the arguments of a term stand before it
pub parts_before : (sorts : Sorts) (bodies m n : ℕ) → m ≤ n → (t : Term) → IsTermWithin sorts bodies m t → AreBefore n (argument_numbers t)
parts_before sorts bodies m n le t v = before-later m n le (argument_numbers t) (by t v)
  where
    by : (t : Term) → IsTermWithin sorts bodies m t → AreBefore m (argument_numbers t)
    by (row.Read a i) v = (v.0, (v.1, tt))
    by (row.Write a i e) v = (v.0, (v.1, (v.2, tt)))
    by (row.Neg t) v = (v, tt)
    by (row.Add t u) v = (v.0, (v.1, tt))
    by (row.Sub t u) v = (v.0, (v.1, tt))
    by (row.Mul t u) v = (v.0, (v.1, tt))
    by (row.Fun b x from args) v = v.3
    by t v = tt

-- what is left of a list, where there is one more
drop_next : {X : Type 0} (xs : List X) (i : ℕ) (x : X) → slice_get xs i ≡ Some x → drop i xs ≡ x ∷ drop (i + 1) xs
drop_next {X = X} xs i x found = let next : i + 1 ≡ suc i = omega arith in rw next (by xs i found)
  where
    by : (xs : List X) (i : ℕ) → slice_get xs i ≡ Some x → drop i xs ≡ x ∷ drop (suc i) xs
    by [] i found = absurd cc
    by (y ∷ xs) zero found = let same : y ≡ x = cc in ap (λ (z : X). z ∷ xs) same
    by (y ∷ xs) (suc i) found = by xs i found

-- nothing is left of a list from a number at which nothing stands
drop_none : {X : Type 0} (xs : List X) (i : ℕ) → slice_get xs i ≡ None → drop i xs ≡ []
drop_none [] zero found = refl
drop_none [] (suc i) found = refl
drop_none (y ∷ xs) zero found = absurd cc
drop_none (y ∷ xs) (suc i) found = drop_none xs i found

-- one fact after the other
pub say_step : (facts : List BranchFact) (trees : List Tree) (ns : List ℕ) (ts us : List TermId) (i n : ℕ) (t u : TermId) →
    slice_get ns i ≡ Some n → slice_get ts i ≡ Some t → slice_get us i ≡ Some u →
    say_equal facts (drop i ns) (trees_of trees (drop i ts)) (trees_of trees (drop i us))
    ≡ (says_equal (equation_at facts n) (tree_at trees t.0) (tree_at trees u.0)
    && say_equal facts (drop (i + 1) ns) (trees_of trees (drop (i + 1) ts)) (trees_of trees (drop (i + 1) us)))
say_step facts trees ns ts us i n t u one two three = rw (drop_next ns i n one, drop_next ts i t two, drop_next us i u three) refl

-- a term with a number is in the list
pub there : (trees : List Tree) (n : ℕ) → n < length trees → slice_get trees n ≡ Some (tree_at trees n)
there [] n h = absurd (omega arith)
there (t ∷ ts) zero h = refl
there (t ∷ ts) (suc n) h = let less : n < length ts = omega arith in there ts n less

-- an argument that is found stands for its tree
pub found_stands : (trees : List Tree) (ts : List TermId) (i : ℕ) → AreBefore (length trees) ts →
    OptionStands (λ (a : TermId) (tree : Tree). slice_get trees a.0 ≡ Some tree) (slice_get ts i) (slice_get (trees_of trees ts) i)
found_stands trees [] i before = tt
found_stands trees (t ∷ ts) zero before = there trees t.0 before.0
found_stands trees (t ∷ ts) (suc i) before = found_stands trees ts i before.1

-- a fact for which there is no argument
pub say_left : (facts : List BranchFact) (trees : List Tree) (ns : List ℕ) (ts us : List TermId) (i n : ℕ) →
    slice_get ns i ≡ Some n → slice_get ts i ≡ None →
    say_equal facts (drop i ns) (trees_of trees (drop i ts)) (trees_of trees (drop i us)) ≡ false
say_left facts trees ns ts us i n one two = rw (drop_next ns i n one, drop_none ts i two) refl

pub say_right : (facts : List BranchFact) (trees : List Tree) (ns : List ℕ) (ts us : List TermId) (i n : ℕ) (t : TermId) →
    slice_get ns i ≡ Some n → slice_get ts i ≡ Some t → slice_get us i ≡ None →
    say_equal facts (drop i ns) (trees_of trees (drop i ts)) (trees_of trees (drop i us)) ≡ false
say_right facts trees ns ts us i n t one two three =
    rw (drop_next ns i n one, drop_next ts i t two, drop_none us i three) refl

-- no fact is left: no argument may be
pub say_end : (facts : List BranchFact) (trees : List Tree) (ns : List ℕ) (ts us : List TermId) (i : ℕ) → slice_get ns i ≡ None →
    say_equal facts (drop i ns) (trees_of trees (drop i ts)) (trees_of trees (drop i us))
    ≡ (is_none (slice_get ts i) && is_none (slice_get us i))
say_end facts trees ns ts us i none = rw (drop_none ns i none) (by (slice_get ts i) refl (slice_get us i) refl)
  where
    by : (o : Option TermId) → slice_get ts i ≡ o → (p : Option TermId) → slice_get us i ≡ p →
        say_equal facts [] (trees_of trees (drop i ts)) (trees_of trees (drop i us)) ≡ (is_none o && is_none p)
    by None f None g = rw (drop_none ts i f, drop_none us i g) refl
    by None f (Some u) g = rw (drop_none ts i f, drop_next us i u g) refl
    by (Some t) f None g = rw (drop_next ts i t f) refl
    by (Some t) f (Some u) g = rw (drop_next ts i t f) refl
