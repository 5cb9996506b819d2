-- The trees of a table's terms: one for each, and what was there stays where more are put behind.
use Rattle.sm_term.proofs.Imports.{◌≡◌, ℕ, zero, suc, pos, ◌<◌, ◌≤◌, true, List, [], ◌∷◌, ◌++◌, length, take, refl, sym, ap, ◌∙◌, subst, arith, get_or_append_left, length-append, append_assoc, Name, Code, End, Sorts, Tree, Arguments, Given, tree_at, arguments_in, tree_in, trees_behind, IsTermWithin, AreBefore, Term, arguments_fit, term_fits, AreTermsSound}
use Rattle.sm_term.specs.declared.term.Term.TheVariants as row
use Rattle.sm_term.specs.Terms as tree
use Rattle.sm_term.specs.Tables.{TermId}

-- as many trees as terms
pub length-trees : (codes : List Code) (older : List Tree) (ts : List Term) → length (trees_behind codes older ts) ≡ length ts
length-trees codes older [] = refl
length-trees codes older (t ∷ ts) = ap suc (length-trees codes (older ++ tree_in codes older t ∷ []) ts)

-- the trees of the first terms are the first trees
pub take-trees : (codes : List Code) (older : List Tree) (ts : List Term) (n : ℕ) → trees_behind codes older (take n ts) ≡ take n (trees_behind codes older ts)
take-trees codes older [] zero = refl
take-trees codes older [] (suc n) = refl
take-trees codes older (t ∷ ts) zero = refl
take-trees codes older (t ∷ ts) (suc n) = ap (λ l. tree_in codes older t ∷ l) (take-trees codes (older ++ tree_in codes older t ∷ []) ts n)

-- the tree of one more term goes last
pub trees-push : (codes : List Code) (older : List Tree) (ts : List Term) (t : Term) → trees_behind codes older (ts ++ t ∷ []) ≡ trees_behind codes older ts ++ tree_in codes (older ++ trees_behind codes older ts) t ∷ []
trees-push codes older [] t = ap (λ l. tree_in codes l t ∷ []) (sym (append-nothing older))
  where
    append-nothing : (l : List Tree) → l ++ [] ≡ l
    append-nothing [] = refl
    append-nothing (x ∷ l) = ap (λ k. x ∷ k) (append-nothing l)
trees-push codes older (u ∷ ts) t =
    let first = tree_in codes older u in
    let next = older ++ first ∷ [] in
    ap (λ l. first ∷ l)
    (trees-push codes next ts t
    ∙ ap (λ l. trees_behind codes next ts ++ tree_in codes l t ∷ []) (append_assoc older (first ∷ []) (trees_behind codes next ts)))

-- a tree that is there is there behind more
pub tree_at-more : (trees more : List Tree) (n : ℕ) → n < length trees → tree_at (trees ++ more) n ≡ tree_at trees n
tree_at-more trees more n h = get_or_append_left trees more (tree.Lit (pos 0)) n h

-- arguments of numbers that are there
arguments-more : (trees more : List Tree) (from : List Name) (args : List TermId) → AreBefore (length trees) args → arguments_in (trees ++ more) from args ≡ arguments_in trees from args
arguments-more trees more [] args w = refl
arguments-more trees more (x ∷ from) [] w = refl
arguments-more trees more (x ∷ from) (t ∷ args) w = rw (tree_at-more trees more t.0 w.0, arguments-more trees more from args w.1) refl

-- the tree of a term stays where more trees are put behind
pub tree_in-more : (sorts : Sorts) (bodies : ℕ) (codes : List Code) (trees more : List Tree) (t : Term) → IsTermWithin sorts bodies (length trees) t → tree_in codes (trees ++ more) t ≡ tree_in codes trees t
tree_in-more sorts bodies codes trees more (row.Lit z) w = refl
tree_in-more sorts bodies codes trees more (row.Start x) w = refl
tree_in-more sorts bodies codes trees more (row.Havoc k c x) w = refl
tree_in-more sorts bodies codes trees more (row.Slot c x) w = refl
tree_in-more sorts bodies codes trees more row.Cell w = refl
tree_in-more sorts bodies codes trees more (row.Read a i) w = rw (tree_at-more trees more a.0 w.0, tree_at-more trees more i.0 w.1) refl
tree_in-more sorts bodies codes trees more (row.Write a i e) w = rw (tree_at-more trees more a.0 w.0, tree_at-more trees more i.0 w.1, tree_at-more trees more e.0 w.2) refl
tree_in-more sorts bodies codes trees more (row.Neg t) w = rw (tree_at-more trees more t.0 w) refl
tree_in-more sorts bodies codes trees more (row.Add t u) w = rw (tree_at-more trees more t.0 w.0, tree_at-more trees more u.0 w.1) refl
tree_in-more sorts bodies codes trees more (row.Sub t u) w = rw (tree_at-more trees more t.0 w.0, tree_at-more trees more u.0 w.1) refl
tree_in-more sorts bodies codes trees more (row.Mul t u) w = rw (tree_at-more trees more t.0 w.0, tree_at-more trees more u.0 w.1) refl
tree_in-more sorts bodies codes trees more (row.Fun b x from args) w = rw (arguments-more trees more from.list.items args.list.items w.3) refl

-- the test of the sorts of arguments says the same where more trees are put behind
arguments_fit-more : (sorts : Sorts) (trees more : List Tree) (from : List Name) (args : List TermId) → AreBefore (length trees) args → arguments_fit sorts (trees ++ more) from args ≡ arguments_fit sorts trees from args
arguments_fit-more sorts trees more [] [] w = refl
arguments_fit-more sorts trees more [] (t ∷ args) w = refl
arguments_fit-more sorts trees more (x ∷ from) [] w = refl
arguments_fit-more sorts trees more (x ∷ from) (t ∷ args) w = rw (tree_at-more trees more t.0 w.0, arguments_fit-more sorts trees more from args w.1) refl

pub fits-more : (sorts : Sorts) (bodies : ℕ) (trees more : List Tree) (t : Term) → IsTermWithin sorts bodies (length trees) t → term_fits sorts (trees ++ more) t ≡ term_fits sorts trees t
fits-more sorts bodies trees more (row.Lit z) w = refl
fits-more sorts bodies trees more (row.Start x) w = refl
fits-more sorts bodies trees more (row.Havoc k c x) w = refl
fits-more sorts bodies trees more (row.Slot c x) w = refl
fits-more sorts bodies trees more row.Cell w = refl
fits-more sorts bodies trees more (row.Read a i) w = rw (tree_at-more trees more a.0 w.0, tree_at-more trees more i.0 w.1) refl
fits-more sorts bodies trees more (row.Write a i e) w = rw (tree_at-more trees more a.0 w.0, tree_at-more trees more i.0 w.1, tree_at-more trees more e.0 w.2) refl
fits-more sorts bodies trees more (row.Neg t) w = rw (tree_at-more trees more t.0 w) refl
fits-more sorts bodies trees more (row.Add t u) w = rw (tree_at-more trees more t.0 w.0, tree_at-more trees more u.0 w.1) refl
fits-more sorts bodies trees more (row.Sub t u) w = rw (tree_at-more trees more t.0 w.0, tree_at-more trees more u.0 w.1) refl
fits-more sorts bodies trees more (row.Mul t u) w = rw (tree_at-more trees more t.0 w.0, tree_at-more trees more u.0 w.1) refl
fits-more sorts bodies trees more (row.Fun b x from args) w = arguments_fit-more sorts trees more from.list.items args.list.items w.3

-- numbers before a place stand before each later one
pub before-later : (m n : ℕ) → m ≤ n → (args : List TermId) → AreBefore m args → AreBefore n args
before-later m n h [] w = tt
before-later m n h (t ∷ args) w = (omega arith, before-later m n h args w.1)

pub within-later : (sorts : Sorts) (b c m n : ℕ) → b ≤ c → m ≤ n → (t : Term) → IsTermWithin sorts b m t → IsTermWithin sorts c n t
within-later sorts b c m n g h (row.Lit z) w = tt
within-later sorts b c m n g h (row.Start x) w = w
within-later sorts b c m n g h (row.Havoc k d x) w = w
within-later sorts b c m n g h (row.Slot d x) w = w
within-later sorts b c m n g h row.Cell w = tt
within-later sorts b c m n g h (row.Read a i) w = (omega arith, omega arith)
within-later sorts b c m n g h (row.Write a i e) w = (omega arith, omega arith, omega arith)
within-later sorts b c m n g h (row.Neg t) w = omega arith
within-later sorts b c m n g h (row.Add t u) w = (omega arith, omega arith)
within-later sorts b c m n g h (row.Sub t u) w = (omega arith, omega arith)
within-later sorts b c m n g h (row.Mul t u) w = (omega arith, omega arith)
within-later sorts b c m n g h (row.Fun body x from args) w = (omega arith, w.1, w.2, before-later m n h args.list.items w.3)

-- the tree of a term stays where more bodies are put behind
pub tree_in-codes : (sorts : Sorts) (n : ℕ) (codes more : List Code) (trees : List Tree) (t : Term) → IsTermWithin sorts (length codes) n t → tree_in (codes ++ more) trees t ≡ tree_in codes trees t
tree_in-codes sorts n codes more trees (row.Lit z) w = refl
tree_in-codes sorts n codes more trees (row.Start x) w = refl
tree_in-codes sorts n codes more trees (row.Havoc k c x) w = refl
tree_in-codes sorts n codes more trees (row.Slot c x) w = refl
tree_in-codes sorts n codes more trees row.Cell w = refl
tree_in-codes sorts n codes more trees (row.Read a i) w = refl
tree_in-codes sorts n codes more trees (row.Write a i e) w = refl
tree_in-codes sorts n codes more trees (row.Neg t) w = refl
tree_in-codes sorts n codes more trees (row.Add t u) w = refl
tree_in-codes sorts n codes more trees (row.Sub t u) w = refl
tree_in-codes sorts n codes more trees (row.Mul t u) w = refl
tree_in-codes sorts n codes more trees (row.Fun b x from args) w =
    ap (λ c. tree.Fun c x.0 (arguments_in trees from.list.items args.list.items)) (get_or_append_left codes more End b.0 w.0)

-- so the trees of sound terms stay, and the terms are sound
pub trees-codes : (sorts : Sorts) (codes more : List Code) (older : List Tree) (ts : List Term) → AreTermsSound sorts codes older ts → trees_behind (codes ++ more) older ts ≡ trees_behind codes older ts
trees-codes sorts codes more older [] s = refl
trees-codes sorts codes more older (t ∷ ts) s =
    let here = tree_in-codes sorts (length older) codes more older t s.0 in
    rw (here, trees-codes sorts codes more (older ++ tree_in codes older t ∷ []) ts s.2) refl

pub sound-codes : (sorts : Sorts) (codes more : List Code) (older : List Tree) (ts : List Term) → AreTermsSound sorts codes older ts → AreTermsSound sorts (codes ++ more) older ts
sound-codes sorts codes more older [] s = tt
sound-codes sorts codes more older (t ∷ ts) s =
    let here = tree_in-codes sorts (length older) codes more older t s.0 in
    let long = length-append codes more in (
      within-later sorts (length codes) (length (codes ++ more)) (length older) (length older) (omega arith) (omega arith) t s.0,
      s.1,
      subst (λ u. AreTermsSound sorts (codes ++ more) (older ++ u ∷ []) ts) (sym here) (sound-codes sorts codes more (older ++ tree_in codes older t ∷ []) ts s.2),
    )

-- the first terms are sound
pub sound-take : (sorts : Sorts) (codes : List Code) (older : List Tree) (ts : List Term) (n : ℕ) → AreTermsSound sorts codes older ts → AreTermsSound sorts codes older (take n ts)
sound-take sorts codes older [] zero s = tt
sound-take sorts codes older [] (suc n) s = tt
sound-take sorts codes older (t ∷ ts) zero s = tt
sound-take sorts codes older (t ∷ ts) (suc n) s = (s.0, s.1, sound-take sorts codes (older ++ tree_in codes older t ∷ []) ts n s.2)

-- one more term that fits
pub sound-push :
    (sorts : Sorts) (codes : List Code) (older : List Tree) (ts : List Term) (t : Term) → AreTermsSound sorts codes older ts
    → IsTermWithin sorts (length codes) (length (older ++ trees_behind codes older ts)) t → term_fits sorts (older ++ trees_behind codes older ts) t ≡ true → AreTermsSound sorts codes older (ts ++ t ∷ [])
sound-push sorts codes older [] t s w f =
    let none = append-nothing older in
    (subst (λ l. IsTermWithin sorts (length codes) (length l) t) none w, subst (λ l. term_fits sorts l t ≡ true) none f, tt)
  where
    append-nothing : (l : List Tree) → l ++ [] ≡ l
    append-nothing [] = refl
    append-nothing (x ∷ l) = ap (λ k. x ∷ k) (append-nothing l)
sound-push sorts codes older (u ∷ ts) t s w f =
    let first = tree_in codes older u in
    let next = older ++ first ∷ [] in
    let joined = sym (append_assoc older (first ∷ []) (trees_behind codes next ts)) in
    (s.0, s.1, sound-push sorts codes next ts t s.2 (subst (λ l. IsTermWithin sorts (length codes) (length l) t) joined w) (subst (λ l. term_fits sorts l t ≡ true) joined f))
