-- The terms that a walk has are terms of its branch, where the facts and the goal are sorted.
use Rattle.sm_houdini.proofs.Imports.{◌≡◌, ℕ, zero, suc, Bool, true, false, ◌||◌, if◌then◌else◌, List, [], ◌∷◌, ◌++◌, refl, sym, subst, list_any, Sorts, Tree, Lit, Start, Havoc, Slot, Cell, Read, Neg, Add, Sub, Mul, Fun, Arguments, Given, Assertion, Yes, No, Eq, Ne, Le, Lt, And, Or, negate, terms_given, same_tree, IsSorted, AreArgumentsSorted, IsFormSorted, AreFormsSorted, Each, each_append, terms_walked, greatest_of, depth_of, parts_of_all, taken_apart, with_parts, read_before, put_if, with_reads, with_all_reads, writes_on, terms_of, IsOneOf, HasTerms, IsTermOf, EachOf, EachSide, AllSides, PassesTest, sides_append}
use Rattle.std.proofs.Common.{Option, Some, None, map}
use Rattle.sm_term.specs.Terms.{Write, Over}
use Rattle.sm_term.proofs.SameTermsLemmas.{same_tree_is}
use Rattle.sm_theory.specs.TermsOfFormulas.{put, with_term, with_arguments, with_formula, with_formulas}
use Rattle.sm_list.specs.Branches.{parts_of}
use Rattle.sm_term.proofs.SortedForms.{forms_append, negate_sorted}

-- what holds of each of a list holds of one of them
one_of : (P : Tree → Type 0) (ts : List Tree) (t : Tree) → Each P ts → IsOneOf ts t → P t
one_of P [] t all h = absurd cc
one_of P (u ∷ us) t all h = by (same_tree t u) refl h (one_of P us t all.1)
  where
    by : (b : Bool) → same_tree t u ≡ b → (b || list_any (same_tree t) us) ≡ true → (IsOneOf us t → P t) → P t
    by true e g later = subst P (sym ((same_tree_is t u).0 e)) all.0
    by false e g later = later g

each_put : (P : Tree → Type 0) (t : Tree) (seen : List Tree) → P t → Each P seen → Each P (put t seen)
each_put P t seen h all = by (list_any (same_tree t) seen)
  where
    by : (b : Bool) → Each P (if b then seen else seen ++ t ∷ [])
    by true = all
    by false = each_append P seen (t ∷ []) all (h, tt)

module _ (sorts : Sorts) (formulas : List Assertion) (test : Tree → Bool) (has : HasTerms sorts formulas test) where
  -- a sorted term that passes the test
  abbrev Fits : Tree → Type 0
  Fits t = IsSorted sorts t × PassesTest test t

  mutual
    term_fits : (t : Tree) (seen : List Tree) → Fits t → Each Fits seen → Each Fits (with_term t seen)
    term_fits (Lit z) seen h all = each_put Fits (Lit z) seen h all
    term_fits (Start x) seen h all = each_put Fits (Start x) seen h all
    term_fits (Havoc k c x) seen h all = each_put Fits (Havoc k c x) seen h all
    term_fits (Slot c x) seen h all = each_put Fits (Slot c x) seen h all
    term_fits Cell seen h all = each_put Fits Cell seen h all
    term_fits (Read a i) seen h all =
        let args = has.arguments (Read a i) h.1 in
        each_put Fits (Read a i) (with_term i (with_term a seen)) h
        (term_fits i (with_term a seen) (h.0.2, args.1.0) (term_fits a seen (h.0.0, args.0) all))
    term_fits (Write a i e) seen h all =
        let args = has.arguments (Write a i e) h.1 in
        each_put Fits (Write a i e) (with_term e (with_term i (with_term a seen))) h
        (term_fits e (with_term i (with_term a seen)) (h.0.4, args.1.1.0)
        (term_fits i (with_term a seen) (h.0.2, args.1.0) (term_fits a seen (h.0.0, args.0) all)))
    term_fits (Neg t) seen h all =
        each_put Fits (Neg t) (with_term t seen) h (term_fits t seen (h.0.0, (has.arguments (Neg t) h.1).0) all)
    term_fits (Add t u) seen h all =
        let args = has.arguments (Add t u) h.1 in
        each_put Fits (Add t u) (with_term u (with_term t seen)) h
        (term_fits u (with_term t seen) (h.0.2, args.1.0) (term_fits t seen (h.0.0, args.0) all))
    term_fits (Sub t u) seen h all =
        let args = has.arguments (Sub t u) h.1 in
        each_put Fits (Sub t u) (with_term u (with_term t seen)) h
        (term_fits u (with_term t seen) (h.0.2, args.1.0) (term_fits t seen (h.0.0, args.0) all))
    term_fits (Mul t u) seen h all =
        let args = has.arguments (Mul t u) h.1 in
        each_put Fits (Mul t u) (with_term u (with_term t seen)) h
        (term_fits u (with_term t seen) (h.0.2, args.1.0) (term_fits t seen (h.0.0, args.0) all))
    term_fits (Fun c x args) seen h all =
        each_put Fits (Fun c x args) (with_arguments args seen) h
        (arguments_fit args seen h.0.2 (has.arguments (Fun c x args) h.1) all)

    arguments_fit : (args : Arguments) (seen : List Tree) → AreArgumentsSorted sorts args → EachOf (PassesTest test) (terms_given args) →
        Each Fits seen → Each Fits (with_arguments args seen)
    arguments_fit Over seen sorted pass all = all
    arguments_fit (Given x t rest) seen sorted pass all =
        arguments_fit rest (with_term t seen) sorted.2 pass.1 (term_fits t seen (sorted.1, pass.0) all)

  -- the terms that formulas compare
  formula_fits : (f : Assertion) (seen : List Tree) → EachSide Fits f → Each Fits seen → Each Fits (with_formula f seen)
  formula_fits Yes seen h all = all
  formula_fits No seen h all = all
  formula_fits (Eq sort t u) seen h all = term_fits u (with_term t seen) h.1 (term_fits t seen h.0 all)
  formula_fits (Ne sort t u) seen h all = term_fits u (with_term t seen) h.1 (term_fits t seen h.0 all)
  formula_fits (Le t u) seen h all = term_fits u (with_term t seen) h.1 (term_fits t seen h.0 all)
  formula_fits (Lt t u) seen h all = term_fits u (with_term t seen) h.1 (term_fits t seen h.0 all)
  formula_fits (And p q) seen h all = formula_fits q (with_formula p seen) h.1 (formula_fits p seen h.0 all)
  formula_fits (Or p q) seen h all = formula_fits q (with_formula p seen) h.1 (formula_fits p seen h.0 all)

  formulas_fit : (fs : List Assertion) (seen : List Tree) → AllSides Fits fs → Each Fits seen → Each Fits (with_formulas fs seen)
  formulas_fit [] seen h all = all
  formulas_fit (f ∷ fs) seen h all = formulas_fit fs (with_formula f seen) h.1 (formula_fits f seen h.0 all)

  -- what is read of a written array, before the write
  before_fits : (t r : Tree) → read_before t ≡ Some r → Fits t → Fits r
  before_fits (Read (Write a i e) j) r h fits =
      let same : Read a j ≡ r = cc in
      let written = fits.0.0 in
      subst Fits same ((written.0, written.1, fits.0.2, fits.0.3), has.reads a i e j fits.1 written.1 fits.0.3)
  before_fits t r h fits = absurd cc

  reads_fit : (ts seen : List Tree) → Each Fits ts → Each Fits seen → Each Fits (with_reads ts seen)
  reads_fit [] seen h all = all
  reads_fit (t ∷ ts) seen h all = reads_fit ts (put_if (read_before t) seen) h.1 (by (read_before t) refl)
    where
      by : (o : Option Tree) → read_before t ≡ o → Each Fits (put_if o seen)
      by None e = all
      by (Some r) e = each_put Fits r seen (before_fits t r e h.0) all

  all_reads_fit : (n : ℕ) (seen : List Tree) → Each Fits seen → Each Fits (with_all_reads n seen)
  all_reads_fit zero seen all = all
  all_reads_fit (suc n) seen all = all_reads_fit n (with_reads seen seen) (reads_fit seen seen all all)

  -- formulas with the parts of their conjunctions
  parts_fit : (f : Assertion) → EachSide Fits f → AllSides Fits (parts_of f)
  parts_fit Yes h = tt
  parts_fit No h = tt
  parts_fit (Eq sort t u) h = tt
  parts_fit (Ne sort t u) h = tt
  parts_fit (Le t u) h = tt
  parts_fit (Lt t u) h = tt
  parts_fit (And p q) h = (h.0, (h.1, tt))
  parts_fit (Or p q) h = tt

  all_parts_fit : (fs : List Assertion) → AllSides Fits fs → AllSides Fits (parts_of_all fs)
  all_parts_fit [] h = tt
  all_parts_fit (f ∷ fs) h = sides_append Fits (parts_of f) (parts_of_all fs) (parts_fit f h.0) (all_parts_fit fs h.1)

  apart_fit : (n : ℕ) (fs : List Assertion) → AllSides Fits fs → AllSides Fits (taken_apart n fs)
  apart_fit zero fs h = h
  apart_fit (suc n) fs h =
      sides_append Fits fs (taken_apart n (parts_of_all fs)) h (apart_fit n (parts_of_all fs) (all_parts_fit fs h))

  -- sorted formulas whose terms pass
  side_fits : (f : Assertion) → IsFormSorted sorts f → EachSide (PassesTest test) f → EachSide Fits f
  side_fits Yes b p = tt
  side_fits No b p = tt
  side_fits (Eq sort t u) b p = ((b.0.0, p.0), (b.1.0, p.1))
  side_fits (Ne sort t u) b p = ((b.0.0, p.0), (b.1.0, p.1))
  side_fits (Le t u) b p = ((b.0.0, p.0), (b.1.0, p.1))
  side_fits (Lt t u) b p = ((b.0.0, p.0), (b.1.0, p.1))
  side_fits (And f g) b p = (side_fits f b.0 p.0, side_fits g b.1 p.1)
  side_fits (Or f g) b p = (side_fits f b.0 p.0, side_fits g b.1 p.1)

  sides_fit : (fs : List Assertion) → AreFormsSorted sorts fs → AllSides (PassesTest test) fs → AllSides Fits fs
  sides_fit [] b p = tt
  sides_fit (f ∷ fs) b p = (side_fits f b.0 p.0, sides_fit fs b.1 p.1)

  each_fits : (fs : List Assertion) → AllSides Fits fs → Each Fits (terms_of fs)
  each_fits fs h =
      let seen = with_formulas fs [] in all_reads_fit (greatest_of (map writes_on seen)) seen (formulas_fit fs [] h tt)

  one_passes : AreFormsSorted sorts formulas → (t : Tree) → IsOneOf (terms_of (with_parts formulas)) t → PassesTest test t
  one_passes sorted t one =
      (one_of Fits (terms_of (with_parts formulas)) t
      (each_fits (with_parts formulas) (apart_fit (greatest_of (map depth_of formulas)) formulas (sides_fit formulas sorted has.sides))) one).1

-- a term of the walk is a term of the branch
pub walked_terms : (sorts : Sorts) (facts : List Assertion) (goal : Assertion) → AreFormsSorted sorts facts → IsFormSorted sorts goal →
    (t : Tree) → IsOneOf (terms_walked facts goal) t → IsTermOf sorts (facts ++ negate goal ∷ []) t
walked_terms sorts facts goal known asked t one test has =
    let formulas = facts ++ negate goal ∷ [] in
    one_passes sorts formulas test has (forms_append sorts facts (negate goal ∷ []) known (negate_sorted sorts goal asked, tt)) t one
