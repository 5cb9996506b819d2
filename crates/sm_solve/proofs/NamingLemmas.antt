-- The terms of a walk: those of its formulas stand in front, and what a split adds names no others.
use Rattle.sm_solve.proofs.Imports.{◌≡◌, ℕ, zero, suc, Bool, true, false, ◌||◌, not, if◌then◌else◌, Option, None, List, [], ◌∷◌, ◌++◌, map, refl, sym, ap, subst, ◌∙◌, AllByRecursion, Sorts, Num, Tree, Read, Write, arguments_of, Assertion, numbered, assertion_in, same_sort, or_other, put, is_among, with_formulas, all_terms, AllAmong, IsClosed, put_there, put_new, closed_none, closed_with_formulas, greatest_of, writes_on, depth_of, with_parts, put_if, read_before, with_reads, with_all_reads, terms_of, FormulaAmong, FormulasAmong, formulas_among, BranchSplit, Seen, is_fact, is_held, first_of, index_split, part_split, order_split, split_of, split_told, seen_by, AreNamed, NamesNoMore, NameNoMore, with_formulas-append, same_with_formulas}
use Rattle.std.proofs.Common.{Some}
use Rattle.sm_syntax.specs.declared.tree.Sort.{Sort}
use Rattle.sm_term.specs.Assertions.{Yes, No, Eq, Ne, Le, Lt, And, Or}
use Rattle.sm_list.proofs.ReadsLemmas.{all_themselves}
use Rattle.sm_judge.specs.Holding.{Split}
use Rattle.sm_solve.proofs.NodeLemmas.{those_behind, apart_among}

-- the arguments of each term are among others
abbrev HaveArguments : List Tree → List Tree → Type 0
HaveArguments first ts = AllByRecursion (λ (t : Tree). AllAmong first (arguments_of t)) ts

have-append : (first ts us : List Tree) → HaveArguments first ts → HaveArguments first us → HaveArguments first (ts ++ us)
have-append first [] us h k = k
have-append first (t ∷ ts) us h k = (h.0, have-append first ts us h.1 k)

have_put : (first seen : List Tree) (t : Tree) → HaveArguments first seen → AllAmong first (arguments_of t) → HaveArguments first (put t seen)
have_put first seen t h args = by (is_among seen t) refl
  where
    by : (b : Bool) → is_among seen t ≡ b → HaveArguments first (put t seen)
    by true e = subst (HaveArguments first) (sym (put_there t seen e)) h
    by false e = subst (HaveArguments first) (sym (put_new t seen e)) (have-append first seen (t ∷ []) h (args, tt))

-- what is read before a write is of what was written, at the index of the read
before_arguments : (first : List Tree) → IsClosed first → (t r : Tree) → AllAmong first (arguments_of t) → read_before t ≡ Some r →
    AllAmong first (arguments_of r)
before_arguments first closed (Read (Write a j e) i) r h is =
    let same : Read a i ≡ r = cc in
    let inner = closed (Write a j e) h.0 in
    subst (λ (u : Tree). AllAmong first (arguments_of u)) same (inner.0, (h.1.0, tt))
before_arguments first closed t r h is = absurd cc

have_put_if : (first : List Tree) → IsClosed first → (seen : List Tree) (t : Tree) → AllAmong first (arguments_of t) →
    HaveArguments first seen → HaveArguments first (put_if (read_before t) seen)
have_put_if first closed seen t args h = by (read_before t) refl
  where
    by : (o : Option Tree) → read_before t ≡ o → HaveArguments first (put_if o seen)
    by None e = h
    by (Some r) e = have_put first seen r h (before_arguments first closed t r args e)

have_reads : (first : List Tree) → IsClosed first → (ts seen : List Tree) → HaveArguments first ts → HaveArguments first seen →
    HaveArguments first (with_reads ts seen)
have_reads first closed [] seen all h = h
have_reads first closed (t ∷ ts) seen all h =
    have_reads first closed ts (put_if (read_before t) seen) all.1 (have_put_if first closed seen t all.0 h)

have_all_reads : (first : List Tree) → IsClosed first → (n : ℕ) (seen : List Tree) → HaveArguments first seen →
    HaveArguments first (with_all_reads n seen)
have_all_reads first closed zero seen h = h
have_all_reads first closed (suc n) seen h = have_all_reads first closed n (with_reads seen seen) (have_reads first closed seen seen h h)

-- terms with all their arguments
have_closed : (first ts : List Tree) → IsClosed first → AllAmong first ts → HaveArguments first ts
have_closed first [] closed h = tt
have_closed first (t ∷ ts) closed h = (closed t h.0, have_closed first ts closed h.1)

-- the terms of formulas
closed_terms : (fs : List Assertion) → IsClosed (all_terms fs)
closed_terms fs = closed_with_formulas fs [] closed_none

-- those with what elements were before are named
named_terms : (fs : List Assertion) → AreNamed (terms_of fs) fs
named_terms fs =
    let seen = all_terms fs in
    let behind = those_behind seen in
    record {
      more = behind.0;
      front = behind.1;
      arguments =
          have_all_reads seen (closed_terms fs) (greatest_of (map writes_on seen)) seen
          (have_closed seen seen (closed_terms fs) (all_themselves seen));
    }

pub named_root : (trees : List Tree) (fs : List Assertion) → trees ≡ terms_of fs → AreNamed trees fs
named_root trees fs is = subst (λ (ts : List Tree). AreNamed ts fs) (sym is) (named_terms fs)

-- a formula of named terms with its parts names no more
names_no_more : (facts : List Assertion) (f : Assertion) → FormulaAmong (all_terms facts) f → NamesNoMore facts f
names_no_more facts f h =
    let seen = all_terms facts in
    with_formulas-append facts (with_parts (f ∷ [])) []
    ∙ same_with_formulas (with_parts (f ∷ [])) seen (closed_terms facts) (apart_among (greatest_of (map depth_of (f ∷ []))) seen (f ∷ []) (h, tt))

-- so all terms are named with it
pub named_more : (trees : List Tree) (facts : List Assertion) (f : Assertion) → AreNamed trees facts → NamesNoMore facts f →
    AreNamed trees (facts ++ with_parts (f ∷ []))
named_more trees facts f named no_more = record {
  more = named.more;
  front = named.front ∙ ap (λ (ts : List Tree). ts ++ named.more) (sym no_more);
  arguments = subst (λ (ts : List Tree). HaveArguments ts trees) (sym no_more) named.arguments;
}

-- both parts of a split are of named terms
abbrev SplitAmong : List Tree → Option Split → Type 0
SplitAmong seen None = Unit {0}
SplitAmong seen (Some s) = FormulaAmong seen s.0 × FormulaAmong seen s.1

either_among : (seen : List Tree) (o p : Option Split) → SplitAmong seen o → SplitAmong seen p → SplitAmong seen (or_other o p)
either_among seen None p h k = k
either_among seen (Some s) p h k = h

-- those of the first that gives one are
first_among : {S : Type 0} (seen : List Tree) (gives : S → Option Split) (xs : List S) →
    AllByRecursion (λ (x : S). SplitAmong seen (gives x)) xs → SplitAmong seen (first_of gives xs)
first_among seen gives [] h = tt
first_among seen gives (x ∷ xs) h = either_among seen (gives x) (first_of gives xs) h.0 (first_among seen gives xs h.1)

-- a split where a test says so
unless_among : (seen : List Tree) (b : Bool) (s : Split) → SplitAmong seen (Some s) → SplitAmong seen (if b then None else Some s)
unless_among seen true s h = tt
unless_among seen false s h = h

-- the two indices of an element that is read of a written array
index_among : (b : Seen) (first : List Tree) → IsClosed first → (t : Tree) → AllAmong first (arguments_of t) →
    SplitAmong first (index_split b t)
index_among b first closed (Read (Write a j e) i) h =
    let inner = closed (Write a j e) h.0 in
    unless_among first (b.equal j i || b.apart j i) (Eq Num j i, Ne Num j i) ((inner.1.0, h.1.0), (inner.1.0, h.1.0))
index_among b first closed t h = tt

indices_among : (b : Seen) (first ts : List Tree) → IsClosed first → HaveArguments first ts →
    AllByRecursion (λ (t : Tree). SplitAmong first (index_split b t)) ts
indices_among b first [] closed h = tt
indices_among b first (t ∷ ts) closed h = (index_among b first closed t h.0, indices_among b first ts closed h.1)

-- the parts of a disjunction
part_among : (b : Seen) (seen : List Tree) (f : Assertion) → FormulaAmong seen f → SplitAmong seen (part_split b f)
part_among b seen (Or p q) h = unless_among seen (is_held b (Or p q)) (p, q) h
part_among b seen f h = tt

parts_among : (b : Seen) (seen : List Tree) (fs : List Assertion) → FormulasAmong seen fs →
    AllByRecursion (λ (f : Assertion). SplitAmong seen (part_split b f)) fs
parts_among b seen [] h = tt
parts_among b seen (f ∷ fs) h = (part_among b seen f h.0, parts_among b seen fs h.1)

-- the two sides of a contrary
order_among : (b : Seen) (seen : List Tree) (f : Assertion) → FormulaAmong seen f → SplitAmong seen (order_split b f)
order_among b seen (Ne sort t u) h =
    unless_among seen (not (same_sort sort Num) || (is_fact b (Lt t u) || is_fact b (Lt u t))) (Lt t u, Lt u t) (h, (h.1, h.0))
order_among b seen f h = tt

orders_among : (b : Seen) (seen : List Tree) (fs : List Assertion) → FormulasAmong seen fs →
    AllByRecursion (λ (f : Assertion). SplitAmong seen (order_split b f)) fs
orders_among b seen [] h = tt
orders_among b seen (f ∷ fs) h = (order_among b seen f h.0, orders_among b seen fs h.1)

-- what a branch is split by
split_among : (b : Seen) → AreNamed b.terms b.facts → SplitAmong (all_terms b.facts) (split_of b)
split_among b named =
    let seen = all_terms b.facts in
    let all = formulas_among b.facts [] in
    let index = first_of (index_split b) b.terms in
    let part = first_of (part_split b) b.facts in
    let order = first_of (order_split b) b.facts in
    either_among seen index (or_other part order)
    (first_among seen (index_split b) b.terms (indices_among b seen b.terms (closed_terms b.facts) named.arguments))
    (either_among seen part order (first_among seen (part_split b) b.facts (parts_among b seen b.facts all))
    (first_among seen (order_split b) b.facts (orders_among b seen b.facts all)))

-- a split that is told names no other terms than those of the branch
pub split_names : (sorts : Sorts) (trees : List Tree) (facts : List Assertion) (s : Seen) (o : Option BranchSplit) (split : BranchSplit) →
    AreNamed trees facts → s ≡ seen_by sorts trees facts → o ≡ Some split → split_told sorts trees o ≡ split_of s →
    NameNoMore sorts trees facts split
split_names sorts trees facts s o split named seen is told =
    let same : split_of (seen_by sorts trees facts) ≡ split_told sorts trees (Some split) =
    sym (ap (split_told sorts trees) (sym is) ∙ told ∙ ap split_of seen) in
    let both = subst (SplitAmong (all_terms facts)) same (split_among (seen_by sorts trees facts) named) in (
      names_no_more facts (assertion_in sorts trees (numbered split.first)) both.0,
      names_no_more facts (assertion_in sorts trees (numbered split.second)) both.1,
    )
