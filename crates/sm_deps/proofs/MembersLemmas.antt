-- Sets of names as tests: what one name more, one name less or another set makes of them.
use Rattle.sm_deps.proofs.Imports.{◌≡◌, ℕ, Bool, true, false, cond, ◌||◌, ◌==◌, Result, OnOk, IfOk, List, [], refl, sym, ap, ◌∙◌, arith, nat_tests, on_ok_weaker, IfOk-weaker, nat_cmp_total, sorted_from_strictly_increasing, fun_ext, is_at, BTreeSet, contains, InsertsAll, IsOrdered, Updates, list_any, IsStrictlyIncreasing, nat_cmp, is_in, Expression, Var, Read, Plus, Minus, Times, Condition, Compare, mentions, tests, or_false, or_assoc}
use Rattle.std.proofs.lemmas.Map.Lookups.{btree_set_from_contains, exact_unsigned}
use Rattle.sm_syntax.specs.claim.Syntax.{And, Or}
use Rattle.sm_syntax.specs.declared.tree.Cmp.{Cmp}
use Rattle.sm_deps.specs.Members.{members, only, either}

-- whether a number is at its place
pub at_number : (x q : ℕ) → is_at (nat_cmp x) q ≡ (q == x)
at_number x q = grind (arith, nat_tests)

-- one of two, and the first alone
or_cond : (b c : Bool) → cond b true c ≡ (c || b)
or_cond true true = refl
or_cond true false = refl
or_cond false true = refl
or_cond false false = refl

-- a set with one name more
pub members-insert : (old new : BTreeSet ℕ) (x : ℕ) → Updates nat_cmp old new x true → members new ≡ either (members old) (only x)
unfolding members only either
members-insert old new x h =
    fun_ext (λ (q : ℕ). h.0 q ∙ or_cond (is_at (nat_cmp x) q) (contains nat_cmp old q) ∙
    ap (λ (b : Bool). contains nat_cmp old q || b) (at_number x q))

-- a set with the names of another
pub members-union : (old more new : BTreeSet ℕ) → InsertsAll nat_cmp old more.keys new → members new ≡ either (members old) (members more)
unfolding members either
members-union old more new h = fun_ext (λ (q : ℕ). h.0 q)

-- no name
unfoldable pub none : ℕ → Bool
none x = false

-- nothing more
pub either-none : (s : ℕ → Bool) → either s none ≡ s
unfolding either none
either-none s = fun_ext (λ (x : ℕ). or_false (s x))

pub either-false : (s : ℕ → Bool) → either s (λ (x : ℕ). false) ≡ s
unfolding either
either-false s = fun_ext (λ (x : ℕ). or_false (s x))

-- three sets, in either grouping
pub either-either : (s t u : ℕ → Bool) → either (either s t) u ≡ either s (either t u)
unfolding either
either-either s t u = fun_ext (λ (x : ℕ). or_assoc (s x) (t x) (u x))

-- the names of expressions and conditions, part by part
pub mentions-Var : (y : ℕ) → mentions (Var y) ≡ only y
unfolding only
mentions-Var y = refl

pub mentions-Read : (a : ℕ) (i : Expression) → mentions (Read a i) ≡ either (only a) (mentions i)
unfolding only either
mentions-Read a i = refl

pub mentions-Plus : (d e : Expression) → mentions (Plus d e) ≡ either (mentions d) (mentions e)
unfolding either
mentions-Plus d e = refl

pub mentions-Minus : (d e : Expression) → mentions (Minus d e) ≡ either (mentions d) (mentions e)
unfolding either
mentions-Minus d e = refl

pub mentions-Times : (d e : Expression) → mentions (Times d e) ≡ either (mentions d) (mentions e)
unfolding either
mentions-Times d e = refl

pub tests-Compare : (op : Cmp) (d e : Expression) → tests (Compare op d e) ≡ either (mentions d) (mentions e)
unfolding either
tests-Compare op d e = refl

pub tests-And : (b c : Condition) → tests (And b c) ≡ either (tests b) (tests c)
unfolding either
tests-And b c = refl

pub tests-Or : (b c : Condition) → tests (Or b c) ≡ either (tests b) (tests c)
unfolding either
tests-Or b c = refl

-- what adds up names needs
pub ruleset unions = (
  either-false,
  either-either,
  mentions-Var,
  mentions-Read,
  mentions-Plus,
  mentions-Minus,
  mentions-Times,
  tests-Compare,
  tests-And,
  tests-Or,
)

-- two sets added one after the other
pub added_two : (start one both first second whole : ℕ → Bool) → one ≡ either start first → whole ≡ either first second
    → both ≡ either one second → both ≡ either start whole
added_two start one both first second whole got parts more =
    more ∙ ap (λ (s : ℕ → Bool). either s second) got ∙ either-either start first second ∙ ap (either start) (sym parts)

-- what follows from what holds where there is a value
pub on_ok : {T E P Q : Type 0} (r : Result T E) → OnOk r P → (P → Q) → OnOk r Q
on_ok r h f = on_ok_weaker r f h

-- what follows from what holds of a value, if it is there, holds of it
pub if_ok : {T E : Type 0} (r : Result T E) (P Q : T → Type 0) → IfOk r P → ((v : T) → P v → Q v) → IfOk r Q
if_ok r P Q h f = IfOk-weaker r P Q f h

-- nothing, and then more
pub none-either : (s : ℕ → Bool) → either none s ≡ s
unfolding either none
none-either s = refl

-- an empty set
pub members-empty : (set : BTreeSet ℕ) → set.keys ≡ [] → members set ≡ none
unfolding members none
members-empty set h = fun_ext (λ (x : ℕ). ap (list_any (is_at (nat_cmp x))) h)

-- a set's list has its names
pub listed-members : (set : BTreeSet ℕ) (x : ℕ) → is_in set.keys x ≡ members set x
unfolding members
listed-members set x = ap (λ (p : ℕ → Bool). list_any p set.keys) (fun_ext (λ (y : ℕ). here x y)) where
  here : (x y : ℕ) → (x == y) ≡ is_at (nat_cmp x) y
  here x y = grind (arith, nat_tests)

-- sets of the same names have the same list
pub same_list : (one other : BTreeSet ℕ) → IsOrdered nat_cmp one → IsOrdered nat_cmp other → members one ≡ members other
    → one.keys ≡ other.keys
unfolding members
same_list one other ordered other_ordered same =
    btree_set_from_contains nat_cmp_total one other ordered other_ordered (λ (x : ℕ). ap (λ (s : ℕ → Bool). s x) same) exact_unsigned

-- a rising list with the names of a set is its list
pub list_is : (set : BTreeSet ℕ) (list : List ℕ) → IsOrdered nat_cmp set → IsStrictlyIncreasing list
    → ((x : ℕ) → is_in list x ≡ members set x) → set.keys ≡ list
list_is set list ordered rises same =
    let other : BTreeSet ℕ = record { keys = list } in
    same_list set other ordered (sorted_from_strictly_increasing list rises) (fun_ext (λ (x : ℕ). sym (same x) ∙ listed-members other x))
