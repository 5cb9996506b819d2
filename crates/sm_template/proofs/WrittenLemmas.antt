-- Names that some copy's code writes, and the declared ones among them.
use Rattle.sm_template.proofs.Imports.{◌≡◌, ℕ, ◌+◌, ◌<◌, ◌==◌, Bool, true, false, cond, ◌||◌, List, [], ◌∷◌, ◌++◌, map, take, length, get_or, refl, sym, ap, ◌∙◌, filter, nat_cmp, fun_ext, append-nil, map-append, map_more, Code, Copy, Name, Sort, is_in, outputs_of, either-either, AreWrites, is_written}
use Rattle.std.specs.BTreeSet.{BTreeSet, contains}
use Rattle.std.proofs.lemmas.List.Elements.{filter-append}
use Rattle.sm_syntax.specs.Assigns.{assigns}
use Rattle.sm_syntax.specs.claim.ConflictFree.{O, A, B, M}
use Rattle.sm_syntax.specs.declared.copies.PerCopy.{PerCopy}
use Rattle.sm_syntax.specs.declared.program.Outputs.{Outputs}
use Rattle.sm_deps.specs.Members.{members, only, either}
use Rattle.sm_deps.proofs.MembersLemmas.{none}
use Rattle.sm_template.proofs.TemplatesMade.{names_of}
use Rattle.sm_lemmas.proofs.Tests.{or_false, or_assoc}

-- names by number
abbrev pub numbers_of : List Name → List ℕ
numbers_of names = map (λ (x : Name). x.0) names

-- a list with one name more
is_in_push : (l : List ℕ) (x : ℕ) → either (is_in l) (only x) ≡ is_in (l ++ x ∷ [])
unfolding either only
is_in_push l x = fun_ext (λ (q : ℕ). by q l)
  where
    by : (q : ℕ) (m : List ℕ) → (is_in m q || (q == x)) ≡ is_in (m ++ x ∷ []) q
    by q [] = sym (or_false (q == x))
    by q (y ∷ m) = or_assoc (q == y) (is_in m q) (q == x) ∙ ap (λ (b : Bool). (q == y) || b) (by q m)

-- a set with one name of a list more
pub name_put : (start old new : ℕ → Bool) (names : List Name) (i : ℕ) (d : Name) → i < length names →
    old ≡ either start (is_in (numbers_of (take i names))) → new ≡ either old (only (get_or names i d).0) →
    new ≡ either start (is_in (numbers_of (take (i + 1) names)))
name_put start old new names i d h was put =
    let before = numbers_of (take i names) in
    let x = (get_or names i d).0 in
    put
    ∙ ap (λ (s : ℕ → Bool). either s (only x)) was
    ∙ either-either start (is_in before) (only x)
    ∙ ap (either start) (is_in_push before x ∙ ap is_in (sym (map_more (λ (n : Name). n.0) names i d h)))

-- one of four
one_of_four : (o a b m : Bool) → ((((false || o) || a) || b) || m) ≡ (o || (a || (b || (m || false))))
one_of_four true a b m = refl
one_of_four false true b m = refl
one_of_four false false true m = refl
one_of_four false false false true = refl
one_of_four false false false false = refl

-- the names of four lists
pub union_is : (code : Copy → Code) (written : PerCopy Outputs) → AreWrites code written →
    either
    (either (either (either none (is_in (outputs_of written.base))) (is_in (outputs_of written.variant_a)))
    (is_in (outputs_of written.variant_b)))
    (is_in (outputs_of written.candidate))
    ≡ is_written code
unfolding either none
union_is code written h = fun_ext (λ (x : ℕ).
    (λ k. (((false || h O x k) || h A x k) || h B x k) || h M x k)
    ∙ one_of_four (assigns (code O) x) (assigns (code A) x) (assigns (code B) x) (assigns (code M) x))

-- a set has what it contains
pub contained : (set : BTreeSet ℕ) (x : ℕ) (b : Bool) → b ≡ contains nat_cmp set x → (c : Bool) → b ≡ c → members set x ≡ c
unfolding members
contained set x b is c h = sym is ∙ h

-- a declared name more, which is of the set or isn't
module _ (test : ℕ × Sort → Bool) (ds list : List (Name × Sort)) (i : ℕ) (d : Name × Sort) (h : i < length ds)
    (old : names_of list ≡ filter test (names_of (take i ds))) where
  abbrev pub name : ℕ × Sort
  name = ((get_or ds i d).0.0, (get_or ds i d).1)

  filtered : filter test (names_of (take (i + 1) ds)) ≡ names_of list ++ cond (test name) (name ∷ []) []
  filtered =
      ap (filter test) (map_more (λ (e : Name × Sort). (e.0.0, e.1)) ds i d h)
      ∙ filter-append test (names_of (take i ds)) (name ∷ [])
      ∙ ap (λ (l : List (ℕ × Sort)). l ++ cond (test name) (name ∷ []) []) (sym old)

  pub declared_more : test name ≡ true → names_of (list ++ get_or ds i d ∷ []) ≡ filter test (names_of (take (i + 1) ds))
  declared_more holds =
      map-append (λ (e : Name × Sort). (e.0.0, e.1)) list (get_or ds i d ∷ [])
      ∙ sym (filtered ∙ ap (λ (b : Bool). names_of list ++ cond b (name ∷ []) []) holds)

  pub declared_less : test name ≡ false → names_of list ≡ filter test (names_of (take (i + 1) ds))
  declared_less fails =
      sym (filtered ∙ ap (λ (b : Bool). names_of list ++ cond b (name ∷ []) []) fails ∙ append-nil (names_of list))
