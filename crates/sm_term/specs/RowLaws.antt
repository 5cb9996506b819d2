-- Private: terms that hold the same are equal, and are hashed alike.
use Rattle.std.specs.Prelude.{◌≡◌, ℕ, true, Bool, ◌++◌, List}
use Rattle.std.proofs.Common.{refl, sym, ap, ◌∙◌, Decides}
use Rattle.std.specs.Hash as fed
use Rattle.std.specs.Cmp.{IsEquivalence}
use Rattle.std.proofs.lemmas.Bool.Decides.{Decides-and, Decides-eqb, Decides-int_eq, same_from_decides}
use Rattle.std.proofs.lemmas.Slice.Eq.{bytes_eq-Decides}
use Rattle.sm_term.specs.declared.term.Numbers.{Numbers}
use Rattle.sm_term.specs.declared.term.Term.{Term}
use Rattle.sm_term.specs.Rows.{term_numbers, names_of_term, parts_of_term, same_numbers, same_term, hashed}

-- a test that decides whether a function has one value at both is an equivalence
pub equivalence_by :
    {K L : Type 0} (E : K → K → Bool) (f : K → L) →
    ((x y : K) → Decides (E x y) (f x ≡ f y)) → IsEquivalence E
equivalence_by E f decides = record {
  refl = λ x. (decides x x).1 refl;
  symm =
      λ x y. same_from_decides (E x y) (E y x) (decides x y)
      (λ h. sym ((decides y x).0 h), λ e. (decides y x).1 (sym e));
  congr =
      λ x y z h. same_from_decides (E x z) (E y z) (decides x z) (
        λ g. (decides x y).0 h ∙ (decides y z).0 g,
        λ e. (decides y z).1 (sym ((decides x y).0 h) ∙ e),
      );
}

-- what a term holds
abbrev pub Contents : Type 0
Contents = Numbers × List ℕ × List ℕ

-- what one term holds: its numbers, its names and its parts
abbrev pub contents_of : Term → Contents
contents_of t = (term_numbers t, names_of_term t, parts_of_term t)

-- the test of numbers is exact
pub same_numbers-Decides : (m n : Numbers) → Decides (same_numbers m n) (m ≡ n)
same_numbers-Decides m n =
    let ends = Decides-and _ _ (Decides-eqb m.second n.second) (Decides-eqb m.third n.third) in
    let three = Decides-and _ _ (Decides-eqb m.first n.first) ends in
    let all =
    Decides-and _ _ (Decides-eqb m.kind n.kind)
    (Decides-and _ _ (Decides-int_eq m.value n.value) three) in (
      λ h.
          let e = all.0 h in
          λ k. record {
            kind = e.0 k;
            value = e.1.0 k;
            first = e.1.1.0 k;
            second = e.1.1.1.0 k;
            third = e.1.1.1.1 k;
          },
      λ e.
          let second = ap (λ (k : Numbers). k.second) e in
          let third = ap (λ (k : Numbers). k.third) e in
          all.1 (
            ap (λ (k : Numbers). k.kind) e,
            (ap (λ (k : Numbers). k.value) e, (ap (λ (k : Numbers). k.first) e, (second, third))),
          ),
    )

-- two terms are equal exactly where they hold the same
pub same_term-Decides : (t u : Term) → Decides (same_term t u) (contents_of t ≡ contents_of u)
unfolding same_term
same_term-Decides t u =
    let lists =
    Decides-and _ _ (bytes_eq-Decides (names_of_term t) (names_of_term u))
    (bytes_eq-Decides (parts_of_term t) (parts_of_term u)) in
    let all = Decides-and _ _ (same_numbers-Decides (term_numbers t) (term_numbers u)) lists in (
      λ h. let e = all.0 h in λ k. (e.0 k, e.1.0 k, e.1.1 k),
      λ e. all.1 (
        ap (λ (k : Contents). k.0) e,
        (ap (λ (k : Contents). k.1) e, ap (λ (k : Contents). k.2) e),
      ),
    )

-- so that is an equivalence
pub same_term-equiv : IsEquivalence same_term
same_term-equiv = equivalence_by same_term contents_of same_term-Decides

-- what is hashed of what a term holds
abbrev pub hashed_of : Contents → List (List ℕ)
hashed_of k =
    fed.u8 k.0.kind ++ fed.i128 k.0.value ++ fed.u64 k.0.first ++ fed.u64 k.0.second
    ++ fed.u64 k.0.third ++ fed.slice fed.u64 k.2

-- equal terms are hashed alike
pub same_term-hashed : (t u : Term) → same_term t u ≡ true → hashed t ≡ hashed u
unfolding hashed
same_term-hashed t u h = ap hashed_of ((same_term-Decides t u).0 h)
