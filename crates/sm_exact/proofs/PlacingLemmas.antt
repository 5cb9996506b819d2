-- Forms over places: how they are made part by part, and that they are the forms of the exact line.
use Rattle.sm_exact.proofs.Imports.{◌≡◌, ◌<◌, ◌≤◌, ℕ, zero, suc, nat_eq, ℤ, pos, ◌+ℤ◌, ◌*ℤ◌, Bool, true, false, if◌then◌else◌, Option, Some, None, slice_get, List, [], ◌∷◌, ◌++◌, ◌+◌, take, length, get_or, refl, sym, ap, subst, ◌∙◌, ⊎_elim, arith, IfNone, list_any, position, cases_Bool, or_parts, ints, take_more, Linear, coefficient, sum_of_parts, AreParts, IsKept, Kind, same_atom, Outcome, Fits, Leaves, formed, merged, combined_number, combined, gives_fits, IsSum, combined_number_gives, constant_form, Fact, IsAt, HasNoPlace, HavePlaces, ArePlaced, IsPlaced, SomeLacksPlace, FactLacksPlace, coefficient_first}
use Rattle.std.proofs.lemmas.List.Quantifiers.{position-Some}
use Rattle.std.proofs.lemmas.Option.{slice_get-get_or}
use Rattle.sm_num.proofs.FormValues.{merged_value}
use Rattle.sm_num.proofs.SameAtomLemmas.{same_atom_sound, same_atom_reflexive, not_both}
use Rattle.sm_num.proofs.SameAtomLemmas as same
use Rattle.sm_theory.specs.declared.fact.Fact.TheVariants as fact

-- 1 at one atom, 0 at all others
abbrev pub only_at : ℕ → ℕ → ℤ
only_at a b = if same_atom a b then pos 1 else pos 0

-- the sum where one atom is 1 is its coefficient
sum_only : (a : ℕ) (ps : List (ℕ × ℤ)) → sum_of_parts (only_at a) ps ≡ coefficient same_atom a ps
sum_only a [] = refl
sum_only a (p ∷ ps) = by (same_atom a p.0) (sum_only a ps)
  where
    by : (b : Bool) → sum_of_parts (only_at a) ps ≡ coefficient same_atom a ps →
        (p.1 *ℤ (if b then pos 1 else pos 0)) +ℤ sum_of_parts (only_at a) ps
        ≡ (if b then p.1 +ℤ coefficient same_atom a ps else coefficient same_atom a ps)
    by true rest = omega (arith, ints)
    by false rest = omega (arith, ints)

-- what was formed
formed_from : (o : Outcome (List (ℕ × ℤ))) (c : Outcome ℤ) (kind : Kind) (h : Linear ℕ) → formed o c kind ≡ Fits h →
    (o ≡ Fits h.parts) × (c ≡ Fits h.constant) × (h.kind ≡ kind)
formed_from (Fits ps) (Fits c) kind h e =
    let is : record { parts = ps; constant = c; kind = kind } ≡ h = cc in
    (ap (λ (f : Linear ℕ). Fits f.parts) is, ap (λ (f : Linear ℕ). Fits f.constant) is, sym (ap (λ (f : Linear ℕ). f.kind) is))
formed_from (Fits ps) (Leaves op y z) kind h e = absurd cc
formed_from (Leaves op y z) c kind h e = absurd cc

-- a sum of forms, by its coefficients
pub combined_at : (f g h : Linear ℕ) (p q : ℤ) (kind : Kind) → combined f p g q kind ≡ Fits h → (a : ℕ) →
    coefficient same_atom a h.parts ≡ (p *ℤ coefficient same_atom a f.parts) +ℤ (q *ℤ coefficient same_atom a g.parts)
combined_at f g h p q kind e a =
    let from = formed_from (merged p q f.parts g.parts) (combined_number p f.constant q g.constant) kind h e in
    sym (sum_only a h.parts)
    ∙ gives_fits
    (λ (ps : List (ℕ × ℤ)). sum_of_parts (only_at a) ps ≡ (p *ℤ sum_of_parts (only_at a) f.parts) +ℤ (q *ℤ sum_of_parts (only_at a) g.parts))
    (merged p q f.parts g.parts) h.parts (merged_value (only_at a) p q f.parts g.parts) from.0
    ∙ ap (λ (z : ℤ). (p *ℤ z) +ℤ (q *ℤ sum_of_parts (only_at a) g.parts)) (sum_only a f.parts)
    ∙ ap (λ (z : ℤ). (p *ℤ coefficient same_atom a f.parts) +ℤ (q *ℤ z)) (sum_only a g.parts)

-- by its constant
pub combined_constant : (f g h : Linear ℕ) (p q : ℤ) (kind : Kind) → combined f p g q kind ≡ Fits h →
    h.constant ≡ (p *ℤ f.constant) +ℤ (q *ℤ g.constant)
combined_constant f g h p q kind e =
    let from = formed_from (merged p q f.parts g.parts) (combined_number p f.constant q g.constant) kind h e in
    (gives_fits (IsSum p f.constant q g.constant) (combined_number p f.constant q g.constant) h.constant
    (combined_number_gives p f.constant q g.constant) from.1).0

-- a sum of forms has the kind that it is made with
pub combined_kind : (f g h : Linear ℕ) (p q : ℤ) (kind : Kind) → combined f p g q kind ≡ Fits h → h.kind ≡ kind
combined_kind f g h p q kind e = (formed_from (merged p q f.parts g.parts) (combined_number p f.constant q g.constant) kind h e).2

-- one part more
module _ (numbers : List ℕ) (p : ℕ × ℤ) (ps qs rs : List (ℕ × ℤ)) (n : ℕ) (once : HavePlaces numbers) (here : IsAt numbers n p.0)
    (sum : (a : ℕ) → coefficient same_atom a rs
    ≡ (pos 1 *ℤ coefficient same_atom a qs) +ℤ (p.1 *ℤ coefficient same_atom a ((n, pos 1) ∷ []))) where
  one_number : (i k : ℕ) → IsAt numbers n k → k ≡ p.0
  one_number i k e = let both : Some k ≡ Some p.0 = sym e ∙ here in cc

  at_one : (i k : ℕ) (b c : Bool) → same_atom i n ≡ b → same_atom k p.0 ≡ c → IsAt numbers i k → coefficient same_atom i qs ≡ coefficient same_atom k ps →
      (pos 1 *ℤ coefficient same_atom i qs) +ℤ (p.1 *ℤ (if b then pos 1 +ℤ pos 0 else pos 0))
      ≡ (if c then p.1 +ℤ coefficient same_atom k ps else coefficient same_atom k ps)
  at_one i k true true e g stands before = omega (arith, ints)
  at_one i k false false e g stands before = omega (arith, ints)
  at_one i k true false e g stands before =
      let same : k ≡ p.0 = one_number i k (subst (λ (j : ℕ). IsAt numbers j k) (same_atom_sound i n e) stands) in
      absurd (not_both (same_atom k p.0) (subst (λ (m : ℕ). same_atom k m ≡ true) same (same_atom_reflexive k)) g)
  at_one i k false true e g stands before =
      let same : i ≡ n = once i n p.0 (subst (λ (m : ℕ). IsAt numbers i m) (same_atom_sound k p.0 g) stands) here in
      absurd (not_both (same_atom i n) (subst (λ (m : ℕ). same_atom i m ≡ true) same (same_atom_reflexive i)) e)

  past_one : (i : ℕ) (b : Bool) → same_atom i n ≡ b → slice_get numbers i ≡ None → coefficient same_atom i qs ≡ pos 0 →
      (pos 1 *ℤ coefficient same_atom i qs) +ℤ (p.1 *ℤ (if b then pos 1 +ℤ pos 0 else pos 0)) ≡ pos 0
  past_one i false e none before = omega (arith, ints)
  past_one i true e none before =
      let there : slice_get numbers i ≡ Some p.0 = ap (slice_get numbers) (same_atom_sound i n e) ∙ here in
      absurd (let both : Some p.0 ≡ None = sym there ∙ none in cc)

  other_one : (k : ℕ) (b : Bool) → same_atom k p.0 ≡ b → HasNoPlace numbers k → coefficient same_atom k ps ≡ pos 0 →
      (if b then p.1 +ℤ coefficient same_atom k ps else coefficient same_atom k ps) ≡ pos 0
  other_one k false e never before = before
  other_one k true e never before =
      absurd (never n (subst (λ (m : ℕ). IsAt numbers n m) (sym (same_atom_sound k p.0 e)) here))

  pub one_placed : ArePlaced numbers ps qs → ArePlaced numbers (p ∷ ps) rs
  one_placed before = record {
    at = λ (i k : ℕ) (e : IsAt numbers i k). sum i ∙ at_one i k (same_atom i n) (same_atom k p.0) refl refl e (before.at i k e);
    past = λ (i : ℕ) (e : slice_get numbers i ≡ None). sum i ∙ past_one i (same_atom i n) refl e (before.past i e);
    other = λ (k : ℕ) (never : HasNoPlace numbers k). other_one k (same_atom k p.0) refl never (before.other k never);
  }

-- the whole form, from its parts and the rest
pub whole_placed : (numbers : List ℕ) (f d h : Linear ℕ) → ArePlaced numbers f.parts d.parts → d.constant ≡ pos 0 → IsKept h →
    combined d (pos 1) (constant_form f.constant) (pos 1) f.kind ≡ Fits h → IsPlaced numbers f h
whole_placed numbers f d h parts none kept e = record {
  kept = kept;
  parts = record {
    at = λ (i k : ℕ) (g : IsAt numbers i k). same_at i ∙ parts.at i k g;
    past = λ (i : ℕ) (g : slice_get numbers i ≡ None). same_at i ∙ parts.past i g;
    other = parts.other;
  };
  constant = combined_constant d (constant_form f.constant) h (pos 1) (pos 1) f.kind e ∙ alone d.constant f.constant none;
  kind = combined_kind d (constant_form f.constant) h (pos 1) (pos 1) f.kind e;
}
  where
    nothing : (z : ℤ) → (pos 1 *ℤ z) +ℤ (pos 1 *ℤ pos 0) ≡ z
    nothing z = omega (arith, ints)

    alone : (y z : ℤ) → y ≡ pos 0 → (pos 1 *ℤ y) +ℤ (pos 1 *ℤ z) ≡ z
    alone y z none = omega (arith, ints)

    same_at : (a : ℕ) → coefficient same_atom a h.parts ≡ coefficient same_atom a d.parts
    same_at a = combined_at d (constant_form f.constant) h (pos 1) (pos 1) f.kind e a ∙ nothing (coefficient same_atom a d.parts)

-- the atom of a part is not below the least
least_at : (least i : ℕ) (ps : List (ℕ × ℤ)) → AreParts least ps → i < length ps → least ≤ (get_or ps i (0, pos 0)).0
least_at least i [] kept within = absurd (omega arith)
least_at least zero (p ∷ ps) kept within = kept.0
least_at least (suc i) (p ∷ ps) kept within =
    let first = kept.0 in let rest = least_at (suc p.0) i ps kept.3 (omega arith) in omega arith

-- the coefficient of a part's atom isn't 0
pub part_counts : (least i : ℕ) (ps : List (ℕ × ℤ)) → AreParts least ps → i < length ps →
    coefficient same_atom (get_or ps i (0, pos 0)).0 ps ≡ pos 0 → ⊥
part_counts least i [] kept within e = absurd (omega arith)
part_counts least zero (p ∷ ps) kept within e = kept.2 (sym (coefficient_first p.0 least p ps kept refl) ∙ e)
part_counts least (suc i) (p ∷ ps) kept within e =
    let a = (get_or ps i (0, pos 0)).0 in
    let above = least_at (suc p.0) i ps kept.3 (omega arith) in
    ⊎_elim
    (λ (t : same_atom a p.0 ≡ true). let same = same_atom_sound a p.0 t in absurd (let no : ⊥ = omega arith in no))
    (λ (t : same_atom a p.0 ≡ false).
    part_counts (suc p.0) i ps kept.3 (omega arith) (sym (same.coefficient_past same_atom a p ps t) ∙ e))
    (cases_Bool (same_atom a p.0))

-- a number that isn't listed has no place
pub unlisted : (numbers : List ℕ) (k : ℕ) → list_any (nat_eq k) numbers ≡ false → HasNoPlace numbers k
unlisted [] k e i at = absurd cc
unlisted (n ∷ ns) k e zero at =
    let same : k ≡ n = cc in
    not_both (nat_eq k n) (subst (λ (m : ℕ). same_atom k m ≡ true) same (same_atom_reflexive k)) (or_parts (nat_eq k n) (list_any (nat_eq k) ns) e).0
unlisted (n ∷ ns) k e (suc i) at = unlisted ns k (or_parts (nat_eq k n) (list_any (nat_eq k) ns) e).1 i at

-- the place that is found is the number's
pub found_at : (numbers : List ℕ) (k i : ℕ) → position (nat_eq k) numbers ≡ Some i → IsAt numbers i k
found_at numbers k i e =
    let at = position-Some (nat_eq k) numbers i 0 e in
    slice_get-get_or numbers i 0 at.0 ∙ ap Some (sym (same_atom_sound k (get_or numbers i 0) at.1))

-- what is so where there is nothing
pub none_case : {A : Type 0} (P : Type 0) (o : Option A) → IfNone o P → ((x : A) → o ≡ Some x → ⊥) → P
none_case P None given never = given
none_case P (Some x) given never = absurd (never x refl)

pub if_none : {A : Type 0} (P : Type 0) (o : Option A) → P → IfNone o P
if_none P None given = given
if_none P (Some x) given = tt

-- of facts so far one more
pub facts_more : (fs : List Fact) (i : ℕ) (x : Fact) → i < length fs → x ≡ get_or fs i x → take i fs ++ x ∷ [] ≡ take (i + 1) fs
facts_more fs i x below is = ap (λ (y : Fact). take i fs ++ y ∷ []) is ∙ sym (take_more fs i x below)

-- a fact that has an atom without a place is a linear one
pub fact_lacks : (numbers : List ℕ) (fs : List Fact) (i : ℕ) (x : Fact) → i < length fs → x ≡ get_or fs i x → FactLacksPlace numbers x →
    SomeLacksPlace numbers fs
fact_lacks numbers fs i (fact.Form f) below is lacks = absurd lacks
fact_lacks numbers fs i (fact.Lin f) below is lacks = (i, f, slice_get-get_or fs i (fact.Lin f) below ∙ ap Some (sym is), lacks)
