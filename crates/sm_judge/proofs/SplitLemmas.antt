-- Splits of the program stand for those of the branch.
use Rattle.sm_judge.proofs.Imports.{◌≡◌, Bool, true, false, ◌||◌, not, if◌then◌else◌, Option, Some, None, List, refl, sym, ap, ◌∙◌, Sorts, Tree, Assertion, NumberedFormula, numbered, assertion_in, Formula, Seen, Split, is_held, part_split, order_split, index_split, pair_numbered, split_in, is_disjunction, disjuncts_of}
use Rattle.sm_term.specs.Formulas.{Yes, No, Eq, Ne, Le, Lt, And, Or}

-- of two tests one is passed
pub known_none : {T : Type 0} (number first second : Bool) (s : Option T) → (first || second) ≡ true →
    None ≡ (if not number || (first || second) then None else s)
known_none number first second s h = by (not number) ∙ ap (λ (b : Bool). if not number || b then None else s) (sym h)
  where
    by : (b : Bool) → None ≡ (if b || true then None else s)
    by true = refl
    by false = refl

-- a split of numbers is there where neither of two tests is passed
pub unknown_some : {T : Type 0} (number first second : Bool) (s : Option T) → number ≡ true → first ≡ false → second ≡ false →
    s ≡ (if not number || (first || second) then None else s)
unknown_some number first second s h k l =
    ap (λ (b : Bool). if not true || (false || b) then None else s) (sym l)
    ∙ ap (λ (b : Bool). if not true || (b || second) then None else s) (sym k)
    ∙ ap (λ (b : Bool). if not b || (first || second) then None else s) (sym h)

-- a disjunction that isn't held is split by its parts
pub part_of : (b : Seen) (sorts : Sorts) (trees : List Tree) (f : NumberedFormula) (o : Option (Formula × Formula)) → is_disjunction f ≡ true →
    is_held b (assertion_in sorts trees f) ≡ false → pair_numbered o ≡ disjuncts_of f →
    split_in sorts trees o ≡ part_split b (assertion_in sorts trees f)
part_of b sorts trees (Or p q) (Some r) h k same =
    let one : numbered r.0 ≡ p = cc in
    let two : numbered r.1 ≡ q = cc in
    ap (λ (f : NumberedFormula). Some (assertion_in sorts trees f, assertion_in sorts trees (numbered r.1))) one
    ∙ ap (λ (f : NumberedFormula). Some (assertion_in sorts trees p, assertion_in sorts trees f)) two
    ∙ ap (λ (v : Bool). if v then None else Some (assertion_in sorts trees p, assertion_in sorts trees q)) (sym k)
part_of b sorts trees (Or p q) None h k same = absurd cc
part_of b sorts trees Yes o h k same = absurd cc
part_of b sorts trees No o h k same = absurd cc
part_of b sorts trees (Eq t u) o h k same = absurd cc
part_of b sorts trees (Ne t u) o h k same = absurd cc
part_of b sorts trees (Le t u) o h k same = absurd cc
part_of b sorts trees (Lt t u) o h k same = absurd cc
part_of b sorts trees (And p q) o h k same = absurd cc

-- any other formula splits nothing
pub other_part : (b : Seen) (sorts : Sorts) (trees : List Tree) (f : NumberedFormula) → is_disjunction f ≡ false →
    None ≡ part_split b (assertion_in sorts trees f)
other_part b sorts trees (Or p q) h = absurd cc
other_part b sorts trees Yes h = refl
other_part b sorts trees No h = refl
other_part b sorts trees (Eq t u) h = refl
other_part b sorts trees (Ne t u) h = refl
other_part b sorts trees (Le t u) h = refl
other_part b sorts trees (Lt t u) h = refl
other_part b sorts trees (And p q) h = refl

pub held_part : (b : Seen) (sorts : Sorts) (trees : List Tree) (f : NumberedFormula) → is_held b (assertion_in sorts trees f) ≡ true →
    None ≡ part_split b (assertion_in sorts trees f)
held_part b sorts trees (Or p q) h =
    ap (λ (v : Bool). if v then None else Some (assertion_in sorts trees p, assertion_in sorts trees q)) (sym h)
held_part b sorts trees Yes h = refl
held_part b sorts trees No h = refl
held_part b sorts trees (Eq t u) h = refl
held_part b sorts trees (Ne t u) h = refl
held_part b sorts trees (Le t u) h = refl
held_part b sorts trees (Lt t u) h = refl
held_part b sorts trees (And p q) h = refl

-- a split of a term is one of the same term, and of a formula of the same formula
pub index_of : (b : Seen) (s : Option Split) (t u : Tree) → s ≡ index_split b t → t ≡ u → s ≡ index_split b u
index_of b s t u is same = is ∙ ap (index_split b) same

pub order_of : (b : Seen) (says : Formula → Assertion) (s : Option Split) (f g : Formula) → s ≡ order_split b (says f) → g ≡ f →
    s ≡ order_split b (says g)
order_of b says s f g is same = is ∙ ap (λ (h : Formula). order_split b (says h)) (sym same)
