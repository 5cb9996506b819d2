-- Where the lines of a tree have led, and how its end goes on from there.
use Rattle.sm_cert.proofs.Imports.{◌≡◌, ◌<◌, ◌+◌, ℕ, suc, nat_lt, if◌then◌else◌, Bool, true, false, Some, None, List, [], ◌∷◌, ◌++◌, length, Result, Ok, Err, IfErr, IsErrAnd, refl, ap, sym, ◌∙◌, subst, arith, Sorts, Tree, BranchFact, or_other, AreFactsSorted, IsLineSorted, line_in, IsLineWithin, AllStand, CertLine, Fact, Ways, ways_with, ways_with_sorted, length-append, Box, Global, CertFault, Certificate, Closed, Split, lines_in, in_no_way, in_two_ways, Theories, first_bad, splits_above, TooManySplits, bad_line, refused, lines_before, lines_of, AreLinesWithin, FaultTells, CertTree, is_closed, SplitsInto, line_number, Arrives, Passes}
use Rattle.std.proofs.Common.{Option}
use Rattle.sm_cert.specs.declared.tree.CertEnd.TheVariants as ends
use Rattle.sm_cert.specs.declared.error.CertFault.TheVariants as fault
use Rattle.sm_cert.proofs.CertificateSound.{AreSound, sorted_append}
use Rattle.sm_cert.proofs.CheckLemmas.{counted_more, within_parts, lines_split, lines_are, lines_of_end}
use Rattle.sm_cert.proofs.CertificateMoves.{both_none}

-- lines and those of a certificate under them
pub lines_counted : (trees : List Tree) (ls : List CertLine) (c : Certificate) → lines_in (lines_before trees ls c) ≡ length ls + lines_in c
lines_counted trees [] c = let none : lines_in c ≡ 0 + lines_in c = omega arith in none
lines_counted trees (l ∷ ls) c = let p = lines_counted trees ls c in omega arith

-- a line that closes the branch
pub closed_passes : (theories : Theories) (sorts : Sorts) (trees : List Tree) (facts : List BranchFact) (m : ℕ) (ls : List CertLine)
    (path : List Fact) (at : ℕ) (l : CertLine) (next : ℕ) →
    Arrives theories sorts trees facts m ls path at →
    ((ks : List BranchFact) (added : Option BranchFact) → AllStand sorts trees path ks →
    true ≡ is_closed (ways_with sorts ks added (line_in trees l))) → next ≡ line_number (at + 1) →
    Passes theories sorts facts m (lines_before trees ls (Closed (line_in trees l))) next
closed_passes theories sorts trees facts m ls path at l next r closes e =
    let count : suc (m + length ls) ≡ m + lines_in (lines_before trees ls (Closed (line_in trees l))) = let p =
    lines_counted trees ls (Closed (line_in trees l)) in omega arith in (
      r.leads (Closed (line_in trees l)) ∙ of (ways_with sorts r.later (theories r.later (line_in trees l)) (line_in trees l))
          (closes r.later (theories r.later (line_in trees l)) r.stand),
      e ∙ counted_more at (m + length ls) r.count ∙ ap line_number count,
    )
  where
    of : (w : Ways) → true ≡ is_closed w → in_no_way w (m + length ls) ≡ None
    of None h = absurd cc
    of (Some []) h = refl
    of (Some (way ∷ rest)) h = absurd cc

-- one that doesn't
pub open_tells : (theories : Theories) (sorts : Sorts) (trees : List Tree) (facts : List BranchFact) (m : ℕ) (ls : List CertLine)
    (path : List Fact) (at : ℕ) (l : CertLine) →
    Arrives theories sorts trees facts m ls path at →
    ((ks : List BranchFact) (added : Option BranchFact) → AllStand sorts trees path ks →
    false ≡ is_closed (ways_with sorts ks added (line_in trees l))) →
    FaultTells (fault.Wrong at) (bad_line (first_bad theories sorts facts m (lines_before trees ls (Closed (line_in trees l)))))
open_tells theories sorts trees facts m ls path at l r closes = (
  m + length ls,
  ap bad_line (r.leads (Closed (line_in trees l)) ∙
      of (ways_with sorts r.later (theories r.later (line_in trees l)) (line_in trees l))
      (closes r.later (theories r.later (line_in trees l)) r.stand)),
  r.count,
)
  where
    of : (w : Ways) → false ≡ is_closed w → in_no_way w (m + length ls) ≡ Some (m + length ls)
    of None h = refl
    of (Some []) h = absurd cc
    of (Some (way ∷ rest)) h = refl

-- a line that doesn't split the branch
pub whole_tells : (theories : Theories) (sorts : Sorts) (trees : List Tree) (facts : List BranchFact) (m : ℕ) (ls : List CertLine)
    (path : List Fact) (at : ℕ) (l : CertLine) (c d : Certificate) →
    Arrives theories sorts trees facts m ls path at →
    ((ks : List BranchFact) (added : Option BranchFact) → AllStand sorts trees path ks →
    SplitsInto sorts trees None (ways_with sorts ks added (line_in trees l))) →
    FaultTells (fault.Wrong at) (bad_line (first_bad theories sorts facts m (lines_before trees ls (Split (line_in trees l) c d))))
whole_tells theories sorts trees facts m ls path at l c d r whole = (
  m + length ls,
  ap bad_line (r.leads (Split (line_in trees l) c d) ∙
      of (ways_with sorts r.later (theories r.later (line_in trees l)) (line_in trees l))
      (whole r.later (theories r.later (line_in trees l)) r.stand)),
  r.count,
)
  where
    of : (w : Ways) → SplitsInto sorts trees None w →
        in_two_ways w (m + length ls)
        (λ (way other : List BranchFact).
        or_other (first_bad theories sorts (r.later ++ way) (suc (m + length ls)) c)
        (first_bad theories sorts (r.later ++ other) (suc (m + length ls) + lines_in c) d)) ≡ Some (m + length ls)
    of None h = refl
    of (Some []) h = refl
    of (Some (way ∷ [])) h = refl
    of (Some (way ∷ other ∷ [])) h = absurd h
    of (Some (way ∷ other ∷ third ∷ rest)) h = refl

-- the two sides of a line that splits the branch
pub record Halves (theories : Theories) (sorts : Sorts) (trees : List Tree) (facts : List BranchFact) (m : ℕ) (ls : List CertLine)
    (path : List Fact) (f g : Fact) (l : CertLine) (c d : Certificate) : Type 0 where
  pub later : List BranchFact
  pub way : List BranchFact
  pub other : List BranchFact
  pub stand : AllStand sorts trees path later
  pub first : AllStand sorts trees (f ∷ []) way
  pub second : AllStand sorts trees (g ∷ []) other
  pub fine_first : AreFactsSorted sorts (later ++ way)
  pub fine_second : AreFactsSorted sorts (later ++ other)
  pub bad :
      first_bad theories sorts facts m (lines_before trees ls (Split (line_in trees l) c d)) ≡
      or_other (first_bad theories sorts (later ++ way) (suc (m + length ls)) c)
      (first_bad theories sorts (later ++ other) (suc (m + length ls) + lines_in c) d)

pub halves : (theories : Theories) (sorts : Sorts) (trees : List Tree) (facts : List BranchFact) (m : ℕ) (ls : List CertLine)
    (path : List Fact) (at : ℕ) (f g : Fact) (l : CertLine) (c d : Certificate) →
    AreSound sorts theories → IsLineSorted sorts (line_in trees l) → Arrives theories sorts trees facts m ls path at →
    ((ks : List BranchFact) (added : Option BranchFact) → AllStand sorts trees path ks →
    SplitsInto sorts trees (Some (f, g)) (ways_with sorts ks added (line_in trees l))) →
    Halves theories sorts trees facts m ls path f g l c d
halves theories sorts trees facts m ls path at f g l c d sound named r splits =
    of (ways_with sorts r.later (theories r.later (line_in trees l)) (line_in trees l)) refl
    (splits r.later (theories r.later (line_in trees l)) r.stand)
  where
    of : (w : Ways) → ways_with sorts r.later (theories r.later (line_in trees l)) (line_in trees l) ≡ w →
        SplitsInto sorts trees (Some (f, g)) w → Halves theories sorts trees facts m ls path f g l c d
    of None h two = absurd two
    of (Some []) h two = absurd two
    of (Some (way ∷ [])) h two = absurd two
    of (Some (way ∷ other ∷ [])) h two =
        let fine =
        ways_with_sorted sorts r.later (theories r.later (line_in trees l)) (line_in trees l) (way ∷ other ∷ []) r.fine named
        (λ (k : BranchFact) (e : theories r.later (line_in trees l) ≡ Some k). sound.sorted r.later (line_in trees l) k r.fine named e) h in
        record {
          later = r.later;
          way = way;
          other = other;
          stand = r.stand;
          first = two.0;
          second = two.1;
          fine_first = sorted_append sorts r.later way r.fine fine.0;
          fine_second = sorted_append sorts r.later other r.fine fine.1.0;
          bad = r.leads (Split (line_in trees l) c d) ∙
              ap (λ (w : Ways). in_two_ways w (m + length ls)
              (λ (way other : List BranchFact).
              or_other (first_bad theories sorts (r.later ++ way) (suc (m + length ls)) c)
              (first_bad theories sorts (r.later ++ other) (suc (m + length ls) + lines_in c) d))) h;
        }
    of (Some (way ∷ other ∷ third ∷ rest)) h two = absurd two

-- a fault of the first side tells
pub first_tells : (e : CertFault) (o p : Option ℕ) → FaultTells e (bad_line o) → FaultTells e (bad_line (or_other o p))
first_tells (fault.Wrong n) None p (k, h, g) = absurd cc
first_tells fault.Deep None p h = absurd cc
first_tells fault.Memory None p h = tt
first_tells e (Some n) p h = h

-- a fault of the second side tells, where the first side has none
pub second_tells : (e : CertFault) (o p : Option ℕ) → o ≡ None → FaultTells e (bad_line p) → FaultTells e (bad_line (or_other o p))
second_tells e None p none h = h
second_tells e (Some n) p none h = absurd cc

-- a fault that is handed on
pub err_is : {T E : Type 0} (P : E → Type 0) (r : Result T E) (x : E) → IsErrAnd r (λ (e : E). e ≡ x) → P x → IfErr r P
err_is P (Ok t) x h p = tt
err_is P (Err e) x h p = subst P (sym h) p

-- the lines of a tree that a line splits
pub split_within : (n : ℕ) (t : CertTree) (l : CertLine) (c d : Box CertTree Global) → t.last ≡ ends.Split l c d →
    AreLinesWithin n (lines_of t) →
    IsLineWithin n l × AreLinesWithin n (lines_of c.value) × AreLinesWithin n (lines_of d.value)
split_within n t l c d e all =
    let rest = (within_parts n t.lines.list.items (l ∷ (lines_of c.value ++ lines_of d.value))
    (subst (AreLinesWithin n) (lines_split t l c d e) all)).1 in
    let sides = within_parts n (lines_of c.value) (lines_of d.value) rest.1 in
    (rest.0, sides.0, sides.1)

-- its own lines
pub own_within : (n : ℕ) (t : CertTree) → AreLinesWithin n (lines_of t) → AreLinesWithin n t.lines.list.items
own_within n t all = (within_parts n t.lines.list.items (lines_of_end t.last) (subst (AreLinesWithin n) (lines_are t) all)).0

-- both sides of a tree pass
pub split_passes : (theories : Theories) (sorts : Sorts) (trees : List Tree) (facts : List BranchFact) (m : ℕ) (ls : List CertLine)
    (path : List Fact) (f g : Fact) (l : CertLine) (c d : Certificate) (next last : ℕ)
    (h : Halves theories sorts trees facts m ls path f g l c d) → Passes theories sorts (h.later ++ h.way) (suc (m + length ls)) c next →
    Passes theories sorts (h.later ++ h.other) (suc (m + length ls) + lines_in c) d last →
    Passes theories sorts facts m (lines_before trees ls (Split (line_in trees l) c d)) last
split_passes theories sorts trees facts m ls path f g l c d next last h one two =
    let count : (suc (m + length ls) + lines_in c) + lines_in d ≡ m + lines_in (lines_before trees ls (Split (line_in trees l) c d)) =
    let p = lines_counted trees ls (Split (line_in trees l) c d) in omega arith in (
      h.bad ∙ both_none (first_bad theories sorts (h.later ++ h.way) (suc (m + length ls)) c)
          (first_bad theories sorts (h.later ++ h.other) (suc (m + length ls) + lines_in c) d) one.0 two.0,
      two.1 ∙ ap line_number count,
    )

-- a fault of the first side
pub split_first : (theories : Theories) (sorts : Sorts) (trees : List Tree) (facts : List BranchFact) (m : ℕ) (ls : List CertLine)
    (path : List Fact) (f g : Fact) (l : CertLine) (c d : Certificate) (e : CertFault)
    (h : Halves theories sorts trees facts m ls path f g l c d) →
    FaultTells e (bad_line (first_bad theories sorts (h.later ++ h.way) (suc (m + length ls)) c)) →
    FaultTells e (bad_line (first_bad theories sorts facts m (lines_before trees ls (Split (line_in trees l) c d))))
split_first theories sorts trees facts m ls path f g l c d e h tells =
    subst (λ (o : Option ℕ). FaultTells e (bad_line o)) (sym h.bad)
    (first_tells e (first_bad theories sorts (h.later ++ h.way) (suc (m + length ls)) c)
    (first_bad theories sorts (h.later ++ h.other) (suc (m + length ls) + lines_in c) d) tells)

-- of the second
pub split_second : (theories : Theories) (sorts : Sorts) (trees : List Tree) (facts : List BranchFact) (m : ℕ) (ls : List CertLine)
    (path : List Fact) (f g : Fact) (l : CertLine) (c d : Certificate) (e : CertFault) (next : ℕ)
    (h : Halves theories sorts trees facts m ls path f g l c d) → Passes theories sorts (h.later ++ h.way) (suc (m + length ls)) c next →
    FaultTells e (bad_line (first_bad theories sorts (h.later ++ h.other) (suc (m + length ls) + lines_in c) d)) →
    FaultTells e (bad_line (first_bad theories sorts facts m (lines_before trees ls (Split (line_in trees l) c d))))
split_second theories sorts trees facts m ls path f g l c d e next h one tells =
    subst (λ (o : Option ℕ). FaultTells e (bad_line o)) (sym h.bad)
    (second_tells e (first_bad theories sorts (h.later ++ h.way) (suc (m + length ls)) c)
    (first_bad theories sorts (h.later ++ h.other) (suc (m + length ls) + lines_in c) d) one.0 tells)

-- the sides of a tree, by what holds them
pub first_within : (n : ℕ) (t : CertTree) (l : CertLine) (c d : Box CertTree Global) (s : CertTree) → t.last ≡ ends.Split l c d →
    s ≡ c.value → AreLinesWithin n (lines_of t) → AreLinesWithin n (lines_of s)
first_within n t l c d s e same all = subst (λ (u : CertTree). AreLinesWithin n (lines_of u)) (sym same) (split_within n t l c d e all).1

pub second_within : (n : ℕ) (t : CertTree) (l : CertLine) (c d : Box CertTree Global) (s : CertTree) → t.last ≡ ends.Split l c d →
    s ≡ d.value → AreLinesWithin n (lines_of t) → AreLinesWithin n (lines_of s)
second_within n t l c d s e same all = subst (λ (u : CertTree). AreLinesWithin n (lines_of u)) (sym same) (split_within n t l c d e all).2

-- each has fewer lines
sides_fewer : (t : CertTree) (l : CertLine) (c d : Box CertTree Global) → t.last ≡ ends.Split l c d →
    length (lines_of t) ≡ length t.lines.list.items + suc (length (lines_of c.value) + length (lines_of d.value))
sides_fewer t l c d e = ap length (lines_split t l c d e) ∙ length-append t.lines.list.items (l ∷ (lines_of c.value ++ lines_of d.value)) ∙
    ap (λ (n : ℕ). length t.lines.list.items + suc n) (length-append (lines_of c.value) (lines_of d.value))

pub first_fewer : (t : CertTree) (l : CertLine) (c d : Box CertTree Global) (s : CertTree) → t.last ≡ ends.Split l c d → s ≡ c.value →
    length (lines_of s) < length (lines_of t)
first_fewer t l c d s e same =
    let p = sides_fewer t l c d e in let q : length (lines_of s) ≡ length (lines_of c.value) = ap (λ (u : CertTree). length (lines_of u))
    same in omega arith

pub second_fewer : (t : CertTree) (l : CertLine) (c d : Box CertTree Global) (s : CertTree) → t.last ≡ ends.Split l c d → s ≡ d.value →
    length (lines_of s) < length (lines_of t)
second_fewer t l c d s e same =
    let p = sides_fewer t l c d e in let q : length (lines_of s) ≡ length (lines_of d.value) = ap (λ (u : CertTree). length (lines_of u))
    same in omega arith

-- a certificate that is too deep is refused for that
pub refused_deep : (theories : Theories) (sorts : Sorts) (facts : List BranchFact) (c : Certificate) → true ≡ nat_lt 1000 (splits_above c) →
    refused theories sorts facts c ≡ Some TooManySplits
refused_deep theories sorts facts c e = of (nat_lt 1000 (splits_above c)) e
  where
    of : (b : Bool) → true ≡ b → (if b then Some TooManySplits else bad_line (first_bad theories sorts facts 0 c)) ≡ Some TooManySplits
    of true e = refl
    of false e = absurd cc

-- another for its first bad line
pub refused_flat : (theories : Theories) (sorts : Sorts) (facts : List BranchFact) (c : Certificate) →
    false ≡ nat_lt 1000 (splits_above c) →
    refused theories sorts facts c ≡ bad_line (first_bad theories sorts facts 0 c)
refused_flat theories sorts facts c e = of (nat_lt 1000 (splits_above c)) e
  where
    of : (b : Bool) → false ≡ b → (if b then Some TooManySplits else bad_line (first_bad theories sorts facts 0 c)) ≡ bad_line
        (first_bad theories sorts facts 0 c)
    of false e = refl
    of true e = absurd cc
