-- Lines that the checker takes are read, counted and used.
use Rattle.sm_used.proofs.Imports.{◌≡◌, ◌∙◌, ◌++◌, ℕ, suc, ◌==◌, Bool, true, false, if◌then◌else◌, Option, Some, None, Result, Ok, Err, List, [], ◌∷◌, length, map, append_assoc, refl, sym, ap, subst, option_map, Vec, append-nil, map-append, AreRead, NumberedLine, ProofLine, Header, Term, Form, Node, Cert, Pending, Due, Branch, Progress, start_progress, taken, taken_at, FileLines, Subject, Standing, Unopened, Underway, in_first_line, lines_in, next_standing, opens_if, passes_version, AreCertsUsed, AreNamed, HasNamedLines, HasUsedLines, IsCertUsed, facts_due, GoesOn, HasFacts, IsAt, AreCounted, AreRowsOf, AreUsed, Counts, IsLineUsed, Opens, line_in, Counted}
use Rattle.std.specs.Prelude.{IfOk}
use Rattle.std.specs.declared.alloc.Global.{Global}
use Rattle.std.proofs.Math.ListN.{drop}
use Rattle.sm_syntax.specs.text.Sorts.{Sorts}
use Rattle.sm_term.specs.Symbolic.{SymbolicStore}
use Rattle.sm_plan.specs.States.{State}
use Rattle.sm_proof.specs.Reading.{first_line, read}
use Rattle.sm_proof.specs.Versions.{has_exact, may_stand}
use Rattle.sm_proof.specs.Named.{and_then, tested_or}
use Rattle.sm_proof.specs.declared.word.Word.{Word}
use Rattle.sm_proof.specs.declared.word.Word.TheVariants as word
use Rattle.sm_check.specs.declared.checker.Checker.{Checker}
use Rattle.sm_check.specs.declared.checker.State as checker

-- ---- the checker goes on

-- a line that is taken leads on
pub leads_on : (s : Subject) (exact : Bool) (p : Progress) (line : ProofLine) (c : Checker) (state : checker.State) →
    GoesOn s (next_standing s (Underway exact p) (Ok line)) c state →
    (q : Progress) × (taken s.sorts p line ≡ Ok q) × IsAt c s (Ok (Underway exact q))
leads_on s exact p line c state goes = of (may_stand exact line) (taken s.sorts p line) refl refl goes
  where
    of : (b : Bool) (r : Result Progress Word) → may_stand exact line ≡ b → taken s.sorts p line ≡ r →
        GoesOn s (tested_or b word.BadLine (and_then r (λ (q : Progress). Ok (Underway exact q)))) c state →
        (q : Progress) × (taken s.sorts p line ≡ Ok q) × IsAt c s (Ok (Underway exact q))
    of true (Ok q) x y g = (q, y, g.0)
    of true (Err w) x y g = absurd g
    of false r x y g = absurd g

-- a version line that is taken leads to the start
pub leads_in : (s : Subject) (line : ProofLine) (c : Checker) (state : checker.State) →
    GoesOn s (next_standing s Unopened (Ok line)) c state →
    (version : ℕ) × (line ≡ Header version) × (exact : Bool) × IsAt c s (Ok (Underway exact (start_progress s.start)))
leads_in s line c state goes = of (passes_version s line) refl goes
  where
    header : (l : ProofLine) → passes_version s l ≡ true → (version : ℕ) × (l ≡ Header version)
    header (Header version) e = (version, refl)
    header (Term t) e = absurd cc
    header (Form f) e = absurd cc
    header (Node n) e = absurd cc
    header (Cert l) e = absurd cc

    of : (b : Bool) → passes_version s line ≡ b → GoesOn s (opens_if b (has_exact line) s) c state →
        (version : ℕ) × (line ≡ Header version) × (exact : Bool) × IsAt c s (Ok (Underway exact (start_progress s.start)))
    of true e g = let h = header line e in (h.0, h.1, has_exact line, g.0)
    of false e g = absurd g

-- ---- lines that are read

-- the first line of bytes is the first of their lines
first_in : (bytes line : List ℕ) → first_line bytes ≡ Some line →
    (lines_in bytes).ended ≡ line ∷ (lines_in (drop (suc (length line)) bytes)).ended
unfolding first_line
first_in [] line e = absurd cc
first_in (byte ∷ bytes) line e = of (byte == 10) refl e (first_in bytes)
  where
    ended : (b : Bool) → FileLines
    ended b =
        if b then record { ended = [] ∷ (lines_in bytes).ended; rest = (lines_in bytes).rest }
        else in_first_line byte (lines_in bytes).ended (lines_in bytes).rest

    of : (b : Bool) → (byte == 10) ≡ b →
        (if b then Some [] else option_map (λ (l : List ℕ). byte ∷ l) (first_line bytes)) ≡ Some line →
        ((front : List ℕ) → first_line bytes ≡ Some front →
        (lines_in bytes).ended ≡ front ∷ (lines_in (drop (suc (length front)) bytes)).ended) →
        (ended b).ended ≡ line ∷ (lines_in (drop (suc (length line)) (byte ∷ bytes))).ended
    of true x y next =
        let none : [] ≡ line = cc in
        subst (λ (l : List ℕ). [] ∷ (lines_in bytes).ended ≡ l ∷ (lines_in (drop (suc (length l)) (byte ∷ bytes))).ended) none refl
    of false x y next = go (first_line bytes) refl y next
      where
        go : (o : Option (List ℕ)) → first_line bytes ≡ o → option_map (λ (l : List ℕ). byte ∷ l) o ≡ Some line →
            ((front : List ℕ) → first_line bytes ≡ Some front →
            (lines_in bytes).ended ≡ front ∷ (lines_in (drop (suc (length front)) bytes)).ended) →
            (ended false).ended ≡ line ∷ (lines_in (drop (suc (length line)) (byte ∷ bytes))).ended
        go None a b more = absurd cc
        go (Some front) a b more =
            let same : byte ∷ front ≡ line = cc in
            subst (λ (l : List ℕ). (ended false).ended ≡ l ∷ (lines_in (drop (suc (length l)) (byte ∷ bytes))).ended) same
            (ap (λ (ls : List (List ℕ)). (in_first_line byte ls (lines_in bytes).rest).ended) (more front a))

-- a line that was read stands before those that are read behind it
pub read_first : (bytes : List ℕ) (line : ProofLine) (size : ℕ) (lines : List ProofLine) →
    option_map read (first_line bytes) ≡ Some (Ok line) →
    option_map (λ (l : List ℕ). suc (length l)) (first_line bytes) ≡ Some size →
    AreRead (lines_in (drop size bytes)).ended lines → AreRead (lines_in bytes).ended (line ∷ lines)
read_first bytes line size lines is long are = of (first_line bytes) refl is long
  where
    of : (o : Option (List ℕ)) → first_line bytes ≡ o → option_map read o ≡ Some (Ok line) →
        option_map (λ (l : List ℕ). suc (length l)) o ≡ Some size → AreRead (lines_in bytes).ended (line ∷ lines)
    of None a b d = absurd cc
    of (Some front) a b d =
        let spelled : read front ≡ Ok line = cc in
        let size_is : size ≡ suc (length front) = cc in
        subst (λ (ls : List (List ℕ)). AreRead ls (line ∷ lines)) (sym (first_in bytes front a))
        (spelled, subst (λ (k : ℕ). AreRead (lines_in (drop k bytes)).ended lines) size_is are)

-- ---- lines that are counted

-- one more line is counted
pub counted_more : (sorts : Sorts) (p q : Progress) (row : Counted) (rows : List Counted) → HasFacts p.pending row.facts →
    taken sorts p (line_in row) ≡ Ok q → AreCounted sorts q rows → AreCounted sorts p (row ∷ rows)
counted_more sorts p q row rows is to are = (is, q, to, are)

count_due : (sorts : Sorts) (p q : Progress) (pending : List Pending) (l : NumberedLine) (n : ℕ) → taken_at sorts p pending (Cert l) ≡ Ok q →
    HasFacts pending n → facts_due pending ≡ n
count_due sorts p q [] l n e is = absurd cc
count_due sorts p q (Due st above ∷ rest) l n e is = absurd cc
count_due sorts p q (Branch stores facts splits ∷ rest) l n e is = sym is

-- where so many facts stand before each line and each is used, the certificates' lines are
pub counted_used : (sorts : Sorts) (p : Progress) (rows : List Counted) → AreCounted sorts p rows → AreUsed rows →
    AreCertsUsed sorts p (map line_in rows)
counted_used sorts p [] are used = tt
counted_used sorts p (row ∷ rows) are used =
    step (line_in row) are.2 used.0 (λ q same. counted_used sorts q rows (subst (λ (r : Progress). AreCounted sorts r rows) same are.3) used.1)
  where
    next : Progress
    next = are.1

    step : (line : ProofLine) → taken sorts p line ≡ Ok next → IsLineUsed row.facts line (map line_in rows) →
        ((q : Progress) → next ≡ q → AreCertsUsed sorts q (map line_in rows)) → AreCertsUsed sorts p (line ∷ map line_in rows)
    step (Header version) to is go = λ q e. go q cc
    step (Term t) to is go = λ q e. go q cc
    step (Form f) to is go = λ q e. go q cc
    step (Node n) to is go = λ q e. go q cc
    step (Cert l) to is go = (
      subst (λ (n : ℕ). IsCertUsed n l (map line_in rows)) (sym (count_due sorts p next p.pending l row.facts to are.0)) is,
      λ q e. go q cc,
    )

-- ---- the lines of a file

one_reading : (texts : List (List ℕ)) (xs ys : List ProofLine) → AreRead texts xs → AreRead texts ys → xs ≡ ys
one_reading [] [] [] a b = refl
one_reading [] [] (y ∷ ys) a b = absurd b
one_reading [] (x ∷ xs) ys a b = absurd a
one_reading (text ∷ texts) [] ys a b = absurd a
one_reading (text ∷ texts) (x ∷ xs) [] a b = absurd b
one_reading (text ∷ texts) (x ∷ xs) (y ∷ ys) a b =
    let first : x ≡ y = let m = a.0 in let n = b.0 in cc in
    let others = one_reading texts xs ys a.1 b.1 in ap (λ (l : ProofLine). l ∷ xs) first ∙ ap (λ (ls : List ProofLine). y ∷ ls) others

-- a file has used lines where its terms and formulas are named and its certificates' lines are used
pub rows_used : (s : Subject) (bytes : List ℕ) (rows : List Counted) → AreRowsOf s bytes rows → AreUsed rows → HasNamedLines bytes →
    HasUsedLines s bytes
rows_used s bytes rows are used named = (
  Header are.0,
  map line_in rows,
  are.1,
  subst (λ (ls : List ProofLine). AreNamed 0 0 ls)
      (one_reading (lines_in bytes).ended named.0 (Header are.0 ∷ map line_in rows) named.1 are.1) named.2,
  counted_used s.sorts (start_progress s.start) rows are.2 used,
)

-- ---- line by line

-- rows are counted, and a checker stands behind their lines
abbrev pub Goes : Subject → Bool → Progress → List Counted → Checker → Type 0
Goes s exact p rows c =
    (q : Progress) × IsAt c s (Ok (Underway exact q))
    × ((more : List Counted) → AreCounted s.sorts q more → AreCounted s.sorts p (rows ++ more))

-- the lines of bytes are those of rows, and then those of the bytes that are left
abbrev pub Reads : List ℕ → List Counted → List ℕ → Type 0
Reads bytes rows left =
    (more : List ProofLine) → AreRead (lines_in left).ended more → AreRead (lines_in bytes).ended (map line_in rows ++ more)

pub goes_none : (s : Subject) (exact : Bool) (p : Progress) (c : Checker) → IsAt c s (Ok (Underway exact p)) → Goes s exact p [] c
goes_none s exact p c at = (p, at, λ more are. are)

pub goes_more : (s : Subject) (exact : Bool) (p : Progress) (old new : List Counted) (row : Counted) (c d : Checker) →
    new ≡ old ++ row ∷ [] → Goes s exact p old c →
    ((q : Progress) → IsAt c s (Ok (Underway exact q)) → Counts s exact q d row) → Goes s exact p new d
goes_more s exact p old new row c d e goes counts =
    let next = counts goes.0 goes.1 in (
      next.1,
      next.3,
      λ more are.
          subst (AreCounted s.sorts p) (sym (ap (λ (l : List Counted). l ++ more) e ∙ append_assoc old (row ∷ []) more))
          (goes.2 (row ∷ more) (counted_more s.sorts goes.0 next.1 row more next.0 next.2 are)),
    )

pub goes_all : (s : Subject) (exact : Bool) (p : Progress) (rows : List Counted) (c : Checker) → Goes s exact p rows c →
    AreCounted s.sorts p rows
goes_all s exact p rows c goes = subst (AreCounted s.sorts p) (append-nil rows) (goes.2 [] tt)

pub reads_none : (bytes : List ℕ) → Reads bytes [] bytes
reads_none bytes = λ more are. are

pub reads_more : (bytes left : List ℕ) (old new : List Counted) (row : Counted) (line : ProofLine) (size : ℕ) → new ≡ old ++ row ∷ [] →
    line_in row ≡ line → option_map read (first_line left) ≡ Some (Ok line) →
    option_map (λ (l : List ℕ). suc (length l)) (first_line left) ≡ Some size → Reads bytes old left → Reads bytes new (drop size left)
reads_more bytes left old new row line size e same is long reads = λ more are.
    subst (AreRead (lines_in bytes).ended)
    (sym
    (ap (λ (l : List Counted). map line_in l ++ more) e ∙ ap (λ (l : List ProofLine). l ++ more) (map-append line_in old (row ∷ []))
    ∙ append_assoc (map line_in old) (line_in row ∷ []) more))
    (reads (line_in row ∷ more)
    (subst (λ (l : ProofLine). AreRead (lines_in left).ended (l ∷ more)) (sym same) (read_first left line size more is long are)))

pub reads_all : (bytes left : List ℕ) (rows : List Counted) → left ≡ [] → Reads bytes rows left → AreRead (lines_in bytes).ended (map line_in rows)
reads_all bytes left rows none reads =
    subst (AreRead (lines_in bytes).ended) (append-nil (map line_in rows))
    (reads [] (subst (λ (l : List ℕ). AreRead (lines_in l).ended []) (sym none) tt))

-- what was taken behind the version line
pub rows_told : {E : Type 0} (s : Subject) (bytes left : List ℕ) (c : Checker) (r : Result (Vec Counted Global) E) → Opens s bytes left c →
    IfOk r (λ (rows : Vec Counted Global). AreRead (lines_in left).ended (map line_in rows.items)) →
    ((s : Subject) (exact : Bool) (p : Progress) → IsAt c s (Ok (Underway exact p)) →
    IfOk r (λ (rows : Vec Counted Global). AreCounted s.sorts p rows.items)) →
    IfOk r (λ (rows : Vec Counted Global). AreRowsOf s bytes rows.items)
rows_told s bytes left c (Ok rows) opens read counted =
    (opens.0, opens.2 (map line_in rows.items) read, counted s opens.1 (start_progress s.start) opens.3)
rows_told s bytes left c (Err e) opens read counted = tt
