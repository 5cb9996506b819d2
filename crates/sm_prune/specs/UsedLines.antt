-- Cited by public clauses: which lines of a proof file are used.
use Rattle.std.specs.Prelude.{◌≡◌, ℕ, zero, suc, nat_eq, Bool, true, false, ◌||◌, IsTrue, if◌then◌else◌, Ok, List, [], ◌∷◌, length}
use Rattle.std.specs.List.{list_any}
use Rattle.sm_syntax.specs.text.Sorts.{Sorts}
use Rattle.sm_theory.specs.Named.{facts_named, reads_all, is_closing, facts_added, is_split}
use Rattle.sm_proof.specs.declared.line.TermLine.TheVariants as term
use Rattle.sm_proof.specs.Cases.{AreRead}
use Rattle.sm_proof.specs.Lines.{NumberedLine, ProofLine, Header, Term, Form, Node, Cert}
use Rattle.sm_proof.specs.declared.line.TermLine.{TermLine}
use Rattle.sm_proof.specs.Passing.{Pending, Due, Branch, Progress, start_progress, taken}
use Rattle.sm_proof.specs.Verdicts.{Subject, lines_in}
use Rattle.sm_prune.specs.LineNumbers.{names_term, names_form}

-- each line that makes a term or a formula is named by a later one, where so many terms and formulas
-- stand before these lines
abbrev pub AreNamed : ℕ → ℕ → List ProofLine → Type 0
AreNamed terms forms [] = Unit {0}
AreNamed terms forms (Header version ∷ lines) = AreNamed terms forms lines
AreNamed terms forms (Term t ∷ lines) =
    IsTrue (list_any (names_term terms) lines) × AreNamed (suc terms) forms lines
AreNamed terms forms (Form f ∷ lines) =
    IsTrue (list_any (names_form forms) lines) × AreNamed terms (suc forms) lines
AreNamed terms forms (Node n ∷ lines) = AreNamed terms forms lines
AreNamed terms forms (Cert l ∷ lines) = AreNamed terms forms lines

-- the lines of a file are so
abbrev pub HasNamedLines : List ℕ → Type 0
HasNamedLines bytes =
    (lines : List ProofLine) × AreRead (lines_in bytes).ended lines × AreNamed 0 0 lines

-- whether a line `t` names fact n
abbrev pub term_names_fact : ℕ → TermLine → Bool
term_names_fact n (term.Of m side) = nat_eq n m
term_names_fact n t = false

-- whether a line names fact n, which stands before it on its branch: a line `exact` names all of these
abbrev pub line_names_fact : ℕ → ProofLine → Bool
line_names_fact n (Header version) = false
line_names_fact n (Term t) = term_names_fact n t
line_names_fact n (Form f) = false
line_names_fact n (Node m) = false
line_names_fact n (Cert l) = reads_all l || list_any (nat_eq n) (facts_named l)

-- how many branches wait to be closed after a line on the first of them, where so many others wait
abbrev pub branches_after : ℕ → ProofLine → ℕ
branches_after others (Header version) = suc others
branches_after others (Term t) = suc others
branches_after others (Form f) = suc others
branches_after others (Node n) = suc others
branches_after others (Cert l) =
    if is_closing l then others else (if is_split l then suc (suc others) else suc others)

-- the lines by which so many branches are closed, the parts of each with it
abbrev pub closing_lines : ℕ → List ProofLine → List ProofLine
closing_lines zero lines = []
closing_lines (suc k) [] = []
closing_lines (suc k) (line ∷ lines) = line ∷ closing_lines (branches_after k line) lines

-- the lines behind those by which so many branches are closed
abbrev pub lines_behind : ℕ → List ProofLine → List ProofLine
lines_behind zero lines = lines
lines_behind (suc k) [] = []
lines_behind (suc k) (line ∷ lines) = lines_behind (branches_after k line) lines

-- whether one of the lines by which a branch is closed names fact n
abbrev pub is_fact_named : List ProofLine → ℕ → Bool
is_fact_named lines n = list_any (line_names_fact n) (closing_lines 1 lines)

-- whether one of k facts from n on is named so
abbrev pub is_one_named : List ProofLine → ℕ → ℕ → Bool
is_one_named lines zero n = false
is_one_named lines (suc k) n = is_fact_named lines n || is_one_named lines k (suc n)

-- a line is used that closes its branch; or that splits it, where in each of the two parts a line
-- names the fact that it adds there; or behind which a line on its branch names one of k facts that it
-- adds
abbrev pub IsUsedBy : (closes splits : Bool) → (k facts : ℕ) → List ProofLine → Type 0
IsUsedBy true splits k facts lines = Unit {0}
IsUsedBy false true k facts lines =
    IsTrue (is_fact_named lines facts) × IsTrue (is_fact_named (lines_behind 1 lines) facts)
IsUsedBy false false k facts lines = IsTrue (is_one_named lines k facts)

-- a line of a certificate is used, where so many facts stand before it and these lines behind it
abbrev pub IsCertUsed : ℕ → NumberedLine → List ProofLine → Type 0
IsCertUsed facts l lines = IsUsedBy (is_closing l) (is_split l) (facts_added l) facts lines

-- how many facts the branch has that is due
abbrev pub facts_due : List Pending → ℕ
facts_due [] = 0
facts_due (Due st above ∷ rest) = 0
facts_due (Branch stores facts splits ∷ rest) = length facts

-- each line of a certificate is used, from a proof on its way on
abbrev pub AreCertsUsed : Sorts → Progress → List ProofLine → Type 0
AreCertsUsed sorts p [] = Unit {0}
AreCertsUsed sorts p (Cert l ∷ lines) =
    IsCertUsed (facts_due p.pending) l lines
    × ((q : Progress) → taken sorts p (Cert l) ≡ Ok q → AreCertsUsed sorts q lines)
AreCertsUsed sorts p (line ∷ lines) =
    (q : Progress) → taken sorts p line ≡ Ok q → AreCertsUsed sorts q lines

-- each line of a file on a subject is used: its version line, nodes and lines that close branches
-- are, another where a later line names what it makes or adds. So that later line is used too.
abbrev pub HasUsedLines : Subject → List ℕ → Type 0
HasUsedLines s bytes =
    (first : ProofLine)
    × (lines : List ProofLine)
    × AreRead (lines_in bytes).ended (first ∷ lines)
    × AreNamed 0 0 lines
    × AreCertsUsed s.sorts (start_progress s.start) lines
