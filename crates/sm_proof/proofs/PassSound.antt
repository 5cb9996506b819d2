-- A file that passes makes the start of its task sound: each line keeps the proof fine, and where nothing is pending in the end, all that
-- ever was is shown.
use Rattle.sm_proof.proofs.Imports.{◌≡◌, ℕ, suc, Bool, true, false, if◌then◌else◌, Ok, Err, List, [], ◌∷◌, ◌++◌, refl, subst, sym, Task, sort_of, task_of, Sorts, Tree, Assertion, start_state, IsSound, IsTaskSorted, start_below, ProofLine, Header, Term, Form, Node, Cert, Pending, Due, Branch, Progress, start_progress, term_made, form_made, taken_at, taken, Subject, subject_of, passes_version, Standing, Unopened, Underway, opens_if, next_standing, Reached, Refused, Before, reached_after, reached, lines_in, Pass, Rejected, none_waits, verdict_at_end, and_then, read, has_exact, may_stand, read_with, PassIsFree}
use Rattle.std.proofs.Common.{Result}
use Rattle.sm_plan.proofs.SortedStates.{start_sorted}
use Rattle.sm_plan.proofs.PlanSound.{start_conflict_free}
use Rattle.sm_proof.specs.declared.word.Word.TheVariants as word
use Rattle.sm_proof.specs.Named.{Word}
use Rattle.sm_proof.proofs.ProgressLemmas.{Each, IsTreeFine, IsFormFine, IsPendingFine, IsFine, IsShown, GoesOn, each_append, tested_from, made_from, same_end}
use Rattle.sm_proof.proofs.TermLinesKept.{term_made_fine, form_made_fine}
use Rattle.sm_proof.proofs.NodesKept.{node_goes}
use Rattle.sm_proof.proofs.CertLinesKept.{line_goes}

-- a line that makes a term changes nothing that is pending
term_goes : (sorts : Sorts) (p : Progress) (t : Tree) → IsFine sorts p → IsTreeFine sorts p.nodes t →
    GoesOn sorts p (record p { terms = p.terms ++ t ∷ [] })
term_goes sorts p t fine new = record {
  fine = record {
    terms = each_append (IsTreeFine sorts p.nodes) p.terms (t ∷ []) fine.terms (new, tt);
    forms = fine.forms;
    pending = fine.pending;
  };
  shown = λ (all : Each IsShown p.pending). all;
}

-- a line that makes a formula changes nothing that is pending
form_goes : (sorts : Sorts) (p : Progress) (f : Assertion) → IsFine sorts p → IsFormFine sorts p.nodes f →
    GoesOn sorts p (record p { forms = p.forms ++ f ∷ [] })
form_goes sorts p f fine new = record {
  fine = record {
    terms = fine.terms;
    forms = each_append (IsFormFine sorts p.nodes) p.forms (f ∷ []) fine.forms (new, tt);
    pending = fine.pending;
  };
  shown = λ (all : Each IsShown p.pending). all;
}

-- a line that is taken, by what is pending
taken_goes : (sorts : Sorts) (p : Progress) (pending : List Pending) (line : ProofLine) (q : Progress) →
    p.pending ≡ pending → IsFine sorts p → taken_at sorts p pending line ≡ Ok q →
    GoesOn sorts p q
taken_goes sorts p [] (Header version) q is fine e = absurd cc
taken_goes sorts p [] (Term line) q is fine e = absurd cc
taken_goes sorts p [] (Form line) q is fine e = absurd cc
taken_goes sorts p [] (Node line) q is fine e = absurd cc
taken_goes sorts p [] (Cert line) q is fine e = absurd cc
taken_goes sorts p (due ∷ rest) (Header version) q is fine e = absurd cc
taken_goes sorts p (due ∷ rest) (Term line) q is fine e =
    let end : Tree → Result Progress Word = λ (t : Tree). Ok (record p { terms = p.terms ++ t ∷ [] }) in
    let a = made_from (term_made sorts p.terms due line) end q e in
    let pending = subst (Each (IsPendingFine sorts p.nodes)) is fine.pending in
    subst (GoesOn sorts p) (same_end (record p { terms = p.terms ++ a.0 ∷ [] }) q a.2)
    (term_goes sorts p a.0 fine (term_made_fine sorts p.nodes p.terms due line a.0 fine.terms pending.0 a.1))
taken_goes sorts p (due ∷ rest) (Form line) q is fine e =
    let end : Assertion → Result Progress Word = λ (f : Assertion). Ok (record p { forms = p.forms ++ f ∷ [] }) in
    let a = made_from (form_made sorts p.terms p.forms line) end q e in
    subst (GoesOn sorts p) (same_end (record p { forms = p.forms ++ a.0 ∷ [] }) q a.2)
    (form_goes sorts p a.0 fine (form_made_fine sorts p.nodes p.terms p.forms line a.0 fine.terms fine.forms a.1))
taken_goes sorts p (Due st above ∷ rest) (Node line) q is fine e = node_goes sorts p st above rest line q is fine e
taken_goes sorts p (Due st above ∷ rest) (Cert line) q is fine e = absurd cc
taken_goes sorts p (Branch stores facts splits ∷ rest) (Node line) q is fine e = absurd cc
taken_goes sorts p (Branch stores facts splits ∷ rest) (Cert line) q is fine e = line_goes sorts p stores facts splits rest line q is fine e

-- what was read, on a proof on its way, leads to another
pub underway_from : (s : Subject) (exact : Bool) (p : Progress) (read : Result ProofLine Word) (after : Standing) →
    next_standing s (Underway exact p) read ≡ Ok after →
    (line : ProofLine) × (q : Progress) × (taken s.sorts p line ≡ Ok q) × (Underway exact q ≡ after)
underway_from s exact p (Err w) after e = absurd cc
underway_from s exact p (Ok line) after e =
    let end : Progress → Result Standing Word = λ (q : Progress). Ok (Underway exact q) in
    let b = tested_from (may_stand exact line) word.BadLine (and_then (taken s.sorts p line) end) after e in
    let a = made_from (taken s.sorts p line) end after b.1 in
    (line, a.0, a.1, same_end (Underway exact a.0) after a.2)

-- what was read as the first line leads to the start
opened_from : (s : Subject) (read : Result ProofLine Word) (after : Standing) → next_standing s Unopened read ≡ Ok after →
    (exact : Bool) × (Underway exact (start_progress s.start) ≡ after)
opened_from s (Err w) after e = absurd cc
opened_from s (Ok line) after e = (has_exact line, of (passes_version s line) e)
  where
    of : (test : Bool) → opens_if test (has_exact line) s ≡ Ok after → Underway (has_exact line) (start_progress s.start) ≡ after
    of true h = same_end (Underway (has_exact line) (start_progress s.start)) after h
    of false h = absurd cc

-- lines that aren't refused: the first was taken, and the others from there
pub reached_from : (n : ℕ) (r : Result Standing Word) (next : Standing → Reached) (m : ℕ) (end : Standing) →
    reached_after n r next ≡ Before m end →
    (after : Standing) × (r ≡ Ok after) × (next after ≡ Before m end)
reached_from n (Err w) next m end e = absurd cc
reached_from n (Ok after) next m end e = (after, refl, e)

-- nothing is pending
none_pending : (pending : List Pending) → none_waits pending ≡ true → Each IsShown pending
none_pending [] e = tt
none_pending (due ∷ rest) e = absurd cc

-- where lines end a proof, all that was pending before them is shown
lines_show : (s : Subject) (lines : List (List ℕ)) (n : ℕ) (exact : Bool) (p : Progress) (m : ℕ) (last : Bool) (q : Progress) →
    IsFine s.sorts p → reached s n (Underway exact p) lines ≡ Before m (Underway last q) → none_waits q.pending ≡ true →
    Each IsShown p.pending
lines_show s [] n exact p m last q fine e done =
    let same : p ≡ q = cc in subst (λ (r : Progress). Each IsShown r.pending) (sym same) (none_pending q.pending done)
lines_show s (bytes ∷ lines) n exact p m last q fine e done =
    let later = λ (after : Standing). reached s (suc n) after lines in
    let a = reached_from n (next_standing s (Underway exact p) (read_with exact bytes)) later m (Underway last q) e in
    let b = underway_from s exact p (read_with exact bytes) a.0 a.1 in
    let goes = taken_goes s.sorts p p.pending b.0 b.1 refl fine b.2 in
    goes.shown (lines_show s lines (suc n) exact b.1 m last q goes.fine
    (subst (λ (after : Standing). reached s (suc n) after lines ≡ Before m (Underway last q)) (sym b.3) a.2) done)

-- a whole file: its first line opens the proof
file_shows : (s : Subject) (lines : List (List ℕ)) (m : ℕ) (last : Bool) (q : Progress) → IsFine s.sorts (start_progress s.start) →
    reached s 1 Unopened lines ≡ Before m (Underway last q) → none_waits q.pending ≡ true →
    IsSound s.start
file_shows s [] m last q fine e done = absurd cc
file_shows s (bytes ∷ lines) m last q fine e done =
    let later = λ (after : Standing). reached s 2 after lines in
    let a = reached_from 1 (next_standing s Unopened (read bytes)) later m (Underway last q) e in
    let b = opened_from s (read bytes) a.0 a.1 in
    (lines_show s lines 2 b.0 (start_progress s.start) m last q fine
    (subst (λ (after : Standing). reached s 2 after lines ≡ Before m (Underway last q)) (sym b.1) a.2) done).0

-- a file passes: its lines were taken to the end, nothing is pending, and no bytes are left
pub pass_from : (r : Reached) (rest : List ℕ) → verdict_at_end r rest ≡ Pass →
    (n : ℕ) × (exact : Bool) × (p : Progress) × (r ≡ Before n (Underway exact p)) × (none_waits p.pending ≡ true) × (rest ≡ [])
pass_from (Refused n w) rest e = absurd cc
pass_from (Before n Unopened) [] e = absurd cc
pass_from (Before n (Underway exact p)) [] e = (n, exact, p, refl, of (none_waits p.pending) e, refl)
  where
    of : (done : Bool) → (if done then Pass else Rejected n word.Truncated) ≡ Pass → done ≡ true
    of true h = refl
    of false h = absurd cc
pass_from (Before n standing) (byte ∷ rest) e = absurd cc

-- the start of a task whose names stand as they are declared
start_fine : (sorts : Sorts) (t : Task) → IsTaskSorted sorts t → IsFine sorts (start_progress (start_state t))
start_fine sorts t sorted = record { terms = tt; forms = tt; pending = ((start_sorted sorts t sorted, start_below 0 t), tt) }

-- a file that passes makes its task free of conflicts
pub pass_free : PassIsFree
pass_free t bytes sorted pass =
    let s = subject_of t in
    let lines = lines_in bytes in
    let a = pass_from (reached s 1 Unopened lines.ended) lines.rest pass in
    start_conflict_free (task_of t)
    (file_shows s lines.ended a.0 a.1 a.2 (start_fine (sort_of t.declared) (task_of t) sorted) a.3 a.4)
