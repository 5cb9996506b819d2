-- Cited by public clauses: how a proof goes on after a line. What is pending stands in a list, of
-- which the first is due. What a line opens takes that one's place.
use Rattle.std.specs.Prelude.{ℕ, suc, ◌==◌, Bool, true, false, ◌&&◌, if◌then◌else◌, is_some, slice_get, length, Option, Some, None, Result, Ok, Err, List, [], ◌∷◌, ◌++◌, map}
use Rattle.sm_syntax.specs.claim.ConflictFree.{Copy, copy_of}
use Rattle.sm_syntax.specs.text.Sorts.{Sorts}
use Rattle.sm_syntax.specs.declared.tree.Sort.{Sort}
use Rattle.sm_syntax.specs.declared.tree.Sort.TheVariants.{Num, Arr}
use Rattle.sm_term.specs.Terms.{Tree, Lit, Start, Slot, Cell, Read, Write, Neg, Add, Sub, Mul}
use Rattle.sm_term.specs.Assertions.{Assertion, Yes, No, Eq, Ne, Le, Lt, And, Or, negate}
use Rattle.sm_term.specs.Heads.{arguments_of}
use Rattle.sm_term.specs.SameTerms.{same_sort}
use Rattle.sm_term.specs.Sorted.{tree_sort}
use Rattle.sm_term.specs.Symbolic.{SymbolicStore}
use Rattle.sm_theory.specs.Facts.{BranchFact, Formal, as_facts}
use Rattle.sm_theory.specs.Lines.{CertificateLine, followed, formula_in}
use Rattle.sm_theory.specs.Ways.{ways}
use Rattle.sm_theory.specs.Named.{is_split}
use Rattle.sm_plan.specs.Limits.{is_shallow}
use Rattle.sm_plan.specs.NodeLists.{above_opened}
use Rattle.sm_plan.specs.Nodes as plan
use Rattle.sm_plan.specs.Nodes.{Opened, opened_by}
use Rattle.sm_plan.specs.States.{State}
use Rattle.sm_proof.specs.declared.line.FormLine.TheVariants as form
use Rattle.sm_proof.specs.declared.line.TermLine.TheVariants as term
use Rattle.sm_proof.specs.declared.word.Head.TheVariants as head
use Rattle.sm_proof.specs.declared.word.Word.TheVariants as word
use Rattle.sm_proof.specs.Lines as line
use Rattle.sm_proof.specs.Lines.{NumberedLine, ProofLine, Header, Term, Form, Node, Cert, TermLine, NodeLine, FormLine}
use Rattle.sm_proof.specs.Named.{found_or, tested_or, and_then, named_line, named_node, node_head, line_head, Word, BadLine, BadNumber, Extra, Deep, First}

-- what is pending: a state that waits for its node, under this many branching nodes; or a branch
-- that waits to be closed, with the stores of the state whose goal it denies, its facts, and under
-- this many splits
pub data Pending : Type 0 where
  Due : State → ℕ → Pending
  Branch : (Copy → SymbolicStore) → List BranchFact → ℕ → Pending

-- a proof on its way: how many nodes it has, its terms and formulas by their numbers, and what is
-- pending
pub record Progress : Type 0 where
  pub nodes : ℕ
  pub terms : List Tree
  pub forms : List Assertion
  pub pending : List Pending

-- the start of a proof: a state waits
abbrev pub start_progress : State → Progress
start_progress st = record { nodes = 0; terms = []; forms = []; pending = Due st 0 ∷ [] }

-- the branch of a goal: the facts, and that the goal doesn't hold
abbrev pub goal_branch : State → Assertion → Pending
goal_branch st goal = Branch st.stores (as_facts st.facts ++ Formal (negate goal) ∷ []) 0

-- what a node opens: the branches of its goals and then its states, before what was pending
abbrev pub opened_before : State → ℕ → Opened → List Pending → List Pending
opened_before st above q rest =
    map (goal_branch st) q.goals ++ (map (λ (next : State). Due next above) q.states ++ rest)

-- the proof after a node at the state that is due: not too many branching nodes may stand above
-- what it opens, and its rule must fit
abbrev pub after_node :
    Progress → State → ℕ → List Pending → NodeLine → plan.Node → Result Progress Word
after_node p st above rest line node =
    let above_it = above_opened node above in
    tested_or (is_shallow above_it) Deep
    (found_or (opened_by p.nodes st node) (First (node_head line))
    (λ (q : Opened).
    Ok (record p { nodes = suc p.nodes; pending = opened_before st above_it q rest })))

-- the ways in which a branch goes on, before what was pending
abbrev pub branches_before :
    (Copy → SymbolicStore) → List BranchFact → ℕ → List (List BranchFact) → List Pending →
    List Pending
branches_before stores facts splits to rest =
    map (λ (way : List BranchFact). Branch stores (facts ++ way) splits) to ++ rest

-- the proof after a line of a certificate on the branch that is due: not too many splits may stand
-- above what it opens, and its condition must hold
abbrev pub after_line :
    Sorts → Progress → (Copy → SymbolicStore) → List BranchFact → ℕ → List Pending → NumberedLine →
    CertificateLine → Result Progress Word
after_line sorts p stores facts splits rest written line =
    let splits_over = if is_split written then suc splits else splits in
    tested_or (is_shallow splits_over) Deep
    (found_or (ways sorts facts line) (First (line_head written))
    (λ (to : List (List BranchFact)).
    Ok (record p { pending = branches_before stores facts splits_over to rest })))

-- the present term of a copy's name
abbrev pub present_term : Pending → Copy → ℕ → Tree
present_term (Due st above) c x = st.stores c x
present_term (Branch stores facts splits) c x = stores c x

-- the terms that a formula compares
abbrev pub compared : Assertion → Option (Tree × Tree)
compared Yes = None
compared No = None
compared (Eq sort t u) = Some (t, u)
compared (Ne sort t u) = Some (t, u)
compared (Le t u) = Some (t, u)
compared (Lt t u) = Some (t, u)
compared (And p q) = None
compared (Or p q) = None

-- the left one for side 0, and otherwise the right one
abbrev pub side_of : ℕ → Tree × Tree → Tree
side_of side pair = if side == 0 then pair.0 else pair.1

-- a term of a fact of the branch that is due
abbrev pub term_of_fact : Pending → ℕ → ℕ → Result Tree Word
term_of_fact (Due st above) n side = Err word.Order
term_of_fact (Branch stores facts splits) n side =
    found_or (slice_get facts n) BadNumber
    (λ (k : BranchFact).
    found_or (followed (formula_in k) compared) (First head.T)
    (λ (pair : Tree × Tree). Ok (side_of side pair)))

-- a term of a declared name
abbrev pub of_name : Sorts → ℕ → Tree → Result Tree Word
of_name sorts x t = tested_or (is_some (sorts x)) BadNumber (Ok t)

-- goes on with the term that has a number
abbrev pub with_tree : List Tree → ℕ → (Tree → Result Tree Word) → Result Tree Word
with_tree terms t next = found_or (slice_get terms t) BadNumber next

-- whether a term has a sort
abbrev pub is_of : Sorts → Sort → Tree → Bool
is_of sorts sort t = same_sort (tree_sort sorts t) sort

-- an operation on two numbers that have been named
abbrev pub of_two : Sorts → List Tree → ℕ → ℕ → (Tree → Tree → Tree) → Result Tree Word
of_two sorts terms t u operation =
    with_tree terms t
    (λ (a : Tree). with_tree terms u
    (λ (b : Tree).
    tested_or (is_of sorts Num a && is_of sorts Num b) (First head.T) (Ok (operation a b))))

-- the term that a line makes
abbrev pub term_made : Sorts → List Tree → Pending → TermLine → Result Tree Word
term_made sorts terms due (term.Lit z) = Ok (Lit z)
term_made sorts terms due (term.Start x) = of_name sorts x (Start x)
term_made sorts terms due term.Cell = Ok Cell
term_made sorts terms due (term.Slot c x) = of_name sorts x (Slot (copy_of c) x)
term_made sorts terms due (term.Cur c x) = of_name sorts x (present_term due (copy_of c) x)
term_made sorts terms due (term.Of n side) = term_of_fact due n side
term_made sorts terms due (term.Arg t k) =
    with_tree terms t (λ (a : Tree). found_or (slice_get (arguments_of a) k) (First head.T) Ok)
term_made sorts terms due (term.Read t u) =
    with_tree terms t
    (λ (a : Tree). with_tree terms u
    (λ (i : Tree).
    tested_or (is_of sorts Arr a && is_of sorts Num i) (First head.T) (Ok (Read a i))))
term_made sorts terms due (term.Write t u v) =
    with_tree terms t
    (λ (a : Tree). with_tree terms u
    (λ (i : Tree). with_tree terms v
    (λ (e : Tree).
    tested_or (is_of sorts Arr a && (is_of sorts Num i && is_of sorts Num e)) (First head.T)
    (Ok (Write a i e)))))
term_made sorts terms due (term.Neg t) =
    with_tree terms t
    (λ (a : Tree). tested_or (is_of sorts Num a) (First head.T) (Ok (Neg a)))
term_made sorts terms due (term.Add t u) = of_two sorts terms t u Add
term_made sorts terms due (term.Sub t u) = of_two sorts terms t u Sub
term_made sorts terms due (term.Mul t u) = of_two sorts terms t u Mul

-- a formula about two terms that have been named, where a test of them passes
abbrev pub form_about :
    List Tree → ℕ → ℕ → (Tree → Tree → Bool) → (Tree → Tree → Assertion) → Result Assertion Word
form_about terms t u test makes =
    found_or (slice_get terms t) BadNumber
    (λ (a : Tree). found_or (slice_get terms u) BadNumber
    (λ (b : Tree). tested_or (test a b) (First head.P) (Ok (makes a b))))

-- a formula of two that have been named
abbrev pub form_from :
    List Assertion → ℕ → ℕ → (Assertion → Assertion → Assertion) → Result Assertion Word
form_from forms p q makes =
    found_or (slice_get forms p) BadNumber
    (λ (f : Assertion). found_or (slice_get forms q) BadNumber
    (λ (g : Assertion). Ok (makes f g)))

-- whether two terms have one sort
abbrev pub have_one_sort : Sorts → Tree → Tree → Bool
have_one_sort sorts a b = same_sort (tree_sort sorts a) (tree_sort sorts b)

-- whether two terms are numbers
abbrev pub are_numbers : Sorts → Tree → Tree → Bool
are_numbers sorts a b = is_of sorts Num a && is_of sorts Num b

-- the formula that a line makes
abbrev pub form_made : Sorts → List Tree → List Assertion → FormLine → Result Assertion Word
form_made sorts terms forms form.Yes = Ok Yes
form_made sorts terms forms form.No = Ok No
form_made sorts terms forms (form.Eq t u) =
    form_about terms t u (have_one_sort sorts) (λ (a b : Tree). Eq (tree_sort sorts a) a b)
form_made sorts terms forms (form.Ne t u) =
    form_about terms t u (have_one_sort sorts) (λ (a b : Tree). Ne (tree_sort sorts a) a b)
form_made sorts terms forms (form.Le t u) = form_about terms t u (are_numbers sorts) Le
form_made sorts terms forms (form.Lt t u) = form_about terms t u (are_numbers sorts) Lt
form_made sorts terms forms (form.And p q) = form_from forms p q And
form_made sorts terms forms (form.Or p q) = form_from forms p q Or

-- the proof after a line, where the first of these is pending
abbrev pub taken_at : Sorts → Progress → List Pending → ProofLine → Result Progress Word
taken_at sorts p [] (Header version) = Err BadLine
taken_at sorts p [] (Term line) = Err Extra
taken_at sorts p [] (Form line) = Err Extra
taken_at sorts p [] (Node line) = Err Extra
taken_at sorts p [] (Cert line) = Err Extra
taken_at sorts p (due ∷ rest) (Header version) = Err BadLine
taken_at sorts p (due ∷ rest) (Term line) =
    and_then (term_made sorts p.terms due line)
    (λ (t : Tree). Ok (record p { terms = p.terms ++ t ∷ [] }))
taken_at sorts p (due ∷ rest) (Form line) =
    and_then (form_made sorts p.terms p.forms line)
    (λ (f : Assertion). Ok (record p { forms = p.forms ++ f ∷ [] }))
taken_at sorts p (Due st above ∷ rest) (Node line) =
    found_or (named_node p.forms line) BadNumber (after_node p st above rest line)
taken_at sorts p (Due st above ∷ rest) (Cert line) = Err word.Order
taken_at sorts p (Branch stores facts splits ∷ rest) (Node line) = Err word.Order
taken_at sorts p (Branch stores facts splits ∷ rest) (Cert line) =
    found_or (named_line p.terms (length facts) line) BadNumber
    (after_line sorts p stores facts splits rest line)

-- the proof after a line, or the word by which the line is refused
abbrev pub taken : Sorts → Progress → ProofLine → Result Progress Word
taken sorts p line = taken_at sorts p p.pending line
