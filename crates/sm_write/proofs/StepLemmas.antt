-- Where a proof comes by one line.
use Rattle.sm_write.proofs.Imports.{◌≡◌, ℕ, suc, Bool, true, if◌then◌else◌, Option, Some, Result, Ok, List, [], ◌∷◌, ◌++◌, length, ap, ◌∙◌, Copy, Sorts, Assertion, SymbolicStore, Tree, BranchFact, CertificateLine, ways, is_split, is_shallow, above_opened, opened_by, State, NumberedLine, Form, Cert, TermLine, NodeLine, FormLine, found_or, tested_or, and_then, named_line, named_node, node_head, line_head, Word, BadNumber, Deep, First, Pending, Branch, Progress, opened_before, branches_before, term_made, form_made, taken_at, after_node, after_line, taken}
use Rattle.sm_plan.specs.Nodes as plan
use Rattle.sm_plan.specs.Nodes.{Opened}
use Rattle.sm_proof.specs.Lines.{Term, Node}
use Rattle.sm_proof.specs.Passing.{Due}

-- a line that makes a term
pub term_step : (sorts : Sorts) (p : Progress) (due : Pending) (rest : List Pending) (line : TermLine) (t : Tree) → p.pending ≡ due ∷ rest →
    term_made sorts p.terms due line ≡ Ok t → taken sorts p (Term line) ≡ Ok (record p { terms = p.terms ++ t ∷ [] })
term_step sorts p due rest line t is made =
    ap (λ (ps : List Pending). taken_at sorts p ps (Term line)) is
    ∙ ap (λ (r : Result Tree Word). and_then r (λ (u : Tree). Ok (record p { terms = p.terms ++ u ∷ [] }))) made

-- one that makes a formula
pub form_step : (sorts : Sorts) (p : Progress) (due : Pending) (rest : List Pending) (line : FormLine) (f : Assertion) →
    p.pending ≡ due ∷ rest → form_made sorts p.terms p.forms line ≡ Ok f →
    taken sorts p (Form line) ≡ Ok (record p { forms = p.forms ++ f ∷ [] })
form_step sorts p due rest line f is made =
    ap (λ (ps : List Pending). taken_at sorts p ps (Form line)) is
    ∙ ap (λ (r : Result Assertion Word). and_then r (λ (g : Assertion). Ok (record p { forms = p.forms ++ g ∷ [] }))) made

-- what a node's line leads to
abbrev pub after_opening : Progress → State → ℕ → List Pending → Opened → Progress
after_opening p st above rest q = record p { nodes = suc p.nodes; pending = opened_before st above q rest }

-- a node
pub node_step : (sorts : Sorts) (p : Progress) (st : State) (above : ℕ) (rest : List Pending) (line : NodeLine) (node : plan.Node) (q : Opened) →
    p.pending ≡ Due st above ∷ rest → named_node p.forms line ≡ Some node → is_shallow (above_opened node above) ≡ true →
    opened_by p.nodes st node ≡ Some q →
    taken sorts p (Node line) ≡ Ok (after_opening p st (above_opened node above) rest q)
node_step sorts p st above rest line node q is named few opens =
    ap (λ (ps : List Pending). taken_at sorts p ps (Node line)) is
    ∙ (ap (λ (o : Option plan.Node). found_or o BadNumber (after_node p st above rest line)) named
    ∙ (ap
    (λ (b : Bool). tested_or b Deep
    (found_or (opened_by p.nodes st node) (First (node_head line))
    (λ (r : Opened). Ok (after_opening p st (above_opened node above) rest r)))) few
    ∙ ap
    (λ (o : Option Opened). found_or o (First (node_head line))
    (λ (r : Opened). Ok (after_opening p st (above_opened node above) rest r))) opens))

-- what a line of a certificate leads to
abbrev pub after_ways :
    Progress → (Copy → SymbolicStore) → List BranchFact → ℕ → List Pending → NumberedLine → List (List BranchFact) → Progress
after_ways p stores facts splits rest l to =
    record p { pending = branches_before stores facts (if is_split l then suc splits else splits) to rest }

-- a line of a certificate
pub cert_step : (sorts : Sorts) (p : Progress) (stores : Copy → SymbolicStore) (facts : List BranchFact) (splits : ℕ) (rest : List Pending)
    (l : NumberedLine) (line : CertificateLine) (to : List (List BranchFact)) →
    p.pending ≡ Branch stores facts splits ∷ rest → named_line p.terms (length facts) l ≡ Some line →
    is_shallow (if is_split l then suc splits else splits) ≡ true → ways sorts facts line ≡ Some to →
    taken sorts p (Cert l) ≡ Ok (after_ways p stores facts splits rest l to)
cert_step sorts p stores facts splits rest l line to is named few goes =
    ap (λ (ps : List Pending). taken_at sorts p ps (Cert l)) is
    ∙ (ap (λ (o : Option CertificateLine). found_or o BadNumber (after_line sorts p stores facts splits rest l)) named
    ∙ (ap
    (λ (b : Bool). tested_or b Deep
    (found_or (ways sorts facts line) (First (line_head l))
    (λ (w : List (List BranchFact)). Ok (after_ways p stores facts splits rest l w)))) few
    ∙ ap
    (λ (o : Option (List (List BranchFact))). found_or o (First (line_head l))
    (λ (w : List (List BranchFact)). Ok (after_ways p stores facts splits rest l w))) goes))
