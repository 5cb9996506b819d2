-- A line by other numbers takes a proof with other terms and formulas to where the line takes the proof.
use Rattle.sm_prune.proofs.Imports.{◌≡◌, ℕ, suc, Bool, true, if◌then◌else◌, Option, Some, None, slice_get, length, Result, Ok, List, [], ◌∷◌, ◌++◌, refl, ap, sym, ◌∙◌, Sorts, Assertion, Tree, CertificateLine, terms_named, with_terms, is_split, splits_with, State, NumberedLine, Header, Term, Form, Node, Cert, TermLine, NodeLine, FormLine, found_or, tested_or, and_then, named_line, named_node, node_head, line_head, Word, Pending, Due, Branch, Progress, term_made, form_made, taken_at, opened_before, branches_before, after_node, after_line, found_from, tested_from, made_from, same_end, terms_of_term, terms_of_form, forms_of_form, forms_of_node, renumbered_term, renumbered_form, renumbered_node}
use Rattle.sm_syntax.specs.claim.ConflictFree.{Copy}
use Rattle.sm_term.specs.Symbolic.{SymbolicStore}
use Rattle.sm_theory.specs.Facts.{BranchFact}
use Rattle.sm_theory.specs.Ways.{ways}
use Rattle.sm_plan.specs.Limits.{is_shallow}
use Rattle.sm_plan.specs.NodeLists.{above_opened}
use Rattle.sm_plan.specs.Nodes as plan
use Rattle.sm_proof.specs.Lines as line
use Rattle.sm_proof.specs.declared.word.Word.TheVariants.{BadNumber, Deep, First}
use Rattle.sm_prune.proofs.CarriedLemmas.{EachStands}
use Rattle.sm_prune.proofs.LineMoves.{term_moves, form_moves, node_moves, cert_moves}

-- a proof with other terms and formulas
abbrev pub over : Progress → List Tree → List Assertion → Progress
over p ys gs = record p { terms = ys; forms = gs }

-- a version line is never taken
pub header_refused : (sorts : Sorts) (p q : Progress) (pending : List Pending) (version : ℕ) →
    taken_at sorts p pending (Header version) ≡ Ok q → ⊥
header_refused sorts p q [] version e = absurd cc
header_refused sorts p q (due ∷ rest) version e = absurd cc

-- a line that makes a term
pub record TermTaken (sorts : Sorts) (p q : Progress) (ys : List Tree) (gs : List Assertion) (pending : List Pending) (l : TermLine)
    : Type 0 where
  pub made : Tree
  pub is : q ≡ record p { terms = p.terms ++ made ∷ [] }
  pub goes : taken_at sorts (over p ys gs) pending (Term l) ≡ Ok (over p (ys ++ made ∷ []) gs)

pub term_taken : (sorts : Sorts) (move : ℕ → ℕ) (p q : Progress) (ys : List Tree) (gs : List Assertion) (pending : List Pending)
    (l : TermLine) → EachStands move p.terms ys (terms_of_term l) → taken_at sorts p pending (Term l) ≡ Ok q →
    TermTaken sorts p q ys gs pending (renumbered_term move l)
term_taken sorts move p q ys gs [] l h e = absurd cc
term_taken sorts move p q ys gs (due ∷ rest) l h e =
    let next : Tree → Result Progress Word = λ (t : Tree). Ok (record p { terms = p.terms ++ t ∷ [] }) in
    let made = made_from (term_made sorts p.terms due l) next q e in
    record {
      made = made.0;
      is = sym (same_end (record p { terms = p.terms ++ made.0 ∷ [] }) q made.2);
      goes = ap (λ (r : Result Tree Word). and_then r (λ (t : Tree). Ok (over p (ys ++ t ∷ []) gs)))
          (term_moves sorts move p.terms ys due l made.0 h made.1);
    }

-- where such a line goes, the proof has one term more
pub term_past : (sorts : Sorts) (p q : Progress) (pending : List Pending) (l : TermLine) → taken_at sorts p pending (Term l) ≡ Ok q →
    (t : Tree) × (q ≡ record p { terms = p.terms ++ t ∷ [] })
term_past sorts p q [] l e = absurd cc
term_past sorts p q (due ∷ rest) l e =
    let next : Tree → Result Progress Word = λ (t : Tree). Ok (record p { terms = p.terms ++ t ∷ [] }) in
    let made = made_from (term_made sorts p.terms due l) next q e in
    (made.0, sym (same_end (record p { terms = p.terms ++ made.0 ∷ [] }) q made.2))

-- a line that makes a formula
pub record FormTaken (sorts : Sorts) (p q : Progress) (ys : List Tree) (gs : List Assertion) (pending : List Pending) (l : FormLine)
    : Type 0 where
  pub made : Assertion
  pub is : q ≡ record p { forms = p.forms ++ made ∷ [] }
  pub goes : taken_at sorts (over p ys gs) pending (Form l) ≡ Ok (over p ys (gs ++ made ∷ []))

pub form_taken : (sorts : Sorts) (move move_form : ℕ → ℕ) (p q : Progress) (ys : List Tree) (gs : List Assertion) (pending : List Pending)
    (l : FormLine) → EachStands move p.terms ys (terms_of_form l) → EachStands move_form p.forms gs (forms_of_form l) →
    taken_at sorts p pending (Form l) ≡ Ok q → FormTaken sorts p q ys gs pending (renumbered_form move move_form l)
form_taken sorts move move_form p q ys gs [] l h k e = absurd cc
form_taken sorts move move_form p q ys gs (due ∷ rest) l h k e =
    let next : Assertion → Result Progress Word = λ (f : Assertion). Ok (record p { forms = p.forms ++ f ∷ [] }) in
    let made = made_from (form_made sorts p.terms p.forms l) next q e in
    record {
      made = made.0;
      is = sym (same_end (record p { forms = p.forms ++ made.0 ∷ [] }) q made.2);
      goes = ap (λ (r : Result Assertion Word). and_then r (λ (f : Assertion). Ok (over p ys (gs ++ f ∷ []))))
          (form_moves sorts move move_form p.terms ys p.forms gs l made.0 h k made.1);
    }

pub form_past : (sorts : Sorts) (p q : Progress) (pending : List Pending) (l : FormLine) → taken_at sorts p pending (Form l) ≡ Ok q →
    (f : Assertion) × (q ≡ record p { forms = p.forms ++ f ∷ [] })
form_past sorts p q [] l e = absurd cc
form_past sorts p q (due ∷ rest) l e =
    let next : Assertion → Result Progress Word = λ (f : Assertion). Ok (record p { forms = p.forms ++ f ∷ [] }) in
    let made = made_from (form_made sorts p.terms p.forms l) next q e in
    (made.0, sym (same_end (record p { forms = p.forms ++ made.0 ∷ [] }) q made.2))

-- a line that makes neither: the proof with the other terms and formulas goes to the same nodes and the same that is pending
pub record GoesAlike (sorts : Sorts) (p q : Progress) (ys : List Tree) (gs : List Assertion) (pending : List Pending)
    (l : line.ProofLine) : Type 0 where
  pub nodes : ℕ
  pub next : List Pending
  pub is : q ≡ record p { nodes = nodes; pending = next }
  pub goes : taken_at sorts (over p ys gs) pending l ≡ Ok (over (record p { nodes = nodes; pending = next }) ys gs)

-- a node
pub node_taken : (sorts : Sorts) (move_form : ℕ → ℕ) (p q : Progress) (ys : List Tree) (gs : List Assertion) (pending : List Pending)
    (l : NodeLine) → EachStands move_form p.forms gs (forms_of_node l) → taken_at sorts p pending (Node l) ≡ Ok q →
    GoesAlike sorts p q ys gs pending (Node (renumbered_node move_form l))
node_taken sorts move_form p q ys gs [] l k e = absurd cc
node_taken sorts move_form p q ys gs (Branch stores facts splits ∷ rest) l k e = absurd cc
node_taken sorts move_form p q ys gs (Due st above ∷ rest) l k e =
    let m : NodeLine = renumbered_node move_form l in
    let named = found_from (named_node p.forms l) BadNumber (after_node p st above rest l) q e in
    let it = named.0 in
    let over_it = above_opened it above in
    let next : plan.Opened → Result Progress Word =
    λ (o : plan.Opened). Ok (record p { nodes = suc p.nodes; pending = opened_before st over_it o rest }) in
    let tested = tested_from (is_shallow over_it) Deep (found_or (plan.opened_by p.nodes st it) (First (node_head l)) next) q named.2 in
    let opened = found_from (plan.opened_by p.nodes st it) (First (node_head l)) next q tested.1 in
    let after : Progress = record p { nodes = suc p.nodes; pending = opened_before st over_it opened.0 rest } in
    let on : plan.Opened → Result Progress Word =
    λ (o : plan.Opened). Ok (record (over p ys gs) { nodes = suc p.nodes; pending = opened_before st over_it o rest }) in
    record {
      nodes = suc p.nodes;
      next = opened_before st over_it opened.0 rest;
      is = sym (same_end after q opened.2);
      goes = ap (λ (o : Option plan.Node). found_or o BadNumber (after_node (over p ys gs) st above rest m))
          (node_moves move_form p.forms gs l it k named.1)
          ∙ (ap (λ (b : Bool). tested_or b Deep (found_or (plan.opened_by p.nodes st it) (First (node_head m)) on)) tested.0
          ∙ ap (λ (o : Option plan.Opened). found_or o (First (node_head m)) on) opened.1);
    }

-- a line of a certificate
pub cert_taken : (sorts : Sorts) (move : ℕ → ℕ) (p q : Progress) (ys : List Tree) (gs : List Assertion) (pending : List Pending)
    (l : NumberedLine) → EachStands move p.terms ys (terms_named l) → taken_at sorts p pending (Cert l) ≡ Ok q →
    GoesAlike sorts p q ys gs pending (Cert (with_terms move l))
cert_taken sorts move p q ys gs [] l h e = absurd cc
cert_taken sorts move p q ys gs (Due st above ∷ rest) l h e = absurd cc
cert_taken sorts move p q ys gs (Branch stores facts splits ∷ rest) l h e =
    let m : NumberedLine = with_terms move l in
    let named =
    found_from (named_line p.terms (length facts) l) BadNumber (after_line sorts p stores facts splits rest l) q e in
    let it = named.0 in
    let splits_over : Bool → ℕ = λ (b : Bool). if b then suc splits else splits in
    let next : List (List BranchFact) → Result Progress Word =
    λ (to : List (List BranchFact)). Ok (record p { pending = branches_before stores facts (splits_over (is_split l)) to rest }) in
    let tested =
    tested_from (is_shallow (splits_over (is_split l))) Deep (found_or (ways sorts facts it) (First (line_head l)) next) q named.2 in
    let goes_on = found_from (ways sorts facts it) (First (line_head l)) next q tested.1 in
    let after : Progress = record p { pending = branches_before stores facts (splits_over (is_split l)) goes_on.0 rest } in
    let on : Bool → List (List BranchFact) → Result Progress Word =
    λ (b : Bool) (to : List (List BranchFact)).
    Ok (record (over p ys gs) { pending = branches_before stores facts (splits_over b) to rest }) in
    record {
      nodes = p.nodes;
      next = branches_before stores facts (splits_over (is_split l)) goes_on.0 rest;
      is = sym (same_end after q goes_on.2);
      goes = ap (λ (o : Option CertificateLine). found_or o BadNumber (after_line sorts (over p ys gs) stores facts splits rest m))
          (cert_moves move p.terms ys (length facts) l it h named.1)
          ∙ (ap
          (λ (b : Bool). tested_or (is_shallow (splits_over b)) Deep (found_or (ways sorts facts it) (First (line_head m)) (on b)))
          (splits_with move l)
          ∙ (ap
          (λ (b : Bool). tested_or b Deep (found_or (ways sorts facts it) (First (line_head m)) (on (is_split l)))) tested.0
          ∙ ap (λ (o : Option (List (List BranchFact))). found_or o (First (line_head m)) (on (is_split l))) goes_on.1));
    }
