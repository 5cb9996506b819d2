-- Cited by public clauses: the terms, formulas and facts that a line of a proof file names by their
-- numbers, and the line with other numbers of terms and formulas.
use Rattle.std.specs.Prelude.{ℕ, nat_eq, Bool, false, List, [], ◌∷◌}
use Rattle.std.specs.List.{list_any}
use Rattle.sm_theory.specs.Named.{terms_named, with_terms}
use Rattle.sm_proof.specs.declared.line.FormLine.TheVariants as form
use Rattle.sm_proof.specs.declared.line.NodeLine.TheVariants as node
use Rattle.sm_proof.specs.declared.line.TermLine.TheVariants as term
use Rattle.sm_proof.specs.Lines.{ProofLine, Header, Term, Form, Node, Cert}
use Rattle.sm_proof.specs.declared.line.TermLine.{TermLine}
use Rattle.sm_proof.specs.declared.line.NodeLine.{NodeLine}
use Rattle.sm_proof.specs.declared.line.FormLine.{FormLine}

-- the terms that a line `t` names
abbrev pub terms_of_term : TermLine → List ℕ
terms_of_term (term.Lit z) = []
terms_of_term (term.Start x) = []
terms_of_term term.Cell = []
terms_of_term (term.Slot c x) = []
terms_of_term (term.Cur c x) = []
terms_of_term (term.Of n side) = []
terms_of_term (term.Arg t k) = t ∷ []
terms_of_term (term.Read t u) = t ∷ u ∷ []
terms_of_term (term.Write t u v) = t ∷ u ∷ v ∷ []
terms_of_term (term.Neg t) = t ∷ []
terms_of_term (term.Add t u) = t ∷ u ∷ []
terms_of_term (term.Sub t u) = t ∷ u ∷ []
terms_of_term (term.Mul t u) = t ∷ u ∷ []

-- those that a line `p` names
abbrev pub terms_of_form : FormLine → List ℕ
terms_of_form form.Yes = []
terms_of_form form.No = []
terms_of_form (form.Eq t u) = t ∷ u ∷ []
terms_of_form (form.Ne t u) = t ∷ u ∷ []
terms_of_form (form.Le t u) = t ∷ u ∷ []
terms_of_form (form.Lt t u) = t ∷ u ∷ []
terms_of_form (form.And p q) = []
terms_of_form (form.Or p q) = []

-- the formulas that a line `p` names
abbrev pub forms_of_form : FormLine → List ℕ
forms_of_form form.Yes = []
forms_of_form form.No = []
forms_of_form (form.Eq t u) = []
forms_of_form (form.Ne t u) = []
forms_of_form (form.Le t u) = []
forms_of_form (form.Lt t u) = []
forms_of_form (form.And p q) = p ∷ q ∷ []
forms_of_form (form.Or p q) = p ∷ q ∷ []

-- the formula that a node keeps, if any
abbrev pub forms_of_node : NodeLine → List ℕ
forms_of_node (node.Step c) = []
forms_of_node (node.Abs c n) = []
forms_of_node (node.Fork c) = []
forms_of_node (node.Loop set keep) = keep ∷ []
forms_of_node (node.Block k0 k1 k2 k3 keep) = keep ∷ []
forms_of_node node.Dead = []
forms_of_node node.End = []

-- the terms that any line names
abbrev pub terms_of : ProofLine → List ℕ
terms_of (Header version) = []
terms_of (Term t) = terms_of_term t
terms_of (Form f) = terms_of_form f
terms_of (Node n) = []
terms_of (Cert l) = terms_named l

-- the formulas that any line names
abbrev pub forms_of : ProofLine → List ℕ
forms_of (Header version) = []
forms_of (Term t) = []
forms_of (Form f) = forms_of_form f
forms_of (Node n) = forms_of_node n
forms_of (Cert l) = []

-- whether a line names term n
abbrev pub names_term : ℕ → ProofLine → Bool
names_term n line = list_any (nat_eq n) (terms_of line)

-- whether it names formula n
abbrev pub names_form : ℕ → ProofLine → Bool
names_form n line = list_any (nat_eq n) (forms_of line)

-- a line `t` with other numbers of terms
abbrev pub renumbered_term : (ℕ → ℕ) → TermLine → TermLine
renumbered_term move (term.Lit z) = term.Lit z
renumbered_term move (term.Start x) = term.Start x
renumbered_term move term.Cell = term.Cell
renumbered_term move (term.Slot c x) = term.Slot c x
renumbered_term move (term.Cur c x) = term.Cur c x
renumbered_term move (term.Of n side) = term.Of n side
renumbered_term move (term.Arg t k) = term.Arg (move t) k
renumbered_term move (term.Read t u) = term.Read (move t) (move u)
renumbered_term move (term.Write t u v) = term.Write (move t) (move u) (move v)
renumbered_term move (term.Neg t) = term.Neg (move t)
renumbered_term move (term.Add t u) = term.Add (move t) (move u)
renumbered_term move (term.Sub t u) = term.Sub (move t) (move u)
renumbered_term move (term.Mul t u) = term.Mul (move t) (move u)

-- a line `p` with other numbers of terms, and of formulas
abbrev pub renumbered_form : (ℕ → ℕ) → (ℕ → ℕ) → FormLine → FormLine
renumbered_form move move_form form.Yes = form.Yes
renumbered_form move move_form form.No = form.No
renumbered_form move move_form (form.Eq t u) = form.Eq (move t) (move u)
renumbered_form move move_form (form.Ne t u) = form.Ne (move t) (move u)
renumbered_form move move_form (form.Le t u) = form.Le (move t) (move u)
renumbered_form move move_form (form.Lt t u) = form.Lt (move t) (move u)
renumbered_form move move_form (form.And p q) = form.And (move_form p) (move_form q)
renumbered_form move move_form (form.Or p q) = form.Or (move_form p) (move_form q)

-- a node with another number of the formula that it keeps
abbrev pub renumbered_node : (ℕ → ℕ) → NodeLine → NodeLine
renumbered_node move_form (node.Step c) = node.Step c
renumbered_node move_form (node.Abs c n) = node.Abs c n
renumbered_node move_form (node.Fork c) = node.Fork c
renumbered_node move_form (node.Loop set keep) = node.Loop set (move_form keep)
renumbered_node move_form (node.Block k0 k1 k2 k3 keep) = node.Block k0 k1 k2 k3 (move_form keep)
renumbered_node move_form node.Dead = node.Dead
renumbered_node move_form node.End = node.End

-- any line with other numbers of terms and of formulas
abbrev pub renumbered : (ℕ → ℕ) → (ℕ → ℕ) → ProofLine → ProofLine
renumbered move move_form (Header version) = Header version
renumbered move move_form (Term t) = Term (renumbered_term move t)
renumbered move move_form (Form f) = Form (renumbered_form move move_form f)
renumbered move move_form (Node n) = Node (renumbered_node move_form n)
renumbered move move_form (Cert l) = Cert (with_terms move l)
