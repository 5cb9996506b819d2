-- Each line that is left and makes a term or a formula is named by a later one, and lines `exact` are left.
use Rattle.sm_prune.proofs.Imports.{◌≡◌, ◌⊎◌, ℕ, suc, ◌<◌, Bool, true, false, ◌&&◌, ◌||◌, nat_eq, IsTrue, List, [], ◌∷◌, ◌++◌, map, length, inl, inr, refl, ap, sym, subst, ◌∙◌, arith, list_any, Decides-eqb, length-append, get_or_append_left, reads_all, terms_with, reads_with, NumberedLine, ProofLine, Header, Term, Form, Node, Cert, TermLine, NodeLine, FormLine, is_exact, terms_of_term, terms_of_form, terms_of, forms_of_form, forms_of_node, forms_of, names_term, names_form, renumbered_term, renumbered_form, renumbered_node, renumbered, left_passes, terms_after, forms_after, AreTold, Numbering, numbers_after, new_number, line_by, line_before, left_lines, AreNamed, or_left, or_right}
use Rattle.sm_proof.specs.declared.line.FormLine.TheVariants as form
use Rattle.sm_proof.specs.declared.line.NodeLine.TheVariants as node
use Rattle.sm_proof.specs.declared.line.TermLine.TheVariants as term
use Rattle.sm_proof.specs.Lines as line
use Rattle.sm_prune.proofs.CarriedLemmas.{number_last}

-- a number among others is there where all are moved
any_moved : (move : ℕ → ℕ) (n : ℕ) (ns : List ℕ) → list_any (nat_eq n) ns ≡ true → list_any (nat_eq (move n)) (map move ns) ≡ true
any_moved move n [] e = absurd cc
any_moved move n (m ∷ ns) e = of (nat_eq n m) refl e (any_moved move n ns)
  where
    of : (b : Bool) → nat_eq n m ≡ b → (b || list_any (nat_eq n) ns) ≡ true →
        (list_any (nat_eq n) ns ≡ true → list_any (nat_eq (move n)) (map move ns) ≡ true) →
        (nat_eq (move n) (move m) || list_any (nat_eq (move n)) (map move ns)) ≡ true
    of true same h later =
        or_left (nat_eq (move n) (move m)) (list_any (nat_eq (move n)) (map move ns))
        ((Decides-eqb (move n) (move m)).1 (ap move ((Decides-eqb n m).0 same)))
    of false same h later = or_right (nat_eq (move n) (move m)) (list_any (nat_eq (move n)) (map move ns)) (later h)

-- what a line names by other numbers
term_names : (move : ℕ → ℕ) (l : TermLine) → terms_of_term (renumbered_term move l) ≡ map move (terms_of_term l)
term_names move (term.Lit z) = refl
term_names move (term.Start x) = refl
term_names move term.Cell = refl
term_names move (term.Slot c x) = refl
term_names move (term.Cur c x) = refl
term_names move (term.Of n side) = refl
term_names move (term.Arg t k) = refl
term_names move (term.Read t u) = refl
term_names move (term.Write t u v) = refl
term_names move (term.Neg t) = refl
term_names move (term.Add t u) = refl
term_names move (term.Sub t u) = refl
term_names move (term.Mul t u) = refl

form_names : (move move_form : ℕ → ℕ) (l : FormLine) →
    (terms_of_form (renumbered_form move move_form l) ≡ map move (terms_of_form l))
    × (forms_of_form (renumbered_form move move_form l) ≡ map move_form (forms_of_form l))
form_names move move_form form.Yes = (refl, refl)
form_names move move_form form.No = (refl, refl)
form_names move move_form (form.Eq t u) = (refl, refl)
form_names move move_form (form.Ne t u) = (refl, refl)
form_names move move_form (form.Le t u) = (refl, refl)
form_names move move_form (form.Lt t u) = (refl, refl)
form_names move move_form (form.And p q) = (refl, refl)
form_names move move_form (form.Or p q) = (refl, refl)

node_names : (move_form : ℕ → ℕ) (l : NodeLine) → forms_of_node (renumbered_node move_form l) ≡ map move_form (forms_of_node l)
node_names move_form (node.Step c) = refl
node_names move_form (node.Abs c n) = refl
node_names move_form (node.Fork c) = refl
node_names move_form (node.Loop set keep) = refl
node_names move_form (node.Block k0 k1 k2 k3 keep) = refl
node_names move_form node.Dead = refl
node_names move_form node.End = refl

-- with other numbers a line names its terms by these
terms_moved : (move move_form : ℕ → ℕ) (l : ProofLine) → terms_of (renumbered move move_form l) ≡ map move (terms_of l)
terms_moved move move_form (Header version) = refl
terms_moved move move_form (Term t) = term_names move t
terms_moved move move_form (Form f) = (form_names move move_form f).0
terms_moved move move_form (Node n) = refl
terms_moved move move_form (Cert c) = terms_with move c

forms_moved : (move move_form : ℕ → ℕ) (l : ProofLine) → forms_of (renumbered move move_form l) ≡ map move_form (forms_of l)
forms_moved move move_form (Header version) = refl
forms_moved move move_form (Term t) = refl
forms_moved move move_form (Form f) = (form_names move move_form f).1
forms_moved move move_form (Node n) = node_names move_form n
forms_moved move move_form (Cert c) = refl

-- a line that names a term names it by its new number
term_renamed : (m : Numbering) (n : ℕ) (l : ProofLine) → names_term n l ≡ true → names_term (new_number m.terms n) (line_by m l) ≡ true
term_renamed m n l e =
    ap (list_any (nat_eq (new_number m.terms n))) (terms_moved (new_number m.terms) (new_number m.forms) l)
    ∙ any_moved (new_number m.terms) n (terms_of l) e

form_renamed : (m : Numbering) (n : ℕ) (l : ProofLine) → names_form n l ≡ true → names_form (new_number m.forms n) (line_by m l) ≡ true
form_renamed m n l e =
    ap (list_any (nat_eq (new_number m.forms n))) (forms_moved (new_number m.terms) (new_number m.forms) l)
    ∙ any_moved (new_number m.forms) n (forms_of l) e

-- a number stays where there are more
terms_stay : (b : Bool) (l : ProofLine) (m : Numbering) (n : ℕ) → n < length m.terms →
    (new_number (numbers_after b l m).terms n ≡ new_number m.terms n) × (n < length (numbers_after b l m).terms)
terms_stay b (Header version) m n less = (refl, less)
terms_stay b (Term t) m n less = (
  get_or_append_left m.terms (m.terms_left ∷ []) 0 n less,
  (let a = length-append m.terms (m.terms_left ∷ []) in omega arith),
)
terms_stay b (Form f) m n less = (refl, less)
terms_stay b (Node k) m n less = (refl, less)
terms_stay b (Cert c) m n less = (refl, less)

forms_stay : (b : Bool) (l : ProofLine) (m : Numbering) (n : ℕ) → n < length m.forms →
    (new_number (numbers_after b l m).forms n ≡ new_number m.forms n) × (n < length (numbers_after b l m).forms)
forms_stay b (Header version) m n less = (refl, less)
forms_stay b (Term t) m n less = (refl, less)
forms_stay b (Form f) m n less = (
  get_or_append_left m.forms (m.forms_left ∷ []) 0 n less,
  (let a = length-append m.forms (m.forms_left ∷ []) in omega arith),
)
forms_stay b (Node k) m n less = (refl, less)
forms_stay b (Cert c) m n less = (refl, less)

-- what passes among lines passes with one before them
any_before : (test : ProofLine → Bool) (b : Bool) (l : ProofLine) (lines : List ProofLine) → list_any test lines ≡ true →
    list_any test (line_before b l lines) ≡ true
any_before test true l lines e = or_right (test l) (list_any test lines) e
any_before test false l lines e = e

-- the first of them or a later one passes
parts : (b c d : Bool) → ((b && c) || d) ≡ true → ((b ≡ true) × (c ≡ true)) ⊎ (d ≡ true)
parts true true d e = inl (refl, refl)
parts true false d e = inr e
parts false c d e = inr e

-- a term that a line names that is left is named by its new number
term_named : (m : Numbering) (bs : List Bool) (lines : List ProofLine) (n : ℕ) → n < length m.terms →
    left_passes (names_term n) bs lines ≡ true → list_any (names_term (new_number m.terms n)) (left_lines m bs lines) ≡ true
term_named m [] lines n less e = absurd cc
term_named m (b ∷ bs) [] n less e = absurd cc
term_named m (b ∷ bs) (l ∷ lines) n less e =
    let stay = terms_stay b l m n less in
    of b (parts b (names_term n l) (left_passes (names_term n) bs lines) e)
    (λ (h : left_passes (names_term n) bs lines ≡ true).
    ap (λ (k : ℕ). list_any (names_term k) (left_lines (numbers_after b l m) bs lines)) (sym stay.0)
    ∙ term_named (numbers_after b l m) bs lines n stay.1 h)
  where
    rest : Bool → List ProofLine
    rest c = left_lines (numbers_after c l m) bs lines

    of : (c : Bool) → ((c ≡ true) × (names_term n l ≡ true)) ⊎ (left_passes (names_term n) bs lines ≡ true) →
        (left_passes (names_term n) bs lines ≡ true → list_any (names_term (new_number m.terms n)) (rest c) ≡ true) →
        list_any (names_term (new_number m.terms n)) (line_before c (line_by m l) (rest c)) ≡ true
    of true (inl h) later =
        or_left (names_term (new_number m.terms n) (line_by m l)) (list_any (names_term (new_number m.terms n)) (rest true))
        (term_renamed m n l h.1)
    of false (inl h) later = absurd cc
    of c (inr h) later = any_before (names_term (new_number m.terms n)) c (line_by m l) (rest c) (later h)

form_named : (m : Numbering) (bs : List Bool) (lines : List ProofLine) (n : ℕ) → n < length m.forms →
    left_passes (names_form n) bs lines ≡ true → list_any (names_form (new_number m.forms n)) (left_lines m bs lines) ≡ true
form_named m [] lines n less e = absurd cc
form_named m (b ∷ bs) [] n less e = absurd cc
form_named m (b ∷ bs) (l ∷ lines) n less e =
    let stay = forms_stay b l m n less in
    of b (parts b (names_form n l) (left_passes (names_form n) bs lines) e)
    (λ (h : left_passes (names_form n) bs lines ≡ true).
    ap (λ (k : ℕ). list_any (names_form k) (left_lines (numbers_after b l m) bs lines)) (sym stay.0)
    ∙ form_named (numbers_after b l m) bs lines n stay.1 h)
  where
    rest : Bool → List ProofLine
    rest c = left_lines (numbers_after c l m) bs lines

    of : (c : Bool) → ((c ≡ true) × (names_form n l ≡ true)) ⊎ (left_passes (names_form n) bs lines ≡ true) →
        (left_passes (names_form n) bs lines ≡ true → list_any (names_form (new_number m.forms n)) (rest c) ≡ true) →
        list_any (names_form (new_number m.forms n)) (line_before c (line_by m l) (rest c)) ≡ true
    of true (inl h) later =
        or_left (names_form (new_number m.forms n) (line_by m l)) (list_any (names_form (new_number m.forms n)) (rest true))
        (form_renamed m n l h.1)
    of false (inl h) later = absurd cc
    of c (inr h) later = any_before (names_form (new_number m.forms n)) c (line_by m l) (rest c) (later h)

-- the last number so far
last_number : (moved : List ℕ) (k at : ℕ) → length moved ≡ at → new_number (moved ++ k ∷ []) at ≡ k
last_number moved k at same = ap (new_number (moved ++ k ∷ [])) (sym same) ∙ number_last moved k

-- the lines that are left are named
pub left_named : (terms forms : ℕ) (m : Numbering) (bs : List Bool) (lines : List ProofLine) → AreTold terms forms bs lines →
    length m.terms ≡ terms → length m.forms ≡ forms → AreNamed m.terms_left m.forms_left (left_lines m bs lines)
left_named terms forms m [] lines told a b = tt
left_named terms forms m (b ∷ bs) [] told same same_forms = tt
left_named terms forms m (true ∷ bs) (Header version ∷ lines) told same same_forms =
    left_named terms forms m bs lines told.1 same same_forms
left_named terms forms m (false ∷ bs) (Header version ∷ lines) told same same_forms =
    left_named terms forms m bs lines told.1 same same_forms
left_named terms forms m (true ∷ bs) (Term t ∷ lines) told same same_forms =
    let after = numbers_after true (Term t) m in
    let long : length after.terms ≡ suc terms = let a = length-append m.terms (m.terms_left ∷ []) in omega arith in (
      ap (λ (k : ℕ). list_any (names_term k) (left_lines after bs lines)) (sym (last_number m.terms m.terms_left terms same))
          ∙ term_named after bs lines terms (let less : terms < length after.terms = omega arith in less) (sym told.0),
      left_named (suc terms) forms after bs lines told.1 long same_forms,
    )
left_named terms forms m (false ∷ bs) (Term t ∷ lines) told same same_forms =
    let after = numbers_after false (Term t) m in
    left_named (suc terms) forms after bs lines told.1
    (let a = length-append m.terms (m.terms_left ∷ []) in omega arith) same_forms
left_named terms forms m (true ∷ bs) (Form f ∷ lines) told same same_forms =
    let after = numbers_after true (Form f) m in
    let long : length after.forms ≡ suc forms = let a = length-append m.forms (m.forms_left ∷ []) in omega arith in (
      ap (λ (k : ℕ). list_any (names_form k) (left_lines after bs lines)) (sym (last_number m.forms m.forms_left forms same_forms))
          ∙ form_named after bs lines forms (let less : forms < length after.forms = omega arith in less) (sym told.0),
      left_named terms (suc forms) after bs lines told.1 same long,
    )
left_named terms forms m (false ∷ bs) (Form f ∷ lines) told same same_forms =
    let after = numbers_after false (Form f) m in
    left_named terms (suc forms) after bs lines told.1 same
    (let a = length-append m.forms (m.forms_left ∷ []) in omega arith)
left_named terms forms m (true ∷ bs) (Node n ∷ lines) told same same_forms = left_named terms forms m bs lines told.1 same same_forms
left_named terms forms m (false ∷ bs) (Node n ∷ lines) told same same_forms = left_named terms forms m bs lines told.1 same same_forms
left_named terms forms m (true ∷ bs) (Cert l ∷ lines) told same same_forms = left_named terms forms m bs lines told.1 same same_forms
left_named terms forms m (false ∷ bs) (Cert l ∷ lines) told same same_forms = left_named terms forms m bs lines told.1 same same_forms

-- lines `exact` are left
pub left_exact : (terms forms : ℕ) (m : Numbering) (bs : List Bool) (lines : List ProofLine) → AreTold terms forms bs lines →
    list_any is_exact (left_lines m bs lines) ≡ list_any is_exact lines
left_exact terms forms m [] [] told = refl
left_exact terms forms m [] (l ∷ lines) told = absurd told
left_exact terms forms m (b ∷ bs) [] told = absurd told
left_exact terms forms m (true ∷ bs) (Header version ∷ lines) told = left_exact terms forms m bs lines told.1
left_exact terms forms m (false ∷ bs) (Header version ∷ lines) told = left_exact terms forms m bs lines told.1
left_exact terms forms m (true ∷ bs) (Term t ∷ lines) told =
    left_exact (suc terms) forms (numbers_after true (Term t) m) bs lines told.1
left_exact terms forms m (false ∷ bs) (Term t ∷ lines) told =
    left_exact (suc terms) forms (numbers_after false (Term t) m) bs lines told.1
left_exact terms forms m (true ∷ bs) (Form f ∷ lines) told =
    left_exact terms (suc forms) (numbers_after true (Form f) m) bs lines told.1
left_exact terms forms m (false ∷ bs) (Form f ∷ lines) told =
    left_exact terms (suc forms) (numbers_after false (Form f) m) bs lines told.1
left_exact terms forms m (true ∷ bs) (Node n ∷ lines) told = left_exact terms forms m bs lines told.1
left_exact terms forms m (false ∷ bs) (Node n ∷ lines) told = absurd cc
left_exact terms forms m (true ∷ bs) (Cert l ∷ lines) told =
    let one = reads_with (new_number m.terms) l in
    let more = left_exact terms forms m bs lines told.1 in
    λ i. one i || more i
left_exact terms forms m (false ∷ bs) (Cert l ∷ lines) told = absurd cc
