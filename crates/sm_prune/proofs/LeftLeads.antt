-- The lines that are left lead where all lines lead, with other terms and formulas.
use Rattle.sm_prune.proofs.Imports.{◌≡◌, ℕ, suc, Bool, true, false, ◌||◌, Result, Ok, length, List, [], ◌∷◌, ◌++◌, refl, ap, sym, subst, ◌∙◌, arith, length-append, Sorts, Assertion, Tree, NumberedLine, ProofLine, Header, Term, Form, Node, Cert, TermLine, NodeLine, FormLine, and_then, Word, Progress, taken, made_from, same_end, terms_of, forms_of, names_term, names_form, left_passes, terms_after, forms_after, AreTold, is_left, Numbering, numbers_after, new_number, line_by, line_before, left_lines, advanced, or_left, or_right}
use Rattle.sm_prune.proofs.CarriedLemmas.{AreCarried, EachStands, each_stands, carried_on, carried_past}
use Rattle.sm_prune.proofs.LineTaken.{over, header_refused, term_taken, term_past, form_taken, form_past, node_taken, cert_taken}

-- a proof and the one of the lines that are left, before these lines: so many terms and formulas stand before them, and those that
-- are named by a line that is left are there under their new numbers
pub record Serves (terms forms : ℕ) (m : Numbering) (p : Progress) (ys : List Tree) (gs : List Assertion) (bs : List Bool)
    (lines : List ProofLine) : Type 0 where
  pub terms_there : length p.terms ≡ terms
  pub forms_there : length p.forms ≡ forms
  pub terms_moved : length m.terms ≡ terms
  pub forms_moved : length m.forms ≡ forms
  pub terms_left : length ys ≡ m.terms_left
  pub forms_left : length gs ≡ m.forms_left
  pub terms_stand : AreCarried (λ (n : ℕ). left_passes (names_term n) bs lines) m.terms p.terms ys
  pub forms_stand : AreCarried (λ (n : ℕ). left_passes (names_form n) bs lines) m.forms p.forms gs

-- one line further
pub record Further (sorts : Sorts) (terms forms : ℕ) (m : Numbering) (p q : Progress) (ys : List Tree) (gs : List Assertion) (b : Bool)
    (line : ProofLine) (bs : List Bool) (lines : List ProofLine) : Type 0 where
  pub at : Progress
  pub is : q ≡ at
  pub zs : List Tree
  pub hs : List Assertion
  pub serves : Serves (terms_after terms line) (forms_after forms line) (numbers_after b line m) at zs hs bs lines
  pub goes :
      (rest : List ProofLine) (r : Progress) → advanced sorts (over at zs hs) rest ≡ Ok r →
      advanced sorts (over p ys gs) (line_before b (line_by m line) rest) ≡ Ok r

-- what a line names that is left stands there
terms_named : (terms forms : ℕ) (m : Numbering) (p : Progress) (ys : List Tree) (gs : List Assertion) (line : ProofLine) (bs : List Bool)
    (lines : List ProofLine) → Serves terms forms m p ys gs (true ∷ bs) (line ∷ lines) →
    EachStands (new_number m.terms) p.terms ys (terms_of line)
terms_named terms forms m p ys gs line bs lines s =
    each_stands (new_number m.terms) p.terms ys (terms_of line)
    (λ n e. s.terms_stand n (or_left (names_term n line) (left_passes (names_term n) bs lines) e))

forms_named : (terms forms : ℕ) (m : Numbering) (p : Progress) (ys : List Tree) (gs : List Assertion) (line : ProofLine) (bs : List Bool)
    (lines : List ProofLine) → Serves terms forms m p ys gs (true ∷ bs) (line ∷ lines) →
    EachStands (new_number m.forms) p.forms gs (forms_of line)
forms_named terms forms m p ys gs line bs lines s =
    each_stands (new_number m.forms) p.forms gs (forms_of line)
    (λ n e. s.forms_stand n (or_left (names_form n line) (left_passes (names_form n) bs lines) e))

-- a line that goes on by itself, which is left
alike : (sorts : Sorts) (terms forms : ℕ) (m : Numbering) (p : Progress) (ys : List Tree) (gs : List Assertion) (line : ProofLine)
    (bs : List Bool) (lines : List ProofLine) (at : Progress) → Serves terms forms m p ys gs (true ∷ bs) (line ∷ lines) →
    at.terms ≡ p.terms → at.forms ≡ p.forms → Serves terms forms m at ys gs bs lines
alike sorts terms forms m p ys gs line bs lines at s same_terms same_forms = record {
  terms_there = ap length same_terms ∙ s.terms_there;
  forms_there = ap length same_forms ∙ s.forms_there;
  terms_moved = s.terms_moved;
  forms_moved = s.forms_moved;
  terms_left = s.terms_left;
  forms_left = s.forms_left;
  terms_stand = subst (λ (xs : List Tree). AreCarried (λ (n : ℕ). left_passes (names_term n) bs lines) m.terms xs ys) (sym same_terms)
      (λ n e. s.terms_stand n (or_right (names_term n line) (left_passes (names_term n) bs lines) e));
  forms_stand = subst (λ (xs : List Assertion). AreCarried (λ (n : ℕ). left_passes (names_form n) bs lines) m.forms xs gs)
      (sym same_forms)
      (λ n e. s.forms_stand n (or_right (names_form n line) (left_passes (names_form n) bs lines) e));
}

-- a line that makes a term, and is left
term_kept : (sorts : Sorts) (terms forms : ℕ) (m : Numbering) (p q : Progress) (ys : List Tree) (gs : List Assertion) (l : TermLine)
    (bs : List Bool) (lines : List ProofLine) → Serves terms forms m p ys gs (true ∷ bs) (Term l ∷ lines) →
    taken sorts p (Term l) ≡ Ok q → Further sorts terms forms m p q ys gs true (Term l) bs lines
term_kept sorts terms forms m p q ys gs l bs lines s e =
    let t =
    term_taken sorts (new_number m.terms) p q ys gs p.pending l (terms_named terms forms m p ys gs (Term l) bs lines s) e in
    record {
      at = record p { terms = p.terms ++ t.made ∷ [] };
      is = t.is;
      zs = ys ++ t.made ∷ [];
      hs = gs;
      serves = record {
        terms_there = let a = length-append p.terms (t.made ∷ []) in let b = s.terms_there in omega arith;
        forms_there = s.forms_there;
        terms_moved = let a = length-append m.terms (m.terms_left ∷ []) in let b = s.terms_moved in omega arith;
        forms_moved = s.forms_moved;
        terms_left = let a = length-append ys (t.made ∷ []) in let b = s.terms_left in omega arith;
        forms_left = s.forms_left;
        terms_stand = carried_on (λ (n : ℕ). left_passes (names_term n) (true ∷ bs) (Term l ∷ lines))
            (λ (n : ℕ). left_passes (names_term n) bs lines) m.terms p.terms ys t.made m.terms_left (s.terms_moved ∙ sym s.terms_there)
            s.terms_left
            (λ n e. or_right (names_term n (Term l)) (left_passes (names_term n) bs lines) e) s.terms_stand;
        forms_stand = λ n e. s.forms_stand n e;
      };
      goes = λ (rest : List ProofLine) (r : Progress) (h : advanced sorts (over p (ys ++ t.made ∷ []) gs) rest ≡ Ok r).
          ap (λ (o : Result Progress Word). and_then o (λ (x : Progress). advanced sorts x rest)) t.goes ∙ h;
    }

-- one that makes a term, and isn't left
term_gone : (sorts : Sorts) (terms forms : ℕ) (m : Numbering) (p q : Progress) (ys : List Tree) (gs : List Assertion) (l : TermLine)
    (bs : List Bool) (lines : List ProofLine) → false ≡ left_passes (names_term terms) bs lines →
    Serves terms forms m p ys gs (false ∷ bs) (Term l ∷ lines) → taken sorts p (Term l) ≡ Ok q →
    Further sorts terms forms m p q ys gs false (Term l) bs lines
term_gone sorts terms forms m p q ys gs l bs lines none s e =
    let t = term_past sorts p q p.pending l e in
    record {
      at = record p { terms = p.terms ++ t.0 ∷ [] };
      is = t.1;
      zs = ys;
      hs = gs;
      serves = record {
        terms_there = let a = length-append p.terms (t.0 ∷ []) in let b = s.terms_there in omega arith;
        forms_there = s.forms_there;
        terms_moved = let a = length-append m.terms (m.terms_left ∷ []) in let b = s.terms_moved in omega arith;
        forms_moved = s.forms_moved;
        terms_left = s.terms_left;
        forms_left = s.forms_left;
        terms_stand = carried_past (λ (n : ℕ). left_passes (names_term n) bs lines) m.terms p.terms ys t.0 m.terms_left
            (s.terms_moved ∙ sym s.terms_there)
            (ap (λ (n : ℕ). left_passes (names_term n) bs lines) s.terms_there ∙ sym none) s.terms_stand;
        forms_stand = s.forms_stand;
      };
      goes = λ (rest : List ProofLine) (r : Progress) (h : advanced sorts (over p ys gs) rest ≡ Ok r). h;
    }

-- a line that makes a formula, and is left
form_kept : (sorts : Sorts) (terms forms : ℕ) (m : Numbering) (p q : Progress) (ys : List Tree) (gs : List Assertion) (l : FormLine)
    (bs : List Bool) (lines : List ProofLine) → Serves terms forms m p ys gs (true ∷ bs) (Form l ∷ lines) →
    taken sorts p (Form l) ≡ Ok q → Further sorts terms forms m p q ys gs true (Form l) bs lines
form_kept sorts terms forms m p q ys gs l bs lines s e =
    let t =
    form_taken sorts (new_number m.terms) (new_number m.forms) p q ys gs p.pending l
    (terms_named terms forms m p ys gs (Form l) bs lines s) (forms_named terms forms m p ys gs (Form l) bs lines s) e in
    record {
      at = record p { forms = p.forms ++ t.made ∷ [] };
      is = t.is;
      zs = ys;
      hs = gs ++ t.made ∷ [];
      serves = record {
        terms_there = s.terms_there;
        forms_there = let a = length-append p.forms (t.made ∷ []) in let b = s.forms_there in omega arith;
        terms_moved = s.terms_moved;
        forms_moved = let a = length-append m.forms (m.forms_left ∷ []) in let b = s.forms_moved in omega arith;
        terms_left = s.terms_left;
        forms_left = let a = length-append gs (t.made ∷ []) in let b = s.forms_left in omega arith;
        terms_stand = λ n e. s.terms_stand n (or_right (names_term n (Form l)) (left_passes (names_term n) bs lines) e);
        forms_stand = carried_on (λ (n : ℕ). left_passes (names_form n) (true ∷ bs) (Form l ∷ lines))
            (λ (n : ℕ). left_passes (names_form n) bs lines) m.forms p.forms gs t.made m.forms_left (s.forms_moved ∙ sym s.forms_there)
            s.forms_left
            (λ n e. or_right (names_form n (Form l)) (left_passes (names_form n) bs lines) e) s.forms_stand;
      };
      goes = λ (rest : List ProofLine) (r : Progress) (h : advanced sorts (over p ys (gs ++ t.made ∷ [])) rest ≡ Ok r).
          ap (λ (o : Result Progress Word). and_then o (λ (x : Progress). advanced sorts x rest)) t.goes ∙ h;
    }

-- one that makes a formula, and isn't left
form_gone : (sorts : Sorts) (terms forms : ℕ) (m : Numbering) (p q : Progress) (ys : List Tree) (gs : List Assertion) (l : FormLine)
    (bs : List Bool) (lines : List ProofLine) → false ≡ left_passes (names_form forms) bs lines →
    Serves terms forms m p ys gs (false ∷ bs) (Form l ∷ lines) → taken sorts p (Form l) ≡ Ok q →
    Further sorts terms forms m p q ys gs false (Form l) bs lines
form_gone sorts terms forms m p q ys gs l bs lines none s e =
    let t = form_past sorts p q p.pending l e in
    record {
      at = record p { forms = p.forms ++ t.0 ∷ [] };
      is = t.1;
      zs = ys;
      hs = gs;
      serves = record {
        terms_there = s.terms_there;
        forms_there = let a = length-append p.forms (t.0 ∷ []) in let b = s.forms_there in omega arith;
        terms_moved = s.terms_moved;
        forms_moved = let a = length-append m.forms (m.forms_left ∷ []) in let b = s.forms_moved in omega arith;
        terms_left = s.terms_left;
        forms_left = s.forms_left;
        terms_stand = s.terms_stand;
        forms_stand = carried_past (λ (n : ℕ). left_passes (names_form n) bs lines) m.forms p.forms gs t.0 m.forms_left
            (s.forms_moved ∙ sym s.forms_there)
            (ap (λ (n : ℕ). left_passes (names_form n) bs lines) s.forms_there ∙ sym none) s.forms_stand;
      };
      goes = λ (rest : List ProofLine) (r : Progress) (h : advanced sorts (over p ys gs) rest ≡ Ok r). h;
    }

-- a node
node_kept : (sorts : Sorts) (terms forms : ℕ) (m : Numbering) (p q : Progress) (ys : List Tree) (gs : List Assertion) (l : NodeLine)
    (bs : List Bool) (lines : List ProofLine) → Serves terms forms m p ys gs (true ∷ bs) (Node l ∷ lines) →
    taken sorts p (Node l) ≡ Ok q → Further sorts terms forms m p q ys gs true (Node l) bs lines
node_kept sorts terms forms m p q ys gs l bs lines s e =
    let t =
    node_taken sorts (new_number m.forms) p q ys gs p.pending l (forms_named terms forms m p ys gs (Node l) bs lines s) e in
    let after : Progress = record p { nodes = t.nodes; pending = t.next } in
    record {
      at = after;
      is = t.is;
      zs = ys;
      hs = gs;
      serves = alike sorts terms forms m p ys gs (Node l) bs lines after s refl refl;
      goes = λ (rest : List ProofLine) (r : Progress) (h : advanced sorts (over after ys gs) rest ≡ Ok r).
          ap (λ (o : Result Progress Word). and_then o (λ (x : Progress). advanced sorts x rest)) t.goes ∙ h;
    }

-- a line of a certificate
cert_kept : (sorts : Sorts) (terms forms : ℕ) (m : Numbering) (p q : Progress) (ys : List Tree) (gs : List Assertion) (l : NumberedLine)
    (bs : List Bool) (lines : List ProofLine) → Serves terms forms m p ys gs (true ∷ bs) (Cert l ∷ lines) →
    taken sorts p (Cert l) ≡ Ok q → Further sorts terms forms m p q ys gs true (Cert l) bs lines
cert_kept sorts terms forms m p q ys gs l bs lines s e =
    let t =
    cert_taken sorts (new_number m.terms) p q ys gs p.pending l (terms_named terms forms m p ys gs (Cert l) bs lines s) e in
    let after : Progress = record p { nodes = t.nodes; pending = t.next } in
    record {
      at = after;
      is = t.is;
      zs = ys;
      hs = gs;
      serves = alike sorts terms forms m p ys gs (Cert l) bs lines after s refl refl;
      goes = λ (rest : List ProofLine) (r : Progress) (h : advanced sorts (over after ys gs) rest ≡ Ok r).
          ap (λ (o : Result Progress Word). and_then o (λ (x : Progress). advanced sorts x rest)) t.goes ∙ h;
    }

-- any line of which it is told whether it is left
further : (sorts : Sorts) (terms forms : ℕ) (m : Numbering) (p q : Progress) (ys : List Tree) (gs : List Assertion) (b : Bool)
    (line : ProofLine) (bs : List Bool) (lines : List ProofLine) → b ≡ is_left terms forms line bs lines →
    Serves terms forms m p ys gs (b ∷ bs) (line ∷ lines) → taken sorts p line ≡ Ok q →
    Further sorts terms forms m p q ys gs b line bs lines
further sorts terms forms m p q ys gs b (Header version) bs lines told s e = absurd (header_refused sorts p q p.pending version e)
further sorts terms forms m p q ys gs true (Term l) bs lines told s e = term_kept sorts terms forms m p q ys gs l bs lines s e
further sorts terms forms m p q ys gs false (Term l) bs lines told s e = term_gone sorts terms forms m p q ys gs l bs lines told s e
further sorts terms forms m p q ys gs true (Form l) bs lines told s e = form_kept sorts terms forms m p q ys gs l bs lines s e
further sorts terms forms m p q ys gs false (Form l) bs lines told s e = form_gone sorts terms forms m p q ys gs l bs lines told s e
further sorts terms forms m p q ys gs true (Node l) bs lines told s e = node_kept sorts terms forms m p q ys gs l bs lines s e
further sorts terms forms m p q ys gs false (Node l) bs lines told s e = absurd cc
further sorts terms forms m p q ys gs true (Cert l) bs lines told s e = cert_kept sorts terms forms m p q ys gs l bs lines s e
further sorts terms forms m p q ys gs false (Cert l) bs lines told s e = absurd cc

-- where lines lead, those that are left lead too
pub record Led (sorts : Sorts) (p r : Progress) (ys : List Tree) (gs : List Assertion) (lines : List ProofLine) : Type 0 where
  pub zs : List Tree
  pub hs : List Assertion
  pub comes : advanced sorts (over p ys gs) lines ≡ Ok (over r zs hs)

pub left_lead : (sorts : Sorts) (terms forms : ℕ) (m : Numbering) (p r : Progress) (ys : List Tree) (gs : List Assertion) (bs : List Bool)
    (lines : List ProofLine) → AreTold terms forms bs lines → Serves terms forms m p ys gs bs lines →
    advanced sorts p lines ≡ Ok r → Led sorts p r ys gs (left_lines m bs lines)
left_lead sorts terms forms m p r ys gs [] [] told s e = record {
  zs = ys;
  hs = gs;
  comes = ap (λ (q : Progress). Ok (over q ys gs)) (same_end p r e);
}
left_lead sorts terms forms m p r ys gs [] (line ∷ lines) told s e = absurd told
left_lead sorts terms forms m p r ys gs (b ∷ bs) [] told s e = absurd told
left_lead sorts terms forms m p r ys gs (b ∷ bs) (line ∷ lines) told s e =
    let go = made_from (taken sorts p line) (λ (q : Progress). advanced sorts q lines) r e in
    let f = further sorts terms forms m p go.0 ys gs b line bs lines told.0 s go.1 in
    let later =
    left_lead sorts (terms_after terms line) (forms_after forms line) (numbers_after b line m) f.at r f.zs f.hs bs lines told.1 f.serves
    (subst (λ (q : Progress). advanced sorts q lines ≡ Ok r) f.is go.2) in
    record {
      zs = later.zs;
      hs = later.hs;
      comes = f.goes (left_lines (numbers_after b line m) bs lines) (over r later.zs later.hs) later.comes;
    }
