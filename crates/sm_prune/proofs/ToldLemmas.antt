-- It is told of one line after another whether it is left, the last first; then they are put down, the first first.
use Rattle.sm_prune.proofs.Imports.{◌≡◌, ◌<◌, ◌+◌, take, ℕ, zero, suc, Bool, true, false, ◌||◌, get_or, List, [], ◌∷◌, ◌++◌, length, map, reverse, refl, ap, sym, subst, ◌∙◌, arith, append_assoc, append-nil, map-append, reverse-append, length-append, take_more, ProofLine, Header, Term, Form, Node, Cert, line_of, Line, Told, names_term, names_form, left_passes, terms_after, forms_after, is_left, AreTold, Numbering, numbers_after, line_by, line_before, left_lines, AreMarks, MarksMore, AreMarked, terms_past, forms_past, answers_of, lines_told, IsTelling}

-- the last that was put in is the first
pub popped : {T : Type 0} (all rest : List T) (x : T) → all ≡ rest ++ x ∷ [] → reverse all ≡ x ∷ reverse rest
popped all rest x is = ap reverse is ∙ reverse-append rest (x ∷ [])

-- after one line more
pub terms_past_more : (n : ℕ) (lines : List ProofLine) (l : ProofLine) → terms_past n (lines ++ l ∷ []) ≡ terms_after (terms_past n lines) l
terms_past_more n [] l = refl
terms_past_more n (k ∷ lines) l = terms_past_more (terms_after n k) lines l

pub forms_past_more : (n : ℕ) (lines : List ProofLine) (l : ProofLine) → forms_past n (lines ++ l ∷ []) ≡ forms_after (forms_past n lines) l
forms_past_more n [] l = refl
forms_past_more n (k ∷ lines) l = forms_past_more (forms_after n k) lines l

-- what a call tells of a line
abbrev pub Tells : ProofLine → Bool → List Bool → List Bool → List Bool → List Bool → Type 0
Tells l b marks form_marks after form_after =
    (at at_forms : ℕ) (bs : List Bool) (lines : List ProofLine) →
    AreMarked (terms_after at l) (forms_after at_forms l) marks form_marks bs lines →
    (b ≡ is_left at at_forms l bs lines) × AreMarked at at_forms after form_after (b ∷ bs) (l ∷ lines)

-- it is told of one line more
pub told_more : (all before rest : List Line) (line : Line) (b : Bool) (ts us : List Told) (marks form_marks after form_after : List Bool) →
    before ≡ rest ++ line ∷ [] → us ≡ ts ++ record { line = line; left = b } ∷ [] →
    Tells (line_of line) b marks form_marks after form_after → IsTelling all before ts marks form_marks →
    IsTelling all rest us after form_after
told_more all before rest line b ts us marks form_marks after form_after split grown tells is =
    let l = line_of line in
    let t : Told = record { line = line; left = b } in
    let front = map line_of rest in
    let bs = answers_of (reverse ts) in
    let ls = lines_told (reverse ts) in
    let whole : map line_of before ≡ front ++ l ∷ [] = ap (map line_of) split ∙ map-append line_of rest (line ∷ []) in
    let turned : reverse us ≡ t ∷ reverse ts = popped us ts t grown in
    let at = terms_past 0 front in
    let at_forms = forms_past 0 front in
    let a : terms_past 0 (map line_of before) ≡ terms_after at l = ap (terms_past 0) whole ∙ terms_past_more 0 front l in
    let f : forms_past 0 (map line_of before) ≡ forms_after at_forms l = ap (forms_past 0) whole ∙ forms_past_more 0 front l in
    let marked : AreMarked (terms_after at l) (forms_after at_forms l) marks form_marks bs ls =
    subst (λ (n : ℕ). AreMarked n (forms_after at_forms l) marks form_marks bs ls) a
    (subst (λ (n : ℕ). AreMarked (terms_past 0 (map line_of before)) n marks form_marks bs ls) f is.marked) in
    let told : AreTold (terms_after at l) (forms_after at_forms l) bs ls =
    subst (λ (n : ℕ). AreTold n (forms_after at_forms l) bs ls) a
    (subst (λ (n : ℕ). AreTold (terms_past 0 (map line_of before)) n bs ls) f is.told) in
    let one = tells at at_forms bs ls marked in
    record {
      same = ap (λ (r : List Told). front ++ lines_told r) turned
          ∙ (sym (append_assoc front (l ∷ []) ls)
          ∙ (ap (λ (v : List ProofLine). v ++ ls) (sym whole) ∙ is.same));
      told = subst (λ (r : List Told). AreTold at at_forms (answers_of r) (lines_told r)) (sym turned) (one.0, told);
      marked = subst (λ (r : List Told). AreMarked at at_forms after form_after (answers_of r) (lines_told r)) (sym turned) one.1;
    }

-- nothing is told yet, and nothing is marked
pub none_told : (all : List Line) (marks form_marks : List Bool) → AreMarks (terms_past 0 (map line_of all)) (λ (n : ℕ). false) marks →
    AreMarks (forms_past 0 (map line_of all)) (λ (n : ℕ). false) form_marks → IsTelling all all [] marks form_marks
none_told all marks form_marks a b = record {
  same = append-nil (map line_of all);
  told = none (terms_past 0 (map line_of all)) (forms_past 0 (map line_of all));
  marked = (a, b);
}
  where
    none : (n m : ℕ) → AreTold n m [] []
    none n m = tt

-- all is told
pub all_told : (all before : List Line) (ts : List Told) (marks form_marks : List Bool) → before ≡ [] →
    IsTelling all before ts marks form_marks →
    (lines_told (reverse ts) ≡ map line_of all) × AreTold 0 0 (answers_of (reverse ts)) (lines_told (reverse ts))
all_told all before ts marks form_marks none is = (
  ap (λ (v : List Line). map line_of v ++ lines_told (reverse ts)) (sym none) ∙ is.same,
  subst (λ (v : List Line). AreTold (terms_past 0 (map line_of v)) (forms_past 0 (map line_of v)) (answers_of (reverse ts))
      (lines_told (reverse ts))) none is.told,
)

-- a mark more, which isn't set
pub mark_more : (at : ℕ) (xs ys : List Bool) → ys ≡ xs ++ false ∷ [] → AreMarks at (λ (n : ℕ). false) xs →
    AreMarks (suc at) (λ (n : ℕ). false) ys
mark_more at xs ys is marks = (
  (let a = ap length is in let b = length-append xs (false ∷ []) in let c = marks.0 in omega arith),
  λ (n : ℕ) (less : n < suc at). ap (λ (v : List Bool). get_or v n false) is ∙ none n,
)
  where
    none_of : (xs : List Bool) → ((n : ℕ) → n < length xs → get_or xs n false ≡ false) → (n : ℕ) → get_or (xs ++ false ∷ []) n false ≡ false
    none_of [] all zero = refl
    none_of [] all (suc n) = refl
    none_of (x ∷ xs) all zero = all 0 (omega arith)
    none_of (x ∷ xs) all (suc n) = none_of xs (λ (m : ℕ) (less : m < length xs). all (suc m) (omega arith)) n

    none : (n : ℕ) → get_or (xs ++ false ∷ []) n false ≡ false
    none n = none_of xs (λ (m : ℕ) (less : m < length xs). marks.1 m (let c = marks.0 in omega arith)) n

-- what is named by a line that is left is marked too
pub marks_named : (at : ℕ) (named wanted : ℕ → Bool) (xs ys : List Bool) → AreMarks at wanted xs → MarksMore named xs ys →
    AreMarks at (λ (n : ℕ). named n || wanted n) ys
marks_named at named wanted xs ys marks more = (
  more.0 ∙ marks.0,
  λ (n : ℕ) (less : n < at).
      more.1 n (let within : n < length xs = let l = marks.0 in omega arith in within) ∙ ap (λ (b : Bool). named n || b) (marks.1 n less),
)

-- a line that is put down before others
line_then : (b : Bool) (l : ProofLine) (lines : List ProofLine) → line_before b l [] ++ lines ≡ line_before b l lines
line_then true l lines = refl
line_then false l lines = refl

-- one line more is put down
pub put_more : (m k : Numbering) (front more : List ProofLine) (ts us : List Told) (t : Told) (all : List ProofLine) → ts ≡ us ++ t ∷ [] →
    more ≡ front ++ line_before t.left (line_by m (line_of t.line)) [] → k ≡ numbers_after t.left (line_of t.line) m →
    front ++ left_lines m (answers_of (reverse ts)) (lines_told (reverse ts)) ≡ all →
    more ++ left_lines k (answers_of (reverse us)) (lines_told (reverse us)) ≡ all
put_more m k front more ts us t all split put numbered is =
    let l = line_of t.line in
    let rest : Numbering → List ProofLine =
    λ (n : Numbering). left_lines n (answers_of (reverse us)) (lines_told (reverse us)) in
    let here = line_before t.left (line_by m l) [] in
    ap (λ (v : List ProofLine). v ++ rest k) put
    ∙ (ap (λ (n : Numbering). (front ++ here) ++ rest n) numbered
    ∙ (append_assoc front here (rest (numbers_after t.left l m))
    ∙ (ap (λ (v : List ProofLine). front ++ v) (line_then t.left (line_by m l) (rest (numbers_after t.left l m)))
    ∙ (ap (λ (r : List Told). front ++ left_lines m (answers_of r) (lines_told r)) (sym (popped ts us t split)) ∙ is))))

-- all are put down
pub all_put : (m : Numbering) (front : List ProofLine) (ts : List Told) (all : List ProofLine) → ts ≡ [] →
    front ++ left_lines m (answers_of (reverse ts)) (lines_told (reverse ts)) ≡ all → front ≡ all
all_put m front ts all none is =
    sym (append-nil front)
    ∙ (ap (λ (r : List Told). front ++ left_lines m (answers_of (reverse r)) (lines_told (reverse r))) (sym none) ∙ is)

-- marks for one line more
pub terms_so_far : (all : List Line) (i : ℕ) (line : Line) (marks : List Bool) → i < length all → line ≡ get_or all i line →
    AreMarks (terms_after (terms_past 0 (map line_of (take i all))) (line_of line)) (λ (n : ℕ). false) marks →
    AreMarks (terms_past 0 (map line_of (take (i + 1) all))) (λ (n : ℕ). false) marks
terms_so_far all i line marks less is =
    subst (λ (n : ℕ). AreMarks n (λ (m : ℕ). false) marks)
    (sym (ap (λ (v : List Line). terms_past 0 (map line_of v))
    (take_more all i line less ∙ ap (λ (l : Line). take i all ++ l ∷ []) (sym is))
    ∙ (ap (terms_past 0) (map-append line_of (take i all) (line ∷ []))
    ∙ terms_past_more 0 (map line_of (take i all)) (line_of line))))

pub forms_so_far : (all : List Line) (i : ℕ) (line : Line) (marks : List Bool) → i < length all → line ≡ get_or all i line →
    AreMarks (forms_after (forms_past 0 (map line_of (take i all))) (line_of line)) (λ (n : ℕ). false) marks →
    AreMarks (forms_past 0 (map line_of (take (i + 1) all))) (λ (n : ℕ). false) marks
forms_so_far all i line marks less is =
    subst (λ (n : ℕ). AreMarks n (λ (m : ℕ). false) marks)
    (sym (ap (λ (v : List Line). forms_past 0 (map line_of v))
    (take_more all i line less ∙ ap (λ (l : Line). take i all ++ l ∷ []) (sym is))
    ∙ (ap (forms_past 0) (map-append line_of (take i all) (line ∷ []))
    ∙ forms_past_more 0 (map line_of (take i all)) (line_of line))))
