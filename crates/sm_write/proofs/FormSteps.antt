-- The line of a formula makes it, by the numbers of its terms and of its parts.
use Rattle.sm_write.proofs.Imports.{◌≡◌, ℕ, ◌<◌, ◌^◌, Bool, true, ◌&&◌, Option, Some, slice_get, Result, Ok, Err, List, [], ◌∷◌, ◌++◌, refl, ap, sym, subst, ◌∙◌, Sorts, Sort, Num, Assertion, same_sort, NumberedFormula, tree_sort, IsFormSorted, TableValue, trees_in, sorts_in, tree_at, TermId, Tree, FormLine, IsFormLineWithin, found_or, tested_or, BadNumber, First, Pending, Progress, form_made, form_about, form_from, have_one_sort, are_numbers, Subject, OnOk, State, form_over, NamesPair, WritesForm, EachSide, IsBuilt, Seen, Extends, IsSet, WriterValue, Stands, sort_itself, get_last, get_in_first}
use Rattle.sm_term.specs.Assertions as plain
use Rattle.sm_term.specs.Formulas.{Yes, No, Eq, Ne, Le, Lt, And, Or}
use Rattle.sm_proof.specs.declared.line.FormLine.TheVariants as line
use Rattle.sm_proof.specs.declared.word.Head.TheVariants as head
use Rattle.std.specs.Prelude.{IfOk}
use Rattle.sm_write.proofs.WalkedLemmas.{kept_twice, extends_none, set_later}
use Rattle.sm_write.proofs.WriterSteps.{adds_none, adds_twice}

-- a formula about two terms that are there
pub about_made : (terms : List Tree) (m n : ℕ) (t u : Tree) (test : Tree → Tree → Bool) (makes : Tree → Tree → Assertion) →
    slice_get terms m ≡ Some t → slice_get terms n ≡ Some u → test t u ≡ true → form_about terms m n test makes ≡ Ok (makes t u)
about_made terms m n t u test makes first second passes =
    ap
    (λ (o : Option Tree). found_or o BadNumber
    (λ (a : Tree). found_or (slice_get terms n) BadNumber (λ (b : Tree). tested_or (test a b) (First head.P) (Ok (makes a b))))) first
    ∙ (ap (λ (o : Option Tree). found_or o BadNumber (λ (b : Tree). tested_or (test t b) (First head.P) (Ok (makes t b)))) second
    ∙ ap (λ (b : Bool). tested_or b (First head.P) (Ok (makes t u))) passes)

-- a formula of two that are there
pub from_made : (forms : List Assertion) (m n : ℕ) (f g : Assertion) (makes : Assertion → Assertion → Assertion) →
    slice_get forms m ≡ Some f → slice_get forms n ≡ Some g → form_from forms m n makes ≡ Ok (makes f g)
from_made forms m n f g makes first second =
    ap
    (λ (o : Option Assertion). found_or o BadNumber
    (λ (a : Assertion). found_or (slice_get forms n) BadNumber (λ (b : Assertion). Ok (makes a b)))) first
    ∙ ap (λ (o : Option Assertion). found_or o BadNumber (λ (b : Assertion). Ok (makes f b))) second

pub one_sort : (sorts : Sorts) (t u : Tree) → tree_sort sorts u ≡ tree_sort sorts t → have_one_sort sorts t u ≡ true
one_sort sorts t u e = ap (same_sort (tree_sort sorts t)) e ∙ sort_itself (tree_sort sorts t)

pub both_numbers : (sorts : Sorts) (t u : Tree) → tree_sort sorts t ≡ Num → tree_sort sorts u ≡ Num → are_numbers sorts t u ≡ true
both_numbers sorts t u e f =
    ap (λ (s : Sort). same_sort s Num && same_sort (tree_sort sorts u) Num) e ∙ ap (λ (s : Sort). same_sort s Num) f

-- a formula more
pub form_extends : (s : Subject) (trees : List Tree) (old new : WriterValue) (p : Progress) (f : Assertion) →
    Stands s trees new (record p { forms = p.forms ++ f ∷ [] }) → new.names ≡ old.names → Extends s trees old new p
form_extends s trees old new p f stands names = record {
  after = record p { forms = p.forms ++ f ∷ [] };
  stands = stands;
  adds = record { nodes = refl; pending = refl; terms = (adds_none p).terms; forms = (f ∷ [], refl) };
  kept = λ (t : ℕ) (n : TermId) (e : old.names t ≡ Some n). ap (λ (o : ℕ → Option TermId). o t) names ∙ e;
}

-- it has the number of formulas before it
pub form_there : (s : Subject) (trees : List Tree) (w : WriterValue) (p : Progress) (f : Assertion) → Stands s trees w p →
    slice_get (p.forms ++ f ∷ []) w.forms ≡ Some f
form_there s trees w p f at = ap (slice_get (p.forms ++ f ∷ [])) (sym at.forms) ∙ get_last p.forms f

-- before a line of a formula its terms and parts were written, and the line makes it
abbrev pub Makes : TableValue → WriterValue → WriterValue → NumberedFormula → FormLine → Type 0
Makes v base old f l =
    (s : Subject) (seen : List State) (p : Progress) → IsSet s v base seen p → IsFormSorted (sorts_in v) (form_over v f) →
    EachSide (IsBuilt (Seen seen)) (form_over v f) →
    (e : Extends s (trees_in v) base old p) × (form_made s.sorts e.after.terms e.after.forms l ≡ Ok (form_over v f)) × IsFormLineWithin l

-- the line was added
pub form_written : {E : Type 0} (r : Result ℕ E) (v : TableValue) (base old new : WriterValue) (f : NumberedFormula) (l : FormLine) →
    ((s : Subject) (trees : List Tree) (p : Progress) (due : Pending) (rest : List Pending) (g : Assertion) → Stands s trees old p →
    p.pending ≡ due ∷ rest → IsFormLineWithin l → form_made s.sorts p.terms p.forms l ≡ Ok g →
    OnOk r (Stands s trees new (record p { forms = p.forms ++ g ∷ [] }))) →
    IfOk r (λ (n : ℕ). n ≡ old.forms) → new.names ≡ old.names → Makes v base old f l → IfOk r (WritesForm v base new f)
form_written (Err e) v base old new f l stands number names makes = tt
form_written (Ok n) v base old new f l stands number names makes =
    λ (s : Subject) (seen : List State) (p : Progress) (set : IsSet s v base seen p) (sorted : IsFormSorted (sorts_in v) (form_over v f))
    (built : EachSide (IsBuilt (Seen seen)) (form_over v f)).
    let m = makes s seen p set sorted built in
    let e = m.0 in
    let g = form_over v f in
    let here = set_later s v base old seen p set e in
    let after : Progress = record e.after { forms = e.after.forms ++ g ∷ [] } in
    let at = stands s (trees_in v) e.after here.due.0 here.due.1.0 g e.stands here.due.1.1 m.2 m.1 in
    let one = form_extends s (trees_in v) old new e.after g at names in
    record {
      extends = record {
        after = after;
        stands = at;
        adds =
            adds_twice p e.after after e.adds
            (record { nodes = refl; pending = refl; terms = (adds_none e.after).terms; forms = (g ∷ [], refl) });
        kept = kept_twice base.names old.names new.names e.kept one.kept;
      };
      there = subst (λ (k : ℕ). slice_get (e.after.forms ++ g ∷ []) k ≡ Some g) (sym number) (form_there s (trees_in v) old e.after g e.stands);
    }

-- what always holds, and what never does
pub yes_makes : (v : TableValue) (w : WriterValue) → Makes v w w Yes line.Yes
yes_makes v w s seen p set sorted built = (extends_none s (trees_in v) w p set.stands, refl, tt)

pub no_makes : (v : TableValue) (w : WriterValue) → Makes v w w No line.No
no_makes v w s seen p set sorted built = (extends_none s (trees_in v) w p set.stands, refl, tt)

-- comparisons
pub eq_makes : (v : TableValue) (base old : WriterValue) (t u : TermId) (a b : ℕ) → NamesPair v base old t u (a, b) →
    Makes v base old (Eq t.0 u.0) (line.Eq a b)
eq_makes v base old t u a b names s seen p set sorted built =
    let h = names s seen p set built.0 built.1 in
    let left = tree_at (trees_in v) t.0 in
    let right = tree_at (trees_in v) u.0 in (
      h.extends,
      ap (λ (sorts : Sorts). form_made sorts h.extends.after.terms h.extends.after.forms (line.Eq a b)) set.sorts
          ∙ about_made h.extends.after.terms a b left right (have_one_sort (sorts_in v))
          (λ (x y : Tree). plain.Eq (tree_sort (sorts_in v) x) x y) h.first h.second (one_sort (sorts_in v) left right sorted.1.1),
      (h.first_low, h.second_low),
    )

pub ne_makes : (v : TableValue) (base old : WriterValue) (t u : TermId) (a b : ℕ) → NamesPair v base old t u (a, b) →
    Makes v base old (Ne t.0 u.0) (line.Ne a b)
ne_makes v base old t u a b names s seen p set sorted built =
    let h = names s seen p set built.0 built.1 in
    let left = tree_at (trees_in v) t.0 in
    let right = tree_at (trees_in v) u.0 in (
      h.extends,
      ap (λ (sorts : Sorts). form_made sorts h.extends.after.terms h.extends.after.forms (line.Ne a b)) set.sorts
          ∙ about_made h.extends.after.terms a b left right (have_one_sort (sorts_in v))
          (λ (x y : Tree). plain.Ne (tree_sort (sorts_in v) x) x y) h.first h.second (one_sort (sorts_in v) left right sorted.1.1),
      (h.first_low, h.second_low),
    )

pub le_makes : (v : TableValue) (base old : WriterValue) (t u : TermId) (a b : ℕ) → NamesPair v base old t u (a, b) →
    Makes v base old (Le t.0 u.0) (line.Le a b)
le_makes v base old t u a b names s seen p set sorted built =
    let h = names s seen p set built.0 built.1 in
    let left = tree_at (trees_in v) t.0 in
    let right = tree_at (trees_in v) u.0 in (
      h.extends,
      ap (λ (sorts : Sorts). form_made sorts h.extends.after.terms h.extends.after.forms (line.Le a b)) set.sorts
          ∙ about_made h.extends.after.terms a b left right (are_numbers (sorts_in v)) plain.Le h.first h.second
          (both_numbers (sorts_in v) left right sorted.0.1 sorted.1.1),
      (h.first_low, h.second_low),
    )

pub lt_makes : (v : TableValue) (base old : WriterValue) (t u : TermId) (a b : ℕ) → NamesPair v base old t u (a, b) →
    Makes v base old (Lt t.0 u.0) (line.Lt a b)
lt_makes v base old t u a b names s seen p set sorted built =
    let h = names s seen p set built.0 built.1 in
    let left = tree_at (trees_in v) t.0 in
    let right = tree_at (trees_in v) u.0 in (
      h.extends,
      ap (λ (sorts : Sorts). form_made sorts h.extends.after.terms h.extends.after.forms (line.Lt a b)) set.sorts
          ∙ about_made h.extends.after.terms a b left right (are_numbers (sorts_in v)) plain.Lt h.first h.second
          (both_numbers (sorts_in v) left right sorted.0.1 sorted.1.1),
      (h.first_low, h.second_low),
    )

-- both of two, or one of them
pub and_makes : (v : TableValue) (base mid old : WriterValue) (f g : NumberedFormula) (m n : ℕ) → WritesForm v base mid f m →
    WritesForm v mid old g n → m < 2 ^ 64 → n < 2 ^ 64 → Makes v base old (And f g) (line.And m n)
and_makes v base mid old f g m n first second low high s seen p set sorted built =
    let h = first s seen p set sorted.0 built.0 in
    let a = h.extends in
    let k = second s seen a.after (set_later s v base mid seen p set a) sorted.1 built.1 in
    let b = k.extends in
    let there : slice_get b.after.forms m ≡ Some (form_over v f) =
    subst (λ (fs : List Assertion). slice_get fs m ≡ Some (form_over v f)) (sym b.adds.forms.1)
    (get_in_first a.after.forms b.adds.forms.0 m (form_over v f) h.there) in (
      record {
        after = b.after;
        stands = b.stands;
        adds = adds_twice p a.after b.after a.adds b.adds;
        kept = kept_twice base.names mid.names old.names a.kept b.kept;
      },
      from_made b.after.forms m n (form_over v f) (form_over v g) plain.And there k.there,
      (low, high),
    )

pub or_makes : (v : TableValue) (base mid old : WriterValue) (f g : NumberedFormula) (m n : ℕ) → WritesForm v base mid f m →
    WritesForm v mid old g n → m < 2 ^ 64 → n < 2 ^ 64 → Makes v base old (Or f g) (line.Or m n)
or_makes v base mid old f g m n first second low high s seen p set sorted built =
    let h = first s seen p set sorted.0 built.0 in
    let a = h.extends in
    let k = second s seen a.after (set_later s v base mid seen p set a) sorted.1 built.1 in
    let b = k.extends in
    let there : slice_get b.after.forms m ≡ Some (form_over v f) =
    subst (λ (fs : List Assertion). slice_get fs m ≡ Some (form_over v f)) (sym b.adds.forms.1)
    (get_in_first a.after.forms b.adds.forms.0 m (form_over v f) h.there) in (
      record {
        after = b.after;
        stands = b.stands;
        adds = adds_twice p a.after b.after a.adds b.adds;
        kept = kept_twice base.names mid.names old.names a.kept b.kept;
      },
      from_made b.after.forms m n (form_over v f) (form_over v g) plain.Or there k.there,
      (low, high),
    )
