-- Where a writer stands after one line more.
use Rattle.sm_write.proofs.Imports.{◌≡◌, ◌≢◌, ℕ, suc, ◌<◌, ◌^◌, true, false, ◌||◌, nat_eq, Some, slice_get, Ok, List, [], ◌∷◌, ◌++◌, length, refl, ap, sym, subst, ◌∙◌, arith, ⊎_elim, update, update_here, update_apart, cases_Bool, Decides-eqb, Assertion, tree_at, TermId, Tree, IsTermLineWithin, IsFormLineWithin, ProofLine, Form, TermLine, FormLine, Pending, Progress, term_made, form_made, taken, Subject, is_exact, line_text, IsReadable, WriterValue, Stands, Adds, Names, AreNames, get_in_first, get_last}
use Rattle.std.proofs.Common.{length-append}
use Rattle.sm_proof.specs.Lines.{Term}
use Rattle.sm_write.proofs.SpellingLemmas.{term_readable, form_readable}
use Rattle.sm_write.proofs.StepLemmas.{term_step, form_step}
use Rattle.sm_write.proofs.TextLemmas.{leads_on}

-- a list with one more is longer by one
pub get_length : {T : Type 0} (xs : List T) (x : T) (ys : List T) → ys ≡ xs ++ x ∷ [] → length ys ≡ suc (length xs)
get_length xs x ys e = omega (arith, ap length e, length-append xs (x ∷ []))

-- one name more
pub names_more : (trees : List Tree) (names more : Names) (terms : List Tree) (t : ℕ) (n : TermId) → AreNames trees names terms →
    t < length trees → n.0 ≡ length terms → suc (length terms) < 2 ^ 63 → ((q : ℕ) → more q ≡ update nat_eq names t (Some n) q) →
    AreNames trees more (terms ++ tree_at trees t ∷ [])
names_more trees names more terms t n are inside last few gains = record {
  right = λ (q : ℕ) (m : TermId) (e : more q ≡ Some m). of q m e;
  few = omega (arith, length-append terms (tree_at trees t ∷ []), few);
}
  where
    of : (q : ℕ) (m : TermId) → more q ≡ Some m → (q < length trees) × (slice_get (terms ++ tree_at trees t ∷ []) m.0 ≡ Some (tree_at trees q))
    of q m e =
        ⊎_elim
        (λ (s : nat_eq q t ≡ true).
        let same : q ≡ t = (Decides-eqb q t).0 s in
        let one : Some n ≡ Some m = sym (update_here names t (Some n)) ∙ (sym (gains t) ∙ (ap more (sym same) ∙ e)) in
        let number : m.0 ≡ length terms = let f : n.0 ≡ m.0 = cc in sym f ∙ last in
        subst (λ (r : ℕ). (r < length trees) × (slice_get (terms ++ tree_at trees t ∷ []) m.0 ≡ Some (tree_at trees r))) (sym same)
        (inside, ap (slice_get (terms ++ tree_at trees t ∷ [])) number ∙ get_last terms (tree_at trees t)))
        (λ (s : nat_eq q t ≡ false).
        let other : q ≢ t = λ (r : q ≡ t). let true_is : nat_eq q t ≡ true = (Decides-eqb q t).1 r in absurd cc in
        let old = are.right q m (sym (gains q ∙ update_apart names t (Some n) q other) ∙ e) in
        (old.0, get_in_first terms (tree_at trees t ∷ []) m.0 (tree_at trees q) old.1))
        (cases_Bool (nat_eq q t))

-- a line that makes a term of the table
pub stands_term : (s : Subject) (trees : List Tree) (v w : WriterValue) (p : Progress) (due : Pending) (rest : List Pending)
    (line : TermLine) (t : ℕ) (n : TermId) → Stands s trees v p → p.pending ≡ due ∷ rest → t < length trees → IsTermLineWithin line →
    term_made s.sorts p.terms due line ≡ Ok (tree_at trees t) → w.text ≡ v.text ++ line_text (Term line) → w.exact ≡ v.exact →
    n.0 ≡ v.terms → suc v.terms < 2 ^ 63 → ((q : ℕ) → w.names q ≡ update nat_eq v.names t (Some n) q) → w.terms ≡ suc v.terms →
    w.forms ≡ v.forms → w.nodes ≡ v.nodes → Stands s trees w (record p { terms = p.terms ++ tree_at trees t ∷ [] })
stands_term s trees v w p due rest line t n at is inside within made text exact last few gains terms forms nodes =
    let q : Progress = record p { terms = p.terms ++ tree_at trees t ∷ [] } in
    let count = at.terms in
    record {
      leads =
          leads_on s v.text w.text v.exact w.exact p q (Term line) at.leads (term_readable line within)
          (term_step s.sorts p due rest line (tree_at trees t) is made) text exact;
      names = names_more trees v.names w.names p.terms t n at.names inside (last ∙ sym count) (omega (arith, count, few)) gains;
      terms = omega (arith, length-append p.terms (tree_at trees t ∷ []), count, terms);
      forms = at.forms ∙ sym forms;
      nodes = at.nodes ∙ sym nodes;
    }

-- one that makes a formula
pub stands_form : (s : Subject) (trees : List Tree) (v w : WriterValue) (p : Progress) (due : Pending) (rest : List Pending)
    (line : FormLine) (f : Assertion) → Stands s trees v p → p.pending ≡ due ∷ rest → IsFormLineWithin line →
    form_made s.sorts p.terms p.forms line ≡ Ok f → w.text ≡ v.text ++ line_text (Form line) → w.exact ≡ v.exact → w.names ≡ v.names →
    w.terms ≡ v.terms → w.forms ≡ suc v.forms → w.nodes ≡ v.nodes → Stands s trees w (record p { forms = p.forms ++ f ∷ [] })
stands_form s trees v w p due rest line f at is within made text exact names terms forms nodes =
    let q : Progress = record p { forms = p.forms ++ f ∷ [] } in
    let count = at.forms in
    record {
      leads =
          leads_on s v.text w.text v.exact w.exact p q (Form line) at.leads (form_readable line within)
          (form_step s.sorts p due rest line f is made) text exact;
      names = subst (λ (o : Names). AreNames trees o p.terms) (sym names) at.names;
      terms = at.terms ∙ sym terms;
      forms = omega (arith, length-append p.forms (f ∷ []), count, forms);
      nodes = at.nodes ∙ sym nodes;
    }

-- a line after which terms and formulas are the same
pub stands_line : (s : Subject) (trees : List Tree) (v w : WriterValue) (p q : Progress) (line : ProofLine) → Stands s trees v p →
    IsReadable line → taken s.sorts p line ≡ Ok q → w.text ≡ v.text ++ line_text line → w.exact ≡ (is_exact line || v.exact) →
    w.names ≡ v.names → w.terms ≡ v.terms → w.forms ≡ v.forms → q.terms ≡ p.terms → q.forms ≡ p.forms → q.nodes ≡ w.nodes →
    Stands s trees w q
stands_line s trees v w p q line at readable goes text exact names terms forms same_terms same_forms nodes = record {
  leads = leads_on s v.text w.text v.exact w.exact p q line at.leads readable goes text exact;
  names =
      subst (λ (o : Names). AreNames trees o q.terms) (sym names)
      (subst (AreNames trees v.names) (sym same_terms) at.names);
  terms = ap length same_terms ∙ (at.terms ∙ sym terms);
  forms = ap length same_forms ∙ (at.forms ∙ sym forms);
  nodes = nodes;
}

-- nothing is added, and more after more
pub adds_none : (p : Progress) → Adds p p
adds_none p = record { nodes = refl; pending = refl; terms = ([], none p.terms); forms = ([], none p.forms) }
  where
    none : {T : Type 0} (xs : List T) → xs ≡ xs ++ []
    none [] = refl
    none {T} (x ∷ xs) = ap (λ (l : List T). x ∷ l) (none xs)

pub adds_twice : (p q r : Progress) → Adds p q → Adds q r → Adds p r
adds_twice p q r a b = record {
  nodes = b.nodes ∙ a.nodes;
  pending = b.pending ∙ a.pending;
  terms = (
    a.terms.0 ++ b.terms.0,
    b.terms.1 ∙ (ap (λ (l : List Tree). l ++ b.terms.0) a.terms.1 ∙ both p.terms a.terms.0 b.terms.0),
  );
  forms = (
    a.forms.0 ++ b.forms.0,
    b.forms.1 ∙ (ap (λ (l : List Assertion). l ++ b.forms.0) a.forms.1 ∙ both p.forms a.forms.0 b.forms.0),
  );
}
  where
    both : {T : Type 0} (xs ys zs : List T) → (xs ++ ys) ++ zs ≡ xs ++ (ys ++ zs)
    both [] ys zs = refl
    both {T} (x ∷ xs) ys zs = ap (λ (l : List T). x ∷ l) (both xs ys zs)
