-- How a proof on its way goes on with a line.
use Rattle.sm_check.proofs.Imports.{◌≡◌, ℕ, zero, suc, ◌+◌, ◌<◌, inl, inr, Option, Some, None, Result, Ok, Err, List, [], ◌∷◌, ◌++◌, length, reverse, refl, sym, ap, ◌∙◌, subst, arith, followed, length-append, get_or_from_slice_get, Sorts, Tree, Lit, Assertion, TableValue, trees_in, sorts_in, tree_at, AreBefore, TermId, ExtendsTable, AreApart, BranchFact, AllStand, Fact, Form, TermLine, FormLine, and_then, Word, Pending, Progress, form_made, term_made, taken, taken_at, row_form, RowStands, RowsStand, IsRowReady, AreRowsReady, DueStands, AllWait, AllPending, PendingStands, Waiting, IsTerm, Tells, WalkValue, Walks, terms_in, IsWalkReady, one_place, get_pushed}
use Rattle.std.proofs.Common.{slice_get}
use Rattle.std.specs.Prelude.{pos}
use Rattle.sm_proof.specs.declared.line.FormLine.TheVariants as form
use Rattle.sm_proof.specs.Lines.{Term}
use Rattle.sm_check.specs.FormRows.{joined, FormRow}
use Rattle.sm_check.specs.Pending.{Due}
use Rattle.sm_check.specs.Tells.{LineFault, Wrong, Memory}
use Rattle.sm_check.proofs.FormRowsLemmas.{joined_there}
use Rattle.sm_check.proofs.WalkWidens.{terms_stay, rows_stand, pending_stays}

pub got_more : {X : Type 0} (xs more : List X) (x : X) (k : ℕ) → slice_get xs k ≡ Some x → slice_get (xs ++ more) k ≡ Some x
got_more [] more x k e = absurd cc
got_more (z ∷ xs) more x zero e = e
got_more (z ∷ xs) more x (suc k) e = got_more xs more x k e

past_end : {X : Type 0} (xs : List X) (x : X) (k : ℕ) → slice_get xs k ≡ Some x → k < length xs
past_end [] x k e = absurd cc
past_end (z ∷ xs) x zero e = omega arith
past_end (z ∷ xs) x (suc k) e = let less = past_end xs x k e in omega arith

got_last : {X : Type 0} (xs : List X) (x y : X) (k : ℕ) → k ≡ length xs → slice_get (xs ++ x ∷ []) k ≡ Some y → x ≡ y
got_last xs x y k is e =
    elim (get_pushed xs x y k e) [ inl h ↦ absurd (let less = past_end xs y k h in omega arith) | inr h ↦ h.1 ]

-- a row's formula stays where there are more formulas
joined_more : (forms more : List Assertion) (p q : ℕ) (makes : Assertion → Assertion → Assertion) (f : Assertion) →
    joined forms p q makes ≡ Some f → joined (forms ++ more) p q makes ≡ Some f
joined_more forms more p q makes f e = by (slice_get forms p) refl
  where
    second : (g : Assertion) (o : Option Assertion) → slice_get forms p ≡ Some g → slice_get forms q ≡ o →
        joined (forms ++ more) p q makes ≡ Some f
    second g None at none =
        let one : joined forms p q makes ≡ None =
        ap (λ (o : Option Assertion). followed o (λ (a : Assertion). followed (slice_get forms q) (λ (b : Assertion). Some (makes a b)))) at
        ∙ ap (λ (o : Option Assertion). followed o (λ (b : Assertion). Some (makes g b))) none in
        absurd cc
    second g (Some h) at there =
        joined_there (forms ++ more) p q makes g h (got_more forms more g p at) (got_more forms more h q there)
        ∙ sym (joined_there forms p q makes g h at there) ∙ e

    by : (o : Option Assertion) → slice_get forms p ≡ o → joined (forms ++ more) p q makes ≡ Some f
    by None none =
        let one : joined forms p q makes ≡ None =
        ap (λ (o : Option Assertion). followed o (λ (a : Assertion). followed (slice_get forms q) (λ (b : Assertion). Some (makes a b)))) none in
        absurd cc
    by (Some g) at = second g (slice_get forms q) at refl

row_more : (sorts : Sorts) (trees : List Tree) (forms more : List Assertion) (r : FormLine) (f : Assertion) →
    row_form sorts trees forms r ≡ Some f → row_form sorts trees (forms ++ more) r ≡ Some f
row_more sorts trees forms more form.Yes f e = e
row_more sorts trees forms more form.No f e = e
row_more sorts trees forms more (form.Eq t u) f e = e
row_more sorts trees forms more (form.Ne t u) f e = e
row_more sorts trees forms more (form.Le t u) f e = e
row_more sorts trees forms more (form.Lt t u) f e = e
row_more sorts trees forms more (form.And p q) f e = joined_more forms more p q _ f e
row_more sorts trees forms more (form.Or p q) f e = joined_more forms more p q _ f e

-- one row more
pub rows_push : (sorts : Sorts) (trees : List Tree) (rows : List FormRow) (forms : List Assertion) (row : FormRow) (f : Assertion) →
    RowsStand sorts trees rows forms → RowStands sorts trees forms row f →
    RowsStand sorts trees (rows ++ row ∷ []) (forms ++ f ∷ [])
rows_push sorts trees rows forms row f all last = record {
  count = length-append rows (row ∷ []) ∙ ap (λ (n : ℕ). n + 1) all.count ∙ sym (length-append forms (f ∷ []));
  each = λ (k : ℕ) (r : FormRow) (g : Assertion) (e : slice_get (rows ++ row ∷ []) k ≡ Some r) (h : slice_get (forms ++ f ∷ []) k ≡ Some g).
      elim (get_pushed rows row r k e) [
        | inl old ↦
            elim (get_pushed forms f g k h) [
              | inl there ↦ more r g (all.each k r g old there)
              | inr end ↦ absurd (let less = past_end rows r k old in let n = all.count in let m = end.0 in omega arith)
            ]
        | inr end ↦
            let is : k ≡ length forms = end.0 ∙ all.count in
            subst (λ (x : FormRow). RowStands sorts trees (forms ++ f ∷ []) x g) end.1
            (subst (RowStands sorts trees (forms ++ f ∷ []) row) (got_last forms f g k is h) (more row f last))
      ];
}
  where
    more : (r : FormRow) (g : Assertion) → RowStands sorts trees forms r g → RowStands sorts trees (forms ++ f ∷ []) r g
    more r g h = record { made = row_more sorts trees forms (f ∷ []) r.made g h.made; nodes = h.nodes; depth = h.depth }

pub rows_ready : (sorts : Sorts) (trees : List Tree) (rows : List FormRow) (row : FormRow) → AreRowsReady sorts trees rows →
    IsRowReady sorts trees (length rows) row.made →
    AreRowsReady sorts trees (rows ++ row ∷ [])
rows_ready sorts trees rows row all last k r e =
    elim (get_pushed rows row r k e) [
      | inl old ↦ all k r old
      | inr end ↦
          subst (λ (x : FormRow). IsRowReady sorts trees k x.made) end.1 (subst (λ (n : ℕ). IsRowReady sorts trees n row.made) (sym end.0) last)
    ]

-- something is due
pub record HasFirst (sorts : Sorts) (trees : List Tree) (path : List Fact) (d : Due) (ws : List Waiting) (ps : List Pending) : Type 0 where
  pub facts : List BranchFact
  pub due : Pending
  pub rest : List Pending
  pub is : ps ≡ due ∷ rest
  pub stand : AllStand sorts trees path facts
  pub first : DueStands sorts trees facts d due
  pub wait : AllWait sorts trees facts (length facts) (reverse ws) rest

pub has_first : (sorts : Sorts) (trees : List Tree) (path : List Fact) (o : Option Due) (d : Due) (ws : List Waiting) (ps : List Pending) →
    o ≡ Some d → PendingStands sorts trees path o ws ps → HasFirst sorts trees path d ws ps
has_first sorts trees path o d ws ps is h =
    by ps (subst (λ (x : Option Due). AllPending sorts trees h.facts x (reverse ws) ps) is h.all)
  where
    by : (ps : List Pending) → AllPending sorts trees h.facts (Some d) (reverse ws) ps → HasFirst sorts trees path d ws ps
    by [] a = absurd a
    by (p ∷ rest) a = record { facts = h.facts; due = p; rest = rest; is = refl; stand = h.stand; first = a.0; wait = a.1 }

-- where a line is refused, so is what would come of it
pub fails : {S T U V : Type 0} (P : S → T → Type 0) (Q : V → U → Type 0) (e : LineFault) (r : Result T Word) (next : T → Result U Word) →
    Tells P (Err e) r → Tells Q (Err e) (and_then r next)
fails P Q Memory r next h = tt
fails P Q (Wrong w) (Ok t) next h = absurd h
fails P Q (Wrong w) (Err v) next h = h

-- what a proof does with a line where something is due
module _ (sorts : Sorts) (p : Progress) (d : Pending) (rest : List Pending) (is : p.pending ≡ d ∷ rest) where
  pub term_taken : (line : TermLine) →
      taken sorts p (Term line) ≡ and_then (term_made sorts p.terms d line) (λ (t : Tree). Ok (record p { terms = p.terms ++ t ∷ [] }))
  term_taken line = ap (λ (ps : List Pending). taken_at sorts p ps (Term line)) is

  pub form_taken : (line : FormLine) →
      taken sorts p (Form line) ≡ and_then (form_made sorts p.terms p.forms line) (λ (f : Assertion). Ok (record p { forms = p.forms ++ f ∷ [] }))
  form_taken line = ap (λ (ps : List Pending). taken_at sorts p ps (Form line)) is

module _ (w : WalkValue) (p : Progress) (d : Due) (is : w.due ≡ Some d) (walks : Walks w p) where
  abbrev sorts : Sorts
  sorts = sorts_in w.table

  abbrev trees : List Tree
  trees = trees_in w.table

  abbrev there : HasFirst sorts trees w.path d w.waiting p.pending
  there = has_first sorts trees w.path w.due d w.waiting p.pending is walks.pending

  -- a formula is made
  pub form_goes : (rows : List FormRow) (row : FormRow) (line : FormLine) → rows ≡ w.forms ++ row ∷ [] →
      Tells (RowStands sorts trees p.forms) (Ok row) (form_made sorts (terms_in trees w.terms) p.forms line) →
      Tells {S = Unit {0}} (λ x q. Walks (record w { forms = rows }) q) (Ok tt) (taken sorts p (Form line))
  form_goes rows row line more h =
      let P = (λ (r : Result Progress Word). Tells {S = Unit {0}} (λ x q. Walks (record w { forms = rows }) q) (Ok tt) r) in
      subst P (sym (form_taken sorts p there.due there.rest there.is line))
      (by (form_made sorts p.terms p.forms line)
      (subst (λ (ts : List Tree). Tells (RowStands sorts trees p.forms) (Ok row) (form_made sorts ts p.forms line)) walks.terms h))
    where
      by : (r : Result Assertion Word) → Tells (RowStands sorts trees p.forms) (Ok row) r →
          Tells {S = Unit {0}} (λ x q. Walks (record w { forms = rows }) q) (Ok tt)
          (and_then r (λ (f : Assertion). Ok (record p { forms = p.forms ++ f ∷ [] })))
      by (Err v) h = absurd h
      by (Ok f) h = record {
        nodes = walks.nodes;
        terms = walks.terms;
        forms =
            subst (λ (rs : List FormRow). RowsStand sorts trees rs (p.forms ++ f ∷ [])) (sym more)
            (rows_push sorts trees w.forms p.forms row f walks.forms h);
        pending = walks.pending;
      }

  pub form_stops : (v : WalkValue) (e : LineFault) (line : FormLine) →
      Tells (RowStands sorts trees p.forms) (Err e) (form_made sorts (terms_in trees w.terms) p.forms line) →
      Tells {S = Unit {0}} (λ x q. Walks v q) (Err e) (taken sorts p (Form line))
  form_stops v e line h =
      let P = (λ (r : Result Progress Word). Tells {S = Unit {0}} (λ x q. Walks v q) (Err e) r) in
      subst P (sym (form_taken sorts p there.due there.rest there.is line))
      (fails {V = Unit {0}} (RowStands sorts trees p.forms) (λ x q. Walks v q) e (form_made sorts p.terms p.forms line)
      (λ (f : Assertion). Ok (record p { forms = p.forms ++ f ∷ [] }))
      (subst (λ (ts : List Tree). Tells (RowStands sorts trees p.forms) (Err e) (form_made sorts ts p.forms line)) walks.terms h))

  -- a term is made
  pub term_goes : (table : TableValue) (terms : List TermId) (id : TermId) (line : TermLine) → ExtendsTable w.table table → AreApart (trees_in table) →
      IsWalkReady w.table w.declared w.terms w.forms w.due w.waiting → terms ≡ w.terms ++ id ∷ [] →
      ((facts : List BranchFact) (first : Pending) → AllStand sorts trees w.path facts → DueStands sorts trees facts d first →
      Tells (IsTerm (trees_in table)) (Ok id) (term_made sorts (terms_in trees w.terms) first line)) →
      Tells {S = Unit {0}} (λ x q. Walks (record w { table = table; terms = terms }) q) (Ok tt) (taken sorts p (Term line))
  term_goes table terms id line wider apart ready more h =
      let P = (λ (r : Result Progress Word). Tells {S = Unit {0}} (λ x q. Walks (record w { table = table; terms = terms }) q) (Ok tt) r) in
      subst P (sym (term_taken sorts p there.due there.rest there.is line))
      (by (term_made sorts p.terms there.due line)
      (subst (λ (ts : List Tree). Tells (IsTerm (trees_in table)) (Ok id) (term_made sorts ts there.due line)) walks.terms
      (h there.facts there.due there.stand there.first)))
    where
      behind : (ts : List TermId) (t : Tree) → IsTerm (trees_in table) id t → terms_in (trees_in table) (ts ++ id ∷ []) ≡ terms_in (trees_in table) ts ++ t ∷ []
      behind [] t e = ap (λ (x : Tree). x ∷ []) (get_or_from_slice_get (trees_in table) id.0 t (Lit (pos 0)) e)
      behind (x ∷ ts) t e = ap (λ (l : List Tree). tree_at (trees_in table) x.0 ∷ l) (behind ts t e)

      by : (r : Result Tree Word) → Tells (IsTerm (trees_in table)) (Ok id) r →
          Tells {S = Unit {0}} (λ x q. Walks (record w { table = table; terms = terms }) q) (Ok tt)
          (and_then r (λ (t : Tree). Ok (record p { terms = p.terms ++ t ∷ [] })))
      by (Err v) h = absurd h
      by (Ok t) h = record {
        nodes = walks.nodes;
        terms =
            ap (terms_in (trees_in table)) more ∙ behind w.terms t h
            ∙ ap (λ (l : List Tree). l ++ t ∷ []) (terms_stay w.table table wider w.terms ready.named ∙ walks.terms);
        forms = rows_stand w.table table wider w.forms p.forms ready.rows walks.forms;
        pending = pending_stays w.table table wider (one_place (trees_in table) apart) w.path w.due w.waiting p.pending ready.first ready.later walks.pending;
      }

  pub term_stops : (v : WalkValue) (table : TableValue) (e : LineFault) (line : TermLine) →
      ((facts : List BranchFact) (first : Pending) → AllStand sorts trees w.path facts → DueStands sorts trees facts d first →
      Tells (IsTerm (trees_in table)) (Err e) (term_made sorts (terms_in trees w.terms) first line)) →
      Tells {S = Unit {0}} (λ x q. Walks v q) (Err e) (taken sorts p (Term line))
  term_stops v table e line h =
      let P = (λ (r : Result Progress Word). Tells {S = Unit {0}} (λ x q. Walks v q) (Err e) r) in
      subst P (sym (term_taken sorts p there.due there.rest there.is line))
      (fails {V = Unit {0}} (IsTerm (trees_in table)) (λ x q. Walks v q) e (term_made sorts p.terms there.due line)
      (λ (t : Tree). Ok (record p { terms = p.terms ++ t ∷ [] }))
      (subst (λ (ts : List Tree). Tells (IsTerm (trees_in table)) (Err e) (term_made sorts ts there.due line)) walks.terms
      (h there.facts there.due there.stand there.first)))

-- one term more is in the table
pub before_more : (n : ℕ) (ts : List TermId) (t : TermId) → AreBefore n ts → t.0 < n → AreBefore n (ts ++ t ∷ [])
before_more n [] t all last = (last, tt)
before_more n (x ∷ ts) t all last = (all.0, before_more n ts t all.1 last)
