-- A proof on its way stands for the same where the table has more behind.
use Rattle.sm_check.proofs.Imports.{◌≡◌, ℕ, ◌<◌, Option, Some, None, List, [], ◌∷◌, ◌++◌, length, take, reverse, refl, sym, ap, ◌∙◌, subst, arith, reverse-append, Sorts, Tree, Assertion, numbered, tree_sort, TableValue, trees_in, sorts_in, tree_at, AreBefore, TermId, ExtendsTable, BranchFact, Formal, Sum, as_facts, IsFactSorted, AreFactsSorted, FactStands, AllStand, Fact, FormLine, Pending, row_form, RowsStand, IsRowReady, AreRowsReady, HaveOneSort, AreNumeric, IsDueReady, IsReadyIfDue, IsWaitingReady, AreWaitingReady, DueStands, WaitingStands, shared_by, AllWait, AllPending, PendingStands, Waiting, terms_in, IsWalkReady, form-later}
use Rattle.std.proofs.Common.{slice_get}
use Rattle.sm_term.specs.Assertions as plain
use Rattle.sm_term.specs.Formulas as row
use Rattle.sm_term.proofs.TreesLemmas.{before-later}
use Rattle.sm_theory.specs.declared.fact.Fact.TheVariants as fact
use Rattle.sm_theory.specs.Standing.{HaveOnePlace}
use Rattle.sm_theory.proofs.LinearLater as forms
use Rattle.sm_plan.proofs.TablesWiden as widened
use Rattle.sm_proof.specs.declared.line.FormLine.TheVariants as line
use Rattle.sm_proof.specs.Passing as pending
use Rattle.sm_check.specs.declared.pending.Due.TheVariants as due
use Rattle.sm_check.specs.declared.pending.Waiting.TheVariants as waits
use Rattle.sm_check.specs.FormRows.{FormRow}
use Rattle.sm_check.specs.Pending.{Due}
use Rattle.sm_check.specs.Walks.{AreNumbered}

-- what waits, in the other order
module _ (sorts : Sorts) (trees : List Tree) where
  pub ready_joined : (ws xs : List Waiting) → AreWaitingReady sorts trees ws → AreWaitingReady sorts trees xs → AreWaitingReady sorts trees (ws ++ xs)
  ready_joined [] xs ready and = and
  ready_joined (x ∷ ws) xs ready and = (ready.0, ready_joined ws xs ready.1 and)

  pub ready_reversed : (ws : List Waiting) → AreWaitingReady sorts trees ws → AreWaitingReady sorts trees (reverse ws)
  ready_reversed [] ready = tt
  ready_reversed (x ∷ ws) ready =
      subst (AreWaitingReady sorts trees) (sym (reverse-append (x ∷ []) ws))
      (ready_joined (reverse ws) (x ∷ []) (ready_reversed ws ready.1) (ready.0, tt))

-- from one table to a wider one
module _ (v w : TableValue) (wider : ExtendsTable v w) where
  abbrev few : ℕ
  few = length (trees_in v)

  -- terms
  pub terms_stay : (terms : List TermId) → AreBefore few terms → terms_in (trees_in w) terms ≡ terms_in (trees_in v) terms
  terms_stay [] before = refl
  terms_stay (t ∷ terms) before = λ i. widened.tree_stays v w wider t.0 before.0 i ∷ terms_stay terms before.1 i

  pub terms_before : (terms : List TermId) → AreBefore few terms → AreBefore (length (trees_in w)) terms
  terms_before terms before = before-later few (length (trees_in w)) (widened.longer v w wider) terms before

  pub names_numbered : (declared : ℕ) → AreNumbered (sorts_in v) declared → AreNumbered (sorts_in w) declared
  names_numbered declared numbered = subst (λ (f : Sorts). AreNumbered f declared) (sym wider.sorts) numbered

  -- formulas of lines
  sort_stays : (t : ℕ) → t < few → tree_sort (sorts_in w) (tree_at (trees_in w) t) ≡ tree_sort (sorts_in v) (tree_at (trees_in v) t)
  sort_stays t h = ap (λ (f : Sorts). tree_sort f (tree_at (trees_in w) t)) wider.sorts ∙ ap (tree_sort (sorts_in v)) (widened.tree_stays v w wider t h)

  within_stays : (t : ℕ) → t < few → t < length (trees_in w)
  within_stays t h = let more = widened.longer v w wider in omega arith

  pub row_stays : (forms : List Assertion) (k : ℕ) (row : FormLine) → IsRowReady (sorts_in v) (trees_in v) k row →
      row_form (sorts_in w) (trees_in w) forms row ≡ row_form (sorts_in v) (trees_in v) forms row
  row_stays forms k line.Yes ready = refl
  row_stays forms k line.No ready = refl
  row_stays forms k (line.Eq t u) ready =
      λ i. Some (plain.Eq (sort_stays t ready.left i) (widened.tree_stays v w wider t ready.left i) (widened.tree_stays v w wider u ready.right i))
  row_stays forms k (line.Ne t u) ready =
      λ i. Some (plain.Ne (sort_stays t ready.left i) (widened.tree_stays v w wider t ready.left i) (widened.tree_stays v w wider u ready.right i))
  row_stays forms k (line.Le t u) ready =
      λ i. Some (plain.Le (widened.tree_stays v w wider t ready.left i) (widened.tree_stays v w wider u ready.right i))
  row_stays forms k (line.Lt t u) ready =
      λ i. Some (plain.Lt (widened.tree_stays v w wider t ready.left i) (widened.tree_stays v w wider u ready.right i))
  row_stays forms k (line.And p q) ready = refl
  row_stays forms k (line.Or p q) ready = refl

  same_sort_stays : (t u : ℕ) → HaveOneSort (sorts_in v) (trees_in v) t u → HaveOneSort (sorts_in w) (trees_in w) t u
  same_sort_stays t u ready = record {
    left = within_stays t ready.left;
    right = within_stays u ready.right;
    same = sort_stays t ready.left ∙ ready.same ∙ sym (sort_stays u ready.right);
  }

  numeric_stays : (t u : ℕ) → AreNumeric (sorts_in v) (trees_in v) t u → AreNumeric (sorts_in w) (trees_in w) t u
  numeric_stays t u ready = record {
    left = within_stays t ready.left;
    right = within_stays u ready.right;
    left_number = sort_stays t ready.left ∙ ready.left_number;
    right_number = sort_stays u ready.right ∙ ready.right_number;
  }

  pub row_ready : (k : ℕ) (row : FormLine) → IsRowReady (sorts_in v) (trees_in v) k row → IsRowReady (sorts_in w) (trees_in w) k row
  row_ready k line.Yes ready = tt
  row_ready k line.No ready = tt
  row_ready k (line.Eq t u) ready = same_sort_stays t u ready
  row_ready k (line.Ne t u) ready = same_sort_stays t u ready
  row_ready k (line.Le t u) ready = numeric_stays t u ready
  row_ready k (line.Lt t u) ready = numeric_stays t u ready
  row_ready k (line.And p q) ready = ready
  row_ready k (line.Or p q) ready = ready

  pub rows_ready : (rows : List FormRow) → AreRowsReady (sorts_in v) (trees_in v) rows → AreRowsReady (sorts_in w) (trees_in w) rows
  rows_ready rows ready k row e = row_ready k row.made (ready k row e)

  pub rows_stand : (rows : List FormRow) (forms : List Assertion) → AreRowsReady (sorts_in v) (trees_in v) rows →
      RowsStand (sorts_in v) (trees_in v) rows forms → RowsStand (sorts_in w) (trees_in w) rows forms
  rows_stand rows forms ready stand = record {
    count = stand.count;
    each = λ (k : ℕ) (row : FormRow) (f : Assertion) (e : slice_get rows k ≡ Some row) (g : slice_get forms k ≡ Some f).
        let one = stand.each k row f e g in
        record {
          made = row_stays forms k row.made (ready k row e) ∙ one.made;
          nodes = one.nodes;
          depth = one.depth;
        };
  }

  -- facts
  module _ (places : HaveOnePlace (trees_in w)) where
    pub fact_stays : (f : Fact) (k : BranchFact) → FactStands (sorts_in v) (trees_in v) f k → FactStands (sorts_in w) (trees_in w) f k
    fact_stays (fact.Form f) (Formal g) stands =
        (form-later few (length (trees_in w)) (widened.longer v w wider) (numbered f) stands.0, widened.assertion_stays v w wider (numbered f) stands.0 ∙ stands.1)
    fact_stays (fact.Form f) (Sum g) stands = absurd stands
    fact_stays (fact.Lin f) (Formal g) stands = absurd stands
    fact_stays (fact.Lin f) (Sum g) stands =
        forms.stands_later (trees_in v) (trees_in w) f g (widened.got_stays v w wider) places stands

    pub path_stays : (path : List Fact) (facts : List BranchFact) → AllStand (sorts_in v) (trees_in v) path facts →
        AllStand (sorts_in w) (trees_in w) path facts
    path_stays [] [] all = tt
    path_stays [] (k ∷ ks) all = absurd all
    path_stays (f ∷ fs) [] all = absurd all
    path_stays (f ∷ fs) (k ∷ ks) all = (fact_stays f k all.0, path_stays fs ks all.1)

    pub facts_stay : (facts : List BranchFact) → AreFactsSorted (sorts_in v) facts → AreFactsSorted (sorts_in w) facts
    facts_stay facts sorted = subst (λ (f : Sorts). AreFactsSorted f facts) (sym wider.sorts) sorted

    -- what is due
    pub due_stays : (facts : List BranchFact) (d : Due) (p : Pending) → IsDueReady (sorts_in v) (trees_in v) d →
        DueStands (sorts_in v) (trees_in v) facts d p → DueStands (sorts_in w) (trees_in w) facts d p
    due_stays facts (due.State state above) (pending.Due st over) ready stands =
        (stands.0, widened.state_stays v w wider st.facts state ready ∙ stands.1, stands.2)
    due_stays facts (due.State state above) (pending.Branch held own over) ready stands = absurd stands
    due_stays facts (due.Branch stores splits) (pending.Due st over) ready stands = absurd stands
    due_stays facts (due.Branch stores splits) (pending.Branch held own over) ready stands =
        (stands.0, widened.stores_stay v w wider stores.value ready ∙ stands.1, stands.2)

    -- what waits
    waiting_stays : (facts : List BranchFact) (x : Waiting) (p : Pending) → IsWaitingReady (sorts_in v) (trees_in v) x →
        WaitingStands (sorts_in v) (trees_in v) facts x p → WaitingStands (sorts_in w) (trees_in w) facts x p
    waiting_stays facts (waits.State shared kept more state above) (pending.Due st over) ready stands =
        let fs = widened.forms_stay v w wider kept.value.list.items stands.0 in
        let gs = widened.forms_stay v w wider more.list.items stands.1 in (
          widened.forms_ready v w wider kept.value.list.items stands.0,
          widened.forms_ready v w wider more.list.items stands.1,
          stands.2 ∙ sym (λ i. take shared facts ++ as_facts (fs i ++ gs i)),
          widened.state_stays v w wider st.facts state ready ∙ stands.3,
          stands.4,
        )
    waiting_stays facts (waits.State shared kept more state above) (pending.Branch held own over) ready stands = absurd stands
    waiting_stays facts (waits.Branch shared fact stores splits) (pending.Due st over) ready stands = absurd stands
    waiting_stays facts (waits.Branch shared fact stores splits) (pending.Branch held own over) ready stands = (
      (
        stands.0.0,
        fact_stays fact stands.0.0 stands.0.1,
        subst (λ (f : Sorts). IsFactSorted f stands.0.0) (sym wider.sorts) stands.0.2,
        stands.0.3,
      ),
      widened.stores_stay v w wider stores.value ready ∙ stands.1,
      stands.2,
    )

    pub all_wait : (facts : List BranchFact) (most : ℕ) (ws : List Waiting) (ps : List Pending) → AreWaitingReady (sorts_in v) (trees_in v) ws →
        AllWait (sorts_in v) (trees_in v) facts most ws ps → AllWait (sorts_in w) (trees_in w) facts most ws ps
    all_wait facts most [] [] ready all = tt
    all_wait facts most [] (p ∷ ps) ready all = absurd all
    all_wait facts most (x ∷ ws) [] ready all = absurd all
    all_wait facts most (x ∷ ws) (p ∷ ps) ready all =
        (all.0, waiting_stays facts x p ready.0 all.1, all_wait facts (shared_by x) ws ps ready.1 all.2)

    all_pending : (facts : List BranchFact) (d : Option Due) (ws : List Waiting) (ps : List Pending) → IsReadyIfDue (sorts_in v) (trees_in v) d →
        AreWaitingReady (sorts_in v) (trees_in v) ws →
        AllPending (sorts_in v) (trees_in v) facts d ws ps → AllPending (sorts_in w) (trees_in w) facts d ws ps
    all_pending facts None ws [] first later all = all
    all_pending facts None ws (p ∷ ps) first later all = absurd all
    all_pending facts (Some d) ws [] first later all = absurd all
    all_pending facts (Some d) ws (p ∷ ps) first later all =
        (due_stays facts d p first all.0, all_wait facts (length facts) ws ps later all.1)

    -- what is pending, and what waits where nothing is due
    pub pending_stays : (path : List Fact) (d : Option Due) (waiting : List Waiting) (ps : List Pending) →
        IsReadyIfDue (sorts_in v) (trees_in v) d → AreWaitingReady (sorts_in v) (trees_in v) waiting →
        PendingStands (sorts_in v) (trees_in v) path d waiting ps → PendingStands (sorts_in w) (trees_in w) path d waiting ps
    pending_stays path d waiting ps first later stands = record {
      facts = stands.facts;
      stand = path_stays path stands.facts stands.stand;
      sorted = facts_stay stands.facts stands.sorted;
      all = all_pending stands.facts d (reverse waiting) ps first (ready_reversed (sorts_in v) (trees_in v) waiting later) stands.all;
    }

  -- what is due, and what waits, can still be gone on from
  pub due_ready : (d : Due) → IsDueReady (sorts_in v) (trees_in v) d → IsDueReady (sorts_in w) (trees_in w) d
  due_ready (due.State state above) ready = widened.state_ready v w wider state ready
  due_ready (due.Branch stores splits) ready = widened.stores_ready v w wider stores.value ready

  if_due_ready : (d : Option Due) → IsReadyIfDue (sorts_in v) (trees_in v) d → IsReadyIfDue (sorts_in w) (trees_in w) d
  if_due_ready None ready = tt
  if_due_ready (Some d) ready = due_ready d ready

  pub waiting_ready : (ws : List Waiting) → AreWaitingReady (sorts_in v) (trees_in v) ws → AreWaitingReady (sorts_in w) (trees_in w) ws
  waiting_ready [] ready = tt
  waiting_ready (waits.State shared kept more state above ∷ ws) ready = (widened.state_ready v w wider state ready.0, waiting_ready ws ready.1)
  waiting_ready (waits.Branch shared fact stores splits ∷ ws) ready = (widened.stores_ready v w wider stores.value ready.0, waiting_ready ws ready.1)

  pub walk_ready : (declared : ℕ) (terms : List TermId) (rows : List FormRow) (d : Option Due) (waiting : List Waiting) →
      IsWalkReady v declared terms rows d waiting → IsWalkReady w declared terms rows d waiting
  walk_ready declared terms rows d waiting ready = record {
    numbered = names_numbered declared ready.numbered;
    named = terms_before terms ready.named;
    rows = rows_ready rows ready.rows;
    first = if_due_ready d ready.first;
    later = waiting_ready waiting ready.later;
  }

-- other things wait
pub ready_later : (table : TableValue) (declared : ℕ) (terms : List TermId) (rows : List FormRow) (d : Option Due) (waiting other : List Waiting) →
    IsWalkReady table declared terms rows d waiting → AreWaitingReady (sorts_in table) (trees_in table) other →
    IsWalkReady table declared terms rows d other
ready_later table declared terms rows d waiting other ready later = record {
  numbered = ready.numbered;
  named = ready.named;
  rows = ready.rows;
  first = ready.first;
  later = later;
}
