-- A branch that is due is skipped.
use Rattle.sm_check.proofs.Imports.{◌≡◌, Option, Some, None, List, ◌∷◌, length, reverse, subst, Sorts, trees_in, sorts_in, Tree, BranchFact, Pending, Progress, AllWait, AllPending, PendingStands, OnlyWaiting, Waiting, WalkValue, Walks}
use Rattle.sm_check.specs.Pending.{Due}
use Rattle.sm_check.proofs.CertTaken.{walks_on}

-- what waits is pending behind what is due
waits_behind : (sorts : Sorts) (trees : List Tree) (facts : List BranchFact) (d : Option Due) (ws : List Waiting) (ps : List Pending)
    (first : Pending) (rest : List Pending) → ps ≡ first ∷ rest → AllPending sorts trees facts d ws ps →
    AllWait sorts trees facts (length facts) ws rest
waits_behind sorts trees facts d ws ps first rest is all = by d (subst (AllPending sorts trees facts d ws) is all)
  where
    by : (d : Option Due) → AllPending sorts trees facts d ws (first ∷ rest) → AllWait sorts trees facts (length facts) ws rest
    by None all = absurd all
    by (Some d) all = all.1

-- the proof without the branch that was due
pub walk_skipped : (w x : WalkValue) (p : Progress) (first : Pending) (rest : List Pending) → Walks w p → p.pending ≡ first ∷ rest →
    x.table ≡ w.table → x.nodes ≡ w.nodes → x.terms ≡ w.terms → x.forms ≡ w.forms →
    ((ps : List Pending) → OnlyWaiting (sorts_in w.table) (trees_in w.table) w.path w.waiting ps →
    PendingStands (sorts_in w.table) (trees_in w.table) x.path x.due x.waiting ps) →
    Walks x (record p { pending = rest })
walk_skipped w x p first rest walks is table nodes terms forms due =
    let h = walks.pending in
    let later = waits_behind (sorts_in w.table) (trees_in w.table) h.facts w.due (reverse w.waiting) p.pending first rest is h.all in
    walks_on w x p h.facts rest rest
    (record {
      nodes = walks.nodes;
      terms = walks.terms;
      forms = walks.forms;
      stand = h.stand;
      sorted = h.sorted;
      later = later;
    })
    table nodes terms forms
    (due rest (record { facts = h.facts; stand = h.stand; sorted = h.sorted; all = later }))
