-- What jobs tell, each of its share of the templates.
use Rattle.sm_houdini.proofs.Imports.{◌≡◌, ◌<◌, ◌≤◌, ℕ, Bool, not, ◌&&◌, List, length, get_or, zero-add, sym, ap, ◌∙◌, subst, IfOk, AllocError, StandInOrder, TableValue, trees_in, sorts_in, due_in, Choice, choice_in, Reach, Marks, closing, closes_at, owner_in, RoundGoalsValue, TellsShare, holds_at_shared, AreKnown, all_marked, in_share, rows, Marked, NodeGoalsValue, TellsNodes, holds_but, holds_in_job, is_left_out, all_below, holds_at}
use Rattle.std.proofs.Common.{Some, None, Ok, Err}
use Rattle.std.specs.Prelude.{Result}
use Rattle.sm_expand.specs.Views.{dues_in}
use Rattle.sm_expand.specs.declared.due.Due.{Due}
use Rattle.sm_houdini.proofs.MarkedLemmas.{all_same}
use Rattle.sm_houdini.proofs.NodeLemmas.{jobs_mean, below_again, shared_and_dealt}

-- what is known over a table is known over one with the same terms
pub known_over : (v w : TableValue) → sorts_in w ≡ sorts_in v → trees_in w ≡ trees_in v → (reach : Reach) (ds : List Due)
    (flags : List Bool) → AreKnown v reach ds flags → AreKnown w reach ds flags
known_over v w sorts trees reach ds flags known = record {
  closes = λ k d h flag.
      record {
        each = λ i.
            (λ j. closes_at (sorts j) reach (due_in (sorts j) (trees j) (get_or ds k d)) i) ∙ (known.closes k d h flag).each i;
      };
}

-- the marks of a share over a table with the same terms
pub share_tells : (v x : RoundGoalsValue) → v ≡ x → (w : TableValue) (share : ℕ) (m : Marks) → sorts_in w ≡ sorts_in v.table →
    trees_in w ≡ trees_in v.table →
    rows m.sites.items ≡ all_marked (λ (s i : ℕ). in_share v.shares share i && holds_but (is_left_out v.numbers v.shares None)
    (closing (sorts_in w) v.reach) (owner_in v.owners) 0 (dues_in (sorts_in w) (trees_in w) v.dues) s i) 0 (choice_in v.choice) →
    TellsShare x share m
share_tells v x same w share m sorts trees told =
    subst (λ (y : RoundGoalsValue). TellsShare y share m) same
    (told ∙ (λ j. all_marked (λ (s i : ℕ). in_share v.shares share i && holds_but (is_left_out v.numbers v.shares None) (closing (sorts j) v.reach)
    (owner_in v.owners) 0 (dues_in (sorts j) (trees j) v.dues) s i) 0 (choice_in v.choice)))

-- the marks of each share
pub shares_tell : (v : RoundGoalsValue) (parts : List Marks) → StandInOrder (TellsShare v) 0 v.shares parts → (k : ℕ) (d : Marks) →
    k < length parts →
    rows (get_or parts k d).sites.items
    ≡ all_marked (λ (s i : ℕ). in_share (length parts) k i && holds_at_shared v s i) 0 (choice_in v.choice)
shares_tell v parts told k d h =
    let count = told.all in
    let inside : k < v.shares = subst (λ (n : ℕ). k < n) count h in
    subst (λ (j : ℕ). TellsShare v j (get_or parts k d)) (zero-add k) (told.each k d inside)
    ∙ ap (λ (n : ℕ). all_marked (λ (s i : ℕ). in_share n k i && holds_at_shared v s i) 0 (choice_in v.choice)) (sym count)

-- the marks after the nodes of a job, over a table with the same terms
pub nodes_tell : (v x : NodeGoalsValue) → v ≡ x → (w : TableValue) (job : ℕ) (start m : Marks) →
    sorts_in w ≡ sorts_in v.table → trees_in w ≡ trees_in v.table → rows start.sites.items ≡ rows v.marks.sites.items →
    ((passes : ℕ → ℕ → Bool) (choice : Choice) → rows start.sites.items ≡ all_marked passes 0 choice →
    rows m.sites.items ≡ all_marked (λ (s i : ℕ). passes s i && holds_but (is_left_out v.numbers v.jobs (Some job))
    (closing (sorts_in w) v.reach) (owner_in v.owners) 0 (dues_in (sorts_in w) (trees_in w) v.dues) s i) 0 choice) → TellsNodes x job m
nodes_tell v x same w job start m sorts trees copied told =
    subst (λ (y : NodeGoalsValue). TellsNodes y job m) same
    (λ passes choice e.
    told passes choice (copied ∙ e)
    ∙ (λ j. all_marked (λ (s i : ℕ). passes s i && holds_but (is_left_out v.numbers v.jobs (Some job)) (closing (sorts j) v.reach)
    (owner_in v.owners) 0 (dues_in (sorts j) (trees j) v.dues) s i) 0 choice))

-- the marks after each job
pub jobs_told : (v : NodeGoalsValue) (parts : List Marks) → StandInOrder (TellsNodes v) 0 v.jobs parts →
    (passes : ℕ → ℕ → Bool) (choice : Choice) → rows v.marks.sites.items ≡ all_marked passes 0 choice → (k : ℕ) (d : Marks) →
    k < length parts →
    rows (get_or parts k d).sites.items ≡ all_marked (λ (s i : ℕ). passes s i && holds_in_job v (Some k) s i) 0 choice
jobs_told v parts told passes choice e k d h =
    let inside : k < v.jobs = subst (λ (n : ℕ). k < n) told.all h in
    subst (λ (j : ℕ). TellsNodes v j (get_or parts k d)) (zero-add k) (told.each k d inside) passes choice e

-- the marks after all jobs
pub jobs_tell : (v : NodeGoalsValue) (passes : ℕ → ℕ → Bool) (choice : Choice) (count : ℕ) → count ≡ v.jobs → (new : List (List Marked)) →
    new ≡ all_marked (λ (s i : ℕ). passes s i && all_below (λ (k : ℕ). passes s i && holds_in_job v (Some k) s i) count) 0 choice →
    new ≡ all_marked (λ (s i : ℕ). passes s i && holds_but (λ (n : ℕ). not (is_left_out v.numbers v.jobs None n))
    (closing (sorts_in v.table) v.reach) (owner_in v.owners) 0 (dues_in (sorts_in v.table) (trees_in v.table) v.dues) s i) 0 choice
jobs_tell v passes choice count all new made =
    let closes = closing (sorts_in v.table) v.reach in
    let owner = owner_in v.owners in
    let ds = dues_in (sorts_in v.table) (trees_in v.table) v.dues in
    made
    ∙ ap (λ (n : ℕ). all_marked (λ (s i : ℕ). passes s i && all_below (λ (k : ℕ). passes s i && holds_in_job v (Some k) s i) n) 0 choice)
    all
    ∙ all_same _ (λ (s i : ℕ). passes s i && holds_but (λ (n : ℕ). not (is_left_out v.numbers v.jobs None n)) closes owner 0 ds s i) 0
    choice
    (λ (s i : ℕ) (l : 0 ≤ s). below_again (passes s i) (λ (k : ℕ). holds_in_job v (Some k) s i) v.jobs
    ∙ ap (λ (b : Bool). passes s i && b) (jobs_mean v.numbers v.jobs closes owner ds s i))

-- the marks after the nodes that jobs share and those that are dealt
pub round_tells : (v : RoundGoalsValue) (r : Result Marks AllocError) →
    IfOk r (λ (ms : Marks). rows ms.sites.items ≡ all_marked (λ (s i : ℕ). holds_at_shared v s i
    && holds_but (λ (n : ℕ). not (is_left_out v.numbers v.shares None n)) (closing (sorts_in v.table) v.reach) (owner_in v.owners) 0
    (dues_in (sorts_in v.table) (trees_in v.table) v.dues) s i) 0 (choice_in v.choice)) →
    IfOk r (λ (ms : Marks). rows ms.sites.items ≡ all_marked (holds_at (closing (sorts_in v.table) v.reach) (owner_in v.owners)
    (dues_in (sorts_in v.table) (trees_in v.table) v.dues)) 0 (choice_in v.choice))
round_tells v (Err e) h = h
round_tells v (Ok ms) h =
    let closes = closing (sorts_in v.table) v.reach in
    let owner = owner_in v.owners in
    let ds = dues_in (sorts_in v.table) (trees_in v.table) v.dues in
    let out = is_left_out v.numbers v.shares None in
    h
    ∙ all_same (λ (s i : ℕ). holds_at_shared v s i && holds_but (λ (n : ℕ). not (out n)) closes owner 0 ds s i)
    (holds_at closes owner ds) 0 (choice_in v.choice)
    (λ (s i : ℕ) (l : 0 ≤ s). shared_and_dealt out closes owner ds s i)
