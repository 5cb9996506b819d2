-- Certificates that jobs let pass close the branches that are due.
use Rattle.sm_check.proofs.Imports.{◌≡◌, ◌<◌, ◌≤◌, ◌+◌, ℕ, zero, suc, Bool, true, Option, Some, None, Result, Ok, Err, List, [], ◌∷◌, ◌++◌, length, take, refl, sym, ap, ◌∙◌, subst, arith, reverse, append_assoc, append-nil, get_or, ◌-◌, min, is_some, not, zero-add, length-append, take_more, take_min, slice_index_or, Rc, Copy, PerCopy, Sorts, SymbolicStore, SymStore, AreBefore, TermId, Tree, BranchFact, AreFactsSorted, FactStands, AllStand, Fact, stores_in, Word, NumberedLine, Cert, Pending, read_with, Opening, RawLines, certificates_of, pending_after, LeadsTo, Closes, CloseFirst, IsGoalDue, MoreStands, OpenFirst, Passes, ended_in, shared_by, WaitingStands, AllWait, AllPending, PendingStands, Waiting, Tells, sorted_append, stand_append}
use Rattle.std.specs.List.{slice_get}
use Rattle.std.specs.declared.alloc.Global.{Global}
use Rattle.sm_par.specs.Results.{StandInOrder}
use Rattle.sm_proof.specs.Passing as plain
use Rattle.sm_check.specs.declared.pending.Due.TheVariants as due
use Rattle.sm_check.specs.declared.pending.Waiting.TheVariants as waits
use Rattle.sm_check.specs.Closing.{OpensAs}
use Rattle.sm_check.specs.Pending.{Due}
use Rattle.sm_check.proofs.ClosingLemmas.{closes_restored}
use Rattle.sm_check.proofs.PendingLemmas.{take_whole, stand_cut, stand_long, sorted_cut, last_first}

-- the first certificates pass
pub first_close : (exact : Bool) (sorts : Sorts) (trees terms : List Tree) (path : List Fact) (facts : List BranchFact) →
    AllStand sorts trees path facts → AreFactsSorted sorts facts → (n : ℕ) (os : List Opening) (cs : List RawLines) (ps : List Pending) →
    OpenFirst sorts trees facts os ps → n ≤ length os → n ≤ length cs →
    ((k : ℕ) (o : Opening) (c : RawLines) → k < n → slice_get os k ≡ Some o → slice_get cs k ≡ Some c →
    Passes exact sorts trees terms path o (ended_in c.bytes.items)) →
    CloseFirst exact sorts terms ps (take n (certificates_of cs))
first_close exact sorts trees terms path facts all sorted zero os cs ps opens enough there passes = tt
first_close exact sorts trees terms path facts all sorted (suc n) [] cs ps opens enough there passes = absurd (omega arith)
first_close exact sorts trees terms path facts all sorted (suc n) (o ∷ os) [] ps opens enough there passes = absurd (omega arith)
first_close exact sorts trees terms path facts all sorted (suc n) (o ∷ os) (c ∷ cs) [] opens enough there passes = absurd opens
first_close exact sorts trees terms path facts all sorted (suc n) (o ∷ os) (c ∷ cs) (p ∷ ps) opens enough there passes = (
  passes 0 o c (omega arith) refl refl facts p all sorted opens.0,
  first_close exact sorts trees terms path facts all sorted n os cs ps opens.1 (omega arith) (omega arith)
      (λ (k : ℕ) (d : Opening) (b : RawLines) (below : k < n) (at : slice_get os k ≡ Some d) (is : slice_get cs k ≡ Some b).
      passes (suc k) d b (omega arith) at is),
)

-- lines that close a branch with some stores close it with others
pub closes_with : (exact : Bool) (sorts : Sorts) (terms : List Tree) (stores held : Copy → SymbolicStore) (own : List BranchFact)
    (splits : ℕ) (lines : List (List ℕ)) → Closes exact sorts terms (plain.Branch stores own splits ∷ []) lines →
    Closes exact sorts terms (plain.Branch held own splits ∷ []) lines
closes_with exact sorts terms stores held own splits lines closes =
    closes_restored exact sorts terms held (plain.Branch stores own splits ∷ []) lines closes

-- where a branch is due it is pending first, with the facts of the path
pub record DueFirst (sorts : Sorts) (trees : List Tree) (path : List Fact) (stores : PerCopy SymStore) (splits : ℕ)
    (waiting : List Waiting) (ps : List Pending) : Type 0 where
  pub own : List BranchFact
  pub rest : List Pending
  pub is : ps ≡ plain.Branch (stores_in trees stores) own splits ∷ rest
  pub stand : AllStand sorts trees path own
  pub sorted : AreFactsSorted sorts own
  pub later : AllWait sorts trees own (length own) (reverse waiting) rest

pub due_first : (sorts : Sorts) (trees : List Tree) (path : List Fact) (d : Option Due) (stores : Rc (PerCopy SymStore) Global) (splits : ℕ)
    (waiting : List Waiting) (ps : List Pending) → d ≡ Some (due.Branch stores splits) → PendingStands sorts trees path d waiting ps →
    DueFirst sorts trees path stores.value splits waiting ps
due_first sorts trees path d stores splits waiting ps is h =
    by ps (subst (λ (o : Option Due). AllPending sorts trees h.facts o (reverse waiting) ps) is h.all)
  where
    by : (ps : List Pending) → AllPending sorts trees h.facts (Some (due.Branch stores splits)) (reverse waiting) ps →
        DueFirst sorts trees path stores.value splits waiting ps
    by [] all = absurd all
    by (plain.Due st over ∷ rest) all = absurd all.0
    by (plain.Branch held own over ∷ rest) all = record {
      own = h.facts;
      rest = rest;
      is =
          ap (λ (s : Copy → SymbolicStore). plain.Branch s own over ∷ rest) (sym all.0.1)
          ∙ ap (λ (ks : List BranchFact). plain.Branch (stores_in trees stores.value) ks over ∷ rest) all.0.0
          ∙ ap (λ (n : ℕ). plain.Branch (stores_in trees stores.value) h.facts n ∷ rest) (sym all.0.2);
      stand = h.stand;
      sorted = h.sorted;
      later = all.1;
    }

-- nothing is pending where nothing is due
pub none_pending : (sorts : Sorts) (trees : List Tree) (path : List Fact) (d : Option Due) (waiting : List Waiting) (ps : List Pending) →
    d ≡ None → PendingStands sorts trees path d waiting ps → ps ≡ []
none_pending sorts trees path d waiting [] is h = refl
none_pending sorts trees path d waiting (p ∷ ps) is h =
    absurd (subst (λ (o : Option Due). AllPending sorts trees h.facts o (reverse waiting) (p ∷ ps)) is h.all)

-- openings of what is pending first, and one more
pub open_first-push : (sorts : Sorts) (trees : List Tree) (facts : List BranchFact) (os : List Opening) (o : Opening) (front : List Pending)
    (p : Pending) → length os ≡ length front → OpenFirst sorts trees facts os front → OpensAs sorts trees facts o p →
    OpenFirst sorts trees facts (os ++ o ∷ []) (front ++ p ∷ [])
open_first-push sorts trees facts [] o [] p same opening opens = (opens, tt)
open_first-push sorts trees facts [] o (q ∷ qs) p same opening opens = absurd (omega arith)
open_first-push sorts trees facts (x ∷ xs) o [] p same opening opens = absurd opening
open_first-push sorts trees facts (x ∷ xs) o (q ∷ qs) p same opening opens =
    (opening.0, open_first-push sorts trees facts xs o qs p (omega arith) opening.1 opens)

-- what is pending behind them changes nothing
pub open_first-append : (sorts : Sorts) (trees : List Tree) (facts : List BranchFact) (os : List Opening) (front rest : List Pending) →
    OpenFirst sorts trees facts os front → OpenFirst sorts trees facts os (front ++ rest)
open_first-append sorts trees facts [] front rest opening = tt
open_first-append sorts trees facts (o ∷ os) [] rest opening = absurd opening
open_first-append sorts trees facts (o ∷ os) (p ∷ ps) rest opening = (opening.0, open_first-append sorts trees facts os ps rest opening.1)

-- the openings so far, and what waits behind them
pub record OpensUpTo (sorts : Sorts) (trees : List Tree) (facts : List BranchFact) (os : List Opening) (ws : List Waiting)
    (ps : List Pending) : Type 0 where
  pub front : List Pending
  pub rest : List Pending
  pub most : ℕ
  pub is : ps ≡ front ++ rest
  pub long : length os ≡ length front
  pub opening : OpenFirst sorts trees facts os front
  pub wait : AllWait sorts trees facts most ws rest

pub opens_first : (sorts : Sorts) (trees : List Tree) (facts : List BranchFact) (os : List Opening) (ws : List Waiting)
    (ps : List Pending) → OpensUpTo sorts trees facts os ws ps → OpenFirst sorts trees facts os ps
opens_first sorts trees facts os ws ps u =
    subst (OpenFirst sorts trees facts os) (sym u.is) (open_first-append sorts trees facts os u.front u.rest u.opening)

-- one more
pub opens_next : (sorts : Sorts) (trees : List Tree) (facts : List BranchFact) (os : List Opening) (o : Opening) (w : Waiting)
    (ws : List Waiting) (ps : List Pending) → ((p : Pending) → WaitingStands sorts trees facts w p → OpensAs sorts trees facts o p) →
    OpensUpTo sorts trees facts os (w ∷ ws) ps → OpensUpTo sorts trees facts (os ++ o ∷ []) ws ps
opens_next sorts trees facts os o w ws ps opens u = by u.rest u.is u.wait
  where
    by : (rest : List Pending) → ps ≡ u.front ++ rest → AllWait sorts trees facts u.most (w ∷ ws) rest →
        OpensUpTo sorts trees facts (os ++ o ∷ []) ws ps
    by [] is wait = absurd wait
    by (p ∷ rest) is wait = record {
      front = u.front ++ p ∷ [];
      rest = rest;
      most = shared_by w;
      is = is ∙ sym (append_assoc u.front (p ∷ []) rest);
      long = let a = length-append os (o ∷ []) in let b = length-append u.front (p ∷ []) in let c = u.long in omega arith;
      opening = open_first-push sorts trees facts os o u.front p u.long u.opening (opens p wait.1);
      wait = wait.2;
    }

-- the goal that is due
pub goal_opens : (sorts : Sorts) (trees : List Tree) (path : List Fact) (d : Option Due) (waiting : List Waiting) (ps : List Pending)
    (o : Opening) (h : PendingStands sorts trees path d waiting ps) → IsGoalDue d → o.shared ≡ length path → o.denied ≡ None →
    OpensUpTo sorts trees h.facts (o ∷ []) (reverse waiting) ps
goal_opens sorts trees path None waiting ps o h goal short none = absurd goal
goal_opens sorts trees path (Some (due.State state above)) waiting ps o h goal short none = absurd goal
goal_opens sorts trees path (Some (due.Branch stores splits)) waiting ps o h goal short none = by ps h.all
  where
    by : (ps : List Pending) → AllPending sorts trees h.facts (Some (due.Branch stores splits)) (reverse waiting) ps →
        OpensUpTo sorts trees h.facts (o ∷ []) (reverse waiting) ps
    by [] all = absurd all
    by (plain.Due st over ∷ rest) all = absurd all.0
    by (plain.Branch held own over ∷ rest) all = record {
      front = plain.Branch held own over ∷ [];
      rest = rest;
      most = length h.facts;
      is = refl;
      long = refl;
      opening = (
        (
          sym all.0.2 ∙ goal,
          (
            [],
            subst (λ (f : Option Fact). MoreStands sorts trees f []) (sym none) refl,
            all.0.0 ∙ sym (take_whole h.facts)
                ∙ ap (λ (n : ℕ). take n h.facts) (sym (short ∙ stand_long sorts trees path h.facts h.stand))
                ∙ sym (append-nil (take o.shared h.facts)),
          ),
        ),
        tt,
      );
      wait = all.1;
    }

-- a branch that goes on with a line of a certificate
pub went_on : (exact : Bool) (sorts : Sorts) (trees terms : List Tree) (path path' : List Fact) (stores : PerCopy SymStore) (splits : ℕ)
    (waiting waiting' : List Waiting) (ps : List Pending) (l : NumberedLine) (line : List ℕ) (d : Option Due)
    (f : DueFirst sorts trees path stores splits waiting ps) → read_with exact line ≡ Ok (Cert l) →
    Tells {S = Option Due} {T = List Pending} (λ d qs. PendingStands sorts trees path' d waiting' qs) (Ok d)
    (pending_after sorts terms (stores_in trees stores) f.own splits f.rest l) →
    (qs : List Pending) × LeadsTo exact sorts terms ps line qs × PendingStands sorts trees path' d waiting' qs
went_on exact sorts trees terms path path' stores splits waiting waiting' ps l line d f is tells =
    by (pending_after sorts terms (stores_in trees stores) f.own splits f.rest l) refl tells
  where
    by : (r : Result (List Pending) Word) → pending_after sorts terms (stores_in trees stores) f.own splits f.rest l ≡ r →
        Tells {S = Option Due} {T = List Pending} (λ d qs. PendingStands sorts trees path' d waiting' qs) (Ok d) r →
        (qs : List Pending) × LeadsTo exact sorts terms ps line qs × PendingStands sorts trees path' d waiting' qs
    by (Ok qs) e told = (qs, subst (λ (xs : List Pending). LeadsTo exact sorts terms xs line qs) (sym f.is) (l, is, e), told)
    by (Err w) e told = absurd told

-- where lines so far led, and that the others, if they close this, close the branch with all
pub record Leads (exact : Bool) (sorts : Sorts) (trees terms : List Tree) (path : List Fact) (d : Option Due) (waiting : List Waiting)
    (own : List BranchFact) (splits : ℕ) (left all : List (List ℕ)) : Type 0 where
  pub stores : Copy → SymbolicStore
  pub pending : List Pending
  pub stands : PendingStands sorts trees path d waiting pending
  pub closes : Closes exact sorts terms pending left → Closes exact sorts terms (plain.Branch stores own splits ∷ []) all

-- one line more
pub leads_on : (exact : Bool) (sorts : Sorts) (trees terms : List Tree) (path path' : List Fact) (d d' : Option Due)
    (waiting waiting' : List Waiting) (own : List BranchFact) (splits : ℕ) (line : List ℕ) (left all : List (List ℕ))
    (h : Leads exact sorts trees terms path d waiting own splits (line ∷ left) all) →
    ((qs : List Pending) × LeadsTo exact sorts terms h.pending line qs × PendingStands sorts trees path' d' waiting' qs) →
    Leads exact sorts trees terms path' d' waiting' own splits left all
leads_on exact sorts trees terms path path' d d' waiting waiting' own splits line left all h next = record {
  stores = h.stores;
  pending = next.0;
  stands = next.2;
  closes = λ rest. h.closes (next.0, next.1, rest);
}

-- nothing is due behind the last line
pub leads_home : (exact : Bool) (sorts : Sorts) (trees terms : List Tree) (path : List Fact) (d : Option Due) (waiting : List Waiting)
    (own : List BranchFact) (splits : ℕ) (all : List (List ℕ)) (held : Copy → SymbolicStore) → d ≡ None →
    Leads exact sorts trees terms path d waiting own splits [] all → Closes exact sorts terms (plain.Branch held own splits ∷ []) all
leads_home exact sorts trees terms path d waiting own splits all held none h =
    closes_with exact sorts terms h.stores held own splits all
    (h.closes (none_pending sorts trees path d waiting h.pending none h.stands))

-- terms that are there, by their places
pub each_before : (n : ℕ) (ts : List TermId) → AreBefore n ts → (k : ℕ) (t : TermId) → slice_get ts k ≡ Some t → t.0 < n
each_before n [] all k t is = absurd (cc)
each_before n (u ∷ us) all zero t is = let same : u ≡ t = cc in subst (λ (x : TermId). x.0 < n) same all.0
each_before n (u ∷ us) all (suc k) t is = each_before n us all.1 k t is

pub all_before : (n : ℕ) (ts : List TermId) → ((k : ℕ) (t : TermId) → slice_get ts k ≡ Some t → t.0 < n) → AreBefore n ts
all_before n [] each = tt
all_before n (u ∷ us) each = (each 0 u refl, all_before n us (λ k t is. each (suc k) t is))

-- the branch of an opening has sorted facts
pub more_sorted : (sorts : Sorts) (trees : List Tree) (d : Option Fact) (more : List BranchFact) → MoreStands sorts trees d more →
    AreFactsSorted sorts more
more_sorted sorts trees None more stands = subst (AreFactsSorted sorts) (sym stands) tt
more_sorted sorts trees (Some f) more stands = subst (AreFactsSorted sorts) (sym stands.3) (stands.2, tt)

-- it is all that is pending
pub alone_stands : (sorts : Sorts) (trees : List Tree) (path : List Fact) (facts own : List BranchFact) (o : Opening)
    (held : Copy → SymbolicStore) (splits : ℕ) (stores : Rc (PerCopy SymStore) Global) → AreFactsSorted sorts facts →
    (opens : OpensAs sorts trees facts o (plain.Branch held own splits)) →
    ((more : List BranchFact) → MoreStands sorts trees o.denied more → AllStand sorts trees path (take o.shared facts ++ more)) →
    (alone : Copy → SymbolicStore)
    × PendingStands sorts trees path (Some (due.Branch stores 0)) [] (plain.Branch alone own splits ∷ [])
alone_stands sorts trees path facts own o held splits stores sorted opens stands = (
  stores_in trees stores.value,
  record {
    facts = take o.shared facts ++ opens.1.0;
    stand = stands opens.1.0 opens.1.1;
    sorted =
        sorted_append sorts (take o.shared facts) opens.1.0 (sorted_cut sorts o.shared facts sorted)
        (more_sorted sorts trees o.denied opens.1.0 opens.1.1);
    all = ((opens.1.2, refl, sym opens.0), tt);
  },
)

-- no line is taken yet
pub leads_first : (exact : Bool) (sorts : Sorts) (trees terms : List Tree) (path : List Fact) (d : Option Due) (waiting : List Waiting)
    (own : List BranchFact) (splits : ℕ) (all : List (List ℕ)) →
    ((stores : Copy → SymbolicStore) × PendingStands sorts trees path d waiting (plain.Branch stores own splits ∷ [])) →
    Leads exact sorts trees terms path d waiting own splits all all
leads_first exact sorts trees terms path d waiting own splits all h = record {
  stores = h.0;
  pending = plain.Branch h.0 own splits ∷ [];
  stands = h.1;
  closes = λ closes. closes;
}

-- all lines are taken, and nothing is due
pub closed_home : (exact : Bool) (sorts : Sorts) (trees terms : List Tree) (path : List Fact) (d : Option Due) (waiting : List Waiting)
    (facts : List BranchFact) (o : Opening) (p : Pending) (all : List (List ℕ)) → d ≡ None → OpensAs sorts trees facts o p →
    ((own : List BranchFact) (held : Copy → SymbolicStore) (splits : ℕ) → OpensAs sorts trees facts o (plain.Branch held own splits) →
    Leads exact sorts trees terms path d waiting own splits [] all) →
    Closes exact sorts terms (p ∷ []) all
closed_home exact sorts trees terms path d waiting facts o (plain.Due st above) all none opens leads = absurd opens
closed_home exact sorts trees terms path d waiting facts o (plain.Branch held own splits) all none opens leads =
    leads_home exact sorts trees terms path d waiting own splits all held none (leads own held splits opens)

-- the last of what waits is the first
pub last_waits : (ws : List Waiting) (n : ℕ) (d : Waiting) → 0 < n → n ≤ length ws →
    reverse (take n ws) ≡ get_or ws (n - 1) d ∷ reverse (take (n - 1) ws)
last_waits ws n d some fits =
    let one : n ≡ n - 1 + 1 = omega arith in
    ap (λ (k : ℕ). reverse (take k ws)) one ∙ ap reverse (take_more ws (n - 1) d (omega arith))
    ∙ last_first (take (n - 1) ws) (get_or ws (n - 1) d)

-- the first facts of a path, as far as it has them
pub cut_within : (sorts : Sorts) (trees : List Tree) (n : ℕ) (path : List Fact) (facts : List BranchFact) →
    AllStand sorts trees path facts → AllStand sorts trees (take (min n (length path)) path) (take n facts)
cut_within sorts trees n path facts all =
    subst (λ (fs : List Fact). AllStand sorts trees fs (take n facts)) (sym (take_min n path)) (stand_cut sorts trees n path facts all)

-- with the denied goal behind them, or none
pub denied_none : (sorts : Sorts) (trees : List Tree) (d : Option Fact) (path : List Fact) (facts more : List BranchFact) → d ≡ None →
    MoreStands sorts trees d more → AllStand sorts trees path facts → AllStand sorts trees path (facts ++ more)
denied_none sorts trees d path facts more none stands all =
    let empty : more ≡ [] = subst (λ (o : Option Fact). MoreStands sorts trees o more) none stands in
    subst (AllStand sorts trees path) (sym (append-nil facts) ∙ ap (λ (ks : List BranchFact). facts ++ ks) (sym empty)) all

pub denied_some : (sorts : Sorts) (trees : List Tree) (d : Option Fact) (f copy : Fact) (path : List Fact) (facts more : List BranchFact) →
    d ≡ Some f → ((k : BranchFact) → FactStands sorts trees f k → FactStands sorts trees copy k) → MoreStands sorts trees d more →
    AllStand sorts trees path facts → AllStand sorts trees (path ++ copy ∷ []) (facts ++ more)
denied_some sorts trees d f copy path facts more some same stands all =
    let one = subst (λ (o : Option Fact). MoreStands sorts trees o more) some stands in
    subst (λ (ks : List BranchFact). AllStand sorts trees (path ++ copy ∷ []) (facts ++ ks)) (sym one.3)
    (stand_append sorts trees path (copy ∷ []) facts (one.0 ∷ []) all (same one.0 one.1, tt))

-- nothing is there
pub none_is : {X : Type 0} (o : Option X) (r : Bool) → is_some o ≡ not r → r ≡ true → o ≡ None
none_is None r e none = refl
none_is (Some x) r e none = absurd (cc)

-- what is read at a place
pub got_at : {X : Type 0} (xs : List X) (i : ℕ) (d x : X) → slice_get xs i ≡ Some x → get_or xs i d ≡ x
got_at [] i d x e = absurd (cc)
got_at (y ∷ ys) zero d x e = cc
got_at (y ∷ ys) (suc i) d x e = got_at ys i d x e

-- the openings begin with that of the goal that is due
pub opens_begin : (sorts : Sorts) (trees : List Tree) (path : List Fact) (d : Option Due) (waiting ws : List Waiting) (n : ℕ)
    (os : List Opening) (o : Opening) (ps : List Pending) (h : PendingStands sorts trees path d waiting ps) → IsGoalDue d →
    o.shared ≡ length path → o.denied ≡ None → os ≡ o ∷ [] → ws ≡ waiting → n ≡ length ws →
    OpensUpTo sorts trees h.facts os (reverse (take n ws)) ps
opens_begin sorts trees path d waiting ws n os o ps h goal short none one same all =
    let whole : take n ws ≡ waiting = ap (λ (k : ℕ). take k ws) all ∙ take_whole ws ∙ same in
    subst (λ (xs : List Opening). OpensUpTo sorts trees h.facts xs (reverse (take n ws)) ps) (sym one)
    (subst (λ (xs : List Waiting). OpensUpTo sorts trees h.facts (o ∷ []) (reverse xs) ps) (sym whole)
    (goal_opens sorts trees path d waiting ps o h goal short none))

-- the openings go on with those of what waits, the last first
pub opens_more : (sorts : Sorts) (trees : List Tree) (facts : List BranchFact) (os all : List Opening) (o : Opening) (ws : List Waiting)
    (n : ℕ) (w : Waiting) (ps : List Pending) → 0 < n → n ≤ length ws → w ≡ get_or ws (n - 1) w →
    ((p : Pending) → WaitingStands sorts trees facts w p → OpensAs sorts trees facts o p) → all ≡ os ++ o ∷ [] →
    OpensUpTo sorts trees facts os (reverse (take n ws)) ps → OpensUpTo sorts trees facts all (reverse (take (n - 1) ws)) ps
opens_more sorts trees facts os all o ws n w ps some fits at opens is u =
    let last : reverse (take n ws) ≡ w ∷ reverse (take (n - 1) ws) =
    last_waits ws n w some fits ∙ ap (λ (x : Waiting). x ∷ reverse (take (n - 1) ws)) (sym at) in
    subst (λ (xs : List Opening). OpensUpTo sorts trees facts xs (reverse (take (n - 1) ws)) ps) (sym is)
    (opens_next sorts trees facts os o w (reverse (take (n - 1) ws)) ps opens
    (subst (λ (xs : List Waiting). OpensUpTo sorts trees facts os xs ps) last u))

-- what jobs answer of their certificates
abbrev pub Answered : (exact : Bool) → Sorts → List Tree → List Tree → List Fact → List Opening → List RawLines → ℕ → List Bool → Type 0
Answered exact sorts trees terms path os cs count results =
    StandInOrder
    (λ (k : ℕ) (out : Bool).
    (o : Opening) (c : RawLines) → slice_get os k ≡ Some o → slice_get cs k ≡ Some c → out ≡ true →
    Passes exact sorts trees terms path o (ended_in c.bytes.items)) 0 count results

-- the certificates whose jobs answer true before the first that doesn't close the first branches
pub answered_close : (exact : Bool) (sorts : Sorts) (trees terms : List Tree) (path : List Fact) (facts : List BranchFact) →
    AllStand sorts trees path facts → AreFactsSorted sorts facts → (os : List Opening) (cs : List RawLines) (ps : List Pending)
    (count n : ℕ) (results : List Bool) →
    OpenFirst sorts trees facts os ps → count ≤ length os → count ≤ length cs → Answered exact sorts trees terms path os cs count results →
    n ≤ length results → ((k : ℕ) (d : Bool) → k < n → slice_index_or results k d ≡ true) →
    CloseFirst exact sorts terms ps (take n (certificates_of cs))
answered_close exact sorts trees terms path facts all sorted os cs ps count n results opens enough there answers few lead =
    first_close exact sorts trees terms path facts all sorted n os cs ps opens (omega (arith, answers.all)) (omega (arith, answers.all))
    (λ (k : ℕ) (o : Opening) (c : RawLines) (less : k < n) (at : slice_get os k ≡ Some o) (is : slice_get cs k ≡ Some c).
    let place : k ≡ 0 + k = sym (zero-add k) in
    answers.each k true (omega (arith, answers.all)) o c (subst (λ (i : ℕ). slice_get os i ≡ Some o) place at)
    (subst (λ (i : ℕ). slice_get cs i ≡ Some c) place is) (lead k true less))
