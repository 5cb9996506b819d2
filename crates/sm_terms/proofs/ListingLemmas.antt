-- Steps on a stack make the same terms, whichever is taken next.
use Rattle.sm_terms.proofs.Imports.{◌≡◌, ℕ, zero, suc, ◌+◌, ◌<◌, ◌≤◌, Bool, true, false, ◌||◌, if◌then◌else◌, nat_eq, List, [], ◌∷◌, ◌++◌, length, get_or, refl, sym, ap, ◌∙◌, subst, arith, list_any, Tree, Lit, Start, Havoc, Slot, Cell, Read, Write, Neg, Add, Sub, Mul, Fun, Arguments, Over, Given, tree_at, AreBefore, same_tree, arguments_of, terms_given, put, with_term, is_among, trees_of, Step, Visit, Put, trees_at, AreBelow, AllAmong, IsClosed, after, after_all, IsReady, AreReady, AreStepsWithin, Leads, visits, cost_of, cost_of_arguments, cost_of_step, cost_of_steps}
use Rattle.std.proofs.lemmas.List.{map-append, length-append}
use Rattle.sm_numbering.specs.Numbers.{with_value}
use Rattle.sm_term.specs.declared.term.TermId.{TermId}
use Rattle.sm_term.specs.TableLaws.{AreApart}
use Rattle.sm_term.proofs.TreesLemmas.{tree_at-more}
use Rattle.sm_theory.proofs.SidesLemmas.{numbers_tell}
use Rattle.sm_terms.proofs.WithTermLemmas.{with_terms, with_term_is, among_with_terms, closed_put, same_with_term, put_there, put_new}

-- steps behind others are taken first
pub after-append : (trees : List Tree) (ss rs : List Step) (seen : List Tree) →
    after_all trees (ss ++ rs) seen ≡ after_all trees ss (after_all trees rs seen)
after-append trees [] rs seen = refl
after-append trees (s ∷ ss) rs seen = ap (after trees s) (after-append trees ss rs seen)

pub ready-split : (trees : List Tree) (ss rs : List Step) (seen : List Tree) → AreReady trees (ss ++ rs) seen →
    AreReady trees rs seen × AreReady trees ss (after_all trees rs seen)
ready-split trees [] rs seen h = (h, tt)
ready-split trees (s ∷ ss) rs seen h =
    let rest = ready-split trees ss rs seen h.1 in
    (rest.0, (subst (IsReady trees s) (after-append trees ss rs seen) h.0, rest.1))

pub ready-append : (trees : List Tree) (ss rs : List Step) (seen : List Tree) → AreReady trees rs seen → AreReady trees ss (after_all trees rs seen) →
    AreReady trees (ss ++ rs) seen
ready-append trees [] rs seen h k = h
ready-append trees (s ∷ ss) rs seen h k =
    (subst (IsReady trees s) (sym (after-append trees ss rs seen)) k.0, ready-append trees ss rs seen h k.1)

pub steps_within-split : (count : ℕ) (ss rs : List Step) → AreStepsWithin count (ss ++ rs) → AreStepsWithin count ss × AreStepsWithin count rs
steps_within-split count [] rs h = (tt, h)
steps_within-split count (s ∷ ss) rs h = let rest = steps_within-split count ss rs h.1 in ((h.0, rest.0), rest.1)

pub steps_within-append : (count : ℕ) (ss rs : List Step) → AreStepsWithin count ss → AreStepsWithin count rs → AreStepsWithin count (ss ++ rs)
steps_within-append count [] rs h k = k
steps_within-append count (s ∷ ss) rs h k = (h.0, steps_within-append count ss rs h.1 k)

pub cost-append : (trees : List Tree) (ss rs : List Step) → cost_of_steps trees (ss ++ rs) ≡ cost_of_steps trees ss + cost_of_steps trees rs
cost-append trees [] rs = omega arith
cost-append trees (s ∷ ss) rs = let rest = cost-append trees ss rs in omega arith

-- visits of terms
pub after-visits : (trees : List Tree) (args : List TermId) (seen : List Tree) → after_all trees (visits args) seen ≡ with_terms (trees_of trees args) seen
after-visits trees [] seen = refl
after-visits trees (t ∷ args) seen =
    after-append trees (visits args) (Visit t.0 ∷ []) seen ∙ after-visits trees args (with_term (tree_at trees t.0) seen)

pub ready-visits : (trees : List Tree) (args : List TermId) (seen : List Tree) → AreReady trees (visits args) seen
ready-visits trees [] seen = tt
ready-visits trees (t ∷ args) seen =
    ready-append trees (visits args) (Visit t.0 ∷ []) seen (tt, tt) (ready-visits trees args (with_term (tree_at trees t.0) seen))

pub within-visits : (count : ℕ) (args : List TermId) → AreBefore count args → AreStepsWithin count (visits args)
within-visits count [] h = tt
within-visits count (t ∷ args) h = steps_within-append count (visits args) (Visit t.0 ∷ []) (within-visits count args h.1) (h.0, tt)

-- how many steps terms make together
abbrev pub costs : List Tree → ℕ
costs [] = 0
costs (t ∷ ts) = cost_of t + costs ts

cost_given : (args : Arguments) → cost_of_arguments args ≡ costs (terms_given args)
cost_given Over = refl
cost_given (Given x t rest) = ap (λ (n : ℕ). cost_of t + n) (cost_given rest)

pub cost_is : (t : Tree) → cost_of t ≡ 2 + costs (arguments_of t)
cost_is (Lit z) = refl
cost_is (Start x) = refl
cost_is (Havoc k c x) = refl
cost_is (Slot c x) = refl
cost_is Cell = refl
cost_is (Read a i) = refl
cost_is (Write a i e) = refl
cost_is (Neg t) = refl
cost_is (Add t u) = refl
cost_is (Sub t u) = refl
cost_is (Mul t u) = refl
cost_is (Fun c x args) = ap (λ (n : ℕ). 2 + n) (cost_given args)

cost-visits : (trees : List Tree) (args : List TermId) → cost_of_steps trees (visits args) ≡ costs (trees_of trees args)
cost-visits trees [] = refl
cost-visits trees (t ∷ args) =
    let both = cost-append trees (visits args) (Visit t.0 ∷ []) in
    let rest = cost-visits trees args in
    omega arith

-- a number is listed exactly where its tree is
pub listed_tells : (trees : List Tree) → AreApart trees → (ns : List ℕ) → AreBelow (length trees) ns → (n : ℕ) → n < length trees →
    list_any (nat_eq n) ns ≡ is_among (trees_at trees ns) (tree_at trees n)
listed_tells trees apart [] below n h = refl
listed_tells trees apart (m ∷ ns) below n h =
    ap (λ (b : Bool). b || list_any (nat_eq n) ns) (numbers_tell trees apart n m h below.0)
    ∙ ap (λ (b : Bool). same_tree (tree_at trees n) (tree_at trees m) || b) (listed_tells trees apart ns below.1 n h)

pub below-append : (count : ℕ) (ns ms : List ℕ) → AreBelow count ns → AreBelow count ms → AreBelow count (ns ++ ms)
below-append count [] ms h k = k
below-append count (n ∷ ns) ms h k = (h.0, below-append count ns ms h.1 k)

-- a number that is listed is one of the table
pub below_put : (count : ℕ) (ns : List ℕ) (n : ℕ) → AreBelow count ns → n < count → AreBelow count (with_value nat_eq ns n)
below_put count ns n h k = by (list_any (nat_eq n) ns) refl
  where
    by : (b : Bool) → list_any (nat_eq n) ns ≡ b → AreBelow count (with_value nat_eq ns n)
    by true e = subst (λ (b : Bool). AreBelow count (if b then ns else ns ++ n ∷ [])) (sym e) h
    by false e = subst (λ (b : Bool). AreBelow count (if b then ns else ns ++ n ∷ [])) (sym e) (below-append count ns (n ∷ []) h (k, tt))

-- where it is listed, its tree is put
pub listed_put : (trees : List Tree) → AreApart trees → (ns : List ℕ) → AreBelow (length trees) ns → (n : ℕ) → n < length trees →
    trees_at trees (with_value nat_eq ns n) ≡ put (tree_at trees n) (trees_at trees ns)
listed_put trees apart ns below n h = by (list_any (nat_eq n) ns) refl
  where
    by : (b : Bool) → list_any (nat_eq n) ns ≡ b → trees_at trees (with_value nat_eq ns n) ≡ put (tree_at trees n) (trees_at trees ns)
    by true e =
        ap (λ (b : Bool). trees_at trees (if b then ns else ns ++ n ∷ [])) e
        ∙ sym (put_there (tree_at trees n) (trees_at trees ns) (sym (listed_tells trees apart ns below n h) ∙ e))
    by false e =
        ap (λ (b : Bool). trees_at trees (if b then ns else ns ++ n ∷ [])) e
        ∙ map-append (tree_at trees) ns (n ∷ [])
        ∙ sym (put_new (tree_at trees n) (trees_at trees ns) (sym (listed_tells trees apart ns below n h) ∙ e))

-- the next step is taken: a term is put
pub put_leads : (trees : List Tree) → AreApart trees → (ns : List ℕ) (steps : List Step) (n : ℕ) (terms : List Tree) → n < length trees →
    Leads trees ns (steps ++ Put n ∷ []) terms → Leads trees (with_value nat_eq ns n) steps terms
put_leads trees apart ns steps n terms inside leads =
    let t = tree_at trees n in
    let seen = trees_at trees ns in
    let new = listed_put trees apart ns leads.listed n inside in
    let ready = ready-split trees steps (Put n ∷ []) seen leads.ready in
    record {
      listed = below_put (length trees) ns n leads.listed inside;
      within = (steps_within-split (length trees) steps (Put n ∷ []) leads.within).0;
      closed = subst IsClosed (sym new) (closed_put t seen leads.closed ready.0.0);
      ready = subst (AreReady trees steps) (sym new) ready.1;
      made = ap (after_all trees steps) new ∙ sym (after-append trees steps (Put n ∷ []) seen) ∙ leads.made;
    }

-- a term that is listed is passed over
pub skip_leads : (trees : List Tree) → AreApart trees → (ns : List ℕ) (steps : List Step) (n : ℕ) (terms : List Tree) → n < length trees →
    list_any (nat_eq n) ns ≡ true → Leads trees ns (steps ++ Visit n ∷ []) terms → Leads trees ns steps terms
skip_leads trees apart ns steps n terms inside there leads =
    let t = tree_at trees n in
    let seen = trees_at trees ns in
    let same = same_with_term t seen leads.closed (sym (listed_tells trees apart ns leads.listed n inside) ∙ there) in
    let ready = ready-split trees steps (Visit n ∷ []) seen leads.ready in
    record {
      listed = leads.listed;
      within = (steps_within-split (length trees) steps (Visit n ∷ []) leads.within).0;
      closed = leads.closed;
      ready = subst (AreReady trees steps) same ready.1;
      made = ap (after_all trees steps) (sym same) ∙ sym (after-append trees steps (Visit n ∷ []) seen) ∙ leads.made;
    }

-- a term is put after visits of its arguments
pub open_leads : (trees : List Tree) (ns : List ℕ) (steps : List Step) (n : ℕ) (terms : List Tree) → n < length trees →
    (args : List TermId) → AreBefore (length trees) args → arguments_of (tree_at trees n) ≡ trees_of trees args →
    Leads trees ns (steps ++ Visit n ∷ []) terms → Leads trees ns ((steps ++ Put n ∷ []) ++ visits args) terms
open_leads trees ns steps n terms inside args before are leads =
    let t = tree_at trees n in
    let seen = trees_at trees ns in
    let later = with_terms (trees_of trees args) seen in
    let visited : after_all trees (visits args) seen ≡ later = after-visits trees args seen in
    let same : with_term t seen ≡ put t later = with_term_is t seen ∙ ap (λ (ts : List Tree). put t (with_terms ts seen)) are in
    let ready = ready-split trees steps (Visit n ∷ []) seen leads.ready in
    let within = steps_within-split (length trees) steps (Visit n ∷ []) leads.within in
    let there : AllAmong later (arguments_of t) = subst (AllAmong later) (sym are) (among_with_terms (trees_of trees args) seen) in
    let below = subst (AreReady trees steps) same ready.1 in
    record {
      listed = leads.listed;
      within =
          steps_within-append (length trees) (steps ++ Put n ∷ []) (visits args)
          (steps_within-append (length trees) steps (Put n ∷ []) within.0 (inside, tt)) (within-visits (length trees) args before);
      closed = leads.closed;
      ready =
          ready-append trees (steps ++ Put n ∷ []) (visits args) seen (ready-visits trees args seen)
          (subst (AreReady trees (steps ++ Put n ∷ [])) (sym visited) (ready-append trees steps (Put n ∷ []) later (there, tt) below));
      made =
          after-append trees (steps ++ Put n ∷ []) (visits args) seen
          ∙ ap (after_all trees (steps ++ Put n ∷ [])) visited
          ∙ after-append trees steps (Put n ∷ []) later
          ∙ ap (after_all trees steps) (sym same)
          ∙ sym (after-append trees steps (Visit n ∷ []) seen)
          ∙ leads.made;
    }

-- which takes a step
pub open_less : (trees : List Tree) (steps : List Step) (n : ℕ) (args : List TermId) → arguments_of (tree_at trees n) ≡ trees_of trees args →
    cost_of_steps trees ((steps ++ Put n ∷ []) ++ visits args) < cost_of_steps trees steps + cost_of_step trees (Visit n)
open_less trees steps n args are =
    let one = cost-append trees (steps ++ Put n ∷ []) (visits args) in
    let two = cost-append trees steps (Put n ∷ []) in
    let three = cost-visits trees args in
    let four : cost_of (tree_at trees n) ≡ 2 + costs (trees_of trees args) = cost_is (tree_at trees n) ∙ ap (λ (ts : List Tree). 2 + costs ts) are in
    omega arith

pub skip_less : (trees : List Tree) (steps : List Step) (n : ℕ) → cost_of_steps trees steps < cost_of_steps trees steps + cost_of_step trees (Visit n)
skip_less trees steps n = let cost = cost_is (tree_at trees n) in omega arith

-- numbers of a table are numbers of one that has grown, and have the same trees
pub below_later : (m n : ℕ) → m ≤ n → (ns : List ℕ) → AreBelow m ns → AreBelow n ns
below_later m n le [] h = tt
below_later m n le (k ∷ ns) h = (let less = h.0 in omega arith, below_later m n le ns h.1)

pub below_grown : (old trees : List Tree) → (more : List Tree) × (trees ≡ old ++ more) → (ns : List ℕ) → AreBelow (length old) ns → AreBelow (length trees) ns
below_grown old trees grown ns h =
    let long = length-append old grown.0 in
    let same = ap length grown.1 in
    below_later (length old) (length trees) (omega arith) ns h

pub same_grown : (old trees : List Tree) → (more : List Tree) × (trees ≡ old ++ more) → (ns : List ℕ) → AreBelow (length old) ns →
    trees_at trees ns ≡ trees_at old ns
same_grown old trees grown [] h = refl
same_grown old trees grown (n ∷ ns) h =
    let one : tree_at trees n ≡ tree_at old n = ap (λ (us : List Tree). tree_at us n) grown.1 ∙ tree_at-more old grown.0 n h.0 in
    ap (λ (t : Tree). t ∷ trees_at trees ns) one ∙ ap (λ (us : List Tree). tree_at old n ∷ us) (same_grown old trees grown ns h.1)

-- a number at a place
pub below_at : (count : ℕ) (ns : List ℕ) → AreBelow count ns → (k : ℕ) → k < length ns → get_or ns k 0 < count
below_at count [] h k inside = absurd (omega arith)
below_at count (n ∷ ns) h zero inside = h.0
below_at count (n ∷ ns) h (suc k) inside = below_at count ns h.1 k (omega arith)

pub tree_of_place : (trees : List Tree) (ns : List ℕ) (k : ℕ) (d : Tree) → k < length ns → tree_at trees (get_or ns k 0) ≡ get_or (trees_at trees ns) k d
tree_of_place trees [] k d inside = absurd (omega arith)
tree_of_place trees (n ∷ ns) zero d inside = refl
tree_of_place trees (n ∷ ns) (suc k) d inside = tree_of_place trees ns k d (omega arith)
