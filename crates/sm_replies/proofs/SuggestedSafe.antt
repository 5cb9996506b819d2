-- What Accepted of `suggest` says: the task is free of conflicts with the combination that is put.
use Rattle.sm_replies.proofs.Imports.{◌≡◌, ◌≤◌, inl, inr, ℕ, Bool, true, false, List, Option, Some, None, Ok, Err, IfNone, refl, sym, subst, AllocError, Known, WhereHeld, Parts, Task, Spells, choices, combination, hole_count, AllRefused, IsFirst, MayAnswer, none_line, suggestion_line, Says, Reply, Status, Accepted, Unknown, AnswersSuggest, Decides, IsSafeSuggestion, SaysSuggestion, Suggests, Effort, without_task}
use Rattle.std.proofs.Common.{Result, IfOk, IfSome}
use Rattle.std.specs.Borrow.{Bor}
use Rattle.std.specs.Fn.{Shared}

pub accepted_suggestion : (t : Parts) (effort : Effort) (status : Status) (text bytes : List ℕ) → Spells bytes t
    → AnswersSuggest t effort status text → status ≡ Accepted → IsSafeSuggestion text bytes
accepted_suggestion t effort status text bytes spells (inl h) e = let is = h.1.ended in cc
accepted_suggestion t effort status text bytes spells (inr (inr r)) e = let is = r.says.ended in cc
accepted_suggestion t effort status text bytes spells (inr (inl h)) e = go h.1 h.2
  where
    go : (found : Option ℕ) → SaysSuggestion t effort found status text → IsSafeSuggestion text bytes
    go None s = let is = s.1.ended in cc
    go (Some k) s = (t, spells, k, s.0.is_one, s.0.accepted.free refl, s.1.printed)

pub suggested_where : (file : Known) (effort : Effort) (before now : ℕ) (status : Status) (text : List ℕ)
    → Suggests file effort before now status text → status ≡ Accepted → WhereHeld file (IsSafeSuggestion text)
suggested_where file effort before now status text (inl f) e bytes told =
    absurd ((without_task file before now status text f).not_accepted e)
suggested_where file effort before now status text (inr c) e bytes told =
    accepted_suggestion c.task effort status text bytes
    (subst (λ (b : List ℕ). Spells b c.task) (sym (c.gives.read.held bytes told)) c.gives.spells) c.answers e

-- what is first by one decision is so by another that says the same
pub first_by : {P : Parts → Bool → Type 0} (Q : Parts → Bool → Type 0) (t : Parts) (k : ℕ)
    → ((u : Parts) (b : Bool) → P u b → Q u b) → IsFirst P t k → IsFirst Q t k
first_by Q t k says first = record {
  is_one = first.is_one;
  accepted = says (combination t k) true first.accepted;
  others_refused = λ j before. says (combination t j) false (first.others_refused j before);
}

-- combinations that one decision refuses are all refused by another that says the same
pub all_by : {P : Parts → Bool → Type 0} (Q : Parts → Bool → Type 0) (t : Parts)
    → ((u : Parts) (b : Bool) → P u b → Q u b) → AllRefused P t → AllRefused Q t
all_by Q t says all = λ k one. says (combination t k) false (all k one)

-- what a closure answers, where it answers one that is first
pub some_by : {F : Type 0} {calls : Shared F (Bor Task × Unit {0}) (Result Bool AllocError)} {decide : F} (Q : Parts → Bool → Type 0)
    (t : Parts) (o : Option ℕ) (k : ℕ) → o ≡ Some k → IfSome o (IsFirst (MayAnswer calls decide) t)
    → ((u : Parts) (b : Bool) → MayAnswer calls decide u b → Q u b) → IsFirst Q t k
some_by {F} {calls} {decide} Q t o k is given says =
    first_by {P = MayAnswer calls decide} Q t k says
    (subst (λ (x : Option ℕ). IfSome x (IsFirst (MayAnswer calls decide) t)) is given)

-- what a closure answers, where it refuses all combinations
pub none_by : {F : Type 0} {calls : Shared F (Bor Task × Unit {0}) (Result Bool AllocError)} {decide : F} (Q : Parts → Bool → Type 0)
    (t : Parts) (o : Option ℕ) → o ≡ None → IfNone o (AllRefused (MayAnswer calls decide) t)
    → ((u : Parts) (b : Bool) → MayAnswer calls decide u b → Q u b) → AllRefused Q t
none_by {F} {calls} {decide} Q t o is given says =
    all_by {P = MayAnswer calls decide} Q t says
    (subst (λ (x : Option ℕ). IfNone x (AllRefused (MayAnswer calls decide) t)) is given)

-- the reply to a task of which a combination is accepted
pub some_answered : (t : Parts) (effort : Effort) (k : ℕ) (r : Result Reply AllocError) → hole_count t ≤ 8
    → IsFirst (λ (u : Parts) (answer : Bool). Decides u effort answer) t k
    → IfOk r (λ p. Says Accepted (suggestion_line (choices (hole_count t) k)) p.status p.text.items)
    → IfOk r (λ p. AnswersSuggest t effort p.status p.text.items)
some_answered t effort k (Ok p) few first says = inr (inl (few, Some k, (first, says)))
some_answered t effort k (Err e) few first says = tt

-- the reply to a task of which no combination is accepted
pub none_answered : (t : Parts) (effort : Effort) (r : Result Reply AllocError) → hole_count t ≤ 8
    → AllRefused (λ (u : Parts) (answer : Bool). Decides u effort answer) t
    → IfOk r (λ p. Says Unknown none_line p.status p.text.items) → IfOk r (λ p. AnswersSuggest t effort p.status p.text.items)
none_answered t effort (Ok p) few all says = inr (inl (few, None, (all, says)))
none_answered t effort (Err e) few all says = tt
