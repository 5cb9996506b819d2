-- What a node opens is put behind what waits, the last first.
use Rattle.sm_check.proofs.Imports.{◌≡◌, ℕ, map, reverse, List, [], ◌∷◌, ◌++◌, sym, ap, ◌∙◌, subst, append_assoc, reverse-append, PerCopy, Sorts, Formula, SymStore, Tree, IsSuccessorReady, AreSuccessorsReady, Successor, waits_at, IsDenied, AreDenied, IsWaitingReady, AreWaitingReady, Waiting}
use Rattle.sm_check.proofs.WalkWidens.{ready_joined}

-- one more that waits
last_put : (old new before : List Waiting) (w : Waiting) (rest : List Waiting) → new ≡ old ++ w ∷ [] → reverse old ≡ before ++ rest →
    reverse new ≡ w ∷ (before ++ rest)
last_put old new before w rest is h = ap reverse is ∙ reverse-append old (w ∷ []) ∙ ap (λ (ws : List Waiting). w ∷ ws) h

-- one more state
pub put_state : (shared above : ℕ) (all left fewer : List Successor) (next : Successor) (old new rest : List Waiting) → left ≡ fewer ++ next ∷ [] →
    new ≡ old ++ waits_at shared above next ∷ [] →
    (done : List Successor) × (all ≡ left ++ done) × (reverse old ≡ map (waits_at shared above) done ++ rest) →
    (done : List Successor) × (all ≡ fewer ++ done) × (reverse new ≡ map (waits_at shared above) done ++ rest)
put_state shared above all left fewer next old new rest is put h = (
  next ∷ h.0,
  h.1 ∙ ap (λ (ss : List Successor). ss ++ h.0) is ∙ append_assoc fewer (next ∷ []) h.0,
  last_put old new (map (waits_at shared above) h.0) (waits_at shared above next) rest put h.2,
)

-- one more goal
pub put_goal : (shared : ℕ) (stores : PerCopy SymStore) (all left fewer : List Formula) (goal : Formula) (old new rest : List Waiting) (w : Waiting) →
    left ≡ fewer ++ goal ∷ [] → new ≡ old ++ w ∷ [] → IsDenied shared stores goal w →
    (done : List Formula) × (ws : List Waiting) × (all ≡ left ++ done) × AreDenied shared stores done ws × (reverse old ≡ ws ++ rest) →
    (done : List Formula) × (ws : List Waiting) × (all ≡ fewer ++ done) × AreDenied shared stores done ws × (reverse new ≡ ws ++ rest)
put_goal shared stores all left fewer goal old new rest w is put denied h = (
  goal ∷ h.0,
  w ∷ h.1,
  h.2 ∙ ap (λ (gs : List Formula). gs ++ h.0) is ∙ append_assoc fewer (goal ∷ []) h.0,
  (denied, h.3),
  last_put old new h.1 w rest put h.4,
)

module _ (sorts : Sorts) (trees : List Tree) where
  -- one state less
  pub successors_apart : (left : List Successor) (next : Successor) → AreSuccessorsReady sorts trees (left ++ next ∷ []) →
      AreSuccessorsReady sorts trees left × IsSuccessorReady sorts trees next
  successors_apart [] next ready = (tt, ready.0)
  successors_apart (s ∷ left) next ready = let rest = successors_apart left next ready.1 in ((ready.0, rest.0), rest.1)

  -- one more that waits
  pub ready_put : (old new : List Waiting) (w : Waiting) → new ≡ old ++ w ∷ [] → AreWaitingReady sorts trees old → IsWaitingReady sorts trees w →
      AreWaitingReady sorts trees new
  ready_put old new w is ready one = subst (AreWaitingReady sorts trees) (sym is) (ready_joined sorts trees old (w ∷ []) ready (one, tt))
