-- Where each template of a choice is shown under it, each is shown in every round that has them all as well.
use Rattle.sm_houdini.proofs.Imports.{◌≡◌, ◌⊎◌, inl, inr, ℕ, zero, suc, ◌+◌, ◌==◌, ◌<◌, Bool, true, false, List, [], ◌∷◌, ◌++◌, length, refl, sym, ap, ◌∙◌, subst, arith, unwrap_or, same_Some, Copy, is_in, Parts, sort_of, task_of, Sorts, Assertion, negate, at_stores, all_at_stores, SymbolicStore, BranchFact, Formal, as_facts, moved_names, Fault, obligations, Each, Choice, chosen_at, kept_by, templates, plan_of, sketch_of, HasCertificate, round_at, AskedUnderFewer, ShownInRounds, Obligation, HasTemplates, HasAll, IsShownUnder, is_closing, owners, owner_of, dues_of, holds_at, next_round, or_left, or_right, itself}
use Rattle.std.proofs.Common.{Option, Some, None, Result, Ok, Err, slice_get}
use Rattle.sm_theory.specs.Moved.{StandAmong}
use Rattle.sm_cert.specs.Laws.{ClosesMoved}
use Rattle.sm_cert.specs.MovedTrees.{moved_certificate, moved_past}
use Rattle.sm_plan.specs.Plans.{Due}
use Rattle.sm_houdini.specs.Rounds.{dues_in}
use Rattle.sm_houdini.proofs.DroppedLemmas.{AreBelow, place_in, number_kept, there_is, picked_at, map_at, sites_at, round_below, place_refuted}
use Rattle.sm_houdini.proofs.OwnersLemmas.{chosen_templates}
use Rattle.sm_houdini.proofs.AmongLemmas.{Among, among_itself, among_append, among_kept, among_picked, StandFormulas, stand_kept, stand_picked, stand_in_has}
use Rattle.sm_houdini.proofs.PairedLemmas.{IsKept, Shown, PairedBy, Paired, product_paired}

all_below : (len : ℕ) (ns : List ℕ) → ((n : ℕ) → is_in ns n ≡ true → n < len) → AreBelow len ns
all_below len [] h = tt
all_below len (n ∷ ns) h = (
  h n (or_left (n == n) (is_in ns n) (itself n)),
  all_below len ns (λ (m : ℕ) (e : is_in ns m ≡ true). h m (or_right (m == n) (is_in ns m) e)),
)

below_at : (len : ℕ) (ns : List ℕ) (i n : ℕ) → AreBelow len ns → slice_get ns i ≡ Some n → n < len
below_at len [] i n h e = absurd cc
below_at len (m ∷ ns) zero n h e = subst (λ (k : ℕ). k < len) (same_Some m n e) h.0
below_at len (m ∷ ns) (suc i) n h e = below_at len ns i n h.1 e

each_at : {T : Type 0} (P : T → Type 0) (xs : List T) (i : ℕ) (x : T) → Each P xs → slice_get xs i ≡ Some x → P x
each_at P [] i x h e = absurd cc
each_at P (y ∷ xs) zero x h e = subst P (same_Some y x e) h.0
each_at P (y ∷ xs) (suc i) x h e = each_at P xs i x h.1 e

-- formulas that are among others stand there as facts
module _ (fs gs : List Assertion) (among : Among fs gs) where
  to_place : (n : ℕ) (o : Option Assertion) → slice_get fs n ≡ o → ℕ
  to_place n None e = 0
  to_place n (Some f) e = (among n f e).0

  to_found : (n : ℕ) (f : Assertion) (o : Option Assertion) (e : slice_get fs n ≡ o) → o ≡ Some f → slice_get gs (to_place n o e) ≡ Some f
  unfolding to_place
  to_found n f None e h = absurd cc
  to_found n f (Some g) e h = (among n g e).1 ∙ h

  move_to : ℕ → ℕ
  move_to n = to_place n (slice_get fs n) refl

fact_at : (fs : List Assertion) (n : ℕ) (k : BranchFact) → slice_get (as_facts fs) n ≡ Some k →
    (f : Assertion) × (slice_get fs n ≡ Some f) × (Formal f ≡ k)
fact_at [] n k e = absurd cc
fact_at (f ∷ fs) zero k e = (f, refl, same_Some (Formal f) k e)
fact_at (f ∷ fs) (suc n) k e = fact_at fs n k e

fact_there : (gs : List Assertion) (m : ℕ) (f : Assertion) → slice_get gs m ≡ Some f → slice_get (as_facts gs) m ≡ Some (Formal f)
fact_there [] m f e = absurd cc
fact_there (g ∷ gs) zero f e = ap (λ (h : Assertion). Some (Formal h)) (same_Some g f e)
fact_there (g ∷ gs) (suc m) f e = fact_there gs m f e

stand_among : (fs gs : List Assertion) (among : Among fs gs) → StandAmong (move_to fs gs among) (as_facts fs) (as_facts gs)
unfolding move_to
stand_among fs gs among n k e =
    let at = fact_at fs n k e in
    fact_there gs (move_to fs gs among n) at.0 (to_found fs gs among n at.0 (slice_get fs n) refl at.1)
    ∙ ap (λ (h : BranchFact). Some h) at.2

-- a certificate over facts is one over more facts
certificate_moves : ClosesMoved → (sorts : Sorts) (facts others : List Assertion) (goal : Assertion) → Among facts others →
    HasCertificate sorts facts goal → HasCertificate sorts others goal
certificate_moves moves sorts facts others goal among h =
    let fs = facts ++ negate goal ∷ [] in
    let gs = others ++ negate goal ∷ [] in
    let both : Among fs gs =
    among_append facts others (negate goal ∷ []) (negate goal ∷ []) among (among_itself (negate goal ∷ [])) in
    let move = move_to fs gs both in (
      moved_certificate (moved_past move (length (as_facts fs)) (length (as_facts gs))) h.0,
      moves sorts move (as_facts fs) (as_facts gs) h.0 (stand_among fs gs both) h.2 h.1,
      moved_names (moved_past move (length (as_facts fs)) (length (as_facts gs))) h.0 h.2,
    )

-- of two choices the second has all templates of the first, and by a relation what a site asks under the first is below what it asks under
-- the second
module _ (Rel : List Assertion → List Assertion → Type 0) (kept : IsKept Rel) (t : Parts) (choice other : Choice) (ds : List Due)
    (expands : obligations (task_of t) (plan_of t choice) ≡ Ok ds)
    (more : (s : ℕ) → Rel (chosen_templates t choice s) (chosen_templates t other s)) (has_all : HasAll other choice)
    (range : HasTemplates t other) where
  -- the obligation under the first choice for one under the second
  pub record Matching (s n : ℕ) (o : Obligation t other s n) : Type 0 where
    pub obligation : Obligation t choice s n
    pub node : obligation.due.node ≡ o.due.node
    pub goal : obligation.goal ≡ o.goal
    pub facts : Rel obligation.due.facts o.due.facts

  other_below : (s : ℕ) → AreBelow (length (templates t s)) (chosen_at other s)
  other_below s = all_below (length (templates t s)) (chosen_at other s) (range s)

  choice_below : (s : ℕ) → AreBelow (length (templates t s)) (chosen_at choice s)
  choice_below s =
      all_below (length (templates t s)) (chosen_at choice s)
      (λ (n : ℕ) (h : is_in (chosen_at choice s) n ≡ true). range s n (has_all s n h))

  abbrev base : List (Option ℕ)
  base = owners None 0 (sketch_of t)

  abbrev IsPaired : Due → Type 0
  IsPaired e = Paired Rel kept base (kept_by choice) (kept_by other) (chosen_templates t choice) (chosen_templates t other) more ds e

  abbrev Pairing : ℕ → Due → Type 0
  Pairing s due =
      (stores : Copy → SymbolicStore) × (due.goals ≡ all_at_stores stores (chosen_templates t other s))
      × ((all_at_stores stores (chosen_templates t choice s) ≡ []) ⊎ Shown Rel kept ds due (all_at_stores stores (chosen_templates t choice s)))

  -- where the site that asks is known
  matching_by : (s n : ℕ) (o : Obligation t other s n) → is_in (chosen_at choice s) n ≡ true → Pairing s o.due → Matching s n o
  matching_by s n o there found = by found.2
    where
      template : (f : Assertion) × (slice_get (templates t s) n ≡ Some f)
      template = there_is (templates t s) n (range s n (has_all s n there))

      is_goal : at_stores found.0 template.0 ≡ o.goal
      is_goal =
          same_Some (at_stores found.0 template.0) o.goal
          (sym
          (ap (λ (gs : List Assertion). slice_get gs o.place) found.1
          ∙ map_at (at_stores found.0) (chosen_templates t other s) o.place template.0
          (picked_at (templates t s) (chosen_at other s) o.place n (other_below s) o.is_chosen ∙ template.1))
          ∙ o.is_goal)

      at : (i : ℕ) × (slice_get (chosen_at choice s) i ≡ Some n)
      at = place_in (chosen_at choice s) n there

      asked : slice_get (all_at_stores found.0 (chosen_templates t choice s)) at.0 ≡ Some (at_stores found.0 template.0)
      asked =
          map_at (at_stores found.0) (chosen_templates t choice s) at.0 template.0
          (picked_at (templates t s) (chosen_at choice s) at.0 n (choice_below s) at.1 ∙ template.1)

      not_empty : (gs : List Assertion) → gs ≡ [] → (g : Assertion) → slice_get gs at.0 ≡ Some g → ⊥
      not_empty [] e g f = absurd cc
      not_empty (x ∷ gs) e g f = absurd cc

      by : (all_at_stores found.0 (chosen_templates t choice s) ≡ [])
          ⊎ Shown Rel kept ds o.due (all_at_stores found.0 (chosen_templates t choice s)) → Matching s n o
      by (inl none) = absurd (not_empty (all_at_stores found.0 (chosen_templates t choice s)) none (at_stores found.0 template.0) asked)
      by (inr d) = record {
        obligation = record {
          number = d.place;
          due = d.due;
          is_due = ap (λ (x : Result (List Due) Fault). slice_get (dues_in x) d.place) expands ∙ d.there;
          owner = ap (λ (k : ℕ). unwrap_or (slice_get base k) None) d.node ∙ o.owner;
          place = at.0;
          is_chosen = at.1;
          goal = at_stores found.0 template.0;
          is_goal = ap (λ (gs : List Assertion). slice_get gs at.0) d.asks ∙ asked;
        };
        node = d.node;
        goal = is_goal;
        facts = d.among;
      }

  -- the pair of an owner that is the site
  pairing : (owner : Option ℕ) (s : ℕ) (due : Due) → owner ≡ Some s →
      PairedBy Rel kept base (kept_by choice) (kept_by other) (chosen_templates t choice) (chosen_templates t other) more owner ds due →
      Pairing s due
  pairing None s due same h = absurd cc
  pairing (Some m) s due same h = subst (λ (k : ℕ). Pairing k due) (same_Some m s same) h

  pub matching : (s n : ℕ) (o : Obligation t other s n) → is_in (chosen_at choice s) n ≡ true → Matching s n o
  matching s n o there = by (obligations (task_of t) (plan_of t other)) refl
    where
      by : (x : Result (List Due) Fault) → obligations (task_of t) (plan_of t other) ≡ x → Matching s n o
      by (Err w) e = absurd (let none = ap (λ (y : Result (List Due) Fault). slice_get (dues_in y) o.number) (sym e) ∙ o.is_due in cc)
      by (Ok es) e =
          let is_due = ap (λ (y : Result (List Due) Fault). slice_get (dues_in y) o.number) (sym e) ∙ o.is_due in
          let pair = each_at IsPaired es o.number o.due (product_paired Rel kept t choice other ds es more expands e) is_due in
          matching_by s n o there
          (pairing pair.owner s o.due (ap (λ (y : Option (Option ℕ)). unwrap_or y None) (sym pair.found) ∙ o.owner) pair.shown)

-- an obligation under a choice is one under each that stands in it in order
pub asked_under : AskedUnderFewer
asked_under t choice other ds expands range within s n there o =
    let more = λ (m : ℕ). stand_picked (templates t m) (chosen_at choice m) (chosen_at other m) (within m) in
    let has_all = λ (m k : ℕ) (h : is_in (chosen_at choice m) k ≡ true). stand_in_has (chosen_at choice m) (chosen_at other m) k (within m) h in
    let found = matching StandFormulas stand_kept t choice other ds expands more has_all range s n o there in
    record { obligation = found.obligation; node = found.node; goal = found.goal; facts = found.facts }

-- a round that has all templates of a choice
module _ (moves : ClosesMoved) (closes : List Assertion → Assertion → Bool) (t : Parts) (choice : Choice) (ds : List Due) (r : ℕ)
    (expands : obligations (task_of t) (plan_of t choice) ≡ Ok ds) (has_all : HasAll (round_at closes t r) choice)
    (shown : (s n : ℕ) → IsShownUnder t choice s n) where
  abbrev round : Choice
  round = round_at closes t r

  in_range : HasTemplates t round
  in_range s n h =
      let at = place_in (chosen_at round s) n h in
      below_at (length (templates t s)) (chosen_at round s) at.0 n (round_below closes t r s) at.1

  shown_there : (s n : ℕ) → is_in (chosen_at choice s) n ≡ true → IsShownUnder t round s n
  shown_there s n there o =
      let more = λ (m : ℕ). among_picked (templates t m) (chosen_at choice m) (chosen_at round m) (has_all m) in
      let found = matching Among among_kept t choice round ds expands more has_all in_range s n o there in
      subst (HasCertificate (sort_of t.declared) o.due.facts) found.goal
      (certificate_moves moves (sort_of t.declared) found.obligation.due.facts o.due.facts found.obligation.goal found.facts
      (shown s n found.obligation))

  -- a template that is dropped has an obligation that isn't closed
  dropped_there : (s n : ℕ) → is_in (chosen_at choice s) n ≡ true → is_in (chosen_at (next_round closes t round) s) n ≡ false →
      (o : Obligation t round s n) × (closes o.due.facts o.goal ≡ false)
  dropped_there s n there gone = at (holds_at closes (owner_of t) (dues_of t round) s place.0) refl
    where
      place : (i : ℕ) × (slice_get (chosen_at round s) i ≡ Some n)
      place = place_in (chosen_at round s) n (has_all s n there)

      template : (f : Assertion) × (slice_get (templates t s) n ≡ Some f)
      template = there_is (templates t s) n (in_range s n (has_all s n there))

      different : true ≡ false → ⊥
      different h = absurd cc

      at : (b : Bool) → holds_at closes (owner_of t) (dues_of t round) s place.0 ≡ b →
          (o : Obligation t round s n) × (closes o.due.facts o.goal ≡ false)
      at true h =
          let passes = holds_at closes (owner_of t) (dues_of t round) in
          let site : 0 + s ≡ s = omega arith in
          let first : 0 + place.0 ≡ place.0 = omega arith in
          let stays = subst (λ (ns : List ℕ). is_in ns n ≡ true) (sym (sites_at passes 0 round s))
          (number_kept (passes (0 + s)) 0 (chosen_at round s) place.0 n place.1
          (ap (λ (m : ℕ). passes m (0 + place.0)) site ∙ (ap (passes s) first ∙ h))) in
          absurd (different (sym stays ∙ gone))
      at false h =
          let refuted = place_refuted closes t r s n place.0 template.0 template.1 place.1 h in
          (refuted.obligation, refuted.fails)

-- where certificates move, the templates of a choice that are shown under it are so in each round that has them all
pub shown_in_rounds : ClosesMoved → ShownInRounds
shown_in_rounds moves walk t choice ds r expands shown has_all s n there =
    let closes = λ (facts : List Assertion) (goal : Assertion). is_closing (walk facts goal) in (
      shown_there moves closes t choice ds r expands has_all shown s n there,
      λ (gone : is_in (chosen_at (next_round closes t (round_at closes t r)) s) n ≡ false).
          dropped_there moves closes t choice ds r expands has_all shown s n there gone,
    )
