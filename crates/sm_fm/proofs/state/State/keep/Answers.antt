-- The form is put after the others, or nothing changes.
use Rattle.sm_fm.proofs.Imports.{◌≡◌, ◌∷◌, ◌++◌, [], ℕ, suc, List, length, Result, Ok, Err, sym, ap, subst, ◌∙◌, arith, All, OnOk, OnErr, Linear, Known, State, Event, KnowsAll, Learns, left_of, with_form, Lacks, IsPairOf, Taking}
use Rattle.sm_fm.proofs.KnowingLemmas.{knows_more}
use Rattle.sm_fm.proofs.StateLemmas.{kept_left, pairs_stay}
use Rattle.sm_fm.proofs.state.State.keep.Goals as goal

-- the forms are known, and pairs stay pairs, on success and on failure
stays : {X Y : Type 0} (r : Result X Y) (fs gs : List (Linear ℕ)) (h g : Linear ℕ) (known all : List Known) (atoms t : ℕ)
    (ps : List (ℕ × ℕ)) → g ≡ h → OnOk r (gs ≡ fs ++ g ∷ []) → OnOk r (Learns known all h) →
    OnErr r ((gs ≡ fs) × (all ≡ known)) → KnowsAll known fs → All (IsPairOf fs atoms t) ps → KnowsAll all gs × All (IsPairOf gs atoms t) ps
stays (Ok x) fs gs h g known all atoms t ps copied forms learns err knows pairs =
    let is = forms ∙ ap (λ (f : Linear ℕ). fs ++ f ∷ []) copied in (
      subst (KnowsAll all) (sym is) (knows_more known all fs h knows learns),
      subst (λ (l : List (Linear ℕ)). All (IsPairOf l atoms t) ps) (sym is) (pairs_stay fs h atoms t ps pairs),
    )
stays (Err y) fs gs h g known all atoms t ps copied forms learns err knows pairs = (
  subst (KnowsAll all) (sym err.0) (subst (λ (k : List Known). KnowsAll k fs) (sym err.1) knows),
  subst (λ (l : List (Linear ℕ)). All (IsPairOf l atoms t) ps) (sym err.0) pairs,
)

pub returns-clause-sound : goal.returns-clause-sound
returns-clause-sound c =
    let s = c.args.self.now in
    let atoms = length s.atoms.list.items in
    let both = stays c.enter.result s.forms.items c.enter.new.forms.items c.args.sum.form c.in_ok-form.form s.known.keys
    c.enter.new.known.keys atoms s.atom s.pairs c.in_ok-form.ensures c.enter.ensures.forms c.enter.ensures.learns
    c.enter.ensures.err c.requires.sound.known c.requires.sound.pairs in
    record {
      later = c.requires.sound.later;
      firsts = c.enter.ensures.firsts atoms c.requires.sound.firsts;
      known = both.0;
      pairs = both.1;
    }

-- a state as it is seen with other forms
abbrev seen : State → List (Linear ℕ) → Taking
seen s gs = record { atoms = s.atoms.list.items; forms = gs; left = left_of gs s.atom s.more s.pairs }

-- on success the form stands after the others
stands : {X Y : Type 0} (r : Result X Y) (s : State) (gs : List (Linear ℕ)) (h g : Linear ℕ) → g ≡ h →
    OnOk r (gs ≡ s.forms.items ++ g ∷ []) → Lacks (suc s.atom) h →
    All (IsPairOf s.forms.items (length s.atoms.list.items) s.atom) s.pairs →
    OnOk r (seen s gs ≡ with_form s h)
stands (Ok x) s gs h g copied forms lacks pairs =
    ap (seen s) is
    ∙ ap (λ (l : List Event). record { atoms = s.atoms.list.items; forms = s.forms.items ++ h ∷ []; left = l })
    (kept_left s.forms.items h (length s.atoms.list.items) s.atom s.more s.pairs (λ a lt. lacks a (omega arith)) pairs)
  where
    is : gs ≡ s.forms.items ++ h ∷ []
    is = forms ∙ ap (λ (f : Linear ℕ). s.forms.items ++ f ∷ []) copied
stands (Err y) s gs h g copied forms lacks pairs = tt

pub returns-clause-ok : goal.returns-clause-ok
returns-clause-ok c =
    stands c.enter.result c.args.self.now c.enter.new.forms.items c.args.sum.form c.in_ok-form.form c.in_ok-form.ensures
    c.enter.ensures.forms c.requires.lacks c.requires.sound.pairs
