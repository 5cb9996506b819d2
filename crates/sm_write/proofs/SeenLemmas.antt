-- States that were seen, one after the other, and what is known of them.
use Rattle.sm_write.proofs.Imports.{◌⊎◌, inl, inr, List, [], ◌∷◌, ◌++◌, sym, subst, Sorts, Tree, arguments_of, IsStateSorted, State, EachOf, IsBuilt, IsAtom, Seen}
use Rattle.sm_write.proofs.BuiltTerms.{IsPlain, built_more, each_more}
use Rattle.sm_write.proofs.BuiltStates.{IsWell, IsSolid, With, AreWellWith, well_more}

-- what was seen was seen among more
pub seen_left : (first second : List State) (t : Tree) → Seen first t → Seen (first ++ second) t
seen_left [] second t h = absurd h
seen_left (st ∷ first) second t (inl h) = inl h
seen_left (st ∷ first) second t (inr h) = inr (seen_left first second t h)

pub seen_right : (first second : List State) (t : Tree) → Seen second t → Seen (first ++ second) t
seen_right [] second t h = h
seen_right (st ∷ first) second t h = inr (seen_right first second t h)

-- what was seen among the states of two lists was seen among those of one of them
seen_parts : (first second : List State) (t : Tree) → Seen (first ++ second) t → Seen first t ⊎ Seen second t
seen_parts [] second t h = inr h
seen_parts (st ∷ first) second t (inl h) = inl (inl h)
seen_parts (st ∷ first) second t (inr h) = of (seen_parts first second t h)
  where
    of : Seen first t ⊎ Seen second t → Seen (st ∷ first) t ⊎ Seen second t
    of (inl a) = inl (inr a)
    of (inr b) = inr b

-- one state more
pub seen_more : (states : List State) (st : State) (t : Tree) → With (Seen states) st t → Seen (states ++ st ∷ []) t
seen_more states st t (inl h) = seen_left states (st ∷ []) t h
seen_more states st t (inr h) = seen_right states (st ∷ []) t (inl h)

pub seen_back : (states : List State) (st : State) (t : Tree) → Seen (states ++ st ∷ []) t → With (Seen states) st t
seen_back states st t h = of (seen_parts states (st ∷ []) t h)
  where
    of : Seen states t ⊎ Seen (st ∷ []) t → With (Seen states) st t
    of (inl a) = inl a
    of (inr (inl b)) = inr b
    of (inr (inr b)) = absurd b

-- something is so of each state
abbrev pub EachState : (State → Type 0) → List State → Type 0
EachState P [] = Unit {0}
EachState P (st ∷ states) = P st × EachState P states

pub states_more : (P Q : State → Type 0) → ((st : State) → P st → Q st) → (states : List State) → EachState P states → EachState Q states
states_more P Q more [] all = tt
states_more P Q more (st ∷ states) all = (more st all.0, states_more P Q more states all.1)

pub states_end : (P : State → Type 0) (states : List State) (st : State) → EachState P states → P st → EachState P (states ++ st ∷ [])
states_end P [] st all one = (one, tt)
states_end P (first ∷ states) st all one = (all.0, states_end P states st all.1 one)

-- states that were seen: each is well and sorted
pub record AreFine (sorts : Sorts) (states : List State) : Type 0 where
  pub solid : IsSolid (Seen states)
  pub wells : EachState (IsWell (Seen states)) states
  pub sorted : EachState (IsStateSorted sorts) states

-- none are fine
pub none_fine : (sorts : Sorts) → AreFine sorts []
none_fine sorts = record {
  solid = record { plain = λ (t : Tree) (a : IsAtom t) (h : Seen [] t). absurd h; parts = λ (t : Tree) (a : IsAtom t) (h : Seen [] t). absurd h };
  wells = tt;
  sorted = tt;
}

-- a kind is solid with the terms of a state that is well with them
solid_held : (K : Tree → Type 0) → IsSolid K → (st : State) → IsWell (With K st) st → IsSolid (With K st)
solid_held K solid st w = record { plain = plain_of; parts = parts_from }
  where
    plain_of : (t : Tree) → IsAtom t → With K st t → IsPlain t
    plain_of t a (inl k) = solid.plain t a k
    plain_of t a (inr h) = subst IsPlain (sym h.1.1) (w.plain h.0 h.1.0)

    known : (t : Tree) → IsAtom t → K t → With K st t
    known t a k = inl k

    parts_from : (t : Tree) → IsAtom t → With K st t → EachOf (IsBuilt (With K st)) (arguments_of t)
    parts_from t a (inl k) = each_more (IsBuilt K) (IsBuilt (With K st)) (built_more K (With K st) known) (arguments_of t) (solid.parts t a k)
    parts_from t a (inr h) = subst (λ (u : Tree). EachOf (IsBuilt (With K st)) (arguments_of u)) (sym h.1.1) (w.parts h.0 h.1.0)

-- a kind of just the terms of a solid one is solid
solid_same : (K L : Tree → Type 0) → ((t : Tree) → K t → L t) → ((t : Tree) → L t → K t) → IsSolid K → IsSolid L
solid_same K L more back solid = record {
  plain = λ (t : Tree) (a : IsAtom t) (l : L t). solid.plain t a (back t l);
  parts = λ (t : Tree) (a : IsAtom t) (l : L t).
      each_more (IsBuilt K) (IsBuilt L) (built_more K L (λ (u : Tree) (b : IsAtom u) (k : K u). more u k)) (arguments_of t)
      (solid.parts t a (back t l));
}

-- a state that is well with its own terms is well among those that were seen
pub well_here : (states : List State) (st : State) → IsWell (With (Seen states) st) st → IsWell (Seen (states ++ st ∷ [])) st
well_here states st w =
    well_more (With (Seen states) st) (Seen (states ++ st ∷ []))
    (λ (t : Tree) (a : IsAtom t) (h : With (Seen states) st t). seen_more states st t h) st w

-- one state more
pub fine_more : (sorts : Sorts) (states : List State) (st : State) → AreFine sorts states → IsStateSorted sorts st →
    IsWell (With (Seen states) st) st → AreFine sorts (states ++ st ∷ [])
fine_more sorts states st fine good w =
    let K = With (Seen states) st in
    let L = Seen (states ++ st ∷ []) in
    record {
      solid = solid_same K L (seen_more states st) (seen_back states st) (solid_held (Seen states) fine.solid st w);
      wells =
          states_end (IsWell L) states st
          (states_more (IsWell (Seen states)) (IsWell L)
          (λ (s : State) (b : IsWell (Seen states) s).
          well_more (Seen states) L (λ (t : Tree) (a : IsAtom t) (h : Seen states t). seen_left states (st ∷ []) t h) s b)
          states fine.wells)
          (well_here states st w);
      sorted = states_end (IsStateSorted sorts) states st fine.sorted good;
    }

-- states that wait stay well while more are seen
pub waiting_more : (states more : List State) (waiting : List State) → AreWellWith (Seen states) waiting →
    AreWellWith (Seen (states ++ more)) waiting
waiting_more states more [] all = tt
waiting_more states more (st ∷ waiting) all = (
  well_more (With (Seen states) st) (With (Seen (states ++ more)) st) wider st all.0,
  waiting_more states more waiting all.1,
)
  where
    wider : (t : Tree) → IsAtom t → With (Seen states) st t → With (Seen (states ++ more)) st t
    wider t a (inl h) = inl (seen_left states more t h)
    wider t a (inr h) = inr h
