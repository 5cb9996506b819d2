-- What a node opens names only what stood in the stores of states up to it, or stands in its own.
use Rattle.sm_write.proofs.Imports.{◌≡◌, ◌⊎◌, inl, inr, ℕ, Bool, true, false, nat_le, ◌==◌, ◌&&◌, ◌||◌, not, if◌then◌else◌, Option, Some, None, List, [], ◌∷◌, ◌++◌, map, refl, sym, subst, flat_map, same_Some, Sort, Num, Arr, Condition, Code, append, Copy, O, A, B, M, Tree, Havoc, Write, Fun, Assertion, negate, conj, arguments_of, terms_given, SymbolicStore, with_term, term_of, form_of, all_at_stores, Copies, copies, with_copy, each, has, no_copies, is_inhabited, subsets, is_kept, State, place, keeps_goals, start_store, start_facts, start_state, Unfit, follows, asks, where_true, after_step, both_ways, opened_by, EachOf, EachSide, AllSides, EachKept, IsBuilt, IsAtom, IsHeld}
use Rattle.sm_syntax.specs.claim.Syntax as syntax
use Rattle.sm_syntax.specs.Assigns.{assigns}
use Rattle.sm_syntax.specs.claim.ConflictFree.{Task}
use Rattle.sm_deps.specs.Inputs.{inputs}
use Rattle.sm_term.specs.Assertions.{No}
use Rattle.sm_plan.specs.Statements.{is_over, is_long, front, rest_after, is_loop, loop_guard, last_guard}
use Rattle.sm_plan.specs.Successors as next
use Rattle.sm_plan.specs.Nodes.{Node, Step, Abs, Fork, Loop, Block, Dead, Ends, Opened}
use Rattle.sm_plan.proofs.CopiesLemmas.{one_copy}
use Rattle.sm_write.proofs.BuiltTerms.{IsPlain, ArePlain, built_more, built_known, built_parts, each_more, sides_more, sides_append, negate_sides, conj_sides, IsStoreBuilt, IsStorePlain, term_built, term_plain, form_built}
use Rattle.sm_write.proofs.BuiltTerms.{all_at_stores_built}

-- all terms of a state are built of a kind, and those of its stores have no slots and built arguments
pub record IsWell (K : Tree → Type 0) (st : State) : Type 0 where
  pub stores : (c : Copy) → IsStoreBuilt K (st.stores c)
  pub plain : (c : Copy) → IsStorePlain (st.stores c)
  pub parts : (c : Copy) (x : ℕ) → EachOf (IsBuilt K) (arguments_of (st.stores c x))
  pub facts : AllSides (IsBuilt K) st.facts
  pub target : AllSides (IsBuilt K) st.target

-- a kind whose terms have no slots and built arguments
pub record IsSolid (K : Tree → Type 0) : Type 0 where
  pub plain : (t : Tree) → IsAtom t → K t → IsPlain t
  pub parts : (t : Tree) → IsAtom t → K t → EachOf (IsBuilt K) (arguments_of t)

-- a kind with the terms of a state's stores
abbrev pub With : (Tree → Type 0) → State → Tree → Type 0
With K st t = K t ⊎ IsHeld st t

-- states each of which is well with its own terms
abbrev pub AreWellWith : (Tree → Type 0) → List State → Type 0
AreWellWith K [] = Unit {0}
AreWellWith K (st ∷ states) = IsWell (With K st) st × AreWellWith K states

-- a wider kind
pub well_more : (K L : Tree → Type 0) → ((t : Tree) → IsAtom t → K t → L t) → (st : State) → IsWell K st → IsWell L st
well_more K L more st w =
    let wider = built_more K L more in
    record {
      stores = λ (c : Copy) (x : ℕ). wider (st.stores c x) (w.stores c x);
      plain = w.plain;
      parts = λ (c : Copy) (x : ℕ). each_more (IsBuilt K) (IsBuilt L) wider (arguments_of (st.stores c x)) (w.parts c x);
      facts = sides_more (IsBuilt K) (IsBuilt L) wider st.facts w.facts;
      target = sides_more (IsBuilt K) (IsBuilt L) wider st.target w.target;
    }

-- with its own terms
pub well_with : (K : Tree → Type 0) (st : State) → IsWell K st → IsWell (With K st) st
well_with K st w = well_more K (With K st) (λ (t : Tree) (a : IsAtom t) (k : K t). inl k) st w

-- states one after the other
wells_append : (K : Tree → Type 0) (first second : List State) → AreWellWith K first → AreWellWith K second → AreWellWith K (first ++ second)
wells_append K [] second a b = b
wells_append K (st ∷ first) second a b = (a.0, wells_append K first second a.1 b)

-- a state whose stores are built of a solid kind
solid_state : (K : Tree → Type 0) → IsSolid K → (st : State) → ((c : Copy) → IsStoreBuilt K (st.stores c)) →
    ((c : Copy) → IsStorePlain (st.stores c)) → AllSides (IsBuilt K) st.facts → AllSides (IsBuilt K) st.target → IsWell K st
solid_state K solid st stores plain facts target = record {
  stores = stores;
  plain = plain;
  parts = λ (c : Copy) (x : ℕ). built_parts K solid.parts (st.stores c x) (stores c x);
  facts = facts;
  target = target;
}

-- a choice of two terms
choice_of : (P : Tree → Type 0) (b : Bool) (t u : Tree) → P t → P u → P (if b then t else u)
choice_of P true t u first second = first
choice_of P false t u first second = second

-- a new term for a name
with_term_of : (P : Tree → Type 0) (s : SymbolicStore) (x : ℕ) (t : Tree) → ((y : ℕ) → P (s y)) → P t → (y : ℕ) → P (with_term s x t y)
with_term_of P s x t old new y = choice_of P (y == x) t (s y) new (old y)

-- what a simple statement leaves
stepped_built : (K : Tree → Type 0) (c : Code) (s : SymbolicStore) (p : Code × SymbolicStore) → next.stepped c s ≡ Some p →
    IsStoreBuilt K s → IsStoreBuilt K p.1
stepped_built K syntax.End s p e b = absurd cc
stepped_built K (syntax.Skip r) s p e b = let same : p.1 ≡ s = cc in rw same b
stepped_built K (syntax.Assign x v r) s p e b =
    let same : p.1 ≡ with_term s x (term_of v s) = cc in
    rw same (with_term_of (IsBuilt K) s x (term_of v s) b (term_built K v s b))
stepped_built K (syntax.Write a i v r) s p e b =
    let new = Write (s a) (term_of i s) (term_of v s) in
    let same : p.1 ≡ with_term s a new = cc in
    rw same (with_term_of (IsBuilt K) s a new b (b a, term_built K i s b, term_built K v s b))
stepped_built K (syntax.If g c d r) s p e b = absurd cc
stepped_built K (syntax.While g c r) s p e b = absurd cc
stepped_built K (syntax.Hole h r) s p e b = absurd cc

stepped_plain : (c : Code) (s : SymbolicStore) (p : Code × SymbolicStore) → next.stepped c s ≡ Some p → IsStorePlain s → IsStorePlain p.1
stepped_plain syntax.End s p e b = absurd cc
stepped_plain (syntax.Skip r) s p e b = let same : p.1 ≡ s = cc in rw same b
stepped_plain (syntax.Assign x v r) s p e b =
    let same : p.1 ≡ with_term s x (term_of v s) = cc in
    rw same (with_term_of IsPlain s x (term_of v s) b (term_plain v s b))
stepped_plain (syntax.Write a i v r) s p e b =
    let new = Write (s a) (term_of i s) (term_of v s) in
    let same : p.1 ≡ with_term s a new = cc in
    rw same (with_term_of IsPlain s a new b (b a, term_plain i s b, term_plain v s b))
stepped_plain (syntax.If g c d r) s p e b = absurd cc
stepped_plain (syntax.While g c r) s p e b = absurd cc
stepped_plain (syntax.Hole h r) s p e b = absurd cc

-- one copy moved by a store of the kind, with more facts
moved_well : (K : Tree → Type 0) → IsSolid K → (st : State) (c : Copy) (r : Code) (s : SymbolicStore) (more : List Assertion) →
    IsWell K st → IsStoreBuilt K s → IsStorePlain s → AllSides (IsBuilt K) more → IsWell K (next.with_facts (next.moved st c r s) more)
moved_well K solid st c r s more w new plain facts =
    solid_state K solid (next.with_facts (next.moved st c r s) more)
    (one_copy (λ (p : Code) (t : SymbolicStore) (d : Copy). IsStoreBuilt K t) st.rest st.stores c r s new w.stores)
    (one_copy (λ (p : Code) (t : SymbolicStore) (d : Copy). IsStorePlain t) st.rest st.stores c r s plain w.plain)
    (sides_append (IsBuilt K) st.facts more w.facts facts) w.target

moved_alone : (K : Tree → Type 0) → IsSolid K → (st : State) (c : Copy) (r : Code) (s : SymbolicStore) →
    IsWell K st → IsStoreBuilt K s → IsStorePlain s → IsWell K (next.moved st c r s)
moved_alone K solid st c r s w new plain =
    solid_state K solid (next.moved st c r s)
    (one_copy (λ (p : Code) (t : SymbolicStore) (d : Copy). IsStoreBuilt K t) st.rest st.stores c r s new w.stores)
    (one_copy (λ (p : Code) (t : SymbolicStore) (d : Copy). IsStorePlain t) st.rest st.stores c r s plain w.plain)
    w.facts w.target

-- after a simple statement
step_well : (K : Tree → Type 0) → IsSolid K → (st : State) (c : Copy) (q : Opened) (o : Option (Code × SymbolicStore)) →
    next.stepped (st.rest c) (st.stores c) ≡ o → after_step st c o ≡ Some q → IsWell K st → AreWellWith K q.states
step_well K solid st c q None here e w = absurd cc
step_well K solid st c q (Some p) here e w =
    let s = next.moved st c p.0 p.1 in
    subst (λ (o : Opened). AreWellWith K o.states) (same_Some (follows (s ∷ [])) q e) (
      well_with K s
          (moved_alone K solid st c p.0 p.1 w (stepped_built K (st.rest c) (st.stores c) p here (w.stores c))
          (stepped_plain (st.rest c) (st.stores c) p here (w.plain c))),
      tt,
    )

-- after both branches
fork_well : (K : Tree → Type 0) → IsSolid K → (st : State) (c : Copy) (q : Opened) (r : Code) → both_ways st c r ≡ Some q → IsWell K st →
    AreWellWith K q.states
fork_well K solid st c q syntax.End e w = absurd cc
fork_well K solid st c q (syntax.Skip k) e w = absurd cc
fork_well K solid st c q (syntax.Assign x v k) e w = absurd cc
fork_well K solid st c q (syntax.Write a i v k) e w = absurd cc
fork_well K solid st c q (syntax.If g first second k) e w =
    let f = form_of g (st.stores c) in
    let good = form_built K g (st.stores c) (w.stores c) in
    let one = next.branch_state st c (append first k) f in
    let other = next.branch_state st c (append second k) (negate f) in
    subst (λ (o : Opened). AreWellWith K o.states) (same_Some (follows (one ∷ other ∷ [])) q e) (
      well_with K one (moved_well K solid st c (append first k) (st.stores c) (f ∷ []) w (w.stores c) (w.plain c) (good, tt)),
      (
        well_with K other
            (moved_well K solid st c (append second k) (st.stores c) (negate f ∷ []) w (w.stores c) (w.plain c)
            (negate_sides (IsBuilt K) f good, tt)),
        tt,
      ),
    )
fork_well K solid st c q (syntax.While g d k) e w = absurd cc
fork_well K solid st c q (syntax.Hole h k) e w = absurd cc

-- the terms of names
present_of : (P : Tree → Type 0) (s : SymbolicStore) → ((x : ℕ) → P (s x)) → (names : List ℕ) → EachOf P (terms_given (next.present s names))
present_of P s all [] = tt
present_of P s all (x ∷ rest) = (all x, present_of P s all rest)

present_plain : (s : SymbolicStore) → IsStorePlain s → (names : List ℕ) → ArePlain (next.present s names)
present_plain s all [] = tt
present_plain s all (x ∷ rest) = (all x, present_plain s all rest)

-- a term that is built of the kind, or an atom over such terms
abbrev pub NewOrOld : (Tree → Type 0) → Tree → Type 0
NewOrOld K t = (IsBuilt K t × IsPlain t) ⊎ (IsAtom t × (IsPlain t × EachOf (IsBuilt K) (arguments_of t)))

-- such a term is built with the kind and itself
held_built : (K L : Tree → Type 0) → ((t : Tree) → IsAtom t → K t → L t) → (t : Tree) → L t → NewOrOld K t → IsBuilt L t
held_built K L more t held (inl old) = built_more K L more t old.0
held_built K L more t held (inr new) = built_known L t new.0 held

held_plain : (K : Tree → Type 0) (t : Tree) → NewOrOld K t → IsPlain t
held_plain K t (inl old) = old.1
held_plain K t (inr new) = new.1.0

held_parts : (K L : Tree → Type 0) → ((t : Tree) → IsAtom t → K t → L t) → IsSolid K → (t : Tree) → NewOrOld K t →
    EachOf (IsBuilt L) (arguments_of t)
held_parts K L more solid t (inl old) =
    each_more (IsBuilt K) (IsBuilt L) (built_more K L more) (arguments_of t) (built_parts K solid.parts t old.0)
held_parts K L more solid t (inr new) = each_more (IsBuilt K) (IsBuilt L) (built_more K L more) (arguments_of t) new.1.1

-- what was known is known with a state's terms
pub known_with : (K : Tree → Type 0) (s : State) (t : Tree) → IsAtom t → K t → With K s t
known_with K s t a k = inl k

-- a solid kind is solid with the terms of a state that are new or old
pub solid_with : (K : Tree → Type 0) → IsSolid K → (s : State) → ((c : Copy) (x : ℕ) → NewOrOld K (s.stores c x)) → IsSolid (With K s)
solid_with K solid s stores = record { plain = plain_of; parts = parts_from }
  where
    plain_of : (t : Tree) → IsAtom t → With K s t → IsPlain t
    plain_of t a (inl k) = solid.plain t a k
    plain_of t a (inr h) = subst IsPlain (sym h.1.1) (held_plain K (s.stores h.0 h.1.0) (stores h.0 h.1.0))

    parts_from : (t : Tree) → IsAtom t → With K s t → EachOf (IsBuilt (With K s)) (arguments_of t)
    parts_from t a (inl k) =
        each_more (IsBuilt K) (IsBuilt (With K s)) (built_more K (With K s) (known_with K s)) (arguments_of t) (solid.parts t a k)
    parts_from t a (inr h) =
        subst (λ (u : Tree). EachOf (IsBuilt (With K s)) (arguments_of u)) (sym h.1.1)
        (held_parts K (With K s) (known_with K s) solid (s.stores h.0 h.1.0) (stores h.0 h.1.0))

-- a state's own terms make it well, where its facts and its target are
renewed_well : (K : Tree → Type 0) → IsSolid K → (s : State) → ((c : Copy) (x : ℕ) → NewOrOld K (s.stores c x)) →
    (((c : Copy) → IsStoreBuilt (With K s) (s.stores c)) → IsSolid (With K s) → AllSides (IsBuilt (With K s)) s.facts) →
    AllSides (IsBuilt K) s.target → IsWell (With K s) s
renewed_well K solid s held facts target =
    let L = With K s in
    let more = known_with K s in
    let stores : (c : Copy) → IsStoreBuilt L (s.stores c) =
    λ (c : Copy) (x : ℕ). held_built K L more (s.stores c x) (inr (c, (x, refl))) (held c x) in
    record {
      stores = stores;
      plain = λ (c : Copy) (x : ℕ). held_plain K (s.stores c x) (held c x);
      parts = λ (c : Copy) (x : ℕ). held_parts K L more solid (s.stores c x) (held c x);
      facts = facts stores (solid_with K solid s held);
      target = sides_more (IsBuilt K) (IsBuilt L) (built_more K L more) s.target target;
    }

-- old terms are old
all_old : (K : Tree → Type 0) (st : State) → IsWell K st → (c : Copy) (x : ℕ) → NewOrOld K (st.stores c x)
all_old K st w c x = inl (w.stores c x, w.plain c x)

-- new values of a node
renewed_held : (K : Tree → Type 0) (k : ℕ) (done : Copy → Code) (st : State) → IsWell K st → (c : Copy) (x : ℕ) →
    NewOrOld K (next.renewed k done st.stores c x)
renewed_held K k done st w c x =
    choice_of (NewOrOld K) (assigns (done c) x) (Havoc k c x) (st.stores c x) (inr (tt, (tt, tt))) (all_old K st w c x)

-- summaries
summarized_held : (K : Tree → Type 0) (done : Code) (st : State) (c : Copy) → IsWell K st → (x : ℕ) →
    NewOrOld K (next.summarized done (st.stores c) x)
summarized_held K done st c w x =
    choice_of (NewOrOld K) (assigns done x) (Fun done x (next.present (st.stores c) (inputs done x))) (st.stores c x)
    (inr (tt, (present_plain (st.stores c) (w.plain c) (inputs done x), present_of (IsBuilt K) (st.stores c) (w.stores c) (inputs done x))))
    (all_old K st w c x)

-- facts of a wider kind
facts_with : (K : Tree → Type 0) (s : State) (fs : List Assertion) → AllSides (IsBuilt K) fs → AllSides (IsBuilt (With K s)) fs
facts_with K s fs b = sides_more (IsBuilt K) (IsBuilt (With K s)) (built_more K (With K s) (known_with K s)) fs b

-- that a guard is false
false_guard_built : (K : Tree → Type 0) (g : Option Condition) (s : SymbolicStore) → IsStoreBuilt K s →
    AllSides (IsBuilt K) (next.false_guard g s)
false_guard_built K None s b = tt
false_guard_built K (Some g) s b = (negate_sides (IsBuilt K) (form_of g s) (form_built K g s b), tt)

-- the store of the copy that moved
own_store : (P : SymbolicStore → Type 0) (stores : Copy → SymbolicStore) (c : Copy) (s : SymbolicStore) →
    ((d : Copy) → P (with_copy stores c s d)) → P s
own_store P stores O s all = all O
own_store P stores A s all = all A
own_store P stores B s all = all B
own_store P stores M s all = all M

-- after summaries
summary_well : (K : Tree → Type 0) → IsSolid K → (st : State) (c : Copy) (done r : Code) → IsWell K st →
    IsWell (With K (next.summary_state st c done r)) (next.summary_state st c done r)
summary_well K solid st c done r w =
    let s = next.summarized done (st.stores c) in
    let after = next.summary_state st c done r in
    renewed_well K solid after
    (one_copy (λ (p : Code) (t : SymbolicStore) (d : Copy). (x : ℕ) → NewOrOld K (t x)) st.rest st.stores c r s
    (summarized_held K done st c w) (all_old K st w))
    (λ (stores : (d : Copy) → IsStoreBuilt (With K after) (after.stores d)) (good : IsSolid (With K after)).
    sides_append (IsBuilt (With K after)) st.facts (next.false_guard (last_guard done) s) (facts_with K after st.facts w.facts)
    (false_guard_built (With K after) (last_guard done) s
    (own_store (IsStoreBuilt (With K after)) st.stores c s stores)))
    w.target

-- the facts of guards
guards_built : (K : Tree → Type 0) (st : State) (set turning : Copies) (s : Copy → SymbolicStore) → ((c : Copy) → IsStoreBuilt K (s c)) →
    (cs : List Copy) → AllSides (IsBuilt K) (flat_map (next.guard_fact st set turning s) cs)
guards_built K st set turning s all [] = tt
guards_built K st set turning s all (c ∷ cs) =
    sides_append (IsBuilt K) (next.guard_fact st set turning s c) (flat_map (next.guard_fact st set turning s) cs)
    (of_one (has set c) (has turning c) (form_of (loop_guard (st.rest c)) (s c)) (form_built K (loop_guard (st.rest c)) (s c) (all c)))
    (guards_built K st set turning s all cs)
  where
    of_one : (b d : Bool) (f : Assertion) → EachSide (IsBuilt K) f → AllSides (IsBuilt K) (if b then (if d then f else negate f) ∷ [] else [])
    of_one true true f h = (h, tt)
    of_one true false f h = (negate_sides (IsBuilt K) f h, tt)
    of_one false d f h = tt

-- the kept formula of a wider kind
keep_with : (K : Tree → Type 0) (s : State) (keep : Assertion) → EachSide (IsBuilt K) keep → AllSides (IsBuilt (With K s)) (conj keep)
keep_with K s keep b = facts_with K s (conj keep) (conj_sides (IsBuilt K) keep b)

-- a state at the head of loops
head_well : (K : Tree → Type 0) → IsSolid K → (st : State) (k : ℕ) (set : Copies) (keep : Assertion) (turning : Copies) (s : State) →
    IsWell K st → EachSide (IsBuilt K) keep → s.stores ≡ next.head_stores st k set →
    s.facts ≡ st.facts ++ next.head_facts st k set keep turning → AllSides (IsBuilt K) s.target → IsWell (With K s) s
head_well K solid st k set keep turning s w kept same facts target =
    renewed_well K solid s
    (λ (c : Copy) (x : ℕ). subst (λ (stores : Copy → SymbolicStore). NewOrOld K (stores c x)) (sym same)
    (renewed_held K k (next.bodies st set) st w c x))
    (λ (stores : (d : Copy) → IsStoreBuilt (With K s) (s.stores d)) (good : IsSolid (With K s)).
    let head = next.head_stores st k set in
    let all : (d : Copy) → IsStoreBuilt (With K s) (head d) =
    subst (λ (ts : Copy → SymbolicStore). (d : Copy) → IsStoreBuilt (With K s) (ts d)) same stores in
    subst (AllSides (IsBuilt (With K s))) (sym facts)
    (sides_append (IsBuilt (With K s)) st.facts (next.head_facts st k set keep turning) (facts_with K s st.facts w.facts)
    (sides_append (IsBuilt (With K s)) (all_at_stores head (conj keep)) (flat_map (next.guard_fact st set turning head) copies)
    (all_at_stores_built (With K s) good.plain head all (conj keep) (keep_with K s keep kept))
    (guards_built (With K s) st set turning head all copies))))
    target

-- each turn of loops
turns_well : (K : Tree → Type 0) → IsSolid K → (st : State) (k : ℕ) (set : Copies) (keep : Assertion) → IsWell K st →
    EachSide (IsBuilt K) keep → (vs : List Copies) → AreWellWith K (map (next.turn_state st k set keep) vs)
turns_well K solid st k set keep w kept [] = tt
turns_well K solid st k set keep w kept (v ∷ vs) = (
  head_well K solid st k set keep v (next.turn_state st k set keep v) w kept refl refl (conj_sides (IsBuilt K) keep kept),
  turns_well K solid st k set keep w kept vs,
)

-- the first statements
inner_well : (K : Tree → Type 0) → IsSolid K → (st : State) (counts : Copy → ℕ) (keep : Assertion) → IsWell K st →
    EachSide (IsBuilt K) keep → IsWell K (next.inner_state st counts keep)
inner_well K solid st counts keep w kept =
    solid_state K solid (next.inner_state st counts keep) w.stores w.plain w.facts (conj_sides (IsBuilt K) keep kept)

-- after them
after_block_well : (K : Tree → Type 0) → IsSolid K → (st : State) (k : ℕ) (counts : Copy → ℕ) (keep : Assertion) → IsWell K st →
    EachSide (IsBuilt K) keep → IsWell (With K (next.after_block_state st k counts keep)) (next.after_block_state st k counts keep)
after_block_well K solid st k counts keep w kept =
    let s = next.after_block_state st k counts keep in
    renewed_well K solid s (renewed_held K k (next.fronts st counts) st w)
    (λ (stores : (d : Copy) → IsStoreBuilt (With K s) (s.stores d)) (good : IsSolid (With K s)).
    sides_append (IsBuilt (With K s)) st.facts (all_at_stores s.stores (conj keep)) (facts_with K s st.facts w.facts)
    (all_at_stores_built (With K s) good.plain s.stores stores (conj keep) (keep_with K s keep kept)))
    w.target

-- what is opened where a test passes
passed_well : (K : Tree → Type 0) (b : Bool) (r q : Opened) → where_true b r ≡ Some q → AreWellWith K r.states → AreWellWith K q.states
passed_well K true r q e all = subst (λ (o : Opened). AreWellWith K o.states) (same_Some r q e) all
passed_well K false r q e all = absurd cc

-- what a node opens
pub node_well : (K : Tree → Type 0) → IsSolid K → (k : ℕ) (st : State) (node : Node) (q : Opened) → IsWell K st →
    EachKept (IsBuilt K) node → opened_by k st node ≡ Some q → AreWellWith K q.states
node_well K solid k st (Step c) q w kept e = step_well K solid st c q (next.stepped (st.rest c) (st.stores c)) refl e w
node_well K solid k st (Abs c n) q w kept e =
    let s = next.summary_state st c (front n (st.rest c)) (rest_after n (st.rest c)) in
    passed_well K (nat_le 1 n && is_long n (st.rest c)) (follows (s ∷ [])) q e
    (summary_well K solid st c (front n (st.rest c)) (rest_after n (st.rest c)) w, tt)
node_well K solid k st (Fork c) q w kept e = fork_well K solid st c q (st.rest c) e w
node_well K solid k st (Loop set keep) q w kept e =
    let have_loops = each (λ (c : Copy). not (has set c) || is_loop (st.rest c)) in
    let turns = map (next.turn_state st k set keep) (subsets set) in
    let after = next.after_loops_state st k set keep in
    passed_well K (is_inhabited set && (have_loops && is_kept keep))
    (record { goals = all_at_stores st.stores (conj keep); states = turns ++ after ∷ [] }) q e
    (wells_append K turns (after ∷ []) (turns_well K solid st k set keep w kept (subsets set))
    (head_well K solid st k set keep no_copies after w kept refl refl w.target, tt))
node_well K solid k st (Block counts keep) q w kept e =
    let inner = next.inner_state st counts keep in
    let after = next.after_block_state st k counts keep in
    passed_well K (each (λ (c : Copy). is_long (counts c) (st.rest c)) && is_kept keep) (follows (inner ∷ after ∷ [])) q e
    (well_with K inner (inner_well K solid st counts keep w kept), (after_block_well K solid st k counts keep w kept, tt))
node_well K solid k st Dead q w kept e = subst (λ (o : Opened). AreWellWith K o.states) (same_Some (asks (No ∷ [])) q e) tt
node_well K solid k st Ends q w kept e =
    passed_well K (each (λ (c : Copy). is_over (st.rest c))) (asks (all_at_stores st.stores st.target)) q e tt
node_well K solid k st (Unfit rule) q w kept e = absurd cc

-- no term is of this kind
abbrev pub Nothing : Tree → Type 0
Nothing t = ⊥

-- the goals of an output
place_built : (output : ℕ × Sort) (c : Copy) → IsBuilt Nothing (place output c)
place_built (x, Num) c = tt
place_built (x, Arr) c = (tt, tt)

goals_built : (outputs : List (ℕ × Sort)) →
    AllSides (IsBuilt Nothing) (flat_map (λ (output : ℕ × Sort). keeps_goals (place output)) outputs)
goals_built [] = tt
goals_built (output ∷ rest) =
    let at = place_built output in
    sides_append (IsBuilt Nothing) (keeps_goals (place output)) (flat_map (λ (o : ℕ × Sort). keeps_goals (place o)) rest)
    (((at O, at A), (at M, at A)), (((at O, at B), (at M, at B)), (((at O, at A), ((at A, at B), (at M, at O))), tt)))
    (goals_built rest)

start_facts_built : (assumed : Option Condition) → AllSides (IsBuilt Nothing) (start_facts assumed)
start_facts_built None = tt
start_facts_built (Some b) = conj_sides (IsBuilt Nothing) (form_of b start_store) (form_built Nothing b start_store (λ (x : ℕ). tt))

-- the start
pub start_well : (t : Task) → IsWell Nothing (start_state t)
start_well t = record {
  stores = λ (c : Copy) (x : ℕ). tt;
  plain = λ (c : Copy) (x : ℕ). tt;
  parts = λ (c : Copy) (x : ℕ). tt;
  facts = start_facts_built t.assumed;
  target = goals_built t.outputs;
}
