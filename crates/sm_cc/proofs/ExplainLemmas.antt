-- Steps that are taken from a log follow from one another.
use Rattle.sm_cc.proofs.Imports.{◌≡◌, ◌⊎◌, ℕ, zero, suc, ◌+◌, ◌<◌, ◌≤◌, Bool, Some, None, Option, List, [], ◌∷◌, ◌++◌, length, slice_get, take, get_or, inl, inr, refl, sym, ap, subst, ◌∙◌, ⊎_elim, arith, take_more, same_Some, get_or_from_slice_get, Step, StepsBuilder, Placed, SayEqual, Derives, Follows, known_at, Before, Rule, Refl, Sym, Subst, Alike, Cong, Why, By, IsGiven, step_says, IsStated, StepsFollow, ExplainPlaces, IsMarked, AreMarked, numbers_in, IsNumber, AreNumbers, IsRenumbered, NumbersEntry, IsDraft, AreClosedFrom, get_last}
use Rattle.std.proofs.Common.{length-append}
use Rattle.sm_cc.specs.declared.row.Row.{Row}
use Rattle.sm_cc.specs.Log.{Known, Equal, Unequal, Trans, Apart, Hit, Miss, Given, Entry}
use Rattle.sm_cc.specs.Steps.{numbers_of}
use Rattle.sm_cc.proofs.LogLemmas.{get_kept, get_cases, derives_more}

-- what a step says stays as one is put behind
pub says_kept : (steps : List Step) (s : Step) (n : ℕ) (k : Known) → step_says steps n ≡ Some k → step_says (steps ++ s ∷ []) n ≡ Some k
says_kept [] s n k h = absurd (let p : None ≡ Some k = h in cc)
says_kept (x ∷ steps) s zero k h = h
says_kept (x ∷ steps) s (suc n) k h = says_kept steps s n k h

pub says_last : (steps : List Step) (s : Step) → step_says (steps ++ s ∷ []) (length steps) ≡ Some s.known
says_last [] s = refl
says_last (x ∷ steps) s = says_last steps s

-- what has a number keeps it
pub stated_more : (v : Placed) (start : ℕ) (steps : List Step) (s : Step) (m l n : ℕ) (k : Known) → m ≤ l → IsStated v start steps m n k →
    IsStated v start (steps ++ s ∷ []) l n k
stated_more v start steps s m l n k more h =
    ⊎_elim (λ (g : IsGiven v n k). inl g)
    (λ (g : (x : ℕ) × (n ≡ start + x) × (x < m) × (step_says steps x ≡ Some k)).
    inr (g.0, g.1, omega (arith, more, g.2), says_kept steps s g.0 k g.3)) h

-- the step behind has its number
pub stated_last : (v : Placed) (start : ℕ) (steps : List Step) (s : Step) (l n : ℕ) → n ≡ start + length steps → length steps < l →
    IsStated v start (steps ++ s ∷ []) l n s.known
stated_last v start steps s l n number low = inr (length steps, number, low, says_last steps s)

-- a step that follows from the others is put behind
pub steps_push : (v : Placed) (start : ℕ) (steps : List Step) (s : Step) → StepsFollow v start steps →
    Derives v.board.rows (IsStated v start steps (length steps)) s.rule s.known → StepsFollow v start (steps ++ s ∷ [])
steps_push v start steps s all last m x h =
    ⊎_elim
    (λ (old : slice_get steps m ≡ Some x).
    derives_more v.board.rows (IsStated v start steps m) (IsStated v start (steps ++ s ∷ []) m)
    (λ (n : ℕ) (k : Known) (g : IsStated v start steps m n k). stated_more v start steps s m m n k (omega arith) g) x.rule x.known (all
    m x old))
    (λ (new : (m ≡ length steps) × (s ≡ x)).
    subst (λ (y : Step). Derives v.board.rows (IsStated v start (steps ++ s ∷ []) m) y.rule y.known) new.1
    (derives_more v.board.rows (IsStated v start steps (length steps)) (IsStated v start (steps ++ s ∷ []) m)
    (λ (n : ℕ) (k : Known) (g : IsStated v start steps (length steps) n k).
    stated_more v start steps s (length steps) m n k (omega (arith, new.0)) g) s.rule s.known last))
    (get_cases steps m x s h)

-- entries that are marked
say_marked : (entries : List Entry) (marks : List Bool) (m : ℕ) (ns is js : List ℕ) → SayEqual (Before entries m) ns is js → AreMarked
    marks ns →
    SayEqual (λ (n : ℕ) (k : Known). Before entries m n k × IsMarked marks n) ns is js
say_marked entries marks m [] [] [] h a = tt
say_marked entries marks m [] [] (j ∷ js) h a = absurd h
say_marked entries marks m [] (i ∷ is) js h a = absurd h
say_marked entries marks m (n ∷ ns) [] js h a = absurd h
say_marked entries marks m (n ∷ ns) (i ∷ is) [] h a = absurd h
say_marked entries marks m (n ∷ ns) (i ∷ is) (j ∷ js) h a = ((h.0, a.0), say_marked entries marks m ns is js h.1 a.1)

pub derives_marked : (rows : List Row) (entries : List Entry) (marks : List Bool) (m : ℕ) (r : Rule) (k : Known) →
    Derives rows (Before entries m) r k → AreMarked marks (numbers_of r) →
    Derives rows (λ (n : ℕ) (x : Known). Before entries m n x × IsMarked marks n) r k
derives_marked rows entries marks m Refl (Equal i j) h a = h
derives_marked rows entries marks m Refl (Unequal i j) h a = absurd h
derives_marked rows entries marks m (Sym n) (Equal i j) h a = (h, a.0)
derives_marked rows entries marks m (Sym n) (Unequal i j) h a = (h, a.0)
derives_marked rows entries marks m (Trans x y) (Equal i j) h a = (h.0, (h.1, a.0), (h.2, a.1.0))
derives_marked rows entries marks m (Trans x y) (Unequal i j) h a = absurd h
derives_marked rows entries marks m (Subst x y) (Equal i j) h a = absurd h
derives_marked rows entries marks m (Subst x y) (Unequal i j) h a = (h.0, (h.1, a.0), (h.2, a.1.0))
derives_marked rows entries marks m Alike (Equal i j) h a = h
derives_marked rows entries marks m Alike (Unequal i j) h a = absurd h
derives_marked rows entries marks m Apart (Equal i j) h a = absurd h
derives_marked rows entries marks m Apart (Unequal i j) h a = h
derives_marked rows entries marks m (Cong ns) (Equal i j) h a =
    (h.0, h.1, h.2, h.3, h.4, say_marked entries marks m ns.items h.0.arguments.items h.1.arguments.items h.5 a)
derives_marked rows entries marks m (Cong ns) (Unequal i j) h a = absurd h
derives_marked rows entries marks m (Hit n) (Equal i j) h a = (h.0, h.1, h.2, (h.3, a.0), h.4)
derives_marked rows entries marks m (Hit n) (Unequal i j) h a = absurd h
derives_marked rows entries marks m (Miss n) (Equal i j) h a = (h.0, h.1, h.2, (h.3, a.0), h.4)
derives_marked rows entries marks m (Miss n) (Unequal i j) h a = absurd h

say_moved : (numbers : List ℕ) (has more : ℕ → Known → Type 0) → ((n x : ℕ) (k : Known) → has n k → IsNumber numbers n x → more x k) →
    (ns xs is js : List ℕ) → AreNumbers numbers ns xs → SayEqual has ns is js → SayEqual more xs is js
say_moved numbers has more move [] [] [] [] a h = tt
say_moved numbers has more move [] [] [] (j ∷ js) a h = absurd h
say_moved numbers has more move [] [] (i ∷ is) js a h = absurd h
say_moved numbers has more move [] (x ∷ xs) is js a h = absurd a
say_moved numbers has more move (n ∷ ns) [] is js a h = absurd a
say_moved numbers has more move (n ∷ ns) (x ∷ xs) [] js a h = absurd h
say_moved numbers has more move (n ∷ ns) (x ∷ xs) (i ∷ is) [] a h = absurd h
say_moved numbers has more move (n ∷ ns) (x ∷ xs) (i ∷ is) (j ∷ js) a h =
    (move n x (Equal i j) h.0 a.0, say_moved numbers has more move ns xs is js a.1 h.1)

pub derives_moved : (rows : List Row) (numbers : List ℕ) (has more : ℕ → Known → Type 0) →
    ((n x : ℕ) (k : Known) → has n k → IsNumber numbers n x → more x k) → (r s : Rule) (k : Known) → IsRenumbered numbers r s →
    Derives rows has r k → Derives rows more s k
derives_moved rows numbers has more move Refl Refl (Equal i j) a h = h
derives_moved rows numbers has more move Refl Refl (Unequal i j) a h = absurd h
derives_moved rows numbers has more move (Sym n) (Sym x) (Equal i j) a h = move n x (Equal j i) h a
derives_moved rows numbers has more move (Sym n) (Sym x) (Unequal i j) a h = move n x (Unequal j i) h a
derives_moved rows numbers has more move (Trans m n) (Trans x y) (Equal i j) a h =
    (h.0, move m x (Equal i h.0) h.1 a.0, move n y (Equal h.0 j) h.2 a.1)
derives_moved rows numbers has more move (Trans m n) (Trans x y) (Unequal i j) a h = absurd h
derives_moved rows numbers has more move (Subst m n) (Subst x y) (Equal i j) a h = absurd h
derives_moved rows numbers has more move (Subst m n) (Subst x y) (Unequal i j) a h =
    (h.0, move m x (Unequal h.0 j) h.1 a.0, move n y (Equal h.0 i) h.2 a.1)
derives_moved rows numbers has more move Alike Alike (Equal i j) a h = h
derives_moved rows numbers has more move Alike Alike (Unequal i j) a h = absurd h
derives_moved rows numbers has more move Apart Apart (Equal i j) a h = absurd h
derives_moved rows numbers has more move Apart Apart (Unequal i j) a h = h
derives_moved rows numbers has more move (Cong ns) (Cong xs) (Equal i j) a h =
    (h.0, h.1, h.2, h.3, h.4, say_moved numbers has more move ns.items xs.items h.0.arguments.items h.1.arguments.items a h.5)
derives_moved rows numbers has more move (Cong ns) (Cong xs) (Unequal i j) a h = absurd h
derives_moved rows numbers has more move (Hit n) (Hit x) (Equal i j) a h =
    (h.0, h.1, h.2, move n x (Equal h.0.index h.0.other) h.3 a, h.4)
derives_moved rows numbers has more move (Hit n) (Hit x) (Unequal i j) a h = absurd h
derives_moved rows numbers has more move (Miss n) (Miss x) (Equal i j) a h =
    (h.0, h.1, h.2, move n x (Unequal h.0.index h.0.other) h.3 a, h.4)
derives_moved rows numbers has more move (Miss n) (Miss x) (Unequal i j) a h = absurd h
derives_moved rows numbers has more move r s k a h = absurd a

-- one number more
pub numbers_push : (numbers ns xs : List ℕ) (n x : ℕ) → AreNumbers numbers ns xs → IsNumber numbers n x → AreNumbers numbers (ns ++ n ∷
    []) (xs ++ x ∷ [])
numbers_push numbers [] [] n x a one = (one, tt)
numbers_push numbers [] (y ∷ xs) n x a one = absurd a
numbers_push numbers (m ∷ ns) [] n x a one = absurd a
numbers_push numbers (m ∷ ns) (y ∷ xs) n x a one = (a.0, numbers_push numbers ns xs n x a.1 one)

-- the numbers of a list, one further
pub numbers_more : (numbers list xs ys : List ℕ) (k x : ℕ) → AreNumbers numbers (take k list) xs → k < length list →
    IsNumber numbers (get_or list k 0) x → ys ≡ xs ++ x ∷ [] → AreNumbers numbers (take (k + 1) list) ys
numbers_more numbers list xs ys k x a within one pushed =
    subst (λ (l : List ℕ). AreNumbers numbers l ys) (sym (take_more list k 0 within))
    (subst (λ (l : List ℕ). AreNumbers numbers (take k list ++ get_or list k 0 ∷ []) l) (sym pushed)
    (numbers_push numbers (take k list) xs (get_or list k 0) x a one))

-- one entry more has its number
draft_next : (v : Placed) (entries : List Entry) (marks : List Bool) (start m : ℕ) (d after : StepsBuilder) (x : ℕ) (k : Known) →
    IsDraft v entries marks start m d → known_at entries m ≡ Some k → StepsFollow v start after.steps.items →
    ((y : ℕ) (q : Known) → IsStated v start d.steps.items (length d.steps.items) y q →
    IsStated v start after.steps.items (length after.steps.items) y q) → IsStated v start after.steps.items (length after.steps.items) x k →
    after.numbers.items ≡ d.numbers.items ++ x ∷ [] → IsDraft v entries marks start (m + 1) after
draft_next v entries marks start m d after x k draft here follow kept last pushed =
    let old = d.numbers.items in
    record {
      count = let l = length-append old (x ∷ []) in let p = ap length pushed in omega (arith, l, p, draft.count);
      follow = follow;
      stated = λ (n : ℕ) (q : Known) (low : n < m + 1) (marked : IsMarked marks n) (known : known_at entries n ≡ Some q).
          subst (λ (l : List ℕ). (y : ℕ) × IsNumber l n y × IsStated v start after.steps.items (length after.steps.items) y q) (sym pushed)
          (⊎_elim
          (λ (less : n < m).
          let h = draft.stated n q less marked known in
          let r : (y : ℕ) × IsNumber (old ++ x ∷ []) n y × IsStated v start after.steps.items (length after.steps.items) y q =
          (h.0, get_kept old n h.0 x h.1, kept h.0 q h.2) in r)
          (λ (same : n ≡ m).
          let number : IsNumber (old ++ x ∷ []) n x =
          subst (λ (l : ℕ). IsNumber (old ++ x ∷ []) l x) (draft.count ∙ sym same) (get_last old x) in
          let fact : k ≡ q = same_Some k q (sym here ∙ ap (known_at entries) (sym same) ∙ known) in
          let r : (y : ℕ) × IsNumber (old ++ x ∷ []) n y × IsStated v start after.steps.items (length after.steps.items) y q =
          (x, number, subst (λ (f : Known). IsStated v start after.steps.items (length after.steps.items) x f) fact last) in r)
          (less_or_same n m low));
    }
  where
    less_or_same : (a b : ℕ) → a < b + 1 → (a < b) ⊎ (a ≡ b)
    less_or_same a b h = grind arith

-- what was given has its own number
given_stated : (v : Placed) (start : ℕ) (steps : List Step) (has : ℕ → Known → Type 0) (fact : ℕ) (k : Known) → Follows v has (Given
    fact) k →
    IsStated v start steps (length steps) fact k
given_stated v start steps has fact (Equal i j) h = inl h.0
given_stated v start steps has fact (Unequal i j) h = inl h.0

-- a marked entry has its number
draft_entry : (v : Placed) (entries : List Entry) (marks : List Bool) (start m : ℕ) (d mid after : StepsBuilder) (x : ℕ) (w : Why) (k : Known) →
    IsDraft v entries marks start m d → known_at entries m ≡ Some k → Follows v (Before entries m) w k → AreMarked marks (numbers_in w) →
    NumbersEntry start d mid x w k → after.steps ≡ mid.steps → after.numbers.items ≡ mid.numbers.items ++ x ∷ [] →
    IsDraft v entries marks start (m + 1) after
draft_entry v entries marks start m d mid after x (Given fact) k draft here follows marked numbers steps pushed =
    let same : d.steps.items ≡ after.steps.items = ap (λ s. s.items) (sym (steps ∙ ap (λ (y : StepsBuilder). y.steps) numbers.1)) in
    draft_next v entries marks start m d after x k draft here (subst (StepsFollow v start) same draft.follow)
    (λ (y : ℕ) (q : Known) (h : IsStated v start d.steps.items (length d.steps.items) y q).
    subst (λ (l : List Step). IsStated v start l (length l) y q) same h)
    (subst (λ (y : ℕ). IsStated v start after.steps.items (length after.steps.items) y k) (sym numbers.0)
    (given_stated v start after.steps.items (Before entries m) fact k follows))
    (pushed ∙ ap (λ (y : StepsBuilder). y.numbers.items ++ x ∷ []) numbers.1)
draft_entry v entries marks start m d mid after x (By r) k draft here follows marked numbers steps pushed =
    let old = d.steps.items in
    let s = numbers.step in
    let has : ℕ → Known → Type 0 = IsStated v start old (length old) in
    let same : old ++ s ∷ [] ≡ after.steps.items = sym (ap (λ l. l.items) steps ∙ numbers.steps) in
    let derived : Derives v.board.rows has s.rule k =
    derives_moved v.board.rows d.numbers.items (λ (n : ℕ) (q : Known). Before entries m n q × IsMarked marks n) has
    (λ (n y : ℕ) (q : Known) (h : Before entries m n q × IsMarked marks n) (number : IsNumber d.numbers.items n y).
    let found = draft.stated n q h.0.0 h.1 h.0.1 in
    subst (λ (z : ℕ). has z q) (same_Some found.0 y (sym found.1 ∙ number)) found.2)
    r s.rule k numbers.rule (derives_marked v.board.rows entries marks m r k follows marked) in
    draft_next v entries marks start m d after x k draft here
    (subst (StepsFollow v start) same
    (steps_push v start old s draft.follow (subst (λ (q : Known). Derives v.board.rows has s.rule q) (sym numbers.told) derived)))
    (λ (y : ℕ) (q : Known) (h : has y q).
    subst (λ (l : List Step). IsStated v start l (length l) y q) same
    (stated_more v start old s (length old) (length (old ++ s ∷ [])) y q (let l = length-append old (s ∷ []) in omega arith) h))
    (subst (λ (q : Known). IsStated v start after.steps.items (length after.steps.items) x q) numbers.told
    (subst (λ (l : List Step). IsStated v start l (length l) x s.known) same
    (stated_last v start old s (length (old ++ s ∷ [])) x numbers.number (let l = length-append old (s ∷ []) in omega arith))))
    (pushed ∙ ap (λ l. l.items ++ x ∷ []) numbers.numbers)

-- a marked entry of a log has its number, where the marks are closed
pub draft_marked : (v : Placed) (entries : List Entry) (marks : List Bool) (start m : ℕ) (d mid after : StepsBuilder) (x : ℕ) (e : Entry) →
    IsDraft v entries marks start m d → slice_get entries m ≡ Some e → Follows v (Before entries m) e.why e.known →
    AreClosedFrom entries marks 0 → IsMarked marks m → NumbersEntry start d mid x e.why e.known → after.steps ≡ mid.steps →
    after.numbers.items ≡ mid.numbers.items ++ x ∷ [] → IsDraft v entries marks start (m + 1) after
draft_marked v entries marks start m d mid after x e draft here follows closed marked numbers steps pushed =
    draft_entry v entries marks start m d mid after x e.why e.known draft (known_of entries m e here) follows
    (closed m e (omega arith) here marked) numbers steps pushed
  where
    known_of : (xs : List Entry) (n : ℕ) (y : Entry) → slice_get xs n ≡ Some y → known_at xs n ≡ Some y.known
    known_of xs n y h = ap (λ (o : Option Entry). elim o [ None ↦ None | Some z ↦ Some z.known ]) h

-- the last two steps
pub finished : (v : Placed) (start : ℕ) (steps all : List Step) (x y n i j a b c d : ℕ) → StepsFollow v start steps →
    IsStated v start steps (length steps) x (Equal a b) → IsStated v start steps (length steps) y (Equal c d) → b ≡ d → a ≡ i → c ≡ j →
    n ≡ start + length steps →
    all ≡ (steps ++ record { rule = Sym y; known = Equal d c } ∷ []) ++ record { rule = Trans x n; known = Equal a c } ∷ [] →
    ExplainPlaces v start all i j
finished v start steps all x y n i j a b c d follow first second label left right number pushed =
    let one : Step = record { rule = Sym y; known = Equal d c } in
    let two : Step = record { rule = Trans x n; known = Equal a c } in
    let longer : length (steps ++ one ∷ []) ≡ length steps + 1 = length-append steps (one ∷ []) in
    let middle : StepsFollow v start (steps ++ one ∷ []) = steps_push v start steps one follow second in
    let has : ℕ → Known → Type 0 = IsStated v start (steps ++ one ∷ []) (length (steps ++ one ∷ [])) in
    let x_has : has x (Equal a b) = stated_more v start steps one (length steps) (length (steps ++ one ∷ [])) x (Equal a b) (omega
    arith) first in
    let n_has : has n (Equal d c) = stated_last v start steps one (length (steps ++ one ∷ [])) n number (omega arith) in
    record {
      follow =
          subst (StepsFollow v start) (sym pushed)
          (steps_push v start (steps ++ one ∷ []) two middle (b, x_has, subst (λ (z : ℕ). has n (Equal z c)) (sym label) n_has));
      before = steps ++ one ∷ [];
      last = two;
      ends = pushed;
      told = ap (λ (z : ℕ). Equal z c) left ∙ ap (λ (z : ℕ). Equal i z) right;
    }

-- the number that was read
pub number_read : (numbers : List ℕ) (n x y : ℕ) → IsNumber numbers n y → x ≡ get_or numbers n x → y ≡ x
number_read numbers n x y h read = sym (read ∙ get_or_from_slice_get numbers n y x h)

-- the last step, where the first place is the label
pub finished_turned : (v : Placed) (start : ℕ) (steps all : List Step) (y i j c d : ℕ) → StepsFollow v start steps →
    IsStated v start steps (length steps) y (Equal c d) → d ≡ i → c ≡ j → all ≡ steps ++ record { rule = Sym y; known = Equal d c } ∷ [] →
    ExplainPlaces v start all i j
finished_turned v start steps all y i j c d follow second left right pushed =
    let one : Step = record { rule = Sym y; known = Equal d c } in
    record {
      follow = subst (StepsFollow v start) (sym pushed) (steps_push v start steps one follow second);
      before = steps;
      last = one;
      ends = pushed;
      told = ap (λ (z : ℕ). Equal z c) left ∙ ap (λ (z : ℕ). Equal i z) right;
    }
