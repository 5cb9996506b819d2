-- Classes that begin with copies of others stay sound.
use Rattle.sm_cc.proofs.Imports.{◌≡◌, ℕ, ◌+◌, ◌<◌, ◌≤◌, Some, None, Option, Bool, true, List, [], ◌∷◌, ◌++◌, length, map, ℤ, slice_get, refl, sym, ap, subst, ◌∙◌, ⊎_elim, arith, not, length-map, slice_get_within, slice_get-map, same_Some, false≢true, cases_lt, int_eq, if_there, rows_pass, shapes_pass, one_head, Placed, HasElement, SayEqual, Derives, Follows, Before, AllFollow, known_at, Rule, Refl, Sym, Subst, Alike, Cong, Why, IsSound, AllRooted, Noted, GivenHere, pair_of, fact_of, placed_of, placed_with, AreAllGiven, IsCopy, AreKept, AreGrown, IsSameRule, IsSameWhy, AreEntriesKept, get_in_first, get_below, get_last}
use Rattle.std.proofs.Common.{length-append}
use Rattle.std.specs.Option.{option_map}
use Rattle.sm_cc.specs.declared.log.Why.TheVariants as why
use Rattle.sm_cc.specs.Rows.{Row, Element}
use Rattle.sm_cc.specs.Log.{Known, Equal, Unequal, Trans, Apart, Hit, Miss, Entry}
use Rattle.sm_cc.specs.Closures.{Closure, Equation, Given}
use Rattle.sm_cc.proofs.CausesLemmas.{given_here}
use Rattle.sm_cc.proofs.LogLemmas.{get_kept, get_cases, known_kept, known_last, known_within, follows_more, all_follow_more}

-- the entry that a place equals itself
abbrev pub own_entry : ℕ → Entry
own_entry m = record { why = why.By Refl; known = Equal m m }

-- the first elements of a list have likes at their places in another
pub record AreLike {A : Type 0} (like : A → A → Type 0) (n : ℕ) (old new : List A) : Type 0 where
  pub count : length new ≡ n
  pub each : (k : ℕ) (x : A) → k < n → slice_get old k ≡ Some x → (y : A) × (slice_get new k ≡ Some y) × like x y

-- one more
pub like_more : {A : Type 0} (like : A → A → Type 0) (n : ℕ) (old new longer : List A) (x y : A) → AreLike like n old new →
    slice_get old n ≡ Some x → like x y → longer ≡ new ++ y ∷ [] → AreLike like (n + 1) old longer
like_more {A} like n old new longer x y before here alike pushed =
    subst (λ (l : List A). AreLike like (n + 1) old l) (sym pushed)
    (record {
      count = let l = length-append new (y ∷ []) in let m = before.count in omega arith;
      each = λ (k : ℕ) (z : A) (within : k < n + 1) (there : slice_get old k ≡ Some z).
          ⊎_elim
          (λ (less : k < n).
          let p = before.each k z less there in
          (p.0, get_kept new k p.0 y p.1, p.2))
          (λ (above : n ≤ k).
          let e : k ≡ n = omega arith in
          let same : x ≡ z = same_Some x z (sym here ∙ ap (slice_get old) (sym e) ∙ there) in (
            y,
            subst (λ (m : ℕ). slice_get (new ++ y ∷ []) m ≡ Some y) (before.count ∙ sym e) (get_last new y),
            subst (λ (w : A). like w y) same alike,
          ))
          (cases_lt k n);
    })

-- all of them
pub like_all : {A : Type 0} (like : A → A → Type 0) (n : ℕ) (old new : List A) → AreLike like n old new → length old ≤ n →
    (k : ℕ) (x : A) → slice_get old k ≡ Some x → (y : A) × (slice_get new k ≡ Some y) × like x y
like_all like n old new all short k x here = let within = slice_get_within old k x here in all.each k x (omega arith) here

-- rows with more behind them have a copy of each
pub grown_kept : (old more new : List Row) → AreGrown old more new → AreKept old new
grown_kept old more new g i r h =
    let copy = g.kept i r h in
    (copy.0, subst (λ l. slice_get l i ≡ Some copy.0) (sym g.all) (get_in_first g.copies more i copy.0 copy.1), copy.2)

-- a place is there still
pub place_there : (old new : List Row) → AreKept old new → (i : ℕ) → i < length old → i < length new
place_there old new kept i h =
    let r = get_below old i h in
    let copy = kept i r.0 r.1 in
    slice_get_within new i copy.0 copy.1

-- a test passes of copies where it says of them what it said
pass_in : (old new : List Row) → AreKept old new → (test : Row → Row → Bool) →
    ((r s p q : Row) → IsCopy r p → IsCopy s q → test p q ≡ test r s) → (i j : ℕ) (o p : Option Row) →
    slice_get old i ≡ o → slice_get old j ≡ p → if_there o (λ (r : Row). if_there p (λ (s : Row). test r s)) ≡ true →
    rows_pass new i j test ≡ true
pass_in old new kept test same i j None p first second h = absurd (false≢true h)
pass_in old new kept test same i j (Some r) None first second h = absurd (false≢true h)
pass_in old new kept test same i j (Some r) (Some s) first second h =
    let a = kept i r first in
    let b = kept j s second in
    ap (λ (o : Option Row). if_there o (λ (x : Row). if_there (slice_get new j) (λ (y : Row). test x y))) a.1
    ∙ ap (λ (o : Option Row). if_there o (λ (y : Row). test a.0 y)) b.1
    ∙ same r s a.0 b.0 a.2 b.2 ∙ h

pass_kept : (old new : List Row) → AreKept old new → (test : Row → Row → Bool) →
    ((r s p q : Row) → IsCopy r p → IsCopy s q → test p q ≡ test r s) → (i j : ℕ) → rows_pass old i j test ≡ true →
    rows_pass new i j test ≡ true
pass_kept old new kept test same i j h = pass_in old new kept test same i j (slice_get old i) (slice_get old j) refl refl h

-- forms are compared alike
pub shapes_same : (test : ℤ → ℤ → Bool) (r s p q : Row) → IsCopy r p → IsCopy s q → shapes_pass p q test ≡ shapes_pass r s test
shapes_same test r s p q a b =
    ap (λ o. shapes_pass (record p { shape = o }) q test) a.shape ∙ ap (λ o. shapes_pass r (record q { shape = o }) test) b.shape

-- heads too
pub head_same : (r s p q : Row) → IsCopy r p → IsCopy s q → one_head p q ≡ one_head r s
head_same r s p q a b = ap (λ o. one_head (record p { head = o }) q) a.head ∙ ap (λ o. one_head r (record q { head = o })) b.head

-- an element is kept
pub element_there : (old new : List Row) → AreKept old new → (i : ℕ) (e : Element) → HasElement old i e → HasElement new i e
element_there old new kept i e h = let copy = kept i h.0 h.1 in (copy.0, copy.1, copy.2.element ∙ h.2)

-- what a rule gives of rows it gives of copies
derives_kept : (old new : List Row) (has : ℕ → Known → Type 0) → AreKept old new → (r : Rule) (k : Known) → Derives old has r k →
    Derives new has r k
derives_kept old new has kept Refl (Equal i j) h = (h.0, place_there old new kept i h.1)
derives_kept old new has kept Refl (Unequal i j) h = absurd h
derives_kept old new has kept (Sym n) (Equal i j) h = h
derives_kept old new has kept (Sym n) (Unequal i j) h = h
derives_kept old new has kept (Trans m n) (Equal i j) h = h
derives_kept old new has kept (Trans m n) (Unequal i j) h = absurd h
derives_kept old new has kept (Subst m n) (Equal i j) h = absurd h
derives_kept old new has kept (Subst m n) (Unequal i j) h = h
derives_kept old new has kept Alike (Equal i j) h =
    pass_kept old new kept (λ r s. shapes_pass r s int_eq) (shapes_same int_eq) i j h
derives_kept old new has kept Alike (Unequal i j) h = absurd h
derives_kept old new has kept Apart (Equal i j) h = absurd h
derives_kept old new has kept Apart (Unequal i j) h =
    pass_kept old new kept (λ r s. shapes_pass r s (λ y z. not (int_eq y z))) (shapes_same (λ y z. not (int_eq y z))) i j h
derives_kept old new has kept (Cong ns) (Equal i j) h =
    let a = kept i h.0 h.2 in
    let b = kept j h.1 h.3 in (
      a.0,
      b.0,
      a.1,
      b.1,
      head_same h.0 h.1 a.0 b.0 a.2 b.2 ∙ h.4,
      subst (λ (is : List ℕ). SayEqual has ns.items is b.0.arguments.items) (sym a.2.arguments)
          (subst (λ (js : List ℕ). SayEqual has ns.items h.0.arguments.items js) (sym b.2.arguments) h.5),
    )
derives_kept old new has kept (Cong ns) (Unequal i j) h = absurd h
derives_kept old new has kept (Hit n) (Equal i j) h =
    (h.0, element_there old new kept i h.0 h.1, place_there old new kept j h.2, h.3, h.4)
derives_kept old new has kept (Hit n) (Unequal i j) h = absurd h
derives_kept old new has kept (Miss n) (Equal i j) h =
    (h.0, element_there old new kept i h.0 h.1, place_there old new kept j h.2, h.3, h.4)
derives_kept old new has kept (Miss n) (Unequal i j) h = absurd h

-- a rule and the same one give the same
same_derives : (rows : List Row) (has : ℕ → Known → Type 0) (r s : Rule) (k : Known) → IsSameRule r s → Derives rows has r k →
    Derives rows has s k
same_derives rows has Refl s k same h = subst (λ (x : Rule). Derives rows has x k) (sym same) h
same_derives rows has (Sym n) s k same h = subst (λ (x : Rule). Derives rows has x k) (sym same) h
same_derives rows has (Trans m n) s k same h = subst (λ (x : Rule). Derives rows has x k) (sym same) h
same_derives rows has (Subst m n) s k same h = subst (λ (x : Rule). Derives rows has x k) (sym same) h
same_derives rows has Alike s k same h = subst (λ (x : Rule). Derives rows has x k) (sym same) h
same_derives rows has Apart s k same h = subst (λ (x : Rule). Derives rows has x k) (sym same) h
same_derives rows has (Hit n) s k same h = subst (λ (x : Rule). Derives rows has x k) (sym same) h
same_derives rows has (Miss n) s k same h = subst (λ (x : Rule). Derives rows has x k) (sym same) h
same_derives rows has (Cong ns) (Cong ms) (Equal i j) same h = (
  h.0,
  h.1,
  h.2,
  h.3,
  h.4,
  subst (λ (l : List ℕ). SayEqual has l h.0.arguments.items h.1.arguments.items) (sym same) h.5,
)
same_derives rows has (Cong ns) (Cong ms) (Unequal i j) same h = absurd h
same_derives rows has (Cong ns) Refl k same h = absurd (let p : Refl ≡ Cong ns = same in cc)
same_derives rows has (Cong ns) (Sym n) k same h = absurd (let p : Sym n ≡ Cong ns = same in cc)
same_derives rows has (Cong ns) (Trans m n) k same h = absurd (let p : Trans m n ≡ Cong ns = same in cc)
same_derives rows has (Cong ns) (Subst m n) k same h = absurd (let p : Subst m n ≡ Cong ns = same in cc)
same_derives rows has (Cong ns) Alike k same h = absurd (let p : Alike ≡ Cong ns = same in cc)
same_derives rows has (Cong ns) Apart k same h = absurd (let p : Apart ≡ Cong ns = same in cc)
same_derives rows has (Cong ns) (Hit n) k same h = absurd (let p : Hit n ≡ Cong ns = same in cc)
same_derives rows has (Cong ns) (Miss n) k same h = absurd (let p : Miss n ≡ Cong ns = same in cc)

-- a reason and the same one give the same
same_follows : (v : Placed) (has : ℕ → Known → Type 0) (w y : Why) (k : Known) → IsSameWhy w y → Follows v has w k → Follows v has y k
same_follows v has (why.Given fact) y k same h = subst (λ (x : Why). Follows v has x k) (sym same) h
same_follows v has (why.By r) (why.By s) k same h = same_derives v.board.rows has r s k same h
same_follows v has (why.By r) (why.Given fact) k same h = absurd (let p : why.Given fact ≡ why.By r = same in cc)

-- a given pair is given still
given_all : (old new : List Given) → AreAllGiven old new → (fact i j : ℕ) → GivenHere old fact i j → GivenHere new fact i j
given_all old new all fact i j h =
    let n = h.0 in
    let within = slice_get_within (map pair_of old) n (i, j) h.1 in
    let g = get_below old n (omega (arith, within, length-map old pair_of)) in
    let pair : pair_of g.0 ≡ (i, j) =
    same_Some (pair_of g.0) (i, j) (sym (ap (option_map pair_of) g.1) ∙ sym (slice_get-map pair_of old n) ∙ h.1) in
    let number : fact_of g.0 ≡ fact =
    same_Some (fact_of g.0) fact (sym (ap (option_map fact_of) g.1) ∙ sym (slice_get-map fact_of old n) ∙ h.2) in
    let there = all n g.0 g.1 in
    subst (λ (f : ℕ). GivenHere new f i j) number
    (given_here new there.0 g.0 i j there.1 (ap (λ (p : ℕ × ℕ). p.0) pair) (ap (λ (p : ℕ × ℕ). p.1) pair))

-- classes have copies of the rows of others, and all that is given of those
pub record IsOver (old : Closure) (rows : List Row) (equal unequal : List Given) : Type 0 where
  pub kept : AreKept old.rows.items rows
  pub all_equal : AreAllGiven old.equal.items equal
  pub all_unequal : AreAllGiven old.unequal.items unequal

-- what follows in the old ones follows in these
follows_over : (old : Closure) (rows : List Row) (equal unequal : List Given) (has : ℕ → Known → Type 0) → IsOver old rows equal unequal →
    (w : Why) (k : Known) → Follows (placed_of old) has w k → Follows (placed_with rows equal unequal) has w k
follows_over old rows equal unequal has over (why.Given fact) (Equal i j) h = (
  given_all old.equal.items equal over.all_equal fact i j h.0,
  (place_there old.rows.items rows over.kept i h.1.0, place_there old.rows.items rows over.kept j h.1.1),
)
follows_over old rows equal unequal has over (why.Given fact) (Unequal i j) h = (
  given_all old.unequal.items unequal over.all_unequal fact i j h.0,
  (place_there old.rows.items rows over.kept i h.1.0, place_there old.rows.items rows over.kept j h.1.1),
)
follows_over old rows equal unequal has over (why.By r) k h = derives_kept old.rows.items rows has over.kept r k h

-- a copy of an entry says what the entry says
known_copied : (old copies : List Entry) → AreEntriesKept old copies → (n : ℕ) (k : Known) → known_at old n ≡ Some k →
    known_at copies n ≡ Some k
known_copied old copies kept n k h =
    let e = get_below old n (known_within old n k h) in
    let f = kept n e.0 e.1 in
    ap (option_map (λ (x : Entry). x.known)) f.1 ∙ ap Some f.2.known ∙ sym (ap (option_map (λ (x : Entry). x.known)) e.1) ∙ h

-- copies of entries follow from one another
pub copied_follow : (old : Closure) (rows : List Row) (equal unequal : List Given) (copies : List Entry) → IsSound old →
    IsOver old rows equal unequal → length copies ≡ length old.entries.items → AreEntriesKept old.entries.items copies →
    AllFollow (placed_with rows equal unequal) copies
copied_follow old rows equal unequal copies sound over count kept m f here =
    let log = old.entries.items in
    let v = placed_with rows equal unequal in
    let within = slice_get_within copies m f here in
    let e = get_below log m (omega (arith, within, count)) in
    let copy = kept m e.0 e.1 in
    let same : copy.0 ≡ f = same_Some copy.0 f (sym copy.1 ∙ here) in
    let followed : Follows v (Before log m) e.0.why e.0.known =
    follows_over old rows equal unequal (Before log m) over e.0.why e.0.known (sound.follow m e.0 e.1) in
    let known : Follows v (Before copies m) e.0.why e.0.known =
    follows_more v (Before log m) (Before copies m) (λ n k b. (b.0, known_copied log copies kept n k b.1)) e.0.why e.0.known followed in
    let copied : Follows v (Before copies m) copy.0.why e.0.known =
    same_follows v (Before copies m) e.0.why copy.0.why e.0.known copy.2.reason known in
    subst (λ (x : Entry). Follows v (Before copies m) x.why x.known) same
    (subst (λ (k : Known). Follows v (Before copies m) copy.0.why k) (sym copy.2.known) copied)

-- copies of a log's entries say what labels places have
pub copied_rooted : (log copies : List Entry) (roots : List Equation) → AreEntriesKept log copies → AllRooted log roots →
    AllRooted copies roots
copied_rooted log copies roots kept rooted i r h =
    let root = rooted i r h in
    (root.0, known_copied log copies kept r.entry (Equal r.left r.right) root.1)

-- one more place has its own entry
pub own_follow : (rows : List Row) (equal unequal : List Given) (log : List Entry) (k : ℕ) →
    AllFollow (placed_with rows equal unequal) log → k < length rows → AllFollow (placed_with rows equal unequal) (log ++ own_entry k ∷ [])
own_follow rows equal unequal log k all within = all_follow_more (placed_with rows equal unequal) log (own_entry k) all (refl, within)

-- one more place has its own root, and the other places keep theirs
pub own_rooted : (log : List Entry) (roots : List Equation) (k : ℕ) (r : Equation) → AllRooted log roots → k ≡ length roots → r.left ≡ k →
    r.right ≡ k → r.entry ≡ length log → AllRooted (log ++ own_entry k ∷ []) (roots ++ r ∷ [])
own_rooted log roots k r rooted count left right entry i x h =
    ⊎_elim
    (λ (old : slice_get roots i ≡ Some x).
    ((rooted i x old).0, known_kept log (own_entry k) x.entry (Equal x.left x.right) (rooted i x old).1))
    (λ (p : (i ≡ length roots) × (r ≡ x)).
    subst (λ (y : Equation). (y.left ≡ i) × Noted (log ++ own_entry k ∷ []) y.entry (Equal y.left y.right)) p.1 (
      left ∙ count ∙ sym p.0,
      ap (known_at (log ++ own_entry k ∷ [])) entry ∙ known_last log (own_entry k)
          ∙ ap (λ (y : ℕ). Some (Equal y k)) (sym left) ∙ ap (λ (y : ℕ). Some (Equal r.left y)) (sym right),
    ))
    (get_cases roots i x r h)
