-- What elements that are read were before: round after round fewer writes stand under what is read, so
-- the rounds come to an end, and more of them change nothing.
use Rattle.sm_list.proofs.Imports.{◌≡◌, ℕ, zero, suc, ◌+◌, ◌-◌, ◌<◌, ◌≤◌, max, Bool, true, false, ◌||◌, Option, Some, None, List, [], ◌∷◌, ◌++◌, map, length, take, drop, refl, sym, ap, ◌∙◌, subst, arith, list_any, append-nil, append_assoc, length-append, take-append-drop, take-append_seam, drop-append_seam, Tree, Lit, Start, Havoc, Slot, Cell, Read, Write, Neg, Add, Sub, Mul, Fun, same_tree, same_tree_is, put, is_among, greatest_of, writes_on, put_if, read_before, with_reads, with_all_reads, AllAmong, IsClosed, AllOf, same_itself, among-right, put_there, put_new, among_put, kept_put}

-- how many writes stand on one another in the array of which an element is read
abbrev pub reads_on : Tree → ℕ
reads_on (Lit z) = 0
reads_on (Start x) = 0
reads_on (Havoc k c x) = 0
reads_on (Slot c x) = 0
reads_on Cell = 0
reads_on (Read a i) = writes_on a
reads_on (Write a i e) = 0
reads_on (Neg t) = 0
reads_on (Add t u) = 0
reads_on (Sub t u) = 0
reads_on (Mul t u) = 0
reads_on (Fun c x args) = 0

-- what was there before is read of one write less
read_less : (t r : Tree) → read_before t ≡ Some r → reads_on t ≡ suc (reads_on r)
read_less (Read (Write a j e) i) r h = let same : Read a i ≡ r = cc in ap (λ (u : Tree). suc (reads_on u)) same
read_less t r h = absurd cc

-- so where no write is left, nothing is
read_none : (t : Tree) → reads_on t < 1 → read_before t ≡ None
read_none t h = by (read_before t) refl
  where
    by : (o : Option Tree) → read_before t ≡ o → o ≡ None
    by None e = refl
    by (Some r) e = let less = read_less t r e in absurd (omega arith)

-- what was read before is among terms, where there is such
abbrev pub HasRead : List Tree → Option Tree → Type 0
HasRead seen None = Unit {0}
HasRead seen (Some r) = is_among seen r ≡ true

-- for each term of a list, what was read before is among terms, where there is such
abbrev pub AllRead : List Tree → List Tree → Type 0
AllRead seen ts = AllOf (λ (t : Tree). HasRead seen (read_before t)) ts

-- each is read of fewer writes than so many
abbrev pub AreLow : ℕ → List Tree → Type 0
AreLow m ts = AllOf (λ (t : Tree). reads_on t < m) ts

all_of-append : (P : Tree → Type 0) (ts us : List Tree) → AllOf P ts → AllOf P us → AllOf P (ts ++ us)
all_of-append P [] us h k = k
all_of-append P (t ∷ ts) us h k = (h.0, all_of-append P ts us h.1 k)

-- what is there changes nothing
same_put_if : (o : Option Tree) (seen : List Tree) → HasRead seen o → put_if o seen ≡ seen
same_put_if None seen h = refl
same_put_if (Some r) seen h = put_there r seen h

pub same_reads : (ts seen : List Tree) → AllRead seen ts → with_reads ts seen ≡ seen
same_reads [] seen h = refl
same_reads (t ∷ ts) seen h = ap (with_reads ts) (same_put_if (read_before t) seen h.0) ∙ same_reads ts seen h.1

-- what was there stays
pub kept_put_if : (o : Option Tree) (seen : List Tree) (u : Tree) → is_among seen u ≡ true → is_among (put_if o seen) u ≡ true
kept_put_if None seen u h = h
kept_put_if (Some r) seen u h = kept_put r seen u h

pub kept_with_reads : (ts seen : List Tree) (u : Tree) → is_among seen u ≡ true → is_among (with_reads ts seen) u ≡ true
kept_with_reads [] seen u h = h
kept_with_reads (t ∷ ts) seen u h = kept_with_reads ts (put_if (read_before t) seen) u (kept_put_if (read_before t) seen u h)

-- what was put is there
has_put_if : (o : Option Tree) (seen : List Tree) → HasRead (put_if o seen) o
has_put_if None seen = tt
has_put_if (Some r) seen = among_put r seen

has_kept : (seen later : List Tree) → ((u : Tree) → is_among seen u ≡ true → is_among later u ≡ true) → (o : Option Tree) → HasRead seen o → HasRead later o
has_kept seen later more None h = tt
has_kept seen later more (Some r) h = more r h

all_read_kept : (seen later : List Tree) → ((u : Tree) → is_among seen u ≡ true → is_among later u ≡ true) → (ts : List Tree) → AllRead seen ts → AllRead later ts
all_read_kept seen later more [] h = tt
all_read_kept seen later more (t ∷ ts) h = (has_kept seen later more (read_before t) h.0, all_read_kept seen later more ts h.1)

pub all_read_after : (ts seen : List Tree) → AllRead (with_reads ts seen) ts
all_read_after [] seen = tt
all_read_after (t ∷ ts) seen =
    let new = put_if (read_before t) seen in
    (has_kept new (with_reads ts new) (kept_with_reads ts new) (read_before t) (has_put_if (read_before t) seen), all_read_after ts new)

reads-append : (ts us seen : List Tree) → with_reads (ts ++ us) seen ≡ with_reads us (with_reads ts seen)
reads-append [] us seen = refl
reads-append (t ∷ ts) us seen = reads-append ts us (put_if (read_before t) seen)

-- terms are put behind others, each read of fewer writes than so many
pub record Grown (seen new : List Tree) (m : ℕ) : Type 0 where
  pub more : List Tree
  pub is : new ≡ seen ++ more
  pub low : AreLow m more

pub grown_put_if : (t : Tree) (seen : List Tree) (m : ℕ) → reads_on t < suc m → Grown seen (put_if (read_before t) seen) m
grown_put_if t seen m h = by (read_before t) refl
  where
    put_one : (r : Tree) → reads_on r < m → (b : Bool) → is_among seen r ≡ b → Grown seen (put r seen) m
    put_one r low true e = record { more = []; is = put_there r seen e ∙ sym (append-nil seen); low = tt }
    put_one r low false e = record { more = r ∷ []; is = put_new r seen e; low = (low, tt) }

    by : (o : Option Tree) → read_before t ≡ o → Grown seen (put_if o seen) m
    by None e = record { more = []; is = sym (append-nil seen); low = tt }
    by (Some r) e = let less = read_less t r e in put_one r (omega arith) (is_among seen r) refl

pub grown_reads : (ts seen : List Tree) (m : ℕ) → AreLow (suc m) ts → Grown seen (with_reads ts seen) m
grown_reads [] seen m h = record { more = []; is = sym (append-nil seen); low = tt }
grown_reads (t ∷ ts) seen m h =
    let first = grown_put_if t seen m h.0 in
    let rest = grown_reads ts (put_if (read_before t) seen) m h.1 in
    record {
      more = first.more ++ rest.more;
      is = rest.is ∙ ap (λ (us : List Tree). us ++ rest.more) first.is ∙ append_assoc seen first.more rest.more;
      low = all_of-append (λ (t : Tree). reads_on t < m) first.more rest.more first.low rest.low;
    }

-- nothing is left to read
abbrev pub IsSettled : List Tree → Type 0
IsSettled seen = with_reads seen seen ≡ seen

-- where the first are done, the others alone are read
pub round_is : (first rest : List Tree) → AllRead (first ++ rest) first → with_reads (first ++ rest) (first ++ rest) ≡ with_reads rest (first ++ rest)
round_is first rest h = reads-append first rest (first ++ rest) ∙ ap (with_reads rest) (same_reads first (first ++ rest) h)

-- what was read before is there for all, after a round
round_done : (first rest : List Tree) → AllRead (first ++ rest) first → AllRead (with_reads rest (first ++ rest)) (first ++ rest)
round_done first rest h =
    let all = first ++ rest in
    let new = with_reads rest all in
    all_of-append (λ (t : Tree). HasRead new (read_before t)) first rest
    (all_read_kept all new (kept_with_reads rest all) first h) (all_read_after rest all)

low_none : (seen ts : List Tree) → AreLow 1 ts → AllRead seen ts
low_none seen [] h = tt
low_none seen (t ∷ ts) h = (subst (HasRead seen) (sym (read_none t h.0)) tt, low_none seen ts h.1)

-- so many rounds as there are writes are enough
pub settles : (n : ℕ) (first rest : List Tree) → AllRead (first ++ rest) first → AreLow (suc n) rest → IsSettled (with_all_reads n (first ++ rest))
settles zero first rest h low =
    let all = first ++ rest in
    same_reads all all (all_of-append (λ (t : Tree). HasRead all (read_before t)) first rest h (low_none all rest low))
settles (suc n) first rest h low =
    let all = first ++ rest in
    let new = with_reads rest all in
    let grown = grown_reads rest all (suc n) low in
    let done : AllRead (all ++ grown.more) all = subst (λ (us : List Tree). AllRead us all) grown.is (round_done first rest h) in
    let same : with_reads all all ≡ all ++ grown.more = round_is first rest h ∙ grown.is in
    subst (λ (us : List Tree). IsSettled (with_all_reads n us)) (sym same) (settles n all grown.more done grown.low)

-- one round more
pub rounds_next : (r : ℕ) (seen : List Tree) →
    with_all_reads (suc r) seen ≡ with_reads (with_all_reads r seen) (with_all_reads r seen)
rounds_next zero seen = refl
rounds_next (suc r) seen = rounds_next r (with_reads seen seen)

settled_stays : (n : ℕ) (seen : List Tree) → IsSettled seen → with_all_reads n seen ≡ seen
settled_stays zero seen h = refl
settled_stays (suc n) seen h = ap (with_all_reads n) h ∙ settled_stays n seen h

rounds_add : (m n : ℕ) (seen : List Tree) → with_all_reads (m + n) seen ≡ with_all_reads n (with_all_reads m seen)
rounds_add zero n seen = let same : 0 + n ≡ n = omega arith in ap (λ (k : ℕ). with_all_reads k seen) same
rounds_add (suc m) n seen =
    let same : suc m + n ≡ suc (m + n) = omega arith in
    ap (λ (k : ℕ). with_all_reads k seen) same ∙ rounds_add m n (with_reads seen seen)

settled_together : (m n : ℕ) (seen : List Tree) → IsSettled (with_all_reads m seen) → IsSettled (with_all_reads n seen) →
    with_all_reads m seen ≡ with_all_reads n seen
settled_together m n seen h k =
    let same : m + n ≡ n + m = omega arith in
    sym (settled_stays n (with_all_reads m seen) h) ∙ sym (rounds_add m n seen) ∙ ap (λ (k : ℕ). with_all_reads k seen) same
    ∙ rounds_add n m seen ∙ settled_stays m (with_all_reads n seen) k

-- terms with all their arguments: what is read is of no more writes than the most of a term
among_bound : (seen : List Tree) (a : Tree) → is_among seen a ≡ true → writes_on a ≤ greatest_of (map writes_on seen)
among_bound [] a h = absurd cc
among_bound (t ∷ ts) a h = by (same_tree a t) refl (among_bound ts a)
  where
    by : (b : Bool) → same_tree a t ≡ b → (is_among ts a ≡ true → writes_on a ≤ greatest_of (map writes_on ts)) →
        writes_on a ≤ max (writes_on t) (greatest_of (map writes_on ts))
    by true e rest = let same : writes_on a ≡ writes_on t = ap writes_on ((same_tree_is a t).0 e) in omega arith
    by false e rest =
        let less = rest (sym (ap (λ (b : Bool). b || list_any (same_tree a) ts) e) ∙ h) in omega arith

low_one : (seen : List Tree) → IsClosed seen → (t : Tree) → is_among seen t ≡ true → reads_on t < suc (greatest_of (map writes_on seen))
low_one seen closed (Read a i) h = let bound = among_bound seen a (closed (Read a i) h).0 in omega arith
low_one seen closed t h = omega arith

low_closed : (seen : List Tree) → IsClosed seen → (ts : List Tree) → AllAmong seen ts → AreLow (suc (greatest_of (map writes_on seen))) ts
low_closed seen closed [] h = tt
low_closed seen closed (t ∷ ts) h = (low_one seen closed t h.0, low_closed seen closed ts h.1)

all_among_more : (t : Tree) (seen ts : List Tree) → AllAmong seen ts → AllAmong (t ∷ seen) ts
all_among_more t seen [] h = tt
all_among_more t seen (u ∷ ts) h = (among-right (t ∷ []) seen u h.0, all_among_more t seen ts h.1)

pub all_themselves : (ts : List Tree) → AllAmong ts ts
all_themselves [] = tt
all_themselves (t ∷ ts) = (ap (λ (b : Bool). b || list_any (same_tree t) ts) (same_itself t), all_among_more t ts ts (all_themselves ts))

-- rounds after which nothing is left make what so many rounds make as writes stand on one another
pub rounds_end : (r : ℕ) (seen : List Tree) → IsClosed seen → IsSettled (with_all_reads r seen) →
    with_all_reads r seen ≡ with_all_reads (greatest_of (map writes_on seen)) seen
rounds_end r seen closed settled =
    let n = greatest_of (map writes_on seen) in
    settled_together r n seen settled (settles n [] seen tt (low_closed seen closed seen (all_themselves seen)))

-- one more than the most writes of which something is read, 0 of no terms
abbrev pub rank_of : List Tree → ℕ
rank_of ts = greatest_of (map (λ (t : Tree). suc (reads_on t)) ts)

low_rank : (n : ℕ) (ts : List Tree) → rank_of ts ≤ n → AreLow n ts
low_rank n [] h = tt
low_rank n (t ∷ ts) h = (omega arith, low_rank n ts (omega arith))

rank_low : (n : ℕ) (ts : List Tree) → AreLow n ts → rank_of ts ≤ n
rank_low n [] h = omega arith
rank_low n (t ∷ ts) h = let rest = rank_low n ts h.1 in let one = h.0 in omega arith

some_rank : (ts : List Tree) → 0 < length ts → 0 < rank_of ts
some_rank [] h = absurd (omega arith)
some_rank (t ∷ ts) h = omega arith

-- a round: it reads what is new alone, and what is new then is read of fewer writes
pub record IsRound (seen : List Tree) (from : ℕ) (new : List Tree) : Type 0 where
  pub all : new ≡ with_reads seen seen
  pub longer : length seen ≤ length new
  pub done : AllRead new (take (length seen) new)
  pub less : rank_of (drop (length seen) new) < rank_of (drop from seen)

pub round_from : (seen : List Tree) (from : ℕ) (new : List Tree) → from < length seen → AllRead seen (take from seen) →
    new ≡ with_reads (drop from seen) seen → IsRound seen from new
round_from seen from new inside done made =
    let first = take from seen in
    let rest = drop from seen in
    let whole : first ++ rest ≡ seen = take-append-drop from seen in
    let all : AllRead (first ++ rest) first = subst (λ (us : List Tree). AllRead us first) (sym whole) done in
    let after : AllRead (with_reads rest seen) seen = subst (λ (us : List Tree). AllRead (with_reads rest us) us) whole (round_done first rest all) in
    let same : with_reads seen seen ≡ with_reads rest seen = subst (λ (us : List Tree). with_reads us us ≡ with_reads rest us) whole (round_is first rest all) in
    let some = some_rank rest (omega (arith, length_rest seen from)) in
    let m = rank_of rest - 1 in
    let low : AreLow (suc m) rest = low_rank (suc m) rest (omega arith) in
    let grown = grown_reads rest seen m low in
    let is : new ≡ seen ++ grown.more = made ∙ grown.is in
    let least = rank_low m grown.more grown.low in
    let long = length-append seen grown.more in
    let longer : length seen ≤ length (seen ++ grown.more) = omega arith in
    let less : rank_of grown.more < rank_of rest = omega arith in
    record {
      all = made ∙ sym same;
      longer = subst (λ (us : List Tree). length seen ≤ length us) (sym is) longer;
      done =
          subst (λ (us : List Tree). AllRead new us) (sym (ap (take (length seen)) is ∙ take-append_seam seen grown.more))
          (subst (λ (us : List Tree). AllRead us seen) (sym made) after);
      less = subst (λ (us : List Tree). rank_of us < rank_of rest) (sym (ap (drop (length seen)) is ∙ drop-append_seam seen grown.more)) less;
    }
  where
    length_rest : (us : List Tree) (n : ℕ) → n < length us → 0 < length (drop n us)
    length_rest [] n h = absurd (omega arith)
    length_rest (u ∷ us) zero h = omega arith
    length_rest (u ∷ us) (suc n) h = length_rest us n (omega arith)

-- past the last term nothing is left
pub settled_past : (seen : List Tree) (from : ℕ) → length seen ≤ from → AllRead seen (take from seen) → IsSettled seen
settled_past seen from past done = same_reads seen seen (subst (AllRead seen) (take_all seen from past) done)
  where
    take_all : (us : List Tree) (n : ℕ) → length us ≤ n → take n us ≡ us
    take_all [] zero h = refl
    take_all [] (suc n) h = refl
    take_all (u ∷ us) zero h = absurd (omega arith)
    take_all (u ∷ us) (suc n) h = ap (λ (vs : List Tree). u ∷ vs) (take_all us n (omega arith))
