-- Where a reading refuses symbols: the symbols before could have gone on, with what stands there they can't or it nests
-- too deep, and nothing before it nests too deep.
use Rattle.sm_text.proofs.Imports.{◌≡◌, ℕ, suc, ◌+◌, ◌<◌, ◌≤◌, refl, sym, ap, ◌∙◌, subst, arith, Bool, true, false, Option, Some, None, Result, Ok, Err, List, [], ◌∷◌, ◌++◌, length, map, append_assoc, Marked, plain, Symbol, Parser, first, rest, Expected, Nested, Grammar, unmarked, IsViable, IsUnexpected, NestsTooDeep}
use Rattle.std.proofs.Common.{length-append}
use Rattle.std.proofs.lemmas.List.{append-nil}
use Rattle.sm_text.specs.rules.Parsers.{fault, Fault}
use Rattle.sm_text.specs.rules.Reading as r
use Rattle.sm_text.proofs.Sound.Parsers.{Takes, Nests, Told, Describes}
use Rattle.sm_text.proofs.Complete.Parsers.{past, reach, unmarked-plain}

-- the symbols before a refusal could go on, and are refused before all that begins with the same symbol
pub record Refuses {A : Type 0} (read : List Symbol → Result A Fault) (spells : Grammar) (ts : List Symbol) (f : Fault) : Type 0 where
  pub used : List Symbol
  pub here : List Symbol
  pub split : ts ≡ used ++ here
  pub place : f ≡ fault f.kind here
  pub again : (us : List Symbol) → first us ≡ first here → read (used ++ us) ≡ Err (fault f.kind us)
  pub ahead : List Marked
  pub goes_on : spells (map plain used ++ ahead)
  pub nested : f.kind ≡ Nested → Nests here ahead

-- a reading refuses only where nothing of the grammar goes on, and what the grammar spells it reads, or refuses at the
-- first symbol that nests too deep
pub record Judges {A : Type 0} (read : List Symbol → Result A Fault) (spells : Grammar) : Type 0 where
  pub refuses : (ts : List Symbol) (f : Fault) → read ts ≡ Err f → Refuses read spells ts f
  pub reads : (ts : List Marked) → spells ts → (x : A) × (read (unmarked ts) ≡ reach ts [] (Ok x))

not_nested : Expected ≡ Nested → ⊥
not_nested e = cc

not_err : {A : Type 0} {x : A} {f : Fault} → (let a : Result A Fault = Ok x in a) ≡ Err f → ⊥
not_err e = cc

err_same : {A : Type 0} (f g : Fault) → (let a : Result A Fault = Err f in a) ≡ Err g → f ≡ g
err_same f g e = cc

some_one : (u v : Symbol) → Some u ≡ Some v → u ≡ v
some_one u v p = cc

none_some : (u : Symbol) → (let o : Option Symbol = None in o) ≡ Some u → ⊥
none_some u p = cc

-- a parser stops where it refuses
stopped : {T : Type 0} (p : Parser T) (spells : Grammar) → Describes p (λ us x. spells us) → (ts : List Symbol) (f : Fault) → p ts ≡ Err f →
    Refuses p spells ts f
stopped {T} p spells told ts f e = by_answer (p ts) (told.tells ts) e
  where
    by_answer : (a : Result (T × List Symbol) Fault) → Told p (λ us x. spells us) ts a → a ≡ Err f → Refuses p spells ts f
    by_answer (Ok a) t q = absurd (not_err q)
    by_answer (Err g) t q =
        let G : Fault → Type 0 = λ h. Refuses p spells ts h in
        subst G (err_same {A = T × List Symbol} g f q) (record {
          used = t.used;
          here = t.here;
          split = t.split;
          place = t.place;
          again = t.again;
          ahead = t.ahead;
          goes_on = t.goes_on;
          nested = t.nested;
        })

-- symbols after what is read are refused
refused_behind : {T : Type 0} (x : T) (u : Symbol) (us vs : List Symbol) → first vs ≡ first (u ∷ us) →
    r.by_rest x vs ≡ Err (fault Expected vs)
refused_behind x u us [] e = absurd (none_some u e)
refused_behind x u us (v ∷ vs) e = refl

-- a parser whose symbols all have to be taken stops where it refuses, or where it leaves symbols
stopped_or_left : {T : Type 0} (p : Parser T) (spells : Grammar) → Describes p (λ us x. spells us) → (ts : List Symbol) (f : Fault) →
    r.to_end (p ts) ≡ Err f → Refuses (λ l. r.to_end (p l)) spells ts f
stopped_or_left {T} p spells told ts f e = by_answer (p ts) (told.tells ts) e
  where
    behind : (x : T) (after : List Symbol) → Takes p (λ us y. spells us) ts x after → r.by_rest x after ≡ Err f →
        Refuses (λ l. r.to_end (p l)) spells ts f
    behind x [] t q = absurd (not_err q)
    behind x (u ∷ us) t q =
        let F : List Marked → Type 0 = λ l. spells l in
        let G : Fault → Type 0 = λ g. Refuses (λ l. r.to_end (p l)) spells ts g in
        subst G (err_same {A = T} (fault Expected (u ∷ us)) f q) (record {
          used = t.used;
          here = u ∷ us;
          split = t.split;
          place = refl;
          again = λ vs h. ap (λ (a : Result (T × List Symbol) Fault). r.to_end a) (t.again vs h) ∙ refused_behind x u us vs h;
          ahead = [];
          goes_on = subst F (sym (append-nil (map plain t.used))) t.fits;
          nested = λ n. absurd (not_nested n);
        })

    by_answer : (a : Result (T × List Symbol) Fault) → Told p (λ us x. spells us) ts a → r.to_end a ≡ Err f →
        Refuses (λ l. r.to_end (p l)) spells ts f
    by_answer (Ok a) t q = behind a.0 a.1 t q
    by_answer (Err g) t q =
        let G : Fault → Type 0 = λ h. Refuses (λ l. r.to_end (p l)) spells ts h in
        subst G (err_same {A = T} g f q) (record {
          used = t.used;
          here = t.here;
          split = t.split;
          place = t.place;
          again = λ vs h. ap (λ (a : Result (T × List Symbol) Fault). r.to_end a) (t.again vs h);
          ahead = t.ahead;
          goes_on = t.goes_on;
          nested = t.nested;
        })

-- a parser reads what a grammar spells, where nothing in it nests too deep
abbrev pub Reads : {T : Type 0} → Parser T → Grammar → Type 0
Reads {T} p spells = (ts : List Marked) → spells ts → (x : T) × (p (unmarked ts ++ []) ≡ reach ts [] (Ok (x, [])))

-- with no symbols after it
read_alone : {T : Type 0} (p : Parser T) (ts : List Marked) (a : Result (T × List Symbol) Fault) → p (unmarked ts ++ []) ≡ a →
    p (unmarked ts) ≡ a
read_alone p ts a e = ap p (sym (append-nil (unmarked ts))) ∙ e

to_end-past : {T : Type 0} (deep : Bool) (ts : List Symbol) (a : Result (T × List Symbol) Fault) →
    r.to_end (past deep ts a) ≡ past deep ts (r.to_end a)
to_end-past true ts a = refl
to_end-past false ts a = refl

-- to the end of symbols that are read, or refused as nested too deep
to_end-reach : {T : Type 0} (us : List Marked) (x : T) → r.to_end (reach us [] (Ok (x, []))) ≡ reach us [] (Ok x)
to_end-reach [] x = refl
to_end-reach (t ∷ us) x =
    to_end-past t.1 (t.0 ∷ (unmarked us ++ [])) (reach us [] (Ok (x, []))) ∙ ap (past t.1 (t.0 ∷ (unmarked us ++ []))) (to_end-reach us x)

-- a parser that describes a grammar, and reads what it spells, judges by it
pub parser_judges : {T : Type 0} (p : Parser T) (spells : Grammar) → Describes p (λ us x. spells us) → Reads p spells → Judges p spells
parser_judges p spells told reads = record {
  refuses = stopped p spells told;
  reads = λ ts s. let one = reads ts s in ((one.0, []), read_alone p ts (reach ts [] (Ok (one.0, []))) one.1);
}

-- a parser that has to take all symbols judges by the grammar that it describes and reads
pub whole_judges : {T : Type 0} (p : Parser T) (spells : Grammar) → Describes p (λ us x. spells us) → Reads p spells →
    Judges (λ ts. r.to_end (p ts)) spells
whole_judges {T} p spells told reads = record {
  refuses = stopped_or_left p spells told;
  reads = λ ts s. let one =
      reads ts s in (
        one.0,
        ap (λ (a : Result (T × List Symbol) Fault). r.to_end a) (read_alone p ts (reach ts [] (Ok (one.0, []))) one.1)
            ∙ to_end-reach ts one.0,
      );
}

unmarked-append : (us vs : List Marked) → unmarked (us ++ vs) ≡ unmarked us ++ unmarked vs
unmarked-append [] vs = refl
unmarked-append (t ∷ us) vs = ap (λ (l : List Symbol). t.0 ∷ l) (unmarked-append us vs)

length-unmarked : (ts : List Marked) → length (unmarked ts) ≡ length ts
length-unmarked [] = refl
length-unmarked (t ∷ ts) = rw (length-unmarked ts) refl

length-unmarked-nil : (ts : List Marked) → length (unmarked ts ++ []) ≡ length ts
length-unmarked-nil ts = rw (length-append, length-unmarked ts) (omega arith)

-- what could go on is viable
pub viable : (spells : Grammar) (used : List Symbol) (ahead : List Marked) → spells (map plain used ++ ahead) → IsViable spells used
viable spells used ahead s = record {
  spelled = map plain used ++ ahead;
  grammar = s;
  more = unmarked ahead;
  begins = unmarked-append (map plain used) ahead ∙ ap (λ (l : List Symbol). l ++ unmarked ahead) (unmarked-plain used);
}

-- what goes on with fewer symbols
pub shorter-viable : {spells : Grammar} (before after ts : List Symbol) → ts ≡ before ++ after → IsViable spells ts → IsViable spells before
shorter-viable before after ts e v = record {
  spelled = v.spelled;
  grammar = v.grammar;
  more = after ++ v.more;
  begins = v.begins ∙ ap (λ (l : List Symbol). l ++ v.more) e ∙ append_assoc before after v.more;
}

-- what the grammar spells is read, or refused as nested too deep
past_nested : {A : Type 0} (deep : Bool) (ts : List Symbol) (f : Fault) (a : Result A Fault) → past deep ts a ≡ Err f →
    (a ≡ Err f → f.kind ≡ Nested) → f.kind ≡ Nested
past_nested {A} true ts f a e other = let F : Fault → Type 0 = λ g. g.kind ≡ Nested in subst F (err_same {A = A} (fault Nested ts) f e) refl
past_nested false ts f a e other = other e

only_nested : {A : Type 0} (ts : List Marked) (x : A) (f : Fault) → reach ts [] (Ok x) ≡ Err f → f.kind ≡ Nested
only_nested [] x f e = absurd (not_err e)
only_nested (t ∷ ts) x f e = past_nested t.1 (t.0 ∷ (unmarked ts ++ [])) f (reach ts [] (Ok x)) e (only_nested ts x f)

-- a symbol that nests too deep can go on
pub nested-viable : {spells : Grammar} (before : List Symbol) (t : Symbol) → NestsTooDeep spells before t →
    IsViable spells (before ++ t ∷ [])
nested-viable before t n = record {
  spelled = n.front ++ (t, true) ∷ n.behind;
  grammar = n.grammar;
  more = unmarked n.behind;
  begins = unmarked-append n.front ((t, true) ∷ n.behind) ∙ ap (λ (l : List Symbol). l ++ t ∷ unmarked n.behind) n.begins
      ∙ sym (append_assoc before (t ∷ []) (unmarked n.behind));
}

-- a list with a symbol that nests too deep is refused there or before
record Deep {A : Type 0} (front behind : List Marked) (t : Symbol) (x : A) : Type 0 where
  left : ℕ
  refused : reach {T = A} (front ++ (t, true) ∷ behind) [] (Ok x) ≡ Err (record { kind = Nested; left = left })
  late : length behind < left

deep_past : {A : Type 0} (mark : Bool) (u : Symbol) (front behind : List Marked) (t : Symbol) (x : A) → Deep front behind t x →
    (left : ℕ) × (past {T = A} mark (u ∷ (unmarked (front ++ (t, true) ∷ behind) ++ []))
    (reach (front ++ (t, true) ∷ behind) [] (Ok x)) ≡ Err (record { kind = Nested; left = left })) × (length behind < left)
deep_past true u front behind t x d = (
  length (u ∷ (unmarked (front ++ (t, true) ∷ behind) ++ [])),
  refl,
  rw (length-unmarked-nil (front ++ (t, true) ∷ behind), length-append) (omega arith),
)
deep_past false u front behind t x d = (d.left, d.refused, d.late)

deep_in : {A : Type 0} (front behind : List Marked) (t : Symbol) (x : A) → Deep front behind t x
deep_in [] behind t x = record {
  left = length (t ∷ (unmarked behind ++ []));
  refused = refl;
  late = rw (length-unmarked-nil behind) (omega arith);
}
deep_in (u ∷ front) behind t x =
    let d = deep_past u.1 u.0 front behind t x (deep_in front behind t x) in record { left = d.0; refused = d.1; late = d.2 }

head_same : (x y : Symbol) (xs ys : List Symbol) → (x ∷ xs) ≡ y ∷ ys → x ≡ y
head_same x y xs ys e = some_one x y (ap (λ (l : List Symbol). first l) e)

tail_same : (x y : Symbol) (xs ys : List Symbol) → (x ∷ xs) ≡ y ∷ ys → xs ≡ ys
tail_same x y xs ys e = ap (λ (l : List Symbol). rest l) e

first_same : (earlier us vs : List Symbol) (t : Symbol) → first (earlier ++ t ∷ us) ≡ first (earlier ++ t ∷ vs)
first_same [] us vs t = refl
first_same (e ∷ earlier) us vs t = refl

-- of two splits of a list the one that ends no later, with other symbols after it
resplit : (used here earlier behind others : List Symbol) (t : Symbol) → used ++ here ≡ earlier ++ t ∷ behind →
    length used ≤ length earlier → (us : List Symbol) × (earlier ++ t ∷ others ≡ used ++ us) × (first us ≡ first here)
resplit [] here earlier behind others t e h =
    (earlier ++ t ∷ others, refl, first_same earlier others behind t ∙ ap (λ (l : List Symbol). first l) (sym e))
resplit (x ∷ used) here [] behind others t e h = absurd (omega (arith, h))
resplit (x ∷ used) here (y ∷ earlier) behind others t e h =
    let one = resplit used here earlier behind others t (tail_same x y (used ++ here) (earlier ++ t ∷ behind) e) (omega (arith, h)) in (
      one.0,
      ap (λ (l : List Symbol). y ∷ l) one.1
          ∙ ap (λ (v : Symbol). v ∷ (used ++ one.0)) (sym (head_same x y (used ++ here) (earlier ++ t ∷ behind) e)),
      one.2,
    )

length-both : (us vs : List Symbol) → length (us ++ vs) ≡ length us + length vs
length-both us vs = rw length-append refl

-- what a reading refuses, where it judges by a grammar
module _ {A : Type 0} (read : List Symbol → Result A Fault) (spells : Grammar) (judges : Judges read spells) where
  spelled_nested : (ts : List Marked) → spells ts → (f : Fault) → read (unmarked ts) ≡ Err f → f.kind ≡ Nested
  spelled_nested ts s f e = let one = judges.reads ts s in only_nested ts one.0 f (sym one.1 ∙ e)

  -- what is refused as unexpected is so
  pub unexpected : (ts : List Symbol) (f : Fault) → (w : Refuses read spells ts f) → f.kind ≡ Expected →
      IsUnexpected spells w.used (first w.here)
  unexpected ts f w k = by w.here refl
    where
      can_go_on : IsViable spells w.used
      can_go_on = viable spells w.used w.ahead w.goes_on

      read_again : (us : List Symbol) → first us ≡ first w.here → read (w.used ++ us) ≡ Err (fault Expected us)
      read_again us e = w.again us e ∙ ap (λ kind. Err (fault kind us)) k

      by : (here : List Symbol) → w.here ≡ here → IsUnexpected spells w.used (first here)
      by [] e = (
        can_go_on,
        λ v.
            not_nested (spelled_nested v.spelled v.grammar (fault Expected []) (ap read (v.all ∙ sym (append-nil w.used))
            ∙ read_again [] (ap (λ (l : List Symbol). first l) (sym e)))),
      )
      by (u ∷ us) e = (
        can_go_on,
        λ v. not_nested (spelled_nested v.spelled v.grammar (fault Expected (u ∷ v.more))
            (ap read (v.begins ∙ append_assoc w.used (u ∷ []) v.more) ∙ read_again (u ∷ v.more) (ap (λ (l : List Symbol). first l) (sym e)))),
      )

  -- what is refused as nested too deep is so
  pub too_deep : (ts : List Symbol) (f : Fault) → (w : Refuses read spells ts f) → f.kind ≡ Nested →
      (t : Symbol) × (first w.here ≡ Some t) × NestsTooDeep spells w.used t
  too_deep ts f w k =
      let n = w.nested k in
      let F : List Marked → Type 0 = λ l. spells (map plain w.used ++ l) in (
        n.sign,
        n.stands,
        record {
          front = map plain w.used;
          behind = n.others;
          grammar = subst F n.begins w.goes_on;
          begins = unmarked-plain w.used;
        },
      )

  -- what is refused at a symbol, or before it, is refused there in all that begins with the symbols up to it
  refused_alike : (list : List Symbol) (g : Fault) → Refuses read spells list g → (earlier behind : List Symbol) (t : Symbol) →
      list ≡ earlier ++ t ∷ behind → length behind < g.left → (ts others : List Symbol) → ts ≡ earlier ++ t ∷ others →
      (f : Fault) × (read ts ≡ Err f) × (length others < f.left)
  refused_alike list g w earlier behind t e late ts others q =
      let left : g.left ≡ length w.here = ap (λ (f : Fault). f.left) w.place in
      let splits : w.used ++ w.here ≡ earlier ++ t ∷ behind = sym w.split ∙ e in
      let sum : length w.used + length w.here ≡ length earlier + suc (length behind) =
      sym (length-both w.used w.here) ∙ ap (λ (l : List Symbol). length l) splits ∙ length-both earlier (t ∷ behind) in
      let v = resplit w.used w.here earlier behind others t splits (omega (arith, left, sum, late)) in
      let total : length earlier + suc (length others) ≡ length w.used + length v.0 =
      sym (length-both earlier (t ∷ others)) ∙ ap (λ (l : List Symbol). length l) v.1 ∙ length-both w.used v.0 in
      (fault g.kind v.0, ap read (q ∙ v.1) ∙ w.again v.0 v.2, omega (arith, left, sum, late, total))

  -- nothing nests too deep before a place up to which no refusal comes
  pub nothing_nests : (ts used here : List Symbol) → ts ≡ used ++ here → ((f : Fault) → read ts ≡ Err f → f.left ≤ length here) →
      (earlier others : List Symbol) (t : Symbol) → used ≡ earlier ++ t ∷ others → NestsTooDeep spells earlier t → ⊥
  nothing_nests ts used here split late earlier others t e n =
      let list : List Marked = n.front ++ (t, true) ∷ n.behind in
      let one = judges.reads list n.grammar in
      let d = deep_in n.front n.behind t one.0 in
      let g : Fault = record { kind = Nested; left = d.left } in
      let refused : read (unmarked list) ≡ Err g = one.1 ∙ d.refused in
      let spelled : unmarked list ≡ earlier ++ t ∷ unmarked n.behind =
      unmarked-append n.front ((t, true) ∷ n.behind) ∙ ap (λ (l : List Symbol). l ++ t ∷ unmarked n.behind) n.begins in
      let size : length (unmarked n.behind) ≡ length n.behind = length-unmarked n.behind in
      let far = d.late in
      let line : ts ≡ earlier ++ t ∷ (others ++ here) =
      split ∙ ap (λ (l : List Symbol). l ++ here) e ∙ append_assoc earlier (t ∷ others) here in
      let alike = refused_alike (unmarked list) g (judges.refuses (unmarked list) g refused) earlier (unmarked n.behind) t spelled
      (omega (arith, size, far)) ts (others ++ here) line in
      let no_further = late alike.0 alike.1 in
      let total = length-both others here in
      let further = alike.2 in
      omega (arith, no_further, further, total)
