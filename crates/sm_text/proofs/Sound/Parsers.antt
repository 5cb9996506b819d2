-- What a parser takes is what a fact on marked symbols says, and what it refuses could have gone on up to there. A parser
-- looks one symbol ahead. One lemma for each way to make a parser.
use Rattle.sm_text.proofs.Imports.{◌≡◌, ◌<◌, refl, sym, ap, ◌∙◌, subst, arith, true, Option, Some, None, Result, Ok, Err, List, [], ◌∷◌, ◌++◌, length, map, append_assoc, Marked, plain, word, Symbol, Mark, ReadError, Fails, first, Parser, go_on, ◌>>=◌, ◌>>◌, pure, Expected, Nested}
use Rattle.std.proofs.Common.{length-append}
use Rattle.std.proofs.lemmas.List.{append-nil}
use Rattle.sm_text.specs.declared.rules.reading.ReadError.TheVariants as error
use Rattle.sm_text.specs.rules.Parsers.{fault, Fault}
use Rattle.sm_text.specs.rules.Reading.{by_rest, to_end}

-- what was read stands for the symbols that were used, and is read before all that begins with the same symbol
pub record Takes {T : Type 0} (p : Parser T) (P : List Marked → T → Type 0) (ts : List Symbol) (x : T) (after : List Symbol) : Type 0 where
  pub used : List Symbol
  pub split : ts ≡ used ++ after
  pub fits : P (map plain used) x
  pub again : (us : List Symbol) → first us ≡ first after → p (used ++ us) ≡ Ok (x, us)

-- what could go on begins with the symbol that stands here, and it nests too deep
pub record Nests (here : List Symbol) (ahead : List Marked) : Type 0 where
  pub sign : Symbol
  pub others : List Marked
  pub begins : ahead ≡ (sign, true) ∷ others
  pub stands : first here ≡ Some sign

-- the symbols before the refusal could go on, and are refused before all that begins with the same symbol
pub record Stops {T : Type 0} (p : Parser T) (P : List Marked → T → Type 0) (ts : List Symbol) (f : Fault) : Type 0 where
  pub used : List Symbol
  pub here : List Symbol
  pub split : ts ≡ used ++ here
  pub place : f ≡ fault f.kind here
  pub again : (us : List Symbol) → first us ≡ first here → p (used ++ us) ≡ Err (fault f.kind us)
  pub ahead : List Marked
  pub value : T
  pub goes_on : P (map plain used ++ ahead) value
  pub nested : f.kind ≡ Nested → Nests here ahead

-- the one or the other, by the answer
abbrev pub Told : {T : Type 0} → Parser T → (List Marked → T → Type 0) → List Symbol → Result (T × List Symbol) Fault → Type 0
Told p P ts (Ok r) = Takes p P ts r.0 r.1
Told p P ts (Err f) = Stops p P ts f

-- there are symbols and a value of which the fact holds
pub record Possible {T : Type 0} (P : List Marked → T → Type 0) : Type 0 where
  pub list : List Marked
  pub value : T
  pub fits : P list value

-- a parser reads what the fact says
pub record Describes {T : Type 0} (p : Parser T) (P : List Marked → T → Type 0) : Type 0 where
  pub tells : (ts : List Symbol) → Told p P ts (p ts)
  pub possible : Possible P

-- a parser reads what the fact says where this symbol stands first
pub record DescribesAt {T : Type 0} (o : Option Symbol) (p : Parser T) (P : List Marked → T → Type 0) : Type 0 where
  pub tells : (ts : List Symbol) → first ts ≡ o → Told p P ts (p ts)

-- one thing and then another
pub record Both {T U : Type 0} (P : List Marked → T → Type 0) (Q : T → List Marked → U → Type 0) (us : List Marked) (y : U) : Type 0 where
  pub front : List Marked
  pub behind : List Marked
  pub parts : us ≡ front ++ behind
  pub value : T
  pub one : P front value
  pub two : Q value behind y

-- nothing is read, and this is the value
pub record Is {T : Type 0} (x : T) (us : List Marked) (y : T) : Type 0 where
  pub none : us ≡ []
  pub same : x ≡ y

-- one mark is read
abbrev pub IsMark : Mark → List Marked → Unit {0} → Type 0
IsMark m us u = us ≡ word m ∷ []

pub map-plain-append : (xs ys : List Symbol) → map plain (xs ++ ys) ≡ map plain xs ++ map plain ys
map-plain-append [] ys = refl
map-plain-append (x ∷ xs) ys = ap (λ (l : List Marked). plain x ∷ l) (map-plain-append xs ys)

pub some_one : (u v : Symbol) → Some u ≡ Some v → u ≡ v
some_one u v p = cc

pub none_some : (u : Symbol) → (let o : Option Symbol = None in o) ≡ Some u → ⊥
none_some u p = cc

pub not_nested : Expected ≡ Nested → ⊥
not_nested e = cc

length-map-plain : (xs : List Symbol) → length (map plain xs) ≡ length xs
length-map-plain [] = refl
length-map-plain (y ∷ ys) = rw (length-map-plain ys) refl

first_again : (used us here : List Symbol) → first us ≡ first here → first (used ++ us) ≡ first (used ++ here)
first_again [] us here e = e
first_again (u ∷ used) us here e = refl

-- where the symbols that follow begin alike, the whole does
pub begins-alike : (used us here ts : List Symbol) → ts ≡ used ++ here → first us ≡ first here → first (used ++ us) ≡ first ts
begins-alike used us here ts split e = first_again used us here e ∙ ap (λ (l : List Symbol). first l) (sym split)

-- what is told of a parser is told of one that answers alike where the same symbol stands first
pub like : {T : Type 0} (p q : Parser T) (P : List Marked → T → Type 0) (ts : List Symbol) (a : Result (T × List Symbol) Fault) →
    ((us : List Symbol) → first us ≡ first ts → q us ≡ p us) → Told p P ts a → Told q P ts a
like p q P ts (Ok r) same told = record {
  used = told.used;
  split = told.split;
  fits = told.fits;
  again = λ us e. same (told.used ++ us) (begins-alike told.used us r.1 ts told.split e) ∙ told.again us e;
}
like p q P ts (Err f) same told = record {
  used = told.used;
  here = told.here;
  split = told.split;
  place = told.place;
  again = λ us e. same (told.used ++ us) (begins-alike told.used us told.here ts told.split e) ∙ told.again us e;
  ahead = told.ahead;
  value = told.value;
  goes_on = told.goes_on;
  nested = told.nested;
}

-- what could go on, with more after it
pub longer : (here : List Symbol) (ahead behind : List Marked) → Nests here ahead → Nests here (ahead ++ behind)
longer here ahead behind n =
    record { sign = n.sign; others = n.others ++ behind; begins = ap (λ (l : List Marked). l ++ behind) n.begins; stands = n.stands }

module _ {T U : Type 0} (p : Parser T) (P : List Marked → T → Type 0) (next : T → Parser U) (Q : T → List Marked → U → Type 0) where
  in_turn : (ts : List Symbol) (x : T) (after : List Symbol) → Takes p P ts x after → (used here us : List Symbol) →
      (a : Result (U × List Symbol) Fault) → (t : Takes p P ts x after) → after ≡ used ++ here → first us ≡ first here →
      next x (used ++ us) ≡ a → go_on (p ((t.used ++ used) ++ us)) next ≡ a
  in_turn ts x after told used here us a t split e answer =
      ap (λ (l : List Symbol). go_on (p l) next) (append_assoc t.used used us)
      ∙ ap (λ (b : Result (T × List Symbol) Fault). go_on b next) (t.again (used ++ us) (begins-alike used us here after split e)) ∙ answer

  joined : (ts : List Symbol) (x : T) (after : List Symbol) → Takes p P ts x after → (r : Result (U × List Symbol) Fault) →
      Told (next x) (Q x) after r → Told (λ us. go_on (p us) next) (Both P Q) ts r
  joined ts x after t (Ok r) told = record {
    used = t.used ++ told.used;
    split = t.split ∙ ap (λ (l : List Symbol). t.used ++ l) told.split ∙ sym (append_assoc t.used told.used r.1);
    fits = record {
      front = map plain t.used;
      behind = map plain told.used;
      parts = map-plain-append t.used told.used;
      value = x;
      one = t.fits;
      two = told.fits;
    };
    again = λ us e. in_turn ts x after t told.used r.1 us (Ok (r.0, us)) t told.split e (told.again us e);
  }
  joined ts x after t (Err f) told = record {
    used = t.used ++ told.used;
    here = told.here;
    split = t.split ∙ ap (λ (l : List Symbol). t.used ++ l) told.split ∙ sym (append_assoc t.used told.used told.here);
    place = told.place;
    again = λ us e. in_turn ts x after t told.used told.here us (Err (fault f.kind us)) t told.split e (told.again us e);
    ahead = told.ahead;
    value = told.value;
    goes_on = record {
      front = map plain t.used;
      behind = map plain told.used ++ told.ahead;
      parts = ap (λ (l : List Marked). l ++ told.ahead) (map-plain-append t.used told.used)
          ∙ append_assoc (map plain t.used) (map plain told.used) told.ahead;
      value = x;
      one = t.fits;
      two = told.goes_on;
    };
    nested = told.nested;
  }

  cut_off : (ts : List Symbol) (f : Fault) → (t : Stops p P ts f) → Possible (Q t.value) → Stops (λ us. go_on (p us) next) (Both P Q) ts f
  cut_off ts f t more = record {
    used = t.used;
    here = t.here;
    split = t.split;
    place = t.place;
    again = λ us e. ap (λ (b : Result (T × List Symbol) Fault). go_on b next) (t.again us e);
    ahead = t.ahead ++ more.list;
    value = more.value;
    goes_on = record {
      front = map plain t.used ++ t.ahead;
      behind = more.list;
      parts = sym (append_assoc (map plain t.used) t.ahead more.list);
      value = t.value;
      one = t.goes_on;
      two = more.fits;
    };
    nested = λ n. longer t.here t.ahead more.list (t.nested n);
  }

  pub bound : (ts : List Symbol) (r : Result (T × List Symbol) Fault) → Told p P ts r → ((x : T) → Describes (next x) (Q x)) →
      Told (λ us. go_on (p us) next) (Both P Q) ts (go_on r next)
  bound ts (Ok r) told d = joined ts r.0 r.1 told (next r.0 r.1) ((d r.0).tells r.1)
  bound ts (Err f) told d = cut_off ts f told (d told.value).possible

  pub possibly-both : Possible P → ((x : T) → Possible (Q x)) → Possible (Both P Q)
  possibly-both a b = let c =
      b a.value in record {
        list = a.list ++ c.list;
        value = c.value;
        fits = record { front = a.list; behind = c.list; parts = refl; value = a.value; one = a.fits; two = c.fits };
      }

-- one parser and then another
pub bind : {T U : Type 0} {p : Parser T} {P : List Marked → T → Type 0} {next : T → Parser U} {Q : T → List Marked → U → Type 0} →
    Describes p P → ((x : T) → Describes (next x) (Q x)) → Describes (p >>= next) (Both P Q)
bind {p = p} {P = P} {next = next} {Q = Q} d e =
    record { tells = λ ts. bound p P next Q ts (p ts) (d.tells ts) e; possible = possibly-both p P next Q d.possible (λ x. (e x).possible) }

-- one parser and then another, where nothing is kept of the first
pub both : {T U : Type 0} {p : Parser T} {P : List Marked → T → Type 0} {q : Parser U} {Q : List Marked → U → Type 0} → Describes p P →
    Describes q Q → Describes (p >> q) (Both P (λ _. Q))
both {p = p} {P = P} {q = q} {Q = Q} d e =
    record {
      tells = λ ts. bound p P (λ _. q) (λ _. Q) ts (p ts) (d.tells ts) (λ _. e);
      possible = possibly-both p P (λ _. q) (λ _. Q) d.possible (λ _. e.possible);
    }

pub weakened : {T : Type 0} (p : Parser T) (P Q : List Marked → T → Type 0) → ((us : List Marked) (x : T) → P us x → Q us x) →
    (ts : List Symbol) (r : Result (T × List Symbol) Fault) → Told p P ts r → Told p Q ts r
weakened p P Q f ts (Ok r) told =
    record { used = told.used; split = told.split; fits = f (map plain told.used) r.0 told.fits; again = told.again }
weakened p P Q f ts (Err e) told =
    record {
      used = told.used;
      here = told.here;
      split = told.split;
      place = told.place;
      again = told.again;
      ahead = told.ahead;
      value = told.value;
      goes_on = f (map plain told.used ++ told.ahead) told.value told.goes_on;
      nested = told.nested;
    }

-- of a weaker fact there are symbols and a value
pub possibly : {T : Type 0} {P Q : List Marked → T → Type 0} → ((us : List Marked) (x : T) → P us x → Q us x) → Possible P → Possible Q
possibly f may = record { list = may.list; value = may.value; fits = f may.list may.value may.fits }

-- where there are symbols after a first one, there are symbols
pub possibly-behind : {T : Type 0} {P : List Marked → T → Type 0} (t : Marked) → Possible (λ us x. P (t ∷ us) x) → Possible P
possibly-behind t may = record { list = t ∷ may.list; value = may.value; fits = may.fits }

-- a weaker fact
pub weaken : {T : Type 0} {p : Parser T} {P Q : List Marked → T → Type 0} → ((us : List Marked) (x : T) → P us x → Q us x) → Describes p P →
    Describes p Q
weaken {p = p} {P = P} {Q = Q} f d = record { tells = λ ts. weakened p P Q f ts (p ts) (d.tells ts); possible = possibly f d.possible }

-- nothing is read
pub give : {T : Type 0} (x : T) → Describes (pure x) (Is x)
give x = record {
  tells = λ ts. record { used = []; split = refl; fits = record { none = refl; same = refl }; again = λ us e. refl };
  possible = record { list = []; value = x; fits = record { none = refl; same = refl } };
}

-- a value that was made, where it is so spelled
pub made : {T : Type 0} (P : List Marked → T → Type 0) (ts us : List Marked) (x y : T) → us ≡ ts → x ≡ y → P ts x → P us y
made {T} P ts us x y e f p =
    let F : List Marked → Type 0 = λ l. P l y in
    let G : T → Type 0 = λ z. P ts z in
    subst F (sym e) (subst G f p)

taken_shorter : {T : Type 0} {p : Parser T} {P : List Marked → T → Type 0} {ts : List Symbol} {x : T} {behind : List Symbol} →
    ((us : List Marked) (y : T) → P us y → 0 < length us) → Takes p P ts x behind → length behind < length ts
taken_shorter {ts = ts} {x = x} {behind = behind} some t =
    let used : 0 < length (map plain t.used) = some (map plain t.used) x t.fits in
    let total : length ts ≡ length (t.used ++ behind) = ap (λ (l : List Symbol). length l) t.split in
    rw (total, length-append) (grind (arith, length-map-plain t.used))

-- what takes at least one symbol leaves fewer
pub shorter : {T : Type 0} {p : Parser T} {P : List Marked → T → Type 0} → ((us : List Marked) (y : T) → P us y → 0 < length us) →
    Describes p P → (ts : List Symbol) (x : T) (behind : List Symbol) → p ts ≡ Ok (x, behind) → length behind < length ts
shorter {T} {p} {P} some d ts x behind e = taken_shorter some (told (p ts) e (d.tells ts))
  where
    told : (r : Result (T × List Symbol) Fault) → r ≡ Ok (x, behind) → Told p P ts r → Takes p P ts x behind
    told r q t = let F : Result (T × List Symbol) Fault → Type 0 = λ v. Told p P ts v in subst F q t

not_err : {T : Type 0} {f : Fault} {x : T} → (let a : Result T Fault = Err f in a) ≡ Ok x → ⊥
not_err e = cc

ok_same : {T : Type 0} (x y : T) → (let a : Result T Fault = Ok x in a) ≡ Ok y → x ≡ y
ok_same x y e = cc

-- all symbols are what is read to the end
pub all_read : {T : Type 0} {p : Parser T} {P : List Marked → T → Type 0} → Describes p P → (ts : List Symbol) (x : T) →
    to_end (p ts) ≡ Ok x → P (map plain ts) x
all_read {T} {p} {P} d ts x e = by_answer (p ts) (d.tells ts) e
  where
    none_behind : (y : T) (behind : List Symbol) → Takes p P ts y behind → by_rest y behind ≡ Ok x → P (map plain ts) x
    none_behind y [] t q =
        let F : List Symbol → Type 0 = λ l. P (map plain l) y in
        let G : T → Type 0 = λ z. P (map plain ts) z in
        subst G (ok_same y x q) (subst F (sym (t.split ∙ append-nil t.used)) t.fits)
    none_behind y (u ∷ us) t q = absurd (not_err q)

    by_answer : (a : Result (T × List Symbol) Fault) → Told p P ts a → to_end a ≡ Ok x → P (map plain ts) x
    by_answer (Err f) t q = absurd (not_err q)
    by_answer (Ok a) t q = none_behind a.0 a.1 t q

some_none : (u : Symbol) → Some u ≡ (let o : Option Symbol = None in o) → ⊥
some_none u p = cc

-- what is read with no symbol after it
pub to_end-ends : {T : Type 0} {a : Result (T × List Symbol) Fault} (x : T) (after : List Symbol) → a ≡ Ok (x, after) → first after ≡ None →
    to_end a ≡ Ok x
to_end-ends x [] e none = rw e refl
to_end-ends x (t ∷ after) e none = absurd (some_none t none)

-- what is read with symbols after it
pub to_end-goes_on : {T : Type 0} {a : Result (T × List Symbol) Fault} (x : T) (after : List Symbol) (u : Symbol) → a ≡ Ok (x, after) →
    first after ≡ Some u → to_end a ≡ Err (fault Expected after)
to_end-goes_on x [] u e some = absurd (some_none u (sym some))
to_end-goes_on x (t ∷ after) u e some = rw e refl

-- what is refused
pub to_end-fails : {T : Type 0} (a : Result (T × List Symbol) Fault) (e : ReadError) → Fails e a → Fails e (to_end a)
to_end-fails a (error.Fault f) fails = rw fails refl
to_end-fails a error.Memory fails = tt
