-- What a choice by the first symbol reads is spelled by it, and what a group between two signs reads by the group.
use Rattle.sm_text.proofs.Imports.{◌≡◌, ℕ, refl, sym, ap, ◌∙◌, subst, Bool, true, false, Option, Some, None, Result, Ok, Err, List, [], ◌∷◌, ◌++◌, map, Marked, plain, word, opens, Symbol, Mark, first, Parser, ◌>>=◌, ◌>>◌, peek, skip, refuse, expect_by, stands, inside_group, grouped_by, Expected, Nested}
use Rattle.std.specs.Prelude.{nat_le, if◌then◌else◌}
use denote.Enum.Bare.{sameb, same_true}
use Rattle.sm_syntax.specs.contracts.symbol.Mark.{the_type}
use Rattle.sm_syntax.specs.declared.symbol.Symbol.TheVariants as s
use Rattle.sm_text.specs.rules.Parsers.{fault, expect, grouped, Fault}
use Rattle.sm_text.proofs.Sound.Parsers.{Stops, Told, Possible, Describes, DescribesAt, Both, Is, IsMark, some_one, none_some, not_nested, like, bound, bind, both, weakened, give}

stopped : {T : Type 0} (P : List Marked → T → Type 0) → Possible P → (ts : List Symbol) → Stops (refuse Expected) P ts (fault Expected ts)
stopped P may ts = record {
  used = [];
  here = ts;
  split = refl;
  place = refl;
  again = λ us e. refl;
  ahead = may.list;
  value = may.value;
  goes_on = may.fits;
  nested = λ n. absurd (not_nested n);
}

-- a refusal where a symbol stands first
pub refused_at : {T : Type 0} (P : List Marked → T → Type 0) → Possible P → (o : Option Symbol) → DescribesAt o (refuse Expected) P
refused_at P may o = record { tells = λ ts _. stopped P may ts }

-- what is read whatever stands first
pub anywhere : {T : Type 0} {p : Parser T} {P : List Marked → T → Type 0} (o : Option Symbol) → Describes p P → DescribesAt o p P
anywhere o d = record { tells = λ ts _. d.tells ts }

-- a choice by the first symbol
pub choose_by : {T : Type 0} {p : Parser T} {P : List Marked → T → Type 0} (rule : Option Symbol → Parser T) →
    ((ts : List Symbol) → p ts ≡ rule (first ts) ts) → Possible P → ((o : Option Symbol) → DescribesAt o (rule o) P) → Describes p P
choose_by {T} {p} {P} rule same may d = record { tells = tells; possible = may }
  where
    tells : (ts : List Symbol) → Told p P ts (p ts)
    tells ts =
        let F : Result (T × List Symbol) Fault → Type 0 = λ a. Told p P ts a in
        subst F (sym (same ts)) (like (rule (first ts)) p P ts (rule (first ts) ts)
        (λ us e. same us ∙ ap (λ (o : Option Symbol). rule o us) e) ((d (first ts)).tells ts refl))

pub choose : {T : Type 0} {rule : Option Symbol → Parser T} {P : List Marked → T → Type 0} → Possible P →
    ((o : Option Symbol) → DescribesAt o (rule o) P) → Describes (peek >>= rule) P
choose {rule = rule} may d = choose_by rule (λ ts. refl) may d

behind_first : {T : Type 0} (p : Parser T) (P Q : List Marked → T → Type 0) (t : Symbol) →
    ((us : List Marked) (x : T) → Q us x → P (plain t ∷ us) x) → (ts : List Symbol) (r : Result (T × List Symbol) Fault) → Told p Q ts r →
    Told (skip >> p) P (t ∷ ts) r
behind_first p P Q t f ts (Ok r) told =
    record {
      used = t ∷ told.used;
      split = ap (λ (l : List Symbol). t ∷ l) told.split;
      fits = f (map plain told.used) r.0 told.fits;
      again = told.again;
    }
behind_first p P Q t f ts (Err e) told =
    record {
      used = t ∷ told.used;
      here = told.here;
      split = ap (λ (l : List Symbol). t ∷ l) told.split;
      place = told.place;
      again = told.again;
      ahead = told.ahead;
      value = told.value;
      goes_on = f (map plain told.used ++ told.ahead) told.value told.goes_on;
      nested = told.nested;
    }

-- a step past the first symbol
pub after : {T : Type 0} {p : Parser T} {P Q : List Marked → T → Type 0} (t : Symbol) →
    ((us : List Marked) (x : T) → Q us x → P (plain t ∷ us) x) → Describes p Q → DescribesAt (Some t) (skip >> p) P
after {T} {p} {P} {Q} t f d = record { tells = at }
  where
    at : (ts : List Symbol) → first ts ≡ Some t → Told (skip >> p) P ts ((skip >> p) ts)
    at [] e = absurd (none_some t e)
    at (u ∷ ts) e = let F : Symbol → Type 0 =
        λ v. Told (skip >> p) P (v ∷ ts) (p ts) in subst F (sym (some_one u t e)) (behind_first p P Q t f ts (p ts) (d.tells ts))

possibly-mark : (m : Mark) → Possible (IsMark m)
possibly-mark m = record { list = word m ∷ []; value = tt; fits = refl }

is_mark : (m found : Mark) (b : Bool) → sameb the_type found m ≡ b → DescribesAt (Some (s.Mark found)) (if b then skip else refuse Expected)
    (IsMark m)
is_mark m found false e = refused_at (IsMark m) (possibly-mark m) (Some (s.Mark found))
is_mark m found true e = record { tells = at }
  where
    same : found ≡ m
    same = same_true the_type tt found m e

    at : (ts : List Symbol) → first ts ≡ Some (s.Mark found) → Told skip (IsMark m) ts (skip ts)
    at [] p = absurd (none_some (s.Mark found) p)
    at (u ∷ ts) p = record {
      used = u ∷ [];
      split = refl;
      fits = ap (λ (v : Symbol). plain v ∷ []) (some_one u (s.Mark found) p
          ∙ ap s.Mark same);
      again = λ us h. refl;
    }

-- a mark that has to stand here
pub expect_told : (m : Mark) → Describes (expect m) (IsMark m)
unfolding expect
expect_told m = choose (possibly-mark m) by
  where
    by : (o : Option Symbol) → DescribesAt o (expect_by m o) (IsMark m)
    by None = refused_at (IsMark m) (possibly-mark m) None
    by (Some (s.Mark found)) = is_mark m found (sameb the_type found m) refl
    by (Some (s.Number z)) = refused_at (IsMark m) (possibly-mark m) (Some (s.Number z))
    by (Some (s.Name x)) = refused_at (IsMark m) (possibly-mark m) (Some (s.Name x))

-- one parser and then another, where a symbol stands first
pub bind_at : {T U : Type 0} {o : Option Symbol} {p : Parser T} {P : List Marked → T → Type 0} {next : T → Parser U} {Q : T → List Marked →
    U → Type 0} → DescribesAt o p P → ((x : T) → Describes (next x) (Q x)) → DescribesAt o (p >>= next) (Both P Q)
bind_at {p = p} {P = P} {next = next} {Q = Q} d e = record { tells = λ ts f. bound p P next Q ts (p ts) (d.tells ts f) e }

-- a weaker fact, where a symbol stands first
pub weaken_at : {T : Type 0} {o : Option Symbol} {p : Parser T} {P Q : List Marked → T → Type 0} →
    ((us : List Marked) (x : T) → P us x → Q us x) → DescribesAt o p P → DescribesAt o p Q
weaken_at {p = p} {P = P} {Q = Q} f d = record { tells = λ ts e. weakened p P Q f ts (p ts) (d.tells ts e) }

stands_mark : (m found : Mark) → sameb the_type found m ≡ true → s.Mark found ≡ s.Mark m
stands_mark m found e = ap s.Mark (same_true the_type tt found m e)

-- what stands there where a mark stands there
pub stands-is : (m : Mark) (o : Option Symbol) → stands m o ≡ true → o ≡ Some (s.Mark m)
stands-is m None e = cc
stands-is m (Some (s.Mark found)) e = ap Some (stands_mark m found e)
stands-is m (Some (s.Number z)) e = cc
stands-is m (Some (s.Name x)) e = cc

-- what is read where a mark stands first
pub standing : {T : Type 0} {p : Parser T} {P : List Marked → T → Type 0} (m : Mark) (o : Option Symbol) → stands m o ≡ true →
    DescribesAt (Some (s.Mark m)) p P → DescribesAt o p P
standing {T} {p} {P} m o e d = let F : Option Symbol → Type 0 = λ v. DescribesAt v p P in subst F (sym (stands-is m o e)) d

-- a rule that begins with a mark, where the first symbol is that mark
pub at_mark : {T : Type 0} (P : List Marked → T → Type 0) (m n : Mark) {p : Parser T} → sameb the_type m n ≡ true →
    Describes p (λ us x. P (word n ∷ us) x) → DescribesAt (Some (s.Mark m)) (skip >> p) P
at_mark P m n {p} e d =
    let F : Mark → Type 0 = λ v. DescribesAt (Some (s.Mark v)) (skip >> p) P in
    subst F (sym (same_true the_type tt m n e)) (after (s.Mark n) (λ us x i. i) d)

-- the rule inside a group: none where no more may be opened
abbrev pub Inner : {T : Type 0} → Option (Parser T) → (List Marked → T → Type 0) → ℕ → Type 0
Inner None P d = Possible P × (nat_le 64 d ≡ true)
Inner (Some p) P d = Describes p P × (nat_le 64 d ≡ false)

-- what is inside a group is possible, whether it may be opened or not
pub possibly-inside : {T : Type 0} (deeper : Option (Parser T)) (P : List Marked → T → Type 0) (d : ℕ) → Inner deeper P d → Possible P
possibly-inside None P d i = i.0
possibly-inside (Some p) P d i = i.0.possible

-- a group, where d are open
pub record Enclosed {T : Type 0} (d : ℕ) (begin close : Mark) (P : List Marked → T → Type 0) (us : List Marked) (x : T) : Type 0 where
  pub body : List Marked
  pub split : us ≡ opens begin d ∷ (body ++ word close ∷ [])
  pub fits : P body x

enclosed : {T : Type 0} (d : ℕ) (begin close : Mark) (P : List Marked → T → Type 0) → nat_le 64 d ≡ false → (us : List Marked) (x : T) →
    Both P (λ y. Both (IsMark close) (λ _. Is y)) us x → Enclosed d begin close P (word begin ∷ us) x
enclosed {T} d begin close P shallow us x b =
    let F : T → Type 0 = λ y. Enclosed d begin close P (word begin ∷ us) y in
    subst F b.two.two.same (record {
      body = b.front;
      split = ap (λ (deep : Bool). (s.Mark begin, deep) ∷ us) (sym shallow)
          ∙ ap (λ (l : List Marked). opens begin d ∷ l)
          (b.parts ∙ ap (λ (l : List Marked). b.front ++ l) (b.two.parts ∙ ap (λ (l : List Marked). l ++ b.two.behind) b.two.one
          ∙ ap (λ (l : List Marked). word close ∷ l) b.two.two.none));
      fits = b.one;
    })

-- a group is possible where its inside is
abbrev pub possibly-enclosed : {T : Type 0} (d : ℕ) (begin close : Mark) (P : List Marked → T → Type 0) → Possible P →
    Possible (Enclosed d begin close P)
possibly-enclosed d begin close P may =
    record {
      list = opens begin d ∷ (may.list ++ word close ∷ []);
      value = may.value;
      fits = record { body = may.list; split = refl; fits = may.fits };
    }

-- a group that nests too deep
too_deep : {T : Type 0} (d : ℕ) (begin close : Mark) (P : List Marked → T → Type 0) → nat_le 64 d ≡ true → Possible P → (ts : List Symbol) →
    first ts ≡ Some (s.Mark begin) → Stops (refuse Nested) (Enclosed d begin close P) ts (fault Nested ts)
too_deep d begin close P deep may ts e =
    let g = possibly-enclosed d begin close P may in
    record {
      used = [];
      here = ts;
      split = refl;
      place = refl;
      again = λ us h. refl;
      ahead = g.list;
      value = g.value;
      goes_on = g.fits;
      nested = λ n. record {
        sign = s.Mark begin;
        others = may.list ++ word close ∷ [];
        begins = ap (λ (b : Bool). (s.Mark begin, b) ∷ (may.list ++ word close ∷ [])) deep;
        stands = e;
      };
    }

-- the inside of a group whose sign stands first
pub inside_told : {T : Type 0} (deeper : Option (Parser T)) (P : List Marked → T → Type 0) (d : ℕ) (begin close : Mark) → Inner deeper P d →
    DescribesAt (Some (s.Mark begin)) (inside_group deeper close) (Enclosed d begin close P)
inside_told None P d begin close i = record { tells = λ ts e. too_deep d begin close P i.1 i.0 ts e }
inside_told (Some p) P d begin close i =
    after (s.Mark begin) (enclosed d begin close P i.1) (bind i.0 (λ x. both (expect_told close) (give x)))

-- a group
pub grouped_told : {T : Type 0} (deeper : Option (Parser T)) (P : List Marked → T → Type 0) (d : ℕ) (begin close : Mark) →
    Inner deeper P d → Describes (grouped begin close deeper) (Enclosed d begin close P)
unfolding grouped
grouped_told {T} deeper P d begin close i =
    choose_by (λ o. grouped_by deeper close (stands begin o)) (λ ts. refl) may (λ o. by o (stands begin o) refl)
  where
    may : Possible (Enclosed d begin close P)
    may = possibly-enclosed d begin close P (possibly-inside deeper P d i)

    by : (o : Option Symbol) (b : Bool) → stands begin o ≡ b → DescribesAt o (grouped_by deeper close b) (Enclosed d begin close P)
    by o true e = standing begin o e (inside_told deeper P d begin close i)
    by o false e = refused_at (Enclosed d begin close P) may o
