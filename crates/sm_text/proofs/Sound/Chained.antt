-- Chains of operators that group to the left.
use Rattle.sm_text.proofs.Imports.{◌≡◌, ℕ, suc, zero, ◌+◌, ◌-◌, ◌≤◌, refl, sym, ap, ◌∙◌, subst, arith, Bool, true, false, Option, Some, None, Result, Ok, Err, List, [], ◌∷◌, ◌++◌, map, append_assoc, nat_tests, Marked, plain, joins, Symbol, Mark, first, rest, Parser, go_on, pure, stands, Operators, chain_by, chain_in, next_operand, Nested}
use Rattle.std.specs.Prelude.{nat_le, if◌then◌else◌}
use Rattle.std.proofs.lemmas.List.{append-nil}
use Rattle.sm_syntax.specs.declared.symbol.Symbol.TheVariants as s
use Rattle.sm_text.specs.rules.Parsers.{fault, chain_limit, chain, Fault}
use Rattle.sm_text.proofs.Sound.Parsers.{Takes, Stops, Told, Describes, Both, map-plain-append, begins-alike, bind, weaken}
use Rattle.sm_text.proofs.Sound.Choices.{stands-is}

-- the part that was read, and the operators and operands after it; n more operators may follow
pub record Chained {T : Type 0} (R : ℕ → List Marked → T → Type 0) (n : ℕ) (left : T) (us : List Marked) (x : T) : Type 0 where
  pub goes : (k : ℕ) (ts : List Marked) → k + n ≡ 63 → R k ts left → (j : ℕ) × R j (ts ++ us) x

-- a sign that stands there, and what it makes of two parts
pub record Joins {T : Type 0} (R : ℕ → List Marked → T → Type 0) (Q : List Marked → T → Type 0) (o : Option Symbol)
    (make : T → T → T) : Type 0 where
  pub sign : Mark
  pub stood : o ≡ Some (s.Mark sign)
  pub makes : (k : ℕ) (ts us : List Marked) (x y : T) → R k ts x → Q us y → R (suc k) (ts ++ joins sign k ∷ us) (make x y)

-- a chain with so many operators
pub record IsChain {T : Type 0} (R : ℕ → List Marked → T → Type 0) (us : List Marked) (x : T) : Type 0 where
  pub operators : ℕ
  pub spelled : R operators us x

-- a sign that stands there, or else another operator
pub joins_if : {T : Type 0} {R : ℕ → List Marked → T → Type 0} {Q : List Marked → T → Type 0} (m : Mark) (this : T → T → T)
    (o : Option Symbol) (others : Option (T → T → T)) (make : T → T → T) →
    ((k : ℕ) (ts us : List Marked) (x y : T) → R k ts x → Q us y → R (suc k) (ts ++ joins m k ∷ us) (this x y)) →
    (others ≡ Some make → Joins R Q o make) →
    (if stands m o then Some this else others) ≡ Some make → Joins R Q o make
joins_if {T} {R} {Q} m this o others make makes other = by (stands m o) refl
  where
    by : (b : Bool) → stands m o ≡ b → (if b then Some this else others) ≡ Some make → Joins R Q o make
    by true f p =
        let same : this ≡ make = cc in
        let F : (T → T → T) → Type 0 = λ v. Joins R Q o v in
        subst F same (record { sign = m; stood = stands-is m o f; makes = makes })
    by false f p = other p

-- no operator makes anything
pub joins_none : {T : Type 0} {R : ℕ → List Marked → T → Type 0} {Q : List Marked → T → Type 0} (o : Option Symbol) (make : T → T → T) →
    (let p : Option (T → T → T) = None in p) ≡ Some make → Joins R Q o make
joins_none o make p = cc

full : (k : ℕ) → k + 0 ≡ 63 → nat_le 63 k ≡ true
full k e = grind (arith, nat_tests)

few : (k n : ℕ) → k + suc n ≡ 63 → nat_le 63 k ≡ false
few k n e = grind (arith, nat_tests)

module _ {T : Type 0} (operators : Operators T) (operand : Parser T) (R : ℕ → List Marked → T → Type 0) (Q : List Marked → T → Type 0)
    (reads : Describes operand Q) (joined : (o : Option Symbol) (make : T → T → T) → operators o ≡ Some make → Joins R Q o make) where
  abbrev chain_from : ℕ → T → Parser T
  chain_from n left = chain_in operators operand n left

  stops : (n : ℕ) (left : T) → Chained R n left [] left
  stops n left = record { goes = λ k l e r. (k, end k l r) }
    where
      end : (k : ℕ) (l : List Marked) → R k l left → R k (l ++ []) left
      end k l r = let F : List Marked → Type 0 = λ m. R k m left in subst F (sym (append-nil l)) r

  -- an operator and its operand before the others
  one_before : (n : ℕ) (left right last : T) (make : T → T → T) (t : Symbol) (us vs : List Marked) → Joins R Q (Some t) make → Q us right →
      Chained R n (make left right) vs last → Chained R (suc n) left (plain t ∷ (us ++ vs)) last
  one_before n left right last make t us vs j q others = record { goes = goes }
    where
      same : t ≡ s.Mark j.sign
      same = let stood = j.stood in cc

      goes : (k : ℕ) (l : List Marked) → k + suc n ≡ 63 → R k l left → (i : ℕ) × R i (l ++ plain t ∷ (us ++ vs)) last
      goes k l e x =
          let made : R (suc k) (l ++ joins j.sign k ∷ us) (make left right) = j.makes k l us left right x q in
          let next : (i : ℕ) × R i ((l ++ joins j.sign k ∷ us) ++ vs) last =
          others.goes (suc k) (l ++ joins j.sign k ∷ us) (omega (arith, e)) made in
          let F : List Marked → Type 0 = λ m. R next.0 m last in
          let sign : joins j.sign k ≡ plain t = ap (λ (deep : Bool). (s.Mark j.sign, deep)) (few k n e) ∙ ap plain (sym same) in
          let line : (l ++ joins j.sign k ∷ us) ++ vs ≡ l ++ plain t ∷ (us ++ vs) =
          append_assoc l (joins j.sign k ∷ us) vs ∙ ap (λ (v : Marked). l ++ v ∷ (us ++ vs)) sign in
          (next.0, subst F line next.1)

  -- an operator where no more may follow
  one_too_many : (left right : T) (make : T → T → T) (o : Option Symbol) → (j : Joins R Q o make) → (us : List Marked) → Q us right →
      Chained R 0 left ((s.Mark j.sign, true) ∷ us) (make left right)
  one_too_many left right make o j us q = record { goes = goes }
    where
      goes : (k : ℕ) (l : List Marked) → k + 0 ≡ 63 → R k l left → (i : ℕ) × R i (l ++ (s.Mark j.sign, true) ∷ us) (make left right)
      goes k l e x =
          let F : Bool → Type 0 = λ deep. R (suc k) (l ++ (s.Mark j.sign, deep) ∷ us) (make left right) in
          (suc k, subst F (full k e) (j.makes k l us left right x q))

  turn : (n : ℕ) (left : T) (make : T → T → T) (t : Symbol) (ts : List Symbol) → operators (Some t) ≡ Some make →
      chain_from (suc n) left (t ∷ ts) ≡ go_on (operand ts) (λ right. chain_from n (make left right))
  turn n left make t ts e = ap (λ (o : Option (T → T → T)). chain_by o operand (suc n) (chain_from n) left (t ∷ ts)) e

  -- a turn before symbols that begin alike
  turn_again : (n : ℕ) (left right : T) (make : T → T → T) (t : Symbol) (ts after used here us : List Symbol) →
      operators (Some t) ≡ Some make → (q : Takes operand Q ts right after) → after ≡ used ++ here → first us ≡ first here →
      chain_from (suc n) left ((t ∷ (q.used ++ used)) ++ us) ≡ chain_from n (make left right) (used ++ us)
  turn_again n left right make t ts after used here us o q split e =
      turn n left make t ((q.used ++ used) ++ us) o
      ∙ ap (λ (l : List Symbol). go_on (operand l) (λ x. chain_from n (make left x))) (append_assoc q.used used us)
      ∙ ap (λ (a : Result (T × List Symbol) Fault). go_on a (λ x. chain_from n (make left x)))
      (q.again (used ++ us) (begins-alike used us here after split e))

  one_more : (n : ℕ) (left right : T) (make : T → T → T) (t : Symbol) (ts after : List Symbol) → operators (Some t) ≡ Some make →
      Takes operand Q ts right after → (r : Result (T × List Symbol) Fault) →
      Told (chain_from n (make left right)) (Chained R n (make left right)) after r →
      Told (chain_from (suc n) left) (Chained R (suc n) left) (t ∷ ts) r
  one_more n left right make t ts after o q (Ok r) told =
      let F : List Marked → Type 0 = λ us. Chained R (suc n) left (plain t ∷ us) r.0 in
      record {
        used = t ∷ (q.used ++ told.used);
        split = ap (λ (l : List Symbol). t ∷ l) (q.split ∙ ap (λ (l : List Symbol). q.used ++ l) told.split
            ∙ sym (append_assoc q.used told.used r.1));
        fits = subst F (sym (map-plain-append q.used told.used))
            (one_before n left right r.0 make t (map plain q.used) (map plain told.used) (joined (Some t) make o) q.fits told.fits);
        again = λ us e. turn_again n left right make t ts after told.used r.1 us o q told.split e ∙ told.again us e;
      }
  one_more n left right make t ts after o q (Err f) told =
      let F : List Marked → Type 0 = λ us. Chained R (suc n) left (plain t ∷ us) told.value in
      record {
        used = t ∷ (q.used ++ told.used);
        here = told.here;
        split = ap (λ (l : List Symbol). t ∷ l) (q.split ∙ ap (λ (l : List Symbol). q.used ++ l) told.split
            ∙ sym (append_assoc q.used told.used told.here));
        place = told.place;
        again = λ us e. turn_again n left right make t ts after told.used told.here us o q told.split e ∙ told.again us e;
        ahead = told.ahead;
        value = told.value;
        goes_on = subst F (sym (ap (λ (l : List Marked). l ++ told.ahead) (map-plain-append q.used told.used)
            ∙ append_assoc (map plain q.used) (map plain told.used) told.ahead))
            (one_before n left right told.value make t (map plain q.used) (map plain told.used ++ told.ahead) (joined (Some t) make o)
            q.fits told.goes_on);
        nested = told.nested;
      }

  cut_off : (n : ℕ) (left : T) (make : T → T → T) (t : Symbol) (ts : List Symbol) (f : Fault) → operators (Some t) ≡ Some make →
      Stops operand Q ts f → Stops (chain_from (suc n) left) (Chained R (suc n) left) (t ∷ ts) f
  cut_off n left make t ts f o q =
      let F : List Marked → Type 0 = λ us. Chained R (suc n) left (plain t ∷ us) (make left q.value) in
      record {
        used = t ∷ q.used;
        here = q.here;
        split = ap (λ (l : List Symbol). t ∷ l) q.split;
        place = q.place;
        again = λ us e. turn n left make t (q.used ++ us) o
            ∙ ap (λ (a : Result (T × List Symbol) Fault). go_on a (λ x. chain_from n (make left x))) (q.again us e);
        ahead = q.ahead;
        value = make left q.value;
        goes_on = subst F (append-nil (map plain q.used ++ q.ahead))
            (one_before n left q.value (make left q.value) make t (map plain q.used ++ q.ahead) [] (joined (Some t) make o) q.goes_on
            (stops n (make left q.value)));
        nested = q.nested;
      }

  by_operand : (n : ℕ) (left : T) (make : T → T → T) (t : Symbol) (ts : List Symbol) → operators (Some t) ≡ Some make →
      ((right : T) (after : List Symbol) → Told (chain_from n (make left right)) (Chained R n (make left right)) after
      (chain_from n (make left right) after)) → (r : Result (T × List Symbol) Fault) → Told operand Q ts r →
      Told (chain_from (suc n) left) (Chained R (suc n) left) (t ∷ ts) (go_on r (λ right. chain_from n (make left right)))
  by_operand n left make t ts o others (Ok r) told =
      one_more n left r.0 make t ts r.1 o told (chain_from n (make left r.0) r.1) (others r.0 r.1)
  by_operand n left make t ts o others (Err f) told = cut_off n left make t ts f o told

  none_some : {m : Mark} → (let o : Option Symbol = None in o) ≡ Some (s.Mark m) → ⊥
  none_some p = cc

  -- the end of a chain
  at_end : (n : ℕ) (left : T) (ts : List Symbol) → operators (first ts) ≡ None →
      ((us : List Symbol) → operators (first us) ≡ None → chain_from n left us ≡ Ok (left, us)) →
      Takes (chain_from n left) (Chained R n left) ts left ts
  at_end n left ts o same = record { used = []; split = refl; fits = stops n left; again = λ us e. same us (ap operators e ∙ o) }

  by_operator : (n : ℕ) (left : T) (ts : List Symbol) (o : Option (T → T → T)) → operators (first ts) ≡ o →
      ((make : T → T → T) (right : T) (after : List Symbol) → Told (chain_from n (make left right)) (Chained R n (make left right)) after
      (chain_from n (make left right) after)) →
      Told (chain_from (suc n) left) (Chained R (suc n) left) ts (chain_by o operand (suc n) (chain_from n) left ts)
  by_operator n left ts None e others =
      at_end (suc n) left ts e (λ us none. ap (λ (o : Option (T → T → T)). chain_by o operand (suc n) (chain_from n) left us) none)
  by_operator n left [] (Some make) e others = absurd (none_some (joined None make e).stood)
  by_operator n left (t ∷ ts) (Some make) e others = by_operand n left make t ts e (others make) (operand ts) (reads.tells ts)

  too_many : (left : T) (ts : List Symbol) (make : T → T → T) → operators (first ts) ≡ Some make →
      Stops (chain_from 0 left) (Chained R 0 left) ts (fault Nested ts)
  too_many left ts make o =
      let j = joined (first ts) make o in
      let may = reads.possible in
      record {
        used = [];
        here = ts;
        split = refl;
        place = refl;
        again = λ us e. ap (λ (p : Option (T → T → T)). chain_by p operand zero pure left us) (ap operators e ∙ o);
        ahead = (s.Mark j.sign, true) ∷ may.list;
        value = make left may.value;
        goes_on = one_too_many left may.value make (first ts) j may.list may.fits;
        nested = λ n. record { sign = s.Mark j.sign; others = may.list; begins = refl; stands = j.stood };
      }

  at_limit : (left : T) (ts : List Symbol) (o : Option (T → T → T)) → operators (first ts) ≡ o →
      Told (chain_from 0 left) (Chained R 0 left) ts (chain_by o operand zero pure left ts)
  at_limit left ts None e = at_end 0 left ts e (λ us none. ap (λ (o : Option (T → T → T)). chain_by o operand zero pure left us) none)
  at_limit left ts (Some make) e = too_many left ts make e

  chain_tells : (n : ℕ) (left : T) (ts : List Symbol) → Told (chain_from n left) (Chained R n left) ts (chain_from n left ts)
  chain_tells zero left ts = at_limit left ts (operators (first ts)) refl
  chain_tells (suc n) left ts =
      by_operator n left ts (operators (first ts)) refl (λ make right after. chain_tells n (make left right) after)

  -- what a chain reads
  pub chain_told : (n : ℕ) (left : T) → Describes (chain_in operators operand n left) (Chained R n left)
  chain_told n left = record { tells = λ ts. chain_tells n left ts; possible = record { list = []; value = left; fits = stops n left } }

  is_chain : ((us : List Marked) (x : T) → Q us x → R 0 us x) → (us : List Marked) (x : T) → Both Q (λ y. Chained R 63 y) us x →
      IsChain R us x
  is_chain begins us x b =
      let c = b.two.goes 0 b.front refl (begins b.front b.value b.one) in
      let F : List Marked → Type 0 = λ l. R c.0 l x in
      record { operators = c.0; spelled = subst F (sym b.parts) c.1 }

  -- a whole chain, where an operand begins one
  pub chain_reads : ((us : List Marked) (x : T) → Q us x → R 0 us x) → Describes (chain operators operand) (IsChain R)
  unfolding chain chain_limit
  chain_reads begins = weaken (is_chain begins) (bind reads (λ x. chain_told 63 x))

-- what a chain begins with
pub chain-begins : {T : Type 0} (operators : Operators T) (operand : Parser T) (ts : List Symbol) (x : T) (after : List Symbol) →
    operand ts ≡ Ok (x, after) → chain operators operand ts ≡ chain_in operators operand 63 x after
unfolding chain chain_limit
chain-begins operators operand ts x after e = rw e refl

-- a chain whose first operand is refused
pub chain-refused : {T : Type 0} (operators : Operators T) (operand : Parser T) (ts : List Symbol) (f : Fault) → operand ts ≡ Err f →
    chain operators operand ts ≡ Err f
unfolding chain
chain-refused operators operand ts f e = rw e refl

-- the end of a chain
pub chain-end : {T : Type 0} (operators : Operators T) (operand : Parser T) (n : ℕ) (left : T) (ts : List Symbol) →
    operators (first ts) ≡ None → chain_in operators operand n left ts ≡ Ok (left, ts)
chain-end operators operand zero left ts e = rw e refl
chain-end operators operand (suc n) left ts e = rw e refl

-- an operator and its operand
pub chain-turn : {T : Type 0} (operators : Operators T) (operand : Parser T) (n : ℕ) (left : T) (ts : List Symbol) (make : T → T → T)
    (right : T) (after : List Symbol) → operators (first ts) ≡ Some make → next_operand operand n ts ≡ Ok (right, after) →
    chain_in operators operand n left ts ≡ chain_in operators operand (n - 1) (make left right) after
chain-turn operators operand zero left ts make right after e h = absurd cc
chain-turn operators operand (suc n) left ts make right after e h =
    let one : operand (rest ts) ≡ Ok (right, after) = h in
    let less : suc n - 1 ≡ n = omega arith in
    rw (e, one, less) refl

-- an operand that is refused
pub chain-fault : {T : Type 0} (operators : Operators T) (operand : Parser T) (n : ℕ) (left : T) (ts : List Symbol) (make : T → T → T) →
    operators (first ts) ≡ Some make → (f : Fault) → next_operand operand n ts ≡ Err f → chain_in operators operand n left ts ≡ Err f
chain-fault operators operand zero left ts make e f h = rw e h
chain-fault operators operand (suc n) left ts make e f h = let one : operand (rest ts) ≡ Err f = h in rw (e, one) refl

-- the operand after an operator: refused where no operator may stand there
pub next-none : {T : Type 0} (operand : Parser T) (n : ℕ) (ts : List Symbol) → n ≡ 0 → next_operand operand n ts ≡ Err (fault Nested ts)
next-none operand zero ts none = refl
next-none operand (suc n) ts none = absurd (omega (arith, none))

pub next-some : {T : Type 0} (operand : Parser T) (n : ℕ) (ts : List Symbol) → (n ≡ 0 → ⊥) → next_operand operand n ts ≡ operand (rest ts)
next-some operand zero ts some = absurd (some refl)
next-some operand (suc n) ts some = refl

-- where it is read, an operator may stand there
pub next-room : {T : Type 0} (operand : Parser T) (n : ℕ) (ts : List Symbol) (r : T × List Symbol) → next_operand operand n ts ≡ Ok r → 1 ≤ n
next-room operand zero ts r h = absurd cc
next-room operand (suc n) ts r h = omega arith
