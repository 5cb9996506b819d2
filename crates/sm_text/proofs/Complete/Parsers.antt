-- A parser on symbols that the grammar spells: it reads them all, or refuses at the first that nests too deep.
use Rattle.sm_text.proofs.Imports.{◌≡◌, ℕ, suc, ◌-◌, ◌<◌, refl, sym, ap, ◌∙◌, arith, Bool, true, false, Option, Some, None, Result, Ok, Err, List, [], ◌∷◌, ◌++◌, length, map, nat_tests, Marked, plain, word, opens, joins, Symbol, Mark, first, Parser, go_on, ◌>>◌, pure, inside_group, Operators, chain_in, gather, Nested, unmarked}
use Rattle.std.specs.Prelude.{nat_le}
use denote.Enum.Bare.{sameb, true_same}
use Rattle.sm_syntax.specs.contracts.symbol.Mark.{the_type}
use Rattle.sm_syntax.specs.declared.symbol.Symbol.TheVariants as s
use Rattle.sm_text.specs.rules.Parsers.{fault, expect, grouped, chain_limit, chain, Fault}
use Rattle.sm_text.proofs.Sound.Gathered.{gather-turn, gather-fault}

-- a refusal at a symbol that nests too deep, or else what comes after it
abbrev pub past : {T : Type 0} → Bool → List Symbol → Result T Fault → Result T Fault
past true ts a = Err (fault Nested ts)
past false ts a = a

-- the answer where `z` follows the symbols: a refusal at the first that nests too deep, or else what comes after them
abbrev pub reach : {T : Type 0} → List Marked → List Symbol → Result T Fault → Result T Fault
reach [] z a = a
reach (t ∷ us) z a = past t.1 (t.0 ∷ (unmarked us ++ z)) (reach us z a)

pub unmarked-append-behind : (us vs : List Marked) (z : List Symbol) → unmarked (us ++ vs) ++ z ≡ unmarked us ++ (unmarked vs ++ z)
unmarked-append-behind [] vs z = refl
unmarked-append-behind (t ∷ us) vs z = ap (λ (l : List Symbol). t.0 ∷ l) (unmarked-append-behind us vs z)

pub reach-append : {T : Type 0} (us vs : List Marked) (z : List Symbol) (a : Result T Fault) →
    reach (us ++ vs) z a ≡ reach us (unmarked vs ++ z) (reach vs z a)
reach-append [] vs z a = refl
reach-append (t ∷ us) vs z a =
    ap (λ (l : List Symbol). past t.1 (t.0 ∷ l) (reach (us ++ vs) z a)) (unmarked-append-behind us vs z)
    ∙ ap (past t.1 (t.0 ∷ (unmarked us ++ (unmarked vs ++ z)))) (reach-append us vs z a)

past-go_on : {T U : Type 0} (deep : Bool) (ts : List Symbol) (a : Result (T × List Symbol) Fault) (next : T → Parser U) →
    go_on (past deep ts a) next ≡ past deep ts (go_on a next)
past-go_on true ts a next = refl
past-go_on false ts a next = refl

-- a parser that goes on after the symbols
pub reach-go_on : {T U : Type 0} (us : List Marked) (z : List Symbol) (a : Result (T × List Symbol) Fault) (next : T → Parser U) →
    go_on (reach us z a) next ≡ reach us z (go_on a next)
reach-go_on [] z a next = refl
reach-go_on (t ∷ us) z a next =
    past-go_on t.1 (t.0 ∷ (unmarked us ++ z)) (reach us z a) next ∙ ap (past t.1 (t.0 ∷ (unmarked us ++ z))) (reach-go_on us z a next)

-- one parser after two others
pub go_on-go_on : {T U V : Type 0} (a : Result (T × List Symbol) Fault) (f : T → Parser U) (next : U → Parser V) →
    go_on (go_on a f) next ≡ go_on a (λ x ts. go_on (f x ts) next)
go_on-go_on (Ok r) f next = refl
go_on-go_on (Err e) f next = refl

pub go_on-pure : {T : Type 0} (a : Result (T × List Symbol) Fault) → go_on a pure ≡ a
go_on-pure (Ok r) = refl
go_on-pure (Err e) = refl

-- a parser reads the first of two lists, and another goes on
pub next : {T U : Type 0} (p : Parser T) (us vs : List Marked) (z : List Symbol) (one : Result (T × List Symbol) Fault)
    (more : T → Parser U) (a : Result (U × List Symbol) Fault) → p (unmarked us ++ (unmarked vs ++ z)) ≡ reach us (unmarked vs ++ z) one →
    go_on one more ≡ reach vs z a → go_on (p (unmarked (us ++ vs) ++ z)) more ≡ reach (us ++ vs) z a
next {T} {U} p us vs z one more a e f =
    ap (λ (l : List Symbol). go_on (p l) more) (unmarked-append-behind us vs z)
    ∙ ap (λ (b : Result (T × List Symbol) Fault). go_on b more) e
    ∙ reach-go_on us (unmarked vs ++ z) one more
    ∙ ap (reach us (unmarked vs ++ z)) f
    ∙ sym (reach-append us vs z a)

same_mark : (m : Mark) → sameb the_type m m ≡ true
same_mark m = true_same the_type m m refl

-- a mark that stands where it has to
pub expected : (m : Mark) (ts : List Symbol) → expect m (s.Mark m ∷ ts) ≡ Ok (tt, ts)
unfolding expect
expected m ts = rw (same_mark m) refl

-- what is read up to a mark that has to stand after it, and what goes on then
pub ended : {T V U : Type 0} (p : Parser T) (m : Mark) (make : T → V) (ts us : List Marked) (x : T) (z : List Symbol) (more : V → Parser U)
    (a : Result (U × List Symbol) Fault) →
    ((y : List Symbol) → p (unmarked ts ++ s.Mark m ∷ y) ≡ reach ts (s.Mark m ∷ y) (Ok (x, s.Mark m ∷ y))) →
    more (make x) (unmarked us ++ z) ≡ reach us z a →
    go_on (go_on (p (unmarked (ts ++ word m ∷ us) ++ z)) (λ (v : T). expect m >> pure (make v))) more ≡ reach (ts ++ word m ∷ us) z a
ended {T} {V} {U} p m make ts us x z more a read e =
    go_on-go_on (p (unmarked (ts ++ word m ∷ us) ++ z)) (λ (v : T). expect m >> pure (make v)) more
    ∙ next p ts (word m ∷ us) z (Ok (x, s.Mark m ∷ (unmarked us ++ z)))
    (λ (v : T) (l : List Symbol). go_on ((expect m >> pure (make v)) l) more) a (read (unmarked us ++ z)) closed
  where
    closed : go_on (go_on (expect m (s.Mark m ∷ (unmarked us ++ z))) (λ (u : Unit {0}). pure (make x))) more ≡ reach us z a
    closed = ap (λ (b : Result (Unit {0} × List Symbol) Fault). go_on (go_on b (λ (u : Unit {0}). pure (make x))) more)
        (expected m (unmarked us ++ z)) ∙ e

-- the rule inside a group reads what stands there, or else no more groups may be opened
abbrev pub Opened : {T : Type 0} → Option (Parser T) → ℕ → List Marked → T → Mark → Type 0
Opened None d ts x close = nat_le 64 d ≡ true
Opened (Some p) d ts x close =
    (nat_le 64 d ≡ false) × ((z : List Symbol) →
    p (unmarked ts ++ s.Mark close ∷ z) ≡ reach ts (s.Mark close ∷ z) (Ok (x, s.Mark close ∷ z)))

-- a group, and what goes on after it
pub inside-then : {T U : Type 0} (deeper : Option (Parser T)) (d : ℕ) (begin close : Mark) (ts us : List Marked) (x : T) (z : List Symbol)
    (more : T → Parser U) (a : Result (U × List Symbol) Fault) → Opened deeper d ts x close → more x (unmarked us ++ z) ≡ reach us z a →
    go_on (inside_group deeper close (s.Mark begin ∷ (unmarked (ts ++ word close ∷ us) ++ z))) more ≡ reach
    (opens begin d ∷ (ts ++ word close ∷ us)) z a
inside-then None d begin close ts us x z more a deep e =
    ap (λ (b : Bool). past b (s.Mark begin ∷ (unmarked (ts ++ word close ∷ us) ++ z)) (reach (ts ++ word close ∷ us) z a)) (sym deep)
inside-then (Some p) d begin close ts us x z more a o e =
    ended p close (λ y. y) ts us x z more a o.1 e
    ∙ ap (λ (b : Bool). past b (s.Mark begin ∷ (unmarked (ts ++ word close ∷ us) ++ z)) (reach (ts ++ word close ∷ us) z a)) (sym o.0)

pub grouped-inside : {T : Type 0} (begin close : Mark) (deeper : Option (Parser T)) (ts : List Symbol) →
    grouped begin close deeper (s.Mark begin ∷ ts) ≡ inside_group deeper close (s.Mark begin ∷ ts)
unfolding grouped
grouped-inside begin close deeper ts = rw (same_mark begin) refl

-- a group whose first sign stands there, as it has to, and what goes on after it
pub grouped-then : {T U : Type 0} (deeper : Option (Parser T)) (d : ℕ) (begin close : Mark) (ts us : List Marked) (x : T) (z : List Symbol)
    (more : T → Parser U) (a : Result (U × List Symbol) Fault) → Opened deeper d ts x close → more x (unmarked us ++ z) ≡ reach us z a →
    go_on (grouped begin close deeper (s.Mark begin ∷ (unmarked (ts ++ word close ∷ us) ++ z))) more ≡ reach
    (opens begin d ∷ (ts ++ word close ∷ us)) z a
grouped-then {T} deeper d begin close ts us x z more a o e =
    ap (λ (b : Result (T × List Symbol) Fault). go_on b more) (grouped-inside begin close deeper (unmarked (ts ++ word close ∷ us) ++ z))
    ∙ inside-then deeper d begin close ts us x z more a o e

-- a mark that has to stand there, and what goes on after it
pub expect-then : {U : Type 0} (m : Mark) (ts : List Symbol) (more : Unit {0} → Parser U) →
    go_on (expect m (s.Mark m ∷ ts)) more ≡ more tt ts
expect-then m ts more = ap (λ (b : Result (Unit {0} × List Symbol) Fault). go_on b more) (expected m ts)

-- how many operators may follow after k
unfoldable pub room : ℕ → ℕ
room k = 63 - k

room-none : (k : ℕ) → nat_le 63 k ≡ true → room k ≡ 0
unfolding room
room-none k e = grind (arith, nat_tests)

room-some : (k : ℕ) → nat_le 63 k ≡ false → room k ≡ suc (room (suc k))
unfolding room
room-some k e = grind (arith, nat_tests)

-- an operator and what stands after it
chain-joins : {T : Type 0} (operators : Operators T) (operand : Parser T) (sign : Mark) (make : T → T → T) (k : ℕ) (left : T)
    (us : List Marked) (z : List Symbol) (one a : Result (T × List Symbol) Fault) → operators (Some (s.Mark sign)) ≡ Some make →
    operand (unmarked us ++ z) ≡ reach us z one →
    go_on one (λ (right : T). chain_in operators operand (room (suc k)) (make left right)) ≡ a →
    chain_in operators operand (room k) left (s.Mark sign ∷ (unmarked us ++ z)) ≡ reach (joins sign k ∷ us) z a
chain-joins {T} operators operand sign make k left us z one a o e f = by (nat_le 63 k) refl
  where
    by : (deep : Bool) → nat_le 63 k ≡ deep → chain_in operators operand (room k) left (s.Mark sign ∷ (unmarked us ++ z)) ≡ past deep
        (s.Mark sign ∷ (unmarked us ++ z)) (reach us z a)
    by true full = rw (room-none k full, o) refl
    by false some = rw (room-some k some, o)
        (ap (λ (b : Result (T × List Symbol) Fault). go_on b (λ (right : T). chain_in operators operand (room (suc k)) (make left right))) e
        ∙ reach-go_on us z one (λ (right : T). chain_in operators operand (room (suc k)) (make left right)) ∙ ap (reach us z) f)

-- one more item, read or refused, and the others after it
pub gather-step : {T U : Type 0} (begins : Option Symbol → Bool) (one : Parser T) (put : U → T → U) →
    ((ts : List Symbol) (x : T) (after : List Symbol) → one ts ≡ Ok (x, after) → length after < length ts) →
    (before : U) (ts : List Symbol) → begins (first ts) ≡ true →
    gather begins one put before ts ≡ go_on (one ts) (λ (x : T). gather begins one put (put before x))
gather-step {T} begins one put shrinks before ts b = by (one ts) refl
  where
    by : (a : Result (T × List Symbol) Fault) → one ts ≡ a →
        gather begins one put before ts ≡ go_on a (λ (x : T). gather begins one put (put before x))
    by (Ok r) e = gather-turn begins one put shrinks before ts r.0 r.1 b e
    by (Err f) e = gather-fault begins one put before ts f b e

-- a list in two parts: what is read of the first comes to the second
pub both-reach : {T : Type 0} (p : Parser T) (us vs : List Marked) (z : List Symbol) (one a : Result (T × List Symbol) Fault) →
    p (unmarked us ++ (unmarked vs ++ z)) ≡ reach us (unmarked vs ++ z) one → one ≡ reach vs z a →
    p (unmarked (us ++ vs) ++ z) ≡ reach (us ++ vs) z a
both-reach p us vs z one a e f =
    ap p (unmarked-append-behind us vs z) ∙ e ∙ ap (reach us (unmarked vs ++ z)) f ∙ sym (reach-append us vs z a)

-- what is read, and what goes on after it
pub reads-then : {T U : Type 0} (ts : List Marked) (z : List Symbol) {b : Result (T × List Symbol) Fault}
    (one : Result (T × List Symbol) Fault) (more : T → Parser U) → b ≡ reach ts z one → go_on b more ≡ reach ts z (go_on one more)
reads-then {T} ts z one more e = ap (λ (c : Result (T × List Symbol) Fault). go_on c more) e ∙ reach-go_on ts z one more

-- one parser after another, and what goes on after both
pub bind-then : {T V U : Type 0} (p : Parser T) (us vs : List Marked) (z : List Symbol) (x : T) (rule : T → Parser V) (more : V → Parser U)
    (a : Result (U × List Symbol) Fault) → p (unmarked us ++ (unmarked vs ++ z)) ≡ reach us (unmarked vs ++ z) (Ok (x, unmarked vs ++ z)) →
    go_on (rule x (unmarked vs ++ z)) more ≡ reach vs z a → go_on (go_on (p (unmarked (us ++ vs) ++ z)) rule) more ≡ reach (us ++ vs) z a
bind-then {T} p us vs z x rule more a e f =
    go_on-go_on (p (unmarked (us ++ vs) ++ z)) rule more
    ∙ next p us vs z (Ok (x, unmarked vs ++ z)) (λ (y : T) (l : List Symbol). go_on (rule y l) more) a e f

pub unmarked-plain : (ts : List Symbol) → unmarked (map plain ts) ≡ ts
unmarked-plain [] = refl
unmarked-plain (t ∷ ts) = ap (λ (l : List Symbol). t ∷ l) (unmarked-plain ts)

-- where nothing nests too deep, all symbols are read
pub reach-plain : {T : Type 0} (ts z : List Symbol) (a : Result T Fault) → reach (map plain ts) z a ≡ a
reach-plain [] z a = refl
reach-plain (t ∷ ts) z a = reach-plain ts z a

-- a chain that begins with an operand
pub chain-first : {T : Type 0} (operators : Operators T) (operand : Parser T) (ts : List Marked) (x : T) (z : List Symbol) →
    operand (unmarked ts ++ z) ≡ reach ts z (Ok (x, z)) →
    chain operators operand (unmarked ts ++ z) ≡ reach ts z (chain_in operators operand (room 0) x z)
unfolding chain chain_limit room
chain-first operators operand ts x z e = reads-then ts z (Ok (x, z)) (λ y. chain_in operators operand 63 y) e

-- a chain with one more operator and operand
pub chain-more : {T : Type 0} (operators : Operators T) (operand : Parser T) (sign : Mark) (make : T → T → T) (k : ℕ) (ts us : List Marked)
    (left right : T) (z : List Symbol) → operators (Some (s.Mark sign)) ≡ Some make →
    ((y : List Symbol) → first y ≡ Some (s.Mark sign) →
    chain operators operand (unmarked ts ++ y) ≡ reach ts y (chain_in operators operand (room k) left y)) →
    operand (unmarked us ++ z) ≡ reach us z (Ok (right, z)) →
    chain operators operand (unmarked (ts ++ joins sign k ∷ us) ++ z) ≡ reach (ts ++ joins sign k ∷ us) z
    (chain_in operators operand (room (suc k)) (make left right) z)
chain-more operators operand sign make k ts us left right z o before e =
    both-reach (chain operators operand) ts (joins sign k ∷ us) z
    (chain_in operators operand (room k) left (s.Mark sign ∷ (unmarked us ++ z)))
    (chain_in operators operand (room (suc k)) (make left right) z) (before (s.Mark sign ∷ (unmarked us ++ z)) refl)
    (chain-joins operators operand sign make k left us z (Ok (right, z)) (chain_in operators operand (room (suc k)) (make left right) z) o e
    refl)
