-- One turn, the end and a fault of each loop that reads a list.
use Rattle.sm_text.proofs.Imports.{◌≡◌, ℕ, zero, suc, ◌+◌, ◌-◌, ◌<◌, ◌≤◌, refl, sym, ap, ◌∙◌, subst, arith, Bool, true, false, Option, Some, None, Result, Ok, Err, List, [], ◌∷◌, ◌++◌, length, IfOk, IfErr, Symbol, Sort, Expression, Condition, Code, Mark, Fillings, CondChain, ExprChain, ReadError, Fails, Gives, Parses, first, rest, go_on, pure, expect, Parser, stands, chain, inside_group, Nested, statements_before, statement_of, Stmt, fun_ext}
use Rattle.std.proofs.Common.{if◌then◌else◌}
use Rattle.std.specs.Borrow.{Bor}
use Rattle.sm_syntax.specs.declared.symbol.Mark.TheVariants as mark
use Rattle.sm_syntax.specs.declared.tree.Name.{Name}
use Rattle.sm_text.specs.declared.rules.conditions.CondChain.TheVariants.{Conjunction, Disjunction}
use Rattle.sm_text.specs.declared.rules.expressions.ExprChain.TheVariants.{Product, Sum}
use Rattle.sm_text.specs.declared.rules.reading.ReadError.TheVariants as error
use Rattle.sm_text.specs.rules.Parsers.{fault, chain_limit, Fault}
use Rattle.sm_text.specs.rules.Reading as r
use Rattle.sm_syntax.proofs.Blocks.{sequence-push}
use Rattle.sm_text.proofs.Sound.Parsers.{shorter}
use Rattle.sm_text.proofs.Sound.Gathered.{gather-end}
use Rattle.sm_text.proofs.Sound.Names.{takes_next_name, next_name_told, declaration_told}
use Rattle.sm_text.proofs.Sound.Statements.{statement_told, block_told}
use Rattle.sm_text.proofs.Sound.Sections.{filling_told}

-- a test of the first symbol, made step by step
pub tested : (test : Option Symbol → Bool) {o p : Option Symbol} {b v : Bool} → o ≡ p → b ≡ test o → b ≡ v → test p ≡ v
tested test e f g = ap test (sym e) ∙ sym f ∙ g

-- what a function of the first symbol gives, step by step
pub found : {T : Type 0} (f : Option Symbol → T) {o p : Option Symbol} {v : T} → o ≡ p → v ≡ f o → f p ≡ v
found f e g = ap f (sym e) ∙ sym g

-- the exit at an error of an item
pub leaves : {U V W : Type 0} (w : U → W) (result : Result U ReadError) (e : ReadError) → (y : ReadError) × (result ≡ Err y) × (y ≡ e) →
    (one : Result V Fault) (whole : Result W Fault) → Fails e one → ((f : Fault) → one ≡ Err f → whole ≡ Err f) → Gives w result whole
leaves w result (error.Fault f) p one whole fails same = rw (p.1, p.2) (same f fails)
leaves w result error.Memory p one whole fails same = rw (p.1, p.2) tt

pub next_name-shorter : (ts : List Symbol) (x : Name) (after : List Symbol) → r.next_name ts ≡ Ok (x, after) → length after < length ts
next_name-shorter = shorter takes_next_name next_name_told

pub declaration-shorter : (ts : List Symbol) (x : List (ℕ × Sort)) (after : List Symbol) → r.declaration ts ≡ Ok (x, after) →
    length after < length ts
declaration-shorter = shorter (λ us x i. i.some) declaration_told

-- a statement takes at least one symbol
abbrev pub Shrinks : {T : Type 0} → Parser T → Type 0
Shrinks {T} p = (ts : List Symbol) (x : T) (after : List Symbol) → p ts ≡ Ok (x, after) → length after < length ts

pub statement-shorter : (n : ℕ) → n ≤ 64 → Shrinks (r.statement n (r.block n))
statement-shorter n h = let e : (64 - n) + n ≡ 64 =
    omega (arith, h) in shorter (λ us x i. i.some) (statement_told n (64 - n) e (r.block n) (block_told n (64 - n) e))

pub filling-shorter : (ts : List Symbol) (x : ℕ × Code) (after : List Symbol) → r.hole_filling ts ≡ Ok (x, after) → length after < length ts
filling-shorter = shorter (λ us x i. i.some) filling_told

-- the end of each list
pub more_names-end : (before : List ℕ) (ts : List Symbol) → stands mark.Comma (first ts) ≡ false → r.more_names before ts ≡ Ok (before, ts)
unfolding r.more_names
more_names-end before ts b = gather-end (stands mark.Comma) r.next_name r.with_name before ts b

pub more_declarations-end : (before : List (ℕ × Sort)) (ts : List Symbol) → r.begins_declaration (first ts) ≡ false →
    r.more_declarations before ts ≡ Ok (before, ts)
unfolding r.more_declarations
more_declarations-end before ts b = gather-end r.begins_declaration r.declaration ◌++◌ before ts b

pub more_statements-end : (n : ℕ) (before : Code → Code) (ts : List Symbol) → r.begins_statement (first ts) ≡ false →
    r.more_statements n (r.block n) before ts ≡ Ok (before, ts)
unfolding r.more_statements
more_statements-end n before ts b = gather-end r.begins_statement (r.statement n (r.block n)) r.with_statement before ts b

pub more_fillings-end : (before : Fillings) (ts : List Symbol) → stands mark.Question (first ts) ≡ false →
    r.more_fillings before ts ≡ Ok (before, ts)
unfolding r.more_fillings
more_fillings-end before ts b = gather-end (stands mark.Question) r.hole_filling r.with_filling before ts b

-- one more statement at the end
pub front-push : (list : List Stmt) (one : Stmt) → statements_before (list ++ one ∷ []) ≡ r.with_statement (statements_before list)
    (statement_of one)
front-push list one = fun_ext (λ k. sequence-push list one k)

-- a chain of either kind, by its operators and operands
pub expression_chain-is : (deeper : Option (Parser Expression)) (c : ExprChain) →
    r.expression_chain deeper c ≡ chain (r.expression_operators c) (r.expression_operand deeper c)
unfolding r.product r.sum
expression_chain-is deeper Product = refl
expression_chain-is deeper Sum = refl

pub condition_chain-is : (deeper : Option (Parser Condition)) (value : Parser Expression) (c : CondChain) →
    r.condition_chain deeper value c ≡ chain (r.condition_operators c) (r.condition_operand deeper value c)
unfolding r.conjunction r.disjunction
condition_chain-is deeper value Conjunction = refl
condition_chain-is deeper value Disjunction = refl

-- the limits, as numbers
pub chain_limit-is : chain_limit ≡ 63
unfolding chain_limit
chain_limit-is = refl

pub group_limit-is : r.group_limit ≡ 64
unfolding r.group_limit
group_limit-is = refl

pub list_limit-is : r.list_limit ≡ 63
unfolding r.list_limit
list_limit-is = refl

-- the rule inside a group, where none may be opened, and where one may
pub inner_sum-none : (n : ℕ) → n ≡ 0 → r.inner_sum n ≡ None
unfolding r.inner_sum
inner_sum-none zero e = refl
inner_sum-none (suc n) e = absurd (omega (arith, e))

pub inner_sum-some : (n : ℕ) → (n ≡ 0 → ⊥) → r.inner_sum n ≡ Some (r.sum (r.inner_sum (n - 1)))
unfolding r.inner_sum
inner_sum-some zero some = absurd (some refl)
inner_sum-some (suc n) some = let less : suc n - 1 ≡ n = omega arith in rw less refl

pub inner_condition-none : (n : ℕ) → n ≡ 0 → r.inner_condition n ≡ None
unfolding r.inner_condition
inner_condition-none zero e = refl
inner_condition-none (suc n) e = absurd (omega (arith, e))

pub inner_condition-some : (n : ℕ) → (n ≡ 0 → ⊥) →
    r.inner_condition n ≡ Some (r.disjunction (r.inner_condition (n - 1)) (r.expression (n - 1)))
unfolding r.inner_condition
inner_condition-some zero some = absurd (some refl)
inner_condition-some (suc n) some = let less : suc n - 1 ≡ n = omega arith in rw less refl

pub inner_block-none : (n : ℕ) → n ≡ 0 → r.inner_block n ≡ None
unfolding r.inner_block
inner_block-none zero e = refl
inner_block-none (suc n) e = absurd (omega (arith, e))

pub inner_block-some : (n : ℕ) → (n ≡ 0 → ⊥) → r.inner_block n ≡ Some (r.statements (n - 1) (r.block (n - 1)))
unfolding r.inner_block r.block
inner_block-some zero some = absurd (some refl)
inner_block-some (suc n) some = let less : suc n - 1 ≡ n = omega arith in rw less refl

-- a group: refused where none may be opened
pub inside-none : {T : Type 0} (deeper : Option (Parser T)) (close : Mark) (ts : List Symbol) → deeper ≡ None →
    inside_group deeper close ts ≡ Err (fault Nested ts)
inside-none deeper close ts e = rw e refl

-- a group that is read
pub inside-reads : {T : Type 0} (deeper : Option (Parser T)) (p : Parser T) (close : Mark) (ts : List Symbol) (x : T)
    (after end : List Symbol) → deeper ≡ Some p → p (rest ts) ≡ Ok (x, after) → expect close after ≡ Ok (tt, end) →
    inside_group deeper close ts ≡ Ok (x, end)
inside-reads deeper p close ts x after end e one two = rw (e, one, two) refl

-- a group whose inside is refused
pub inside-fails : {T : Type 0} (deeper : Option (Parser T)) (p : Parser T) (close : Mark) (ts : List Symbol) → deeper ≡ Some p →
    (f : Fault) → p (rest ts) ≡ Err f → inside_group deeper close ts ≡ Err f
inside-fails deeper p close ts e f one = rw (e, one) refl

-- a group that isn't closed
pub inside-open : {T : Type 0} (deeper : Option (Parser T)) (p : Parser T) (close : Mark) (ts : List Symbol) (x : T) (after : List Symbol) →
    deeper ≡ Some p → p (rest ts) ≡ Ok (x, after) → (f : Fault) → expect close after ≡ Err f → inside_group deeper close ts ≡ Err f
inside-open deeper p close ts x after e one f two = rw (e, one, two) refl

-- a group, by what stands behind its inside
pub inside-followed : {A T : Type 0} (view : A → T) (deeper : Option (Parser T)) (p : Parser T) (close : Mark) (ts : List Symbol) (value : A)
    (after : List Symbol) (result : Result (A × Bor (List Symbol)) ReadError) → deeper ≡ Some p → p (rest ts) ≡ Ok (view value, after) →
    IfOk result (λ x. (x.0 ≡ value) × (expect close after ≡ Ok (tt, x.1.now))) → IfErr result (λ e. Fails e (expect close after)) →
    Parses view result (inside_group deeper close ts)
inside-followed {A} {T} view deeper p close ts value after (Ok x) e one ok err =
    let Read : A → Type 0 = λ v. p (rest ts) ≡ Ok (view v, after) in
    inside-reads deeper p close ts (view x.0) after x.1.now e (subst Read (sym ok.0) one) ok.1
inside-followed view deeper p close ts value after (Err (error.Fault f)) e one ok err =
    inside-open deeper p close ts (view value) after e one f err
inside-followed view deeper p close ts value after (Err error.Memory) e one ok err = tt

-- what was read behind something else
pub beside-reads : {B C : Type 0} (view : B → C) (read : Result (B × Bor (List Symbol)) ReadError) (reading : Result (C × List Symbol) Fault)
    (x : B) (after : Bor (List Symbol)) → Parses view read reading → read ≡ Ok (x, after) → reading ≡ Ok (view x, after.now)
beside-reads view read reading x after h same = subst (λ r. Parses view r reading) same h

-- what wasn't
pub beside-fails : {B C : Type 0} (view : B → C) (read : Result (B × Bor (List Symbol)) ReadError) (reading : Result (C × List Symbol) Fault)
    (e : ReadError) → Parses view read reading → read ≡ Err e → Fails e reading
beside-fails view read reading e h same = subst (λ r. Parses view r reading) same h

-- what was read, where it is the same as another
pub read-as : {A B : Type 0} (view : A → B) (reading : Result (B × List Symbol) Fault) (x y : A) (after : List Symbol) →
    reading ≡ Ok (view x, after) → x ≡ y → reading ≡ Ok (view y, after)
read-as {A} {B} view reading x y after h same =
    let Read : A → Type 0 = λ z. reading ≡ Ok (view z, after) in
    subst Read same h

-- what was read, by the mark that has to stand behind it
pub followed-reads : {A B : Type 0} (view : A → B) (m : Mark) (ts : List Symbol) (value : A) (result : Result (A × Bor (List Symbol)) ReadError) →
    IfOk result (λ x. (x.0 ≡ value) × (expect m ts ≡ Ok (tt, x.1.now))) → IfErr result (λ e. Fails e (expect m ts)) →
    Parses view result (go_on (expect m ts) (λ _. pure (view value)))
followed-reads view m ts value (Ok x) ok err =
    let one : expect m ts ≡ Ok (tt, x.1.now) = ok.1 in
    let same : x.0 ≡ value = ok.0 in
    rw (one, same) refl
followed-reads view m ts value (Err (error.Fault f)) ok err = let one : expect m ts ≡ Err f = err in rw one refl
followed-reads view m ts value (Err error.Memory) ok err = tt

-- an operator that stands there, by a test, and none
pub stood : {T : Type 0} (operators : Option Symbol → Option T) (make : T) {o p : Option Symbol} {b : Bool} → o ≡ p →
    operators o ≡ (if b then Some make else None) → b ≡ true → operators p ≡ Some make
stood {T} operators make e f g = ap operators (sym e) ∙ f ∙ ap (λ (c : Bool). if c then Some make else None) g

pub unstood : {T : Type 0} (operators : Option Symbol → Option T) (make : T) {o p : Option Symbol} {b : Bool} → o ≡ p →
    operators o ≡ (if b then Some make else None) → b ≡ false → operators p ≡ None
unstood {T} operators make e f g = ap operators (sym e) ∙ f ∙ ap (λ (c : Bool). if c then Some make else None) g
