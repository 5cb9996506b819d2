-- No public clause cites this file.
-- Parsers over the symbols of a text, of which the rules of the grammar are made.
use Rattle.std.specs.Prelude.{ℕ, zero, suc, Bool, true, false, if◌then◌else◌, Option, Some, None, Result, Ok, Err, List, [], ◌∷◌, length}
use denote.Enum.Bare.{sameb}
use Rattle.sm_syntax.specs.contracts.symbol.Mark.{the_type}
use Rattle.sm_syntax.specs.declared.symbol.Mark.{Mark}
use Rattle.sm_syntax.specs.declared.symbol.Symbol.{Symbol}
use Rattle.sm_syntax.specs.declared.symbol.Symbol.TheVariants as s
pub use Rattle.sm_text.specs.declared.rules.reading.Fault.{Fault}
pub use Rattle.sm_text.specs.declared.rules.reading.FaultKind.{FaultKind}
pub use Rattle.sm_text.specs.declared.rules.reading.FaultKind.TheVariants.{Expected, Nested}

-- the first symbol, if there is one
abbrev pub first : List Symbol → Option Symbol
first [] = None
first (t ∷ ts) = Some t

-- the symbols after the first
abbrev pub rest : List Symbol → List Symbol
rest [] = []
rest (t ∷ ts) = ts

-- a parser: what the front of the symbols stands for and the symbols after it, or a fault
abbrev pub Parser : Type 0 → Type 0
Parser A = List Symbol → Result (A × List Symbol) Fault

-- a fault at the first of these symbols
abbrev pub fault : FaultKind → List Symbol → Fault
fault kind ts = record { kind = kind; left = length ts }

-- goes on after what was read
abbrev pub go_on : {A B : Type 0} → Result (A × List Symbol) Fault → (A → Parser B) →
    Result (B × List Symbol) Fault
go_on (Ok r) next = next r.0 r.1
go_on (Err f) next = Err f

-- one parser and then another
infixl 10 ◌>>=◌
abbrev pub ◌>>=◌ : {A B : Type 0} → Parser A → (A → Parser B) → Parser B
(p >>= next) ts = go_on (p ts) next

-- one parser and then another, where nothing is kept of the first
infixl 10 ◌>>◌
abbrev pub ◌>>◌ : {A B : Type 0} → Parser A → Parser B → Parser B
(p >> q) ts = go_on (p ts) (λ _. q)

-- reads nothing
abbrev pub pure : {A : Type 0} → A → Parser A
pure x ts = Ok (x, ts)

-- looks at the first symbol
abbrev pub peek : Parser (Option Symbol)
peek ts = Ok (first ts, ts)

-- steps past the first symbol
abbrev pub skip : Parser (Unit {0})
skip ts = Ok (tt, rest ts)

-- refuses here
abbrev pub refuse : {A : Type 0} → FaultKind → Parser A
refuse kind ts = Err (fault kind ts)

-- a mark that has to stand here
abbrev pub expect_by : Mark → Option Symbol → Parser (Unit {0})
expect_by m None = refuse Expected
expect_by m (Some (s.Mark found)) = if sameb the_type found m then skip else refuse Expected
expect_by m (Some (s.Number z)) = refuse Expected
expect_by m (Some (s.Name x)) = refuse Expected

unfoldable pub expect : Mark → Parser (Unit {0})
expect m = peek >>= expect_by m

-- reads an item as long as one begins, and puts it to what was gathered before; n is at least the
-- number of items
abbrev pub gather_in : {A B : Type 0} → (Option Symbol → Bool) → Parser A → (B → A → B) → ℕ → B →
    Parser B
gather_in begins one put zero before ts = Ok (before, ts)
gather_in begins one put (suc n) before ts =
    if begins (first ts) then go_on (one ts) (λ x. gather_in begins one put n (put before x))
    else Ok (before, ts)

-- reads an item as long as one begins, and puts it to what was gathered before
unfoldable pub gather : {A B : Type 0} → (Option Symbol → Bool) → Parser A → (B → A → B) → B →
    Parser B
gather begins one put before ts = gather_in begins one put (suc (length ts)) before ts

-- what an operator makes of the parts on its two sides, where one stands there
abbrev pub Operators : Type 0 → Type 0
Operators A = Option Symbol → Option (A → A → A)

-- goes on after an operator, where one stands there and n more may follow
abbrev pub chain_by : {A : Type 0} → Option (A → A → A) → Parser A → ℕ → (A → Parser A) → A →
    Parser A
chain_by None operand n more left ts = Ok (left, ts)
chain_by (Some make) operand zero more left ts = Err (fault Nested ts)
chain_by (Some make) operand (suc n) more left ts =
    go_on (operand (rest ts)) (λ right. more (make left right))

-- operators and operands after the part that was read; at most n operators
abbrev pub chain_in : {A : Type 0} → Operators A → Parser A → ℕ → A → Parser A
chain_in operators operand zero left ts = chain_by (operators (first ts)) operand zero pure left ts
chain_in operators operand (suc n) left ts =
    chain_by (operators (first ts)) operand (suc n) (chain_in operators operand n) left ts

-- the operand after an operator, where n operators may still stand there
abbrev pub next_operand : {A : Type 0} → Parser A → ℕ → Parser A
next_operand operand zero = refuse Nested
next_operand operand (suc n) = skip >> operand

-- how many operators a chain may have
unfoldable pub chain_limit : ℕ
chain_limit = 63

-- operands with an operator between every two, grouped to the left
unfoldable pub chain : {A : Type 0} → Operators A → Parser A → Parser A
chain operators operand = operand >>= λ x. chain_in operators operand chain_limit x

-- the rule inside a group that opens here, where one may open, and the sign that closes it
abbrev pub inside_group : {A : Type 0} → Option (Parser A) → Mark → Parser A
inside_group None close = refuse Nested
inside_group (Some p) close = skip >> (p >>= λ x. expect close >> pure x)

-- whether a mark stands there
abbrev pub stands : Mark → Option Symbol → Bool
stands m None = false
stands m (Some (s.Mark found)) = sameb the_type found m
stands m (Some (s.Number z)) = false
stands m (Some (s.Name x)) = false

-- a group that begins with a sign
abbrev pub grouped_by : {A : Type 0} → Option (Parser A) → Mark → Bool → Parser A
grouped_by p close true = inside_group p close
grouped_by p close false = refuse Expected

unfoldable pub grouped : {A : Type 0} → Mark → Mark → Option (Parser A) → Parser A
grouped begin close p ts = grouped_by p close (stands begin (first ts)) ts
