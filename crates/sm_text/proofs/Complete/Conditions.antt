-- Each condition that the grammar spells is read, or refused at the first symbol that nests too deep.
use Rattle.sm_text.proofs.Imports.{◌≡◌, ℕ, suc, zero, ◌+◌, refl, sym, ap, ◌∙◌, subst, arith, Bool, false, Option, Some, None, Result, Ok, List, [], ◌∷◌, ◌++◌, Expression, Condition, Cmp, Eq, Ne, Lt, Le, Gt, Ge, Marked, word, opens, joins, Symbol, Mark, IsExpression, comparison, Rank, IsCondition, first, Parser, go_on, ◌>>=◌, pure, stands, chain_in, unmarked}
use Rattle.sm_syntax.specs.declared.symbol.Mark.TheVariants as mark
use Rattle.sm_syntax.specs.declared.symbol.Symbol.TheVariants as s
use Rattle.sm_syntax.specs.claim.Syntax as plain_code
use Rattle.sm_syntax.specs.text.ExpressionGrammar as exp
use Rattle.sm_syntax.specs.text.ConditionGrammar as cond
use Rattle.sm_text.specs.rules.Parsers.{Fault}
use Rattle.sm_text.specs.rules.Reading as r
use Rattle.sm_text.proofs.Sound.Chained.{chain-end}
use Rattle.sm_text.proofs.Complete.Parsers.{reach, next, reads-then, go_on-pure, Opened, inside-then, room, chain-first, chain-more}
use Rattle.sm_text.proofs.Complete.Expressions.{Ends, full, shallow, expression_read, Begins, number, name, round, minus, begins-append, expression_begins}

-- nothing that stands there goes on with a condition
pub record Closes (o : Option Symbol) : Type 0 where
  pub value : Ends o
  pub conjunction : r.conjunction_operators o ≡ None
  pub disjunction : r.disjunction_operators o ≡ None

-- no condition but a comparison begins there
record Starts (o : Option Symbol) : Type 0 where
  no_true : stands mark.True o ≡ false
  no_false : stands mark.False o ≡ false
  no_square : stands mark.OpenSquare o ≡ false
  no_bang : stands mark.Bang o ≡ false

starts : {ts : List Marked} → Begins ts → (z : List Symbol) → Starts (first (unmarked ts ++ z))
starts (number v us) z = record { no_true = refl; no_false = refl; no_square = refl; no_bang = refl }
starts (name x us) z = record { no_true = refl; no_false = refl; no_square = refl; no_bang = refl }
starts (round d us) z = record { no_true = refl; no_false = refl; no_square = refl; no_bang = refl }
starts (minus us) z = record { no_true = refl; no_false = refl; no_square = refl; no_bang = refl }

test_compares : (deeper : Option (Parser Condition)) (value : Parser Expression) (o : Option Symbol) (ts : List Symbol) → Starts o →
    r.test_at deeper value o ts ≡ r.compared value ts
test_compares deeper value o ts h = rw (h.no_true, h.no_false, h.no_square) refl

comparison_ends : (op : Cmp) → Ends (Some (s.Mark (comparison op)))
comparison_ends Eq = record { square = refl; product = refl; sum = refl }
comparison_ends Ne = record { square = refl; product = refl; sum = refl }
comparison_ends Lt = record { square = refl; product = refl; sum = refl }
comparison_ends Le = record { square = refl; product = refl; sum = refl }
comparison_ends Gt = record { square = refl; product = refl; sum = refl }
comparison_ends Ge = record { square = refl; product = refl; sum = refl }

comparison_found : (op : Cmp) (ts : List Symbol) → r.comparison_sign (s.Mark (comparison op) ∷ ts) ≡ Ok (op, ts)
unfolding r.comparison_sign
comparison_found Eq ts = refl
comparison_found Ne ts = refl
comparison_found Lt ts = refl
comparison_found Le ts = refl
comparison_found Gt ts = refl
comparison_found Ge ts = refl

-- the symbols are read as the condition, at each rank, where n more groups may be opened and k operators stood in the chain
abbrev Claim : Rank → ℕ → ℕ → List Marked → Condition → Type 0
Claim cond.Test n k ts b =
    (z : List Symbol) → (stands mark.Bang (first (unmarked ts ++ z)) ≡ false) × (Ends (first z) →
    r.simple_test (r.inner_condition n) (r.expression n) (unmarked ts ++ z) ≡ reach ts z (Ok (b, z)))
Claim cond.Literal n k ts b =
    (z : List Symbol) → Ends (first z) → r.literal (r.inner_condition n) (r.expression n) (unmarked ts ++ z) ≡ reach ts z (Ok (b, z))
Claim cond.Conjunction n k ts b =
    (z : List Symbol) → Ends (first z) → r.conjunction (r.inner_condition n) (r.expression n) (unmarked ts ++ z) ≡ reach ts z
    (chain_in r.conjunction_operators (r.literal (r.inner_condition n) (r.expression n)) (room k) b z)
Claim cond.Disjunction n k ts b =
    (z : List Symbol) → Ends (first z) → r.conjunction_operators (first z) ≡ None →
    r.disjunction (r.inner_condition n) (r.expression n) (unmarked ts ++ z) ≡ reach ts z
    (chain_in r.disjunction_operators (r.conjunction (r.inner_condition n) (r.expression n)) (room k) b z)

disjunction_ends : (n k : ℕ) (ts : List Marked) (b : Condition) → Claim cond.Disjunction n k ts b → (z : List Symbol) → Closes (first z) →
    r.disjunction (r.inner_condition n) (r.expression n) (unmarked ts ++ z) ≡ reach ts z (Ok (b, z))
disjunction_ends n k ts b read z end =
    read z end.value end.conjunction
    ∙ ap (reach ts z) (chain-end r.disjunction_operators (r.conjunction (r.inner_condition n) (r.expression n))
    (room k) b z end.disjunction)

-- inside a group
condition_opened : (n d k : ℕ) → d + n ≡ 64 → (ts : List Marked) (b : Condition) (close : Mark) → Closes (Some (s.Mark close)) →
    ((m : ℕ) → suc d + m ≡ 64 → Claim cond.Disjunction m k ts b) → Opened (r.inner_condition n) d ts b close
unfolding r.inner_condition
condition_opened zero d k fits ts b close end read = full d fits
condition_opened (suc m) d k fits ts b close end read =
    (shallow d m fits, λ z. disjunction_ends m k ts b (read m (omega (arith, fits))) (s.Mark close ∷ z) end)

always_read : (n : ℕ) → Claim cond.Test n 0 (word mark.True ∷ []) plain_code.Yes
unfolding r.simple_test
always_read n z = (refl, λ h. refl)

never_read : (n : ℕ) → Claim cond.Test n 0 (word mark.False ∷ []) plain_code.No
unfolding r.simple_test
never_read n z = (refl, λ h. refl)

compared_read : (n d j k : ℕ) → d + n ≡ 64 → (ts us : List Marked) (e f : Expression) (op : Cmp) → IsExpression exp.Sum d j ts e →
    IsExpression exp.Sum d k us f → (z : List Symbol) → Ends (first z) →
    r.compared (r.expression n) (unmarked (ts ++ word (comparison op) ∷ us) ++ z) ≡ reach (ts ++ word (comparison op) ∷ us) z
    (Ok (plain_code.Compare op e f, z))
unfolding r.compared
compared_read n d j k fits ts us e f op p q z end =
    next (r.expression n) ts (word (comparison op) ∷ us) z (Ok (e, s.Mark (comparison op) ∷ (unmarked us ++ z)))
    (λ (x : Expression). r.comparison_sign >>= λ (o : Cmp). r.expression n >>= λ (y : Expression). pure (plain_code.Compare o x y))
    (Ok (plain_code.Compare op e f, z)) (expression_read p n fits (s.Mark (comparison op) ∷ (unmarked us ++ z)) (comparison_ends op))
    right
  where
    right : go_on (r.comparison_sign (s.Mark (comparison op) ∷ (unmarked us ++ z)))
        (λ (o : Cmp). r.expression n >>= λ (y : Expression). pure (plain_code.Compare o e y)) ≡ reach us z
        (Ok (plain_code.Compare op e f, z))
    right =
        ap (λ (a : Result (Cmp × List Symbol) Fault).
        go_on a (λ (o : Cmp). r.expression n >>= λ (y : Expression). pure (plain_code.Compare o e y)))
        (comparison_found op (unmarked us ++ z))
        ∙ reads-then us z (Ok (f, z)) (λ (y : Expression). pure (plain_code.Compare op e y)) (expression_read q n fits z end)

compares_read : (n d j k : ℕ) → d + n ≡ 64 → (ts us : List Marked) (e f : Expression) (op : Cmp) → IsExpression exp.Sum d j ts e →
    IsExpression exp.Sum d k us f → Claim cond.Test n 0 (ts ++ word (comparison op) ∷ us) (plain_code.Compare op e f)
unfolding r.simple_test
compares_read n d j k fits ts us e f op p q z =
    let begin = starts (begins-append (expression_begins p) (word (comparison op) ∷ us)) z in (
      begin.no_bang,
      λ end. test_compares (r.inner_condition n) (r.expression n) (first (unmarked (ts ++ word (comparison op) ∷ us) ++ z))
          (unmarked (ts ++ word (comparison op) ∷ us) ++ z) begin ∙ compared_read n d j k fits ts us e f op p q z end,
    )

group_read : (n d k : ℕ) → d + n ≡ 64 → (ts : List Marked) (b : Condition) → ((m : ℕ) → suc d + m ≡ 64 → Claim cond.Disjunction m k ts b) →
    Claim cond.Test n 0 (opens mark.OpenSquare d ∷ (ts ++ word mark.CloseSquare ∷ [])) b
unfolding r.simple_test r.bracketed
group_read n d k fits ts b read z = (
  refl,
  λ h. sym (go_on-pure
      (r.bracketed (r.inner_condition n) (s.Mark mark.OpenSquare ∷ (unmarked (ts ++ word mark.CloseSquare ∷ []) ++ z))))
      ∙ inside-then (r.inner_condition n) d mark.OpenSquare mark.CloseSquare ts [] b z pure (Ok (b, z))
      (condition_opened n d k fits ts b mark.CloseSquare
      (record { value = record { square = refl; product = refl; sum = refl }; conjunction = refl; disjunction = refl }) read) refl,
)

denied_read : (n : ℕ) (ts : List Marked) (b : Condition) → Claim cond.Test n 0 ts b →
    Claim cond.Literal n 0 (word mark.Bang ∷ ts) (plain_code.Not b)
unfolding r.literal
denied_read n ts b read z end = reads-then ts z (Ok (b, z)) (λ (c : Condition). pure (plain_code.Not c)) ((read z).1 end)

as_literal_read : (n : ℕ) (ts : List Marked) (b : Condition) → Claim cond.Test n 0 ts b → Claim cond.Literal n 0 ts b
unfolding r.literal
as_literal_read n ts b read z end =
    ap (λ (x : Bool). r.literal_by (r.inner_condition n) (r.expression n) x (unmarked ts ++ z)) (read z).0 ∙ (read z).1 end

as_conjunction_read : (n : ℕ) (ts : List Marked) (b : Condition) → Claim cond.Literal n 0 ts b → Claim cond.Conjunction n 0 ts b
unfolding r.conjunction
as_conjunction_read n ts b read z end =
    chain-first r.conjunction_operators (r.literal (r.inner_condition n) (r.expression n)) ts b z (read z end)

-- a sign that doesn't go on with an expression, where it stands
ends_at : (sign : Mark) (o : Option Symbol) → Ends (Some (s.Mark sign)) → o ≡ Some (s.Mark sign) → Ends o
ends_at sign o end e = let F : Option Symbol → Type 0 = λ p. Ends p in subst F (sym e) end

both_read : (n k : ℕ) (ts us : List Marked) (b c : Condition) → Claim cond.Conjunction n k ts b → Claim cond.Literal n 0 us c →
    Claim cond.Conjunction n (suc k) (ts ++ joins mark.Both k ∷ us) (plain_code.And b c)
unfolding r.conjunction
both_read n k ts us b c left right z end =
    chain-more r.conjunction_operators (r.literal (r.inner_condition n) (r.expression n)) mark.Both plain_code.And k ts us b c z refl
    (λ y i. left y (ends_at mark.Both (first y) (record { square = refl; product = refl; sum = refl }) i)) (right z end)

-- a conjunction, before what doesn't go on with it
conjunction_ends : (n k : ℕ) (ts : List Marked) (b : Condition) → Claim cond.Conjunction n k ts b → (z : List Symbol) → Ends (first z) →
    r.conjunction_operators (first z) ≡ None → r.conjunction (r.inner_condition n) (r.expression n) (unmarked ts ++ z) ≡ reach ts z
    (Ok (b, z))
conjunction_ends n k ts b read z end p =
    read z end ∙ ap (reach ts z) (chain-end r.conjunction_operators (r.literal (r.inner_condition n) (r.expression n)) (room k) b z p)

as_disjunction_read : (n k : ℕ) (ts : List Marked) (b : Condition) → Claim cond.Conjunction n k ts b → Claim cond.Disjunction n 0 ts b
unfolding r.disjunction
as_disjunction_read n k ts b read z end p =
    chain-first r.disjunction_operators (r.conjunction (r.inner_condition n) (r.expression n)) ts b z
    (conjunction_ends n k ts b read z end p)

either_read : (n k j : ℕ) (ts us : List Marked) (b c : Condition) → Claim cond.Disjunction n k ts b → Claim cond.Conjunction n j us c →
    Claim cond.Disjunction n (suc k) (ts ++ joins mark.Either k ∷ us) (plain_code.Or b c)
unfolding r.disjunction
either_read n k j ts us b c left right z end p =
    chain-more r.disjunction_operators (r.conjunction (r.inner_condition n) (r.expression n)) mark.Either plain_code.Or k ts us b c z refl
    (λ y i. left y (ends_at mark.Either (first y) (record { square = refl; product = refl; sum = refl }) i) (ap r.conjunction_operators i))
    (conjunction_ends n j us c right z end p)

condition_claim : {l : Rank} {d k : ℕ} {ts : List Marked} {b : Condition} → IsCondition l d k ts b → (n : ℕ) → d + n ≡ 64 → Claim l n k ts b
condition_claim (cond.always d) n fits = always_read n
condition_claim (cond.never d) n fits = never_read n
condition_claim (cond.compares {d = d} {j = j} {k = k} {ts = ts} {us = us} {e = e} {f = f} op p q) n fits =
    compares_read n d j k fits ts us e f op p q
condition_claim (cond.group {d = d} {k = k} {ts = ts} {b = b} p) n fits = group_read n d k fits ts b (λ m f. condition_claim p m f)
condition_claim (cond.denied {ts = ts} {b = b} p) n fits = denied_read n ts b (condition_claim p n fits)
condition_claim (cond.as_literal {ts = ts} {b = b} p) n fits = as_literal_read n ts b (condition_claim p n fits)
condition_claim (cond.as_conjunction {ts = ts} {b = b} p) n fits = as_conjunction_read n ts b (condition_claim p n fits)
condition_claim (cond.both {k = k} {ts = ts} {us = us} {b = b} {c = c} p q) n fits =
    both_read n k ts us b c (condition_claim p n fits) (condition_claim q n fits)
condition_claim (cond.as_disjunction {k = k} {ts = ts} {b = b} p) n fits = as_disjunction_read n k ts b (condition_claim p n fits)
condition_claim (cond.either {j = j} {k = k} {ts = ts} {us = us} {b = b} {c = c} p q) n fits =
    either_read n k j ts us b c (condition_claim p n fits) (condition_claim q n fits)

-- a condition is read, before what doesn't go on with it
pub condition_read : {d k : ℕ} {ts : List Marked} {b : Condition} → IsCondition cond.Disjunction d k ts b → (n : ℕ) → d + n ≡ 64 →
    (z : List Symbol) → Closes (first z) → r.condition n (unmarked ts ++ z) ≡ reach ts z (Ok (b, z))
unfolding r.condition
condition_read {k = k} {ts = ts} {b = b} p n fits z end = disjunction_ends n k ts b (condition_claim p n fits) z end

-- the inside of the parentheses after `if` or `while`
pub guard_opened : {d k : ℕ} {ts : List Marked} {b : Condition} → IsCondition cond.Disjunction (suc d) k ts b → (n : ℕ) → d + n ≡ 64 →
    Opened (r.inner_condition n) d ts b mark.CloseRound
guard_opened {d = d} {k = k} {ts = ts} {b = b} p n fits =
    condition_opened n d k fits ts b mark.CloseRound
    (record { value = record { square = refl; product = refl; sum = refl }; conjunction = refl; disjunction = refl })
    (λ m f. condition_claim p m f)
