-- The parsers of heads and blocks read exactly what the grammar spells.
use Rattle.sm_text.proofs.Imports.{◌≡◌, ℕ, suc, ◌-◌, refl, sym, ap, ◌∙◌, subst, arith, Bool, true, false, Ok, List, [], ◌∷◌, ◌++◌, map, nat_tests, Marked, plain, word, Symbol, IsBlock, names_after, Code, lexed, Parser, pure, unmarked, tokens_between, IsHead, head, SpellsHead, HeadParts}
use Rattle.std.specs.Prelude.{nat_le}
use Rattle.std.proofs.lemmas.List.{append-nil}
use Rattle.sm_syntax.specs.declared.symbol.Mark.TheVariants as mark
use Rattle.sm_syntax.specs.declared.symbol.Symbol.TheVariants as s
use Rattle.sm_syntax.specs.text.StatementGrammar as stmt
use Rattle.sm_syntax.specs.claim.Syntax as plain_code
use Rattle.sm_text.specs.rules.Reading as r
use Rattle.sm_text.proofs.Complete.Parsers.{past, reach, grouped-inside, go_on-pure, unmarked-plain, reach-plain}
use Rattle.sm_text.proofs.Complete.Statements.{block_read}
use Rattle.sm_text.proofs.Complete.Tasks.{head-then}
use Rattle.sm_text.proofs.Sound.Sections.{IsHeadUnder}
use Rattle.sm_text.proofs.Sound.Statements.{braced_told, block_told}
use Rattle.sm_text.proofs.Prefix.Sound.{ReadsAll}
use Rattle.sm_text.proofs.Sound.Parsers.{Describes}

-- what a parser does on plain symbols, by what it does on marked ones
reads_plain : {T : Type 0} (p : Parser T) (ss : List Symbol) (x : T) (z : List Symbol) →
    p (unmarked (map plain ss) ++ z) ≡ reach (map plain ss) z (Ok (x, z)) → p (ss ++ z) ≡ Ok (x, z)
reads_plain {T} p ss x z e = ap (λ (l : List Symbol). p (l ++ z)) (sym (unmarked-plain ss)) ∙ e ∙ reach-plain ss z (Ok (x, z))

-- a head with other texts of its names
abbrev pub head_under : List (List ℕ) → HeadParts → HeadParts
head_under names h = record {
  program = record { names = names; declared = h.program.declared; outputs = h.program.outputs; body = h.program.body };
  assumed = h.assumed;
}

-- the names play no part in the symbols
pub is_under : (names : List (List ℕ)) {us : List Marked} {h : HeadParts} → IsHead us h → IsHead us (head_under names h)
is_under names (head h declared named assumed code) = head (head_under names h) declared named assumed code

-- a head is read, whatever stands after it
pub head_read : {us : List Marked} {h : HeadParts} → IsHead us h → (z : List Symbol) →
    r.head h.program.names (unmarked us ++ z) ≡ reach us z (Ok (h, z))
head_read (head {ts = ts} {us = us} {vs = vs} {ws = ws} h declared named assumed code) z =
    let F : List Marked → Type 0 =
    λ l. r.head h.program.names (unmarked (ts ++ (us ++ (vs ++ l))) ++ z) ≡ reach (ts ++ (us ++ (vs ++ l))) z (Ok (h, z)) in
    subst F (append-nil ws) (sym (go_on-pure (r.head h.program.names (unmarked (ts ++ (us ++ (vs ++ (ws ++ [])))) ++ z)))
    ∙ head-then h [] declared named assumed code z pure (Ok (h, z)) refl)

pub head_reads : (names : List (List ℕ)) → ReadsAll (r.head names) (IsHeadUnder names)
head_reads names ss h k z =
    ap (λ (l : List (List ℕ)). r.head l (ss ++ z)) (sym k.1) ∙ reads_plain (r.head h.program.names) ss h z (head_read k.0 z)

-- two heads that the first tokens of a text spell are one
pub head_same : (bytes : List ℕ) (m n : ℕ) (names table : List (List ℕ)) (f h : HeadParts) → SpellsHead bytes m (head_under names f) →
    SpellsHead bytes n h → (f ≡ head_under table h) × (m ≡ n) → (head_under names f ≡ h) × (m ≡ n)
head_same bytes m n names table f h one two same = (ap (head_under names) same.0 ∙ ap (λ (l : List (List ℕ)). head_under l h) texts, same.1)
  where
    texts : names ≡ h.program.names
    texts = one.numbered ∙ ap (λ (k : ℕ). names_after bytes [] (tokens_between 0 k (lexed bytes).0)) same.1 ∙ sym two.numbered

-- how many groups may still be opened where d are open
abbrev pub groups_left : ℕ → ℕ
groups_left d = 64 - d

-- where all groups are open, a block is refused at its brace
full_told : (d : ℕ) → nat_le 64 d ≡ true → Describes (r.block 0) (IsBlock d)
unfolding r.block r.inner_block
full_told d e = braced_told d (r.inner_block 0) (record { list = []; value = plain_code.End; fits = stmt.none (suc d) }, e)

-- a block is described whatever number of groups is open
pub any_block_told : (d : ℕ) → Describes (r.block (groups_left d)) (IsBlock d)
any_block_told d = by (nat_le 64 d) refl
  where
    by : (b : Bool) → nat_le 64 d ≡ b → Describes (r.block (groups_left d)) (IsBlock d)
    by true e =
        let none : 0 ≡ groups_left d = grind (arith, nat_tests) in
        let F : ℕ → Type 0 = λ n. Describes (r.block n) (IsBlock d) in
        subst F none (full_told d e)
    by false e = block_told (groups_left d) d (grind (arith, nat_tests))

-- where all groups are open, the grammar's block is refused there too
full_read : {d : ℕ} {us : List Marked} {c : Code} → IsBlock d us c → nat_le 64 d ≡ true → (z : List Symbol) →
    r.block 0 (unmarked us ++ z) ≡ reach us z (Ok (c, z))
unfolding r.block r.braced r.inner_block
full_read (stmt.block {d = d} {ts = ts} {c = c} p) deep z =
    grouped-inside mark.OpenCurly mark.CloseCurly (r.inner_block 0) (unmarked (ts ++ word mark.CloseCurly ∷ []) ++ z)
    ∙ ap (λ (b : Bool). past b (s.Mark mark.OpenCurly ∷ (unmarked (ts ++ word mark.CloseCurly ∷ []) ++ z))
    (reach (ts ++ word mark.CloseCurly ∷ []) z (Ok (c, z)))) (sym deep)

-- a block is read, or refused at the first symbol that nests too deep, whatever number of groups is open
pub any_block_read : {d : ℕ} {us : List Marked} {c : Code} → IsBlock d us c → (z : List Symbol) →
    r.block (groups_left d) (unmarked us ++ z) ≡ reach us z (Ok (c, z))
any_block_read {d} {us} {c} k z = by (nat_le 64 d) refl
  where
    by : (b : Bool) → nat_le 64 d ≡ b → r.block (groups_left d) (unmarked us ++ z) ≡ reach us z (Ok (c, z))
    by true e =
        let none : 0 ≡ groups_left d = grind (arith, nat_tests) in
        let F : ℕ → Type 0 = λ n. r.block n (unmarked us ++ z) ≡ reach us z (Ok (c, z)) in
        subst F none (full_read k e z)
    by false e = block_read k (groups_left d) (grind (arith, nat_tests)) z

pub block_reads : (d : ℕ) → ReadsAll (r.block (groups_left d)) (IsBlock d)
block_reads d ss c k z = reads_plain (r.block (groups_left d)) ss c z (any_block_read k z)
