-- What is left of filled code where its last statement is taken away.
use Rattle.sm_moves.proofs.Imports.{◌≡◌, ℕ, suc, ◌+◌, ◌-◌, ◌≤◌, List, [], ◌∷◌, length, vec_len, take, drop, refl, sym, ap, ◌∙◌, arith, Copy, O, A, B, M, Fillings, filling, fill, Code, End, Skip, Assign, Write, If, While, Hole, append, of_copy, statement_of, code_of, Stmt, Block, append-End, fill-append, block_is, statement_of-Hole, front, rest_after, Statement, put_before, code_before, stands, front_within, after_within, own_statements}
use Rattle.sm_syntax.specs.declared.tree.Stmt.TheVariants as tree
use Rattle.sm_syntax.specs.declared.copies.PerCopy.{PerCopy}
use Rattle.sm_moves.specs.FilledCode.{block_codes}
use Rattle.sm_moves.proofs.CodesLemmas.{own_front, own_rest}
use Rattle.sm_plan.specs.Statements as plain
use denote.Bor.{Bor}

-- how many statements code after code has
pub own-append : (c k : Code) → own_statements (append c k) ≡ own_statements c + own_statements k
own-append End k = omega arith
own-append (Skip r) k = let h = own-append r k in omega (arith, h)
own-append (Assign x v r) k = let h = own-append r k in omega (arith, h)
own-append (Write a i v r) k = let h = own-append r k in omega (arith, h)
own-append (If b one other r) k = let h = own-append r k in omega (arith, h)
own-append (While b body r) k = let h = own-append r k in omega (arith, h)
own-append (Hole n r) k = let h = own-append r k in omega (arith, h)

own-put : (s : Statement) (k : Code) → own_statements (put_before s k) ≡ suc (own_statements k)
own-put plain.Skip k = refl
own-put (plain.Assign x e) k = refl
own-put (plain.Write a i e) k = refl
own-put (plain.If b c d) k = refl
own-put (plain.While b c) k = refl
own-put (plain.Hole h) k = refl

-- a tree of a statement is one
pub own-statement : (s : Stmt) (k : Code) → own_statements (statement_of s k) ≡ suc (own_statements k)
own-statement s k = let p = stands s in ap own_statements (p.1 k) ∙ own-put p.0 k

pub own-before : (ss : List Stmt) → own_statements (code_before ss End) ≡ length ss
own-before [] = refl
own-before (s ∷ ss) = own-statement s (code_before ss End) ∙ ap (λ (n : ℕ). suc n) (own-before ss)

pub own-block : (b : Block) → own_statements (code_of b) ≡ length b.list.items
own-block b = ap own_statements (block_is b) ∙ own-before b.list.items

pub counted : (b : Block) (n : ℕ) → n ≡ vec_len b.list → n ≡ own_statements (code_of b)
counted b n e = e ∙ b.list.ok.0 ∙ sym (own-block b)

-- the blocks of the copies are counted
pub counts_are : (blocks : PerCopy (Bor Block)) (k0 k1 k2 k3 : ℕ) → k0 ≡ vec_len blocks.base.now.list →
    k1 ≡ vec_len blocks.variant_a.now.list → k2 ≡ vec_len blocks.variant_b.now.list → k3 ≡ vec_len blocks.candidate.now.list →
    (c : Copy) →
    of_copy (record { base = k0; variant_a = k1; variant_b = k2; candidate = k3 }) c ≡ own_statements (block_codes blocks c)
counts_are blocks k0 k1 k2 k3 h0 h1 h2 h3 O = counted blocks.base.now k0 h0
counts_are blocks k0 k1 k2 k3 h0 h1 h2 h3 A = counted blocks.variant_a.now k1 h1
counts_are blocks k0 k1 k2 k3 h0 h1 h2 h3 B = counted blocks.variant_b.now k2 h2
counts_are blocks k0 k1 k2 k3 h0 h1 h2 h3 M = counted blocks.candidate.now k3 h3

-- a hole is filled with the statements of its filling
pub own-Hole : (fs : Fillings) (h : ℕ) → own_statements (fill fs (statement_of (tree.Hole h) End)) ≡ own_statements (filling fs h)
own-Hole fs h =
    ap (λ (k : Code). own_statements (fill fs k)) (statement_of-Hole h End) ∙ ap own_statements (append-End (filling fs h))

-- statements that are one code and then another are cut where the second begins
pub cut : (ss : List Stmt) (at n : ℕ) (x y : Code) → code_before ss End ≡ append x y → own_statements y ≡ n → at ≡ length ss - n →
    (code_before (take at ss) End ≡ x) × (code_before (drop at ss) End ≡ y)
cut ss at n x y e count place =
    let whole : own_statements x + own_statements y ≡ length ss = sym (own-append x y) ∙ ap own_statements (sym e) ∙ own-before ss in
    let here : at ≡ own_statements x = omega (arith, whole, count, place) in
    let fits : at ≤ length ss = omega (arith, whole, here) in (
      sym (front_within ss at End fits) ∙ ap (front at) e ∙ ap (λ (m : ℕ). front m (append x y)) here ∙ own_front x y,
      sym (after_within ss at End fits) ∙ ap (rest_after at) e ∙ ap (λ (m : ℕ). rest_after m (append x y)) here ∙ own_rest x y,
    )

-- what is left of each copy's filled statements before the last shared ones, and what those are
pub cut_filled : (fs : Fillings) (ss : List Stmt) (at n : ℕ) (k s : Code) → code_before ss End ≡ fill fs (append k s) →
    own_statements (fill fs s) ≡ n → at ≡ length ss - n →
    (code_before (take at ss) End ≡ fill fs k) × (code_before (drop at ss) End ≡ fill fs s)
cut_filled fs ss at n k s e count place = cut ss at n (fill fs k) (fill fs s) (e ∙ fill-append fs k s) count place
