-- Where walks over blocks, over copies and over sets of copies begin and end.
use Rattle.sm_product.proofs.Imports.{◌≡◌, ◌<◌, ◌+◌, ◌==◌, ℕ, zero, suc, bit_and, Bool, true, false, cond, if◌then◌else◌, List, [], ◌∷◌, ◌++◌, map, drop, refl, sym, ap, ◌∙◌, subst, arith, filter, range_with_len, map-append, fun_ext, Copy, O, A, B, M, copy_of, Code, End, PerCopy, Parts, Sorts, code_of, Stmt, block_is, Copies, copies, has, set_of, code_before, filter_push, only_in, with_member, AreFilledAs, forking, forked, product}
use Rattle.sm_syntax.specs.declared.tree.Block.{Block}
use Rattle.sm_sketch.specs.Sketches.{Sketch}
use denote.Bor.{Bor}

-- filled statements, at the sorts of a wider table
pub filled_at : (sorts later : Sorts) (t : Parts) (code : Code) (pieces : PerCopy (Bor (List Stmt))) → later ≡ sorts →
    AreFilledAs sorts t code pieces → AreFilledAs later t code pieces
filled_at sorts later t code pieces e h = subst (λ (s : Sorts). AreFilledAs s t code pieces) (sym e) h

-- at last all is drawn
pub end_drawn : (t : Parts) (set : Copies) (p q : Sketch) (b : Block) (i : ℕ) → i ≡ 0 →
    q ≡ product t (code_before (drop i b.list.items) End) set p → q ≡ product t (code_of b) set p
end_drawn t set p q b i none h =
    h ∙ ap (λ (n : ℕ). product t (code_before (drop n b.list.items) End) set p) none
    ∙ ap (λ (k : Code). product t k set p) (sym (block_is b))

-- the copies from one on
pub next_copy : (n : ℕ) → n < 4 → drop n copies ≡ copy_of n ∷ drop (n + 1) copies
next_copy zero h = refl
next_copy (suc zero) h = refl
next_copy (suc (suc zero)) h = refl
next_copy (suc (suc (suc zero))) h = refl
next_copy (suc (suc (suc (suc n)))) h = absurd (omega (arith, h))

pub forks_out : (inner : Copies → Sketch) (set taken : Copies) (n : ℕ) → n < 4 → has set (copy_of n) ≡ false →
    forked inner (filter (has set) (drop (n + 1) copies)) taken ≡ forked inner (filter (has set) (drop n copies)) taken
forks_out inner set taken n less out =
    let rest = filter (has set) (drop (n + 1) copies) in
    sym (ap (λ (l : List Copy). forked inner (filter (has set) l) taken) (next_copy n less)
    ∙ ap (λ (b : Bool). forked inner (cond b (copy_of n ∷ rest) rest) taken) out)

pub forks_in : (inner : Copies → Sketch) (set taken : Copies) (n : ℕ) → n < 4 → has set (copy_of n) ≡ true →
    forking (copy_of n) (forked inner (filter (has set) (drop (n + 1) copies)) (with_member taken (copy_of n)))
    (forked inner (filter (has set) (drop (n + 1) copies)) taken)
    ≡ forked inner (filter (has set) (drop n copies)) taken
forks_in inner set taken n less here =
    let rest = filter (has set) (drop (n + 1) copies) in
    sym (ap (λ (l : List Copy). forked inner (filter (has set) l) taken) (next_copy n less)
    ∙ ap (λ (b : Bool). forked inner (cond b (copy_of n ∷ rest) rest) taken) here)

-- rests of the copies of a set
pub only_these : (set : Copies) (rest code : Copy → Code) → ((c : Copy) → rest c ≡ (if has set c then code c else End)) →
    rest ≡ only_in set code
only_these set rest code same = fun_ext same

pub all_these : (rest code : Copy → Code) → ((c : Copy) → rest c ≡ (if has (set_of 15) c then code c else End)) → rest ≡ code
all_these rest code same = fun_ext (λ (c : Copy). same c ∙ in_all c)
  where
    in_all : (c : Copy) → (if has (set_of 15) c then code c else End) ≡ code c
    in_all O = refl
    in_all A = refl
    in_all B = refl
    in_all M = refl

-- one turn more
pub turns_push : (f : ℕ → Sketch) (set n : ℕ) (before after : List Sketch) →
    before ≡ map f (filter (λ (m : ℕ). bit_and m set == m) (range_with_len 1 n)) →
    after ≡ before ++ map f (if bit_and (n + 1) set == n + 1 then (n + 1) ∷ [] else []) →
    after ≡ map f (filter (λ (m : ℕ). bit_and m set == m) (range_with_len 1 (n + 1)))
turns_push f set n before after so_far more =
    let test : ℕ → Bool = λ (m : ℕ). bit_and m set == m in
    let new : List ℕ = if test (n + 1) then (n + 1) ∷ [] else [] in
    more ∙ ap (λ (l : List Sketch). l ++ map f new) so_far
    ∙ sym (ap (map f) (filter_push test n) ∙ map-append f (filter test (range_with_len 1 n)) new)
