-- Two blocks are compared statement by statement.
use Rattle.sm_syntax.proofs.Imports.{◌≡◌, ℕ, ◌+◌, ◌<◌, sym, ap, ◌∙◌, List, [], ◌∷◌, ◌++◌, length, map, take, get_or, slice_index_or, add-one, length-map, map-append, Code, End, statement_of, code_of, Stmt, Block}
use Rattle.std.proofs.Math.Seq.{take-suc, take-length}
use Rattle.sm_syntax.proofs.Blocks.{same_statement, same_parts, same_blocks, same_item}

-- one statement more
next : (l : List Stmt) (i : ℕ) (s : Stmt) → s ≡ slice_index_or l i s → i < length l → map statement_of (take (i + 1) l) ≡ map statement_of (take i l) ++ statement_of s ∷ []
next l i s is here = ap (λ (j : ℕ). map statement_of (take j l)) (add-one i) ∙ ap (map statement_of) (take-suc l i s here) ∙ map-append statement_of (take i l) (get_or l i s ∷ []) ∙ ap (λ (t : Stmt). map statement_of (take i l) ++ statement_of t ∷ []) (sym is)

-- where the statements before a place are the same and those at the place too, so are those up to it
pub one_more : (l m : List Stmt) (i : ℕ) (s t : Stmt) → s ≡ slice_index_or l i s → t ≡ slice_index_or m i t → i < length l → i < length m →
    map statement_of (take i l) ≡ map statement_of (take i m) → statement_of s End ≡ statement_of t End →
    map statement_of (take (i + 1) l) ≡ map statement_of (take (i + 1) m)
one_more l m i s t is_s is_t here there before same =
    next l i s is_s here ∙
    ap (λ (fs : List (Code → Code)). fs ++ statement_of s ∷ []) before ∙
    ap (λ (f : Code → Code). map statement_of (take i m) ++ f ∷ []) (same_statement s t End End same) ∙
    sym (next m i t is_t there)

-- blocks of the same code have the same statement at each place
pub matching : (a b : Block) (i : ℕ) (s t : Stmt) → s ≡ slice_index_or a.list.items i s → t ≡ slice_index_or b.list.items i t → i < length a.list.items →
    code_of a ≡ code_of b → statement_of s End ≡ statement_of t End
matching a b i s t is_s is_t here same =
    ap (λ (u : Stmt). statement_of u End) is_s ∙
    ap (λ (f : Code → Code). f End) (same_item a.list.items b.list.items i s t (same_parts a b same) here) ∙
    ap (λ (u : Stmt). statement_of u End) (sym is_t)

-- blocks of the same code have equally many statements
pub same_length : (a b : Block) → code_of a ≡ code_of b → length a.list.items ≡ length b.list.items
same_length a b same =
    sym (length-map a.list.items statement_of) ∙ ap length (same_parts a b same) ∙ length-map b.list.items statement_of

-- a list up to its end
whole : (l : List Stmt) (i : ℕ) → i ≡ length l → take i l ≡ l
whole l i end = ap (λ (j : ℕ). take j l) end ∙ take-length l

-- blocks of as many statements, which are the same up to the end, are the same
pub all_matching : (a b : Block) (i : ℕ) → length a.list.items ≡ length b.list.items → i ≡ length a.list.items →
    map statement_of (take i a.list.items) ≡ map statement_of (take i b.list.items) → code_of a ≡ code_of b
all_matching a b i long end same =
    same_blocks a b (ap (map statement_of) (sym (whole a.list.items i end)) ∙ same ∙ ap (map statement_of) (whole b.list.items i (end ∙ long)))
