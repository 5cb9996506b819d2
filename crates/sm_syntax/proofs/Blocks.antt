-- The statements of a block, as a list and as code.
use Rattle.sm_syntax.proofs.Imports.{◌≡◌, ℕ, ◌+◌, ◌<◌, ◌≤◌, List, [], ◌∷◌, ◌++◌, length, map, drop, get_or, sym, ap, refl, ◌∙◌, add-one, drop-cons, get_or-map, length-map, fun_ext, Code, End, Skip, Assign, Write, If, While, Hole, append, sequence, statement_of, code_of, statement_layer, block_layer, Stmt, Stmt-F, fold_out-Stmt, Block, fold_out-Block}
use Rattle.std.proofs.Math.ListN.{drop_of_length-le}
use Rattle.sm_syntax.specs.declared.tree.Stmt.TheOpen as layer
use Rattle.sm_syntax.proofs.Appends.{append_assoc}

-- the code of a block is its statements one after the other
pub block_is : (b : Block) → code_of b ≡ sequence (map statement_of b.list.items) End
block_is b = fold_out-Block (Code → Code) Code statement_layer block_layer b

-- a statement before k is the statement alone, and then k
layer_is : (l : Stmt-F (Code → Code) Code) (k : Code) → statement_layer l k ≡ append (statement_layer l End) k
layer_is layer.Skip k = refl
layer_is (layer.Assign x e) k = refl
layer_is (layer.Store a i e) k = refl
layer_is (layer.If b c d) k = refl
layer_is (layer.While b c) k = refl
layer_is (layer.Hole h) k = refl

-- the statement at its outermost layer
pub statement_layer_is : (s : Stmt) → (l : Stmt-F (Code → Code) Code) × (statement_of s ≡ statement_layer l)
statement_layer_is s = (_, fold_out-Stmt (Code → Code) Code statement_layer block_layer s)

-- the code of a statement before k is that of the statement alone, and then k
pub statement_is : (s : Stmt) (k : Code) → statement_of s k ≡ append (statement_of s End) k
statement_is s k =
    let l = statement_layer_is s in
    ap (λ (f : Code → Code). f k) l.1 ∙ layer_is l.0 k ∙ ap (λ (f : Code → Code). append (f End) k) (sym l.1)

-- statements before k are the statements alone, and then k
pub sequence_then : (l : List Stmt) (k : Code) → sequence (map statement_of l) k ≡ append (sequence (map statement_of l) End) k
sequence_then [] k = refl
sequence_then (s ∷ rest) k =
    let r = sequence (map statement_of rest) End in
    ap (statement_of s) (sequence_then rest k) ∙ statement_is s (append r k) ∙ sym (append_assoc (statement_of s End) r k) ∙
    ap (λ (c : Code). append c k) (sym (statement_is s r))

-- the statements of a block before k are the block and then k
pub block_then : (b : Block) (k : Code) → sequence (map statement_of b.list.items) k ≡ append (code_of b) k
block_then b k = sequence_then b.list.items k ∙ ap (λ (c : Code). append c k) (sym (block_is b))

-- the statements from i on, where one stands at i
pub sequence-drop : (l : List Stmt) (i : ℕ) (d : Stmt) (k : Code) → i < length l →
    sequence (map statement_of (drop i l)) k ≡ statement_of (get_or l i d) (sequence (map statement_of (drop (i + 1) l)) k)
sequence-drop l i d k here =
    ap (λ (m : List Stmt). sequence (map statement_of m) k) (drop-cons l i d here) ∙
    ap (λ (j : ℕ). statement_of (get_or l i d) (sequence (map statement_of (drop j l)) k)) (sym (add-one i))

-- no statement stands at the end of the list or past it
pub sequence-drop-end : (l : List Stmt) (i : ℕ) (k : Code) → length l ≤ i → sequence (map statement_of (drop i l)) k ≡ k
sequence-drop-end l i k past = ap (λ (m : List Stmt). sequence (map statement_of m) k) (drop_of_length-le l past)

-- one statement more at the end
pub sequence-push : (l : List Stmt) (s : Stmt) (k : Code) → sequence (map statement_of (l ++ s ∷ [])) k ≡ sequence (map statement_of l) (statement_of s k)
sequence-push [] s k = refl
sequence-push (t ∷ rest) s k = ap (statement_of t) (sequence-push rest s k)

-- the first statement of code, as a function of what follows it; the code itself where there is none
abbrev first : Code → Code → Code
first End r = End
first (Skip k) r = Skip r
first (Assign x e k) r = Assign x e r
first (Write a i e k) r = Write a i e r
first (If b c d k) r = If b c d r
first (While b c k) r = While b c r
first (Hole h k) r = Hole h r

-- what follows the first statement
abbrev rest_of : Code → Code
rest_of End = End
rest_of (Skip k) = k
rest_of (Assign x e k) = k
rest_of (Write a i e k) = k
rest_of (If b c d k) = k
rest_of (While b c k) = k
rest_of (Hole h k) = k

-- a layer's code begins with that layer
layer-first : (l : Stmt-F (Code → Code) Code) (k r : Code) → first (statement_layer l k) r ≡ statement_layer l r
layer-first layer.Skip k r = refl
layer-first (layer.Assign x e) k r = refl
layer-first (layer.Store a i e) k r = refl
layer-first (layer.If b c d) k r = refl
layer-first (layer.While b c) k r = refl
layer-first (layer.Hole h) k r = refl

-- a layer's code goes on with what stands after the layer
layer-rest : (l : Stmt-F (Code → Code) Code) (k : Code) → rest_of (statement_layer l k) ≡ k
layer-rest layer.Skip k = refl
layer-rest (layer.Assign x e) k = refl
layer-rest (layer.Store a i e) k = refl
layer-rest (layer.If b c d) k = refl
layer-rest (layer.While b c) k = refl
layer-rest (layer.Hole h) k = refl

-- it isn't the end
layer-End : (l : Stmt-F (Code → Code) Code) (k : Code) → End ≡ statement_layer l k → ⊥
layer-End layer.Skip k same = cc
layer-End (layer.Assign x e) k same = cc
layer-End (layer.Store a i e) k same = cc
layer-End (layer.If b c d) k same = cc
layer-End (layer.While b c) k same = cc
layer-End (layer.Hole h) k same = cc

-- the code of a statement begins with it
statement-first : (s : Stmt) (k r : Code) → first (statement_of s k) r ≡ statement_of s r
statement-first s k r =
    let l = statement_layer_is s in
    ap (λ (f : Code → Code). first (f k) r) l.1 ∙ layer-first l.0 k r ∙ ap (λ (f : Code → Code). f r) (sym l.1)

-- the code of a statement goes on with what stands after it
statement-rest : (s : Stmt) (k : Code) → rest_of (statement_of s k) ≡ k
statement-rest s k =
    let l = statement_layer_is s in
    ap (λ (f : Code → Code). rest_of (f k)) l.1 ∙ layer-rest l.0 k

-- a statement isn't the end
pub statement-End : (s : Stmt) (k : Code) → End ≡ statement_of s k → ⊥
statement-End s k same =
    let l = statement_layer_is s in
    layer-End l.0 k (same ∙ ap (λ (f : Code → Code). f k) l.1)

-- where statements and what follows them are the same code, the statements are the same
pub same_statement : (s t : Stmt) (k r : Code) → statement_of s k ≡ statement_of t r → statement_of s ≡ statement_of t
same_statement s t k r same =
    fun_ext (λ (m : Code). sym (statement-first s k m) ∙ ap (λ (c : Code). first c m) same ∙ statement-first t r m)

-- where statements and what follows them are the same code, what follows them is the same
pub same_rest : (s t : Stmt) (k r : Code) → statement_of s k ≡ statement_of t r → k ≡ r
same_rest s t k r same = sym (statement-rest s k) ∙ ap rest_of same ∙ statement-rest t r

-- statements that are the same code are the same, in order
pub same_sequence : (l m : List Stmt) → sequence (map statement_of l) End ≡ sequence (map statement_of m) End → map statement_of l ≡ map statement_of m
same_sequence [] [] same = refl
same_sequence [] (t ∷ m) same = absurd (statement-End t (sequence (map statement_of m) End) same)
same_sequence (s ∷ l) [] same = absurd (statement-End s (sequence (map statement_of l) End) (sym same))
same_sequence (s ∷ l) (t ∷ m) same =
    let k = sequence (map statement_of l) End in
    let r = sequence (map statement_of m) End in
    ap (λ (f : Code → Code). f ∷ map statement_of l) (same_statement s t k r same) ∙
    ap (λ (fs : List (Code → Code)). statement_of t ∷ fs) (same_sequence l m (same_rest s t k r same))

-- equal blocks have equal statements, in order
pub same_parts : (a b : Block) → code_of a ≡ code_of b → map statement_of a.list.items ≡ map statement_of b.list.items
same_parts a b same = same_sequence a.list.items b.list.items (sym (block_is a) ∙ same ∙ block_is b)

-- blocks of equal statements, in order, are equal
pub same_blocks : (a b : Block) → map statement_of a.list.items ≡ map statement_of b.list.items → code_of a ≡ code_of b
same_blocks a b same = block_is a ∙ ap (λ (fs : List (Code → Code)). sequence fs End) same ∙ sym (block_is b)

-- lists of equal statements have equal statements at each place
pub same_item : (l m : List Stmt) (i : ℕ) (d e : Stmt) → map statement_of l ≡ map statement_of m → i < length l →
    statement_of (get_or l i d) ≡ statement_of (get_or m i e)
same_item l m i d e same here =
    let long : length l ≡ length m = sym (length-map l statement_of) ∙ ap length same ∙ length-map m statement_of in
    let there : i < length m = rw (← long) here in
    sym (get_or-map statement_of l i d (statement_of d) here) ∙
    ap (λ (fs : List (Code → Code)). get_or fs i (statement_of d)) same ∙
    get_or-map statement_of m i e (statement_of d) there

-- one statement more at the end, as a list that a function can name
pub ruleset pushes = (sequence-push)
