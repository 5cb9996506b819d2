-- The grammar spells a task by its canonical symbols.
use Rattle.sm_text.proofs.Imports.{◌≡◌, ℕ, pos, ◌+◌, ◌<◌, Option, Some, None, List, [], ◌∷◌, ◌++◌, sym, ap, subst, ◌∙◌, arith, append_assoc, suc, Sort, Condition, Code, Fillings, Copy, O, A, B, M, Parts, Marked, plain, Mark, IsHoleNumber, IsBlock, AreNames, AreDeclarations, AreOutputs, IsAssumption, IsShared, AreFillings, IsList, IsTask, mark_piece, number_piece, line_end, margin_at, deeper, condition_pieces, code_pieces, block_pieces, declaration_pieces, names_pieces, filling_pieces}
use Rattle.std.proofs.Common.{append-nil}
use Rattle.sm_syntax.specs.declared.symbol.Mark.TheVariants as mark
use Rattle.sm_syntax.specs.declared.symbol.Symbol.TheVariants as s
use Rattle.sm_syntax.specs.text.MarkedSymbols as g
use Rattle.sm_syntax.specs.text.TaskGrammar as task
use Rattle.sm_text.specs.printing.Pieces.{Gap, space}
use Rattle.sm_text.specs.printing.Canonical.{braces, output_pieces, assumption_pieces, shared_pieces, list_pieces, lists_pieces, task_pieces}
use Rattle.sm_text.proofs.RoundTrip.CodeSpelled.{marked, marked-append, marked-line, FitsTest, IsPrintable, told, block_shown, code_shown}

-- a block
pub block_told : (d : ℕ) (c : Code) (margin : List ℕ) → d < 64 → IsPrintable (1 + d) c → IsBlock d (marked (block_pieces margin c)) c
block_told d c margin few fits =
    let at : 1 + d ≡ suc d = omega arith in
    block_shown d c margin (code_pieces (deeper margin) c) few
    (code_shown c (deeper margin) (suc d) (subst (λ (n : ℕ). IsPrintable n c) at fits))

pub declarations_shown : (ds : List (ℕ × Sort)) → AreDeclarations (marked (declaration_pieces ds)) ds
declarations_shown [] = task.none
declarations_shown (d ∷ ds) = task.more d.1 (task.last (record { 0 = d.0 })) (declarations_shown ds)

names_shown : (x : ℕ) (xs : List ℕ) → AreNames (marked (names_pieces (x ∷ xs))) (x ∷ xs)
names_shown x [] = task.last (record { 0 = x })
names_shown x (y ∷ ys) = task.more (record { 0 = x }) (names_shown y ys)

outputs_shown : (x : ℕ) (xs : List ℕ) → AreOutputs (marked (output_pieces (x ∷ xs))) (x ∷ xs)
unfolding output_pieces
outputs_shown x xs =
    let ps = names_pieces (x ∷ xs) in
    let F : List Marked → Type 0 = λ l. AreOutputs l (x ∷ xs) in
    let line : g.word mark.Output ∷ (marked ps ++ g.word mark.Semicolon ∷ []) ≡ marked (output_pieces (x ∷ xs)) =
    ap (λ (l : List Marked). g.word mark.Output ∷ l)
    (sym (marked-append ps (mark_piece mark.Semicolon ∷ line_end ∷ []))
    ∙ ap marked (sym (append_assoc ps (mark_piece mark.Semicolon ∷ []) (line_end ∷ [])))) in
    subst F line (task.outputs (names_shown x xs))

-- the assumption, where there is one, nests nowhere too deep
abbrev pub FitsAssumption : Option Condition → Type 0
FitsAssumption None = Unit {0}
FitsAssumption (Some b) = FitsTest 0 b

assumption_shown : (o : Option Condition) → FitsAssumption o → IsAssumption (marked (assumption_pieces o)) o
unfolding assumption_pieces
assumption_shown None fits = task.none
assumption_shown (Some b) fits =
    let ps = condition_pieces b in
    let F : List Marked → Type 0 = λ l. IsAssumption l (Some b) in
    let line : g.word mark.Assume ∷ (marked ps ++ g.word mark.Semicolon ∷ []) ≡ marked (assumption_pieces (Some b)) =
    ap (λ (l : List Marked). g.word mark.Assume ∷ l)
    (sym (marked-append ps (mark_piece mark.Semicolon ∷ line_end ∷ []))
    ∙ ap marked (sym (append_assoc ps (mark_piece mark.Semicolon ∷ []) (line_end ∷ [])))) in
    subst F line (task.assumes (told b 0 fits).whole)

pub shared_shown : (c : Code) → IsPrintable 1 c → IsShared (marked (shared_pieces c)) c
unfolding shared_pieces
shared_shown c fits =
    let F : List Marked → Type 0 = λ l. IsShared (g.word mark.Shared ∷ l) c in
    let line : marked (block_pieces [] c) ≡ marked (block_pieces [] c ++ line_end ∷ []) =
    sym (append-nil (marked (block_pieces [] c))) ∙ sym (marked-append (block_pieces [] c) (line_end ∷ [])) in
    subst F line (task.shared (block_told 0 c [] (omega arith) fits))

-- the holes that are filled have numbers, and the fillings nest nowhere too deep
abbrev pub ArePrintable : Fillings → Type 0
ArePrintable [] = Unit {0}
ArePrintable (f ∷ fs) = IsHoleNumber f.0 × IsPrintable 2 f.1 × ArePrintable fs

fillings_shown : (fs : Fillings) → ArePrintable fs → AreFillings (marked (filling_pieces fs)) fs
fillings_shown [] fits = task.none
fillings_shown (f ∷ fs) fits =
    let block = block_pieces (margin_at 1) f.1 in
    let F : List Marked → Type 0 = λ l. AreFillings l (f ∷ fs) in
    let line : g.word mark.Question ∷ plain (s.Number (pos f.0)) ∷ (marked block ++ marked (filling_pieces fs)) ≡ marked
    (filling_pieces (f ∷ fs)) =
    sym (marked-line (margin_at 1) (mark_piece mark.Question ∷ number_piece (pos f.0) ∷ space ∷ block) (filling_pieces fs)) in
    subst F line (task.more f.0 fits.0 (block_told 1 f.1 (margin_at 1) (omega arith) fits.1) (fillings_shown fs fits.2))

list_shown : (m : Mark) (fs : Fillings) → ArePrintable fs → IsList m (g.word m ∷ marked (list_pieces fs)) fs
unfolding list_pieces braces
list_shown m fs fits =
    let ps = filling_pieces fs in
    let F : List Marked → Type 0 = λ l. IsList m (g.word m ∷ g.word mark.OpenCurly ∷ l) fs in
    let line : marked ps ++ g.word mark.CloseCurly ∷ [] ≡ marked ((ps ++ Gap [] ∷ mark_piece mark.CloseCurly ∷ []) ++ line_end ∷ []) =
    sym (marked-append ps (Gap [] ∷ mark_piece mark.CloseCurly ∷ line_end ∷ [])) ∙
    ap marked (sym (append_assoc ps (Gap [] ∷ mark_piece mark.CloseCurly ∷ []) (line_end ∷ []))) in
    subst F line (task.list m (fillings_shown fs fits))

-- the four lists
marked-lists : (fillings : Copy → Fillings) →
    (g.word mark.Base ∷ marked (list_pieces (fillings O))) ++
    ((g.word mark.VariantA ∷ marked (list_pieces (fillings A))) ++
    ((g.word mark.VariantB ∷ marked (list_pieces (fillings B))) ++ (g.word mark.Candidate ∷ marked (list_pieces (fillings M))))) ≡
    marked (lists_pieces fillings)
unfolding lists_pieces
marked-lists fillings =
    let o = list_pieces (fillings O) in
    let a = list_pieces (fillings A) in
    let b = list_pieces (fillings B) in
    let m = mark_piece mark.Candidate ∷ list_pieces (fillings M) in
    let last : marked b ++ marked m ≡ marked (b ++ m) = sym (marked-append b m) in
    let more : marked a ++ marked (mark_piece mark.VariantB ∷ (b ++ m)) ≡ marked (a ++ mark_piece mark.VariantB ∷ (b ++ m)) =
    sym (marked-append a _) in
    ap (λ (l : List Marked). g.word mark.Base ∷ (marked o ++ g.word mark.VariantA ∷ (marked a ++ g.word mark.VariantB ∷ l))) last ∙
    ap (λ (l : List Marked). g.word mark.Base ∷ (marked o ++ g.word mark.VariantA ∷ l)) more ∙
    ap (λ (l : List Marked). g.word mark.Base ∷ l)
    (sym (marked-append o (mark_piece mark.VariantA ∷ (a ++ mark_piece mark.VariantB ∷ (b ++ m)))))

-- there is an output
abbrev pub HasOutput : List ℕ → Type 0
HasOutput [] = ⊥
HasOutput (x ∷ xs) = Unit {0}

-- a task whose canonical symbols nest nowhere too deep
pub record IsPrintableTask (t : Parts) : Type 0 where
  pub outputs : HasOutput t.outputs
  pub assumed : FitsAssumption t.assumed
  pub shared : IsPrintable 1 t.shared
  pub fillings : (c : Copy) → ArePrintable (t.fillings c)

pub some_outputs_shown : (xs : List ℕ) → HasOutput xs → AreOutputs (marked (output_pieces xs)) xs
some_outputs_shown [] h = absurd h
some_outputs_shown (x ∷ xs) h = outputs_shown x xs

pub task_shown : (t : Parts) → IsPrintableTask t → IsTask (marked (task_pieces t)) t
unfolding task_pieces
task_shown t fits =
    let d = declaration_pieces t.declared in
    let x = output_pieces t.outputs in
    let v = assumption_pieces t.assumed in
    let w = shared_pieces t.shared in
    let l = lists_pieces t.fillings in
    let it = task.task t (declarations_shown t.declared) (some_outputs_shown t.outputs fits.outputs)
    (assumption_shown t.assumed fits.assumed) (shared_shown t.shared fits.shared)
    (list_shown mark.Base (t.fillings O) (fits.fillings O)) (list_shown mark.VariantA (t.fillings A) (fits.fillings A))
    (list_shown mark.VariantB (t.fillings B) (fits.fillings B)) (list_shown mark.Candidate (t.fillings M) (fits.fillings M)) in
    let F : List Marked → Type 0 = λ ms. IsTask ms t in
    let lists = ap (λ (ms : List Marked). marked d ++ (marked x ++ (marked v ++ (marked w ++ ms)))) (marked-lists t.fillings) in
    let line = lists ∙
    ap (λ (ms : List Marked). marked d ++ (marked x ++ (marked v ++ ms))) (sym (marked-append w l)) ∙
    ap (λ (ms : List Marked). marked d ++ (marked x ++ ms)) (sym (marked-append v (w ++ l))) ∙
    ap (λ (ms : List Marked). marked d ++ ms) (sym (marked-append x (v ++ (w ++ l)))) ∙
    sym (marked-append d (x ++ (v ++ (w ++ l)))) in
    subst F line it
