-- One more at the end: of numbers that are counted, of holes and of edits.
use Rattle.sm_gen.proofs.Imports.{◌≡◌, ℕ, zero, suc, ◌+◌, ◌*◌, ◌-◌, ◌/◌, ◌%◌, List, [], ◌∷◌, ◌++◌, map, refl, sym, ap, ap₂, ◌∙◌, arith, map-range_with_len_more, range_with_len, Code, Hole, append, Edit, drawn_after, drawn, editor_of, edit_of, holes}
use Rattle.std.proofs.lemmas.List.{map-append}
use Rattle.sm_gen.specs.declared.drawing.Editor.{Editor}

-- one more number
pub range_more : (a n : ℕ) → range_with_len a (n + 1) ≡ range_with_len a n ++ (a + n) ∷ []
range_more a zero = let e : a + 0 ≡ a = omega arith in ap (λ (x : ℕ). x ∷ []) (sym e)
range_more a (suc n) =
    let long : suc n + 1 ≡ suc (n + 1) = omega arith in
    let last : a + 1 + n ≡ a + suc n = omega arith in
    ap (range_with_len a) long
    ∙ ap (λ (l : List ℕ). a ∷ l) (range_more (a + 1) n ∙ ap (λ (x : ℕ). range_with_len (a + 1) n ++ x ∷ []) last)

-- one more value of a function of the numbers from a on
pub push_more : {X Y : Type 0} (g : X → Y) (f : ℕ → Y) (a n j : ℕ) (items : List X) (x : X) → a + n ≡ j →
    map g items ≡ map f (range_with_len a n) → g x ≡ f j → map g (items ++ x ∷ []) ≡ map f (range_with_len a (n + 1))
push_more g f a n j items x at same here =
    map-append g items (x ∷ [])
    ∙ ap₂ (λ l y. l ++ y ∷ []) same here
    ∙ sym (map-range_with_len_more f a n j at)

-- one more number, of things that have numbers
pub push_number : {X : Type 0} (g : X → ℕ) (a n : ℕ) (items : List X) (x : X) →
    map g items ≡ range_with_len a n → g x ≡ a + n → map g (items ++ x ∷ []) ≡ range_with_len a (n + 1)
push_number g a n items x same here =
    map-append g items (x ∷ [])
    ∙ ap₂ (λ (l : List ℕ) (y : ℕ). l ++ y ∷ []) same here
    ∙ sym (range_more a n)

-- one more hole
pub holes_more : (hs : List ℕ) (h : ℕ) (k : Code) → append (holes hs) (Hole h k) ≡ append (holes (hs ++ h ∷ [])) k
holes_more [] h k = refl
holes_more (g ∷ hs) h k = ap (Hole g) (holes_more hs h k)

pub holes_counted : (a n h : ℕ) (k : Code) → h ≡ a + n →
    append (holes (range_with_len a n)) (Hole h k) ≡ append (holes (range_with_len a (n + 1))) k
holes_counted a n h k at =
    ap (λ (j : ℕ). append (holes (range_with_len a n)) (Hole j k)) at
    ∙ holes_more (range_with_len a n) (a + n) k ∙ ap (λ (l : List ℕ). append (holes l) k) (sym (range_more a n))

-- an edit by its parts
abbrev pub edit_by : ℕ → ℕ → Editor → Edit
edit_by hole added editor = record { hole = hole; added = added; editor = editor }

-- the edit of the next hole, from the two numbers that are drawn for it
pub edit_drawn : (seed place last first second : ℕ) (editor : Editor) → last ≡ drawn seed (2 * place) →
    first ≡ drawn_after last → second ≡ drawn_after first → editor ≡ editor_of ((second / 65536) % 3) →
    edit_by (place + 1) (first % 100 + 1) editor ≡ edit_of seed (1 + place)
edit_drawn seed place last first second editor same next after who =
    let hole : place + 1 ≡ 1 + place = omega arith in
    let odd : suc (2 * place) ≡ 2 * (1 + place) - 1 = omega arith in
    let even : suc (suc (2 * place)) ≡ 2 * (1 + place) = omega arith in
    let one : first ≡ drawn seed (2 * (1 + place) - 1) = next ∙ ap drawn_after same ∙ ap (drawn seed) odd in
    let two : second ≡ drawn seed (2 * (1 + place)) =
    after ∙ ap drawn_after (next ∙ ap drawn_after same) ∙ ap (drawn seed) even in
    let by : editor ≡ editor_of ((drawn seed (2 * (1 + place)) / 65536) % 3) = who ∙ ap (λ (n : ℕ). editor_of ((n / 65536) % 3)) two in
    ap₂ (λ (h n : ℕ). edit_by h (n % 100 + 1) editor) hole one
    ∙ ap (edit_by (1 + place) (drawn seed (2 * (1 + place) - 1) % 100 + 1)) by

-- the number that is drawn last for the next hole
pub drawn_twice : (seed place last first second : ℕ) → last ≡ drawn seed (2 * place) → first ≡ drawn_after last →
    second ≡ drawn_after first → second ≡ drawn seed (2 * (place + 1))
drawn_twice seed place last first second same next after =
    let even : suc (suc (2 * place)) ≡ 2 * (place + 1) = omega arith in
    after ∙ ap drawn_after (next ∙ ap drawn_after same) ∙ ap (drawn seed) even
