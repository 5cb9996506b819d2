-- The places of forms by the atoms with which they begin.
use Rattle.sm_fm.proofs.Imports.{◌≡◌, ◌≢◌, ◌<◌, ◌≤◌, ◌+◌, ◌==◌, ⊎_elim, ℕ, ℤ, pos, Bool, true, false, ◌&&◌, not, cond, List, [], ◌∷◌, ◌++◌, map, length, get_or, set, take, Vec, refl, sym, ap, subst, ◌∙◌, arith, range_with_len, All, int_eq, cases_eq, cases_lt, Decides-eqb, map-id, length_push, length-set, length-map, get_or_push, get_or-map, get_or-set_same, get_or-set_other, map-set, map_push, set-get_or, set_past, nil_from_length, length-take-le, take_more, All-filter, All-head, All-tail, filter-append, filter_passes, Linear, coefficient, AreParts, same_atom, other_test, Placed, has_atom, placed_from, has, has_none_before, begins_with, BeginsAt, standing, beginning, beginnings, lists_in, put_at, ListsFirsts, no_form, form_at, placed_at, AreWithin, Lacks}
use Rattle.std.specs.List.{filter}
use Rattle.std.specs.declared.alloc.Global.{Global}
use Rattle.std.proofs.lemmas.List.FromFn.{length-range_with_len, get_or-range_with_len, map-range_with_len_more, length-map-range_with_len, get_or-map-range_with_len, fill_by_all}
use Rattle.sm_fm.proofs.PlaceLemmas.{map-filter, placed_are, form_stays, and_first}
use Rattle.sm_fm.proofs.StandingLemmas.{chosen_twice, lacks_told, told_lacks}
use Rattle.sm_num.proofs.KeptForms.{coefficient_below, coefficient_first}

-- one more place
pub range_more : (n : ℕ) → range_with_len 0 (n + 1) ≡ range_with_len 0 n ++ n ∷ []
range_more n =
    sym (map-id (range_with_len 0 (n + 1))) ∙ map-range_with_len_more (λ (k : ℕ). k) 0 n n (omega arith)
    ∙ ap (λ (l : List ℕ). l ++ n ∷ []) (map-id (range_with_len 0 n))

-- all places are places of forms
range_within : (n : ℕ) → AreWithin n (range_with_len 0 n)
range_within n = λ k d lt.
    let len = length-range_with_len 0 n in
    let at = get_or-range_with_len 0 n k d (omega arith) in
    omega arith

-- two tests that agree choose the same
chosen_alike : (P : ℕ → Type 0) (f g : ℕ → Bool) → ((n : ℕ) → P n → f n ≡ g n) → (ns : List ℕ) → All P ns → filter f ns ≡ filter g ns
chosen_alike P f g agree [] all = refl
chosen_alike P f g agree (n ∷ ns) all =
    ap (λ (b : Bool). cond b (n ∷ filter f ns) (filter f ns)) (agree n (All-head P n ns all))
    ∙ ap (λ (l : List ℕ). cond (g n) (n ∷ l) l) (chosen_alike P f g agree ns (All-tail P n ns all))

module _ (forms : List (Linear ℕ)) (t : ℕ) where
  -- the places are those of forms
  pub beginning_within : AreWithin (length forms) (beginning forms t)
  beginning_within =
      All-filter (λ n. begins_with t (form_at forms n)) (λ n. n < length forms) (range_with_len 0 (length forms))
      (range_within (length forms))

  -- which have no earlier atom
  pub beginning_lacks : All (λ n. Lacks t (form_at forms n)) (beginning forms t)
  beginning_lacks = λ k d lt.
      let n = get_or (beginning forms t) k d in
      lacks_told t (form_at forms n)
      (and_first (has_none_before t (form_at forms n)) (has t (form_at forms n))
      (filter_passes (λ m. begins_with t (form_at forms m)) (range_with_len 0 (length forms)) k d lt))

  -- the forms that begin with an atom are those that stand and have it
  pub beginning_is : map (placed_at forms) (beginning forms t) ≡ filter (has_atom t) (standing forms t)
  beginning_is =
      map-filter (placed_at forms) (λ (f : Placed). begins_with t f.form) (range_with_len 0 (length forms))
      ∙ ap (filter (λ (f : Placed). begins_with t f.form)) (placed_are forms)
      ∙ sym (chosen_twice (λ (f : Placed). has_none_before t f.form) (has_atom t) (placed_from 0 forms))

  -- one more form
  beginning_grows : (h : Linear ℕ) →
      beginning (forms ++ h ∷ []) t ≡ beginning forms t ++ cond (begins_with t h) (length forms ∷ []) []
  beginning_grows h =
      let more = forms ++ h ∷ [] in
      let test = λ (n : ℕ). begins_with t (form_at more n) in
      let last : form_at more (length forms) ≡ h = get_or_push forms h no_form (length forms) refl in
      ap (λ (n : ℕ). filter test (range_with_len 0 n)) (length_push forms h)
      ∙ ap (filter test) (range_more (length forms))
      ∙ filter-append test (range_with_len 0 (length forms)) (length forms ∷ [])
      ∙ ap (λ (l : List ℕ). l ++ cond (test (length forms)) (length forms ∷ []) [])
      (chosen_alike (λ n. n < length forms) test (λ n. begins_with t (form_at forms n))
      (λ n lt. ap (begins_with t) (form_stays forms h n lt)) (range_with_len 0 (length forms)) (range_within (length forms)))
      ∙ ap (λ (f : Linear ℕ). beginning forms t ++ cond (begins_with t f) (length forms ∷ []) []) last

-- two numbers that aren't the same, by their test
apart : (k a : ℕ) → k ≢ a → (k == a) ≡ false
apart k a other = by (k == a) refl
  where
    by : (b : Bool) → (k == a) ≡ b → b ≡ false
    by true e = absurd (other ((Decides-eqb k a).0 e))
    by false e = refl

-- the list of an atom
pub list_of : (forms : List (Linear ℕ)) (n a : ℕ) (lists : List (List ℕ)) → lists ≡ beginnings forms n → a < n →
    get_or lists a [] ≡ beginning forms a
list_of forms n a lists is lt =
    ap (λ (l : List (List ℕ)). get_or l a []) is ∙ get_or-map-range_with_len (beginning forms) 0 n a a [] lt (omega arith)

-- with one more form its place is put behind those of the atom with which it begins
pub beginnings_grow : (forms : List (Linear ℕ)) (h : Linear ℕ) (n a : ℕ) → BeginsAt n a h →
    put_at (beginnings forms n) a (length forms) ≡ beginnings (forms ++ h ∷ []) n
beginnings_grow forms h n a begins =
    let old = beginnings forms n in
    let long : length old ≡ n = length-map-range_with_len (beginning forms) 0 n in
    let place = length forms ∷ [] in
    fill_by_all (beginning (forms ++ h ∷ [])) (put_at old a (length forms)) n [] (length-set old a (get_or old a [] ++ place) ∙ long)
    (λ k lt.
    let is = list_of forms n k old refl lt in
    let grows = beginning_grows forms k h ∙ ap (λ (b : Bool). beginning forms k ++ cond b place []) (begins k lt) in
    ⊎_elim
    (λ (same : k ≡ a).
    ap (λ (b : ℕ). get_or (put_at old b (length forms)) k []) (sym same)
    ∙ get_or-set_same old k (get_or old k [] ++ place) [] (omega arith)
    ∙ ap (λ (l : List ℕ). l ++ place) is
    ∙ ap (λ (b : Bool). beginning forms k ++ cond b place []) (sym ((Decides-eqb k a).1 same))
    ∙ sym grows)
    (λ (other : k ≢ a).
    get_or-set_other old a k (get_or old a [] ++ place) [] other
    ∙ is
    ∙ sym (append_nil (beginning forms k))
    ∙ ap (λ (b : Bool). beginning forms k ++ cond b place []) (sym (apart k a other))
    ∙ sym grows)
    (cases_eq k a))
  where
    append_nil : (l : List ℕ) → l ++ [] ≡ l
    append_nil [] = refl
    append_nil (x ∷ xs) = ap (λ (l : List ℕ). x ∷ l) (append_nil xs)

-- a place is put behind those of a vector
pub put_listed : (vs : List (Vec ℕ Global)) (a place : ℕ) (v w : Vec ℕ Global) → a < length vs → v ≡ get_or vs a v →
    w.items ≡ v.items ++ place ∷ [] → lists_in (set vs a w) ≡ put_at (lists_in vs) a place
put_listed vs a place v w lt read is =
    map-set (λ (u : Vec ℕ Global). u.items) vs a w
    ∙ ap (set (lists_in vs) a)
    (is ∙ ap (λ (l : List ℕ). l ++ place ∷ [])
    (ap (λ (u : Vec ℕ Global). u.items) read ∙ sym (get_or-map (λ (u : Vec ℕ Global). u.items) vs a v [] lt)))

-- the lists stay where a vector is replaced by one with the same places
pub put_nothing : (vs : List (Vec ℕ Global)) (a : ℕ) (v w : Vec ℕ Global) → a < length vs → v ≡ get_or vs a v →
    w.items ≡ v.items → lists_in (set vs a w) ≡ lists_in vs
put_nothing vs a v w lt read is =
    map-set (λ (u : Vec ℕ Global). u.items) vs a w
    ∙ ap (set (lists_in vs) a)
    (is ∙ ap (λ (u : Vec ℕ Global). u.items) read ∙ sym (get_or-map (λ (u : Vec ℕ Global). u.items) vs a v [] lt))
    ∙ set-get_or (lists_in vs) a []

-- an atom without a list takes no place
pub put_past : (vs : List (Vec ℕ Global)) (a place : ℕ) → length vs ≤ a → put_at (lists_in vs) a place ≡ lists_in vs
put_past vs a place le =
    let long = length-map vs (λ (u : Vec ℕ Global). u.items) in
    set_past (lists_in vs) a (get_or (lists_in vs) a [] ++ place ∷ []) (omega arith)

-- there are as many lists as atoms
pub lists_count : (vs : List (Vec ℕ Global)) (forms : List (Linear ℕ)) (n : ℕ) → ListsFirsts vs forms n → length vs ≡ n
lists_count vs forms n lists =
    sym (length-map vs (λ (u : Vec ℕ Global). u.items)) ∙ ap length lists ∙ length-map-range_with_len (beginning forms) 0 n

-- no form is listed
pub nothing_more : (vs ws : List (Vec ℕ Global)) (v : Vec ℕ Global) (n : ℕ) → ws ≡ vs ++ v ∷ [] → v.items ≡ [] → ListsFirsts vs [] n →
    ListsFirsts ws [] (n + 1)
nothing_more vs ws v n is empty lists =
    ap lists_in is ∙ map_push (λ (u : Vec ℕ Global). u.items) vs v
    ∙ ap (λ (l : List (List ℕ)). l ++ v.items ∷ []) lists
    ∙ ap (λ (l : List ℕ). beginnings [] n ++ l ∷ []) empty
    ∙ sym (map-range_with_len_more (beginning []) 0 n n (omega arith))

-- one more form is listed
pub listed_grows : (vs : List (Vec ℕ Global)) (forms : List (Linear ℕ)) (h : Linear ℕ) (n a : ℕ) → ListsFirsts vs forms n →
    BeginsAt n a h → put_at (lists_in vs) a (length forms) ≡ beginnings (forms ++ h ∷ []) n
listed_grows vs forms h n a lists begins =
    ap (λ (l : List (List ℕ)). put_at l a (length forms)) lists ∙ beginnings_grow forms h n a begins

-- the next of some forms is listed
pub listed_next : (vs ws : List (Vec ℕ Global)) (forms : List (Linear ℕ)) (i n a : ℕ) (h : Linear ℕ) → ListsFirsts vs (take i forms) n →
    BeginsAt n a h → i < length forms → h ≡ get_or forms i h → lists_in ws ≡ put_at (lists_in vs) a i →
    ListsFirsts ws (take (i + 1) forms) n
listed_next vs ws forms i n a h lists begins lt read is =
    is ∙ ap (put_at (lists_in vs) a) (sym (length-take-le i forms (omega arith)))
    ∙ listed_grows vs (take i forms) h n a lists begins
    ∙ ap (λ (f : Linear ℕ). beginnings (take i forms ++ f ∷ []) n) read
    ∙ ap (λ (l : List (Linear ℕ)). beginnings l n) (sym (take_more forms i h lt))

-- a vector without places
pub empty_list : (vs : List (Vec ℕ Global)) (a : ℕ) (v : Vec ℕ Global) → a < length vs → v ≡ get_or vs a v → length v.items ≡ 0 →
    get_or (lists_in vs) a [] ≡ []
empty_list vs a v lt read none =
    get_or-map (λ (u : Vec ℕ Global). u.items) vs a v [] lt ∙ sym (ap (λ (u : Vec ℕ Global). u.items) read) ∙ nil_from_length v.items none

-- the vector of an atom
pub vector_of : (vs : List (Vec ℕ Global)) (forms : List (Linear ℕ)) (n a : ℕ) (v : Vec ℕ Global) → ListsFirsts vs forms n → a < n →
    v ≡ get_or vs a v → v.items ≡ beginning forms a
vector_of vs forms n a v lists lt read =
    let count = lists_count vs forms n lists in
    ap (λ (u : Vec ℕ Global). u.items) read ∙ sym (get_or-map (λ (u : Vec ℕ Global). u.items) vs a v [] (omega arith))
    ∙ list_of forms n a (lists_in vs) lists lt

and_false : (b : Bool) → b && false ≡ false
and_false true = refl
and_false false = refl

-- a form without an atom doesn't begin with it
lacks_begins : (t : ℕ) (f : Linear ℕ) → coefficient same_atom t f.parts ≡ pos 0 → begins_with t f ≡ false
lacks_begins t f none =
    ap (λ (z : ℤ). has_none_before t f && not (int_eq z (pos 0))) none ∙ and_false (has_none_before t f)

-- a form begins with the atom of its first part, and with no other
first_begins : (p : ℕ × ℤ) (ps : List (ℕ × ℤ)) (f : Linear ℕ) → p ∷ ps ≡ f.parts → AreParts 0 (p ∷ ps) → (t : ℕ) →
    begins_with t f ≡ (t == p.0)
first_begins p ps f is kept t =
    ⊎_elim
    (λ (same : t ≡ p.0).
    both (has_none_before t f) (has t f) (told_lacks t f (λ a below. before a (omega arith)))
    (subst (λ (b : ℕ). has b f ≡ true) (sym same) here)
    ∙ sym ((Decides-eqb t p.0).1 same))
    (λ (other : t ≢ p.0). ⊎_elim early (λ (le : p.0 ≤ t). late (omega arith)) (cases_lt t p.0))
    (cases_eq t p.0)
  where
    both : (a b : Bool) → a ≡ true → b ≡ true → a && b ≡ true
    both a b first second = rw (first, second) refl

    before : (a : ℕ) → a < p.0 → coefficient same_atom a f.parts ≡ pos 0
    before a below = ap (coefficient same_atom a) (sym is) ∙ coefficient_below a p.0 (p ∷ ps) below (omega arith, kept.1, kept.2, kept.3)

    some : coefficient same_atom p.0 f.parts ≢ pos 0
    some none = kept.2 (sym (coefficient_first p.0 0 p ps kept refl) ∙ ap (coefficient same_atom p.0) is ∙ none)

    here : has p.0 f ≡ true
    here = ap not (other_test (coefficient same_atom p.0 f.parts) some)

    early : t < p.0 → begins_with t f ≡ (t == p.0)
    early lt = lacks_begins t f (before t lt) ∙ sym (apart t p.0 (λ e. absurd (omega arith)))

    late : p.0 < t → begins_with t f ≡ (t == p.0)
    late lt = by (has_none_before t f) refl ∙ sym (apart t p.0 (λ e. absurd (omega arith)))
      where
        by : (b : Bool) → has_none_before t f ≡ b → b && has t f ≡ false
        by true e = absurd (some (lacks_told t f e p.0 lt))
        by false e = refl

-- so where the first part's atom is below a number
pub begins_first : (end : ℕ) (f : Linear ℕ) (ps : List (ℕ × ℤ)) → ps ≡ f.parts → AreParts 0 f.parts → 0 < length ps →
    BeginsAt end (get_or ps 0 (0, pos 0)).0 f
begins_first end f [] is kept some = absurd (omega arith)
begins_first end f (p ∷ ps) is kept some = λ t lt. first_begins p ps f is (subst (AreParts 0) (sym is) kept) t

-- where it isn't, the form begins with none below it
pub begins_past : (end : ℕ) (f : Linear ℕ) (ps : List (ℕ × ℤ)) → ps ≡ f.parts → AreParts 0 f.parts → 0 < length ps →
    end ≤ (get_or ps 0 (0, pos 0)).0 → BeginsAt end end f
begins_past end f [] is kept some le = absurd (omega arith)
begins_past end f (p ∷ ps) is kept some le = λ t lt.
    first_begins p ps f is (subst (AreParts 0) (sym is) kept) t
    ∙ apart t p.0 (λ e. absurd (omega arith))
    ∙ sym (apart t end (λ e. absurd (omega arith)))

-- a form without parts begins with no atom below a number
pub begins_nowhere : (end : ℕ) (f : Linear ℕ) (ps : List (ℕ × ℤ)) → ps ≡ f.parts → length ps ≡ 0 → BeginsAt end end f
begins_nowhere end f ps is none = λ t lt.
    lacks_begins t f (ap (coefficient same_atom t) (sym is ∙ nil_from_length ps none)) ∙ sym (apart t end (λ e. absurd (omega arith)))

-- the atoms whose lists are empty
pub nothing_begins : (vs us : List (Vec ℕ Global)) (forms : List (Linear ℕ)) (n t next : ℕ) → us ≡ vs → ListsFirsts vs forms n → next ≤ n →
    ((a : ℕ) → t < a → a < next → get_or (lists_in us) a [] ≡ []) → (a : ℕ) → t < a → a < next → beginning forms a ≡ []
nothing_begins vs us forms n t next same lists le empty a from to =
    sym (list_of forms n a (lists_in vs) lists (omega arith))
    ∙ ap (λ (l : List (Vec ℕ Global)). get_or (lists_in l) a []) (sym same)
    ∙ empty a from to
