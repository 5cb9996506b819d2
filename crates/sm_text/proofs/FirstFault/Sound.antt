-- A refusal of the reading, and a lexical fault that nothing stands before, are the first fault of a text.
use Rattle.sm_text.proofs.Imports.{◌≡◌, ◌⊎◌, inl, inr, ℕ, suc, ◌+◌, ◌<◌, ◌≤◌, refl, sym, ap, ◌∙◌, subst, arith, Option, Some, None, Result, Ok, Err, List, [], ◌∷◌, ◌++◌, length, map, append_assoc, Symbol, LexFault, first, FaultKind, Expected, Nested, Grammar, Source, all_symbols, IsViable, IsUnexpected, NestsTooDeep, Stands, IsFault, place_of, rank_of, IsFirstFault, IsRefusal, TextError, lexical_fault, rule_fault}
use Rattle.std.proofs.Common.{length-append}
use Rattle.std.proofs.lemmas.List.{append-nil}
use Rattle.sm_syntax.specs.declared.token.LexKind.TheVariants as kind
use Rattle.sm_syntax.specs.declared.token.Token.{Token}
use Rattle.sm_text.specs.declared.error.TextError.TheVariants as error
use Rattle.sm_text.specs.declared.rules.reading.Fault as reading
use Rattle.sm_text.specs.parsing.Places.{at_token, at_end}
use Rattle.sm_text.proofs.FirstFault.Refusals.{Refuses, Judges, viable, shorter-viable, unexpected, too_deep, nested-viable, nothing_nests}
use Rattle.sm_text.proofs.FirstFault.Ordered.{Ascends, behind-ascends, before_end, before_fault, Order, compare, map-append, length-map-of, some_one, goes_past, same_split}
use Rattle.sm_text.proofs.FirstFault.FaultLemmas.{no_fault, none_some, same_fault, err_left, first_refusal, nothing_left, ok_err}

-- up to here the grammar goes on, and no refusal comes before
pub record Reaches {A : Type 0} (read : List Symbol → Result A reading.Fault) (spells : Grammar) (source : Source)
    (used here : List Symbol) : Type 0 where
  pub split : all_symbols source ≡ used ++ here
  pub goes_on : IsViable spells used
  pub late : (f : reading.Fault) → read (all_symbols source) ≡ Err f → f.left ≤ length here

-- a refusal of a reading that judges by a grammar, over tokens in the order of their places
module _ {A : Type 0} (read : List Symbol → Result A reading.Fault) (spells : Grammar) (judges : Judges read spells) (source : Source)
    (ordered : Ascends 0 source.tokens source.fault source.end) where
  -- no fault stands at a token before
  no_earlier : (used here : List Symbol) → Reaches read spells source used here → (before behind : List Token) (t : Token) →
      source.tokens ≡ before ++ t ∷ behind → length before < length used →
      (IsUnexpected spells (map source.symbol before) (Some (source.symbol t)) →
      ⊥) × (NestsTooDeep spells (map source.symbol before) (source.symbol t) → ⊥)
  no_earlier used here w before behind t e h =
      let line : used ++ here ≡ map source.symbol before ++ source.symbol t ∷ map source.symbol behind =
      sym w.split ∙ ap (λ (l : List Token). map source.symbol l) e ∙ map-append source.symbol before (t ∷ behind) in
      let size : length (map source.symbol before) ≡ length before = length-map-of source.symbol before in
      let past = goes_past used here (map source.symbol before) (map source.symbol behind) (source.symbol t) line
      (omega (arith, h, size)) in (
        λ x. x.1 (shorter-viable (map source.symbol before ++ source.symbol t ∷ []) past.0 used
            (past.1 ∙ sym (append_assoc (map source.symbol before) (source.symbol t ∷ []) past.0)) w.goes_on),
        nothing_nests read spells judges (all_symbols source) used here w.split w.late (map source.symbol before) past.0 (source.symbol t)
            past.1,
      )

  -- a refusal goes on up to its place
  refused-reaches : (f : reading.Fault) → read (all_symbols source) ≡ Err f → (w : Refuses read spells (all_symbols source) f) →
      Reaches read spells source w.used w.here
  refused-reaches f e w = record {
    split = w.split;
    goes_on = viable spells w.used w.ahead w.goes_on;
    late = λ g q. let same : f.left ≡ length w.here =
        ap (λ (h : reading.Fault). h.left) w.place in let less = err_left {A = A} f g (sym e ∙ q) in omega (arith, same, less);
  }

  -- where all symbols are reached, each token stands before
  within : (used here : List Symbol) → Reaches read spells source used here → here ≡ [] → (before behind : List Token) (t : Token) →
      source.tokens ≡ before ++ t ∷ behind → length before < length used
  within used here w all before behind t e =
      let line : map source.symbol (before ++ t ∷ behind) ≡ used =
      ap (λ (ts : List Token). map source.symbol ts) (sym e) ∙ w.split ∙ ap (λ (us : List Symbol). used ++ us) all ∙ append-nil used in
      let size : length (before ++ t ∷ behind) ≡ length used =
      sym (length-map-of source.symbol (before ++ t ∷ behind)) ∙ ap (λ (us : List Symbol). length us) line in
      let sum : length (before ++ t ∷ behind) ≡ length before + suc (length behind) = rw length-append refl in
      omega (arith, size, sum)

  -- where all symbols can go on, a lexical fault after them is the first fault
  module _ (used here : List Symbol) (w : Reaches read spells source used here) (all : here ≡ []) (l : LexFault)
      (is : source.fault ≡ Some l) where
    lexical_place : (g : LexFault) → source.fault ≡ Some g → l.place ≤ g.place
    lexical_place g e = let same : l ≡ g =
        same_fault l g (sym is ∙ e) in let F : LexFault → Type 0 = λ h. l.place ≤ h.place in subst F same (omega arith)

    no_expected : (place : ℕ) (before : List Symbol) (next : Option Symbol) → Stands source place before next →
        IsUnexpected spells before next → ⊥
    no_expected place before next (at_token xs ys t e) u = (no_earlier used here w xs ys t e (within used here w all xs ys t e)).0 u
    no_expected place before next (at_end none) u = no_fault (sym none ∙ is)

    no_nested : (place : ℕ) (before : List Symbol) (o : Option Symbol) → Stands source place before o → (t : Symbol) → o ≡ Some t →
        NestsTooDeep spells before t → ⊥
    no_nested place before o (at_token xs ys u e) t same n =
        let F : Symbol → Type 0 = λ v. NestsTooDeep spells (map source.symbol xs) v in
        (no_earlier used here w xs ys u e (within used here w all xs ys u e)).1 (subst F (sym (some_one (source.symbol u) t same)) n)
    no_nested place before o (at_end none) t same n = no_fault (sym none ∙ is)

    lexical_least : (g : TextError) → IsFault spells source g → l.place ≤ place_of g
    lexical_least (error.BadByte place) x = lexical_place _ x
    lexical_least (error.WideNumber place) x = lexical_place _ x
    lexical_least (error.BadToken place) x = lexical_place _ x
    lexical_least (error.Expected place) x = absurd (no_expected place x.before x.next x.stands x.unexpected)
    lexical_least (error.Nested place) x = absurd (no_nested place x.before (Some x.next) x.stands x.next refl x.nests)
    lexical_least error.Memory x = absurd x

    pub lexical_first : (e : TextError) → lexical_fault e ≡ Some l → IsFirstFault spells source e
    lexical_first (error.BadByte place) same =
        let place_same : l.place ≡ place = ap (λ (f : LexFault). f.place)
        (sym (same_fault (record { kind = kind.BadByte; place = place }) l same)) in
        record {
          stands = is ∙ sym same;
          least = λ g x. let h = lexical_least g x in omega (arith, h, place_same);
          order = λ g x q. omega arith;
        }
    lexical_first (error.WideNumber place) same =
        let place_same : l.place ≡ place = ap (λ (f : LexFault). f.place)
        (sym (same_fault (record { kind = kind.WideNumber; place = place }) l same)) in
        record {
          stands = is ∙ sym same;
          least = λ g x. let h = lexical_least g x in omega (arith, h, place_same);
          order = λ g x q. omega arith;
        }
    lexical_first (error.BadToken place) same =
        let place_same : l.place ≡ place = ap (λ (f : LexFault). f.place)
        (sym (same_fault (record { kind = kind.BadToken; place = place }) l same)) in
        record {
          stands = is ∙ sym same;
          least = λ g x. let h = lexical_least g x in omega (arith, h, place_same);
          order = λ g x q. omega arith;
        }
    lexical_first (error.Expected place) same = absurd (no_fault same)
    lexical_first (error.Nested place) same = absurd (no_fault same)
    lexical_first error.Memory same = absurd (no_fault same)

  -- a refusal at a token is the first fault of the text
  module _ (f : reading.Fault) (e : read (all_symbols source) ≡ Err f) (w : Refuses read spells (all_symbols source) f) where
    reached : Reaches read spells source w.used w.here
    reached = refused-reaches f e w

    left : f.left ≡ length w.here
    left = ap (λ (g : reading.Fault). g.left) w.place

    module _ (before behind : List Token) (t : Token) (cut : source.tokens ≡ before ++ t ∷ behind)
        (same_left : f.left ≡ suc (length behind)) where
      whole : w.used ++ w.here ≡ map source.symbol before ++ source.symbol t ∷ map source.symbol behind
      whole = sym w.split ∙ ap (λ (l : List Token). map source.symbol l) cut ∙ map-append source.symbol before (t ∷ behind)

      same_size : length w.used ≡ length (map source.symbol before)
      same_size =
          let total : length (w.used ++ w.here) ≡ length (map source.symbol before ++ source.symbol t ∷ map source.symbol behind) =
          ap (λ (l : List Symbol). length l) whole in
          let one : length (w.used ++ w.here) ≡ length w.used + length w.here = rw length-append refl in
          let two : length (map source.symbol before ++ source.symbol t ∷ map source.symbol behind) ≡ length
          (map source.symbol before) + suc (length (map source.symbol behind)) = rw length-append refl in
          let others : length (map source.symbol behind) ≡ length behind = length-map-of source.symbol behind in
          omega (arith, total, one, two, others, left, same_left)

      parts : (w.used ≡ map source.symbol before) × (w.here ≡ source.symbol t ∷ map source.symbol behind)
      parts = same_split w.used w.here (map source.symbol before) (source.symbol t ∷ map source.symbol behind) whole same_size

      next : first w.here ≡ Some (source.symbol t)
      next = ap (λ (l : List Symbol). first l) parts.1

      order : Ascends 0 (before ++ t ∷ behind) source.fault source.end
      order = let F : List Token → Type 0 = λ l. Ascends 0 l source.fault source.end in subst F cut ordered

      behind_place : Ascends (suc t.place) behind source.fault source.end
      behind_place = (behind-ascends 0 source.end before (t ∷ behind) source.fault order).1

      before_lexical : (g : LexFault) → source.fault ≡ Some g → t.place < g.place
      before_lexical g same =
          let F : Option LexFault → Type 0 = λ o. Ascends (suc t.place) behind o source.end in
          let h = before_fault (suc t.place) source.end behind g (subst F same behind_place) in
          omega (arith, h)

      within_text : t.place < source.end
      within_text = let h = before_end (suc t.place) source.end behind source.fault behind_place in omega (arith, h)

      -- a fault at a token stands no earlier
      at_other : (us vs : List Token) (u : Token) → source.tokens ≡ us ++ u ∷ vs →
          (length us < length before) ⊎ ((t.place < u.place) ⊎ ((before ≡ us) × (t ≡ u)))
      unfolding Order
      at_other us vs u same = compare 0 source.end source.fault before behind us vs t u (sym cut ∙ same) order

      not_before : (us vs : List Token) (u : Token) → source.tokens ≡ us ++ u ∷ vs → length us < length before →
          (IsUnexpected spells (map source.symbol us) (Some (source.symbol u)) →
          ⊥) × (NestsTooDeep spells (map source.symbol us) (source.symbol u) → ⊥)
      not_before us vs u same h =
          let size : length (map source.symbol before) ≡ length before = length-map-of source.symbol before in
          no_earlier w.used w.here reached us vs u same (omega (arith, h, same_size, size))

      no_later : (us vs : List Token) (u : Token) → source.tokens ≡ us ++ u ∷ vs → (length us < length before → ⊥) → t.place ≤ u.place
      no_later us vs u same none = by (at_other us vs u same)
        where
          by : (length us < length before) ⊎ ((t.place < u.place) ⊎ ((before ≡ us) × (t ≡ u))) → t.place ≤ u.place
          by (inl h) = absurd (none h)
          by (inr (inl h)) = omega (arith, h)
          by (inr (inr q)) = let F : Token → Type 0 = λ v. t.place ≤ v.place in subst F q.1 (omega arith)

      after_expected : (place : ℕ) (us : List Symbol) (o : Option Symbol) → Stands source place us o → IsUnexpected spells us o →
          t.place ≤ place
      after_expected place us o (at_token xs ys u q) x = no_later xs ys u q (λ h. (not_before xs ys u q h).0 x)
      after_expected place us o (at_end none) x = omega (arith, within_text)

      after_nested : (place : ℕ) (us : List Symbol) (o : Option Symbol) → Stands source place us o → (v : Symbol) → o ≡ Some v →
          NestsTooDeep spells us v → t.place ≤ place
      after_nested place us o (at_token xs ys u q) v same x =
          let F : Symbol → Type 0 = λ y. NestsTooDeep spells (map source.symbol xs) y in
          no_later xs ys u q (λ h. (not_before xs ys u q h).1 (subst F (sym (some_one (source.symbol u) v same)) x))
      after_nested place us o (at_end none) v same x = omega (arith, within_text)

      after_lexical : (g : LexFault) → source.fault ≡ Some g → t.place ≤ g.place
      after_lexical g same = let h = before_lexical g same in omega (arith, h)

      none_earlier : (g : TextError) → IsFault spells source g → t.place ≤ place_of g
      none_earlier (error.BadByte place) x = after_lexical _ x
      none_earlier (error.WideNumber place) x = after_lexical _ x
      none_earlier (error.BadToken place) x = after_lexical _ x
      none_earlier (error.Expected place) x = after_expected place x.before x.next x.stands x.unexpected
      none_earlier (error.Nested place) x = after_nested place x.before (Some x.next) x.stands x.next refl x.nests
      none_earlier error.Memory x = absurd x

      not_here : (g : LexFault) → source.fault ≡ Some g → g.place ≡ t.place → ⊥
      not_here g same q = let h = before_lexical g same in omega (arith, h, q)

      order_expected : (g : TextError) → IsFault spells source g → place_of g ≡ t.place → 1 ≤ rank_of g
      order_expected (error.BadByte place) x q = absurd (not_here _ x q)
      order_expected (error.WideNumber place) x q = absurd (not_here _ x q)
      order_expected (error.BadToken place) x q = absurd (not_here _ x q)
      order_expected (error.Expected place) x q = omega arith
      order_expected (error.Nested place) x q = omega arith
      order_expected error.Memory x q = absurd x

      -- where the symbol nests too deep, it is not unexpected
      not_both : NestsTooDeep spells (map source.symbol before) (source.symbol t) → (place : ℕ) (us : List Symbol) (o : Option Symbol) →
          Stands source place us o → IsUnexpected spells us o → place ≡ t.place → ⊥
      not_both n place us o (at_token xs ys u q) x same = by (at_other xs ys u q)
        where
          by : (length xs < length before) ⊎ ((t.place < u.place) ⊎ ((before ≡ xs) × (t ≡ u))) → ⊥
          by (inl h) = (not_before xs ys u q h).0 x
          by (inr (inl h)) = omega (arith, h, same)
          by (inr (inr p)) =
              let F : List Token → Type 0 = λ l. IsUnexpected spells (map source.symbol l) (Some (source.symbol u)) in
              let G : Token → Type 0 = λ v. IsUnexpected spells (map source.symbol before) (Some (source.symbol v)) in
              (subst G (sym p.1) (subst F (sym p.0) x)).1 (nested-viable (map source.symbol before) (source.symbol t) n)
      not_both n place us o (at_end none) x same = omega (arith, within_text, same)

      order_nested : NestsTooDeep spells (map source.symbol before) (source.symbol t) → (g : TextError) → IsFault spells source g →
          place_of g ≡ t.place → 2 ≤ rank_of g
      order_nested n (error.BadByte place) x q = absurd (not_here _ x q)
      order_nested n (error.WideNumber place) x q = absurd (not_here _ x q)
      order_nested n (error.BadToken place) x q = absurd (not_here _ x q)
      order_nested n (error.Expected place) x q = absurd (not_both n place x.before x.next x.stands x.unexpected q)
      order_nested n (error.Nested place) x q = omega arith
      order_nested n error.Memory x q = absurd x

      pub expected_first : f.kind ≡ Expected → IsFirstFault spells source (error.Expected t.place)
      expected_first k =
          let F : List Symbol → Type 0 = λ l. IsUnexpected spells l (first w.here) in
          let G : Option Symbol → Type 0 = λ o. IsUnexpected spells (map source.symbol before) o in
          record {
            stands = record {
              before = map source.symbol before;
              next = Some (source.symbol t);
              stands = at_token before behind t cut;
              unexpected = subst G next (subst F parts.0 (unexpected read spells judges (all_symbols source) f w k));
            };
            least = none_earlier;
            order = order_expected;
          }

      here_nested : f.kind ≡ Nested → NestsTooDeep spells (map source.symbol before) (source.symbol t)
      here_nested k =
          let n = too_deep read spells judges (all_symbols source) f w k in
          let F : List Symbol → Type 0 = λ l. NestsTooDeep spells l n.0 in
          let G : Symbol → Type 0 = λ v. NestsTooDeep spells (map source.symbol before) v in
          subst G (some_one n.0 (source.symbol t) (sym n.1 ∙ next)) (subst F parts.0 n.2)

      pub nested_first : f.kind ≡ Nested → IsFirstFault spells source (error.Nested t.place)
      nested_first k = record {
        stands = record {
          before = map source.symbol before;
          next = source.symbol t;
          stands = at_token before behind t cut;
          nests = here_nested k;
        };
        least = none_earlier;
        order = order_nested (here_nested k);
      }

    module _ (none : source.fault ≡ None) (all : w.here ≡ []) where
      all_used : w.used ≡ all_symbols source
      all_used = sym (append-nil w.used) ∙ ap (λ (us : List Symbol). w.used ++ us) (sym all) ∙ sym w.split

      at_or_after : (place : ℕ) (us : List Symbol) (o : Option Symbol) → Stands source place us o → IsUnexpected spells us o →
          source.end ≤ place
      at_or_after place us o (at_token xs ys u q) x =
          absurd ((no_earlier w.used w.here reached xs ys u q (within w.used w.here reached all xs ys u q)).0 x)
      at_or_after place us o (at_end q) x = omega arith

      nests_nowhere : (place : ℕ) (us : List Symbol) (o : Option Symbol) → Stands source place us o → (v : Symbol) → o ≡ Some v →
          NestsTooDeep spells us v → ⊥
      nests_nowhere place us o (at_token xs ys u q) v same x =
          let F : Symbol → Type 0 = λ y. NestsTooDeep spells (map source.symbol xs) y in
          (no_earlier w.used w.here reached xs ys u q (within w.used w.here reached all xs ys u q)).1
          (subst F (sym (some_one (source.symbol u) v same)) x)
      nests_nowhere place us o (at_end q) v same x = absurd (none_some v same)

      no_lexical : (g : LexFault) → source.fault ≡ Some g → ⊥
      no_lexical g same = no_fault (sym none ∙ same)

      least_end : (g : TextError) → IsFault spells source g → source.end ≤ place_of g
      least_end (error.BadByte place) x = absurd (no_lexical _ x)
      least_end (error.WideNumber place) x = absurd (no_lexical _ x)
      least_end (error.BadToken place) x = absurd (no_lexical _ x)
      least_end (error.Expected place) x = at_or_after place x.before x.next x.stands x.unexpected
      least_end (error.Nested place) x = absurd (nests_nowhere place x.before (Some x.next) x.stands x.next refl x.nests)
      least_end error.Memory x = absurd x

      order_end : (g : TextError) → IsFault spells source g → place_of g ≡ source.end → 1 ≤ rank_of g
      order_end (error.BadByte place) x q = absurd (no_lexical _ x)
      order_end (error.WideNumber place) x q = absurd (no_lexical _ x)
      order_end (error.BadToken place) x q = absurd (no_lexical _ x)
      order_end (error.Expected place) x q = omega arith
      order_end (error.Nested place) x q = omega arith
      order_end error.Memory x q = absurd x

      pub at_end_first : f.kind ≡ Expected → IsFirstFault spells source (error.Expected source.end)
      at_end_first k =
          let F : List Symbol → Type 0 = λ l. IsUnexpected spells l (first w.here) in
          let G : List Symbol → Type 0 = λ l. IsUnexpected spells (all_symbols source) (first l) in
          record {
            stands = record {
              before = all_symbols source;
              next = None;
              stands = at_end none;
              unexpected = subst G all (subst F all_used (unexpected read spells judges (all_symbols source) f w k));
            };
            least = least_end;
            order = order_end;
          }

      pub never_nested : f.kind ≡ Nested → ⊥
      never_nested k =
          let n = too_deep read spells judges (all_symbols source) f w k in
          none_some n.0 (ap (λ (l : List Symbol). first l) (sym all) ∙ n.1)

  -- a refusal of the reading at a token
  pub refused_at_token : (f : reading.Fault) → read (all_symbols source) ≡ Err f → (before behind : List Token) (t : Token) →
      source.tokens ≡ before ++ t ∷ behind → f.left ≡ suc (length behind) → IsRefusal spells source (rule_fault f.kind t.place)
  refused_at_token f e before behind t cut left = by f.kind refl
    where
      w : Refuses read spells (all_symbols source) f
      w = judges.refuses (all_symbols source) f e

      by : (k : FaultKind) → f.kind ≡ k → IsRefusal spells source (rule_fault k t.place)
      by Expected same = expected_first f e w before behind t cut left same
      by Nested same = nested_first f e w before behind t cut left same

  -- no more is left than there are tokens
  pub left_within : (f : reading.Fault) → read (all_symbols source) ≡ Err f → f.left ≤ length source.tokens
  left_within f e =
      let w = judges.refuses (all_symbols source) f e in
      let left : f.left ≡ length w.here = ap (λ (g : reading.Fault). g.left) w.place in
      let total : length (w.used ++ w.here) ≡ length source.tokens =
      ap (λ (l : List Symbol). length l) (sym w.split) ∙ length-map-of source.symbol source.tokens in
      let sum : length (w.used ++ w.here) ≡ length w.used + length w.here = rw length-append refl in
      omega (arith, left, total, sum)

  -- a refusal at the end of a text of tokens alone
  pub refused_at_end : (f : reading.Fault) → read (all_symbols source) ≡ Err f → source.fault ≡ None → f.left ≡ 0 →
      IsRefusal spells source (rule_fault f.kind source.end)
  refused_at_end f e none left = by f.kind refl
    where
      w : Refuses read spells (all_symbols source) f
      w = judges.refuses (all_symbols source) f e

      all : w.here ≡ []
      all = nothing_left w.here (sym (ap (λ (g : reading.Fault). g.left) w.place) ∙ left)

      by : (k : FaultKind) → f.kind ≡ k → IsRefusal spells source (rule_fault k source.end)
      by Expected same = at_end_first f e w none all same
      by Nested same = absurd (never_nested f e w none all same)

  -- a refusal at a lexical fault
  pub refused_at_fault : (f : reading.Fault) → read (all_symbols source) ≡ Err f → f.left ≡ 0 → (l : LexFault) → source.fault ≡ Some l →
      (x : TextError) → lexical_fault x ≡ Some l → IsRefusal spells source x
  refused_at_fault f e left l is x same =
      let w = judges.refuses (all_symbols source) f e in
      first_refusal spells source x
      (lexical_first w.used w.here (refused-reaches f e w)
      (nothing_left w.here (sym (ap (λ (g : reading.Fault). g.left) w.place) ∙ left)) l is x same)

  -- a lexical fault after what is read
  pub read_to_fault : (a : A) → read (all_symbols source) ≡ Ok a → IsViable spells (all_symbols source) → (l : LexFault) →
      source.fault ≡ Some l → (x : TextError) → lexical_fault x ≡ Some l → IsRefusal spells source x
  read_to_fault a e can_go_on l is x same = first_refusal spells source x (lexical_first (all_symbols source) [] reached refl l is x same)
    where
      reached : Reaches read spells source (all_symbols source) []
      reached = record { split = sym (append-nil (all_symbols source)); goes_on = can_go_on; late = λ f q. absurd (ok_err (sym e ∙ q)) }
