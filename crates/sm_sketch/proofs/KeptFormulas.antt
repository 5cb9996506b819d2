-- The formula that a site keeps: the conjunction of the templates that are chosen, by halves.
use Rattle.sm_sketch.proofs.Imports.{◌≡◌, ℕ, zero, suc, ◌+◌, ◌-◌, ◌/◌, ◌≤◌, ◌<◌, Option, Some, List, [], ◌∷◌, ◌++◌, take, drop, length, slice_get, get_or, map, refl, ap, sym, ◌∙◌, subst, arith, append-nil, option_to_list, unwrap_or, Vec, Global, length-take, length-drop, take-map, drop-map, take_more, map-append, Sorts, Assertion, And, Tree, numbered, assertion_in, Formula, AreFormsReady, forms_in, picked, halved, conjoined, kept_by, choice_in, pointed, picked_forms}
use Rattle.std.proofs.lemmas.List.{append_assoc}
use Rattle.std.proofs.lemmas.Option.{slice_get-get_or, slice_get_past}
use Rattle.sm_expand.proofs.FormsLemmas.{ready_append, ready_front}
use Rattle.sm_sketch.specs.declared.kept.TemplateChoice.{TemplateChoice}
use denote.Bor.{Bor}
use Rattle.sm_lemmas.proofs.Numbers.{half_less}

-- how many formulas there may be doesn't matter where it is enough
halved_same : (n m : ℕ) (fs : List Assertion) → length fs ≤ n → length fs ≤ m → halved n fs ≡ halved m fs
halved_same zero zero [] a b = refl
halved_same zero (suc m) [] a b = refl
halved_same (suc n) zero [] a b = refl
halved_same (suc n) (suc m) [] a b = refl
halved_same zero m (f ∷ fs) a b = absurd (omega (arith, a))
halved_same (suc n) zero (f ∷ fs) a b = absurd (omega (arith, b))
halved_same (suc n) (suc m) (f ∷ []) a b = refl
halved_same (suc n) (suc m) (f ∷ g ∷ rest) a b =
    let fs = f ∷ g ∷ rest in
    let half = length fs / 2 in
    let small = half_less (length rest) n a in
    let less = half_less (length rest) m b in
    let front = halved_same n m (take half fs) (subst (λ (k : ℕ). k ≤ n) (sym (length-take half fs)) (omega (arith, small.0)))
    (subst (λ (k : ℕ). k ≤ m) (sym (length-take half fs)) (omega (arith, less.0))) in
    let back = halved_same n m (drop half fs) (subst (λ (k : ℕ). k ≤ n) (sym (length-drop half fs)) small.1)
    (subst (λ (k : ℕ). k ≤ m) (sym (length-drop half fs)) less.1) in
    λ i. And (front i) (back i)

-- two or more are conjoined by halves
conjoined_halves : (fs : List Assertion) → 2 ≤ length fs →
    conjoined fs ≡ And (conjoined (take (length fs / 2) fs)) (conjoined (drop (length fs / 2) fs))
conjoined_halves [] h = absurd (let no : 2 ≤ 0 = h in omega arith)
conjoined_halves (f ∷ []) h = absurd (let no : 2 ≤ 1 = h in omega arith)
conjoined_halves (f ∷ g ∷ rest) h =
    let fs = f ∷ g ∷ rest in
    let half = length fs / 2 in
    let n = suc (length rest) in
    let small = half_less (length rest) n (omega arith) in
    let front = halved_same n (length (take half fs)) (take half fs)
    (subst (λ (k : ℕ). k ≤ n) (sym (length-take half fs)) (omega (arith, small.0))) (omega arith) in
    let back = halved_same n (length (drop half fs)) (drop half fs)
    (subst (λ (k : ℕ). k ≤ n) (sym (length-drop half fs)) small.1) (omega arith) in
    λ i. And (front i) (back i)

-- what is told by where it stands
pointed_take : (n : ℕ) (fs : List (Bor Formula)) → pointed (take n fs) ≡ take n (pointed fs)
pointed_take n fs = sym (take-map (λ (f : Bor Formula). f.now) n fs)

pointed_drop : (n : ℕ) (fs : List (Bor Formula)) → pointed (drop n fs) ≡ drop n (pointed fs)
pointed_drop n fs = sym (drop-map (λ (f : Bor Formula). f.now) n fs)

-- a formula put behind others, where the list has the number
pub put_some : (before after : List (Bor Formula)) (f : Bor Formula) (fs : List Formula) (k : ℕ) → after ≡ before ++ f ∷ [] →
    k < length fs → f.now ≡ get_or fs k f.now → pointed after ≡ pointed before ++ option_to_list (slice_get fs k)
put_some before after f fs k is h e =
    ap pointed is ∙ map-append (λ (g : Bor Formula). g.now) before (f ∷ [])
    ∙ ap (λ (o : Option Formula). pointed before ++ option_to_list o)
    (ap (λ (g : Formula). Some g) e ∙ sym (slice_get-get_or fs k f.now h))

pub put_none : (before : List (Bor Formula)) (fs : List Formula) (k : ℕ) → length fs ≤ k →
    pointed before ≡ pointed before ++ option_to_list (slice_get fs k)
put_none before fs k h =
    sym (ap (λ (o : Option Formula). pointed before ++ option_to_list o) (slice_get_past fs k h) ∙ append-nil (pointed before))

-- one number more
picked_more : (fs : List Formula) (ks : List ℕ) (k : ℕ) →
    picked_forms fs (ks ++ k ∷ []) ≡ picked_forms fs ks ++ option_to_list (slice_get fs k)
picked_more fs [] k = append-nil (option_to_list (slice_get fs k))
picked_more fs (j ∷ ks) k =
    let here = option_to_list (slice_get fs j) in
    ap (λ (l : List Formula). here ++ l) (picked_more fs ks k)
    ∙ sym (append_assoc here (picked_forms fs ks) (option_to_list (slice_get fs k)))

pub next_picked : (fs before after : List Formula) (ks : List ℕ) (i : ℕ) → i < length ks → before ≡ picked_forms fs (take i ks) →
    after ≡ before ++ option_to_list (slice_get fs (get_or ks i 0)) → after ≡ picked_forms fs (take (i + 1) ks)
next_picked fs before after ks i h is more =
    more ∙ ap (λ (l : List Formula). l ++ option_to_list (slice_get fs (get_or ks i 0))) is
    ∙ sym (picked_more fs (take i ks) (get_or ks i 0)) ∙ ap (picked_forms fs) (sym (take_more ks i 0 h))

module _ (sorts : Sorts) (trees : List Tree) where
  abbrev one : Formula → Assertion
  one f = assertion_in sorts trees (numbered f)

  -- formulas with these numbers
  got_over : (fs : List Formula) (k : ℕ) → map one (option_to_list (slice_get fs k)) ≡ option_to_list (slice_get (map one fs) k)
  got_over [] k = refl
  got_over (f ∷ fs) zero = refl
  got_over (f ∷ fs) (suc k) = got_over fs k

  picked_over : (fs : List Formula) (ks : List ℕ) → forms_in sorts trees (picked_forms fs ks) ≡ picked (forms_in sorts trees fs) ks
  picked_over fs [] = refl
  picked_over fs (k ∷ ks) =
      map-append one (option_to_list (slice_get fs k)) (picked_forms fs ks) ∙ (λ i. got_over fs k i ++ picked_over fs ks i)

  got_ready : (fs : List Formula) (k : ℕ) → AreFormsReady sorts trees fs → AreFormsReady sorts trees (option_to_list (slice_get fs k))
  got_ready [] k r = tt
  got_ready (f ∷ fs) zero r = (r.0, tt)
  got_ready (f ∷ fs) (suc k) r = got_ready fs k r.1

  picked_ready : (fs : List Formula) (ks : List ℕ) → AreFormsReady sorts trees fs → AreFormsReady sorts trees (picked_forms fs ks)
  picked_ready fs [] r = tt
  picked_ready fs (k ∷ ks) r =
      ready_append sorts trees (option_to_list (slice_get fs k)) (picked_forms fs ks) (got_ready fs k r) (picked_ready fs ks r)

  back_ready : (n : ℕ) (fs : List Formula) → AreFormsReady sorts trees fs → AreFormsReady sorts trees (drop n fs)
  back_ready zero fs r = r
  back_ready (suc n) [] r = tt
  back_ready (suc n) (f ∷ fs) r = back_ready n fs r.1

  -- conjunctions
  abbrev all : List (Bor Formula) → List Assertion
  all fs = forms_in sorts trees (pointed fs)

  all_take : (n : ℕ) (fs : List (Bor Formula)) → all (take n fs) ≡ take n (all fs)
  all_take n fs = ap (map one) (pointed_take n fs) ∙ sym (take-map one n (pointed fs))

  all_drop : (n : ℕ) (fs : List (Bor Formula)) → all (drop n fs) ≡ drop n (all fs)
  all_drop n fs = ap (map one) (pointed_drop n fs) ∙ sym (drop-map one n (pointed fs))

  all_length : (fs : List (Bor Formula)) → length (all fs) ≡ length fs
  all_length [] = refl
  all_length (f ∷ fs) = ap suc (all_length fs)

  pub two_conjoined : (fs front back : List (Bor Formula)) (p q : Assertion) → 2 ≤ length fs → front ≡ take (length fs / 2) fs →
      back ≡ drop (length fs / 2) fs → p ≡ conjoined (all front) → q ≡ conjoined (all back) → And p q ≡ conjoined (all fs)
  two_conjoined fs front back p q many first second left right =
      let half = length fs / 2 in
      let enough : 2 ≤ length (all fs) = subst (λ (n : ℕ). 2 ≤ n) (sym (all_length fs)) many in
      let l : p ≡ conjoined (take half (all fs)) =
      left ∙ ap (λ (gs : List (Bor Formula)). conjoined (all gs)) first ∙ ap conjoined (all_take half fs) in
      let r : q ≡ conjoined (drop half (all fs)) =
      right ∙ ap (λ (gs : List (Bor Formula)). conjoined (all gs)) second ∙ ap conjoined (all_drop half fs) in
      (λ i. And (l i) (r i))
      ∙ ap (λ (n : ℕ). And (conjoined (take (n / 2) (all fs))) (conjoined (drop (n / 2) (all fs)))) (sym (all_length fs))
      ∙ sym (conjoined_halves (all fs) enough)

  pub front_ready : (fs front : List (Bor Formula)) (n : ℕ) → front ≡ take n fs → AreFormsReady sorts trees (pointed fs) →
      AreFormsReady sorts trees (pointed front)
  front_ready fs front n e r =
      subst (AreFormsReady sorts trees) (sym (ap pointed e ∙ pointed_take n fs)) (ready_front sorts trees n (pointed fs) r)

  pub rest_ready : (fs back : List (Bor Formula)) (n : ℕ) → back ≡ drop n fs → AreFormsReady sorts trees (pointed fs) →
      AreFormsReady sorts trees (pointed back)
  rest_ready fs back n e r =
      subst (AreFormsReady sorts trees) (sym (ap pointed e ∙ pointed_drop n fs)) (back_ready n (pointed fs) r)

  -- what a site keeps
  chosen_is : (sites : List (Vec ℕ Global)) (s : ℕ) (v : Vec ℕ Global) → s < length sites → v ≡ get_or sites s v →
      unwrap_or (slice_get (map (λ (x : Vec ℕ Global). x.items) sites) s) [] ≡ v.items
  chosen_is [] s v h e = absurd (let no : s < 0 = h in omega arith)
  chosen_is (x ∷ sites) zero v h e = ap (λ (y : Vec ℕ Global). y.items) (sym e)
  chosen_is (x ∷ sites) (suc s) v h e = let fewer : s < length sites = omega arith in chosen_is sites s v fewer e

  none_chosen : (sites : List (Vec ℕ Global)) (s : ℕ) → length sites ≤ s →
      unwrap_or (slice_get (map (λ (x : Vec ℕ Global). x.items) sites) s) [] ≡ []
  none_chosen [] s h = refl
  none_chosen (x ∷ sites) zero h = absurd (let no : suc (length sites) ≤ 0 = h in omega arith)
  none_chosen (x ∷ sites) (suc s) h = let fewer : length sites ≤ s = omega arith in none_chosen sites s fewer

  got_picked : (ts us : List Formula) (ks js : List ℕ) (gs hs : List (Bor Formula)) → us ≡ ts → js ≡ ks → hs ≡ gs →
      pointed gs ≡ picked_forms us js → pointed hs ≡ picked_forms ts ks
  got_picked ts us ks js gs hs same chosen found is =
      ap pointed found ∙ is ∙ ap (λ (l : List Formula). picked_forms l js) same ∙ ap (picked_forms ts) chosen

  pub kept_is : (c : TemplateChoice) (sites : List (Vec ℕ Global)) (s : ℕ) (v : Vec ℕ Global) (ts us : List Formula) (js : List ℕ)
      (gs hs : List (Bor Formula)) → sites ≡ c.sites.items → s < length sites → v ≡ get_or sites s v → us ≡ ts → js ≡ v.items → hs ≡ gs →
      pointed gs ≡ picked_forms us js → conjoined (forms_in sorts trees (pointed hs)) ≡ kept_by (choice_in c) s (forms_in sorts trees ts)
  kept_is c sites s v ts us js gs hs here h e same chosen found is =
      ap (λ (l : List Formula). conjoined (forms_in sorts trees l)) (got_picked ts us v.items js gs hs same chosen found is)
      ∙ ap conjoined (picked_over ts v.items)
      ∙ ap (λ (ks : List ℕ). conjoined (picked (forms_in sorts trees ts) ks)) (sym (chosen_is sites s v h e))
      ∙ ap (λ (l : List (Vec ℕ Global)).
      conjoined (picked (forms_in sorts trees ts) (unwrap_or (slice_get (map (λ (x : Vec ℕ Global). x.items) l) s) []))) here

  pub none_kept : (c : TemplateChoice) (sites : List (Vec ℕ Global)) (s : ℕ) (ts : List Formula) → sites ≡ c.sites.items →
      length sites ≤ s → conjoined [] ≡ kept_by (choice_in c) s (forms_in sorts trees ts)
  none_kept c sites s ts here h =
      ap (λ (ks : List ℕ). conjoined (picked (forms_in sorts trees ts) ks)) (sym (none_chosen sites s h))
      ∙ ap (λ (l : List (Vec ℕ Global)).
      conjoined (picked (forms_in sorts trees ts) (unwrap_or (slice_get (map (λ (x : Vec ℕ Global). x.items) l) s) []))) here

  pub kept_ready : (ts us : List Formula) (ks js : List ℕ) (gs hs : List (Bor Formula)) → us ≡ ts → js ≡ ks → hs ≡ gs →
      pointed gs ≡ picked_forms us js → AreFormsReady sorts trees ts → AreFormsReady sorts trees (pointed hs)
  kept_ready ts us ks js gs hs same chosen found is r =
      subst (AreFormsReady sorts trees) (sym (got_picked ts us ks js gs hs same chosen found is)) (picked_ready ts ks r)
