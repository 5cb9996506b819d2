-- Terms that go behind others into a table of their own: the first stay, and a term's number there
-- doesn't change.
use Rattle.sm_list.proofs.Imports.{◌≡◌, ◌⊎◌, inl, inr, ℕ, zero, suc, ◌+◌, ◌-◌, ◌<◌, ◌≤◌, pos, Bool, true, false, ◌||◌, Option, Some, None, List, [], ◌∷◌, ◌++◌, map, length, take, get_or, refl, sym, ap, ◌∙◌, subst, arith, list_any, append-nil, append_assoc, length-append, length-map, take_more, take-map, cases_lt, take-append_seam, take-append-add, Sorts, Tree, Lit, Read, Write, arguments_of, Assertion, same_tree, TableValue, trees_in, sorts_in, codes_in, tree_at, TermId, AreApart, with_tree, AddsTerms, NumberedFormula, assertion_in, IsFormulaWithin, assertion-more, form_kept, same_tree_is, tree_at-more, put, with_term, with_formula, with_formulas, is_among, number_under, greatest_of, writes_on, put_if, read_before, with_reads, with_all_reads, terms_of, trees_at, AreBelow, AllAmong, IsClosed, AreBuilt, ArePlaced, assertions_in, AreFormulasWithin, formula_under, AreShared, with_those_before, AllOf, by_arguments, with_term_is, put_there, put_new, all_kept, closed_put, among_with_terms, among-left, kept_with_term, among_with_term, closed_none, below_at, tree_of_place}
use Rattle.sm_term.specs.Assertions.{Yes, No, Eq, Ne, Le, Lt, And, Or}
use Rattle.sm_list.specs.declared.shared.SharedTerms.{SharedTerms}
use Rattle.sm_terms.proofs.WithTermLemmas.{with_terms}
use Rattle.sm_list.proofs.ReadsLemmas.{kept_put_if, all_themselves}
use Rattle.sm_list.proofs.BuiltLemmas.{FormulaAmong, FormulasAmong, terms_among, built_at, built-append}
use Rattle.sm_list.proofs.RenumberLemmas.{formula_same, formula_there, formulas_same, formulas_there}
use Rattle.sm_list.proofs.OwnLemmas.{formulas_placed}

-- terms with others behind them, each once and after its arguments
pub record GoBehind (first seen : List Tree) : Type 0 where
  pub more : List Tree
  pub is : seen ≡ first ++ more
  pub built : AreBuilt [] seen
  pub closed : IsClosed seen

-- none yet
pub behind_none : (terms : List Tree) → AreBuilt [] terms → IsClosed terms → GoBehind terms terms
behind_none terms built closed = record { more = []; is = sym (append-nil terms); built = built; closed = closed }

-- the first are among them
pub behind_keeps : (first seen : List Tree) → GoBehind first seen → (t : Tree) → is_among first t ≡ true → is_among seen t ≡ true
behind_keeps first seen h t among = subst (λ (ts : List Tree). is_among ts t ≡ true) (sym h.is) (among-left first h.more t among)

module _ (first : List Tree) where
  behind_put : (t : Tree) (seen : List Tree) → GoBehind first seen → AllAmong seen (arguments_of t) → GoBehind first (put t seen)
  behind_put t seen h args = by (is_among seen t) refl
    where
      by : (b : Bool) → is_among seen t ≡ b → GoBehind first (put t seen)
      by true e = subst (GoBehind first) (sym (put_there t seen e)) h
      by false e =
          let new = put_new t seen e in
          record {
            more = h.more ++ t ∷ [];
            is = new ∙ ap (λ (us : List Tree). us ++ t ∷ []) h.is ∙ append_assoc first h.more (t ∷ []);
            built = subst (AreBuilt []) (sym new) (built-append [] seen t h.built args e);
            closed = closed_put t seen h.closed args;
          }

  -- a term after its arguments
  behind_term : (t : Tree) (seen : List Tree) → GoBehind first seen → GoBehind first (with_term t seen)
  behind_term = by_arguments (λ (t : Tree). (seen : List Tree) → GoBehind first seen → GoBehind first (with_term t seen)) step
    where
      all : (ts : List Tree) → AllOf (λ (t : Tree). (seen : List Tree) → GoBehind first seen → GoBehind first (with_term t seen)) ts →
          (seen : List Tree) → GoBehind first seen → GoBehind first (with_terms ts seen)
      all [] h seen k = k
      all (t ∷ ts) h seen k = all ts h.1 (with_term t seen) (h.0 seen k)

      step : (t : Tree) →
          AllOf (λ (t : Tree). (seen : List Tree) → GoBehind first seen → GoBehind first (with_term t seen)) (arguments_of t) →
          (seen : List Tree) → GoBehind first seen → GoBehind first (with_term t seen)
      step t h seen k =
          subst (GoBehind first) (sym (with_term_is t seen))
          (behind_put t (with_terms (arguments_of t) seen) (all (arguments_of t) h seen k) (among_with_terms (arguments_of t) seen))

  behind_two : (t u : Tree) (seen : List Tree) → GoBehind first seen → GoBehind first (with_term u (with_term t seen))
  behind_two t u seen h = behind_term u (with_term t seen) (behind_term t seen h)

  -- the terms of formulas
  pub behind_formula : (f : Assertion) (seen : List Tree) → GoBehind first seen → GoBehind first (with_formula f seen)
  behind_formula Yes seen h = h
  behind_formula No seen h = h
  behind_formula (Eq sort t u) seen h = behind_two t u seen h
  behind_formula (Ne sort t u) seen h = behind_two t u seen h
  behind_formula (Le t u) seen h = behind_two t u seen h
  behind_formula (Lt t u) seen h = behind_two t u seen h
  behind_formula (And p q) seen h = behind_formula q (with_formula p seen) (behind_formula p seen h)
  behind_formula (Or p q) seen h = behind_formula q (with_formula p seen) (behind_formula p seen h)

  pub behind_formulas : (fs : List Assertion) (seen : List Tree) → GoBehind first seen → GoBehind first (with_formulas fs seen)
  behind_formulas [] seen h = h
  behind_formulas (f ∷ fs) seen h = behind_formulas fs (with_formula f seen) (behind_formula f seen h)

  -- what elements were before: the array before it was written and the index are there
  behind_read : (o : Option Tree) (t : Tree) (seen : List Tree) → read_before t ≡ o → is_among seen t ≡ true → GoBehind first seen →
      GoBehind first (put_if o seen)
  behind_read None t seen e there h = h
  behind_read (Some r) (Read (Write a j v) i) seen e there h =
      let same : Read a i ≡ r = cc in
      let both = h.closed (Read (Write a j v) i) there in
      let inner = h.closed (Write a j v) both.0 in
      behind_put r seen h (subst (λ (u : Tree). AllAmong seen (arguments_of u)) same (inner.0, (both.1.0, tt)))
  behind_read (Some r) t seen e there h = absurd cc

  behind_reads : (ts seen : List Tree) → AllAmong seen ts → GoBehind first seen → GoBehind first (with_reads ts seen)
  behind_reads [] seen there h = h
  behind_reads (t ∷ ts) seen there h =
      let new = put_if (read_before t) seen in
      behind_reads ts new (all_kept seen new (kept_put_if (read_before t) seen) ts there.1)
      (behind_read (read_before t) t seen refl there.0 h)

  behind_rounds : (n : ℕ) (seen : List Tree) → GoBehind first seen → GoBehind first (with_all_reads n seen)
  behind_rounds zero seen h = h
  behind_rounds (suc n) seen h = behind_rounds n (with_reads seen seen) (behind_reads seen seen (all_themselves seen) h)

  pub behind_those_before : (seen : List Tree) → GoBehind first seen → GoBehind first (with_those_before seen)
  behind_those_before seen h = behind_rounds (greatest_of (map writes_on seen)) seen h

-- the terms of a formula are among what has those that it was put behind
record IsAmong (f : Assertion) (seen later : List Tree) : Type 0 where
  terms : FormulaAmong later f
  kept : (t : Tree) → is_among seen t ≡ true → is_among later t ≡ true

two_among : (t u : Tree) (seen later : List Tree) →
    ((v : Tree) → is_among (with_term u (with_term t seen)) v ≡ true → is_among later v ≡ true) →
    (is_among later t ≡ true) × (is_among later u ≡ true) × ((v : Tree) → is_among seen v ≡ true → is_among later v ≡ true)
two_among t u seen later k =
    let next = with_term t seen in (
      k t (kept_with_term u next t (among_with_term t seen)),
      k u (among_with_term u next),
      λ v h. k v (kept_with_term u next v (kept_with_term t seen v h)),
    )

is_among_later : (f : Assertion) (seen later : List Tree) →
    ((t : Tree) → is_among (with_formula f seen) t ≡ true → is_among later t ≡ true) → IsAmong f seen later
is_among_later Yes seen later k = record { terms = tt; kept = k }
is_among_later No seen later k = record { terms = tt; kept = k }
is_among_later (Eq sort t u) seen later k = let two = two_among t u seen later k in record { terms = (two.0, two.1); kept = two.2 }
is_among_later (Ne sort t u) seen later k = let two = two_among t u seen later k in record { terms = (two.0, two.1); kept = two.2 }
is_among_later (Le t u) seen later k = let two = two_among t u seen later k in record { terms = (two.0, two.1); kept = two.2 }
is_among_later (Lt t u) seen later k = let two = two_among t u seen later k in record { terms = (two.0, two.1); kept = two.2 }
is_among_later (And p q) seen later k =
    let second = is_among_later q (with_formula p seen) later k in
    let one = is_among_later p seen later second.kept in
    record { terms = (one.terms, second.terms); kept = one.kept }
is_among_later (Or p q) seen later k =
    let second = is_among_later q (with_formula p seen) later k in
    let one = is_among_later p seen later second.kept in
    record { terms = (one.terms, second.terms); kept = one.kept }

-- the terms of formulas alone
pub all_behind : (fs : List Assertion) → GoBehind [] (terms_of fs)
all_behind fs = behind_those_before [] (with_formulas fs []) (behind_formulas [] fs [] (behind_none [] tt closed_none))

-- a formula's terms go behind others, with what elements were before
pub record IsAdded (f : Assertion) (terms new : List Tree) : Type 0 where
  pub behind : GoBehind terms new
  pub among : FormulaAmong new f

pub added : (f : Assertion) (terms : List Tree) → AreBuilt [] terms → IsClosed terms →
    IsAdded f terms (with_those_before (with_formula f terms))
added f terms built closed =
    let seen = with_formula f terms in
    let new = with_those_before seen in
    let first = behind_formula terms f terms (behind_none terms built closed) in
    let rest = behind_those_before seen seen (behind_none seen first.built first.closed) in
    record {
      behind = behind_those_before terms seen first;
      among = (is_among_later f terms new (behind_keeps seen new rest)).terms;
    }

-- what a formula that is moved to the other table is there
pub record IsMoved (sorts : Sorts) (own : List Tree) (form : Assertion) (g : NumberedFormula) : Type 0 where
  pub same : assertion_in sorts own g ≡ form
  pub within : IsFormulaWithin (length own) g

pub moved : (v w : TableValue) → AddsTerms v w → (f g : NumberedFormula) → IsFormulaWithin (length (trees_in v)) f →
    (own : List Tree) (numbers ids : List TermId) → ArePlaced (trees_in w) own numbers →
    FormulaAmong own (assertion_in (sorts_in v) (trees_in v) f) → ids ≡ numbers → g ≡ formula_under (number_under ids) f →
    IsMoved (sorts_in v) own (assertion_in (sorts_in v) (trees_in v) f) g
moved v w grows f g within own numbers ids placed among same is =
    let sorts = sorts_in v in
    let trees = trees_in w in
    let new = number_under numbers in
    let form : assertion_in sorts trees f ≡ assertion_in sorts (trees_in v) f =
    ap (λ (s : Sorts). assertion_in s trees f) (sym grows.sorts) ∙ assertion-more v w grows f within in
    let there = subst (FormulaAmong own) (sym form) among in
    let stands = (formulas_placed sorts trees own numbers placed (f ∷ []) (form_kept v w grows f within, tt) (there, tt)).0 in
    let under : g ≡ formula_under new f = is ∙ ap (λ (ns : List TermId). formula_under (number_under ns) f) same in
    record {
      same = ap (assertion_in sorts own) under ∙ formula_same trees own new sorts f stands ∙ form;
      within = subst (IsFormulaWithin (length own)) (sym under) (formula_there trees own new f stands);
    }

-- what facts that are moved to the other table are there
pub record AreMoved (sorts : Sorts) (own : List Tree) (all : List Assertion) (gs : List NumberedFormula) : Type 0 where
  pub same : assertions_in sorts own gs ≡ all
  pub within : AreFormulasWithin (length own) gs

pub all_moved : (sorts : Sorts) (trees own : List Tree) (fs gs : List NumberedFormula) → AreFormulasWithin (length trees) fs →
    (numbers ids : List TermId) → ArePlaced trees own numbers → own ≡ terms_of (assertions_in sorts trees fs) → ids ≡ numbers →
    gs ≡ map (formula_under (number_under ids)) fs → AreMoved sorts own (assertions_in sorts trees fs) gs
all_moved sorts trees own fs gs within numbers ids placed are same is =
    let new = number_under numbers in
    let all = assertions_in sorts trees fs in
    let among : FormulasAmong own all = subst (λ (ts : List Tree). FormulasAmong ts all) (sym are) (terms_among all) in
    let stand = formulas_placed sorts trees own numbers placed fs within among in
    let under : gs ≡ map (formula_under new) fs = is ∙ ap (λ (ns : List TermId). map (formula_under (number_under ns)) fs) same in
    record {
      same = ap (assertions_in sorts own) under ∙ formulas_same trees own new sorts fs stand;
      within = subst (AreFormulasWithin (length own)) (sym under) (formulas_there trees own new fs stand);
    }

-- a term that is among those with these numbers has one of them
record HasNumber (trees : List Tree) (count : ℕ) (t : Tree) : Type 0 where
  number : ℕ
  below : number < count
  is : tree_at trees number ≡ t

number_among : (trees : List Tree) (count : ℕ) (ns : List ℕ) (t : Tree) → AreBelow count ns → is_among (trees_at trees ns) t ≡ true →
    HasNumber trees count t
number_among trees count [] t below h = absurd cc
number_among trees count (n ∷ ns) t below h = by (same_tree t (tree_at trees n)) refl (number_among trees count ns t below.1)
  where
    by : (b : Bool) → same_tree t (tree_at trees n) ≡ b → (is_among (trees_at trees ns) t ≡ true → HasNumber trees count t) →
        HasNumber trees count t
    by true e more = record { number = n; below = below.0; is = sym ((same_tree_is t (tree_at trees n)).0 e) }
    by false e more = more (sym (ap (λ (b : Bool). b || list_any (same_tree t) (trees_at trees ns)) e) ∙ h)

-- numbers stay where the table that they are of grows
pub placed_grown : (old trees own : List Tree) (numbers : List TermId) (ns : List ℕ) → (more : List Tree) × (trees ≡ old ++ more) →
    AreApart trees → AreBelow (length old) ns → trees_at old ns ≡ own → ArePlaced old own numbers → ArePlaced trees own numbers
placed_grown old trees own numbers ns grown apart below are placed = λ n h among.
    let t = tree_at trees n in
    let has = number_among old (length old) ns t below (subst (λ (ts : List Tree). is_among ts t ≡ true) (sym are) among) in
    let long = length-append old grown.0 in
    let all = ap length grown.1 in
    let less = has.below in
    let later = is_later has.number has.below in
    let same : n ≡ has.number = apart n has.number h (omega arith) (sym has.is ∙ sym later) in
    let inside : n < length old = omega arith in
    let is : t ≡ tree_at old n = is_later n inside in
    let at = placed n inside (subst (λ (u : Tree). is_among own u ≡ true) is among) in
    (at.0, at.1 ∙ sym is)
  where
    is_later : (n : ℕ) → n < length old → tree_at trees n ≡ tree_at old n
    is_later n h = ap (λ (us : List Tree). tree_at us n) grown.1 ∙ tree_at-more old grown.0 n h

-- the first terms have the first numbers
pub placed_front : (trees terms more : List Tree) (numbers : List TermId) → AreBuilt [] (terms ++ more) →
    ArePlaced trees (terms ++ more) numbers → ArePlaced trees terms numbers
placed_front trees terms more numbers built placed = λ n h among. by n h among (cases_lt (number_under numbers n) (length terms))
  where
    all : List Tree
    all = terms ++ more

    by : (n : ℕ) → n < length trees → is_among terms (tree_at trees n) ≡ true →
        (number_under numbers n < length terms) ⊎ (length terms ≤ number_under numbers n) →
        (number_under numbers n < length terms) × (tree_at terms (number_under numbers n) ≡ tree_at trees n)
    by n h among (inl less) =
        let at = placed n h (among-left terms more (tree_at trees n) among) in
        (less, sym (tree_at-more terms more (number_under numbers n) less) ∙ at.1)
    by n h among (inr past) =
        let t = tree_at trees n in
        let m = number_under numbers n in
        let at = placed n h (among-left terms more t among) in
        let k = m - length terms in
        let far : m ≡ length terms + k = omega arith in
        let before : take m all ≡ terms ++ take k more = ap (λ (i : ℕ). take i all) far ∙ take-append-add terms more k in
        let new : is_among (take m all) (tree_at all m) ≡ false = (built_at [] all (Lit (pos 0)) built m at.0).new in
        let there : is_among (take m all) (tree_at all m) ≡ true =
        ap (λ (u : Tree). is_among (take m all) u) at.1 ∙ ap (λ (ts : List Tree). is_among ts t) before
        ∙ among-left terms (take k more) t among in
        absurd cc

built_front : (older ts us : List Tree) → AreBuilt older (ts ++ us) → AreBuilt older ts
built_front older [] us h = tt
built_front older (t ∷ ts) us h = (h.0, h.1, built_front (older ++ t ∷ []) ts us h.2)

below_take : (count k : ℕ) (ns : List ℕ) → AreBelow count ns → AreBelow count (take k ns)
below_take count zero ns h = tt
below_take count (suc k) [] h = tt
below_take count (suc k) (n ∷ ns) h = (h.0, below_take count k ns h.1)

-- terms are cut off at the end
pub shared_front : (table : TableValue) (terms more : List Tree) (s t : SharedTerms) → AreShared table (terms ++ more) s → IsClosed terms →
    trees_in t.own ≡ take (length terms) (trees_in s.own) → sorts_in t.own ≡ sorts_in s.own → codes_in t.own ≡ codes_in s.own →
    t.listed ≡ take (length terms) s.listed → t.numbers.items ≡ s.numbers.items → AreShared table terms t
shared_front table terms more s t shared closed own sorts codes keys numbers =
    let trees = trees_in table in
    let n = length terms in
    let front : take n (terms ++ more) ≡ terms = take-append_seam terms more in
    record {
      sorts = sorts ∙ shared.sorts;
      codes = codes ∙ shared.codes;
      own = own ∙ ap (take n) shared.own ∙ front;
      listed =
          ap (trees_at trees) keys ∙ sym (take-map (tree_at trees) n s.listed) ∙ ap (take n) shared.listed ∙ front;
      below = subst (AreBelow (length trees)) (sym keys) (below_take (length trees) n s.listed shared.below);
      closed = closed;
      built = built_front [] terms more shared.built;
      count = subst (λ (ids : List TermId). length ids ≤ length trees) (sym numbers) shared.count;
      placed =
          subst (ArePlaced trees terms) (sym numbers) (placed_front trees terms more s.numbers.items shared.built shared.placed);
    }

-- the next term of a list, where those before it are there
pub record NextNumber (trees : List Tree) (ns : List ℕ) (i n : ℕ) : Type 0 where
  pub within : n < length trees
  pub ready : AllAmong (take i (trees_at trees ns)) (arguments_of (tree_at trees n))
  pub next : with_tree (take i (trees_at trees ns)) (tree_at trees n) ≡ take (i + 1) (trees_at trees ns)

pub next_number : (trees : List Tree) (ns : List ℕ) → AreBelow (length trees) ns → AreBuilt [] (trees_at trees ns) →
    (i : ℕ) → i < length ns → NextNumber trees ns i (get_or ns i 0)
next_number trees ns below built i h =
    let all = trees_at trees ns in
    let long = length-map ns (tree_at trees) in
    let inside : i < length all = omega arith in
    let tree : tree_at trees (get_or ns i 0) ≡ tree_at all i = tree_of_place trees ns i (Lit (pos 0)) h in
    let one = built_at [] all (Lit (pos 0)) built i inside in
    record {
      within = below_at (length trees) ns below i h;
      ready = subst (λ (u : Tree). AllAmong (take i all) (arguments_of u)) (sym tree) one.ready;
      next =
          ap (with_tree (take i all)) tree ∙ put_new (tree_at all i) (take i all) one.new
          ∙ sym (take_more all i (Lit (pos 0)) inside);
    }
