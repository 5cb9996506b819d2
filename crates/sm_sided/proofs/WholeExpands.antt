-- The whole plan expands: after each copy's summary all copies are at their ends.
use Rattle.sm_sided.proofs.Imports.{◌≡◌, ◌⊎◌, ℕ, suc, ◌==◌, nat_le, Bool, true, false, if◌then◌else◌, max, Ok, Err, List, [], ◌∷◌, length, inl, inr, refl, ap, sym, ◌∙◌, arith, cases_Bool, le-leb, append-nil, Code, End, Skip, Assign, Write, If, While, Hole, Copy, O, A, B, M, is_copy, Assertion, all_at_stores, is_copy_is, follows, asks, where_true, branches, Fault, Wrong, due, joined, opened, expand, expand_all, is_over, is_long, front, rest_after, State, summarized, summary_state, own_statements, summary_before, whole_plan}
use Rattle.std.proofs.Common.{Result}
use Rattle.sm_term.specs.SameTestLaws.{both, four}
use Rattle.sm_plan.specs.Copies.{with_copy}
use Rattle.sm_plan.specs.Nodes as node
use Rattle.sm_plan.specs.Plans.{Plan, At, Over, More, Due}
use Rattle.sm_plan.proofs.StatementsLemmas.{over_is}
use Rattle.sm_syntax.proofs.EachCopy.{each_copy}

-- code has as many statements as it has
long_all : (c : Code) → is_long (own_statements c) c ≡ true
long_all End = refl
long_all (Skip k) = long_all k
long_all (Assign x e k) = long_all k
long_all (Write a i e k) = long_all k
long_all (If b c d k) = long_all k
long_all (While b c k) = long_all k
long_all (Hole h k) = long_all k

-- they are all of it
front_all : (c : Code) → front (own_statements c) c ≡ c
front_all End = refl
front_all (Skip k) = ap Skip (front_all k)
front_all (Assign x e k) = ap (Assign x e) (front_all k)
front_all (Write a i e k) = ap (Write a i e) (front_all k)
front_all (If b c d k) = ap (If b c d) (front_all k)
front_all (While b c k) = ap (While b c) (front_all k)
front_all (Hole h k) = ap (Hole h) (front_all k)

-- no statement is left behind all of code's own statements
none_after : (c : Code) → rest_after (own_statements c) c ≡ End
none_after End = refl
none_after (Skip k) = none_after k
none_after (Assign x e k) = none_after k
none_after (Write a i e k) = none_after k
none_after (If b c d k) = none_after k
none_after (While b c k) = none_after k
none_after (Hole h k) = none_after k

-- code that isn't over has a statement
some_there : (c : Code) → is_over c ≡ false → nat_le 1 (own_statements c) ≡ true
some_there End e = absurd cc
some_there (Skip k) e = le-leb 1 (suc (own_statements k)) (omega arith)
some_there (Assign x d k) e = le-leb 1 (suc (own_statements k)) (omega arith)
some_there (Write a i d k) e = le-leb 1 (suc (own_statements k)) (omega arith)
some_there (If b c d k) e = le-leb 1 (suc (own_statements k)) (omega arith)
some_there (While b c k) e = le-leb 1 (suc (own_statements k)) (omega arith)
some_there (Hole h k) e = le-leb 1 (suc (own_statements k)) (omega arith)

-- a copy has done its program
pub record HasDone (program : Copy → Code) (c : Copy) (st next : State) : Type 0 where
  pub rest : next.rest c ≡ End
  pub store : next.stores c ≡ summarized (program c) (st.stores c)
  pub others :
      (d : Copy) → is_copy c d ≡ false → (next.rest d ≡ st.rest d) × (next.stores d ≡ st.stores d)
  pub target : next.target ≡ st.target
  pub is_final : next.is_final ≡ st.is_final

-- what one copy is given, and what the others have
given_here : {T : Type 0} (f : Copy → T) (c : Copy) (v : T) → with_copy f c v c ≡ v
given_here f c v = ap (λ (b : Bool). if b then v else f c) ((is_copy_is c c).1 refl)

given_there : {T : Type 0} (f : Copy → T) (c d : Copy) (v : T) → is_copy c d ≡ false → with_copy f c v d ≡ f d
given_there f c d v other = ap (λ (b : Bool). if b then v else f d) other

-- by the summary of all its statements
summary_done : (program : Copy → Code) (c : Copy) (st : State) → st.rest c ≡ program c →
    let n = own_statements (program c) in
    HasDone program c st (summary_state st c (front n (st.rest c)) (rest_after n (st.rest c)))
summary_done program c st here =
    let n = own_statements (program c) in
    let all : front n (st.rest c) ≡ program c = ap (front n) here ∙ front_all (program c) in
    record {
      rest = given_here st.rest c (rest_after n (st.rest c)) ∙ ap (rest_after n) here ∙ none_after (program c);
      store =
          given_here st.stores c (summarized (front n (st.rest c)) (st.stores c))
          ∙ ap (λ (done : Code). summarized done (st.stores c)) all;
      others = λ (d : Copy) (other : is_copy c d ≡ false). (
        given_there st.rest c d (rest_after n (st.rest c)) other,
        given_there st.stores c d (summarized (front n (st.rest c)) (st.stores c)) other,
      );
      target = refl;
      is_final = refl;
    }

-- a copy without statements has done them
nothing_done : (program : Copy → Code) (c : Copy) (st : State) → st.rest c ≡ program c → program c ≡ End →
    HasDone program c st st
nothing_done program c st here none = record {
  rest = here ∙ none;
  store = sym (ap (λ (done : Code). summarized done (st.stores c)) none);
  others = λ (d : Copy) (other : is_copy c d ≡ false). (refl, refl);
  target = refl;
  is_final = refl;
}

-- the obligations of one plan alone
joined_alone : (r : Result (List Due) Fault) → joined (Ok []) (joined r (Ok [])) ≡ r
joined_alone (Err w) = refl
joined_alone (Ok ds) = ap Ok (append-nil ds)

-- a summary whose statements are there goes on behind it
summary_expands : (k : ℕ) (st : State) (c : Copy) (n : ℕ) (p : Plan) → nat_le 1 n ≡ true → is_long n (st.rest c) ≡ true →
    expand k st (At (node.Abs c n) (More p Over))
    ≡ expand (suc k) (summary_state st c (front n (st.rest c)) (rest_after n (st.rest c))) p
summary_expands k st c n p some long =
    let next = summary_state st c (front n (st.rest c)) (rest_after n (st.rest c)) in
    ap (λ (b : Bool). opened (where_true b (follows (next ∷ []))) (Wrong k 2)
    (λ (q : node.Opened). if 1 == length q.states
    then joined (Ok (due k st (node.Abs c n) q.goals)) (expand_all (Wrong k 2) (suc k) q.states (More p Over))
    else Err (Wrong k 2)))
    (both (nat_le 1 n) (is_long n (st.rest c)) some long)
    ∙ joined_alone (expand (suc k) next p)

-- where a plan goes on after a copy's statements
pub record Reaches (program : Copy → Code) (c : Copy) (k : ℕ) (st : State) (p q : Plan) : Type 0 where
  pub number : ℕ
  pub next : State
  pub expands : expand k st p ≡ expand number next q
  pub done : HasDone program c st next

-- the plan that follows a summary
pub after_summary : (program : Copy → Code) (c : Copy) (p : Plan) (k : ℕ) (st : State) → st.rest c ≡ program c →
    Reaches program c k st (summary_before program c p) p
after_summary program c p k st here = of (cases_Bool (is_over (program c)))
  where
    of : (is_over (program c) ≡ true) ⊎ (is_over (program c) ≡ false) → Reaches program c k st (summary_before program c p) p
    of (inl over) = record {
      number = k;
      next = st;
      expands =
          ap (λ (b : Bool). expand k st (if b then p else At (node.Abs c (own_statements (program c))) (More p Over))) over;
      done = nothing_done program c st here (over_is (program c) over);
    }
    of (inr more) =
        let n = own_statements (program c) in
        record {
          number = suc k;
          next = summary_state st c (front n (st.rest c)) (rest_after n (st.rest c));
          expands =
              ap (λ (b : Bool). expand k st (if b then p else At (node.Abs c n) (More p Over))) more
              ∙ summary_expands k st c n p (some_there (program c) more) (ap (is_long n) here ∙ long_all (program c));
          done = summary_done program c st here;
        }

-- all copies are at their ends
pub record IsAtEnds (program : Copy → Code) (st next : State) : Type 0 where
  pub rest : (c : Copy) → next.rest c ≡ End
  pub stores : (c : Copy) → next.stores c ≡ summarized (program c) (st.stores c)
  pub target : next.target ≡ st.target
  pub is_final : next.is_final ≡ st.is_final

-- where the whole plan ends
pub record ReachesEnds (program : Copy → Code) (k : ℕ) (st : State) : Type 0 where
  pub number : ℕ
  pub last : State
  pub expands : expand k st (whole_plan program) ≡ expand number last (At node.Ends Over)
  pub ends : IsAtEnds program st last

-- it ends there
pub whole_reaches : (program : Copy → Code) (k : ℕ) (st : State) → ((c : Copy) → st.rest c ≡ program c) →
    ReachesEnds program k st
whole_reaches program k st begin =
    let end : Plan = At node.Ends Over in
    let last : Plan = summary_before program M end in
    let third : Plan = summary_before program B last in
    let second : Plan = summary_before program A third in
    let o : Reaches program O k st (summary_before program O second) second = after_summary program O second k st (begin O) in
    let a : Reaches program A o.number o.next second third =
    after_summary program A third o.number o.next ((o.done.others A refl).0 ∙ begin A) in
    let b : Reaches program B a.number a.next third last =
    after_summary program B last a.number a.next ((a.done.others B refl).0 ∙ (o.done.others B refl).0 ∙ begin B) in
    let m : Reaches program M b.number b.next last end =
    after_summary program M end b.number b.next
    ((b.done.others M refl).0 ∙ (a.done.others M refl).0 ∙ (o.done.others M refl).0 ∙ begin M) in
    record {
      number = m.number;
      last = m.next;
      expands = o.expands ∙ a.expands ∙ b.expands ∙ m.expands;
      ends = record {
        rest = each_copy (λ (c : Copy). m.next.rest c ≡ End)
            ((m.done.others O refl).0 ∙ (b.done.others O refl).0 ∙ (a.done.others O refl).0 ∙ o.done.rest)
            ((m.done.others A refl).0 ∙ (b.done.others A refl).0 ∙ a.done.rest)
            ((m.done.others B refl).0 ∙ b.done.rest)
            m.done.rest;
        stores = each_copy (λ (c : Copy). m.next.stores c ≡ summarized (program c) (st.stores c))
            ((m.done.others O refl).1 ∙ (b.done.others O refl).1 ∙ (a.done.others O refl).1 ∙ o.done.store)
            ((m.done.others A refl).1 ∙ (b.done.others A refl).1 ∙ a.done.store
            ∙ ap (summarized (program A)) (o.done.others A refl).1)
            ((m.done.others B refl).1 ∙ b.done.store
            ∙ ap (summarized (program B)) ((a.done.others B refl).1 ∙ (o.done.others B refl).1))
            (m.done.store
            ∙ ap (summarized (program M)) ((b.done.others M refl).1 ∙ (a.done.others M refl).1 ∙ (o.done.others M refl).1));
        target = m.done.target ∙ b.done.target ∙ a.done.target ∙ o.done.target;
        is_final = m.done.is_final ∙ b.done.is_final ∙ a.done.is_final ∙ o.done.is_final;
      };
    }

-- at their ends copies owe the target
pub ends_expand : (k : ℕ) (st : State) → ((c : Copy) → st.rest c ≡ End) →
    expand k st (At node.Ends Over) ≡ Ok (due k st node.Ends (all_at_stores st.stores st.target))
ends_expand k st rests =
    let goals : List Assertion = all_at_stores st.stores st.target in
    ap (λ (b : Bool). opened (where_true b (asks goals)) (Wrong k 7)
    (λ (q : node.Opened). if 0 == length q.states
    then joined (Ok (due k st node.Ends q.goals)) (expand_all (Wrong k 7) (suc k) q.states Over)
    else Err (Wrong k 7)))
    (four _ _ _ _ (ap is_over (rests O)) (ap is_over (rests A)) (ap is_over (rests B)) (ap is_over (rests M)))
    ∙ ap Ok (append-nil (due k st node.Ends goals))

-- no node of the whole plan branches
summary_straight : (program : Copy → Code) (c : Copy) (p : Plan) → branches p ≡ 0 → branches (summary_before program c p) ≡ 0
summary_straight program c p straight = of (is_over (program c))
  where
    of : (b : Bool) → branches (if b then p else At (node.Abs c (own_statements (program c))) (More p Over)) ≡ 0
    of true = straight
    of false = ap (λ (n : ℕ). max n 0) straight

pub whole_straight : (program : Copy → Code) → branches (whole_plan program) ≡ 0
whole_straight program =
    summary_straight program O (summary_before program A (summary_before program B (summary_before program M (At node.Ends Over))))
    (summary_straight program A (summary_before program B (summary_before program M (At node.Ends Over)))
    (summary_straight program B (summary_before program M (At node.Ends Over))
    (summary_straight program M (At node.Ends Over) refl)))
