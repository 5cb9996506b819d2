-- Going over code with kept sets finds exactly what the code needs.
use Rattle.sm_deps.proofs.Imports.{◌≡◌, ◌⊎◌, ◌+◌, ◌<◌, ◌≤◌, ℕ, zero, suc, true, ◌||◌, Some, None, List, [], ◌∷◌, ◌++◌, length, get_or, slice_get, inl, inr, refl, sym, ap, subst, ⊎_elim, ◌∙◌, length-append, arith, or_left, or_right, or_cases, fun_ext, BTreeSet, IsOrdered, nat_cmp, Condition, Code, End, Skip, Write, If, While, Hole, append, Loops, tests, code_names, needed, members, Below, loops_in, HasNeeds, IsWithin, IsReady, LoopsCounted, GoesOver, Settles, Resumes, KeepsSet, same_tests}
use Rattle.std.proofs.lemmas.Option.{same_Some, slice_get_read, slice_get_past}
use Rattle.sm_syntax.specs.claim.Syntax.{Assign}
use Rattle.sm_deps.specs.Members.{either}
use Rattle.sm_deps.proofs.InputsExact.{loop_closed}
use Rattle.sm_deps.proofs.GrownLemmas.{grown_starts, grown_within}
use Rattle.sm_deps.proofs.NeededLemmas.{needed-append, needed_grows, no_more}
use Rattle.sm_deps.proofs.LoopSets.{Test, sets_of, sets_need}

-- what is so of a set is so of an equal one
abbrev at : (s t : Test) (x : ℕ) → s ≡ t → s x ≡ true → t x ≡ true
at s t x same h = subst (λ (u : Test). u x ≡ true) same h

-- the loops of code after code
loops_in-append : (c k : Code) → loops_in (append c k) ≡ loops_in k + loops_in c
loops_in-append End k = omega arith
loops_in-append (Skip c) k = loops_in-append c k
loops_in-append (Assign x e c) k = loops_in-append c k
loops_in-append (Write a i e c) k = loops_in-append c k
loops_in-append (If b d e c) k = let rest = loops_in-append c k in omega (arith, rest)
loops_in-append (While b d c) k = let rest = loops_in-append c k in omega (arith, rest)
loops_in-append (Hole h c) k = loops_in-append c k

-- at an equal number, for an equal set
moved : (c : Code) (m n : ℕ) (few more : Test) (sets : ℕ → Test) → m ≡ n → few ≡ more → HasNeeds m c few sets → HasNeeds n c more sets
moved c m n few more sets number set h = subst (λ (k : ℕ). HasNeeds k c more sets) number (subst (λ (s : Test). HasNeeds m c s sets) set h)

-- the loops of code before code, and its own
needs-append : (c k : Code) (n : ℕ) (wanted : Test) (sets : ℕ → Test) → HasNeeds n (append c k) wanted sets →
    HasNeeds n k wanted sets × HasNeeds (n + loops_in k) c (needed k wanted) sets
needs-append End k n wanted sets h = (h, tt)
needs-append (Skip c) k n wanted sets h = needs-append c k n wanted sets h
needs-append (Assign x e c) k n wanted sets h = needs-append c k n wanted sets h
needs-append (Write a i e c) k n wanted sets h = needs-append c k n wanted sets h
needs-append (If b d e c) k n wanted sets h =
    let rest = needs-append c k n wanted sets h.0 in
    let count = loops_in-append c k in
    let same = needed-append c k wanted in (
      rest.0,
      (
        rest.1,
        moved d (n + loops_in (append c k)) (n + loops_in k + loops_in c) (needed (append c k) wanted) (needed c (needed k wanted)) sets
            (omega (arith, count)) same h.1,
        moved e (n + (loops_in (append c k) + loops_in d)) (n + loops_in k + (loops_in c + loops_in d)) (needed (append c k) wanted)
            (needed c (needed k wanted)) sets (omega (arith, count)) same h.2,
      ),
    )
needs-append (While b d c) k n wanted sets h =
    let rest = needs-append c k n wanted sets h.0 in
    let count = loops_in-append c k in
    let number : n + loops_in k + loops_in c ≡ n + loops_in (append c k) = omega (arith, count) in
    let same = needed-append (While b d c) k wanted in (
      rest.0,
      (
        rest.1,
        ap sets number ∙ h.1 ∙ same,
        moved d (n + (loops_in (append c k) + 1)) (n + loops_in k + (loops_in c + 1)) (needed (append (While b d c) k) wanted)
            (needed (While b d c) (needed k wanted)) sets (omega (arith, count)) same h.2,
      ),
    )
needs-append (Hole q c) k n wanted sets h = needs-append c k n wanted sets h

-- no loop is passed
counted_none : (loops : Loops) → IsReady loops → LoopsCounted 0 loops loops
counted_none loops ready = record { next = omega arith; ready = ready; kept = omega arith }

-- some loops, and then others
counted_both : (m n : ℕ) (one two three : Loops) → LoopsCounted m one two → LoopsCounted n two three → LoopsCounted (m + n) one three
counted_both m n one two three first second = record {
  next = omega (arith, first.next, second.next);
  ready = second.ready;
  kept = omega (arith, first.kept, second.kept);
}

-- the loops that are passed are counted by any equal number
counted_same : (m n : ℕ) (one two : Loops) → m ≡ n → LoopsCounted m one two → LoopsCounted n one two
counted_same m n one two same h = subst (λ (k : ℕ). LoopsCounted k one two) same h

-- code is gone over after what follows it
pub over_append : (c k : Code) (wanted middle found : Test) (one two three : Loops) → GoesOver k wanted middle one two
    → GoesOver c middle found two three →
    GoesOver (append c k) wanted found one three
over_append c k wanted middle found one two three first second = record {
  counted =
      counted_same (loops_in k + loops_in c) (loops_in (append c k)) one three (sym (loops_in-append c k))
      (counted_both (loops_in k) (loops_in c) one two three first.counted second.counted);
  enough =
      λ x h. second.enough x
      (needed_grows c (needed k wanted) middle first.enough x
      (at (needed (append c k) wanted) (needed c (needed k wanted)) x (needed-append c k wanted) h));
  no_more = λ wider sets below needs within.
      let parts = needs-append c k one.next wider sets needs in
      let early = first.no_more wider sets below parts.0 within in
      let here = moved c (one.next + loops_in k) two.next (needed k wider) (needed k wider) sets (sym first.counted.next) refl parts.1 in
      let late = second.no_more (needed k wider) sets early.0 here early.1 in
      (subst (Below found) (sym (needed-append c k wider)) late.0, late.1);
}

-- code without loops
pub over_plain : (c : Code) (wanted found : Test) (loops : Loops) → IsReady loops → loops_in c ≡ 0 → found ≡ needed c wanted
    → GoesOver c wanted found loops loops
over_plain c wanted found loops ready plain is = record {
  counted = counted_same 0 (loops_in c) loops loops (sym plain) (counted_none loops ready);
  enough = λ x h. at (needed c wanted) found x (sym is) h;
  no_more =
      λ wider sets below needs within.
      ((λ (x : ℕ) (h : found x ≡ true). needed_grows c wanted wider below x (at found (needed c wanted) x is h)), within);
}

-- a choice
pub over_choice : (b : Condition) (c d : Code) (wanted first second found : Test) (one two three : Loops)
    → GoesOver c wanted first one two →
    GoesOver d wanted second two three → found ≡ either (either first second) (tests b) → GoesOver (If b c d End) wanted found one three
unfolding either
over_choice b c d wanted first second found one two three of_c of_d is = record {
  counted =
      counted_same (loops_in c + loops_in d) (0 + loops_in c + loops_in d) one three (omega arith)
      (counted_both (loops_in c) (loops_in d) one two three of_c.counted of_d.counted);
  enough = λ x h.
      at (either (either first second) (tests b)) found x (sym is)
      (⊎_elim (λ (m : needed c wanted x ≡ true). or_left (first x || second x) (tests b x) (or_left (first x) (second x) (of_c.enough x m)))
      (λ (rest : (needed d wanted x || tests b x) ≡ true).
      ⊎_elim (λ (m : needed d wanted x ≡ true). or_left (first x || second x) (tests b x) (or_right (first x) (second x) (of_d.enough x m)))
      (λ (m : tests b x ≡ true). or_right (first x || second x) (tests b x) m)
      (or_cases (needed d wanted x) (tests b x) rest))
      (or_cases (needed c wanted x) (needed d wanted x || tests b x) h));
  no_more = λ wider sets below needs within.
      let here_c = moved c (one.next + 0) one.next wider wider sets (omega arith) refl needs.1 in
      let early = of_c.no_more wider sets below here_c within in
      let here_d = moved d (one.next + (0 + loops_in c)) two.next wider wider sets (omega (arith, of_c.counted.next)) refl needs.2 in
      let late = of_d.no_more wider sets below here_d early.1 in (
        (λ (x : ℕ) (h : found x ≡ true).
            ⊎_elim
            (λ (branch : (first x || second x) ≡ true).
            ⊎_elim (λ (m : first x ≡ true). or_left (needed c wider x) (needed d wider x || tests b x) (early.0 x m))
            (λ (m : second x ≡ true).
            or_right (needed c wider x) (needed d wider x || tests b x) (or_left (needed d wider x) (tests b x) (late.0 x m)))
            (or_cases (first x) (second x) branch))
            (λ (m : tests b x ≡ true).
            or_right (needed c wider x) (needed d wider x || tests b x) (or_right (needed d wider x) (tests b x) m))
            (or_cases (first x || second x) (tests b x) (at found (either (either first second) (tests b)) x is h))),
        late.1,
      );
}

-- a loop that goes on from its kept set
pub over_loop : (b : Condition) (c : Code) (wanted guarded begun settled : Test) (one two three four : Loops)
    → guarded ≡ either wanted (tests b) →
    Resumes guarded begun one two → Settles c begun settled two three → KeepsSet one.next settled three four
    → GoesOver (While b c End) wanted settled one four
unfolding either
over_loop b c wanted guarded begun settled one two three four is resumes settles keeps = record {
  counted = counted_same (1 + loops_in c + 0) (0 + 1 + loops_in c) one four (omega arith)
      (counted_both (1 + loops_in c) 0 one three four
      (counted_both 1 (loops_in c) one two three resumes.counted settles.counted) keeps.counted);
  enough = λ x h.
      grown_within (length (code_names c)) (needed c) (λ (y : ℕ). wanted y || tests b y) settled
      (λ (part : Test) (under : Below part settled) (y : ℕ) (m : needed c part y ≡ true).
      settles.closed y (needed_grows c part settled under y m))
      (λ (y : ℕ) (m : (wanted y || tests b y) ≡ true).
      settles.starts y (resumes.starts y (at (either wanted (tests b)) guarded y (sym is) m)))
      x h;
  no_more = λ wider sets below needs within.
      let whole = needed (While b c End) wider in
      let here : sets one.next ≡ whole = subst (λ (n : ℕ). sets n ≡ whole) (omega arith) needs.1 in
      let begins : Below guarded whole = λ (x : ℕ) (h : guarded x ≡ true).
      grown_starts (length (code_names c)) (needed c) (λ (y : ℕ). wider y || tests b y) x
      (⊎_elim (λ (m : wanted x ≡ true). or_left (wider x) (tests b x) (below x m)) (or_right (wider x) (tests b x))
      (or_cases (wanted x) (tests b x) (at guarded (either wanted (tests b)) x is h))) in
      let resumed = resumes.within sets (subst (Below guarded) (sym here) begins) within in
      let mine = moved c (one.next + (0 + 1)) two.next whole whole sets (omega (arith, resumes.counted.next)) refl needs.2 in
      let done = settles.least whole sets (subst (Below begun) here resumed.0) (loop_closed b c End wider) mine resumed.1 in
      (done.0, keeps.within sets (subst (Below settled) (sym here) done.0) done.1);
}

-- a loop that was met before
pub resumes_last : (first found : Test) (last : BTreeSet ℕ) (before after : Loops) → before.next < length before.sets.items
    → last ≡ get_or before.sets.items before.next last →
    found ≡ either first (members last) → after.sets ≡ before.sets → after.next ≡ before.next + 1 → Resumes first found before after
unfolding either
resumes_last first found last before after small item is same next =
    let size : length after.sets.items ≡ length before.sets.items = ap (λ s. length s.items) same in
    record {
      counted = record { next = next; ready = omega (arith, size, next, small); kept = omega (arith, size) };
      starts = λ x h. at (either first (members last)) found x (sym is) (or_left (first x) (members last x) h);
      goes_on = λ set there x h.
          let same_set : last ≡ set =
          same_Some last set (sym (slice_get_read before.sets.items (length before.sets.items) before.next last refl small item) ∙
          there) in
          at (either first (members last)) found x (sym is)
          (or_right (first x) (members last x) (at (members set) (members last) x (sym (ap members same_set)) h));
      within = λ sets below within. (
        (λ (x : ℕ) (h : found x ≡ true).
            ⊎_elim (below x) (within before.next last
            (slice_get_read before.sets.items (length before.sets.items) before.next last refl small item) x)
            (or_cases (first x) (members last x) (at found (either first (members last)) x is h))),
        subst (λ s. (n : ℕ) (set : BTreeSet ℕ) → slice_get s.items n ≡ Some set → Below (members set) (sets n)) (sym same) within,
      );
    }

-- an element of a list that grew by one
pushed : (l : List (BTreeSet ℕ)) (x s : BTreeSet ℕ) (n : ℕ) → slice_get (l ++ x ∷ []) n ≡ Some s
    → (slice_get l n ≡ Some s) ⊎ ((n ≡ length l) × (x ≡ s))
pushed [] x s zero e = inr (refl, same_Some x s e)
pushed [] x s (suc n) e = absurd cc
pushed (y ∷ l) x s zero e = inl e
pushed (y ∷ l) x s (suc n) e =
    ⊎_elim (λ (old : slice_get l n ≡ Some s). inl old) (λ (new : (n ≡ length l) × (x ≡ s)). inr (ap suc new.0, new.1)) (pushed l x s n e)

-- a loop that is met for the first time
pub resumes_first : (first : Test) (set : BTreeSet ℕ) (before after : Loops) → IsReady before → length before.sets.items ≤ before.next
    → members set ≡ first →
    after.sets.items ≡ before.sets.items ++ set ∷ [] → after.next ≡ before.next + 1 → Resumes first first before after
resumes_first first set before after ready all is grown next =
    let size : length after.sets.items ≡ length before.sets.items + 1 = ap length grown ∙ length-append before.sets.items (set ∷ []) in
    record {
      counted = record { next = next; ready = omega (arith, size, next, ready); kept = omega (arith, size) };
      starts = λ x h. h;
      goes_on =
          λ set there x h. absurd
          (let none : slice_get before.sets.items before.next ≡ None = slice_get_past before.sets.items before.next all in cc);
      within = λ sets below within. (
        below,
        (λ (n : ℕ) (s : BTreeSet ℕ) (there : slice_get after.sets.items n ≡ Some s).
            ⊎_elim (within n s)
            (λ (new : (n ≡ length before.sets.items) × (set ≡ s)).
            let number : n ≡ before.next = let e = new.0 in omega (arith, e, ready, all) in
            subst (λ (m : ℕ). Below (members s) (sets m)) (sym number)
            (λ (x : ℕ) (h : members s x ≡ true). below x (at (members s) first x (sym (ap members new.1) ∙ is) h)))
            (pushed before.sets.items set s n (sym (ap (λ l. slice_get l n) grown) ∙ there))),
      );
    }

-- a set after some rounds
pub record Turns (c : Code) (first found : Test) (before after : Loops) : Type 0 where
  pub starts : Below first found
  pub kept : length before.sets.items ≤ length after.sets.items
  pub least : (whole : Test) (sets : ℕ → Test) → Below first whole → Below (needed c whole) whole → HasNeeds before.next c whole sets
      → IsWithin before sets →
      Below found whole × IsWithin after sets

-- before the first round
pub no_turn : (c : Code) (first : Test) (loops : Loops) → Turns c first first loops loops
no_turn c first loops = record { starts = λ x h. h; kept = omega arith; least = λ whole sets below closed needs within. (below, within) }

-- one round more, whose body is gone over from its first loop on
pub one_turn : (c : Code) (first found more new : Test) (before between again after : Loops) → Turns c first found before between
    → again.sets ≡ between.sets →
    again.next ≡ before.next → GoesOver c found more again after → new ≡ either found more → Turns c first new before after
unfolding either
one_turn c first found more new before between again after turns sets_same next_same over is = record {
  starts = λ x h. at (either found more) new x (sym is) (or_left (found x) (more x) (turns.starts x h));
  kept = let same : length again.sets.items ≡ length between.sets.items = ap (λ s. length s.items) sets_same in
      omega (arith, same, turns.kept, over.counted.kept);
  least = λ whole sets below closed needs within.
      let old = turns.least whole sets below closed needs within in
      let ready : IsWithin again sets =
      subst (λ s. (n : ℕ) (set : BTreeSet ℕ) → slice_get s.items n ≡ Some set → Below (members set) (sets n)) (sym sets_same) old.1 in
      let new_ones = over.no_more whole sets old.0 (moved c before.next again.next whole whole sets (sym next_same) refl needs) ready in (
        (λ (x : ℕ) (h : new x ≡ true).
            ⊎_elim (old.0 x) (λ (m : more x ≡ true). closed x (new_ones.0 x m))
            (or_cases (found x) (more x) (at new (either found more) x is h))),
        new_ones.1,
      );
}

-- the last round
pub last_turn : (c : Code) (first : Test) (old new : BTreeSet ℕ) (more : Test) (before between again after : Loops)
    → IsOrdered nat_cmp old →
    length new.keys ≡ length old.keys → Turns c first (members old) before between → again.sets ≡ between.sets → again.next ≡ before.next →
    GoesOver c (members old) more again after → members new ≡ either (members old) more → Settles c first (members new) before after
unfolding either
last_turn c first old new more before between again after ordered size turns sets_same next_same over is =
    let next = one_turn c first (members old) more (members new) before between again after turns sets_same next_same over is in
    let wider : Below (members old) (members new) =
    λ x h. at (either (members old) more) (members new) x (sym is) (or_left (members old x) (more x) h) in
    let back : Below (members new) (members old) = no_more old new ordered wider (omega (arith, size)) in
    record {
      counted = record { next = omega (arith, next_same, over.counted.next); ready = over.counted.ready; kept = next.kept };
      starts = next.starts;
      closed = λ x h. at (either (members old) more) (members new) x (sym is)
          (or_right (members old x) (more x) (over.enough x (needed_grows c (members new) (members old) back x h)));
      least = next.least;
    }

-- where no set was kept before, exactly what code needs is found
pub over_all : (c : Code) (wanted found : Test) (before after : Loops) → before.sets.items ≡ [] → GoesOver c wanted found before after
    → found ≡ needed c wanted
over_all c wanted found before after fresh over =
    let out = over.no_more wanted (sets_of before.next c wanted) (λ x h. h) (sets_need c before.next wanted)
    (λ (n : ℕ) (set : BTreeSet ℕ) (there : slice_get before.sets.items n ≡ Some set).
    absurd (let nothing : slice_get [] n ≡ Some set = subst (λ l. slice_get l n ≡ Some set) fresh there in cc)) in
    fun_ext (λ (x : ℕ). same_tests (found x) (needed c wanted x) (out.0 x) (over.enough x))
