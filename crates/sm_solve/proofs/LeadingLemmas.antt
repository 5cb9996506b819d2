-- Lines that add the parts of conjunctions lead to the branch that has all parts; trees of the program put
-- together.
use Rattle.sm_solve.proofs.Imports.{◌≡◌, ℕ, zero, suc, ◌+◌, ◌<◌, ◌≤◌, Option, List, [], ◌∷◌, ◌++◌, map, length, drop, get_or, refl, sym, ap, subst, ◌∙◌, arith, Box, append-nil, append_assoc, map-append, length-append, Sorts, Tree, Assertion, NumberedFormula, numbered, assertion_in, Formula, BranchFact, Formal, as_facts, CertificateLine, followed, formula_at, line_in, IsLineWithin, CertLine, Ways, ways, both_parts, splitting, adds, or_other, Certificate, splits_above, first_bad, in_one_way, in_two_ways, lines_in, lines_before, tree_layer, end_layer, certificate_in, end_lines, tree_lines, lines_of, AreLinesWithin, CertTree, CertTree-F, roll-CertTree, fold-roll-CertTree, CertEnd, fold-roll-CertEnd, end_in, tree_is, lines_of_end, lines_are, parts_of, with_parts, Refutes, both_line, both_lines, led_by, all_numbered, assertions_in, with_parts-next}
use Rattle.std.proofs.Common.{Some}
use Rattle.std.specs.declared.alloc.Global.{Global}
use Rattle.sm_term.specs.Formulas.{Yes, No, Eq, Ne, Le, Lt, And, Or}
use Rattle.sm_cert.specs.declared.tree.CertEnd.TheOpen as layer
use Rattle.sm_cert.specs.declared.tree.CertEnd.TheVariants as ends
use Rattle.sm_cert.specs.Certificates.{Next, Split}
use Rattle.sm_cert.specs.declared.tree.CertEnd.TheVariants.{rolls-Split}
use Rattle.sm_list.proofs.RenumberLemmas.{within-append}

-- lines of the program before a certificate
pub before_is : (trees : List Tree) (ls : List CertLine) (c : Certificate) → lines_before trees ls c ≡ led_by (map (line_in trees) ls) c
before_is trees [] c = refl
before_is trees (l ∷ ls) c = ap (Next (line_in trees l)) (before_is trees ls c)

pub led-append : (ls ms : List CertificateLine) (c : Certificate) → led_by (ls ++ ms) c ≡ led_by ls (led_by ms c)
led-append [] ms c = refl
led-append (l ∷ ls) ms c = ap (Next l) (led-append ls ms c)

-- lines split nothing
pub led_splits : (ls : List CertificateLine) (c : Certificate) → splits_above (led_by ls c) ≡ splits_above c
led_splits [] c = refl
led_splits (l ∷ ls) c = led_splits ls c

-- a tree that is made of its lines and its end
rolled_is : (trees : List Tree) (x : CertTree-F CertEnd CertTree) →
    certificate_in trees (roll-CertTree x) ≡ lines_before trees x.lines.list.items (end_in trees x.last)
rolled_is trees x = fold-roll-CertTree Certificate Certificate (end_layer trees) (tree_layer trees) x

rolled_lines : (x : CertTree-F CertEnd CertTree) → lines_of (roll-CertTree x) ≡ x.lines.list.items ++ lines_of_end x.last
rolled_lines x = fold-roll-CertTree (List CertLine) (List CertLine) end_lines tree_lines x

-- a tree with more lines above it
pub under_is : (trees : List Tree) (ls : List CertLine) (t : CertTree) (x : CertTree-F CertEnd CertTree) →
    x.lines.list.items ≡ ls ++ t.lines.list.items → x.last ≡ t.last →
    certificate_in trees (roll-CertTree x) ≡ led_by (map (line_in trees) ls) (certificate_in trees t)
under_is trees ls t x lines last =
    let own = t.lines.list.items in
    rolled_is trees x
    ∙ before_is trees x.lines.list.items (end_in trees x.last)
    ∙ ap (λ (ms : List CertLine). led_by (map (line_in trees) ms) (end_in trees x.last)) lines
    ∙ ap (λ (e : CertEnd). led_by (map (line_in trees) (ls ++ own)) (end_in trees e)) last
    ∙ ap (λ (ms : List CertificateLine). led_by ms (end_in trees t.last)) (map-append (line_in trees) ls own)
    ∙ led-append (map (line_in trees) ls) (map (line_in trees) own) (end_in trees t.last)
    ∙ ap (led_by (map (line_in trees) ls)) (sym (before_is trees own (end_in trees t.last)) ∙ sym (tree_is trees t))

pub under_within : (n : ℕ) (ls : List CertLine) (t : CertTree) (x : CertTree-F CertEnd CertTree) →
    x.lines.list.items ≡ ls ++ t.lines.list.items → x.last ≡ t.last →
    AreLinesWithin n ls → AreLinesWithin n (lines_of t) → AreLinesWithin n (lines_of (roll-CertTree x))
under_within n ls t x lines last h k =
    let own = t.lines.list.items in
    let is : lines_of (roll-CertTree x) ≡ ls ++ lines_of t =
    rolled_lines x
    ∙ ap (λ (ms : List CertLine). ms ++ lines_of_end x.last) lines
    ∙ ap (λ (e : CertEnd). (ls ++ own) ++ lines_of_end e) last
    ∙ append_assoc ls own (lines_of_end t.last)
    ∙ ap (λ (ms : List CertLine). ls ++ ms) (sym (lines_are t)) in
    subst (AreLinesWithin n) (sym is) (within-append n ls (lines_of t) h k)

-- the lines of a tree that a line splits, with no line above
pub split_within : (n : ℕ) (l : CertLine) (c d : Box CertTree Global) (x : CertTree-F CertEnd CertTree) →
    x.lines.list.items ≡ [] → x.last ≡ ends.Split l c d →
    IsLineWithin n l → AreLinesWithin n (lines_of c.value) → AreLinesWithin n (lines_of d.value) →
    AreLinesWithin n (lines_of (roll-CertTree x))
split_within n l c d x none last line first second =
    let is : lines_of (roll-CertTree x) ≡ l ∷ (lines_of c.value ++ lines_of d.value) =
    rolled_lines x
    ∙ ap (λ (ms : List CertLine). ms ++ lines_of_end x.last) none
    ∙ ap lines_of_end (last ∙ sym (rolls-Split l c d))
    ∙ fold-roll-CertEnd (List CertLine) (List CertLine) end_lines tree_lines (layer.Split l c d) in
    subst (AreLinesWithin n) (sym is) (line, within-append n (lines_of c.value) (lines_of d.value) first second)

-- the line of the formula at a place stands first
next_line : (m : ℕ) (fs : List Formula) (n : ℕ) (f : Formula) → n < length fs → f ≡ get_or fs n f →
    both_lines m (drop n (all_numbered fs)) ≡ both_line m (numbered f) ++ both_lines (suc m) (drop (suc n) (all_numbered fs))
next_line m [] n f less is = absurd (omega arith)
next_line m (g ∷ fs) zero f less is = ap (λ (h : Formula). both_line m (numbered h) ++ both_lines (suc m) (all_numbered fs)) (sym is)
next_line m (g ∷ fs) (suc n) f less is = next_line m fs n f (omega arith) is

pub lines_next : (fs : List Formula) (n : ℕ) (f : Formula) → n < length fs → f ≡ get_or fs n f →
    both_lines n (drop n (all_numbered fs)) ≡ both_line n (numbered f) ++ both_lines (n + 1) (drop (n + 1) (all_numbered fs))
lines_next fs n f less is = let next : n + 1 ≡ suc n = omega arith in rw next (next_line n fs n f less is)

-- past the last place there are none
none_left : (m n : ℕ) (fs : List Formula) → length fs ≤ n → both_lines m (drop n (all_numbered fs)) ≡ []
none_left m zero [] h = refl
none_left m (suc n) [] h = refl
none_left m zero (f ∷ fs) h = absurd (omega arith)
none_left m (suc n) (f ∷ fs) h = none_left m n fs (omega arith)

pub lines_end : (ls : List CertificateLine) (n : ℕ) (fs : List Formula) → length fs ≤ n → ls ++ both_lines n (drop n (all_numbered fs)) ≡ ls
lines_end ls n fs h = ap (λ (ms : List CertificateLine). ls ++ ms) (none_left n n fs h) ∙ append-nil ls

-- a conjunction at its place
both_at : (done fs : List Assertion) (f : Assertion) → formula_at (as_facts (done ++ f ∷ fs)) (length done) ≡ Some f
both_at [] fs f = refl
both_at (g ∷ done) fs f = both_at done fs f

-- formulas before the parts of another
moved : (done fs more : List Assertion) (f : Assertion) → (done ++ f ∷ []) ++ (fs ++ more) ≡ (done ++ f ∷ fs) ++ more
moved done fs more f =
    append_assoc done (f ∷ []) (fs ++ more) ∙ sym (append_assoc done (f ∷ fs) more)

-- a formula that is no conjunction adds nothing
moved_none : (sorts : Sorts) (done fs : List Assertion) (f : Assertion) (c : Certificate) →
    Refutes sorts (as_facts ((done ++ f ∷ []) ++ (fs ++ []))) c → Refutes sorts (as_facts (done ++ f ∷ fs)) c
moved_none sorts done fs f c h =
    subst (λ (gs : List Assertion). Refutes sorts (as_facts gs) c) (moved done fs [] f ∙ append-nil (done ++ f ∷ fs)) h

-- a line that adds both parts leads to the branch that has them
both_step : (sorts : Sorts) (trees : List Tree) (g : NumberedFormula) (done fs : List Assertion) (c : Certificate) →
    Refutes sorts (as_facts ((done ++ assertion_in sorts trees g ∷ []) ++ (fs ++ parts_of (assertion_in sorts trees g)))) c →
    Refutes sorts (as_facts (done ++ assertion_in sorts trees g ∷ fs)) (led_by (both_line (length done) g) c)
both_step sorts trees (And p q) done fs c h = λ n.
    let f = assertion_in sorts trees (And p q) in
    let all = done ++ f ∷ fs in
    let parts = parts_of f in
    let way : as_facts ((done ++ f ∷ []) ++ (fs ++ parts)) ≡ as_facts all ++ as_facts parts =
    ap as_facts (moved done fs parts f) ∙ map-append Formal all parts in
    ap (λ (o : Option Assertion). in_one_way (followed o both_parts) n
    (λ (way : List BranchFact). first_bad (adds sorts) sorts (as_facts all ++ way) (suc n) c)) (both_at done fs f)
    ∙ ap (λ (ks : List BranchFact). first_bad (adds sorts) sorts ks (suc n) c) (sym way)
    ∙ h (suc n)
both_step sorts trees Yes done fs c h = moved_none sorts done fs (assertion_in sorts trees Yes) c h
both_step sorts trees No done fs c h = moved_none sorts done fs (assertion_in sorts trees No) c h
both_step sorts trees (Eq t u) done fs c h = moved_none sorts done fs (assertion_in sorts trees (Eq t u)) c h
both_step sorts trees (Ne t u) done fs c h = moved_none sorts done fs (assertion_in sorts trees (Ne t u)) c h
both_step sorts trees (Le t u) done fs c h = moved_none sorts done fs (assertion_in sorts trees (Le t u)) c h
both_step sorts trees (Lt t u) done fs c h = moved_none sorts done fs (assertion_in sorts trees (Lt t u)) c h
both_step sorts trees (Or p q) done fs c h = moved_none sorts done fs (assertion_in sorts trees (Or p q)) c h

-- the lines of all conjunctions lead to the branch that has all parts
pub both_refutes : (sorts : Sorts) (trees : List Tree) (c : Certificate) (all : List NumberedFormula) (done todo : List Assertion) →
    with_parts todo ≡ assertions_in sorts trees all → Refutes sorts (as_facts (done ++ with_parts todo)) c →
    Refutes sorts (as_facts (done ++ todo)) (led_by (both_lines (length done) all) c)
both_refutes sorts trees c [] done [] same h = h
both_refutes sorts trees c [] done (f ∷ fs) same h = absurd (let wrong = sym (with_parts-next f fs) ∙ same in cc)
both_refutes sorts trees c (g ∷ all) done [] same h = absurd cc
both_refutes sorts trees c (g ∷ all) done (f ∷ fs) same h =
    let both : f ∷ with_parts (fs ++ parts_of f) ≡ assertion_in sorts trees g ∷ assertions_in sorts trees all = sym (with_parts-next f fs)
    ∙ same in
    let one : f ≡ assertion_in sorts trees g = cc in
    let rest : with_parts (fs ++ parts_of f) ≡ assertions_in sorts trees all = cc in
    let there : done ++ with_parts (f ∷ fs) ≡ (done ++ f ∷ []) ++ with_parts (fs ++ parts_of f) =
    ap (λ (gs : List Assertion). done ++ gs) (with_parts-next f fs) ∙ sym (append_assoc done (f ∷ []) (with_parts (fs ++ parts_of f))) in
    let later = both_refutes sorts trees c all (done ++ f ∷ []) (fs ++ parts_of f) rest
    (subst (λ (gs : List Assertion). Refutes sorts (as_facts gs) c) there h) in
    let more : length (done ++ f ∷ []) ≡ suc (length done) = let s = length-append done (f ∷ []) in omega arith in
    let d = led_by (both_lines (suc (length done)) all) c in
    let now : Refutes sorts (as_facts ((done ++ f ∷ []) ++ (fs ++ parts_of f))) d =
    subst (λ (n : ℕ). Refutes sorts (as_facts ((done ++ f ∷ []) ++ (fs ++ parts_of f))) (led_by (both_lines n all) c)) more later in
    let step : Refutes sorts (as_facts (done ++ f ∷ fs)) (led_by (both_line (length done) g) d) =
    subst (λ (a : Assertion). Refutes sorts (as_facts (done ++ a ∷ fs)) (led_by (both_line (length done) g) d)) (sym one)
    (both_step sorts trees g done fs d
    (subst (λ (a : Assertion). Refutes sorts (as_facts ((done ++ a ∷ []) ++ (fs ++ parts_of a))) d) one now)) in
    subst (Refutes sorts (as_facts (done ++ f ∷ fs))) (sym (led-append (both_line (length done) g) (both_lines (suc (length done)) all) c))
    step

-- a line that splits the branch leads to its parts
pub split_refutes : (sorts : Sorts) (facts : List Assertion) (line : CertificateLine) (p q : Assertion) (c d : Certificate) →
    ways sorts (as_facts facts) line ≡ splitting p q → Refutes sorts (as_facts (facts ++ p ∷ [])) c →
    Refutes sorts (as_facts (facts ++ q ∷ [])) d →
    Refutes sorts (as_facts facts) (Split line c d)
split_refutes sorts facts line p q c d splits first second = λ n.
    let one : as_facts (facts ++ p ∷ []) ≡ as_facts facts ++ Formal p ∷ [] = map-append Formal facts (p ∷ []) in
    let two : as_facts (facts ++ q ∷ []) ≡ as_facts facts ++ Formal q ∷ [] = map-append Formal facts (q ∷ []) in
    ap (λ (w : Ways). in_two_ways w n (λ (way other : List BranchFact).
    or_other (first_bad (adds sorts) sorts (as_facts facts ++ way) (suc n) c)
    (first_bad (adds sorts) sorts (as_facts facts ++ other) (suc n + lines_in c) d))) splits
    ∙ ap (λ (ks : List BranchFact). or_other (first_bad (adds sorts) sorts ks (suc n) c)
    (first_bad (adds sorts) sorts (as_facts facts ++ Formal q ∷ []) (suc n + lines_in c) d)) (sym one)
    ∙ ap (λ (o : Option ℕ). or_other o (first_bad (adds sorts) sorts (as_facts facts ++ Formal q ∷ []) (suc n + lines_in c) d))
    (first (suc n))
    ∙ ap (λ (ks : List BranchFact). first_bad (adds sorts) sorts ks (suc n + lines_in c) d) (sym two)
    ∙ second (suc n + lines_in c)
