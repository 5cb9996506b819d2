-- The line of what could stand behind a text: kind by kind, and that there is one.
use Rattle.sm_follow.proofs.Imports.{◌≡◌, ℕ, ◌+◌, ◌<◌, ◌≤◌, Bool, true, false, true≢false, List, [], ◌∷◌, ◌++◌, length, take, get_or, codes, append_assoc, append-nil, take_all, refl, sym, ap, subst, ◌∙◌, take_more, could, could_not, none, AreThose, CouldStand, IsFollowLine, kinds, shown, Kind}
use Rattle.sm_follow.specs.Laws.{OneFollowLine}

-- one kind more
more_of : (text : List ℕ) (ks : List Kind) (k : Kind) (line more : List ℕ) → AreThose text ks line → AreThose text (k ∷ []) more →
    AreThose text (ks ++ k ∷ []) (line ++ more)
more_of text _ k _ more none is = is
more_of text _ k _ more (could j ks line stands rest) is =
    subst (AreThose text (j ∷ (ks ++ k ∷ []))) (ap (λ (l : List ℕ). codes " " ++ l) (sym (append_assoc (shown j) line more)))
    (could j (ks ++ k ∷ []) (line ++ more) stands (more_of text ks k line more rest is))
more_of text _ k _ more (could_not j ks line doesnt rest) is =
    could_not j (ks ++ k ∷ []) (line ++ more) doesnt (more_of text ks k line more rest is)

pub those_more : (text : List ℕ) (ks : List Kind) (n : ℕ) (d : Kind) (line more : List ℕ) → n < length ks → AreThose text (take n ks) line →
    AreThose text (get_or ks n d ∷ []) more → AreThose text (take (n + 1) ks) (line ++ more)
those_more text ks n d line more here before is =
    subst (λ (js : List Kind). AreThose text js (line ++ more)) (sym (take_more ks n d here))
    (more_of text (take n ks) (get_or ks n d) line more before is)

pub those_all : (text : List ℕ) (ks : List Kind) (n : ℕ) (line : List ℕ) → length ks ≤ n → AreThose text (take n ks) line → AreThose text ks line
those_all text ks n line past = subst (λ (js : List Kind). AreThose text js line) (take_all n ks past)

-- a kind that could stand is put, and no other
pub one_put : (text : List ℕ) (k : Kind) (old first new : List ℕ) → CouldStand text k → first ≡ old ++ codes " " →
    new ≡ first ++ shown k → (more : List ℕ) × AreThose text (k ∷ []) more × (new ≡ old ++ more)
one_put text k old first new stands one two = (
  codes " " ++ (shown k ++ []),
  could k [] [] stands none,
  two ∙ ap (λ (l : List ℕ). l ++ shown k) one ∙ append_assoc old (codes " ") (shown k)
      ∙ ap (λ (l : List ℕ). old ++ (codes " " ++ l)) (sym (append-nil (shown k))),
)

pub none_put : (text : List ℕ) (k : Kind) (old : List ℕ) → (CouldStand text k → ⊥) →
    (more : List ℕ) × AreThose text (k ∷ []) more × (old ≡ old ++ more)
none_put text k old doesnt = ([], could_not k [] [] doesnt none, sym (append-nil old))

-- ---- there is one

those_same : (text : List ℕ) (ks : List Kind) (l m : List ℕ) → AreThose text ks l → AreThose text ks m → l ≡ m
those_same text _ _ _ none none = refl
those_same text _ _ _ (could k ks l stands p) (could _ _ m also q) =
    ap (λ (x : List ℕ). codes " " ++ (shown k ++ x)) (those_same text ks l m p q)
those_same text _ _ _ (could k ks l stands p) (could_not _ _ m doesnt q) = absurd (doesnt stands)
those_same text _ _ _ (could_not k ks l doesnt p) (could _ _ m stands q) = absurd (doesnt stands)
those_same text _ _ _ (could_not k ks l doesnt p) (could_not _ _ m neither q) = those_same text ks l m p q

pub follow_line_one : OneFollowLine
follow_line_one text l m p q =
    p.is ∙ ap (λ (x : List ℕ). codes "could stand here:" ++ (x ++ codes "\n")) (those_same text kinds p.shown q.shown p.those q.those) ∙ sym q.is
