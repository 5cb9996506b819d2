-- What is written leads to a contradiction, step by step.
use Rattle.sm_certify.proofs.Imports.{◌≡◌, ℕ, suc, ◌<◌, ◌+◌, true, false, Bool, IsTrue, List, [], ◌∷◌, ◌++◌, length, slice_get, refl, sym, ap, ◌∙◌, subst, Option, Some, arith, append-nil, slice_get_within, Linear, CertLine, BranchFact, Sum, as_facts, Close, followed, HaveOnePlace, cannot_hold, closing_if, contradictory_stands, Closed, in_no_way, lines_before, ElimLine, Refutes, Seen, IsSource, AreSources, Contradict, IsRefutation, Source, IsUsable, AreWritten, AreMarked, ArePlaces, Leads}
use Rattle.std.proofs.lemmas.List.{append_assoc, length-append}
use Rattle.sm_num.specs.Tightening.{is_contradictory}
use Rattle.sm_theory.specs.declared.line.CertLine.TheVariants as line
use Rattle.sm_judge.specs.declared.eliminating.Refutation.{Refutation}
use Rattle.sm_judge.specs.declared.forms.Source.TheVariants as source
use Rattle.sm_certify.proofs.AddingLemmas.{bad_under}
use Rattle.sm_certify.proofs.WrittenLemmas.{written_none, written_sum, written_skip, so_far, stand_at, stand_count}

-- each source has a form
sources_count : (b : Seen) (ss : List Source) (fs : List (Linear ℕ)) → AreSources b ss fs → length fs ≡ length ss
sources_count b [] [] from = refl
sources_count b (s ∷ ss) (f ∷ fs) from = ap (λ (n : ℕ). suc n) (sources_count b ss fs from.1)
sources_count b [] (f ∷ fs) from = absurd from
sources_count b (s ∷ ss) [] from = absurd from

-- one form more
long_push : (fs : List (Linear ℕ)) (f : Linear ℕ) → length (fs ++ f ∷ []) ≡ suc (length fs)
long_push fs f = let e : length (fs ++ f ∷ []) ≡ length fs + 1 = length-append fs (f ∷ []) in omega (arith, e)

-- sums are of forms before them
places_of : (fs : List (Linear ℕ)) (es : List ElimLine) (bad : ℕ) → Contradict fs es bad → ArePlaces (length fs) es bad
places_of fs [] bad c = slice_get_within fs bad c.0 c.1
places_of fs (e ∷ es) bad c = (
  slice_get_within fs e.f c.0 c.3,
  slice_get_within fs e.g c.1 c.4,
  subst (λ (n : ℕ). ArePlaces n es bad) (long_push fs c.2) (places_of (fs ++ c.2 ∷ []) es bad c.7),
)

pub places_first : (b : Seen) (r : Refutation) → IsRefutation b r → ArePlaces (length r.sources.items) r.elims.items r.bad
places_first b r why =
    subst (λ (n : ℕ). ArePlaces n r.elims.items r.bad) (sources_count b r.sources.items why.forms why.sources)
    (places_of why.forms r.elims.items r.bad why.contradict)

module _ (b : Seen) (mark : ℕ → Bool) where
  -- nothing is written yet
  pub leads_first : (r : Refutation) → IsRefutation b r → AreMarked mark (length r.sources.items) r.elims.items r.bad →
      Leads b mark [] [] r.sources.items r.elims.items r.bad
  leads_first r why marked = record {
    made = [];
    left = why.forms;
    written = written_none b mark;
    from = why.sources;
    contradict = why.contradict;
    marked =
        subst (λ (n : ℕ). AreMarked mark n r.elims.items r.bad) (sym (sources_count b r.sources.items why.forms why.sources)) marked;
  }

  -- a source can be used
  pub usable : (s : Source) (f : Linear ℕ) → IsSource b s f → IsUsable b s
  usable (source.Class t u) f from = (from.0, from.1, from.3)
  usable (source.Fact n) f from = tt

  pub leads_usable : (lines : List CertLine) (numbers : List ℕ) (s : Source) (ss : List Source) (es : List ElimLine) (bad : ℕ) →
      Leads b mark lines numbers (s ∷ ss) es bad → IsUsable b s
  leads_usable lines numbers s ss es bad d = by d.left d.from
    where
      by : (left : List (Linear ℕ)) → AreSources b (s ∷ ss) left → IsUsable b s
      by [] from = absurd from
      by (f ∷ fs) from = usable s f from.0

  -- the form of a source is made
  pub leads_next : (lines more : List CertLine) (numbers ns : List ℕ) (s : Source) (ss : List Source) (es : List ElimLine) (bad : ℕ) →
      Leads b mark lines numbers (s ∷ ss) es bad →
      ((made : List (Linear ℕ)) (f : Linear ℕ) → IsSource b s f → AreWritten b mark lines numbers made →
      AreWritten b mark more ns (made ++ f ∷ [])) →
      Leads b mark more ns ss es bad
  leads_next lines more numbers ns s ss es bad d step = by d.left d.from d.contradict d.marked
    where
      by : (left : List (Linear ℕ)) → AreSources b (s ∷ ss) left → Contradict (d.made ++ left) es bad →
          AreMarked mark (length (d.made ++ left)) es bad → Leads b mark more ns ss es bad
      by [] from contradict marked = absurd from
      by (f ∷ fs) from contradict marked = record {
        made = d.made ++ f ∷ [];
        left = fs;
        written = step d.made f from.0 d.written;
        from = from.1;
        contradict = subst (λ (l : List (Linear ℕ)). Contradict l es bad) (sym (append_assoc d.made (f ∷ []) fs)) contradict;
        marked =
            subst (λ (l : List (Linear ℕ)). AreMarked mark (length l) es bad) (sym (append_assoc d.made (f ∷ []) fs)) marked;
      }

  -- the form of a source isn't needed
  pub leads_skip : (lines : List CertLine) (numbers : List ℕ) (n : ℕ) (s : Source) (ss : List Source) (es : List ElimLine) (bad : ℕ) →
      Leads b mark lines numbers (s ∷ ss) es bad → mark (length numbers) ≡ false → Leads b mark lines (numbers ++ n ∷ []) ss es bad
  leads_skip lines numbers n s ss es bad d none =
      leads_next lines lines numbers (numbers ++ n ∷ []) s ss es bad d
      (λ (made : List (Linear ℕ)) (f : Linear ℕ) (from : IsSource b s f) (w : AreWritten b mark lines numbers made).
      written_skip b mark lines numbers made w n f none)

  -- no source is left
  settled : (lines : List CertLine) (numbers : List ℕ) (es : List ElimLine) (bad : ℕ) → (d : Leads b mark lines numbers [] es bad) →
      Contradict d.made es bad × AreMarked mark (length d.made) es bad
  settled lines numbers es bad d = by d.left d.from d.contradict d.marked
    where
      by : (left : List (Linear ℕ)) → AreSources b [] left → Contradict (d.made ++ left) es bad →
          AreMarked mark (length (d.made ++ left)) es bad → Contradict d.made es bad × AreMarked mark (length d.made) es bad
      by [] from contradict marked = (
        subst (λ (l : List (Linear ℕ)). Contradict l es bad) (append-nil d.made) contradict,
        subst (λ (l : List (Linear ℕ)). AreMarked mark (length l) es bad) (append-nil d.made) marked,
      )
      by (f ∷ fs) from contradict marked = absurd from

  module _ (lines : List CertLine) (numbers : List ℕ) where
    -- there are as many numbers as forms
    count_there : (made : List (Linear ℕ)) → AreWritten b mark lines numbers made → length numbers ≡ length made
    count_there made w = stand_count b.terms (so_far b mark lines numbers made w) mark numbers made w.stand

    -- the number of a form
    number_there : (made : List (Linear ℕ)) → AreWritten b mark lines numbers made → (p : ℕ) (f : Linear ℕ) → slice_get made p ≡ Some f →
        p < length numbers
    number_there made w p f e = subst (λ (n : ℕ). p < n) (sym (count_there made w)) (slice_get_within made p f e)

    -- the forms of a sum have numbers
    pub leads_places : (e : ElimLine) (es : List ElimLine) (bad : ℕ) → Leads b mark lines numbers [] (e ∷ es) bad →
        (e.f < length numbers) × (e.g < length numbers)
    leads_places e es bad d =
        let c = (settled lines numbers (e ∷ es) bad d).0 in
        (number_there d.made d.written e.f c.0 c.3, number_there d.made d.written e.g c.1 c.4)

    -- what is left behind a sum
    sum_behind : (e : ElimLine) (es : List ElimLine) (bad : ℕ) → (d : Leads b mark lines numbers [] (e ∷ es) bad) →
        (more : List CertLine) (ns : List ℕ) →
        AreWritten b mark more ns (d.made ++ ((settled lines numbers (e ∷ es) bad d).0).2 ∷ []) → Leads b mark more ns [] es bad
    sum_behind e es bad d more ns w =
        let both = settled lines numbers (e ∷ es) bad d in
        let h = both.0.2 in
        record {
          made = d.made ++ h ∷ [];
          left = [];
          written = w;
          from = tt;
          contradict = subst (λ (l : List (Linear ℕ)). Contradict l es bad) (sym (append-nil (d.made ++ h ∷ []))) both.0.7;
          marked =
              subst (λ (l : List (Linear ℕ)). AreMarked mark (length l) es bad) (sym (append-nil (d.made ++ h ∷ [])))
              (subst (λ (n : ℕ). AreMarked mark n es bad) (sym (long_push d.made h)) both.1.1);
        }

    -- a sum is made
    pub leads_sum : HaveOnePlace b.terms → (e : ElimLine) (es : List ElimLine) (bad : ℕ) (m : CertLine) (i j : ℕ) →
        Leads b mark lines numbers [] (e ∷ es) bad → IsTrue (mark (length numbers)) → m ≡ line.Elim i j e.atom →
        slice_get numbers e.f ≡ Some i → slice_get numbers e.g ≡ Some j →
        Leads b mark (lines ++ m ∷ []) (numbers ++ (length b.facts + length lines) ∷ []) [] es bad
    leads_sum distinct e es bad m i j d here same first second =
        let both = settled lines numbers (e ∷ es) bad d in
        let c = both.0 in
        let marked = both.1.0 (subst (λ (n : ℕ). IsTrue (mark n)) (count_there d.made d.written) here) in
        sum_behind e es bad d (lines ++ m ∷ []) (numbers ++ (length b.facts + length lines) ∷ [])
        (written_sum b mark lines numbers d.made d.written distinct e m i j c.0 c.1 c.2 same first second c.3 c.4 marked.0 marked.1 c.5 c.6)

    -- a sum isn't needed
    pub leads_skip_sum : (e : ElimLine) (es : List ElimLine) (bad n : ℕ) → Leads b mark lines numbers [] (e ∷ es) bad →
        mark (length numbers) ≡ false → Leads b mark lines (numbers ++ n ∷ []) [] es bad
    leads_skip_sum e es bad n d none =
        sum_behind e es bad d lines (numbers ++ n ∷ [])
        (written_skip b mark lines numbers d.made d.written n ((settled lines numbers (e ∷ es) bad d).0).2 none)

    -- the form that can't hold has a number
    pub leads_bad : (bad : ℕ) → Leads b mark lines numbers [] [] bad → bad < length numbers
    leads_bad bad d = let c = (settled lines numbers [] bad d).0 in number_there d.made d.written bad c.0 c.1

    -- the form that can't hold closes the branch
    pub leads_closed : HaveOnePlace b.terms → (bad k : ℕ) → Leads b mark lines numbers [] [] bad → slice_get numbers bad ≡ Some k →
        Refutes b.sorts (as_facts b.facts) (lines_before b.terms lines (Closed (Close k)))
    leads_closed distinct bad k d number = λ n.
        let both = settled lines numbers [] bad d in
        let c = both.0 in
        let w = d.written in
        let facts = so_far b mark lines numbers d.made w in
        let at = stand_at b.terms facts mark numbers d.made bad c.0 w.stand c.1 both.1 in
        let same : slice_get facts k ≡ Some (Sum at.1) =
        ap (λ (o : Option ℕ). followed o (slice_get facts)) (sym number ∙ at.2) ∙ at.3 in
        let fails : is_contradictory at.1 ≡ true = sym (contradictory_stands b.terms distinct c.0 at.1 at.4) ∙ c.2 in
        bad_under b.sorts b.terms (as_facts b.facts) lines w.more n (Closed (Close k)) w.added
        ∙ ap (λ (o : Option BranchFact). in_no_way (followed o (λ (f : BranchFact). closing_if (cannot_hold f))) (n + length lines)) same
        ∙ ap (λ c. in_no_way (closing_if c) (n + length lines)) fails
