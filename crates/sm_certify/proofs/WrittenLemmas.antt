-- Lines are written for sources and sums until one closes the branch.
use Rattle.sm_certify.proofs.Imports.{◌≡◌, ℕ, zero, suc, ◌+◌, true, false, IsTrue, List, [], ◌∷◌, ◌++◌, map, length, slice_get, Bool, refl, sym, ap, ◌∙◌, subst, Option, Some, None, ℤ, pos, if◌then◌else◌, ⊎_elim, not, ◌&&◌, ◌||◌, int_eq, map-append, length-map, get_or_from_slice_get, slice_get_within, Linear, coefficient, Fits, Tree, tree_at, same_tree, Assertion, BranchFact, Formal, Sum, as_facts, Lin, Elim, followed, formula_in, form_in, formula_at, form_at, or_other, form_of_comparison, form_fact, cancelled, StandsAt, HaveOnePlace, IsKeptFor, adds, line_in, IsLineWithin, CertLine, eliminated_stands, can_cancel_stands, added_by, slice_get-longer, first_behind, AreLinesWithin, ElimLine, Seen, IfMarked, IsFormAt, StandAsForms, AreWritten, within-append, one_thing}
use Rattle.std.proofs.lemmas.List.{append_assoc, length-append}
use Rattle.sm_num.specs.Eliminating.{can_cancel, eliminated, elimination, is_equation, signs_alike}
use Rattle.sm_num.proofs.SameAtomLemmas.{not_both}
use Rattle.sm_num.specs.FormLaws.{same_atom}
use Rattle.sm_theory.specs.declared.line.CertLine.TheVariants as line
use Rattle.sm_theory.proofs.LinearPlaces.{place_or_not}
use Rattle.sm_certify.proofs.AddingLemmas.{added_both, added_then, added_count}
use Rattle.sm_certify.proofs.SourcesLemmas.{MakesFor, outcome_makes}

-- what is so is so where there is a mark
pub if_marked : (m : Bool) (P : Type 0) → P → IfMarked m P
if_marked true P p = p
if_marked false P p = tt

-- nothing is asked where there is none
pub if_unmarked : (m : Bool) (P : Type 0) → m ≡ false → IfMarked m P
if_unmarked true P e = absurd cc
if_unmarked false P e = tt

-- what is so where there is a mark, at a mark
at_mark : (m : Bool) (P : Type 0) → m ≡ true → IfMarked m P → P
at_mark true P e p = p
at_mark false P e p = absurd cc

-- what follows from what is so where there is a mark is so where there is a mark
marked_later : (m : Bool) (P Q : Type 0) → (P → Q) → IfMarked m P → IfMarked m Q
marked_later true P Q go p = go p
marked_later false P Q go p = tt

-- forms stand among more facts
pub stand_later : (trees : List Tree) (facts more : List BranchFact) (mark : ℕ → Bool) (ns : List ℕ) (fs : List (Linear ℕ)) →
    StandAsForms trees facts mark ns fs → StandAsForms trees (facts ++ more) mark ns fs
stand_later trees facts more mark [] [] h = tt
stand_later trees facts more mark (n ∷ ns) (f ∷ fs) h = (
  marked_later (mark 0) (IsFormAt trees facts n f) (IsFormAt trees (facts ++ more) n f)
      (λ (at : IsFormAt trees facts n f). (at.0, slice_get-longer facts (facts ++ more) (more, refl) n (Sum at.0) at.1, at.2)) h.0,
  stand_later trees facts more (λ (k : ℕ). mark (suc k)) ns fs h.1,
)
stand_later trees facts more mark [] (f ∷ fs) h = absurd h
stand_later trees facts more mark (n ∷ ns) [] h = absurd h

-- one form more
stand_push : (trees : List Tree) (facts : List BranchFact) (mark : ℕ → Bool) (ns : List ℕ) (fs : List (Linear ℕ)) (n : ℕ) (f : Linear ℕ) →
    StandAsForms trees facts mark ns fs → IfMarked (mark (length ns)) (IsFormAt trees facts n f) →
    StandAsForms trees facts mark (ns ++ n ∷ []) (fs ++ f ∷ [])
stand_push trees facts mark [] [] n f h at = (at, tt)
stand_push trees facts mark (m ∷ ns) (d ∷ fs) n f h at = (h.0, stand_push trees facts (λ (k : ℕ). mark (suc k)) ns fs n f h.1 at)
stand_push trees facts mark [] (d ∷ fs) n f h at = absurd h
stand_push trees facts mark (m ∷ ns) [] n f h at = absurd h

-- each form has a number
pub stand_count : (trees : List Tree) (facts : List BranchFact) (mark : ℕ → Bool) (ns : List ℕ) (fs : List (Linear ℕ)) →
    StandAsForms trees facts mark ns fs → length ns ≡ length fs
stand_count trees facts mark [] [] h = refl
stand_count trees facts mark (n ∷ ns) (f ∷ fs) h =
    ap (λ (k : ℕ). suc k) (stand_count trees facts (λ (k : ℕ). mark (suc k)) ns fs h.1)
stand_count trees facts mark [] (f ∷ fs) h = absurd h
stand_count trees facts mark (n ∷ ns) [] h = absurd h

-- the number of a marked form, and the fact with it
pub stand_at : (trees : List Tree) (facts : List BranchFact) (mark : ℕ → Bool) (ns : List ℕ) (fs : List (Linear ℕ)) (p : ℕ)
    (f : Linear ℕ) → StandAsForms trees facts mark ns fs → slice_get fs p ≡ Some f → mark p ≡ true →
    (n : ℕ) × (g : Linear Tree) × (slice_get ns p ≡ Some n) × (slice_get facts n ≡ Some (Sum g)) × IsKeptFor trees f g
stand_at trees facts mark [] [] p f h e m = absurd cc
stand_at trees facts mark (n ∷ ns) (d ∷ fs) zero f h e m =
    let at = at_mark (mark 0) (IsFormAt trees facts n d) m h.0 in
    (n, at.0, refl, at.1, subst (λ (i : Linear ℕ). IsKeptFor trees i at.0) (one_thing d f e) at.2)
stand_at trees facts mark (n ∷ ns) (d ∷ fs) (suc p) f h e m = stand_at trees facts (λ (k : ℕ). mark (suc k)) ns fs p f h.1 e m
stand_at trees facts mark [] (d ∷ fs) p f h e m = absurd h
stand_at trees facts mark (n ∷ ns) [] p f h e m = absurd h

-- an atom that cancels is a term of the table
atom_there : (trees : List Tree) (f g : Linear ℕ) (p : Linear Tree) (n : ℕ) → IsKeptFor trees f p → IsTrue (can_cancel same_atom f g n) →
    (t : Tree) × StandsAt trees n t
atom_there trees f g p n kept cancels =
    ⊎_elim (λ (there : (t : Tree) × StandsAt trees n t). there)
    (λ (none : slice_get trees n ≡ None). absurd (never (kept.stands.no_other_number n none)))
    (place_or_not trees n)
  where
    never : coefficient same_atom n f.parts ≡ pos 0 → ⊥
    never nothing =
        let c = coefficient same_atom n g.parts in
        not_both (can_cancel same_atom f g n) cancels
        (ap (λ (a : ℤ). not (int_eq a (pos 0))
        && (not (int_eq c (pos 0)) && (is_equation f.kind || (is_equation g.kind || not (signs_alike a c))))) nothing)

-- a sum makes the form
sum_makes : (trees : List Tree) → HaveOnePlace trees → (f g h : Linear ℕ) (p q : Linear Tree) (n : ℕ) (t : Tree) → StandsAt trees n t →
    IsKeptFor trees f p → IsKeptFor trees g q → IsTrue (can_cancel same_atom f g n) → eliminated f g n ≡ Fits h →
    MakesFor trees (cancelled t p q) h
sum_makes trees distinct f g h p q n t at first second cancels sum =
    let made = outcome_makes trees (eliminated f g n) (elimination same_tree p q t) h
    (eliminated_stands trees distinct f g p q n t at first second) sum in
    subst (λ c. MakesFor trees (if c then form_fact (elimination same_tree p q t) else None) h)
    (sym (sym (can_cancel_stands trees f g p q n t at first.stands second.stands) ∙ cancels)) made

module _ (b : Seen) (mark : ℕ → Bool) where
  -- nothing is written yet
  pub written_none : AreWritten b mark [] [] []
  written_none = record { within = tt; more = []; added = refl; stand = tt }

  module _ (lines : List CertLine) (numbers : List ℕ) (forms : List (Linear ℕ)) (w : AreWritten b mark lines numbers forms) where
    -- the facts so far
    abbrev pub so_far : List BranchFact
    so_far = as_facts b.facts ++ w.more

    -- their count
    pub count_so_far : length so_far ≡ length b.facts + length lines
    count_so_far =
        length-append (as_facts b.facts) w.more
        ∙ ap (λ (n : ℕ). n + length w.more) (length-map b.facts Formal)
        ∙ ap (λ (n : ℕ). length b.facts + n)
        (added_count b.sorts (as_facts b.facts) (map (line_in b.terms) lines) w.more w.added ∙ length-map lines (line_in b.terms))

    -- more lines
    abbrev pub written_more : (ls : List CertLine) (next : List BranchFact) → AreLinesWithin (length b.terms) ls →
        added_by b.sorts so_far (map (line_in b.terms) ls) ≡ Some next → AreWritten b mark (lines ++ ls) numbers forms
    written_more ls next within e = record {
      within = within-append (length b.terms) lines ls w.within within;
      more = w.more ++ next;
      added =
          ap (added_by b.sorts (as_facts b.facts)) (map-append (line_in b.terms) lines ls)
          ∙ added_both b.sorts (as_facts b.facts) (map (line_in b.terms) lines) (map (line_in b.terms) ls) w.more next w.added e;
      stand =
          subst (λ (l : List BranchFact). StandAsForms b.terms l mark numbers forms) (append_assoc (as_facts b.facts) w.more next)
          (stand_later b.terms so_far next mark numbers forms w.stand);
    }

    -- one line more, which makes a form
    pub written_form : (l : CertLine) (f : Linear ℕ) → IsLineWithin (length b.terms) l →
        MakesFor b.terms (adds b.sorts so_far (line_in b.terms l)) f →
        AreWritten b mark (lines ++ l ∷ []) (numbers ++ (length b.facts + length lines) ∷ []) (forms ++ f ∷ [])
    written_form l f within made =
        let next : List BranchFact = Sum made.0 ∷ [] in
        let e = added_then b.sorts so_far (line_in b.terms l) [] (Sum made.0) [] made.1 refl in
        let v = written_more (l ∷ []) next (within, tt) e in
        let there : slice_get (as_facts b.facts ++ (w.more ++ next)) (length b.facts + length lines) ≡ Some (Sum made.0) =
        ap (λ (l : List BranchFact). slice_get l (length b.facts + length lines)) (sym (append_assoc (as_facts b.facts) w.more next))
        ∙ ap (slice_get (so_far ++ next)) (sym count_so_far) ∙ first_behind so_far (Sum made.0) [] in
        record {
          within = v.within;
          more = v.more;
          added = v.added;
          stand =
              stand_push b.terms (as_facts b.facts ++ (w.more ++ next)) mark numbers forms (length b.facts + length lines) f v.stand
              (if_marked (mark (length numbers)) (IsFormAt b.terms (as_facts b.facts ++ (w.more ++ next)) (length b.facts + length lines) f)
              (made.0, there, made.2));
        }

    -- a form without a mark
    pub written_skip : (n : ℕ) (f : Linear ℕ) → mark (length numbers) ≡ false →
        AreWritten b mark lines (numbers ++ n ∷ []) (forms ++ f ∷ [])
    written_skip n f none = record {
      within = w.within;
      more = w.more;
      added = w.added;
      stand =
          stand_push b.terms so_far mark numbers forms n f w.stand
          (if_unmarked (mark (length numbers)) (IsFormAt b.terms so_far n f) none);
    }

    -- the line of a comparison that has a number
    pub written_lin : (n : ℕ) (m : CertLine) (a : Assertion) (f : Linear ℕ) → m ≡ line.Lin n → slice_get so_far n ≡ Some (Formal a) →
        MakesFor b.terms (form_of_comparison a) f →
        AreWritten b mark (lines ++ m ∷ []) (numbers ++ (length b.facts + length lines) ∷ []) (forms ++ f ∷ [])
    written_lin n m a f same there made =
        let found : formula_at so_far n ≡ Some a = ap (λ (o : Option BranchFact). followed o formula_in) there in
        let adding : adds b.sorts so_far (Lin n) ≡ Some (Sum made.0) =
        ap (λ (o : Option Assertion). or_other (followed o form_of_comparison) None) found
        ∙ ap (λ (o : Option BranchFact). or_other o None) made.1 in
        subst (λ (l : CertLine). AreWritten b mark (lines ++ l ∷ []) (numbers ++ (length b.facts + length lines) ∷ []) (forms ++ f ∷ []))
        (sym same) (written_form (line.Lin n) f tt (made.0, adding, made.2))

    module _ (distinct : HaveOnePlace b.terms) where
      -- the line of a sum
      pub written_sum : (e : ElimLine) (m : CertLine) (i j : ℕ) (f g h : Linear ℕ) → m ≡ line.Elim i j e.atom →
          slice_get numbers e.f ≡ Some i → slice_get numbers e.g ≡ Some j →
          slice_get forms e.f ≡ Some f → slice_get forms e.g ≡ Some g →
          IsTrue (mark e.f) → IsTrue (mark e.g) → IsTrue (can_cancel same_atom f g e.atom.0) → eliminated f g e.atom.0 ≡ Fits h →
          AreWritten b mark (lines ++ m ∷ []) (numbers ++ (length b.facts + length lines) ∷ []) (forms ++ h ∷ [])
      written_sum e m i j f g h same first second here there marked said cancels sum =
          let one = stand_at b.terms so_far mark numbers forms e.f f w.stand here marked in
          let other = stand_at b.terms so_far mark numbers forms e.g g w.stand there said in
          let p = one.1 in
          let q = other.1 in
          let atom = atom_there b.terms f g p e.atom.0 one.4 cancels in
          let t = atom.0 in
          let tree : tree_at b.terms e.atom.0 ≡ t = get_or_from_slice_get b.terms e.atom.0 t _ atom.1 in
          let number : one.0 ≡ i = one_thing one.0 i (sym one.2 ∙ first) in
          let numbered : other.0 ≡ j = one_thing other.0 j (sym other.2 ∙ second) in
          let left : form_at so_far i ≡ Some p =
          ap (λ (n : ℕ). followed (slice_get so_far n) form_in) (sym number)
          ∙ ap (λ (o : Option BranchFact). followed o form_in) one.3 in
          let right : form_at so_far j ≡ Some q =
          ap (λ (n : ℕ). followed (slice_get so_far n) form_in) (sym numbered)
          ∙ ap (λ (o : Option BranchFact). followed o form_in) other.3 in
          let made = sum_makes b.terms distinct f g h p q e.atom.0 t atom.1 one.4 other.4 cancels sum in
          let adding : adds b.sorts so_far (Elim i j (tree_at b.terms e.atom.0)) ≡ Some (Sum made.0) =
          ap (λ (u : Tree). adds b.sorts so_far (Elim i j u)) tree
          ∙ ap (λ (o : Option (Linear Tree)).
          or_other (followed o (λ (f : Linear Tree). followed (form_at so_far j) (cancelled t f))) None) left
          ∙ ap (λ (o : Option (Linear Tree)). or_other (followed o (cancelled t p)) None) right
          ∙ ap (λ (o : Option BranchFact). or_other o None) made.1 in
          subst (λ (l : CertLine). AreWritten b mark (lines ++ l ∷ []) (numbers ++ (length b.facts + length lines) ∷ []) (forms ++ h ∷ []))
          (sym same)
          (written_form (line.Elim i j e.atom) h (slice_get_within b.terms e.atom.0 t atom.1) (made.0, adding, made.2))
