-- Lines at a branch, by the ways in which it goes on.
use Rattle.sm_check.proofs.Imports.{◌≡◌, ℕ, ◌≤◌, Bool, true, false, Option, Some, None, Result, Ok, Err, List, [], ◌∷◌, ◌++◌, length, take, reverse, refl, sym, ap, ◌∙◌, subst, arith, take-append_seam, length-append, PerCopy, Copy, Sorts, Tree, Assertion, Yes, No, Eq, Ne, Le, Lt, And, Or, SymbolicStore, SymStore, BranchFact, Sides, followed, formula_at, contrary_at, equation_at, AreFactsSorted, Ways, ways_with, either_part, both_parts, adding, closing_if, cannot_hold, AllStand, line_in, CertLine, Fact, is_closed, SplitsInto, stand_append, sorted_append, stores_in, numbered_line, found_or, Word, First, Head, Pending, branches_before, Rc, is_split, is_closing, AllWait, PendingStands, Waiting, Tells}
use Rattle.std.proofs.Common.{slice_get}
use Rattle.sm_theory.specs.declared.line.CertLine.TheVariants as line
use Rattle.sm_theory.specs.Laws.{EachWay}
use Rattle.sm_theory.specs.Equality.{says_equal}
use Rattle.sm_cert.specs.Ways.{GoesOn}
use Rattle.sm_proof.specs.Passing as plain
use Rattle.std.specs.declared.alloc.Global.{Global}
use Rattle.sm_check.specs.declared.pending.Due.TheVariants as due
use Rattle.sm_check.specs.declared.pending.Waiting.TheVariants as waits
use Rattle.sm_check.specs.Pending.{Due}
use Rattle.sm_check.proofs.PendingLemmas.{wait_moves, wait_looser, last_first, take_whole}

-- a line is refused, or there are two ways
abbrev pub AreTwo : Ways → Type 0
AreTwo None = Unit {0}
AreTwo (Some []) = ⊥
AreTwo (Some (way ∷ [])) = ⊥
AreTwo (Some (way ∷ other ∷ [])) = Unit {0}
AreTwo (Some (way ∷ other ∷ third ∷ rest)) = ⊥

-- a line is refused, or there is one way
abbrev pub IsOne : Ways → Type 0
IsOne None = Unit {0}
IsOne (Some []) = ⊥
IsOne (Some (way ∷ [])) = Unit {0}
IsOne (Some (way ∷ other ∷ rest)) = ⊥

-- a line is refused, or there is no way
abbrev pub IsNoWay : Ways → Type 0
IsNoWay None = Unit {0}
IsNoWay (Some []) = Unit {0}
IsNoWay (Some (way ∷ rest)) = ⊥

both_one : (o : Option Assertion) → IsOne (followed o both_parts)
both_one None = tt
both_one (Some Yes) = tt
both_one (Some No) = tt
both_one (Some (Eq sort t u)) = tt
both_one (Some (Ne sort t u)) = tt
both_one (Some (Le t u)) = tt
both_one (Some (Lt t u)) = tt
both_one (Some (And p q)) = tt
both_one (Some (Or p q)) = tt

either_two : (o : Option Assertion) → AreTwo (followed o either_part)
either_two None = tt
either_two (Some Yes) = tt
either_two (Some No) = tt
either_two (Some (Eq sort t u)) = tt
either_two (Some (Ne sort t u)) = tt
either_two (Some (Le t u)) = tt
either_two (Some (Lt t u)) = tt
either_two (Some (And p q)) = tt
either_two (Some (Or p q)) = tt

closing_none : (b : Bool) → IsNoWay (closing_if b)
closing_none true = tt
closing_none false = tt

close_none : (o : Option BranchFact) → IsNoWay (followed o (λ (k : BranchFact). closing_if (cannot_hold k)))
close_none None = tt
close_none (Some k) = closing_none (cannot_hold k)

clash_none : (o p : Option Sides) → IsNoWay (followed o (λ (s : Sides). closing_if (says_equal p s.left s.right)))
clash_none None p = tt
clash_none (Some s) p = closing_none (says_equal p s.left s.right)

adding_one : (o : Option BranchFact) → IsOne (adding o)
adding_one None = tt
adding_one (Some k) = tt

module _ (sorts : Sorts) (trees : List Tree) (facts : List BranchFact) (added : Option BranchFact) where
  pub closing_ways : (l : CertLine) → is_closing (numbered_line l) ≡ true → IsNoWay (ways_with sorts facts added (line_in trees l))
  closing_ways (line.Both n) e = absurd cc
  closing_ways (line.Either n) e = absurd cc
  closing_ways (line.Cases t u) e = absurd cc
  closing_ways (line.Order n) e = absurd cc
  closing_ways (line.Refl t) e = absurd cc
  closing_ways (line.Sym n) e = absurd cc
  closing_ways (line.Trans m n) e = absurd cc
  closing_ways (line.Subst m n) e = absurd cc
  closing_ways (line.Cong t u ns) e = absurd cc
  closing_ways (line.Same t u) e = absurd cc
  closing_ways (line.Apart t u) e = absurd cc
  closing_ways (line.Hit t n) e = absurd cc
  closing_ways (line.Miss t u n) e = absurd cc
  closing_ways (line.Lin n) e = absurd cc
  closing_ways (line.Elim m n t) e = absurd cc
  closing_ways (line.Tight n) e = absurd cc
  closing_ways (line.Exact n) e = absurd cc
  closing_ways (line.Close n) e = close_none (slice_get facts n)
  closing_ways (line.Clash m n) e = clash_none (equation_at facts m) (contrary_at facts n)

  pub adding_ways : (l : CertLine) → is_split (numbered_line l) ≡ false → is_closing (numbered_line l) ≡ false →
      IsOne (ways_with sorts facts added (line_in trees l))
  adding_ways (line.Both n) e f = both_one (formula_at facts n)
  adding_ways (line.Either n) e f = absurd cc
  adding_ways (line.Cases t u) e f = absurd cc
  adding_ways (line.Order n) e f = absurd cc
  adding_ways (line.Refl t) e f = adding_one added
  adding_ways (line.Sym n) e f = adding_one added
  adding_ways (line.Trans m n) e f = adding_one added
  adding_ways (line.Subst m n) e f = adding_one added
  adding_ways (line.Cong t u ns) e f = adding_one added
  adding_ways (line.Same t u) e f = adding_one added
  adding_ways (line.Apart t u) e f = adding_one added
  adding_ways (line.Hit t n) e f = adding_one added
  adding_ways (line.Miss t u n) e f = adding_one added
  adding_ways (line.Lin n) e f = adding_one added
  adding_ways (line.Elim m n t) e f = adding_one added
  adding_ways (line.Tight n) e f = adding_one added
  adding_ways (line.Exact n) e f = adding_one added
  adding_ways (line.Close n) e f = absurd cc
  adding_ways (line.Clash m n) e f = absurd cc

-- what is pending after a line
abbrev pub Stand : Sorts → List Tree → List Fact → List Waiting → Option Due → List Pending → Type 0
Stand sorts trees path ws d pending = PendingStands sorts trees path d ws pending

module _ (sorts : Sorts) (trees : List Tree) (path path' : List Fact) (facts : List BranchFact) (ws ws' : List Waiting)
    (stores : Rc (PerCopy SymStore) Global) (splits : ℕ) (head : Head) (rest : List Pending)
    (all : AllStand sorts trees path facts) (sorted : AreFactsSorted sorts facts)
    (wait : AllWait sorts trees facts (length facts) (reverse ws) rest) where
  abbrev held : Copy → SymbolicStore
  held = stores_in trees stores.value

  abbrev pub next_of : Ways → Result (List Pending) Word
  next_of w = found_or w (First head) (λ (to : List (List BranchFact)). Ok (branches_before held facts splits to rest))

  -- the facts with more behind
  front_same : (way : List BranchFact) → take (length facts) (facts ++ way) ≡ take (length facts) facts
  front_same way = take-append_seam facts way ∙ sym (take_whole facts)

  wait_behind : (way : List BranchFact) → AllWait sorts trees (facts ++ way) (length facts) (reverse ws) rest
  wait_behind way = wait_moves sorts trees facts (facts ++ way) (length facts) (reverse ws) rest (front_same way) wait

  longer : (way : List BranchFact) → length facts ≤ length (facts ++ way)
  longer way = let e = length-append facts way in omega arith

  -- one way
  pub one_goes : (w : Ways) → GoesOn sorts trees true path' facts w → ((to : List (List BranchFact)) → w ≡ Some to → EachWay (AreFactsSorted sorts) to) →
      Tells (Stand sorts trees path' ws) (Ok (Some (due.Branch stores splits))) (next_of w)
  one_goes None goes fine = absurd goes
  one_goes (Some []) goes fine = absurd goes
  one_goes (Some (way ∷ other ∷ more)) goes fine = absurd goes
  one_goes (Some (way ∷ [])) goes fine = record {
    facts = facts ++ way;
    stand = goes;
    sorted = sorted_append sorts facts way sorted (fine (way ∷ []) refl).0;
    all = (
      (refl, refl, refl),
      wait_looser sorts trees (facts ++ way) (length facts) (length (facts ++ way)) (reverse ws) rest (longer way) (wait_behind way),
    );
  }

  pub one_stops : (w : Ways) → GoesOn sorts trees false path' facts w → IsOne w → next_of w ≡ Err (First head)
  one_stops None goes one = refl
  one_stops (Some []) goes one = absurd one
  one_stops (Some (way ∷ [])) goes one = absurd goes
  one_stops (Some (way ∷ other ∷ more)) goes one = absurd one

  -- the second part waits
  second_waits : (shared : ℕ) (g : Fact) (other : Rc (PerCopy SymStore) Global) (way second : List BranchFact) → shared ≡ length facts →
      other.value ≡ stores.value → AllStand sorts trees (g ∷ []) second → AreFactsSorted sorts second →
      AllWait sorts trees (facts ++ way) (length (facts ++ way)) (waits.Branch shared g other splits ∷ reverse ws)
      (plain.Branch held (facts ++ second) splits ∷ rest)
  second_waits shared g other way [] e same stands fine = absurd stands
  second_waits shared g other way (k ∷ l ∷ more) e same stands fine = absurd stands.1
  second_waits shared g other way (k ∷ []) e same stands fine =
      let cut : take shared (facts ++ way) ≡ facts = ap (λ (n : ℕ). take n (facts ++ way)) e ∙ take-append_seam facts way in
      let long = longer way in (
        omega arith,
        (
          (k, stands.0, fine.0, ap (λ (l : List BranchFact). l ++ k ∷ []) (sym cut)),
          ap (stores_in trees) same,
          refl,
        ),
        subst (λ (n : ℕ). AllWait sorts trees (facts ++ way) n (reverse ws) rest) (sym e) (wait_behind way),
      )

  pub two_go : (w : Ways) (shared : ℕ) (f g : Fact) (other : Rc (PerCopy SymStore) Global) → SplitsInto sorts trees (Some (f, g)) w →
      ((to : List (List BranchFact)) → w ≡ Some to → EachWay (AreFactsSorted sorts) to) → shared ≡ length facts → other.value ≡ stores.value →
      path' ≡ path ++ f ∷ [] → ws' ≡ ws ++ waits.Branch shared g other splits ∷ [] →
      Tells (Stand sorts trees path' ws') (Ok (Some (due.Branch stores splits))) (next_of w)
  two_go None shared f g other goes fine e same is put = absurd goes
  two_go (Some []) shared f g other goes fine e same is put = absurd goes
  two_go (Some (way ∷ [])) shared f g other goes fine e same is put = absurd goes
  two_go (Some (way ∷ second ∷ third ∷ more)) shared f g other goes fine e same is put = absurd goes
  two_go (Some (way ∷ second ∷ [])) shared f g other goes fine e same is put =
      let each = fine (way ∷ second ∷ []) refl in
      let last : reverse ws' ≡ waits.Branch shared g other splits ∷ reverse ws =
      ap reverse put ∙ last_first ws (waits.Branch shared g other splits) in
      record {
        facts = facts ++ way;
        stand = subst (λ (l : List Fact). AllStand sorts trees l (facts ++ way)) (sym is) (stand_append sorts trees path (f ∷ []) facts way all goes.0);
        sorted = sorted_append sorts facts way sorted each.0;
        all = (
          (refl, refl, refl),
          subst (λ (l : List Waiting). AllWait sorts trees (facts ++ way) (length (facts ++ way)) l
              (plain.Branch held (facts ++ second) splits ∷ rest)) (sym last)
              (second_waits shared g other way second e same goes.1 each.1.0),
        );
      }

module _ (stores : Copy → SymbolicStore) (splits : ℕ) (facts : List BranchFact) (head : Head) (rest : List Pending) where
  abbrev pub after_all : Ways → Result (List Pending) Word
  after_all w = found_or w (First head) (λ (to : List (List BranchFact)). Ok (branches_before stores facts splits to rest))

  -- no way
  pub none_closes : (w : Ways) → is_closed w ≡ true → after_all w ≡ Ok rest
  none_closes None e = absurd cc
  none_closes (Some []) e = refl
  none_closes (Some (way ∷ more)) e = absurd cc

  pub none_refuses : (w : Ways) → is_closed w ≡ false → IsNoWay w → after_all w ≡ Err (First head)
  none_refuses None e none = refl
  none_refuses (Some []) e none = absurd cc
  none_refuses (Some (way ∷ more)) e none = absurd none
