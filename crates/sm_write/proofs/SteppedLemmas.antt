-- Where a writer stands after a line of a certificate.
use Rattle.sm_write.proofs.Imports.{◌≡◌, ℕ, suc, ◌+◌, ◌≤◌, max, drop, Some, Ok, Err, Result, List, [], ◌∷◌, ◌++◌, length, refl, sym, subst, ◌∙◌, arith, drop_all, OnOk, Copy, SymbolicStore, TableValue, trees_in, Tree, BranchFact, line_in, CertLine, ways, State, Cert, Pending, Branch, Progress, taken, Subject, EachNamed, Certificate, Next, Closed, Split, splits_above, lines_before, IsBuilt, Seen, Wrote, Stepped, Opens, Leaves, LinesLeft, ClosesBranch, KeepsNames, IsSet, IsShortLine, WriterValue, Stands, Names, written}
use Rattle.sm_write.proofs.CertSteps.{next_good, closed_good, split_good, next_taken, closed_taken, split_taken}
use Rattle.sm_write.proofs.WalkedLemmas.{kept_none, kept_twice, seen_kept}
use Rattle.sm_write.proofs.WriterSteps.{stands_line}
use Rattle.sm_write.proofs.FactsThere.{AreStepsShort, steps_short}
use Rattle.sm_write.proofs.WrittenLines.{written_readable}

-- a line that was taken, with what is pending then
line_stands : (s : Subject) (v : TableValue) (old new : WriterValue) (p : Progress) (l : CertLine) (pending : List Pending) →
    (w : Wrote s v old new p l) → IsShortLine (line_in (trees_in v) l) → AreStepsShort (line_in (trees_in v) l) →
    taken s.sorts w.extends.after (Cert (written w.mid.names l)) ≡ Ok (record w.extends.after { pending = pending }) →
    Stepped s (trees_in v) old new p pending
line_stands s v old new p l pending w short few goes =
    let e = w.extends in
    record {
      after = record e.after { pending = pending };
      stands =
          stands_line s (trees_in v) w.mid new e.after (record e.after { pending = pending }) (Cert (written w.mid.names l)) e.stands
          (written_readable (trees_in v) w.mid.names e.after.terms e.stands.names l w.named short few) goes w.text w.exact
          w.names w.terms w.forms refl refl
          (e.stands.nodes ∙ sym w.nodes);
      is = refl;
      nodes = e.adds.nodes;
      kept = subst (λ (names : Names). KeepsNames old.names names) (sym w.names) e.kept;
    }

-- one way
pub next_stands : (s : Subject) (v : TableValue) (old new : WriterValue) (p : Progress) (l : CertLine) (stores : Copy → SymbolicStore)
    (facts way : List BranchFact) (splits : ℕ) (rest : List Pending) → Wrote s v old new p l → p.pending ≡ Branch stores facts splits ∷ rest →
    ways s.sorts facts (line_in (trees_in v) l) ≡ Some (way ∷ []) → splits ≤ 1000 → IsShortLine (line_in (trees_in v) l) →
    Stepped s (trees_in v) old new p (Branch stores (facts ++ way) splits ∷ rest)
next_stands s v old new p l stores facts way splits rest w due goes few short =
    let e = w.extends in
    line_stands s v old new p l (Branch stores (facts ++ way) splits ∷ rest) w short
    (steps_short s.sorts facts (line_in (trees_in v) l) (way ∷ []) goes)
    (next_taken s.sorts (trees_in v) w.mid.names e.after stores facts splits rest l way e.stands.names w.named (e.adds.pending ∙ due) goes few)

-- none
pub closed_stands : (s : Subject) (v : TableValue) (old new : WriterValue) (p : Progress) (l : CertLine) (stores : Copy → SymbolicStore)
    (facts : List BranchFact) (splits : ℕ) (rest : List Pending) → Wrote s v old new p l → p.pending ≡ Branch stores facts splits ∷ rest →
    ways s.sorts facts (line_in (trees_in v) l) ≡ Some [] → splits ≤ 1000 → IsShortLine (line_in (trees_in v) l) →
    Stepped s (trees_in v) old new p rest
closed_stands s v old new p l stores facts splits rest w due goes few short =
    let e = w.extends in
    line_stands s v old new p l rest w short (steps_short s.sorts facts (line_in (trees_in v) l) [] goes)
    (closed_taken s.sorts (trees_in v) w.mid.names e.after stores facts splits rest l e.stands.names w.named (e.adds.pending ∙ due) goes few)

-- two
pub split_stands : (s : Subject) (v : TableValue) (old new : WriterValue) (p : Progress) (l : CertLine) (stores : Copy → SymbolicStore)
    (facts way other : List BranchFact) (splits : ℕ) (rest : List Pending) → Wrote s v old new p l →
    p.pending ≡ Branch stores facts splits ∷ rest → ways s.sorts facts (line_in (trees_in v) l) ≡ Some (way ∷ other ∷ []) →
    suc splits ≤ 1000 → IsShortLine (line_in (trees_in v) l) →
    (d : ℕ) × (d ≤ suc splits)
    × Stepped s (trees_in v) old new p (Branch stores (facts ++ way) d ∷ Branch stores (facts ++ other) d ∷ rest)
split_stands s v old new p l stores facts way other splits rest w due goes few short =
    let e = w.extends in
    let t = split_taken s.sorts (trees_in v) w.mid.names e.after stores facts splits rest l way other e.stands.names w.named
    (e.adds.pending ∙ due) goes few in (
      t.0,
      t.1,
      line_stands s v old new p l (Branch stores (facts ++ way) t.0 ∷ Branch stores (facts ++ other) t.0 ∷ rest) w short
          (steps_short s.sorts facts (line_in (trees_in v) l) (way ∷ other ∷ []) goes) t.2,
    )

-- where something is due still, the writer can name as before
pub set_stepped : (s : Subject) (v : TableValue) (old new : WriterValue) (seen : List State) (p : Progress) (due : Pending)
    (rest : List Pending) → IsSet s v old seen p → (e : Stepped s (trees_in v) old new p (due ∷ rest)) → IsSet s v new seen e.after
set_stepped s v old new seen p due rest set e = record {
  sorts = set.sorts;
  stands = e.stands;
  due = (due, (rest, e.is));
  named = seen_kept (trees_in v) old.names new.names seen e.kept set.named;
}

-- one step after another
pub stepped_twice : (s : Subject) (trees : List Tree) (u v w : WriterValue) (p : Progress) (first last : List Pending) →
    (a : Stepped s trees u v p first) → Stepped s trees v w a.after last → Stepped s trees u w p last
stepped_twice s trees u v w p first last a b = record {
  after = b.after;
  stands = b.stands;
  is = b.is;
  nodes = b.nodes ∙ a.nodes;
  kept = kept_twice u.names v.names w.names a.kept b.kept;
}

-- nothing was written
pub stepped_none : (s : Subject) (trees : List Tree) (w : WriterValue) (p : Progress) (pending : List Pending) → Stands s trees w p →
    p.pending ≡ pending → Stepped s trees w w p pending
stepped_none s trees w p pending at is = record { after = p; stands = at; is = is; nodes = refl; kept = kept_none w.names }

-- all lines are left
pub all_left : (v : TableValue) (w : WriterValue) (lines : List CertLine) → LinesLeft v w w lines lines
all_left v w lines s seen p stores facts n splits rest c o = record {
  facts = facts;
  line = n;
  stepped = stepped_none s (trees_in v) w p (Branch stores facts splits ∷ rest) o.set.stands o.due;
  fits = o.fits;
}

-- what was left is opened
pub leaves_open : (s : Subject) (v : TableValue) (old new : WriterValue) (seen : List State) (p : Progress) (stores : Copy → SymbolicStore)
    (splits : ℕ) (rest : List Pending) (c : Certificate) → IsSet s v old seen p → (l : Leaves s v old new seen p stores splits rest c) →
    Opens s v new seen l.stepped.after stores l.facts l.line splits rest c
leaves_open s v old new seen p stores splits rest c set l = record {
  set = set_stepped s v old new seen p (Branch stores l.facts splits) rest set l.stepped;
  due = l.stepped.is;
  fits = l.fits;
}

-- a line is written, whatever is due
abbrev pub WritesLine : TableValue → WriterValue → WriterValue → CertLine → Type 0
WritesLine v old new l =
    (s : Subject) (seen : List State) (p : Progress) → IsSet s v old seen p → EachNamed (IsBuilt (Seen seen)) (line_in (trees_in v) l) →
    Wrote s v old new p l

-- one line fewer is left
pub line_left : (v : TableValue) (old mid new : WriterValue) (lines later : List CertLine) (l : CertLine) →
    LinesLeft v old mid lines (l ∷ later) → WritesLine v mid new l → LinesLeft v old new lines later
line_left v old mid new lines later l left writes s seen p stores facts n splits rest c o =
    let a = left s seen p stores facts n splits rest c o in
    let more = lines_before (trees_in v) later c in
    let here = leaves_open s v old mid seen p stores splits rest (Next (line_in (trees_in v) l) more) o.set a in
    let good = next_good s.sorts a.facts a.line (line_in (trees_in v) l) more a.fits.good in
    let few : splits ≤ 1000 = let f = a.fits.few in omega (arith, f) in
    let wrote = writes s seen a.stepped.after here.set a.fits.each.0 in
    let step = next_stands s v mid new a.stepped.after l stores a.facts good.0 splits rest wrote here.due good.1 few a.fits.short.0 in
    record {
      facts = a.facts ++ good.0;
      line = suc a.line;
      stepped =
          stepped_twice s (trees_in v) old mid new p (Branch stores a.facts splits ∷ rest) (Branch stores (a.facts ++ good.0) splits ∷ rest)
          a.stepped step;
      fits = record { good = good.2; few = a.fits.few; each = a.fits.each.1; short = a.fits.short.1 };
    }

-- the last line closes the branch
pub closed_branch : (v : TableValue) (old mid new : WriterValue) (lines : List CertLine) (l : CertLine) → LinesLeft v old mid lines [] →
    WritesLine v mid new l → ClosesBranch v old new (lines_before (trees_in v) lines (Closed (line_in (trees_in v) l)))
closed_branch v old mid new lines l left writes s seen p stores facts n splits rest o =
    let c = Closed (line_in (trees_in v) l) in
    let a = left s seen p stores facts n splits rest c o in
    let here = leaves_open s v old mid seen p stores splits rest c o.set a in
    let few : splits ≤ 1000 = let f = a.fits.few in omega (arith, f) in
    let wrote = writes s seen a.stepped.after here.set a.fits.each in
    stepped_twice s (trees_in v) old mid new p (Branch stores a.facts splits ∷ rest) rest a.stepped
    (closed_stands s v mid new a.stepped.after l stores a.facts splits rest wrote here.due
    (closed_good s.sorts a.facts a.line (line_in (trees_in v) l) a.fits.good) few a.fits.short)

-- few splits above both sides
first_few : (splits d a b : ℕ) → splits + suc (max a b) ≤ 1000 → d ≤ suc splits → d + a ≤ 1000
first_few splits d a b few most = omega (arith, few, most)

second_few : (splits d a b : ℕ) → splits + suc (max a b) ≤ 1000 → d ≤ suc splits → d + b ≤ 1000
second_few splits d a b few most = omega (arith, few, most)

-- the last line splits the branch, and both sides are closed
pub split_branch : (v : TableValue) (old mid at one new : WriterValue) (lines : List CertLine) (l : CertLine) (c d : Certificate) →
    LinesLeft v old mid lines [] → WritesLine v mid at l → ClosesBranch v at one c → ClosesBranch v one new d →
    ClosesBranch v old new (lines_before (trees_in v) lines (Split (line_in (trees_in v) l) c d))
split_branch v old mid at one new lines l c d left writes first second s seen p stores facts n splits rest o =
    let t = line_in (trees_in v) l in
    let whole = Split t c d in
    let a = left s seen p stores facts n splits rest whole o in
    let here = leaves_open s v old mid seen p stores splits rest whole o.set a in
    let good = split_good s.sorts a.facts a.line t c d a.fits.good in
    let room : suc splits ≤ 1000 = let f = a.fits.few in omega (arith, f) in
    let wrote = writes s seen a.stepped.after here.set a.fits.each.0 in
    let step = split_stands s v mid at a.stepped.after l stores a.facts good.0 good.1 splits rest wrote here.due good.2 room a.fits.short.0 in
    let k = step.0 in
    let left_one = Branch stores (a.facts ++ good.0) k in
    let left_two = Branch stores (a.facts ++ good.1) k in
    let set_at = set_stepped s v mid at seen a.stepped.after left_one (left_two ∷ rest) here.set step.2 in
    let e = first s seen step.2.after stores (a.facts ++ good.0) (suc a.line) k (left_two ∷ rest) (record {
      set = set_at;
      due = step.2.is;
      fits = record {
        good = good.3;
        few = first_few splits k (splits_above c) (splits_above d) a.fits.few step.1;
        each = a.fits.each.1;
        short = a.fits.short.1;
      };
    }) in
    let set_one = set_stepped s v at one seen step.2.after left_two rest set_at e in
    let f = second s seen e.after stores (a.facts ++ good.1) _ k rest (record {
      set = set_one;
      due = e.is;
      fits = record {
        good = good.4;
        few = second_few splits k (splits_above c) (splits_above d) a.fits.few step.1;
        each = a.fits.each.2;
        short = a.fits.short.2;
      };
    }) in
    stepped_twice s (trees_in v) old mid new p (Branch stores a.facts splits ∷ rest) rest a.stepped
    (stepped_twice s (trees_in v) mid at new a.stepped.after (left_one ∷ left_two ∷ rest) rest step.2
    (stepped_twice s (trees_in v) at one new step.2.after (left_two ∷ rest) rest e f))

-- nothing is behind the end
pub drop_past : (lines : List CertLine) (i : ℕ) → length lines ≤ i → drop i lines ≡ []
drop_past lines i past = drop_all i lines past

-- what follows where a call succeeds
pub on_ok : {T E : Type 0} (r : Result T E) (P Q : Type 0) → (P → Q) → OnOk r P → OnOk r Q
on_ok (Ok x) P Q gives h = gives h
on_ok (Err e) P Q gives h = tt

-- a call that writes a line wherever it succeeds
pub writes_ok : {T E : Type 0} (r : Result T E) (v : TableValue) (old new : WriterValue) (l : CertLine) →
    ((s : Subject) (seen : List State) (p : Progress) → IsSet s v old seen p → EachNamed (IsBuilt (Seen seen)) (line_in (trees_in v) l) →
    OnOk r (Wrote s v old new p l)) → OnOk r (WritesLine v old new l)
writes_ok (Ok x) v old new l h = h
writes_ok (Err e) v old new l h = tt
