-- Lines that are set aside: one more, or all of them taken.
use Rattle.sm_check.proofs.Imports.{◌≡◌, ◌+◌, ℕ, Bool, List, [], ◌∷◌, ◌++◌, length, take, drop, Result, Ok, Err, sym, ap, ◌∙◌, subst, arith, append_assoc, append-nil, length-append, OnOk, IfErr, Sorts, Tree, Pending, Subject, Standing, Reached, reached, reads_exact, RawLines, TakenLines, ComesTo, StopsAt, certificates_of, progress_at, standing_after, with_line, IsAt, CloseFirst, ended_in, RefusesAt, Takes}
use Rattle.sm_check.specs.Aside.{joined}
use Rattle.sm_check.specs.Pieces.{Stopped}
use Rattle.sm_check.proofs.AsideLemmas.{line_taken, line_refused}
use Rattle.sm_check.proofs.AsideLists.{joined_cut, take_certificates}

-- certificates and one more
joined_more : (cs : List RawLines) (c : RawLines) →
    joined (certificates_of (cs ++ c ∷ [])) ≡ joined (certificates_of cs) ++ ended_in c.bytes.items
joined_more [] c = append-nil (ended_in c.bytes.items)
joined_more (d ∷ ds) c =
    ap (λ (x : List (List ℕ)). ended_in d.bytes.items ++ x) (joined_more ds c)
    ∙ sym (append_assoc (ended_in d.bytes.items) (joined (certificates_of ds)) (ended_in c.bytes.items))

-- a certificate goes on by one line more
pub begun_more : (whole : List RawLines) (lines now : List (List ℕ)) (line : List ℕ) → now ≡ lines ++ line ∷ [] →
    joined (certificates_of whole) ++ now ≡ (joined (certificates_of whole) ++ lines) ++ line ∷ []
begun_more whole lines now line is =
    ap (λ (x : List (List ℕ)). joined (certificates_of whole) ++ x) is
    ∙ sym (append_assoc (joined (certificates_of whole)) lines (line ∷ []))

-- a certificate is whole by one line more
pub whole_more : (whole now : List RawLines) (c : RawLines) (lines : List (List ℕ)) (left line : List ℕ) →
    ended_in c.bytes.items ≡ lines ++ line ∷ [] → now ≡ whole ++ c ∷ [] → left ≡ [] →
    joined (certificates_of now) ++ ended_in left ≡ (joined (certificates_of whole) ++ lines) ++ line ∷ []
whole_more whole now c lines left line full more none =
    ap (λ (x : List ℕ). joined (certificates_of now) ++ ended_in x) none
    ∙ append-nil (joined (certificates_of now))
    ∙ ap (λ (x : List RawLines). joined (certificates_of x)) more
    ∙ joined_more whole c
    ∙ begun_more whole lines (ended_in c.bytes.items) line full

-- what is set aside, cut behind so many certificates: the proof stands where it did
comes_cut : (lines : TakenLines) (n : ℕ) (cs front : List RawLines) (begun : List (List ℕ)) (s : Subject) (r : Reached) →
    front ≡ take n cs → ComesTo lines (joined (certificates_of cs) ++ begun) s r →
    ComesTo lines (joined (certificates_of front) ++ (joined (certificates_of (drop n cs)) ++ begun)) s r
comes_cut lines n cs front begun s r is t = record {
  at = t.at;
  stands = t.stands;
  is =
      t.is
      ∙ ap (reached s lines.number t.at)
      (ap (λ (x : List (List ℕ)). x ++ begun) (joined_cut n cs)
      ∙ append_assoc (joined (certificates_of (take n cs))) (joined (certificates_of (drop n cs))) begun
      ∙ ap (λ (x : List RawLines). joined (certificates_of x) ++ (joined (certificates_of (drop n cs)) ++ begun)) (sym is));
}

-- those in front close what is pending first
close_cut : (exact : Bool) (sorts : Sorts) (terms : List Tree) (pending : List Pending) (n : ℕ) (cs given front : List RawLines) →
    given ≡ cs → front ≡ take n cs → CloseFirst exact sorts terms pending (take n (certificates_of given)) →
    CloseFirst exact sorts terms pending (certificates_of front)
close_cut exact sorts terms pending n cs given front same is close =
    subst (CloseFirst exact sorts terms pending)
    (take_certificates n given ∙ ap (λ (x : List RawLines). certificates_of (take n x)) same ∙ ap certificates_of (sym is)) close

-- the certificates in front were skipped
pub skipped_comes : (was now : TakenLines) (n : ℕ) (cs given front behind : List RawLines) (begun : List (List ℕ)) (s : Subject)
    (r : Reached) → given ≡ cs → front ≡ take n cs → behind ≡ drop n cs →
    ((at : Standing) → IsAt was.checker s (Ok at) →
    CloseFirst (reads_exact at) s.sorts (progress_at s at).terms (progress_at s at).pending (take n (certificates_of given))) →
    ((more : List (List ℕ)) (t : ComesTo was (joined (certificates_of front) ++ more) s r) →
    CloseFirst (reads_exact t.at) s.sorts (progress_at s t.at).terms (progress_at s t.at).pending (certificates_of front) →
    ComesTo now more s r) →
    ComesTo was (joined (certificates_of cs) ++ begun) s r → ComesTo now (joined (certificates_of behind) ++ begun) s r
unfolding comes_cut
skipped_comes was now n cs given front behind begun s r same first last closed skips t =
    let p = progress_at s t.at in
    subst (λ (x : List RawLines). ComesTo now (joined (certificates_of x) ++ begun) s r) (sym last)
    (skips (joined (certificates_of (drop n cs)) ++ begun) (comes_cut was n cs front begun s r first t)
    (close_cut (reads_exact t.at) s.sorts p.terms p.pending n cs given front same first (closed t.at t.stands.is_at)))

-- as many lines
pub cut_count : (n : ℕ) (cs : List RawLines) (begun : List (List ℕ)) →
    length (joined (certificates_of cs) ++ begun)
    ≡ (length (joined (certificates_of (take n cs))) + length (joined (certificates_of (drop n cs)))) + length begun
cut_count n cs begun =
    let cut = ap (λ (x : List (List ℕ)). length x) (joined_cut n cs) in
    let both = length-append (joined (certificates_of (take n cs))) (joined (certificates_of (drop n cs))) in
    let all = length-append (joined (certificates_of cs)) begun in
    omega (arith, cut, both, all)

-- the lines of a certificate that is begun, with none behind them
pub begun_comes : (lines : TakenLines) (begun : List (List ℕ)) (s : Subject) (r : Reached) → ComesTo lines begun s r →
    ComesTo lines (begun ++ []) s r
begun_comes lines begun s r t = subst (λ (x : List (List ℕ)). ComesTo lines x s r) (sym (append-nil begun)) t

-- nothing is set aside any more
pub emptied_comes : {U : Type 0} (x : Result U Stopped) (now : TakenLines) (aside : List (List ℕ)) (s : Subject) (r : Reached) →
    OnOk x (aside ≡ []) → OnOk x (ComesTo now [] s r) → OnOk x (ComesTo now aside s r)
emptied_comes (Err e) now aside s r none comes = tt
emptied_comes (Ok u) now aside s r none comes = subst (λ (x : List (List ℕ)). ComesTo now x s r) (sym none) comes

-- a line was taken behind all that was set aside
pub behind_taken : {U : Type 0} (x : Result U Stopped) (was now : TakenLines) (aside : List (List ℕ)) (s : Subject) (r : Reached)
    (line : List ℕ) → aside ≡ [] → (t : ComesTo was [] s r) → OnOk x (now.number ≡ was.number + 1) →
    OnOk x (Takes now s (standing_after s t.at line)) → OnOk x (ComesTo now aside s (with_line s line r))
behind_taken (Err e) was now aside s r line none t counted takes = tt
behind_taken (Ok u) was now aside s r line none t counted takes =
    subst (λ (x : List (List ℕ)). ComesTo now x s (with_line s line r)) (sym none) (line_taken was now s r line t counted takes)

-- a line was refused behind all that was set aside
pub behind_refused : {U : Type 0} (x : Result U Stopped) (was : TakenLines) (s : Subject) (r : Reached) (line : List ℕ)
    (t : ComesTo was [] s r) → IfErr x (RefusesAt was.number (standing_after s t.at line)) → IfErr x (StopsAt (with_line s line r))
behind_refused (Ok u) was s r line t refused = tt
behind_refused (Err e) was s r line t refused = line_refused was s r line t e refused

-- lines come as far where equal ones are set aside
pub same_aside : (lines : TakenLines) (aside now : List (List ℕ)) (s : Subject) (r : Reached) → now ≡ aside → ComesTo lines aside s r →
    ComesTo lines now s r
same_aside lines aside now s r is t = subst (λ (x : List (List ℕ)). ComesTo lines x s r) (sym is) t
