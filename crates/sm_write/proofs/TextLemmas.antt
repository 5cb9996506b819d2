-- A text of lines that are read back passes behind the line of its version, where they lead to the end of the proof.
use Rattle.sm_write.proofs.Imports.{◌≡◌, ℕ, suc, ◌==◌, Bool, true, false, not, ◌&&◌, ◌||◌, if◌then◌else◌, Result, Ok, Err, List, [], ◌∷◌, ◌++◌, map, refl, ap, sym, subst, ◌∙◌, list_any, Sorts, Parts, ProofLine, Header, and_then, tested_or, Word, Truncated, BadLine, Pending, Progress, start_progress, taken, spelled, Subject, subject_of, passes_version, Standing, Underway, opens_if, Reached, Before, reached_after, FileLines, in_first_line, Pass, Rejected, none_waits, verdict, verdict_at_end, Passes, has_exact, is_exact, may_stand, begins_exact, line_text, bytes_of, IsReadable, AreReadable, advanced, Leads, has_exact_line, version_where, HasVersion}
use Rattle.std.proofs.lemmas.List.{append_assoc}
use Rattle.sm_proof.specs.SpellingLaws.{SpelledReadsBack, ExactBegins}
use Rattle.sm_proof.specs.Verdicts.{lines_in}
use Rattle.sm_proof.specs.Cases.{reached_on, verdict_on, AreRead, FilesAreLines}
use Rattle.sm_write.proofs.SpellingLemmas.{has_feed, is_one_line, header_readable}

-- the lines of bytes behind a line without a line feed
one_line : (word bytes : List ℕ) → has_feed word ≡ false →
    lines_in (word ++ 10 ∷ bytes) ≡ record { ended = word ∷ (lines_in bytes).ended; rest = (lines_in bytes).rest }
one_line [] bytes clear = refl
one_line (byte ∷ word) bytes clear = by (byte == 10) refl clear (λ (h : has_feed word ≡ false). one_line word bytes h)
  where
    by : (b : Bool) → (byte == 10) ≡ b → (if b then true else has_feed word) ≡ false →
        (has_feed word ≡ false →
        lines_in (word ++ 10 ∷ bytes) ≡ record { ended = word ∷ (lines_in bytes).ended; rest = (lines_in bytes).rest }) →
        lines_in (byte ∷ word ++ 10 ∷ bytes)
        ≡ record { ended = (byte ∷ word) ∷ (lines_in bytes).ended; rest = (lines_in bytes).rest }
    by true e h later = absurd cc
    by false e h later =
        ap
        (λ (b : Bool). if b then record { ended = [] ∷ (lines_in (word ++ 10 ∷ bytes)).ended; rest = (lines_in (word ++ 10 ∷ bytes)).rest }
        else in_first_line byte (lines_in (word ++ 10 ∷ bytes)).ended (lines_in (word ++ 10 ∷ bytes)).rest) e
        ∙ ap (λ (f : FileLines). in_first_line byte f.ended f.rest) (later h)

-- the lines of the bytes of lines
lines_spelled : (lines : List ProofLine) → AreReadable lines →
    lines_in (bytes_of lines) ≡ record { ended = map spelled lines; rest = [] }
lines_spelled [] are = refl
lines_spelled (line ∷ lines) are =
    one_line (spelled line) (bytes_of lines) (is_one_line line are.0.within are.0.version)
    ∙ ap (λ (f : FileLines). record { ended = spelled line ∷ f.ended; rest = f.rest }) (lines_spelled lines are.1)

-- they are read back
are_read : SpelledReadsBack → (lines : List ProofLine) → AreReadable lines → AreRead (map spelled lines) lines
are_read back [] are = tt
are_read back (line ∷ lines) are = (back line are.0.within are.0.version are.0.short, are_read back lines are.1)

-- they begin with the word of lines `exact` where they are such lines
begin_exact : SpelledReadsBack → ExactBegins → (lines : List ProofLine) → AreReadable lines →
    list_any begins_exact (map spelled lines) ≡ list_any is_exact lines
begin_exact back begins [] are = refl
begin_exact back begins (line ∷ lines) are =
    let one = begins (spelled line) line (back line are.0.within are.0.version are.0.short) in
    let more = begin_exact back begins lines are.1 in
    λ i. one i || more i

-- lines that may stand in a file that has lines `exact`, or has none
abbrev AllMayStand : Bool → List ProofLine → Type 0
AllMayStand exact [] = Unit {0}
AllMayStand exact (line ∷ lines) = (may_stand exact line ≡ true) × AllMayStand exact lines

-- so they may where it is told whether they have any
may_all_stand : (exact : Bool) (lines : List ProofLine) → exact ≡ list_any is_exact lines → AllMayStand exact lines
may_all_stand true lines e = all lines
  where
    all : (lines : List ProofLine) → AllMayStand true lines
    all [] = tt
    all (line ∷ lines) = (refl, all lines)
may_all_stand false lines e = all lines (sym e)
  where
    none : (b c : Bool) → (b || c) ≡ false → (not b ≡ true) × (c ≡ false)
    none true c e = absurd cc
    none false c e = (refl, e)

    all : (lines : List ProofLine) → list_any is_exact lines ≡ false → AllMayStand false lines
    all [] e = tt
    all (line ∷ lines) e = let both = none (is_exact line) (list_any is_exact lines) e in (both.0, all lines both.1)

-- lines that a proof comes by, and that may stand, reach where it comes
reach_advanced : (s : Subject) (exact : Bool) (n : ℕ) (p q : Progress) (lines : List ProofLine) → AllMayStand exact lines →
    advanced s.sorts p lines ≡ Ok q → (m : ℕ) × (reached_on s n (Underway exact p) lines ≡ Before m (Underway exact q))
reach_advanced s exact n p q [] stand e = (n, ap (λ (r : Progress). Before n (Underway exact r)) cc)
reach_advanced s exact n p q (line ∷ lines) stand e =
    by (taken s.sorts p line) refl e
    (λ (o : Progress) (h : advanced s.sorts o lines ≡ Ok q). reach_advanced s exact (suc n) o q lines stand.1 h)
  where
    after : Result Standing Word → Reached
    after r = reached_after n r (λ (standing : Standing). reached_on s (suc n) standing lines)

    by : (r : Result Progress Word) → taken s.sorts p line ≡ r →
        and_then r (λ (o : Progress). advanced s.sorts o lines) ≡ Ok q →
        ((o : Progress) → advanced s.sorts o lines ≡ Ok q →
        (m : ℕ) × (reached_on s (suc n) (Underway exact o) lines ≡ Before m (Underway exact q))) →
        (m : ℕ) × (reached_on s n (Underway exact p) (line ∷ lines) ≡ Before m (Underway exact q))
    by (Err w) is h go = absurd cc
    by (Ok o) is h go =
        let later = go o h in (
          later.0,
          ap
              (λ (b : Bool). after
              (tested_or b BadLine (and_then (taken s.sorts p line) (λ (t : Progress). Ok (Underway exact t))))) stand.0
              ∙ (ap (λ (r : Result Progress Word). after (and_then r (λ (t : Progress). Ok (Underway exact t)))) is
              ∙ later.1),
        )

-- the version of a file on a subject counts
version_counts : (s : Subject) (exact : Bool) → passes_version s (Header (version_where exact s.assumes)) ≡ true
version_counts s exact = by exact s.assumes
  where
    by : (exact assumes : Bool) →
        let version = version_where exact assumes in
        ((version == 3) || ((version == 2) || ((version == 1) && not assumes))) ≡ true
    by true assumes = refl
    by false true = refl
    by false false = refl

-- the version of a file tells whether lines `exact` may stand
version_tells : (exact assumes : Bool) → has_exact (Header (version_where exact assumes)) ≡ exact
version_tells true assumes = refl
version_tells false true = refl
version_tells false false = refl

-- a text behind the line of its version, where it leads to where nothing is pending
pub record IsFile (t : Parts) (lines : List ProofLine) (text : List ℕ) : Type 0 where
  pub passes : Passes t text
  pub version : HasVersion t text
  pub first : ℕ
  pub read : AreRead (lines_in text).ended (Header first ∷ lines)

-- it passes, and begins with that line
pub leads_pass : SpelledReadsBack → FilesAreLines → ExactBegins → (t : Parts) (text : List ℕ) (exact : Bool) (p : Progress) →
    (lead : Leads (subject_of t) text exact p) → p.pending ≡ [] → (file : List ℕ) →
    file ≡ line_text (Header (version_where exact (subject_of t).assumes)) ++ text → IsFile t lead.lines file
leads_pass back same begins t text exact p lead done file is =
    let s = subject_of t in
    let first = Header (version_where exact s.assumes) in
    let lines = first ∷ lead.lines in
    let are : AreReadable lines = (header_readable exact s.assumes, lead.readable) in
    let split = lines_spelled lines are in
    let reached = reach_advanced s exact 2 (start_progress s.start) p lead.lines (may_all_stand exact lead.lines lead.told) lead.comes in
    let all : verdict s (bytes_of lines) ≡ verdict_on s lines =
    same s (bytes_of lines) lines
    (subst (λ (f : FileLines). AreRead f.ended lines) (sym split) (are_read back lines are))
    (ap (λ (f : FileLines). f.rest) split) in
    let next : Bool → Bool → Reached =
    λ (counts tells : Bool). reached_after 1 (opens_if counts tells s) (λ (after : Standing). reached_on s 2 after lead.lines) in
    let opened : verdict_on s lines ≡ verdict_at_end (reached_on s 2 (Underway exact (start_progress s.start)) lead.lines) [] =
    λ i. verdict_at_end (next (version_counts s exact i) (version_tells exact s.assumes i)) [] in
    let begun : file ≡ spelled first ++ 10 ∷ text = is ∙ append_assoc (spelled first) (10 ∷ []) text in
    let spells : file ≡ bytes_of lines = begun ∙ ap (λ (b : List ℕ). spelled first ++ 10 ∷ b) lead.spells in
    let told : has_exact_line file ≡ exact =
    ap has_exact_line spells
    ∙ (ap (λ (f : FileLines). list_any begins_exact f.ended) split
    ∙ (begin_exact back begins lines are ∙ sym lead.told)) in
    record {
      passes =
          ap (verdict s) spells
          ∙ (all
          ∙ (opened
          ∙ (ap (λ (r : Reached). verdict_at_end r []) reached.1
          ∙ ap (λ (ps : List Pending). if none_waits ps then Pass else Rejected reached.0 Truncated) done)));
      version = (
        text,
        begun ∙ ap (λ (b : Bool). spelled (Header (version_where b s.assumes)) ++ 10 ∷ text) (sym told),
      );
      first = version_where exact s.assumes;
      read = subst (λ (b : List ℕ). AreRead (lines_in b).ended lines) (sym spells)
          (subst (λ (f : FileLines). AreRead f.ended lines) (sym split) (are_read back lines are));
    }

-- no lines lead to the start
pub leads_start : (s : Subject) → Leads s [] false (start_progress s.start)
leads_start s = record { lines = []; spells = refl; told = refl; readable = tt; comes = refl }

-- the bytes of lines and one more
bytes_more : (lines : List ProofLine) (line : ProofLine) → bytes_of (lines ++ line ∷ []) ≡ bytes_of lines ++ (spelled line ++ 10 ∷ [])
bytes_more [] line = refl
bytes_more (first ∷ lines) line =
    ap (λ (b : List ℕ). spelled first ++ 10 ∷ b) (bytes_more lines line)
    ∙ sym (append_assoc (spelled first) (10 ∷ bytes_of lines) (spelled line ++ 10 ∷ []))

any_more : (lines : List ProofLine) (line : ProofLine) → list_any is_exact (lines ++ line ∷ []) ≡ (is_exact line || list_any is_exact lines)
any_more [] line = refl
any_more (first ∷ lines) line =
    ap (λ (b : Bool). is_exact first || b) (any_more lines line)
    ∙ by (is_exact first) (is_exact line)
  where
    by : (b c : Bool) → (b || (c || list_any is_exact lines)) ≡ (c || (b || list_any is_exact lines))
    by true true = refl
    by true false = refl
    by false c = refl

readable_more : (lines : List ProofLine) (line : ProofLine) → AreReadable lines → IsReadable line → AreReadable (lines ++ line ∷ [])
readable_more [] line are is = (is, tt)
readable_more (first ∷ lines) line are is = (are.0, readable_more lines line are.1 is)

advanced_more : (sorts : Sorts) (p q r : Progress) (lines : List ProofLine) (line : ProofLine) → advanced sorts p lines ≡ Ok q →
    taken sorts q line ≡ Ok r → advanced sorts p (lines ++ line ∷ []) ≡ Ok r
advanced_more sorts p q r [] line e h =
    let same : p ≡ q = cc in
    ap (λ (o : Result Progress Word). and_then o (λ (t : Progress). Ok t)) (ap (λ (o : Progress). taken sorts o line) same ∙ h)
advanced_more sorts p q r (first ∷ lines) line e h =
    by (taken sorts p first) refl e
    (λ (t : Progress) (g : advanced sorts t lines ≡ Ok q). advanced_more sorts t q r lines line g h)
  where
    by : (o : Result Progress Word) → taken sorts p first ≡ o → and_then o (λ (t : Progress). advanced sorts t lines) ≡ Ok q →
        ((t : Progress) → advanced sorts t lines ≡ Ok q → advanced sorts t (lines ++ line ∷ []) ≡ Ok r) →
        advanced sorts p (first ∷ lines ++ line ∷ []) ≡ Ok r
    by (Err w) is g go = absurd cc
    by (Ok t) is g go =
        ap (λ (o : Result Progress Word). and_then o (λ (u : Progress). advanced sorts u (lines ++ line ∷ []))) is
        ∙ go t g

-- one line more leads on
pub leads_on : (s : Subject) (text more : List ℕ) (exact now : Bool) (p q : Progress) (line : ProofLine) → Leads s text exact p →
    IsReadable line → taken s.sorts p line ≡ Ok q → more ≡ text ++ line_text line → now ≡ (is_exact line || exact) → Leads s more now q
leads_on s text more exact now p q line lead is e grown told = record {
  lines = lead.lines ++ line ∷ [];
  spells =
      grown
      ∙ (ap (λ (b : List ℕ). b ++ (spelled line ++ 10 ∷ [])) lead.spells
      ∙ sym (bytes_more lead.lines line));
  told = told ∙ (ap (λ (b : Bool). is_exact line || b) lead.told ∙ sym (any_more lead.lines line));
  readable = readable_more lead.lines line lead.readable is;
  comes = advanced_more s.sorts (start_progress s.start) p q lead.lines line lead.comes e;
}
