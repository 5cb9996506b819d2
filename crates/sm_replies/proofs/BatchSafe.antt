-- What a line `I Accepted` of a batch says: of told files, and of the bytes that were read.
use Rattle.sm_replies.proofs.Imports.{◌≡◌, ◌≢◌, ◌<◌, ◌⊎◌, suc, get_or, inl, inr, ℕ, List, [], ◌∷◌, Some, length, codes, slice_get, refl, sym, ap, subst, ◌∙◌, arith, AllZip, Known, WhereHeld, Read, HasNoEnd, Spells, GivesNoTask, Status, Accepted, ReadFault, refusal_line, names_in, GivesList, GivesNoList, ReadsList, bad_number, few_names, Line, AnswersFile, IsLineOf, first_line, numbered, FailsToReadOne, AnswersAll, Batches, texts, told_status, IsLineRead, AreLinesRead, IsSafeMerge, AcceptsSafe, AcceptsSafeRead, HasAccepted, Effort}
use Rattle.sm_syntax.specs.text.Symbols.{names_of}
use Rattle.sm_task.specs.declared.error.TaskError.{TaskError}
use Rattle.sm_task.specs.declared.error.TaskError.TheVariants as no_task
use Rattle.sm_replies.proofs.Answering.{outcome_accepted}
use Rattle.sm_replies.proofs.BatchText.{AreWhole, accepted_name, bad_not_accepted, no_accepted, no_end_by, no_end_first}
use Rattle.sm_replies.proofs.BatchTold.{check_told}
use Rattle.sm_lemmas.proofs.Lists.{zip_length}

-- ---- answers without lines

fault_not : (text : List ℕ) (k : ℕ) → text ≡ codes "ReadFault\n" → k < 1000 → HasAccepted k text → ⊥
fault_not text k is below has =
    no_accepted 82 (codes "eadFault") text k (omega arith) (no_end_by (codes "ReadFault") refl) is below has

no_list_not : (file : Known) (before now : ℕ) (status : Status) (text : List ℕ) (k : ℕ) → GivesNoList file before now status text
    → k < 1000 → HasAccepted k text → ⊥
no_list_not file before now status text k (inl (inl f)) below has = fault_not text k f.says.printed below has
no_list_not file before now status text k (inl (inr f)) below has =
    no_accepted 84 (codes "ooLong list") text k (omega arith) (no_end_by (codes "TooLong list") refl) f.says.printed below has
no_list_not file before now status text k (inr f) below has =
    let number = bad_number f.bytes f.refuses.number f.refuses.bad in
    bad_not_accepted f.refuses.number k text number.1 below f.refuses.says.printed has

-- ---- lines

-- each line of files is whole
lines_whole : (files : List ℕ → Known) (effort : Effort) (count : ℕ) (names : List (List ℕ)) (lines : List Line)
    → AllZip (λ (name : List ℕ) (line : Line). IsLineOf (files name) effort count line) names lines → AreWhole (texts lines)
lines_whole files effort count [] [] all = tt
lines_whole files effort count [] (l ∷ ls) all = absurd all
lines_whole files effort count (name ∷ names) [] all = absurd all
lines_whole files effort count (name ∷ names) (l ∷ ls) (first, all) = (
  subst HasNoEnd (sym first.first) (no_end_first first.text),
  lines_whole files effort count names ls all,
)

-- what is refused isn't accepted
refusal_not : (names : List (List ℕ)) (e : TaskError) → first_line (refusal_line names e) ≡ codes "Accepted" → ⊥
refusal_not names (no_task.BadByte place) e = let head : 82 ≡ 65 = ap (λ (l : List ℕ). get_or l 0 0) e in cc
refusal_not names (no_task.WideNumber place) e = let head : 82 ≡ 65 = ap (λ (l : List ℕ). get_or l 0 0) e in cc
refusal_not names (no_task.BadToken place) e = let head : 82 ≡ 65 = ap (λ (l : List ℕ). get_or l 0 0) e in cc
refusal_not names (no_task.Expected place) e = let head : 82 ≡ 65 = ap (λ (l : List ℕ). get_or l 0 0) e in cc
refusal_not names (no_task.Nested place) e = let head : 82 ≡ 65 = ap (λ (l : List ℕ). get_or l 0 0) e in cc
refusal_not names (no_task.MissingFilling list hole) e = let head : 82 ≡ 65 = ap (λ (l : List ℕ). get_or l 0 0) e in cc
refusal_not names (no_task.UnknownHole list hole) e = let head : 82 ≡ 65 = ap (λ (l : List ℕ). get_or l 0 0) e in cc
refusal_not names (no_task.DoubleHole list hole) e = let head : 82 ≡ 65 = ap (λ (l : List ℕ). get_or l 0 0) e in cc
refusal_not names (no_task.HoleInFilling list hole) e = let head : 82 ≡ 65 = ap (λ (l : List ℕ). get_or l 0 0) e in cc
refusal_not names (no_task.UnknownName x) e = let head : 82 ≡ 65 = ap (λ (l : List ℕ). get_or l 0 0) e in cc
refusal_not names (no_task.WrongSort x) e = let head : 82 ≡ 65 = ap (λ (l : List ℕ). get_or l 0 0) e in cc
refusal_not names (no_task.DoubleName x) e = let head : 82 ≡ 65 = ap (λ (l : List ℕ). get_or l 0 0) e in cc
refusal_not names no_task.TooDeep e = let head : 82 ≡ 65 = ap (λ (l : List ℕ). get_or l 0 0) e in cc
refusal_not names no_task.TooMany e = let head : 82 ≡ 65 = ap (λ (l : List ℕ). get_or l 0 0) e in cc
refusal_not names no_task.Memory e = let head : 0 ≡ 65 = ap (λ (l : List ℕ). get_or l 0 0) e in cc

refused_not : (file : Known) (count : ℕ) (status : Status) (text : List ℕ) → GivesNoTask file count count status text → status ≢ ReadFault
    → first_line text ≡ codes "Accepted" → ⊥
refused_not file count status text (inl (inl f)) able e = able f.says.ended
refused_not file count status text (inl (inr f)) able e =
    let head : 84 ≡ 65 = ap (λ (l : List ℕ). get_or l 0 0) (sym (ap first_line f.says.printed) ∙ e) in cc
refused_not file count status text (inr f) able e =
    refusal_not (names_of f.bytes) f.refuses.error (sym (ap first_line f.refuses.says.printed) ∙ e)

-- a line `Accepted` is that of an accepted task
line_accepted : (file : Known) (effort : Effort) (count : ℕ) (line : Line) → IsLineOf file effort count line
    → line.1 ≡ codes "Accepted" → line.0 ≡ Accepted
line_accepted file effort count line h e = go h.answers
  where
    go : AnswersFile file effort count line.0 h.text → line.0 ≡ Accepted
    go (inl (none, able)) = absurd (refused_not file count line.0 h.text none able (sym h.first ∙ e))
    go (inr (t, gives, a)) = sym (check_told t effort line.0 h.text a) ∙ ap told_status (sym h.first ∙ e)

-- the file of a line `Accepted` spells a task that is free of conflicts
line_safe : (file : Known) (effort : Effort) (count : ℕ) (line : Line) → IsLineOf file effort count line
    → line.1 ≡ codes "Accepted" → WhereHeld file IsSafeMerge
line_safe file effort count line h e bytes told = go h.answers
  where
    go : AnswersFile file effort count line.0 h.text → IsSafeMerge bytes
    go (inl (none, able)) = absurd (refused_not file count line.0 h.text none able (sym h.first ∙ e))
    go (inr (t, gives, a)) = (
      t,
      subst (λ (b : List ℕ). Spells b t) (sym (gives.read.held bytes told)) gives.spells,
      (outcome_accepted t a.outcome line.0 h.text a.says (line_accepted file effort count line h e)).1,
    )

-- ---- told files

safe_all : (files : List ℕ → Known) (list : List ℕ) (effort : Effort) (before between now : ℕ) (names : List (List ℕ)) (status : Status)
    (text : List ℕ) → GivesList (files list) before between names → AnswersAll files names effort between now status text
    → AcceptsSafe files list text
safe_all files list effort before between now names status text gives all k below has bytes told =
    let R = λ (name : List ℕ) (line : Line). IsLineOf (files name) effort between line in
    let few = few_names gives.bytes names gives.is in
    let long = zip_length R names all.lines all.each in
    let found =
    accepted_name R names all.lines k (omega (arith, few, long)) below (lines_whole files effort between names all.lines all.each)
    all.each (subst (HasAccepted k) all.says.printed has) in (
      found.name,
      subst (λ (ns : List (List ℕ)). slice_get ns k ≡ Some found.name)
          (gives.is.named ∙ ap names_in (sym (gives.read.held bytes told))) found.at,
      line_safe (files found.name) effort between found.line found.is found.accepted,
    )

pub batch_safe : (files : List ℕ → Known) (list : List ℕ) (effort : Effort) (before now : ℕ) (status : Status) (text : List ℕ)
    → Batches files list effort before now status text → AcceptsSafe files list text
batch_safe files list effort before now status text (inl f) = λ k below has.
    absurd (no_list_not (files list) before now status text k f below has)
batch_safe files list effort before now status text (inr f) = go f.answers
  where
    go : FailsToReadOne files f.names f.between now status text ⊎ AnswersAll files f.names effort f.between now status text
        → AcceptsSafe files list text
    go (inl h) = λ k below has. absurd (fault_not text k h.fails.says.printed below has)
    go (inr h) = safe_all files list effort before f.between now f.names status text f.gives h

-- ---- bytes that were read

-- an answer without lines says nothing
pub none_read : (list : List ℕ) (before now : List Read) (file : Known) (b n : ℕ) (status : Status) (text : List ℕ)
    → GivesNoList file b n status text → AcceptsSafeRead list before now text
none_read list before now file b n status text f k below has = absurd (no_list_not file b n status text k f below has)

pub fault_read : (list : List ℕ) (before now : List Read) (files : List ℕ → Known) (names : List (List ℕ)) (b n : ℕ) (status : Status)
    (text : List ℕ) → FailsToReadOne files names b n status text → AcceptsSafeRead list before now text
fault_read list before now files names b n status text f k below has = absurd (fault_not text k f.fails.says.printed below has)

-- the lines of files that were read
pub are_lines : (files : List ℕ → Known) (effort : Effort) (count : ℕ) (before now : List Read) (names : List (List ℕ)) (lines : List Line)
    → AreLinesRead files count before now effort names lines
    → AllZip (λ (name : List ℕ) (line : Line). IsLineOf (files name) effort count line) names lines
are_lines files effort count before now [] [] all = tt
are_lines files effort count before now [] (l ∷ ls) all = absurd all
are_lines files effort count before now (name ∷ names) [] all = absurd all
are_lines files effort count before now (name ∷ names) (l ∷ ls) (first, all) =
    (first.is, are_lines files effort count before now names ls all)

-- what a text of such lines says of what was read
pub lines_read : (files : List ℕ → Known) (list : List ℕ) (effort : Effort) (count : ℕ) (before between now : List Read)
    (names : List (List ℕ)) (lines : List Line) (text : List ℕ) → ReadsList list before between names
    → AreLinesRead files count between now effort names lines → text ≡ numbered 1 (texts lines) → AcceptsSafeRead list before now text
lines_read files list effort count before between now names lines text reads all is k below has =
    let few = few_names reads.bytes names reads.is in
    let long = zip_length (IsLineRead files count between now effort) names lines all in
    let whole = lines_whole files effort count names lines (are_lines files effort count between now names lines all) in
    let found =
    accepted_name (IsLineRead files count between now effort) names lines k (omega (arith, few, long)) below whole all
    (subst (HasAccepted k) is has) in
    let accepted = line_accepted (files found.name) effort count found.line found.is.is found.accepted in (
      reads.bytes,
      between,
      reads.read,
      found.name,
      subst (λ (ns : List (List ℕ)). slice_get ns k ≡ Some found.name) reads.is.named found.at,
      found.is.read accepted,
    )
