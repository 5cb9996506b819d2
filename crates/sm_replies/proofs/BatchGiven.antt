-- What the files of a list gave, and the lines that come of it.
use Rattle.sm_replies.proofs.Imports.{◌≡◌, ◌≢◌, inl, inr, ℕ, List, [], ◌∷◌, ◌++◌, map, All, Option, Some, None, Vec, Global, refl, sym, ap, subst, ◌∙◌, append_assoc, append-nil, ◌<◌, ◌+◌, zero, suc, length, take, get_or, arith, map-append, take_more, Contains, String, string_bytes, AllZip, All-push, Known, Read, ConflictFree, task_of, Spells, HasText, Task, GivesTask, GivesNoTask, Status, ReadFault, without_task, Line, IsLineOf, first_line, told, told_status, IsTheReply, RepliesTo, IsGiven, IsNone, AreGiven, GivesNext, IsLineRead, AreLinesRead, AnswersCheck, IsSafeMerge, GoesOn, ReadsAmong, Effort, Reply}
use Rattle.sm_text.specs.Tasks.{parts_of}
use Rattle.sm_answers.specs.Readings.{ReadsTask}
use Rattle.sm_replies.proofs.Answering.{outcome_accepted}
use Rattle.sm_replies.proofs.BatchTold.{check_told}

-- ---- reads

-- no read goes on from the reads before
pub stays : (reads : List Read) → GoesOn reads reads
stays reads = ([], sym (append-nil reads))

pub goes_further : (a b c : List Read) → GoesOn a b → GoesOn b c → GoesOn a c
goes_further a b c p q =
    (p.0 ++ q.0, q.1 ∙ ap (λ (rs : List Read). rs ++ q.0) p.1 ∙ append_assoc a p.0 q.0)

-- what was read meanwhile was read in a longer while, and more holds of it
pub among_by : (name : List ℕ) (before from to now : List Read) (P Q : List ℕ → Type 0) → GoesOn before from → GoesOn to now
    → ((bytes : List ℕ) → P bytes → Q bytes) → ReadsAmong name from to P → ReadsAmong name before now Q
among_by name before from to now P Q early late more (first, last, front, (bytes, whole, is), back) = (
  first,
  last,
  goes_further before from first early front,
  (bytes, whole, more bytes is),
  goes_further last to now back late,
)

-- ---- one file

-- a file that gave a task
pub given_by : (files : List ℕ → Known) (count now : ℕ) (before after : List Read) (name : List ℕ) (t : Task)
    → GivesTask (files name) count now (parts_of t) → ReadsTask name before after (parts_of t)
    → IsGiven files count before after name t
given_by files count now before after name t gives reads = record {
  gives = subst (λ (n : ℕ). GivesTask (files name) count n (parts_of t)) gives.read.quiet gives;
  read = (before, after, stays before, (reads.bytes, reads.read, reads.spells), stays after);
}

-- one that gave none
pub none_by : (files : List ℕ → Known) (count now : ℕ) (before after : List Read) (name : List ℕ) (r : Reply)
    → GivesNoTask (files name) count now r.status r.text.items → r.status ≢ ReadFault → IsNone files count before after name r
none_by files count now before after name r none able = record {
  none = subst (λ (n : ℕ). GivesNoTask (files name) count n r.status r.text.items)
      ((without_task (files name) count now r.status r.text.items none).to_command.quiet able) none;
  able = able;
}

-- ---- files one after the other

-- what a file gave, by what is told of it elsewhere, and in a longer while
given_wider : (files others : List ℕ → Known) (count c : ℕ) (before from to now : List Read) (name : List ℕ) (t : Task)
    → others name ≡ files name → c ≡ count → GoesOn before from → GoesOn to now → IsGiven others c from to name t
    → IsGiven files count before now name t
given_wider files others count c before from to now name t same still early late given = record {
  gives = subst (λ (k : Known). GivesTask k count count (parts_of t)) same
      (subst (λ (n : ℕ). GivesTask (others name) n n (parts_of t)) still given.gives);
  read = among_by name before from to now (λ (bytes : List ℕ). Spells bytes (parts_of t))
      (λ (bytes : List ℕ). Spells bytes (parts_of t)) early late (λ bytes is. is) given.read;
}

none_wider : (files others : List ℕ → Known) (count c : ℕ) (before from to now : List Read) (name : List ℕ) (r : Reply)
    → others name ≡ files name → c ≡ count → IsNone others c from to name r → IsNone files count before now name r
none_wider files others count c before from to now name r same still none = record {
  none = subst (λ (k : Known). GivesNoTask k count count r.status r.text.items) same
      (subst (λ (n : ℕ). GivesNoTask (others name) n n r.status r.text.items) still none.none);
  able = none.able;
}

-- those before, in a longer while
given_later : (files : List ℕ → Known) (count : ℕ) (before mid now : List Read) → GoesOn mid now → (names : List (List ℕ))
    (slots : List (Option Reply)) (ts : List Task) → AreGiven files count before mid names slots ts
    → AreGiven files count before now names slots ts
given_later files count before mid now late [] [] [] h = h
given_later files count before mid now late [] [] (t ∷ ts) h = h
given_later files count before mid now late [] (slot ∷ slots) ts h = h
given_later files count before mid now late (name ∷ names) [] ts h = h
given_later files count before mid now late (name ∷ names) (Some r ∷ slots) ts (h, more) = (
  none_wider files files count count before before mid now name r refl refl h,
  given_later files count before mid now late names slots ts more,
)
given_later files count before mid now late (name ∷ names) (None ∷ slots) [] h = h
given_later files count before mid now late (name ∷ names) (None ∷ slots) (t ∷ ts) (h, more) = (
  given_wider files files count count before before mid now name t refl refl (stays before) late h,
  given_later files count before mid now late names slots ts more,
)

-- one more that gave a task
given_task : (files : List ℕ → Known) (count : ℕ) (before now : List Read) (name : List ℕ) (t : Task)
    → IsGiven files count before now name t → (names : List (List ℕ)) (slots : List (Option Reply)) (ts : List Task)
    → AreGiven files count before now names slots ts
    → AreGiven files count before now (names ++ name ∷ []) (slots ++ None ∷ []) (ts ++ t ∷ [])
given_task files count before now name t given [] [] [] h = (given, tt)
given_task files count before now name t given [] [] (u ∷ ts) h = absurd h
given_task files count before now name t given [] (slot ∷ slots) ts h = absurd h
given_task files count before now name t given (n ∷ names) [] ts h = absurd h
given_task files count before now name t given (n ∷ names) (Some r ∷ slots) ts (h, more) =
    (h, given_task files count before now name t given names slots ts more)
given_task files count before now name t given (n ∷ names) (None ∷ slots) [] h = absurd h
given_task files count before now name t given (n ∷ names) (None ∷ slots) (u ∷ ts) (h, more) =
    (h, given_task files count before now name t given names slots ts more)

-- one more that gave none
given_none : (files : List ℕ → Known) (count : ℕ) (before now : List Read) (name : List ℕ) (r : Reply)
    → IsNone files count before now name r → (names : List (List ℕ)) (slots : List (Option Reply)) (ts : List Task)
    → AreGiven files count before now names slots ts
    → AreGiven files count before now (names ++ name ∷ []) (slots ++ Some r ∷ []) ts
given_none files count before now name r none [] [] [] h = (none, tt)
given_none files count before now name r none [] [] (u ∷ ts) h = absurd h
given_none files count before now name r none [] (slot ∷ slots) ts h = absurd h
given_none files count before now name r none (n ∷ names) [] ts h = absurd h
given_none files count before now name r none (n ∷ names) (Some q ∷ slots) ts (h, more) =
    (h, given_none files count before now name r none names slots ts more)
given_none files count before now name r none (n ∷ names) (None ∷ slots) [] h = absurd h
given_none files count before now name r none (n ∷ names) (None ∷ slots) (u ∷ ts) (h, more) =
    (h, given_none files count before now name r none names slots ts more)

-- where files gave this so far, and the next gave that, they gave both
pub given_next : (files others : List ℕ → Known) (count c : ℕ) (before mid now : List Read) (names : List (List ℕ))
    (slots : List (Option Reply)) (old new : List Task) (name : List ℕ) (slot : Option Reply)
    → others name ≡ files name → c ≡ count → GoesOn before mid → GoesOn mid now
    → AreGiven files count before mid names slots old × All (λ t. HasText (parts_of t)) old
    → GivesNext others c mid now name old new slot
    → AreGiven files count before now (names ++ name ∷ []) (slots ++ slot ∷ []) new × All (λ t. HasText (parts_of t)) new
given_next files others count c before mid now names slots old new name None same still early late (given, all) (t, is, next, text) =
    let next = given_wider files others count c before mid now now name t same still early (stays now) next in
    let front = given_later files count before mid now late names slots old given in (
      subst (AreGiven files count before now (names ++ name ∷ []) (slots ++ None ∷ [])) (sym is)
          (given_task files count before now name t next names slots old front),
      subst (All (λ t. HasText (parts_of t))) (sym is) (All-push (λ t. HasText (parts_of t)) old t all text),
    )
given_next files others count c before mid now names slots old new name (Some r) same still early late (given, all) (is, none) =
    let next = none_wider files others count c before mid now now name r same still none in
    let front = given_later files count before mid now late names slots old given in (
      subst (AreGiven files count before now (names ++ name ∷ []) (slots ++ Some r ∷ [])) (sym is)
          (given_none files count before now name r next names slots old front),
      subst (All (λ t. HasText (parts_of t))) (sym is) all,
    )

-- ---- lines

-- the line of a file that gave no task
line_of_none : (files : List ℕ → Known) (count : ℕ) (before now : List Read) (effort : Effort) (name : List ℕ) (r : Reply)
    → IsNone files count before now name r → IsLineRead files count before now effort name (r.status, first_line r.text.items)
line_of_none files count before now effort name r h = record {
  is = record { text = r.text.items; answers = inl (h.none, h.able); first = refl };
  read = λ e. absurd ((without_task (files name) count count r.status r.text.items h.none).not_accepted e);
}

-- that of one that gave a task, by the reply to it
line_of_task : (files : List ℕ → Known) (count : ℕ) (before now : List Read) (effort : Effort) (name : List ℕ) (t : Task)
    (reply : List ℕ) → IsGiven files count before now name t → RepliesTo effort (parts_of t) reply
    → IsLineRead files count before now effort name (told_status reply, reply)
line_of_task files count before now effort name t reply h (status, text, answers, first) =
    let same : told_status reply ≡ status = ap told_status first ∙ check_told (parts_of t) effort status text answers in record {
      is =
          record {
            text = text;
            answers = inr
                (parts_of t, h.gives, subst (λ (s : Status). AnswersCheck (parts_of t) effort s text) (sym same) answers);
            first = first;
          };
      read = λ e.
          let free : ConflictFree (task_of (parts_of t)) =
          (outcome_accepted (parts_of t) answers.outcome status text answers.says (sym same ∙ e)).1 in
          among_by name before before now now (λ (bytes : List ℕ). Spells bytes (parts_of t)) IsSafeMerge (stays before) (stays now)
          (λ bytes spells. (parts_of t, spells, free)) h.read;
    }

-- the lines of files, by what they gave and the replies to their tasks
pub lines_told : (files : List ℕ → Known) (count : ℕ) (before now : List Read) (effort : Effort) (names : List (List ℕ))
    (slots : List (Option Reply)) (ts : List Task) (replies : List (Vec ℕ Global)) → AreGiven files count before now names slots ts
    → AllZip (IsTheReply effort) (map parts_of ts) (map (λ (r : Vec ℕ Global). r.items) replies)
    → AreLinesRead files count before now effort names (told slots replies)
lines_told files count before now effort [] [] [] replies h all = tt
lines_told files count before now effort [] [] (t ∷ ts) replies h all = absurd h
lines_told files count before now effort [] (slot ∷ slots) ts replies h all = absurd h
lines_told files count before now effort (name ∷ names) [] ts replies h all = absurd h
lines_told files count before now effort (name ∷ names) (Some r ∷ slots) ts replies (h, more) all = (
  line_of_none files count before now effort name r h,
  lines_told files count before now effort names slots ts replies more all,
)
lines_told files count before now effort (name ∷ names) (None ∷ slots) [] replies h all = absurd h
lines_told files count before now effort (name ∷ names) (None ∷ slots) (t ∷ ts) [] h all = absurd all
lines_told files count before now effort (name ∷ names) (None ∷ slots) (t ∷ ts) (reply ∷ replies) (h, more) (first, all) = (
  line_of_task files count before now effort name t reply.items h first.0,
  lines_told files count before now effort names slots ts replies more all,
)

-- ---- groups

-- a line, by what is told of its file elsewhere, and in a longer while
line_wider : (files others : List ℕ → Known) (count c : ℕ) (before from to now : List Read) (effort : Effort) (name : List ℕ)
    (line : Line) → others name ≡ files name → c ≡ count → GoesOn before from → GoesOn to now
    → IsLineRead others c from to effort name line → IsLineRead files count before now effort name line
line_wider files others count c before from to now effort name line same still early late h = record {
  is = subst (λ (k : Known). IsLineOf k effort count line) same (subst (λ (n : ℕ). IsLineOf (others name) effort n line) still h.is);
  read = λ e. among_by name before from to now IsSafeMerge IsSafeMerge early late (λ bytes is. is) (h.read e);
}

pub lines_wider : (files others : List ℕ → Known) (count c : ℕ) (before from to now : List Read) (effort : Effort)
    → ((name : List ℕ) → others name ≡ files name) → c ≡ count → GoesOn before from → GoesOn to now → (names : List (List ℕ))
    (lines : List Line) → AreLinesRead others c from to effort names lines → AreLinesRead files count before now effort names lines
lines_wider files others count c before from to now effort same still early late [] [] h = h
lines_wider files others count c before from to now effort same still early late [] (l ∷ ls) h = h
lines_wider files others count c before from to now effort same still early late (name ∷ names) [] h = h
lines_wider files others count c before from to now effort same still early late (name ∷ names) (l ∷ ls) (h, more) = (
  line_wider files others count c before from to now effort name l (same name) still early late h,
  lines_wider files others count c before from to now effort same still early late names ls more,
)

zip_both : {A B : Type 0} (R : A → B → Type 0) (xs ys : List A) (us vs : List B) → AllZip R xs us → AllZip R ys vs
    → AllZip R (xs ++ ys) (us ++ vs)
zip_both R [] ys [] vs a b = b
zip_both R [] ys (u ∷ us) vs a b = absurd a
zip_both R (x ∷ xs) ys [] vs a b = absurd a
zip_both R (x ∷ xs) ys (u ∷ us) vs (a, more) b = (a, zip_both R xs ys us vs more b)

-- the lines so far, and those of the next group
pub lines_next : (files others : List ℕ → Known) (count c : ℕ) (before mid now : List Read) (effort : Effort)
    → ((name : List ℕ) → others name ≡ files name) → c ≡ count → GoesOn before mid → GoesOn mid now
    → (done group : List (List ℕ)) (lines more : List Line) → AreLinesRead files count before mid effort done lines
    → AreLinesRead others c mid now effort group more → AreLinesRead files count before now effort (done ++ group) (lines ++ more)
lines_next files others count c before mid now effort same still early late done group lines more a b =
    zip_both (IsLineRead files count before now effort) done group lines more
    (lines_wider files files count count before before mid now effort (λ name. refl) refl (stays before) late done lines a)
    (lines_wider files others count c before mid now now effort same still early (stays now) group more b)

-- ---- names in a slice

-- the names so far, and the next
name_taken : (names : List (String Global)) (i : ℕ) (name : String Global) → i < length names → name ≡ get_or names i name
    → map string_bytes (take (i + 1) names) ≡ map string_bytes (take i names) ++ string_bytes name ∷ []
name_taken names i name within at =
    ap (map string_bytes) (take_more names i name within ∙ ap (λ (z : String Global). take i names ++ z ∷ []) (sym at))
    ∙ map-append string_bytes (take i names) (name ∷ [])

-- the next is one of them
pub name_among : (names : List (String Global)) (i : ℕ) (name : String Global) → i < length names → name ≡ get_or names i name
    → Contains (map string_bytes names) (string_bytes name)
name_among [] i name within at = absurd (omega (arith, within))
name_among (n ∷ names) zero name within at = (0, omega arith, ap string_bytes (sym at))
name_among (n ∷ names) (suc i) name within at =
    let more = name_among names i name (omega (arith, within)) at in
    let low = more.1 in
    (suc more.0, omega (arith, low), more.2)

-- what the files so far gave, and the next
pub given_more : (files others : List ℕ → Known) (count c : ℕ) (before mid now : List Read) (names : List (String Global)) (i : ℕ)
    (name : String Global) (text : List ℕ) (slots more : List (Option Reply)) (slot : Option Reply) (old new : List Task)
    → i < length names → name ≡ get_or names i name → text ≡ string_bytes name → ((n : List ℕ) → others n ≡ files n) → c ≡ count
    → GoesOn before mid → GoesOn mid now
    → AreGiven files count before mid (map string_bytes (take i names)) slots old × All (λ t. HasText (parts_of t)) old
    → GivesNext others c mid now text old new slot → more ≡ slots ++ slot ∷ []
    → AreGiven files count before now (map string_bytes (take (i + 1) names)) more new × All (λ t. HasText (parts_of t)) new
given_more files others count c before mid now names i name text slots more slot old new within at is same still early late both gives put =
    let next =
    given_next files others count c before mid now (map string_bytes (take i names)) slots old new text slot (same text) still early late both
    gives in
    let all : map string_bytes (take i names) ++ text ∷ [] ≡ map string_bytes (take (i + 1) names) =
    ap (λ (z : List ℕ). map string_bytes (take i names) ++ z ∷ []) is ∙ sym (name_taken names i name within at) in
    subst (λ (ss : List (Option Reply)). AreGiven files count before now (map string_bytes (take (i + 1) names)) ss new
    × All (λ t. HasText (parts_of t)) new) (sym put)
    (subst (λ (ns : List (List ℕ)). AreGiven files count before now ns (slots ++ slot ∷ []) new × All (λ t. HasText (parts_of t)) new) all
    next)
