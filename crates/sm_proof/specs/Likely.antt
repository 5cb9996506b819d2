-- The one kind that a word may name, by its length and its letters. No public clause cites it.
use Rattle.std.specs.Prelude.{ℕ, ◌==◌, if◌then◌else◌, Option, Some, None, List, length, slice_index}
use Rattle.sm_proof.specs.declared.kind.FormKind.{FormKind}
use Rattle.sm_proof.specs.declared.kind.FormKind.TheVariants as form
use Rattle.sm_proof.specs.declared.kind.TermKind.{TermKind}
use Rattle.sm_proof.specs.declared.kind.TermKind.TheVariants as term
use Rattle.sm_proof.specs.declared.word.Head.{Head}
use Rattle.sm_proof.specs.declared.word.Head.TheVariants as head

-- first words of one letter
unfoldable pub head_of_one : ℕ → Option Head
head_of_one first =
    if first == 116 then Some head.T else (if first == 112 then Some head.P else None)

-- of three, by the first
unfoldable pub head_of_three : ℕ → Option Head
head_of_three first =
    if first == 97 then Some head.Abs else
    (if first == 101 then Some head.End else
    (if first == 104 then Some head.Hit else
    (if first == 108 then Some head.Lin else (if first == 115 then Some head.Sym else None))))

-- of four, by the first two
unfoldable pub head_of_four : ℕ → ℕ → Option Head
head_of_four first second =
    if first == 98 then Some head.Both else
    (if first == 99 then Some head.Cong else
    (if first == 100 then Some head.Dead else
    (if first == 101 then Some head.Elim else
    (if first == 102 then Some head.Fork else
    (if first == 108 then Some head.Loop else
    (if first == 109 then Some head.Miss else
    (if first == 114 then Some head.Refl else
    Some (if second == 116 then head.Step else head.Same))))))))

-- of five that begin with a `c`, by the third
unfoldable pub head_of_c : ℕ → Head
head_of_c third =
    if third == 115 then head.Cases else (if third == 111 then head.Close else head.Clash)

-- of five, by the first and the third
unfoldable pub head_of_five : ℕ → ℕ → Option Head
head_of_five first third =
    if first == 97 then Some head.Apart else
    (if first == 98 then Some head.Block else
    (if first == 99 then Some (head_of_c third) else
    (if first == 101 then Some head.Exact else
    (if first == 111 then Some head.Order else
    (if first == 115 then Some head.Subst else
    Some (if third == 97 then head.Trans else head.Tight))))))

-- all first words
unfoldable pub likely_head : List ℕ → Option Head
likely_head word =
    let size = length word in
    if size == 1 then head_of_one (slice_index word 0) else
    (if size == 3 then head_of_three (slice_index word 0) else
    (if size == 4 then head_of_four (slice_index word 0) (slice_index word 1) else
    (if size == 5 then head_of_five (slice_index word 0) (slice_index word 2) else
    (if size == 6 then Some head.Either else None))))

-- second words of terms' lines of three letters
unfoldable pub term_of_three : ℕ → ℕ → Option TermKind
term_of_three first second =
    if first == 97 then Some (if second == 100 then term.Add else term.Arg) else
    (if first == 99 then Some term.Cur else
    (if first == 108 then Some term.Lit else
    (if first == 109 then Some term.Mul else
    (if first == 110 then Some term.Neg else Some term.Sub))))

-- of four
unfoldable pub term_of_four : ℕ → Option TermKind
term_of_four first =
    if first == 99 then Some term.Cell else
    (if first == 114 then Some term.Read else Some term.Slot)

-- all of them
unfoldable pub likely_term : List ℕ → Option TermKind
likely_term word =
    let size = length word in
    if size == 2 then Some term.Of else
    (if size == 3 then term_of_three (slice_index word 0) (slice_index word 1) else
    (if size == 4 then term_of_four (slice_index word 0) else
    (if size == 5 then Some (if slice_index word 0 == 115 then term.Start else term.Write) else
    None)))

-- second words of formulas' lines of two letters
unfoldable pub form_of_two : ℕ → ℕ → Option FormKind
form_of_two first second =
    if first == 101 then Some form.Eq else
    (if first == 108 then Some (if second == 101 then form.Le else form.Lt) else
    (if first == 110 then Some (if second == 101 then form.Ne else form.No) else Some form.Or))

-- all of them
unfoldable pub likely_form : List ℕ → Option FormKind
likely_form word =
    let size = length word in
    if size == 2 then form_of_two (slice_index word 0) (slice_index word 1) else
    (if size == 3 then Some (if slice_index word 0 == 121 then form.Yes else form.And) else None)
