-- Numbers among the words: one to ten digits, with a value in a range; flags; and names of copies.
-- Public clauses cite it.
use Rattle.std.specs.Prelude.{◌≡◌, ◌⊎◌, ◌&&◌, ℕ, Bool, false, nat_le, length, Option, Some, None, codes, if◌then◌else◌, option_and_then, option_map}
use Rattle.std.specs.Option.{option_map_or}
use Rattle.std.specs.Str.{all_ascii_digits, bytes_eq}
use Rattle.std.specs.Str.Parse.{digits_value}
use Rattle.clap.specs.Walk.{Text}
use Rattle.sm_syntax.specs.declared.copies.CopyName.{CopyName}
use Rattle.sm_syntax.specs.declared.copies.CopyName.TheVariants.{O, A, B, M}
use Rattle.sm_words.specs.declared.effort.Effort.{Effort}

-- whether a text is one to ten digits
abbrev pub is_number : Text → Bool
is_number text = all_ascii_digits text && (nat_le 1 (length text) && nat_le (length text) 10)

-- the number that a text spells, where its value lies between the least and the greatest
abbrev pub spelled_number : ℕ → ℕ → Text → Option ℕ
spelled_number least most text =
    let n = digits_value 10 text in
    if is_number text && (nat_le least n && nat_le n most) then Some n else None

-- the number of an option: where the option isn't there, its default
abbrev pub number_or : ℕ → ℕ → ℕ → Option Text → Option ℕ
number_or default least most None = Some default
number_or default least most (Some text) = spelled_number least most text

-- how many steps a walk may take, by the option's text
abbrev pub steps_by : Option Text → Option ℕ
steps_by = number_or 100000 1 10000000

-- how many turns a loop may take
abbrev pub turns_by : Option Text → Option ℕ
turns_by = number_or 10000 1 1000000

-- how many workers run jobs
abbrev pub workers_by : Option Text → Option ℕ
workers_by = number_or 1 1 64

-- after how many seconds a search stops: where the option isn't there, after none
abbrev pub seconds_by : Option Text → Option (Option ℕ)
seconds_by None = Some None
seconds_by (Some text) = option_map (λ (n : ℕ). Some n) (spelled_number 1 1000000 text)

-- of how many tasks the accepting answers are kept
abbrev pub cache_by : Option Text → Option ℕ
cache_by = number_or 64 1 1000

-- one of the numbers isn't one, or isn't in its range
abbrev pub HasBadNumber : Option Text → Option Text → Type 0
HasBadNumber turns workers = (turns_by turns ≡ None) ⊎ (workers_by workers ≡ None)

-- the seed of a task that is made up, by the word's text
abbrev pub seed_by : Option Text → Option ℕ
seed_by = option_and_then (spelled_number 0 2147483647)

-- its size
abbrev pub size_by : Option Text → Option ℕ
size_by = option_and_then (spelled_number 1 190)

-- whether a flag is given: `clap` has the text "true" for it then, and else "false"
abbrev pub is_given : Option Text → Bool
is_given text = option_map_or (λ (t : Text). bytes_eq t (codes "true")) text false

-- how much a search may do, by the text of each option
abbrev pub effort_by : (Text → Option Text) → Option Effort
effort_by given =
    option_and_then (λ (s : ℕ).
    option_and_then (λ (t : ℕ).
    option_and_then (λ (w : ℕ).
    option_map (λ (limit : Option ℕ). record {
      steps = s;
      turns = t;
      workers = w;
      seconds = limit;
      exact = is_given (given (codes "exact"));
      deeper = is_given (given (codes "deeper"));
      why = is_given (given (codes "why"));
    }) (seconds_by (given (codes "seconds"))))
    (workers_by (given (codes "workers"))))
    (turns_by (given (codes "turns")))) (steps_by (given (codes "steps")))

-- the copy that a word names
abbrev pub copy_of_word : Text → Option CopyName
copy_of_word word =
    if bytes_eq word (codes "base") then Some O else
    (if bytes_eq word (codes "a") then Some A else
    (if bytes_eq word (codes "b") then Some B else
    (if bytes_eq word (codes "candidate") then Some M else None)))

-- the copy that an option names: where the option isn't there, no copy
abbrev pub copy_by : Option Text → Option (Option CopyName)
copy_by None = Some None
copy_by (Some word) = option_map (λ (c : CopyName). Some c) (copy_of_word word)
