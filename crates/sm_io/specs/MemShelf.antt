-- What a shelf in memory holds, and which of its calls are to fail. It tells of each file.
use Rattle.std.specs.Prelude.{◌≡◌, ℕ, List, Contains, option_map}
use Rattle.std.specs.BTreeMap.{get_by_text}
use Rattle.sm_io.specs.Files.{Known, known_of}
use Rattle.sm_io.specs.Reads.{Read}
use Rattle.sm_io.specs.declared.mem_shelf.MemShelf.{MemShelf}

-- what the shelf tells of the file with a name
abbrev pub file_in : MemShelf → List ℕ → Known
file_in shelf name = known_of (option_map (λ bytes. bytes.items) (get_by_text shelf.files name))

-- the numbers of the calls that are to fail
abbrev pub failing_calls : MemShelf → List ℕ
failing_calls shelf = shelf.calls.failing.items

-- how many calls of the trait were made, which is the number of the next one
abbrev pub calls_of : MemShelf → ℕ
calls_of shelf = shelf.calls.made

-- how many calls of `read_at` failed by their number
abbrev pub read_faults_of : MemShelf → ℕ
read_faults_of shelf = shelf.read_faults

-- how many calls of `start` and `append` failed by their number
abbrev pub write_faults_of : MemShelf → ℕ
write_faults_of shelf = shelf.write_faults

-- what the calls of `read_at` gave
abbrev pub given_by : MemShelf → List Read
given_by shelf = shelf.log.reads

-- the next call is one that is to fail
abbrev pub IsFailing : MemShelf → Type 0
IsFailing shelf = Contains (failing_calls shelf) (calls_of shelf)

-- the files are the same
abbrev pub SameFiles : MemShelf → MemShelf → Type 0
SameFiles old new = (name : List ℕ) → file_in new name ≡ file_in old name

-- all counts are the same
pub record SameCounts (old new : MemShelf) : Type 0 where
  pub calls : calls_of new ≡ calls_of old
  pub read_faults : read_faults_of new ≡ read_faults_of old
  pub write_faults : write_faults_of new ≡ write_faults_of old
