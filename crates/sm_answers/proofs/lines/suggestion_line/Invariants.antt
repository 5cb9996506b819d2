use Rattle.std.proofs.Common.{◌≡◌, ◌++◌, codes, drop, map}
use Rattle.sm_syntax.specs.trees.Copies.{copy_named, letter_of}
use Rattle.sm_words.specs.Lines.{spaced}
use Rattle.sm_answers.proofs.lines.suggestion_line.Given as goal

-- the letters so far and those that are left are all of them
abbrev pub invariant-loop-copy : goal.invariant-loop-copy
invariant-loop-copy l =
    l.text.items ++ spaced (map letter_of (map copy_named (drop l.copy-index l.copies)))
    ≡ codes "Suggest" ++ spaced (map letter_of (map copy_named l.copies))
