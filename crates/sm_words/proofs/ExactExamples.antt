-- The flag `exact`, worked on words that are written out.
use Rattle.sm_words.proofs.Imports.{◌≡◌, [], ◌∷◌, Bool, true, false, Option, Some, None, codes, refl, Asked, check, gen, asked, Effort}
use Rattle.clap.proofs.OnLiterals.{clap_on_literals}
use Rattle.sm_words.specs.Command.{check_command, gen_command, verify_command}
use Rattle.sm_words.specs.Words.{argument_text, word_faults}

-- the effort without an option, but for the flag
abbrev usual : Bool → Effort
usual exact = record { steps = 100000; turns = 10000; workers = 1; seconds = None; exact = exact; deeper = false; why = false }

abbrev task_and_proof : Bool → Option Asked
task_and_proof exact = Some (check (codes "t") (codes "p") (usual exact))

not_given : asked (codes "check" ∷ codes "t" ∷ codes "p" ∷ []) ≡ task_and_proof false
unfolding word_faults argument_text check_command clap_on_literals
not_given = refl

given_last : asked (codes "check" ∷ codes "t" ∷ codes "p" ∷ codes "--exact" ∷ []) ≡ task_and_proof true
unfolding word_faults argument_text check_command clap_on_literals
given_last = refl

given_first : asked (codes "check" ∷ codes "--exact" ∷ codes "t" ∷ codes "p" ∷ []) ≡ task_and_proof true
unfolding word_faults argument_text check_command clap_on_literals
given_first = refl

given_to_gen : asked (codes "gen" ∷ codes "2" ∷ codes "--exact" ∷ codes "3" ∷ []) ≡ Some (gen 2 3 (usual true))
unfolding word_faults argument_text gen_command clap_on_literals
given_to_gen = refl

-- it stands once, has no value, and is no option of another command
given_twice : asked (codes "check" ∷ codes "t" ∷ codes "p" ∷ codes "--exact" ∷ codes "--exact" ∷ []) ≡ None
unfolding word_faults argument_text check_command clap_on_literals
given_twice = refl

with_a_value : asked (codes "check" ∷ codes "t" ∷ codes "p" ∷ codes "--exact=true" ∷ []) ≡ None
unfolding word_faults argument_text check_command clap_on_literals
with_a_value = refl

with_a_word_behind : asked (codes "check" ∷ codes "t" ∷ codes "p" ∷ codes "--exact" ∷ codes "true" ∷ []) ≡ None
unfolding word_faults argument_text check_command clap_on_literals
with_a_word_behind = refl

given_to_verify : asked (codes "verify" ∷ codes "t" ∷ codes "p" ∷ codes "--exact" ∷ []) ≡ None
unfolding word_faults argument_text verify_command clap_on_literals
given_to_verify = refl
