-- Which statuses `batch` has, and what its answers say of the count of faults.
use Rattle.sm_replies.proofs.Imports.{◌⊎◌, inl, inr, ℕ, Bool, true, false, if◌then◌else◌, List, map, ◌∙◌, Known, GivesNoList, IsToCommand, WritesNothing, of_accepted, of_conflict, of_fault, of_refused, of_unknown, same_as, Line, has_status, status_of_all, FailsToReadOne, AnswersAll, Batches, Effort, Status, Accepted, Conflict, Unknown, Refused, ReadFault}

of_choice : (b : Bool) (s u : Status) → WritesNothing s → WritesNothing u → WritesNothing (if b then s else u)
of_choice true s u p q = p
of_choice false s u p q = q

of_lines : (ss : List Status) → WritesNothing (status_of_all ss)
of_lines ss =
    of_choice (has_status Conflict ss) Conflict _ of_conflict
    (of_choice (has_status Refused ss) Refused _ of_refused (of_choice (has_status Unknown ss) Unknown Accepted of_unknown of_accepted))

no_list_to_command : (file : Known) (before now : ℕ) (status : Status) (text : List ℕ) → GivesNoList file before now status text
    → IsToCommand before now status
no_list_to_command file before now status text (inl (inl f)) =
    record { of_command = same_as status ReadFault f.says.ended of_fault; quiet = λ h. absurd (h f.says.ended) }
no_list_to_command file before now status text (inl (inr f)) =
    record { of_command = same_as status Refused f.says.ended of_refused; quiet = λ h. f.quiet }
no_list_to_command file before now status text (inr f) =
    record { of_command = same_as status Refused f.refuses.says.ended of_refused; quiet = λ h. f.read.quiet }

pub batch_to_command : (files : List ℕ → Known) (list : List ℕ) (effort : Effort) (before now : ℕ) (status : Status) (text : List ℕ)
    → Batches files list effort before now status text → IsToCommand before now status
batch_to_command files list effort before now status text (inl f) = no_list_to_command (files list) before now status text f
batch_to_command files list effort before now status text (inr f) = go f.answers
  where
    go : FailsToReadOne files f.names f.between now status text ⊎ AnswersAll files f.names effort f.between now status text
        → IsToCommand before now status
    go (inl h) =
        record { of_command = same_as status ReadFault h.fails.says.ended of_fault; quiet = λ e. absurd (e h.fails.says.ended) }
    go (inr h) = record {
      of_command = same_as status (status_of_all (map (λ (l : Line). l.0) h.lines)) h.says.ended (of_lines (map (λ (l : Line). l.0) h.lines));
      quiet = λ e. h.quiet ∙ f.gives.read.quiet;
    }
