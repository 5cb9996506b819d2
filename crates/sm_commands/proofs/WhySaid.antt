-- What stands behind an answer, by what it rests on.
use Rattle.sm_commands.proofs.Imports.{◌≡◌, ◌++◌, ℕ, List, inl, inr, false, true, sym, subst, meaning, Parts, Spells, Effort, IsReason, Status, Accepted, ShowsFrom, AnswersDeeper, IsShownBy, RestsOn, AnswersWhy, SaysWhy}
use Rattle.sm_eval.specs.declared.store.Store as code
use Rattle.sm_display.specs.Shown.{ShowsEnds}
use Rattle.sm_why.specs.Trials.{IsTrialsLine}
use Rattle.sm_why.specs.declared.stop.Stop.{Stop}
use Rattle.sm_replies.specs.declared.ground.Ground.TheVariants.{Input, Stopped}

-- behind an Accepted
pub proved_says : (t : Parts) (effort : Effort) (status : Status) (line more : List ℕ) → status ≡ Accepted
    → IsTrialsLine t effort.turns more → SaysWhy t effort status line more
proved_says t effort status line more e h = subst (λ (s : Status). SaysWhy t effort s line more) (sym e) h

-- behind a Conflict
pub shown_says : (t : Parts) (effort : Effort) (status : Status) (line more : List ℕ) (store : code.Store)
    → IsShownBy t status line (Input store) → ShowsEnds t (meaning store) effort.turns more → SaysWhy t effort status line more
shown_says t effort status line more store (e, sorts, (number, v, shows)) h =
    subst (λ (s : Status). SaysWhy t effort s line more) (sym e)
    (record {
      number = number;
      store = meaning store;
      verdict = v;
      shows = subst (λ (s : Status). ShowsFrom t number (meaning store) v s line) e shows;
      ends = h;
    })

-- behind an Unknown
pub stopped_says : (t : Parts) (effort : Effort) (status : Status) (line reason trials more bytes : List ℕ) (stop : Stop)
    → RestsOn t effort status line (Stopped stop) → Spells bytes t → IsReason bytes t stop reason → IsTrialsLine t effort.turns trials
    → more ≡ reason ++ trials → SaysWhy t effort status line more
stopped_says t effort status line reason trials more bytes stop (e, at) spells says counts printed =
    subst (λ (s : Status). SaysWhy t effort s line more) (sym e)
    (record {
      outcome = at.outcome;
      found = at.found;
      stop = stop;
      stopped = at.stopped;
      bytes = bytes;
      spells = spells;
      reason = reason;
      says = says;
      trials = trials;
      counts = counts;
      printed = printed;
    })

-- an answer with words behind it
pub explained : (t : Parts) (effort : Effort) (status shown : Status) (line more text : List ℕ) → effort.why ≡ true → shown ≡ status
    → AnswersDeeper t effort status line → SaysWhy t effort status line more → text ≡ line ++ more → AnswersWhy t effort shown text
explained t effort status shown line more text asked same answers says printed =
    inr (record {
      asked = asked;
      line = line;
      answers = subst (λ (s : Status). AnswersDeeper t effort s line) (sym same) answers;
      more = more;
      says = subst (λ (s : Status). SaysWhy t effort s line more) (sym same) says;
      printed = printed;
    })

-- an answer without them
pub plain_answer : (t : Parts) (effort : Effort) (status : Status) (text : List ℕ) → effort.why ≡ false → AnswersDeeper t effort status text
    → AnswersWhy t effort status text
plain_answer t effort status text plain answers = inl (plain, answers)
