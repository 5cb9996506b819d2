use Rattle.sm_words.proofs.Imports.{◌≡◌, ◌∙◌, ◌≤◌, List, [], ◌∷◌, Option, Some, map, length, get_or, sym, ap, subst, arith, string_bytes, Text, verb_of, IsRefused, IsUsage}
use Rattle.sm_words.specs.Words.{Verb}
use Rattle.sm_words.proofs.words.read_words.Goals as goal

-- words that the command of the first of them refuses are words that no command takes
refused : {S : Type 0} (text : S → Text) (words : List S) (word : S) (verb : Verb) → 1 ≤ length words → word ≡ get_or words 0 word
    → verb_of (text word) ≡ Some verb → IsRefused (Some verb) (map text words) → IsUsage (map text words)
refused text [] word verb some first named h = absurd (omega arith)
refused text (w ∷ rest) word verb some first named h =
    let own : verb_of (text w) ≡ Some verb = sym (ap (λ x. verb_of (text x)) first) ∙ named in
    subst (λ (o : Option Verb). IsRefused o (map text (w ∷ rest))) (sym own) h

pub returns-in-Some-clause-usage : goal.returns-in-Some-clause-usage
returns-in-Some-clause-usage c = λ u.
    refused string_bytes c.args.words.now c.word-item.result c.in-Some.verb c.in-len1-up.len_at_least c.word-item.is
    (sym (ap verb_of c.as_str.ensures.value) ∙ sym c.verb_of.ensures ∙ c.in-Some.is) (c.request_by.ensures.usage u)
