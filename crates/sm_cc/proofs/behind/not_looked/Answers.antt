-- No key is met yet behind the base's.
use Rattle.sm_cc.proofs.Imports.{◌≡◌, ◌∙◌, true, None, rules, Scanned, Key, met_at}
use Rattle.sm_cc.proofs.LookedLemmas.{looked_none}
use Rattle.sm_cc.proofs.behind.not_looked.Goals as goal

pub returns-clause-looked : goal.returns-clause-looked
returns-clause-looked c = λ more.
    let alike = c.new.result in
    let headed = c.new-2.result in
    let s : Scanned = record { roots = c.in_ok-roots.roots; alike = alike; headed = headed; are_new = true } in
    let no_alike : (v : Key) → met_at alike v.items ≡ None = λ (v : Key). search rules in
    let no_headed : (v : Key) → met_at headed v.items ≡ None = λ (v : Key). search rules in
    looked_none c.args.ground.now more s c.requires.exact c.requires.keyed (c.in_ok-roots.ensures ∙ c.deref.ensures.value) no_alike
    no_headed
