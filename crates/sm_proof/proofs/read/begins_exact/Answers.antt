use Rattle.sm_proof.proofs.Imports.{◌≡◌, ◌≢◌, true, false, rules, codes, behind}
use Rattle.sm_proof.proofs.ReadLemmas.{begins_is}
use Rattle.sm_proof.proofs.read.begins_exact.Goals as goal

pub returns : goal.returns
returns c =
    let word = c.split_word.result.0.now in
    let same : c.eq.result ≡ true → word ≡ codes "exact" = search rules in
    let other : c.eq.result ≡ false → word ≢ codes "exact" = search rules in
    begins_is c.args.bytes.now word (behind c.split_word.result.1.now) c.eq.result c.split_word.ensures.words same other
