use Rattle.sm_text.proofs.Imports.{Result, Ok, Err, refl, subst, MatchResult, IsOk, TokenKind, IsText}
use Rattle.std.proofs.lemmas.Str.{IsUtf8-from_ascii}
use Rattle.sm_text.proofs.resolving.resolve.symbol_of.Goals as goal

-- what can't fail is Ok
can_not_fail : {T E : Type 0} (r : Result T E) (P : T → Type 0) (Q : E → Type 0) → MatchResult r P Q → ((e : E) → Q e → ⊥) → IsOk r
can_not_fail (Ok x) P Q h never = refl
can_not_fail (Err e) P Q h never = absurd (never e h)

pub unwrap-word-requires : goal.unwrap-word-requires
unwrap-word-requires c =
    let Text : TokenKind → Type 0 = λ k. IsText k c.args.text.now in
    let text = IsUtf8-from_ascii c.args.text.now (subst Text c.in-Word.is c.requires) in
    can_not_fail c.from_utf8.result _ _ c.from_utf8.ensures.cases (λ e q. q.0 text)
