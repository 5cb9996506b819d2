-- The line stands behind those of its terms, and it is told whether it is a line `exact`.
use Rattle.sm_write.proofs.Imports.{◌≡◌, Bool, ◌||◌, refl, sym, ap, ◌∙◌, value_of}
use Rattle.sm_write.proofs.WrittenLines.{written_exact}
use Rattle.sm_write.proofs.lines.write_line.Goals as goal
use Rattle.sm_write.proofs.lines.write_line.Goals.{then-is_exact, else-is_exact}

pub returns : goal.returns
returns c s seen p set each =
    let named = c.in_ok-name_line.ensures s seen p set each in
    let mid = value_of c.name_line.new.w in
    let told : c.if-is_exact.w ≡ (c.is_exact.result || mid.exact) =
    elim c.if-is_exact.branch [
      | then-is_exact w ↦ w.w-is ∙ (w.if-is_exact.true ∙ sym (ap (λ (b : Bool). b || mid.exact) w.if-is_exact.true))
      | else-is_exact w ↦ w.w-is ∙ sym (ap (λ (b : Bool). b || mid.exact) w.if-is_exact.false)
    ] in
    record {
      mid = mid;
      extends = named.0;
      named = named.1;
      text = c.in_ok-put_cert.ensures;
      exact = told ∙ ap (λ (b : Bool). b || mid.exact) (c.is_exact.ensures ∙ sym (written_exact mid.names c.args.line.now));
      names = refl;
      terms = refl;
      forms = refl;
      nodes = refl;
    }
