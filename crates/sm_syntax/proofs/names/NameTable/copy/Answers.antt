use Rattle.sm_syntax.proofs.Imports.{sym, ap, subst, ◌∙◌, List, map, take, String, Global, IsDistinct, with_text}
use Rattle.std.proofs.Common.{string_bytes}
use Rattle.std.specs.String.{string_eq}
use Rattle.sm_syntax.proofs.Numbering.{with_text-next}
use Rattle.sm_syntax.proofs.names.NameTable.copy.Goals as goal

pub loop-text-preserved : goal.loop-text-preserved
loop-text-preserved c =
    let items = c.as_slice-text-items.result.now in
    let IsApart : List (String Global) → Type 0 = λ ks. IsDistinct string_eq ks in
    let apart : IsApart items = subst IsApart (sym c.as_slice-text-items.ensures.values) c.as_slice-text-items.ensures.unique in
    c.in_ok-add.ensures.ok
    ∙ ap (λ t. with_text t c.as_str.result.now) c.loop-text.invariant
    ∙ ap (with_text (map string_bytes (take c.loop-text.text-index items))) (c.as_str.ensures.value ∙ ap string_bytes c.text-item.is)
    ∙ with_text-next string_bytes items apart c.loop-text.text-index c.text-item.result c.loop-text-test.true
