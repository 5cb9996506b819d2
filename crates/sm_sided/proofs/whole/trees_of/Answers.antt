-- Each output has its three.
use Rattle.sm_sided.proofs.Imports.{◌≡◌, List, ◌++◌, map, length, ap, sym, ◌∙◌, add-one, arith, Certificate, certificate_in, certificates_of, whole_certificates}
use Rattle.sm_syntax.specs.declared.tree.Name.{Name}
use Rattle.sm_sided.proofs.WholeKept.{one_output_more}
use Rattle.sm_sided.proofs.whole.trees_of.Goals as goal

pub loop-output-init : goal.loop-output-init
loop-output-init c = λ ts. ap (map (certificate_in ts)) c.new-list.ensures.items

pub loop-output-preserved : goal.loop-output-preserved
loop-output-preserved c = λ ts.
    c.in_ok-add_trees.ensures ts
    ∙ ap (λ (cs : List Certificate). cs ++ certificates_of c.args.change c.args.n) (c.loop-output.invariant ts)
    ∙ one_output_more c.args.change c.args.n c.loop-output._output-index
    ∙ ap (whole_certificates c.args.change c.args.n) (sym (add-one c.loop-output._output-index))

pub returns : goal.returns
returns c = λ ts.
    let same : length c.deref-output-items.result.now ≡ length c.args.outputs.now.list.items =
    ap (length {A = Name}) c.deref-output-items.ensures.value in
    let all : c.loop-output._output-index ≡ length c.args.outputs.now.list.items = omega arith in
    c.loop-output.invariant ts ∙ ap (whole_certificates c.args.change c.args.n) all
