-- By the kind of the line.
use Rattle.sm_write.proofs.Imports.{◌≡◌, ℕ, List, [], ◌∷◌, ◌++◌, refl, sym, subst, OnOk, head_word, NodeLine, line_text}
use Rattle.sm_proof.specs.declared.line.NodeLine.TheVariants as v
use Rattle.sm_proof.specs.declared.word.Head.TheVariants as head
use Rattle.sm_proof.specs.Lines.{Node}
use Rattle.sm_write.proofs.BytesLemmas.{one_word_line}
use Rattle.sm_write.proofs.text.put_node.Goals as goal

pub returns-in-Step : goal.returns-in-Step
returns-in-Step c =
    let old = c.args.text.now.items in
    let new = c.put_head.new.text.items in
    subst (λ (l : NodeLine). OnOk c.put_head.result (new ≡ old ++ line_text (Node l))) (sym c.in-Step.is)
    (subst (λ (b : List ℕ). OnOk c.put_head.result (new ≡ old ++ b))
    (one_word_line (Node (v.Step c.in-Step.copy)) (head_word head.Step) (c.in-Step.copy ∷ []) refl) c.put_head.ensures)

pub returns-in-Abs : goal.returns-in-Abs
returns-in-Abs c =
    let old = c.args.text.now.items in
    let new = c.put_head-in-Abs.new.text.items in
    subst (λ (l : NodeLine). OnOk c.put_head-in-Abs.result (new ≡ old ++ line_text (Node l))) (sym c.in-Abs.is)
    (subst (λ (b : List ℕ). OnOk c.put_head-in-Abs.result (new ≡ old ++ b))
    (one_word_line (Node (v.Abs c.in-Abs.copy c.in-Abs.count)) (head_word head.Abs)
    (c.in-Abs.copy ∷ c.in-Abs.count ∷ []) refl) c.put_head-in-Abs.ensures)

pub returns-in-Fork : goal.returns-in-Fork
returns-in-Fork c =
    let old = c.args.text.now.items in
    let new = c.put_head-in-Fork.new.text.items in
    subst (λ (l : NodeLine). OnOk c.put_head-in-Fork.result (new ≡ old ++ line_text (Node l))) (sym c.in-Fork.is)
    (subst (λ (b : List ℕ). OnOk c.put_head-in-Fork.result (new ≡ old ++ b))
    (one_word_line (Node (v.Fork c.in-Fork.copy)) (head_word head.Fork) (c.in-Fork.copy ∷ []) refl) c.put_head-in-Fork.ensures)

pub returns-in-Loop : goal.returns-in-Loop
returns-in-Loop c =
    let old = c.args.text.now.items in
    let new = c.put_head-in-Loop.new.text.items in
    subst (λ (l : NodeLine). OnOk c.put_head-in-Loop.result (new ≡ old ++ line_text (Node l))) (sym c.in-Loop.is)
    (subst (λ (b : List ℕ). OnOk c.put_head-in-Loop.result (new ≡ old ++ b))
    (one_word_line (Node (v.Loop c.in-Loop.set c.in-Loop.keep)) (head_word head.Loop)
    (c.in-Loop.set ∷ c.in-Loop.keep ∷ []) refl) c.put_head-in-Loop.ensures)

pub returns-in-Block : goal.returns-in-Block
returns-in-Block c =
    let old = c.args.text.now.items in
    let new = c.put_head-in-Block.new.text.items in
    subst (λ (l : NodeLine). OnOk c.put_head-in-Block.result (new ≡ old ++ line_text (Node l))) (sym c.in-Block.is)
    (subst (λ (b : List ℕ). OnOk c.put_head-in-Block.result (new ≡ old ++ b))
    (one_word_line (Node (v.Block c.in-Block.k0 c.in-Block.k1 c.in-Block.k2 c.in-Block.k3 c.in-Block.keep)) (head_word head.Block)
    (c.in-Block.k0 ∷ c.in-Block.k1 ∷ c.in-Block.k2 ∷ c.in-Block.k3 ∷ c.in-Block.keep ∷ []) refl) c.put_head-in-Block.ensures)

pub returns-in-Dead : goal.returns-in-Dead
returns-in-Dead c =
    let old = c.args.text.now.items in
    let new = c.put_head-in-Dead.new.text.items in
    subst (λ (l : NodeLine). OnOk c.put_head-in-Dead.result (new ≡ old ++ line_text (Node l))) (sym c.in-Dead.is)
    (subst (λ (b : List ℕ). OnOk c.put_head-in-Dead.result (new ≡ old ++ b))
    (one_word_line (Node v.Dead) (head_word head.Dead) ([]) refl) c.put_head-in-Dead.ensures)

pub returns-in-End : goal.returns-in-End
returns-in-End c =
    let old = c.args.text.now.items in
    let new = c.put_head-in-End.new.text.items in
    subst (λ (l : NodeLine). OnOk c.put_head-in-End.result (new ≡ old ++ line_text (Node l))) (sym c.in-End.is)
    (subst (λ (b : List ℕ). OnOk c.put_head-in-End.result (new ≡ old ++ b))
    (one_word_line (Node v.End) (head_word head.End) ([]) refl) c.put_head-in-End.ensures)
