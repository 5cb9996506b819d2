use Rattle.std.proofs.Common.{◌≡◌, ℕ, ◌-◌, ◌<◌, ◌≤◌, List, length, length-drop, arith, refl, sym, ap, subst, ◌∙◌}
use Rattle.sm_syntax.specs.declared.token.Token.{Token}
use Rattle.sm_text.proofs.Cut.Lexing.{IsCut, IsCut-start, IsCut-end, IsCut-gap, IsCut-piece, IsCut-fault}
use Rattle.sm_text.proofs.lexing.lexer.tokens.Goals as goal
use Rattle.sm_text.proofs.lexing.lexer.tokens.Goals.{in-Gap, in-Piece+in_ok-push-in-Piece}

-- what is left is less
shorter : (left size len : ℕ) → left ≡ len - size → 0 < size → 1 ≤ len → left < len
shorter left size len e some more = omega arith

pub cut-init : goal.cut-init
cut-init c =
    let Cut : List Token → Type 0 = λ ts. IsCut c.args.bytes.now ts c.args.bytes.now in
    subst Cut (sym c.new-list.ensures.items) (IsCut-start c.args.bytes.now)

pub returns : goal.returns
returns c = IsCut-end c.args.bytes.now c.cut.list.items c.cut.rest.now c.cut.invariant c.in_default.len_below

pub returns-in-Fault : goal.returns-in-Fault
returns-in-Fault c = IsCut-fault c.args.bytes.now c.cut.list.items c.cut.rest.now _ c.in-Fault.kind c.cut.invariant
    c.in-len1-up.len_at_least refl (sym c.in-Fault.ensures)

pub cut-preserved : goal.cut-preserved
cut-preserved c =
    let bytes = c.args.bytes.now in
    let rest = c.cut.rest.now in
    elim c.match-front_of.branch [
      | in-Gap w ↦
          let next = IsCut-gap bytes c.cut.list.items rest _ w.in-Gap.size c.cut.invariant c.in-len1-up.len_at_least refl
          (sym w.in-Gap.ensures) in
          rw (w.list-is, c.after-rest.ensures, w.size-is) next.0
      | in-Piece+in_ok-push-in-Piece w ↦
          let next = IsCut-piece bytes c.cut.list.items rest _ w.in-Piece.kind w.in-Piece.size c.cut.invariant c.in-len1-up.len_at_least
          refl (sym w.in-Piece.ensures) in
          rw (w.list-is, c.after-rest.ensures, w.size-is, w.in_ok-push-in-Piece.ensures.items) next.0
    ]

pub cut-smaller : goal.cut-smaller
cut-smaller c =
    let bytes = c.args.bytes.now in
    let rest = c.cut.rest.now in
    let left = ap length c.after-rest.ensures ∙ length-drop c.match-front_of.size rest in
    elim c.match-front_of.branch [
      | in-Gap w ↦
          let next = IsCut-gap bytes c.cut.list.items rest _ w.in-Gap.size c.cut.invariant c.in-len1-up.len_at_least refl
          (sym w.in-Gap.ensures) in
          shorter _ _ _ left (rw w.size-is next.1) c.in-len1-up.len_at_least
      | in-Piece+in_ok-push-in-Piece w ↦
          let next = IsCut-piece bytes c.cut.list.items rest _ w.in-Piece.kind w.in-Piece.size c.cut.invariant c.in-len1-up.len_at_least
          refl (sym w.in-Piece.ensures) in
          shorter _ _ _ left (rw w.size-is next.1) c.in-len1-up.len_at_least
    ]

pub after-rest-requires : goal.after-rest-requires
after-rest-requires c =
    let bytes = c.args.bytes.now in
    let rest = c.cut.rest.now in
    elim c.match-front_of.branch [
      | in-Gap w ↦
          let next = IsCut-gap bytes c.cut.list.items rest _ w.in-Gap.size c.cut.invariant c.in-len1-up.len_at_least refl
          (sym w.in-Gap.ensures) in
          rw w.size-is next.2
      | in-Piece+in_ok-push-in-Piece w ↦
          let next = IsCut-piece bytes c.cut.list.items rest _ w.in-Piece.kind w.in-Piece.size c.cut.invariant c.in-len1-up.len_at_least
          refl (sym w.in-Piece.ensures) in
          rw w.size-is next.2
    ]
