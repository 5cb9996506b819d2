-- Parts that give a column, with one more.
use Rattle.std.proofs.Common.{◌≢◌, ℕ, ◌<◌, pos, List, [], ◌∷◌, ◌++◌}
use Rattle.std.proofs.lemmas.List.Elements.{All-push}
use Rattle.sm_affine.specs.declared.equality.Part.{Part}
use Rattle.sm_affine.specs.Equalities.{GivesColumn}

-- a part before the column may stand behind them
pub gives_more :
    (column : ℕ) (parts : List Part) (q : Part) → q.column < column → q.coefficient ≢ pos 0 →
    GivesColumn column parts → GivesColumn column (parts ++ q ∷ [])
gives_more column [] q before other gives = absurd gives
gives_more column (p ∷ ps) q before other gives =
    (gives.0, gives.1, All-push (λ (r : Part). (r.column < column) × (r.coefficient ≢ pos 0)) ps q gives.2 (before, other))
