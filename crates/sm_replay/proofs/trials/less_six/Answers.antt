-- Each number below 19.
use Rattle.sm_replay.proofs.Imports.{◌≡◌, ◌<◌, ℕ, zero, suc, pos, to_z, of_z, refl, arith, w128, ◌-ℤ◌}
use Rattle.sm_replay.proofs.trials.less_six.Goals as goal

less_six : (n : ℕ) → n < 19 → to_z w128 (of_z w128 (to_z w128 n -ℤ pos 6)) ≡ pos n -ℤ pos 6
less_six zero lt = refl
less_six (suc zero) lt = refl
less_six (suc (suc zero)) lt = refl
less_six (suc (suc (suc zero))) lt = refl
less_six (suc (suc (suc (suc zero)))) lt = refl
less_six (suc (suc (suc (suc (suc zero))))) lt = refl
less_six (suc (suc (suc (suc (suc (suc zero)))))) lt = refl
less_six (suc (suc (suc (suc (suc (suc (suc zero))))))) lt = refl
less_six (suc (suc (suc (suc (suc (suc (suc (suc zero)))))))) lt = refl
less_six (suc (suc (suc (suc (suc (suc (suc (suc (suc zero))))))))) lt = refl
less_six (suc (suc (suc (suc (suc (suc (suc (suc (suc (suc zero)))))))))) lt = refl
less_six (suc (suc (suc (suc (suc (suc (suc (suc (suc (suc (suc zero))))))))))) lt = refl
less_six (suc (suc (suc (suc (suc (suc (suc (suc (suc (suc (suc (suc zero)))))))))))) lt = refl
less_six (suc (suc (suc (suc (suc (suc (suc (suc (suc (suc (suc (suc (suc zero))))))))))))) lt = refl
less_six (suc (suc (suc (suc (suc (suc (suc (suc (suc (suc (suc (suc (suc (suc zero)))))))))))))) lt = refl
less_six (suc (suc (suc (suc (suc (suc (suc (suc (suc (suc (suc (suc (suc (suc (suc zero))))))))))))))) lt = refl
less_six (suc (suc (suc (suc (suc (suc (suc (suc (suc (suc (suc (suc (suc (suc (suc (suc zero)))))))))))))))) lt = refl
less_six (suc (suc (suc (suc (suc (suc (suc (suc (suc (suc (suc (suc (suc (suc (suc (suc (suc zero))))))))))))))))) lt = refl
less_six (suc (suc (suc (suc (suc (suc (suc (suc (suc (suc (suc (suc (suc (suc (suc (suc (suc (suc zero)))))))))))))))))) lt = refl
less_six (suc (suc (suc (suc (suc (suc (suc (suc (suc (suc (suc (suc (suc (suc (suc (suc (suc (suc (suc n))))))))))))))))))) lt =
    absurd (omega arith)

pub returns : goal.returns
returns c = less_six c.args.n c.requires
