-- The logs replay as they are said to: the checker computes it.
use Rattle.std.proofs.Common.{◌≡◌, ◌==◌, false, rules, Some, ap, sym, refl, lit<, zero, suc}
use Rattle.volume_model.specs.Volumes.{Page}
use Rattle.volume_model.specs.ExampleLogs.{ThinVolume, SnapshotWithClone, NamesMove, Surviving, TwoChannels}

-- the law `thin` of `example_logs_replay`
pub thin_volume : ThinVolume
thin_volume zeros sevens are_zeros are_sevens = (
  (refl, (lit< tt, refl)),
  (
    (refl, ap Some (sym are_zeros)),
    ((refl, tt), ((refl, ap Some (sym are_zeros)), ((refl, ap Some (sym are_sevens)), (refl, tt)))),
  ),
)

-- the law `snapshot` of `example_logs_replay`
pub snapshot_with_clone : SnapshotWithClone
snapshot_with_clone fives sixes are_fives are_sixes = (
  (refl, (lit< tt, refl)),
  (
    (refl, tt),
    (
      (refl, (lit< tt, refl)),
      (
        (refl, (lit< tt, refl)),
        (
          (refl, tt),
          (
            (refl, ap Some (sym are_sixes)),
            (
              (refl, ap Some (sym are_fives)),
              (refl, ((refl, tt), ((refl, tt), ((refl, ap Some (sym are_fives)), (refl, tt))))),
            ),
          ),
        ),
      ),
    ),
  ),
)

-- the law `names` of `example_logs_replay`
pub names_move : NamesMove
names_move = (
  (refl, (lit< tt, refl)),
  (
    (refl, tt),
    (refl, (refl, ((refl, (lit< tt, refl)), ((refl, tt), ((refl, tt), (refl, tt)))))),
  ),
)

-- the law `surviving` of `example_logs_replay`
pub surviving : (a b d e : Page) → Surviving a b d e
surviving a b d e = record { live = refl; survives = refl; settled = refl; unsettled = refl; elsewhere = refl }

-- the law `channels` of `example_logs_replay`
pub two_channels : TwoChannels
two_channels zero = (refl, refl, tt)
two_channels (suc zero) = tt
two_channels (suc (suc zero)) = tt
two_channels (suc (suc (suc zero))) = (refl, refl, (refl, refl, tt))
two_channels (suc (suc (suc (suc channel)))) =
    let three : (3 == suc (suc (suc (suc channel)))) ≡ false = search rules in
    let none : (0 == suc (suc (suc (suc channel)))) ≡ false = search rules in
    rw (three, none) tt
