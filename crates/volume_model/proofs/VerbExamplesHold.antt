-- Each verb does in the small store what its row says: the checker computes it.
use Rattle.std.proofs.Common.{Some, ap, sym, refl, lit<}
use Rattle.volume_model.specs.Volumes.{Page}
use Rattle.volume_model.specs.Examples.{Verbs}

-- the law of `verbs_change_what_they_say`
pub verbs : (a b d e : Page) → Verbs a b d e
verbs a b d e = record {
  create_thin = record { allowed = (refl, (lit< tt, refl)); here = refl; there = refl };
  create_thick = λ uuid. record { allowed = (refl, (lit< tt, refl)); here = refl; there = refl };
  write_fill = record { allowed = (refl, tt); here = refl; there = refl };
  write_full = λ page. record { allowed = (refl, tt); here = refl; there = refl };
  read = λ page is. record { allowed = (refl, ap Some (sym is)); here = refl; there = refl };
  flush = record { allowed = (refl, tt); here = refl; there = refl };
  setx = record { allowed = (refl, tt); here = refl; there = refl };
  delx = record { allowed = (refl, tt); here = refl; there = refl };
  getx = record { allowed = (refl, refl); here = refl; there = refl };
  put_again = record { allowed = (refl, tt); here = refl; there = refl };
  put_new = record { allowed = (refl, tt); here = refl; there = refl };
  sync = record { allowed = (refl, tt); here = refl; there = refl };
  grow = record { allowed = (refl, tt); here = refl; there = refl };
  cut = record { allowed = (refl, tt); here = refl; there = refl };
  snapshot = record { allowed = (refl, (lit< tt, refl)); here = refl; there = refl };
  snapshot_of = record { allowed = (refl, (lit< tt, refl)); here = refl; there = refl };
  snapshot_of_thick = record { allowed = (refl, (lit< tt, refl)); here = refl; there = refl };
  clone = record { allowed = (refl, (lit< tt, refl)); here = refl; there = refl };
  inflate = record { allowed = (refl, tt); here = refl; there = refl };
  decouple = record { allowed = (refl, tt); here = refl; there = refl };
  delete = record { allowed = (refl, tt); here = refl; there = refl };
  delete_for_clone = record { allowed = (refl, tt); here = refl; there = refl };
  rename = record { allowed = (refl, tt); here = refl; there = refl };
  readonly = record { allowed = (refl, tt); here = refl; there = refl };
  info = record { allowed = (refl, refl); here = refl; there = refl };
  list = record { allowed = (refl, refl); here = refl; there = refl };
  df = λ any. record { allowed = (refl, tt); here = refl; there = refl };
}
