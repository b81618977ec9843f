-- Each refusal stands at its place in its row: the checker computes it.
use Rattle.std.proofs.Common.{◌≡◌, ◌^◌, List, length, refl}
use Rattle.volume_model.specs.Xattrs.{Text}
use Rattle.volume_model.specs.Volumes.{Page}
use Rattle.volume_model.specs.RefusalExamples.{Refusals}

-- the law of `refusals_stand_in_order`
pub refusals : (a b d e : Page) (long : Text) (many : List Page) → length long ≡ 4063 → length many ≡ 2 ^ 25
    → Refusals a b d e long many
refusals a b d e long many is_long are_many = record {
  create = (refl, refl, rw are_many refl, refl, refl);
  write = (refl, refl, refl, refl, refl);
  read = (refl, refl, refl, refl);
  setx = (refl, refl, refl, refl, rw is_long refl, rw is_long refl);
  delx = (refl, refl, refl, refl, refl);
  getx = (refl, refl, refl);
  put = (refl, refl, refl, refl, rw is_long refl, rw is_long refl);
  sync = (refl, refl, refl);
  resize = (refl, refl, refl, refl, refl, rw are_many refl, refl, refl);
  snapshot = (refl, refl, refl, refl, rw are_many refl);
  clone = (refl, refl, refl, rw are_many refl, refl);
  inflate = (refl, refl, refl, refl);
  decouple = (refl, refl, refl, refl, refl, refl, refl);
  delete = (refl, refl, refl, refl, refl, refl, refl);
  rename = (refl, refl, refl, refl);
  readonly = (refl, refl, refl);
  info = (refl, refl);
}
