-- A reply that isn't that of a verb which is done changes nothing.
use Rattle.std.proofs.Common.{◌≡◌, ℕ, refl}
use Rattle.volume_model.specs.Volumes.{Volumes, Fixed}
use Rattle.volume_model.specs.Steps.{IsRefusal, change}
use Rattle.volume_model.specs.declared.command.Command.{Command}
use Rattle.volume_model.specs.declared.command.Command.TheVariants as c
use Rattle.volume_model.specs.declared.reply.Reply.{Reply}
use Rattle.volume_model.specs.declared.reply.Reply.TheVariants as r

module _ (f : Fixed) (v : Volumes) where
  -- the law of `refusal_changes_nothing`, verb by verb
  pub refused : (command : Command) (reply : Reply) → IsRefusal reply → (h : ℕ) → change f v command reply h ≡ v h
  refused command r.Ok wrong h = absurd wrong
  refused command (r.Made k) wrong h = absurd wrong
  refused command (r.Content page) wrong h = absurd wrong
  refused command (r.Value value) wrong h = absurd wrong
  refused command (r.Info info) wrong h = absurd wrong
  refused command (r.List list) wrong h = absurd wrong
  refused command (r.Df df) wrong h = absurd wrong
  refused (c.Create name slots thick uuid) reply is h = refl
  refused (c.Write volume page word) reply is h = refl
  refused (c.Read volume page) reply is h = refl
  refused c.Flush reply is h = refl
  refused (c.SetX volume key value) reply is h = refl
  refused (c.DelX volume key) reply is h = refl
  refused (c.GetX volume key) reply is h = refl
  refused (c.Put volume key value) reply is h = refl
  refused (c.Sync volume) reply is h = refl
  refused (c.Resize volume slots) reply is h = refl
  refused (c.Snapshot volume name) reply is h = refl
  refused (c.Clone volume name) reply is h = refl
  refused (c.Inflate volume) reply is h = refl
  refused (c.Decouple volume) reply is h = refl
  refused (c.Delete volume) reply is h = refl
  refused (c.Rename volume name) reply is h = refl
  refused (c.ReadOnly volume) reply is h = refl
  refused (c.Info volume) reply is h = refl
  refused c.List reply is h = refl
  refused c.Df reply is h = refl
