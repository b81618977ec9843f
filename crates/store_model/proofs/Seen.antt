-- A log as it is seen of a device, whether it tells or not: it grows with the log, and what has no page is seen as it
-- is.
use Rattle.std.proofs.Common.{◌≡◌, ◌∙◌, ap, refl, sym, subst, Bool, true, false, List, [], ◌∷◌, ◌++◌}
use Rattle.volume_model.specs.Volumes.{Fixed, Volumes, fill_page, zero_page}
use Rattle.volume_model.specs.Logs.{IsLegal, replay}
use Rattle.volume_model.specs.Steps.{Allowed, IsRefusal, change}
use Rattle.volume_model.specs.declared.command.Command.{Command}
use Rattle.volume_model.specs.declared.command.Command.TheVariants as c
use Rattle.volume_model.specs.declared.reply.Reply.{Reply}
use Rattle.volume_model.specs.declared.reply.Reply.TheVariants as r
use Rattle.volume_model.specs.declared.reply.Entry.{Entry}
use Rattle.volume_model.proofs.Replays.{replay_push, legal_push}
use Rattle.store_model.specs.Rows.{IsForMetadata}
use Rattle.store_model.specs.Recovers.{IsChangeDone}
use Rattle.store_model.specs.Turning.{IsInMemory}
use Rattle.store_model.specs.Seen.{seen, seen_command, seen_entry, seen_reply}

-- ---- on a device that tells all is seen as it is

command_told : (command : Command) → seen_command true command ≡ command
command_told (c.Write volume page word) = refl
command_told _ = refl

reply_told : (reply : Reply) → seen_reply true reply ≡ reply
reply_told (r.Content page) = refl
reply_told _ = refl

entry_told : (e : Entry) → seen_entry true e ≡ e
entry_told e =
    ap (λ k. record e { command = k; reply = seen_reply true e.reply }) (command_told e.command)
    ∙ ap (λ k. record e { reply = k }) (reply_told e.reply)

-- a device that tells shows the log itself
pub seen_told : (tells : Bool) → tells ≡ true → (log : List Entry) → seen tells log ≡ log
seen_told tells told log = rw told refl

-- ---- the log grows

pub seen_none : (tells : Bool) → seen tells [] ≡ []
seen_none true = refl
seen_none false = refl

-- one entry more is seen behind the others
pub seen_more : (tells : Bool) (log : List Entry) (e : Entry)
    → seen tells (log ++ e ∷ []) ≡ seen tells log ++ seen_entry tells e ∷ []
seen_more true log e = ap (λ x. log ++ x ∷ []) (sym (entry_told e))
seen_more false [] e = refl
seen_more false (x ∷ xs) e = ap (λ l. seen_entry false x ∷ l) (seen_more false xs e)

-- ---- what has no page

-- no refusal has a page
pub refusal_seen : (tells : Bool) (reply : Reply) → IsRefusal reply → seen_reply tells reply ≡ reply
refusal_seen tells (r.Content page) is = absurd is
refusal_seen tells _ is = refl

-- nor has the reply of a commit
pub change_seen : (tells : Bool) (reply : Reply) → IsChangeDone reply → seen_reply tells reply ≡ reply
change_seen tells (r.Content page) is = absurd is
change_seen tells _ is = refl

-- no command of the metadata thread's writes a page
pub metadata_seen : (tells : Bool) (command : Command) → IsForMetadata command → seen_command tells command ≡ command
metadata_seen tells (c.Write volume page word) is = absurd is
metadata_seen tells _ is = refl

pub in_memory_seen : (tells : Bool) (command : Command) → IsInMemory command → seen_command tells command ≡ command
in_memory_seen tells (c.Write volume page word) is = absurd is
in_memory_seen tells _ is = refl

-- a read alone is answered with a page
pub answer_seen : (tells : Bool) (f : Fixed) (v : Volumes) (command : Command) (reply : Reply) → IsInMemory command
    → Allowed f v command reply → seen_reply tells reply ≡ reply
answer_seen tells f v (c.SetX volume key value) (r.Content page) is allowed = absurd allowed.1
answer_seen tells f v (c.DelX volume key) (r.Content page) is allowed = absurd allowed.1
answer_seen tells f v (c.GetX volume key) (r.Content page) is allowed = absurd allowed.1
answer_seen tells f v (c.Info volume) (r.Content page) is allowed = absurd allowed.1
answer_seen tells f v c.List (r.Content page) is allowed = absurd allowed.1
answer_seen tells f v c.Df (r.Content page) is allowed = absurd allowed.1
answer_seen tells f v _ (r.Content page) is allowed = absurd is
answer_seen tells f v _ _ is allowed = refl

-- ---- what is allowed is allowed as it is seen

written_so : (tells : Bool) (f : Fixed) (v : Volumes) (volume : _) (page : _) (word : _) (reply : Reply)
    → Allowed f v (c.Write volume page word) reply → Allowed f v (seen_command tells (c.Write volume page word)) reply
written_so tells f v volume page word r.Ok allowed = allowed
written_so tells f v volume page word (r.Made h) allowed = allowed
written_so tells f v volume page word (r.Content content) allowed = allowed
written_so tells f v volume page word (r.Value value) allowed = allowed
written_so tells f v volume page word (r.Info info) allowed = allowed
written_so tells f v volume page word (r.List infos) allowed = allowed
written_so tells f v volume page word (r.Df df) allowed = allowed
written_so tells f v volume page word _ allowed = allowed

-- whatever page a write writes
pub allowed_seen : (tells : Bool) (f : Fixed) (v : Volumes) (command : Command) (reply : Reply)
    → Allowed f v command reply → Allowed f v (seen_command tells command) reply
allowed_seen tells f v (c.Write volume page word) reply allowed =
    written_so tells f v volume page word reply allowed
allowed_seen tells f v _ reply allowed = allowed

module _ (tells : Bool) (f : Fixed) (first : Volumes) (log : List Entry) (e : Entry) where
  -- a log that is seen as legal is so with one entry more
  pub seen_legal : IsLegal f first (seen tells log) → Allowed f (replay f first (seen tells log)) e.command
      (seen_reply tells e.reply)
      → IsLegal f first (seen tells (log ++ e ∷ []))
  seen_legal legal allowed =
      subst (IsLegal f first) (sym (seen_more tells log e))
      (legal_push f first (seen tells log) (seen_entry tells e) legal
      (allowed_seen tells f (replay f first (seen tells log)) e.command (seen_reply tells e.reply) allowed))

  -- and replays one step more
  pub seen_replay : replay f first (seen tells (log ++ e ∷ []))
      ≡ change f (replay f first (seen tells log)) (seen_command tells e.command) (seen_reply tells e.reply)
  seen_replay = ap (replay f first) (seen_more tells log e) ∙ replay_push f first (seen tells log) (seen_entry tells e)

-- the page of zeros is the one filled with the word 0
pub zeros_filled : fill_page 0 ≡ zero_page
unfolding fill_page zero_page
zeros_filled = refl
